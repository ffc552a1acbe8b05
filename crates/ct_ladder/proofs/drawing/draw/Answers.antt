use Rattle.std.proofs.Common.{◌≡◌, map}
use Rattle.std.specs.List.{flat_map}
use Rattle.ct_picture.specs.Claims.{AllInside}
use Rattle.ct_picture.proofs.Lists.{if_ok_by}
use Rattle.ct_ladder.specs.Drawing.{ladder_of, told_by}
use Rattle.ct_ladder.proofs.Inside.{all_inside, all_titled}
use Rattle.ct_ladder.proofs.drawing.draw.Goals as goal

pub returns-clause-titles : goal.returns-clause-titles
returns-clause-titles c = if_ok_by c.drawn.result (ladder_of c.args.least c.args.rungs.now) (λ p. map (λ g. g.title) p.rows ≡ flat_map told_by c.args.rungs.now) c.drawn.ensures (all_titled c.args.least c.args.rungs.now)

pub returns-clause-inside : goal.returns-clause-inside
returns-clause-inside c = if_ok_by c.drawn.result (ladder_of c.args.least c.args.rungs.now) AllInside c.drawn.ensures (all_inside c.args.least c.args.rungs.now)
