use Rattle.std.proofs.Common.{◌≡◌, map}
use Rattle.ct_picture.specs.Claims.{AllInside}
use Rattle.ct_picture.specs.Drawing.{picture_of}
use Rattle.ct_picture.proofs.Inside.{all_inside, all_titled}
use Rattle.ct_picture.proofs.Lists.{if_ok_by}
use Rattle.ct_picture.proofs.drawing.draw.Goals as goal

pub returns-clause-titles : goal.returns-clause-titles
returns-clause-titles c = if_ok_by c.drawn.result (picture_of c.args.rows.now) (λ p. map (λ g. g.title) p.rows ≡ map (λ r. r.line) c.args.rows.now) c.drawn.ensures (all_titled c.args.rows.now)

pub returns-clause-inside : goal.returns-clause-inside
returns-clause-inside c = if_ok_by c.drawn.result (picture_of c.args.rows.now) AllInside c.drawn.ensures (all_inside c.args.rows.now)
