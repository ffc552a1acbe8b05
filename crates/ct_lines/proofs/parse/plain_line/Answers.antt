use Rattle.std.proofs.Common.{arith, map}
use Rattle.std.proofs.lemmas.List.{length-map}
use Rattle.ct_lines.proofs.Forms.{many_args}
use Rattle.ct_lines.proofs.parse.plain_line.Goals as goal

pub returns-in-len5-up : goal.returns-in-len5-up
returns-in-len5-up c = many_args c.args.word.now c.args.first.now (map (λ w. w.now) c.args.args.now) (simp length-map (omega arith))
