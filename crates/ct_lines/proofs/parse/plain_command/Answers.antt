use Rattle.std.proofs.Common.{arith, map}
use Rattle.std.proofs.lemmas.List.{length-map}
use Rattle.ct_lines.proofs.Forms.{many_words}
use Rattle.ct_lines.proofs.parse.plain_command.Goals as goal

pub returns-in-len4-up : goal.returns-in-len4-up
returns-in-len4-up c = many_words c.args.word.now (map (λ w. w.now) c.args.args.now) (simp length-map (omega arith))
