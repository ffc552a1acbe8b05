use Rattle.std.proofs.Common.{arith, map}
use Rattle.std.proofs.lemmas.List.{length-map}
use Rattle.ct_lines.proofs.Forms.{one_part, many_parts}
use Rattle.ct_lines.proofs.words.pair_of.Goals as goal

pub returns-in-len1 : goal.returns-in-len1
returns-in-len1 c = one_part (map (λ w. w.now) c.args.parts.now) (simp length-map (omega arith))

pub returns-in-len3-up : goal.returns-in-len3-up
returns-in-len3-up c = many_parts (map (λ w. w.now) c.args.parts.now) (simp length-map (omega arith))
