use Rattle.std.proofs.Common.{arith, map}
use Rattle.std.proofs.lemmas.List.{length-map}
use Rattle.ct_lcp2_lines.proofs.Given.{one_word, many_words}
use Rattle.ct_lcp2_lines.proofs.line.form.Goals as goal

pub returns-in-len1 : goal.returns-in-len1
returns-in-len1 c = one_word (map (λ w. w.now) c.args.words.now) (simp length-map (omega arith))

pub returns-in-len4-up : goal.returns-in-len4-up
returns-in-len4-up c = many_words (map (λ w. w.now) c.args.words.now) (simp length-map (omega arith))
