use Rattle.std.proofs.Common.{◌≡◌, drop, map}
use Rattle.ct_lines.specs.Words.{each_of, number_word}
use Rattle.ct_lines.proofs.Each.{behind}
use Rattle.ct_lines.proofs.words.number_words.Given as goal

abbrev pub invariant-word : goal.invariant-word
invariant-word l = behind l.list (each_of number_word (map (λ w. w.now) (drop l.word-index l.words))) ≡ each_of number_word (map (λ w. w.now) l.words)
