use Rattle.std.proofs.Common.{◌≡◌, drop, map}
use Rattle.ct_lines.specs.Words.{each_of, pair_word}
use Rattle.ct_lines.proofs.Each.{behind}
use Rattle.ct_lines.proofs.words.pair_words.Given as goal

abbrev pub invariant-word : goal.invariant-word
invariant-word l = behind l.list (each_of pair_word (map (λ w. w.now) (drop l.word-index l.words))) ≡ each_of pair_word (map (λ w. w.now) l.words)
