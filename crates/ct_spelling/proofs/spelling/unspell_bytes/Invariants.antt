use Rattle.std.proofs.Common.{◌≡◌, length}
use Rattle.ct_spelling.specs.Spelling.{unspelled_bytes}
use Rattle.ct_spelling.proofs.Spellings.{behind}
use Rattle.ct_spelling.proofs.spelling.unspell_bytes.Given as goal

abbrev pub invariant-word : goal.invariant-word
invariant-word l = behind l.bytes.items (unspelled_bytes l.left) ≡ unspelled_bytes l.word

abbrev pub decreases-word : goal.decreases-word
decreases-word l = length l.left
