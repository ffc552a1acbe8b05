use Rattle.ct_spelling.proofs.Spellings.{unspelled-spelling, spelling-unspelled, spelling_word_bytes, spelling_some}
use Rattle.ct_spelling.proofs.spelling.one_spelling.Goals as goal

pub returns-clause-back : goal.returns-clause-back
returns-clause-back c = unspelled-spelling

pub returns-clause-only : goal.returns-clause-only
returns-clause-only c = spelling-unspelled

pub returns-clause-word_bytes : goal.returns-clause-word_bytes
returns-clause-word_bytes c = spelling_word_bytes

pub returns-clause-some : goal.returns-clause-some
returns-clause-some c = spelling_some
