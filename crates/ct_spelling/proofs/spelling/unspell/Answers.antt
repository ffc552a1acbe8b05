use Rattle.ct_spelling.proofs.Spellings.{found_bytes, bad_word}
use Rattle.ct_spelling.proofs.spelling.unspell.Goals as goal

pub returns-clause-found : goal.returns-clause-found
returns-clause-found c = found_bytes c.args.word.now c.unspell_word.result _ c.unspell_word.ensures

pub returns-clause-bad : goal.returns-clause-bad
returns-clause-bad c = bad_word c.args.word.now c.unspell_word.result _ c.unspell_word.ensures
