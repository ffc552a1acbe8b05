use Rattle.ct_spelling.proofs.Numbers.{number_found, number_missing}
use Rattle.ct_spelling.proofs.number.parse_decimal.Goals as goal

pub returns-clause-found : goal.returns-clause-found
returns-clause-found c = number_found c.args.word.now c.read_number.result c.read_number.ensures

pub returns-clause-none : goal.returns-clause-none
returns-clause-none c = number_missing c.args.word.now c.read_number.result c.read_number.ensures
