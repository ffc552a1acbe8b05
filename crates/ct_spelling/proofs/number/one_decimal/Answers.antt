use Rattle.std.proofs.lemmas.Fmt.{decimal_nonempty}
use Rattle.ct_spelling.proofs.Numbers.{number_only, number_back, decimal_digits}
use Rattle.ct_spelling.proofs.number.one_decimal.Goals as goal

pub returns-clause-only : goal.returns-clause-only
returns-clause-only c = number_only

pub returns-clause-back : goal.returns-clause-back
returns-clause-back c = number_back

pub returns-clause-digits : goal.returns-clause-digits
returns-clause-digits c = decimal_digits

pub returns-clause-some : goal.returns-clause-some
returns-clause-some c = decimal_nonempty
