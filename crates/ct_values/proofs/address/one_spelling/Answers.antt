use Rattle.ct_values.proofs.Addresses.{one_address}
use Rattle.ct_values.proofs.Reading.{read_back, read_only}
use Rattle.ct_values.proofs.address.one_spelling.Goals as goal

pub returns : goal.returns
returns c = record { back = read_back; only = read_only; apart = one_address }
