use Rattle.std.proofs.Common.{◌≤◌, ◌-◌, length, arith}
use Rattle.std.specs.Fmt.{decimal}
use Rattle.std.proofs.lemmas.Fmt.{length-decimal-le}
use Rattle.std.proofs.lemmas.List.{length-set}
use Rattle.ct_text.proofs.line.place_number.Goals as goal

pub write_digits-requires : goal.write_digits-requires
write_digits-requires c = let short : length (decimal c.args.number) ≤ 20 = length-decimal-le 20 c.args.number (omega arith) (omega arith) (omega arith) in (omega (arith, short), omega (arith, length-set c.args.buffer.now (c.args.end - 1) 32))

pub returns-clause-short : goal.returns-clause-short
returns-clause-short c = length-decimal-le 20 c.args.number (omega arith) (omega arith) (omega arith)
