use Rattle.std.proofs.Common.{arith}
use Rattle.ct_soak.proofs.Ranges.{made_in_range}
use Rattle.ct_soak.proofs.soak.soak_line.Goals as goal

pub returns-clause-in_range : goal.returns-clause-in_range
returns-clause-in_range c = made_in_range c.args.word (record { sent = c.args.sent; running = c.args.running.now }) c.kind_in.result c.line_of_kind.result (omega (arith, c.ranges.word.fits)) c.line_of_kind.ensures
