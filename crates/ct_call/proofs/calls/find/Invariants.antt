use Rattle.std.proofs.Common.{◌≡◌, drop}
use Rattle.ct_call.specs.Rules.{rule_of}
use Rattle.ct_call.specs.Named.{named}
use Rattle.ct_call.proofs.calls.find.Given as goal

abbrev pub invariant-loop-entry : goal.invariant-loop-entry
invariant-loop-entry g l = rule_of l.id (named (drop l.entry-index l.calls)) ≡ rule_of l.id (named l.calls)
