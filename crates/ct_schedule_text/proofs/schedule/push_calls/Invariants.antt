use Rattle.std.proofs.Common.{◌≡◌, ◌++◌, drop}
use Rattle.std.specs.List.{flat_map}
use Rattle.ct_text.specs.Line.{pending_text}
use Rattle.ct_schedule_text.proofs.schedule.push_calls.Given as goal

-- the text before, and the calls that are left
abbrev pub invariant-loop-call : goal.invariant-loop-call
invariant-loop-call l = l.text.items ++ flat_map (pending_text l.config) (drop l.call-index l.calls) ≡ l.fn.text.items ++ flat_map (pending_text l.config) l.calls
