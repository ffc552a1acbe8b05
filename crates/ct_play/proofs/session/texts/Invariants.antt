use Rattle.std.proofs.Common.{◌≡◌, map, take}
use Rattle.ct_text.specs.Line.{pending_text}
use Rattle.ct_play.proofs.session.texts.Given as goal

-- the texts of the calls so far
abbrev pub invariant-loop-call : goal.invariant-loop-call
invariant-loop-call l = l.texts.items ≡ map (pending_text l.config) (take l.call-index l.calls)
