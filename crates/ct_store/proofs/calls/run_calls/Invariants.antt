use Rattle.std.proofs.Common.{◌≡◌, ◌++◌, take, drop}
use Rattle.ct_store.specs.Calls.{replies, after_all}
use Rattle.ct_store.proofs.calls.run_calls.Given as goal

abbrev pub invariant-loop-call : goal.invariant-loop-call
invariant-loop-call g l =
    let pairs = g.K.Keyed.pairs in
    (l.replies.items ++ replies (drop l.call-index l.calls) (pairs l.store) ≡ replies l.calls (pairs l.initial.store))
    × (pairs l.store ≡ after_all (take l.call-index l.calls) (pairs l.initial.store))
