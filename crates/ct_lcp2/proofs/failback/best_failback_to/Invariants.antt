use Rattle.std.proofs.Common.{◌≡◌, drop}
use Rattle.std.specs.Prelude.{map}
use Rattle.ct_lcp2.specs.Best.{best_from}
use Rattle.ct_lcp2.specs.Leavers.{address_at}
use Rattle.ct_lcp2.specs.Placing.{choice_before, failbacks_of, held}
use Rattle.ct_lcp2.proofs.failback.best_failback_to.Given as goal

abbrev pub invariant-loop-x : goal.invariant-loop-x
invariant-loop-x l =
    best_from choice_before l.best (failbacks_of l.target.node (held l.source.node l.at) (held l.target.node l.at) (map (λ x. address_at l.at x.place) (drop l.x-index l.leavers)))
    ≡ best_from choice_before l.initial.best (failbacks_of l.target.node (held l.source.node l.at) (held l.target.node l.at) (held l.source.node l.at))
