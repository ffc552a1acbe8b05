use Rattle.std.proofs.Common.{IsTrue, ◌↔◌, List, subst}
use Rattle.ct_journal_order.proofs.Bridging.{stand_not, stands}
use Rattle.ct_journal_order.proofs.order.put_all.Goals as goal
use Rattle.ct_journal_order.specs.Demands.{Ends, HasAll}
use Rattle.ct_journal_order.specs.declared.demand.Demand.{Demand}

pub returns-then-has_all : goal.returns-then-has_all
returns-then-has_all c =
    let all = c.in_ok-demands.demands.items in
    let g = c.in_ok-standing.standing in
    let ns = c.all.new.order.items in
    let ends : Ends all g ns = subst (λ (ds : List (List Demand)). Ends ds g ns) c.as_slice.ensures.value c.in_ok-standing.ensures in
    let has : IsTrue c.has_all.result ↔ HasAll all g = subst (λ (ds : List (List Demand)). IsTrue c.has_all.result ↔ HasAll ds g) c.as_slice-2.ensures.value c.has_all.ensures in
    stands c.args.journals.now all g ns c.in_ok-demands.ensures ends (has.0 c.if-has_all.true)

pub returns : goal.returns
returns c =
    let all = c.in_ok-demands.demands.items in
    let g = c.in_ok-standing.standing in
    let ns = c.all.new.order.items in
    let ends : Ends all g ns = subst (λ (ds : List (List Demand)). Ends ds g ns) c.as_slice.ensures.value c.in_ok-standing.ensures in
    let has : IsTrue c.has_all.result ↔ HasAll all g = subst (λ (ds : List (List Demand)). IsTrue c.has_all.result ↔ HasAll ds g) c.as_slice-2.ensures.value c.has_all.ensures in
    stand_not c.args.journals.now all g ns c.in_ok-demands.ensures ends (λ h. let t = has.1 h in let f = c.if-has_all.false in absurd (cc))
