-- What a step of one record makes of its draft, and that a whole step leaves the record in form.
use Rattle.std.proofs.Common.{◌≡◌, ℕ, false, None, Some, Option, List, ◌++◌, Result, Ok, Err, OnOk, refl, subst, sym}
use Rattle.ct_call.specs.Rules.{Rules}
use Rattle.ct_law_rules.proofs.Events.{form_kept, form_under}
use Rattle.ct_law_rules.specs.Form.{IsInForm, MayCome, HasCounters}
use Rattle.ct_rules.specs.Moves.{move, moved, begins, unless_spent}
use Rattle.ct_rules.specs.Parts.{Moving}
use Rattle.ct_rules.specs.declared.event.Act.{Act}
use Rattle.ct_rules.specs.declared.event.MoveEvent.{MoveEvent}
use Rattle.ct_rules.specs.declared.event.Place.{Place}
use Rattle.ct_rules.specs.declared.state.RecState.{RecState}
use Rattle.ct_record.specs.Machine.{Machine, Steps, KeepsForm, after}
use Rattle.ct_record.specs.declared.machine.MoveFault.{MoveFault}

-- a draft that is not spent, and that is put in place of the record, is a whole step
pub settles : (d v : Moving) (state : RecState) (old : Machine) (done acts : List Act) → v ≡ d → v.spent ≡ false → state ≡ v.state → done ≡ v.acts → acts ≡ old.acts ++ done → Steps (Ok tt) (unless_spent d) old (record { state = state; next = v.next; acts = acts })
settles d v state old done acts is quiet stays same more =
    subst (λ (q : Moving). Steps (Ok tt) (unless_spent q) old (record { state = state; next = v.next; acts = acts })) is (v, rw quiet refl, cc)

-- a step of what the event makes of the record is a step of the record
pub steps_made : (r : Result (Unit {0}) MoveFault) (at : Place) (rules : Rules) (e : MoveEvent) (old new : Machine) (d : Moving) → d ≡ move at rules e (begins old.state old.next at.floor) → Steps r (unless_spent d) old new → Steps r (moved at rules e old.state old.next) old new
steps_made r at rules e old new d is s = subst (λ (q : Moving). Steps r (unless_spent q) old new) is s

-- whatever a step makes of a state in form is in form
pub in_form_after : (r : Result (Unit {0}) MoveFault) (at : Place) (rules : Rules) (e : MoveEvent) (s : RecState) (next : ℕ) → IsInForm at next s → MayCome s e → OnOk r (KeepsForm at rules e s next)
in_form_after (Ok u) at rules e s next h may = λ o is. form_kept at rules e s next o h may is
in_form_after (Err f) at rules e s next h may = tt

-- at its own place too, whose floor is not greater
in_form_at : (at : Place) (rules : Rules) (e : MoveEvent) (s : RecState) (next : ℕ) (o : Moving) → IsInForm at next s → MayCome s e → moved at rules e s next ≡ Some o → IsInForm at o.next o.state
in_form_at at rules e s next o h may is =
    let a = form_kept at rules e s next o h may is in
    form_under
    (record at { floor = o.floor })
    o.next
    at.floor
    o.next
    o.state
    (record { from_one = a.form.counters.from_one; next_limit = a.form.counters.next_limit; floor_limit = h.counters.floor_limit })
    a.form

-- so a whole step leaves its record in form
pub in_form_here : (r : Result (Unit {0}) MoveFault) (at : Place) (rules : Rules) (e : MoveEvent) (old new : Machine) → IsInForm at old.next old.state → MayCome old.state e → Steps r (moved at rules e old.state old.next) old new → OnOk r (IsInForm at new.next new.state)
in_form_here (Ok u) at rules e old new h may s =
    subst (λ (m : Machine). IsInForm at m.next m.state) (sym s.2) (in_form_at at rules e old.state old.next s.0 h may s.1)
in_form_here (Err f) at rules e old new h may s = tt
