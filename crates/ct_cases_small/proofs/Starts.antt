-- A record of which nothing is kept is in form.
use Rattle.std.proofs.Common.{◌≡◌, ℕ, ◌<◌, ◌^◌, sym, subst, arith}
use Rattle.ct_law_rules.proofs.Events.{in_form_at_start}
use Rattle.ct_law_rules.specs.Form.{IsInForm}
use Rattle.ct_rules.specs.State.{nothing_kept}
use Rattle.ct_rules.specs.declared.event.Place.{Place}
use Rattle.ct_rules.specs.declared.state.RecState.{RecState}

pub starts : (at : Place) (s : RecState) → at.floor < 2 ^ 62 → s ≡ nothing_kept → IsInForm at 1 s
starts at s h e = subst (λ (x : RecState). IsInForm at 1 x) (sym e) (in_form_at_start at 1 (record { from_one = omega arith; next_limit = omega arith; floor_limit = h }))
