-- The runs that are refused: runs in which addresses are placed.
use Rattle.std.proofs.Common.{◌≡◌, ◌≢◌, ℕ, true, false, List, [], ◌∷◌, refl, sym, ◌∙◌, ap}
use Rattle.std.specs.Prelude.{Some}
use Rattle.ct_values.specs.declared.address.Address.TheVariants.{V4}
use Rattle.ct_frame.specs.declared.frame.Assigned.{Assigned}
use Rattle.ct_rules_cluster.specs.Labels.{Ticket, Pushed, Takeover, Taken}
use Rattle.ct_rules_node.specs.Node.{is_among}
use Rattle.ct_register.specs.Words
use Rattle.ct_register.specs.Placing
use Rattle.ct_register.specs.Placing.{Run}
use Rattle.ct_register_worked.specs.Runs.{config, both, first_at_zero, one_each, both_at_one, installs, takes}
use Rattle.ct_register_worked.specs.Refused.{TookUnassigned, TookWhileHeld, WrongTake, TakeOfNoRun, PushedAnew, PushedUnborn}
use Rattle.ct_register.proofs.Small.{none_not_some}
use Rattle.ct_register_worked.proofs.Refusals.{from_opening}
use Rattle.ct_register_worked.proofs.Forgotten.{through_round}
use Rattle.ct_register_worked.proofs.Placements.{placed_once}

pub took_unassigned : TookUnassigned
unfolding Words.at
took_unassigned s = through_round (Ticket 2 0 both ∷ []) 0 both 1 1 (Pushed 2 first_at_zero ∷ installs 0 ∷ []) (takes 0 (V4 1) ∷ []) s refl refl (λ counts kept b d h. none_not_some h.1.2.2)

zero_not_one : ◌≢◌ {A = ℕ} 0 1
zero_not_one = λ e. cc

true_not_false : true ≡ false → ⊥
true_not_false e = absurd (cc)

pub took_while_held : TookWhileHeld
unfolding Words.at Words.at_address
took_while_held s = through_round (Ticket 2 0 both ∷ []) 0 both 1 1 (Pushed 2 first_at_zero ∷ installs 0 ∷ installs 1 ∷ Takeover 0 both ∷ Taken 0 2 1 one_each ∷ takes 0 (V4 1) ∷ Takeover 0 (1 ∷ []) ∷ Taken 0 2 2 both_at_one ∷ []) (takes 1 (V4 1) ∷ []) s refl refl
    (λ counts kept b d h. true_not_false (h.1.1 0 zero_not_one refl))

-- the first run of these runs assigns one address to each node
assigns_each : (assigned : List Assigned) (run : Run) → Some (record { able = both; given = first_at_zero }) ≡ Some run → assigned ≡ Placing.take_list config.addresses run → assigned ≡ one_each
assigns_each assigned run is assigns = assigns ∙ ap (Placing.take_list config.addresses) (sym (let e : record { able = both; given = first_at_zero } ≡ run = cc in e)) ∙ placed_once

fewer : first_at_zero ≡ one_each → ⊥
fewer e = absurd (cc)

pub wrong_take : WrongTake
unfolding Words.at is_among Placing.given_placement
wrong_take s = through_round (Ticket 2 0 both ∷ []) 0 both 1 1 (Pushed 2 first_at_zero ∷ installs 0 ∷ Takeover 0 both ∷ []) (Taken 0 2 1 first_at_zero ∷ []) s refl refl
    (λ counts kept b d h. fewer (assigns_each first_at_zero h.1.1.2.0 h.1.1.2.1 h.1.1.2.2))

pub take_of_no_run : TakeOfNoRun
unfolding Words.at
take_of_no_run s = through_round (Ticket 2 0 both ∷ []) 0 both 1 1 (Pushed 2 first_at_zero ∷ installs 0 ∷ []) (Taken 0 2 1 first_at_zero ∷ []) s refl refl (λ counts kept b d h. none_not_some h.1.1.2.1)

pub pushed_anew : PushedAnew
unfolding Words.at
pushed_anew s = through_round (Ticket 2 0 both ∷ []) 0 both 1 1 (Pushed 2 first_at_zero ∷ []) (Pushed 2 one_each ∷ []) s refl refl (λ counts kept b d h. fewer (sym h.1.2.0))

pub pushed_unborn : PushedUnborn
pushed_unborn s = from_opening (Ticket 2 0 both ∷ []) (Pushed 2 first_at_zero ∷ []) s refl (λ h. true_not_false (sym h.1.0))
