-- Runs in which addresses are placed.
use Rattle.std.proofs.Common.{◌≡◌, ℕ, refl, sym}
use Rattle.std.specs.Prelude.{Bool, true, false}
use Rattle.ct_values.specs.Words.{is_this_node}
use Rattle.ct_values.specs.declared.address.Address.{Address}
use Rattle.ct_values.specs.declared.address.Address.TheVariants.{V4}
use Rattle.ct_lcp2.specs.Best
use Rattle.ct_lcp2.specs.Distance
use Rattle.ct_lcp2.specs.Placing as lcp2
use Rattle.ct_rules_node.specs.Node.{is_among, holder_in, assigned_all}
use Rattle.ct_register.specs.Words
use Rattle.ct_register.specs.Placing
use Rattle.ct_register.specs.Lines
use Rattle.ct_register.proofs.Places.{at_all}
use Rattle.ct_register.proofs.Small.{below_next}
use Rattle.ct_register_worked.proofs.Rounds.{unowned_by, two_not_zero, both_front, both_births, both_persistent, both_born, both_unowned, both_one, both_one_unowned}
use Rattle.ct_register_worked.specs.Runs.{config, both, first_at_zero, one_each, AddressesArePlaced}

-- what LCP2 makes of the first address at node 0 and the second at none
pub placed_once : Placing.take_list config.addresses (record { able = both; given = first_at_zero }) ≡ one_each
unfolding Placing.take_list holder_in assigned_all lcp2.placement lcp2.held lcp2.repeated lcp2.moves_away lcp2.places_at lcp2.places lcp2.homeless lcp2.failbacks_of lcp2.failbacks lcp2.sources lcp2.total Best.best_from Distance.agreed Distance.sum_to Distance.imbalance is_this_node
placed_once = refl

-- ---- the run

-- nobody holds the second address once node 0 has the first
free_of_second : (m : ℕ) → Words.at 0 (Words.at_address (V4 1) true (λ _. false)) (λ _ _. false) m (V4 2) ≡ false
unfolding Words.at_address
free_of_second = at_all (λ (f : Address → Bool). f (V4 2) ≡ false) 0 (Words.at_address (V4 1) true (λ _. false)) (λ _ _. false) refl (λ _. refl)

pub addresses_are_placed : AddressesArePlaced
unfolding both_one both_born both_front Words.at Words.at_address is_among Lines.also_had Placing.given_placement Placing.assigns is_this_node
addresses_are_placed =
    (_, (_, (refl, tt, refl), (both_born, ((λ _ _. 0), (λ _. 0), both_births, both_persistent, refl), (_, (refl, _, (tt, refl), refl), (_, (refl, refl, below_next 1, unowned_by 0 both_born.records both_unowned, refl), (_, (refl, refl, below_next 1, unowned_by 1 both_one.records both_one_unowned, refl), (_, (two_not_zero, _, (first_at_zero, refl, refl), refl), (_, (refl, (two_not_zero, _, (record { able = both; given = first_at_zero }, refl, sym placed_once, refl), refl)), (_, (two_not_zero, (λ m ne is. refl), (1, one_each, refl, refl), refl), (_, (two_not_zero, (λ m ne is. free_of_second m), (1, one_each, refl, refl), refl), refl))))))))), (refl, refl, refl, refl))
