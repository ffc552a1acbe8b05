-- What is asked of journals that are joined.
use Rattle.std.proofs.Common.{◌≡◌, ℕ, zero, suc, ◌+◌, ◌^◌, ◌<◌, true, List, [], ◌∷◌, Some, Ok, length, arith, refl, sym, ap, ◌∙◌, subst}
use Rattle.std.specs.Prelude.{codes, slice_get}
use Rattle.std.specs.List.Sorted.{IsPermutation}
use Rattle.std.proofs.lemmas.List.Sorted.{length_permutation}
use Rattle.ct_values.specs.declared.address.Address.{Address}
use Rattle.ct_call.specs.Rules.{Rules}
use Rattle.ct_values.specs.Config.{Configures, lock_db}
use Rattle.ct_values.specs.declared.config.Config.{Config}
use Rattle.ct_values.specs.declared.config.DbDecl.{DbDecl}
use Rattle.ct_values.specs.declared.config.DbKind.TheVariants.{Volatile}
use Rattle.ct_journal.specs.Order.{all_entries, count_sent, entries_of, frames_in, or_no_entries}
use Rattle.ct_journal.specs.Runs.{RunsTo}
use Rattle.ct_journal.specs.Worked.{pair_config}
use Rattle.ct_journal.specs.declared.journal.Journal.{Journal}
use Rattle.ct_rules_node.specs.Node.{Node}
use Rattle.ct_law_journal_schedule.specs.Laws.{AreRuns, IsRunOf}
use Rattle.ct_law_journal_reach.specs.Counts.{AreNotTooMany, HaveOwnTickets, begins_round, has_ticket}
use Rattle.ct_law_journal_reach.specs.Worked.{unsent_journals}
use Rattle.ct_law_journal_reach.proofs.Computed.{none_is_reached, run_of, not_many}
use Rattle.ct_rules_config.specs.Configured.{IsConfig}
use Rattle.ct_cases_journals.proofs.Computed.{first_crossed_runs, first_straight_runs, second_crossed_runs, second_straight_runs}
use Rattle.ct_cases_journals.specs.Worked.{MayJoin, crossed_journals, first_crossed, first_straight, second_crossed, second_straight, straight_journals}

-- ---- the configuration

pub is_config : (c : Config) (n : ℕ) (dbs : List DbDecl) (addresses : List Address) → Configures (Ok c) n dbs addresses → IsConfig c
is_config c n dbs addresses h = (dbs, addresses, subst (λ (k : ℕ). Configures (Ok c) k dbs addresses) (sym h.1) h)

none_left : (xs : List Address) → length xs ≡ 0 → xs ≡ []
none_left [] e = refl
none_left (x ∷ xs) e = absurd (cc)

config_of : (c : Config) (n : ℕ) (dbs : List DbDecl) (addresses : List Address) → c.nodes ≡ n → c.dbs ≡ dbs → c.addresses ≡ addresses → c ≡ record { nodes = n; dbs = dbs; addresses = addresses }
config_of c n dbs addresses e f g = λ i. record { nodes = e i; dbs = f i; addresses = g i }

pub is_pair : (c : Config) (dbs : List DbDecl) (addresses : List Address) → Configures (Ok c) 2 dbs addresses → dbs ≡ record { name = codes "t"; kind = Volatile } ∷ [] → addresses ≡ [] → c ≡ pair_config
is_pair c dbs addresses h one none = config_of c 2 (lock_db ∷ record { name = codes "t"; kind = Volatile } ∷ []) [] h.1
    (h.2 ∙ ap (λ (ds : List DbDecl). lock_db ∷ ds) one)
    (none_left c.addresses (length_permutation addresses c.addresses h.3 ∙ ap length none))

-- ---- two journals

both_run : (a b : Journal) → a.node ≡ 0 → b.node ≡ 1 → ((end : Node) × RunsTo pair_config [] a end) → ((end : Node) × RunsTo pair_config [] b end) → AreRuns pair_config [] (a ∷ b ∷ [])
both_run a b first second one two = record { count = refl; each = each }
  where
    each : (n : ℕ) (j : Journal) → slice_get (a ∷ b ∷ []) n ≡ Some j → IsRunOf pair_config [] n j
    each zero j is = run_of 0 j a (cc) (record { node = first; end = one.0; runs = one.1 })
    each (suc zero) j is = run_of 1 j b (cc) (record { node = second; end = two.0; runs = two.1 })
    each (suc (suc n)) j is = absurd (cc)

straight_tickets : HaveOwnTickets straight_journals
unfolding has_ticket begins_round entries_of or_no_entries
straight_tickets t zero m h k = absurd (cc)
straight_tickets t (suc zero) m h k = absurd (cc)
straight_tickets t (suc (suc n)) m h k = absurd (cc)

unsent_tickets : HaveOwnTickets unsent_journals
unfolding has_ticket begins_round entries_of or_no_entries
unsent_tickets t zero m h k = absurd (cc)
unsent_tickets t (suc zero) m h k = absurd (cc)
unsent_tickets t (suc (suc n)) m h k = absurd (cc)

crossed_tickets : HaveOwnTickets crossed_journals
unfolding has_ticket begins_round entries_of or_no_entries
crossed_tickets t zero m h k = absurd (cc)
crossed_tickets t (suc zero) m h k = absurd (cc)
crossed_tickets t (suc (suc n)) m h k = absurd (cc)

straight_few : AreNotTooMany straight_journals
unfolding all_entries count_sent frames_in
straight_few = omega arith

crossed_few : AreNotTooMany crossed_journals
unfolding all_entries count_sent frames_in
crossed_few = omega arith

-- ---- each pair

may_join : (c : Config) (rules : Rules) (js all : List Journal) → IsConfig c → c ≡ pair_config → rules ≡ [] → js ≡ all → AreRuns pair_config [] all → AreNotTooMany all → HaveOwnTickets all → MayJoin c rules js
may_join c rules js all config pair none same runs few tickets = record {
  config = config;
  runs = subst (λ (d : Config). AreRuns d rules js) (sym pair) (subst (λ (r : Rules). AreRuns pair_config r js) (sym none) (subst (λ (l : List Journal). AreRuns pair_config [] l) (sym same) runs));
  few = subst (λ (l : List Journal). AreNotTooMany l) (sym same) few;
  tickets = subst (λ (l : List Journal). HaveOwnTickets l) (sym same) tickets;
}

pub straight_may : (c : Config) (rules : Rules) (js : List Journal) → IsConfig c → c ≡ pair_config → rules ≡ [] → js ≡ straight_journals → MayJoin c rules js
straight_may c rules js config pair none same = may_join c rules js straight_journals config pair none same (both_run first_straight second_straight refl refl first_straight_runs second_straight_runs) straight_few straight_tickets

pub unsent_may : (c : Config) (rules : Rules) (js : List Journal) → IsConfig c → c ≡ pair_config → rules ≡ [] → js ≡ unsent_journals → MayJoin c rules js
unsent_may c rules js config pair none same = may_join c rules js unsent_journals config pair none same none_is_reached.0 not_many unsent_tickets

pub crossed_may : (c : Config) (rules : Rules) (js : List Journal) → IsConfig c → c ≡ pair_config → rules ≡ [] → js ≡ crossed_journals → MayJoin c rules js
crossed_may c rules js config pair none same = may_join c rules js crossed_journals config pair none same (both_run first_crossed second_crossed refl refl first_crossed_runs second_crossed_runs) crossed_few crossed_tickets
