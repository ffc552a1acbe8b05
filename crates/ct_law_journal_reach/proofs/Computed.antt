-- The worked journals, by computing with all words of the rules open.
use Rattle.std.proofs.Common.{◌≡◌, ℕ, zero, suc, ◌<◌, true, List, [], ◌∷◌, Some, length, arith, refl, sym, ap, subst}
use Rattle.std.specs.Prelude.{slice_get}
use Rattle.ct_rules_node.specs.Admission.{addresses_in, are_all, is_listed, is_sound, members_in, named_in, ptables_in, table_in}
use Rattle.ct_rules_node.specs.Coming.{may_come}
use Rattle.ct_rules_node.specs.Node.{Node, opening, or_zero}
use Rattle.ct_rules_node.specs.Rounds.{on_freezeack}
use Rattle.ct_rules_node.specs.Steps.{arrives, happens, if_sound}
use Rattle.ct_rules_cluster.specs.Cluster.{everyone, numbers, sent_at}
use Rattle.ct_rules_cluster.specs.Cluster.{opening as cluster_opening}
use Rattle.ct_frame.specs.declared.event.Event.{Event}
use Rattle.ct_frame.specs.declared.event.Event.TheVariants as event
use Rattle.ct_journal.specs.Order.{all_entries, count_sent, entries_of, frames_in, or_no_entries}
use Rattle.ct_journal.specs.Runs.{IsRun}
use Rattle.ct_journal.specs.Worked.{pair_config}
use Rattle.ct_journal.specs.declared.journal.Journal.{Journal}
use Rattle.ct_journal.specs.declared.journal.JournalEntry.{JournalEntry}
use Rattle.ct_journal.proofs.Computed.{turned}
use Rattle.ct_law_journal_schedule.specs.Laws.{AreRuns, IsRunOf}
use Rattle.ct_law_journal_reach.specs.Counts.{AreGreatest, AreNotTooMany, count_at, entry_after, has_ticket, begins_round}
use Rattle.ct_law_journal_reach.specs.Laws.{NoneMayGo}
use Rattle.ct_law_journal_reach.specs.Making.{HasMade, MayGo, no_counts}
use Rattle.ct_law_journal_reach.specs.Worked.{NoneIsReached, unsent, unsent_journals}
use Rattle.ct_law_journal_reach.proofs.Held.{held_is_greatest}
use Rattle.ct_law_journal_reach.proofs.OneMore.{none_is_made}
use Rattle.ct_law_journal_reach.proofs.Whole.{less_is_stuck}

first_runs : (end : Node) × (IsRun pair_config [] 0 (opening pair_config (everyone pair_config)) (record { event = event.Arrive unsent; outs = [] } ∷ []) end)
unfolding IsRun turned happens arrives if_sound is_sound named_in members_in table_in ptables_in addresses_in is_listed are_all on_freezeack opening everyone numbers may_come
first_runs = let n1 : Node = turned 0 (event.Arrive unsent) (opening pair_config (everyone pair_config)) in (n1, (n1, record { coming = refl; steps = refl }, refl))

second_runs : (end : Node) × (IsRun pair_config [] 1 (opening pair_config (everyone pair_config)) [] end)
unfolding IsRun
second_runs = (opening pair_config (everyone pair_config), refl)

pub run_of : (n : ℕ) (j k : Journal) → k ≡ j → IsRunOf pair_config [] n k → IsRunOf pair_config [] n j
run_of n j k same r = subst (λ (i : Journal). IsRunOf pair_config [] n i) same r

are_runs : AreRuns pair_config [] unsent_journals
are_runs = record { count = refl; each = each }
  where
    each : (n : ℕ) (j : Journal) → slice_get unsent_journals n ≡ Some j → IsRunOf pair_config [] n j
    each zero j is = run_of 0 j (record { node = 0; entries = record { event = event.Arrive unsent; outs = [] } ∷ [] }) (cc) (record { node = refl; end = first_runs.0; runs = first_runs.1 })
    each (suc zero) j is = run_of 1 j (record { node = 1; entries = [] }) (cc) (record { node = refl; end = second_runs.0; runs = second_runs.1 })
    each (suc (suc n)) j is = absurd (cc)

no_ticket : (t n : ℕ) → has_ticket t (entries_of unsent_journals n) ≡ true → ⊥
unfolding has_ticket begins_round entries_of or_no_entries
no_ticket t zero h = absurd (cc)
no_ticket t (suc zero) h = absurd (cc)
no_ticket t (suc (suc n)) h = absurd (cc)

pub not_many : AreNotTooMany unsent_journals
unfolding all_entries count_sent frames_in
not_many = omega arith

-- no message was sent
no_message : (n k : ℕ) (e : Event) (ts : List ℕ) → e ≡ event.Arrive unsent → MayGo pair_config unsent_journals (cluster_opening pair_config) ts n e k → ⊥
unfolding MayGo sent_at cluster_opening
no_message n k e ts is may = none k (subst (λ (d : Event). MayGo pair_config unsent_journals (cluster_opening pair_config) ts n d k) is may)
  where
    none : (k : ℕ) → MayGo pair_config unsent_journals (cluster_opening pair_config) ts n (event.Arrive unsent) k → ⊥
    none zero may = (let e = may.1 in absurd (cc))
    none (suc k) may = (let e = may.1 in absurd (cc))

is_held : NoneMayGo pair_config unsent_journals (cluster_opening pair_config) (0 ∷ 0 ∷ [])
unfolding entry_after entries_of or_no_entries count_at or_zero
is_held zero k x next may = no_message 0 k x.event (0 ∷ 0 ∷ []) (let same : record { event = event.Arrive unsent; outs = [] } ≡ x = cc in sym (ap (λ (y : JournalEntry). y.event) same)) may
is_held (suc zero) k x next may = absurd (cc)
is_held (suc (suc n)) k x next may = absurd (cc)

none_made_yet : HasMade pair_config [] unsent_journals [] (cluster_opening pair_config) (0 ∷ 0 ∷ [])
unfolding no_counts
none_made_yet = none_is_made pair_config [] unsent_journals

greatest : AreGreatest pair_config [] unsent_journals (0 ∷ 0 ∷ [])
greatest = held_is_greatest pair_config [] unsent_journals [] (cluster_opening pair_config) (0 ∷ 0 ∷ []) are_runs not_many (λ t n m one two. absurd (no_ticket t n one)) none_made_yet is_held

less : count_at (0 ∷ 0 ∷ []) 0 < length (entries_of unsent_journals 0)
unfolding entries_of or_no_entries count_at or_zero
less = omega arith

pub none_is_reached : NoneIsReached
none_is_reached = (are_runs, greatest, λ ss s. less_is_stuck pair_config [] unsent_journals ss (0 ∷ 0 ∷ []) 0 greatest less s)
