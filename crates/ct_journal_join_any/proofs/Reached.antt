-- What holds once steps have made the first entries of journals, and one entry more.
use Rattle.std.proofs.Common.{◌≡◌, ℕ, zero, suc, ◌+◌, ◌-◌, ◌^◌, ◌<◌, ◌≤◌, true, List, [], ◌∷◌, ◌++◌, length, map, set, take, replicate, Option, None, Some, length-append, arith, refl, sym, ap, ◌∙◌, subst}
use Rattle.std.proofs.lemmas.List.{length-map}
use Rattle.std.specs.Prelude.{slice_get, slice_set}
use Rattle.ct_call.specs.Rules.{Rules}
use Rattle.ct_values.specs.declared.config.Config.{Config}
use Rattle.ct_rules_node.specs.Node.{or_zero}
use Rattle.ct_rules_cluster.specs.Cluster.{Cluster, Sent, opening}
use Rattle.ct_rules_cluster.specs.declared.step.Step.{Step}
use Rattle.ct_journal.specs.Order.{all_entries, entries_of, or_no_entries}
use Rattle.ct_journal.specs.declared.journal.Journal.{Journal}
use Rattle.ct_journal.specs.declared.journal.JournalEntry.{JournalEntry}
use Rattle.ct_law_journal_schedule.specs.Laws.{AreRuns}
use Rattle.ct_law_journal_reach.specs.Counts.{AreNotTooMany, count_at, cut_to, entry_after, with_one_more}
use Rattle.ct_law_journal_reach.specs.Making.{HasMade, MayGo, after_steps, no_counts, steps_to_go}
use Rattle.ct_law_journal_reach.proofs.Cutting.{entries_cut, got_within, is_there}
use Rattle.ct_law_journal_reach.proofs.Held.{cut_renumbered, first_placed}
use Rattle.ct_law_journal_reach.proofs.OneMore.{none_is_made, one_more}
use Rattle.ct_law_journal_reach.proofs.Told.{Told, sent_by, told_all, told_none}
use Rattle.ct_law_journal_reach.proofs.Weights.{made_few}
use Rattle.ct_journal_join_any.specs.Going.{AreTaken}
use Rattle.ct_journal_join_any.specs.Reaching.{HasReached, ReachesOn, unmade}
use Rattle.ct_journal_join_any.specs.declared.reach.Reach.{Reach}

-- ---- the opening

pub none_made : (c : Config) (js : List Journal) (ss : List Step) (w : Cluster) (ts : List ℕ) → ss ≡ [] → w ≡ opening c → ts ≡ replicate (length js) 0 → (rules : Rules) → HasMade c rules js ss w ts
unfolding no_counts
none_made c js ss w ts none first zeros rules =
    subst (λ (l : List Step). HasMade c rules js l w ts) (sym none)
    (subst (λ (v : Cluster). HasMade c rules js [] v ts) (sym first)
    (subst (λ (us : List ℕ). HasMade c rules js [] (opening c) us) (sym zeros) (none_is_made c rules js)))

-- ---- what steps tell

told_of : (c : Config) (rules : Rules) (js : List Journal) (ss : List Step) (w : Cluster) (ts : List ℕ) → AreRuns c rules js → (h : HasMade c rules js ss w ts) → Told c rules w h.made
told_of c rules js ss w ts runs h = told_all c rules ss (opening c) w [] h.made (told_none c rules)
    (first_placed c js h.made (λ n. count_at ts n) runs.count (cut_renumbered js ts h.made h.journals)) h.takes h.ends

sent_few : (c : Config) (rules : Rules) (js : List Journal) (ss : List Step) (w : Cluster) (ts : List ℕ) → AreRuns c rules js → AreNotTooMany js → HasMade c rules js ss w ts → length w.sent < 2 ^ 62
sent_few c rules js ss w ts runs few h =
    let r = cut_renumbered js ts h.made h.journals in
    let m = made_few c js h.made (λ n. count_at ts n) few runs.count (first_placed c js h.made (λ n. count_at ts n) runs.count r) r in
    let e = sym (length-map w.sent (λ (y : Sent). y.frame)) ∙ ap length (told_of c rules js ss w ts runs h).sent in
    omega (arith, m, e)

pub are_few : (rules : Rules) (js : List Journal) (r : Reach) → HasReached rules js r → length r.world.cluster.sent < 2 ^ 62
are_few rules js r h = sent_few r.world.config rules js r.steps.items r.world.cluster r.taken.items h.runs h.few h.made

pub are_marked : (rules : Rules) (js : List Journal) (r : Reach) → HasReached rules js r → length r.world.cluster.able ≡ r.world.config.nodes
are_marked rules js r h = (told_of r.world.config rules js r.steps.items r.world.cluster r.taken.items h.runs h.made).able

-- ---- one entry more

unmade_more : (js : List Journal) (ts : List ℕ) (n : ℕ) (x : JournalEntry) → n < length ts → slice_get (or_no_entries (slice_get js n)) (or_zero (slice_get ts n)) ≡ Some x → unmade js (set ts n (or_zero (slice_get ts n) + 1)) < unmade js ts
unfolding unmade or_no_entries or_zero
unmade_more [] ts n x l e = absurd (cc)
unmade_more (j ∷ js) [] n x l e = absurd (omega arith)
unmade_more (j ∷ js) (t ∷ ts) zero x l e = let g = got_within j.entries t x e in omega arith
unmade_more (j ∷ js) (t ∷ ts) (suc n) x l e = let r = unmade_more js ts n x (omega arith) e in omega arith

unmade_less : (js : List Journal) (ts : List ℕ) (n : ℕ) (x : JournalEntry) → length ts ≡ length js → entry_after js ts n ≡ Some x → unmade js (with_one_more ts n) < unmade js ts
unfolding entry_after entries_of with_one_more count_at
unmade_less js ts n x size next = unmade_more js ts n x (let l = is_there js n (count_at ts n) x next in omega (arith, l, size)) next

-- the place of a node that has a next entry
pub has_place : (rules : Rules) (js : List Journal) (r : Reach) (n : ℕ) (x : JournalEntry) → HasReached rules js r → entry_after js r.taken.items n ≡ Some x → n < length r.taken.items
unfolding entry_after
has_place rules js r n x h next = (let l = is_there js n (count_at r.taken.items n) x next in let s = h.made.size in omega (arith, l, s))

count_few : (rules : Rules) (js : List Journal) (r : Reach) (n : ℕ) (x : JournalEntry) → HasReached rules js r → entry_after js r.taken.items n ≡ Some x → count_at r.taken.items n < length (entries_of js n)
unfolding entry_after
count_few rules js r n x h next = got_within (entries_of js n) (count_at r.taken.items n) x next

entries_few : (js : List Journal) (n : ℕ) → length (entries_of js n) ≤ length (all_entries js)
unfolding entries_of or_no_entries all_entries
entries_few [] n = omega arith
entries_few (j ∷ js) zero = let l = length-append j.entries (all_entries js) in omega arith
entries_few (j ∷ js) (suc n) = let l = length-append j.entries (all_entries js) in let r = entries_few js n in omega arith

pub count_fits : (rules : Rules) (js : List Journal) (r : Reach) (n k : ℕ) (x : JournalEntry) → HasReached rules js r → entry_after js r.taken.items n ≡ Some x → k ≡ count_at r.taken.items n → k + 1 < 2 ^ 64
count_fits rules js r n k x h next is = (let c = count_few rules js r n x h next in let e = entries_few js n in let f = h.few in omega (arith, c, e, f, is))

-- the entries that are made of a node
pub past_is : (js : List Journal) (ts : List ℕ) (n k : ℕ) (xs : List JournalEntry) → xs ≡ entries_of js n → k ≡ count_at ts n → entries_of (cut_to js ts) n ≡ take k xs
past_is js ts n k xs is count = entries_cut js ts n ∙ ap (λ (l : List JournalEntry). take (count_at ts n) l) (sym is) ∙ ap (λ (m : ℕ). take m xs) (sym count)

pub count_within : (rules : Rules) (js : List Journal) (r : Reach) (n : ℕ) → HasReached rules js r → count_at r.taken.items n ≤ length (entries_of js n)
count_within rules js r n h = h.made.within n

-- the steps for the entry are taken
pub may_take : (rules : Rules) (js : List Journal) (r : Reach) (n k : ℕ) (x : JournalEntry) (go : List Step) → HasReached rules js r → entry_after js r.taken.items n ≡ Some x → MayGo r.world.config js r.world.cluster r.taken.items n x.event k → go ≡ steps_to_go r.world.cluster n x.event k → AreTaken r.world.config rules r.world.cluster go
may_take rules js r n k x go h next may is =
    let o = one_more r.world.config rules js r.steps.items r.world.cluster r.taken.items n k x h.runs h.few h.made next may in
    (o.0, ap (after_steps r.world.config rules (Some r.world.cluster)) is ∙ o.1)

-- and make it
pub makes_on : (rules : Rules) (js : List Journal) (old new : Reach) (n k : ℕ) (x : JournalEntry) (go : List Step) → HasReached rules js old → entry_after js old.taken.items n ≡ Some x → MayGo old.world.config js old.world.cluster old.taken.items n x.event k → go ≡ steps_to_go old.world.cluster n x.event k →
    after_steps old.world.config rules (Some old.world.cluster) go ≡ Some new.world.cluster → new.world.config ≡ old.world.config → new.steps.items ≡ old.steps.items ++ go → new.taken.items ≡ slice_set old.taken.items n (count_at old.taken.items n + 1) → ReachesOn rules js old new
unfolding with_one_more
makes_on rules js old new n k x go h next may is ends same steps taken =
    let c : Config = old.world.config in
    let o = one_more c rules js old.steps.items old.world.cluster old.taken.items n k x h.runs h.few h.made next may in
    let v : o.0 ≡ new.world.cluster = (let e = sym o.1 ∙ sym (ap (after_steps c rules (Some old.world.cluster)) is) ∙ ends in cc) in
    let all : old.steps.items ++ steps_to_go old.world.cluster n x.event k ≡ new.steps.items = ap (λ (l : List Step). old.steps.items ++ l) (sym is) ∙ sym steps in
    let made : HasMade c rules js new.steps.items new.world.cluster new.taken.items =
    subst (λ (ts : List ℕ). HasMade c rules js new.steps.items new.world.cluster ts) (sym taken)
    (subst (λ (w : Cluster). HasMade c rules js new.steps.items w (with_one_more old.taken.items n)) v
    (subst (λ (l : List Step). HasMade c rules js l o.0 (with_one_more old.taken.items n)) all o.2)) in
    record {
      reached = record {
        runs = subst (λ (d : Config). AreRuns d rules js) (sym same) h.runs;
        few = h.few;
        made = subst (λ (d : Config). HasMade d rules js new.steps.items new.world.cluster new.taken.items) (sym same) made;
      };
      same = same;
      less = subst (λ (ts : List ℕ). unmade js ts < unmade js old.taken.items) (sym taken) (unmade_less js old.taken.items n x h.made.size next);
    }
