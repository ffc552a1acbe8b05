-- How far entries are made, as long as a next one may be made.
use Rattle.std.proofs.Common.{◌≡◌, ℕ, ◌<◌, ◌≤◌, Bool, true, false, List, length, arith, ap, ◌⊎◌, inl, inr}
use Rattle.std.proofs.lemmas.Bool.{cases_lt}
use Rattle.ct_call.specs.Rules.{Rules}
use Rattle.ct_values.specs.declared.config.Config.{Config}
use Rattle.ct_journal.specs.Order.{entries_of}
use Rattle.ct_journal.specs.declared.journal.Journal.{Journal}
use Rattle.ct_law_journal_reach.specs.Counts.{count_at, entry_after}
use Rattle.ct_law_journal_reach.specs.Laws.{NoneMayGo}
use Rattle.ct_law_journal_reach.proofs.Cutting.{is_there, none_there}
use Rattle.ct_journal_join_any.specs.Reaching.{HasReached, IsHeldAt, Reaches, ReachesOn}
use Rattle.ct_journal_join_any.specs.declared.reach.Reach.{Reach}

-- ---- one node

-- how far the entries of one node are made: some were, or else nothing is changed and no more are tried
abbrev pub NodeSoFar : Rules → List Journal → Type 0 → Bool → Bool → Reach → Reach → Type 0
NodeSoFar rules js H true more old now = ReachesOn rules js old now
NodeSoFar rules js H false more old now = (now ≡ old) × H × (more ≡ false)

-- ---- a round

-- how far a round has come: an entry was made, or else nothing is changed and the first nodes are held
abbrev pub RoundSoFar : Rules → List Journal → ℕ → Bool → Reach → Reach → Type 0
RoundSoFar rules js n true old now = ReachesOn rules js old now
RoundSoFar rules js n false old now = (now ≡ old) × ((m : ℕ) → m < n → IsHeldAt js old m)

-- a node that is not there has no entries
absent_held : (rules : Rules) (js : List Journal) (r : Reach) (n : ℕ) → HasReached rules js r → r.world.config.nodes ≤ n → IsHeldAt js r n
unfolding entry_after
absent_held rules js r n h le k x next may = absurd (let l = is_there js n (count_at r.taken.items n) x next in let e = h.runs.count in omega (arith, l, e))

pub round_last : (rules : Rules) (js : List Journal) (n : ℕ) (some : Bool) (old now : Reach) → HasReached rules js old → old.world.config.nodes ≤ n → RoundSoFar rules js n some old now → Reaches rules js (NoneMayGo old.world.config js old.world.cluster old.taken.items) some old now
round_last rules js n true old now h le r = r
round_last rules js n false old now h le r = (r.0, λ m k x next may. by m (cases_lt m n) k x next may)
  where
    by : (m : ℕ) → (m < n) ⊎ (n ≤ m) → IsHeldAt js old m
    by m (inl l) = r.1 m l
    by m (inr l) = absent_held rules js old m h (omega arith)

-- ---- all rounds

-- how far all rounds have come: some entries are made, and none may be made next once a round made none
abbrev pub AllSoFar : Rules → List Journal → Bool → Config → Reach → Type 0
AllSoFar rules js true c now = HasReached rules js now × (now.world.config ≡ c)
AllSoFar rules js false c now = HasReached rules js now × (now.world.config ≡ c) × NoneMayGo now.world.config js now.world.cluster now.taken.items

-- ---- are all entries made?

pub all_are : (js : List Journal) (ts : List ℕ) (n : ℕ) → length js ≤ n → length ts ≡ length js → ((m : ℕ) → m < n → length (entries_of js m) ≤ count_at ts m) → ((m : ℕ) → count_at ts m ≤ length (entries_of js m)) → (m : ℕ) → count_at ts m ≡ length (entries_of js m)
all_are js ts n le size all within m = by (cases_lt m n)
  where
    by : (m < n) ⊎ (n ≤ m) → count_at ts m ≡ length (entries_of js m)
    by (inl l) = (let a = all m l in let w = within m in omega (arith, a, w))
    by (inr l) = (let e = ap length (none_there js m (omega arith)) in let w = within m in omega (arith, e, w))
