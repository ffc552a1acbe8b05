-- How many entries of each journal steps can make.
use Rattle.std.specs.Prelude.{◌≡◌, ℕ, ◌+◌, ◌<◌, ◌≤◌, ◌^◌, nat_eq, Bool, true, false, List, [], ◌∷◌, length, take, Option, slice_get, slice_set}
use Rattle.std.specs.List.{list_any}
use Rattle.ct_values.specs.declared.config.Config.{Config}
use Rattle.ct_call.specs.Rules.{Rules}
use Rattle.ct_frame.specs.declared.event.Event.{Event}
use Rattle.ct_frame.specs.declared.event.Event.TheVariants as event
use Rattle.ct_rules_node.specs.Node.{or_zero}
use Rattle.ct_rules_cluster.specs.declared.step.Step.{Step}
use Rattle.ct_journal.specs.Order.{all_entries, count_sent, entries_of}
use Rattle.ct_journal.specs.Schedules.{IsSchedule}
use Rattle.ct_journal.specs.declared.journal.Journal.{Journal}
use Rattle.ct_journal.specs.declared.journal.JournalEntry.{JournalEntry}

-- ---- journals that are cut

-- the count of node n, and 0 where there is none
unfoldable pub count_at : List ℕ → ℕ → ℕ
count_at ts n = or_zero (slice_get ts n)

-- these counts, and one entry more of node n
unfoldable pub with_one_more : List ℕ → ℕ → List ℕ
with_one_more ts n = slice_set ts n (count_at ts n + 1)

-- a journal with so many entries alone, its first
unfoldable pub cut_journal : Journal → ℕ → Journal
cut_journal j t = record j { entries = take t j.entries }

-- journals, each with so many entries alone as its node has in these counts
unfoldable pub cut_to : List Journal → List ℕ → List Journal
cut_to [] ts = []
cut_to (j ∷ js) [] = cut_journal j 0 ∷ cut_to js []
cut_to (j ∷ js) (t ∷ ts) = cut_journal j t ∷ cut_to js ts

-- the entry of node n that comes after so many
unfoldable pub entry_after : List Journal → List ℕ → ℕ → Option JournalEntry
entry_after js ts n = slice_get (entries_of js n) (count_at ts n)

-- ---- what is asked of journals

-- is it the beginning of a round with this ticket?
unfoldable pub begins_round : ℕ → Event → Bool
begins_round t (event.BeginRound ticket members) = nat_eq ticket t
begins_round t _ = false

-- does one of these entries begin a round with this ticket?
unfoldable pub has_ticket : ℕ → List JournalEntry → Bool
has_ticket t xs = list_any (λ x. begins_round t x.event) xs

-- Schedules: no ticket stands in two journals
abbrev pub HaveOwnTickets : List Journal → Type 0
HaveOwnTickets js = (t n m : ℕ) → has_ticket t (entries_of js n) ≡ true → has_ticket t (entries_of js m) ≡ true → n ≡ m

-- Schedules: the entries and the messages that they send are together fewer than 2^61
abbrev pub AreNotTooMany : List Journal → Type 0
AreNotTooMany js = length (all_entries js) + count_sent (all_entries js) < 2 ^ 61

-- ---- how far a schedule reaches

-- Schedules: some schedule makes so many entries of each journal: these counts, one for each journal, are reached
pub record AreReached (c : Config) (rules : Rules) (js : List Journal) (ts : List ℕ) : Type 0 where
  pub steps : List Step
  pub size : length ts ≡ length js
  pub within : (n : ℕ) → count_at ts n ≤ length (entries_of js n)
  pub schedule : IsSchedule c rules (cut_to js ts) steps

-- Schedules: counts are the greatest where they are reached, and no schedule makes more entries of any journal
pub record AreGreatest (c : Config) (rules : Rules) (js : List Journal) (ts : List ℕ) : Type 0 where
  pub reached : AreReached c rules js ts
  pub most : (us : List ℕ) → AreReached c rules js us → (n : ℕ) → count_at us n ≤ count_at ts n

-- counts are those of all entries
abbrev pub AreAll : List Journal → List ℕ → Type 0
AreAll js ts = (n : ℕ) → count_at ts n ≡ length (entries_of js n)
