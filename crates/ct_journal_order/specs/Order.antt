-- What is answered of journals.
use Rattle.std.specs.Prelude.{◌≡◌, ℕ, ◌-◌, ◌^◌, ◌+◌, min, nat_lt, Bool, if◌then◌else◌, List, [], ◌∷◌, length, Option, None, Some}
use Rattle.ct_frame.specs.Fields.{ascends}
use Rattle.ct_journal.specs.Going.{IsWhole}
use Rattle.ct_journal.specs.Order.{AreInOrder, Front, Stand, all_entries, count_arrived, count_sent, first_front, frames_in, is_arrival, numbers_of_calls}
use Rattle.ct_journal.specs.declared.journal.Journal.{Journal}
use Rattle.ct_journal.specs.declared.journal.JournalEntry.{JournalEntry}
use Rattle.ct_journal_order.specs.declared.counts.Tally.{Tally}

-- all entries of these nodes, in this order, stand in one list, each where it may
pub record StandBy (js : List Journal) (order : List ℕ) : Type 0 where
  pub end : Front
  pub stand : Stand js (first_front js) order end
  pub whole : IsWhole js end

-- all entries stand in one list, each where it may
pub record AllStand (js : List Journal) : Type 0 where
  pub order : List ℕ
  pub by : StandBy js order

-- do the numbers of the calls of a journal rise strictly?
abbrev pub calls_rise : Journal → Bool
calls_rise j = ascends nat_lt (numbers_of_calls j.entries)

-- a count in 64 bits: at 2^64 - 1 it stays
abbrev pub capped : ℕ → ℕ
capped n = min n (2 ^ 64 - 1)

-- a tally with one entry more
abbrev pub counted : JournalEntry → Tally → Tally
counted x t = record {
  all = capped (capped (t.all + 1) + length (frames_in x.outs));
  sent = capped (t.sent + length (frames_in x.outs));
  arrived = if is_arrival x.event then capped (t.arrived + 1) else t.arrived;
}

-- with all of these
abbrev pub all_counted : List JournalEntry → Tally → Tally
all_counted [] t = t
all_counted (x ∷ xs) t = all_counted xs (counted x t)

-- how many entries and messages there are together, how many messages are sent, and how many arrive, each capped
abbrev pub tally_of : List JournalEntry → Tally
tally_of xs = record { all = capped (length xs + count_sent xs); sent = capped (count_sent xs); arrived = capped (count_arrived xs) }

-- In order: how many messages are sent in these journals and do not arrive
abbrev pub left_over : List Journal → ℕ
left_over js = count_sent (all_entries js) - count_arrived (all_entries js)

-- In order: journals are in order, and their entries stand in a list of these nodes
pub record IsOrderOf (js : List Journal) (ns : List ℕ) : Type 0 where
  pub in_order : AreInOrder js
  pub same : ns ≡ in_order.order

-- In order: journals are in order, with the number of messages that did not arrive, or they are not
abbrev pub IsAnswer : List Journal → Option ℕ → Type 0
IsAnswer js (Some count) = AreInOrder js × (count ≡ left_over js)
IsAnswer js None = AreInOrder js → ⊥
