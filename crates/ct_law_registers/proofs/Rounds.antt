-- Labels of rounds are accepted where what they need of rounds, of records and of databases holds, each part by itself.
use Rattle.std.proofs.Common.{◌≡◌, ◌≢◌, ℕ, ◌+◌, ◌<◌, ◌≤◌, true, false, List, length, Some, refl}
use Rattle.ct_values.specs.declared.config.Config.{Config}
use Rattle.ct_frame.specs.declared.event.Note.TheVariants as note
use Rattle.ct_call.specs.Rules.{Rules}
use Rattle.ct_rules_cluster.specs.Labels.{Label, Noted, Ticket, Yielded, Stopped, Started}
use Rattle.ct_rules_node.specs.Node.{is_among}
use Rattle.ct_register.specs.Register.{OwnedByNoOther}
use Rattle.ct_register.specs.Lines.{Lines}
use Rattle.ct_register.specs.Legal.{AcceptsLabel}
use Rattle.ct_law_registers.proofs.Parts.{Choice, goes, note_goes, DatabasesNeed}

-- what a birth needs of rounds
pub record CanBear (r : Lines) (g h : ℕ) (ms : List ℕ) (p q : ℕ) : Type 0 where
  pub given : r.leader g ≡ Some h
  pub named : r.members g ≡ ms
  pub unborn : r.born g ≡ false
  pub older : p < g
  pub greatest : (m : ℕ) → is_among m ms ≡ true → r.line m < g → r.line m ≤ p
  pub had : (m : ℕ) × (is_among m ms ≡ true) × (r.had g m p ≡ true)
  pub polder : q < g
  pub pgreatest : (m : ℕ) → is_among m ms ≡ true → r.pline m < g → r.pline m ≤ q
  pub phad : (m : ℕ) × (is_among m ms ≡ true) × (r.phad g m q ≡ true)

-- what it needs of records
pub record CanTake (r : Lines) (ms : List ℕ) (p : ℕ) (counts : ℕ → List ℕ → ℕ) : Type 0 where
  pub within : (db : ℕ) (key : List ℕ) → p ≢ 0 → counts db key ≤ length (r.records p db key).versions
  pub seen : (db m : ℕ) (key : List ℕ) → p ≢ 0 → is_among m ms ≡ true → r.line m ≡ p → (r.records p db key).seen m ≤ counts db key

-- what a label needs of rounds
unfoldable pub RoundsNeed : Lines → Label → Type 0
RoundsNeed r (Noted h (note.Round g members p q)) = CanBear r g h members p q
RoundsNeed r (Noted n (note.Installed g)) = (r.born g ≡ true) × (is_among n (r.members g) ≡ true) × (r.pline n < g)
RoundsNeed r (Noted n (note.Thawed g)) = (r.line n ≢ 0) × (r.line n ≡ g) × ((m : ℕ) → is_among m (r.members g) ≡ true → r.installed g m ≡ true)
RoundsNeed r (Ticket g n members) = (g ≡ r.last + 1) × OwnedByNoOther n r.holder
RoundsNeed r (Yielded n) = r.holder ≡ Some n
RoundsNeed r label = Unit {0}

pub round_accepted : (config : Config) (rules : Rules) (x : Choice) (r : Lines) (h g p q : ℕ) (ms : List ℕ) → RoundsNeed r (Noted h (note.Round g ms p q)) → CanTake r ms p x.counts → DatabasesNeed config x r (Noted h (note.Round g ms p q)) →
    AcceptsLabel config rules r (Noted h (note.Round g ms p q)) (goes config x (Noted h (note.Round g ms p q)) r)
unfolding RoundsNeed DatabasesNeed goes note_goes
round_accepted config rules x r h g p q ms bear take keep = (
  x.counts,
  x.kept,
  record { given = bear.given; named = bear.named; unborn = bear.unborn; older = bear.older; greatest = bear.greatest; had = bear.had; within = take.within; seen = take.seen },
  record { older = bear.polder; greatest = bear.pgreatest; had = bear.phad; within = keep.within; acked = keep.acked; seen = keep.seen },
  refl,
)

pub installed_accepted : (config : Config) (rules : Rules) (x : Choice) (r : Lines) (n g : ℕ) → RoundsNeed r (Noted n (note.Installed g)) → ((l db : ℕ) (key : List ℕ) → (r.records l db key).owner ≢ Some n) →
    AcceptsLabel config rules r (Noted n (note.Installed g)) (goes config x (Noted n (note.Installed g)) r)
unfolding RoundsNeed goes note_goes
installed_accepted config rules x r n g h free = (h.0, h.1, h.2, free, refl)

pub thawed_accepted : (config : Config) (rules : Rules) (x : Choice) (r : Lines) (n g : ℕ) → RoundsNeed r (Noted n (note.Thawed g)) → AcceptsLabel config rules r (Noted n (note.Thawed g)) (goes config x (Noted n (note.Thawed g)) r)
unfolding RoundsNeed goes note_goes
thawed_accepted config rules x r n g h = (h.0, h.1, h.2, refl)

pub ticket_accepted : (config : Config) (rules : Rules) (x : Choice) (r : Lines) (g n : ℕ) (ms : List ℕ) → RoundsNeed r (Ticket g n ms) → AcceptsLabel config rules r (Ticket g n ms) (goes config x (Ticket g n ms) r)
unfolding RoundsNeed goes
ticket_accepted config rules x r g n ms h = (h.0, h.1, refl)

pub yielded_accepted : (config : Config) (rules : Rules) (x : Choice) (r : Lines) (n : ℕ) → RoundsNeed r (Yielded n) → AcceptsLabel config rules r (Yielded n) (goes config x (Yielded n) r)
unfolding RoundsNeed goes
yielded_accepted config rules x r n h = (h, refl)

pub stopped_accepted : (config : Config) (rules : Rules) (x : Choice) (r : Lines) (n : ℕ) → AcceptsLabel config rules r (Stopped n) (goes config x (Stopped n) r)
unfolding goes
stopped_accepted config rules x r n = refl

pub started_accepted : (config : Config) (rules : Rules) (x : Choice) (r : Lines) (n : ℕ) → AcceptsLabel config rules r (Started n) (goes config x (Started n) r)
unfolding goes
started_accepted config rules x r n = refl
