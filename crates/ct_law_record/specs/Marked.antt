-- The marks of one record: for each RSN that it had, how many of its versions that RSN stands for; step by step.
use Rattle.std.specs.Prelude.{◌≡◌, ◌⊎◌, ℕ, ◌+◌, ◌≤◌, Bool, true, false, ◌||◌, List, [], ◌∷◌, length, Option, None, Some}
use Rattle.std.specs.List.{list_all}
use Rattle.ct_frame.specs.Fields.{is_node}
use Rattle.ct_frame.specs.declared.frame.TableRow.{TableRow}
use Rattle.ct_frame.specs.declared.header.RecCopy.{RecCopy}
use Rattle.ct_rules.specs.declared.state.Entry.{Entry}
use Rattle.ct_rules.specs.declared.state.Wish.{Wish}
use Rattle.ct_register.specs.Handed.{is_among}
use Rattle.ct_register.specs.Register.{Register, reading, newborn}
use Rattle.ct_register.specs.Marks.{Site, Marks, AreMarks, IsCopyAt, IsEntryAt, MarksStep}
use Rattle.ct_law_record.specs.Labels.{Label, Vacuumed, AcceptsAll}
use Rattle.ct_law_record.specs.Calls.{Log, CallsStand, log_of, AreWanting, happens}
use Rattle.ct_law_record.specs.World.{Scene, World, Event, HasCopy, Stands, NothingIsLost, Parent, opening, bare, AreDrawn, born, SeesAtMost}

-- was the record removed by a step that tells these labels?
unfoldable pub is_removal : Label → Bool
is_removal (Vacuumed n) = true
is_removal label = false

unfoldable pub is_removed : List Label → Bool
is_removed [] = false
is_removed (label ∷ labels) = is_removal label || is_removed labels

-- the marks hold of a world and its register
pub record MarksHold (s : Scene) (w : World) (r : Register) (m : Marks) : Type 0 where
  pub marked : AreMarks r.versions m
  -- a copy has the value at the place of its RSN
  pub copies : (n : ℕ) (c : RecCopy) → HasCopy w n c → IsCopyAt m.marks r.versions c.header.rsn c.value
  -- the location master's entry has a value from the place before its least RSN to the place of that
  pub entry : (e : Entry) → (w.nodes s.lmaster).state.entry ≡ Some e → IsEntryAt m.marks r.versions e.least e.value
  -- that entry says where the record is; without one there are no marks
  pub sites : (e : Entry) → (w.nodes s.lmaster).state.entry ≡ Some e → m.site ≡ Some (record { holder = e.holder; least = e.least })
  pub empty : (w.nodes s.lmaster).state.entry ≡ None → m.marks ≡ []
  -- who has the record has the copy of the greatest RSN; else the record is on the way there, under an RSN above all marks
  pub found : (x : Site) → m.site ≡ Some x → (m.low ≤ x.least) ⊎ ((c : RecCopy) × HasCopy w x.holder c × (c.header.rsn + 1 ≡ m.low))
  -- and it is on the way where that is no member
  pub away : (x : Site) → m.site ≡ Some x → is_among x.holder s.members ≡ false → m.low ≤ x.least

-- all that a schedule leads to
pub record Holds (s : Scene) (w : World) (r : Register) (m : Marks) : Type 0 where
  pub stands : Stands w r
  pub kept : NothingIsLost w r
  pub parent : Parent w r
  pub marks : MarksHold s w r m

-- step by step there are a register that accepts what the step tells, and marks that go on, so that all this holds; and the
-- calls that wait are exactly the open ones
unfoldable pub Runs : Scene → World → Log → Register → Marks → List Event → Type 0
Runs s w log r m [] = Unit {0}
Runs s w log r m (e ∷ es) = let x = happens s w log e in
    (t : Register) × (n : Marks) × AcceptsAll s.rules r x.labels t × Holds s x.world t n × CallsStand x.world x.log × MarksStep (is_removed x.labels) m n × Runs s x.world x.log t n es

-- it holds at the beginning, with some marks, and then step by step
abbrev pub RunsFrom : Scene → World → Log → Register → List Event → Type 0
RunsFrom s w log r es = (m : Marks) × Holds s w r m × CallsStand w log × Runs s w log r m es

-- so it is of every schedule from the opening, where no call is open
abbrev pub OpensWithMarks : Type 0
OpensWithMarks = (s : Scene) (events : List Event) → list_all is_node s.members ≡ true → RunsFrom s opening (λ n call. None) (newborn []) events

-- of every schedule of a generation in which the record has no row
abbrev pub BeginsWithMarks : Type 0
BeginsWithMarks = (s : Scene) (joined : ℕ → Bool) (number : ℕ → ℕ) (wish : ℕ → Option Wish) (events : List Event) → list_all is_node s.members ≡ true → AreDrawn number wish → AreWanting wish →
    let w = bare joined number wish in RunsFrom s w (log_of w) (newborn []) events

-- and of every schedule of a generation that begins with a row
abbrev pub IsBornWithMarks : Type 0
IsBornWithMarks = (s : Scene) (row : TableRow) (master : ℕ) (versions : List (List ℕ)) (seen : ℕ → ℕ) (joined : ℕ → Bool) (number : ℕ → ℕ) (wish : ℕ → Option Wish) (events : List Event) →
    list_all is_node s.members ≡ true → is_among s.lmaster s.members ≡ true → row.master ≡ Some master → is_among master s.members ≡ true → row.value ≡ reading versions →
    SeesAtMost s seen (length versions) → AreDrawn number wish → AreWanting wish →
    let w = born s row joined number wish in RunsFrom s w (log_of w) (record (newborn versions) { seen = seen }) events
