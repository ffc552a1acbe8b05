-- How an exchange that is written ends.
use Rattle.std.specs.Prelude.{◌≡◌, ◌≤◌, ◌⊎◌, ℕ, List, Option}
use Rattle.std.specs.Io.KnownBytes.{Appends}
use Rattle.ct_outside.specs.Causes.{AppendsPart, Rose}
use Rattle.ct_bus_exchange.specs.Handling.{Handling}
use Rattle.ct_bus_run.specs.Text.{bus_text}
use Rattle.ct_bus_run.specs.declared.generated.BusWanted.{BusWanted}
use Rattle.ct_bus_run.specs.declared.running.BusEnd.{BusEnd}
use Rattle.ct_bus_run.specs.declared.running.BusEnd.TheVariants.{Done, WriteFault, NoMemory}

-- how an end of a write of this text, and what out held before and holds now go together
abbrev pub Writes : BusEnd → List ℕ → Option (List ℕ) → Option (List ℕ) → Type 0
Writes Done text before now = Appends before now text
Writes WriteFault text before now = AppendsPart before now text
Writes NoMemory text before now = AppendsPart before now text

-- Bus: out gained the text of what the handlers make of the messages of the seed; at a fault a front of it, and without memory a
-- front, or nothing was written
abbrev pub BusEnds : Handling → BusWanted → BusEnd → Option (List ℕ) → Option (List ℕ) → Type 0
BusEnds hs x Done before now = Appends before now (bus_text hs x)
BusEnds hs x WriteFault before now = AppendsPart before now (bus_text hs x)
BusEnds hs x NoMemory before now = (now ≡ before) ⊎ AppendsPart before now (bus_text hs x)

-- the text is whole only where an exchange was counted, a fault of the write comes only where its count rose, and that never falls
pub record HasBusCause (e : BusEnd) (exchanges_before exchanges_now out_before out_now : ℕ) : Type 0 where
  pub later : out_before ≤ out_now
  pub exchanged : e ≡ Done → Rose exchanges_before exchanges_now
  pub write : e ≡ WriteFault → Rose out_before out_now
