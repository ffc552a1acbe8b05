-- Ends of an exchange that is written.
use Rattle.std.proofs.Common.{arith, ◌≡◌, ◌≤◌, ℕ, List, inl, inr, refl, subst}
use Rattle.std.specs.Prelude.{Option}
use Rattle.ct_outside.specs.Causes.{Rose, one_more}
use Rattle.ct_bus_exchange.specs.Handling.{Handling}
use Rattle.ct_bus_run.specs.Ends.{BusEnds, HasBusCause, Writes}
use Rattle.ct_bus_run.specs.Text.{bus_text}
use Rattle.ct_bus_run.specs.declared.generated.BusWanted.{BusWanted}
use Rattle.ct_bus_run.specs.declared.running.BusEnd.{BusEnd}
use Rattle.ct_bus_run.specs.declared.running.BusEnd.TheVariants.{Done, WriteFault, NoMemory}

-- nothing was written
pub unwritten : (hs : Handling) (x : BusWanted) (now : Option (List ℕ)) → BusEnds hs x NoMemory now now
unwritten hs x now = inl refl

-- the text was written, or a front of it
written_so : (hs : Handling) (x : BusWanted) (e : BusEnd) (before now : Option (List ℕ)) → Writes e (bus_text hs x) before now → BusEnds hs x e before now
written_so hs x Done before now w = w
written_so hs x WriteFault before now w = w
written_so hs x NoMemory before now w = inr w

pub written : (hs : Handling) (x : BusWanted) (e : BusEnd) (text : List ℕ) (before now : Option (List ℕ)) → text ≡ bus_text hs x → Writes e text before now → BusEnds hs x e before now
written hs x e text before now is w = written_so hs x e before now (subst (λ (t : List ℕ). Writes e t before now) is w)

-- nothing was written
pub uncaused : (before now faults : ℕ) → HasBusCause NoMemory before now faults faults
uncaused before now faults = record { later = omega arith; exchanged = λ e. absurd (cc); write = λ e. absurd (cc) }

-- an exchange was counted
pub caused : (e : BusEnd) (before now faults after : ℕ) → now ≡ one_more before → faults ≤ after → (e ≡ WriteFault → Rose faults after) → HasBusCause e before now faults after
caused e before now faults after more written fault = record { later = written; exchanged = λ _. omega (arith, more); write = fault }
