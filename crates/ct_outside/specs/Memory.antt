-- A source and a sink in memory, of whose calls some fail.
use Rattle.std.specs.Prelude.{ℕ, ◌≡◌, ◌==◌, if◌then◌else◌, List, ◌++◌, length, take, drop, min, Bool, true, false, Result, Ok, Err}
use Rattle.std.specs.List.{list_any}
use Rattle.ct_outside.specs.Causes.{one_more}
use Rattle.ct_outside.specs.declared.fault.Failed.{Failed}
use Rattle.ct_outside.specs.declared.fault.SinkFault.{SinkFault}
use Rattle.ct_outside.specs.declared.fault.SinkFault.TheVariants as sink

-- how many calls were made, how many of them failed, and the numbers of those that fail, counted from 1
pub record Calls : Type 0 where
  pub made : ℕ
  pub faults : ℕ
  pub fail_at : List ℕ

-- before the first call
abbrev pub no_calls : List ℕ → Calls
no_calls fail_at = record { made = 0; faults = 0; fail_at = fail_at }

-- does the next call fail?
abbrev pub next_fails : Calls → Bool
next_fails c = list_any (λ number. number == one_more c.made) c.fail_at

-- after a call that did not fail
abbrev pub passed : Calls → Calls
passed c = record c { made = one_more c.made }

-- after a call that failed
abbrev pub failed : Calls → Calls
failed c = record c { made = one_more c.made; faults = one_more c.faults }

-- after the next call
abbrev pub called : Calls → Calls
called c = if next_fails c then failed c else passed c

-- what is left to read, and the calls so far
pub record Reading : Type 0 where
  pub left : List ℕ
  pub calls : Calls

-- what was written, and the calls so far
pub record Writing : Type 0 where
  pub held : List ℕ
  pub calls : Calls

-- a read into a buffer, as it was and as it is: as much as is left and fits, unless the call is one that fails
abbrev pub Reads : Result ℕ Failed → Reading → Reading → List ℕ → List ℕ → Type 0
Reads (Ok n) old new before now =
    (next_fails old.calls ≡ false) × (n ≡ min (length before) (length old.left)) × (now ≡ take n old.left ++ drop n before)
    × (new ≡ record { left = drop n old.left; calls = passed old.calls })
Reads (Err e) old new before now = (next_fails old.calls ≡ true) × (now ≡ before) × (new ≡ record old { calls = failed old.calls })

-- a write of a piece: all of it, unless the call is one that fails or memory runs out
abbrev pub Writes : Result ℕ SinkFault → Writing → Writing → List ℕ → Type 0
Writes (Ok n) old new piece = (next_fails old.calls ≡ false) × (n ≡ length piece) × (new ≡ record { held = old.held ++ piece; calls = passed old.calls })
Writes (Err sink.Failed) old new piece = (next_fails old.calls ≡ true) × (new ≡ record old { calls = failed old.calls })
Writes (Err sink.NoMemory) old new piece = (next_fails old.calls ≡ false) × (new ≡ record old { calls = passed old.calls })
