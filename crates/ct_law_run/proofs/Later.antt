-- What registers and worlds may become so that all that was said of old messages, and of nodes that did nothing, stays.
use Rattle.std.proofs.Common.{◌≡◌, ◌≢◌, ℕ, ◌≤◌, true, false, List, Option, None, Some, ap, ◌∙◌}
use Rattle.std.specs.Prelude.{◌⊎◌}
use Rattle.ct_frame.specs.declared.header.RecCopy.{RecCopy}
use Rattle.ct_rules_node.specs.Node.{Phase, is_present}
use Rattle.ct_frame.specs.declared.frame.Frame.{Frame}
use Rattle.ct_values.specs.declared.config.Config.{Config}
use Rattle.ct_register.specs.Lines.{Lines}
use Rattle.ct_law_record.specs.World.{View}
use Rattle.ct_law_run.proofs.Ages.{Ages}
use Rattle.ct_law_run.proofs.Lives.{MailSays}

-- old tickets and lines stay: what a message says that was sent, it says still
pub record Later (r : Lines) (a : Ages) (s : Lines) (b : Ages) : Type 0 where
  pub last : r.last ≤ s.last
  pub leader : (g n : ℕ) → r.leader g ≡ Some n → s.leader g ≡ Some n
  pub named : (g n : ℕ) → r.leader g ≡ Some n → s.members g ≡ r.members g
  pub born : (g : ℕ) → r.born g ≡ true → s.born g ≡ true
  pub members : (g : ℕ) → r.born g ≡ true → s.members g ≡ r.members g
  pub tables : (g : ℕ) → r.born g ≡ true → b.tables g ≡ a.tables g
  pub installed : (g n : ℕ) → r.installed g n ≡ true → s.installed g n ≡ true
  pub had : (g n l : ℕ) → g ≤ r.last → r.had g n l ≡ true → s.had g n l ≡ true
  pub phad : (g n l : ℕ) → g ≤ r.last → r.phad g n l ≡ true → s.phad g n l ≡ true

-- a node that did nothing: its line stays, and so does what each line's worlds have of it
pub record Away (r : Lines) (a : Ages) (s : Lines) (b : Ages) (n : ℕ) : Type 0 where
  pub line : s.line n ≡ r.line n
  pub pline : s.pline n ≡ r.pline n
  pub views : (g db : ℕ) (key : List ℕ) → r.born g ≡ true → (b.worlds g db key).nodes n ≡ (a.worlds g db key).nodes n

-- what a node has of a record in a line it keeps there: its copy, and that it has not locked the record
pub record Keeps (v w : View) : Type 0 where
  pub copy : w.state.copy ≡ v.state.copy
  pub free : v.state.locked ≡ None → w.state.locked ≡ None

pub keeps_view : (v w : View) → w ≡ v → Keeps v w
keeps_view v w e = record { copy = ap (λ (x : View). x.state.copy) e; free = λ f. ap (λ (x : View). x.state.locked) e ∙ f }

-- So does a node, whatever it does, in every line that it is not in before it or after it; and, where it is not present after it, in
-- its own, of each record that it had not locked.
abbrev pub Rest : Lines → Ages → Lines → Ages → ℕ → Phase → Type 0
Rest r a s b n p = (g db : ℕ) (key : List ℕ) → r.born g ≡ true → (r.line n ≢ g) ⊎ (s.line n ≢ g) ⊎ ((is_present p ≡ false) × (((a.worlds g db key).nodes n).state.locked ≡ None)) →
    Keeps ((a.worlds g db key).nodes n) ((b.worlds g db key).nodes n)

abbrev pub MailLater : Type 0
MailLater = (c : Config) (r : Lines) (a : Ages) (s : Lines) (b : Ages) (f : Frame) → Later r a s b → MailSays c r a f → MailSays c s b f
