-- What the registers of every legal trace look like.
use Rattle.std.specs.Prelude.{◌≡◌, ◌≢◌, ℕ, ◌+◌, ◌≤◌, Bool, true, List, length, Option, Some}
use Rattle.ct_values.specs.declared.config.Config.{Config}
use Rattle.ct_call.specs.Rules.{Rules}
use Rattle.ct_rules_cluster.specs.Labels.{Label}
use Rattle.ct_register.specs.Register.{Register}
use Rattle.ct_register.specs.Database.{Database}
use Rattle.ct_register.specs.Lines.{Lines}
use Rattle.ct_register.specs.Legal.{Legal}

-- at most one commit is not acknowledged, and no node has seen more than there are
pub record IsCounted (d : Database) : Type 0 where
  pub acked : d.acked ≤ length d.commits
  pub open_one : length d.commits ≤ d.acked + 1
  pub seen : (n : ℕ) → d.seen n ≤ length d.commits

-- who owns a record of a line is in that line
abbrev pub OwnersAreThere : (ℕ → ℕ → List ℕ → Register) → (ℕ → ℕ) → Type 0
OwnersAreThere records line = (g db : ℕ) (key : List ℕ) (n : ℕ) → (records g db key).owner ≡ Some n → line n ≡ g

-- lines, tickets and nodes
pub record AreInOrder (is_born : ℕ → Bool) (last : ℕ) (leader : ℕ → Option ℕ) (line pline : ℕ → ℕ) (had phad : ℕ → ℕ → ℕ → Bool) (installed : ℕ → ℕ → Bool) : Type 0 where
  -- no line is above the last ticket, no ticket is, and no node's line is
  pub lines : (g : ℕ) → is_born g ≡ true → g ≤ last
  pub tickets : (g n : ℕ) → leader g ≡ Some n → g ≤ last
  pub nodes : (n : ℕ) → pline n ≤ last
  -- a node's line is that of its persistent databases, but for a node that stopped; and that is a line
  pub stays : (n : ℕ) → line n ≢ 0 → line n ≡ pline n
  pub real : (n : ℕ) → pline n ≢ 0 → is_born (pline n) ≡ true
  -- what a node has now, it had since every ticket that was given
  pub has : (g n m : ℕ) → leader g ≡ Some m → had g n (line n) ≡ true
  pub phas : (g n m : ℕ) → leader g ≡ Some m → phad g n (pline n) ≡ true
  -- who has installed a line has that one or a newer one
  pub newer : (g n : ℕ) → installed g n ≡ true → g ≤ pline n

-- what the registers of every legal trace look like
pub record IsFormed (r : Lines) : Type 0 where
  pub owners : OwnersAreThere r.records r.line
  pub order : AreInOrder r.born r.last r.leader r.line r.pline r.had r.phad r.installed
  pub databases : (g db : ℕ) → IsCounted (r.databases g db)

-- the registers that a legal trace comes to are formed
abbrev pub LegalIsFormed : Type 0
LegalIsFormed = (config : Config) (rules : Rules) (labels : List Label) (s : Lines) → Legal config rules labels s → IsFormed s
