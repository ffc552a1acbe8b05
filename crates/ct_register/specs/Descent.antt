-- What a line has of the lines from which it descends: what it took over of each, step by step.
use Rattle.std.specs.Prelude.{◌≡◌, ℕ, ◌+◌, ◌≤◌, List, length, Some}
use Rattle.ct_values.specs.declared.client.Pair.{Pair}
use Rattle.ct_values.specs.declared.config.Config.{Config}
use Rattle.ct_call.specs.Rules.{Rules}
use Rattle.ct_persist.specs.Updates.{contents}
use Rattle.ct_rules_cluster.specs.Labels.{Label}
use Rattle.ct_register.specs.Database.{Database, contents_after}
use Rattle.ct_register.specs.Lines.{Lines}
use Rattle.ct_register.specs.Legal.{Legal}

-- A database of a line has those of an older one up to number k: it began with the first commits of that, all that are acknowledged
-- among them, and then with more commits, those of the lines between.
pub record HasOf (older : Database) (k : ℕ) (d : Database) : Type 0 where
  pub first : ℕ
  pub more : List (List Pair)
  pub within : first ≤ length older.commits
  pub acked : older.acked ≤ first
  pub number : k ≡ older.seq + first
  pub seq : d.seq ≡ k + length more
  pub base : d.base ≡ contents more (contents_after first older)

-- After every legal trace a line that took over from another, step by step, has all that was acknowledged there: whether it was born
-- before that was acknowledged or after it.
abbrev pub AcknowledgedIsTakenOver : Type 0
AcknowledgedIsTakenOver = (config : Config) (rules : Rules) (labels : List Label) (s : Lines) → Legal config rules labels s →
    (g l db k : ℕ) → (s.databases l db).from g ≡ Some k → HasOf (s.databases g db) k (s.databases l db)
