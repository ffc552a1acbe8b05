-- The keys of deleted records, which the next vacuum looks at.
use Rattle.std.specs.Prelude.{◌≡◌, ℕ, ◌==◌, Bool, true, false, not, ◌&&◌, List, Option, None, Some}
use Rattle.std.specs.BTreeMap.{is_at}
use Rattle.std.specs.List.{list_any}
use Rattle.ct_values.specs.Key.{key_cmp}
use Rattle.ct_values.specs.Words.{is_nil}
use Rattle.ct_frame.specs.Header.{nobody}
use Rattle.ct_frame.specs.declared.header.RecCopy.{RecCopy}
use Rattle.ct_store.specs.Map.{Pairs, look}
use Rattle.ct_rules.specs.State.{is_blank}
use Rattle.ct_rules.specs.declared.state.RecState.{RecState}
use Rattle.ct_rules_node.specs.Node.{or_nothing}

-- has a copy that was not given away the empty value? Each one of which this node is data master is such a copy
unfoldable pub is_deleted : Option RecCopy → Bool
is_deleted None = false
is_deleted (Some c) = not (c.header.dmaster == nobody) && is_nil c.value

-- is the key among these?
abbrev pub is_noted : List ℕ → List (List ℕ) → Bool
is_noted key keys = list_any (is_at (key_cmp key)) keys

-- a state that is kept is not blank
unfoldable pub is_worth : Option RecState → Bool
is_worth None = true
is_worth (Some s) = not (is_blank s)

-- each key of a deleted record is among these, and no blank state is kept
pub record IsTidy (keys : List (List ℕ)) (m : Pairs RecState) : Type 0 where
  pub noted : (key : List ℕ) → is_deleted (or_nothing (look key m)).copy ≡ true → is_noted key keys ≡ true
  pub worth : (key : List ℕ) → is_worth (look key m) ≡ true
