-- A node that freezes, and what it may do then: its records stay what a Freeze leaves of those of its world.
use Rattle.std.proofs.Common.{◌≡◌, ℕ, Bool, true, false, cond, ◌&&◌, ◌||◌, List, Option, None, Some, refl, ap, ◌∙◌}
use Rattle.std.specs.Prelude.{nat_eq, is_none}
use Rattle.ct_values.specs.Client.{is_read}
use Rattle.ct_values.specs.declared.client.Answer.TheVariants as answer
use Rattle.ct_values.specs.declared.client.ClientOp.TheVariants as op
use Rattle.ct_call.specs.Rules.{Rules}
use Rattle.ct_store.specs.Map.{Ascends, look}
use Rattle.ct_rules.specs.State.{is_mastered, value_of}
use Rattle.ct_rules.specs.Parts.{Moving, reply, want, want_of, opened_at_home}
use Rattle.ct_rules.specs.declared.event.Place.{Place}
use Rattle.ct_rules.specs.declared.state.RecState.{RecState}
use Rattle.ct_rules_node.specs.Node.{Node, Database, db_at, state_at, or_nothing}
use Rattle.ct_rules_node.specs.Turn.{Turn}
use Rattle.ct_rules_node.specs.Rounds.{frozen_state, frozen_db, freezes}
use Rattle.ct_law_rules_node.specs.NodeLaws.{NodeAscends, changed_at}
use Rattle.ct_law_rules_node.proofs.Keys.{changed_seen}
use Rattle.ct_law_rules_node.proofs.AtRecord.{at_ascends, blank_is_nothing}
use Rattle.ct_law_rules_node.proofs.Rounds.{freezes_each}

frozen_or : (o : Option RecState) → or_nothing (changed_at frozen_state o) ≡ frozen_state (or_nothing o)
unfolding changed_at frozen_state or_nothing
frozen_or None = refl
frozen_or (Some s) = blank_is_nothing (frozen_state s) refl

ascends_at : (db : ℕ) (n : Node) → NodeAscends n → Ascends (db_at db n).records
unfolding db_at
ascends_at db n order = at_ascends n.dbs db order

-- a Freeze leaves of each record what frozen_state does
pub freezes_state : (g h db : ℕ) (key : List ℕ) (t : Turn) → NodeAscends t.node → state_at db key (freezes g h t).node ≡ frozen_state (state_at db key t.node)
unfolding state_at frozen_db
freezes_state g h db key t order =
    ap (λ (d : Database). or_nothing (look key d.records)) (freezes_each g h db t)
    ∙ ap or_nothing (changed_seen frozen_state (db_at db t.node).records (ascends_at db t.node order) key)
    ∙ frozen_or (look key (db_at db t.node).records)

-- one more changes nothing
pub frozen_twice : (s : RecState) → frozen_state (frozen_state s) ≡ frozen_state s
unfolding frozen_state
frozen_twice s = refl

not_home : (a b : Bool) (x y : Moving) → b ≡ false → cond (a && b) x y ≡ y
not_home true true x y e = absurd (cc)
not_home true false x y e = refl
not_home false b x y e = refl

reads_here : (a b : Bool) (x y : Moving) → a ≡ true → cond (a || b) x y ≡ x
reads_here true b x y e = refl
reads_here false b x y e = absurd (cc)

-- under the lock a read is answered, and nothing else happens
pub locked_read : (at : Place) (rules : Rules) (call db : ℕ) (key : List ℕ) (o : Moving) → is_none o.state.locked ≡ false → is_mastered at.me o.state.copy ≡ true →
    want at rules call (op.Read db key) o ≡ reply call (answer.Read (value_of o.state.copy)) o
unfolding want want_of opened_at_home is_read
locked_read at rules call db key o locked mine =
    ap (want_of at rules call (op.Read db key)) (not_home (nat_eq at.me at.lmaster) (is_none o.state.locked) _ o locked)
    ∙ reads_here (is_mastered at.me o.state.copy) _ _ _ mine
