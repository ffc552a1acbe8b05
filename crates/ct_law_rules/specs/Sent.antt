-- What a node sends about a record keeps the rules of its fields.
use Rattle.std.specs.Prelude.{◌≡◌, ℕ, Bool, true, ◌&&◌, Some}
use Rattle.std.specs.List.{list_all}
use Rattle.ct_frame.specs.Fields.{is_db, is_node, is_message}
use Rattle.ct_call.specs.Rules.{Rules}
use Rattle.ct_rules.specs.Parts.{Moving}
use Rattle.ct_rules.specs.Moves.{moved}
use Rattle.ct_law_rules.specs.Form.{IsInForm, MayCome}
use Rattle.ct_rules.specs.declared.event.Act.{Act}
use Rattle.ct_rules.specs.declared.event.Act.TheVariants as act
use Rattle.ct_rules.specs.declared.event.MoveEvent.{MoveEvent}
use Rattle.ct_rules.specs.declared.event.MoveEvent.TheVariants as event
use Rattle.ct_rules.specs.declared.event.Place.{Place}
use Rattle.ct_rules.specs.declared.state.RecState.{RecState}
use Rattle.ct_rules.specs.declared.state.RecallNote.{RecallNote}
use Rattle.ct_rules.specs.declared.state.Waiter.{Waiter}

-- a message that is sent keeps the rules of its fields
unfoldable pub is_well_formed : ℕ → Act → Bool
is_well_formed me (act.Send receiver m) = is_message me m
is_well_formed me (act.Answer call answer) = true
is_well_formed me (act.Finished floor) = true

-- a request that waits is of a node
unfoldable pub is_of_node : Waiter → Bool
is_of_node w = is_node w.node

-- a recall that waits is of a node
unfoldable pub is_for_node : RecallNote → Bool
is_for_node r = is_node r.node

-- all that waits is of nodes
abbrev pub waits_for_nodes : RecState → Bool
waits_for_nodes s = list_all is_of_node s.queue && list_all is_for_node s.waiting

-- what comes, comes from a node
abbrev pub is_from_node : MoveEvent → Bool
is_from_node (event.Arrive sender m) = is_node sender
is_from_node _ = true

-- whatever may come from a node to a state in form in which all that waits is of nodes: what is sent keeps the rules of
-- its fields, and all that waits then is of nodes
abbrev pub SendsSound : Type 0
SendsSound = (at : Place) (rules : Rules) (e : MoveEvent) (s : RecState) (next : ℕ) (o : Moving) →
    is_db at.db ≡ true → IsInForm at next s → waits_for_nodes s ≡ true → MayCome s e → is_from_node e ≡ true → moved at rules e s next ≡ Some o →
    (list_all (is_well_formed at.me) o.acts ≡ true) × (waits_for_nodes o.state ≡ true)
