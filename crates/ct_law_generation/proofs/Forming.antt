-- In the world of a record each node's state is in form, and each message keeps the rules of its fields; this stays so.
use Rattle.std.proofs.Common.{◌≡◌, ℕ, ◌<◌, ◌≤◌, ◌^◌, Bool, true, false, cond, ◌||◌, List, [], ◌∷◌, Option, Some, None, refl, ap, arith}
use Rattle.std.specs.Prelude.{is_none}
use Rattle.std.specs.List.{list_all, AllByRecursion}
use Rattle.std.proofs.lemmas.Bool.{and_parts}
use Rattle.ct_frame.specs.Fields.{is_db, is_node, is_message}
use Rattle.ct_frame.specs.declared.frame.Msg.{Msg}
use Rattle.ct_values.specs.declared.client.ClientOp.{ClientOp}
use Rattle.ct_law_rules.specs.Form.{IsInForm, MayCome, is_of_record}
use Rattle.ct_law_rules.specs.Laws.{TracksAsHolder}
use Rattle.ct_law_rules.specs.Sent.{is_well_formed, waits_for_nodes, is_from_node}
use Rattle.ct_rules.specs.Moves.{move, unless_spent}
use Rattle.ct_rules.specs.Parts.{Moving}
use Rattle.ct_rules.specs.declared.event.Act.{Act}
use Rattle.ct_rules.specs.declared.event.Act.TheVariants as act
use Rattle.ct_rules.specs.declared.event.MoveEvent.{MoveEvent}
use Rattle.ct_rules.specs.declared.event.MoveEvent.TheVariants as event
use Rattle.ct_rules.specs.declared.event.Place.{Place}
use Rattle.ct_law_rules.proofs.Events.{form_kept, form_under}
use Rattle.ct_law_rules.proofs.Tracking.{holder_tracks}
use Rattle.ct_law_rules.proofs.SentEvents.{what_is_sent}
use Rattle.ct_rules_node.specs.Admission.{record_in}
use Rattle.ct_law_rules_node.specs.NodeLaws.{unless_blank}
use Rattle.ct_rules_node.specs.Node.{or_nothing}
use Rattle.ct_law_rules_node.proofs.AtRecord.{none_is, formed_is_kept}
use Rattle.ct_law_record.specs.World.{Scene, View, Mail, place, starts, view_of, sent, sends, may_want}
use Rattle.ct_law_generation.proofs.Speaking.{About, Told, move_told}

-- what holds of a node's state of the record
pub record Is_formed (s : Scene) (n : ℕ) (v : View) : Type 0 where
  pub form : IsInForm (place s n v) v.next v.state
  pub tracks : TracksAsHolder (place s n v) v.state.copy v.state.tracking v.state.vacuum
  pub waits : waits_for_nodes v.state ≡ true

-- what holds of a message about the record
pub record Is_sound_mail (m : Mail) : Type 0 where
  pub record_is : is_of_record m.msg ≡ true
  pub fields : is_message m.sender m.msg ≡ true
  pub sender : is_node m.sender ≡ true

retracked : (s : Scene) (n next floor : ℕ) (v : View) → TracksAsHolder (place s n v) v.state.copy v.state.tracking v.state.vacuum →
    TracksAsHolder (place s n (record v { next = next; floor = floor })) v.state.copy v.state.tracking v.state.vacuum
retracked s n next floor v h = record { tracked_held = h.tracked_held; vacuum_untracked = h.vacuum_untracked }

-- the numbers of a node rise
pub formed_rises : (s : Scene) (n next floor : ℕ) (v : View) → 1 ≤ next → next < 2 ^ 62 → floor < 2 ^ 62 → Is_formed s n v → Is_formed s n (record v { next = next; floor = floor })
formed_rises s n next floor v one low below h = record {
  form = form_under (place s n v) v.next floor next v.state (record { from_one = one; next_limit = low; floor_limit = below }) h.form;
  tracks = retracked s n next floor v h.tracks;
  waits = h.waits;
}

-- a step that is whole
whole : (o : Moving) → o.spent ≡ false → unless_spent o ≡ Some o
whole o e = ap (λ (b : Bool). cond b None (Some o)) e

-- the state after a step at the record
pub formed_moves : (s : Scene) (n : ℕ) (v : View) (e : MoveEvent) → is_db s.db ≡ true → Is_formed s n v → MayCome v.state e → is_from_node e ≡ true →
    (move (place s n v) s.rules e (starts v)).spent ≡ false → Is_formed s n (view_of (move (place s n v) s.rules e (starts v)))
formed_moves s n v e db h may from u =
    let o = move (place s n v) s.rules e (starts v) in
    let a = form_kept (place s n v) s.rules e v.state v.next o h.form may (whole o u) in
    let b = what_is_sent (place s n v) s.rules e v.state v.next o db h.form h.waits may from (whole o u) in
    let c = holder_tracks (place s n v) s.rules e (starts v) h.tracks in
    record { form = a.form; tracks = retracked s n o.next o.floor (record v { state = o.state }) c; waits = b.1 }

-- nothing is lost of it where it is blank
pub formed_blank : (s : Scene) (n : ℕ) (v : View) → Is_formed s n v → or_nothing (unless_blank v.state) ≡ v.state
formed_blank s n v h = formed_is_kept (place s n v) v.next v.state h.form h.tracks

-- ---- what is sent

of_record_is : (m : Msg) (r : ℕ × List ℕ) → record_in m ≡ Some r → is_of_record m ≡ true
unfolding record_in is_of_record
of_record_is m r e = grind arith

sound_mails : (s : Scene) (n : ℕ) (at : Place) (as' : List Act) → is_node n ≡ true → Told at as' → list_all (is_well_formed n) as' ≡ true → AllByRecursion Is_sound_mail (sent n as')
unfolding Told About is_well_formed sent sends
sound_mails s n at [] node t h = tt
sound_mails s n at (act.Send receiver m ∷ as') node t h = (let p = and_parts _ _ h in (record { record_is = of_record_is m (at.db, at.key) t.0; fields = p.0; sender = node }, sound_mails s n at as' node t.1 p.1))
sound_mails s n at (act.Answer call a ∷ as') node t h = sound_mails s n at as' node t.1 h
sound_mails s n at (act.Finished floor ∷ as') node t h = sound_mails s n at as' node t.1 h

-- the messages of a step at the record
pub sound_moves : (s : Scene) (n : ℕ) (v : View) (e : MoveEvent) → is_db s.db ≡ true → is_node n ≡ true → Is_formed s n v → MayCome v.state e → is_from_node e ≡ true →
    (move (place s n v) s.rules e (starts v)).spent ≡ false → AllByRecursion Is_sound_mail (sent n (move (place s n v) s.rules e (starts v)).acts)
unfolding Told
sound_moves s n v e db node h may from u =
    let o = move (place s n v) s.rules e (starts v) in
    let b = what_is_sent (place s n v) s.rules e v.state v.next o db h.form h.waits may from (whole o u) in
    sound_mails s n (place s n v) o.acts node (move_told (place s n v) s.rules e (starts v) tt) b.0

-- ---- what may come

pub or_second : (a b : Bool) → a ≡ false → (a || b) ≡ true → b ≡ true
or_second true b e h = absurd (cc)
or_second false b e h = h

pub may_want_comes : (s : Scene) (n call : ℕ) (v : View) (asked : ClientOp) → may_want v.state asked ≡ true → MayCome v.state (event.Want call asked)
unfolding may_want
may_want_comes s n call v asked h =
    let p = and_parts _ _ h in let q = and_parts _ _ p.0 in (q.0, none_is v.state.wish q.1, λ not_read. none_is v.state.locked (or_second _ _ not_read p.1))

pub mail_comes : (s : Scene) (n : ℕ) (v : View) (m : Mail) → Is_sound_mail m → MayCome v.state (event.Arrive m.sender m.msg)
mail_comes s n v m h = (h.record_is, h.fields)
