-- A step at one record keeps all records of a node in form.
use Rattle.std.proofs.Common.{◌≡◌, ◌≢◌, ℕ, ◌<◌, ◌^◌, Bool, true, false, cond, ◌||◌, List, [], length, set, Option, Some, None, refl, sym, ◌∙◌, ap, subst}
use Rattle.std.proofs.lemmas.Bool.{cond_both, eqb-true, eqb-false}
use Rattle.std.proofs.lemmas.List.{length-set}
use Rattle.std.specs.Prelude.{nat_eq, slice_get}
use Rattle.std.specs.BTreeMap.{is_at}
use Rattle.ct_values.specs.Key.{key_cmp}
use Rattle.ct_values.specs.declared.config.Config.{Config}
use Rattle.ct_frame.specs.Fields.{is_db}
use Rattle.ct_call.specs.Rules.{Rules}
use Rattle.ct_store.proofs.Maps.{one_key, itself, equal}
use Rattle.ct_law_rules.specs.Form.{HasCounters, MayCome}
use Rattle.ct_rules.specs.Moves.{move, unless_spent}
use Rattle.ct_rules.specs.Parts.{Moving}
use Rattle.ct_law_rules.specs.Sent.{is_from_node}
use Rattle.ct_rules.specs.declared.event.MoveEvent.{MoveEvent}
use Rattle.ct_rules.specs.declared.event.Place.{Place}
use Rattle.ct_rules.specs.declared.state.RecState.{RecState}
use Rattle.ct_law_rules.proofs.Events.{form_kept, form_under}
use Rattle.ct_law_rules.proofs.Tracking.{holder_tracks}
use Rattle.ct_law_rules.proofs.SentEvents.{what_is_sent}
use Rattle.ct_persist.specs.Persisted.{Persisted}
use Rattle.ct_law_rules_node.specs.NodeLaws.{IsAtRecord, NodeAscends}
use Rattle.ct_rules_node.specs.Node.{Node, Committing, Database, db_at, or_nothing, or_untouched, with_db, state_at}
use Rattle.ct_rules_node.specs.Turn.{begins}
use Rattle.ct_store.specs.Map.{look}
use Rattle.ct_law_rules.specs.Laws.{TracksAsHolder}
use Rattle.ct_rules_node.specs.Records.{acted, at_record, kept, place_of, put_back, view}
use Rattle.ct_law_rules_node.proofs.AtRecord.{at_other, at_set, formed_is_kept, moves_at}
use Rattle.ct_law_form.specs.Form.{AreFormed, IsFormed, MovesKeepForm}

-- under another floor and a next request number that is not smaller
pub formed_under : (at : Place) (next floor next' : ℕ) (s : RecState) → HasCounters next' floor → IsFormed at next s → IsFormed (record at { floor = floor }) next' s
formed_under at next floor next' s counters h = record {
  form = form_under at next floor next' s counters h.form;
  tracks = record { tracked_held = h.tracks.tracked_held; vacuum_untracked = h.tracks.vacuum_untracked };
  waits = h.waits;
}

-- the same state under the same floor
pub formed_same : (at : Place) (next f g : ℕ) (s u : RecState) → f ≡ g → s ≡ u → IsFormed (record at { floor = g }) next u → IsFormed (record at { floor = f }) next s
formed_same at next f g s u e i h = subst (λ (x : ℕ). IsFormed (record at { floor = x }) next s) (sym e) (subst (λ (x : RecState). IsFormed (record at { floor = g }) next x) (sym i) h)

pub whole : (o : Moving) → o.spent ≡ false → unless_spent o ≡ Some o
whole o e = ap (λ (b : Bool). cond b None (Some o)) e

-- what a step leaves of its record
pub left_formed : (at : Place) (rules : Rules) (e : MoveEvent) (s : RecState) (next : ℕ) (o : Moving) → is_db at.db ≡ true → IsFormed at next s → MayCome s e → is_from_node e ≡ true →
    move at rules e (record { state = s; next = next; floor = at.floor; acts = []; spent = false }) ≡ o → o.spent ≡ false → IsFormed (record at { floor = o.floor }) o.next o.state
left_formed at rules e s next o db h may from is unspent =
    let a = form_kept at rules e s next o h.form may (ap unless_spent is ∙ whole o unspent) in
    let b = what_is_sent at rules e s next o db h.form h.waits may from (ap unless_spent is ∙ whole o unspent) in
    let c = subst (λ (x : Moving). TracksAsHolder at x.state.copy x.state.tracking x.state.vacuum) is (holder_tracks at rules e (record { state = s; next = next; floor = at.floor; acts = []; spent = false }) h.tracks) in
    record { form = a.form; tracks = record { tracked_held = c.tracked_held; vacuum_untracked = c.vacuum_untracked }; waits = b.1 }

-- or another key, or the same
pub by_key : (P : List ℕ → Type 0) (k q : List ℕ) → P k → (q ≢ k → P q) → P q
by_key P k q here there = cond_both (is_at (key_cmp q) k) true false (λ (_ : Bool). P q)
    (λ t. subst P (sym (one_key q k (equal _ t))) here) (λ f. there (λ e. absurd (let h = ap (λ (x : List ℕ). is_at (key_cmp x) k) e ∙ itself k in cc)))

pub by_db : (P : ℕ → Type 0) (d e : ℕ) → P d → (e ≢ d → P e) → P e
by_db P d e here there = cond_both (nat_eq e d) true false (λ (_ : Bool). P e) (λ t. subst P (sym (eqb-true e d t)) here) (λ f. there (eqb-false e d f))

pub no_left : (a b : Bool) → a || b ≡ false → b ≡ false
no_left true b e = absurd (cc)
no_left false b e = e

same_state : (d : ℕ) (q : List ℕ) (n u : Node) → db_at d u ≡ db_at d n → state_at d q u ≡ state_at d q n
unfolding state_at
same_state d q n u e = ap (λ (x : Database). or_nothing (look q x.records)) e

-- the node after a step at one record that leaves this, by the step of a part that leaves it
put_moves : (c : Config) (me db : ℕ) (key : List ℕ) (o : Moving) (n : Node) → NodeAscends n → IsAtRecord c me db key (λ at p. o) (begins n)
put_moves c me db key o n asc = moves_at c me db key (λ at p. o) (begins n) asc

-- the records of all databases stay in order
pub put_ascends : (c : Config) (me db : ℕ) (key : List ℕ) (o : Moving) (n : Node) → NodeAscends n → NodeAscends (put_back db key o n)
unfolding at_record acted
put_ascends c me db key o n asc = (put_moves c me db key o n asc).order

-- there are as many databases
pub put_length : (db : ℕ) (key : List ℕ) (o : Moving) (n : Node) → length (put_back db key o n).dbs ≡ length n.dbs
unfolding put_back with_db
put_length db key o n = length-set n.dbs db _

-- what holds of the state that is left, and of the states of all other records, holds of each record then
pub put_each : (P : RecState → Type 0) (c : Config) (me db : ℕ) (key : List ℕ) (o : Moving) (n : Node) → NodeAscends n → db < length n.dbs → IsFormed (record (place_of c me db key n) { floor = o.floor }) o.next o.state → P o.state →
    ((d : ℕ) (q : List ℕ) → P (state_at d q n)) → (d : ℕ) (q : List ℕ) → P (state_at d q (put_back db key o n))
unfolding at_record acted
put_each P c me db key o n asc l f here all d q =
    let u = put_back db key o n in
    let k = put_moves c me db key o n asc in
    by_db (λ (d : ℕ). P (state_at d q u)) db d
    (by_key (λ (q : List ℕ). P (state_at db q u)) key q
    (subst P (sym (k.seen l ∙ formed_is_kept (record (place_of c me db key n) { floor = o.floor }) o.next o.state f.form f.tracks)) here)
    (λ m. subst P (sym (k.other_keys q m)) (all db q)))
    (λ m. subst P (sym (same_state d q n u (k.other_dbs d m))) (all d q))

-- what holds of what each database has beside its records holds still
pub put_beside : (P : Persisted → Option Committing → Type 0) (db : ℕ) (key : List ℕ) (o : Moving) (n : Node) → db < length n.dbs → ((d : ℕ) → P (db_at d n).store (db_at d n).commit) → (d : ℕ) → P (db_at d (put_back db key o n)).store (db_at d (put_back db key o n)).commit
unfolding put_back with_db db_at
put_beside P db key o n l all d =
    let x = record (or_untouched (slice_get n.dbs db)) { records = kept key o.state (or_untouched (slice_get n.dbs db)).records; floor = o.floor } in
    by_db (λ (d : ℕ). P (or_untouched (slice_get (set n.dbs db x) d)).store (or_untouched (slice_get (set n.dbs db x) d)).commit) db d
    (subst (λ (y : Database). P y.store y.commit) (sym (at_set n.dbs db x l)) (all db))
    (λ m. subst (λ (y : Database). P y.store y.commit) (sym (at_other n.dbs db d x m)) (all d))

-- a step at one record that leaves a state in form leaves all records so
pub put_formed : (c : Config) (me db : ℕ) (key : List ℕ) (o : Moving) (n : Node) → NodeAscends n → db < length n.dbs → AreFormed c me n → IsFormed (record (place_of c me db key n) { floor = o.floor }) o.next o.state → AreFormed c me (put_back db key o n)
unfolding at_record acted put_back place_of db_at with_db
put_formed c me db key o n asc l h f =
    let at = place_of c me db key n in
    let u = put_back db key o n in
    let k = put_moves c me db key o n asc in
    let floor : (db_at db u).floor ≡ o.floor = ap (λ (d : Database). d.floor) (at_set n.dbs db _ l) in
    let counted : (x : ℕ) → x < 2 ^ 62 → HasCounters o.next x = λ x b. record { from_one = f.form.counters.from_one; next_limit = f.form.counters.next_limit; floor_limit = b } in
    λ d q. by_db (λ (d : ℕ). IsFormed (place_of c me d q u) o.next (state_at d q u)) db d
    (by_key (λ (q : List ℕ). IsFormed (place_of c me db q u) o.next (state_at db q u)) key q
    (formed_same at o.next _ _ _ _ floor (k.seen l ∙ formed_is_kept (record at { floor = o.floor }) o.next o.state f.form f.tracks) f)
    (λ m. formed_same (place_of c me db q n) o.next _ _ _ _ floor (k.other_keys q m) (formed_under (place_of c me db q n) n.next o.floor o.next (state_at db q n) (counted o.floor f.form.counters.floor_limit) (h db q))))
    (λ m. formed_same (place_of c me d q n) o.next _ _ _ _ (ap (λ (x : Database). x.floor) (k.other_dbs d m)) (same_state d q n u (k.other_dbs d m))
    (formed_under (place_of c me d q n) n.next (db_at d n).floor o.next (state_at d q n) (counted _ (h d q).form.counters.floor_limit) (h d q)))

-- what an event leaves of its record is in form
pub move_formed : (c : Config) (rules : Rules) (me db : ℕ) (key : List ℕ) (e : MoveEvent) (n : Node) → is_db db ≡ true → AreFormed c me n → MayCome (state_at db key n) e → is_from_node e ≡ true →
    (move (place_of c me db key n) rules e (view db key n)).spent ≡ false →
    IsFormed (record (place_of c me db key n) { floor = (move (place_of c me db key n) rules e (view db key n)).floor }) (move (place_of c me db key n) rules e (view db key n)).next (move (place_of c me db key n) rules e (view db key n)).state
unfolding view place_of
move_formed c rules me db key e n isdb h may from unspent = left_formed (place_of c me db key n) rules e (state_at db key n) n.next _ isdb (h db key) may from refl unspent

pub moves_keep_form : MovesKeepForm
unfolding at_record acted
moves_keep_form c rules me db key e t asc l isdb h may from unspent =
    put_formed c me db key (move (place_of c me db key t.node) rules e (view db key t.node)) t.node asc l h (move_formed c rules me db key e t.node isdb h may from (no_left t.spent _ unspent))
