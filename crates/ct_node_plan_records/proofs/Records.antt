-- Vacuum of one key, seen at every key of the database.
use Rattle.std.proofs.Common.{◌≡◌, ◌≢◌, ◌∙◌, ℕ, ◌<◌, Bool, true, false, cond, not, ◌||◌, List, [], ◌∷◌, append-nil, length, Option, Some, None, refl, ap, sym}
use Rattle.std.proofs.lemmas.Bool.{eqb-true}
use Rattle.std.proofs.lemmas.List.{length-set}
use Rattle.std.specs.Prelude.{◌==◌, ◌&&◌, is_none, nat_eq, slice_get}
use Rattle.ct_values.specs.Words.{is_nil, others}
use Rattle.ct_node_database.specs.Noted.{is_deleted, is_worth}
use Rattle.ct_frame.specs.Header.{nobody}
use Rattle.ct_frame.specs.declared.header.RecCopy.{RecCopy}
use Rattle.ct_values.specs.declared.config.Config.{Config}
use Rattle.ct_law_form.specs.Form.{IsWorth, LeavesAll}
use Rattle.ct_law_form.proofs.Formed.{by_key}
use Rattle.ct_law_form.proofs.Still.{nothing_moves}
use Rattle.ct_rules.specs.Moves.{is_vacuumed, vacuum, vacuum_at_home}
use Rattle.ct_rules.specs.Parts.{Moving, give}
use Rattle.ct_rules.specs.State.{is_blank, is_free, is_mastered, is_quiet, value_of}
use Rattle.ct_rules.specs.declared.state.RecState.{RecState}
use Rattle.ct_law_rules_node.specs.NodeLaws.{NodeAscends, unless_blank}
use Rattle.ct_rules_node.specs.Node.{Node, Database, db_at, or_untouched, state_at, with_db}
use Rattle.ct_rules_node.specs.Records.{acted, at_record, kept, place_of, put_back, view}
use Rattle.ct_rules_node.specs.Turn.{Turn}
use Rattle.ct_law_rules_node.proofs.AtRecord.{at_ascends, at_set, moves_at}
use Rattle.ct_law_rules_node.proofs.Keys.{kept_others, kept_seen}
use Rattle.ct_store.specs.Map.{Pairs, Ascends, look}
use Rattle.ct_node_plan_records.specs.Keys.{is_deleted_at, vacuum_key, vacuum_keys}

-- ---- a record that is not a deleted one stays as it is

no_more : (a b c d e f : Bool) → a && b ≡ false → a && b && c && d && e && f ≡ false
no_more a b c d e f h = ap (λ (x : Bool). x && c && d && e && f) h

held_full : (me : ℕ) (copy : Option RecCopy) (locked quiet : Bool) → me ≢ nobody → is_deleted copy ≡ false → is_mastered me copy && locked && quiet && is_nil (value_of copy) ≡ false
unfolding is_deleted is_mastered value_of
held_full me None locked quiet n d = refl
held_full me (Some c) locked quiet n d = by (c.header.dmaster == me) refl
  where
    full : (b : Bool) → (c.header.dmaster == nobody) ≡ b → not b && is_nil c.value ≡ false → c.header.dmaster ≡ me → is_nil c.value ≡ false
    full true e f i = absurd (n (sym i ∙ eqb-true _ _ e))
    full false e f i = f

    last : (b : Bool) → b && false ≡ false
    last true = refl
    last false = refl

    by : (b : Bool) → (c.header.dmaster == me) ≡ b → b && locked && quiet && is_nil c.value ≡ false
    by true e = ap (λ (x : Bool). true && locked && quiet && x) (full (c.header.dmaster == nobody) refl d (eqb-true _ _ e)) ∙ last (true && locked && quiet)
    by false e = refl

not_vacuumed : (me : ℕ) (s : RecState) → me ≢ nobody → is_deleted s.copy ≡ false → is_vacuumed me s ≡ false
unfolding is_vacuumed is_free
not_vacuumed me s n d =
    no_more (is_free me s) (is_nil (value_of s.copy)) (is_nil s.tracking.tracked) (is_nil s.waiting) (is_nil s.queue) (is_none s.wish) (held_full me s.copy (is_none s.locked) (is_quiet s.tracking) n d)

or_false : (b : Bool) → (b || false) ≡ b
or_false true = refl
or_false false = refl

pub worth_of : (x : Option RecState) → is_worth x ≡ true → IsWorth x
unfolding is_worth IsWorth
worth_of None e = tt
worth_of (Some s) e = by (is_blank s) e
  where
    by : (b : Bool) → not b ≡ true → b ≡ false
    by true e = absurd (cc)
    by false e = refl

-- no blank state is kept in the database
abbrev pub Worth : ℕ → Node → Type 0
Worth db n = (key : List ℕ) → is_worth (look key (db_at db n).records) ≡ true

pub skipped : (c : Config) (me db : ℕ) (key : List ℕ) (t : Turn) → me ≢ nobody → NodeAscends t.node → db < length t.node.dbs → Worth db t.node → is_deleted_at db t.node key ≡ false → vacuum_key c me db key t ≡ t
unfolding vacuum_key at_record acted view LeavesAll vacuum place_of
skipped c me db key t n a l w d =
    let at = place_of c me db key t.node in
    let o = view db key t.node in
    let ns = others me t.node.members in
    let still = ap (λ (b : Bool). cond b (cond (nat_eq at.me at.lmaster) (vacuum_at_home at ns o o.state.vacuum) (give at o)) o) (not_vacuumed me (state_at db key t.node) n d) in
    let same = nothing_moves c me db key (λ at o. o) t a l (worth_of _ (w key)) (refl, refl, refl) in
    ap (λ (p : Moving). acted me db key p t) still ∙ (λ i. record { node = same i; outs = append-nil t.outs i; spent = or_false t.spent i })

-- ---- what stays at all keys

worth_kept : (key : List ℕ) (s : RecState) (m : Pairs RecState) → Ascends m → ((q : List ℕ) → is_worth (look q m) ≡ true) → (q : List ℕ) → is_worth (look q (kept key s m)) ≡ true
unfolding is_worth unless_blank
worth_kept key s m a w q = by_key (λ (q : List ℕ). is_worth (look q (kept key s m)) ≡ true) key q (ap is_worth (kept_seen key s m a) ∙ by (is_blank s) refl) (λ n. ap is_worth (kept_others key s m q n) ∙ w q)
  where
    by : (b : Bool) → is_blank s ≡ b → is_worth (cond b None (Some s)) ≡ true
    by true e = refl
    by false e = ap not e

-- a vacuum of a key keeps the members, the number of databases, the order of their records, and that no blank state is kept
pub same_members : (c : Config) (me db : ℕ) (key : List ℕ) (t : Turn) → (vacuum_key c me db key t).node.members ≡ t.node.members
unfolding vacuum_key at_record acted put_back
same_members c me db key t = refl

pub same_length : (c : Config) (me db : ℕ) (key : List ℕ) (t : Turn) → length (vacuum_key c me db key t).node.dbs ≡ length t.node.dbs
unfolding vacuum_key at_record acted put_back with_db
same_length c me db key t = length-set t.node.dbs db _

pub still_ascends : (c : Config) (me db : ℕ) (key : List ℕ) (t : Turn) → NodeAscends t.node → NodeAscends (vacuum_key c me db key t).node
unfolding vacuum_key
still_ascends c me db key t a = (moves_at c me db key _ t a).order

pub still_worth : (c : Config) (me db : ℕ) (key : List ℕ) (t : Turn) → NodeAscends t.node → db < length t.node.dbs → Worth db t.node → Worth db (vacuum_key c me db key t).node
unfolding vacuum_key at_record acted put_back with_db db_at
still_worth c me db key t a l w q =
    let o = vacuum (place_of c me db key t.node) (others me t.node.members) (view db key t.node) in
    let d = or_untouched (slice_get t.node.dbs db) in
    ap (λ (x : Database). is_worth (look q x.records)) (at_set t.node.dbs db _ l) ∙ worth_kept key o.state d.records (at_ascends t.node.dbs db a) w q

-- the records of other keys stay
pub same_others : (c : Config) (me db : ℕ) (key : List ℕ) (t : Turn) (q : List ℕ) → NodeAscends t.node → q ≢ key → state_at db q (vacuum_key c me db key t).node ≡ state_at db q t.node
unfolding vacuum_key
same_others c me db key t q a n = (moves_at c me db key _ t a).other_keys q n

-- a number that reached 2^62 stays so
pub key_spent : (c : Config) (me db : ℕ) (key : List ℕ) (t : Turn) → t.spent ≡ true → (vacuum_key c me db key t).spent ≡ true
unfolding vacuum_key at_record acted
key_spent c me db key t e = ap (λ (b : Bool). b || (vacuum (place_of c me db key t.node) (others me t.node.members) (view db key t.node)).spent) e

pub keys_spent : (c : Config) (me db : ℕ) (keys : List (List ℕ)) (t : Turn) → t.spent ≡ true → (vacuum_keys c me db keys t).spent ≡ true
unfolding vacuum_keys
keys_spent c me db [] t e = e
keys_spent c me db (key ∷ keys) t e = keys_spent c me db keys (vacuum_key c me db key t) (key_spent c me db key t e)
