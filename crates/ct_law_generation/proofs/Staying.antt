-- What holds of every node in a generation stays so over a step at one record.
use Rattle.std.proofs.Common.{◌≡◌, ◌≢◌, ℕ, ◌<◌, ◌^◌, Bool, true, false, List, length, Option, refl, sym, ◌∙◌, arith, subst, ⊎_elim}
use Rattle.std.specs.Prelude.{bytes_eq}
use Rattle.std.proofs.lemmas.Bool.{cases_eq, and_parts, eqb-true, cases_Bool}
use Rattle.std.proofs.lemmas.List.{length-set}
use Rattle.std.proofs.lemmas.Slice.Eq.{bytes_eq-Decides}
use Rattle.ct_values.specs.declared.client.ClientOp.{ClientOp}
use Rattle.ct_values.specs.declared.config.Config.{Config}
use Rattle.ct_call.specs.Rules.{Rules}
use Rattle.ct_store.specs.Map.{Ascends, look}
use Rattle.ct_law_rules.specs.Laws.{Grows}
use Rattle.ct_rules.specs.Parts.{Moving}
use Rattle.ct_rules.specs.declared.event.Place.{Place}
use Rattle.ct_rules.specs.declared.state.RecState.{RecState}
use Rattle.ct_rules_node.specs.Node.{Node, Database, Serving, is_present, is_present_in, db_at, state_at, with_db, or_nothing, has_records, kind_at}
use Rattle.ct_rules_node.specs.Turn.{Turn}
use Rattle.ct_rules_node.specs.Records as node
use Rattle.ct_rules_node.specs.Records.{kept, put_back, acted, at_record}
use Rattle.ct_law_rules_node.specs.NodeLaws.{NodeAscends, unless_blank, left_by}
use Rattle.ct_law_rules_node.proofs.AtRecord.{moves_at, at_set, at_ascends}
use Rattle.ct_law_rules_node.proofs.Keys.{kept_seen, kept_others}
use Rattle.ct_promise.specs.Born.{has_pushed}
use Rattle.ct_law_record.specs.World.{View, view_of}
use Rattle.ct_law_generation.specs.Shown.{Era, scene, view, is_it}
use Rattle.ct_law_generation.proofs.Weave.{it_is}
use Rattle.ct_law_wishes.proofs.Wishing.{Wishful}
use Rattle.ct_law_generation.proofs.Pending.{Callers, Known, KnownAt, DatabaseKnown, NodeKnown}
use Rattle.ct_law_generation.proofs.Forming.{Is_formed, formed_rises, formed_blank}
use Rattle.ct_law_generation.proofs.Amid.{seen_same, other_state, floor_own, next_grows}

-- every call that waits at the node has this property, which may speak of its record
abbrev pub AllWishes : (ℕ → List ℕ → ℕ → ClientOp → Type 0) → Node → Type 0
AllWishes P x = (db : ℕ) (key : List ℕ) → Wishful (P db key) (state_at db key x).wish

-- the database of the call's record has records
abbrev pub Of_records : Config → ℕ → List ℕ → ℕ → ClientOp → Type 0
Of_records c db key call asked = has_records (kind_at c db) ≡ true

-- what holds of a member while no generation follows
pub record NodeStays (c : Config) (era : Era) (rules : Rules) (who : Callers) (calls n : ℕ) (x : Node) : Type 0 where
  pub present : is_present_in era.number x ≡ true
  pub knows : x.members ≡ era.members
  pub promise : x.promise ≡ era.number
  -- where no other generation is begun, it leads no round whose push is still to come
  pub lead : era.alone ≡ true → has_pushed era.number x.lead ≡ true
  pub size : length x.dbs ≡ length c.dbs
  pub known : NodeKnown who calls n x
  -- calls wait only for records of databases that have records
  pub waits : AllWishes (Of_records c) x
  -- where the generation is thawed, it serves
  pub serves : era.thawed ≡ true → x.phase ≡ Serving
  pub formed : (db : ℕ) (key : List ℕ) → Is_formed (scene c era rules db key) n (view db key x)

-- who is present in a generation is in it
pub number_of : (g : ℕ) (x : Node) → is_present_in g x ≡ true → x.generation ≡ g
unfolding is_present_in
number_of g x e = eqb-true _ _ (and_parts _ _ e).1

pub phase_of : (g : ℕ) (x : Node) → is_present_in g x ≡ true → is_present x.phase ≡ true
unfolding is_present_in
phase_of g x e = (and_parts _ _ e).0

pub of_era : (c : Config) (era : Era) (rules : Rules) (who : Callers) (calls n : ℕ) (x : Node) → NodeStays c era rules who calls n x → x.generation ≡ era.number
of_era c era rules who calls n x h = number_of era.number x h.present

-- what is asked of a step at a record so that this stays
pub record Sure (c : Config) (era : Era) (rules : Rules) (who : Callers) (calls n db : ℕ) (key : List ℕ) (part : Place → Moving → Moving) (t : Turn) : Type 0 where
  pub has : db < length t.node.dbs
  pub grows : Grows (node.view db key t.node) (left_by c n db key part t)
  pub formed : Is_formed (scene c era rules db key) n (view_of (left_by c n db key part t))
  pub known : Wishful (Known who calls n db key) (left_by c n db key part t).state.wish
  pub waits : Wishful (Of_records c db key) (left_by c n db key part t).state.wish

-- ---- the calls that wait

unless_known : (who : Callers) (calls n db : ℕ) (key : List ℕ) (s : RecState) → Wishful (Known who calls n db key) s.wish → KnownAt who calls n db key (unless_blank s)
unfolding KnownAt unless_blank or_nothing Wishful
unless_known who calls n db key s h = grind (arith, h)

-- the state that was put, or what was there
put_known : (who : Callers) (calls n db : ℕ) (key0 : List ℕ) (s : RecState) (d : Database) → DatabaseKnown who calls n db d → Ascends d.records → Wishful (Known who calls n db key0) s.wish → (key : List ℕ) → KnownAt who calls n db key (look key (kept key0 s d.records))
put_known who calls n db key0 s d h order own key = decide (bytes_eq key key0) refl
  where
    decide : (b : Bool) → bytes_eq key key0 ≡ b → KnownAt who calls n db key (look key (kept key0 s d.records))
    decide true t = (let is = (bytes_eq-Decides key key0).0 t in subst (λ (k : List ℕ). KnownAt who calls n db k (look k (kept key0 s d.records))) (sym is)
        (subst (λ (x : Option RecState). KnownAt who calls n db key0 x) (sym (kept_seen key0 s d.records order)) (unless_known who calls n db key0 s own)))
    decide false t = subst (λ (x : Option RecState). KnownAt who calls n db key x) (sym (kept_others key0 s d.records key (λ same. absurd (let u = (bytes_eq-Decides key key0).1 same in cc)))) (h.records key)

database_known : (c : Config) (era : Era) (rules : Rules) (who : Callers) (calls n db0 : ℕ) (key0 : List ℕ) (part : Place → Moving → Moving) (t : Turn) → NodeKnown who calls n t.node → Sure c era rules who calls n db0 key0 part t →
    (db : ℕ) → DatabaseKnown who calls n db (db_at db (at_record c n db0 key0 part t).node)
unfolding at_record acted put_back with_db db_at
database_known c era rules who calls n db0 key0 part t h s db = ⊎_elim
    (λ (is : db ≡ db0). subst (λ (d : ℕ). DatabaseKnown who calls n d (db_at d (at_record c n db0 key0 part t).node)) (sym is)
    (subst (λ (d : Database). DatabaseKnown who calls n db0 d) (sym (at_set t.node.dbs db0 _ s.has)) (record {
      records = put_known who calls n db0 key0 (left_by c n db0 key0 part t).state (db_at db0 t.node) (h.dbs db0) (at_ascends t.node.dbs db0 h.order) s.known;
      commit = (h.dbs db0).commit;
    })))
    (λ (ne : db ≢ db0). subst (λ (d : Database). DatabaseKnown who calls n db d) (sym ((moves_at c n db0 key0 part t h.order).other_dbs db ne)) (h.dbs db))
    (cases_eq db db0)

-- what is put is what the part left, or nothing
pub kept_wish : (P : ℕ → ClientOp → Type 0) (s : RecState) → Wishful P s.wish → Wishful P (or_nothing (unless_blank s)).wish
unfolding unless_blank or_nothing Wishful
kept_wish P s h = grind (arith, h)

-- where all calls that wait have a property, they have it after a step at a record, where the call that waits there then has it
pub wishes_at : (P : ℕ → List ℕ → ℕ → ClientOp → Type 0) (c : Config) (n db0 : ℕ) (key0 : List ℕ) (part : Place → Moving → Moving) (t : Turn) → NodeAscends t.node → db0 < length t.node.dbs → AllWishes P t.node →
    Wishful (P db0 key0) (left_by c n db0 key0 part t).state.wish → AllWishes P (at_record c n db0 key0 part t).node
wishes_at P c n db0 key0 part t order there all own db key = ⊎_elim
    (λ (is : is_it db key db0 key0 ≡ true). (let p = it_is db db0 key key0 is in
    subst (λ (k : List ℕ). Wishful (P db k) (state_at db k (at_record c n db0 key0 part t).node).wish) p.1
    (subst (λ (d : ℕ). Wishful (P d key0) (state_at d key0 (at_record c n db0 key0 part t).node).wish) p.0
    (subst (λ (s : RecState). Wishful (P db0 key0) s.wish) (sym ((moves_at c n db0 key0 part t order).seen there)) (kept_wish (P db0 key0) (left_by c n db0 key0 part t).state own)))))
    (λ (unlike : is_it db key db0 key0 ≡ false). subst (λ (s : RecState). Wishful (P db key) s.wish) (sym (other_state c n db0 db key0 key part t order unlike)) (all db key))
    (cases_Bool (is_it db key db0 key0))

-- ---- the states

other_formed : (c : Config) (era : Era) (rules : Rules) (who : Callers) (calls n db0 db : ℕ) (key0 key : List ℕ) (part : Place → Moving → Moving) (t : Turn) → NodeStays c era rules who calls n t.node → Sure c era rules who calls n db0 key0 part t →
    is_it db key db0 key0 ≡ false → Is_formed (scene c era rules db key) n (view db key (at_record c n db0 key0 part t).node)
unfolding at_record acted put_back
other_formed c era rules who calls n db0 db key0 key part t h s e =
    let u = at_record c n db0 key0 part t in
    let one = (h.formed db0 key0).form.counters.from_one in
    let up = next_grows c n db0 key0 part t s.grows in
    let floor : (db_at db u.node).floor < 2 ^ 62 = ⊎_elim
    (λ (is : db ≡ db0). subst (λ (d : ℕ). (db_at d u.node).floor < 2 ^ 62) (sym is) (subst (λ (f : ℕ). f < 2 ^ 62) (sym (floor_own c n db0 key0 part t s.has)) s.formed.form.counters.floor_limit))
    (λ (ne : db ≢ db0). subst (λ (d : Database). d.floor < 2 ^ 62) (sym ((moves_at c n db0 key0 part t h.known.order).other_dbs db ne)) (h.formed db key).form.counters.floor_limit)
    (cases_eq db db0) in
    subst (λ (x : RecState). Is_formed (scene c era rules db key) n (record { state = x; next = u.node.next; floor = (db_at db u.node).floor })) (sym (other_state c n db0 db key0 key part t h.known.order e))
    (formed_rises (scene c era rules db key) n u.node.next (db_at db u.node).floor (view db key t.node) (omega arith) s.formed.form.counters.next_limit floor (h.formed db key))

all_formed : (c : Config) (era : Era) (rules : Rules) (who : Callers) (calls n db0 : ℕ) (key0 : List ℕ) (part : Place → Moving → Moving) (t : Turn) → NodeStays c era rules who calls n t.node → Sure c era rules who calls n db0 key0 part t →
    (db : ℕ) (key : List ℕ) → Is_formed (scene c era rules db key) n (view db key (at_record c n db0 key0 part t).node)
all_formed c era rules who calls n db0 key0 part t h s db key = ⊎_elim
    (λ (is : is_it db key db0 key0 ≡ true). (let p = it_is db db0 key key0 is in
    subst (λ (k : List ℕ). Is_formed (scene c era rules db k) n (view db k (at_record c n db0 key0 part t).node)) p.1
    (subst (λ (d : ℕ). Is_formed (scene c era rules d key0) n (view d key0 (at_record c n db0 key0 part t).node)) p.0
    (subst (λ (v : View). Is_formed (scene c era rules db0 key0) n v) (sym (seen_same c n db0 key0 part t (left_by c n db0 key0 part t) refl h.known.order s.has (formed_blank (scene c era rules db0 key0) n (view_of (left_by c n db0 key0 part t)) s.formed))) s.formed))))
    (λ (unlike : is_it db key db0 key0 ≡ false). other_formed c era rules who calls n db0 db key0 key part t h s unlike)
    (cases_Bool (is_it db key db0 key0))

-- all of it stays
pub stays_at : (c : Config) (era : Era) (rules : Rules) (who : Callers) (calls n db0 : ℕ) (key0 : List ℕ) (part : Place → Moving → Moving) (t : Turn) → NodeStays c era rules who calls n t.node → Sure c era rules who calls n db0 key0 part t →
    NodeStays c era rules who calls n (at_record c n db0 key0 part t).node
unfolding at_record acted put_back with_db is_present_in
stays_at c era rules who calls n db0 key0 part t h s = record {
  serves = h.serves;
  waits = wishes_at (Of_records c) c n db0 key0 part t h.known.order s.has h.waits s.waits;
  present = h.present;
  knows = h.knows;
  promise = h.promise;
  lead = h.lead;
  size = length-set t.node.dbs db0 _ ∙ h.size;
  known = record { order = (moves_at c n db0 key0 part t h.known.order).order; dbs = database_known c era rules who calls n db0 key0 part t h.known s };
  formed = all_formed c era rules who calls n db0 key0 part t h s;
}
