-- Each part of a node's step keeps the numbers of the calls that wait below one.
use Rattle.std.proofs.Common.{ℕ, zero, suc, ◌+◌, List, [], ◌∷◌, map, Option, Some, None}
use Rattle.std.proofs.lemmas.Bool.{cond_both}
use Rattle.std.specs.Prelude.{nat_eq, slice_get}
use Rattle.std.specs.List.{AllByRecursion}
use Rattle.std.specs.Ordering.{match_ordering}
use Rattle.std.specs.declared.cmp.Ordering.TheVariants.{Less, Equal, Greater}
use Rattle.std.specs.BTreeMap.{is_at}
use Rattle.ct_values.specs.Key.{key_cmp}
use Rattle.ct_values.specs.declared.config.Config.{Config}
use Rattle.ct_frame.specs.declared.frame.PTable.{PTable}
use Rattle.ct_frame.specs.declared.frame.TableRow.{TableRow}
use Rattle.ct_store.specs.Map.{Pairs, erase, look, write}
use Rattle.ct_rules.specs.Parts.{Moving}
use Rattle.ct_rules.specs.State.{is_blank}
use Rattle.ct_rules.specs.declared.event.Place.{Place}
use Rattle.ct_rules.specs.declared.state.RecState.{RecState}
use Rattle.ct_rules_node.specs.Node.{Database, Node, db_at, or_nothing, or_untouched, state_at, untouched, with_db}
use Rattle.ct_rules_node.specs.Records.{acted, at_record, kept, place_of, put_back, view}
use Rattle.ct_rules_node.specs.Rounds.{bared, changed, frozen_db, frozen_state, install_row, install_rows, installed_db, installed_dbs, installed_state}
use Rattle.ct_rules_node.specs.Turn.{Turn}
use Rattle.ct_law_rules_node.proofs.AtRecord.{all_set}
use Rattle.ct_law_wishes.proofs.Wishing.{Wishful}
use Rattle.ct_law_form_cluster.proofs.Below.{BaseBelow, CommitBelow, NodeBelow, WishBelow}

-- all states of a map
abbrev pub AllBelow : ℕ → Pairs RecState → Type 0
AllBelow b m = AllByRecursion (λ e. WishBelow b e.1) m

-- ---- one map

none_below : (b : ℕ) → WishBelow b (or_nothing None)
unfolding or_nothing Wishful
none_below b = tt

pub look_below : (b : ℕ) (key : List ℕ) (m : Pairs RecState) → AllBelow b m → WishBelow b (or_nothing (look key m))
unfolding or_nothing
look_below b key [] h = none_below b
look_below b key (e ∷ m) h = cond_both (is_at (key_cmp key) e.0) (Some e.1) (look key m) (λ (o : Option RecState). WishBelow b (or_nothing o)) (λ _. h.0) (λ _. look_below b key m h.1)

write_below : (b : ℕ) (key : List ℕ) (s : RecState) (m : Pairs RecState) → WishBelow b s → AllBelow b m → AllBelow b (write key s m)
write_below b key s [] w h = (w, tt)
write_below b key s (e ∷ m) w h =
    let rest = write_below b key s m w h.1 in
    elim (key_cmp key e.0) as (λ r. AllBelow b (match_ordering r ((key, s) ∷ e ∷ m) ((e.0, s) ∷ m) (e ∷ write key s m))) [
      | Less ↦ (w, h)
      | Equal ↦ (w, h.1)
      | Greater ↦ (h.0, rest)
    ]

erase_below : (b : ℕ) (key : List ℕ) (m : Pairs RecState) → AllBelow b m → AllBelow b (erase key m)
erase_below b key [] h = tt
erase_below b key (e ∷ m) h = cond_both (is_at (key_cmp key) e.0) m (e ∷ erase key m) (AllBelow b) (λ _. h.1) (λ _. (h.0, erase_below b key m h.1))

pub kept_below : (b : ℕ) (key : List ℕ) (s : RecState) (m : Pairs RecState) → WishBelow b s → AllBelow b m → AllBelow b (kept key s m)
unfolding kept
kept_below b key s m w h = cond_both (is_blank s) (erase key m) (write key s m) (AllBelow b) (λ _. erase_below b key m h) (λ _. write_below b key s m w h)

pub changed_below : (b : ℕ) (f : RecState → RecState) → ((s : RecState) → WishBelow b s → WishBelow b (f s)) → (m : Pairs RecState) → AllBelow b m → AllBelow b (changed f m)
unfolding changed
changed_below b f k [] h = tt
changed_below b f k (e ∷ m) h = cond_both (is_blank (f e.1)) (changed f m) ((e.0, f e.1) ∷ changed f m) (AllBelow b) (λ _. changed_below b f k m h.1) (λ _. (k e.1 h.0, changed_below b f k m h.1))

-- ---- one database

untouched_below : (b : ℕ) → BaseBelow b untouched
unfolding untouched CommitBelow
untouched_below b = record { wishes = tt; commit = tt }

base_at : (b i : ℕ) (ds : List Database) → AllByRecursion (BaseBelow b) ds → BaseBelow b (or_untouched (slice_get ds i))
unfolding or_untouched
base_at b i [] h = untouched_below b
base_at b zero (d ∷ ds) h = h.0
base_at b (suc i) (d ∷ ds) h = base_at b i ds h.1

pub db_below : (b db : ℕ) (n : Node) → NodeBelow b n → BaseBelow b (db_at db n)
unfolding db_at
db_below b db n h = base_at b db n.dbs h

pub state_below : (b db : ℕ) (key : List ℕ) (n : Node) → NodeBelow b n → WishBelow b (state_at db key n)
unfolding state_at
state_below b db key n h = look_below b key (db_at db n).records (db_below b db n h).wishes

pub with_db_below : (b db : ℕ) (d : Database) (n : Node) → BaseBelow b d → NodeBelow b n → NodeBelow b (with_db db d n)
unfolding with_db
with_db_below b db d n k h = all_set (BaseBelow b) n.dbs db d k h

-- ---- a step at one record

pub record_below : (b : ℕ) (c : Config) (me db : ℕ) (key : List ℕ) (part : Place → Moving → Moving) (t : Turn) → ((at : Place) (o : Moving) → WishBelow b o.state → WishBelow b (part at o).state) → NodeBelow b t.node → NodeBelow b (at_record c me db key part t).node
unfolding at_record acted put_back view with_db
record_below b c me db key part t keeps h =
    let o = part (place_of c me db key t.node) (view db key t.node) in
    let d = db_below b db t.node h in
    all_set (BaseBelow b) t.node.dbs db (record (db_at db t.node) { records = kept key o.state (db_at db t.node).records; floor = o.floor })
    (record { wishes = kept_below b key o.state (db_at db t.node).records (keeps (place_of c me db key t.node) (view db key t.node) (state_below b db key t.node h)) d.wishes; commit = d.commit }) h

-- ---- all databases

frozen_below : (b : ℕ) (s : RecState) → WishBelow b s → WishBelow b (frozen_state s)
unfolding frozen_state
frozen_below b s h = h

pub frozen_dbs_below : (b : ℕ) (ds : List Database) → AllByRecursion (BaseBelow b) ds → AllByRecursion (BaseBelow b) (map frozen_db ds)
unfolding frozen_db
frozen_dbs_below b [] h = tt
frozen_dbs_below b (d ∷ ds) h = (record { wishes = changed_below b frozen_state (frozen_below b) d.records h.0.wishes; commit = h.0.commit }, frozen_dbs_below b ds h.1)

bared_below : (b : ℕ) (s : RecState) → WishBelow b s → WishBelow b (bared s)
unfolding bared
bared_below b s h = h

row_below : (b me : ℕ) (members : List ℕ) (row : TableRow) (m : Pairs RecState) → AllBelow b m → AllBelow b (install_row me members row m)
unfolding install_row installed_state
row_below b me members row m h = write_below b row.key _ m (look_below b row.key m h) h

rows_below : (b me db : ℕ) (members : List ℕ) (rows : List TableRow) (m : Pairs RecState) → AllBelow b m → AllBelow b (install_rows me db members rows m)
unfolding install_rows
rows_below b me db members [] m h = h
rows_below b me db members (row ∷ rows) m h = rows_below b me db members rows _ (cond_both (nat_eq row.db db) (install_row me members row m) m (AllBelow b) (λ _. row_below b me members row m h) (λ _. h))

pub installed_dbs_below : (b me i : ℕ) (members : List ℕ) (table : List TableRow) (ptables : List PTable) (ds : List Database) → AllByRecursion (BaseBelow b) ds → AllByRecursion (BaseBelow b) (installed_dbs me i members table ptables ds)
unfolding installed_dbs installed_db
installed_dbs_below b me i members table ptables [] h = tt
installed_dbs_below b me i members table ptables (d ∷ ds) h =
    (record { wishes = rows_below b me i members table (changed bared d.records) (changed_below b bared (bared_below b) d.records h.0.wishes); commit = h.0.commit }, installed_dbs_below b me (i + 1) members table ptables ds h.1)
