-- What a round and a stop make of a whole node, database by database.
use Rattle.std.proofs.Common.{◌≡◌, ℕ, zero, suc, ◌+◌, ◌<◌, Bool, true, false, cond, ◌||◌, List, [], ◌∷◌, length, map, Option, Some, None, refl, sym, ◌∙◌, ap, subst, arith}
use Rattle.std.proofs.lemmas.Bool.{or_parts}
use Rattle.std.specs.Prelude.{slice_get, is_some}
use Rattle.std.specs.Ordering.{is_eq}
use Rattle.std.specs.List.Sorted.{IsStrictlySortedBy}
use Rattle.ct_values.specs.Key.{key_cmp}
use Rattle.ct_values.specs.declared.address.Address.{Address}
use Rattle.ct_values.specs.declared.config.Config.{Config}
use Rattle.ct_frame.specs.declared.event.Event.TheVariants as event
use Rattle.ct_frame.specs.declared.frame.Assigned.{Assigned}
use Rattle.ct_frame.specs.declared.frame.Frame.{Frame}
use Rattle.ct_frame.specs.declared.frame.Msg.{Msg}
use Rattle.ct_frame.specs.declared.frame.Msg.TheVariants as msg
use Rattle.ct_frame.specs.declared.frame.PTable.{PTable}
use Rattle.ct_frame.specs.declared.frame.TableRow.{TableRow}
use Rattle.ct_call.specs.Rules.{Rules}
use Rattle.ct_store.specs.Map.{Pairs, Ascends, look}
use Rattle.ct_store.proofs.Maps.{one_key, equal}
use Rattle.ct_rules.specs.declared.state.RecState.{RecState}
use Rattle.ct_rules_node.specs.Node.{Node, Database, untouched, or_untouched, or_nothing, db_at, state_at, is_frozen_in, is_present_in, restarted_db, restarted}
use Rattle.ct_rules_node.specs.Turn.{Turn, does, with_node, notes, posts}
use Rattle.ct_rules_node.specs.Clients.{is_locked, any_locked_in, any_locked}
use Rattle.ct_rules_node.specs.Rounds.{changed, frozen_db, freezes, releases, installed_db, installed_dbs, installed_node, installs, on_push}
use Rattle.ct_rules_node.specs.Admission.{is_sound}
use Rattle.ct_rules_node.specs.Steps.{if_sound, arrives, happens}
use Rattle.ct_law_rules_node.specs.NodeLaws.{AllAscend, NodeAscends, SeesLocks}
use Rattle.ct_law_rules_node.proofs.Keys.{below_unseen}
use Rattle.ct_law_rules_node.proofs.Installed.{own_key}

-- ---- each database by itself

frozen_at : (dbs : List Database) (i : ℕ) → or_untouched (slice_get (map frozen_db dbs) i) ≡ frozen_db (or_untouched (slice_get dbs i))
unfolding or_untouched untouched frozen_db changed
frozen_at [] i = refl
frozen_at (d ∷ ds) zero = refl
frozen_at (d ∷ ds) (suc i) = frozen_at ds i

pub freezes_each : (g h db : ℕ) (t : Turn) → db_at db (freezes g h t).node ≡ frozen_db (db_at db t.node)
unfolding db_at freezes with_node
freezes_each g h db t = frozen_at t.node.dbs db

restarted_at : (dbs : List Database) (i : ℕ) → or_untouched (slice_get (map restarted_db dbs) i) ≡ restarted_db (or_untouched (slice_get dbs i))
unfolding or_untouched untouched restarted_db
restarted_at [] i = refl
restarted_at (d ∷ ds) zero = refl
restarted_at (d ∷ ds) (suc i) = restarted_at ds i

pub restarts_each : (c : Config) (n : Node) (db : ℕ) → db_at db (restarted c n) ≡ restarted_db (db_at db n)
unfolding db_at restarted
restarts_each c n db = restarted_at n.dbs db

installed_here : (me i k j : ℕ) (members : List ℕ) (table : List TableRow) (ptables : List PTable) (dbs : List Database) → j ≡ i + k → k < length dbs
    → or_untouched (slice_get (installed_dbs me i members table ptables dbs) k) ≡ installed_db me j members table ptables (or_untouched (slice_get dbs k))
unfolding installed_dbs or_untouched
installed_here me i k j members table ptables [] e l = absurd (omega arith)
installed_here me i zero j members table ptables (d ∷ ds) e l = ap (λ (x : ℕ). installed_db me x members table ptables d) (omega arith)
installed_here me i (suc k) j members table ptables (d ∷ ds) e l = installed_here me (i + 1) k j members table ptables ds (omega arith) (omega arith)

pub installs_dbs : (c : Config) (me h g : ℕ) (members : List ℕ) (table : List TableRow) (ptables : List PTable) (assigned : List Assigned) (n : Node) (db : ℕ) → db < length n.dbs
    → db_at db (installed_node c me h g members table ptables assigned n) ≡ installed_db me db members table ptables (db_at db n)
unfolding db_at installed_node
installs_dbs c me h g members table ptables assigned n db l = installed_here me 0 db db members table ptables n.dbs (omega arith) l

-- ---- the whole Push

releases_node : (xs : List Address) (u : Turn) → (releases xs u).node ≡ u.node
unfolding releases notes does
releases_node [] u = refl
releases_node (a ∷ rest) u = releases_node rest _

installs_node : (c : Config) (me h g : ℕ) (members : List ℕ) (table : List TableRow) (ptables : List PTable) (assigned : List Assigned) (t : Turn) → (installs c me h g members table ptables assigned t).node ≡ installed_node c me h g members table ptables assigned t.node
unfolding installs notes does with_node
installs_node c me h g members table ptables assigned t = releases_node _ _

taken_node : (b : Bool) (t u : Turn) (n : Node) → b ≡ true → u.node ≡ n → (cond b u t).node ≡ n
taken_node true t u n e i = i
taken_node false t u n e i = absurd (cc)

pub installs_frozen : (c : Config) (rules : Rules) (me : ℕ) (t : Turn) (f : Frame) (members : List ℕ) (table : List TableRow) (ptables : List PTable) (assigned : List Assigned) → f.msg ≡ msg.Push members table ptables assigned
    → is_sound c f ≡ true → is_frozen_in f.generation t.node.phase ≡ true → (happens c rules me t (event.Arrive f)).node ≡ installed_node c me f.sender f.generation members table ptables assigned t.node
unfolding happens arrives if_sound on_push posts does
installs_frozen c rules me t f members table ptables assigned e s z =
    ap (λ (m : Msg). (arrives c rules me f t m).node) e
    ∙ taken_node (is_sound c f) t (on_push c me f.sender f.generation members table ptables assigned t) _ s
    (taken_node (is_frozen_in f.generation t.node.phase) _ (posts f.generation me f.sender msg.PushAck (installs c me f.sender f.generation members table ptables assigned t)) _ z (installs_node c me f.sender f.generation members table ptables assigned t))

node_of : (b : Bool) (t u : Turn) → u.node ≡ t.node → (cond b u t).node ≡ t.node
node_of true t u e = e
node_of false t u e = refl

unless_frozen : (b : Bool) (t u v : Turn) → b ≡ false → v.node ≡ t.node → (cond b u v).node ≡ t.node
unless_frozen true t u v f e = absurd (cc)
unless_frozen false t u v f e = e

pub pushed_alone : (c : Config) (rules : Rules) (me : ℕ) (t : Turn) (f : Frame) (members : List ℕ) (table : List TableRow) (ptables : List PTable) (assigned : List Assigned) → f.msg ≡ msg.Push members table ptables assigned
    → is_frozen_in f.generation t.node.phase ≡ false → (happens c rules me t (event.Arrive f)).node ≡ t.node
unfolding happens arrives if_sound on_push posts does
pushed_alone c rules me t f members table ptables assigned e n =
    ap (λ (m : Msg). (arrives c rules me f t m).node) e
    ∙ node_of (is_sound c f) t (on_push c me f.sender f.generation members table ptables assigned t)
    (unless_frozen (is_frozen_in f.generation t.node.phase) t (posts f.generation me f.sender msg.PushAck (installs c me f.sender f.generation members table ptables assigned t)) _ n
    (node_of (is_present_in f.generation t.node) t (posts f.generation me f.sender msg.PushAck t) refl))

-- ---- the test for locks

none_locked_in : (m : Pairs RecState) (key : List ℕ) → any_locked_in m ≡ false → is_some (or_nothing (look key m)).locked ≡ false
unfolding any_locked_in or_nothing
none_locked_in [] key e = refl
none_locked_in (x ∷ m) key e =
    let n = or_parts (is_some x.1.locked) _ e in
    let r = none_locked_in m key n.1 in
    elim (is_eq (key_cmp key x.0)) as (λ b. is_some (or_nothing (cond b (Some x.1) (look key m))).locked ≡ false) [ true ↦ n.0 | false ↦ r ]

none_locked : (dbs : List Database) (db : ℕ) (key : List ℕ) → any_locked dbs ≡ false → is_some (or_nothing (look key (or_untouched (slice_get dbs db)).records)).locked ≡ false
unfolding any_locked or_untouched untouched or_nothing
none_locked [] db key e = refl
none_locked (d ∷ ds) zero key e = none_locked_in d.records key (or_parts (any_locked_in d.records) _ e).0
none_locked (d ∷ ds) (suc db) key e = none_locked ds db key (or_parts (any_locked_in d.records) _ e).1

no_lock : (o : Option RecState) → o ≡ None → is_some (or_nothing o).locked ≡ false
unfolding or_nothing
no_lock o e = ap (λ (x : Option RecState). is_some (or_nothing x).locked) e

found_after : (q : List ℕ) (x : List ℕ × RecState) (m : Pairs RecState) (t : Bool) → is_eq (key_cmp q x.0) ≡ t → look x.0 m ≡ None → is_some (or_nothing (look q m)).locked ≡ true → is_some (or_nothing (cond t (Some x.1) (look q m))).locked ≡ true
found_after q x m true e n l =
    let f : is_some (or_nothing (look q m)).locked ≡ false = no_lock (look q m) (subst (λ (k : List ℕ). look k m ≡ None) (sym (one_key q x.0 (equal _ e))) n) in
    absurd (cc)
found_after q x m false e n l = l

locked_in : (m : Pairs RecState) → Ascends m → any_locked_in m ≡ true → (key : List ℕ) × (is_some (or_nothing (look key m)).locked ≡ true)
unfolding any_locked_in or_nothing IsStrictlySortedBy
locked_in [] h e = absurd (cc)
locked_in (x ∷ m) h e =
    elim (is_some x.1.locked) as (λ b. is_some x.1.locked ≡ b → (b || any_locked_in m) ≡ true → (key : List ℕ) × (is_some (or_nothing (look key (x ∷ m))).locked ≡ true)) [
      | true ↦ λ i _. (x.0, ap (λ (b : Bool). is_some (or_nothing (cond b (Some x.1) (look x.0 m))).locked) (own_key x.0) ∙ i)
      | false ↦ λ _ r. (let k = locked_in m h.1 r in (k.0, found_after k.0 x m (is_eq (key_cmp k.0 x.0)) refl (below_unseen x.0 m h.0) k.1))
    ] refl e

one_locked : (dbs : List Database) → AllAscend dbs → any_locked dbs ≡ true → (db : ℕ) × (key : List ℕ) × (is_some (or_nothing (look key (or_untouched (slice_get dbs db)).records)).locked ≡ true)
unfolding any_locked or_untouched AllAscend
one_locked [] h e = absurd (cc)
one_locked (d ∷ ds) h e =
    elim (any_locked_in d.records) as (λ b. any_locked_in d.records ≡ b → (b || any_locked ds) ≡ true → (db : ℕ) × (key : List ℕ) × (is_some (or_nothing (look key (or_untouched (slice_get (d ∷ ds) db)).records)).locked ≡ true)) [
      | true ↦ λ i _. (let k = locked_in d.records h.0 i in (0, k.0, k.1))
      | false ↦ λ _ r. (let k = one_locked ds h.1 r in (suc k.0, k.1, k.2))
    ] refl e

pub sees_locks : (n : Node) → NodeAscends n → SeesLocks n
unfolding is_locked state_at db_at
sees_locks n h = record { all = λ e db key. none_locked n.dbs db key e; one = one_locked n.dbs h }
