-- Where a generation began with rows, the world of each record and its register are those with which the law of one record begins.
use Rattle.std.proofs.Common.{◌≡◌, ℕ, zero, suc, Bool, true, false, cond, List, [], ◌∷◌, Option, Some, None, refl, sym, ◌∙◌, ap, subst, ⊎_elim}
use Rattle.std.specs.Prelude.{nat_eq, slice_get, ◌&&◌, ◌⊎◌}
use Rattle.std.proofs.lemmas.Bool.{and_parts, cond_both, eqb-true}
use Rattle.ct_values.specs.declared.config.Config.{Config}
use Rattle.ct_frame.specs.declared.frame.Frame.{Frame}
use Rattle.ct_frame.specs.declared.frame.TableRow.{TableRow}
use Rattle.ct_call.specs.Rules.{Rules}
use Rattle.ct_store.specs.Map.{Pairs, look}
use Rattle.ct_rules.specs.State.{nothing_kept}
use Rattle.ct_rules.specs.declared.state.RecState.{RecState}
use Rattle.ct_rules.specs.declared.state.Wish.{Wish}
use Rattle.ct_rules_node.specs.Admission.{record_in}
use Rattle.ct_rules_node.specs.Node.{Node, db_at, state_at, master_of, or_nothing, is_among, has_records, kind_at}
use Rattle.ct_rules_node.specs.Rounds.{installed_state}
use Rattle.ct_rules_cluster.specs.Cluster.{Cluster, Sent, node_at, sent_at}
use Rattle.ct_register.proofs.Small.{some_not_none}
use Rattle.ct_promise.specs.Born as began
use Rattle.ct_promise.specs.Born.{Rows, IsBornWith}
use Rattle.ct_law_record.specs.World.{View, Mail, World, bare, born, born_state}
use Rattle.ct_law_generation.specs.Shown.{Era, scene, view, is_it, mail_of, mails, project}

-- ---- the generation

-- the generation, followed from this cluster on
abbrev pub era_from : ℕ → List ℕ → Cluster → Era
era_from g members w = record { number = g; members = members; thawed = false; alone = true; start = λ db key. project g db key w }

-- the next request number of each node
abbrev pub numbers_in : Cluster → ℕ → ℕ
numbers_in w n = (node_at n w).next

-- the call of each node that waits for the record
abbrev pub wishes_in : ℕ → List ℕ → Cluster → ℕ → Option Wish
wishes_in db key w n = (state_at db key (node_at n w)).wish

-- ---- nothing was sent about any record

mail_none : (g db : ℕ) (key : List ℕ) (f : Frame) (o : Option (ℕ × List ℕ)) → (f.generation ≡ g → o ≡ None) → mail_of g db key f o ≡ []
unfolding mail_of
mail_none g db key f None h = refl
mail_none g db key f (Some r) h = cond_both (nat_eq f.generation g && is_it db key r.0 r.1) _ [] (λ (l : List Mail). l ≡ [])
    (λ t. absurd (some_not_none (h (eqb-true f.generation g (and_parts _ _ t).0)))) (λ _. refl)

no_mails : (g db : ℕ) (key : List ℕ) (ss : List Sent) → ((k : ℕ) (s : Sent) → slice_get ss k ≡ Some s → s.frame.generation ≡ g → record_in s.frame.msg ≡ None) → mails g db key ss ≡ []
unfolding mails
no_mails g db key [] h = refl
no_mails g db key (s ∷ ss) h = rw (mail_none g db key s.frame (record_in s.frame.msg) (h zero s refl)) (no_mails g db key ss (λ k. h (suc k)))

-- there is no message of the generation that speaks of the record
pub born_silent : (config : Config) (g : ℕ) (members : List ℕ) (row : Rows) (w : Cluster) → IsBornWith config g members row w → (db : ℕ) (key : List ℕ) → mails g db key w.sent ≡ []
unfolding sent_at
born_silent config g members row w h db key = no_mails g db key w.sent (λ k s e. h.silent (suc k) s e)

-- ---- what the nodes have of a record

-- where a node keeps no records
pub state_none : (db : ℕ) (key : List ℕ) (x : Node) → (db_at db x).records ≡ [] → state_at db key x ≡ nothing_kept
unfolding state_at or_nothing
state_none db key x e = ap (λ (m : Pairs RecState). or_nothing (look key m)) e

-- nothing but a wish is kept, where nothing is
only_wish : (s : RecState) → s ≡ nothing_kept → s ≡ record nothing_kept { wish = s.wish }
only_wish s e = e ∙ sym (ap (λ (x : RecState). record nothing_kept { wish = x.wish }) e)

-- the view of a node, by the state of the record and the floor
pub seen_as : (db : ℕ) (key : List ℕ) (x : Node) (s : RecState) → state_at db key x ≡ s → (db_at db x).floor ≡ 0 → view db key x ≡ record { state = s; next = x.next; floor = 0 }
seen_as db key x s e f = λ i. record { state = e i; next = x.next; floor = f i }

-- what follows where a test succeeds, and where it fails, follows
pub by_test : {P : Type 0} (b : Bool) → (b ≡ true → P) → (b ≡ false → P) → P
by_test true holds fails = holds refl
by_test false holds fails = fails refl

-- what holds of a member, and of every other node, holds of all
pub of_all : (P : ℕ → Type 0) (members : List ℕ) → ((n : ℕ) → is_among n members ≡ true → P n) → ((n : ℕ) → is_among n members ≡ false → P n) → (n : ℕ) → P n
of_all P members inside outside n = by_test (is_among n members) (inside n) (outside n)

-- the view of a record at a member
pub member_view : (config : Config) (g : ℕ) (members : List ℕ) (row : Rows) (w : Cluster) → IsBornWith config g members row w → (db : ℕ) (key : List ℕ) (n : ℕ) → is_among n members ≡ true →
    has_records (kind_at config db) ≡ true →
    view db key (node_at n w) ≡ record { state = began.born_state n (master_of members key) (row db key) (wishes_in db key w n); next = numbers_in w n; floor = 0 }
member_view config g members row w h db key n t of = (let b = h.born n t in seen_as db key (node_at n w) _ (b.records db key of) (b.floors db))

-- the view of a node of whose database nothing is kept
empty_view : (db : ℕ) (key : List ℕ) (x : Node) → (db_at db x).records ≡ [] → (db_at db x).floor ≡ 0 → view db key x ≡ record { state = record nothing_kept { wish = (state_at db key x).wish }; next = x.next; floor = 0 }
empty_view db key x e f = seen_as db key x _ (only_wish (state_at db key x) (state_none db key x e)) f

outside_view : (config : Config) (g : ℕ) (members : List ℕ) (row : Rows) (w : Cluster) → IsBornWith config g members row w → (db : ℕ) (key : List ℕ) (n : ℕ) → is_among n members ≡ false →
    view db key (node_at n w) ≡ record { state = record nothing_kept { wish = wishes_in db key w n }; next = numbers_in w n; floor = 0 }
outside_view config g members row w h db key n f = (let b = h.left n f in empty_view db key (node_at n w) (b.records db) (b.floors db))

other_view : (config : Config) (g : ℕ) (members : List ℕ) (row : Rows) (w : Cluster) → IsBornWith config g members row w → (db : ℕ) (key : List ℕ) (n : ℕ) → has_records (kind_at config db) ≡ false →
    view db key (node_at n w) ≡ record { state = record nothing_kept { wish = wishes_in db key w n }; next = numbers_in w n; floor = 0 }
other_view config g members row w h db key n none =
    of_all (λ (k : ℕ). view db key (node_at k w) ≡ record { state = record nothing_kept { wish = wishes_in db key w k }; next = numbers_in w k; floor = 0 }) members
    (λ k t. (let b = h.born k t in empty_view db key (node_at k w) (b.others db none) (b.floors db)))
    (λ k f. outside_view config g members row w h db key k f) n

-- ---- the world of a record

-- worlds by their views
same_world : (nodes views : ℕ → View) (mail : List Mail) → ((n : ℕ) → nodes n ≡ views n) → mail ≡ [] → ◌≡◌ {A = World} (record { nodes = nodes; joined = λ _. true; mail = mail }) (record { nodes = views; joined = λ _. true; mail = [] })
same_world nodes views mail each none = λ i. record { nodes = λ n. each n i; joined = λ _. true; mail = none i }

-- the record has a row: what members have of it is what the installation makes of that
pub row_world : (config : Config) (era : Era) (rules : Rules) (row : Rows) (w : Cluster) → IsBornWith config era.number era.members row w → (db : ℕ) (key : List ℕ) (x : TableRow) →
    has_records (kind_at config db) ≡ true → row db key ≡ Some x →
    project era.number db key w ≡ born (scene config era rules db key) x (λ _. true) (numbers_in w) (wishes_in db key w)
unfolding born_state began.born_state
row_world config era rules row w h db key x of is =
    same_world (λ n. view db key (node_at n w)) (λ n. record { state = born_state (scene config era rules db key) x n (wishes_in db key w n); next = numbers_in w n; floor = 0 }) (mails era.number db key w.sent)
    (of_all (λ (n : ℕ). view db key (node_at n w) ≡ record { state = born_state (scene config era rules db key) x n (wishes_in db key w n); next = numbers_in w n; floor = 0 }) era.members inside outside)
    (born_silent config era.number era.members row w h db key)
  where
    at_row : (n : ℕ) → RecState
    at_row n = installed_state n (master_of era.members key) x (record nothing_kept { wish = wishes_in db key w n })

    bared : (n : ℕ) → RecState
    bared n = record nothing_kept { wish = wishes_in db key w n }

    inside : (n : ℕ) → is_among n era.members ≡ true → view db key (node_at n w) ≡ record { state = born_state (scene config era rules db key) x n (wishes_in db key w n); next = numbers_in w n; floor = 0 }
    inside n t = subst (λ (b : Bool). view db key (node_at n w) ≡ record { state = cond b (at_row n) (bared n); next = numbers_in w n; floor = 0 }) (sym t)
        (subst (λ (o : Option TableRow). view db key (node_at n w) ≡ record { state = began.born_state n (master_of era.members key) o (wishes_in db key w n); next = numbers_in w n; floor = 0 }) is
        (member_view config era.number era.members row w h db key n t of))

    outside : (n : ℕ) → is_among n era.members ≡ false → view db key (node_at n w) ≡ record { state = born_state (scene config era rules db key) x n (wishes_in db key w n); next = numbers_in w n; floor = 0 }
    outside n f = subst (λ (b : Bool). view db key (node_at n w) ≡ record { state = cond b (at_row n) (bared n); next = numbers_in w n; floor = 0 }) (sym f)
        (outside_view config era.number era.members row w h db key n f)

-- nothing but calls is kept of the record: it has no row, or its database is none of records
abbrev pub HasNoRow : Config → Rows → ℕ → List ℕ → Type 0
HasNoRow config row db key = ((has_records (kind_at config db) ≡ true) × (row db key ≡ None)) ⊎ (has_records (kind_at config db) ≡ false)

pub bare_world : (config : Config) (g : ℕ) (members : List ℕ) (row : Rows) (w : Cluster) → IsBornWith config g members row w → (db : ℕ) (key : List ℕ) → HasNoRow config row db key →
    project g db key w ≡ bare (λ _. true) (numbers_in w) (wishes_in db key w)
unfolding began.born_state
bare_world config g members row w h db key no_row =
    same_world (λ n. view db key (node_at n w)) (λ n. record { state = record nothing_kept { wish = wishes_in db key w n }; next = numbers_in w n; floor = 0 }) (mails g db key w.sent)
    (⊎_elim (λ (a : (has_records (kind_at config db) ≡ true) × (row db key ≡ None)). of_all (λ (n : ℕ). view db key (node_at n w) ≡ record { state = record nothing_kept { wish = wishes_in db key w n }; next = numbers_in w n; floor = 0 }) members
    (λ n t. subst (λ (o : Option TableRow). view db key (node_at n w) ≡ record { state = began.born_state n (master_of members key) o (wishes_in db key w n); next = numbers_in w n; floor = 0 }) a.1 (member_view config g members row w h db key n t a.0))
    (λ n f. outside_view config g members row w h db key n f))
    (λ (none : has_records (kind_at config db) ≡ false). λ n. other_view config g members row w h db key n none) no_row)
    (born_silent config g members row w h db key)
