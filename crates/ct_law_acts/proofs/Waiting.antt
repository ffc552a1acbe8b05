-- What every call that waits at a node has, those that wait for a record and those of commits, it keeps whatever comes; and
-- only the call of an event is new.
use Rattle.std.proofs.Common.{◌≡◌, ℕ, zero, suc, ◌+◌, true, false, cond, List, [], ◌∷◌, map, set, Option, Some, None, refl, sym, subst, arith}
use Rattle.std.specs.Prelude.{slice_get, nat_eq}
use Rattle.std.specs.declared.cmp.Ordering.TheVariants.{Less, Equal, Greater}
use Rattle.std.specs.Ordering.{is_eq, match_ordering}
use Rattle.std.specs.List.{AllByRecursion}
use Rattle.ct_values.specs.Key.{key_cmp}
use Rattle.ct_values.specs.declared.client.ClientOp.{ClientOp}
use Rattle.ct_values.specs.declared.client.Pair.{Pair}
use Rattle.ct_values.specs.declared.config.Config.{Config}
use Rattle.ct_frame.specs.declared.frame.PTable.{PTable}
use Rattle.ct_frame.specs.declared.frame.TableRow.{TableRow}
use Rattle.ct_store.specs.Map.{Pairs, look, write, erase}
use Rattle.ct_store.proofs.Maps.{one_key, equal}
use Rattle.ct_rules.specs.State.{is_blank}
use Rattle.ct_rules.specs.Parts.{Moving}
use Rattle.ct_rules.specs.declared.event.Place.{Place}
use Rattle.ct_rules.specs.declared.state.RecState.{RecState}
use Rattle.ct_rules.specs.declared.state.Wish.{Wish}
use Rattle.ct_rules_node.specs.Node.{Database, Committing, untouched, or_untouched, or_nothing, db_at, with_db, state_at, untouched_all, restarted_db}
use Rattle.ct_rules_node.specs.Turn.{Turn}
use Rattle.ct_rules_node.specs.Records.{kept, view, put_back, acted, at_record}
use Rattle.ct_rules_node.specs.Rounds.{frozen_state, frozen_db, changed, bared, installed_state, install_row, install_rows, installed_db, installed_dbs}
use Rattle.ct_law_wishes.proofs.Wishing.{Wishful}

-- P is what a call that waits for a record has, by database and key; and Q what one has whose commit waits, by database
module _ (P : ℕ → List ℕ → ℕ → ClientOp → Type 0) (Q : ℕ → ℕ → List Pair → Type 0) where
  unfoldable pub EachWish : ℕ → Pairs RecState → Type 0
  EachWish db m = AllByRecursion (λ e. Wishful (P db e.0) e.1.wish) m

  unfoldable pub OfCommit : ℕ → Option Committing → Type 0
  OfCommit db None = Unit {0}
  OfCommit db (Some x) = Q db x.call x.writes

  pub record OfDatabase (db : ℕ) (d : Database) : Type 0 where
    pub wishes : EachWish db d.records
    pub commit : OfCommit db d.commit

  -- all calls that wait in these databases; i is the number of the first
  unfoldable pub EachCall : ℕ → List Database → Type 0
  EachCall i [] = Unit {0}
  EachCall i (d ∷ ds) = OfDatabase i d × EachCall (i + 1) ds

  -- ---- one map

  written_wish : (db : ℕ) (key : List ℕ) (s : RecState) (m : Pairs RecState) → Wishful (P db key) s.wish → EachWish db m → EachWish db (write key s m)
  unfolding EachWish
  written_wish db key s [] own h = (own, tt)
  written_wish db key s (e ∷ m) own h =
      elim (key_cmp key e.0) as (λ o. key_cmp key e.0 ≡ o → AllByRecursion (λ x. Wishful (P db x.0) x.1.wish) (match_ordering o ((key, s) ∷ e ∷ m) ((e.0, s) ∷ m) (e ∷ write key s m))) [
        | Less ↦ λ _. (own, h)
        | Equal ↦ λ is. (subst (λ (k : List ℕ). Wishful (P db k) s.wish) (one_key key e.0 is) own, h.1)
        | Greater ↦ λ _. (h.0, written_wish db key s m own h.1)
      ] refl

  erased_wish : (db : ℕ) (key : List ℕ) (m : Pairs RecState) → EachWish db m → EachWish db (erase key m)
  unfolding EachWish
  erased_wish db key [] h = tt
  erased_wish db key (e ∷ m) h = elim (is_eq (key_cmp key e.0)) as (λ b. AllByRecursion (λ x. Wishful (P db x.0) x.1.wish) (cond b m (e ∷ erase key m))) [ true ↦ h.1 | false ↦ (h.0, erased_wish db key m h.1) ]

  pub kept_wish : (db : ℕ) (key : List ℕ) (s : RecState) (m : Pairs RecState) → Wishful (P db key) s.wish → EachWish db m → EachWish db (kept key s m)
  unfolding kept
  kept_wish db key s m own h = elim (is_blank s) as (λ b. EachWish db (cond b (erase key m) (write key s m))) [ true ↦ erased_wish db key m h | false ↦ written_wish db key s m own h ]

  pub look_wish : (db : ℕ) (key : List ℕ) (m : Pairs RecState) → EachWish db m → Wishful (P db key) (or_nothing (look key m)).wish
  unfolding EachWish Wishful or_nothing
  look_wish db key [] h = tt
  look_wish db key (e ∷ m) h =
      elim (is_eq (key_cmp key e.0)) as (λ b. is_eq (key_cmp key e.0) ≡ b → Wishful (P db key) (or_nothing (cond b (Some e.1) (look key m))).wish) [
        | true ↦ λ t. subst (λ (k : List ℕ). Wishful (P db k) e.1.wish) (sym (one_key key e.0 (equal _ t))) h.0
        | false ↦ λ _. look_wish db key m h.1
      ] refl

  changed_wish : (f : RecState → RecState) → ((s : RecState) → (f s).wish ≡ s.wish) → (db : ℕ) (m : Pairs RecState) → EachWish db m → EachWish db (changed f m)
  unfolding EachWish changed
  changed_wish f same db [] h = tt
  changed_wish f same db (e ∷ m) h = elim (is_blank (f e.1)) as (λ b. AllByRecursion (λ x. Wishful (P db x.0) x.1.wish) (cond b (changed f m) ((e.0, f e.1) ∷ changed f m))) [
    | true ↦ changed_wish f same db m h.1
    | false ↦ (rw (same e.1) h.0, changed_wish f same db m h.1)
  ]

  rows_wish : (me db : ℕ) (members : List ℕ) (rows : List TableRow) (m : Pairs RecState) → EachWish db m → EachWish db (install_rows me db members rows m)
  unfolding install_rows install_row installed_state
  rows_wish me db members [] m h = h
  rows_wish me db members (row ∷ rows) m h = rows_wish me db members rows _
      (elim (nat_eq row.db db) as (λ b. EachWish db (cond b (install_row me members row m) m)) [ true ↦ written_wish db row.key _ m (look_wish db row.key m h) h | false ↦ h ])

  -- ---- the databases of a node

  each_set : (i k : ℕ) (ds : List Database) (d : Database) → (OfDatabase (i + k) (or_untouched (slice_get ds k)) → OfDatabase (i + k) d) → EachCall i ds → EachCall i (set ds k d)
  unfolding EachCall or_untouched
  each_set i k [] d f h = tt
  each_set i zero (x ∷ ds) d f h =
      let e : i + 0 ≡ i = omega arith in
      (subst (λ (j : ℕ). OfDatabase j d) e (f (subst (λ (j : ℕ). OfDatabase j x) (sym e) h.0)), h.1)
  each_set i (suc k) (x ∷ ds) d f h =
      let e : i + suc k ≡ (i + 1) + k = omega arith in
      (h.0, each_set (i + 1) k ds d (λ o. subst (λ (j : ℕ). OfDatabase j d) e (f (subst (λ (j : ℕ). OfDatabase j (or_untouched (slice_get ds k))) (sym e) o))) h.1)

  -- one database in its place
  pub calls_set : (k : ℕ) (ds : List Database) (d : Database) → (OfDatabase k (or_untouched (slice_get ds k)) → OfDatabase k d) → EachCall 0 ds → EachCall 0 (set ds k d)
  calls_set k ds d f h =
      let e : 0 + k ≡ k = omega arith in
      each_set 0 k ds d (λ o. subst (λ (j : ℕ). OfDatabase j d) (sym e) (f (subst (λ (j : ℕ). OfDatabase j (or_untouched (slice_get ds k))) e o))) h

  each_at : (i k : ℕ) (ds : List Database) → EachCall i ds → OfDatabase (i + k) (or_untouched (slice_get ds k))
  unfolding EachCall or_untouched untouched EachWish OfCommit
  each_at i k [] h = record { wishes = tt; commit = tt }
  each_at i zero (x ∷ ds) h = subst (λ (j : ℕ). OfDatabase j x) (omega arith) h.0
  each_at i (suc k) (x ∷ ds) h = (let e : (i + 1) + k ≡ i + suc k = omega arith in subst (λ (j : ℕ). OfDatabase j (or_untouched (slice_get ds k))) e (each_at (i + 1) k ds h.1))

  pub calls_at : (k : ℕ) (ds : List Database) → EachCall 0 ds → OfDatabase k (or_untouched (slice_get ds k))
  calls_at k ds h = (let e : 0 + k ≡ k = omega arith in subst (λ (j : ℕ). OfDatabase j (or_untouched (slice_get ds k))) e (each_at 0 k ds h))

  -- a part of the rules of a record keeps what its call has
  abbrev pub KeepsWish : ℕ → List ℕ → (Place → Moving → Moving) → Type 0
  KeepsWish db key part = (at : Place) (o : Moving) → Wishful (P db key) o.state.wish → Wishful (P db key) (part at o).state.wish

  pub at_record_calls : (c : Config) (me db : ℕ) (key : List ℕ) (part : Place → Moving → Moving) (t : Turn) → KeepsWish db key part → EachCall 0 t.node.dbs → EachCall 0 (at_record c me db key part t).node.dbs
  unfolding at_record acted put_back with_db db_at view state_at
  at_record_calls c me db key part t keeps h = calls_set db t.node.dbs _ (λ d. record { wishes = kept_wish db key _ _ (keeps _ _ (look_wish db key _ d.wishes)) d.wishes; commit = d.commit }) h

  -- ---- a freeze, an installation and a stop

  pub frozen_calls : (i : ℕ) (ds : List Database) → EachCall i ds → EachCall i (map frozen_db ds)
  unfolding EachCall frozen_db frozen_state
  frozen_calls i [] h = tt
  frozen_calls i (d ∷ ds) h = (record { wishes = changed_wish frozen_state (λ s. refl) i d.records h.0.wishes; commit = h.0.commit }, frozen_calls (i + 1) ds h.1)

  pub installed_calls : (me i : ℕ) (members : List ℕ) (table : List TableRow) (ptables : List PTable) (ds : List Database) → EachCall i ds → EachCall i (installed_dbs me i members table ptables ds)
  unfolding EachCall installed_dbs installed_db bared
  installed_calls me i members table ptables [] h = tt
  installed_calls me i members table ptables (d ∷ ds) h = (
    record { wishes = rows_wish me i members table _ (changed_wish bared (λ s. refl) i d.records h.0.wishes); commit = h.0.commit },
    installed_calls me (i + 1) members table ptables ds h.1,
  )

  pub restarted_calls : (i : ℕ) (ds : List Database) → EachCall i (map restarted_db ds)
  unfolding EachCall restarted_db untouched EachWish OfCommit
  restarted_calls i [] = tt
  restarted_calls i (d ∷ ds) = (record { wishes = tt; commit = tt }, restarted_calls (i + 1) ds)

  pub untouched_calls : {X : Type 0} (i : ℕ) (xs : List X) → EachCall i (untouched_all xs)
  unfolding EachCall untouched_all untouched EachWish OfCommit
  untouched_calls {X} i [] = tt
  untouched_calls {X} i (x ∷ xs) = (record { wishes = tt; commit = tt }, untouched_calls (i + 1) xs)

-- ---- more of every call

module _ (P R : ℕ → List ℕ → ℕ → ClientOp → Type 0) (Q : ℕ → ℕ → List Pair → Type 0) (of : (db : ℕ) (key : List ℕ) (call : ℕ) (asked : ClientOp) → P db key call asked → R db key call asked) where
  wish_of : (db : ℕ) (key : List ℕ) (w : Option Wish) → Wishful (P db key) w → Wishful (R db key) w
  unfolding Wishful
  wish_of db key None h = tt
  wish_of db key (Some w) h = of db key w.call w.op h

  wishes_of : (db : ℕ) (m : Pairs RecState) → EachWish P Q db m → EachWish R Q db m
  unfolding EachWish
  wishes_of db [] h = tt
  wishes_of db (e ∷ m) h = (wish_of db e.0 e.1.wish h.0, wishes_of db m h.1)

  commit_of : (db : ℕ) (o : Option Committing) → OfCommit P Q db o → OfCommit R Q db o
  unfolding OfCommit
  commit_of db None h = tt
  commit_of db (Some x) h = h

  -- what follows of each call that waits for a record holds of all of them
  pub each_of : (i : ℕ) (ds : List Database) → EachCall P Q i ds → EachCall R Q i ds
  unfolding EachCall
  each_of i [] h = tt
  each_of i (d ∷ ds) h = (record { wishes = wishes_of i d.records h.0.wishes; commit = commit_of i d.commit h.0.commit }, each_of (i + 1) ds h.1)
