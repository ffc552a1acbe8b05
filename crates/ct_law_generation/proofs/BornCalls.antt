-- Where a generation began with rows, it is known of every call that waits who made it and what it asked.
use Rattle.std.proofs.Common.{◌≡◌, ℕ, zero, suc, ◌+◌, ◌<◌, ◌≤◌, Bool, true, false, cond, not, List, [], ◌∷◌, ◌++◌, Option, Some, None, refl, sym, arith, subst}
use Rattle.std.specs.Prelude.{nat_eq, nat_lt, map, slice_get}
use Rattle.std.specs.Ordering.{is_eq}
use Rattle.std.specs.List.{AllByRecursion, list_all}
use Rattle.std.specs.List.Sorted.{IsStrictlySortedBy}
use Rattle.std.proofs.lemmas.Bool.{and_parts, eq-eqb, ne_eqb, ltb-true, ltb-false, not-true}
use Rattle.ct_values.specs.Key.{key_cmp}
use Rattle.ct_values.specs.declared.client.ClientOp.{ClientOp}
use Rattle.ct_values.specs.declared.client.ClientOp.TheVariants as op
use Rattle.ct_values.specs.declared.config.Config.{Config}
use Rattle.ct_frame.specs.Fields.{ascends, ascends_after}
use Rattle.ct_store.specs.Map.{Pairs, Ascends, look}
use Rattle.ct_rules.specs.declared.state.RecState.{RecState}
use Rattle.ct_rules.specs.declared.state.Wish.{Wish}
use Rattle.ct_rules_node.specs.Node.{Node, Database, Committing, untouched, or_untouched, or_nothing, db_at, state_at, is_among, has_records, kind_at}
use Rattle.ct_law_rules_node.specs.NodeLaws.{AllAscend}
use Rattle.ct_law_rules_node.proofs.Numbered.{unnumbered}
use Rattle.ct_rules_cluster.specs.Cluster.{Cluster, node_at, or_absent, absent, wished, wished_in, committing, pending_in, pending_from, pending}
use Rattle.ct_rules_cluster.specs.declared.step.PendingCall.{PendingCall}
use Rattle.ct_promise.specs.Born.{Rows, IsBornWith, WishIsSound}
use Rattle.ct_law_wishes.proofs.Wishing.{Wishful}
use Rattle.ct_law_generation.proofs.Pending.{Callers, Fits, Known, CommitFits, KnownAt, NodeKnown, none_known, zero_more}
use Rattle.ct_law_generation.proofs.BornWorlds.{by_test}

-- ---- who made the call of a number

unfoldable pub caller_in : List PendingCall → ℕ → ℕ × ClientOp
caller_in [] call = (0, op.Read 0 [])
caller_in (x ∷ xs) call = cond (nat_eq x.call call) (x.node, x.op) (caller_in xs call)

-- who made the call of each number that waits, and what it asked
abbrev pub callers_in : Cluster → Callers
callers_in w = caller_in (pending w)

all_both : {X : Type 0} (P Q R : X → Type 0) → ((x : X) → P x → Q x → R x) → (xs : List X) → AllByRecursion P xs → AllByRecursion Q xs → AllByRecursion R xs
all_both P Q R f [] p q = tt
all_both P Q R f (x ∷ xs) p q = (f x p.0 q.0, all_both P Q R f xs p.1 q.1)

later_calls : (x : PendingCall) (low : ℕ) (xs : List PendingCall) → low ≤ x.call → ascends_after nat_lt x.call (map (λ y. y.call) xs) ≡ true → AllByRecursion (λ (y : PendingCall). low < y.call) xs
later_calls x low [] le e = tt
later_calls x low (y ∷ ys) le e =
    let p = and_parts _ _ e in let l = ltb-true x.call y.call p.0 in (omega arith, later_calls y low ys (omega arith) p.1)

after_first : (xs : List PendingCall) (x y : PendingCall) → x.call < y.call → Fits (caller_in xs) y → Fits (caller_in (x ∷ xs)) y
unfolding Fits caller_in
after_first xs x y l f = rw (ne_eqb x.call y.call (λ e. absurd (omega arith))) f

own_number : (x : PendingCall) (xs : List PendingCall) → Fits (caller_in (x ∷ xs)) x
unfolding Fits caller_in
own_number x xs = rw (eq-eqb x.call x.call refl) refl

-- where numbers ascend, each call is that of its number
fit_in : (xs : List PendingCall) → ascends nat_lt (map (λ y. y.call) xs) ≡ true → AllByRecursion (Fits (caller_in xs)) xs
fit_in [] e = tt
fit_in (x ∷ xs) e = (own_number x xs, all_both (λ (y : PendingCall). x.call < y.call) (Fits (caller_in xs)) (Fits (caller_in (x ∷ xs))) (after_first xs x) xs (later_calls x x.call xs (omega arith) e) (fit_in xs (rest xs e)))
  where
    rest : (ys : List PendingCall) → ascends_after nat_lt x.call (map (λ y. y.call) ys) ≡ true → ascends nat_lt (map (λ y. y.call) ys) ≡ true
    rest [] k = refl
    rest (y ∷ ys) k = (and_parts _ _ k).1

-- the call is that of its number, which was given
unfoldable IsKnown : Callers → ℕ → PendingCall → Type 0
IsKnown who calls x = (who x.call ≡ (x.node, x.op)) × (x.call ≤ calls)

given_in : (calls : ℕ) (xs : List PendingCall) → list_all (λ (x : PendingCall). not (nat_lt calls x.call)) xs ≡ true → AllByRecursion (λ (x : PendingCall). x.call ≤ calls) xs
given_in calls [] e = tt
given_in calls (x ∷ xs) e = (let p = and_parts _ _ e in (ltb-false calls x.call (not-true _ p.0), given_in calls xs p.1))

known_in : (config : Config) (g : ℕ) (members : List ℕ) (row : Rows) (w : Cluster) → IsBornWith config g members row w → AllByRecursion (IsKnown (callers_in w) w.calls) (pending w)
unfolding IsKnown Fits
known_in config g members row w h = all_both (Fits (callers_in w)) (λ (x : PendingCall). x.call ≤ w.calls) (IsKnown (callers_in w) w.calls) (λ x f l. (f, l)) (pending w) (fit_in (pending w) h.numbered) (given_in w.calls (pending w) h.given)

-- ---- from all calls to those of one record or commit

module _ (P : PendingCall → Type 0) where
  front_all : (xs ys : List PendingCall) → AllByRecursion P (xs ++ ys) → AllByRecursion P xs
  front_all [] ys h = tt
  front_all (x ∷ xs) ys h = (h.0, front_all xs ys h.1)

  back_all : (xs ys : List PendingCall) → AllByRecursion P (xs ++ ys) → AllByRecursion P ys
  back_all [] ys h = h
  back_all (x ∷ xs) ys h = back_all xs ys h.1

  at_node : (i k : ℕ) (ns : List Node) → AllByRecursion P (pending_from i ns) → AllByRecursion P (pending_in (i + k) 0 (or_absent (slice_get ns k)).dbs)
  unfolding pending_from pending_in or_absent absent
  at_node i k [] h = tt
  at_node i zero (x ∷ ns) h = subst (λ (j : ℕ). AllByRecursion P (pending_in j 0 x.dbs)) (omega arith) (front_all (pending_in i 0 x.dbs) (pending_from (i + 1) ns) h)
  at_node i (suc k) (x ∷ ns) h = subst (λ (j : ℕ). AllByRecursion P (pending_in j 0 (or_absent (slice_get ns k)).dbs)) (omega arith) (at_node (i + 1) k ns (back_all (pending_in i 0 x.dbs) (pending_from (i + 1) ns) h))

  at_records : (n i k : ℕ) (ds : List Database) → AllByRecursion P (pending_in n i ds) → AllByRecursion P (wished_in n (or_untouched (slice_get ds k)).records)
  unfolding pending_in or_untouched untouched wished_in
  at_records n i k [] h = tt
  at_records n i zero (d ∷ ds) h = front_all (wished_in n d.records) (committing n i d.commit) (front_all (wished_in n d.records ++ committing n i d.commit) (pending_in n (i + 1) ds) h)
  at_records n i (suc k) (d ∷ ds) h = at_records n (i + 1) k ds (back_all (wished_in n d.records ++ committing n i d.commit) (pending_in n (i + 1) ds) h)

  at_commit : (n i k : ℕ) (ds : List Database) → AllByRecursion P (pending_in n i ds) → AllByRecursion P (committing n (i + k) (or_untouched (slice_get ds k)).commit)
  unfolding pending_in or_untouched untouched committing
  at_commit n i k [] h = tt
  at_commit n i zero (d ∷ ds) h = subst (λ (j : ℕ). AllByRecursion P (committing n j d.commit)) (omega arith)
      (back_all (wished_in n d.records) (committing n i d.commit) (front_all (wished_in n d.records ++ committing n i d.commit) (pending_in n (i + 1) ds) h))
  at_commit n i (suc k) (d ∷ ds) h = subst (λ (j : ℕ). AllByRecursion P (committing n j (or_untouched (slice_get ds k)).commit)) (omega arith)
      (at_commit n (i + 1) k ds (back_all (wished_in n d.records ++ committing n i d.commit) (pending_in n (i + 1) ds) h))

  at_key : (n : ℕ) (m : Pairs RecState) (key : List ℕ) → AllByRecursion P (wished_in n m) → AllByRecursion P (wished n (or_nothing (look key m)).wish)
  unfolding wished_in wished or_nothing
  at_key n [] key h = tt
  at_key n (e ∷ m) key h = either (is_eq (key_cmp key e.0)) (at_key n m key (back_all (wished n e.1.wish) (wished_in n m) h))
    where
      either : (b : Bool) → AllByRecursion P (wished n (or_nothing (look key m)).wish) → AllByRecursion P (wished n (or_nothing (cond b (Some e.1) (look key m))).wish)
      either true later = front_all (wished n e.1.wish) (wished_in n m) h
      either false later = later

  in_node : (w : Cluster) (n : ℕ) → AllByRecursion P (pending w) → AllByRecursion P (pending_in n 0 (node_at n w).dbs)
  unfolding pending node_at
  in_node w n h = subst (λ (j : ℕ). AllByRecursion P (pending_in j 0 (or_absent (slice_get w.nodes n)).dbs)) (sym (zero_more n)) (at_node 0 n w.nodes (unnumbered (λ x. x.call) P (pending_from 0 w.nodes) h))

  -- what holds of all calls that wait holds of that which waits for a record of a node
  call_at : (w : Cluster) (n db : ℕ) (key : List ℕ) → AllByRecursion P (pending w) → AllByRecursion P (wished n (or_nothing (look key (db_at db (node_at n w)).records)).wish)
  unfolding db_at
  call_at w n db key h = at_key n (db_at db (node_at n w)).records key (at_records n 0 db (node_at n w).dbs (in_node w n h))

  -- and of that of a commit of its that waits
  commit_at : (w : Cluster) (n db : ℕ) → AllByRecursion P (pending w) → AllByRecursion P (committing n db (db_at db (node_at n w)).commit)
  unfolding db_at
  commit_at w n db h = subst (λ (j : ℕ). AllByRecursion P (committing n j (db_at db (node_at n w)).commit)) (sym (zero_more db)) (at_commit n 0 db (node_at n w).dbs (in_node w n h))

-- ---- all databases of all nodes

known_wish : (who : Callers) (calls n db next : ℕ) (key : List ℕ) (o : Option Wish) → WishIsSound db key next o → AllByRecursion (IsKnown who calls) (wished n o) → Wishful (Known who calls n db key) o
unfolding Wishful Known WishIsSound IsKnown wished
known_wish who calls n db next key None h k = tt
known_wish who calls n db next key (Some x) h k = (k.0.0, k.0.1, h.of_db, h.of_key)

known_at : (who : Callers) (calls n db next : ℕ) (key : List ℕ) (s : Option RecState) → WishIsSound db key next (or_nothing s).wish → AllByRecursion (IsKnown who calls) (wished n (or_nothing s).wish) → KnownAt who calls n db key s
unfolding KnownAt
known_at who calls n db next key s h k = known_wish who calls n db next key (or_nothing s).wish h k

known_commit : (who : Callers) (calls n db : ℕ) (o : Option Committing) → AllByRecursion (IsKnown who calls) (committing n db o) → CommitFits who calls n db o
unfolding CommitFits IsKnown committing
known_commit who calls n db None k = tt
known_commit who calls n db (Some x) k = k.0

none_at : (who : Callers) (calls n db : ℕ) (key : List ℕ) (m : Pairs RecState) → m ≡ [] → KnownAt who calls n db key (look key m)
none_at who calls n db key m e = subst (λ (x : Pairs RecState). KnownAt who calls n db key (look key x)) (sym e) (none_known who calls n db key)

no_order : (m : Pairs RecState) → m ≡ [] → Ascends m
unfolding IsStrictlySortedBy
no_order m e = subst (λ (x : Pairs RecState). Ascends x) (sym e) tt

each_ascends : (ds : List Database) → ((db : ℕ) → Ascends (or_untouched (slice_get ds db)).records) → AllAscend ds
unfolding AllAscend or_untouched
each_ascends [] h = tt
each_ascends (d ∷ ds) h = (h zero, each_ascends ds (λ db. h (suc db)))

-- of every call that waits, at any node, it is known who made it and what it asked
pub born_known : (config : Config) (g : ℕ) (members : List ℕ) (row : Rows) (w : Cluster) → IsBornWith config g members row w → (n : ℕ) → NodeKnown (callers_in w) w.calls n (node_at n w)
unfolding db_at state_at
born_known config g members row w h n = record { order = each_ascends (node_at n w).dbs order; dbs = λ db. record { records = records db; commit = known_commit (callers_in w) w.calls n db _ (commit_at (IsKnown (callers_in w) w.calls) w n db (known_in config g members row w h)) } }
  where
    order : (db : ℕ) → Ascends (db_at db (node_at n w)).records
    order db = by_test (is_among n members) (λ t. (h.born n t).maps db) (λ f. no_order _ ((h.left n f).records db))

    sound : (db : ℕ) (key : List ℕ) → is_among n members ≡ true → has_records (kind_at config db) ≡ true → KnownAt (callers_in w) w.calls n db key (look key (db_at db (node_at n w)).records)
    sound db key t of = known_at (callers_in w) w.calls n db (node_at n w).next key _ ((h.born n t).wishes db key of) (call_at (IsKnown (callers_in w) w.calls) w n db key (known_in config g members row w h))

    records : (db : ℕ) (key : List ℕ) → KnownAt (callers_in w) w.calls n db key (look key (db_at db (node_at n w)).records)
    records db key = by_test (is_among n members)
        (λ t. by_test (has_records (kind_at config db))
        (λ of. sound db key t of)
        (λ none. none_at (callers_in w) w.calls n db key _ ((h.born n t).others db none)))
        (λ f. none_at (callers_in w) w.calls n db key _ ((h.left n f).records db))
