-- Where a generation began with rows, the calls that wait are exactly the open ones of their log.
use Rattle.std.proofs.Common.{◌≡◌, ◌≢◌, ℕ, suc, ◌+◌, ◌<◌, ◌≤◌, Bool, true, false, cond, ◌||◌, List, [], ◌∷◌, ◌++◌, length, Option, Some, None, refl, sym, ◌∙◌, ap, subst, arith, ⊎_elim}
use Rattle.std.specs.Prelude.{slice_get, nat_eq, nat_lt, not}
use Rattle.std.specs.List.{AllByRecursion, list_any, list_all}
use Rattle.std.specs.List.Sorted.{IsStrictlySortedBy}
use Rattle.std.proofs.lemmas.Bool.{eqb-true, eq-eqb, ltb-true, ltb-false, and_parts, cases_Bool}
use Rattle.ct_values.specs.Client.{db_of, key_of, wants_record}
use Rattle.ct_values.specs.declared.client.ClientOp.{ClientOp}
use Rattle.ct_values.specs.declared.client.ClientOp.TheVariants as op
use Rattle.ct_values.specs.declared.config.Config.{Config}
use Rattle.ct_store.specs.Map.{Pairs, Ascends, look}
use Rattle.ct_rules.specs.declared.state.RecState.{RecState}
use Rattle.ct_rules.specs.declared.state.Wish.{Wish}
use Rattle.ct_rules_node.specs.Clients as clients
use Rattle.ct_rules_node.specs.Node.{Node, Database, Committing, or_untouched, state_at, db_at, or_nothing, is_among, has_records, kind_at}
use Rattle.ct_register.specs.Legal as legal
use Rattle.ct_rules_cluster.specs.Cluster.{Cluster, node_at, or_absent, wished, wished_in, committing, pending_in, pending_from, pending}
use Rattle.ct_rules_cluster.specs.declared.step.PendingCall.{PendingCall}
use Rattle.ct_promise.specs.Born.{Rows, WishIsSound, IsBornWith, log_of}
use Rattle.ct_law_wishes.proofs.Wishing.{Wishful}
use Rattle.ct_law_generation.proofs.Pending.{look_head, look_tail, next_index, zero_more, Callers, Known, KnownAt, CommitFits, is_call, pending_has}
use Rattle.ct_law_generation.proofs.BornCalls.{caller_in, callers_in, born_known}
use Rattle.ct_rules_cluster.specs.Traces.{asked_in}
use Rattle.ct_law_generation.specs.Law.{CallsFromRows}
use Rattle.ct_law_generation.proofs.CallsRun.{calls_run}
use Rattle.ct_law_rules_node.specs.NodeLaws.{AllAscend}
use Rattle.ct_lcp2.proofs.Choices.{all_append}
use Rattle.ct_law_generation.proofs.Accounts.{Wished, Committed, wish_call, commit_call, place_call, place_commit, place_wish}
use Rattle.ct_law_rules_node.proofs.Numbered.{numbered_all, numbered_any}
use Rattle.ct_law_generation.proofs.Records.{wants_place}
use Rattle.ct_law_generation.proofs.CallsOpen.{Calls}
use Rattle.ct_law_generation.proofs.Waiting.{commit_any}
use Rattle.ct_law_generation.proofs.CallsTold.{by_log, nodes_any, same_some}

swap_eq : (a b : ℕ) (v : Bool) → nat_eq a b ≡ v → nat_eq b a ≡ v
swap_eq a b true e = eq-eqb b a (sym (eqb-true a b e))
swap_eq a b false e = ⊎_elim (λ (t : nat_eq b a ≡ true). absurd (let k = sym (eq-eqb a b (sym (eqb-true b a t))) ∙ e in cc)) (λ (f : nat_eq b a ≡ false). f) (cases_Bool (nat_eq b a))

pub found_in : (xs : List PendingCall) (k : ℕ) → list_any (is_call k) xs ≡ true → asked_in k (log_of xs) ≡ Some (caller_in xs k)
unfolding is_call asked_in log_of caller_in
found_in [] k e = absurd (cc)
found_in (x ∷ xs) k e = ⊎_elim
    (λ (t : nat_eq x.call k ≡ true). rw t (rw (swap_eq x.call k true t) refl))
    (λ (f : nat_eq x.call k ≡ false). rw f (rw (swap_eq x.call k false f) (found_in xs k (sym (ap (λ (b : Bool). b || list_any (is_call k) xs) f) ∙ e))))
    (cases_Bool (nat_eq x.call k))

wanting_of : (db : ℕ) (key : List ℕ) (next : ℕ) (w : Option Wish) (x : Wish) → w ≡ Some x → WishIsSound db key next w → wants_record x.op ≡ true
unfolding WishIsSound
wanting_of db key next None x e h = absurd (cc)
wanting_of db key next (Some y) x e h = (let same : y ≡ x = cc in subst (λ (z : Wish). wants_record z.op ≡ true) same h.wanting)

none_kept : (m : Pairs RecState) (key : List ℕ) (x : Wish) → m ≡ [] → (or_nothing (look key m)).wish ≢ Some x
unfolding or_nothing
none_kept [] key x e is = absurd (cc)
none_kept (y ∷ m) key x e is = absurd (cc)

-- each call that waits for a record wants one
pub all_wanting : (config : Config) (g : ℕ) (members : List ℕ) (row : Rows) (w : Cluster) → IsBornWith config g members row w → (n db : ℕ) (key : List ℕ) (x : Wish) → (state_at db key (node_at n w)).wish ≡ Some x → wants_record x.op ≡ true
unfolding state_at
all_wanting config g members row w h n db key x e = ⊎_elim
    (λ (t : is_among n members ≡ true). ⊎_elim
    (λ (r : has_records (kind_at config db) ≡ true). wanting_of db key (node_at n w).next (state_at db key (node_at n w)).wish x e ((h.born n t).wishes db key r))
    (λ (f : has_records (kind_at config db) ≡ false). absurd (none_kept (db_at db (node_at n w)).records key x ((h.born n t).others db f) e))
    (cases_Bool (has_records (kind_at config db))))
    (λ (f : is_among n members ≡ false). absurd (none_kept (db_at db (node_at n w)).records key x ((h.left n f).records db) e))
    (cases_Bool (is_among n members))

wished_born : (w : Cluster) (n db : ℕ) (key : List ℕ) (o : Option Wish) → (state_at db key (node_at n w)).wish ≡ o → ((x : Wish) → o ≡ Some x → wants_record x.op ≡ true) → Wishful (Known (callers_in w) w.calls n db key) o → Wishful (Wished n (by_log (log_of (pending w))) db key) o
unfolding Wishful Known Wished
wished_born w n db key None is wants h = tt
wished_born w n db key (Some x) is wants h = (found_in (pending w) x.call (pending_has w n db key x is) ∙ ap (λ v. Some v) h.0, h.2, h.3, wants x refl)

committed_born : (w : Cluster) (n db : ℕ) (o : Option Committing) → ((y : Committing) → o ≡ Some y → list_any (is_call y.call) (pending w) ≡ true) → CommitFits (callers_in w) w.calls n db o → Committed n (by_log (log_of (pending w))) db o
unfolding CommitFits Committed
committed_born w n db None any h = tt
committed_born w n db (Some y) any h = found_in (pending w) y.call (any y refl) ∙ ap (λ v. Some v) h.0

-- ---- each call of the list waits at the place that its operation names

-- a call at these places
unfoldable AtPlaces : ℕ → Node → PendingCall → Type 0
AtPlaces n x p = (p.node ≡ n) × (place_call p.op x ≡ Some p.call)

wished_all : (n : ℕ) (x : Node) (o : Option Wish) → ((w : Wish) → o ≡ Some w → place_call w.op x ≡ Some w.call) → AllByRecursion (AtPlaces n x) (wished n o)
unfolding wished AtPlaces
wished_all n x None f = tt
wished_all n x (Some w) f = ((refl, f w refl), tt)

abbrev Places : Node → List ℕ → Option RecState → Type 0
Places x key s = (w : Wish) → (or_nothing s).wish ≡ Some w → place_call w.op x ≡ Some w.call

no_places : (x : Node) (key : List ℕ) → Places x key None
unfolding or_nothing
no_places x key w e = absurd (cc)

records_all : (n : ℕ) (x : Node) (m : Pairs RecState) → Ascends m → ((key : List ℕ) → Places x key (look key m)) → AllByRecursion (AtPlaces n x) (wished_in n m)
unfolding wished_in IsStrictlySortedBy or_nothing
records_all n x [] h f = tt
records_all n x (e ∷ m) h f = all_append (AtPlaces n x) (wished n e.1.wish) (wished_in n m)
    (wished_all n x e.1.wish (look_head (Places x) e m f))
    (records_all n x m h.1 (look_tail (Places x) e m h (no_places x) f))

committing_all : (n db : ℕ) (x : Node) (o : Option Committing) → ((y : Committing) → o ≡ Some y → place_call (op.Commit db y.writes) x ≡ Some y.call) → AllByRecursion (AtPlaces n x) (committing n db o)
unfolding committing AtPlaces
committing_all n db x None f = tt
committing_all n db x (Some y) f = ((refl, f y refl), tt)

node_all : (n i : ℕ) (x : Node) (ds : List Database) → AllAscend ds → ((k : ℕ) (key : List ℕ) → Places x key (look key (or_untouched (slice_get ds k)).records)) →
    ((k : ℕ) (y : Committing) → (or_untouched (slice_get ds k)).commit ≡ Some y → place_call (op.Commit (i + k) y.writes) x ≡ Some y.call) → AllByRecursion (AtPlaces n x) (pending_in n i ds)
unfolding pending_in AllAscend or_untouched
node_all n i x [] h f g = tt
node_all n i x (d ∷ ds) h f g = all_append (AtPlaces n x) (wished_in n d.records ++ committing n i d.commit) (pending_in n (i + 1) ds)
    (all_append (AtPlaces n x) (wished_in n d.records) (committing n i d.commit) (records_all n x d.records h.0 (f 0))
    (committing_all n i x d.commit (λ y e. subst (λ (j : ℕ). place_call (op.Commit j y.writes) x ≡ Some y.call) (omega arith) (g 0 y e))))
    (node_all n (i + 1) x ds h.1 (λ k. f (suc k)) (λ k y e. subst (λ (j : ℕ). place_call (op.Commit j y.writes) x ≡ Some y.call) (next_index i k) (g (suc k) y e)))

-- ---- the cluster

unfoldable IsPlace : Cluster → PendingCall → Type 0
IsPlace w p = place_call p.op (node_at p.node w) ≡ Some p.call

place_each : (n : ℕ) (w : Cluster) (xs : List PendingCall) → AllByRecursion (AtPlaces n (node_at n w)) xs → AllByRecursion (IsPlace w) xs
unfolding AtPlaces IsPlace
place_each n w [] h = tt
place_each n w (p ∷ xs) h = (subst (λ (j : ℕ). place_call p.op (node_at j w) ≡ Some p.call) (sym h.0.0) h.0.1, place_each n w xs h.1)

nodes_all : (P : PendingCall → Type 0) (i : ℕ) (ns : List Node) → ((k : ℕ) → AllByRecursion P (pending_in (i + k) 0 (or_absent (slice_get ns k)).dbs)) → AllByRecursion P (pending_from i ns)
unfolding pending_from or_absent
nodes_all P i [] all = tt
nodes_all P i (x ∷ ns) all = all_append P (pending_in i 0 x.dbs) (pending_from (i + 1) ns) (subst (λ (j : ℕ). AllByRecursion P (pending_in j 0 x.dbs)) (omega arith) (all 0))
    (nodes_all P (i + 1) ns (λ k. subst (λ (j : ℕ). AllByRecursion P (pending_in j 0 (or_absent (slice_get ns k)).dbs)) (next_index i k) (all (suc k))))

-- an open call of the log is one of these
entry : (P : PendingCall → Type 0) (xs : List PendingCall) (k : ℕ) (v : ℕ × ClientOp) → AllByRecursion P xs → asked_in k (log_of xs) ≡ Some v → (p : PendingCall) × P p × (p.call ≡ k) × ((p.node, p.op) ≡ v)
unfolding asked_in log_of
entry P [] k v h e = absurd (cc)
entry P (x ∷ xs) k v h e = ⊎_elim
    (λ (t : nat_eq k x.call ≡ true). (x, h.0, sym (eqb-true k x.call t), same_some (x.node, x.op) v (sym (ap (λ (b : Bool). cond b (Some (x.node, x.op)) (asked_in k (log_of xs))) t) ∙ e)))
    (λ (f : nat_eq k x.call ≡ false). entry P xs k v h.1 (sym (ap (λ (b : Bool). cond b (Some (x.node, x.op)) (asked_in k (log_of xs))) f) ∙ e))
    (cases_Bool (nat_eq k x.call))

wish_place : (who : Callers) (calls n db : ℕ) (key : List ℕ) (x : Node) (o : Option Wish) (w : Wish) → o ≡ Some w → (state_at db key x).wish ≡ o → wants_record w.op ≡ true → Wishful (Known who calls n db key) o → place_call w.op x ≡ Some w.call
unfolding Wishful Known wish_call
wish_place who calls n db key x None w e is wants h = absurd (cc)
wish_place who calls n db key x (Some y) w e is wants h = (let same : y ≡ w = cc in
    place_wish w.op x (wants_place w.op wants) ∙ ap (λ (i : ℕ). wish_call (state_at i (key_of w.op) x).wish) (ap db_of (sym same_op) ∙ h.2)
    ∙ ap (λ (l : List ℕ). wish_call (state_at db l x).wish) (ap key_of (sym same_op) ∙ h.3) ∙ ap wish_call (is ∙ e))
  where
    same_op : y.op ≡ w.op
    same_op = (let same : y ≡ w = cc in ap (λ (z : Wish). z.op) same)

commit_place : (db : ℕ) (x : Node) (y : Committing) → (db_at db x).commit ≡ Some y → place_call (op.Commit db y.writes) x ≡ Some y.call
unfolding clients.is_commit commit_call
commit_place db x y e = place_commit (op.Commit db y.writes) x refl ∙ ap commit_call e

born_places : (config : Config) (g : ℕ) (members : List ℕ) (row : Rows) (w : Cluster) → IsBornWith config g members row w → (n : ℕ) → AllByRecursion (AtPlaces n (node_at n w)) (pending_in n 0 (node_at n w).dbs)
unfolding state_at db_at KnownAt
born_places config g members row w h n = (let known = born_known config g members row w h n in
    node_all n 0 (node_at n w) (node_at n w).dbs known.order
    (λ k key x e. wish_place (callers_in w) w.calls n k key (node_at n w) (Some x) x refl e (all_wanting config g members row w h n k key x e) (subst (λ (o : Option Wish). Wishful (Known (callers_in w) w.calls n k key) o) e ((known.dbs k).records key)))
    (λ k y e. subst (λ (j : ℕ). place_call (op.Commit j y.writes) (node_at n w) ≡ Some y.call) (zero_more k) (commit_place k (node_at n w) y e)))

given_all : (calls : ℕ) (xs : List PendingCall) → list_all (λ (x : PendingCall). not (nat_lt calls x.call)) xs ≡ true → AllByRecursion (λ (x : PendingCall). x.call ≤ calls) xs
given_all calls [] e = tt
given_all calls (x ∷ xs) e = (let p = and_parts (not (nat_lt calls x.call)) _ e in (at_most (nat_lt calls x.call) refl p.0, given_all calls xs p.1))
  where
    at_most : (b : Bool) → nat_lt calls x.call ≡ b → not b ≡ true → x.call ≤ calls
    at_most true t f = absurd (cc)
    at_most false t f = ltb-false calls x.call t

known_wish_at : (config : Config) (g : ℕ) (members : List ℕ) (row : Rows) (w : Cluster) → IsBornWith config g members row w → (n db : ℕ) (key : List ℕ) → Wishful (Known (callers_in w) w.calls n db key) (state_at db key (node_at n w)).wish
unfolding state_at KnownAt
known_wish_at config g members row w h n db key = ((born_known config g members row w h n).dbs db).records key

commit_waits_in : (w : Cluster) (n db : ℕ) (y : Committing) → (db_at db (node_at n w)).commit ≡ Some y → list_any (is_call y.call) (pending w) ≡ true
unfolding pending node_at db_at
commit_waits_in w n db y e = numbered_any (λ x. x.call) (is_call y.call) (pending_from 0 w.nodes) ∙ nodes_any (is_call y.call) 0 n w.nodes (commit_any (0 + n) 0 db (or_absent (slice_get w.nodes n)).dbs y e)

node_places : (config : Config) (g : ℕ) (members : List ℕ) (row : Rows) (w : Cluster) → IsBornWith config g members row w → (k : ℕ) → AllByRecursion (IsPlace w) (pending_in k 0 (or_absent (slice_get w.nodes k)).dbs)
unfolding node_at
node_places config g members row w h k = place_each k w (pending_in k 0 (node_at k w).dbs) (born_places config g members row w h k)

all_places : (config : Config) (g : ℕ) (members : List ℕ) (row : Rows) (w : Cluster) → IsBornWith config g members row w → AllByRecursion (IsPlace w) (pending w)
unfolding pending
all_places config g members row w h = numbered_all (λ x. x.call) (IsPlace w) (pending_from 0 w.nodes) (nodes_all (IsPlace w) 0 w.nodes (λ k. subst (λ (j : ℕ). AllByRecursion (IsPlace w) (pending_in j 0 (or_absent (slice_get w.nodes k)).dbs)) (zero_more k) (node_places config g members row w h k)))

waits_in : (config : Config) (g : ℕ) (members : List ℕ) (row : Rows) (w : Cluster) → IsBornWith config g members row w → (k n : ℕ) (o : ClientOp) → asked_in k (log_of (pending w)) ≡ Some (n, o) → place_call o (node_at n w) ≡ Some k
unfolding IsPlace
waits_in config g members row w h k n o e = (let p = entry (IsPlace w) (pending w) k (n, o) (all_places config g members row w h) e in
    subst (λ (z : ℕ × ClientOp). place_call z.1 (node_at z.0 w) ≡ Some k) p.3 (p.1 ∙ ap (λ (j : ℕ). Some j) p.2))

-- every node of the configuration has a state for each database
born_sized : (config : Config) (g : ℕ) (members : List ℕ) (row : Rows) (w : Cluster) → IsBornWith config g members row w → (n : ℕ) → n < config.nodes → length (node_at n w).dbs ≡ length config.dbs
born_sized config g members row w h n l = ⊎_elim (λ (t : is_among n members ≡ true). (h.born n t).dbs) (λ (f : is_among n members ≡ false). (h.left n f).dbs l) (cases_Bool (is_among n members))

-- the calls that wait are exactly the open ones of their log
pub born_calls : (config : Config) (g : ℕ) (members : List ℕ) (row : Rows) (w : Cluster) → IsBornWith config g members row w → Calls config w (by_log (log_of (pending w)))
born_calls config g members row w h = record {
  size = h.size;
  there = λ n up. ⊎_elim (λ (t : is_among n members ≡ true). ltb-true n config.nodes (h.there n t)) (λ (f : is_among n members ≡ false). absurd (let k = sym up ∙ h.down n f in cc)) (cases_Bool (is_among n members));
  sized = born_sized config g members row w h;
  nodes = λ n. (let known = born_known config g members row w h n in record {
    order = known.order;
    wishes = λ db key. wished_born w n db key (state_at db key (node_at n w)).wish refl (λ x e. all_wanting config g members row w h n db key x e) (known_wish_at config g members row w h n db key);
    commits = λ db. committed_born w n db (db_at db (node_at n w)).commit (λ y e. commit_waits_in w n db y e) (known.dbs db).commit;
    waits = λ k o e. waits_in config g members row w h k n o e;
  });
  given = λ k v e. (let p = entry (λ (x : PendingCall). x.call ≤ w.calls) (pending w) k v (given_all w.calls (pending w) h.given) e in subst (λ (j : ℕ). j ≤ w.calls) p.2 p.1);
}

pub calls_from_rows : CallsFromRows
calls_from_rows config rules g members row w steps h = calls_run config rules w (log_of (pending w)) steps (born_calls config g members row w h)
