-- An answer to a call that waits gets the label of what that call asked, at its node.
use Rattle.std.proofs.Common.{◌≡◌, ℕ, zero, suc, ◌+◌, ◌≤◌, Bool, true, false, cond, ◌||◌, List, [], ◌∷◌, ◌++◌, Option, Some, None, refl, sym, ◌∙◌, ap, subst, arith}
use Rattle.std.specs.Prelude.{slice_get, nat_eq}
use Rattle.std.specs.Ordering.{is_eq}
use Rattle.std.specs.List.{AllByRecursion, list_any}
use Rattle.std.specs.List.Sorted.{IsStrictlySortedBy}
use Rattle.std.proofs.lemmas.Bool.{eqb-true, eq-eqb, or_right}
use Rattle.ct_values.specs.Key.{key_cmp}
use Rattle.ct_values.specs.Client.{db_of, key_of}
use Rattle.ct_values.specs.declared.client.Answer.{Answer}
use Rattle.ct_values.specs.declared.client.ClientOp.{ClientOp}
use Rattle.ct_values.specs.declared.client.ClientOp.TheVariants as op
use Rattle.ct_store.specs.Map.{Pairs, Ascends, look}
use Rattle.ct_store.proofs.Maps.{one_key, equal}
use Rattle.ct_rules.specs.declared.state.RecState.{RecState}
use Rattle.ct_rules.specs.declared.state.Wish.{Wish}
use Rattle.ct_rules_node.specs.Node.{Node, Database, Committing, untouched, or_untouched, or_nothing, db_at, state_at}
use Rattle.ct_law_rules_node.specs.NodeLaws.{AllAscend}
use Rattle.ct_law_rules_node.proofs.Keys.{below_unseen}
use Rattle.ct_law_rules_node.proofs.Installed.{own_key}
use Rattle.ct_law_rules_node.proofs.Numbered.{numbered_all, numbered_any}
use Rattle.ct_rules_cluster.specs.Cluster.{Cluster, node_at, or_absent, absent, wished, wished_in, committing, pending_in, pending_from, pending}
use Rattle.ct_rules_cluster.specs.Labels.{Label, Answered}
use Rattle.ct_law_generation.specs.Waiting.{answered}
use Rattle.ct_rules_cluster.specs.declared.step.PendingCall.{PendingCall}
use Rattle.ct_law_wishes.proofs.Wishing.{Wishful}
use Rattle.ct_lcp2.proofs.Choices.{all_append}

-- who made each call, and what it asked
abbrev pub Callers : Type 0
Callers = ℕ → ℕ × ClientOp

-- the call is that of its number
unfoldable pub Fits : Callers → PendingCall → Type 0
Fits who x = who x.call ≡ (x.node, x.op)

unfoldable pub is_call : ℕ → PendingCall → Bool
is_call call x = nat_eq x.call call

-- ---- the first of its number

answered_case : (who : Callers) (call : ℕ) (a : Answer) (x : PendingCall) (more : List Label) (b more_any : Bool) → Fits who x → (more_any ≡ true → more ≡ Answered (who call).0 (who call).1 a ∷ []) → nat_eq x.call call ≡ b → (b || more_any) ≡ true →
    cond b (Answered x.node x.op a ∷ []) more ≡ Answered (who call).0 (who call).1 a ∷ []
unfolding Fits
answered_case who call a x more true any f rest t k = (let same : who call ≡ (x.node, x.op) = ap who (sym (eqb-true x.call call t)) ∙ f in ap (λ (p : ℕ × ClientOp). Answered p.0 p.1 a ∷ []) (sym same))
answered_case who call a x more false any f rest t k = rest k

pub answered_as : (who : Callers) (call : ℕ) (a : Answer) (xs : List PendingCall) → AllByRecursion (Fits who) xs → list_any (is_call call) xs ≡ true → answered call a xs ≡ Answered (who call).0 (who call).1 a ∷ []
unfolding answered is_call
answered_as who call a [] h e = absurd (cc)
answered_as who call a (x ∷ xs) h e = answered_case who call a x (answered call a xs) (nat_eq x.call call) (list_any (is_call call) xs) h.0 (λ k. answered_as who call a xs h.1 k) refl e

-- ---- in two lists, one after the other

-- what was so of the second is so still
pub or_grows : (b d e : Bool) → (d ≡ true → e ≡ true) → (b || d) ≡ true → (b || e) ≡ true
or_grows true d e f k = refl
or_grows false d e f k = f k

pub left_any : (f : PendingCall → Bool) (xs ys : List PendingCall) → list_any f xs ≡ true → list_any f (xs ++ ys) ≡ true
left_any f [] ys e = absurd (cc)
left_any f (x ∷ xs) ys e = or_grows (f x) (list_any f xs) (list_any f (xs ++ ys)) (λ k. left_any f xs ys k) e

pub right_any : (f : PendingCall → Bool) (xs ys : List PendingCall) → list_any f ys ≡ true → list_any f (xs ++ ys) ≡ true
right_any f [] ys e = e
right_any f (x ∷ xs) ys e = or_right (f x) (list_any f (xs ++ ys)) (right_any f xs ys e)

-- ---- one database

-- what the call that waits for a record of the node asked: of that record, under a number that was given
unfoldable pub Known : Callers → ℕ → ℕ → ℕ → List ℕ → ℕ → ClientOp → Type 0
Known who calls n db key call asked = (who call ≡ (n, asked)) × (call ≤ calls) × (db_of asked ≡ db) × (key_of asked ≡ key)

unfoldable pub CommitFits : Callers → ℕ → ℕ → ℕ → Option Committing → Type 0
CommitFits who calls n db None = Unit {0}
CommitFits who calls n db (Some x) = (who x.call ≡ (n, op.Commit db x.writes)) × (x.call ≤ calls)

unfoldable pub KnownAt : Callers → ℕ → ℕ → ℕ → List ℕ → Option RecState → Type 0
KnownAt who calls n db key s = Wishful (Known who calls n db key) (or_nothing s).wish

-- of every call that waits in a database of the node, it is known who made it and what it asked
pub record DatabaseKnown (who : Callers) (calls n db : ℕ) (d : Database) : Type 0 where
  pub records : (key : List ℕ) → KnownAt who calls n db key (look key d.records)
  pub commit : CommitFits who calls n db d.commit

pub record NodeKnown (who : Callers) (calls n : ℕ) (x : Node) : Type 0 where
  pub order : AllAscend x.dbs
  pub dbs : (db : ℕ) → DatabaseKnown who calls n db (db_at db x)

wished_fits : (who : Callers) (calls n db : ℕ) (key : List ℕ) (w : Option Wish) → Wishful (Known who calls n db key) w → AllByRecursion (Fits who) (wished n w)
unfolding Wishful Known wished Fits
wished_fits who calls n db key None h = tt
wished_fits who calls n db key (Some w) h = (h.0, tt)

-- every key of a map, by its look
pub look_tail : (P : List ℕ → Option RecState → Type 0) (e : List ℕ × RecState) (m : Pairs RecState) → Ascends (e ∷ m) → ((key : List ℕ) → P key None) → ((key : List ℕ) → P key (look key (e ∷ m))) → (key : List ℕ) → P key (look key m)
unfolding IsStrictlySortedBy
look_tail P e m h none all key = cases (is_eq (key_cmp key e.0)) refl
  where
    cases : (b : Bool) → is_eq (key_cmp key e.0) ≡ b → P key (look key m)
    cases true t = subst (λ (k : List ℕ). P k (look k m)) (sym (one_key key e.0 (equal _ t))) (subst (λ (x : Option RecState). P e.0 x) (sym (below_unseen e.0 m h.0)) (none e.0))
    cases false t = subst (λ (b : Bool). P key (cond b (Some e.1) (look key m))) t (all key)

pub look_head : (P : List ℕ → Option RecState → Type 0) (e : List ℕ × RecState) (m : Pairs RecState) → ((key : List ℕ) → P key (look key (e ∷ m))) → P e.0 (Some e.1)
look_head P e m all = subst (λ (b : Bool). P e.0 (cond b (Some e.1) (look e.0 m))) (own_key e.0) (all e.0)

pub none_known : (who : Callers) (calls n db : ℕ) (key : List ℕ) → KnownAt who calls n db key None
unfolding KnownAt or_nothing Wishful
none_known who calls n db key = tt

records_fit : (who : Callers) (calls n db : ℕ) (m : Pairs RecState) → Ascends m → ((key : List ℕ) → KnownAt who calls n db key (look key m)) → AllByRecursion (Fits who) (wished_in n m)
unfolding wished_in IsStrictlySortedBy KnownAt or_nothing Wishful
records_fit who calls n db [] h all = tt
records_fit who calls n db (e ∷ m) h all = all_append (Fits who) (wished n e.1.wish) (wished_in n m)
    (one (look_head (KnownAt who calls n db) e m all))
    (records_fit who calls n db m h.1 (look_tail (KnownAt who calls n db) e m h (none_known who calls n db) all))
  where
    one : KnownAt who calls n db e.0 (Some e.1) → AllByRecursion (Fits who) (wished n e.1.wish)
    one k = wished_fits who calls n db e.0 e.1.wish k

pub wished_any : (n : ℕ) (o : Option Wish) (w : Wish) → o ≡ Some w → list_any (is_call w.call) (wished n o) ≡ true
unfolding wished is_call
wished_any n None w e = absurd (cc)
wished_any n (Some v) w e = (let same : v ≡ w = cc in rw (eq-eqb v.call w.call (ap (λ (x : Wish). x.call) same)) refl)

records_case : (n : ℕ) (m : Pairs RecState) (s : RecState) (before : Option RecState) (w : Wish) (b : Bool) → ((or_nothing before).wish ≡ Some w → list_any (is_call w.call) (wished_in n m) ≡ true) →
    (or_nothing (cond b (Some s) before)).wish ≡ Some w → list_any (is_call w.call) (wished n s.wish ++ wished_in n m) ≡ true
unfolding or_nothing
records_case n m s before w true rest k = left_any (is_call w.call) (wished n s.wish) (wished_in n m) (wished_any n s.wish w k)
records_case n m s before w false rest k = right_any (is_call w.call) (wished n s.wish) (wished_in n m) (rest k)

pub records_any : (n : ℕ) (m : Pairs RecState) (key : List ℕ) (w : Wish) → (or_nothing (look key m)).wish ≡ Some w → list_any (is_call w.call) (wished_in n m) ≡ true
unfolding wished_in or_nothing
records_any n [] key w e = absurd (cc)
records_any n (x ∷ m) key w e = records_case n m x.1 (look key m) w (is_eq (key_cmp key x.0)) (λ k. records_any n m key w k) e

-- ---- all databases of a node

committing_fits : (who : Callers) (calls n db : ℕ) (x : Option Committing) → CommitFits who calls n db x → AllByRecursion (Fits who) (committing n db x)
unfolding CommitFits committing Fits
committing_fits who calls n db None h = tt
committing_fits who calls n db (Some x) h = (h.0, tt)

pub next_index : (i k : ℕ) → i + suc k ≡ (i + 1) + k
next_index i k = omega arith

pub zero_more : (k : ℕ) → k ≡ 0 + k
zero_more k = omega arith

node_fits : (who : Callers) (calls n i : ℕ) (ds : List Database) → AllAscend ds →
    ((k : ℕ) → DatabaseKnown who calls n (i + k) (or_untouched (slice_get ds k))) → AllByRecursion (Fits who) (pending_in n i ds)
unfolding pending_in AllAscend or_untouched
node_fits who calls n i [] h all = tt
node_fits who calls n i (d ∷ ds) h all =
    let first : DatabaseKnown who calls n i d = subst (λ (j : ℕ). DatabaseKnown who calls n j d) (omega arith) (all 0) in
    all_append (Fits who) (wished_in n d.records ++ committing n i d.commit) (pending_in n (i + 1) ds)
    (all_append (Fits who) (wished_in n d.records) (committing n i d.commit) (records_fit who calls n i d.records h.0 first.records) (committing_fits who calls n i d.commit first.commit))
    (node_fits who calls n (i + 1) ds h.1 (λ k. subst (λ (j : ℕ). DatabaseKnown who calls n j (or_untouched (slice_get ds k))) (next_index i k) (all (suc k))))

pub node_any : (n i k : ℕ) (ds : List Database) (key : List ℕ) (w : Wish) → (or_nothing (look key (or_untouched (slice_get ds k)).records)).wish ≡ Some w → list_any (is_call w.call) (pending_in n i ds) ≡ true
unfolding pending_in or_untouched untouched or_nothing
node_any n i k [] key w e = absurd (cc)
node_any n i zero (d ∷ ds) key w e = left_any (is_call w.call) (wished_in n d.records ++ committing n i d.commit) (pending_in n (i + 1) ds)
    (left_any (is_call w.call) (wished_in n d.records) (committing n i d.commit) (records_any n d.records key w e))
node_any n i (suc k) (d ∷ ds) key w e = right_any (is_call w.call) (wished_in n d.records ++ committing n i d.commit) (pending_in n (i + 1) ds) (node_any n (i + 1) k ds key w e)

-- ---- all nodes

nodes_fit : (who : Callers) (calls i : ℕ) (ns : List Node) → ((k : ℕ) → NodeKnown who calls (i + k) (or_absent (slice_get ns k))) → AllByRecursion (Fits who) (pending_from i ns)
unfolding pending_from or_absent db_at
nodes_fit who calls i [] all = tt
nodes_fit who calls i (x ∷ ns) all =
    let first : NodeKnown who calls i x = subst (λ (j : ℕ). NodeKnown who calls j x) (omega arith) (all 0) in
    all_append (Fits who) (pending_in i 0 x.dbs) (pending_from (i + 1) ns) (node_fits who calls i 0 x.dbs first.order (λ k. subst (λ (j : ℕ). DatabaseKnown who calls i j (or_untouched (slice_get x.dbs k))) (zero_more k) (first.dbs k)))
    (nodes_fit who calls (i + 1) ns (λ k. subst (λ (j : ℕ). NodeKnown who calls j (or_absent (slice_get ns k))) (next_index i k) (all (suc k))))

nodes_any : (i k db : ℕ) (ns : List Node) (key : List ℕ) (w : Wish) → (state_at db key (or_absent (slice_get ns k))).wish ≡ Some w → list_any (is_call w.call) (pending_from i ns) ≡ true
unfolding pending_from or_absent absent state_at db_at or_untouched untouched or_nothing
nodes_any i k db [] key w e = absurd (cc)
nodes_any i zero db (x ∷ ns) key w e = left_any (is_call w.call) (pending_in i 0 x.dbs) (pending_from (i + 1) ns) (node_any i 0 db x.dbs key w e)
nodes_any i (suc k) db (x ∷ ns) key w e = right_any (is_call w.call) (pending_in i 0 x.dbs) (pending_from (i + 1) ns) (nodes_any (i + 1) k db ns key w e)

pub pending_fits : (who : Callers) (calls : ℕ) (w : Cluster) → ((n : ℕ) → NodeKnown who calls n (node_at n w)) → AllByRecursion (Fits who) (pending w)
unfolding pending node_at
pending_fits who calls w all = numbered_all (λ x. x.call) (Fits who) (pending_from 0 w.nodes) (nodes_fit who calls 0 w.nodes (λ k. subst (λ (j : ℕ). NodeKnown who calls j (or_absent (slice_get w.nodes k))) (zero_more k) (all k)))

pub pending_has : (w : Cluster) (n db : ℕ) (key : List ℕ) (x : Wish) → (state_at db key (node_at n w)).wish ≡ Some x → list_any (is_call x.call) (pending w) ≡ true
unfolding pending node_at
pending_has w n db key x e = numbered_any (λ x. x.call) (is_call x.call) (pending_from 0 w.nodes) ∙ nodes_any 0 n db w.nodes key x e
