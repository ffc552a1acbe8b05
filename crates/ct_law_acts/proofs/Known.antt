-- Who made each call that waits in a cluster and what it asked is known; and an answer to it gets that label.
use Rattle.std.proofs.Common.{◌≡◌, ℕ, zero, suc, ◌+◌, ◌≤◌, Bool, true, false, ◌||◌, List, [], ◌∷◌, ◌++◌, Option, Some, None, refl, ap, ◌∙◌, subst, arith}
use Rattle.std.specs.Prelude.{slice_get}
use Rattle.std.specs.List.{AllByRecursion, list_any}
use Rattle.std.proofs.lemmas.Bool.{eq-eqb}
use Rattle.ct_values.specs.declared.client.Answer.{Answer}
use Rattle.ct_values.specs.declared.client.ClientOp.{ClientOp}
use Rattle.ct_values.specs.declared.client.ClientOp.TheVariants as op
use Rattle.ct_values.specs.declared.client.Pair.{Pair}
use Rattle.ct_values.specs.declared.config.Config.{Config}
use Rattle.ct_lcp2.proofs.Choices.{all_append}
use Rattle.ct_store.specs.Map.{Pairs}
use Rattle.ct_rules.specs.declared.state.RecState.{RecState}
use Rattle.ct_rules.specs.declared.state.Wish.{Wish}
use Rattle.ct_rules_node.specs.Node.{Node, Database, Committing, untouched, or_untouched, db_at, has_records, kind_at}
use Rattle.ct_rules_node.specs.Clients.{is_commit, is_unlock}
use Rattle.ct_law_rules_node.proofs.Numbered.{numbered_all, numbered_any}
use Rattle.ct_rules_cluster.specs.Cluster.{Cluster, node_at, or_absent, absent, wished, wished_in, committing, pending_in, pending_from, pending}
use Rattle.ct_rules_cluster.specs.Labels.{Answered}
use Rattle.ct_law_generation.specs.Waiting.{answered}
use Rattle.ct_rules_cluster.specs.declared.step.PendingCall.{PendingCall}
use Rattle.ct_law_wishes.proofs.Wishing.{Wishful}
use Rattle.ct_law_generation.proofs.Pending.{Callers, Fits, is_call, answered_as, Known}
use Rattle.ct_law_acts.proofs.Waiting.{EachWish, OfCommit, EachCall, calls_at}

-- a call that waits for a record: it is known, its database has records, and it is no commit and no unlock
unfoldable pub Waits : Config → Callers → ℕ → ℕ → ℕ → List ℕ → ℕ → ClientOp → Type 0
Waits c who calls n db key call asked = Known who calls n db key call asked × (has_records (kind_at c db) ≡ true) × (is_commit asked ≡ false) × (is_unlock asked ≡ false)

-- a call whose commit waits is known
unfoldable pub Commits : Callers → ℕ → ℕ → ℕ → ℕ → List Pair → Type 0
Commits who calls n db call writes = (who call ≡ (n, op.Commit db writes)) × (call ≤ calls)

-- all calls that wait at node n are known
abbrev pub NodeCalls : Config → Callers → ℕ → ℕ → Node → Type 0
NodeCalls c who calls n x = EachCall (Waits c who calls n) (Commits who calls n) 0 x.dbs

-- ---- as the list of those that wait

one_wish : (c : Config) (who : Callers) (calls n db : ℕ) (key : List ℕ) (w : Option Wish) → Wishful (Waits c who calls n db key) w → AllByRecursion (Fits who) (wished n w)
unfolding Wishful Waits Known wished Fits
one_wish c who calls n db key None h = tt
one_wish c who calls n db key (Some w) h = (h.0.0, tt)

wishes_fit : (c : Config) (who : Callers) (calls n db : ℕ) (m : Pairs RecState) → EachWish (Waits c who calls n) (Commits who calls n) db m → AllByRecursion (Fits who) (wished_in n m)
unfolding wished_in EachWish
wishes_fit c who calls n db [] h = tt
wishes_fit c who calls n db (e ∷ m) h = all_append (Fits who) (wished n e.1.wish) (wished_in n m) (one_wish c who calls n db e.0 e.1.wish h.0) (wishes_fit c who calls n db m h.1)

commit_fits : (c : Config) (who : Callers) (calls n db : ℕ) (x : Option Committing) → OfCommit (Waits c who calls n) (Commits who calls n) db x → AllByRecursion (Fits who) (committing n db x)
unfolding OfCommit Commits committing Fits
commit_fits c who calls n db None h = tt
commit_fits c who calls n db (Some x) h = (h.0, tt)

dbs_fit : (c : Config) (who : Callers) (calls n i : ℕ) (ds : List Database) → EachCall (Waits c who calls n) (Commits who calls n) i ds → AllByRecursion (Fits who) (pending_in n i ds)
unfolding pending_in EachCall
dbs_fit c who calls n i [] h = tt
dbs_fit c who calls n i (d ∷ ds) h = all_append (Fits who) (wished_in n d.records ++ committing n i d.commit) (pending_in n (i + 1) ds)
    (all_append (Fits who) (wished_in n d.records) (committing n i d.commit) (wishes_fit c who calls n i d.records h.0.wishes) (commit_fits c who calls n i d.commit h.0.commit))
    (dbs_fit c who calls n (i + 1) ds h.1)

nodes_fit : (c : Config) (who : Callers) (calls i : ℕ) (ns : List Node) → ((k : ℕ) → NodeCalls c who calls (i + k) (or_absent (slice_get ns k))) → AllByRecursion (Fits who) (pending_from i ns)
unfolding pending_from or_absent
nodes_fit c who calls i [] all = tt
nodes_fit c who calls i (x ∷ ns) all = all_append (Fits who) (pending_in i 0 x.dbs) (pending_from (i + 1) ns)
    (dbs_fit c who calls i 0 x.dbs (subst (λ (j : ℕ). NodeCalls c who calls j x) (omega arith) (all 0)))
    (nodes_fit c who calls (i + 1) ns (λ k. subst (λ (j : ℕ). NodeCalls c who calls j (or_absent (slice_get ns k))) (next_index k) (all (suc k))))
  where
    next_index : (k : ℕ) → i + suc k ≡ (i + 1) + k
    next_index k = omega arith

-- every call that waits in the cluster is known
pub pending_known : (c : Config) (who : Callers) (calls : ℕ) (w : Cluster) → ((n : ℕ) → NodeCalls c who calls n (node_at n w)) → AllByRecursion (Fits who) (pending w)
unfolding pending node_at
pending_known c who calls w all = numbered_all (λ x. x.call) (Fits who) (pending_from 0 w.nodes) (nodes_fit c who calls 0 w.nodes (λ k. subst (λ (j : ℕ). NodeCalls c who calls j (or_absent (slice_get w.nodes k))) (zero_more k) (all k)))
  where
    zero_more : (k : ℕ) → k ≡ 0 + k
    zero_more k = omega arith

-- ---- a commit that waits is among them

left_any : (f : PendingCall → Bool) (xs ys : List PendingCall) → list_any f xs ≡ true → list_any f (xs ++ ys) ≡ true
left_any f [] ys e = absurd (cc)
left_any f (x ∷ xs) ys e = by (f x) e (left_any f xs ys)
  where
    by : (b : Bool) → (b || list_any f xs) ≡ true → (list_any f xs ≡ true → list_any f (xs ++ ys) ≡ true) → (b || list_any f (xs ++ ys)) ≡ true
    by true k more = refl
    by false k more = more k

right_any : (f : PendingCall → Bool) (xs ys : List PendingCall) → list_any f ys ≡ true → list_any f (xs ++ ys) ≡ true
right_any f [] ys e = e
right_any f (x ∷ xs) ys e = by (f x) (right_any f xs ys e)
  where
    by : (b : Bool) → list_any f (xs ++ ys) ≡ true → (b || list_any f (xs ++ ys)) ≡ true
    by true k = refl
    by false k = k

commit_any : (n db : ℕ) (o : Option Committing) (x : Committing) → o ≡ Some x → list_any (is_call x.call) (committing n db o) ≡ true
unfolding committing is_call
commit_any n db None x e = absurd (cc)
commit_any n db (Some y) x e = (let same : y ≡ x = cc in rw (eq-eqb y.call x.call (ap (λ (z : Committing). z.call) same)) refl)

dbs_any : (n i k : ℕ) (ds : List Database) (x : Committing) → (or_untouched (slice_get ds k)).commit ≡ Some x → list_any (is_call x.call) (pending_in n i ds) ≡ true
unfolding pending_in or_untouched untouched
dbs_any n i k [] x e = absurd (cc)
dbs_any n i zero (d ∷ ds) x e = left_any (is_call x.call) (wished_in n d.records ++ committing n i d.commit) (pending_in n (i + 1) ds)
    (right_any (is_call x.call) (wished_in n d.records) (committing n i d.commit) (commit_any n i d.commit x e))
dbs_any n i (suc k) (d ∷ ds) x e = right_any (is_call x.call) (wished_in n d.records ++ committing n i d.commit) (pending_in n (i + 1) ds) (dbs_any n (i + 1) k ds x e)

nodes_any : (i k db : ℕ) (ns : List Node) (x : Committing) → (db_at db (or_absent (slice_get ns k))).commit ≡ Some x → list_any (is_call x.call) (pending_from i ns) ≡ true
unfolding pending_from or_absent absent db_at or_untouched untouched
nodes_any i k db [] x e = absurd (cc)
nodes_any i zero db (y ∷ ns) x e = left_any (is_call x.call) (pending_in i 0 y.dbs) (pending_from (i + 1) ns) (dbs_any i 0 db y.dbs x e)
nodes_any i (suc k) db (y ∷ ns) x e = right_any (is_call x.call) (pending_in i 0 y.dbs) (pending_from (i + 1) ns) (nodes_any (i + 1) k db ns x e)

pub commit_pending : (w : Cluster) (n db : ℕ) (x : Committing) → (db_at db (node_at n w)).commit ≡ Some x → list_any (is_call x.call) (pending w) ≡ true
unfolding pending node_at
commit_pending w n db x e = numbered_any (λ x. x.call) (is_call x.call) (pending_from 0 w.nodes) ∙ nodes_any 0 n db w.nodes x e

commit_at : (c : Config) (who : Callers) (calls n db : ℕ) (x : Node) → NodeCalls c who calls n x → OfCommit (Waits c who calls n) (Commits who calls n) db (db_at db x).commit
unfolding db_at
commit_at c who calls n db x h = (calls_at (Waits c who calls n) (Commits who calls n) db x.dbs h).commit

own_commit : (c : Config) (who : Callers) (calls n db : ℕ) (x : Committing) → OfCommit (Waits c who calls n) (Commits who calls n) db (Some x) → who x.call ≡ (n, op.Commit db x.writes)
unfolding OfCommit Commits
own_commit c who calls n db x h = h.0

-- an answer to a commit that waits gets the label of its node, its database and its writes
pub commit_answered : (c : Config) (who : Callers) (calls : ℕ) (w : Cluster) (n db : ℕ) (x : Committing) (a : Answer) → ((m : ℕ) → NodeCalls c who calls m (node_at m w)) → (db_at db (node_at n w)).commit ≡ Some x →
    answered x.call a (pending w) ≡ Answered n (op.Commit db x.writes) a ∷ []
commit_answered c who calls w n db x a all e =
    let is = own (db_at db (node_at n w)).commit e there in
    answered_as who x.call a (pending w) (pending_known c who calls w all) (commit_pending w n db x e) ∙ ap (λ (p : ℕ × ClientOp). Answered p.0 p.1 a ∷ []) is
  where
    there : OfCommit (Waits c who calls n) (Commits who calls n) db (db_at db (node_at n w)).commit
    there = commit_at c who calls n db (node_at n w) (all n)

    own : (o : Option Committing) → o ≡ Some x → OfCommit (Waits c who calls n) (Commits who calls n) db o → who x.call ≡ (n, op.Commit db x.writes)
    own o f k = own_commit c who calls n db x (subst (λ (y : Option Committing). OfCommit (Waits c who calls n) (Commits who calls n) db y) f k)
