-- A call gets the next number: what is known of the calls before it stays so, and it is known itself.
use Rattle.std.proofs.Common.{◌≡◌, ℕ, ◌+◌, ◌≤◌, Bool, true, false, cond, List, [], ◌∷◌, Option, Some, None, refl, ap, ◌∙◌, arith}
use Rattle.std.specs.Prelude.{nat_eq, is_none}
use Rattle.std.proofs.lemmas.Bool.{ne_eqb, eq-eqb}
use Rattle.ct_values.specs.Client.{db_of, is_read}
use Rattle.ct_values.specs.declared.client.ClientOp.{ClientOp}
use Rattle.ct_values.specs.declared.client.ClientOp.TheVariants as op
use Rattle.ct_values.specs.declared.client.Why.TheVariants as why
use Rattle.ct_values.specs.declared.config.Config.{Config}
use Rattle.ct_values.specs.declared.config.DbKind.{DbKind}
use Rattle.ct_values.specs.declared.config.DbKind.TheVariants.{Volatile, ReadOnly, Persistent}
use Rattle.ct_call.specs.Rules.{Rules}
use Rattle.ct_store.specs.Map.{Pairs}
use Rattle.ct_rules.specs.declared.state.RecState.{RecState}
use Rattle.ct_rules.specs.declared.state.Wish.{Wish}
use Rattle.ct_rules_node.specs.Node.{Node, Database, Committing, is_persistent, has_records, kind_at}
use Rattle.ct_rules_node.specs.Refusals.{refused_if}
use Rattle.ct_rules_node.specs.Clients.{refusal, no_such_db, wrong_kind, is_commit, is_unlock}
use Rattle.ct_law_rules_node.proofs.Refusals.{first_none, not_refused}
use Rattle.ct_law_wishes.proofs.Wishing.{Wishful}
use Rattle.ct_law_generation.proofs.Pending.{Callers, Known}
use Rattle.ct_law_acts.proofs.Waiting.{EachWish, OfCommit, EachCall}
use Rattle.ct_law_acts.proofs.Whole.{IsNew}
use Rattle.ct_law_acts.proofs.Known.{Waits, Commits, NodeCalls}

-- this call is of this node and asked this
abbrev pub called : ℕ → ℕ × ClientOp → Callers → Callers
called call x who k = cond (nat_eq k call) x (who k)

own_call : (call : ℕ) (x : ℕ × ClientOp) (who : Callers) → called call x who call ≡ x
own_call call x who = ap (λ (b : Bool). cond b x (who call)) (eq-eqb call call refl)

old_call : (calls k : ℕ) (x y : ℕ × ClientOp) (who : Callers) → k ≤ calls → who k ≡ y → called (calls + 1) x who k ≡ y
old_call calls k x y who l e = ap (λ (b : Bool). cond b x (who k)) (ne_eqb k (calls + 1) (λ (is : k ≡ calls + 1). omega arith)) ∙ e

-- ---- one call more

more_wish : (c : Config) (who : Callers) (calls n db : ℕ) (key : List ℕ) (x : ℕ × ClientOp) (w : Option Wish) → Wishful (Waits c who calls n db key) w → Wishful (Waits c (called (calls + 1) x who) (calls + 1) n db key) w
unfolding Wishful Waits Known
more_wish c who calls n db key x None h = tt
more_wish c who calls n db key x (Some w) h = ((old_call calls w.call x (n, w.op) who h.0.1 h.0.0, (let l = h.0.1 in omega arith), h.0.2, h.0.3), h.1, h.2, h.3)

more_wishes : (c : Config) (who : Callers) (calls n db : ℕ) (x : ℕ × ClientOp) (m : Pairs RecState) → EachWish (Waits c who calls n) (Commits who calls n) db m → EachWish (Waits c (called (calls + 1) x who) (calls + 1) n) (Commits (called (calls + 1) x who) (calls + 1) n) db m
unfolding EachWish
more_wishes c who calls n db x [] h = tt
more_wishes c who calls n db x (e ∷ m) h = (more_wish c who calls n db e.0 x e.1.wish h.0, more_wishes c who calls n db x m h.1)

more_commit : (c : Config) (who : Callers) (calls n db : ℕ) (x : ℕ × ClientOp) (o : Option Committing) → OfCommit (Waits c who calls n) (Commits who calls n) db o → OfCommit (Waits c (called (calls + 1) x who) (calls + 1) n) (Commits (called (calls + 1) x who) (calls + 1) n) db o
unfolding OfCommit Commits
more_commit c who calls n db x None h = tt
more_commit c who calls n db x (Some y) h = (old_call calls y.call x (n, op.Commit db y.writes) who h.1 h.0, (let l = h.1 in omega arith))

more_dbs : (c : Config) (who : Callers) (calls n i : ℕ) (x : ℕ × ClientOp) (ds : List Database) → EachCall (Waits c who calls n) (Commits who calls n) i ds → EachCall (Waits c (called (calls + 1) x who) (calls + 1) n) (Commits (called (calls + 1) x who) (calls + 1) n) i ds
unfolding EachCall
more_dbs c who calls n i x [] h = tt
more_dbs c who calls n i x (d ∷ ds) h = (record { wishes = more_wishes c who calls n i x d.records h.0.wishes; commit = more_commit c who calls n i x d.commit h.0.commit }, more_dbs c who calls n (i + 1) x ds h.1)

-- what is known of the calls of a node stays so with one call more, whoever made it
pub more_calls : (c : Config) (who : Callers) (calls n : ℕ) (x : ℕ × ClientOp) (node : Node) → NodeCalls c who calls n node → NodeCalls c (called (calls + 1) x who) (calls + 1) n node
more_calls c who calls n x node h = more_dbs c who calls n 0 x node.dbs h

-- ---- the call itself

has_kind : (k : Option DbKind) → is_none k ≡ false → is_persistent k ≡ false → has_records k ≡ true
unfolding is_persistent has_records
has_kind None e f = absurd (cc)
has_kind (Some Volatile) e f = refl
has_kind (Some ReadOnly) e f = refl
has_kind (Some Persistent) e f = absurd (cc)

-- the database of a call that is not refused has records, where it is not persistent
there : (c : Config) (rules : Rules) (n : Node) (o : ClientOp) → refusal c rules n o ≡ None → is_persistent (kind_at c (db_of o)) ≡ false → has_records (kind_at c (db_of o)) ≡ true
unfolding refusal no_such_db
there c rules n o e f = has_kind (kind_at c (db_of o)) (not_refused (is_none (kind_at c (db_of o))) why.NoSuchDb (first_none _ _ e).0) f

-- only a commit or a read that is not refused is of a persistent database
kind_of_call : (c : Config) (rules : Rules) (n : Node) (o : ClientOp) → refusal c rules n o ≡ None → is_commit o ≡ false → is_read o ≡ false → is_persistent (kind_at c (db_of o)) ≡ false
unfolding refusal wrong_kind refused_if
kind_of_call c rules n o e f g = (let a = (first_none _ _ (first_none _ _ e).1).0 in grind arith)

-- the next call, of node n, is known
pub new_known : (c : Config) (rules : Rules) (who : Callers) (calls n : ℕ) (asked : ClientOp) (node : Node) → IsNew (Waits c (called (calls + 1) (n, asked) who) (calls + 1) n) (Commits (called (calls + 1) (n, asked) who) (calls + 1) n) c rules node (calls + 1) asked
unfolding IsNew Waits Known Commits is_commit is_unlock is_read
new_known c rules who calls n (op.Commit db writes) node = λ e. (own_call (calls + 1) (n, op.Commit db writes) who, omega arith)
new_known c rules who calls n (op.Read db key) node = λ e f. ((own_call (calls + 1) (n, op.Read db key) who, omega arith, refl, refl), there c rules node (op.Read db key) e f, refl, refl)
new_known c rules who calls n (op.Lock db key) node = λ e. ((own_call (calls + 1) (n, op.Lock db key) who, omega arith, refl, refl), there c rules node (op.Lock db key) e (kind_of_call c rules node (op.Lock db key) e refl refl), refl, refl)
new_known c rules who calls n (op.Write db key v) node = λ e. ((own_call (calls + 1) (n, op.Write db key v) who, omega arith, refl, refl), there c rules node (op.Write db key v) e (kind_of_call c rules node (op.Write db key v) e refl refl), refl, refl)
new_known c rules who calls n (op.Apply db key f arg) node = λ e. ((own_call (calls + 1) (n, op.Apply db key f arg) who, omega arith, refl, refl), there c rules node (op.Apply db key f arg) e (kind_of_call c rules node (op.Apply db key f arg) e refl refl), refl, refl)
new_known c rules who calls n (op.Store db key v) node = λ e. ((own_call (calls + 1) (n, op.Store db key v) who, omega arith, refl, refl), there c rules node (op.Store db key v) e (kind_of_call c rules node (op.Store db key v) e refl refl), refl, refl)
new_known c rules who calls n (op.Unlock db key) node = tt

-- an unlock that is not refused is known, too, and its database has records
pub unlock_known : (c : Config) (rules : Rules) (who : Callers) (calls n db : ℕ) (key : List ℕ) (node : Node) → refusal c rules node (op.Unlock db key) ≡ None →
    Known (called (calls + 1) (n, op.Unlock db key) who) (calls + 1) n db key (calls + 1) (op.Unlock db key) × (has_records (kind_at c db) ≡ true)
unfolding Known is_commit is_read
unlock_known c rules who calls n db key node e = ((own_call (calls + 1) (n, op.Unlock db key) who, omega arith, refl, refl), there c rules node (op.Unlock db key) e (kind_of_call c rules node (op.Unlock db key) e refl refl))
