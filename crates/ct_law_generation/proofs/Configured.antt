-- What is known of a configuration, of the kind of a database, and of the reasons for which a call is refused.
use Rattle.std.proofs.Common.{◌≡◌, ℕ, zero, suc, ◌+◌, ◌<◌, ◌≤◌, Bool, true, false, cond, List, [], ◌∷◌, length, Option, Some, None, refl, ap, arith, subst}
use Rattle.std.specs.Prelude.{nat_lt, is_none, ◌||◌}
use Rattle.std.specs.List.{list_all}
use Rattle.std.proofs.lemmas.Bool.{and_from, or_parts, ltb-false, lt-ltb}
use Rattle.ct_values.specs.declared.address.Address.{Address}
use Rattle.ct_values.specs.Client.{db_of, key_of, wants_record}
use Rattle.ct_values.specs.Config.{config_fault}
use Rattle.ct_values.specs.declared.client.Answer.TheVariants as answer
use Rattle.ct_values.specs.declared.client.ClientOp.{ClientOp}
use Rattle.ct_values.specs.declared.client.ClientOp.TheVariants as op
use Rattle.ct_values.specs.declared.client.Why.{Why}
use Rattle.ct_values.specs.declared.client.Why.TheVariants as why
use Rattle.ct_values.specs.declared.config.Config.{Config}
use Rattle.ct_values.specs.declared.config.ConfigFault.{ConfigFault}
use Rattle.ct_values.specs.declared.config.DbDecl.{DbDecl}
use Rattle.ct_values.specs.declared.config.DbKind.{DbKind}
use Rattle.ct_values.specs.declared.config.DbKind.TheVariants.{Volatile, ReadOnly, Persistent}
use Rattle.ct_frame.specs.Fields.{is_db, is_node}
use Rattle.ct_call.specs.Rules.{Rules}
use Rattle.ct_rules.specs.declared.state.Wish.{Wish}
use Rattle.ct_rules_node.specs.Node as node
use Rattle.ct_rules_node.specs.Node.{Node, has_records}
use Rattle.ct_rules_node.specs.Refusals.{refused_if, first_of}
use Rattle.ct_rules_node.specs.Clients.{refusal, call_pending, pending_of, already_locked, not_locked, not_serving, commit_pending, no_such_call, full, no_such_db, wrong_kind}
use Rattle.ct_rules_cluster.specs.Cluster.{numbers, everyone}
use Rattle.ct_promise.specs.Promises.{IsConfig}
use Rattle.ct_law_generation.specs.Shown.{is_telling}

-- ---- how many nodes and databases there are

no_fault : (b : Bool) (f : ConfigFault) (r : Option ConfigFault) → cond b (Some f) r ≡ None → (b ≡ false) × (r ≡ None)
no_fault true f r e = absurd (cc)
no_fault false f r e = (refl, e)

nodes_of : (nodes : ℕ) (dbs : List DbDecl) (addresses : List Address) → config_fault nodes dbs addresses ≡ None → nodes ≤ 16
nodes_of nodes dbs addresses e =
    let a = no_fault (nat_lt nodes 1 || nat_lt 16 nodes) _ _ e in
    ltb-false 16 nodes (or_parts (nat_lt nodes 1) (nat_lt 16 nodes) a.0).1

dbs_of : (nodes : ℕ) (dbs : List DbDecl) (addresses : List Address) → config_fault nodes dbs addresses ≡ None → length dbs ≤ 15
dbs_of nodes dbs addresses e =
    let a = no_fault (nat_lt nodes 1 || nat_lt 16 nodes) _ _ e in
    let b = no_fault (nat_lt 15 (length dbs) || nat_lt 64 (length addresses)) _ _ a.1 in
    ltb-false 15 (length dbs) (or_parts (nat_lt 15 (length dbs)) (nat_lt 64 (length addresses)) b.0).0

pub at_most_sixteen_nodes : (c : Config) → IsConfig c → c.nodes ≤ 16
at_most_sixteen_nodes c h = nodes_of c.nodes h.0 h.1 h.2.0

pub at_most_sixteen_dbs : (c : Config) → IsConfig c → length c.dbs ≤ 16
at_most_sixteen_dbs c h =
    let l = dbs_of c.nodes h.0 h.1 h.2.0 in
    let m : length c.dbs ≡ suc (length h.0) = ap (λ (ds : List DbDecl). length ds) h.2.2 in omega arith

numbers_are : (i k : ℕ) → i + k ≤ 16 → list_all is_node (numbers i k) ≡ true
unfolding numbers
numbers_are i zero l = refl
numbers_are i (suc k) l = and_from (is_node i) _ (lt-ltb i 16 (omega arith)) (numbers_are (i + 1) k (omega arith))

-- every node of a configuration has a number that is one
pub all_real : (c : Config) → IsConfig c → list_all is_node (everyone c) ≡ true
unfolding everyone
all_real c h = (let l = at_most_sixteen_nodes c h in numbers_are 0 c.nodes (omega arith))

-- and so has every database
pub all_small : (c : Config) → IsConfig c → (db : ℕ) → db < length c.dbs → is_db db ≡ true
all_small c h db l = (let m = at_most_sixteen_dbs c h in lt-ltb db 16 (omega arith))

-- ---- the kind of a database

-- one that is there and is not persistent has records
pub has_kind : (k : Option DbKind) → is_none k ≡ false → node.is_persistent k ≡ false → node.has_records k ≡ true
unfolding node.is_persistent node.has_records
has_kind None e f = absurd (cc)
has_kind (Some Volatile) e f = refl
has_kind (Some ReadOnly) e f = refl
has_kind (Some Persistent) e f = absurd (cc)

-- ---- the reasons for which a call is refused

-- where this is a reason, its answer tells nothing
abbrev Silent : Option Why → Type 0
Silent x = (w : Why) → x ≡ Some w → is_telling (answer.Refused w) ≡ false

silent_none : Silent None
silent_none w e = absurd (cc)

silent_some : (v : Why) → is_telling (answer.Refused v) ≡ false → Silent (Some v)
silent_some v h w e = (let same : v ≡ w = cc in subst (λ (x : Why). is_telling (answer.Refused x) ≡ false) same h)

silent_if : (b : Bool) (v : Why) → is_telling (answer.Refused v) ≡ false → Silent (refused_if b v)
unfolding refused_if
silent_if true v h = silent_some v h
silent_if false v h = silent_none

silent_first : (x : Option Why) (xs : List (Option Why)) → Silent x → Silent (first_of xs) → Silent (first_of (x ∷ xs))
unfolding first_of
silent_first None xs h k = k
silent_first (Some v) xs h k = h

silent_end : Silent (first_of [])
unfolding first_of
silent_end = silent_none

silent_wish : (x : Option Wish) → Silent (pending_of x)
unfolding pending_of is_telling
silent_wish None = silent_none
silent_wish (Some x) = silent_some (why.CallPending x.call) refl

silent_cond : (b : Bool) (x : Option Why) → Silent x → Silent (cond b x None)
silent_cond true x h = h
silent_cond false x h = silent_none

silent_pending : (n : Node) (o : ClientOp) → Silent (call_pending n o)
unfolding call_pending
silent_pending n o = silent_cond (wants_record o) _ (silent_wish (node.state_at (db_of o) (key_of o) n).wish)

silent_call : (rules : Rules) (o : ClientOp) → Silent (no_such_call rules o)
unfolding no_such_call is_telling
silent_call rules (op.Apply db key f arg) = silent_if _ why.NoSuchCall refl
silent_call rules (op.Lock db key) = silent_none
silent_call rules (op.Read db key) = silent_none
silent_call rules (op.Write db key v) = silent_none
silent_call rules (op.Store db key v) = silent_none
silent_call rules (op.Unlock db key) = silent_none
silent_call rules (op.Commit db writes) = silent_none

silent_full : (c : Config) (n : Node) (o : ClientOp) → Silent (full c n o)
unfolding full is_telling
silent_full c n (op.Commit db writes) = silent_if _ why.Full refl
silent_full c n (op.Apply db key f arg) = silent_if _ why.Full refl
silent_full c n (op.Lock db key) = silent_if _ why.Full refl
silent_full c n (op.Read db key) = silent_if _ why.Full refl
silent_full c n (op.Write db key v) = silent_if _ why.Full refl
silent_full c n (op.Store db key v) = silent_if _ why.Full refl
silent_full c n (op.Unlock db key) = silent_if _ why.Full refl

-- no call is refused as too long
pub refusals_silent : (c : Config) (rules : Rules) (n : Node) (o : ClientOp) (w : Why) → refusal c rules n o ≡ Some w → is_telling (answer.Refused w) ≡ false
unfolding refusal no_such_db wrong_kind not_serving commit_pending already_locked not_locked is_telling
refusals_silent c rules n o =
    silent_first (no_such_db c o) _ (silent_if _ why.NoSuchDb refl)
    (silent_first (wrong_kind c o) _ (silent_if _ why.WrongKind refl)
    (silent_first (not_serving n o) _ (silent_if _ why.NotServing refl)
    (silent_first (call_pending n o) _ (silent_pending n o)
    (silent_first (commit_pending c n o) _ (silent_if _ why.CommitPending refl)
    (silent_first (already_locked n o) _ (silent_if _ why.AlreadyLocked refl)
    (silent_first (not_locked c n o) _ (silent_if _ why.NotLocked refl)
    (silent_first (no_such_call rules o) _ (silent_call rules o)
    (silent_first (full c n o) _ (silent_full c n o) silent_end))))))))
