-- What a call that is not refused may do.
use Rattle.std.proofs.Common.{◌≡◌, ℕ, true, List, None, arith}
use Rattle.std.specs.Prelude.{is_some}
use Rattle.ct_values.specs.Client.{db_of, is_read, key_of, wants_record}
use Rattle.ct_values.specs.declared.client.ClientOp.{ClientOp}
use Rattle.ct_values.specs.declared.client.ClientOp.TheVariants as op
use Rattle.ct_values.specs.declared.config.Config.{Config}
use Rattle.ct_call.specs.Rules.{Rules}
use Rattle.ct_rules_node.specs.Node.{Node, state_at}
use Rattle.ct_rules_node.specs.Refusals.{refused_if}
use Rattle.ct_rules_node.specs.Clients.{refusal, call_pending, pending_of, already_locked, not_locked, no_such_db, wrong_kind, wants_change, is_under_lock, is_commit, is_locked}
use Rattle.ct_law_rules_node.proofs.Refusals.{first_none}
use Rattle.ct_law_record.specs.World.{may_want}

-- the refusals that matter to records do not hold
pub record Admits (c : Config) (n : Node) (o : ClientOp) : Type 0 where
  pub db : no_such_db c o ≡ None
  pub kind : wrong_kind c o ≡ None
  pub wish : call_pending n o ≡ None
  pub lock : already_locked n o ≡ None
  pub under : not_locked c n o ≡ None

pub admits : (c : Config) (rules : Rules) (n : Node) (o : ClientOp) → refusal c rules n o ≡ None → Admits c n o
unfolding refusal
admits c rules n o e =
    let db = first_none _ _ e in let kind = first_none _ _ db.1 in let serving = first_none _ _ kind.1 in let wish = first_none _ _ serving.1 in
    let pending = first_none _ _ wish.1 in let lock = first_none _ _ pending.1 in let under = first_none _ _ lock.1 in
    record { db = db.0; kind = kind.0; wish = wish.0; lock = lock.0; under = under.0 }

pub may_lock : (c : Config) (n : Node) (db : ℕ) (key : List ℕ) → Admits c n (op.Lock db key) → may_want (state_at db key n) (op.Lock db key) ≡ true
unfolding may_want call_pending already_locked wants_record wants_change is_read is_locked pending_of refused_if
may_lock c n db key h = (let a = h.wish in let b = h.lock in grind arith)

pub may_read : (c : Config) (n : Node) (db : ℕ) (key : List ℕ) → Admits c n (op.Read db key) → may_want (state_at db key n) (op.Read db key) ≡ true
unfolding may_want call_pending already_locked wants_record wants_change is_read is_locked pending_of refused_if
may_read c n db key h = (let a = h.wish in let b = h.lock in grind arith)

pub may_write : (c : Config) (n : Node) (db : ℕ) (key v : List ℕ) → Admits c n (op.Write db key v) → may_want (state_at db key n) (op.Write db key v) ≡ true
unfolding may_want call_pending already_locked wants_record wants_change is_read is_locked pending_of refused_if
may_write c n db key v h = (let a = h.wish in let b = h.lock in grind arith)

pub may_apply : (c : Config) (n : Node) (db f : ℕ) (key arg : List ℕ) → Admits c n (op.Apply db key f arg) → may_want (state_at db key n) (op.Apply db key f arg) ≡ true
unfolding may_want call_pending already_locked wants_record wants_change is_read is_locked pending_of refused_if
may_apply c n db f key arg h = (let a = h.wish in let b = h.lock in grind arith)

pub may_store : (c : Config) (n : Node) (db : ℕ) (key v : List ℕ) → Admits c n (op.Store db key v) → is_some (state_at db key n).locked ≡ true
unfolding not_locked is_under_lock is_locked is_commit refused_if
may_store c n db key v h = (let a = h.under in grind arith)

pub may_unlock : (c : Config) (n : Node) (db : ℕ) (key : List ℕ) → Admits c n (op.Unlock db key) → is_some (state_at db key n).locked ≡ true
unfolding not_locked is_under_lock is_locked is_commit refused_if
may_unlock c n db key h = (let a = h.under in grind arith)
