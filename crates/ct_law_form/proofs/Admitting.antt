-- What is known of a node at which a call is not refused.
use Rattle.std.proofs.Common.{◌≡◌, ℕ, zero, suc, ◌<◌, Bool, true, false, cond, not, ◌&&◌, ◌||◌, List, [], ◌∷◌, length, Option, Some, None, refl, arith}
use Rattle.std.specs.Prelude.{is_none, is_some, slice_get}
use Rattle.ct_values.specs.Client.{db_of, is_read, key_of, wants_record}
use Rattle.ct_values.specs.declared.client.ClientOp.{ClientOp}
use Rattle.ct_values.specs.declared.client.Why.TheVariants as why
use Rattle.ct_values.specs.declared.config.Config.{Config}
use Rattle.ct_values.specs.declared.config.DbDecl.{DbDecl}
use Rattle.ct_values.specs.declared.config.DbKind.{DbKind}
use Rattle.ct_call.specs.Rules.{Rules}
use Rattle.ct_rules.specs.declared.state.Wish.{Wish}
use Rattle.ct_rules_node.specs.Node.{Node, Phase, Idle, Serving, Installed, Freezing, Frozen, has_records, is_freezing, is_persistent, is_present, is_serving, kind_at, kind_in, state_at}
use Rattle.ct_rules_node.specs.Clients.{already_locked, call_pending, is_locked, is_under_lock, may_finish, no_such_db, not_locked, not_serving, pending_of, refusal, wants_change}
use Rattle.ct_law_rules_node.proofs.Refusals.{first_none, not_refused}

-- the database is there, the node serves or the call may finish, and nothing stands in the way of the record
pub record IsServed (c : Config) (n : Node) (o : ClientOp) : Type 0 where
  pub there : db_of o < length c.dbs
  pub phase : may_finish n o ≡ false → is_serving n.phase ≡ true
  pub unwished : wants_record o ≡ true → (state_at (db_of o) (key_of o) n).wish ≡ None
  pub unlocked : wants_change o ≡ true → (state_at (db_of o) (key_of o) n).locked ≡ None
  pub locked : is_under_lock o ≡ true → is_some (state_at (db_of o) (key_of o) n).locked ≡ true

-- a database that has a kind is declared
pub declared : (ds : List DbDecl) (i : ℕ) → is_none (kind_in (slice_get ds i)) ≡ false → i < length ds
unfolding kind_in
declared [] i e = absurd (cc)
declared (d ∷ ds) zero e = omega arith
declared (d ∷ ds) (suc i) e = (let l = declared ds i e in omega arith)

some_kind : (k : Option DbKind) → has_records k ≡ true → is_none k ≡ false
unfolding has_records
some_kind None e = absurd (cc)
some_kind (Some k) e = refl

persistent_kind : (k : Option DbKind) → is_persistent k ≡ true → is_none k ≡ false
unfolding is_persistent
persistent_kind None e = absurd (cc)
persistent_kind (Some k) e = refl

pub records_there : (c : Config) (db : ℕ) → has_records (kind_at c db) ≡ true → db < length c.dbs
unfolding kind_at
records_there c db e = declared c.dbs db (some_kind (kind_in (slice_get c.dbs db)) e)

pub persistent_there : (c : Config) (db : ℕ) → is_persistent (kind_at c db) ≡ true → db < length c.dbs
unfolding kind_at
persistent_there c db e = declared c.dbs db (persistent_kind (kind_in (slice_get c.dbs db)) e)

no_wish : (b : Bool) (w : Option Wish) → cond b (pending_of w) None ≡ None → b ≡ true → w ≡ None
unfolding pending_of
no_wish true None e t = refl
no_wish true (Some w) e t = absurd (cc)
no_wish false w e t = absurd (cc)

no_call : (b : Bool) (l : Option ℕ) → (b && is_some l) ≡ false → b ≡ true → l ≡ None
no_call true None e t = refl
no_call true (Some call) e t = absurd (cc)
no_call false l e t = absurd (cc)

has_lock : (b d l : Bool) → ((b && not l) || d) ≡ false → b ≡ true → l ≡ true
has_lock true d true e t = refl
has_lock true d false e t = absurd (cc)
has_lock false d l e t = absurd (cc)

must_serve : (serving may : Bool) → (not serving && not may) ≡ false → may ≡ false → serving ≡ true
must_serve true may e f = refl
must_serve false true e f = absurd (cc)
must_serve false false e f = absurd (cc)

pub served : (c : Config) (rules : Rules) (n : Node) (o : ClientOp) → refusal c rules n o ≡ None → IsServed c n o
unfolding refusal no_such_db not_serving call_pending already_locked not_locked is_locked kind_at
served c rules n o e =
    let db = first_none _ _ e in let kind = first_none _ _ db.1 in let serving = first_none _ _ kind.1 in let wish = first_none _ _ serving.1 in
    let pending = first_none _ _ wish.1 in let lock = first_none _ _ pending.1 in let under = first_none _ _ lock.1 in
    record {
      there = declared c.dbs (db_of o) (not_refused (is_none (kind_in (slice_get c.dbs (db_of o)))) why.NoSuchDb db.0);
      phase = must_serve (is_serving n.phase) (may_finish n o) (not_refused _ why.NotServing serving.0);
      unwished = no_wish (wants_record o) _ wish.0;
      unlocked = no_call (wants_change o) _ (not_refused _ why.AlreadyLocked lock.0);
      locked = has_lock (is_under_lock o) _ _ (not_refused _ why.NotLocked under.0);
    }

pub serving_present : (p : Phase) → is_serving p ≡ true → is_present p ≡ true
unfolding is_serving is_present
serving_present Serving e = refl
serving_present Idle e = absurd (cc)
serving_present Installed e = absurd (cc)
serving_present (Freezing g leader) e = absurd (cc)
serving_present (Frozen g) e = absurd (cc)

three : (a b d : Bool) → (a && b && d) ≡ true → (a ≡ true) × (b ≡ true) × (d ≡ true)
three true true true e = (refl, refl, refl)
three true true false e = absurd (cc)
three true false d e = absurd (cc)
three false b d e = absurd (cc)

-- a call that may finish does so at a node that freezes, under the lock
pub finishes : (n : Node) (o : ClientOp) → may_finish n o ≡ true → (is_freezing n.phase ≡ true) × (is_some (state_at (db_of o) (key_of o) n).locked ≡ true)
unfolding may_finish is_locked
finishes n o e = (let t = three (is_freezing n.phase) (is_under_lock o || is_read o) (is_some (state_at (db_of o) (key_of o) n).locked) e in (t.0, t.2))
