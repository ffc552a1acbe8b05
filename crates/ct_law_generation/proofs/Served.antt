-- A call on a record that is not refused is a step at that record.
use Rattle.std.proofs.Common.{◌≡◌, ℕ, Bool, true, false, cond, List, None, refl, ap, arith}
use Rattle.std.specs.Prelude.{is_none}
use Rattle.ct_values.specs.Client.{db_of, is_read}
use Rattle.ct_values.specs.declared.client.ClientOp.{ClientOp}
use Rattle.ct_values.specs.declared.client.ClientOp.TheVariants as op
use Rattle.ct_values.specs.declared.client.Why.TheVariants as why
use Rattle.ct_values.specs.declared.config.Config.{Config}
use Rattle.ct_call.specs.Rules.{Rules}
use Rattle.ct_rules.specs.Moves.{store, unlock}
use Rattle.ct_rules.specs.Parts.{want}
use Rattle.ct_rules_node.specs.Node.{Node, Phase, Freezing, is_present, is_persistent, kind_at, has_records}
use Rattle.ct_rules_node.specs.Turn.{Turn, begins, makes}
use Rattle.ct_rules_node.specs.Databases.{read_pair}
use Rattle.ct_rules_node.specs.Records.{at_record}
use Rattle.ct_rules_node.specs.Refusals.{refused_if}
use Rattle.ct_rules_node.specs.Clients.{refusal, client, serves_or, serves, reads, unlocks, no_such_db, is_commit, wrong_kind}
use Rattle.ct_law_rules_node.proofs.Refusals.{not_refused}
use Rattle.ct_law_generation.proofs.Admitted.{Admits}
use Rattle.ct_law_generation.proofs.Configured.{has_kind}

pub client_serves : (c : Config) (rules : Rules) (n call : ℕ) (o : ClientOp) (x : Node) → refusal c rules x o ≡ None → client c rules n call o (begins x) ≡ serves c rules n call (makes call (begins x)) o
unfolding client serves_or
client_serves c rules n call o x e = ap (serves_or c rules n call o (makes call (begins x))) e

pub serves_lock : (c : Config) (rules : Rules) (n call db : ℕ) (key : List ℕ) (t : Turn) → serves c rules n call t (op.Lock db key) ≡ at_record c n db key (λ at o. want at rules call (op.Lock db key) o) t
unfolding serves
serves_lock c rules n call db key t = refl

pub serves_write : (c : Config) (rules : Rules) (n call db : ℕ) (key v : List ℕ) (t : Turn) → serves c rules n call t (op.Write db key v) ≡ at_record c n db key (λ at o. want at rules call (op.Write db key v) o) t
unfolding serves
serves_write c rules n call db key v t = refl

pub serves_apply : (c : Config) (rules : Rules) (n call db f : ℕ) (key arg : List ℕ) (t : Turn) → serves c rules n call t (op.Apply db key f arg) ≡ at_record c n db key (λ at o. want at rules call (op.Apply db key f arg) o) t
unfolding serves
serves_apply c rules n call db f key arg t = refl

pub serves_read : (c : Config) (rules : Rules) (n call db : ℕ) (key : List ℕ) (t : Turn) → is_persistent (kind_at c db) ≡ false → serves c rules n call t (op.Read db key) ≡ at_record c n db key (λ at o. want at rules call (op.Read db key) o) t
unfolding serves reads
serves_read c rules n call db key t e = ap (λ (b : Bool). cond b (read_pair call db key t) (at_record c n db key (λ at o. want at rules call (op.Read db key) o) t)) e

pub serves_store : (c : Config) (rules : Rules) (n call db : ℕ) (key v : List ℕ) (t : Turn) → serves c rules n call t (op.Store db key v) ≡ at_record c n db key (λ at o. store call v o) t
unfolding serves
serves_store c rules n call db key v t = refl

unlocks_present : (c : Config) (n call db : ℕ) (key : List ℕ) (t : Turn) (p : Phase) → is_present p ≡ true → unlocks c n call db key t p ≡ at_record c n db key (λ at o. unlock at call o) t
unfolding is_present unlocks
unlocks_present c n call db key t (Freezing g leader) e = absurd (cc)
unlocks_present c n call db key t _ e = refl

pub serves_unlock : (c : Config) (rules : Rules) (n call db : ℕ) (key : List ℕ) (t : Turn) → is_present t.node.phase ≡ true → serves c rules n call t (op.Unlock db key) ≡ at_record c n db key (λ at o. unlock at call o) t
unfolding serves
serves_unlock c rules n call db key t e = unlocks_present c n call db key t t.node.phase e

-- ---- the kind of its database

-- the database of a call that is not refused has records, where it is not persistent
pub call_kind : (c : Config) (n : Node) (o : ClientOp) → Admits c n o → is_persistent (kind_at c (db_of o)) ≡ false → has_records (kind_at c (db_of o)) ≡ true
unfolding no_such_db
call_kind c n o h f = has_kind (kind_at c (db_of o)) (not_refused (is_none (kind_at c (db_of o))) why.NoSuchDb h.db) f

-- only a commit or a read that is not refused is of a persistent database
pub record_kind : (c : Config) (n : Node) (o : ClientOp) → Admits c n o → is_commit o ≡ false → is_read o ≡ false → is_persistent (kind_at c (db_of o)) ≡ false
unfolding wrong_kind refused_if
record_kind c n o h e f = (let a = h.kind in grind arith)

-- so the database of a call that is neither has records
pub has_database : (c : Config) (n : Node) (o : ClientOp) → Admits c n o → is_commit o ≡ false → is_read o ≡ false → has_records (kind_at c (db_of o)) ≡ true
has_database c n o h e f = call_kind c n o h (record_kind c n o h e f)
