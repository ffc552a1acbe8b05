-- What a client's call makes of a node.
use Rattle.std.proofs.Common.{◌≡◌, ◌∙◌, ℕ, zero, suc, ◌<◌, ◌≤◌, ◌^◌, Bool, true, false, cond, ◌||◌, List, [], ◌∷◌, length, Option, None, Some, refl, sym, ap, subst, arith}
use Rattle.std.specs.Prelude.{is_none, slice_get, Result}
use Rattle.ct_call.specs.Rules.{Rules}
use Rattle.ct_values.specs.Client.{db_of}
use Rattle.ct_values.specs.declared.client.Answer.TheVariants as answer
use Rattle.ct_values.specs.declared.client.ClientOp.{ClientOp}
use Rattle.ct_values.specs.declared.client.ClientOp.TheVariants as op
use Rattle.ct_values.specs.declared.client.Why.{Why}
use Rattle.ct_values.specs.declared.client.Why.TheVariants as why
use Rattle.ct_values.specs.declared.config.Config.{Config}
use Rattle.ct_values.specs.declared.config.DbDecl.{DbDecl}
use Rattle.ct_node_plan.specs.Changes.{Plans}
use Rattle.ct_node_plan.specs.declared.change.Planned.{Planned}
use Rattle.ct_rules.specs.Moves.{release, store, unlock}
use Rattle.ct_rules.specs.Parts.{Moving, want}
use Rattle.ct_rules.specs.declared.event.Place.{Place}
use Rattle.ct_rules_node.specs.Clients.{client, no_such_db, reads, refusal, serves, serves_or, unlocks}
use Rattle.ct_rules_node.specs.Databases.{read_pair}
use Rattle.ct_rules_node.specs.Node.{Node, Phase, Idle, Serving, Installed, Freezing, Frozen, is_persistent, kind_at, kind_in}
use Rattle.ct_rules_node.specs.Records.{acted, at_record, place_of, view}
use Rattle.ct_rules_node.specs.Refusals.{first_of, refused_if}
use Rattle.ct_rules_node.specs.Turn.{Turn, answers, begins, does, makes}
use Rattle.ct_node_plan_calls.proofs.Writing.{at_limit, below_limit, commit_keeps}
use Rattle.ct_node_plan_calls.proofs.Releasing.{frozen_spent}
use Rattle.ct_node_plan.specs.Handed.{CoreFault}

-- ---- where a number reached 2^62 before, the whole step is refused

record_keeps : (c : Config) (me db : ℕ) (key : List ℕ) (part : Place → Moving → Moving) (t : Turn) → t.spent ≡ true → (at_record c me db key part t).spent ≡ true
unfolding at_record acted
record_keeps c me db key part t e = ap (λ (b : Bool). b || (part (place_of c me db key t.node) (view db key t.node)).spent) e

unlocks_keep : (c : Config) (me call db : ℕ) (key : List ℕ) (t : Turn) (p : Phase) → t.spent ≡ true → (unlocks c me call db key t p).spent ≡ true
unfolding unlocks
unlocks_keep c me call db key t Idle e = record_keeps c me db key (λ at o. unlock at call o) t e
unlocks_keep c me call db key t Serving e = record_keeps c me db key (λ at o. unlock at call o) t e
unlocks_keep c me call db key t Installed e = record_keeps c me db key (λ at o. unlock at call o) t e
unlocks_keep c me call db key t (Freezing g leader) e = frozen_spent me g leader (at_record c me db key (λ at o. release call o) t) ∙ record_keeps c me db key (λ at o. release call o) t e
unlocks_keep c me call db key t (Frozen g) e = record_keeps c me db key (λ at o. unlock at call o) t e

reads_keep : (c : Config) (rules : Rules) (me call db : ℕ) (key : List ℕ) (t : Turn) → t.spent ≡ true → (reads c rules me call db key t).spent ≡ true
unfolding reads read_pair answers does
reads_keep c rules me call db key t e = by (is_persistent (kind_at c db))
  where
    by : (b : Bool) → (cond b (read_pair call db key t) (at_record c me db key (λ at o. want at rules call (op.Read db key) o) t)).spent ≡ true
    by true = e
    by false = record_keeps c me db key (λ at o. want at rules call (op.Read db key) o) t e

serves_keep : (c : Config) (rules : Rules) (me call : ℕ) (t : Turn) (o : ClientOp) → t.spent ≡ true → (serves c rules me call t o).spent ≡ true
unfolding serves
serves_keep c rules me call t (op.Read db key) e = reads_keep c rules me call db key t e
serves_keep c rules me call t (op.Store db key v) e = record_keeps c me db key (λ at o. store call v o) t e
serves_keep c rules me call t (op.Unlock db key) e = unlocks_keep c me call db key t t.node.phase e
serves_keep c rules me call t (op.Commit db writes) e = commit_keeps me call db writes t e
serves_keep c rules me call t (op.Lock db key) e = record_keeps c me db key (λ at o. want at rules call (op.Lock db key) o) t e
serves_keep c rules me call t (op.Write db key v) e = record_keeps c me db key (λ at o. want at rules call (op.Write db key v) o) t e
serves_keep c rules me call t (op.Apply db key f arg) e = record_keeps c me db key (λ at o. want at rules call (op.Apply db key f arg) o) t e

served_keeps : (c : Config) (rules : Rules) (me call : ℕ) (o : ClientOp) (t : Turn) (r : Option Why) → t.spent ≡ true → (serves_or c rules me call o t r).spent ≡ true
unfolding serves_or answers does
served_keeps c rules me call o t None e = serves_keep c rules me call t o e
served_keeps c rules me call o t (Some w) e = e

-- where the call's number would reach 2^62 the step is refused
pub client_spent : (c : Config) (rules : Rules) (me call : ℕ) (o : ClientOp) (t : Turn) → 2 ^ 62 ≤ call → (client c rules me call o t).spent ≡ true
unfolding client makes
client_spent c rules me call o t l = served_keeps c rules me call o (makes call t) (refusal c rules t.node o) (at_limit t.spent call l)

-- ---- below it

-- the number of the call changes nothing
client_is : (c : Config) (rules : Rules) (me call : ℕ) (o : ClientOp) (n : Node) → call < 2 ^ 62 → client c rules me call o (begins n) ≡ serves_or c rules me call o (begins n) (refusal c rules n o)
unfolding client makes
client_is c rules me call o n l = (λ i. serves_or c rules me call o (record { node = n; outs = []; spent = below_limit call l i }) (refusal c rules n o))

module _ (c : Config) (rules : Rules) (me call : ℕ) (o : ClientOp) (n : Node) (r : Result Planned CoreFault) where
  -- the plan of a refusal
  pub planned_refused : (w : Why) → call < 2 ^ 62 → refusal c rules n o ≡ Some w → Plans r (answers call (answer.Refused w) (begins n)) n → Plans r (client c rules me call o (begins n)) n
  unfolding serves_or
  planned_refused w l e p = subst (λ (t : Turn). Plans r t n) (sym (client_is c rules me call o n l ∙ ap (serves_or c rules me call o (begins n)) e)) p

  -- the plan of a call that is served
  pub planned_served : call < 2 ^ 62 → refusal c rules n o ≡ None → Plans r (serves c rules me call (begins n) o) n → Plans r (client c rules me call o (begins n)) n
  unfolding serves_or
  planned_served l e p = subst (λ (t : Turn). Plans r t n) (sym (client_is c rules me call o n l ∙ ap (serves_or c rules me call o (begins n)) e)) p

-- ---- a call that is served is of a database that is there

there_in : (ds : List DbDecl) (db : ℕ) → is_none (kind_in (slice_get ds db)) ≡ false → db < length ds
unfolding kind_in
there_in [] db e = absurd (cc)
there_in (d ∷ ds) zero e = omega arith
there_in (d ∷ ds) (suc db) e = (let l = there_in ds db e in omega (arith, l))

first_absent : {X : Type 0} (x : Option X) (xs : List (Option X)) → first_of (x ∷ xs) ≡ None → x ≡ None
unfolding first_of
first_absent None xs e = refl
first_absent (Some x) xs e = absurd (cc)

not_refused : (b : Bool) → refused_if b why.NoSuchDb ≡ None → b ≡ false
unfolding refused_if
not_refused true e = absurd (cc)
not_refused false e = refl

pub served_there : (c : Config) (rules : Rules) (n : Node) (o : ClientOp) → refusal c rules n o ≡ None → length n.dbs ≡ length c.dbs → db_of o < length n.dbs
unfolding refusal no_such_db kind_at
served_there c rules n o e l =
    let h = there_in c.dbs (db_of o) (not_refused _ (first_absent _ _ e)) in
    subst (λ (k : ℕ). db_of o < k) (sym l) h
