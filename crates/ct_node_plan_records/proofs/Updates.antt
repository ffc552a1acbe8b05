-- An update, and then its acknowledgement.
use Rattle.std.proofs.Common.{◌≡◌, ℕ, ◌<◌, Bool, true, false, cond, List, [], ◌∷◌, length, refl, ap, sym, subst}
use Rattle.std.specs.Prelude.{nat_le}
use Rattle.ct_frame.specs.declared.event.Out.{Out}
use Rattle.ct_frame.specs.declared.event.Out.TheVariants as out
use Rattle.ct_frame.specs.declared.frame.Msg.TheVariants as msg
use Rattle.ct_values.specs.declared.client.Pair.{Pair}
use Rattle.ct_persist.specs.Persisted.{updated}
use Rattle.ct_node_plan.specs.Changes.{IsPlanned, changed_by}
use Rattle.ct_node_plan.specs.declared.change.Change.TheVariants as change
use Rattle.ct_rules_node.specs.Databases.{acknowledges, on_pupdate, updates}
use Rattle.ct_rules_node.specs.Node.{Node, Database, db_at, with_db}
use Rattle.ct_rules_node.specs.Turn.{Turn, begins, does, posts, with_node}
use Rattle.ct_law_rules_node.proofs.AtRecord.{at_set}

-- the acknowledgement, where the database then has the number
abbrev pub acknowledged : ℕ → ℕ → ℕ → ℕ → ℕ → Bool → List Out
acknowledged g me sender db seq b = cond b (out.Send (record { generation = g; sender = me; receiver = sender; msg = msg.PAck db seq }) ∷ []) []

pub planned_update : (me sender db seq : ℕ) (writes : List Pair) (n : Node) (outs : List Out) → db < length n.dbs → outs ≡ acknowledged n.generation me sender db seq (nat_le seq (updated seq writes (db_at db n).store).seq) →
    IsPlanned (record { change = change.Update db seq writes; outs = outs }) (on_pupdate me sender db seq writes (begins n)) n
unfolding on_pupdate updates acknowledges with_node with_db db_at posts does changed_by
planned_update me sender db seq writes n outs l e =
    let same : nat_le seq (db_at db t.node).store.seq ≡ nat_le seq s = ap (λ (d : Database). nat_le seq d.store.seq) (at_set n.dbs db _ l) in
    subst (λ (b : Bool). IsPlanned (record { change = change.Update db seq writes; outs = outs }) (cond b (posts n.generation me sender (msg.PAck db seq) t) t) n) (sym same) (by (nat_le seq s) e)
  where
    t : Turn
    t = updates db seq writes (begins n)

    s : ℕ
    s = (updated seq writes (db_at db n).store).seq

    by : (b : Bool) → outs ≡ acknowledged n.generation me sender db seq b → IsPlanned (record { change = change.Update db seq writes; outs = outs }) (cond b (posts n.generation me sender (msg.PAck db seq) t) t) n
    by true e = record { whole = refl; node = refl; outs = e; can = l }
    by false e = record { whole = refl; node = refl; outs = e; can = l }
