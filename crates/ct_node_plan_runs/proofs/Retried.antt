-- A whole Retry: what is sent again, and nothing else.
use Rattle.std.proofs.Common.{◌≡◌, ◌∙◌, ℕ, zero, suc, Bool, true, false, cond, List, [], ◌∷◌, ◌++◌, Option, None, Some, refl, sym, ap}
use Rattle.std.proofs.lemmas.Bool.{eq-eqb}
use Rattle.std.specs.Prelude.{◌&&◌, nat_eq, slice_get}
use Rattle.ct_node_database.specs.Noted.{is_worth}
use Rattle.ct_frame.specs.declared.event.Out.{Out}
use Rattle.ct_values.specs.declared.config.Config.{Config}
use Rattle.ct_node_plan.specs.Changes.{IsPlanned, changed_by}
use Rattle.ct_node_plan.specs.declared.change.Change.TheVariants as change
use Rattle.ct_node_plan.specs.Posts.{does_all}
use Rattle.ct_node_plan.proofs.Sending.{does_both, does_nothing}
use Rattle.ct_node_plan_runs.proofs.Leads.{lead_does}
use Rattle.ct_node_plan_runs.proofs.Records.{all_revokes_do, calls_do, updates_do}
use Rattle.ct_node_view.proofs.There.{pending_there}
use Rattle.ct_node_plan_runs.specs.Again.{AllWorth, all_called, all_revoked, all_updated, records_again}
use Rattle.ct_node_plan_runs.specs.Lead.{round_again}
use Rattle.ct_law_rules_node.specs.NodeLaws.{NodeAscends}
use Rattle.ct_rules_node.specs.Node.{Node, Database, Phase, db_at, is_present, or_untouched, untouched}
use Rattle.ct_rules_node.specs.Retries.{call_all, retry, retry_lead, retry_records, revoke_in, update_in}
use Rattle.ct_rules_node.specs.Rounds.{pending_calls}
use Rattle.ct_rules_node.specs.Turn.{Turn, begins}
use Rattle.ct_store.specs.Map.{look}

-- a node is of its own generation
pub own_generation : (p : Phase) (g : ℕ) → (is_present p && nat_eq g g) ≡ is_present p
own_generation p g = ap (λ (b : Bool). is_present p && b) (eq-eqb g g refl) ∙ and_true (is_present p)
  where
    and_true : (b : Bool) → (b && true) ≡ b
    and_true true = refl
    and_true false = refl

worth_at : (dbs : List Database) (db : ℕ) (key : List ℕ) → AllWorth dbs → is_worth (look key (or_untouched (slice_get dbs db)).records) ≡ true
unfolding or_untouched untouched is_worth
worth_at [] db key h = refl
worth_at (d ∷ ds) zero key h = h.0 key
worth_at (d ∷ ds) (suc db) key h = worth_at ds db key h.1

records_do : (c : Config) (me : ℕ) (t : Turn) → NodeAscends t.node → AllWorth t.node.dbs → retry_records c me t ≡ does_all (records_again c me t.node) t
unfolding retry_records records_again db_at
records_do c me t a w = by (is_present t.node.phase)
  where
    calls : List Out
    calls = all_called c me t.node (pending_calls t.node)

    revokes : List Out
    revokes = all_revoked t.node.generation me 0 t.node.dbs

    updates : List Out
    updates = all_updated t.node.generation me 0 t.node.dbs

    worth : (db : ℕ) (key : List ℕ) → is_worth (look key (db_at db t.node).records) ≡ true
    worth db key = worth_at t.node.dbs db key w

    by : (b : Bool) → cond b (update_in me 0 t.node.dbs (revoke_in c me 0 t.node.dbs (call_all c me (pending_calls t.node) t))) t ≡ does_all (cond b ((calls ++ revokes) ++ updates) []) t
    by true =
        ap (λ (u : Turn). update_in me 0 t.node.dbs (revoke_in c me 0 t.node.dbs u)) (calls_do c me (pending_calls t.node) t a worth (pending_there t.node))
        ∙ ap (update_in me 0 t.node.dbs) (all_revokes_do c me 0 t.node.dbs (does_all calls t) a worth refl ∙ does_both calls revokes t)
        ∙ updates_do me 0 t.node.dbs (does_all (calls ++ revokes) t)
        ∙ does_both (calls ++ revokes) updates t
    by false = does_nothing t

pub retried : (c : Config) (me : ℕ) (n : Node) → NodeAscends n → AllWorth n.dbs → retry c me (begins n) ≡ does_all (records_again c me n ++ round_again me n) (begins n)
unfolding retry
retried c me n a w =
    ap (λ (u : Turn). retry_lead me u u.node.lead) (records_do c me (begins n) a w)
    ∙ lead_does me (does_all (records_again c me n) (begins n)) n.lead
    ∙ does_both (records_again c me n) (round_again me n) (begins n)

-- what is planned is what the rule makes of the node
pub planned_retry : (c : Config) (me : ℕ) (n : Node) (outs : List Out) → NodeAscends n → AllWorth n.dbs → outs ≡ records_again c me n ++ round_again me n → IsPlanned (record { change = change.Nothing; outs = outs }) (retry c me (begins n)) n
unfolding changed_by
planned_retry c me n outs a w o =
    let e = retried c me n a w in
    record {
      whole = ap (λ (t : Turn). t.spent) e;
      node = sym (ap (λ (t : Turn). t.node) e);
      outs = o ∙ sym (ap (λ (t : Turn). t.outs) e);
      can = tt;
    }
