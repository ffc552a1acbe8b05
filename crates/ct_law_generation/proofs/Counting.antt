-- A call gets the next number: what is known of the calls before it stays so.
use Rattle.std.proofs.Common.{◌≡◌, ℕ, ◌+◌, ◌≤◌, Bool, true, cond, List, [], ◌++◌, Option, Some, None, refl, sym, ap, ◌∙◌, arith, subst}
use Rattle.std.specs.Prelude.{nat_eq}
use Rattle.std.proofs.lemmas.Bool.{ne_eqb, eq-eqb}
use Rattle.ct_values.specs.declared.client.ClientOp.{ClientOp}
use Rattle.ct_values.specs.declared.config.Config.{Config}
use Rattle.ct_call.specs.Rules.{Rules}
use Rattle.ct_rules.specs.declared.state.Wish.{Wish}
use Rattle.ct_rules_node.specs.Node.{Node, Committing, is_among}
use Rattle.ct_rules_node.specs.Turn.{Turn}
use Rattle.ct_rules_cluster.specs.Cluster.{Cluster, is_up, node_at}
use Rattle.ct_rules_cluster.specs.Labels.{Label}
use Rattle.ct_rules_cluster.specs.Steps.{frames_of, put}
use Rattle.ct_rules_cluster.specs.declared.step.PendingCall.{PendingCall}
use Rattle.ct_law_record.specs.World as law
use Rattle.ct_law_generation.specs.Shown.{Era, project, amid, labels_of, Schedules}
use Rattle.ct_law_wishes.proofs.Wishing.{Wishful}
use Rattle.ct_law_generation.proofs.Pending.{Callers, Known, KnownAt, CommitFits, NodeKnown}
use Rattle.ct_law_generation.proofs.Staying.{NodeStays}
use Rattle.ct_law_generation.proofs.Following.{Goes_on}
use Rattle.ct_law_generation.proofs.Plain.{AllPlain}
use Rattle.ct_law_generation.proofs.Putting.{extends}
use Rattle.ct_law_generation.proofs.Clusters.{ClusterStays, inside, put_stays}
use Rattle.ct_law_generation.proofs.Coming.{Cluster_goes}

-- the next call is this one
abbrev pub with_caller : ℕ → ℕ × ClientOp → Callers → Callers
with_caller call x who k = cond (nat_eq k call) x (who k)

pub own_caller : (call : ℕ) (x : ℕ × ClientOp) (who : Callers) → with_caller call x who call ≡ x
own_caller call x who = ap (λ (b : Bool). cond b x (who call)) (eq-eqb call call refl)

pub old_caller : (calls k : ℕ) (x y : ℕ × ClientOp) (who : Callers) → k ≤ calls → who k ≡ y → with_caller (calls + 1) x who k ≡ y
old_caller calls k x y who l e = ap (λ (b : Bool). cond b x (who k)) (ne_eqb k (calls + 1) (λ (is : k ≡ calls + 1). omega arith)) ∙ e

more_wish : (calls n db : ℕ) (key : List ℕ) (x : ℕ × ClientOp) (who : Callers) (w : Option Wish) → Wishful (Known who calls n db key) w → Wishful (Known (with_caller (calls + 1) x who) (calls + 1) n db key) w
unfolding Wishful Known
more_wish calls n db key x who None h = tt
more_wish calls n db key x who (Some w) h = (old_caller calls w.call x (n, w.op) who h.1 h.0, (let l = h.1 in omega arith), h.2, h.3)

more_commit : (calls n db : ℕ) (x : ℕ × ClientOp) (who : Callers) (w : Option Committing) → CommitFits who calls n db w → CommitFits (with_caller (calls + 1) x who) (calls + 1) n db w
unfolding CommitFits
more_commit calls n db x who None h = tt
more_commit calls n db x who (Some w) h = (old_caller calls w.call x _ who h.1 h.0, (let l = h.1 in omega arith))

pub more_known : (calls n : ℕ) (x : ℕ × ClientOp) (who : Callers) (node : Node) → NodeKnown who calls n node → NodeKnown (with_caller (calls + 1) x who) (calls + 1) n node
unfolding KnownAt
more_known calls n x who node h = record {
  order = h.order;
  dbs = λ db. record { records = λ key. more_wish calls n db key x who _ ((h.dbs db).records key); commit = more_commit calls n db x who _ (h.dbs db).commit };
}

more_node : (c : Config) (era : Era) (rules : Rules) (calls n : ℕ) (x : ℕ × ClientOp) (who : Callers) (node : Node) → NodeStays c era rules who calls n node → NodeStays c era rules (with_caller (calls + 1) x who) (calls + 1) n node
more_node c era rules calls n x who node h = record { present = h.present; knows = h.knows; promise = h.promise; lead = h.lead; size = h.size; known = more_known calls n x who node h.known; waits = h.waits; serves = h.serves; formed = h.formed }

-- the cluster with one call more
pub more_calls : (c : Config) (era : Era) (rules : Rules) (who : Callers) (x : ℕ × ClientOp) (w : Cluster) → ClusterStays c era rules who w → ClusterStays c era rules (with_caller (w.calls + 1) x who) (record w { calls = w.calls + 1 })
unfolding node_at is_up
more_calls c era rules who x w h = record {
  size = h.size;
  there = h.there;
  up = h.up;
  nodes = λ n t. more_node c era rules w.calls n x who _ (h.nodes n t);
  left = h.left;
  left_known = λ n out. more_known w.calls n x who _ (h.left_known n out);
  sent = h.sent;
}

-- what a node makes of any turn that has just begun, and goes on so, the cluster does
pub turn_goes : (c : Config) (era : Era) (rules : Rules) (who : Callers) (w : Cluster) (n : ℕ) (t u : Turn) (pend : List PendingCall) (labels : List Label) (es : ℕ → List ℕ → List law.Event) → is_among n era.members ≡ true → t.outs ≡ [] →
    ((db : ℕ) (key : List ℕ) → project era.number db key w ≡ amid era.number db key n (project era.number db key w) t) → ClusterStays c era rules who w → Schedules c era rules w labels es →
    Goes_on c era rules who w.calls n pend (λ db key. project era.number db key w) t u → Cluster_goes c era rules who (put n u [] w).cluster (labels ++ labels_of n pend u.outs)
unfolding frames_of
turn_goes c era rules who w n t u pend labels es is empty begun h sched g = (
  put_stays c era rules who w n u is h g.0 (g.2 (subst (λ xs. AllPlain era.number (frames_of xs)) (sym empty) tt)),
  (λ db key. es db key ++ (g.1 db key).0),
  extends c era rules n t u [] w pend labels es (inside c era rules who w n h is) empty begun sched g.1,
)
