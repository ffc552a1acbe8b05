-- The client calls that wait, node by node, and what a stop leaves.
use Rattle.std.proofs.Common.{◌≡◌, ◌∙◌, ℕ, zero, suc, ◌+◌, Bool, false, List, [], ◌∷◌, ◌++◌, Option, Some, Ok, sym, ap, subst, arith}
use Rattle.std.specs.Prelude.{drop, slice_get, slice_set}
use Rattle.ct_values.specs.declared.config.Config.{Config}
use Rattle.ct_rules_cluster.specs.Cluster.{node_at, or_absent, pending_at, pending_from, pending_in}
use Rattle.ct_rules_cluster.specs.Steps.{done, gone, stop, with_node, without_holder}
use Rattle.ct_rules_cluster.specs.declared.step.Line.{Line}
use Rattle.ct_rules_cluster.specs.declared.step.Line.TheVariants as line
use Rattle.ct_rules_cluster.specs.declared.step.PendingCall.{PendingCall}
use Rattle.ct_core.specs.Core.{Core}
use Rattle.ct_rules_node.specs.Node.{Node, restarted}
use Rattle.ct_rules_node.specs.Numbered.{by_number}
use Rattle.ct_world.specs.World.{AreNumbered, AreSeated, PartsInForm, cluster_of, states_of}
use Rattle.ct_world.specs.declared.parts.Parts.{Parts}
use Rattle.ct_world.proofs.Fed.{seated_set, state_there, states_set}

-- ---- all nodes

pub are_numbered : (p : Parts) → PartsInForm p → AreNumbered p.cores
are_numbered p f n x at = (f.seats n x at).0

from_here : (xs : List Core) (i k : ℕ) (x : Core) → slice_get xs i ≡ Some x → pending_from k (states_of (drop i xs)) ≡ pending_in k 0 x.node.dbs ++ pending_from (k + 1) (states_of (drop (suc i) xs))
unfolding pending_from
from_here [] i k x e = absurd (cc)
from_here (y ∷ ys) zero k x e = (let s : y ≡ x = cc in ap (λ (z : Core). pending_in k 0 z.node.dbs ++ pending_from (k + 1) (states_of ys)) s)
from_here (y ∷ ys) (suc i) k x e = from_here ys i k x e

-- those of one node, and then those of the nodes behind it
pub one_more : (xs : List Core) (i : ℕ) (x : Core) → AreNumbered xs → slice_get xs i ≡ Some x → pending_from i (states_of (drop i xs)) ≡ pending_in x.pnn 0 x.node.dbs ++ pending_from (i + 1) (states_of (drop (i + 1) xs))
one_more xs i x numbered e =
    let one : suc i ≡ i + 1 = omega arith in
    subst (λ (j : ℕ). pending_from i (states_of (drop i xs)) ≡ pending_in x.pnn 0 x.node.dbs ++ pending_from (i + 1) (states_of (drop j xs))) one
    (from_here xs i i x e ∙ ap (λ (k : ℕ). pending_in k 0 x.node.dbs ++ pending_from (i + 1) (states_of (drop (suc i) xs))) (sym (numbered i x e)))

-- ---- a stop

module _ (old : Parts) (n : ℕ) (x : Core) (at : slice_get old.cores n ≡ Some x) (seats : AreSeated old.config old.cores) where
  node_is : node_at n (cluster_of old) ≡ x.node
  unfolding node_at or_absent
  node_is = ap or_absent (state_there old.cores n x at)

  calls_are : by_number (λ (y : PendingCall). y.call) (pending_in x.pnn 0 x.node.dbs) ≡ pending_at n (cluster_of old)
  unfolding pending_at
  calls_are =
      ap (λ (k : ℕ). by_number (λ (y : PendingCall). y.call) (pending_in k 0 x.node.dbs)) (seats n x at).0
      ∙ ap (λ (k : Node). by_number (λ (y : PendingCall). y.call) (pending_in n 0 k.dbs)) (sym node_is)

  left_is : restarted x.config x.node ≡ restarted old.config (node_at n (cluster_of old))
  left_is = ap (λ (c : Config). restarted c x.node) (seats n x at).1 ∙ ap (restarted old.config) (sym node_is)

  states_are : states_of (slice_set old.cores n (record x { node = restarted x.config x.node })) ≡ slice_set (states_of old.cores) n (restarted old.config (node_at n (cluster_of old)))
  states_are = states_set old.cores n (record x { node = restarted x.config x.node }) ∙ ap (slice_set (states_of old.cores) n) left_is

  pub stopped : (calls : List PendingCall) (lines : List Line) (cores : List Core) (running : List Bool) (holder : Option ℕ) → calls ≡ by_number (λ (y : PendingCall). y.call) (pending_in x.pnn 0 x.node.dbs) → lines ≡ line.Stopped n ∷ gone calls →
      cores ≡ slice_set old.cores n (record x { node = restarted x.config x.node }) → running ≡ slice_set old.running n false → holder ≡ without_holder n old.books.holder →
      (stop old.config n (cluster_of old) ≡ Ok (record { cluster = record (cluster_of old) { nodes = states_of cores; running = running; holder = holder }; lines = lines })) × AreSeated old.config cores
  unfolding stop done with_node
  stopped calls lines cores running holder c l e r h =
      let same : line.Stopped n ∷ gone (pending_at n (cluster_of old)) ≡ lines = ap (λ (cs : List PendingCall). line.Stopped n ∷ gone cs) (sym (c ∙ calls_are)) ∙ sym l in
      let states : slice_set (states_of old.cores) n (restarted old.config (node_at n (cluster_of old))) ≡ states_of cores = sym (ap states_of e ∙ states_are) in (
        (λ i. Ok (record {
          cluster = record {
            nodes = states i;
            running = sym r i;
            able = old.able;
            sent = old.mail;
            holder = sym h i;
            ticket = old.books.ticket;
            calls = old.books.calls;
          };
          lines = same i;
        })),
        subst (AreSeated old.config) (sym e) (seated_set old.config old.cores n x (restarted x.config x.node) at seats),
      )
