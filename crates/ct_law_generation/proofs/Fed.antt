-- Where an event is given to a node and the step is taken, the cluster is what the node's step makes of it.
use Rattle.std.proofs.Common.{◌≡◌, ℕ, Bool, true, false, cond, List, Some, None, refl, sym}
use Rattle.std.specs.Prelude.{Ok, Err}
use Rattle.ct_values.specs.declared.config.Config.{Config}
use Rattle.ct_frame.specs.declared.event.Event.{Event}
use Rattle.ct_call.specs.Rules.{Rules}
use Rattle.ct_rules_node.specs.Turn.{Turn, begins}
use Rattle.ct_rules_node.specs.Steps.{happens}
use Rattle.ct_rules_cluster.specs.Cluster.{Cluster, node_at}
use Rattle.ct_rules_cluster.specs.Steps.{Stepped, put, is_counted, if_counted, fed_of, fed}
use Rattle.ct_rules_cluster.specs.declared.step.Line.{Line}
use Rattle.ct_rules_cluster.specs.declared.step.StepFault.TheVariants as fault

-- the step was taken, and this came of it
abbrev pub Taken : ℕ → Turn → List Line → Cluster → Stepped → Type 0
Taken n u own w x = (u.spent ≡ false) × (x ≡ put n u own w)

counted_case : (s x : Stepped) (b : Bool) → cond b (Ok s) (Err fault.Exhausted) ≡ Ok x → x ≡ s
counted_case s x true e = (let same : s ≡ x = cc in sym same)
counted_case s x false e = absurd (cc)

fed_case : (n : ℕ) (own : List Line) (w : Cluster) (x : Stepped) (u : Turn) (b : Bool) → u.spent ≡ b → fed_of n own w (cond b None (Some u)) ≡ Ok x → Taken n u own w x
unfolding fed_of if_counted
fed_case n own w x u true e k = absurd (cc)
fed_case n own w x u false e k = (e, counted_case (put n u own w) x (is_counted (put n u own w).cluster) k)

pub fed_is : (c : Config) (rules : Rules) (n : ℕ) (e : Event) (own : List Line) (w : Cluster) (x : Stepped) → fed c rules n e own w ≡ Ok x → Taken n (happens c rules n (begins (node_at n w)) e) own w x
unfolding fed
fed_is c rules n e own w x k = fed_case n own w x (happens c rules n (begins (node_at n w)) e) (happens c rules n (begins (node_at n w)) e).spent refl k
