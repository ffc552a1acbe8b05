-- What the nodes of the small run are when both have installed: what an installation makes of a frozen one.
use Rattle.std.proofs.Common.{ℕ, true, List, [], ◌∷◌}
use Rattle.std.specs.Prelude.{Some}
use Rattle.ct_values.specs.declared.client.ClientOp.TheVariants as op
use Rattle.ct_store.specs.Map.{Pairs}
use Rattle.ct_rules.specs.State.{nothing_kept}
use Rattle.ct_rules.specs.declared.state.RecState.{RecState}
use Rattle.ct_rules_node.specs.Node as node
use Rattle.ct_rules_node.specs.Node.{Node, Frozen, Installs}
use Rattle.ct_rules_node.specs.Rounds.{installed_node}
use Rattle.ct_rules_cluster.specs.Cluster.{Cluster, Sent}
use Rattle.ct_promise.specs.Small.{config, both, a, the_row}

-- a node that is frozen for the round, with these states of keys in `t` and this next request number
abbrev pub frozen : Pairs RecState → ℕ → Node
frozen records next = record (node.opening config both) {
  promise = 2;
  phase = Frozen 2;
  dbs = node.untouched ∷ record node.untouched { records = records } ∷ [];
  next = next;
}

-- a lock that waits for `a`, under request 1
abbrev pub waits : Pairs RecState
waits = (a, record nothing_kept { wish = Some (record { call = 2; request = 1; op = op.Lock 1 a }) }) ∷ []

abbrev pub installed : ℕ → Node → Node
installed n before = installed_node config n 0 2 both (the_row ∷ []) [] [] before

-- node 0 has pushed and waits for the acknowledgements
abbrev pub zeroth : Node
zeroth = record (installed 0 (frozen waits 2)) {
  lead = Installs 2 both both (record { members = both; table = the_row ∷ []; ptables = []; assigned = []; vparent = 1; pparent = 1 });
}

abbrev pub first : Node
first = installed 1 (frozen [] 1)

-- the cluster, whatever was sent
abbrev pub with_sent : List Sent → Cluster
with_sent sent = record { nodes = zeroth ∷ first ∷ []; running = true ∷ true ∷ []; able = true ∷ true ∷ []; sent = sent; holder = Some 0; ticket = 2; calls = 2 }
