-- The facts of addresses that hold in every run.
use Rattle.std.proofs.Common.{◌≡◌, ◌≢◌, ℕ, zero, suc, ◌<◌, ◌≤◌, true, false, List, [], Option, None, Some}
use Rattle.ct_values.specs.declared.address.Address.{Address}
use Rattle.ct_values.specs.declared.config.Config.{Config}
use Rattle.ct_frame.specs.declared.frame.Assigned.{Assigned}
use Rattle.ct_frame.specs.declared.frame.Msg.{Msg}
use Rattle.ct_frame.specs.declared.frame.Msg.TheVariants as msg
use Rattle.ct_lcp2.specs.Placing.{placed}
use Rattle.ct_rules_node.specs.Node.{Node, Lead, Nothing, Freezes, Pulls, Installs, Completed, Run, NoRun, Releasing, Taking, is_among, assigned_all, holder_in}
use Rattle.ct_rules_node.specs.Takeovers.{share, assigned_in}
use Rattle.ct_rules_cluster.specs.Cluster.{Cluster, Sent, node_at, sent_at}
use Rattle.ct_register.specs.Placing as placing
use Rattle.ct_register.specs.Placing.{Placing, given_placement}
use Rattle.ct_register.specs.Stands.{HoldsAddress}
use Rattle.ct_register.specs.Lines.{Lines}

-- the last run of each line whose take was sent, 0 for none
abbrev pub Turns : Type 0
Turns = ℕ → ℕ

-- what was pushed, and nothing before that
unfoldable pub or_nothing_pushed : Option (List Assigned) → List Assigned
or_nothing_pushed None = []
or_nothing_pushed (Some xs) = xs

-- what a run makes of the configured addresses, with all of them
unfoldable pub made_by : List Address → Option placing.Run → List Assigned
made_by addresses None = assigned_all addresses []
made_by addresses (Some run) = placed run.able (assigned_all addresses run.given)

-- where the run of this number places the configured addresses; run 0 is the push
unfoldable pub plan : List Address → Placing → ℕ → List Assigned
plan addresses p zero = assigned_all addresses (or_nothing_pushed p.pushed)
plan addresses p (suc k) = made_by addresses (p.runs (suc k))

-- the placing of one line whose last take was that of run t
pub record Counts (addresses : List Address) (p : Placing) (t : ℕ) : Type 0 where
  pub turn : t ≤ p.begun
  pub runs : (i : ℕ) → 1 ≤ i → i ≤ p.begun → (run : placing.Run) × (p.runs i ≡ Some run)
  pub none : t ≡ 0 → p.last ≡ None
  pub last : t ≢ 0 → p.last ≡ Some (assigned_in (plan addresses p t))
  pub pushed : p.begun ≢ 0 → p.pushed ≢ None

-- a node of the line: it follows run t or a later one, and holds only what both place at it
pub record Follows (addresses : List Address) (p : Placing) (t n : ℕ) (node : Node) (holds : Address → Type 0) : Type 0 where
  pub after : t ≤ node.last_run
  pub within : node.last_run ≤ p.begun
  pub turn : (a : Address) → holds a → holder_in a (plan addresses p t) ≡ Some n
  pub own : (a : Address) → holds a → holder_in a (plan addresses p node.last_run) ≡ Some n

-- node m, where it is still in line g, follows this run or a later one
abbrev pub Follower : Cluster → Lines → ℕ → ℕ → ℕ → Type 0
Follower w r g number m = r.line m ≡ g → number ≤ (node_at m w).last_run

-- a run that is led: it is the last one that began; who is not missing follows it; once nobody is, its take was sent
unfoldable pub Leads : List Address → Cluster → Lines → ℕ → List ℕ → Placing → ℕ → ℕ → Run → Type 0
Leads addresses w r g members p t number NoRun = p.begun ≡ 0
Leads addresses w r g members p t number (Releasing placement missing) =
    (placement ≡ plan addresses p number) × (t < number) × ((m : ℕ) → is_among m members ≡ true → is_among m missing ≡ false → Follower w r g number m)
Leads addresses w r g members p t number (Taking placement) = (placement ≡ plan addresses p number) × (t ≡ number)

-- what a node leads; no run began in a line whose round is not completed
unfoldable pub LeadsRuns : Config → Cluster → Lines → Turns → Lead → Type 0
LeadsRuns config w r turns Nothing = Unit {0}
LeadsRuns config w r turns (Freezes g members missing) = (r.placing g).begun ≡ 0
LeadsRuns config w r turns (Pulls g members missing x) = (r.placing g).begun ≡ 0
LeadsRuns config w r turns (Installs g members missing body) = ((r.placing g).begun ≡ 0) × ((r.placing g).pushed ≡ Some body.assigned)
LeadsRuns config w r turns (Completed g members x) =
    (x.number ≡ (r.placing g).begun) × (x.made ≡ plan config.addresses (r.placing g) (turns g)) × Leads config.addresses w r g members (r.placing g) (turns g) x.number x.run

-- what a message of generation g stands for, from node n to node m
unfoldable pub Places : List Address → Cluster → Lines → Turns → ℕ → ℕ → ℕ → Msg → Type 0
Places addresses w r turns g n m (msg.Release number keep) = (1 ≤ number) × (number ≤ (r.placing g).begun) × (keep ≡ share m (plan addresses (r.placing g) number))
Places addresses w r turns g n m (msg.ReleaseAck number) = (number ≤ (r.placing g).begun) × Follower w r g number n
Places addresses w r turns g n m (msg.Take number assigned) =
    (1 ≤ number) × (number ≤ turns g) × ((r.placing g).taken number ≡ Some assigned) × (assigned ≡ assigned_in (plan addresses (r.placing g) number))
Places addresses w r turns g n m (msg.Push members table ptables assigned) = (r.placing g).pushed ≡ Some assigned
Places addresses w r turns g n m _ = Unit {0}

-- what holds of addresses in every run
pub record PlacesHold (config : Config) (w : Cluster) (r : Lines) (turns : Turns) : Type 0 where
  pub unborn : (g : ℕ) → r.born g ≡ false → ((r.placing g).pushed ≡ None) × ((r.placing g).begun ≡ 0)
  pub counts : (g : ℕ) → Counts config.addresses (r.placing g) (turns g)
  -- once a take was sent, every member has installed
  pub installed : (g m : ℕ) → turns g ≢ 0 → is_among m (r.members g) ≡ true → r.installed g m ≡ true
  pub follows : (n : ℕ) → r.line n ≢ 0 → Follows config.addresses (r.placing (r.line n)) (turns (r.line n)) n (node_at n w) (HoldsAddress w n)
  pub leads : (n : ℕ) → LeadsRuns config w r turns (node_at n w).lead
  pub mail : (k : ℕ) (s : Sent) → sent_at k w ≡ Some s → Places config.addresses w r turns s.frame.generation s.frame.sender s.frame.receiver s.frame.msg
