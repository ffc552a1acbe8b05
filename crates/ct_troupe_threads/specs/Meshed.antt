-- What nodes leave that served over a mesh.
use Rattle.std.specs.Prelude.{◌≡◌, ℕ, ◌<◌, ◌≤◌, ◌⊎◌, Bool, true, false, List, [], length, Option, None, Some, Result, Ok, Err, All}
use Rattle.ct_values.specs.declared.memory.NoMemory.{NoMemory}
use Rattle.ct_call.specs.Rules.{Rules}
use Rattle.ct_script.specs.declared.plan.Plan.{Plan}
use Rattle.ct_links.specs.declared.link.LinkTally.{LinkTally}
use Rattle.ct_troupe_threads.specs.Threaded.{HasServed}
use Rattle.ct_troupe_threads.specs.declared.node.NodeEnd.{NodeEnd}
use Rattle.ct_links.specs.declared.mesh.MeshFault.{MeshFault}
use Rattle.ct_links.specs.declared.mesh.MeshFault.TheVariants as mesh
use Rattle.ct_troupe.specs.declared.troupe.PlayFault.{PlayFault}
use Rattle.ct_troupe.specs.declared.troupe.PlayFault.TheVariants as fault

-- the fault of a play whose nodes are not joined
abbrev pub joining_fault : MeshFault → PlayFault
joining_fault mesh.Refused = fault.Link
joining_fault mesh.NoMemory = fault.NoMemory

-- could a node that leaves this not serve to its end, for another reason than want of memory?
abbrev pub has_failed : Result (Option NodeEnd) NoMemory → Bool
has_failed (Ok None) = true
has_failed (Ok (Some e)) = false
has_failed (Err f) = false

-- Loopback: how many turns a node has
abbrev pub all_turns : ℕ
all_turns = 1000000

-- Loopback: a link answered that nothing will come any more, or as many looks as a node has turns
abbrev pub HadTurns : LinkTally → Type 0
HadTurns t = (0 < t.endings) ⊎ (all_turns ≤ t.looks)

-- Loopback: what node n of a plan leaves that served to its end, over a link that answered so
abbrev pub HasEnded : Rules → Plan → ℕ → NodeEnd → Type 0
HasEnded rules p n e = HasServed rules p n e.journal × HadTurns e.tally

-- Loopback: the link of each node of a plan that was played answered so; a refused play leaves no answers
abbrev pub AllHadTurns : Plan → Result (Unit {0}) PlayFault → List LinkTally → Type 0
AllHadTurns p (Ok u) ts = (length ts ≡ p.config.nodes) × All HadTurns ts
AllHadTurns p (Err f) ts = ts ≡ []
