-- What a node that leads a completed round of its own generation is called in two places.
use Rattle.std.proofs.Common.{◌≡◌, ℕ, refl}
use Rattle.ct_lead.specs.Runs.{is_completed_in}
use Rattle.ct_rules_cluster.specs.Faults.{leads}
use Rattle.ct_rules_node.specs.Node.{Completed, Freezes, Installs, Lead, Nothing, Pulls}

pub leads_so : (g : ℕ) (l : Lead) → is_completed_in g l ≡ leads g l
unfolding leads
leads_so g Nothing = refl
leads_so g (Freezes h members missing) = refl
leads_so g (Pulls h members missing x) = refl
leads_so g (Installs h members missing b) = refl
leads_so g (Completed h members x) = refl
