-- The Revokes of a database are those of the records with a revocation.
use Rattle.std.proofs.Common.{◌≡◌, ℕ, false, List, ◌++◌, Option, Some, None, refl, true≢false}
use Rattle.std.specs.Prelude.{is_some}
use Rattle.ct_frame.specs.declared.event.Out.{Out}
use Rattle.ct_rules.specs.declared.state.RecState.{RecState}
use Rattle.ct_store.specs.Map.{Pairs}
use Rattle.ct_store.specs.Those.{those}
use Rattle.ct_store.proofs.Those.{over_those}
use Rattle.ct_tracking.specs.Tracked.{Revocation, rsn_of}
use Rattle.ct_node_plan_runs.specs.Again.{revoked_again, revoked_in}

no_revoke : (g me db : ℕ) (key : List ℕ) (o : Option Revocation) (outs : List Out) → is_some (rsn_of o) ≡ false → revoked_again g me db key o ++ outs ≡ outs
unfolding revoked_again
no_revoke g me db key None outs n = refl
no_revoke g me db key (Some r) outs n = absurd (true≢false n)

pub revoked_those : (g me db : ℕ) (m : Pairs RecState) → revoked_in g me db (those (λ s. is_some (rsn_of s.tracking.revoking)) m) ≡ revoked_in g me db m
unfolding revoked_in
revoked_those g me db m =
    over_those (λ s. is_some (rsn_of s.tracking.revoking)) (revoked_in g me db) (λ e z. revoked_again g me db e.0 e.1.tracking.revoking ++ z) (λ e m. refl) (λ e z n. no_revoke g me db e.0 e.1.tracking.revoking z n) m
