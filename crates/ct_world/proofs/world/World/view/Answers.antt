use Rattle.std.proofs.Common.{refl, sym}
use Rattle.ct_world.proofs.Seated.{core_missing, core_seated, limits_here}
use Rattle.ct_world.proofs.world.World.view.Goals as goal

pub returns-in_err-core-clause-core : goal.returns-in_err-core-clause-core
returns-in_err-core-clause-core c =
    rw c.from_residual.ensures
    (absurd (core_missing c.self.inside.parts.config c.self.inside.parts.cores c.as_slice.result.now _ c.args.self.now c.args.node c.self.invariant refl c.self.view_is c.as_slice.ensures c.in_err-core.ensures.lookup.0 (sym c.if-not-is_up.ensures)))

pub returns-clause-core : goal.returns-clause-core
returns-clause-core c = (
  sym c.if-not-is_up.ensures,
  core_seated c.self.inside.parts.config c.self.inside.parts.cores c.as_slice.result.now _ c.args.self.now c.args.node c.self.invariant refl c.self.view_is c.as_slice.ensures c.in_ok-core.core.now c.in_ok-core.ensures.lookup.0 c.in_ok-core.ensures.lookup.1,
)

pub returns-clause-limits : goal.returns-clause-limits
returns-clause-limits c =
    limits_here c.self.inside.parts.config c.self.inside.parts.cores c.as_slice.result.now _ c.args.self.now c.args.node c.self.invariant refl c.self.view_is c.as_slice.ensures c.in_ok-core.core.now c.in_ok-core.ensures.lookup.0 c.in_ok-core.ensures.lookup.1
