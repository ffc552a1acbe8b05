use Rattle.std.proofs.Common.{subst, sym}
use Rattle.ct_core.specs.Core.{Core, IsChangeOf}
use Rattle.ct_core.proofs.Plans.{stays_in_form}
use Rattle.ct_core.proofs.machine.Core.commit.Goals as goal

pub invariant_of-self-2 : goal.invariant_of-self-2
invariant_of-self-2 c = stays_in_form c.self.inside.config c.self.inside.pnn c.self.inside.node c.commit.new.node c.args.change c.self.invariant (subst (λ (x : Core). IsChangeOf x c.args.change) (sym c.self.view_is) c.requires) c.in_ok-commit.ensures.ok
