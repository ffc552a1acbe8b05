use Rattle.std.proofs.Common.{rules, ◌≡◌, ◌∷◌, ◌++◌, [], true, sym, subst}
use Rattle.ct_call.specs.Shown.{rules_of}
use Rattle.ct_actor.proofs.Running.{step_runs}
use Rattle.ct_actor.proofs.node.Node.feed.Goals as goal
use Rattle.ct_actor.specs.Journalled.{IsRunBy, Journalled}
use Rattle.ct_rules_node.specs.Coming.{may_come}

pub returns-clause-run : goal.returns-clause-run
returns-clause-run g c =
    let old : Journalled = record { core = c.self.inside.core; entries = c.self.inside.entries.items } in
    let may : may_come old.core.config old.core.pnn old.core.node c.args.event ≡ true = subst (λ (x : Journalled). may_come x.core.config x.core.pnn x.core.node c.args.event ≡ true) (sym c.self.view_is) c.requires in
    let put : c.push_reserved.new.self.items ≡ old.entries ++ record { event = c.args.event; outs = c.in_ok-outs.outs.items } ∷ [] = search rules in
    λ run.
    step_runs (rules_of c.args.table.now) c.args.event c.in_ok-outs.outs.items old c.step.new.self c.push_reserved.new.self.items may c.in_ok-outs.ensures.step.0 c.in_ok-outs.ensures.step.1 put
    (subst (λ (x : Journalled). IsRunBy (rules_of c.args.table.now) x) (sym c.self.view_is) run)
