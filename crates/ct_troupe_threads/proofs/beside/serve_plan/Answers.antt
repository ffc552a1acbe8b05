use Rattle.std.proofs.Common.{ℕ, length, sym, ap, subst}
use Rattle.ct_call.specs.Shown.{rules_of}
use Rattle.ct_journal.specs.declared.journal.Journal.{Journal}
use Rattle.ct_actor_serving.specs.Serving.{EndsBy, of_link}
use Rattle.ct_troupe.proofs.Staging.{has_limits}
use Rattle.ct_troupe_threads.proofs.Serving.{has_served}
use Rattle.ct_troupe_threads.proofs.beside.serve_plan.Goals as goal

pub new-requires-clause-limits : goal.new-requires-clause-limits
new-requires-clause-limits g c = has_limits c.args.plan.now c.requires.sound

pub returns-in-Ok-clause-ends : goal.returns-in-Ok-clause-ends
returns-in-Ok-clause-ends g c =
    let link = of_link g.L.Link.faults g.L.Link.endings g.L.Link.looks in
    (c.in-Ok.field-0, subst (λ (n : ℕ). EndsBy c.args.until c.in-Ok.field-0 n (link c.args.link.now) (link c.serve_until.new.link)) (sym (ap (λ (j : Journal). length j.entries) c.into_journal.ensures)) c.in-Ok.ensures.ends)

pub returns-in-Ok-clause-served : goal.returns-in-Ok-clause-served
returns-in-Ok-clause-served g c =
    has_served (rules_of c.args.table.now) c.args.plan.now c.args.node c.in-Ok.field-0 c.script_at.result.now c.in_ok-own.own c.serve_until.new.node c.into_journal.result c.in_ok-own.ensures.at_opening c.script_at.ensures
    c.in-Ok.ensures.same.0 c.in-Ok.ensures.same.1 c.in-Ok.ensures.acting c.into_journal.ensures
