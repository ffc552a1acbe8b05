use Rattle.std.proofs.Common.{◌∙◌, List, ap}
use Rattle.ct_call.specs.Shown.{rules_of}
use Rattle.ct_rules_cluster.specs.declared.step.Line.{Line}
use Rattle.ct_soak.specs.Counts.{last_sent, last_ticket}
use Rattle.ct_soak.proofs.Counting.{kept}
use Rattle.ct_soak.proofs.soaking.Soaking.take.Goals as goal

pub invariant_of-self : goal.invariant_of-self
invariant_of-self g c =
    let s = c.self.inside in
    let k = kept (rules_of c.args.table.now) s.world c.apply.new.self c.args.step.now c.in-Ok.lines.items s.sent s.calls s.ticket c.self.invariant c.in-Ok.ensures.0 c.in-Ok.ensures.1 in
    record {
      config_is = k.config_is;
      sent_is = c.last_sent-self-inside.ensures ∙ ap (λ (l : List Line). last_sent s.sent l) c.as_slice.ensures.value ∙ k.sent_is;
      calls_is = c.calls_after-self-inside.ensures ∙ k.calls_is;
      ticket_is = c.last_ticket-self-inside.ensures ∙ ap (λ (l : List Line). last_ticket s.ticket l) c.as_slice-in-Ok.ensures.value ∙ k.ticket_is;
      four_nodes = k.four_nodes;
      below = k.below;
    }
