use Rattle.std.proofs.Common.{◌≡◌, ◌++◌, rules, arith, ap, ◌∙◌}
use Rattle.std.specs.Prelude.{map, is_some}
use Rattle.std.specs.Map.Iter.{deref_pair}
use Rattle.std.proofs.lemmas.Grind.{common_steps}
use Rattle.ct_tracking.specs.Tracked.{rsn_of}
use Rattle.ct_node_plan_runs.specs.Again.{revoked_in}
use Rattle.ct_node_plan_runs.proofs.Revoking.{revoked_those}
use Rattle.ct_node_plan_runs.proofs.retry.revokes_of.Goals as goal

pub returns : goal.returns
unfolding revoked_in
returns c =
    let all : c.loop-key.outs ≡ c.args.outs.now ++ revoked_in c.args.generation c.args.me c.args.db (map deref_pair c.in_ok-items.items.items) = grind (arith, common_steps) in
    let some = c.in_ok-items.ensures (λ s. is_some (rsn_of s.tracking.revoking)) (λ x r says. search rules) in
    all ∙ ap (λ r. c.args.outs.now ++ r) (ap (revoked_in c.args.generation c.args.me c.args.db) some ∙ revoked_those c.args.generation c.args.me c.args.db c.args.records.now)
