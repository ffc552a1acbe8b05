use Rattle.std.proofs.Common.{arith, rules, ◌≡◌, ◌++◌, [], ◌∷◌}
use Rattle.ct_bus_exchange.proofs.Ranges.{map_next}
use Rattle.ct_bus_run.specs.Generated.{generated_by, generated_to}
use Rattle.ct_bus_run.proofs.generated.generated_row.Goals as goal

pub loop-receiver-preserved : goal.loop-receiver-preserved
loop-receiver-preserved c =
    let pushed : c.push.new.self ≡ c.loop-receiver.row ++ c.in_ok-generated_to.field-0 ∷ [] = search rules in
    let made : c.in_ok-generated_to.field-0 ≡ generated_to (generated_by c.args.wanted.now c.args.sender) c.args.sender c.loop-receiver.receiver = search rules in (
      omega (arith, c.loop-receiver-test.true),
      map_next (generated_to (generated_by c.args.wanted.now c.args.sender) c.args.sender) c.loop-receiver.receiver c.loop-receiver.row c.push.new.self c.in_ok-generated_to.field-0 c.loop-receiver.invariant.1 made pushed,
    )
