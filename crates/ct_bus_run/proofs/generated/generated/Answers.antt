use Rattle.std.proofs.Common.{arith, ◌≡◌, ◌∙◌, sym, ap, subst, map}
use Rattle.std.specs.List.{range_with_len}
use Rattle.ct_bus_exchange.proofs.Ranges.{map_next}
use Rattle.ct_bus_exchange.specs.Exchange.{AreScripts, Scripts}
use Rattle.ct_bus_run.specs.Generated.{generated, generated_row}
use Rattle.ct_bus_run.proofs.Making.{generated_sound}
use Rattle.ct_bus_run.proofs.generated.generated.Goals as goal

pub loop-sender-preserved : goal.loop-sender-preserved
loop-sender-preserved c = (
  omega (arith, c.loop-sender-test.true),
  map_next (generated_row c.args.wanted.now) c.loop-sender.sender c.loop-sender.all.items c.push.new.self.items _ c.loop-sender.invariant.1 c.in_ok-generated_row.ensures c.in_ok-push.ensures.items,
)

pub returns-clause-sound : goal.returns-clause-sound
returns-clause-sound c =
    let all : c.loop-sender.sender ≡ c.args.wanted.now.nodes = (let b = c.loop-sender.invariant.0 in omega (arith, c.loop-sender-test.false)) in
    let is : c.loop-sender.all.items ≡ generated c.args.wanted.now = c.loop-sender.invariant.1 ∙ ap (λ n. map (generated_row c.args.wanted.now) (range_with_len 0 n)) all in
    subst (λ (s : Scripts). AreScripts s) (sym is) (generated_sound c.args.wanted.now c.requires)
