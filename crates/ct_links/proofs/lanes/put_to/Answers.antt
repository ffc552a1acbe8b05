use Rattle.std.proofs.Common.{◌≢◌, ◌<◌, ◌≤◌, length, arith}
use Rattle.ct_links.proofs.Passing.{passed_more, puts_at, puts_none}
use Rattle.ct_links.proofs.lanes.put_to.Goals as goal

pub returns-then-is_to : goal.returns-then-is_to
returns-then-is_to g c =
    let here : c.loop-i.i < length c.loop-i.lanes = omega (arith, c.loop-i-test.true, c.loop-i.auto.lanes) in
    puts_at g.S.Write.contents _ _ _ c.loop-i.i _ c.loop-i.lanes c.index-lanes-i.result c.index-lanes-i-then-is_to.result _ c.loop-i.invariant.0 c.loop-i.invariant.1 here (c.is_to.ensures.0 c.if-is_to.true) c.put.ensures

pub loop-i-preserved : goal.loop-i-preserved
loop-i-preserved g c =
    let other : c.index-lanes-i.result.node ≢ c.args.node = grind (arith, c.is_to.ensures, c.if-is_to.false) in
    (passed_more _ c.loop-i.i c.loop-i.lanes c.index-lanes-i.result c.loop-i.invariant.0 c.index-lanes-i.is other, c.loop-i.invariant.1)

pub returns : goal.returns
returns g c =
    let whole : length c.loop-i.lanes ≤ c.loop-i.i = omega (arith, c.loop-i-test.false, c.loop-i.auto.lanes) in
    puts_none g.S.Write.contents c.args.node c.args.bytes.now c.loop-i.i _ c.loop-i.lanes c.loop-i.invariant.0 c.loop-i.invariant.1 whole
