use Rattle.std.proofs.Common.{◌<◌, ◌≤◌, length, arith}
use Rattle.ct_links.proofs.Passing.{all_rest, does_first, looked_more}
use Rattle.ct_links.proofs.lanes.look_over.Goals as goal

pub loop-i-preserved : goal.loop-i-preserved
loop-i-preserved g c =
    let here : c.loop-i.i < length c.loop-i.lanes = omega (arith, c.loop-i-test.true, c.loop-i.auto.lanes) in
    looked_more g.S.Read.remaining c.loop-i.i _ c.loop-i.lanes c.index-lanes-i.result _ c.loop-i.invariant here c.in-Nothing.ensures

pub returns-in-Bytes : goal.returns-in-Bytes
returns-in-Bytes g c =
    let here : c.loop-i.i < length c.loop-i.lanes = omega (arith, c.loop-i-test.true, c.loop-i.auto.lanes) in
    does_first g.S.Read.remaining _ c.loop-i.i _ c.loop-i.lanes c.index-lanes-i.result _ c.loop-i.invariant here c.in-Bytes.ensures

pub returns-in-Failed : goal.returns-in-Failed
returns-in-Failed g c =
    let here : c.loop-i.i < length c.loop-i.lanes = omega (arith, c.loop-i-test.true, c.loop-i.auto.lanes) in
    does_first g.S.Read.remaining _ c.loop-i.i _ c.loop-i.lanes c.index-lanes-i.result _ c.loop-i.invariant here c.in-Failed.ensures

pub returns : goal.returns
returns g c =
    let whole : length c.loop-i.lanes ≤ c.loop-i.i = omega (arith, c.loop-i-test.false, c.loop-i.auto.lanes) in
    all_rest g.S.Read.remaining c.loop-i.i _ c.loop-i.lanes c.loop-i.invariant whole
