use Rattle.std.proofs.Common.{◌<◌, ◌∙◌, length, slice_set, ap, arith}
use Rattle.std.proofs.lemmas.List.{get_or_default}
use Rattle.std.proofs.lemmas.List.Edits.{map_over_more}
use Rattle.ct_node_state.specs.Whole.{nowhere}
use Rattle.ct_node_state.proofs.restart.nowhere.Goals as goal

pub loop-x-preserved : goal.loop-x-preserved
loop-x-preserved c =
    let here : c.loop-x.x-index < length c.loop-x.x-items = omega (arith, c.loop-x-test.true, c.loop-x.auto.x-items, c.loop-x.auto.x-index-end) in
    let there : c.loop-x.x-index < length c.deref_mut-x-items.result.now = omega (arith, c.loop-x-test.true, c.loop-x.auto.x-items, c.loop-x.auto.x-index-end) in
    ap (slice_set c.loop-x.x-items c.loop-x.x-index) c.vacate.ensures
    ∙ map_over_more nowhere c.deref_mut-x-items.result.now c.loop-x.x-items c.loop-x.x-index _ there c.loop-x.invariant (get_or_default c.loop-x.x-items c.loop-x.x-index _ _ here)
