use Rattle.std.proofs.Common.{◌∙◌, sym}
use Rattle.ct_traverse_parts.proofs.Packing.{cut_more, cut_next, same_row}
use Rattle.ct_traverse_parts.proofs.rows.cut.Goals as goal

pub new-requires-clause-there : goal.new-requires-clause-there
new-requires-clause-there c =
    (cut_next c.args.all.now.value.items c.args.rows.now c.loop-row.row-index c.loop-row.start c.row-item.result c.bytes.result.now c.bytes-in-loop-row.result.now c.loop-row-test.true c.row-item.is
    c.bytes.ensures.bytes c.bytes-in-loop-row.ensures.bytes c.loop-row.invariant.2 c.loop-row.invariant.1).middle

pub new-requires-in-loop-row-clause-there : goal.new-requires-in-loop-row-clause-there
new-requires-in-loop-row-clause-there c =
    (cut_next c.args.all.now.value.items c.args.rows.now c.loop-row.row-index c.loop-row.start c.row-item.result c.bytes.result.now c.bytes-in-loop-row.result.now c.loop-row-test.true c.row-item.is
    c.bytes.ensures.bytes c.bytes-in-loop-row.ensures.bytes c.loop-row.invariant.2 c.loop-row.invariant.1).end

pub loop-row-preserved : goal.loop-row-preserved
loop-row-preserved c =
    let next = cut_next c.args.all.now.value.items c.args.rows.now c.loop-row.row-index c.loop-row.start c.row-item.result c.bytes.result.now c.bytes-in-loop-row.result.now c.loop-row-test.true c.row-item.is
    c.bytes.ensures.bytes c.bytes-in-loop-row.ensures.bytes c.loop-row.invariant.2 c.loop-row.invariant.1 in (
      cut_more c.args.rows.now c.loop-row.list.items c.push.new.self.items c.loop-row.row-index c.row-item.result _ c.loop-row-test.true c.row-item.is c.in_ok-push.ensures.items
          (same_row c.row-item.result _ _ (c.in_ok-key.ensures ∙ next.key) (c.in_ok-value.ensures ∙ next.value)) c.loop-row.invariant.0,
      next.rest,
      next.end,
    )
