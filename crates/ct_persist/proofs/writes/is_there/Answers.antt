use Rattle.std.proofs.Common.{ap, sym, ◌∙◌, cond}
use Rattle.std.specs.Prelude.{is_some, not}
use Rattle.ct_store.specs.Map.{look}
use Rattle.ct_persist.proofs.Counts.{got, there_more, written_none, no_bytes}
use Rattle.ct_persist.proofs.writes.is_there.Goals.{then-eq, else-eq}
use Rattle.ct_persist.proofs.writes.is_there.Goals as goal

pub loop-write-init : goal.loop-write-init
loop-write-init c = c.is_some-there.ensures ∙ got c.get.result _ c.get.ensures ∙ ap (λ m. is_some (look c.args.key.now m)) (sym (written_none c.args.items.now))

pub loop-write-preserved : goal.loop-write-preserved
loop-write-preserved c =
    let w = c.write-item.result in
    there_more c.args.writes.now c.loop-write.write-index w c.args.items.now c.args.key.now c.loop-write.there c.if-eq.there c.requires c.loop-write-test.true c.write-item.is c.loop-write.invariant
    (elim c.if-eq.branch [
      | then-eq b ↦ b.there-is ∙ ap not (b.is_empty-there.ensures ∙ ap no_bytes b.bytes.ensures.bytes) ∙ ap (λ t. cond t (not (no_bytes w.value)) c.loop-write.there) b.if-eq.ensures
      | else-eq b ↦ b.there-is ∙ ap (λ t. cond t (not (no_bytes w.value)) c.loop-write.there) b.if-eq.ensures
    ])
