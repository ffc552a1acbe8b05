use Rattle.std.proofs.Common.{◌∙◌, ℕ, Bool, arith, subst}
use Rattle.std.specs.Prelude.{slice_index_or}
use Rattle.ct_journal.specs.Order.{next_entry}
use Rattle.ct_schedule_text.proofs.Adding.{from_end, from_more, text_after}
use Rattle.ct_schedule_text.proofs.Growing.{from_fails, next_places}
use Rattle.ct_schedule_text.proofs.telling.Teller.tell_all.Goals as goal
use Rattle.ct_schedule_text.specs.Telling.{AddsLines, told_from, told_if_next}

pub loop-node-preserved : goal.loop-node-preserved
loop-node-preserved c =
    let config = c.args.config.now in
    let js = c.args.journals.now in
    let order = c.args.order.now in
    let node : ℕ = slice_index_or order c.loop-node.node-index 0 in
    let adds = subst (λ (b : Bool). AddsLines config b (told_if_next node (next_entry js c.loop-node.self.front node) c.loop-node.self) c.tell_next.new.self c.loop-node.text.items c.tell_next.new.text.items) c.if-not-branch.false c.in_ok-tell_next.ensures in (
      next_places config js node c.loop-node.self c.tell_next.new.self c.loop-node.text.items c.tell_next.new.text.items adds ∙ c.loop-node.invariant.0,
      from_more config js order c.loop-node.node-index 0 c.loop-node.self c.tell_next.new.self c.loop-node.text.items c.tell_next.new.text.items
          (text_after config c.args.text.now.items (told_from js order c.args.self.now)) (omega (arith, c.loop-node-test.true)) adds c.loop-node.invariant.1,
    )

pub returns : goal.returns
returns c = from_end c.args.config.now c.args.journals.now c.args.order.now c.loop-node.node-index c.args.self.now c.loop-node.self c.args.text.now.items c.loop-node.text.items (omega (arith, c.loop-node-test.false)) c.loop-node.invariant.1

pub returns-then-not-branch : goal.returns-then-not-branch
returns-then-not-branch c =
    let config = c.args.config.now in
    let js = c.args.journals.now in
    let order = c.args.order.now in
    let node : ℕ = slice_index_or order c.loop-node.node-index 0 in
    from_fails config js order c.loop-node.node-index 0 c.loop-node.self c.tell_next.new.self c.args.self.now c.loop-node.text.items c.tell_next.new.text.items c.args.text.now.items (omega (arith, c.loop-node-test.true))
    (subst (λ (b : Bool). AddsLines config b (told_if_next node (next_entry js c.loop-node.self.front node) c.loop-node.self) c.tell_next.new.self c.loop-node.text.items c.tell_next.new.text.items) c.if-not-branch.true c.in_ok-tell_next.ensures) c.loop-node.invariant.1
