use Rattle.std.proofs.Common.{rules, ◌<◌, ℕ, ◌+◌, List, [], map, length, length-set, ap, sym, subst, ◌∙◌}
use Rattle.ct_journal.specs.Order.{entries_of}
use Rattle.ct_journal_order.proofs.Bridging.{waited_more}
use Rattle.ct_journal_order.proofs.Posting.{rest_more}
use Rattle.ct_journal_order.specs.Demands.{AreWaited, demands_at}
use Rattle.ct_journal_order.specs.Letters.{Despatched, letters_of}
use Rattle.ct_journal_order.specs.declared.demand.Demand.{Demand}
use Rattle.ct_journal_order.proofs.demands.all_demands.Goals as goal

pub loop-node-preserved : goal.loop-node-preserved
loop-node-preserved c = record {
  size =
      ap (λ (rs : List (List (List Despatched))). length rs) c.take_letters-letters.ensures.rest
      ∙ (length-set c.loop-node.receivers.items c.loop-node.node []
      ∙ c.loop-node.invariant.size);
  rest = rest_more c.args.journals.now c.loop-node.receivers.items c.take_letters-letters.new.receivers.items c.loop-node.node c.take_letters-letters.ensures.rest c.loop-node.invariant.rest;
  count = search rules;
  each = subst
      (λ (all : List (List Demand)). (n : ℕ) → n < c.loop-node.node + 1 → AreWaited n (entries_of c.args.journals.now n) (map (letters_of n) c.args.journals.now) (demands_at all n))
      (sym c.in_ok-push.ensures.items)
      (waited_more c.args.journals.now c.loop-node.all.items c.in_ok-demands_of.field-0 c.loop-node.node c.loop-node.invariant.count c.loop-node.invariant.each c.in_ok-demands_of.ensures);
}
