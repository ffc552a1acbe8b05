use Rattle.std.proofs.Common.{◌≡◌, ◌∙◌, sym, ap, true, false, nat_eq, arith}
use Rattle.ct_values.specs.Words.{is_this_node}
use Rattle.ct_lcp2.proofs.Tallies.{weight_fits, joined, left, stayed}
use Rattle.ct_lcp2.proofs.tally.Tally.after.Goals as goal

pub overflow_add-result : goal.overflow_add-result
overflow_add-result c = weight_fits c.args.self.node c.args.at.now c.args.address c.sum_to_held.result c.args.self.imbalance c.requires.few c.sum_to_held.ensures (ap (λ t. t.imbalance) c.requires.now)

pub returns-then-node-target : goal.returns-then-node-target
returns-then-node-target c =
    let same : nat_eq c.args.target c.args.self.node ≡ true = let h = c.if-node-target.true in grind arith in
    let apart : is_this_node c.args.self.node c.args.source ≡ false = let h = c.if-node-target.true in let k = c.requires.apart in grind arith in
    joined c.args.at.now c.args.address c.args.source c.args.target c.requires.ascending c.requires.stands c.args.self.node c.sum_to_held.result c.args.self.imbalance c.new.result
    apart same c.sum_to_held.ensures (ap (λ t. t.imbalance) c.requires.now) (c.new.ensures ∙ c.add_squares.ensures)

pub returns-then-is_this_node : goal.returns-then-is_this_node
returns-then-is_this_node c =
    let other : nat_eq c.args.target c.args.self.node ≡ false = let h = c.if-node-target.false in grind arith in
    left c.args.at.now c.args.address c.args.source c.args.target c.requires.ascending c.requires.stands c.args.self.node c.args.self.imbalance c.sum_to_held-then-is_this_node.result c.squared.result c.saturating_sub-own.result c.saturating_sub.result c.new-then-is_this_node.result
    (sym c.is_this_node.ensures ∙ c.if-is_this_node.true) other c.sum_to_held-then-is_this_node.ensures c.squared.ensures c.saturating_sub-own.ensures c.saturating_sub.ensures (ap (λ t. t.imbalance) c.requires.now) (c.new-then-is_this_node.ensures ∙ c.take_squares.ensures)

pub returns : goal.returns
returns c =
    let other : nat_eq c.args.target c.args.self.node ≡ false = let h = c.if-node-target.false in grind arith in
    stayed c.args.at.now c.args.address c.args.source c.args.target c.requires.ascending c.requires.stands c.args.self.node c.args.self (sym c.is_this_node.ensures ∙ c.if-is_this_node.false) other c.requires.now
