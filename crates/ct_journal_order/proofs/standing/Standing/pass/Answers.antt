use Rattle.std.proofs.Common.{◌≡◌, ℕ, Bool, Global, Vec, [], ◌∷◌, ◌++◌, arith, refl, sym, subst}
use Rattle.ct_journal_order.proofs.Meeting.{passing_end, passing_first, passing_put, passing_still}
use Rattle.ct_journal_order.proofs.standing.Standing.pass.Goals as goal
use Rattle.ct_journal_order.proofs.standing.Standing.pass.Goals.{then-advance+in_ok-push, else-advance}
use Rattle.ct_journal_order.specs.Demands.{Advances}

pub loop-node-init : goal.loop-node-init
loop-node-init c = passing_first c.args.demands.now c.args.self.now c.args.order.now.items

pub loop-node-preserved : goal.loop-node-preserved
loop-node-preserved c =
    let all = c.args.demands.now in
    let n = c.loop-node.node in
    let old = c.args.self.now in
    let before = c.args.order.now.items in
    let now = c.loop-node.order.items in
    elim c.if-advance.branch [
      | then-advance+in_ok-push w ↦ (
          let later : c.if-advance.order.items ≡ now ++ n ∷ [] = subst (λ (v : Vec ℕ Global). v.items ≡ now ++ n ∷ []) (sym w.order-is) w.in_ok-push.ensures.items in
          passing_put all n c.loop-node.some c.if-advance.some old before c.loop-node.self now c.advance.new.self c.if-advance.order.items c.loop-node.invariant (omega arith)
          (subst (λ (b : Bool). Advances all n b c.loop-node.self c.advance.new.self) w.if-advance.true c.advance.ensures.advances) c.advance.ensures.count later w.some-is)
      | else-advance w ↦ (
          let same : c.if-advance.order.items ≡ now = subst (λ (v : Vec ℕ Global). v.items ≡ now) (sym w.order-is) refl in
          passing_still all n c.loop-node.some c.if-advance.some old before c.loop-node.self now c.advance.new.self c.if-advance.order.items c.loop-node.invariant
          (subst (λ (b : Bool). Advances all n b c.loop-node.self c.advance.new.self) w.if-advance.false c.advance.ensures.advances) same w.some-is)
    ]

pub returns : goal.returns
returns c = passing_end c.args.demands.now c.loop-node.node c.loop-node.some c.args.self.now c.args.order.now.items c.loop-node.self c.loop-node.order.items (omega arith) c.loop-node.invariant
