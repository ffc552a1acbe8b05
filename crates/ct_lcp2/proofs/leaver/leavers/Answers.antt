use Rattle.std.proofs.Common.{◌∙◌, refl, sym, ap, subst, get_or}
use Rattle.std.specs.List.{All}
use Rattle.std.proofs.lemmas.List.Elements.{All-push}
use Rattle.ct_lcp2.specs.Leavers.{IsLeaver}
use Rattle.ct_lcp2.specs.Placing.{held}
use Rattle.ct_lcp2.proofs.Loops.{leaver_at, leaver_more, leaver_passed}
use Rattle.ct_lcp2.proofs.Tallies.{sum_at}
use Rattle.ct_lcp2.proofs.leaver.leavers.Goals as goal
use Rattle.ct_lcp2.proofs.leaver.leavers.Goals.{then-is_this_node+in_ok-push, else-is_this_node}

pub loop-i-preserved : goal.loop-i-preserved
loop-i-preserved c =
    let s = c.args.source.now.node in
    let xs = c.args.at.now in
    let i = c.loop-i.i in
    let ls = c.loop-i.leavers.items in
    let more = c.if-is_this_node.leavers.items in
    let asc = c.requires.ascending in
    let within = c.loop-i-test.true in
    let P = IsLeaver (held s xs) xs in
    elim c.if-is_this_node.branch [
      | then-is_this_node+in_ok-push w ↦
          let is = sym c.is_this_node.ensures ∙ w.if-is_this_node.true in
          let new = ap (λ v. v.items) w.leavers-is ∙ w.in_ok-push.ensures.items in
          let sum = sum_at (held s xs) xs c.as_slice-sums.result.now i _ (c.as_slice-sums.ensures ∙ ap (λ t. t.sums) c.requires.source) within in
          let one = leaver_at s xs i w.saturating_sub.result (get_or c.as_slice-sums.result.now i 0) w.squared.result asc within is w.saturating_sub.ensures sum w.squared.ensures in
          (leaver_more s xs i ls more _ asc within is refl new c.loop-i.invariant.0, subst (All P) (sym new) (All-push P ls _ c.loop-i.invariant.1 one))
      | else-is_this_node w ↦
          let same = ap (λ v. v.items) w.leavers-is in
          (leaver_passed s xs i ls more within (sym c.is_this_node.ensures ∙ w.if-is_this_node.false) same c.loop-i.invariant.0, subst (All P) (sym same) c.loop-i.invariant.1)
    ]
