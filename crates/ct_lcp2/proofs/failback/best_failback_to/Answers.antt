use Rattle.std.proofs.Common.{◌∙◌, ◌+◌, sym, ap, true, false, get_or, arith}
use Rattle.ct_lcp2.specs.Best.{better}
use Rattle.ct_lcp2.specs.Leavers.{address_at, unplaced}
use Rattle.ct_lcp2.specs.Distance.{imbalance}
use Rattle.ct_lcp2.specs.Placing.{choice_before, held, others}
use Rattle.ct_lcp2.specs.declared.leaver.Leaver.{Leaver}
use Rattle.ct_lcp2.proofs.Distances.{imbalance_within}
use Rattle.ct_lcp2.proofs.Standing.{held_length}
use Rattle.ct_lcp2.proofs.Tallies.{sum_at, weight_fits}
use Rattle.ct_lcp2.proofs.Loops.{address_more, back, beaten, leaver_of, may, may_not_by_sum, may_not_by_weight, new_sum}
use Rattle.ct_lcp2.proofs.failback.best_failback_to.Goals as goal
use Rattle.ct_lcp2.proofs.failback.best_failback_to.Goals.{then-sum-weight_there+then-sum-x+then-not-is_beaten, then-sum-weight_there+then-sum-x+else-not-is_beaten, else-sum-weight_there, else-sum-weight_there-via-then-sum-weight_there+else-sum-x, else-sum-weight_there-via-else-sum-weight_there}

abbrev none : Leaver
none = record { place = 0; sum = 0 }

pub overflow_add-sum : goal.overflow_add-sum
overflow_add-sum c =
    let xs = c.args.at.now in
    let l = get_or c.args.leavers.now c.loop-x.x-index none in
    let one = leaver_of c.args.source.now.node xs c.args.leavers.now c.loop-x.x-index none c.requires.leavers c.loop-x-test.true in
    weight_fits c.args.target.now.node xs _ (get_or c.as_slice-sums_there.result.now l.place 0) c.args.target.now.imbalance c.requires.few
    (sum_at (held c.args.target.now.node xs) xs c.as_slice-sums_there.result.now l.place unplaced (c.as_slice-sums_there.ensures ∙ ap (λ t. t.sums) c.requires.target) one.within) (ap (λ t. t.imbalance) c.requires.target)

pub overflow_add-whole-then-sum-x : goal.overflow_add-whole-then-sum-x
overflow_add-whole-then-sum-x c =
    let n = held_length c.args.source.now.node c.args.at.now in
    let few = c.requires.few in
    let t = imbalance_within (held c.args.source.now.node c.args.at.now) 256 (omega (arith, n, few)) in
    let w = ap (λ t. t.imbalance) c.requires.source in
    let less = c.if-sum-weight_there.true in
    omega (arith, t, n, few, w, less)

pub loop-x-preserved : goal.loop-x-preserved
loop-x-preserved c =
    let n = c.args.target.now.node in
    let xs = c.args.at.now in
    let ls = c.args.leavers.now in
    let i = c.loop-x.x-index in
    let l = get_or ls i none in
    let a = address_at xs l.place in
    let here = held c.args.source.now.node xs in
    let there = held n xs in
    let within = c.loop-x-test.true in
    let one = leaver_of c.args.source.now.node xs ls i none c.requires.leavers within in
    let sum = get_or c.as_slice-sums_there.result.now l.place 0 in
    let weight = c.args.source.now.imbalance in
    let weight_there = c.args.target.now.imbalance in
    let far = sum_at there xs c.as_slice-sums_there.result.now l.place unplaced (c.as_slice-sums_there.ensures ∙ ap (λ t. t.sums) c.requires.target) one.within in
    let w = ap (λ t. t.imbalance) c.requires.source in
    let t = ap (λ t. t.imbalance) c.requires.target in
    let whole = new_sum a here there sum weight_there weight l.sum far t w one.sum (ap (λ s. imbalance (others a here) + s) (sym one.sum) ∙ one.without) in
    elim c.if-sum-weight_there.branch [
      | then-sum-weight_there+then-sum-x+then-not-is_beaten v ↦
          address_more n here there xs ls i none c.loop-x.best c.if-sum-weight_there.best _ true within
          (may a here there sum weight_there weight l.sum far t w one.sum v.if-sum-weight_there.true v.if-sum-x.true)
          (v.best-is ∙ v.or_better-best.ensures ∙ ap (λ m. better choice_before c.loop-x.best (record { sum = m; address = a; node = n })) whole)
          c.loop-x.invariant
      | then-sum-weight_there+then-sum-x+else-not-is_beaten v ↦
          address_more n here there xs ls i none c.loop-x.best c.if-sum-weight_there.best _ true within
          (may a here there sum weight_there weight l.sum far t w one.sum v.if-sum-weight_there.true v.if-sum-x.true)
          (v.best-is ∙ sym (beaten _ c.loop-x.best (back n here there a) (sym v.is_beaten.ensures ∙ v.if-not-is_beaten.false) (sym whole)))
          c.loop-x.invariant
      | else-sum-weight_there v ↦
          elim v.else-sum-weight_there.branch [
            | else-sum-weight_there-via-then-sum-weight_there+else-sum-x u ↦
                address_more n here there xs ls i none c.loop-x.best c.if-sum-weight_there.best _ false within (may_not_by_sum a here there sum weight_there weight l.sum far one.sum u.if-sum-x.false) v.best-is c.loop-x.invariant
            | else-sum-weight_there-via-else-sum-weight_there u ↦
                address_more n here there xs ls i none c.loop-x.best c.if-sum-weight_there.best _ false within (may_not_by_weight a here there sum weight_there weight l.sum far t w u.if-sum-weight_there.false) v.best-is c.loop-x.invariant
          ]
    ]
