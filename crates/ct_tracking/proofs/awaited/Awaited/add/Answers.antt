use Rattle.std.proofs.Common.{◌≡◌, length, ◌∙◌, ap, arith, subst, sym}
use Rattle.ct_tracking.specs.Awaited.{AreAsked, including}
use Rattle.ct_tracking.proofs.Nodes.{asked_with}
use Rattle.ct_tracking.proofs.awaited.Awaited.add.Goals as goal

pub invariant_of-self-2 : goal.invariant_of-self-2
invariant_of-self-2 c =
    let more = c.include.ensures.nodes ∙ ap (including c.args.node) c.in_ok-reserve-2.ensures.items in
    let longer = c.include.ensures.longer in
    let same = c.in_ok-reserve-2.ensures.items in
    let missing = c.in_ok-reserve.ensures.items in
    let room = c.in_ok-reserve.ensures.ok in (
      subst (AreAsked c.include.new.nodes.items) (sym missing) (asked_with c.args.node c.self.inside.asked.items c.include.new.nodes.items c.self.inside.missing.items more c.self.invariant.0),
      (let n = ap (λ ns. length ns) same in let v = ap (λ ns. length ns) c.as_slice.ensures.value in omega arith),
    )
