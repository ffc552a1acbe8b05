use Rattle.std.proofs.Common.{◌≡◌, ◌∙◌, ℕ, ap, arith}
use Rattle.std.specs.Prelude.{map}
use Rattle.ct_rules_cluster.specs.Cluster.{numbers}
use Rattle.ct_chain.specs.Cut.{cut_one}
use Rattle.ct_chain.proofs.Cutting.{all_sound}
use Rattle.ct_chain.proofs.cut.cut.Goals as goal

pub returns-clause-sound : goal.returns-clause-sound
returns-clause-sound c =
    let whole : c.loop-number.number ≡ c.args.chains = omega (arith, c.loop-number.invariant.0, c.loop-number-test.false) in
    all_sound c.args.plan.now c.args.chains c.loop-number.columns.items c.requires.sound (c.loop-number.invariant.1 ∙ ap (λ (n : ℕ). map (cut_one c.args.plan.now c.args.chains) (numbers 0 n)) whole)
