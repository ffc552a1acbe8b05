use Rattle.std.proofs.Common.{◌≡◌, ◌∙◌, ap, arith}
use Rattle.std.proofs.lemmas.Result.{IfOk-weaker}
use Rattle.ct_call.specs.Shown.{rules_of}
use Rattle.ct_soak.specs.Soaking.{counts_text, soaked}
use Rattle.ct_soak.proofs.Words.{all_taken, goes_on}
use Rattle.ct_soak.proofs.soaking.soak.Goals as goal

pub loop-i-preserved : goal.loop-i-preserved
loop-i-preserved g c =
    let rules = rules_of c.args.table.now in
    record {
      within = omega (arith, c.loop-i-test.true);
      left = goes_on rules c.args.steps c.loop-i.i c.loop-i.words c.loop-i.soaking (soaked rules c.args.seed c.args.steps) c.next_word.result c.next_word.new.self c.word.new.self
          (omega (arith, c.loop-i-test.true)) c.next_word.ensures c.in_ok-word.ensures.took c.loop-i.invariant.left;
      skipped = omega (arith, c.in_ok-word.ensures.room, c.loop-i.invariant.skipped);
    }

pub returns : goal.returns
returns g c =
    let rules = rules_of c.args.table.now in
    let same : c.loop-i.soaking ≡ soaked rules c.args.seed c.args.steps =
    all_taken rules c.args.steps c.loop-i.i c.loop-i.words c.loop-i.soaking (soaked rules c.args.seed c.args.steps) (omega (arith, c.loop-i-test.false)) c.loop-i.invariant.left in
    IfOk-weaker c.text.result _ _ (λ text e. e ∙ ap (counts_text c.args.steps) same) c.text.ensures
