use Rattle.std.proofs.Common.{List, ℕ, ◌∙◌, subst, sym}
use Rattle.ct_call.specs.Shown.{rules_of}
use Rattle.ct_rules_cluster.specs.declared.step.Step.{Step}
use Rattle.ct_journal.specs.Order.{AreInOrder}
use Rattle.ct_journal.specs.Schedules.{IsSchedule}
use Rattle.ct_law_journal_reach.specs.Counts.{AreGreatest}
use Rattle.ct_journal_join_any.proofs.Outcome.{joins_all, joins_less}
use Rattle.ct_journal_join_any.proofs.joined.join_freely.Goals as goal

pub returns-then-has_all : goal.returns-then-has_all
returns-then-has_all g c = joins_all c.args.config.now (rules_of c.args.table.now) c.args.journals.now c.make_all.new.self (c.in_ok-make_all.ensures.same ∙ c.in_ok-reach.ensures.same) c.in_ok-make_all.ensures.reached (c.has_all.ensures.all c.if-has_all.true)

pub returns-else-has_all : goal.returns-else-has_all
returns-else-has_all g c =
    let d = c.args.config.now in
    let rules = rules_of c.args.table.now in
    let js = c.args.journals.now in
    let l = c.has_all.ensures.less c.if-has_all.false in
    subst (λ (ts : List ℕ). AreGreatest d rules js ts × ((ss : List Step) → IsSchedule d rules js ss → ⊥) × (AreInOrder js → ⊥)) (sym c.new-else-has_all.ensures)
    (joins_less d rules js c.make_all.new.self (c.in_ok-make_all.ensures.same ∙ c.in_ok-reach.ensures.same) c.requires.tickets c.in_ok-make_all.ensures.reached c.in_ok-make_all.ensures.held l.0 l.1)
