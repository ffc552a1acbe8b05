use Rattle.std.proofs.Common.{ℕ, ◌+◌, Global, List, Some, set, arith, sym, ap, ◌∙◌}
use Rattle.ct_call.specs.Shown.{rules_of}
use Rattle.ct_rules_cluster.specs.declared.step.Step.{Step}
use Rattle.ct_law_journal_reach.specs.Counts.{count_at}
use Rattle.ct_law_journal_reach.specs.Making.{after_steps}
use Rattle.ct_journal_join_any.proofs.Reached.{are_marked, count_fits, has_place, makes_on, may_take}
use Rattle.ct_journal_join_any.proofs.reach.Reach.make.Goals as goal

pub steps_to_go-requires : goal.steps_to_go-requires
steps_to_go-requires g c = are_marked (rules_of c.args.table.now) c.args.journals.now c.args.self.now c.requires.reached

pub take_all-requires : goal.take_all-requires
take_all-requires g c = may_take (rules_of c.args.table.now) c.args.journals.now c.args.self.now c.args.node c.args.number c.args.entry.now c.as_slice.result.now c.requires.reached c.requires.next c.requires.may (c.as_slice.ensures.value ∙ c.in_ok-steps.ensures)

pub overflow_add-count : goal.overflow_add-count
overflow_add-count g c = let l = count_fits (rules_of c.args.table.now) c.args.journals.now c.args.self.now c.args.node c.count_at-count.result c.args.entry.now c.requires.reached c.requires.next (c.count_at-count.ensures ∙ ap (λ (ts : List ℕ). count_at ts c.args.node) c.as_slice-2.ensures.value) in omega (arith, l)

pub index_mut-requires : goal.index_mut-requires
index_mut-requires g c = let l = has_place (rules_of c.args.table.now) c.args.journals.now c.args.self.now c.args.node c.args.entry.now c.requires.reached c.requires.next in let o = c.args.self.now.taken.ok in omega (arith, l, o)

pub returns : goal.returns
returns g c =
    let old = c.args.self.now in
    let ts = old.taken.items in
    let n = c.args.node in
    makes_on (rules_of c.args.table.now) c.args.journals.now old _ n c.args.number c.args.entry.now c.in_ok-steps.steps.items c.requires.reached c.requires.next c.requires.may c.in_ok-steps.ensures
    (ap (λ (ss : List Step). after_steps old.world.config (rules_of c.args.table.now) (Some old.world.cluster) ss) (sym c.as_slice.ensures.value) ∙ c.in_ok-take_all.ensures.taken)
    c.in_ok-take_all.ensures.same c.in_ok-append.ensures.items
    (ap (λ (k : ℕ). set ts n (k + 1)) (c.count_at-count.ensures ∙ ap (λ (us : List ℕ). count_at us n) c.as_slice-2.ensures.value))
