use Rattle.std.proofs.Common.{ℕ, List, ap, ◌∙◌}
use Rattle.ct_call.specs.Shown.{rules_of}
use Rattle.ct_law_journal_reach.specs.Counts.{count_at}
use Rattle.ct_journal_join_any.proofs.Reached.{are_few, past_is}
use Rattle.ct_journal_join_any.proofs.reach.Reach.number_to_go.Goals as goal

pub number_to_go-requires-clause-few : goal.number_to_go-requires-clause-few
number_to_go-requires-clause-few g c = are_few (rules_of c.args.table.now) c.args.journals.now c.args.self.now c.requires

pub returns : goal.returns
returns g c =
    let ts = c.args.self.now.taken.items in
    c.number_to_go.ensures c.args.journals.now ts
    (past_is c.args.journals.now ts c.args.node c.count_at-count.result c.entries_of.result.now c.entries_of.ensures (c.count_at-count.ensures ∙ ap (λ (us : List ℕ). count_at us c.args.node) c.as_slice.ensures.value))
