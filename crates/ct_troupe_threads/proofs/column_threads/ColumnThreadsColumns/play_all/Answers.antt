use Rattle.std.proofs.Common.{rules, ◌≤◌, ◌∙◌, List, length, drop, take, sym, ap}
use Rattle.std.specs.List.{list_all}
use Rattle.ct_call.specs.Shown.{rules_of}
use Rattle.ct_troupe_threads.specs.Sides.{has_ended}
use Rattle.ct_troupe_threads.specs.declared.column.Column.{Column}
use Rattle.ct_troupe_threads.proofs.Ending.{all_played, none_played}
use Rattle.ct_troupe_threads.proofs.column_threads.ColumnThreadsColumns.play_all.Goals as goal

pub returns-then-not-have_ended-clause-played : goal.returns-then-not-have_ended-clause-played
returns-then-not-have_ended-clause-played g c = λ i. none_played _ i

pub returns-clause-played : goal.returns-clause-played
returns-clause-played g c =
    let within : length c.args.plans.now ≤ c.args.self.now.columns.len = search rules in
    all_played (rules_of c.args.table.now) c.args.plans.now c.play_columns.new.columns (drop (length c.play_columns.new.columns) c.args.self.now.columns.items) c.args.self.now.columns.len c.play_columns.ensures.each
    (c.play_columns.ensures.len ∙ c.as_mut_slice.ensures.len)
    (ap (λ (cs : List (Column g.row.G.Denot)). list_all has_ended (take (length c.args.plans.now) cs)) (sym c.deref.ensures.value) ∙ sym c.have_ended.ensures ∙ c.if-not-have_ended.false) within
