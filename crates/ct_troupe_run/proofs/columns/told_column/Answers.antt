use Rattle.std.proofs.Common.{◌∙◌, ap}
use Rattle.ct_call.specs.Shown.{rules_of}
use Rattle.ct_troupe_run.specs.Columns.{column_text}
use Rattle.ct_troupe_run.proofs.Telling.{is_column}
use Rattle.ct_troupe_run.proofs.columns.told_column.Goals as goal

pub returns : goal.returns
returns g c =
    let run = c.in_ok-lines.ensures in
    let entries = c.count_entries.ensures in
    let text = c.in_ok-text.ensures in
    let lines = c.as_slice.ensures.value in
    is_column (rules_of c.args.table.now) c.args.plan.now c.args.number c.args.journals.now c.in_ok-lines.field-0.text.items _ _ run entries (text ∙ ap (column_text c.args.number) lines)
