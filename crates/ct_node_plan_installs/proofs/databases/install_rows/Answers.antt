use Rattle.std.proofs.Common.{◌∙◌, sym}
use Rattle.ct_node_plan_installs.proofs.Filling.{filled_end, filled_step, limits_step}
use Rattle.ct_node_plan_installs.proofs.databases.install_rows.Goals as goal

pub loop-row-preserved : goal.loop-row-preserved
loop-row-preserved c = record {
  left = filled_step c.args.me c.args.members.now c.args.table.now c.loop-row.row-index c.row-item.result c.loop-row.dbs c.install_row.new.dbs c.loop-row-test.true c.row-item.is c.in_ok-install_row.ensures ∙ c.loop-row.invariant.left;
  limits = limits_step c.args.table.now c.loop-row.row-index c.row-item.result c.loop-row-test.true c.row-item.is c.loop-row.invariant.limits;
}

pub returns : goal.returns
returns c = sym (filled_end c.args.me c.args.members.now c.args.table.now c.loop-row.row-index c.loop-row.dbs c.loop-row-test.false) ∙ c.loop-row.invariant.left
