use Rattle.std.proofs.Common.{rules}
use Rattle.ct_node_plan_installs.proofs.Filling.{stored_so}
use Rattle.ct_node_plan_installs.proofs.databases.store_from.Goals as goal

pub returns-in_ok-replace-in-Some : goal.returns-in_ok-replace-in-Some
returns-in_ok-replace-in-Some c = stored_so c.args.db c.args.ptables.now c.in-Some.table.now c.args.database.now c.replace.new.self (search rules) c.in_ok-replace-in-Some.ensures.ok
