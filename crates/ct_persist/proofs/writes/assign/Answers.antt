use Rattle.ct_persist.proofs.Looks.{assigned_there}
use Rattle.ct_persist.proofs.writes.assign.Goals as goal

pub returns-in-Some : goal.returns-in-Some
returns-in-Some c = assigned_there c.get_mut.result c.in-Some.place c.args.key.now c.args.value c.args.items.now _ c.in-Some.is c.get_mut.ensures.value (c.get_mut.follows.holds c.args.value)
