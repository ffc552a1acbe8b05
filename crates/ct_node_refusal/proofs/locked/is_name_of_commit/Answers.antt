use Rattle.std.proofs.Common.{◌∙◌, sym}
use Rattle.ct_node_refusal.proofs.Names.{none_named}
use Rattle.ct_node_refusal.proofs.locked.is_name_of_commit.Goals as goal

-- after the last database it is the name of none
pub returns : goal.returns
returns c = sym (none_named c.args.config.now c.args.key.now c.loop-place.place c.args.dbs.now c.loop-place-test.false c.loop-place.auto.place-end) ∙ c.loop-place.invariant
