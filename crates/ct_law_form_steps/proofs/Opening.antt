-- At the opening of a cluster every node is in form.
use Rattle.std.proofs.Common.{◌≡◌, true, arith}
use Rattle.std.specs.Prelude.{nat_lt}
use Rattle.std.specs.List.{list_all}
use Rattle.ct_values.specs.declared.config.Config.{Config}
use Rattle.ct_frame.specs.Fields.{ascends}
use Rattle.ct_rules_cluster.specs.Cluster.{everyone}
use Rattle.ct_law_form.specs.Whole.{is_node_of}
use Rattle.ct_law_form.proofs.Whole.{configs_have_limits, opens_in_form}
use Rattle.ct_rules_cluster.proofs.Numbers.{numbers_below, numbers_ascend}
use Rattle.ct_law_form_steps.specs.StepLaws.{EveryoneOpensInForm}

everyone_ascends : (c : Config) → ascends nat_lt (everyone c) ≡ true
unfolding everyone
everyone_ascends c = numbers_ascend 0 c.nodes

everyone_is : (c : Config) → list_all (is_node_of c) (everyone c) ≡ true
unfolding everyone is_node_of
everyone_is c = numbers_below c.nodes 0 c.nodes (omega arith)

pub everyone_opens_in_form : EveryoneOpensInForm
everyone_opens_in_form c dbs addresses me h own = opens_in_form c me (everyone c) (configs_have_limits c dbs addresses h) own (everyone_ascends c) (everyone_is c)
