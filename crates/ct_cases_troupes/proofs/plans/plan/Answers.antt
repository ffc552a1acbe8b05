use Rattle.std.proofs.Common.{◌≡◌, true, length, rules}
use Rattle.std.specs.List.{list_all}
use Rattle.ct_cases_troupes.proofs.Plain.{asks_sound}
use Rattle.ct_cases_troupes.specs.Plain.{asks_only}
use Rattle.ct_cases_troupes.proofs.plans.plan.Goals as goal

pub returns : goal.returns
returns c =
    let count : length c.args.scripts.items ≡ c.len-2.result = search rules in
    let asked : list_all asks_only c.args.scripts.items ≡ true = search rules in
    asks_sound c.in_ok-config.config c.args.scripts.items c.new-4.result c.len-2.result _ _ c.in_ok-config.ensures count asked c.new-4.ensures
