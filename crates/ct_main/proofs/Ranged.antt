-- The numbers of a plan that the words give are in their range.
use Rattle.std.proofs.Common.{◌≡◌, Bool, sym, subst}
use Rattle.ct_troupe_run.specs.Running.{HasPlanRange}
use Rattle.ct_troupe_run.specs.declared.running.Wanted.{Wanted}
use Rattle.ct_words.specs.Reading.{HasBusRange, HasChainRange, HasRange}
use Rattle.ct_words.specs.declared.words.PlanNumbers.{PlanNumbers}
use Rattle.ct_words.specs.declared.words.ChainNumbers.{ChainNumbers}
use Rattle.ct_troupe_run.specs.Chains.{HasCutRange}
use Rattle.ct_troupe_run.specs.declared.chains.CutWanted.{CutWanted}
use Rattle.ct_bus_run.specs.Numbers.{HasExchangeRange}
use Rattle.ct_bus_run.specs.declared.generated.BusWanted.{BusWanted}
use Rattle.ct_words.specs.declared.words.BusNumbers.{BusNumbers}
use Rattle.ct_main.specs.Claims.{bus_wanted_by, cut_wanted_by, wanted_by}

pub in_range : (net : Bool) (p : PlanNumbers) (x : Wanted) → HasRange p → x ≡ wanted_by net p → HasPlanRange x
in_range net p x h e =
    subst HasPlanRange (sym e) (record { some_nodes = h.some_nodes; few_nodes = h.few_nodes; some_calls = h.some_calls; few_calls = h.few_calls })

pub in_cut_range : (p : ChainNumbers) (x : CutWanted) → HasChainRange p → x ≡ cut_wanted_by p → HasCutRange x
in_cut_range p x h e =
    subst HasCutRange (sym e)
    (record { some_nodes = h.some_nodes; few_nodes = h.few_nodes; some_chains = h.some_chains; few_chains = h.few_chains; some_calls = h.some_calls; few_calls = h.few_calls })

pub in_bus_range : (p : BusNumbers) (x : BusWanted) → HasBusRange p → x ≡ bus_wanted_by p → HasExchangeRange x
in_bus_range p x h e =
    subst HasExchangeRange (sym e) (record { some_nodes = h.some_nodes; few_nodes = h.few_nodes; some_messages = h.some_messages; few_messages = h.few_messages })
