-- Words of the libraries below, as the clauses of the program name them.
pub use Rattle.ct_bus_exchange.specs.Shown.{handled_by}
pub use Rattle.ct_bus_run.specs.Ends.{BusEnds, HasBusCause}
pub use Rattle.ct_call.specs.Rules.{Rules}
pub use Rattle.ct_call.specs.Shown.{rules_of}
pub use Rattle.ct_troupe_run.specs.Chains.{RunsColumns}
pub use Rattle.ct_troupe_run.specs.Running.{HasRunCause, Runs}
pub use Rattle.ct_outside.specs.Causes.{AppendsPart, Rose}
pub use Rattle.ct_lcp2_lines.specs.Claims.{Places}
pub use Rattle.ct_bus_run.specs.declared.running.BusEnd.{BusEnd as ExchangeEnd}
pub use Rattle.ct_troupe_run.specs.declared.running.End.{End as Ran}
pub use Rattle.ct_lcp2_lines.specs.declared.placer.End.{End as PlacingEnd}
pub use Rattle.ct_words.specs.declared.words.BusNumbers.{BusNumbers as Exchanged}
pub use Rattle.ct_words.specs.declared.words.ChainNumbers.{ChainNumbers as CutNumbers}
pub use Rattle.ct_words.specs.declared.words.PlanNumbers.{PlanNumbers as Numbers}
