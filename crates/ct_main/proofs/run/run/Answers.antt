use Rattle.std.proofs.Common.{refl}
use Rattle.ct_bus_exchange.specs.Shown.{handled_by}
use Rattle.ct_bus_run.proofs.Ending as exchange
use Rattle.ct_bus_run.specs.declared.running.BusEnd.TheVariants as exchanging
use Rattle.ct_call.specs.Shown.{rules_of}
use Rattle.ct_main.specs.Claims.{bus_wanted_by}
use Rattle.ct_troupe_run.proofs.Played.{no_run_cause, unwritten}
use Rattle.ct_troupe_run.proofs.Ending as columns
use Rattle.ct_main.proofs.Unread.{nothing_played, nothing_soaked, no_cause}
use Rattle.ct_troupe_run.specs.declared.running.End.TheVariants as running
use Rattle.ct_main.specs.declared.player.End.TheVariants as end
use Rattle.ct_main.proofs.run.run.Goals as goal

pub returns-in-Err-NoMemory-clause-play : goal.returns-in-Err-NoMemory-clause-play
returns-in-Err-NoMemory-clause-play g c = λ w. (end.NoMemory, nothing_played (rules_of c.args.table.now) _ _, no_cause _ _, c.report-in-Err-NoMemory.ensures)

pub returns-in-Err-NoMemory-clause-soak : goal.returns-in-Err-NoMemory-clause-soak
returns-in-Err-NoMemory-clause-soak g c = λ seed steps w. (end.NoMemory, nothing_soaked (rules_of c.args.table.now) (seed, steps) _, no_cause _ _, c.report-in-Err-NoMemory.ensures, refl)

pub returns-in-Err-NoMemory-clause-cluster : goal.returns-in-Err-NoMemory-clause-cluster
returns-in-Err-NoMemory-clause-cluster g c = λ p w. (running.NoMemory, unwritten (rules_of c.args.table.now) _ _ _, no_run_cause _ _, c.report-in-Err-NoMemory.ensures, refl)

pub returns-in-Err-NoMemory-clause-loopback : goal.returns-in-Err-NoMemory-clause-loopback
returns-in-Err-NoMemory-clause-loopback g c = λ p w. (running.NoMemory, unwritten (rules_of c.args.table.now) _ _ _, no_run_cause _ _, c.report-in-Err-NoMemory.ensures, refl)

pub returns-in-Err-NoMemory-clause-chains : goal.returns-in-Err-NoMemory-clause-chains
returns-in-Err-NoMemory-clause-chains g c = λ p w. (running.NoMemory, columns.unwritten (rules_of c.args.table.now) _ _ _, no_run_cause _ _, c.report-in-Err-NoMemory.ensures, refl)

pub returns-in-Err-NoMemory-clause-bus : goal.returns-in-Err-NoMemory-clause-bus
returns-in-Err-NoMemory-clause-bus g c = λ p w. (exchanging.NoMemory, exchange.unwritten (handled_by c.args.handlers.now) (bus_wanted_by p) _, exchange.uncaused _ _ _, c.report-in-Err-NoMemory.ensures, refl)
