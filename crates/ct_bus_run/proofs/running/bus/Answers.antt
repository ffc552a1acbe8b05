use Rattle.ct_bus_run.proofs.Ending.{caused, uncaused}
use Rattle.ct_bus_run.proofs.running.bus.Goals as goal

pub returns-in-Ok-rows_text-clause-cause : goal.returns-in-Ok-rows_text-clause-cause
returns-in-Ok-rows_text-clause-cause g c = caused c.write_text.result (g.B.BusTroupe.exchanges c.args.troupe.now) (g.B.BusTroupe.exchanges c.exchange.new.self) (g.K.Sink.faults c.args.out.now) (g.K.Sink.faults c.write_text.new.out) c.in-Ok-exchange.ensures.1 c.write_text.ensures.later c.write_text.ensures.failed

pub returns-clause-cause : goal.returns-clause-cause
returns-clause-cause g c = uncaused (g.B.BusTroupe.exchanges c.args.troupe.now) (g.B.BusTroupe.exchanges c.exchange.new.self) (g.K.Sink.faults c.args.out.now)
