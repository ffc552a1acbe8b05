use Rattle.ct_bus_exchange.specs.Shown.{handled_by}
use Rattle.ct_bus_threads.specs.Works.{fixed}
use Rattle.ct_bus_threads.proofs.Served.{has_served}
use Rattle.ct_bus_threads.proofs.side.serve_node.Goals as goal

pub returns : goal.returns
returns g c = let e = c.serve_gated.ensures in has_served (handled_by c.args.handlers.now) c.args.bus.now (fixed c.args.work.now) c.serve_gated.new.work c.answers.result e.sound e.fixed e.done c.answers.ensures
