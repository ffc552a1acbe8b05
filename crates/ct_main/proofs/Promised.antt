-- Every run of the bytes of a scenario keeps the promise.
use Rattle.std.proofs.Common.{ℕ, List, Option, None, Some}
use Rattle.ct_call.specs.Rules.{Rules}
use Rattle.ct_rules_cluster.specs.Cluster.{World}
use Rattle.ct_troupe_run.proofs.Told.{law_of_marks, promise}
use Rattle.ct_law_traverse.proofs.Running.{law_of_traverses}
use Rattle.ct_play.specs.Course.{Deed, moves_of, steps_of}
use Rattle.ct_play.specs.Play.{IsRunOf, played}
use Rattle.ct_play.proofs.Runs.{runs_are_runs}
use Rattle.ct_main.specs.Claims.{KeepsPromise}

promised_of : (rules : Rules) (world : Option World) (deeds : List Deed) → IsRunOf rules world deeds → KeepsPromise rules world deeds
promised_of rules None deeds h = h
promised_of rules (Some w) deeds h = (h.0, h.1, h.2, promise w.config rules (steps_of deeds) h.0, law_of_marks w.config rules (steps_of deeds) h.0, law_of_traverses w.config rules (moves_of deeds) h.0)

pub promised : (rules : Rules) (bytes : List ℕ) → KeepsPromise rules (played rules bytes).session.world (played rules bytes).deeds
promised rules bytes = promised_of rules (played rules bytes).session.world (played rules bytes).deeds (runs_are_runs rules bytes)
