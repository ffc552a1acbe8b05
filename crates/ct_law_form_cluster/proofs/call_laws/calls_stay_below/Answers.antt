use Rattle.ct_law_form_cluster.proofs.WholeCalls.{calls_stay_below, more_below, opens_below, restarts_below}
use Rattle.ct_law_form_cluster.proofs.call_laws.calls_stay_below.Goals as goal

pub returns : goal.returns
returns c = record { step = calls_stay_below; more = more_below; opening = opens_below; stop = restarts_below }
