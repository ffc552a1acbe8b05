use Rattle.ct_play.proofs.Made.{opened_at}
use Rattle.ct_play.proofs.session.opened.Goals as goal

pub returns : goal.returns
returns c = opened_at c.args.places.now c.in_ok-config.config c.new.result c.in_ok-config.ensures.exact c.new.ensures
