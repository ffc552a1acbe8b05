use Rattle.std.proofs.Common.{sym, ap, ◌∙◌, ◌∷◌}
use Rattle.ct_merge.specs.Placing.{all_inserted}
use Rattle.ct_merge.proofs.Places.{rest_ascends, next_new, next_old, next_both}
use Rattle.ct_merge.proofs.placing.take_next.Goals as goal

pub returns-in-Less-clause-next : goal.returns-in-Less-clause-next
returns-in-Less-clause-next g c =
    next_new g.T.Candidate.order g.T.Candidate.rank g.met.T.Candidate.total _ _ _ _ c.pop_front.ensures.lookup c.pop_front.ensures.rest (sym c.in-Less.ensures) c.requires

pub returns-in-Less-clause-ascends : goal.returns-in-Less-clause-ascends
returns-in-Less-clause-ascends g c = rest_ascends g.T.Candidate.order g.T.Candidate.rank g.met.T.Candidate.total _ _ c.pop_front.ensures.rest c.requires

pub returns-in-Greater-clause-next : goal.returns-in-Greater-clause-next
returns-in-Greater-clause-next g c =
    next_old g.T.Candidate.order g.T.Candidate.rank g.met.T.Candidate.total _ _ _ _ c.pop_front-in-Greater.ensures.items c.pop_front-in-Greater.ensures.lookup c.pop_front-in-Greater.ensures.rest (sym c.in-Greater.ensures) c.requires

pub returns-in_ok-y-in-Equal-clause-next : goal.returns-in_ok-y-in-Equal-clause-next
returns-in_ok-y-in-Equal-clause-next g c =
    next_both g.T.Candidate.order g.T.Candidate.rank g.met.T.Candidate.total _ _ _ _ c.in_ok-x-in-Equal.x c.in_ok-y-in-Equal.y c.in_ok-x-in-Equal.ensures.lookup c.in_ok-y-in-Equal.ensures.lookup c.pop_front-in-Equal.ensures.rest c.pop_front-in-Equal-2.ensures.rest (sym c.in-Equal.ensures) c.requires
    ∙ ap (λ z. z ∷ all_inserted g.T.Candidate.order g.T.Candidate.rank c.pop_front-in-Equal.new.self.items c.pop_front-in-Equal-2.new.self.items) (sym c.better.ensures)

pub returns-in_ok-y-in-Equal-clause-ascends : goal.returns-in_ok-y-in-Equal-clause-ascends
returns-in_ok-y-in-Equal-clause-ascends g c = rest_ascends g.T.Candidate.order g.T.Candidate.rank g.met.T.Candidate.total _ _ c.pop_front-in-Equal.ensures.rest c.requires
