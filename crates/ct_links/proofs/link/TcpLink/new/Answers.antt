use Rattle.ct_links.proofs.link.TcpLink.new.Goals as goal

pub returns-clause-streams : goal.returns-clause-streams
returns-clause-streams g c = (c.in_ok-peers.peers.items, c.in_ok-peers.ensures.same, c.in_ok-peers.ensures.order, c.in_ok-lanes.ensures)
