use Rattle.ct_lcp2_lines.proofs.Given.{put_in_form}
use Rattle.ct_lcp2_lines.proofs.placing.Placing.add.Goals as goal

pub invariant_of-self-in-Continue-branch-2 : goal.invariant_of-self-in-Continue-branch-2
invariant_of-self-in-Continue-branch-2 c =
    put_in_form c.args.said c.args.self.now c.in-Address.one c.self.inside.nodes c.self.inside.disabled.items c.self.inside.at.items c.put.new.at.items
    c.in-Address.is c.requires c.self.view_is c.self.invariant c.in_ok-put-in-Address.ensures.ok
