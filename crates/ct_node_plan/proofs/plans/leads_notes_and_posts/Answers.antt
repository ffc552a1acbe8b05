use Rattle.ct_node_plan.proofs.Beside.{noted_plan}
use Rattle.ct_node_plan.proofs.plans.leads_notes_and_posts.Goals as goal

pub returns : goal.returns
returns c = noted_plan _ _ _ _ _ _ _ _ _ _ _ _ c.in_ok-leading.ensures c.begins-turn.ensures c.in_ok-notes.ensures c.in_ok-posts_all.ensures c.in_ok-beside.ensures
