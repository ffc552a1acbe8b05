use Rattle.std.proofs.Common.{Some}
use Rattle.ct_node_plan_members.proofs.Kept.{commit_dbs, commit_phase}
use Rattle.ct_node_plan_members.proofs.commits.ends_commit.Goals as goal

pub returns-in_ok-ends_waiting-in-Some-clause-dbs : goal.returns-in_ok-ends_waiting-in-Some-clause-dbs
returns-in_ok-ends_waiting-in-Some-clause-dbs c = commit_dbs c.args.db _ c.args.turn.now c.ends_waiting.new.turn (Some c.in-Some.commit.now) c.in_ok-ends_waiting-in-Some.ensures

pub returns-in_ok-ends_waiting-in-Some-clause-phase : goal.returns-in_ok-ends_waiting-in-Some-clause-phase
returns-in_ok-ends_waiting-in-Some-clause-phase c = commit_phase c.args.db _ c.args.turn.now c.ends_waiting.new.turn (Some c.in-Some.commit.now) c.in_ok-ends_waiting-in-Some.ensures
