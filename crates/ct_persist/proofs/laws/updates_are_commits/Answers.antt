use Rattle.ct_persist.proofs.Rounds.{contents_after, all_contents, contents_kept}
use Rattle.ct_persist.proofs.laws.updates_are_commits.Goals as goal

pub returns : goal.returns
returns c = record { any = contents_after; each_next = all_contents; kept = contents_kept }
