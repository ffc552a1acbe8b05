-- A step at one record leaves as many databases.
use Rattle.std.proofs.Common.{◌≡◌, ℕ, List, length, ap, ◌∙◌}
use Rattle.std.proofs.lemmas.List.{length-set}
use Rattle.ct_rules.specs.Parts.{Moving}
use Rattle.ct_rules_node.specs.Node.{Node, with_db}
use Rattle.ct_rules_node.specs.Records.{put_back}

pub left_dbs : (db : ℕ) (key : List ℕ) (o : Moving) (n m : Node) → m ≡ put_back db key o n → length m.dbs ≡ length n.dbs
unfolding put_back with_db
left_dbs db key o n m e = ap (λ (u : Node). length u.dbs) e ∙ length-set n.dbs db _
