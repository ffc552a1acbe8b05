-- What is left of several records of a node, one after the other.
use Rattle.std.proofs.Common.{◌≡◌, ◌∙◌, ℕ, ◌<◌, true, List, [], ◌∷◌, ◌++◌, length, refl, ap}
use Rattle.ct_node_database.specs.Noted.{is_deleted}
use Rattle.ct_values.specs.declared.config.Config.{Config}
use Rattle.ct_law_form.proofs.Formed.{put_ascends, put_length}
use Rattle.ct_node_plan.specs.Handed.{left_as}
use Rattle.ct_node_plan.specs.Changes.{AreDeleted, all_left, left_at}
use Rattle.ct_node_plan.specs.declared.change.Left.{Left}
use Rattle.ct_law_rules_node.specs.NodeLaws.{NodeAscends}
use Rattle.ct_rules_node.specs.Node.{Node, Database, db_at, state_at, with_db}
use Rattle.ct_rules_node.specs.Records.{put_back}
use Rattle.ct_law_rules_node.proofs.AtRecord.{at_set}

-- one record more
pub left_more : (db : ℕ) (xs : List Left) (x : Left) (n : Node) → all_left db (xs ++ x ∷ []) n ≡ left_at db x (all_left db xs n)
unfolding all_left
left_more db [] x n = refl
left_more db (y ∷ ys) x n = left_more db ys x (left_at db y n)

pub deleted_more : (db : ℕ) (xs : List Left) (x : Left) (n : Node) → AreDeleted db xs n → is_deleted (state_at db x.key (all_left db xs n)).copy ≡ true → AreDeleted db (xs ++ x ∷ []) n
unfolding all_left AreDeleted
deleted_more db [] x n h d = (d, tt)
deleted_more db (y ∷ ys) x n h d = (h.0, deleted_more db ys x (left_at db y n) h.1 d)

-- members and generation stay
pub members_left : (db : ℕ) (xs : List Left) (n : Node) → (all_left db xs n).members ≡ n.members
unfolding all_left put_back
members_left db [] n = refl
members_left db (x ∷ xs) n = members_left db xs (left_at db x n)

pub generation_left : (db : ℕ) (xs : List Left) (n : Node) → (all_left db xs n).generation ≡ n.generation
unfolding all_left put_back
generation_left db [] n = refl
generation_left db (x ∷ xs) n = generation_left db xs (left_at db x n)

-- so do the number of databases and the order of their records
pub length_left : (db : ℕ) (xs : List Left) (n : Node) → length (all_left db xs n).dbs ≡ length n.dbs
unfolding all_left
length_left db [] n = refl
length_left db (x ∷ xs) n = length_left db xs (left_at db x n) ∙ put_length db x.key (left_as x.state x.next x.floor) n

pub ascends_left : (c : Config) (me db : ℕ) (xs : List Left) (n : Node) → NodeAscends n → NodeAscends (all_left db xs n)
unfolding all_left
ascends_left c me db [] n a = a
ascends_left c me db (x ∷ xs) n a = ascends_left c me db xs (left_at db x n) (put_ascends c me db x.key (left_as x.state x.next x.floor) n a)

-- the numbers are those of the last record
pub next_left : (db : ℕ) (x : Left) (n : Node) → (left_at db x n).next ≡ x.next
unfolding put_back
next_left db x n = refl

pub floor_left : (db : ℕ) (x : Left) (n : Node) → db < length n.dbs → (db_at db (left_at db x n)).floor ≡ x.floor
unfolding put_back with_db db_at
floor_left db x n l = ap (λ (d : Database). d.floor) (at_set n.dbs db _ l)
