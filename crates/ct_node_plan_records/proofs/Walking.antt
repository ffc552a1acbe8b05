-- A vacuum, key by key, as it is planned.
use Rattle.std.proofs.Common.{◌≡◌, ◌≢◌, ◌∙◌, ℕ, ◌<◌, Bool, true, false, cond, List, [], ◌∷◌, length, Ok, Err, refl, ap, sym, subst}
use Rattle.std.specs.List.{AllByRecursion}
use Rattle.std.specs.List.Sorted.{IsStrictlySortedBy}
use Rattle.std.specs.Map.{keys_of}
use Rattle.std.specs.declared.cmp.Ordering.TheVariants.{Less}
use Rattle.ct_values.specs.Key.{key_cmp}
use Rattle.ct_node_database.specs.Noted.{IsTidy}
use Rattle.ct_frame.specs.Header.{nobody}
use Rattle.ct_values.specs.declared.config.Config.{Config}
use Rattle.ct_node_plan.specs.Changes.{AreDeleted, IsPlanned, Plans, all_left, changed_by}
use Rattle.ct_node_plan.specs.declared.change.Change.TheVariants as change
use Rattle.ct_law_rules_node.specs.NodeLaws.{NodeAscends}
use Rattle.ct_rules_node.specs.Node.{Node, db_at, state_at}
use Rattle.ct_rules_node.specs.Steps.{vacuum_all}
use Rattle.ct_rules_node.specs.Turn.{Turn, begins}
use Rattle.ct_law_rules_node.proofs.AtRecord.{at_ascends}
use Rattle.ct_node_plan.specs.Handed.{Goes}
use Rattle.ct_node_plan.specs.Handed.{CoreFault}
use Rattle.ct_node_plan.specs.Handed.{Exhausted, NoMemory}
use Rattle.ct_tracking.specs.Candidates.{Ascends}
use Rattle.ct_node_plan_records.specs.Keys.{deleted_of, is_deleted_at, vacuum_key, vacuum_keys}
use Rattle.ct_node_plan_records.specs.Walked.{IsMiddle, Walks, after_key, node_so_far, so_far}
use Rattle.ct_node_plan_records.specs.declared.walk.Walk.{Walk}
use Rattle.ct_node_plan_records.proofs.Keys.{AreSame, all_vacuumed, same_behind, same_deleted}
use Rattle.ct_node_plan_records.proofs.Left.{ascends_left}
use Rattle.ct_node_plan_records.proofs.Records.{keys_spent}

-- ---- the loop over the keys

-- what is left to look at makes of the step so far what all makes of the node, and what it looks at is as it was
pub record IsWalked (c : Config) (me db : ℕ) (n : Node) (keys : List (List ℕ)) (w : Walk) (rest : List (List ℕ)) : Type 0 where
  pub middle : IsMiddle db n w
  pub whole : vacuum_keys c me db (deleted_of db n rest) (so_far db n w) ≡ vacuum_keys c me db (deleted_of db n keys) (begins n)
  pub same : AreSame db n (node_so_far db n w) rest
  pub order : Ascends rest

all_same : (db : ℕ) (n : Node) (keys : List (List ℕ)) → AreSame db n n keys
all_same db n [] = tt
all_same db n (k ∷ keys) = (refl, all_same db n keys)

pub walk_begins : (c : Config) (me db : ℕ) (n : Node) (keys rest : List (List ℕ)) (w : Walk) → w ≡ record { next = n.next; floor = (db_at db n).floor; left = []; outs = [] } → rest ≡ keys → Ascends keys → IsWalked c me db n keys w rest
unfolding all_left AreDeleted
walk_begins c me db n keys rest w e r a = subst (λ (ks : List (List ℕ)). IsWalked c me db n keys w ks) (sym r) (subst (λ (v : Walk). IsWalked c me db n keys v keys) (sym e) (record {
  middle = record { next = refl; floor = refl; deleted = tt };
  whole = refl;
  same = all_same db n keys;
  order = a;
}))

behind : (k : List ℕ) (rest : List (List ℕ)) → Ascends (k ∷ rest) → AllByRecursion (λ q. key_cmp k q ≡ Less) rest × Ascends rest
unfolding IsStrictlySortedBy
behind k rest a = a

walked_by : (c : Config) (me db : ℕ) (n : Node) (k : List ℕ) (rest : List (List ℕ)) (w v : Walk) (b : Bool) → NodeAscends n → AllByRecursion (λ q. key_cmp k q ≡ Less) rest → AreSame db n (node_so_far db n w) rest →
    so_far db n v ≡ cond b (vacuum_key c me db k (so_far db n w)) (so_far db n w) → AreSame db n (node_so_far db n v) rest
walked_by c me db n k rest w v true a l s e = subst (λ (t : Turn). AreSame db n t.node rest) (sym e) (same_behind c me db k n (so_far db n w) rest (ascends_left c me db w.left n a) l s)
walked_by c me db n k rest w v false a l s e = subst (λ (t : Turn). AreSame db n t.node rest) (sym e) s

one_key_more : (c : Config) (me db : ℕ) (n : Node) (k : List ℕ) (rest : List (List ℕ)) (t u : Turn) (b : Bool) → u ≡ cond b (vacuum_key c me db k t) t →
    vacuum_keys c me db (deleted_of db n rest) u ≡ vacuum_keys c me db (cond b (k ∷ deleted_of db n rest) (deleted_of db n rest)) t
unfolding vacuum_keys
one_key_more c me db n k rest t u true e = ap (vacuum_keys c me db (deleted_of db n rest)) e
one_key_more c me db n k rest t u false e = ap (vacuum_keys c me db (deleted_of db n rest)) e

-- one key more
pub walk_goes : (c : Config) (me db : ℕ) (n : Node) (keys : List (List ℕ)) (k : List ℕ) (left rest : List (List ℕ)) (w v : Walk) → left ≡ k ∷ rest → NodeAscends n → IsWalked c me db n keys w left →
    so_far db n v ≡ after_key c me db k n (so_far db n w) → IsMiddle db n v → IsWalked c me db n keys v rest
walk_goes c me db n keys k left rest w v l a h e m =
    let g = subst (λ (x : List (List ℕ)). IsWalked c me db n keys w x) l h in
    let order = behind k rest g.order in
    record {
      middle = m;
      whole = one_key_more c me db n k rest (so_far db n w) (so_far db n v) (is_deleted_at db n k) e ∙ g.whole;
      same = walked_by c me db n k rest w v (is_deleted_at db n k) a order.0 g.same.1 e;
      order = order.1;
    }

spent_by : (c : Config) (me db : ℕ) (n : Node) (k : List ℕ) (rest : List (List ℕ)) (w : Walk) (b : Bool) → (cond b (vacuum_key c me db k (so_far db n w)) (so_far db n w)).spent ≡ true →
    (vacuum_keys c me db (cond b (k ∷ deleted_of db n rest) (deleted_of db n rest)) (so_far db n w)).spent ≡ true
unfolding vacuum_keys
spent_by c me db n k rest w true e = keys_spent c me db (deleted_of db n rest) (vacuum_key c me db k (so_far db n w)) e
spent_by c me db n k rest w false e = absurd (cc)

-- a number reaches 2^62 at a key
pub walk_spent : (c : Config) (me db : ℕ) (n : Node) (keys : List (List ℕ)) (k : List ℕ) (left rest : List (List ℕ)) (w : Walk) → left ≡ k ∷ rest → IsWalked c me db n keys w left →
    (after_key c me db k n (so_far db n w)).spent ≡ true → (vacuum_keys c me db (deleted_of db n keys) (begins n)).spent ≡ true
walk_spent c me db n keys k left rest w l h e =
    let g = subst (λ (x : List (List ℕ)). IsWalked c me db n keys w x) l h in
    ap (λ (t : Turn). t.spent) (sym g.whole) ∙ spent_by c me db n k rest w (is_deleted_at db n k) e

-- a key is not vacuumed
pub walk_fails : (c : Config) (me db : ℕ) (n : Node) (keys : List (List ℕ)) (k : List ℕ) (left rest : List (List ℕ)) (w : Walk) (f : CoreFault) (u : Turn) → left ≡ k ∷ rest → IsWalked c me db n keys w left →
    Goes (Err f) (after_key c me db k n (so_far db n w)) u → Walks (Err f) (vacuum_keys c me db (deleted_of db n keys) (begins n)) db n
walk_fails c me db n keys k left rest w Exhausted u l h g = walk_spent c me db n keys k left rest w l h g
walk_fails c me db n keys k left rest w NoMemory u l h g = tt

-- the key at which a vacuum is has the state that it had at first
pub walk_same : (c : Config) (me db : ℕ) (n : Node) (keys : List (List ℕ)) (k : List ℕ) (left rest : List (List ℕ)) (w : Walk) → left ≡ k ∷ rest → IsWalked c me db n keys w left → state_at db k (node_so_far db n w) ≡ state_at db k n
walk_same c me db n keys k left rest w l h = (subst (λ (x : List (List ℕ)). IsWalked c me db n keys w x) l h).same.0

-- no key is left
pub walk_ends : (c : Config) (me db : ℕ) (n : Node) (keys : List (List ℕ)) (left : List (List ℕ)) (w : Walk) → left ≡ [] → IsWalked c me db n keys w left → Walks (Ok w) (vacuum_keys c me db (deleted_of db n keys) (begins n)) db n
unfolding vacuum_keys
walk_ends c me db n keys left w l h =
    let g = subst (λ (x : List (List ℕ)). IsWalked c me db n keys w x) l h in
    (g.whole, g.middle.deleted)

-- ---- the whole database

pub noted_vacuumed : (c : Config) (me db : ℕ) (n : Node) (keys : List (List ℕ)) → me ≢ nobody → NodeAscends n → db < length n.dbs → Ascends keys → IsTidy keys (db_at db n).records →
    vacuum_all c me db (db_at db n).records (begins n) ≡ vacuum_keys c me db (deleted_of db n keys) (begins n)
unfolding db_at
noted_vacuumed c me db n keys x a l up tidy =
    let m = (db_at db n).records in
    let order = at_ascends n.dbs db a in
    all_vacuumed c me db n m (begins n) x a l tidy.worth order (all_same db n (keys_of m))
    ∙ ap (λ (ks : List (List ℕ)). vacuum_keys c me db ks (begins n)) (same_deleted db n keys order up tidy)

-- what was left of the records and done is planned
pub walk_planned : (db : ℕ) (n : Node) (w : Walk) (t u : Turn) → db < length n.dbs → u ≡ t → Walks (Ok w) t db n → IsPlanned (record { change = change.Records db w.left; outs = w.outs }) u n
unfolding changed_by
walk_planned db n w t u l e h =
    let s = h.0 ∙ sym e in
    record {
      whole = ap (λ (x : Turn). x.spent) (sym s);
      node = ap (λ (x : Turn). x.node) s;
      outs = ap (λ (x : Turn). x.outs) s;
      can = (l, h.1);
    }

-- or nothing is
pub walk_refused : (db : ℕ) (n : Node) (f : CoreFault) (t u : Turn) → u ≡ t → Walks (Err f) t db n → Plans (Err f) u n
walk_refused db n Exhausted t u e h = ap (λ (x : Turn). x.spent) e ∙ h
walk_refused db n NoMemory t u e h = tt
