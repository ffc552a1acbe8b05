-- What the end of a commit leaves of the node, and what is planned of a Freeze.
use Rattle.std.proofs.Common.{◌≡◌, ◌≢◌, ◌∙◌, ℕ, zero, suc, ◌<◌, Bool, true, cond, List, [], ◌∷◌, length, Option, None, Some, refl, sym, ap, subst, arith}
use Rattle.std.specs.Prelude.{nat_lt, slice_get}
use Rattle.std.proofs.lemmas.Bool.Decides.{nat_tests}
use Rattle.std.proofs.lemmas.List.{length-map, length-set}
use Rattle.ct_frame.specs.declared.frame.Msg.TheVariants as msg
use Rattle.ct_values.specs.declared.config.Config.{Config}
use Rattle.ct_values.specs.declared.config.DbDecl.{DbDecl}
use Rattle.ct_node_plan.specs.Changes.{IsPlanned}
use Rattle.ct_node_plan.specs.declared.change.Planned.{Planned}
use Rattle.ct_rules_node.specs.Clients.{frozen_if_unlocked}
use Rattle.ct_rules_node.specs.Databases.{with_commit}
use Rattle.ct_rules_node.specs.Node.{Committing, Database, Freezing, Node, is_frozen_in, kind_at, kind_in, with_db}
use Rattle.ct_rules_node.specs.Records.{with_state}
use Rattle.ct_rules_node.specs.Rounds.{ends_commit, ends_commits, ends_lock, freezes, frozen_db, on_freeze}
use Rattle.ct_rules_node.specs.Turn.{Turn, answers, begins, does, notes, posts, with_node}

-- ---- as many databases, and the same phase

lock_dbs : (name : List ℕ) (t : Turn) → length (ends_lock name t).node.dbs ≡ length t.node.dbs
unfolding ends_lock notes does with_node with_state with_db
lock_dbs name t = length-set t.node.dbs 0 _

lock_phase : (name : List ℕ) (t : Turn) → (ends_lock name t).node.phase ≡ t.node.phase
unfolding ends_lock notes does with_node with_state with_db
lock_phase name t = refl

pub set_dbs : (db : ℕ) (d : Database) (n m : Node) → m ≡ with_db db d n → length m.dbs ≡ length n.dbs
unfolding with_db
set_dbs db d n m e = ap (λ (k : Node). length k.dbs) e ∙ length-set n.dbs db d

pub commit_dbs : (db : ℕ) (name : List ℕ) (t u : Turn) (x : Option Committing) → u ≡ ends_commit db name t x → length u.node.dbs ≡ length t.node.dbs
unfolding ends_commit with_commit answers does with_node with_db
commit_dbs db name t u None e = ap (λ (v : Turn). length v.node.dbs) e
commit_dbs db name t u (Some x) e = ap (λ (v : Turn). length v.node.dbs) e ∙ lock_dbs name _ ∙ length-set t.node.dbs db _

pub commit_phase : (db : ℕ) (name : List ℕ) (t u : Turn) (x : Option Committing) → u ≡ ends_commit db name t x → u.node.phase ≡ t.node.phase
unfolding ends_commit with_commit answers does with_node with_db
commit_phase db name t u None e = ap (λ (v : Turn). v.node.phase) e
commit_phase db name t u (Some x) e = ap (λ (v : Turn). v.node.phase) e ∙ lock_phase name _

-- ---- a Freeze that is followed

pub freezes_dbs : (g h : ℕ) (n : Node) (t : Turn) → t ≡ freezes g h (begins n) → length t.node.dbs ≡ length n.dbs
unfolding freezes with_node
freezes_dbs g h n t e = ap (λ (v : Turn). length v.node.dbs) e ∙ length-map n.dbs frozen_db

pub freezes_phase : (g h : ℕ) (n : Node) (t : Turn) → t ≡ freezes g h (begins n) → t.node.phase ≡ Freezing g h
unfolding freezes with_node
freezes_phase g h n t e = ap (λ (v : Turn). v.node.phase) e

below : (p g : ℕ) → p < g → nat_lt p g ≡ true
below p g l = grind (arith, nat_tests)

pub planned_freeze : (c : Config) (me h g : ℕ) (n : Node) (t u v : Turn) (p : Planned) → n.promise < g → t ≡ freezes g h (begins n) → u ≡ ends_commits c 0 n.dbs t → v ≡ frozen_if_unlocked me g h u →
    IsPlanned p v n → IsPlanned p (on_freeze c me h g (begins n)) n
unfolding on_freeze freezes with_node
planned_freeze c me h g n t u v p l e f k i = subst (λ (w : Turn). IsPlanned p w n) is i
  where
    followed : Turn
    followed = frozen_if_unlocked me g h (ends_commits c 0 n.dbs (freezes g h (begins n)))

    is : v ≡ on_freeze c me h g (begins n)
    is =
        k ∙ ap (frozen_if_unlocked me g h) (f ∙ ap (ends_commits c 0 n.dbs) e)
        ∙ sym (ap (λ (b : Bool). cond b followed (cond (is_frozen_in g n.phase) (posts g me h msg.FreezeAck (begins n)) (begins n))) (below n.promise g l))

-- ---- a database that is declared has a kind

kind_there_of : (ds : List DbDecl) (db : ℕ) → db < length ds → kind_in (slice_get ds db) ≢ None
unfolding kind_in
kind_there_of [] db l = absurd (omega arith)
kind_there_of (d ∷ ds) zero l = λ e. cc
kind_there_of (d ∷ ds) (suc db) l = kind_there_of ds db (omega arith)

pub kind_there : (c : Config) (db : ℕ) → db < length c.dbs → kind_at c db ≢ None
unfolding kind_at
kind_there c db l = kind_there_of c.dbs db l
