-- What a commit makes of a node.
use Rattle.std.proofs.Common.{◌≡◌, ◌≢◌, ◌∙◌, ℕ, zero, suc, ◌+◌, ◌<◌, ◌≤◌, ◌^◌, Bool, true, false, ◌||◌, List, [], ◌∷◌, length, map, Option, Some, refl, sym, ap, arith}
use Rattle.std.specs.Prelude.{◌==◌, nat_le, slice_get, slice_set}
use Rattle.std.proofs.lemmas.Bool.{eqb-true}
use Rattle.std.proofs.lemmas.List.{nil_from_length, set-set}
use Rattle.ct_values.specs.Words.{others}
use Rattle.ct_frame.specs.declared.event.Out.{Out}
use Rattle.ct_frame.specs.declared.event.Out.TheVariants as out
use Rattle.ct_frame.specs.declared.frame.Msg.TheVariants as msg
use Rattle.ct_values.specs.declared.client.Answer.TheVariants as answer
use Rattle.ct_values.specs.declared.client.Pair.{Pair}
use Rattle.ct_persist.specs.Commits.{commit_begun}
use Rattle.ct_persist.specs.Persisted.{updated}
use Rattle.ct_node_plan.specs.Changes.{IsPlanned, changed_by}
use Rattle.ct_node_plan.specs.declared.change.Change.TheVariants as change
use Rattle.ct_node_plan.proofs.Beside.{posts_spent}
use Rattle.ct_node_plan.specs.Posts.{sent}
use Rattle.ct_node_plan.proofs.Sending.{posts_all_does}
use Rattle.ct_rules_node.specs.Databases.{awaits_others, commit, commits_at, updates, with_commit}
use Rattle.ct_rules_node.specs.Node.{Committing, Database, Node, db_at, or_untouched, with_db}
use Rattle.ct_rules_node.specs.Turn.{Turn, answers, begins, does, makes, with_node}

-- ---- a database that is put in its place

at_set : (ds : List Database) (i : ℕ) (d : Database) → i < length ds → or_untouched (slice_get (slice_set ds i d) i) ≡ d
unfolding or_untouched
at_set [] i d l = absurd (omega (arith, l))
at_set (x ∷ xs) zero d l = refl
at_set (x ∷ xs) (suc i) d l = at_set xs i d (omega (arith, l))

-- a database that was put there is there
put_there : (db : ℕ) (d : Database) (n : Node) → db < length n.dbs → db_at db (with_db db d n) ≡ d
unfolding db_at with_db
put_there db d n l = at_set n.dbs db d l

-- of two that are put there the second is left
put_twice : (db : ℕ) (d e : Database) (n : Node) → with_db db e (with_db db d n) ≡ with_db db e n
unfolding with_db
put_twice db d e n = (λ i. record n { dbs = set-set n.dbs db d e i })

-- ---- the number

pub at_limit : (b : Bool) (number : ℕ) → 2 ^ 62 ≤ number → (b || nat_le (2 ^ 62) number) ≡ true
at_limit true number l = refl
at_limit false number l = grind (arith, l)

pub below_limit : (number : ℕ) → number < 2 ^ 62 → nat_le (2 ^ 62) number ≡ false
below_limit number l = grind (arith, l)

others_spent : (me call db seq : ℕ) (writes : List Pair) (ns : List ℕ) (t : Turn) → (awaits_others me call db seq writes ns t).spent ≡ t.spent
unfolding awaits_others answers does with_commit with_node
others_spent me call db seq writes [] t = refl
others_spent me call db seq writes (n ∷ ns) t = posts_spent _ _ _ _ _

at_spent : (me call db seq : ℕ) (writes : List Pair) (t : Turn) → (commits_at me call db seq writes t).spent ≡ (makes seq t).spent
unfolding commits_at updates with_node
at_spent me call db seq writes t = others_spent me call db seq writes (others me t.node.members) (updates db seq writes (makes seq t))

-- where the number would reach 2^62 the step is refused
pub commit_spent : (me call db : ℕ) (writes : List Pair) (t : Turn) → 2 ^ 62 ≤ (db_at db t.node).store.seq + 1 → (commit me call db writes t).spent ≡ true
unfolding commit makes
commit_spent me call db writes t l = at_spent me call db ((db_at db t.node).store.seq + 1) writes t ∙ at_limit t.spent _ l

pub commit_keeps : (me call db : ℕ) (writes : List Pair) (t : Turn) → t.spent ≡ true → (commit me call db writes t).spent ≡ true
unfolding commit makes
commit_keeps me call db writes t e = at_spent me call db ((db_at db t.node).store.seq + 1) writes t ∙ ap (λ (b : Bool). b || nat_le (2 ^ 62) ((db_at db t.node).store.seq + 1)) e

-- ---- below it

-- the node after the writes
abbrev after : ℕ → ℕ → List Pair → Node → Node
after db seq writes n = with_db db (record (db_at db n) { store = updated seq writes (db_at db n).store }) n

-- the step after the writes
abbrev written : ℕ → ℕ → List Pair → Node → Turn
written db seq writes n = record { node = after db seq writes n; outs = []; spent = false }

-- what is left is what comes of the other members
commit_is : (me call db seq : ℕ) (writes : List Pair) (n : Node) → seq ≡ (db_at db n).store.seq + 1 → seq < 2 ^ 62 →
    commit me call db writes (begins n) ≡ awaits_others me call db seq writes (others me n.members) (written db seq writes n)
unfolding commit commits_at updates makes with_node
commit_is me call db seq writes n e l =
    ap (λ (k : ℕ). commits_at me call db k writes (begins n)) (sym e)
    ∙ (λ i. awaits_others me call db seq writes (others me n.members) (record { node = after db seq writes n; outs = []; spent = below_limit seq l i }))

none_left : (xs : List ℕ) → (length xs == 0) ≡ true → xs ≡ []
none_left xs e = nil_from_length xs (eqb-true (length xs) 0 e)

-- with no other member it is answered at once
pub planned_alone : (me call db seq : ℕ) (writes all : List Pair) (outs : List Out) (ns : List ℕ) (n : Node) → seq ≡ (db_at db n).store.seq + 1 → seq < 2 ^ 62 → ns ≡ others me n.members → (length ns == 0) ≡ true → db < length n.dbs →
    all ≡ writes → outs ≡ out.Answer call (answer.Committed seq) ∷ [] →
    IsPlanned (record { change = change.Update db seq all; outs = outs }) (commit me call db writes (begins n)) n
unfolding changed_by awaits_others answers does
planned_alone me call db seq writes all outs ns n e l of none there same o =
    let h : commit me call db writes (begins n) ≡ record { node = after db seq writes n; outs = out.Answer call (answer.Committed seq) ∷ []; spent = false } =
    commit_is me call db seq writes n e l ∙ ap (λ (xs : List ℕ). awaits_others me call db seq writes xs (written db seq writes n)) (sym of ∙ none_left ns none) in
    record {
      whole = ap (λ (u : Turn). u.spent) h;
      node = ap (λ (ws : List Pair). after db seq ws n) same ∙ sym (ap (λ (u : Turn). u.node) h);
      outs = o ∙ sym (ap (λ (u : Turn). u.outs) h);
      can = there;
    }

-- the commit that waits is put beside the writes
waits_so : (me call db seq : ℕ) (writes : List Pair) (ns : List ℕ) (n : Node) → ns ≢ [] → db < length n.dbs →
    awaits_others me call db seq writes ns (written db seq writes n)
    ≡ record {
      node = with_db db (record (db_at db n) { store = updated seq writes (db_at db n).store; commit = Some (record { call = call; writes = writes; pending = commit_begun seq ns }) }) n;
      outs = map (sent n.generation me (msg.PUpdate db seq writes)) ns;
      spent = false;
    }
unfolding awaits_others with_commit with_node with_db
waits_so me call db seq writes [] n some there = absurd (some refl)
waits_so me call db seq writes (m ∷ ms) n some there =
    let c : Option Committing = Some (record { call = call; writes = writes; pending = commit_begun seq (m ∷ ms) }) in
    let d : Database = record (db_at db n) { store = updated seq writes (db_at db n).store } in
    posts_all_does (with_db db d n).generation me (m ∷ ms) (msg.PUpdate db seq writes) (with_commit db c (written db seq writes n))
    ∙ (λ i. record {
      node = (ap (λ (x : Database). with_db db (record x { commit = c }) (with_db db d n)) (put_there db d n there) ∙ put_twice db d (record d { commit = c }) n) i;
      outs = map (sent n.generation me (msg.PUpdate db seq writes)) (m ∷ ms);
      spent = false;
    })

-- with other members it waits, and each of them gets the writes
pub planned_awaited : (me call db seq : ℕ) (writes all : List Pair) (c : Committing) (outs : List Out) (n : Node) → seq ≡ (db_at db n).store.seq + 1 → seq < 2 ^ 62 → others me n.members ≢ [] → db < length n.dbs →
    all ≡ writes → c ≡ record { call = call; writes = writes; pending = commit_begun seq (others me n.members) } →
    outs ≡ map (sent n.generation me (msg.PUpdate db seq writes)) (others me n.members) →
    IsPlanned (record { change = change.Begin db seq all (Some c); outs = outs }) (commit me call db writes (begins n)) n
unfolding changed_by
planned_awaited me call db seq writes all c outs n e l some there same begun o =
    let h = commit_is me call db seq writes n e l ∙ waits_so me call db seq writes (others me n.members) n some there in
    record {
      whole = ap (λ (u : Turn). u.spent) h;
      node = (λ i. with_db db (record (db_at db n) { store = updated seq (same i) (db_at db n).store; commit = Some (begun i) }) n) ∙ sym (ap (λ (u : Turn). u.node) h);
      outs = o ∙ sym (ap (λ (u : Turn). u.outs) h);
      can = there;
    }
