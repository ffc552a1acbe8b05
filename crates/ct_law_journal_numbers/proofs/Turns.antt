-- What a node does, and what becomes of its persistent databases, under other numbers of calls.
use Rattle.std.proofs.Common.{◌≡◌, ℕ, ◌+◌, Bool, true, false, cond, List, [], ◌∷◌, Option, Some, None, refl, sym, ap, ◌∙◌}
use Rattle.std.proofs.lemmas.List.{map-append}
use Rattle.std.specs.Prelude.{nat_le}
use Rattle.ct_values.specs.Words.{others, or_empty}
use Rattle.ct_values.specs.declared.client.Answer.{Answer}
use Rattle.ct_values.specs.declared.client.Answer.TheVariants as answer
use Rattle.ct_values.specs.declared.client.Pair.{Pair}
use Rattle.ct_frame.specs.declared.event.Note.{Note}
use Rattle.ct_frame.specs.declared.event.Out.{Out}
use Rattle.ct_frame.specs.declared.event.Out.TheVariants as out
use Rattle.ct_frame.specs.declared.frame.Msg.{Msg}
use Rattle.ct_frame.specs.declared.frame.Msg.TheVariants as msg
use Rattle.ct_store.specs.Map.{look}
use Rattle.ct_persist.specs.Persisted.{updated}
use Rattle.ct_persist.specs.Commits.{commit_begun, completes, applied_by}
use Rattle.ct_rules_node.specs.Node.{Node, Database, Committing, db_at, with_db}
use Rattle.ct_rules_node.specs.Turn.{Turn, does, with_node, makes, answers, notes, posts, posts_all}
use Rattle.ct_rules_node.specs.Databases.{updates, with_commit, awaits_others, commits_at, commit, acknowledges, on_pupdate, on_pack_of, on_pack, read_pair}
use Rattle.ct_journal.specs.Schedules.{answer_under, out_under}
use Rattle.ct_law_journal_numbers.specs.Renumbered.{commit_under, database_under, node_under, turn_under}
use Rattle.ct_law_journal_numbers.proofs.Nodes.{db_at_under, with_db_under}

module _ (number : ℕ → ℕ) where
  -- ---- what is done

  -- the same is done in either case
  pub either_turn : {b' : Bool} {x' y' : Turn} (b : Bool) (x y : Turn) → b' ≡ b → x' ≡ turn_under number x → y' ≡ turn_under number y → cond b' x' y' ≡ turn_under number (cond b x y)
  either_turn {b'} {x'} {y'} b x y e f g = ap (λ (t : Bool). cond t x' y') e ∙ by b
    where
      by : (t : Bool) → cond t x' y' ≡ turn_under number (cond t x y)
      by true = f
      by false = g

  -- nothing is done
  pub turn_unchanged : (t : Turn) → turn_under number t ≡ turn_under number t
  turn_unchanged t = refl

  does_under : (x : Out) (t : Turn) → does (out_under number x) (turn_under number t) ≡ turn_under number (does x t)
  unfolding does turn_under
  does_under x t = ap (λ (xs : List Out). record (turn_under number t) { outs = xs }) (sym (map-append (out_under number) t.outs (x ∷ [])))

  pub answers_under : (call : ℕ) (a : Answer) (t : Turn) → answers (number call) (answer_under number a) (turn_under number t) ≡ turn_under number (answers call a t)
  unfolding answers out_under
  answers_under call a t = does_under (out.Answer call a) t

  pub notes_under : (x : Note) (t : Turn) → notes x (turn_under number t) ≡ turn_under number (notes x t)
  unfolding notes out_under
  notes_under x t = does_under (out.Note x) t

  pub posts_under : (g me receiver : ℕ) (m : Msg) (t : Turn) → posts g me receiver m (turn_under number t) ≡ turn_under number (posts g me receiver m t)
  unfolding posts out_under
  posts_under g me receiver m t = does_under (out.Send (record { generation = g; sender = me; receiver = receiver; msg = m })) t

  pub posts_all_under : (g me : ℕ) (ns : List ℕ) (m : Msg) (t : Turn) → posts_all g me ns m (turn_under number t) ≡ turn_under number (posts_all g me ns m t)
  unfolding posts_all
  posts_all_under g me [] m t = refl
  posts_all_under g me (n ∷ ns) m t = ap (posts_all g me ns m) (posts_under g me n m t) ∙ posts_all_under g me ns m (posts g me n m t)

  -- ---- persistent databases

  -- a database becomes another, and does so under other numbers
  database_becomes : (db : ℕ) (f' f : Database → Database) (t : Turn) → ((d : Database) → f' (database_under number d) ≡ database_under number (f d))
      → with_node (with_db db (f' (db_at db (turn_under number t).node)) (turn_under number t).node) (turn_under number t) ≡ turn_under number (with_node (with_db db (f (db_at db t.node)) t.node) t)
  unfolding with_node turn_under
  database_becomes db f' f t h = ap (λ (n : Node). record (turn_under number t) { node = n })
      (ap (λ (d : Database). with_db db (f' d) (node_under number t.node)) (db_at_under number db t.node)
      ∙ ap (λ (d : Database). with_db db d (node_under number t.node)) (h (db_at db t.node))
      ∙ with_db_under number db (f (db_at db t.node)) t.node)

  updates_under : (db seq : ℕ) (writes : List Pair) (t : Turn) → updates db seq writes (turn_under number t) ≡ turn_under number (updates db seq writes t)
  unfolding updates database_under
  updates_under db seq writes t = database_becomes db (λ d. record d { store = updated seq writes d.store }) (λ d. record d { store = updated seq writes d.store }) t (λ d. refl)

  pub with_commit_under : (db : ℕ) (x : Option Committing) (t : Turn) → with_commit db (commit_under number x) (turn_under number t) ≡ turn_under number (with_commit db x t)
  unfolding with_commit database_under
  with_commit_under db x t = database_becomes db (λ d. record d { commit = commit_under number x }) (λ d. record d { commit = x }) t (λ d. refl)

  awaits_others_under : (me call db seq : ℕ) (writes : List Pair) (ns : List ℕ) (t : Turn) → awaits_others me (number call) db seq writes ns (turn_under number t) ≡ turn_under number (awaits_others me call db seq writes ns t)
  unfolding awaits_others turn_under node_under commit_under answer_under
  awaits_others_under me call db seq writes [] t = answers_under call (answer.Committed seq) t
  awaits_others_under me call db seq writes (n ∷ ns) t =
      let x : Committing = record { call = call; writes = writes; pending = commit_begun seq (n ∷ ns) } in
      let m : Msg = msg.PUpdate db seq writes in
      ap (posts_all t.node.generation me (n ∷ ns) m) (with_commit_under db (Some x) t) ∙ posts_all_under t.node.generation me (n ∷ ns) m (with_commit db (Some x) t)

  commits_at_under : (me call db seq : ℕ) (writes : List Pair) (t : Turn) → commits_at me (number call) db seq writes (turn_under number t) ≡ turn_under number (commits_at me call db seq writes t)
  unfolding commits_at makes turn_under node_under
  commits_at_under me call db seq writes t =
      ap (awaits_others me (number call) db seq writes (others me t.node.members)) (updates_under db seq writes (makes seq t))
      ∙ awaits_others_under me call db seq writes (others me t.node.members) (updates db seq writes (makes seq t))

  pub commit_begins_under : (me call db : ℕ) (writes : List Pair) (t : Turn) → commit me (number call) db writes (turn_under number t) ≡ turn_under number (commit me call db writes t)
  unfolding commit turn_under database_under
  commit_begins_under me call db writes t =
      ap (λ (d : Database). commits_at me (number call) db (d.store.seq + 1) writes (turn_under number t)) (db_at_under number db t.node)
      ∙ commits_at_under me call db ((db_at db t.node).store.seq + 1) writes t

  acknowledges_under : (me sender db seq : ℕ) (t : Turn) → acknowledges me sender db seq (turn_under number t) ≡ turn_under number (acknowledges me sender db seq t)
  unfolding acknowledges turn_under node_under database_under
  acknowledges_under me sender db seq t = either_turn (nat_le seq (db_at db t.node).store.seq) _ _
      (ap (λ (d : Database). nat_le seq d.store.seq) (db_at_under number db t.node))
      (posts_under t.node.generation me sender (msg.PAck db seq) t)
      (turn_unchanged t)

  pub on_pupdate_under : (me sender db seq : ℕ) (writes : List Pair) (t : Turn) → on_pupdate me sender db seq writes (turn_under number t) ≡ turn_under number (on_pupdate me sender db seq writes t)
  unfolding on_pupdate
  on_pupdate_under me sender db seq writes t = ap (acknowledges me sender db seq) (updates_under db seq writes t) ∙ acknowledges_under me sender db seq (updates db seq writes t)

  on_pack_of_under : (n db seq : ℕ) (t : Turn) (x : Option Committing) → on_pack_of n db seq (turn_under number t) (commit_under number x) ≡ turn_under number (on_pack_of n db seq t x)
  unfolding on_pack_of commit_under answer_under
  on_pack_of_under n db seq t None = refl
  on_pack_of_under n db seq t (Some x) = either_turn (completes n seq x.pending) _ _ refl
      (ap (answers (number x.call) (answer.Committed seq)) (with_commit_under db None t) ∙ answers_under x.call (answer.Committed seq) (with_commit db None t))
      (with_commit_under db (Some (record x { pending = applied_by n seq x.pending })) t)

  pub on_pack_under : (n db seq : ℕ) (t : Turn) → on_pack n db seq (turn_under number t) ≡ turn_under number (on_pack n db seq t)
  unfolding on_pack turn_under database_under
  on_pack_under n db seq t = ap (λ (d : Database). on_pack_of n db seq (turn_under number t) d.commit) (db_at_under number db t.node) ∙ on_pack_of_under n db seq t (db_at db t.node).commit

  pub read_pair_under : (call db : ℕ) (key : List ℕ) (t : Turn) → read_pair (number call) db key (turn_under number t) ≡ turn_under number (read_pair call db key t)
  unfolding read_pair turn_under database_under answer_under
  read_pair_under call db key t =
      ap (λ (d : Database). answers (number call) (answer.Read (or_empty (look key d.store.pairs))) (turn_under number t)) (db_at_under number db t.node)
      ∙ answers_under call (answer.Read (or_empty (look key (db_at db t.node).store.pairs))) t
