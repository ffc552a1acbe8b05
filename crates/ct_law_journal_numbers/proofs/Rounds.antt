-- What a node does in a round of recovery, under other numbers of calls.
use Rattle.std.proofs.Common.{◌≡◌, ℕ, ◌+◌, Bool, true, false, cond, ◌&&◌, ◌||◌, List, [], ◌∷◌, ◌++◌, map, Option, Some, None, refl, ap, ◌∙◌}
use Rattle.std.specs.Prelude.{nat_eq, nat_lt, not}
use Rattle.std.specs.List.{filter}
use Rattle.ct_values.specs.Words.{others}
use Rattle.ct_values.specs.declared.address.Address.{Address}
use Rattle.ct_values.specs.declared.client.Answer.TheVariants as answer
use Rattle.ct_values.specs.declared.config.Config.{Config}
use Rattle.ct_frame.specs.declared.event.Note.TheVariants as note
use Rattle.ct_frame.specs.declared.frame.Assigned.{Assigned}
use Rattle.ct_frame.specs.declared.frame.Msg.{Msg}
use Rattle.ct_frame.specs.declared.frame.Msg.TheVariants as msg
use Rattle.ct_frame.specs.declared.frame.PTable.{PTable}
use Rattle.ct_frame.specs.declared.frame.TableRow.{TableRow}
use Rattle.ct_frame.specs.declared.round.Pull.{Pull}
use Rattle.ct_frame.specs.declared.round.PushBody.{PushBody}
use Rattle.ct_merge.specs.Gathered.{Gathered, nothing, gathered, finished}
use Rattle.ct_persist.specs.Persisted.{listed}
use Rattle.ct_store.specs.Map.{Pairs, look, write}
use Rattle.ct_rules.specs.State.{is_blank}
use Rattle.ct_rules.specs.declared.state.RecState.{RecState}
use Rattle.ct_rules_node.specs.Node.{Node, Database, Committing, Lead, Freezes, Pulls, Installs, Completed, is_frozen_in, is_present_in, is_persistent, is_among, master_of, or_nothing, state_at, kind_at, name_of}
use Rattle.ct_rules_node.specs.Turn.{Turn, with_node, with_lead, makes, answers, notes, posts, posts_all}
use Rattle.ct_rules_node.specs.Records.{with_state}
use Rattle.ct_rules_node.specs.Databases.{with_commit}
use Rattle.ct_rules_node.specs.Clients.{frozen_if_unlocked}
use Rattle.ct_rules_node.specs.Rounds.{begin_round, frozen_state, changed, frozen_db, ends_lock, ends_commit, ends_commits, freezes, on_freeze, all_frozen, on_freezeack, rows_of, with_row, row_of, table_of, ptables_of, on_pull, body_of, push_of, pushes, all_pulled, on_pullreply, bared, installed_state, install_row, install_rows, installed_db, installed_dbs, is_own, releases, installed_node, row_master, makes_rows, installs, on_push, completed, all_installed, on_pushack}
use Rattle.ct_journal.specs.Schedules.{answer_under}
use Rattle.ct_law_journal_numbers.specs.Renumbered.{lock_under, state_under, records_under, commit_under, database_under, node_under, turn_under}
use Rattle.ct_law_journal_numbers.proofs.Parts.{blank_under}
use Rattle.ct_law_journal_numbers.proofs.Nodes.{look_under, write_under, state_at_under, with_state_under}
use Rattle.ct_law_journal_numbers.proofs.Turns.{either_turn, turn_unchanged, answers_under, notes_under, posts_under, posts_all_under, with_commit_under}
use Rattle.ct_law_journal_numbers.proofs.Clients.{frozen_if_unlocked_under}

module _ (number : ℕ → ℕ) where
  -- ---- BeginRound and Freeze

  pub begin_round_under : (me g : ℕ) (members : List ℕ) (t : Turn) → begin_round me g members (turn_under number t) ≡ turn_under number (begin_round me g members t)
  unfolding begin_round with_lead makes turn_under node_under
  begin_round_under me g members t = either_turn number (nat_lt t.node.promise g) _ _ refl (posts_all_under number g me members (msg.Freeze members) (with_lead (Freezes g members members) (makes g t))) (turn_unchanged number t)

  changed_under : (f : RecState → RecState) → ((s : RecState) → f (state_under number s) ≡ state_under number (f s)) → (m : Pairs RecState) → changed f (records_under number m) ≡ records_under number (changed f m)
  unfolding changed records_under
  changed_under f h [] = refl
  changed_under f h (e ∷ m) =
      (λ i. cond (is_blank (h e.1 i)) (changed_under f h m i) ((e.0, h e.1 i) ∷ changed_under f h m i))
      ∙ ap (λ (b : Bool). cond b (records_under number (changed f m)) ((e.0, state_under number (f e.1)) ∷ records_under number (changed f m))) (blank_under number (f e.1))
      ∙ by (is_blank (f e.1))
    where
      by : (b : Bool) → cond b (records_under number (changed f m)) ((e.0, state_under number (f e.1)) ∷ records_under number (changed f m)) ≡ records_under number (cond b (changed f m) ((e.0, f e.1) ∷ changed f m))
      by true = refl
      by false = refl

  frozen_state_under : (s : RecState) → frozen_state (state_under number s) ≡ state_under number (frozen_state s)
  unfolding frozen_state state_under
  frozen_state_under s = refl

  frozen_dbs_under : (ds : List Database) → map frozen_db (map (database_under number) ds) ≡ map (database_under number) (map frozen_db ds)
  unfolding frozen_db database_under
  frozen_dbs_under [] = refl
  frozen_dbs_under (d ∷ ds) = λ i. record d { records = changed_under frozen_state frozen_state_under d.records i; commit = commit_under number d.commit } ∷ frozen_dbs_under ds i

  ends_lock_under : (name : List ℕ) (t : Turn) → ends_lock name (turn_under number t) ≡ turn_under number (ends_lock name t)
  unfolding ends_lock with_node turn_under state_under lock_under
  ends_lock_under name t =
      ap (λ (n : Node). notes (note.Ended 0 name) (record (turn_under number t) { node = n }))
      (ap (λ (s : RecState). with_state 0 name (record s { locked = None }) (node_under number t.node)) (state_at_under number 0 name t.node)
      ∙ with_state_under number 0 name (record (state_at 0 name t.node) { locked = None }) t.node)
      ∙ notes_under number (note.Ended 0 name) (with_node (with_state 0 name (record (state_at 0 name t.node) { locked = None }) t.node) t)

  ends_commit_under : (db : ℕ) (name : List ℕ) (t : Turn) (x : Option Committing) → ends_commit db name (turn_under number t) (commit_under number x) ≡ turn_under number (ends_commit db name t x)
  unfolding ends_commit commit_under answer_under
  ends_commit_under db name t None = refl
  ends_commit_under db name t (Some x) =
      let a = answer.Unsure x.pending.seq x.pending.missing in
      ap (λ (u : Turn). ends_lock name (with_commit db None u)) (answers_under number x.call a t)
      ∙ ap (ends_lock name) (with_commit_under number db None (answers x.call a t))
      ∙ ends_lock_under name (with_commit db None (answers x.call a t))

  ends_commits_under : (c : Config) (i : ℕ) (ds : List Database) (t : Turn) → ends_commits c i (map (database_under number) ds) (turn_under number t) ≡ turn_under number (ends_commits c i ds t)
  unfolding ends_commits database_under
  ends_commits_under c i [] t = refl
  ends_commits_under c i (d ∷ ds) t =
      ap (ends_commits c (i + 1) (map (database_under number) ds)) (ends_commit_under i (name_of c i) t d.commit)
      ∙ ends_commits_under c (i + 1) ds (ends_commit i (name_of c i) t d.commit)

  freezes_under : (g h : ℕ) (t : Turn) → freezes g h (turn_under number t) ≡ turn_under number (freezes g h t)
  unfolding freezes with_node turn_under node_under
  freezes_under g h t = ap (λ (ds : List Database). record (turn_under number t) { node = record (freezes g h t).node { dbs = ds } }) (frozen_dbs_under t.node.dbs)

  pub on_freeze_under : (c : Config) (me h g : ℕ) (t : Turn) → on_freeze c me h g (turn_under number t) ≡ turn_under number (on_freeze c me h g t)
  unfolding on_freeze turn_under node_under
  on_freeze_under c me h g t = either_turn number (nat_lt t.node.promise g) _ _ refl
      (ap (λ (u : Turn). frozen_if_unlocked me g h (ends_commits c 0 (map (database_under number) t.node.dbs) u)) (freezes_under g h t)
      ∙ ap (frozen_if_unlocked me g h) (ends_commits_under c 0 t.node.dbs (freezes g h t))
      ∙ frozen_if_unlocked_under number me g h (ends_commits c 0 t.node.dbs (freezes g h t)))
      (either_turn number (is_frozen_in g t.node.phase) _ _ refl (posts_under number g me h msg.FreezeAck t) (turn_unchanged number t))

  -- ---- FreezeAck

  all_frozen_under : (me g : ℕ) (members : List ℕ) (t : Turn) (ms : List ℕ) → all_frozen me g members (turn_under number t) ms ≡ turn_under number (all_frozen me g members t ms)
  unfolding all_frozen with_lead turn_under node_under
  all_frozen_under me g members t [] = posts_all_under number g me members msg.Pull (with_lead (Pulls g members members nothing) t)
  all_frozen_under me g members t (m ∷ ms) = refl

  pub on_freezeack_under : (me n g : ℕ) (t : Turn) (l : Lead) → on_freezeack me n g (turn_under number t) l ≡ turn_under number (on_freezeack me n g t l)
  unfolding on_freezeack
  on_freezeack_under me n g t (Freezes h members missing) = either_turn number (nat_eq h g && is_among n missing) _ _ refl (all_frozen_under me g members t (others n missing)) (turn_unchanged number t)
  on_freezeack_under me n g t _ = refl

  -- ---- Pull

  rows_of_under : (me db : ℕ) (m : Pairs RecState) → rows_of me db (records_under number m) ≡ rows_of me db m
  unfolding rows_of records_under state_under
  rows_of_under me db [] = refl
  rows_of_under me db (e ∷ m) = ap (with_row (row_of me db e.0 e.1.copy)) (rows_of_under me db m)

  table_of_under : (me i : ℕ) (ds : List Database) → table_of me i (map (database_under number) ds) ≡ table_of me i ds
  unfolding table_of database_under
  table_of_under me i [] = refl
  table_of_under me i (d ∷ ds) = λ j. rows_of_under me i d.records j ++ table_of_under me (i + 1) ds j

  ptables_of_under : (c : Config) (i : ℕ) (ds : List Database) → ptables_of c i (map (database_under number) ds) ≡ ptables_of c i ds
  unfolding ptables_of database_under
  ptables_of_under c i [] = refl
  ptables_of_under c i (d ∷ ds) = ap (λ (xs : List PTable). cond (is_persistent (kind_at c i)) (record { db = i; seq = d.store.seq; pairs = listed d.store.pairs } ∷ xs) xs) (ptables_of_under c (i + 1) ds)

  pub on_pull_under : (c : Config) (me h g : ℕ) (t : Turn) → on_pull c me h g (turn_under number t) ≡ turn_under number (on_pull c me h g t)
  unfolding on_pull turn_under node_under
  on_pull_under c me h g t =
      let reply : List TableRow → List PTable → Msg = λ rows tables. msg.PullReply t.node.generation t.node.pbase rows tables t.node.held in
      either_turn number (is_frozen_in g t.node.phase) _ _ refl
      ((λ i. posts g me h (reply (table_of_under me 0 t.node.dbs i) (ptables_of_under c 0 t.node.dbs i)) (turn_under number t)) ∙ posts_under number g me h (reply (table_of me 0 t.node.dbs) (ptables_of c 0 t.node.dbs)) t)
      (turn_unchanged number t)

  -- ---- PullReply

  pushes_under : (me g : ℕ) (members : List ℕ) (b : PushBody) (t : Turn) → pushes me g members b (turn_under number t) ≡ turn_under number (pushes me g members b t)
  unfolding pushes with_lead turn_under node_under
  pushes_under me g members b t =
      let x = note.Round g members b.vparent b.pparent in
      let mid : Turn = with_lead (Installs g members members b) t in
      ap (posts_all g me members (push_of b)) (notes_under number x mid) ∙ posts_all_under number g me members (push_of b) (notes x mid)

  all_pulled_under : (me g : ℕ) (members : List ℕ) (x : Gathered) (t : Turn) (ms : List ℕ) → all_pulled me g members x (turn_under number t) ms ≡ turn_under number (all_pulled me g members x t ms)
  unfolding all_pulled with_lead turn_under node_under
  all_pulled_under me g members x t [] = pushes_under me g members (body_of me members (finished x)) t
  all_pulled_under me g members x t (m ∷ ms) = refl

  pub on_pullreply_under : (me g : ℕ) (pull : Pull) (t : Turn) (l : Lead) → on_pullreply me g pull (turn_under number t) l ≡ turn_under number (on_pullreply me g pull t l)
  unfolding on_pullreply
  on_pullreply_under me g pull t (Pulls h members missing x) = either_turn number (nat_eq h g && is_among pull.node missing) _ _ refl (all_pulled_under me g members (gathered pull x) t (others pull.node missing)) (turn_unchanged number t)
  on_pullreply_under me g pull t _ = refl

  -- ---- Push

  installed_state_under : (me l : ℕ) (row : TableRow) (s : RecState) → installed_state me l row (state_under number s) ≡ state_under number (installed_state me l row s)
  unfolding installed_state state_under
  installed_state_under me l row s = refl

  bared_under : (s : RecState) → bared (state_under number s) ≡ state_under number (bared s)
  unfolding bared state_under
  bared_under s = refl

  install_row_under : (me : ℕ) (members : List ℕ) (row : TableRow) (m : Pairs RecState) → install_row me members row (records_under number m) ≡ records_under number (install_row me members row m)
  unfolding install_row
  install_row_under me members row m =
      let l : ℕ = master_of members row.key in
      let s : RecState = or_nothing (look row.key m) in
      ap (λ (x : RecState). write row.key (installed_state me l row x) (records_under number m)) (look_under number row.key m)
      ∙ ap (λ (x : RecState). write row.key x (records_under number m)) (installed_state_under me l row s)
      ∙ write_under number row.key (installed_state me l row s) m

  install_rows_under : (me db : ℕ) (members : List ℕ) (rows : List TableRow) (m : Pairs RecState) → install_rows me db members rows (records_under number m) ≡ records_under number (install_rows me db members rows m)
  unfolding install_rows
  install_rows_under me db members [] m = refl
  install_rows_under me db members (row ∷ rows) m =
      ap (install_rows me db members rows) (by (nat_eq row.db db)) ∙ install_rows_under me db members rows (cond (nat_eq row.db db) (install_row me members row m) m)
    where
      by : (b : Bool) → cond b (install_row me members row (records_under number m)) (records_under number m) ≡ records_under number (cond b (install_row me members row m) m)
      by true = install_row_under me members row m
      by false = refl

  installed_dbs_under : (me i : ℕ) (members : List ℕ) (table : List TableRow) (ptables : List PTable) (ds : List Database) → installed_dbs me i members table ptables (map (database_under number) ds) ≡ map (database_under number) (installed_dbs me i members table ptables ds)
  unfolding installed_dbs installed_db database_under
  installed_dbs_under me i members table ptables [] = refl
  installed_dbs_under me i members table ptables (d ∷ ds) =
      let rows : install_rows me i members table (changed bared (records_under number d.records)) ≡ records_under number (install_rows me i members table (changed bared d.records)) =
      ap (install_rows me i members table) (changed_under bared bared_under d.records) ∙ install_rows_under me i members table (changed bared d.records) in
      λ j. record (installed_db me i members table ptables d) { records = rows j; commit = commit_under number d.commit } ∷ installed_dbs_under me (i + 1) members table ptables ds j

  pub releases_under : (xs : List Address) (t : Turn) → releases xs (turn_under number t) ≡ turn_under number (releases xs t)
  unfolding releases
  releases_under [] t = refl
  releases_under (a ∷ rest) t = ap (releases rest) (notes_under number (note.Released a) t) ∙ releases_under rest (notes (note.Released a) t)

  makes_row_under : (n : ℕ) (t : Turn) → makes n (turn_under number t) ≡ turn_under number (makes n t)
  unfolding makes turn_under
  makes_row_under n t = refl

  makes_rows_under : (me : ℕ) (members : List ℕ) (rows : List TableRow) (t : Turn) → makes_rows me members rows (turn_under number t) ≡ turn_under number (makes_rows me members rows t)
  unfolding makes_rows
  makes_rows_under me members [] t = refl
  makes_rows_under me members (row ∷ rows) t =
      let own : Bool = nat_eq me (row_master row) || nat_eq me (master_of members row.key) in
      ap (makes_rows me members rows) (either_turn number own _ _ refl (makes_row_under (row.rsn + 1) t) (turn_unchanged number t)) ∙ makes_rows_under me members rows (cond own (makes (row.rsn + 1) t) t)

  installed_node_under : (c : Config) (me h g : ℕ) (members : List ℕ) (table : List TableRow) (ptables : List PTable) (assigned : List Assigned) (n : Node)
      → installed_node c me h g members table ptables assigned (node_under number n) ≡ node_under number (installed_node c me h g members table ptables assigned n)
  unfolding installed_node node_under
  installed_node_under c me h g members table ptables assigned n =
      ap (λ (ds : List Database). record (installed_node c me h g members table ptables assigned n) { dbs = ds }) (installed_dbs_under me 0 members table ptables n.dbs)

  with_node_under : (n : Node) (t : Turn) → with_node (node_under number n) (turn_under number t) ≡ turn_under number (with_node n t)
  unfolding with_node turn_under
  with_node_under n t = refl

  installs_under : (c : Config) (me h g : ℕ) (members : List ℕ) (table : List TableRow) (ptables : List PTable) (assigned : List Assigned) (t : Turn)
      → installs c me h g members table ptables assigned (turn_under number t) ≡ turn_under number (installs c me h g members table ptables assigned t)
  unfolding installs turn_under node_under
  installs_under c me h g members table ptables assigned t =
      let x = note.Installed g in
      let given_up : List Address = filter (λ a. not (is_own me assigned a)) t.node.held in
      let n : Node = installed_node c me h g members table ptables assigned t.node in
      let u : Turn = makes_rows me members table t in
      (λ i. releases given_up (notes x (with_node (installed_node_under c me h g members table ptables assigned t.node i) (makes_rows_under me members table t i))))
      ∙ ap (λ (v : Turn). releases given_up (notes x v)) (with_node_under n u)
      ∙ ap (releases given_up) (notes_under number x (with_node n u))
      ∙ releases_under given_up (notes x (with_node n u))

  pub on_push_under : (c : Config) (me h g : ℕ) (members : List ℕ) (table : List TableRow) (ptables : List PTable) (assigned : List Assigned) (t : Turn)
      → on_push c me h g members table ptables assigned (turn_under number t) ≡ turn_under number (on_push c me h g members table ptables assigned t)
  unfolding on_push turn_under node_under is_present_in
  on_push_under c me h g members table ptables assigned t = either_turn number (is_frozen_in g t.node.phase) _ _ refl
      (ap (posts g me h msg.PushAck) (installs_under c me h g members table ptables assigned t) ∙ posts_under number g me h msg.PushAck (installs c me h g members table ptables assigned t))
      (either_turn number (is_present_in g t.node) _ _ refl (posts_under number g me h msg.PushAck t) (turn_unchanged number t))

  -- ---- PushAck

  all_installed_under : (c : Config) (me g : ℕ) (members : List ℕ) (b : PushBody) (t : Turn) (ms : List ℕ) → all_installed c me g members b (turn_under number t) ms ≡ turn_under number (all_installed c me g members b t ms)
  unfolding all_installed with_lead turn_under node_under
  all_installed_under c me g members b t [] = posts_all_under number g me members msg.Thaw (with_lead (Completed g members (completed c b)) t)
  all_installed_under c me g members b t (m ∷ ms) = refl

  pub on_pushack_under : (c : Config) (me n g : ℕ) (t : Turn) (l : Lead) → on_pushack c me n g (turn_under number t) l ≡ turn_under number (on_pushack c me n g t l)
  unfolding on_pushack
  on_pushack_under c me n g t (Installs h members missing b) = either_turn number (nat_eq h g && is_among n missing) _ _ refl (all_installed_under c me g members b t (others n missing)) (turn_unchanged number t)
  on_pushack_under c me n g t _ = refl
