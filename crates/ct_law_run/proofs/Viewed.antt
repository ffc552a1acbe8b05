-- What a node has that installs: of each record what the worlds of the line began with for it.
use Rattle.std.proofs.Common.{◌≡◌, ◌≢◌, ℕ, zero, suc, ◌+◌, ◌<◌, ◌≤◌, ◌^◌, Bool, true, false, ◌&&◌, ◌||◌, List, [], ◌∷◌, length, Option, Some, None, ⊎_elim, refl, sym, ap, ◌∙◌, subst, arith}
use Rattle.std.specs.Prelude.{nat_eq, nat_lt, slice_get}
use Rattle.std.specs.List.{list_all}
use Rattle.std.proofs.lemmas.Bool.{cases_eq, cases_lt, cond_both, and_parts, ltb-true, or_right, or_left}
use Rattle.ct_values.specs.declared.config.Config.{Config}
use Rattle.ct_frame.specs.declared.frame.Assigned.{Assigned}
use Rattle.ct_frame.specs.declared.frame.Frame.{Frame}
use Rattle.ct_frame.specs.declared.frame.Msg.{Msg}
use Rattle.ct_frame.specs.declared.frame.Msg.TheVariants as msg
use Rattle.ct_frame.specs.declared.frame.PTable.{PTable}
use Rattle.ct_frame.specs.declared.frame.TableRow.{TableRow}
use Rattle.ct_call.specs.Rules.{Rules}
use Rattle.ct_merge.specs.Held.{is_row_at}
use Rattle.ct_store.specs.Map.{Ascends, look}
use Rattle.ct_law_rules.specs.Form.{wished_as, least_of, sent_for, wishes_record}
use Rattle.ct_rules.specs.State.{nothing_kept, rsn_of}
use Rattle.ct_rules.specs.declared.state.Entry.{Entry}
use Rattle.ct_rules.specs.declared.state.RecState.{RecState}
use Rattle.ct_rules.specs.declared.state.Wish.{Wish}
use Rattle.ct_rules_node.specs.Admission.{is_sound, is_listed, members_in, table_in}
use Rattle.ct_rules_node.specs.Node.{Node, Phase, Frozen, Database, is_among, is_frozen_in, has_records, kind_at, master_of, db_at, state_at, or_nothing, or_untouched, untouched}
use Rattle.ct_rules_node.specs.Rounds.{bared, frozen_state, installed_node, installed_state, copy_from, entry_from, row_master, makes_rows, installed_dbs}
use Rattle.ct_rules_node.specs.Turn.{begins}
use Rattle.ct_law_rules_node.proofs.AtRecord.{at_ascends}
use Rattle.ct_law_rules_node.proofs.Installed.{same_db, same_key}
use Rattle.ct_rules_cluster.specs.Cluster.{Cluster, node_at}
use Rattle.ct_register.specs.Lines.{Lines}
use Rattle.ct_law_record.specs.World.{Scene, View, born_state}
use Rattle.ct_law_generation.specs.Shown.{scene, view}
use Rattle.ct_law_generation.proofs.Delivering.{has_place}
use Rattle.ct_law_generation.proofs.Forming.{Is_formed}
use Rattle.ct_law_generation.proofs.BornForms.{with_formed, bare_formed}
use Rattle.ct_law_run.proofs.Ages.{Ages, era_of, row_in, begun_state, begun_view, LineLives}
use Rattle.ct_law_run.proofs.Lives.{Lives, NodeLives, MailSays, RoundSays, PhaseSays}
use Rattle.ct_law_run.proofs.Apart.{state_none}
use Rattle.ct_law_run.proofs.Begun.{left_of_frozen, begun_is_view}
use Rattle.ct_law_run.proofs.Best.{find_in, all_tested}
use Rattle.ct_law_run.proofs.Freezing.{HasCome}
use Rattle.ct_law_run.proofs.Rounding.{frozen_of}
use Rattle.ct_law_run.proofs.LeadTurning.{was_said}
use Rattle.ct_law_run.proofs.Made.{made_low}

-- ---- where there is no such database

pub past_db : (ds : List Database) (db : ℕ) → length ds ≤ db → or_untouched (slice_get ds db) ≡ untouched
unfolding or_untouched
past_db [] db l = refl
past_db (d ∷ ds) zero l = absurd (omega arith)
past_db (d ∷ ds) (suc k) l = past_db ds k (omega arith)

untouched_view : (db : ℕ) (key : List ℕ) (x : Node) → length x.dbs ≤ db → view db key x ≡ record { state = nothing_kept; next = x.next; floor = 0 }
unfolding state_at db_at or_nothing untouched
untouched_view db key x l = (let d = past_db x.dbs db l in λ i. record { state = or_nothing (look key (d i).records); next = x.next; floor = (d i).floor })

installed_size : (me i : ℕ) (members : List ℕ) (table : List TableRow) (ptables : List PTable) (ds : List Database) → length (installed_dbs me i members table ptables ds) ≡ length ds
unfolding installed_dbs
installed_size me i members table ptables [] = refl
installed_size me i members table ptables (d ∷ ds) = ap suc (installed_size me (i + 1) members table ptables ds)

-- ---- states that a generation begins with

begun_wish : (s : Scene) (row : Option TableRow) (n : ℕ) (wish : Option Wish) → (begun_state s row n wish).wish ≡ wish
unfolding begun_state born_state installed_state
begun_wish s None n wish = refl
begun_wish s (Some row) n wish = cond_both (is_among n s.members) (installed_state n s.lmaster row (record nothing_kept { wish = wish })) (record nothing_kept { wish = wish }) (λ (x : RecState). x.wish ≡ wish) (λ _. refl) (λ _. refl)

-- the RSNs that are made of a row are below 2^62 at the node, as the row's is
abbrev Is_low : Scene → ℕ → TableRow → Type 0
Is_low s n row = (row.rsn < 2 ^ 62) × ((nat_eq n (row_master row) || nat_eq n s.lmaster) ≡ true → row.rsn + 1 < 2 ^ 62)

copy_low : (s : Scene) (n : ℕ) (row : TableRow) → Is_low s n row → rsn_of (Some (copy_from n row (row_master row))) < 2 ^ 62
unfolding rsn_of copy_from
copy_low s n row l = cond_both (nat_eq n (row_master row)) (row.rsn + 1) row.rsn (λ a. a < 2 ^ 62) (λ t. l.1 (or_left _ (nat_eq n s.lmaster) t)) (λ _. l.0)

entry_low : (s : Scene) (n : ℕ) (row : TableRow) → Is_low s n row → (sent_for (entry_from n s.lmaster row) ≡ 0) × (least_of (entry_from n s.lmaster row) < 2 ^ 62)
unfolding entry_from sent_for least_of
entry_low s n row l = cond_both (nat_eq n s.lmaster) _ None (λ (e : Option Entry). (sent_for e ≡ 0) × (least_of e < 2 ^ 62)) (λ t. (refl, l.1 (or_right (nat_eq n (row_master row)) _ t))) (λ _. (refl, omega arith))

none_low : rsn_of None < 2 ^ 62
unfolding rsn_of
none_low = omega arith

begun_low : (s : Scene) (row : Option TableRow) (n : ℕ) (wish : Option Wish) → ((x : TableRow) → row ≡ Some x → Is_low s n x) → rsn_of (begun_state s row n wish).copy < 2 ^ 62
unfolding begun_state born_state installed_state
begun_low s None n wish low = none_low
begun_low s (Some row) n wish low = cond_both (is_among n s.members) (installed_state n s.lmaster row (record nothing_kept { wish = wish })) (record nothing_kept { wish = wish }) (λ (x : RecState). rsn_of x.copy < 2 ^ 62) (λ _. copy_low s n row (low row refl)) (λ _. none_low)

begun_formed : (s : Scene) (row : Option TableRow) (n next : ℕ) (wish : Option Wish) → ((x : TableRow) → row ≡ Some x → Is_low s n x) → 1 ≤ next → next < 2 ^ 62 → wishes_record wish ≡ true → wished_as wish < 2 ^ 62 → Is_formed s n (begun_view s row n wish next)
unfolding begun_state born_state installed_state
begun_formed s None n next wish low some few wants called = bare_formed s n next wish some few wants called
begun_formed s (Some row) n next wish low some few wants called =
    let k = low row refl in
    let e = entry_low s n row k in
    cond_both (is_among n s.members) (installed_state n s.lmaster row (record nothing_kept { wish = wish })) (record nothing_kept { wish = wish }) (λ (x : RecState). Is_formed s n (record { state = x; next = next; floor = 0 }))
    (λ _. with_formed s n next (Some (copy_from n row (row_master row))) (entry_from n s.lmaster row) wish some few e.0 wants (copy_low s n row k) e.1 called)
    (λ _. bare_formed s n next wish some few wants called)

-- ---- the node

module _ (c : Config) (rules : Rules) (w : Cluster) (r : Lines) (h : Lives c rules w r) (n : ℕ) (f : Frame) (ptables : List PTable) (assigned : List Assigned) (there : nat_lt n c.nodes ≡ true)
    (is : f.msg ≡ msg.Push (r.members f.generation) (h.ages.tables f.generation) ptables assigned) (come : HasCome w n f) (sound : is_sound c f ≡ true) (frozen : is_frozen_in f.generation (node_at n w).phase ≡ true)
    (whole : (makes_rows n (r.members f.generation) (h.ages.tables f.generation) (begins (node_at n w))).spent ≡ false) where
  abbrev g : ℕ
  g = f.generation

  abbrev a : Ages
  a = h.ages

  abbrev x : Node
  x = node_at n w

  -- the node that has installed
  abbrev pub y : Node
  y = installed_node c n f.sender g (r.members g) (a.tables g) ptables assigned x

  abbrev s : ℕ → List ℕ → Scene
  s db key = scene c (era_of r a g) rules db key

  pub own : NodeLives c rules h.who w r a n x
  own = h.nodes n there

  pub says : PhaseSays c rules h.who w r a n x (Frozen g)
  says = subst (λ (p : Phase). PhaseSays c rules h.who w r a n x p) (frozen_of x.phase g frozen) own.phase

  pub said : (2 ≤ g) × (r.born g ≡ true)
  unfolding RoundSays
  said = (let k = subst (λ (m : Msg). RoundSays c r a g f.sender m) is (was_said (MailSays c r a) w.sent f h.mail come.sent).round in (k.0, k.1))

  pub member : is_among n (r.members g) ≡ true
  unfolding is_sound is_listed members_in
  member = subst (λ (k : ℕ). is_among k (r.members g) ≡ true) come.receiver
      (and_parts (is_among f.sender (r.members g)) (is_among f.receiver (r.members g)) (subst (λ (m : Msg). is_listed f (members_in m) ≡ true) is (and_parts _ _ (and_parts _ _ (and_parts _ _ (and_parts _ _ sound).0).0).0).1)).1

  kinds : list_all (λ row. has_records (kind_at c row.db)) (a.tables g) ≡ true
  unfolding is_sound table_in
  kinds = subst (λ (m : Msg). list_all (λ row. has_records (kind_at c row.db)) (table_in m) ≡ true) is (and_parts _ _ (and_parts _ _ (and_parts _ _ sound).0).0).1

  line_lives : LineLives c rules w r a g
  line_lives = h.lines.line g said.1

  -- a Freeze has left of each record no more than a Freeze leaves
  still : (db : ℕ) (key : List ℕ) → frozen_state (state_at db key x) ≡ state_at db key x
  unfolding PhaseSays frozen_state
  still db key = ⊎_elim
      (λ (out : r.line n ≡ 0). (let e = state_none db key x (says.3 out db) in ap frozen_state e ∙ sym e))
      (λ (ne : r.line n ≢ 0). (let e = (says.4 ne db key).state in ap frozen_state e ∙ sym e))
      (cases_eq (r.line n) 0)

  left : (db : ℕ) (key : List ℕ) → bared (state_at db key x) ≡ record nothing_kept { wish = (state_at db key x).wish }
  unfolding PhaseSays
  left db key = subst (λ (t : RecState). bared t ≡ record nothing_kept { wish = (state_at db key x).wish }) (still db key) (left_of_frozen (state_at db key x) (ap (λ (t : RecState). t.locked) (still db key) ∙ says.6 db key))

  db_ascends : (db : ℕ) → Ascends (db_at db x).records
  unfolding db_at
  db_ascends db = at_ascends x.dbs db own.known.order

  -- rows are those of databases that there are
  row_there : (db : ℕ) (key : List ℕ) (row : TableRow) → row_in a g db key ≡ Some row → db < length x.dbs
  row_there db key row e =
      let z = find_in (is_row_at db key) (a.tables g) row e in
      let p = has_place c row.db (all_tested (λ row. has_records (kind_at c row.db)) (a.tables g) kinds row z.0) in
      let d = same_db db key row z.1 in
      let l = own.size in omega arith

  no_row : (db : ℕ) (key : List ℕ) → length x.dbs ≤ db → row_in a g db key ≡ None
  no_row db key l = go (row_in a g db key) refl
    where
      go : (o : Option TableRow) → row_in a g db key ≡ o → o ≡ None
      go None e = refl
      go (Some row) e = absurd (let k = row_there db key row e in omega arith)

  pub same_length : length y.dbs ≡ length x.dbs
  unfolding installed_node
  same_length = installed_size n 0 (r.members g) (a.tables g) ptables x.dbs

  view_out : (db : ℕ) (key : List ℕ) → length x.dbs ≤ db → view db key y ≡ begun_view (s db key) (row_in a g db key) n (state_at db key x).wish x.next
  unfolding begun_state installed_node
  view_out db key l =
      let old = ap (λ (v : View). v.state.wish) (untouched_view db key x l) in
      let new = untouched_view db key y (let e = same_length in omega arith) in
      new ∙ sym (ap (λ (o : Option TableRow). begun_view (s db key) o n (state_at db key x).wish x.next) (no_row db key l)
      ∙ ap (λ (o : Option Wish). record { state = record nothing_kept { wish = o }; next = x.next; floor = 0 }) old)

  -- each record is as its world began
  pub view_is : (db : ℕ) (key : List ℕ) → view db key y ≡ begun_view (s db key) (row_in a g db key) n (state_at db key x).wish x.next
  view_is db key = ⊎_elim
      (λ (l : db < length x.dbs). begun_is_view c (era_of r a g) rules n f.sender g (a.tables g) ptables assigned x db key l (db_ascends db) line_lives.order member (left db key))
      (λ (l : length x.dbs ≤ db). view_out db key l)
      (cases_lt db (length x.dbs))

  pub wish_is : (db : ℕ) (key : List ℕ) → (state_at db key y).wish ≡ (state_at db key x).wish
  wish_is db key = ap (λ (v : View). v.state.wish) (view_is db key) ∙ begun_wish (s db key) (row_in a g db key) n (state_at db key x).wish

  -- what it makes of each row is below 2^62
  rows_low : (db : ℕ) (key : List ℕ) (row : TableRow) → row_in a g db key ≡ Some row → Is_low (s db key) n row
  rows_low db key row e =
      let z = find_in (is_row_at db key) (a.tables g) row e in (
        ltb-true row.rsn (2 ^ 62) (all_tested (λ row. nat_lt row.rsn (2 ^ 62)) (a.tables g) line_lives.rows_low row z.0),
        λ t. made_low n (r.members g) (a.tables g) (begins x) row whole z.0 (subst (λ (k : List ℕ). (nat_eq n (row_master row) || nat_eq n (master_of (r.members g) k)) ≡ true) (same_key db key row z.1) t),
      )

  pub world_is : (db : ℕ) (key : List ℕ) → (a.worlds g db key).nodes n ≡ begun_view (s db key) (row_in a g db key) n (state_at db key x).wish x.next
  unfolding PhaseSays
  world_is = says.7 said.1

  pub low : (db : ℕ) (key : List ℕ) → rsn_of ((a.worlds g db key).nodes n).state.copy < 2 ^ 62
  low db key = subst (λ (v : View). rsn_of v.state.copy < 2 ^ 62) (sym (world_is db key)) (begun_low (s db key) (row_in a g db key) n (state_at db key x).wish (rows_low db key))

  pub formed : (db : ℕ) (key : List ℕ) → Is_formed (s db key) n (view db key y)
  formed db key = (let k = own.formed db key in
      subst (λ (v : View). Is_formed (s db key) n v) (sym (view_is db key)) (begun_formed (s db key) (row_in a g db key) n x.next (state_at db key x).wish (rows_low db key) k.form.counters.from_one k.form.counters.next_limit k.form.shape.wish_wants k.form.numbers.wish_limit))
