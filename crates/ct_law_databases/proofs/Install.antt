-- A node installs a line: it has each database as the line began with it.
use Rattle.std.proofs.Common.{◌≡◌, ◌≢◌, ℕ, zero, suc, ◌+◌, ◌<◌, ◌≤◌, Bool, true, false, cond, ◌||◌, not, List, [], ◌∷◌, ◌++◌, length, append-nil, append_assoc, None, Some, refl, sym, ap, ◌∙◌, subst, arith, inl, inr, ⊎_elim, Option}
use Rattle.std.specs.Prelude.{◌⊎◌, slice_get, nat_eq, is_some}
use Rattle.std.specs.List.{AllByRecursion, filter}
use Rattle.std.proofs.lemmas.Bool.{cases_eq}
use Rattle.ct_lcp2.proofs.Choices.{all_append}
use Rattle.ct_values.specs.declared.address.Address.{Address}
use Rattle.ct_values.specs.declared.config.Config.{Config}
use Rattle.ct_frame.specs.declared.event.Note.TheVariants as note
use Rattle.ct_frame.specs.declared.event.Out.{Out}
use Rattle.ct_frame.specs.declared.event.Out.TheVariants as out
use Rattle.ct_frame.specs.declared.frame.Assigned.{Assigned}
use Rattle.ct_frame.specs.declared.frame.Msg.TheVariants as msg
use Rattle.ct_frame.specs.declared.frame.PTable.{PTable}
use Rattle.ct_frame.specs.declared.frame.TableRow.{TableRow}
use Rattle.ct_persist.specs.Updates.{contents}
use Rattle.ct_rules_node.specs.Node.{Node, is_persistent, kind_at, name_of, db_at, or_untouched, master_of}
use Rattle.ct_rules_node.specs.Node as node
use Rattle.ct_rules_node.specs.Turn.{Turn, does, with_node, makes, notes, posts}
use Rattle.ct_rules_node.specs.Rounds.{store_from, row_master, installed_db, installed_dbs, installed_node, is_own, releases, makes_rows, installs}
use Rattle.ct_rules_cluster.specs.Labels.{Noted}
use Rattle.ct_rules_cluster.specs.Steps.{frames_of}
use Rattle.ct_rules_cluster.specs.declared.step.PendingCall.{PendingCall}
use Rattle.ct_register.proofs.Places.{at_same, at_other}
use Rattle.ct_register.specs.Database.{Database}
use Rattle.ct_register.specs.Lines.{Lines}
use Rattle.ct_register.specs.Words.{at}
use Rattle.ct_law_generation.specs.Shown.{labels_of}
use Rattle.ct_law_generation.proofs.Pending.{Callers, Fits}
use Rattle.ct_law_registers.proofs.Parts.{Choice, goes, goes_on, note_goes, DatabasesNeed, AllNeed}
use Rattle.ct_law_registers.proofs.Facts.{Has, Gone, Bases, bases, WaitsIn, Settles, MayWait, Stands, LeadStands, MailStands, Holds, after}
use Rattle.ct_law_registers.proofs.Stores.{Grow, grown_same, lead_later}
use Rattle.ct_law_databases.proofs.Changes.{by_node}
use Rattle.ct_law_databases.proofs.Kept.{Kept, IsCalm, frame_list, frames_stand, calm_labels, calm_stands}
use Rattle.ct_law_databases.proofs.Outs.{is_below}
use Rattle.ct_law_databases.proofs.Quiet.{IsQuietNote, all_quiet}
use Rattle.ct_law_databases.proofs.Alike.{IsAlike, alike_same, alike_after, alike_holds, alike_grows, alike_settles}
use Rattle.ct_law_databases.proofs.Stop.{none_waits}

-- ---- what the node becomes

installed_at : (me i : ℕ) (members : List ℕ) (table : List TableRow) (ptables : List PTable) (ds : List node.Database) (k : ℕ) → k < length ds → (or_untouched (slice_get (installed_dbs me i members table ptables ds) k)).store ≡ store_from (i + k) ptables (or_untouched (slice_get ds k)).store
unfolding installed_dbs installed_db or_untouched
installed_at me i members table ptables [] k l = absurd (omega arith)
installed_at me i members table ptables (d ∷ ds) zero l = ap (λ (j : ℕ). store_from j ptables d.store) (let e : i ≡ i + 0 = omega arith in e)
installed_at me i members table ptables (d ∷ ds) (suc k) l = installed_at me (i + 1) members table ptables ds k (omega arith) ∙ ap (λ (j : ℕ). store_from j ptables (or_untouched (slice_get ds k)).store) (let e : (i + 1) + k ≡ i + suc k = omega arith in e)

installed_commit : (me i : ℕ) (members : List ℕ) (table : List TableRow) (ptables : List PTable) (ds : List node.Database) (k : ℕ) → (or_untouched (slice_get (installed_dbs me i members table ptables ds) k)).commit ≡ (or_untouched (slice_get ds k)).commit
unfolding installed_dbs installed_db or_untouched
installed_commit me i members table ptables [] k = refl
installed_commit me i members table ptables (d ∷ ds) zero = refl
installed_commit me i members table ptables (d ∷ ds) (suc k) = installed_commit me (i + 1) members table ptables ds k

-- numbers that are made change nothing else
rows_outs : (me : ℕ) (members : List ℕ) (table : List TableRow) (t : Turn) → (makes_rows me members table t).outs ≡ t.outs
unfolding makes_rows makes
rows_outs me members [] t = refl
rows_outs me members (row ∷ rows) t = rows_outs me members rows _ ∙ by (nat_eq me (row_master row) || nat_eq me (master_of members row.key))
  where
    by : (b : Bool) → (cond b (makes (row.rsn + 1) t) t).outs ≡ t.outs
    by true = refl
    by false = refl

released : (P : Out → Type 0) (xs : List Address) (t : Turn) → ((a : Address) → P (out.Note (note.Released a))) → ((releases xs t).node ≡ t.node) × ((more : List Out) × ((releases xs t).outs ≡ t.outs ++ more) × AllByRecursion P more)
unfolding releases notes does
released P [] t h = (refl, ([], sym (append-nil t.outs), tt))
released P (a ∷ rest) t h =
    let k = released P rest (notes (note.Released a) t) h in
    (k.0, (out.Note (note.Released a) ∷ k.1.0, k.1.1 ∙ append_assoc t.outs (out.Note (note.Released a) ∷ []) k.1.0, (h a, k.1.2)))

-- ---- the line begins at the node

module _ (config : Config) (who : Callers) (x : Choice) (nodes : ℕ → Node) (r : Lines) (has : Has) (n leader g from : ℕ) (members : List ℕ) (table : List TableRow) (ptables : List PTable) (assigned : List Assigned) (sp : Bool) (calls : List PendingCall) (fits : AllByRecursion (Fits who) calls) (h : Holds config nodes (bases r) has)
    (older : r.pline n < g) (size : length (nodes n).dbs ≡ length config.dbs) (quiet : (db : ℕ) → (db_at db (nodes n)).commit ≡ None) (says : Stands config (bases r) has g from (msg.Push members table ptables assigned)) where
  abbrev begins : Turn
  begins = record { node = nodes n; outs = []; spent = sp }

  abbrev y : Node
  y = installed_node config n leader g members table ptables assigned (nodes n)

  abbrev then : ℕ → Node
  then = at n y nodes

  abbrev seen_none : ℕ → Database
  seen_none db = record (r.databases g db) { seen = at n 0 (r.databases g db).seen }

  abbrev dbs : ℕ → ℕ → Database
  dbs = at g seen_none r.databases

  abbrev mid : Bases
  mid = record (bases r) { databases = dbs }

  abbrev new : Bases
  new = record mid { line = at n g r.line; pline = at n g r.pline }

  dbs_are : (P : ℕ → ℕ → Database → Type 0) → ((i : ℕ) → P g i (seen_none i)) → ((k i : ℕ) → k ≢ g → P k i (r.databases k i)) → (k i : ℕ) → P k i (dbs k i)
  dbs_are P own rest k i = ⊎_elim
      (λ (e : k ≡ g). subst (λ (f : ℕ → Database). P k i (f i)) (sym (at_same g k seen_none r.databases e)) (subst (λ (j : ℕ). P j i (seen_none i)) (sym e) (own i)))
      (λ (ne : k ≢ g). subst (λ (f : ℕ → Database). P k i (f i)) (sym (at_other g k seen_none r.databases ne)) (rest k i ne)) (cases_eq k g)

  alike : (k i : ℕ) → IsAlike (r.databases k i) (dbs k i)
  alike = dbs_are (λ k i d. IsAlike (r.databases k i) d) (λ i. record { seq = refl; base = refl; from = refl; commits = refl; committer = refl; acked = refl }) (λ k i ne. alike_same (r.databases k i))

  seen : (k i m : ℕ) → (dbs k i).seen m ≤ has k m i
  seen k i m = dbs_are (λ k i d. d.seen m ≤ has k m i)
      (λ i. ⊎_elim (λ (e : m ≡ n). (let s = at_same n m 0 (r.databases g i).seen e in omega arith)) (λ (ne : m ≢ n). (let s = at_other n m 0 (r.databases g i).seen ne in let w = (h.counted g i).seen m in omega arith)) (cases_eq m n))
      (λ k i ne. (h.counted k i).seen m) k i

  mid_holds : Holds config nodes mid has
  mid_holds = alike_holds config nodes (bases r) has dbs alike seen h

  y_commit : (db : ℕ) → (db_at db y).commit ≡ None
  unfolding installed_node db_at
  y_commit db = installed_commit n 0 members table ptables (nodes n).dbs db ∙ quiet db

  -- without commits a database is as it began
  at_birth : (d : Database) → record { seq = d.seq; pairs = d.base } ≡ after 0 d
  unfolding contents
  at_birth d = (let e : d.seq ≡ d.seq + 0 = omega arith in (λ i. record { seq = e i; pairs = d.base }))

  y_store : (db : ℕ) → is_persistent (kind_at config db) ≡ true → (db_at db y).store ≡ after (has g n db) (dbs g db)
  unfolding installed_node db_at Stands
  y_store db kind =
      let below : db < length (nodes n).dbs = (let l = is_below config db kind in omega arith) in
      let zero_more : 0 + db ≡ db = omega arith in
      installed_at n 0 members table ptables (nodes n).dbs db below
      ∙ ap (λ (j : ℕ). store_from j ptables (or_untouched (slice_get (nodes n).dbs db)).store) zero_more
      ∙ says.1 db (or_untouched (slice_get (nodes n).dbs db)).store kind
      ∙ at_birth (r.databases g db) ∙ ap (λ (j : ℕ). after j (r.databases g db)) (sym (h.fresh g n db older)) ∙ sym (alike_after (has g n db) (r.databases g db) (dbs g db) (alike g db))

  new_grows : Grow mid new has has
  new_grows = record { born = λ k e. e; databases = λ k i e. grown_same (dbs k i); rises = λ k m i. omega arith; members = λ k e. refl }

  new_holds : Holds config then new has
  unfolding installed_node
  new_holds = record {
    stores = λ m db. by_node (λ (k : ℕ) (z : Node). is_persistent (kind_at config db) ≡ true → at n g r.pline k ≢ 0 → (db_at db z).store ≡ after (has (at n g r.pline k) k db) (dbs (at n g r.pline k) db)) nodes n y
        (λ kind line. subst (λ (l : ℕ). (db_at db y).store ≡ after (has l n db) (dbs l db)) (sym (at_same n n g r.pline refl)) (y_store db kind))
        (λ k ne. subst (λ (l : ℕ). is_persistent (kind_at config db) ≡ true → l ≢ 0 → (db_at db (nodes k)).store ≡ after (has l k db) (dbs l db)) (sym (at_other n k g r.pline ne)) (mid_holds.stores k db)) m;
    fresh = λ k m db below. ⊎_elim
        (λ (e : m ≡ n). subst (λ (j : ℕ). has k j db ≡ 0) (sym e) (h.fresh k n db (let l = at_same n m g r.pline e in let o = older in omega arith)))
        (λ (ne : m ≢ n). h.fresh k m db (let l = at_other n m g r.pline ne in omega arith)) (cases_eq m n);
    unborn = mid_holds.unborn;
    others = mid_holds.others;
    counted = mid_holds.counted;
    waits = λ m db. by_node (λ (k : ℕ) (z : Node). MayWait k (r.members (at n g r.line k)) (dbs (at n g r.line k) db) (λ j. has (at n g r.line k) j db) (db_at db z).commit) nodes n y
        (none_waits n _ _ _ _ (y_commit db))
        (λ k ne. subst (λ (l : ℕ). MayWait k (r.members l) (dbs l db) (λ j. has l j db) (db_at db (nodes k)).commit) (sym (at_other n k g r.line ne)) (mid_holds.waits k db)) m;
    committing = λ m db. by_node (λ (k : ℕ) (z : Node). at n g r.line k ≢ 0 → (dbs (at n g r.line k) db).committer ≡ Some k → is_some (db_at db z).commit ≡ true) nodes n y
        (λ line e. absurd (let k = (mid_holds.counted g db).begun n (subst (λ (l : ℕ). (dbs l db).committer ≡ Some n) (at_same n n g r.line refl) e) in let none = h.fresh g n db older in let a = k.0 in let c = k.1 in omega arith))
        (λ k ne. subst (λ (l : ℕ). l ≢ 0 → (dbs l db).committer ≡ Some k → is_some (db_at db (nodes k)).commit ≡ true) (sym (at_other n k g r.line ne)) (mid_holds.committing k db)) m;
    leads = λ m. by_node (λ (k : ℕ) (z : Node). LeadStands config new has k z.lead) nodes n y
        (lead_later config mid new has has n (nodes n).lead new_grows (λ k db j. (mid_holds.counted k db).within j) (mid_holds.leads n))
        (λ k ne. lead_later config mid new has has k (nodes k).lead new_grows (λ l db j. (mid_holds.counted l db).within j) (mid_holds.leads k)) m;
  }

  new_settles : (later : Gone) (k db : ℕ) → Settles config nodes (bases r) later k db → Settles config then new later k db
  new_settles later k db old = ⊎_elim
      (λ (e : (dbs k db).acked ≡ length (dbs k db).commits). inl e)
      (λ (o : WaitsIn nodes r.line k db ⊎ (later k (name_of config db) ≡ true)). inr (⊎_elim
      (λ (w : WaitsIn nodes r.line k db). inl (moves w))
      (λ (e : later k (name_of config db) ≡ true). inr e) o))
      (alike_settles config nodes (bases r) has dbs alike later k db old)
    where
      moves : WaitsIn nodes r.line k db → WaitsIn then new.line k db
      moves w = ⊎_elim
          (λ (e : w.0 ≡ n). absurd (let none : None ≡ Some w.2 = sym (quiet db) ∙ ap (λ (j : ℕ). (db_at db (nodes j)).commit) (sym e) ∙ w.3 in cc))
          (λ (ne : w.0 ≢ n). (w.0, at_other n w.0 g r.line ne ∙ w.1, w.2, ap (λ (z : Node). (db_at db z).commit) (at_other n w.0 y nodes ne) ∙ w.3)) (cases_eq w.0 n)

  -- what is done after the installation is noted
  push_kept : (more : List Out) → AllByRecursion (IsCalm config who new has) more → Kept config x nodes then r has has (Noted n (note.Installed g) ∷ labels_of n calls more) (frame_list more)
  unfolding AllNeed DatabasesNeed goes_on goes note_goes
  push_kept more calm =
      let q = all_quiet config new x (labels_of n calls more) (goes config x (Noted n (note.Installed g)) r) refl (calm_labels config who new has n calls more fits calm) in
      let is : new ≡ bases (goes_on config x (labels_of n calls more) (goes config x (Noted n (note.Installed g)) r)) = sym q.1 in
      let a = alike_grows config nodes (bases r) has dbs alike in
      record {
        needs = (tt, q.0);
        holds = subst (λ (b : Bases). Holds config then b has) is new_holds;
        grow = subst (λ (b : Bases). Grow (bases r) b has has) is (record { born = a.born; databases = a.databases; rises = a.rises; members = a.members });
        sent = subst (λ (b : Bases). MailStands config b has (frame_list more)) is (frames_stand config new has more (calm_stands config who new has more calm));
        still = λ k m db away. refl;
        settling = λ later ends k db kind. subst (λ (b : Bases). Settles config nodes (bases r) later k db → Settles config then b later k db) is (new_settles later k db);
        commits = λ k db kind. inl (ap (λ (b : Bases). length (b.databases k db).commits) (sym is) ∙ ap length (alike k db).commits);
        heirs = λ l k db j kind e. inl (l, sym (ap (λ (f : ℕ → Option ℕ). f k) (alike l db).from) ∙ ap (λ (b : Bases). (b.databases l db).from k) is ∙ e);
      }

  -- an installation
  pub push_holds : (let u = posts g n leader msg.PushAck (installs config n leader g members table ptables assigned begins) in Kept config x nodes (at n u.node nodes) r has has (labels_of n calls u.outs) (frame_list u.outs))
  unfolding installs posts does notes with_node labels_of frames_of IsCalm IsQuietNote Stands
  push_holds =
      let rows : (makes_rows n members table begins).outs ≡ [] = rows_outs n members table begins in
      let mid_turn : Turn = record (makes_rows n members table begins) { node = y; outs = (makes_rows n members table begins).outs ++ out.Note (note.Installed g) ∷ [] } in
      let k = released (IsCalm config who new has) (filter (λ a. not (is_own n assigned a)) (nodes n).held) mid_turn (λ a. tt) in
      let ack = out.Send (record { generation = g; sender = n; receiver = leader; msg = msg.PushAck }) in
      let rest = k.1.0 ++ ack ∷ [] in
      let calm : AllByRecursion (IsCalm config who new has) rest = all_append (IsCalm config who new has) k.1.0 (ack ∷ []) k.1.2 (tt, tt) in
      let outs : (releases (filter (λ a. not (is_own n assigned a)) (nodes n).held) mid_turn).outs ++ ack ∷ [] ≡ out.Note (note.Installed g) ∷ rest
      = ap (λ (l : List Out). l ++ ack ∷ []) (k.1.1 ∙ ap (λ (l : List Out). (l ++ out.Note (note.Installed g) ∷ []) ++ k.1.0) rows) in
      subst (λ (z : Node). Kept config x nodes (at n z nodes) r has has (labels_of n calls ((releases (filter (λ a. not (is_own n assigned a)) (nodes n).held) mid_turn).outs ++ ack ∷ [])) (frame_list ((releases (filter (λ a. not (is_own n assigned a)) (nodes n).held) mid_turn).outs ++ ack ∷ []))) (sym k.0)
      (subst (λ (l : List Out). Kept config x nodes then r has has (labels_of n calls l) (frame_list l)) (sym outs) (push_kept rest calm))
