-- The last reply of a round comes to its leader: a line is born, and its databases are those that are pushed.
use Rattle.std.proofs.Common.{◌≡◌, ◌≢◌, ℕ, ◌+◌, Bool, true, false, List, [], ◌∷◌, length, Option, None, Some, refl, sym, ap, ◌∙◌, subst, arith, inl, inr, ⊎_elim}
use Rattle.std.specs.Prelude.{◌⊎◌, is_some}
use Rattle.std.specs.List.{AllByRecursion}
use Rattle.std.proofs.lemmas.Bool.{cases_eq}
use Rattle.ct_values.specs.Words.{others}
use Rattle.ct_values.specs.declared.config.Config.{Config}
use Rattle.ct_frame.specs.declared.event.Note.TheVariants as note
use Rattle.ct_frame.specs.declared.event.Out.{Out}
use Rattle.ct_frame.specs.declared.event.Out.TheVariants as out
use Rattle.ct_frame.specs.declared.frame.Frame.{Frame}
use Rattle.ct_frame.specs.declared.round.Pull.{Pull}
use Rattle.ct_frame.specs.declared.round.PushBody.{PushBody}
use Rattle.ct_merge.proofs.Among.{In}
use Rattle.ct_merge.specs.Gathered.{Gathered, gathered, finished}
use Rattle.ct_rules_node.specs.Node.{Node, Installs, Committing, is_persistent, kind_at, name_of, db_at}
use Rattle.ct_rules_node.specs.Turn.{Turn, does, with_lead, notes, posts_all}
use Rattle.ct_rules_node.specs.Rounds.{body_of, push_of, pushes}
use Rattle.ct_rules_cluster.specs.Labels.{Label, Noted}
use Rattle.ct_rules_cluster.specs.Steps.{frames_of}
use Rattle.ct_rules_cluster.specs.declared.step.PendingCall.{PendingCall}
use Rattle.ct_register.proofs.Places.{at_same, at_other}
use Rattle.ct_register.specs.Database.{Database}
use Rattle.ct_register.specs.Births.{base_of}
use Rattle.ct_register.specs.Lines.{Lines}
use Rattle.ct_register.specs.Words.{at}
use Rattle.ct_law_generation.specs.Shown.{labels_of}
use Rattle.ct_law_generation.proofs.Pending.{Callers, Fits}
use Rattle.ct_law_registers.proofs.Parts.{Choice, goes, goes_on, note_goes, CanKeep, DatabasesNeed, AllNeed}
use Rattle.ct_law_registers.proofs.Facts.{Has, Gone, Bases, bases, owners, Counted, WaitsIn, Settles, MayWait, Stands, LeadStands, MailStands, Holds, Heir, after}
use Rattle.ct_law_registers.proofs.Stores.{Grown, Grow, grown_same, lead_later}
use Rattle.ct_law_databases.proofs.Changes.{by_node}
use Rattle.ct_law_databases.proofs.Kept.{Commits, Kept, IsCalm, frame_list, frames_stand, calm_labels, calm_stands, waits_same, settles_same}
use Rattle.ct_law_databases.proofs.Law.{ReplySays, Gathers, reply_of}
use Rattle.ct_law_databases.proofs.Outs.{posted, posted_outs}
use Rattle.ct_law_databases.proofs.Quiet.{all_quiet}
use Rattle.ct_law_databases.proofs.Choose.{q, kept, heir, pushed_store, can_keep, merged_parent, merged_at}

module _ (config : Config) (who : Callers) (x : Choice) (nodes : ℕ → Node) (fs : List Frame) (r : Lines) (has : Has) (n g : ℕ) (members missing : List ℕ) (y : Gathered) (p : Pull) (h : Holds config nodes (bases r) has) (mail : MailStands config (bases r) has fs)
    (replies : (f : Frame) → In f fs → ReplySays nodes (bases r) f.generation f.sender f.msg) (gathers : Gathers fs n g members missing y) (came : In (reply_of n g p) fs) (last : others p.node missing ≡ [])
    (sp : Bool) (calls : List PendingCall) (fits : AllByRecursion (Fits who) calls) (unborn : r.born g ≡ false) (real : (m : ℕ) → r.pline m ≢ 0 → r.born (r.pline m) ≡ true)
    (chosen : (db : ℕ) → x.kept db ≡ kept config nodes fs r has n g members missing y p h mail replies gathers came last db) where
  abbrev parent : ℕ
  parent = q config nodes fs r has n g members missing y p h mail replies gathers came last

  abbrev kept_of : ℕ → ℕ
  kept_of = kept config nodes fs r has n g members missing y p h mail replies gathers came last

  abbrev body : PushBody
  body = body_of n members (finished (gathered p y))

  abbrev begins : Turn
  begins = record { node = nodes n; outs = []; spent = sp }

  abbrev leads : Node
  leads = record (nodes n) { lead = Installs g members members body }

  abbrev then : ℕ → Node
  then = at n leads nodes

  -- the databases of the new line, where this is its parent
  abbrev first_of : ℕ → ℕ → Database
  first_of k db = base_of k (x.kept db) (r.databases k db)

  abbrev born_from : ℕ → Bases
  born_from k = record (bases r) { databases = at g (first_of k) r.databases; born = at g true r.born }

  abbrev new : Bases
  new = born_from parent

  -- what holds of the new line's databases, and of all others, holds of all
  dbs_are : (P : ℕ → ℕ → Database → Type 0) → ((i : ℕ) → P g i (first_of parent i)) → ((k i : ℕ) → k ≢ g → P k i (r.databases k i)) → (k i : ℕ) → P k i (new.databases k i)
  dbs_are P own rest k i = ⊎_elim
      (λ (e : k ≡ g). subst (λ (f : ℕ → Database). P k i (f i)) (sym (at_same g k (first_of parent) r.databases e)) (subst (λ (j : ℕ). P j i (first_of parent i)) (sym e) (own i)))
      (λ (ne : k ≢ g). subst (λ (f : ℕ → Database). P k i (f i)) (sym (at_other g k (first_of parent) r.databases ne)) (rest k i ne)) (cases_eq k g)

  none_before : (i : ℕ) → length (r.databases g i).commits ≡ 0
  none_before i = ap length (h.unborn g i unborn)

  has_none : (m i : ℕ) → has g m i ≡ 0
  has_none m i = (let w = (h.counted g i).within m in let e = none_before i in omega arith)

  not_born : (k : ℕ) → r.born k ≡ true → k ≢ g
  not_born k e same = absurd (let f : true ≡ false = sym e ∙ ap r.born same ∙ unborn in cc)

  new_grows : Grow (bases r) new has has
  new_grows = record {
    born = λ k e. at_other g k true r.born (not_born k e) ∙ e;
    databases = λ k i e. subst (λ (f : ℕ → Database). Grown (r.databases k i) (f i)) (sym (at_other g k (first_of parent) r.databases (not_born k e))) (grown_same (r.databases k i));
    rises = λ k m i. omega arith;
    members = λ k e. refl;
  }

  body_stands : Stands config new has g n (push_of body)
  unfolding Stands push_of body_of
  body_stands = (
    at_same g g true r.born refl,
    λ db s kind. pushed_store config nodes fs r has n g members missing y p h mail replies gathers came last db kind (finished (gathered p y)).ptables.ptables s (merged_at config nodes fs r has n g members missing y p h mail replies gathers came last db)
        ∙ ap (λ (j : ℕ). record { seq = (r.databases parent db).seq + j; pairs = (base_of parent j (r.databases parent db)).base }) (sym (chosen db))
        ∙ ap (λ (f : ℕ → Database). record { seq = (f db).seq; pairs = (f db).base }) (sym (at_same g g (first_of parent) r.databases refl)),
  )

  born_counted : (i : ℕ) → Counted (r.members g) (first_of parent i) (λ m. has g m i)
  born_counted i = record { within = λ m. (let e = has_none m i in omega arith); known = omega arith; acked = λ m among. omega arith; seen = λ m. omega arith; begun = λ m e. absurd (cc) }

  none_at : (k : ℕ) (ms : List ℕ) (i : ℕ) (o : Option Committing) → MayWait k ms (r.databases g i) (λ j. has g j i) o → MayWait k ms (first_of parent i) (λ j. has g j i) o
  unfolding MayWait
  none_at k ms i None w = tt
  none_at k ms i (Some z) w = absurd (let e = none_before i in let u = w.unacknowledged in omega arith)

  new_holds : Holds config then new has
  unfolding db_at LeadStands
  new_holds = record {
    stores = λ m i. by_node (λ (k : ℕ) (z : Node). is_persistent (kind_at config i) ≡ true → r.pline k ≢ 0 → (db_at i z).store ≡ after (has (r.pline k) k i) (new.databases (r.pline k) i)) nodes n leads
        (λ kind line. h.stores n i kind line ∙ ap (λ (f : ℕ → Database). after (has (r.pline n) n i) (f i)) (sym (at_other g (r.pline n) (first_of parent) r.databases (not_born (r.pline n) (real n line)))))
        (λ k ne kind line. h.stores k i kind line ∙ ap (λ (f : ℕ → Database). after (has (r.pline k) k i) (f i)) (sym (at_other g (r.pline k) (first_of parent) r.databases (not_born (r.pline k) (real k line))))) m;
    fresh = h.fresh;
    unborn = λ k i e. dbs_are (λ (l j : ℕ) (d : Database). at g true r.born l ≡ false → d.commits ≡ []) (λ j f. refl) (λ l j ne f. h.unborn l j (sym (at_other g l true r.born ne) ∙ f)) k i e;
    others = λ k i e. dbs_are (λ (l j : ℕ) (d : Database). is_persistent (kind_at config j) ≡ false → d.commits ≡ []) (λ j f. refl) (λ l j ne f. h.others l j f) k i e;
    counted = dbs_are (λ (l j : ℕ) (d : Database). Counted (r.members l) d (λ m. has l m j)) born_counted (λ l j ne. h.counted l j);
    waits = λ m i. by_node (λ (k : ℕ) (z : Node). MayWait k (r.members (r.line k)) (new.databases (r.line k) i) (λ j. has (r.line k) j i) (db_at i z).commit) nodes n leads (waits_of n i) (λ k ne. waits_of k i) m;
    committing = λ m i. by_node (λ (k : ℕ) (z : Node). r.line k ≢ 0 → (new.databases (r.line k) i).committer ≡ Some k → is_some (db_at i z).commit ≡ true) nodes n leads (committing_of n i) (λ k ne. committing_of k i) m;
    leads = λ m. by_node (λ (k : ℕ) (z : Node). LeadStands config new has k z.lead) nodes n leads body_stands
        (λ k ne. lead_later config (bases r) new has has k (nodes k).lead new_grows (λ l i j. (h.counted l i).within j) (h.leads k)) m;
  }
    where
      committing_of : (k i : ℕ) → r.line k ≢ 0 → (new.databases (r.line k) i).committer ≡ Some k → is_some (db_at i (nodes k)).commit ≡ true
      committing_of k i line e = h.committing k i line (dbs_are (λ (l j : ℕ) (d : Database). d.committer ≡ Some k → (r.databases l j).committer ≡ Some k) (λ j f. absurd (cc)) (λ l j ne f. f) (r.line k) i e)

      waits_of : (k i : ℕ) → MayWait k (r.members (r.line k)) (new.databases (r.line k) i) (λ j. has (r.line k) j i) (db_at i (nodes k)).commit
      waits_of k i = dbs_are (λ (l j : ℕ) (d : Database). MayWait k (r.members l) (r.databases l j) (λ m. has l m j) (db_at j (nodes k)).commit → MayWait k (r.members l) d (λ m. has l m j) (db_at j (nodes k)).commit)
          (λ j. none_at k (r.members g) j (db_at j (nodes k)).commit) (λ l j ne w. w) (r.line k) i (h.waits k i)

  abbrev first : Label
  first = Noted n (note.Round g members body.vparent body.pparent)

  first_goes : bases (goes config x first r) ≡ new
  unfolding goes note_goes body_of
  first_goes = ap born_from (merged_parent config nodes fs r has n g members missing y p h mail replies gathers came last)

  first_needs : DatabasesNeed config x r first
  unfolding DatabasesNeed body_of
  first_needs = subst (λ (k : ℕ). CanKeep r members k x.kept) (sym (merged_parent config nodes fs r has n g members missing y p h mail replies gathers came last))
      (subst (CanKeep r members parent) (λ i db. sym (chosen db) i) (can_keep config nodes fs r has n g members missing y p h mail replies gathers came last))

  new_settles : (later : Gone) (k i : ℕ) → Settles config nodes (bases r) later k i → Settles config then new later k i
  unfolding db_at
  new_settles later k i = dbs_are (λ (l j : ℕ) (d : Database). Settles config nodes (bases r) later l j → (d.acked ≡ length d.commits) ⊎ WaitsIn then r.line l j ⊎ (later l (name_of config j) ≡ true))
      (λ j old. inl refl)
      (λ l j ne. settles_same config nodes then (bases r) (bases r) later l j refl (waits_same nodes r.line n leads l j refl)) k i

  -- the new line took over what its parent had taken over, and of its parent what a member had
  new_heirs : (l k i j : ℕ) → is_persistent (kind_at config i) ≡ true → (new.databases l i).from k ≡ Some j → ((m : ℕ) × ((r.databases m i).from k ≡ Some j)) ⊎ Heir nodes (bases r) has k i j
  new_heirs l k i j kind = dbs_are (λ (m b : ℕ) (d : Database). is_persistent (kind_at config b) ≡ true → d.from k ≡ Some j → ((m : ℕ) × ((r.databases m b).from k ≡ Some j)) ⊎ Heir nodes (bases r) has k b j)
      (λ b own e. ⊎_elim
      (λ (same : k ≡ parent).
      let told : Some ((r.databases parent b).seq + x.kept b) ≡ Some j = sym (at_same parent k (Some ((r.databases parent b).seq + x.kept b)) (r.databases parent b).from same) ∙ e in
      let number : (r.databases parent b).seq + kept_of b ≡ j = ap (λ (c : ℕ). (r.databases parent b).seq + c) (sym (chosen b)) ∙ (cc) in
      inr (subst (λ (c : ℕ). Heir nodes (bases r) has c b j) (sym same) (subst (Heir nodes (bases r) has parent b) number (heir config nodes fs r has n g members missing y p h mail replies gathers came last b own))))
      (λ (ne : k ≢ parent). inl (parent, sym (at_other parent k (Some ((r.databases parent b).seq + x.kept b)) (r.databases parent b).from ne) ∙ e))
      (cases_eq k parent))
      (λ m b ne own e. inl (m, e)) l i kind

  round_kept : (more : List Out) → AllByRecursion (IsCalm config who new has) more → Kept config x nodes then r has has (first ∷ labels_of n calls more) (frame_list more)
  unfolding AllNeed goes_on
  round_kept more calm =
      let quiet = all_quiet config new x (labels_of n calls more) (goes config x first r) first_goes (calm_labels config who new has n calls more fits calm) in
      let is : new ≡ bases (goes_on config x (labels_of n calls more) (goes config x first r)) = sym (quiet.1 ∙ first_goes) in
      record {
        needs = (first_needs, quiet.0);
        holds = subst (λ (b : Bases). Holds config then b has) is new_holds;
        grow = subst (λ (b : Bases). Grow (bases r) b has has) is new_grows;
        sent = subst (λ (b : Bases). MailStands config b has (frame_list more)) is (frames_stand config new has more (calm_stands config who new has more calm));
        still = λ k m db away. refl;
        settling = λ later ends k i kind. subst (λ (b : Bases). Settles config nodes (bases r) later k i → Settles config then b later k i) is (new_settles later k i);
        commits = λ k i kind. subst (λ (b : Bases). Commits b has (owners config r) (length (r.databases k i).commits) k i) is
            (dbs_are (λ (l j : ℕ) (d : Database). (length d.commits ≡ length (r.databases l j).commits) ⊎ ((m : ℕ) × (owners config r l j ≡ Some m) × (has l m j ≡ length d.commits)) ⊎ ((m : ℕ) → has l m j ≡ length d.commits))
            (λ j. inr (inr (λ m. has_none m j))) (λ l j ne. inl refl) k i);
        heirs = λ l k i j kind e. new_heirs l k i j kind (ap (λ (b : Bases). (b.databases l i).from k) is ∙ e);
      }

  -- the last reply of a round
  pub round_holds : (let u = pushes n g members body begins in Kept config x nodes (at n u.node nodes) r has has (labels_of n calls u.outs) (frame_list u.outs))
  unfolding pushes notes does with_lead labels_of frames_of IsCalm
  round_holds =
      let t : Turn = record { node = leads; outs = out.Note (note.Round g members body.vparent body.pparent) ∷ []; spent = sp } in
      let k = posted_outs (IsCalm config who new has) g n members (push_of body) t (λ m. body_stands) in
      subst (λ (z : Node). Kept config x nodes (at n z nodes) r has has (labels_of n calls (posts_all g n members (push_of body) t).outs) (frame_list (posts_all g n members (push_of body) t).outs)) (sym (posted g n members (push_of body) t))
      (subst (λ (l : List Out). Kept config x nodes then r has has (labels_of n calls l) (frame_list l)) (sym k.1) (round_kept k.0 k.2))
