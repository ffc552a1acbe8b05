-- The arrival of a Freeze above the promise: the registers accept what is told, all lines live on, and so does the node.
use Rattle.std.proofs.Common.{◌≡◌, ◌≢◌, ℕ, zero, suc, ◌+◌, ◌<◌, Bool, true, false, cond, ◌||◌, List, [], ◌∷◌, ◌++◌, length, Option, None, Some, ⊎_elim, refl, sym, ap, ◌∙◌, subst, arith}
use Rattle.std.specs.Prelude.{nat_eq, is_some, slice_get}
use Rattle.std.proofs.lemmas.Bool.{cases_eq, eq-eqb, or_right}
use Rattle.ct_values.specs.declared.config.Config.{Config}
use Rattle.ct_frame.specs.declared.event.Out.{Out}
use Rattle.ct_frame.specs.declared.frame.Frame.{Frame}
use Rattle.ct_call.specs.Rules.{Rules}
use Rattle.ct_values.specs.declared.config.DbDecl.{DbDecl}
use Rattle.ct_rules_node.specs.Node.{Node, Database, Committing, untouched, or_untouched, is_persistent, has_records, kind_at, kind_in, name_of, db_at}
use Rattle.ct_rules_cluster.specs.Cluster.{Cluster}
use Rattle.ct_rules_cluster.specs.declared.step.PendingCall.{PendingCall}
use Rattle.ct_register.specs.Register.{Register}
use Rattle.ct_register.specs.Lines.{Lines}
use Rattle.ct_register.specs.Legal.{AcceptsLabels}
use Rattle.ct_register.specs.Marks.{MarksStep}
use Rattle.ct_promise.specs.Promises.{IsConfig}
use Rattle.ct_promise.specs.Generation.{record_labels}
use Rattle.ct_law_record.specs.World.{unlocked}
use Rattle.ct_law_record.proofs.Invariant.{span_of}
use Rattle.ct_law_record.proofs.Markings.{goes_stays}
use Rattle.ct_law_record.specs.Marked as law_marked
use Rattle.ct_law_record.proofs.MarkLists.{marks_go}
use Rattle.ct_law_record.proofs.MarkedRun.{marks_of}
use Rattle.ct_law_record.proofs.Law as law
use Rattle.ct_law_generation.specs.Shown.{scene, mails, labels_of}
use Rattle.ct_law_generation.proofs.Pending.{Callers}
use Rattle.ct_law_run.proofs.Ages.{Ages, era_of, LinesLive}
use Rattle.ct_law_run.proofs.Lives.{NodeLives, WasSent}
use Rattle.ct_law_run.proofs.Begetting.{same_lives}
use Rattle.ct_law_run.proofs.Later.{Keeps, keeps_view}
use Rattle.ct_law_run.proofs.Ends.{is_ended, ends_out, ends_outs, ended_is}
use Rattle.ct_law_run.proofs.Freed
use Rattle.ct_law_run.proofs.Freed.{Freeing}
use Rattle.ct_law_run.proofs.Telling.{all_ended, all_here, all_elsewhere, ends_accepted, All_untold, All_owned, All_differ}
use Rattle.ct_law_plain.proofs.Names.{names_differ}
use Rattle.ct_law_run.proofs.Stood.{Stood}

-- the database of locks has records
locks_have_records : (c : Config) → IsConfig c → has_records (kind_at c 0) ≡ true
unfolding has_records kind_at kind_in
locks_have_records c h = subst (λ (ds : List DbDecl). has_records (kind_in (slice_get ds 0)) ≡ true) (sym h.2.2) refl

-- what must be asked of an event beside what a face asks: a message that comes was sent, to this node
pub record HasCome (w : Cluster) (n : ℕ) (f : Frame) : Type 0 where
  pub sent : WasSent w f
  pub receiver : f.receiver ≡ n

-- what must be known of a node beside NodeLives: a commit that waits is of a persistent database
abbrev pub CommitsPersist : Config → Node → Type 0
CommitsPersist c x = (db : ℕ) (k : Committing) → (db_at db x).commit ≡ Some k → is_persistent (kind_at c db) ≡ true

-- ---- the lines

-- what the ends of locks make of registers and worlds
pub record Freed_lines (c : Config) (rules : Rules) (v : Cluster) (r : Lines) (a : Ages) (n : ℕ) (pend : List PendingCall) (x : Node) : Type 0 where
  pub records : ℕ → ℕ → List ℕ → Register
  pub ages : Ages
  pub accepts : AcceptsLabels c rules r (record_labels c (labels_of n pend (ends_outs c 0 x.dbs))) (record r { records = records })
  pub tables : (g : ℕ) → ages.tables g ≡ a.tables g
  pub lives : LinesLive c rules v (record r { records = records }) ages
  pub others : (k : ℕ) → k ≢ n → (m db : ℕ) (key : List ℕ) → (ages.worlds m db key).nodes k ≡ (a.worlds m db key).nodes k
  pub copies : (m db : ℕ) (key : List ℕ) → ((ages.worlds m db key).nodes n).state.copy ≡ ((a.worlds m db key).nodes n).state.copy
  pub keeps : (m db : ℕ) (key : List ℕ) → Keeps ((a.worlds m db key).nodes n) ((ages.worlds m db key).nodes n)
  pub here : r.line n ≢ 0 → (db : ℕ) (key : List ℕ) → (ages.worlds (r.line n) db key).nodes n ≡ cond (is_ended c 0 x.dbs db key) (unlocked ((a.worlds (r.line n) db key).nodes n)) ((a.worlds (r.line n) db key).nodes n)
  pub marks : (m db : ℕ) (key : List ℕ) → r.born m ≡ true → MarksStep false (marks_of (a.ghosts m db key)) (marks_of (ages.ghosts m db key))

pub resent : (c : Config) (rules : Rules) (w v : Cluster) (r : Lines) (a : Ages) → ((m db : ℕ) (key : List ℕ) → mails m db key v.sent ≡ mails m db key w.sent) → LinesLive c rules w r a → LinesLive c rules v r a
resent c rules w v r a same live = record {
  first = live.first;
  none = live.none;
  line = λ m e. same_lives c rules w v r r a a m (record { members = refl; installed = refl; records = refl; worlds = refl; ghosts = refl; tables = refl; mail = same m }) (live.line m e);
  silent = λ m db key e. same m db key ∙ live.silent m db key e;
  uninstalled = live.uninstalled;
  unowned = live.unowned;
}

no_ends : (c : Config) (i : ℕ) (ds : List Database) → ((k : ℕ) → (or_untouched (slice_get ds k)).commit ≡ None) → ends_outs c i ds ≡ []
unfolding or_untouched
no_ends c i [] h = refl
no_ends c i (d ∷ ds) h = ap (λ (o : Option Committing). ends_out c i o ++ ends_outs c (i + 1) ds) (h 0) ∙ no_ends c (i + 1) ds (λ k. h (suc k))

has_commit : (ds : List Database) (k : ℕ) (x : Committing) → (or_untouched (slice_get ds k)).commit ≡ Some x → k < length ds
unfolding or_untouched untouched
has_commit [] k x e = absurd (cc)
has_commit (d ∷ ds) zero x e = omega arith
has_commit (d ∷ ds) (suc k) x e = (let l = has_commit ds k x e in omega arith)

-- where the node is in no line nothing ends
pub freed_nowhere : (c : Config) (rules : Rules) (w v : Cluster) (r : Lines) (a : Ages) (n : ℕ) (pend : List PendingCall) (x : Node) → LinesLive c rules w r a → ((m db : ℕ) (key : List ℕ) → mails m db key v.sent ≡ mails m db key w.sent) → r.line n ≡ 0 → Stood c r a n x →
    Freed_lines c rules v r a n pend x
unfolding db_at labels_of law_marked.is_removed
freed_nowhere c rules w v r a n pend x live same line s = record {
  records = r.records;
  ages = a;
  accepts = subst (λ (l : List Out). AcceptsLabels c rules r (record_labels c (labels_of n pend l)) r) (sym (no_ends c 0 x.dbs (s.calm line))) refl;
  tables = λ g. refl;
  lives = resent c rules w v r a same live;
  others = λ k ne m db key. refl;
  copies = λ m db key. refl;
  keeps = λ m db key. keeps_view _ _ refl;
  here = λ ne. absurd (ne line);
  marks = λ m db key born. marks_go false (span_of (a.ghosts m db key)) (span_of (a.ghosts m db key)) ((live.line m born).world db key).all.marks.under (goes_stays (span_of (a.ghosts m db key)));
}

-- else each lock of a commit that waits ends in its world
pub freed_there : (c : Config) (rules : Rules) (who : Callers) (w v : Cluster) (r : Lines) (a : Ages) (n : ℕ) (pend : List PendingCall) (x : Node) → IsConfig c → LinesLive c rules w r a → ((m db : ℕ) (key : List ℕ) → mails m db key v.sent ≡ mails m db key w.sent) →
    r.line n ≢ 0 → Stood c r a n x → NodeLives c rules who w r a n x → All_untold c pend x.dbs → Freed_lines c rules v r a n pend x
unfolding db_at
freed_there c rules who w v r a n pend x config live same ne s own untold = record {
  records = all_ended c (r.line n) 0 x.dbs r.records;
  ages = Freed.ages c rules w v r a n (r.line n) (is_ended c 0 x.dbs) (all_ended c (r.line n) 0 x.dbs r.records) live freeing;
  accepts = ends_accepted c rules n 0 pend x.dbs r ne (locks_have_records c config) untold owned differ;
  tables = λ g. refl;
  lives = Freed.freed_live c rules w v r a n (r.line n) (is_ended c 0 x.dbs) (all_ended c (r.line n) 0 x.dbs r.records) live freeing;
  others = λ k apart m db key. Freed.other_node c rules w v r a n (r.line n) (is_ended c 0 x.dbs) (all_ended c (r.line n) 0 x.dbs r.records) live freeing k apart m db key;
  copies = λ m db key. Freed.copies c rules w v r a n (r.line n) (is_ended c 0 x.dbs) (all_ended c (r.line n) 0 x.dbs r.records) live freeing m db key n;
  keeps = λ m db key. Freed.keeps c rules w v r a n (r.line n) (is_ended c 0 x.dbs) (all_ended c (r.line n) 0 x.dbs r.records) live freeing m db key;
  here = λ _ db key. Freed.here c rules w v r a n (r.line n) (is_ended c 0 x.dbs) (all_ended c (r.line n) 0 x.dbs r.records) live freeing db key;
  marks = λ m db key born. Freed.marks c rules w v r a n (r.line n) (is_ended c 0 x.dbs) (all_ended c (r.line n) 0 x.dbs r.records) live freeing m db key born;
}
  where
    born : r.born (r.line n) ≡ true
    born = (own.named ne).0

    there : (nat_eq (r.line n) 1 || r.installed (r.line n) n) ≡ true
    there = ⊎_elim
        (λ (e : r.line n ≡ 1). ap (λ (b : Bool). b || r.installed (r.line n) n) (eq-eqb (r.line n) 1 e))
        (λ (no : r.line n ≢ 1). or_right (nat_eq (r.line n) 1) (r.installed (r.line n) n) (own.done (omega arith)))
        (cases_eq (r.line n) 1)

    locked : (db : ℕ) (key : List ℕ) → is_ended c 0 x.dbs db key ≡ true → is_some ((a.worlds (r.line n) db key).nodes n).state.locked ≡ true
    locked db key e = (let k = ended_is c 0 x.dbs db key e in
        subst (λ (nm : List ℕ). is_some ((a.worlds (r.line n) db nm).nodes n).state.locked ≡ true) (ap (name_of c) (let j : k.0 ≡ 0 + k.0 = omega arith in j) ∙ sym k.4)
        (subst (λ (d : ℕ). is_some ((a.worlds (r.line n) d (name_of c k.0)).nodes n).state.locked ≡ true) (sym k.3) (s.locks ne k.0 k.1 k.2)))

    freeing : Freeing c w v r a n (r.line n) (is_ended c 0 x.dbs) (all_ended c (r.line n) 0 x.dbs r.records)
    freeing = record {
      line = refl;
      born = born;
      member = (own.named ne).2;
      there = there;
      locked = locked;
      registers = λ db key. all_here c (r.line n) 0 x.dbs r db key;
      elsewhere = λ m apart. all_elsewhere c (r.line n) 0 x.dbs r.records m apart;
      same = same;
    }

    owned : All_owned c n (r.line n) 0 x.dbs r.records
    owned k y e = ((law.stands (scene c (era_of r a (r.line n)) rules 0 (name_of c (0 + k))) (a.worlds (r.line n) 0 (name_of c (0 + k))) (r.records (r.line n) 0 (name_of c (0 + k))) (a.ghosts (r.line n) 0 (name_of c (0 + k))) ((live.line (r.line n) born).world 0 (name_of c (0 + k)))).locks n).0
        (subst (λ (j : ℕ). is_some ((a.worlds (r.line n) 0 (name_of c j)).nodes n).state.locked ≡ true) (let j : k ≡ 0 + k = omega arith in j) (s.locks ne k y e))

    differ : All_differ c 0 x.dbs
    differ k l y z e f apart = λ same. (let is = names_differ c c.nodes config.0 config.1 config.2 (0 + k) (0 + l) (let a = has_commit x.dbs k y e in let b = own.size in omega arith) (let a = has_commit x.dbs l z f in let b = own.size in omega arith) same in absurd (omega arith))
