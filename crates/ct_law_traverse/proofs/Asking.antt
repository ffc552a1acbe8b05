-- A traverse begins, and messages are sent, have another fate, or are answered.
use Rattle.std.proofs.Common.{◌≡◌, ◌≢◌, ℕ, ◌+◌, ◌-◌, ◌<◌, ◌≤◌, Bool, true, false, cond, List, [], ◌∷◌, ◌++◌, length, Option, None, Some, refl, sym, ap, ◌∙◌, subst, arith, inl, inr, ⊎_elim}
use Rattle.std.specs.Prelude.{◌⊎◌, ◌^◌, ◌&&◌, not, nat_eq, nat_lt, is_none, Result, Ok, Err, slice_get, slice_set}
use Rattle.std.specs.List.{AllByRecursion}
use Rattle.std.proofs.lemmas.Bool.{and_parts, and_from, not-false, eq-eqb}
use Rattle.std.proofs.lemmas.List.{append-nil}
use Rattle.ct_frame.specs.declared.frame.TableRow.{TableRow}
use Rattle.ct_mail.specs.declared.sent.Fate.{Fate}
use Rattle.ct_store.specs.Map.{Ascends}
use Rattle.ct_rules_node.specs.Node.{Phase, Idle, Serving, Installed, Freezing, Frozen, db_at, is_among, is_present, is_present_in, is_serving, kind_at}
use Rattle.ct_rules_cluster.specs.Cluster.{Cluster, is_up, node_at, World}
use Rattle.ct_register.specs.Lines.{Lines}
use Rattle.ct_promise.specs.Marked.{AllMarks, MarksHold, MarksHoldIn}
use Rattle.ct_traverse_parts.specs.Kept.{kept_of}
use Rattle.ct_traverse_parts.specs.Walk.{Walk, Walked, asked_all, asks, begin_fault, begun, begun_as, begun_or, first_pass, have_numbers, is_there, limited, question_lines, questions, replied, reply, sent_back, told_rows, with_fate}
use Rattle.ct_traverse_parts.specs.declared.line.Pass.{Pass}
use Rattle.ct_traverse_parts.specs.declared.line.Pass.TheVariants.{Copies, Entries}
use Rattle.ct_traverse_parts.specs.declared.line.TFault.{TFault}
use Rattle.ct_traverse_parts.specs.declared.line.TFault.TheVariants as fault
use Rattle.ct_traverse_parts.specs.declared.line.TLine.{TLine}
use Rattle.ct_traverse_parts.specs.declared.post.Post.{Post}
use Rattle.ct_traverse_parts.specs.declared.traverse.Traverse.{Traverse}
use Rattle.ct_law_readings.specs.Greatest.{ComesOn}
use Rattle.ct_law_traverse.specs.Told.{TellsAnswer}
use Rattle.ct_law_traverse.proofs.History.{Stage, last_lines, last_marks, later_in, AtSome, some_last}
use Rattle.ct_law_traverse.proofs.Sights.{CopySight, EntrySight, sees_copies, sees_entries}
use Rattle.ct_law_traverse.proofs.Assembly.{EntrySeen}
use Rattle.ct_law_traverse.proofs.Sound.{Past, RowsSound, PostSound, PostsSound, Waits, PassSound, Sound, Goes, Apart, WalkSound, each_so, each_both, each_set, each_got, apart_more}

-- ---- results

-- what a call leaves is sound, and its lines tell what was read
unfoldable pub ResultSound : Lines → AllMarks → (before after : ℕ → List Lines) → Option Traverse → Result Walked TFault → Type 0
ResultSound r marks before after o (Ok x) = WalkSound r marks after x.walk × AllByRecursion (TellsAnswer before o) x.lines
ResultSound r marks before after o (Err f) = Unit {0}

pub limited_sound : (r : Lines) (marks : AllMarks) (before after : ℕ → List Lines) (o : Option Traverse) (fits : Bool) (x : Walked) → WalkSound r marks after x.walk → AllByRecursion (TellsAnswer before o) x.lines → ResultSound r marks before after o (limited fits x)
unfolding ResultSound
limited_sound r marks before after o true x h tells = (h, tells)
limited_sound r marks before after o false x h tells = tt

pub with_told : (t : Traverse) (r : Lines) (marks : AllMarks) (posts new : List Post) (since : List Lines) (h : Past) → Sound t r marks posts since h → PostsSound t.number t.generation t.db t.members t.pass h new → Sound t r marks new since h
with_told t r marks posts new since h s told = record { past = s.past; rows = s.rows; inside = s.inside; pass = s.pass; told = told }

-- ---- registers since then, by another name

pub resince : (r : Lines) (marks : AllMarks) (before after : ℕ → List Lines) (walk : Walk) → ((k : ℕ) → k ≤ walk.begun → after k ≡ before k) → WalkSound r marks before walk → WalkSound r marks after walk
resince r marks before after walk same h = record {
  running = each_so (Goes r marks walk.begun walk.posts before) (Goes r marks walk.begun walk.posts after) (λ t x. (x.0, (x.1.0, subst (λ (l : List Lines). Sound t r marks walk.posts l x.1.0) (sym (same t.number x.0)) x.1.1))) walk.running h.running;
  apart = h.apart;
  numbers = h.numbers;
}

-- ---- messages more

pub more_posts : (r : Lines) (marks : AllMarks) (since : ℕ → List Lines) (walk : Walk) (new : List Post) → WalkSound r marks since walk →
    ((t : Traverse) (h : Past) → Sound t r marks walk.posts (since t.number) h → PostsSound t.number t.generation t.db t.members t.pass h new) → AllByRecursion (λ p. p.traverse ≤ walk.begun) new → WalkSound r marks since (record walk { posts = walk.posts ++ new })
more_posts r marks since walk new h f numbers = record {
  running = each_so (Goes r marks walk.begun walk.posts since) (Goes r marks walk.begun (walk.posts ++ new) since)
      (λ t x. (
        x.0,
        (
          x.1.0,
          with_told t r marks walk.posts (walk.posts ++ new) (since t.number) x.1.0 x.1.1
              (each_both (λ (p : Post). p.traverse ≡ t.number → PostSound t.generation t.db t.members t.pass x.1.0 p) walk.posts new x.1.1.told (f t x.1.0 x.1.1)),
        ),
      )) walk.running h.running;
  apart = h.apart;
  numbers = each_both (λ (p : Post). p.traverse ≤ walk.begun) walk.posts new h.numbers numbers;
}

-- ---- another fate

refated : (g db : ℕ) (members : List ℕ) (pass : Pass) (h : Past) (p : Post) (fate : Fate) → PostSound g db members pass h p → PostSound g db members pass h (record p { fate = fate })
refated g db members pass h p fate s = record { generation = s.generation; of_db = s.of_db; second = s.second; rows = s.rows }

pub fated : (r : Lines) (marks : AllMarks) (since : ℕ → List Lines) (walk : Walk) (k : ℕ) (p : Post) (fate : Fate) → slice_get walk.posts (k - 1) ≡ Some p → WalkSound r marks since walk → WalkSound r marks since (with_fate k p fate walk)
fated r marks since walk k p fate is h = record {
  running = each_so (Goes r marks walk.begun walk.posts since) (Goes r marks walk.begun (slice_set walk.posts (k - 1) (record p { fate = fate })) since)
      (λ t x. (
        x.0,
        (
          x.1.0,
          with_told t r marks walk.posts (slice_set walk.posts (k - 1) (record p { fate = fate })) (since t.number) x.1.0 x.1.1
              (each_set (λ (q : Post). q.traverse ≡ t.number → PostSound t.generation t.db t.members t.pass x.1.0 q) walk.posts (k - 1) (record p { fate = fate })
              (λ own. refated t.generation t.db t.members t.pass x.1.0 p fate (each_got (λ (q : Post). q.traverse ≡ t.number → PostSound t.generation t.db t.members t.pass x.1.0 q) walk.posts (k - 1) p is x.1.1.told own)) x.1.1.told),
        ),
      )) walk.running h.running;
  apart = h.apart;
  numbers = each_set (λ (q : Post). q.traverse ≤ walk.begun) walk.posts (k - 1) (record p { fate = fate }) (each_got (λ (q : Post). q.traverse ≤ walk.begun) walk.posts (k - 1) p is h.numbers) h.numbers;
}

-- ---- questions

pub questions_sound : (g db : ℕ) (members : List ℕ) (pass : Pass) (h : Past) (n k : ℕ) (ms : List ℕ) → AllByRecursion (λ p. p.traverse ≡ k → PostSound g db members pass h p) (questions pass n g k db ms)
unfolding questions RowsSound
questions_sound g db members pass h n k [] = tt
questions_sound g db members pass h n k (m ∷ ms) = ((λ is. record { generation = refl; of_db = refl; second = λ e. e; rows = tt }), questions_sound g db members pass h n k ms)

pub questions_numbered : (pass : Pass) (n g k db : ℕ) (ms : List ℕ) → AllByRecursion (λ (p : Post). p.traverse ≡ k) (questions pass n g k db ms)
unfolding questions
questions_numbered pass n g k db [] = tt
questions_numbered pass n g k db (m ∷ ms) = (refl, questions_numbered pass n g k db ms)

pub questions_tell : (since : ℕ → List Lines) (o : Option Traverse) (number : ℕ) (pass : Pass) (n g k : ℕ) (ms : List ℕ) → AllByRecursion (TellsAnswer since o) (question_lines number pass n g k ms)
unfolding question_lines TellsAnswer
questions_tell since o number pass n g k [] = tt
questions_tell since o number pass n g k (m ∷ ms) = (tt, questions_tell since o (number + 1) pass n g k ms)

-- questions of a traverse say nothing of another
pub others_questions : (g db : ℕ) (members : List ℕ) (pass : Pass) (h : Past) (j k : ℕ) (ps : List Post) → k ≢ j → AllByRecursion (λ (p : Post). p.traverse ≡ k) ps → AllByRecursion (λ p. p.traverse ≡ j → PostSound g db members pass h p) ps
others_questions g db members pass h j k ps ne all = each_so (λ (p : Post). p.traverse ≡ k) (λ (p : Post). p.traverse ≡ j → PostSound g db members pass h p) (λ p is own. absurd (ne (sym is ∙ own))) ps all

-- ---- a traverse begins

serving_present : (p : Phase) → is_serving p ≡ true → is_present p ≡ true
unfolding is_serving is_present
serving_present Idle e = absurd (cc)
serving_present Serving e = refl
serving_present Installed e = refl
serving_present (Freezing g n) e = absurd (cc)
serving_present (Frozen g) e = absurd (cc)

free_parts : (a b c d : Bool) (f g h i : TFault) → cond a (Some f) (cond b (Some g) (cond c (Some h) (cond d (Some i) None))) ≡ None → (b ≡ false) × (d ≡ false)
free_parts true b c d f g h i e = absurd (cc)
free_parts false true c d f g h i e = absurd (cc)
free_parts false false true d f g h i e = absurd (cc)
free_parts false false false true f g h i e = absurd (cc)
free_parts false false false false f g h i e = (refl, refl)

begins_free : (n db : ℕ) (w : World) → begin_fault n db w ≡ None → (is_up n w.cluster ≡ true) × (is_serving (node_at n w.cluster).phase ≡ true)
unfolding begin_fault
begins_free n db w e = (let p = free_parts (not (nat_lt n w.config.nodes)) (not (is_up n w.cluster)) (is_none (kind_at w.config db)) (not (is_serving (node_at n w.cluster).phase)) (fault.NoSuchNode n) (fault.NodeDown n) (fault.NoSuchDb db) (fault.NotServing n) e in
    (not-false (is_up n w.cluster) p.0, not-false (is_serving (node_at n w.cluster).phase) p.1))

module _ (r : Lines) (marks : AllMarks) (since : ℕ → List Lines) (walk : Walk) (sound : WalkSound r marks since walk) where
  -- the traverse that begins
  module _ (n db : ℕ) (w : World) (hold : MarksHold w.cluster r marks) (later : ℕ → List Lines) (first : later (walk.begun + 1) ≡ r ∷ []) (others : (k : ℕ) → k ≤ walk.begun → later k ≡ since k) where
    fresh : Traverse
    fresh = first_pass (walk.begun + 1) n db (node_at n w.cluster)

    past : Past
    past = record { lines = r; marks = marks; stages = []; copies = []; entries = [] }

    fresh_sound : is_up n w.cluster ≡ true → is_serving (node_at n w.cluster).phase ≡ true → Sound fresh r marks (walk.posts ++ asks Copies fresh) (later fresh.number) past
    unfolding fresh past is_present_in PassSound Waits kept_of ComesOn later_in last_lines last_marks
    fresh_sound up serves =
        let x = node_at n w.cluster in
        let g = x.generation in
        let here : is_present_in g x ≡ true = and_from (is_present x.phase) (nat_eq g g) (serving_present x.phase serves) (eq-eqb g g refl) in
        let named = (hold g).named n up here in record {
          past = record {
            away = λ key s is other. (hold g).away db key s named.0 is (subst (λ (ms : List ℕ). is_among s.holder ms ≡ false) named.1 other);
            marked = λ key. (hold g).marked db key named.0;
            comes = λ key. tt;
            now_lines = refl;
            now_marks = refl;
            all = first;
            born = named.0;
            named = sym named.1;
          };
          rows = record { copies = tt; entries = tt; made = refl };
          inside = λ m e. e;
          pass = (refl, λ m e. inl e);
          told = each_both (λ (p : Post). p.traverse ≡ walk.begun + 1 → PostSound g db x.members Copies past p) walk.posts (asks Copies fresh)
              (each_so (λ (p : Post). p.traverse ≤ walk.begun) (λ (p : Post). p.traverse ≡ walk.begun + 1 → PostSound g db x.members Copies past p) (λ p le is. absurd (omega arith)) walk.posts sound.numbers)
              (questions_sound g db x.members Copies past n (walk.begun + 1) x.members);
        }

    fresh_walk : is_up n w.cluster ≡ true → is_serving (node_at n w.cluster).phase ≡ true → WalkSound r marks later (asked_all fresh (record walk { begun = fresh.number; running = walk.running ++ (fresh ∷ []) })).walk
    unfolding fresh
    fresh_walk up serves =
        let new = asks Copies fresh in
        let numbered = questions_numbered Copies n (node_at n w.cluster).generation (walk.begun + 1) db (node_at n w.cluster).members in record {
          running = each_both (Goes r marks (walk.begun + 1) (walk.posts ++ new) later) walk.running (fresh ∷ [])
              (each_so (Goes r marks walk.begun walk.posts since) (Goes r marks (walk.begun + 1) (walk.posts ++ new) later)
              (λ t x. (
                (let le = x.0 in omega arith),
                (
                  x.1.0,
                  subst (λ (l : List Lines). Sound t r marks (walk.posts ++ new) l x.1.0) (sym (others t.number x.0))
                      (with_told t r marks walk.posts (walk.posts ++ new) (since t.number) x.1.0 x.1.1
                      (each_both (λ (p : Post). p.traverse ≡ t.number → PostSound t.generation t.db t.members t.pass x.1.0 p) walk.posts new x.1.1.told
                      (others_questions t.generation t.db t.members t.pass x.1.0 t.number (walk.begun + 1) new (λ is. absurd (let le = x.0 in omega arith)) numbered))),
                ),
              )) walk.running sound.running)
              ((omega arith, (past, fresh_sound up serves)), tt);
          apart = apart_more walk.running fresh (each_so (Goes r marks walk.begun walk.posts since) (λ (t : Traverse). t.number < walk.begun + 1) (λ t x. (let le = x.0 in omega arith)) walk.running sound.running) sound.apart;
          numbers = each_both (λ (p : Post). p.traverse ≤ walk.begun + 1) walk.posts new
              (each_so (λ (p : Post). p.traverse ≤ walk.begun) (λ (p : Post). p.traverse ≤ walk.begun + 1) (λ p le. omega arith) walk.posts sound.numbers)
              (each_so (λ (p : Post). p.traverse ≡ walk.begun + 1) (λ (p : Post). p.traverse ≤ walk.begun + 1) (λ p is. omega arith) new numbered);
        }

    begun_by : (f : Option TFault) → begin_fault n db w ≡ f → ResultSound r marks since later None (begun_or f n db w walk)
    unfolding begun_or ResultSound fresh node_at
    begun_by (Some f) is = tt
    begun_by None is = (let free = begins_free n db w is in
        limited_sound r marks since later None (nat_lt (walk.begun + 1) (2 ^ 62) && have_numbers (length (node_at n w.cluster).members) walk)
        (asked_all fresh (record walk { begun = fresh.number; running = walk.running ++ (fresh ∷ []) }))
        (fresh_walk free.0 free.1)
        (questions_tell since None (length walk.posts + 1) Copies n (node_at n w.cluster).generation (walk.begun + 1) (node_at n w.cluster).members))

    pub begun_sound : ResultSound r marks since later None (begun n db w walk)
    begun_sound = begun_by (begin_fault n db w) refl

  -- ---- a question comes

  module _ (w : World) (hold : MarksHold w.cluster r marks) (order : (n db : ℕ) → Ascends (db_at db (node_at n w.cluster)).records) where
    told_by : (t : Traverse) (h : Past) (n : ℕ) (pass : Pass) → Sound t r marks walk.posts (since t.number) h → is_present_in t.generation (node_at n w.cluster) ≡ true → RowsSound t.generation t.db t.members h n pass (Some (told_rows pass n t.db (node_at n w.cluster)))
    unfolding RowsSound
    told_by t h n Copies s here =
        let rows = told_rows Copies n t.db (node_at n w.cluster) in
        some_last (CopySight t.generation t.db n rows) h.lines h.marks h.stages
        (subst (λ (x : Lines). CopySight t.generation t.db n rows x (last_marks h.marks h.stages)) (sym s.past.now_lines)
        (subst (λ (x : AllMarks). CopySight t.generation t.db n rows r x) (sym s.past.now_marks) (sees_copies t.generation w.cluster r marks (hold t.generation) n t.db here (order n t.db))))
    told_by t h n Entries s here =
        let rows = told_rows Entries n t.db (node_at n w.cluster) in record {
          early = h.stages;
          late = [];
          parts = sym (append-nil h.stages);
          seen = s.rows.copies;
          sight = subst (λ (x : Lines). EntrySight t.generation t.db n t.members rows x (last_marks h.marks h.stages)) (sym s.past.now_lines)
              (subst (λ (x : AllMarks). EntrySight t.generation t.db n t.members rows r x) (sym s.past.now_marks)
              (subst (λ (ms : List ℕ). EntrySight t.generation t.db n ms rows r marks) s.past.named (sees_entries t.generation w.cluster r marks (hold t.generation) n t.db here (order n t.db))));
        }

    reply_sound : (t : Traverse) (h : Past) (p : Post) → Sound t r marks walk.posts (since t.number) h → PostSound t.generation t.db t.members t.pass h p → is_there p.receiver p.generation w ≡ true →
        PostSound t.generation t.db t.members t.pass h (reply p (told_rows p.pass p.receiver p.db (node_at p.receiver w.cluster)))
    unfolding is_there
    reply_sound t h p s q there = record {
      generation = q.generation;
      of_db = q.of_db;
      second = q.second;
      rows = subst (λ (d : ℕ). RowsSound t.generation t.db t.members h p.receiver p.pass (Some (told_rows p.pass p.receiver d (node_at p.receiver w.cluster)))) (sym q.of_db)
          (told_by t h p.receiver p.pass s (subst (λ (g : ℕ). is_present_in g (node_at p.receiver w.cluster) ≡ true) q.generation (and_parts (is_up p.receiver w.cluster) (is_present_in p.generation (node_at p.receiver w.cluster)) there).1));
    }

    pub reply_walk : (k : ℕ) (p : Post) → slice_get walk.posts (k - 1) ≡ Some p → is_there p.receiver p.generation w ≡ true →
        WalkSound r marks since (record walk { posts = walk.posts ++ (reply p (told_rows p.pass p.receiver p.db (node_at p.receiver w.cluster)) ∷ []) })
    reply_walk k p is there = more_posts r marks since walk (reply p (told_rows p.pass p.receiver p.db (node_at p.receiver w.cluster)) ∷ []) sound
        (λ t h s. ((λ own. reply_sound t h p s (each_got (λ (q : Post). q.traverse ≡ t.number → PostSound t.generation t.db t.members t.pass h q) walk.posts (k - 1) p is s.told own) there), tt))
        (each_got (λ (q : Post). q.traverse ≤ walk.begun) walk.posts (k - 1) p is sound.numbers, tt)
