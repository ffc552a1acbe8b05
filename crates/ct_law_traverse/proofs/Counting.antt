-- Rows come to a traverse, and it is answered.
use Rattle.std.proofs.Common.{◌≡◌, ◌≢◌, ℕ, zero, suc, ◌+◌, ◌-◌, ◌≤◌, Bool, true, false, cond, List, [], ◌∷◌, ◌++◌, length, Option, None, Some, refl, sym, ap, ◌∙◌, subst, arith, inl, inr, ⊎_elim}
use Rattle.std.specs.Prelude.{◌⊎◌, ◌&&◌, nat_eq, nat_lt, Result, Ok, Err, slice_get, slice_set}
use Rattle.std.specs.List.{AllByRecursion, remove}
use Rattle.std.proofs.lemmas.Bool.{cases_Bool, and_parts, eqb-true}
use Rattle.std.proofs.lemmas.List.{append-nil}
use Rattle.ct_frame.specs.declared.frame.TableRow.{TableRow}
use Rattle.ct_store.specs.Map.{Pairs, Ascends, look}
use Rattle.ct_rules_node.specs.Node.{is_among, master_of}
use Rattle.ct_register.specs.Lines.{Lines}
use Rattle.ct_promise.specs.Marked.{AllMarks}
use Rattle.ct_law_generation.proofs.BornStarts.{master_in}
use Rattle.ct_traverse_parts.specs.Best.{shown}
use Rattle.ct_traverse_parts.specs.Kept.{Batch, all_for, kept_of}
use Rattle.ct_traverse_parts.specs.Walk.{Walk, Walked, asked_all, asks, ask_lines, counted, counts, gave, gave_at, have_numbers, is_same_pass, limited, passed, place_from, place_of, second_pass, with_rows, with_traverse}
use Rattle.ct_traverse_parts.specs.declared.line.Pass.{Pass}
use Rattle.ct_traverse_parts.specs.declared.line.Pass.TheVariants.{Copies, Entries}
use Rattle.ct_traverse_parts.specs.declared.best.Best.{Best}
use Rattle.ct_traverse_parts.specs.declared.post.Post.{Post}
use Rattle.ct_traverse_parts.specs.declared.traverse.Traverse.{Traverse}
use Rattle.ct_traverse_parts.proofs.Keeping.{kept_is_unbeaten}
use Rattle.ct_law_readings.specs.Greatest.{Showed}
use Rattle.ct_law_readings.specs.Moments.{moment_of}
use Rattle.ct_law_traverse.specs.Snapshot.{WasReadIn, IsSnapshot}
use Rattle.ct_law_traverse.specs.Told.{standing, ShowsSnapshot, TellsAnswer}
use Rattle.ct_law_traverse.proofs.History.{Stage, all_lines, later_in, was_read}
use Rattle.ct_law_traverse.proofs.Assembly.{HasOf, Answered, KeptWasRead, kept_was_read}
use Rattle.ct_law_traverse.proofs.Snapshots.{KeptSince, is_snapshot, kept_ascends}
use Rattle.ct_law_traverse.proofs.Sound.{Past, RowsSound, PostSound, PostsSound, Waits, PassSound, Sound, Goes, Apart, WalkSound, each_so, each_both, each_got, others_set, others_removed, apart_set, apart_removed, same_is, rows_count, second_begins}
use Rattle.ct_law_traverse.proofs.Asking.{ResultSound, limited_sound, with_told, questions_sound, questions_numbered, questions_tell, others_questions}

-- ---- the answer

-- what was read of a record, as registers
kept_since : (g db : ℕ) (key : List ℕ) (r : Lines) (marks : AllMarks) (members : List ℕ) (ss : List Stage) (o : Option Best) → KeptWasRead g db members r marks key ss o → KeptSince (all_lines r ss) g db key o
unfolding KeptWasRead KeptSince
kept_since g db key r marks members ss None h = was_read g db key [] r marks ss h
kept_since g db key r marks members ss (Some best) h = ((λ came. was_read g db key best.value r marks ss (h.0 came)), (λ none. was_read g db key [] r marks ss (h.1 none)))

none_waits : (n : ℕ) (missing : List ℕ) (bs : List Batch) → missing ≡ [] → Waits n missing bs → HasOf n bs
unfolding Waits is_among
none_waits n missing bs none w = ⊎_elim
    (λ (m : is_among n missing ≡ true). absurd (let f : is_among n [] ≡ true = subst (λ (l : List ℕ). is_among n l ≡ true) none m in cc))
    (λ (has : HasOf n bs). has)
    w

-- all have answered both passes, and there is a member
pub answer_is_snapshot : (t : Traverse) (r : Lines) (marks : AllMarks) (posts : List Post) (since : List Lines) (h : Past) (n : ℕ) → t.pass ≡ Entries → t.missing ≡ [] → is_among n t.members ≡ true → Sound t r marks posts since h → IsSnapshot since t.generation t.db (shown t.kept)
unfolding PassSound
answer_is_snapshot t r marks posts since h n is none member s =
    let p : PassSound Entries t.members t.missing h.copies h.entries = subst (λ (p : Pass). PassSound p t.members t.missing h.copies h.entries) is s.pass in
    subst (λ (l : List Lines). IsSnapshot l t.generation t.db (shown t.kept)) (sym s.past.all)
    (subst (λ (m : Pairs Best). IsSnapshot (all_lines h.lines h.stages) t.generation t.db (shown m)) (sym s.rows.made)
    (is_snapshot (all_lines h.lines h.stages) t.generation t.db (kept_of (h.copies ++ h.entries) []) (kept_ascends (h.copies ++ h.entries))
    (λ key. kept_since t.generation t.db key h.lines h.marks t.members h.stages (look key (kept_of (h.copies ++ h.entries) []))
    (kept_was_read t.generation t.db t.members h.lines h.marks key h.stages h.copies h.entries (look key (kept_of (h.copies ++ h.entries) []))
    (record {
      away = s.past.away;
      marked = s.past.marked key;
      comes = s.past.comes key;
      master = master_in n t.members key member;
      all_copies = p.0;
      all_entries = λ m e. none_waits m t.missing h.entries none (p.1 m e);
      seen_copies = s.rows.copies;
      seen_entries = s.rows.entries;
    })
    (kept_is_unbeaten (h.copies ++ h.entries) key)))))

-- ---- where a traverse stands

placed : (i : ℕ) (k : ℕ) (ts : List Traverse) (at : ℕ) → place_from i k ts ≡ Some at → (j : ℕ) × (at ≡ i + j) × ((t : Traverse) → slice_get ts j ≡ Some t → t.number ≡ k)
unfolding place_from
placed i k [] at e = absurd (cc)
placed i k (t ∷ ts) at e = ⊎_elim
    (λ (own : nat_eq t.number k ≡ true).
    let s : Some i ≡ Some at = sym (ap (λ (b : Bool). cond b (Some i) (place_from (i + 1) k ts)) own) ∙ e in
    let same : i ≡ at = cc in
    (0, omega arith, λ u g. (let is : t ≡ u = cc in sym (ap (λ (x : Traverse). x.number) is) ∙ eqb-true t.number k own)))
    (λ (other : nat_eq t.number k ≡ false).
    let s : place_from (i + 1) k ts ≡ Some at = sym (ap (λ (b : Bool). cond b (Some i) (place_from (i + 1) k ts)) other) ∙ e in
    let p = placed (i + 1) k ts at s in
    (suc p.0, (let q = p.1 in omega arith), λ u g. p.2 u g))
    (cases_Bool (nat_eq t.number k))

pub place_number : (k : ℕ) (walk : Walk) (i : ℕ) (t : Traverse) → place_of k walk ≡ Some i → slice_get walk.running i ≡ Some t → t.number ≡ k
place_number k walk i t e g = (let p = placed 0 k walk.running i e in p.2 t (subst (λ (j : ℕ). slice_get walk.running j ≡ Some t) (let q = p.1 in omega arith) g))

-- ---- rows come

module _ (r : Lines) (marks : AllMarks) (since : ℕ → List Lines) (walk : Walk) (sound : WalkSound r marks since walk) (i : ℕ) (t : Traverse) (stands : slice_get walk.running i ≡ Some t) where
  -- it is changed, and asks more
  replaced : (u : Traverse) (h : Past) (new : List Post) → u.number ≡ t.number → t.number ≤ walk.begun → Sound u r marks (walk.posts ++ new) (since u.number) h → AllByRecursion (λ (p : Post). p.traverse ≡ t.number) new →
      WalkSound r marks since (record walk { running = slice_set walk.running i u; posts = walk.posts ++ new })
  replaced u h new is le s numbered = record {
    running = others_set (Goes r marks walk.begun walk.posts since) (Goes r marks walk.begun (walk.posts ++ new) since) walk.running i t u stands sound.apart sound.running
        (λ v ne x. (
          x.0,
          (
            x.1.0,
            with_told v r marks walk.posts (walk.posts ++ new) (since v.number) x.1.0 x.1.1
                (each_both (λ (p : Post). p.traverse ≡ v.number → PostSound v.generation v.db v.members v.pass x.1.0 p) walk.posts new x.1.1.told
                (others_questions v.generation v.db v.members v.pass x.1.0 v.number t.number new (λ e. ne (sym e)) numbered)),
          ),
        ))
        ((omega arith), (h, s));
    apart = apart_set walk.running i t u stands is sound.apart;
    numbers = each_both (λ (p : Post). p.traverse ≤ walk.begun) walk.posts new sound.numbers (each_so (λ (p : Post). p.traverse ≡ t.number) (λ (p : Post). p.traverse ≤ walk.begun) (λ p e. omega arith) new numbered);
  }

  unchanged_posts : (u : Traverse) (h : Past) → u.number ≡ t.number → t.number ≤ walk.begun → Sound u r marks walk.posts (since u.number) h → WalkSound r marks since (with_traverse i u walk)
  unchanged_posts u h is le s = subst (λ (ps : List Post). WalkSound r marks since (record walk { running = slice_set walk.running i u; posts = ps })) (append-nil walk.posts)
      (replaced u h [] is le (subst (λ (ps : List Post). Sound u r marks ps (since u.number) h) (sym (append-nil walk.posts)) s) tt)

  gone : WalkSound r marks since (record walk { running = remove walk.running i })
  gone = record {
    running = others_removed (Goes r marks walk.begun walk.posts since) (Goes r marks walk.begun walk.posts since) walk.running i sound.running (λ v x. x);
    apart = apart_removed walk.running i sound.apart;
    numbers = sound.numbers;
  }

  -- all have answered a pass
  passed_sound : (pass : Pass) (u : Traverse) (h : Past) (n : ℕ) → u.pass ≡ pass → u.missing ≡ [] → is_among n u.members ≡ true → u.number ≡ t.number → u.generation ≡ t.generation → u.db ≡ t.db → t.number ≤ walk.begun →
      Sound u r marks walk.posts (since u.number) h → ResultSound r marks since since (Some t) (passed pass i u walk)
  unfolding passed ResultSound TellsAnswer ShowsSnapshot
  passed_sound Copies u h n is none member number generation db le s =
      let v = second_pass u in
      let new = asks Entries v in
      limited_sound r marks since since (Some t) (have_numbers (length u.members) walk) (asked_all v (with_traverse i v walk))
      (replaced v h new number le
      (with_told v r marks walk.posts (walk.posts ++ new) (since v.number) h (second_begins u r marks walk.posts (since u.number) h is none s)
      (each_both (λ (p : Post). p.traverse ≡ v.number → PostSound v.generation v.db v.members Entries h p) walk.posts new (second_begins u r marks walk.posts (since u.number) h is none s).told
      (questions_sound v.generation v.db v.members Entries h v.node v.number v.members)))
      (subst (λ (k : ℕ). AllByRecursion (λ (p : Post). p.traverse ≡ k) new) number (questions_numbered Entries v.node v.generation v.number v.db v.members)))
      (questions_tell since (Some t) (length walk.posts + 1) Entries v.node v.generation v.number v.members)
  passed_sound Entries u h n is none member number generation db le s = (
    gone,
    (
      subst (λ (k : ℕ). IsSnapshot (since k) t.generation t.db (shown u.kept)) number
          (subst (λ (g : ℕ). IsSnapshot (since u.number) g t.db (shown u.kept)) generation (subst (λ (d : ℕ). IsSnapshot (since u.number) u.generation d (shown u.kept)) db (answer_is_snapshot u r marks walk.posts (since u.number) h n is none member s))),
      tt,
    ),
  )

  counted_sound : (ms : List ℕ) (u : Traverse) (h : Past) (n : ℕ) → u.missing ≡ ms → is_among n u.members ≡ true → u.number ≡ t.number → u.generation ≡ t.generation → u.db ≡ t.db → t.number ≤ walk.begun → Sound u r marks walk.posts (since u.number) h →
      ResultSound r marks since since (Some t) (counted ms i u walk)
  unfolding counted ResultSound
  counted_sound [] u h n is member number generation db le s = passed_sound u.pass u h n refl is member number generation db le s
  counted_sound (m ∷ ms) u h n is member number generation db le s = (unchanged_posts u h number le s, tt)

  given_rows : (k : ℕ) (p : Post) (rows : List TableRow) → slice_get walk.posts (k - 1) ≡ Some p → p.rows ≡ Some rows → t.number ≡ p.traverse → counts p t ≡ true → ResultSound r marks since since (Some t) (counted (with_rows p rows t).missing i (with_rows p rows t) walk)
  given_rows k p rows got has number c =
      let both = and_parts (is_same_pass p.pass t.pass) (is_among p.sender t.missing) c in
      let goes = each_got (Goes r marks walk.begun walk.posts since) walk.running i t stands sound.running in
      let h = goes.1.0 in
      let s = goes.1.1 in
      let q = each_got (λ (x : Post). x.traverse ≡ t.number → PostSound t.generation t.db t.members t.pass h x) walk.posts (k - 1) p got s.told (sym number) in
      let x = rows_count t r marks walk.posts (since t.number) h p.pass p.sender rows (sym (same_is p.pass t.pass both.0)) s (subst (λ (o : Option (List TableRow)). RowsSound t.generation t.db t.members h p.sender p.pass o) has q.rows) in
      counted_sound (with_rows p rows t).missing (with_rows p rows t) x.0 p.sender refl (s.inside p.sender both.1) refl refl refl goes.0 x.1

-- rows come to what stands at a place
pub gave_sound : (r : Lines) (marks : AllMarks) (since : ℕ → List Lines) (walk : Walk) → WalkSound r marks since walk → (k : ℕ) (p : Post) (rows : List TableRow) (i : ℕ) (o : Option Traverse) → slice_get walk.posts (k - 1) ≡ Some p → p.rows ≡ Some rows → slice_get walk.running i ≡ o →
    ((t : Traverse) → o ≡ Some t → t.number ≡ p.traverse) → ResultSound r marks since since o (gave p rows i o walk)
unfolding gave ResultSound
gave_sound r marks since walk sound k p rows i None got has stands number = (sound, tt)
gave_sound r marks since walk sound k p rows i (Some t) got has stands number = ⊎_elim
    (λ (c : counts p t ≡ true). subst (λ (b : Bool). ResultSound r marks since since (Some t) (cond b (counted (with_rows p rows t).missing i (with_rows p rows t) walk) (Ok (record { walk = walk; lines = [] })))) (sym c)
    (given_rows r marks since walk sound i t stands k p rows got has (number t refl) c))
    (λ (f : counts p t ≡ false). subst (λ (b : Bool). ResultSound r marks since since (Some t) (cond b (counted (with_rows p rows t).missing i (with_rows p rows t) walk) (Ok (record { walk = walk; lines = [] })))) (sym f) (sound, tt))
    (cases_Bool (counts p t))

pub gave_at_sound : (r : Lines) (marks : AllMarks) (since : ℕ → List Lines) (walk : Walk) → WalkSound r marks since walk → (k : ℕ) (p : Post) (rows : List TableRow) (o : Option ℕ) → slice_get walk.posts (k - 1) ≡ Some p → p.rows ≡ Some rows → place_of p.traverse walk ≡ o →
    ResultSound r marks since since (standing walk o) (gave_at p rows o walk)
unfolding gave_at standing ResultSound
gave_at_sound r marks since walk sound k p rows None got has is = (sound, tt)
gave_at_sound r marks since walk sound k p rows (Some i) got has is = gave_sound r marks since walk sound k p rows i (slice_get walk.running i) got has refl (λ t e. place_number p.traverse walk i t is e)
