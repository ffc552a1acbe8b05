-- What each move does to the traverses that go on.
use Rattle.std.proofs.Common.{◌≡◌, ◌≢◌, ℕ, ◌+◌, ◌-◌, ◌≤◌, Bool, true, false, cond, List, [], ◌∷◌, ◌++◌, length, Option, None, Some, refl, sym, ap, ◌∙◌, subst, arith, ⊎_elim}
use Rattle.std.specs.Prelude.{◌⊎◌, not, nat_eq, Result, Ok, Err, slice_get}
use Rattle.std.specs.List.{AllByRecursion}
use Rattle.std.proofs.lemmas.Bool.{cases_Bool}
use Rattle.ct_frame.specs.declared.frame.TableRow.{TableRow}
use Rattle.ct_mail.specs.declared.sent.Fate.{Fate}
use Rattle.ct_mail.specs.declared.sent.Fate.TheVariants.{Delivered, Dropped}
use Rattle.ct_store.specs.Map.{Ascends}
use Rattle.ct_rules_node.specs.Node.{db_at}
use Rattle.ct_rules_cluster.specs.Cluster.{node_at, World}
use Rattle.ct_register.specs.Lines.{Lines}
use Rattle.ct_register.proofs.Places.{at_same, at_other}
use Rattle.ct_register.specs.Words.{at}
use Rattle.ct_promise.specs.Marked.{AllMarks, MarksHold}
use Rattle.ct_traverse_parts.specs.Posts.{is_delivered, is_waiting, numbered}
use Rattle.ct_traverse_parts.specs.Walk.{Walk, Walked, asked_all, asks, begun, carried, carried_of, counted, counts, delivered, gave, gave_at, given, have_numbers, is_taken, is_there, limited, lost, lost_of, passed, place_of, repeated, repeated_of, replied, reply, second_pass, told_rows, with_fate, with_rows, with_traverse}
use Rattle.ct_traverse_parts.specs.Moves.{Move, Stepped, Begin, Carry, Lose, Again, walked_by, walked_or}
use Rattle.ct_traverse_parts.specs.declared.line.Pass.{Pass}
use Rattle.ct_traverse_parts.specs.declared.line.Pass.TheVariants.{Copies, Entries}
use Rattle.ct_traverse_parts.specs.declared.line.TFault.{TFault}
use Rattle.ct_traverse_parts.specs.declared.line.TFault.TheVariants as fault
use Rattle.ct_traverse_parts.specs.declared.line.TLine.{TLine}
use Rattle.ct_traverse_parts.specs.declared.line.TLine.TheVariants as line
use Rattle.ct_traverse_parts.specs.declared.post.Post.{Post}
use Rattle.ct_traverse_parts.specs.declared.traverse.Traverse.{Traverse}
use Rattle.ct_law_traverse.specs.Told.{ShowsSnapshot, TellsAnswer, brought, since_by, standing, traverse_of}
use Rattle.ct_law_traverse.proofs.Sound.{WalkSound, got_first}
use Rattle.ct_law_traverse.proofs.Asking.{ResultSound, limited_sound, fated, resince, begun_sound, reply_walk}
use Rattle.ct_law_traverse.proofs.Counting.{gave_at_sound}

-- ---- no call forgets a message

unfoldable KeepsPosts : Walk → Result Walked TFault → Type 0
KeepsPosts walk (Ok x) = (i : ℕ) (p : Post) → slice_get walk.posts i ≡ Some p → slice_get x.walk.posts i ≡ Some p
KeepsPosts walk (Err f) = Unit {0}

limited_keeps : (walk : Walk) (fits : Bool) (x : Walked) → ((i : ℕ) (p : Post) → slice_get walk.posts i ≡ Some p → slice_get x.walk.posts i ≡ Some p) → KeepsPosts walk (limited fits x)
unfolding KeepsPosts
limited_keeps walk true x h = h
limited_keeps walk false x h = tt

passed_keeps : (pass : Pass) (i : ℕ) (t : Traverse) (walk : Walk) → KeepsPosts walk (passed pass i t walk)
unfolding passed KeepsPosts
passed_keeps Copies i t walk = limited_keeps walk (have_numbers (length t.members) walk) (asked_all (second_pass t) (with_traverse i (second_pass t) walk)) (λ j p e. got_first walk.posts (asks Entries (second_pass t)) j p e)
passed_keeps Entries i t walk = λ j p e. e

counted_keeps : (ms : List ℕ) (i : ℕ) (t : Traverse) (walk : Walk) → KeepsPosts walk (counted ms i t walk)
unfolding counted KeepsPosts
counted_keeps [] i t walk = passed_keeps t.pass i t walk
counted_keeps (m ∷ ms) i t walk = λ j p e. e

gave_keeps : (p : Post) (rows : List TableRow) (i : ℕ) (o : Option Traverse) (walk : Walk) → KeepsPosts walk (gave p rows i o walk)
unfolding gave KeepsPosts
gave_keeps p rows i None walk = λ j q e. e
gave_keeps p rows i (Some t) walk = ⊎_elim
    (λ (c : counts p t ≡ true). subst (λ (b : Bool). KeepsPosts walk (cond b (counted (with_rows p rows t).missing i (with_rows p rows t) walk) (Ok (record { walk = walk; lines = [] })))) (sym c) (counted_keeps (with_rows p rows t).missing i (with_rows p rows t) walk))
    (λ (f : counts p t ≡ false). subst (λ (b : Bool). KeepsPosts walk (cond b (counted (with_rows p rows t).missing i (with_rows p rows t) walk) (Ok (record { walk = walk; lines = [] })))) (sym f) (λ j q e. e))
    (cases_Bool (counts p t))

gave_at_keeps : (p : Post) (rows : List TableRow) (o : Option ℕ) (walk : Walk) → KeepsPosts walk (gave_at p rows o walk)
unfolding gave_at KeepsPosts
gave_at_keeps p rows None walk = λ j q e. e
gave_at_keeps p rows (Some i) walk = gave_keeps p rows i (slice_get walk.running i) walk

given_keeps : (p : Post) (o : Option (List TableRow)) (w : World) (walk : Walk) → KeepsPosts walk (given p o w walk)
unfolding given
given_keeps p None w walk =
    let rows = told_rows p.pass p.receiver p.db (node_at p.receiver w.cluster) in
    let answer = reply p rows in
    limited_keeps walk (have_numbers 1 walk) (record { walk = record walk { posts = walk.posts ++ (answer ∷ []) }; lines = line.Rows (length walk.posts + 1) answer.sender answer.receiver answer.generation answer.traverse answer.pass (length rows) ∷ [] })
    (λ j q e. got_first walk.posts (answer ∷ []) j q e)
given_keeps p (Some rows) w walk = gave_at_keeps p rows (place_of p.traverse walk) walk

-- ---- a message comes

numbered_at : (k : ℕ) (posts : List Post) (p : Post) → numbered k posts ≡ Some p → slice_get posts (k - 1) ≡ Some p
unfolding numbered
numbered_at k posts p e = ⊎_elim
    (λ (t : nat_eq k 0 ≡ true). absurd (let f : None ≡ Some p = sym (ap (λ (b : Bool). cond b None (slice_get posts (k - 1))) t) ∙ e in cc))
    (λ (f : nat_eq k 0 ≡ false). sym (ap (λ (b : Bool). cond b None (slice_get posts (k - 1))) f) ∙ e)
    (cases_Bool (nat_eq k 0))

module _ (r : Lines) (marks : AllMarks) (since : ℕ → List Lines) (walk : Walk) (sound : WalkSound r marks since walk) (w : World) (hold : MarksHold w.cluster r marks) (order : (n db : ℕ) → Ascends (db_at db (node_at n w.cluster)).records) where
  given_sound : (k : ℕ) (p : Post) (o : Option (List TableRow)) → slice_get walk.posts (k - 1) ≡ Some p → p.rows ≡ o → is_taken p o w walk ≡ true → ResultSound r marks since since (traverse_of walk (Some p)) (given p o w walk)
  unfolding given is_taken traverse_of TellsAnswer
  given_sound k p None got has taken =
      let rows = told_rows p.pass p.receiver p.db (node_at p.receiver w.cluster) in
      let answer = reply p rows in
      limited_sound r marks since since (standing walk (place_of p.traverse walk)) (have_numbers 1 walk)
      (record { walk = record walk { posts = walk.posts ++ (answer ∷ []) }; lines = line.Rows (length walk.posts + 1) answer.sender answer.receiver answer.generation answer.traverse answer.pass (length rows) ∷ [] })
      (reply_walk r marks since walk sound w hold order k p got taken) (tt, tt)
  given_sound k p (Some rows) got has taken = gave_at_sound r marks since walk sound k p rows (place_of p.traverse walk) got has refl

  delivered_sound : (k : ℕ) (p : Post) (o : Option Traverse) (res : Result Walked TFault) → slice_get walk.posts (k - 1) ≡ Some p → KeepsPosts walk res → ResultSound r marks since since o res → ResultSound r marks since since o (delivered k p res)
  unfolding delivered ResultSound KeepsPosts
  delivered_sound k p o (Ok x) got keeps h = (fated r marks since x.walk k p Delivered (keeps (k - 1) p got) h.0, h.1)
  delivered_sound k p o (Err f) got keeps h = tt

  -- told that nobody took it
  lost_sound : (k : ℕ) (o : Option Traverse) (other : Walk) → WalkSound r marks since other → ResultSound r marks since since o (Ok (record { walk = other; lines = line.TLost k ∷ [] }))
  unfolding ResultSound TellsAnswer
  lost_sound k o other h = (h, (tt, tt))

  carried_one : (k : ℕ) (p : Post) → slice_get walk.posts (k - 1) ≡ Some p → ResultSound r marks since since (traverse_of walk (Some p)) (carried_of k (Some p) w walk)
  unfolding carried_of ResultSound
  carried_one k p got = by (not (is_waiting (Some p))) (is_taken p p.rows w walk) refl
    where
      by : (waits taken : Bool) → is_taken p p.rows w walk ≡ taken → ResultSound r marks since since (traverse_of walk (Some p))
          (cond waits (Err (fault.NoSuchMessage k)) (cond taken (delivered k p (given p p.rows w walk)) (Ok (record { walk = with_fate k p Dropped walk; lines = line.TLost k ∷ [] }))))
      by true taken is = tt
      by false true is = delivered_sound k p (traverse_of walk (Some p)) (given p p.rows w walk) got (given_keeps p p.rows w walk) (given_sound k p p.rows got refl is)
      by false false is = lost_sound k (traverse_of walk (Some p)) (with_fate k p Dropped walk) (fated r marks since walk k p Dropped got sound)

  repeated_one : (k : ℕ) (p : Post) → slice_get walk.posts (k - 1) ≡ Some p → ResultSound r marks since since (traverse_of walk (Some p)) (repeated_of k (Some p) w walk)
  unfolding repeated_of ResultSound
  repeated_one k p got = by (not (is_delivered (Some p))) (is_taken p p.rows w walk) refl
    where
      by : (waits taken : Bool) → is_taken p p.rows w walk ≡ taken → ResultSound r marks since since (traverse_of walk (Some p))
          (cond waits (Err (fault.NoSuchMessage k)) (cond taken (given p p.rows w walk) (Ok (record { walk = walk; lines = line.TLost k ∷ [] }))))
      by true taken is = tt
      by false true is = given_sound k p p.rows got refl is
      by false false is = lost_sound k (traverse_of walk (Some p)) walk sound

  lost_one : (k : ℕ) (p : Post) → slice_get walk.posts (k - 1) ≡ Some p → ResultSound r marks since since None (lost_of k (Some p) walk)
  unfolding lost_of ResultSound
  lost_one k p got = ⊎_elim
      (λ (t : is_waiting (Some p) ≡ true). rw t (fated r marks since walk k p Dropped got sound, tt))
      (λ (f : is_waiting (Some p) ≡ false). rw f tt)
      (cases_Bool (is_waiting (Some p)))

  carried_by : (k : ℕ) (o : Option Post) → numbered k walk.posts ≡ o → ResultSound r marks since since (traverse_of walk o) (carried_of k o w walk)
  unfolding carried_of ResultSound
  carried_by k None is = tt
  carried_by k (Some p) is = carried_one k p (numbered_at k walk.posts p is)

  repeated_by : (k : ℕ) (o : Option Post) → numbered k walk.posts ≡ o → ResultSound r marks since since (traverse_of walk o) (repeated_of k o w walk)
  unfolding repeated_of ResultSound
  repeated_by k None is = tt
  repeated_by k (Some p) is = repeated_one k p (numbered_at k walk.posts p is)

  lost_by : (k : ℕ) (o : Option Post) → numbered k walk.posts ≡ o → ResultSound r marks since since None (lost_of k o walk)
  unfolding lost_of ResultSound
  lost_by k None is = tt
  lost_by k (Some p) is = lost_one k p (numbered_at k walk.posts p is)

  -- ---- any move but a step

  -- a call that is refused changes nothing
  or_sound : (after : ℕ → List Lines) (o : Option Traverse) (res : Result Walked TFault) → WalkSound r marks after walk → ResultSound r marks since after o res → AllByRecursion (TellsAnswer since o) (walked_or walk res).lines × WalkSound r marks after (walked_or walk res).walk
  unfolding ResultSound
  or_sound after o (Ok x) h s = (s.1, s.0)
  or_sound after o (Err f) h s = (tt, h)

  -- what a move but a step does
  unfoldable pub MoveSound : Move → Type 0
  MoveSound (Stepped s) = Unit {0}
  MoveSound m = AllByRecursion (TellsAnswer since (brought m walk)) (walked_by m w walk).lines × WalkSound r marks (since_by m walk r since) (walked_by m w walk).walk

  pub move_sound : (m : Move) → MoveSound m
  unfolding MoveSound walked_by brought since_by
  move_sound (Stepped s) = tt
  move_sound (Begin n db) =
      let later : ℕ → List Lines = at (walk.begun + 1) (r ∷ []) since in
      let others : (k : ℕ) → k ≤ walk.begun → later k ≡ since k = (λ k le. at_other (walk.begun + 1) k (r ∷ []) since (λ is. absurd (omega arith))) in
      or_sound later None (begun n db w walk) (resince r marks since later walk others sound)
      (begun_sound r marks since walk sound n db w hold later (at_same (walk.begun + 1) (walk.begun + 1) (r ∷ []) since refl) others)
  move_sound (Carry k) = or_sound since (traverse_of walk (numbered k walk.posts)) (carried k w walk) sound (carried_by k (numbered k walk.posts) refl)
  move_sound (Lose k) = or_sound since None (lost k walk) sound (lost_by k (numbered k walk.posts) refl)
  move_sound (Again k) = or_sound since (traverse_of walk (numbered k walk.posts)) (repeated k w walk) sound (repeated_by k (numbered k walk.posts) refl)
