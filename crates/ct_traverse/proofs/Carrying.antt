-- A message that comes: what it leaves of the messages, and what that makes of it.
use Rattle.std.proofs.Common.{◌≡◌, ℕ, ◌+◌, ◌-◌, length, Bool, true, false, List, [], ◌∷◌, ◌++◌, Option, Some, None, refl, sym, ap, ◌∙◌, subst, append-nil}
use Rattle.std.specs.Prelude.{Result, Ok, Err, OnOk, is_err, slice_get, slice_set}
use Rattle.ct_values.specs.declared.memory.NoMemory.{NoMemory}
use Rattle.ct_traverse_parts.specs.Best.{gathered}
use Rattle.std.proofs.lemmas.Bool.{cond_both}
use Rattle.ct_frame.specs.declared.frame.TableRow.{TableRow}
use Rattle.ct_mail.specs.declared.sent.Fate.TheVariants.{Delivered, Dropped}
use Rattle.ct_rules_cluster.specs.Cluster.{World}
use Rattle.ct_traverse_parts.specs.Posts.{is_delivered, is_waiting, numbered}
use Rattle.ct_traverse_parts.specs.Walk.{Walk, Walked, Walks, ask_lines, asked_all, asks, carried, carried_of, counted, counts, delivered, gave, gave_at, given, have_numbers, is_taken, limited, passed, place_of, repeated, repeated_of, second_pass, told, with_fate, with_rows, with_traverse}
use Rattle.ct_traverse_parts.specs.declared.line.Pass.{Pass}
use Rattle.ct_traverse_parts.specs.declared.line.Pass.TheVariants.{Copies, Entries}
use Rattle.ct_traverse_parts.specs.declared.line.TFault.{TFault}
use Rattle.ct_traverse_parts.specs.declared.line.TFault.TheVariants as fault
use Rattle.ct_traverse_parts.specs.declared.line.TLine.{TLine}
use Rattle.ct_traverse_parts.specs.declared.line.TLine.TheVariants as line
use Rattle.ct_traverse_parts.specs.declared.post.Post.{Post}
use Rattle.ct_traverse_parts.specs.declared.traverse.Traverse.{Traverse}
use Rattle.ct_traverse.proofs.Walking.{numbered_more}

-- what came of a call has all messages that were there, and perhaps more
abbrev Extends : List Post → Result Walked TFault → Type 0
Extends posts r = (x : Walked) → r ≡ Ok x → (more : List Post) × (x.walk.posts ≡ posts ++ more)

same_walked : (x y : Walked) → ◌≡◌ {A = Result Walked TFault} (Ok y) (Ok x) → x.walk.posts ≡ y.walk.posts
same_walked x y e = (let s : y ≡ x = cc in ap (λ (z : Walked). z.walk.posts) (sym s))

limited_extends : (b : Bool) (y : Walked) (posts more : List Post) → y.walk.posts ≡ posts ++ more → Extends posts (limited b y)
limited_extends true y posts more e x is = (more, same_walked x y is ∙ e)
limited_extends false y posts more e x is = absurd (cc)

told_extends : (lines : List TLine) (v : Walk) (posts : List Post) → v.posts ≡ posts → Extends posts (told lines v)
told_extends lines v posts e x is = ([], same_walked x (record { walk = v; lines = lines }) is ∙ e ∙ sym (append-nil posts))

passed_extends : (pass : Pass) (i : ℕ) (t : Traverse) (walk : Walk) → Extends walk.posts (passed pass i t walk)
unfolding passed
passed_extends Copies i t walk = limited_extends _ _ walk.posts _ refl
passed_extends Entries i t walk = told_extends _ _ walk.posts refl

counted_extends : (missing : List ℕ) (i : ℕ) (t : Traverse) (walk : Walk) → Extends walk.posts (counted missing i t walk)
unfolding counted
counted_extends [] i t walk = passed_extends t.pass i t walk
counted_extends (m ∷ ms) i t walk = told_extends _ _ walk.posts refl

gave_extends : (p : Post) (rows : List TableRow) (i : ℕ) (o : Option Traverse) (walk : Walk) → Extends walk.posts (gave p rows i o walk)
unfolding gave
gave_extends p rows i None walk = told_extends [] walk walk.posts refl
gave_extends p rows i (Some t) walk = cond_both (counts p t) _ _ (Extends walk.posts) (λ _. counted_extends (with_rows p rows t).missing i (with_rows p rows t) walk) (λ _. told_extends [] walk walk.posts refl)

gave_at_extends : (p : Post) (rows : List TableRow) (o : Option ℕ) (walk : Walk) → Extends walk.posts (gave_at p rows o walk)
unfolding gave_at
gave_at_extends p rows None walk = told_extends [] walk walk.posts refl
gave_at_extends p rows (Some i) walk = gave_extends p rows i (slice_get walk.running i) walk

given_extends : (p : Post) (o : Option (List TableRow)) (w : World) (walk : Walk) → Extends walk.posts (given p o w walk)
unfolding given
given_extends p None w walk = limited_extends _ _ walk.posts _ refl
given_extends p (Some rows) w walk = gave_at_extends p rows (place_of p.traverse walk) walk

-- a message that comes is the same afterwards
pub given_keeps : (k : ℕ) (q p : Post) (w : World) (walk after : Walk) (lines : List TLine) → numbered k walk.posts ≡ Some q → given p p.rows w walk ≡ Ok (record { walk = after; lines = lines }) → numbered k after.posts ≡ Some q
given_keeps k q p w walk after lines at is = (let e = given_extends p p.rows w walk (record { walk = after; lines = lines }) is in
    subst (λ (l : List Post). numbered k l ≡ Some q) (sym e.1) (numbered_more k walk.posts e.0 q at))

-- ---- a message that waits

pub not_carried : (k : ℕ) (w : World) (walk : Walk) → is_waiting (numbered k walk.posts) ≡ false → carried k w walk ≡ Err (fault.NoSuchMessage k)
unfolding carried_of
not_carried k w walk = by (numbered k walk.posts)
  where
    by : (o : Option Post) → is_waiting o ≡ false → carried_of k o w walk ≡ Err (fault.NoSuchMessage k)
    by None e = refl
    by (Some p) e = rw e refl

pub carried_away : (k : ℕ) (w : World) (walk : Walk) (p : Post) → numbered k walk.posts ≡ Some p → is_waiting (numbered k walk.posts) ≡ true → is_taken p p.rows w walk ≡ false → carried k w walk ≡ told (line.TLost k ∷ []) (with_fate k p Dropped walk)
unfolding carried_of
carried_away k w walk p at waits gone = ap (λ o. carried_of k o w walk) at ∙ (let e : is_waiting (Some p) ≡ true = sym (ap is_waiting at) ∙ waits in rw (e, gone) refl)

pub carried_on : (k : ℕ) (w : World) (walk : Walk) (p : Post) → numbered k walk.posts ≡ Some p → is_waiting (numbered k walk.posts) ≡ true → is_taken p p.rows w walk ≡ true → carried k w walk ≡ delivered k p (given p p.rows w walk)
unfolding carried_of
carried_on k w walk p at waits taken = ap (λ o. carried_of k o w walk) at ∙ (let e : is_waiting (Some p) ≡ true = sym (ap is_waiting at) ∙ waits in rw (e, taken) refl)

-- ---- a message that was delivered

pub not_repeated : (k : ℕ) (w : World) (walk : Walk) → is_delivered (numbered k walk.posts) ≡ false → repeated k w walk ≡ Err (fault.NoSuchMessage k)
unfolding repeated_of
not_repeated k w walk = by (numbered k walk.posts)
  where
    by : (o : Option Post) → is_delivered o ≡ false → repeated_of k o w walk ≡ Err (fault.NoSuchMessage k)
    by None e = refl
    by (Some p) e = rw e refl

pub repeated_away : (k : ℕ) (w : World) (walk : Walk) (p : Post) → numbered k walk.posts ≡ Some p → is_delivered (numbered k walk.posts) ≡ true → is_taken p p.rows w walk ≡ false → repeated k w walk ≡ told (line.TLost k ∷ []) walk
unfolding repeated_of
repeated_away k w walk p at waits gone = ap (λ o. repeated_of k o w walk) at ∙ (let e : is_delivered (Some p) ≡ true = sym (ap is_delivered at) ∙ waits in rw (e, gone) refl)

pub repeated_on : (k : ℕ) (w : World) (walk : Walk) (p : Post) → numbered k walk.posts ≡ Some p → is_delivered (numbered k walk.posts) ≡ true → is_taken p p.rows w walk ≡ true → repeated k w walk ≡ given p p.rows w walk
unfolding repeated_of
repeated_on k w walk p at waits taken = ap (λ o. repeated_of k o w walk) at ∙ (let e : is_delivered (Some p) ≡ true = sym (ap is_delivered at) ∙ waits in rw (e, taken) refl)

pub repeated_none : (k : ℕ) (w : World) (walk : Walk) → numbered k walk.posts ≡ None → repeated k w walk ≡ Err (fault.NoSuchMessage k)
unfolding repeated_of
repeated_none k w walk none = ap (λ o. repeated_of k o w walk) none

pub carried_none : (k : ℕ) (w : World) (walk : Walk) → numbered k walk.posts ≡ None → carried k w walk ≡ Err (fault.NoSuchMessage k)
unfolding carried_of
carried_none k w walk none = ap (λ o. carried_of k o w walk) none

-- a message that came waits until it is delivered
pub still_waits : (k : ℕ) (p : Post) (w : World) (walk after : Walk) (lines : List TLine) → numbered k walk.posts ≡ Some p → is_waiting (numbered k walk.posts) ≡ true → given p p.rows w walk ≡ Ok (record { walk = after; lines = lines }) → is_waiting (numbered k after.posts) ≡ true
still_waits k p w walk after lines at waits is = ap is_waiting (given_keeps k p p w walk after lines at is) ∙ sym (ap is_waiting at) ∙ waits

pub carried_done : (k : ℕ) (p : Post) (w : World) (walk after new : Walk) (lines : List TLine) → numbered k walk.posts ≡ Some p → is_waiting (numbered k walk.posts) ≡ true → is_taken p p.rows w walk ≡ true → given p p.rows w walk ≡ Ok (record { walk = after; lines = lines }) →
    ((q : Post) → numbered k after.posts ≡ Some q → new ≡ with_fate k q Delivered after) → carried k w walk ≡ Ok (record { walk = new; lines = lines })
unfolding delivered
carried_done k p w walk after new lines at waits taken is ends = carried_on k w walk p at waits taken ∙ ap (delivered k p) is
    ∙ ap (λ (v : Walk). Ok (record { walk = v; lines = lines })) (sym (ends p (given_keeps k p p w walk after lines at is)))

-- what refuses the one refuses the other
refused_so : {X : Type 0} (lines : X → List TLine) (k : ℕ) (p : Post) (f : TFault) (r s : Result Walked TFault) (old new : Walk) → s ≡ delivered k p r → Walks lines (Err f) r old new → Walks lines (Err f) s old new
unfolding delivered
refused_so lines k p (fault.NoSuchNode n) r s old new e h = (e ∙ ap (delivered k p) h.0, h.1)
refused_so lines k p (fault.NodeDown n) r s old new e h = (e ∙ ap (delivered k p) h.0, h.1)
refused_so lines k p (fault.NoSuchDb n) r s old new e h = (e ∙ ap (delivered k p) h.0, h.1)
refused_so lines k p (fault.NotServing n) r s old new e h = (e ∙ ap (delivered k p) h.0, h.1)
refused_so lines k p (fault.NoSuchMessage n) r s old new e h = (e ∙ ap (delivered k p) h.0, h.1)
refused_so lines k p fault.Exhausted r s old new e h = (e ∙ ap (delivered k p) h.0, h.1)
refused_so lines k p fault.NoMemory r s old new e h = h

pub carried_refused : {X : Type 0} (lines : X → List TLine) (k : ℕ) (p : Post) (w : World) (walk new : Walk) (f : TFault) → numbered k walk.posts ≡ Some p → is_waiting (numbered k walk.posts) ≡ true → is_taken p p.rows w walk ≡ true → Walks lines (Err f) (given p p.rows w walk) walk new → Walks lines (Err f) (carried k w walk) walk new
carried_refused lines k p w walk new f at waits taken h = refused_so lines k p f (given p p.rows w walk) (carried k w walk) walk new (carried_on k w walk p at waits taken) h

-- ---- the first pass is over

pub on_ok : (P : Type 0) (r : Result (Unit {0}) NoMemory) (b : Bool) → b ≡ is_err r → b ≡ false → OnOk r P → P
on_ok P (Ok u) b e f h = h
on_ok P (Err x) b e f h = absurd (let z = sym e ∙ f in cc)

-- the traverse asks for entries
pub turned_so : (walk : Walk) (i : ℕ) (p : Post) (rows : List TableRow) (t : Traverse) (begun : ℕ) (running now : List Traverse) (posts after questions : List Post) (missing : List ℕ) (lines : List TLine) (count : ℕ) (fits : Bool) →
    record { begun = begun; running = running; posts = posts } ≡ walk → count ≡ length t.members → fits ≡ have_numbers count walk → fits ≡ true →
    now ≡ slice_set running i (record t { pass = Entries; missing = missing; kept = gathered p.pass p.sender rows t.kept }) → missing ≡ t.members → after ≡ posts ++ questions → questions ≡ asks Entries t → lines ≡ ask_lines (length walk.posts + 1) Entries t →
    passed Copies i (with_rows p rows t) walk ≡ Ok (record { walk = record { begun = begun; running = now; posts = after }; lines = lines })
unfolding passed
turned_so walk i p rows t begun running now posts after questions missing lines count fits is counts_are told_fits all_fit moved all sent are say =
    subst (λ (w : Walk). fits ≡ have_numbers count w → lines ≡ ask_lines (length w.posts + 1) Entries t → passed Copies i (with_rows p rows t) w ≡ Ok (record { walk = record { begun = begun; running = now; posts = after }; lines = lines })) is at_it told_fits say
  where
    v : Walk
    v = record { begun = begun; running = running; posts = posts }

    moved_on : now ≡ slice_set running i (second_pass (with_rows p rows t))
    moved_on = moved ∙ ap (λ (ms : List ℕ). slice_set running i (record t { pass = Entries; missing = ms; kept = gathered p.pass p.sender rows t.kept })) all

    sent_on : after ≡ posts ++ asks Entries t
    sent_on = sent ∙ ap (λ (l : List Post). posts ++ l) are

    at_it : fits ≡ have_numbers count v → lines ≡ ask_lines (length posts + 1) Entries t → passed Copies i (with_rows p rows t) v ≡ Ok (record { walk = record { begun = begun; running = now; posts = after }; lines = lines })
    at_it f l = (let e : have_numbers (length t.members) v ≡ true = sym (f ∙ ap (λ n. have_numbers n v) counts_are) ∙ all_fit in
        ap (λ (b : Bool). limited b (asked_all (second_pass (with_rows p rows t)) (with_traverse i (second_pass (with_rows p rows t)) v))) e
        ∙ sym (ap (λ (x : List Traverse). Ok (record { walk = record { begun = begun; running = x; posts = after }; lines = lines })) moved_on
        ∙ ap (λ (x : List Post). Ok (record { walk = record { begun = begun; running = slice_set running i (second_pass (with_rows p rows t)); posts = x }; lines = lines })) sent_on
        ∙ ap (λ (x : List TLine). Ok (record { walk = record { begun = begun; running = slice_set running i (second_pass (with_rows p rows t)); posts = posts ++ asks Entries t }; lines = x })) l))

-- nobody takes it
pub carried_gone : (k : ℕ) (w : World) (walk new : Walk) (p : Post) (lines : List TLine) → numbered k walk.posts ≡ Some p → is_waiting (numbered k walk.posts) ≡ true → is_taken p p.rows w walk ≡ false → lines ≡ line.TLost k ∷ [] → new ≡ with_fate k p Dropped walk →
    carried k w walk ≡ Ok (record { walk = new; lines = lines })
carried_gone k w walk new p lines at waits gone say ends = carried_away k w walk p at waits gone
    ∙ sym (ap (λ (v : Walk). Ok (record { walk = v; lines = lines })) ends ∙ ap (λ (l : List TLine). Ok (record { walk = with_fate k p Dropped walk; lines = l })) say)
