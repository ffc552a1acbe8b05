-- A piece more, behind those before it.
use Rattle.std.proofs.Common.{◌≡◌, ◌≢◌, ℕ, zero, suc, ◌+◌, ◌<◌, ◌≤◌, ◌==◌, ⊎_elim, inl, inr, Bool, true, false, cond, ltb, List, [], ◌∷◌, ◌++◌, length, Option, None, Some, Ok, refl, sym, ap, subst, append_assoc, ◌∙◌, arith}
use Rattle.std.specs.List.{list_all}
use Rattle.std.proofs.lemmas.Bool.{and_parts, cond_both, eq-eqb, eqb-true, ne_eqb}
use Rattle.std.proofs.lemmas.Bool.Decides.{eqb_tells}
use Rattle.std.proofs.lemmas.List.{append-nil}
use Rattle.ct_frame.specs.declared.frame.Frame.{Frame}
use Rattle.ct_frame.specs.Fields.{well_formed}
use Rattle.ct_law_wire.specs.InPieces.{go_on}
use Rattle.ct_law_wire.proofs.InPieces.{end_of_two, frames_of_two}
use Rattle.ct_outside.specs.Links.{Parcel, parcel}
use Rattle.ct_wire_link.specs.Parcels.{bytes_of}
use Rattle.ct_wire_link.proofs.Joined.{fronts_join}
use Rattle.ct_wire_link.specs.declared.arrived.Arrived.{Arrived}
use Rattle.ct_wire_link.specs.Following.{AllArrive, AreFirst, AreWhole, BreaksAt, BrokenBreaks, FirstArrive, FirstLead, FirstStay, Follows, FollowsFirst, FollowsNext, WholeArrive, frames_from}
use Rattle.ct_wire_link.specs.Reading.{Reading, Reads, TakesPiece, before_strange, broken_at, first_strange, is_ours, is_sound, or_strange, progress_of, strange_at, unread}
use Rattle.ct_wire.specs.declared.cursor.Cursor.{Cursor}
use Rattle.ct_wire.specs.declared.cursor.Outcome.{Outcome}
use Rattle.ct_wire.specs.declared.cursor.Outcome.TheVariants as outcome
use Rattle.ct_wire.specs.declared.decode.Progress.{Progress}
use Rattle.ct_wire.specs.declared.decode.Progress.TheVariants as progress
use Rattle.ct_wire.specs.declared.decode.WireFault.{WireFault}
use Rattle.ct_wire.specs.declared.decode.WireFault.TheVariants as fault
use Rattle.ct_wire.specs.Cursor.{field_read, start, width}
use Rattle.ct_wire.specs.Decoding.{End, after_field, eaten, Closes, Completes}

-- ---- whatever bytes there are, they complete some frames

-- behind a frame there are fewer bytes than before
abbrev Shorter : End → ℕ → Type 0
Shorter (End.Waits s) n = Unit {0}
Shorter (End.Ends f k rest) n = length rest < n
Shorter (End.Breaks offset) n = Unit {0}

shorter_still : (e : End) (m n : ℕ) → m ≤ n → Shorter e m → Shorter e n
shorter_still (End.Waits s) m n le short = tt
shorter_still (End.Ends f k rest) m n le short = omega (arith, le, short)
shorter_still (End.Breaks offset) m n le short = tt

field_shortens : (o : Outcome) (bytes : List ℕ) → ((next : Cursor) → Shorter (eaten next [] bytes) (length bytes)) → Shorter (after_field o bytes (λ next. eaten next [] bytes)) (suc (length bytes))
field_shortens (outcome.More c) bytes on = shorter_still (eaten c [] bytes) (length bytes) (suc (length bytes)) (omega arith) (on c)
field_shortens (outcome.Whole f n) bytes on = omega arith
field_shortens (outcome.Malformed offset) bytes on = tt

shortens : (c : Cursor) (raw bytes : List ℕ) → Shorter (eaten c raw bytes) (length bytes)
unfolding eaten
shortens c raw [] = tt
shortens c raw (b ∷ bytes) =
    cond_both (ltb (length raw + 1) (width c)) (eaten c (raw ++ b ∷ []) bytes) (after_field (field_read c (raw ++ b ∷ [])) bytes (λ next. eaten next [] bytes))
    (λ (e : End). Shorter e (suc (length bytes)))
    (λ t. shorter_still (eaten c (raw ++ b ∷ []) bytes) (length bytes) (suc (length bytes)) (omega arith) (shortens c (raw ++ b ∷ []) bytes))
    (λ t. field_shortens (field_read c (raw ++ b ∷ [])) bytes (λ next. shortens next [] bytes))

-- some frames are complete, and then no more
abbrev SomeComplete : End → Type 0
SomeComplete e = (fs : List Frame) × (p : Progress) × Completes e fs p

complete_in : (n : ℕ) (e : End) → Shorter e n → SomeComplete e
complete_in zero (End.Waits s) short = ([], progress.Amid s, refl)
complete_in zero (End.Breaks offset) short = ([], progress.Failed (fault.Malformed offset), refl)
complete_in zero (End.Ends f k rest) short = let no : ⊥ = omega (arith, short) in absurd no
complete_in (suc n) (End.Waits s) short = ([], progress.Amid s, refl)
complete_in (suc n) (End.Breaks offset) short = ([], progress.Failed (fault.Malformed offset), refl)
complete_in (suc n) (End.Ends f k rest) short =
    let next = complete_in n (eaten start [] rest) (shorter_still (eaten start [] rest) (length rest) n (omega (arith, short)) (shortens start [] rest)) in
    (f ∷ next.0, next.1, (refl, next.2))

-- ---- a fault stays

failed_closes : (e : End) (f : WireFault) (more : List ℕ) → Closes e (progress.Failed f) → Completes (go_on e more) [] (progress.Failed f)
failed_closes (End.Waits s) f more closed = absurd (cc)
failed_closes (End.Ends g n rest) f more closed = absurd closed
failed_closes (End.Breaks offset) f more closed = closed

failed_goes_on : (fs : List Frame) (e : End) (f : WireFault) (more : List ℕ) → Completes e fs (progress.Failed f) → Completes (go_on e more) fs (progress.Failed f)
failed_goes_on [] e f more done = failed_closes e f more done
failed_goes_on (g ∷ fs) (End.Waits s) f more done = absurd done
failed_goes_on (g ∷ fs) (End.Breaks offset) f more done = absurd done
failed_goes_on (g ∷ fs) (End.Ends h n rest) f more done =
    (done.0, subst (λ (e : End). Completes e fs (progress.Failed f)) (sym (end_of_two start [] rest more)) (failed_goes_on fs (eaten start [] rest) f more done.1))

failed_stays : (bytes more : List ℕ) (fs : List Frame) (f : WireFault) → Completes (eaten start [] bytes) fs (progress.Failed f) → Completes (eaten start [] (bytes ++ more)) fs (progress.Failed f)
failed_stays bytes more fs f done = subst (λ (e : End). Completes e fs (progress.Failed f)) (sym (end_of_two start [] bytes more)) (failed_goes_on fs (eaten start [] bytes) f more done)

-- with more bytes, more frames are complete
abbrev Longer : List ℕ → List Frame → Type 0
Longer bytes fs = (gs : List Frame) × (q : Progress) × Completes (eaten start [] bytes) (fs ++ gs) q

longer : (bytes more : List ℕ) (fs : List Frame) (p : Progress) → Completes (eaten start [] bytes) fs p → Longer (bytes ++ more) fs
longer bytes more fs (progress.Failed f) done = ([], progress.Failed f, subst (λ (gs : List Frame). Completes (eaten start [] (bytes ++ more)) gs (progress.Failed f)) (sym (append-nil fs)) (failed_stays bytes more fs f done))
longer bytes more fs (progress.Amid s) done =
    let next = complete_in (length more) (eaten s.cursor s.raw more) (shortens s.cursor s.raw more) in
    (next.0, next.1, frames_of_two start [] bytes more fs next.0 s next.1 done next.2)

-- ---- the first frame that names another node

-- it stays the first
stays_step : (t : Bool) (f : Frame) (kept more : List Frame) (first then : Option ℕ) (here offset : ℕ) → cond t first (Some here) ≡ Some offset → (first ≡ Some offset → (more ≡ kept) × (then ≡ first))
    → (cond t (f ∷ more) [] ≡ cond t (f ∷ kept) []) × (cond t then (Some here) ≡ cond t first (Some here))
stays_step true f kept more first then here offset is on = (ap (λ (l : List Frame). f ∷ l) (on is).0, (on is).1)
stays_step false f kept more first then here offset is on = (refl, refl)

strange_stays : (me sender offset : ℕ) (fs gs : List Frame) → first_strange me sender fs ≡ Some offset → (before_strange me sender (fs ++ gs) ≡ before_strange me sender fs) × (first_strange me sender (fs ++ gs) ≡ first_strange me sender fs)
strange_stays me sender offset [] gs is = absurd (cc)
strange_stays me sender offset (f ∷ fs) gs is =
    stays_step (is_ours me sender f) f (before_strange me sender fs) (before_strange me sender (fs ++ gs)) (first_strange me sender fs) (first_strange me sender (fs ++ gs)) (strange_at me f) offset is (strange_stays me sender offset fs gs)

-- where none does, all are kept, and so are those behind them
none_step : (t : Bool) (f : Frame) (fs kept behind : List Frame) (first then last : Option ℕ) (here : ℕ) → cond t first (Some here) ≡ None → (first ≡ None → (kept ≡ fs ++ behind) × (then ≡ last))
    → (cond t (f ∷ kept) [] ≡ (f ∷ fs) ++ behind) × (cond t then (Some here) ≡ last)
none_step true f fs kept behind first then last here is on = (ap (λ (l : List Frame). f ∷ l) (on is).0, (on is).1)
none_step false f fs kept behind first then last here is on = absurd (cc)

none_strange : (me sender : ℕ) (fs gs : List Frame) → first_strange me sender fs ≡ None → (before_strange me sender (fs ++ gs) ≡ fs ++ before_strange me sender gs) × (first_strange me sender (fs ++ gs) ≡ first_strange me sender gs)
none_strange me sender [] gs is = (refl, refl)
none_strange me sender (f ∷ fs) gs is =
    none_step (is_ours me sender f) f fs (before_strange me sender (fs ++ gs)) (before_strange me sender gs) (first_strange me sender fs) (first_strange me sender (fs ++ gs)) (first_strange me sender gs) (strange_at me f) is (none_strange me sender fs gs)

none_kept : (me sender : ℕ) (fs : List Frame) → first_strange me sender fs ≡ None → before_strange me sender fs ≡ fs
none_kept me sender fs is = ap (before_strange me sender) (sym (append-nil fs)) ∙ (none_strange me sender fs [] is).0 ∙ append-nil fs

-- ---- the bytes of a sender, and a piece more of it

reads_by : (me sender : ℕ) (bytes piece : List ℕ) (arrived : List Frame) (old new : Progress) (a : Arrived) (fs : List Frame) (o : Option ℕ) (p : Progress)
    → first_strange me sender fs ≡ o → Completes (eaten start [] bytes) fs p → arrived ≡ before_strange me sender fs → old ≡ or_strange o p → TakesPiece (Ok a) me sender piece old new
    → Reads me sender (eaten start [] (bytes ++ piece)) (arrived ++ a.frames.items) new
reads_by me sender bytes piece arrived old new a fs (Some offset) p is done kept at takes =
    let stopped : TakesPiece (Ok a) me sender piece (progress.Failed (fault.Malformed offset)) new = subst (λ (x : Progress). TakesPiece (Ok a) me sender piece x new) at takes in
    let more = longer bytes piece fs p done in
    let same = strange_stays me sender offset fs more.0 is in (
      fs ++ more.0,
      more.1,
      more.2,
      ap (λ (l : List Frame). arrived ++ l) stopped.2 ∙ append-nil arrived ∙ kept ∙ sym same.0,
      stopped.4 ∙ ap (λ (x : Option ℕ). or_strange x more.1) (sym (same.1 ∙ is)),
    )
reads_by me sender bytes piece arrived old new a fs None (progress.Amid s) is done kept at takes =
    let goes : TakesPiece (Ok a) me sender piece (progress.Amid s) new = subst (λ (x : Progress). TakesPiece (Ok a) me sender piece x new) at takes in
    let gs = goes.0.0 in
    let q = goes.0.1 in
    let both = none_strange me sender fs gs is in (
      fs ++ gs,
      q,
      frames_of_two start [] bytes piece fs gs s q done goes.0.2,
      ap (λ (l : List Frame). l ++ a.frames.items) (kept ∙ none_kept me sender fs is) ∙ ap (λ (l : List Frame). fs ++ l) goes.0.3 ∙ sym both.0,
      goes.0.4 ∙ ap (λ (x : Option ℕ). or_strange x q) (sym both.1),
    )
reads_by me sender bytes piece arrived old new a fs None (progress.Failed f) is done kept at takes =
    let stopped : TakesPiece (Ok a) me sender piece (progress.Failed f) new = subst (λ (x : Progress). TakesPiece (Ok a) me sender piece x new) at takes in (
      fs,
      progress.Failed f,
      failed_stays bytes piece fs f done,
      ap (λ (l : List Frame). arrived ++ l) stopped.2 ∙ append-nil arrived ∙ kept,
      stopped.4 ∙ ap (λ (x : Option ℕ). or_strange x (progress.Failed f)) (sym is),
    )

reads_next : (me sender : ℕ) (bytes piece : List ℕ) (arrived : List Frame) (old new : Progress) (a : Arrived) → Reads me sender (eaten start [] bytes) arrived old → TakesPiece (Ok a) me sender piece old new
    → Reads me sender (eaten start [] (bytes ++ piece)) (arrived ++ a.frames.items) new
reads_next me sender bytes piece arrived old new a h takes = reads_by me sender bytes piece arrived old new a h.0 (first_strange me sender h.0) h.1 refl h.2 h.3 h.4 takes

-- ---- all senders

-- those of a sender among more frames
from_step : (t : Bool) (f : Frame) (xs ys zs : List Frame) → xs ≡ ys ++ zs → cond t (f ∷ xs) xs ≡ cond t (f ∷ ys) ys ++ zs
from_step true f xs ys zs is = ap (λ (l : List Frame). f ∷ l) is
from_step false f xs ys zs is = is

from_then : (sender : ℕ) (xs ys : List Frame) → frames_from sender (xs ++ ys) ≡ frames_from sender xs ++ frames_from sender ys
from_then sender [] ys = refl
from_then sender (f ∷ xs) ys = from_step (f.sender == sender) f (frames_from sender (xs ++ ys)) (frames_from sender xs) (frames_from sender ys) (from_then sender xs ys)

-- a frame that arrived names its sender
names_sender : (me sender : ℕ) (f : Frame) → is_sound me sender f ≡ true → (f.sender == sender) ≡ true
names_sender me sender f t = (and_parts (f.receiver == me) (f.sender == sender) (and_parts (well_formed f) (is_ours me sender f) t).1).1

all_from : (me sender : ℕ) (fs : List Frame) → list_all (is_sound me sender) fs ≡ true → frames_from sender fs ≡ fs
all_from me sender [] all = refl
all_from me sender (f ∷ fs) all =
    let p = and_parts (is_sound me sender f) (list_all (is_sound me sender) fs) all in
    let t : (f.sender == sender) ≡ true = names_sender me sender f p.0 in
    rw t (ap (λ (l : List Frame). f ∷ l) (all_from me sender fs p.1))

none_from : (me sender other : ℕ) (fs : List Frame) → other ≢ sender → list_all (is_sound me sender) fs ≡ true → frames_from other fs ≡ []
none_from me sender other [] ne all = refl
none_from me sender other (f ∷ fs) ne all =
    let p = and_parts (is_sound me sender f) (list_all (is_sound me sender) fs) all in
    let named : f.sender ≡ sender = eqb-true f.sender sender (names_sender me sender f p.0) in
    let t : (f.sender == other) ≡ false = ne_eqb f.sender other (λ e. ne (sym e ∙ named)) in
    rw t (none_from me sender other fs ne p.1)

-- the bytes of a sender, with a piece more
own_bytes : (sender : ℕ) (piece : List ℕ) (pieces : List Parcel) → bytes_of sender (pieces ++ parcel sender piece ∷ []) ≡ bytes_of sender pieces ++ piece
own_bytes sender piece pieces =
    let t : (sender == sender) ≡ true = eq-eqb sender sender refl in
    let one : bytes_of sender (parcel sender piece ∷ []) ≡ piece = rw t (append-nil piece) in
    fronts_join sender pieces (parcel sender piece ∷ []) ∙ ap (λ (l : List ℕ). bytes_of sender pieces ++ l) one

other_bytes : (sender other : ℕ) (piece : List ℕ) (pieces : List Parcel) → other ≢ sender → bytes_of other (pieces ++ parcel sender piece ∷ []) ≡ bytes_of other pieces
other_bytes sender other piece pieces ne =
    let t : (sender == other) ≡ false = ne_eqb sender other (λ e. ne (sym e)) in
    let none : bytes_of other (parcel sender piece ∷ []) ≡ [] = rw t refl in
    fronts_join other pieces (parcel sender piece ∷ []) ∙ ap (λ (l : List ℕ). bytes_of other pieces ++ l) none ∙ append-nil (bytes_of other pieces)

-- what bytes give, at equal bytes, frames and progress
reads_same : (me sender : ℕ) (b c : List ℕ) (xs ys : List Frame) (p q : Progress) → c ≡ b → ys ≡ xs → q ≡ p → Reads me sender (eaten start [] b) xs p → Reads me sender (eaten start [] c) ys q
reads_same me sender b c xs ys p q same_bytes same_frames same h =
    (h.0, h.1, subst (λ (l : List ℕ). Completes (eaten start [] l) h.0 h.1) (sym same_bytes) h.2, same_frames ∙ h.3, same ∙ h.4)

pub follows_first : FollowsFirst
unfolding Follows eaten
follows_first me sender = ([], unread, refl, refl, refl)

own_next : (me sender : ℕ) (piece : List ℕ) (a : Arrived) (pieces : List Parcel) (arrived : List Frame) (old new : List Reading) → Reads me sender (eaten start [] (bytes_of sender pieces)) (frames_from sender arrived) (progress_of sender old)
    → TakesPiece (Ok a) me sender piece (progress_of sender old) (progress_of sender new) → list_all (is_sound me sender) a.frames.items ≡ true
    → Reads me sender (eaten start [] (bytes_of sender (pieces ++ parcel sender piece ∷ []))) (frames_from sender (arrived ++ a.frames.items)) (progress_of sender new)
own_next me sender piece a pieces arrived old new h takes sound =
    reads_same me sender (bytes_of sender pieces ++ piece) (bytes_of sender (pieces ++ parcel sender piece ∷ [])) (frames_from sender arrived ++ a.frames.items) (frames_from sender (arrived ++ a.frames.items)) (progress_of sender new) (progress_of sender new)
    (own_bytes sender piece pieces)
    (from_then sender arrived a.frames.items ∙ ap (λ (l : List Frame). frames_from sender arrived ++ l) (all_from me sender a.frames.items sound))
    refl
    (reads_next me sender (bytes_of sender pieces) piece (frames_from sender arrived) (progress_of sender old) (progress_of sender new) a h takes)

other_next : (me sender other : ℕ) (piece : List ℕ) (a : Arrived) (pieces : List Parcel) (arrived : List Frame) (old new : List Reading) → other ≢ sender → Reads me other (eaten start [] (bytes_of other pieces)) (frames_from other arrived) (progress_of other old)
    → progress_of other new ≡ progress_of other old → list_all (is_sound me sender) a.frames.items ≡ true
    → Reads me other (eaten start [] (bytes_of other (pieces ++ parcel sender piece ∷ []))) (frames_from other (arrived ++ a.frames.items)) (progress_of other new)
other_next me sender other piece a pieces arrived old new ne h same sound =
    reads_same me other (bytes_of other pieces) (bytes_of other (pieces ++ parcel sender piece ∷ [])) (frames_from other arrived) (frames_from other (arrived ++ a.frames.items)) (progress_of other old) (progress_of other new)
    (other_bytes sender other piece pieces ne)
    (from_then other arrived a.frames.items ∙ ap (λ (l : List Frame). frames_from other arrived ++ l) (none_from me sender other a.frames.items ne sound) ∙ append-nil (frames_from other arrived))
    same
    h

pub follows_next : FollowsNext
unfolding Follows
follows_next me sender piece a pieces arrived old new h takes others sound other =
    elim (eqb_tells other sender) [
      | inl e ↦ subst (λ (k : ℕ). Reads me k (eaten start [] (bytes_of k (pieces ++ parcel sender piece ∷ []))) (frames_from k (arrived ++ a.frames.items)) (progress_of k new)) (sym e.1) (own_next me sender piece a pieces arrived old new (h sender) takes sound)
      | inr e ↦ other_next me sender other piece a pieces arrived old new e.1 (h other) (others other e.1) sound
    ]

-- ---- faults

whole_by : (me sender : ℕ) (bytes : List ℕ) (arrived : List Frame) (old : Progress) (fs : List Frame) (o : Option ℕ) (p : Progress)
    → first_strange me sender fs ≡ o → Completes (eaten start [] bytes) fs p → arrived ≡ before_strange me sender fs → old ≡ or_strange o p → broken_at old ≡ None → Completes (eaten start [] bytes) arrived old
whole_by me sender bytes arrived old fs (Some offset) p is done kept at none = let no : Some offset ≡ None = ap (λ (x : Progress). broken_at x) (sym at) ∙ none in absurd (cc)
whole_by me sender bytes arrived old fs None p is done kept at none =
    subst (λ (l : List Frame). Completes (eaten start [] bytes) l old) (sym (kept ∙ none_kept me sender fs is)) (subst (λ (x : Progress). Completes (eaten start [] bytes) fs x) (sym at) done)

pub whole_arrive : WholeArrive
unfolding Follows
whole_arrive me sender pieces arrived readings follows none =
    let h = follows sender in
    whole_by me sender (bytes_of sender pieces) (frames_from sender arrived) (progress_of sender readings) h.0 (first_strange me sender h.0) h.1 refl h.2 h.3 h.4 none

is_failed : (p : Progress) (offset : ℕ) → broken_at p ≡ Some offset → p ≡ progress.Failed (fault.Malformed offset)
is_failed (progress.Amid s) offset is = absurd (cc)
is_failed (progress.Failed fault.Short) offset is = absurd (cc)
is_failed (progress.Failed fault.NoMemory) offset is = absurd (cc)
is_failed (progress.Failed (fault.Malformed k)) offset is = cc

breaks_by : (me sender offset : ℕ) (bytes : List ℕ) (old : Progress) (fs : List Frame) (o : Option ℕ) (p : Progress)
    → first_strange me sender fs ≡ o → Completes (eaten start [] bytes) fs p → old ≡ or_strange o p → broken_at old ≡ Some offset → BreaksAt me sender bytes offset
breaks_by me sender offset bytes old fs (Some k) p is done at broken = (fs, p, done, inl (is ∙ ap (λ (x : Progress). broken_at x) (sym at) ∙ broken))
breaks_by me sender offset bytes old fs None p is done at broken = (fs, p, done, inr (is, is_failed p offset (ap (λ (x : Progress). broken_at x) (sym at) ∙ broken)))

-- bytes complete the same frames always
closes_once : (e : End) (p q : Progress) → Closes e p → Closes e q → p ≡ q
closes_once (End.Waits s) p q a b = a ∙ sym b
closes_once (End.Ends f n rest) p q a b = absurd a
closes_once (End.Breaks offset) p q a b = a ∙ sym b

completes_once : (fs gs : List Frame) (e : End) (p q : Progress) → Completes e fs p → Completes e gs q → (fs ≡ gs) × (p ≡ q)
completes_once [] [] e p q a b = (refl, closes_once e p q a b)
completes_once [] (g ∷ gs) (End.Waits s) p q a b = absurd b
completes_once [] (g ∷ gs) (End.Ends f n rest) p q a b = absurd a
completes_once [] (g ∷ gs) (End.Breaks offset) p q a b = absurd b
completes_once (f ∷ fs) [] (End.Waits s) p q a b = absurd a
completes_once (f ∷ fs) [] (End.Ends h n rest) p q a b = absurd b
completes_once (f ∷ fs) [] (End.Breaks offset) p q a b = absurd a
completes_once (f ∷ fs) (g ∷ gs) (End.Waits s) p q a b = absurd a
completes_once (f ∷ fs) (g ∷ gs) (End.Breaks offset) p q a b = absurd a
completes_once (f ∷ fs) (g ∷ gs) (End.Ends h n rest) p q a b =
    let more = completes_once fs gs (eaten start [] rest) p q a.1 b.1 in
    (ap (λ (x : Frame). x ∷ fs) (a.0 ∙ sym b.0) ∙ ap (λ (xs : List Frame). g ∷ xs) more.0, more.1)

broken_by : (me sender offset : ℕ) (bytes : List ℕ) (old : Progress) (fs : List Frame) (p : Progress) → Completes (eaten start [] bytes) fs p → old ≡ or_strange (first_strange me sender fs) p → BreaksAt me sender bytes offset → broken_at old ≡ Some offset
broken_by me sender offset bytes old fs p done at b =
    let once = completes_once fs b.0 (eaten start [] bytes) p b.1 done b.2 in
    let there : old ≡ or_strange (first_strange me sender b.0) b.1 = at ∙ ap (λ (gs : List Frame). or_strange (first_strange me sender gs) p) once.0 ∙ ap (λ (q : Progress). or_strange (first_strange me sender b.0) q) once.1 in
    ⊎_elim (λ (s : first_strange me sender b.0 ≡ Some offset). ap (λ (q : Progress). broken_at q) (there ∙ ap (λ (o : Option ℕ). or_strange o b.1) s))
    (λ (s : (first_strange me sender b.0 ≡ None) × (b.1 ≡ progress.Failed (fault.Malformed offset))). ap (λ (q : Progress). broken_at q) (there ∙ ap (λ (o : Option ℕ). or_strange o b.1) s.0 ∙ s.1))
    b.3

pub broken_breaks : BrokenBreaks
unfolding Follows
broken_breaks me sender offset pieces arrived readings follows =
    let h = follows sender in (
      λ broken. breaks_by me sender offset (bytes_of sender pieces) (progress_of sender readings) h.0 (first_strange me sender h.0) h.1 refl h.2 h.4 broken,
      λ breaks. broken_by me sender offset (bytes_of sender pieces) (progress_of sender readings) h.0 h.1 h.2 h.4 breaks,
    )

-- ---- the first frames of all

front_step : (t : Bool) (f : Frame) (fs kept : List Frame) → ((left : List Frame) × (kept ++ left ≡ fs)) → (left : List Frame) × (cond t (f ∷ kept) [] ++ left ≡ f ∷ fs)
front_step true f fs kept h = (h.0, ap (λ (l : List Frame). f ∷ l) h.1)
front_step false f fs kept h = (f ∷ fs, refl)

strange_front : (me sender : ℕ) (fs : List Frame) → (left : List Frame) × (before_strange me sender fs ++ left ≡ fs)
strange_front me sender [] = ([], refl)
strange_front me sender (f ∷ fs) = front_step (is_ours me sender f) f fs (before_strange me sender fs) (strange_front me sender fs)

pub first_arrive : FirstArrive
unfolding Follows
first_arrive me sender pieces arrived readings follows =
    let h = follows sender in
    let rest = strange_front me sender h.0 in
    record {
      left = rest.0;
      progress = h.1;
      complete = subst (λ (l : List Frame). Completes (eaten start [] (bytes_of sender pieces)) l h.1) (sym (ap (λ (l : List Frame). l ++ rest.0) h.3 ∙ rest.1)) h.2;
    }

pub first_stay : FirstStay
first_stay sender pieces more frames h =
    let go = longer (bytes_of sender pieces) (bytes_of sender more) (frames ++ h.left) h.progress h.complete in
    record {
      left = h.left ++ go.0;
      progress = go.1;
      complete = subst (λ (bytes : List ℕ). Completes (eaten start [] bytes) (frames ++ (h.left ++ go.0)) go.1) (sym (fronts_join sender pieces more))
          (subst (λ (l : List Frame). Completes (eaten start [] (bytes_of sender pieces ++ bytes_of sender more)) l go.1) (append_assoc frames h.left go.0) go.2);
    }

pub first_lead : FirstLead
first_lead sender bytes arrived late h = record {
  left = frames_from sender late ++ h.left;
  progress = h.progress;
  complete = subst (λ (l : List Frame). Completes (eaten start [] bytes) l h.progress)
      (ap (λ (l : List Frame). l ++ h.left) (from_then sender arrived late) ∙ append_assoc (frames_from sender arrived) (frames_from sender late) h.left) h.complete;
}

pub all_arrive : AllArrive
all_arrive me sender pieces arrived readings follows none = record {
  progress = progress_of sender readings;
  complete = whole_arrive me sender pieces arrived readings follows none;
  unbroken = λ offset breaks. (let broken : broken_at (progress_of sender readings) ≡ Some offset = (broken_breaks me sender offset pieces arrived readings follows).1 breaks in
      let no : None ≡ Some offset = sym none ∙ broken in absurd (cc));
}
