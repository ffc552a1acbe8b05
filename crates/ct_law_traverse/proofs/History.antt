-- What a traverse has behind it: the registers and the marks of its begin, and of each step since.
use Rattle.std.proofs.Common.{◌≡◌, ℕ, Bool, List, [], ◌∷◌, ◌++◌, map, refl, sym, ap, ◌∙◌, subst, inl, inr, ⊎_elim}
use Rattle.std.specs.Prelude.{◌⊎◌}
use Rattle.ct_register.specs.Lines.{Lines}
use Rattle.ct_register.specs.Marks.{MarksStep}
use Rattle.ct_register.specs.Register.{reading}
use Rattle.ct_promise.specs.Marked.{AllMarks}
use Rattle.ct_law_readings.specs.Readings.{VersionsStep}
use Rattle.ct_law_readings.specs.Fresh.{Moment, IsMarked}
use Rattle.ct_law_readings.specs.Greatest.{Later, ComesOn, end_of, Showed}
use Rattle.ct_law_readings.specs.Moments.{moment_of}
use Rattle.ct_law_traverse.specs.Snapshot.{WasReadIn}

-- a step since then: the registers and the marks behind it, and which records it removed
pub record Stage : Type 0 where
  pub lines : Lines
  pub marks : AllMarks
  pub removed : ℕ → ℕ → List ℕ → Bool

-- the last registers, and the last marks
unfoldable pub last_lines : Lines → List Stage → Lines
last_lines r [] = r
last_lines r (s ∷ ss) = last_lines s.lines ss

unfoldable pub last_marks : AllMarks → List Stage → AllMarks
last_marks marks [] = marks
last_marks marks (s ∷ ss) = last_marks s.marks ss

-- all registers
abbrev pub all_lines : Lines → List Stage → List Lines
all_lines r ss = r ∷ map (λ (s : Stage). s.lines) ss

-- the moments of a record
unfoldable pub later_in : ℕ → ℕ → List ℕ → List Stage → List Later
later_in g db key [] = []
later_in g db key (s ∷ ss) = record { was_removed = s.removed g db key; moment = moment_of s.lines s.marks g db key } ∷ later_in g db key ss

-- ---- one step more

pub last_lines_more : (r : Lines) (ss : List Stage) (s : Stage) → last_lines r (ss ++ s ∷ []) ≡ s.lines
unfolding last_lines
last_lines_more r [] s = refl
last_lines_more r (x ∷ ss) s = last_lines_more x.lines ss s

pub last_marks_more : (marks : AllMarks) (ss : List Stage) (s : Stage) → last_marks marks (ss ++ s ∷ []) ≡ s.marks
unfolding last_marks
last_marks_more marks [] s = refl
last_marks_more marks (x ∷ ss) s = last_marks_more x.marks ss s

pub lines_more : (ss : List Stage) (s : Stage) → map (λ (x : Stage). x.lines) (ss ++ s ∷ []) ≡ map (λ (x : Stage). x.lines) ss ++ s.lines ∷ []
lines_more [] s = refl
lines_more (x ∷ ss) s = ap (λ (l : List Lines). x.lines ∷ l) (lines_more ss s)

pub later_more : (g db : ℕ) (key : List ℕ) (ss ts : List Stage) → later_in g db key (ss ++ ts) ≡ later_in g db key ss ++ later_in g db key ts
unfolding later_in
later_more g db key [] ts = refl
later_more g db key (x ∷ ss) ts = ap (λ (l : List Later). record { was_removed = x.removed g db key; moment = moment_of x.lines x.marks g db key } ∷ l) (later_more g db key ss ts)

pub end_is : (g db : ℕ) (key : List ℕ) (r : Lines) (marks : AllMarks) (ss : List Stage) → end_of (moment_of r marks g db key) (later_in g db key ss) ≡ moment_of (last_lines r ss) (last_marks marks ss) g db key
unfolding end_of later_in last_lines last_marks
end_is g db key r marks [] = refl
end_is g db key r marks (s ∷ ss) = end_is g db key s.lines s.marks ss

-- the moments of a record come one of the other
abbrev pub Comes : ℕ → ℕ → List ℕ → Lines → AllMarks → List Stage → Type 0
Comes g db key r marks ss = ComesOn (moment_of r marks g db key) (later_in g db key ss)

pub comes_more : (g db : ℕ) (key : List ℕ) (r : Lines) (marks : AllMarks) (ss : List Stage) (s : Stage) → Comes g db key r marks ss →
    MarksStep (s.removed g db key) (last_marks marks ss g db key) (s.marks g db key) → VersionsStep (s.removed g db key) ((last_lines r ss).records g db key).versions (s.lines.records g db key).versions →
    IsMarked (moment_of s.lines s.marks g db key) → Comes g db key r marks (ss ++ s ∷ [])
unfolding ComesOn later_in last_lines last_marks
comes_more g db key r marks [] s c marked versions is = (marked, versions, is, tt)
comes_more g db key r marks (x ∷ ss) s c marked versions is = (c.0, c.1, c.2, comes_more g db key x.lines x.marks ss s c.3 marked versions is)

-- and those up to some step do
pub comes_front : (g db : ℕ) (key : List ℕ) (r : Lines) (marks : AllMarks) (ss ts : List Stage) → Comes g db key r marks (ss ++ ts) → Comes g db key r marks ss
unfolding ComesOn later_in
comes_front g db key r marks [] ts c = tt
comes_front g db key r marks (x ∷ ss) ts c = (c.0, c.1, c.2, comes_front g db key x.lines x.marks ss ts c.3)

-- ---- at some moment

-- so it was at the begin, or behind some step since
unfoldable pub AtSome : (Lines → AllMarks → Type 0) → Lines → AllMarks → List Stage → Type 0
AtSome P r marks [] = P r marks
AtSome P r marks (s ∷ ss) = P r marks ⊎ AtSome P s.lines s.marks ss

pub some_front : (P : Lines → AllMarks → Type 0) (r : Lines) (marks : AllMarks) (ss ts : List Stage) → AtSome P r marks ss → AtSome P r marks (ss ++ ts)
unfolding AtSome
some_front P r marks [] [] p = p
some_front P r marks [] (t ∷ ts) p = inl p
some_front P r marks (s ∷ ss) ts p = ⊎_elim (λ (here : P r marks). inl here) (λ (later : AtSome P s.lines s.marks ss). inr (some_front P s.lines s.marks ss ts later)) p

pub some_last : (P : Lines → AllMarks → Type 0) (r : Lines) (marks : AllMarks) (ss : List Stage) → P (last_lines r ss) (last_marks marks ss) → AtSome P r marks ss
unfolding AtSome last_lines last_marks
some_last P r marks [] p = p
some_last P r marks (s ∷ ss) p = inr (some_last P s.lines s.marks ss p)

-- ---- what a record showed

pub showed_front : (value : List ℕ) (m : Moment) (ns os : List Later) → Showed value m ns → Showed value m (ns ++ os)
unfolding Showed
showed_front value m [] [] h = h
showed_front value m [] (o ∷ os) h = inl h
showed_front value m (n ∷ ns) os h = ⊎_elim (λ (e : reading m.versions ≡ value). inl e) (λ (later : Showed value n.moment ns). inr (showed_front value n.moment ns os later)) h

pub showed_last : (value : List ℕ) (m : Moment) (ns : List Later) → reading (end_of m ns).versions ≡ value → Showed value m ns
unfolding Showed end_of
showed_last value m [] e = e
showed_last value m (n ∷ ns) e = inr (showed_last value n.moment ns e)

pub was_read : (g db : ℕ) (key value : List ℕ) (r : Lines) (marks : AllMarks) (ss : List Stage) → Showed value (moment_of r marks g db key) (later_in g db key ss) → WasReadIn g db key value (all_lines r ss)
unfolding Showed WasReadIn later_in
was_read g db key value r marks [] h = inl h
was_read g db key value r marks (s ∷ ss) h = ⊎_elim
    (λ (e : reading (r.records g db key).versions ≡ value). inl e)
    (λ (later : Showed value (moment_of s.lines s.marks g db key) (later_in g db key ss)). inr (was_read g db key value s.lines s.marks ss later))
    h
