-- A stream is the spellings of its frames.
use Rattle.std.proofs.Common.{◌≡◌, ℕ, List, [], ◌∷◌, ◌++◌, length, drop, refl, sym, ap, subst, ◌∙◌}
use Rattle.std.proofs.lemmas.List.{drop_at}
use Rattle.ct_frame.specs.declared.frame.Frame.{Frame}
use Rattle.ct_wire.specs.declared.decode.Progress.{Progress}
use Rattle.ct_wire.specs.Cursor.{start}
use Rattle.ct_wire.specs.Decoding.{End, eaten, Closes, Completes}
use Rattle.ct_law_wire.proofs.Headers.{spelled_goes}
use Rattle.ct_law_wire.specs.Alone.{AreSpelled, IsBytes, StreamsAreSpellings}
use Rattle.ct_law_wire.proofs.Back.{IsBytes-drop}
use Rattle.ct_law_wire.proofs.Whole.{begins}

behind_fits : (bytes front behind : List ℕ) → bytes ≡ front ++ behind → IsBytes bytes → IsBytes behind
behind_fits bytes front behind parts fits =
    let same : drop (length front) bytes ≡ behind = ap (drop (length front)) parts ∙ drop_at front behind (length front) refl in
    subst IsBytes same (IsBytes-drop (length front) bytes fits)

-- what is asked of a stream
abbrev Spelled : List Frame → List ℕ → Progress → Type 0
Spelled fs bytes p = (rest : List ℕ) × AreSpelled fs bytes rest × Closes (eaten start [] rest) p

-- the first frame, and the others behind it
first_spelled : (e : End) (bytes : List ℕ) (f : Frame) (fs : List Frame) (p : Progress) → IsBytes bytes → eaten start [] bytes ≡ e → ((behind : List ℕ) → IsBytes behind → Completes (eaten start [] behind) fs p → Spelled fs behind p)
    → Completes e (f ∷ fs) p → Spelled (f ∷ fs) bytes p
first_spelled (End.Waits s) bytes f fs p fits is others done = absurd done
first_spelled (End.Breaks offset) bytes f fs p fits is others done = absurd done
first_spelled (End.Ends g n behind) bytes f fs p fits is others done =
    let same : eaten start [] bytes ≡ End.Ends f n behind = is ∙ ap (λ (x : Frame). End.Ends x n behind) (sym done.0) in
    let b = begins bytes f n behind fits same in
    let more = others behind (behind_fits bytes b.1 behind b.3 fits) done.1 in
    (more.0, (b.0, b.1, behind, b.2, b.3, more.1), more.2)

are_spelled : (fs : List Frame) (bytes : List ℕ) (p : Progress) → IsBytes bytes → Completes (eaten start [] bytes) fs p → Spelled fs bytes p
are_spelled [] bytes p fits done = (bytes, refl, done)
are_spelled (f ∷ fs) bytes p fits done = first_spelled (eaten start [] bytes) bytes f fs p fits refl (λ behind behind_fit more. are_spelled fs behind p behind_fit more) done

are_completed : (fs : List Frame) (bytes rest : List ℕ) (p : Progress) → AreSpelled fs bytes rest → Closes (eaten start [] rest) p → Completes (eaten start [] bytes) fs p
are_completed [] bytes rest p same closes = subst (λ (x : List ℕ). Completes (eaten start [] x) [] p) (sym same) closes
are_completed (f ∷ fs) bytes rest p s closes =
    let ends : eaten start [] bytes ≡ End.Ends f (length s.1) s.2 = ap (eaten start []) s.4 ∙ spelled_goes f s.0 s.1 s.2 s.3 in
    subst (λ (e : End). Completes e (f ∷ fs) p) (sym ends) (refl, are_completed fs s.2 rest p s.5 closes)

pub streams_are_spellings : StreamsAreSpellings
streams_are_spellings bytes fs p fits = (are_spelled fs bytes p fits, λ s. are_completed fs bytes s.0 p s.1 s.2)
