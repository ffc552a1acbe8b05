-- What is read keeps the rules of its fields.
use Rattle.std.proofs.Common.{◌≡◌, ℕ, zero, suc, ◌<◌, ◌⊎◌, ⊎_elim, true, List, [], ◌∷◌, ◌++◌, Ok, refl, sym, ap, subst, ◌∙◌, arith}
use Rattle.std.specs.List.{list_all}
use Rattle.std.proofs.lemmas.Bool.{and_from, and_parts, cond_both}
use Rattle.std.proofs.lemmas.List.Folds.{list_all-append}
use Rattle.ct_frame.specs.declared.frame.Frame.{Frame}
use Rattle.ct_frame.specs.Fields.{well_formed}
use Rattle.ct_law_wire.specs.Alone.{AreSpelled, IsBytes}
use Rattle.ct_law_wire.proofs.Stream.{streams_are_spellings}
use Rattle.ct_law_wire.proofs.InPieces.{frames_of_two}
use Rattle.ct_wire_link.specs.declared.arrived.Arrived.{Arrived}
use Rattle.ct_wire_link.specs.Reading.{IsReached, ReadsOn, before_strange, is_ours, is_sound, unread}
use Rattle.ct_wire.specs.declared.decode.Progress.{Progress}
use Rattle.ct_wire.specs.declared.decode.Progress.TheVariants as progress
use Rattle.ct_wire.specs.declared.decode.Spot.{Spot}
use Rattle.ct_wire.specs.declared.decode.WireFault.TheVariants as fault
use Rattle.ct_wire.specs.Cursor.{start}
use Rattle.ct_wire.specs.Decoding.{eaten, Completes}

-- bytes behind bytes
both_bytes : (xs ys : List ℕ) → IsBytes xs → IsBytes ys → IsBytes (xs ++ ys)
both_bytes [] ys fx fy = fy
both_bytes (x ∷ xs) ys fx fy = one_more x (xs ++ ys) (fx 0) (both_bytes xs ys (λ i. fx (suc i)) fy)
  where
    one_more : (x : ℕ) (zs : List ℕ) → x < 256 → IsBytes zs → IsBytes (x ∷ zs)
    one_more x zs lt fz zero = lt
    one_more x zs lt fz (suc i) = fz i

-- spellings are of frames that keep the rules
spelled_formed : (fs : List Frame) (bytes rest : List ℕ) → AreSpelled fs bytes rest → list_all well_formed fs ≡ true
spelled_formed [] bytes rest s = refl
spelled_formed (f ∷ fs) bytes rest s = and_from (well_formed f) (list_all well_formed fs) s.3.kept (spelled_formed fs s.2 rest s.5)

-- bytes that lead somewhere, and a piece behind them
abbrev Onward : Spot → List ℕ → List Frame → Progress → Type 0
Onward s piece frames p = (bytes : List ℕ) × (fs : List Frame) × IsBytes bytes × Completes (eaten start [] bytes) (fs ++ frames) p

onward : (s : Spot) (piece : List ℕ) (frames : List Frame) (p : Progress) → IsReached (progress.Amid s) → IsBytes piece → Completes (eaten s.cursor s.raw piece) frames p → Onward s piece frames p
onward s piece frames p r fits done = (r.0 ++ piece, r.1, both_bytes r.0 piece r.2 fits, frames_of_two start [] r.0 piece r.1 frames s p r.3 done)

reached_then : (s : Spot) (piece : List ℕ) (frames : List Frame) (p : Progress) → IsReached (progress.Amid s) → IsBytes piece → Completes (eaten s.cursor s.raw piece) frames p → IsReached p
reached_then s piece frames (progress.Amid t) r fits done =
    let o = onward s piece frames (progress.Amid t) r fits done in
    (o.0, o.1 ++ frames, o.2, o.3)
reached_then s piece frames (progress.Failed f) r fits done = tt

formed_then : (s : Spot) (piece : List ℕ) (frames : List Frame) (p : Progress) → IsReached (progress.Amid s) → IsBytes piece → Completes (eaten s.cursor s.raw piece) frames p → list_all well_formed frames ≡ true
formed_then s piece frames p r fits done =
    let o = onward s piece frames p r fits done in
    let spelled = (streams_are_spellings o.0 (o.1 ++ frames) p o.2).0 o.3 in
    (and_parts (list_all well_formed o.1) (list_all well_formed frames) (sym (list_all-append well_formed o.1 frames) ∙ spelled_formed (o.1 ++ frames) o.0 spelled.0 spelled.1)).1

-- what is read on is reached
pub reads_reached : (a : Arrived) (old : Progress) (piece : List ℕ) (new : Progress) → IsReached old → IsBytes piece → ReadsOn (Ok a) old piece new → IsReached new
reads_reached a (progress.Amid s) piece new r fits read = reached_then s piece a.frames.items new r fits read.0
reads_reached a (progress.Failed f) piece new r fits read = subst (λ (p : Progress). IsReached p) (sym read.4) tt

pub refused_reached : (old new : Progress) → IsReached old → (new ≡ old) ⊎ (new ≡ progress.Failed fault.NoMemory) → IsReached new
refused_reached old new r read =
    ⊎_elim (λ (e : new ≡ old). subst (λ (p : Progress). IsReached p) (sym e) r)
    (λ (e : new ≡ progress.Failed fault.NoMemory). subst (λ (p : Progress). IsReached p) (sym e) tt)
    read

reads_formed : (a : Arrived) (old : Progress) (piece : List ℕ) (new : Progress) → IsReached old → IsBytes piece → ReadsOn (Ok a) old piece new → list_all well_formed a.frames.items ≡ true
reads_formed a (progress.Amid s) piece new r fits read = formed_then s piece a.frames.items new r fits read.0
reads_formed a (progress.Failed f) piece new r fits read = ap (λ (fs : List Frame). list_all well_formed fs) read.2

-- those before the first that names another node
ours_sound : (me sender : ℕ) (fs : List Frame) → list_all well_formed fs ≡ true → list_all (is_sound me sender) (before_strange me sender fs) ≡ true
ours_sound me sender [] all = refl
ours_sound me sender (f ∷ fs) all =
    let p = and_parts (well_formed f) (list_all well_formed fs) all in
    cond_both (is_ours me sender f) (f ∷ before_strange me sender fs) [] (λ (gs : List Frame). list_all (is_sound me sender) gs ≡ true)
    (λ t. and_from (is_sound me sender f) (list_all (is_sound me sender) (before_strange me sender fs)) (and_from (well_formed f) (is_ours me sender f) p.0 t) (ours_sound me sender fs p.1))
    (λ t. refl)

pub reads_sound : (me sender : ℕ) (a : Arrived) (old : Progress) (piece : List ℕ) (new : Progress) → IsReached old → IsBytes piece → ReadsOn (Ok a) old piece new → list_all (is_sound me sender) (before_strange me sender a.frames.items) ≡ true
reads_sound me sender a old piece new r fits read = ours_sound me sender a.frames.items (reads_formed a old piece new r fits read)

-- no byte leads to the start
pub unread_reached : IsReached unread
unfolding eaten
unread_reached = ([], [], λ i. omega arith, refl)
