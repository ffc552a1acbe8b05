-- The frames that a piece completes, one after the other.
use Rattle.std.proofs.Common.{◌≡◌, ◌==◌, ◌∙◌, ◌≤◌, ℕ, suc, true, List, [], ◌∷◌, ◌++◌, length, Option, Some, Result, Ok, Err, refl, sym, ap, subst, append_assoc, Bor, arith}
use Rattle.std.specs.Prelude.{IfOk, IfSome}
use Rattle.std.specs.Global.{Vec}
use Rattle.std.proofs.lemmas.Bool.{eqb-true}
use Rattle.std.proofs.lemmas.List.{append-nil}
use Rattle.ct_values.specs.declared.memory.NoMemory.{NoMemory}
use Rattle.ct_frame.specs.declared.frame.Frame.{Frame}
use Rattle.ct_wire.specs.declared.cursor.Cursor.{Cursor}
use Rattle.ct_wire.specs.declared.decode.Event.{Event}
use Rattle.ct_wire.specs.declared.decode.Event.TheVariants as event
use Rattle.ct_wire.specs.declared.decode.Progress.{Progress}
use Rattle.ct_wire.specs.declared.decode.Reached.{Reached}
use Rattle.ct_wire.specs.declared.decode.Reached.TheVariants as reached
use Rattle.ct_wire.specs.declared.decode.WireFault.{WireFault}
use Rattle.ct_wire.specs.declared.decode.Spot.{Spot}
use Rattle.ct_wire.specs.Cursor.{start}
use Rattle.ct_wire.specs.declared.decode.Progress.TheVariants as progress
use Rattle.ct_wire.specs.declared.decode.WireFault.TheVariants as fault
use Rattle.ct_wire.specs.Decoding.{End, eaten, Answers, Closes, Completes, FeedsOpen, Finds, IsLone, LeavesBelow, Reaches, Shortens}

-- the bytes that are still to be read
abbrev pub to_read : Event → ℕ
to_read (event.Ends f n rest) = suc (length rest.now)
to_read _ = 0

-- the frames so far, and those that this end still completes, are those of the first
abbrev pub GoesOn : End → List Frame → End → Type 0
GoesOn first so_far e = (fs : List Frame) (p : Progress) → Completes e fs p → Completes first (so_far ++ fs) p

pub goes_on_first : (e : End) → GoesOn e [] e
goes_on_first e fs p done = done

pub goes_on_next : (first : End) (so_far : List Frame) (f : Frame) (n : ℕ) (rest : List ℕ) → GoesOn first so_far (End.Ends f n rest) → GoesOn first (so_far ++ f ∷ []) (eaten start [] rest)
goes_on_next first so_far f n rest on fs p done =
    subst (λ (gs : List Frame). Completes first gs p) (sym (append_assoc so_far (f ∷ []) fs)) (on (f ∷ fs) p (refl, done))

pub goes_on_last : (first : End) (so_far : List Frame) (e : End) (p : Progress) → GoesOn first so_far e → Completes e [] p → Completes first so_far p
goes_on_last first so_far e p on done = subst (λ (gs : List Frame). Completes first gs p) (append-nil so_far) (on [] p done)

-- behind the last frame nothing has come
pub goes_on_empty : (first : End) (so_far : List Frame) (rest : List ℕ) (p : Progress) → GoesOn first so_far (eaten start [] rest) → (length rest == 0) ≡ true → p ≡ progress.Amid (record { cursor = start; raw = [] }) → Completes first so_far p
unfolding eaten
goes_on_empty first so_far [] p on none is = goes_on_last first so_far (eaten start [] []) p on is
goes_on_empty first so_far (b ∷ rest) p on none is = absurd (omega (arith, eqb-true (length (b ∷ rest)) 0 none))

-- a frame that nothing follows is the one that is complete
lone_done : (e : End) (f : Frame) → IsLone f e → Completes e (f ∷ []) (progress.Amid (record { cursor = start; raw = [] }))
unfolding eaten
lone_done (End.Ends g n rest) f lone = (sym lone.0, subst (λ (l : List ℕ). Completes (eaten start [] l) [] (progress.Amid (record { cursor = start; raw = [] }))) (sym lone.1) refl)
lone_done (End.Waits s) f lone = absurd lone
lone_done (End.Breaks offset) f lone = absurd lone

pub lone_completes : (e : End) (found : Option Frame) (f : Frame) (gs : List Frame) → IfSome found (λ g. IsLone g e) → found ≡ Some f → gs ≡ f ∷ [] → Completes e gs (progress.Amid (record { cursor = start; raw = [] }))
lone_completes e found f gs lone is pushed =
    subst (λ (l : List Frame). Completes e l (progress.Amid (record { cursor = start; raw = [] }))) (sym pushed)
    (lone_done e f (subst (λ (o : Option Frame). IfSome o (λ g. IsLone g e)) is lone))

pub finds_ends : (v : Event) (f : Frame) (n : ℕ) (rest : Bor (List ℕ)) (e : End) → v ≡ event.Ends f n rest → Finds v e → e ≡ End.Ends f n rest.now
finds_ends v f n rest e is finds = subst (λ (x : Event). Finds x e) is finds

pub finds_waits : (v : Event) (s : Spot) (e : End) → v ≡ event.Waits s → Finds v e → Closes e (progress.Amid s)
finds_waits v s e is finds =
    let found : Finds (event.Waits s) e = subst (λ (x : Event). Finds x e) is finds in
    subst (λ (x : End). Closes x (progress.Amid s)) (sym found.0) refl

pub finds_breaks : (v : Event) (offset : ℕ) (e : End) → v ≡ event.Breaks offset → Finds v e → Closes e (progress.Failed (fault.Malformed offset))
finds_breaks v offset e is finds =
    let found : Finds (event.Breaks offset) e = subst (λ (x : Event). Finds x e) is finds in
    subst (λ (x : End). Closes x (progress.Failed (fault.Malformed offset))) (sym found) refl

-- fewer bytes than more
pub leaves_below : (r : Reached) (j k : ℕ) → j ≤ k → LeavesBelow r j → LeavesBelow r k
leaves_below (reached.Ends f n rest) j k l h = omega (arith, l, h)
leaves_below (reached.Rest rest) j k l h = tt
leaves_below (reached.Breaks offset) j k l h = tt

-- a piece that completes these frames is answered so
pub feeds_open : (r : Result (Vec Frame) WireFault) (frames : List Frame) (p new : Progress) (e : End) → Completes e frames p → Answers r frames p → new ≡ p → FeedsOpen r e new
feeds_open (Ok v) frames p new e done a is =
    subst (λ (x : Progress). FeedsOpen (Ok v) e x) (sym is) (subst (λ (fs : List Frame). Completes e fs p) (sym a.0) done, λ none. a.1 (sym a.0 ∙ none))
feeds_open (Err fault.NoMemory) frames p new e done a is = is ∙ a.1
feeds_open (Err fault.Short) frames p new e done a is = subst (λ (x : Progress). FeedsOpen (Err fault.Short) e x) (sym is) (a.1, subst (λ (fs : List Frame). Completes e fs p) a.0 done)
feeds_open (Err (fault.Malformed n)) frames p new e done a is = subst (λ (x : Progress). FeedsOpen (Err (fault.Malformed n)) e x) (sym is) (a.1, subst (λ (fs : List Frame). Completes e fs p) a.0 done)

-- a fault is answered again
pub feeds_failed : (r : Result (Vec Frame) WireFault) (f : WireFault) → Answers r [] (progress.Failed f) → r ≡ Err f
feeds_failed (Ok v) f a = absurd (a.1 refl)
feeds_failed (Err g) f a = (let same : g ≡ f = cc in ap (λ (h : WireFault). Err h) same)

-- what the fields of a cursor lead to is what its bytes lead to
pub found_so : (r : Result Event NoMemory) (x : Reached) (c : Cursor) (e : End) → Reaches x c e → IfOk r (λ v. (f : End) → Reaches x c f → Finds v f) → IfOk r (λ v. Finds v e)
found_so (Ok v) x c e h all = all e h
found_so (Err none) x c e h all = tt

pub shorter_so : (r : Result Event NoMemory) (x : Reached) (bytes : List ℕ) → LeavesBelow x (length bytes) → IfOk r (λ v. (bs : List ℕ) → LeavesBelow x (length bs) → Shortens v bs) → IfOk r (λ v. Shortens v bytes)
shorter_so (Ok v) x bytes h all = all bytes h
shorter_so (Err none) x bytes h all = tt
