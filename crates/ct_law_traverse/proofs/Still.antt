-- Where no reading changed, the answer of a traverse is exactly the line.
use Rattle.std.proofs.Common.{◌≡◌, ℕ, List, [], ◌∷◌, Option, None, Some, refl, sym, ap, ◌∙◌, subst, ⊎_elim}
use Rattle.std.specs.Prelude.{◌⊎◌}
use Rattle.ct_register.specs.Lines.{Lines}
use Rattle.ct_law_traverse.specs.Snapshot.{read_of, WasReadIn, value_shown, IsShownSince, IsSnapshot, IsStill, unless_nil, StillIsTheLine}

was_still : (g db : ℕ) (key value : List ℕ) (read : List ℕ → List ℕ) (since : List Lines) → IsStill since g db read → WasReadIn g db key value since → read key ≡ value
unfolding WasReadIn
was_still g db key value read [] h w = absurd w
was_still g db key value read (r ∷ rs) h w = ⊎_elim (λ (e : read_of g db key r ≡ value). sym (h.0 key) ∙ e) (λ (later : WasReadIn g db key value rs). was_still g db key value read rs h.1 later) w

one_still : (since : List Lines) (g db : ℕ) (key : List ℕ) (read : List ℕ → List ℕ) (o : Option (List ℕ)) → IsStill since g db read → IsShownSince since g db key o → o ≡ unless_nil (read key)
unfolding IsShownSince unless_nil
one_still since g db key read None h s = ap (λ (v : List ℕ). unless_nil v) (sym (was_still g db key [] read since h s))
one_still since g db key read (Some []) h s = absurd s
one_still since g db key read (Some (b ∷ bs)) h s = ap (λ (v : List ℕ). unless_nil v) (sym (was_still g db key (b ∷ bs) read since h s))

pub still_is_the_line : StillIsTheLine
still_is_the_line since g db pairs read snapshot still key = one_still since g db key read (value_shown key pairs) still (snapshot.shown key)
