-- Which keys are there after writes, and how many.
use Rattle.std.proofs.Common.{◌≡◌, ◌+◌, ◌<◌, ◌≤◌, ℕ, Bool, true, false, cond, ◌&&◌, List, [], ◌∷◌, ◌++◌, length, Option, Some, None, get_or, take, refl, sym, ◌∙◌, ap, subst, arith}
use Rattle.std.specs.Prelude.{is_some, not, ◌==◌, nat_eq, if◌then◌else◌}
use Rattle.std.specs.Option.{option_copied}
use Rattle.std.specs.Borrow.{Bor}
use Rattle.std.specs.Cmp.Lexicographic.{pointwise, texts_ties}
use Rattle.std.proofs.lemmas.List.{take_more}
use Rattle.ct_values.specs.declared.client.Pair.{Pair}
use Rattle.ct_store.specs.Map.{Pairs, Ascends, look, write}
use Rattle.ct_store.proofs.Maps.{erase_length, write_length}
use Rattle.ct_persist.specs.Persisted.{stored, written}
use Rattle.ct_persist.specs.Steps.{one_if}
use Rattle.ct_persist.proofs.Looks.{V, at, flips, stored_at, look-stored, written_ascends}

written_last : (ws : List Pair) (w : Pair) (m : Pairs V) → written (ws ++ w ∷ []) m ≡ stored w.key w.value (written ws m)
unfolding written
written_last [] w m = refl
written_last (d ∷ ws) w m = written_last ws w (stored d.key d.value m)

-- the pairs after one write more
pub written_more : (ws : List Pair) (i : ℕ) (w : Pair) (m : Pairs V) → i < length ws → w ≡ get_or ws i w → written (take (i + 1) ws) m ≡ stored w.key w.value (written (take i ws) m)
written_more ws i w m h is = ap (λ l. written l m) (take_more ws i w h) ∙ ap (λ d. written (take i ws ++ d ∷ []) m) (sym is) ∙ written_last (take i ws) w m

pub written_none : (m : Pairs V) → written [] m ≡ m
unfolding written
written_none m = refl

-- is there no byte?
abbrev pub no_bytes : V → Bool
no_bytes v = length v == 0

some_bytes : (b : ℕ) (bs : V) → no_bytes (b ∷ bs) ≡ false
some_bytes b bs = grind arith

is_stored : (b : Bool) (v : V) (o : Option V) → is_some (stored_at b v o) ≡ cond b (not (no_bytes v)) (is_some o)
is_stored false v o = refl
is_stored true [] o = refl
is_stored true (b ∷ bs) o = ap not (sym (some_bytes b bs))

-- whether a key is there after one write more
pub there_more : (ws : List Pair) (i : ℕ) (w : Pair) (m : Pairs V) (key : V) (there next : Bool) → Ascends m → i < length ws → w ≡ get_or ws i w → there ≡ is_some (look key (written (take i ws) m))
    → next ≡ cond (pointwise nat_eq w.key key) (not (no_bytes w.value)) there → next ≡ is_some (look key (written (take (i + 1) ws) m))
there_more ws i w m key there next a h is t n =
    n
    ∙ ap (λ b. cond b (not (no_bytes w.value)) there) (texts_ties w.key key ∙ flips key w.key)
    ∙ ap (cond (at key w.key) (not (no_bytes w.value))) t
    ∙ sym (is_stored (at key w.key) w.value (look key (written (take i ws) m)))
    ∙ ap is_some (sym (look-stored key w.key w.value (written (take i ws) m) (written_ascends (take i ws) m a)))
    ∙ ap (λ l. is_some (look key l)) (sym (written_more ws i w m h is))

erased : (t : Bool) (n l : ℕ) → n + (if t then 1 else 0) ≡ l → n + one_if (t && true) ≡ l + one_if (not t && false)
erased true n l e = e ∙ grind arith
erased false n l e = e ∙ grind arith

wrote : (t : Bool) (n l : ℕ) → n ≡ (if t then l else l + 1) → n + one_if (t && false) ≡ l + one_if (not t && true)
wrote true n l e = grind arith
wrote false n l e = grind arith

sized : (k v : V) (m : Pairs V) → Ascends m → length (stored k v m) + one_if (is_some (look k m) && no_bytes v) ≡ length m + one_if (not (is_some (look k m)) && not (no_bytes v))
sized k [] m a = erased (is_some (look k m)) _ _ (erase_length m k)
sized k (b ∷ bs) m a =
    subst (λ e. length (write k (b ∷ bs) m) + one_if (is_some (look k m) && e) ≡ length m + one_if (not (is_some (look k m)) && not e)) (sym (some_bytes b bs)) (wrote (is_some (look k m)) _ _ (write_length m k (b ∷ bs) a))

-- how many pairs there are after one write more
pub count_more : (ws : List Pair) (i : ℕ) (w : Pair) (m : Pairs V) (there : Bool) → Ascends m → i < length ws → w ≡ get_or ws i w → there ≡ is_some (look w.key (written (take i ws) m))
    → length (written (take (i + 1) ws) m) + one_if (there && no_bytes w.value) ≡ length (written (take i ws) m) + one_if (not there && not (no_bytes w.value))
count_more ws i w m there a h is t =
    subst (λ b. length (written (take (i + 1) ws) m) + one_if (b && no_bytes w.value) ≡ length (written (take i ws) m) + one_if (not b && not (no_bytes w.value))) (sym t)
    (ap (λ l. length l + one_if (is_some (look w.key (written (take i ws) m)) && no_bytes w.value)) (written_more ws i w m h is) ∙ sized w.key w.value (written (take i ws) m) (written_ascends (take i ws) m a))

-- the count after one write more
pub counted : (ws : List Pair) (i : ℕ) (w : Pair) (m : Pairs V) (there empty : Bool) (count next : ℕ) → Ascends m → i < length ws → w ≡ get_or ws i w → there ≡ is_some (look w.key (written (take i ws) m)) → empty ≡ no_bytes w.value
    → count ≡ length (written (take i ws) m) → next + one_if (there && empty) ≡ count + one_if (not there && not empty) → next ≡ length (written (take (i + 1) ws) m)
counted ws i w m there empty count next a h is t e c n =
    same _ _ (one_if (there && no_bytes w.value)) (subst (λ b. next + one_if (there && b) ≡ count + one_if (not there && not b)) e n ∙ ap (λ l. l + one_if (not there && not (no_bytes w.value))) c ∙ sym (count_more ws i w m there a h is t))
  where
    same : (a b c : ℕ) → a + c ≡ b + c → a ≡ b
    same a b c e = grind arith

-- it rises by one at most
pub rises : (next count i limit : ℕ) (a b : Bool) → next + one_if a ≡ count + one_if b → count ≤ i + limit → next ≤ i + 1 + limit
rises next count i limit true true e h = grind arith
rises next count i limit true false e h = grind arith
rises next count i limit false true e h = grind arith
rises next count i limit false false e h = grind arith

pub got : (r : Option (Bor V)) (o : Option V) → option_copied r ≡ o → is_some r ≡ is_some o
got None o e = ap is_some e
got (Some x) o e = ap is_some e
