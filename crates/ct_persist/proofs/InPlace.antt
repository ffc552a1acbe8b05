-- An update in its place: the three passes make what the writes make in order, and the last undoes the first.
use Rattle.std.proofs.Common.{◌≡◌, ℕ, ◌+◌, ◌<◌, length, get_or, Bool, true, false, cond, List, [], ◌∷◌, ◌++◌, take, drop, Option, Some, None, refl, sym, ◌∙◌, ap}
use Rattle.std.proofs.lemmas.List.{take-append-drop, take_more}
use Rattle.ct_values.specs.Words.{or_empty}
use Rattle.ct_values.specs.declared.client.Pair.{Pair}
use Rattle.ct_store.specs.Map.{Pairs, Ascends, look}
use Rattle.ct_store.proofs.Maps.{same_map}
use Rattle.ct_persist.specs.Persisted.{IsKept, stored, written, keyed}
use Rattle.ct_persist.specs.Steps.{added, all_added, assigned, all_assigned, dropped, all_dropped}
use Rattle.ct_persist.proofs.Looks.{V, at, trimmed, added_at, assigned_at, dropped_at, stored_at, look-added, look-assigned, look-dropped, look-stored, added_ascends, assigned_ascends, dropped_ascends, stored_ascends, written_ascends, full_look}

-- does one of the writes name the key?
abbrev has : List ℕ → List Pair → Bool
has q [] = false
has q (w ∷ ws) = cond (at q w.key) true (has q ws)

-- the value that the last such write has, or else x
abbrev last : List ℕ → List Pair → V → V
last q [] x = x
last q (w ∷ ws) x = last q ws (cond (at q w.key) w.value x)

added_twice : (b c : Bool) (o : Option V) → added_at c (added_at b o) ≡ added_at (cond b true c) o
added_twice false c o = refl
added_twice true false o = refl
added_twice true true (Some v) = refl
added_twice true true None = refl

look-all_added : (q : List ℕ) (ws : List Pair) (m : Pairs V) → look q (all_added ws m) ≡ added_at (has q ws) (look q m)
look-all_added q [] m = refl
look-all_added q (w ∷ ws) m = look-all_added q ws (added w.key m) ∙ ap (added_at (has q ws)) (look-added q w.key m) ∙ added_twice (at q w.key) (has q ws) (look q m)

all_added_ascends : (ws : List Pair) (m : Pairs V) → Ascends m → Ascends (all_added ws m)
all_added_ascends [] m a = a
all_added_ascends (w ∷ ws) m a = all_added_ascends ws (added w.key m) (added_ascends w.key m a)

trimmed_twice : (o : Option V) → trimmed (trimmed o) ≡ trimmed o
trimmed_twice None = refl
trimmed_twice (Some []) = refl
trimmed_twice (Some (b ∷ bs)) = refl

dropped_twice : (b c : Bool) (o : Option V) → dropped_at c (dropped_at b o) ≡ dropped_at (cond b true c) o
dropped_twice false c o = refl
dropped_twice true false o = refl
dropped_twice true true o = trimmed_twice o

look-all_dropped : (q : List ℕ) (ws : List Pair) (m : Pairs V) → Ascends m → look q (all_dropped ws m) ≡ dropped_at (has q ws) (look q m)
look-all_dropped q [] m a = refl
look-all_dropped q (w ∷ ws) m a = look-all_dropped q ws (dropped w.key m) (dropped_ascends w.key m a) ∙ ap (dropped_at (has q ws)) (look-dropped q w.key m a) ∙ dropped_twice (at q w.key) (has q ws) (look q m)

all_dropped_ascends : (ws : List Pair) (m : Pairs V) → Ascends m → Ascends (all_dropped ws m)
all_dropped_ascends [] m a = a
all_dropped_ascends (w ∷ ws) m a = all_dropped_ascends ws (dropped w.key m) (dropped_ascends w.key m a)

-- what the writes give to a key that is there
assigned_once : (b : Bool) (v x : V) → assigned_at b v (Some x) ≡ Some (cond b v x)
assigned_once false v x = refl
assigned_once true v x = refl

look-all_assigned : (q : List ℕ) (ws : List Pair) (m : Pairs V) (x : V) → look q m ≡ Some x → look q (all_assigned (keyed ws) m) ≡ Some (last q ws x)
look-all_assigned q [] m x e = e
look-all_assigned q (w ∷ ws) m x e =
    look-all_assigned q ws (assigned w.key w.value m) (cond (at q w.key) w.value x) (look-assigned q w.key w.value m ∙ ap (assigned_at (at q w.key) w.value) e ∙ assigned_once (at q w.key) w.value x)

all_assigned_ascends : (ws : List Pair) (m : Pairs V) → Ascends m → Ascends (all_assigned (keyed ws) m)
all_assigned_ascends [] m a = a
all_assigned_ascends (w ∷ ws) m a = all_assigned_ascends ws (assigned w.key w.value m) (assigned_ascends w.key w.value m a)

stored_once : (b : Bool) (v x : V) → stored_at b v (trimmed (Some x)) ≡ trimmed (Some (cond b v x))
stored_once false v x = refl
stored_once true v x = refl

look-written : (q : List ℕ) (ws : List Pair) (m : Pairs V) (x : V) → Ascends m → look q m ≡ trimmed (Some x) → look q (written ws m) ≡ trimmed (Some (last q ws x))
unfolding written
look-written q [] m x a e = e
look-written q (w ∷ ws) m x a e =
    look-written q ws (stored w.key w.value m) (cond (at q w.key) w.value x) (stored_ascends w.key w.value m a) (look-stored q w.key w.value m a ∙ ap (stored_at (at q w.key) w.value) e ∙ stored_once (at q w.key) w.value x)

left : (b c : Bool) → cond b true c ≡ false → b ≡ false
left false c h = refl
left true c h = h

right : (b c : Bool) → cond b true c ≡ false → c ≡ false
right false c h = h
right true c h = absurd (cc)

-- at a key that no write names all stays
look-assigned_none : (q : List ℕ) (ws : List Pair) (m : Pairs V) → has q ws ≡ false → look q (all_assigned (keyed ws) m) ≡ look q m
look-assigned_none q [] m h = refl
look-assigned_none q (w ∷ ws) m h =
    look-assigned_none q ws (assigned w.key w.value m) (right (at q w.key) (has q ws) h) ∙ look-assigned q w.key w.value m ∙ ap (λ b. assigned_at b w.value (look q m)) (left (at q w.key) (has q ws) h)

look-written_none : (q : List ℕ) (ws : List Pair) (m : Pairs V) → Ascends m → has q ws ≡ false → look q (written ws m) ≡ look q m
unfolding written
look-written_none q [] m a h = refl
look-written_none q (w ∷ ws) m a h =
    look-written_none q ws (stored w.key w.value m) (stored_ascends w.key w.value m a) (right (at q w.key) (has q ws) h) ∙ look-stored q w.key w.value m a ∙ ap (λ b. stored_at b w.value (look q m)) (left (at q w.key) (has q ws) h)

-- the value that stands where room was made
added_some : (o : Option V) → added_at true o ≡ Some (or_empty o)
unfolding or_empty
added_some None = refl
added_some (Some x) = refl

trimmed_some : (o : Option V) → trimmed o ≡ o → o ≡ trimmed (Some (or_empty o))
unfolding or_empty
trimmed_some None t = refl
trimmed_some (Some x) t = sym t

-- the three passes make what the writes make in order
pub in_place : (ws : List Pair) (m : Pairs V) → IsKept m → all_dropped ws (all_assigned (keyed ws) (all_added ws m)) ≡ written ws m
in_place ws m k =
    same_map _ _ (all_dropped_ascends ws _ a) (written_ascends ws m k.0) (λ q. look-all_dropped q ws _ a ∙ by q (has q ws) refl)
  where
    a : Ascends (all_assigned (keyed ws) (all_added ws m))
    a = all_assigned_ascends ws _ (all_added_ascends ws m k.0)

    by : (q : List ℕ) (b : Bool) → has q ws ≡ b → dropped_at b (look q (all_assigned (keyed ws) (all_added ws m))) ≡ look q (written ws m)
    by q true h =
        ap trimmed (look-all_assigned q ws _ (or_empty (look q m)) (look-all_added q ws m ∙ ap (λ b. added_at b (look q m)) h ∙ added_some (look q m)))
        ∙ sym (look-written q ws m (or_empty (look q m)) k.0 (trimmed_some (look q m) (full_look q m k.1)))
    by q false h =
        look-assigned_none q ws (all_added ws m) h ∙ look-all_added q ws m ∙ ap (λ b. added_at b (look q m)) h ∙ sym (look-written_none q ws m k.0 h)

yet_true : (b c d : Bool) → (c ≡ true → d ≡ true) → cond b true c ≡ true → cond b true d ≡ true
yet_true true c d f h = refl
yet_true false c d f h = f h

has_front : (q : List ℕ) (xs ys : List Pair) → has q xs ≡ true → has q (xs ++ ys) ≡ true
has_front q [] ys h = absurd (cc)
has_front q (w ∷ ws) ys h = yet_true (at q w.key) (has q ws) (has q (ws ++ ys)) (has_front q ws ys) h

trim_same : (b : Bool) (o : Option V) → trimmed o ≡ o → dropped_at b o ≡ o
trim_same false o t = refl
trim_same true o t = t

trim_added : (o : Option V) → trimmed o ≡ o → trimmed (added_at true o) ≡ o
trim_added None t = refl
trim_added (Some x) t = t

-- the last pass undoes the first, also where this stopped early
pub taken_back : (ws : List Pair) (i : ℕ) (m : Pairs V) → IsKept m → all_dropped ws (all_added (take i ws) m) ≡ m
taken_back ws i m k =
    same_map _ _ (all_dropped_ascends ws _ a) k.0 (λ q. look-all_dropped q ws _ a ∙ ap (dropped_at (has q ws)) (look-all_added q (take i ws) m) ∙ by q (has q (take i ws)) refl)
  where
    a : Ascends (all_added (take i ws) m)
    a = all_added_ascends (take i ws) m k.0

    by : (q : List ℕ) (b : Bool) → has q (take i ws) ≡ b → dropped_at (has q ws) (added_at b (look q m)) ≡ look q m
    by q true h =
        ap (λ c. dropped_at c (added_at true (look q m))) (ap (has q) (sym (take-append-drop i ws)) ∙ has_front q (take i ws) (drop i ws) h) ∙ trim_added (look q m) (full_look q m k.1)
    by q false h = trim_same (has q ws) (look q m) (full_look q m k.1)

-- the keys that are there after one write more
pub added_more : (ws : List Pair) (i : ℕ) (w : Pair) (m now next : Pairs V) → i < length ws → w ≡ get_or ws i w → now ≡ all_added (take i ws) m → next ≡ added w.key now → next ≡ all_added (take (i + 1) ws) m
added_more ws i w m now next h is n e =
    e ∙ ap (added w.key) n ∙ sym (added_last (take i ws) w m) ∙ ap (λ d. all_added (take i ws ++ d ∷ []) m) is ∙ ap (λ l. all_added l m) (sym (take_more ws i w h))
  where
    added_last : (ws : List Pair) (w : Pair) (m : Pairs V) → all_added (ws ++ w ∷ []) m ≡ added w.key (all_added ws m)
    added_last [] w m = refl
    added_last (d ∷ ws) w m = added_last ws w (added d.key m)
