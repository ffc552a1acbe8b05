-- Calls that are played one after the other.
use Rattle.std.proofs.Common.{◌≡◌, ◌+◌, ◌<◌, ℕ, suc, List, [], ◌∷◌, ◌++◌, length, Result, Ok, Err, OnErr, get_or, take, drop, drop-cons, add-one, append_assoc, refl, sym, ap, ◌∙◌}
use Rattle.std.proofs.lemmas.List.{take_more}
use Rattle.ct_store.specs.declared.calls.StoreCall.{StoreCall}
use Rattle.ct_store.specs.declared.calls.StoreReply.{StoreReply}
use Rattle.ct_store.specs.Map.{Pairs}
use Rattle.ct_store.specs.Calls.{reply_to, after, replies, after_all}

after_last : (cs : List StoreCall) (c : StoreCall) (m : Pairs ℕ) → after_all (cs ++ c ∷ []) m ≡ after c (after_all cs m)
after_last [] c m = refl
after_last (d ∷ cs) c m = after_last cs c (after d m)

-- the map after one call more, c
pub after_more : (cs : List StoreCall) (i : ℕ) (c : StoreCall) (m now next : Pairs ℕ) → i < length cs → c ≡ get_or cs i c → now ≡ after_all (take i cs) m → next ≡ after c now → next ≡ after_all (take (i + 1) cs) m
after_more cs i c m now next h is n e =
    e ∙ ap (after c) n ∙ sym (after_last (take i cs) c m) ∙ ap (λ d. after_all (take i cs ++ d ∷ []) m) is ∙ ap (λ l. after_all l m) (sym (take_more cs i c h))

-- the replies up to one call more, c
pub replies_more : (cs : List StoreCall) (i : ℕ) (c : StoreCall) (done more all : List StoreReply) (r : StoreReply) (now next : Pairs ℕ) → i < length cs → c ≡ get_or cs i c → done ++ replies (drop i cs) now ≡ all
    → more ≡ done ++ r ∷ [] → r ≡ reply_to c now → next ≡ after c now → more ++ replies (drop (i + 1) cs) next ≡ all
replies_more cs i c done more all r now next h is inv m e n =
    ap (λ l. l ++ replies (drop (i + 1) cs) next) m
    ∙ append_assoc done (r ∷ []) (replies (drop (i + 1) cs) next)
    ∙ ap (λ x. done ++ x ∷ replies (drop (i + 1) cs) next) e
    ∙ ap (λ x. done ++ reply_to c now ∷ replies (drop (i + 1) cs) x) n
    ∙ ap (λ j. done ++ replies (c ∷ drop j cs) now) (add-one i)
    ∙ ap (λ d. done ++ replies (d ∷ drop (suc i) cs) now) is
    ∙ ap (λ l. done ++ replies l now) (sym (drop-cons cs i c h))
    ∙ inv

-- some first calls were played
pub after_some : {T E : Type 0} (r : Result T E) (cs : List StoreCall) (n : ℕ) (m now : Pairs ℕ) → now ≡ after_all (take n cs) m → OnErr r ((i : ℕ) × (now ≡ after_all (take i cs) m))
after_some (Ok x) cs n m now e = tt
after_some (Err x) cs n m now e = (n, e)
