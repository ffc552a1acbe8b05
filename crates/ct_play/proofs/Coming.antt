-- What comes next, so many times one after the other.
use Rattle.std.proofs.Common.{◌≡◌, ◌∙◌, ℕ, zero, suc, List, [], ◌∷◌, ◌++◌, Option, None, Some, Result, Ok, Err, refl, sym, ap, subst, append_assoc, append-nil}
use Rattle.ct_traverse_parts.specs.Walk.{Walk}
use Rattle.ct_rules_cluster.specs.Cluster.{World}
use Rattle.ct_play.specs.Course.{Adds, AddsAll, Deed, Effect, after, and_then, next_first, still, up_to}
use Rattle.ct_play_text.specs.declared.what.PlayFault.{PlayFault}
use Rattle.ct_play_text.specs.declared.what.PlayFault.TheVariants.{Refused, NoMemory}
use Rattle.ct_play_text.specs.declared.what.What.{What}

-- what comes next, where a cluster and its traverses stand
abbrev pub Next : Type 0
Next = World → Walk → Option (Result Effect What)

-- so many times are left where they stand now, and the texts of what came until then are behind these
pub record Coming (next : Next) (count : ℕ) (first : World) (walk : Walk) (now : World) (walk_now : Walk) (left : ℕ) (before texts : List (List ℕ)) : Type 0 where
  pub told : List (List ℕ)
  pub deeds : List Deed
  pub texts_are : texts ≡ before ++ told
  pub goes_on : after told deeds (up_to left next now walk_now) ≡ up_to count next first walk

after_nothing : (r : Result Effect What) → after [] [] r ≡ r
after_nothing (Ok e) = refl
after_nothing (Err what) = refl

after_both : (ts us : List (List ℕ)) (ds es : List Deed) (r : Result Effect What) → after ts ds (after us es r) ≡ after (ts ++ us) (ds ++ es) r
after_both ts us ds es (Ok e) =
    let made : List (List ℕ) → List Deed → Result Effect What = λ t d. Ok (record { world = e.world; walk = e.walk; texts = t; deeds = d }) in
    ap (λ t. made t (ds ++ (es ++ e.deeds))) (sym (append_assoc ts us e.texts)) ∙ ap (λ d. made ((ts ++ us) ++ e.texts) d) (sym (append_assoc ds es e.deeds))
after_both ts us ds es (Err what) = refl

pub begins : (next : Next) (count m : ℕ) (first : World) (walk : Walk) (before : List (List ℕ)) → m ≡ count → Coming next count first walk first walk m before before
begins next count m first walk before e = record { told = []; deeds = []; texts_are = sym (append-nil before); goes_on = after_nothing (up_to m next first walk) ∙ ap (λ i. up_to i next first walk) e }

one_left : (next : Next) (m left : ℕ) (w : World) (k : Walk) (o : Option (Result Effect What)) → m ≡ suc left → next w k ≡ o → up_to m next w k ≡ next_first o w k (λ v l. up_to left next v l)
unfolding up_to
one_left next m left w k o e n = ap (λ i. up_to i next w k) e ∙ ap (λ x. next_first x w k (λ v l. up_to left next v l)) n

-- one more came
pub came : (next : Next) (count : ℕ) (first : World) (walk : Walk) (w v : World) (k l : Walk) (m left : ℕ) (r : Result Effect What) (before texts more : List (List ℕ))
    → m ≡ suc left
    → next w k ≡ Some r
    → AddsAll r texts v l more
    → Coming next count first walk w k m before texts
    → Coming next count first walk v l left before more
came next count first walk w v k l m left (Err what) before texts more e n a h = absurd a
came next count first walk w v k l m left (Ok x) before texts more e n a h =
    let later : World → Walk → Result Effect What = λ u j. up_to left next u j in
    let here : up_to m next w k ≡ after x.texts x.deeds (up_to left next x.world x.walk) = one_left next m left w k (Some (Ok x)) e n in
    let there : up_to left next x.world x.walk ≡ up_to left next v l = ap (λ u. later u x.walk) (sym a.0) ∙ ap (λ j. later v j) (sym a.1) in
    record {
      told = h.told ++ x.texts;
      deeds = h.deeds ++ x.deeds;
      texts_are = a.2 ∙ ap (λ (t : List (List ℕ)). t ++ x.texts) h.texts_are ∙ append_assoc before h.told x.texts;
      goes_on = sym (after_both h.told x.texts h.deeds x.deeds (up_to left next v l)) ∙ ap (λ q. after h.told h.deeds (after x.texts x.deeds q)) (sym there) ∙ ap (λ q. after h.told h.deeds q) (sym here) ∙ h.goes_on;
    }

stops : (next : Next) (count : ℕ) (first : World) (walk : Walk) (w : World) (k : Walk) (m : ℕ) (before texts : List (List ℕ))
    → up_to m next w k ≡ Ok (still w k)
    → Coming next count first walk w k m before texts
    → AddsAll (up_to count next first walk) before w k texts
stops next count first walk w k m before texts e h =
    let all : after h.told h.deeds (Ok (still w k)) ≡ up_to count next first walk = ap (λ q. after h.told h.deeds q) (sym e) ∙ h.goes_on in
    subst (λ q. AddsAll q before w k texts) all (refl, refl, h.texts_are ∙ ap (λ (t : List (List ℕ)). before ++ t) (sym (append-nil h.told)))

-- nothing comes
pub none_comes : (next : Next) (count : ℕ) (first : World) (walk : Walk) (w : World) (k : Walk) (m left : ℕ) (before texts : List (List ℕ))
    → m ≡ suc left
    → next w k ≡ None
    → Coming next count first walk w k m before texts
    → AddsAll (up_to count next first walk) before w k texts
none_comes next count first walk w k m left before texts e n h = stops next count first walk w k m before texts (one_left next m left w k None e n) h

none_left : (next : Next) (m : ℕ) (w : World) (k : Walk) → m ≡ zero → up_to m next w k ≡ Ok (still w k)
unfolding up_to
none_left next m w k e = ap (λ i. up_to i next w k) e

-- all came
pub ends : (next : Next) (count : ℕ) (first : World) (walk : Walk) (w : World) (k : Walk) (m : ℕ) (before texts : List (List ℕ))
    → m ≡ zero
    → Coming next count first walk w k m before texts
    → AddsAll (up_to count next first walk) before w k texts
ends next count first walk w k m before texts e h = stops next count first walk w k m before texts (none_left next m w k e) h

-- one is refused, or memory is wanting
pub fails : (next : Next) (count : ℕ) (first : World) (walk : Walk) (w v last : World) (k l z : Walk) (m left : ℕ) (r : Result Effect What) (f : PlayFault) (before texts more : List (List ℕ))
    → m ≡ suc left
    → next w k ≡ Some r
    → Adds (Err f) r texts v l more
    → Coming next count first walk w k m before texts
    → Adds (Err f) (up_to count next first walk) before last z more
fails next count first walk w v last k l z m left r (Refused what) before texts more e n a h =
    let later : World → Walk → Result Effect What = λ u j. up_to left next u j in
    sym h.goes_on ∙ ap (λ q. after h.told h.deeds q) (one_left next m left w k (Some r) e n ∙ ap (λ q. and_then q later) a)
fails next count first walk w v last k l z m left r NoMemory before texts more e n a h = tt
