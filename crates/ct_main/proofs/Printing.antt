-- Texts that are printed one by one.
use Rattle.std.proofs.Common.{◌≡◌, ℕ, ◌+◌, ◌<◌, List, [], ◌∷◌, ◌++◌, length, get_or, take, drop, Option, Err, sym, ap, ◌∙◌, append_assoc, append-nil}
use Rattle.std.proofs.lemmas.List.{take_more, take-append-drop}
use Rattle.std.proofs.lemmas.Grind.{flat_map-append}
use Rattle.std.specs.Io.KnownBytes.{Appends}
use Rattle.std.proofs.KnownBytes.{Appends-trans}
use Rattle.ct_outside.specs.Causes.{AppendsPart}
use Rattle.ct_outside.specs.declared.fault.SinkFault.{SinkFault}
use Rattle.ct_outside.specs.declared.fault.SinkFault.TheVariants as sink
use Rattle.ct_play.specs.Play.{all_text}
use Rattle.ct_main.specs.Feeding.{Prints, stop_of}

text_split : (texts : List (List ℕ)) (i : ℕ) → all_text texts ≡ all_text (take i texts) ++ all_text (drop i texts)
text_split texts i = ap all_text (sym (take-append-drop i texts)) ∙ flat_map-append (λ t. t) (take i texts) (drop i texts)

-- one more text
pub text_more : (texts : List (List ℕ)) (i : ℕ) (x : List ℕ) → i < length texts → x ≡ get_or texts i x → all_text (take (i + 1) texts) ≡ all_text (take i texts) ++ x
text_more texts i x h e =
    ap all_text (take_more texts i x h) ∙ flat_map-append (λ t. t) (take i texts) (get_or texts i x ∷ [])
    ∙ ap (λ t. all_text (take i texts) ++ t) (append-nil (get_or texts i x) ∙ sym e)

-- a front of the next text was written
pub printed_part : (f : SinkFault) (texts : List (List ℕ)) (i : ℕ) (x : List ℕ) (a b c : Option (List ℕ)) → i < length texts → x ≡ get_or texts i x → Appends a b (all_text (take i texts)) → AppendsPart b c x → Prints (Err (stop_of f)) texts a c
printed_part f texts i x a b c h e p (front, back, q, r) = by_cause f
  where
    told : List ℕ
    told = all_text (take i texts)

    after : List ℕ
    after = all_text (drop (i + 1) texts)

    whole : all_text texts ≡ (told ++ front) ++ (back ++ after)
    whole =
        text_split texts (i + 1) ∙ ap (λ u. u ++ after) (text_more texts i x h e ∙ ap (λ u. told ++ u) q ∙ sym (append_assoc told front back))
        ∙ append_assoc (told ++ front) back after

    by_cause : (g : SinkFault) → Prints (Err (stop_of g)) texts a c
    by_cause sink.Failed = (told ++ front, back ++ after, whole, Appends-trans a b c told front p r)
    by_cause sink.NoMemory = (told ++ front, back ++ after, whole, Appends-trans a b c told front p r)
