-- The words that come after others, with a byte between each two.
use Rattle.std.proofs.Common.{◌≡◌, ℕ, List, [], ◌∷◌, ◌++◌, refl, ap, sym, ◌∙◌, append_assoc}
use Rattle.std.proofs.lemmas.List.{append-nil}
use Rattle.std.specs.List.{join_with_byte}

-- a word comes first
pub first_word : (c : ℕ) (w : List ℕ) (ws : List (List ℕ)) → join_with_byte c (w ∷ ws) ≡ w ++ join_with_byte c ([] ∷ ws)
first_word c w [] = sym (append-nil w)
first_word c w (v ∷ ws) = refl

pub no_more : (t : List ℕ) → t ++ [] ≡ t
no_more t = append-nil t

pub more_words : (c : ℕ) (t w : List ℕ) (ws : List (List ℕ)) → (t ++ c ∷ w) ++ join_with_byte c ([] ∷ ws) ≡ t ++ join_with_byte c ([] ∷ w ∷ ws)
more_words c t w ws = append_assoc t (c ∷ w) (join_with_byte c ([] ∷ ws)) ∙ ap (λ (x : List ℕ). t ++ (c ∷ x)) (sym (first_word c w ws))

-- of two words, the first after the text
pub after_one : (c : ℕ) (t v w : List ℕ) (ws : List (List ℕ)) → ((t ++ v) ++ c ∷ w) ++ join_with_byte c ([] ∷ ws) ≡ t ++ join_with_byte c (v ∷ w ∷ ws)
after_one c t v w ws = more_words c (t ++ v) w ws ∙ append_assoc t v (join_with_byte c ([] ∷ w ∷ ws))

-- of three
pub after_two : (c : ℕ) (t u v w : List ℕ) (ws : List (List ℕ)) → (((t ++ u) ++ c ∷ v) ++ c ∷ w) ++ join_with_byte c ([] ∷ ws) ≡ t ++ join_with_byte c (u ∷ v ∷ w ∷ ws)
after_two c t u v w ws = more_words c ((t ++ u) ++ c ∷ v) w ws ∙ after_one c t u v (w ∷ ws)

-- of two after a text
pub two_more : (c : ℕ) (t v w : List ℕ) (ws : List (List ℕ)) → ((t ++ c ∷ v) ++ c ∷ w) ++ join_with_byte c ([] ∷ ws) ≡ t ++ join_with_byte c ([] ∷ v ∷ w ∷ ws)
two_more c t v w ws = more_words c (t ++ c ∷ v) w ws ∙ more_words c t v (w ∷ ws)
