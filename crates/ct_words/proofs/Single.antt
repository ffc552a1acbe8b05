-- What a single word is to `clap`, where no argument has an option.
use Rattle.std.proofs.Common.{◌≡◌, ◌∙◌, ◌==◌, ℕ, Bool, cond, true, false, true≢false, refl, sym, ap, subst, List, [], ◌∷◌, length, codes, Option, Some, None, eqb-true}
use Rattle.std.specs.Prelude.{drop, encode_utf8, option_and_then, slice_get}
use Rattle.std.specs.Option.{option_map_or}
use Rattle.std.specs.Str.{bytes_eq, chars}
use Rattle.clap.specs.Lexer.{long_of, long_of_rest, short_of, short_of_rest, strip_byte}
use Rattle.clap.specs.Walk.{Held, Names, Row, Rule, Step, Text, after_flag, arg_by_long, arg_by_short, bundle_met, bundle_step, long_or_other, plain, short_or_plain, subcommand_met, subcommand_or_other, trailing, value, word_met}
use Rattle.clap.specs.Walk.Waiting.{idle}
use Rattle.clap.specs.Simple.{Shape}
use Rattle.clap.specs.Kinds.{Kinds}
use Rattle.clap.specs.Faults.{bundle_fault, bundle_step_fault, flag_word_fault, flags_fault, long_fault, other_fault, short_fault, word_fault}
use Rattle.clap.specs.declared.error.kind.ErrorKind.{ErrorKind}
use Rattle.clap.specs.declared.error.kind.ErrorKind.TheVariants as kind
use Rattle.ct_spelling.specs.Number.{number_of}

-- no argument has a name with hyphens
pub record NoOptions (rules : List Rule) : Type 0 where
  pub long : (name : Text) → arg_by_long rules name ≡ None
  pub short : (c : ℕ) → arg_by_short rules c ≡ None

-- before a word, with nothing to pass over
abbrev pub holding : List Row → Option (Text × List Text) → Held
holding rows pending = record { rows = rows; pending = pending; skip = 0 }

-- the word is a value, or it fails and is no number
pub data Single (w : Text) (h : Held) (kinds : Kinds) (met : Held × Step) : Type 0 where
  is_value : kinds ≡ [] → met ≡ (h, value) → Single w h kinds met
  is_odd : (k : ErrorKind) (ks : Kinds) → kinds ≡ k ∷ ks → number_of w ≡ None → Single w h kinds met

-- ---- how a word begins

no_long : (x : ℕ) (xs : Text) → (x == 45) ≡ false → long_of (x ∷ xs) ≡ None
no_long x xs e = ap (λ (b : Bool). option_and_then long_of_rest (option_and_then (strip_byte 45) (cond b (Some xs) None))) e

no_short : (x : ℕ) (xs : Text) → (x == 45) ≡ false → short_of (x ∷ xs) ≡ None
no_short x xs e = ap (λ (b : Bool). option_and_then short_of_rest (cond b (Some xs) None)) e

no_long_behind : (y : ℕ) (ys : Text) → (y == 45) ≡ false → long_of (45 ∷ y ∷ ys) ≡ None
no_long_behind y ys e = ap (λ (b : Bool). option_and_then long_of_rest (cond b (Some ys) None)) e

short_behind : (y : ℕ) (ys : Text) → (y == 45) ≡ false → short_of (45 ∷ y ∷ ys) ≡ Some (y ∷ ys)
short_behind y ys e = ap (λ (b : Bool). cond b None (Some (y ∷ ys))) e

no_number : (xs : Text) → number_of (45 ∷ xs) ≡ None
no_number xs = refl

-- ---- a word that is not `--`

module _ (rules : List Rule) (no : NoOptions rules) (again : Bool) (rows : List Row) (pending : Option (Text × List Text)) where
  abbrev h : Held
  h = holding rows pending

  -- neither a long nor a short flag
  plain_word : (w : Text) → long_of w ≡ None → short_of w ≡ None
      → Single w h (flag_word_fault rules again (long_of w) w h) (long_or_other rules idle w (long_of w) h)
  plain_word w el es = is_value
      (ap (λ l. flag_word_fault rules again l w h) el ∙ ap (λ f. option_map_or (λ flags. bundle_fault rules again flags h) f []) es)
      (ap (λ l. long_or_other rules idle w l h) el ∙ ap (λ f. short_or_plain rules idle w f h) es)

  -- a long flag
  long_word : (w name : Text) (v : Option Text) → long_of w ≡ Some (name, v) → number_of w ≡ None
      → Single w h (flag_word_fault rules again (long_of w) w h) (long_or_other rules idle w (long_of w) h)
  long_word w name v el none = is_odd kind.UnknownArgument []
      (ap (λ l. flag_word_fault rules again l w h) el ∙ ap (λ a. long_fault rules again a v h) (no.long name)) none

  -- the first character of short flags is one, or there is none
  bundled : (x : ℕ) (xs : Text) (c : Option ℕ) → slice_get (chars (x ∷ xs)) 0 ≡ c → (w : Text) → number_of w ≡ None
      → Single w h (bundle_fault rules again (x ∷ xs) h) (short_or_plain rules idle w (Some (x ∷ xs)) h)
  unfolding flags_fault bundle_met
  bundled x xs None e w none = is_value
      (ap (λ o. bundle_step_fault rules again o (x ∷ xs) 0 h (flags_fault rules again (length xs))) e)
      (ap (λ o. let b = bundle_step rules o (x ∷ xs) 0 plain h (bundle_met rules (length xs)) in after_flag rules idle w b.0 b.1) e)
  bundled x xs (Some c) e w none = is_odd kind.UnknownArgument []
      (ap (λ o. bundle_step_fault rules again o (x ∷ xs) 0 h (flags_fault rules again (length xs))) e
      ∙ ap (λ a. short_fault rules again a (drop (length (encode_utf8 c)) (x ∷ xs)) h (flags_fault rules again (length xs) (drop (length (encode_utf8 c)) (x ∷ xs)) 0)) (no.short c)) none

  -- short flags
  short_word : (w : Text) (x : ℕ) (xs : Text) → long_of w ≡ None → short_of w ≡ Some (x ∷ xs) → number_of w ≡ None
      → Single w h (flag_word_fault rules again (long_of w) w h) (long_or_other rules idle w (long_of w) h)
  short_word w x xs el es none =
      subst (λ (l : Option (Text × Option Text)). Single w h (flag_word_fault rules again l w h) (long_or_other rules idle w l h)) (sym el)
      (subst (λ (f : Option Text). Single w h (option_map_or (λ flags. bundle_fault rules again flags h) f []) (short_or_plain rules idle w f h)) (sym es)
      (bundled x xs _ refl w none))

  -- a hyphen, and what stands behind it
  behind_hyphen : (xs : Text) → bytes_eq (45 ∷ xs) (codes "--") ≡ false
      → Single (45 ∷ xs) h (flag_word_fault rules again (long_of (45 ∷ xs)) (45 ∷ xs) h) (long_or_other rules idle (45 ∷ xs) (long_of (45 ∷ xs)) h)
  behind_hyphen [] ne = plain_word (45 ∷ []) refl refl
  behind_hyphen (y ∷ ys) ne = go (y == 45) refl
    where
      long : (zs : Text) → bytes_eq (45 ∷ 45 ∷ zs) (codes "--") ≡ false
          → Single (45 ∷ 45 ∷ zs) h (flag_word_fault rules again (long_of (45 ∷ 45 ∷ zs)) (45 ∷ 45 ∷ zs) h) (long_or_other rules idle (45 ∷ 45 ∷ zs) (long_of (45 ∷ 45 ∷ zs)) h)
      long [] bad = absurd (true≢false bad)
      long (z ∷ zs) bad = long_word (45 ∷ 45 ∷ z ∷ zs) _ _ refl refl

      go : (t : Bool) → (y == 45) ≡ t
          → Single (45 ∷ y ∷ ys) h (flag_word_fault rules again (long_of (45 ∷ y ∷ ys)) (45 ∷ y ∷ ys) h) (long_or_other rules idle (45 ∷ y ∷ ys) (long_of (45 ∷ y ∷ ys)) h)
      go true e = let same : 45 ≡ y = sym (eqb-true y 45 e) in
          subst (λ (x : ℕ). Single (45 ∷ x ∷ ys) h (flag_word_fault rules again (long_of (45 ∷ x ∷ ys)) (45 ∷ x ∷ ys) h) (long_or_other rules idle (45 ∷ x ∷ ys) (long_of (45 ∷ x ∷ ys)) h)) same
          (long ys (ap (λ (x : ℕ). bytes_eq (45 ∷ x ∷ ys) (codes "--")) same ∙ ne))
      go false e = short_word (45 ∷ y ∷ ys) y ys (no_long_behind y ys e) (short_behind y ys e) refl

  other_word : (w : Text) → bytes_eq w (codes "--") ≡ false
      → Single w h (flag_word_fault rules again (long_of w) w h) (long_or_other rules idle w (long_of w) h)
  other_word [] ne = plain_word [] refl refl
  other_word (x ∷ xs) ne = go (x == 45) refl
    where
      go : (t : Bool) → (x == 45) ≡ t
          → Single (x ∷ xs) h (flag_word_fault rules again (long_of (x ∷ xs)) (x ∷ xs) h) (long_or_other rules idle (x ∷ xs) (long_of (x ∷ xs)) h)
      go true e = let same : 45 ≡ x = sym (eqb-true x 45 e) in
          subst (λ (y : ℕ). Single (y ∷ xs) h (flag_word_fault rules again (long_of (y ∷ xs)) (y ∷ xs) h) (long_or_other rules idle (y ∷ xs) (long_of (y ∷ xs)) h)) same
          (behind_hyphen xs (ap (λ (y : ℕ). bytes_eq (y ∷ xs) (codes "--")) same ∙ ne))
      go false e = plain_word (x ∷ xs) (no_long x xs e) (no_short x xs e)

-- a word that is neither `--` nor a command
pub single : (s : Shape) (names : Names) (position : ℕ) (rows : List Row) (pending : Option (Text × List Text)) (w : Text) → NoOptions s.rules
    → subcommand_met names idle w ≡ None → bytes_eq w (codes "--") ≡ false
    → Single w (holding rows pending) (word_fault s names false idle w (holding rows pending)) (word_met s.rules names false idle position w (holding rows pending))
single s names position rows pending w none unnamed ne = let h : Held = holding rows pending in
    subst (λ (m : Option Text). Single w h (other_fault s m w h) (subcommand_or_other s.rules m idle position w h)) (sym unnamed)
    (subst (λ (b : Bool). Single w h (cond b [] (flag_word_fault s.rules s.args_override_self (long_of w) w h)) (cond b (h, trailing position) (long_or_other s.rules idle w (long_of w) h))) (sym ne)
    (other_word s.rules none s.args_override_self rows pending w ne))
