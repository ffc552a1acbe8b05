-- How `clap` walks over the program's words.
use Rattle.std.proofs.Common.{◌≡◌, ◌∙◌, ℕ, Bool, cond, true, false, refl, sym, ap, ap₂, subst, ◌||◌, List, [], ◌∷◌, ◌++◌, codes, Option, Some, None, Result, is_some, true≢false}
use Rattle.std.proofs.lemmas.List.{append-nil, append_assoc}
use Rattle.std.specs.List.{fold}
use Rattle.std.specs.Option.{ok_or, option_map}
use Rattle.std.specs.Prelude.{IfOk, IfSome}
use Rattle.std.specs.Str.{bytes_eq}
use Rattle.std.proofs.lemmas.Slice.Eq.{bytes_eq-Decides}
use Rattle.clap.specs.Walk.{Held, Names, Row, Step, Text, Walk, after_step, finished, nothing_held, settled, subcommand_met, value, walk_from, walked, word_met}
use Rattle.clap.specs.Walk.Waiting.{idle}
use Rattle.clap.specs.Simple.{App, Shape, built, built_leaf, entered, inherited, is_simple, marked_built, names_of, new_shape, with_leaf_noted}
use Rattle.clap.specs.Kinds.{IsAmong, Kinds, or_else}
use Rattle.clap.specs.Faults.{check_fault, defaults_fault, entered_fault, fault_of, is_simple_and_free, settle_fault, step_fault, turn_fault, walk_fault, word_fault}
use Rattle.clap.specs.Words.{subcommand_of}
use Rattle.clap.specs.declared.error.kind.ErrorKind.{ErrorKind}
use Rattle.clap.specs.declared.error.kind.ErrorKind.TheVariants as kind
use Rattle.clap.proofs.OnLiterals.{clap_on_literals}
use Rattle.ct_spelling.specs.Number.{number_of}
use Rattle.ct_words.specs.Command as command
use Rattle.ct_words.specs.Matched.{bus_in, chains_in, matched, plan_in, soak_in}
use Rattle.ct_words.specs.Reading.{IsRanged, Reads, alone, bus, bus_numbers, bus_numbers_of, chain_numbers, chain_numbers_of, chains, numbers, numbers_of, plan, reading, soak, soak_of, without_dashes}
use Rattle.ct_words.specs.declared.words.WordsFault.{WordsFault}
use Rattle.ct_words.specs.declared.words.WordsFault.TheVariants.{Usage}
use Rattle.ct_words.specs.declared.words.Word.{Word}
use Rattle.ct_words.specs.declared.words.ChainNumbers.{ChainNumbers}
use Rattle.ct_words.specs.declared.words.PlanNumbers.{PlanNumbers}
use Rattle.ct_words.specs.declared.words.Word.TheVariants.{Play, Lcp2, Cluster, Loopback, Chains, Bus}
use Rattle.ct_words.proofs.Single.{NoOptions, Single, holding, is_odd, is_value, single}

-- nothing fails and what was found is the reading, or something fails and there is no reading
pub data Agrees (kinds : Kinds) (found read : Option Word) : Type 0 where
  taken : kinds ≡ [] → found ≡ read → Agrees kinds found read
  refused : (k : ErrorKind) (ks : Kinds) → kinds ≡ k ∷ ks → read ≡ None → Agrees kinds found read

-- ---- the words without the first `--`

dashes_here : (w : Text) (ws : List Text) → bytes_eq w (codes "--") ≡ true → without_dashes (w ∷ ws) ≡ ws
dashes_here w ws e = ap (λ (b : Bool). cond b ws (w ∷ without_dashes ws)) e

dashes_later : (w : Text) (ws : List Text) → bytes_eq w (codes "--") ≡ false → without_dashes (w ∷ ws) ≡ w ∷ without_dashes ws
dashes_later w ws e = ap (λ (b : Bool). cond b ws (w ∷ without_dashes ws)) e

no_alone : (word : Word) (w : Text) (ws : List Text) → alone word (w ∷ ws) ≡ None
no_alone word w ws = refl

no_seed : (w : Text) (ws : List Text) → number_of w ≡ None → soak (w ∷ ws) ≡ None
no_seed w [] e = refl
no_seed w (b ∷ []) e = ap (λ (o : Option ℕ). soak_of o (number_of b)) e
no_seed w (b ∷ c ∷ ws) e = refl

no_steps : (a w : Text) (ws : List Text) → number_of w ≡ None → soak (a ∷ w ∷ ws) ≡ None
no_steps a w [] e = go (number_of a) ∙ refl
  where
    go : (o : Option ℕ) → soak_of o (number_of w) ≡ None
    go None = refl
    go (Some n) = ap (soak_of (Some n)) e
no_steps a w (c ∷ ws) e = refl

-- ---- a level that no subcommand of its own ends

-- where a walk stands, with nothing that waits for values
abbrev pub standing : List Row → Option (Text × List Text) → ℕ → Bool → Walk
standing rows pending position trailing = record { held = holding rows pending; waiting = idle; position = position; is_trailing = trailing; stopped = None }

-- what fails after the last word
abbrev end_fault : Shape → Walk → Kinds
end_fault s v = or_else (settle_fault s.rules s.args_override_self v.held)
    (or_else (defaults_fault (settled s.rules v.held).rows s.rules) (check_fault s (finished s.rules v.held) false))

-- what fails from here on
abbrev rest_fault : Shape → Walk → List Text → Kinds
rest_fault s v ws = or_else (walk_fault s [] v ws) (end_fault s (fold (walked s.rules []) v ws))

abbrev rest_rows : Shape → Walk → List Text → List Row
rest_rows s v ws = finished s.rules (fold (walked s.rules []) v ws).held

module _ (s : Shape) (find_in : List Row → Option Word) where
  -- a word that fails not, and moves the walk on
  goes_on : (v next : Walk) (w : Text) (ws : List Text) (read : Option Word) → turn_fault s [] v w ≡ [] → walked s.rules [] v w ≡ next
      → Agrees (rest_fault s next ws) (find_in (rest_rows s next ws)) read
      → Agrees (rest_fault s v (w ∷ ws)) (find_in (rest_rows s v (w ∷ ws))) read
  unfolding walk_fault
  goes_on v next w ws read fine moved h =
      subst (λ (k : Kinds). Agrees (or_else (or_else k (walk_fault s [] (walked s.rules [] v w) ws)) (end_fault s (fold (walked s.rules []) (walked s.rules [] v w) ws)))
      (find_in (rest_rows s (walked s.rules [] v w) ws)) read) (sym fine)
      (subst (λ (x : Walk). Agrees (rest_fault s x ws) (find_in (rest_rows s x ws)) read) (sym moved) h)

  -- a word that fails
  stops : (v : Walk) (w : Text) (ws : List Text) (read : Option Word) (k : ErrorKind) (ks : Kinds) → turn_fault s [] v w ≡ k ∷ ks → read ≡ None
      → Agrees (rest_fault s v (w ∷ ws)) (find_in (rest_rows s v (w ∷ ws))) read
  unfolding walk_fault
  stops v w ws read k ks e none = refused k _
      (ap (λ (t : Kinds). or_else (or_else t (walk_fault s [] (walked s.rules [] v w) ws)) (end_fault s (fold (walked s.rules []) (walked s.rules [] v w) ws))) e) none

  -- `--` is passed over
  passes_dashes : (rows : List Row) (pending : Option (Text × List Text)) (position : ℕ) (w : Text) (ws : List Text) (read : Option Word)
      → bytes_eq w (codes "--") ≡ true
      → Agrees (rest_fault s (standing rows pending position true) ws) (find_in (rest_rows s (standing rows pending position true) ws)) read
      → Agrees (rest_fault s (standing rows pending position false) (w ∷ ws)) (find_in (rest_rows s (standing rows pending position false) (w ∷ ws))) read
  unfolding walked
  passes_dashes rows pending position w ws read e h =
      let is : codes "--" ≡ w = sym ((bytes_eq-Decides w (codes "--")).0 e) in
      subst (λ (x : Text). Agrees (rest_fault s (standing rows pending position false) (x ∷ ws)) (find_in (rest_rows s (standing rows pending position false) (x ∷ ws))) read) is
      (goes_on (standing rows pending position false) (standing rows pending position true) (codes "--") ws read refl refl h)

-- ---- the leaves

abbrev above : Shape
above = with_leaf_noted (marked_built command.program.top)

abbrev pub leaf : Shape → Shape
leaf s = built_leaf (inherited above s)

abbrev bare_leaf : Text → Shape
bare_leaf name = leaf (new_shape name)

abbrev soak_leaf : Shape
soak_leaf = leaf command.soak.top

bare_options : (name : Text) → NoOptions (bare_leaf name).rules
bare_options name = record { long = λ n. refl; short = λ c. refl }

soak_options : NoOptions soak_leaf.rules
soak_options = record { long = λ n. refl; short = λ c. refl }

as_read : (kinds : Kinds) (found read other : Option Word) → other ≡ read → Agrees kinds found read → Agrees kinds found other
as_read kinds found read other e h = subst (λ (o : Option Word). Agrees kinds found o) (sym e) h

-- a value that moves the walk on, and a value or an odd word that fails
module _ (s : Shape) (options : NoOptions s.rules) (find_in : List Row → Option Word) (rows : List Row) (pending : Option (Text × List Text)) (position : ℕ) where
  abbrev v : Walk
  v = standing rows pending position false

  value_fault : (w : Text) → word_fault s [] false idle w v.held ≡ [] → word_met s.rules [] false idle position w v.held ≡ (v.held, value)
      → turn_fault s [] v w ≡ step_fault s position v.held value
  value_fault w ek em = ap₂ (λ (k : Kinds) (m : Held × Step). or_else k (step_fault s position m.0 m.1)) ek em

  odd_fault : (w : Text) (k : ErrorKind) (ks : Kinds) → word_fault s [] false idle w v.held ≡ k ∷ ks → turn_fault s [] v w ≡ k ∷ ks
  odd_fault w k ks e = let m : Held × Step = word_met s.rules [] false idle position w v.held in
      ap (λ (t : Kinds). or_else t (step_fault s position m.0 m.1)) e

  value_walked : (w : Text) → word_met s.rules [] false idle position w v.held ≡ (v.held, value)
      → walked s.rules [] v w ≡ after_step s.rules w v v.held value
  unfolding walked
  value_walked w em = ap (λ (m : Held × Step). after_step s.rules w v m.0 m.1) em

  -- there is no place for one more
  no_place : (w : Text) (ws : List Text) (read : Option Word) (k : ErrorKind) (ks : Kinds) → bytes_eq w (codes "--") ≡ false
      → step_fault s position v.held value ≡ k ∷ ks → read ≡ None → Agrees (rest_fault s v (w ∷ ws)) (find_in (rest_rows s v (w ∷ ws))) read
  no_place w ws read k ks ne stray none = go _ _ (single s [] position rows pending w options refl ne) refl refl
    where
      go : (kinds : Kinds) (met : Held × Step) → Single w v.held kinds met → word_fault s [] false idle w v.held ≡ kinds
          → word_met s.rules [] false idle position w v.held ≡ met → Agrees (rest_fault s v (w ∷ ws)) (find_in (rest_rows s v (w ∷ ws))) read
      go kinds met (is_value ek em) ak am = stops s find_in v w ws read k ks (value_fault w (ak ∙ ek) (am ∙ em) ∙ stray) none
      go kinds met (is_odd j js ek nn) ak am = stops s find_in v w ws read j js (odd_fault w j js (ak ∙ ek)) none

  -- there is a place for one more
  takes_place : (next : Walk) (w : Text) (ws : List Text) (read : Option Word) → bytes_eq w (codes "--") ≡ false
      → step_fault s position v.held value ≡ [] → after_step s.rules w v v.held value ≡ next
      → (number_of w ≡ None → read ≡ None) → Agrees (rest_fault s next ws) (find_in (rest_rows s next ws)) read
      → Agrees (rest_fault s v (w ∷ ws)) (find_in (rest_rows s v (w ∷ ws))) read
  takes_place next w ws read ne fine moved unread h = go _ _ (single s [] position rows pending w options refl ne) refl refl
    where
      go : (kinds : Kinds) (met : Held × Step) → Single w v.held kinds met → word_fault s [] false idle w v.held ≡ kinds
          → word_met s.rules [] false idle position w v.held ≡ met → Agrees (rest_fault s v (w ∷ ws)) (find_in (rest_rows s v (w ∷ ws))) read
      go kinds met (is_value ek em) ak am = goes_on s find_in v next w ws read (value_fault w (ak ∙ ek) (am ∙ em) ∙ fine) (value_walked w (am ∙ em) ∙ moved) h
      go kinds met (is_odd j js ek nn) ak am = stops s find_in v w ws read j js (odd_fault w j js (ak ∙ ek)) (unread nn)

-- ---- a command that has no numbers

module _ (name : Text) (word : Word) where
  abbrev always : List Row → Option Word
  always rows = Some word

  bare_trailing : (ws : List Text) → Agrees (rest_fault (bare_leaf name) (standing [] None 1 true) ws) (Some word) (alone word ws)
  unfolding clap_on_literals
  bare_trailing [] = taken refl refl
  bare_trailing (w ∷ ws) = stops (bare_leaf name) always (standing [] None 1 true) w ws None kind.UnknownArgument [] refl refl

  bare_start : (ws : List Text) → Agrees (rest_fault (bare_leaf name) (standing [] None 1 false) ws) (Some word) (alone word (without_dashes ws))
  unfolding clap_on_literals
  bare_start [] = taken refl refl
  bare_start (w ∷ ws) = go (bytes_eq w (codes "--")) refl
    where
      go : (b : Bool) → bytes_eq w (codes "--") ≡ b → Agrees (rest_fault (bare_leaf name) (standing [] None 1 false) (w ∷ ws)) (Some word) (alone word (without_dashes (w ∷ ws)))
      go true e = as_read _ _ (alone word ws) _ (ap (alone word) (dashes_here w ws e)) (passes_dashes (bare_leaf name) always [] None 1 w ws _ e (bare_trailing ws))
      go false e = no_place (bare_leaf name) (bare_options name) always [] None 1 w ws _ kind.UnknownArgument [] e refl (ap (alone word) (dashes_later w ws e))

-- ---- a soak

abbrev start : Bool → Walk
start t = standing [] None 1 t

abbrev one : Bool → Text → Walk
one t a = standing [] (Some (codes "seed", a ∷ [])) 2 t

abbrev two : Bool → Text → Text → Walk
two t a b = standing (settled soak_leaf.rules (one t a).held).rows (Some (codes "steps", b ∷ [])) 3 t

two_trailing : (a b : Text) (ws : List Text) → Agrees (rest_fault soak_leaf (two true a b) ws) (soak_in (rest_rows soak_leaf (two true a b) ws)) (soak (a ∷ b ∷ ws))
unfolding clap_on_literals
two_trailing a b [] = taken refl refl
two_trailing a b (w ∷ ws) = stops soak_leaf soak_in (two true a b) w ws None kind.UnknownArgument [] refl refl

two_there : (a b : Text) (ws : List Text) → Agrees (rest_fault soak_leaf (two false a b) ws) (soak_in (rest_rows soak_leaf (two false a b) ws)) (soak (a ∷ b ∷ without_dashes ws))
unfolding clap_on_literals
two_there a b [] = taken refl refl
two_there a b (w ∷ ws) = go (bytes_eq w (codes "--")) refl
  where
    go : (t : Bool) → bytes_eq w (codes "--") ≡ t
        → Agrees (rest_fault soak_leaf (two false a b) (w ∷ ws)) (soak_in (rest_rows soak_leaf (two false a b) (w ∷ ws))) (soak (a ∷ b ∷ without_dashes (w ∷ ws)))
    go true e = as_read _ _ (soak (a ∷ b ∷ ws)) _ (ap (λ (l : List Text). soak (a ∷ b ∷ l)) (dashes_here w ws e))
        (passes_dashes soak_leaf soak_in (two false a b).held.rows (two false a b).held.pending 3 w ws _ e (two_trailing a b ws))
    go false e = no_place soak_leaf soak_options soak_in (two false a b).held.rows (two false a b).held.pending 3 w ws _ kind.UnknownArgument [] e refl
        (ap (λ (l : List Text). soak (a ∷ b ∷ l)) (dashes_later w ws e))

one_trailing : (a : Text) (ws : List Text) → Agrees (rest_fault soak_leaf (one true a) ws) (soak_in (rest_rows soak_leaf (one true a) ws)) (soak (a ∷ ws))
unfolding clap_on_literals
one_trailing a [] = refused kind.MissingRequiredArgument [] refl refl
one_trailing a (w ∷ ws) = goes_on soak_leaf soak_in (one true a) (two true a w) w ws _ refl refl (two_trailing a w ws)

one_there : (a : Text) (ws : List Text) → Agrees (rest_fault soak_leaf (one false a) ws) (soak_in (rest_rows soak_leaf (one false a) ws)) (soak (a ∷ without_dashes ws))
unfolding clap_on_literals
one_there a [] = refused kind.MissingRequiredArgument [] refl refl
one_there a (w ∷ ws) = go (bytes_eq w (codes "--")) refl
  where
    go : (t : Bool) → bytes_eq w (codes "--") ≡ t
        → Agrees (rest_fault soak_leaf (one false a) (w ∷ ws)) (soak_in (rest_rows soak_leaf (one false a) (w ∷ ws))) (soak (a ∷ without_dashes (w ∷ ws)))
    go true e = as_read _ _ (soak (a ∷ ws)) _ (ap (λ (l : List Text). soak (a ∷ l)) (dashes_here w ws e))
        (passes_dashes soak_leaf soak_in (one false a).held.rows (one false a).held.pending 2 w ws _ e (one_trailing a ws))
    go false e = as_read _ _ (soak (a ∷ w ∷ without_dashes ws)) _ (ap (λ (l : List Text). soak (a ∷ l)) (dashes_later w ws e))
        (takes_place soak_leaf soak_options soak_in (one false a).held.rows (one false a).held.pending 2 (two false a w) w ws _ e refl refl (no_steps a w (without_dashes ws)) (two_there a w ws))

start_trailing : (ws : List Text) → Agrees (rest_fault soak_leaf (start true) ws) (soak_in (rest_rows soak_leaf (start true) ws)) (soak ws)
unfolding clap_on_literals
start_trailing [] = refused kind.MissingRequiredArgument [] refl refl
start_trailing (w ∷ ws) = goes_on soak_leaf soak_in (start true) (one true w) w ws _ refl refl (one_trailing w ws)

soak_start : (ws : List Text) → Agrees (rest_fault soak_leaf (start false) ws) (soak_in (rest_rows soak_leaf (start false) ws)) (soak (without_dashes ws))
unfolding clap_on_literals
soak_start [] = refused kind.MissingRequiredArgument [] refl refl
soak_start (w ∷ ws) = go (bytes_eq w (codes "--")) refl
  where
    go : (t : Bool) → bytes_eq w (codes "--") ≡ t
        → Agrees (rest_fault soak_leaf (start false) (w ∷ ws)) (soak_in (rest_rows soak_leaf (start false) (w ∷ ws))) (soak (without_dashes (w ∷ ws)))
    go true e = as_read _ _ (soak ws) _ (ap soak (dashes_here w ws e)) (passes_dashes soak_leaf soak_in [] None 1 w ws _ e (start_trailing ws))
    go false e = as_read _ _ (soak (w ∷ without_dashes ws)) _ (ap soak (dashes_later w ws e))
        (takes_place soak_leaf soak_options soak_in [] None 1 (one false w) w ws _ e refl refl (no_seed w (without_dashes ws)) (one_there w ws))

-- ---- a command of a plan

no_nodes : (w : Text) (ws : List Text) → number_of w ≡ None → numbers (w ∷ ws) ≡ None
no_nodes w [] e = refl
no_nodes w (b ∷ []) e = refl
no_nodes w (b ∷ c ∷ []) e = ap (λ (o : Option ℕ). numbers_of o (number_of b) (number_of c)) e
no_nodes w (b ∷ c ∷ d ∷ ws) e = refl

no_calls : (a w : Text) (ws : List Text) → number_of w ≡ None → numbers (a ∷ w ∷ ws) ≡ None
no_calls a w [] e = refl
no_calls a w (c ∷ []) e = go (number_of a) ∙ refl
  where
    go : (o : Option ℕ) → numbers_of o (number_of w) (number_of c) ≡ None
    go None = refl
    go (Some n) = ap (λ (o : Option ℕ). numbers_of (Some n) o (number_of c)) e
no_calls a w (c ∷ d ∷ ws) e = refl

no_start : (a b w : Text) (ws : List Text) → number_of w ≡ None → numbers (a ∷ b ∷ w ∷ ws) ≡ None
no_start a b w [] e = go (number_of a) (number_of b) ∙ refl
  where
    go : (o p : Option ℕ) → numbers_of o p (number_of w) ≡ None
    go None p = refl
    go (Some n) None = refl
    go (Some n) (Some c) = ap (numbers_of (Some n) (Some c)) e
no_start a b w (d ∷ ws) e = refl

module _ (name : Text) (word : PlanNumbers → Word) where
  abbrev plan_leaf : Shape
  plan_leaf = leaf (command.planned name).top

  plan_options : NoOptions plan_leaf.rules
  plan_options = record { long = λ n. refl; short = λ c. refl }

  abbrev found : List Row → Option Word
  found rows = plan_in word rows

  abbrev p0 : Bool → Walk
  p0 t = standing [] None 1 t

  abbrev p1 : Bool → Text → Walk
  p1 t a = standing [] (Some (codes "nodes", a ∷ [])) 2 t

  abbrev p2 : Bool → Text → Text → Walk
  p2 t a b = standing (settled plan_leaf.rules (p1 t a).held).rows (Some (codes "calls", b ∷ [])) 3 t

  abbrev p3 : Bool → Text → Text → Text → Walk
  p3 t a b d = standing (settled plan_leaf.rules (p2 t a b).held).rows (Some (codes "seed", d ∷ [])) 4 t

  -- from here on, with what was read before
  abbrev PlanSaid : Walk → List Text → List Text → Type 0
  PlanSaid v ws read = Agrees (rest_fault plan_leaf v ws) (found (rest_rows plan_leaf v ws)) (plan word read)

  p3_trailing : (a b d : Text) (ws : List Text) → PlanSaid (p3 true a b d) ws (a ∷ b ∷ d ∷ ws)
  unfolding clap_on_literals
  p3_trailing a b d [] = taken refl refl
  p3_trailing a b d (w ∷ ws) = stops plan_leaf found (p3 true a b d) w ws None kind.UnknownArgument [] refl refl

  p3_there : (a b d : Text) (ws : List Text) → PlanSaid (p3 false a b d) ws (a ∷ b ∷ d ∷ without_dashes ws)
  unfolding clap_on_literals
  p3_there a b d [] = taken refl refl
  p3_there a b d (w ∷ ws) = go (bytes_eq w (codes "--")) refl
    where
      go : (t : Bool) → bytes_eq w (codes "--") ≡ t → PlanSaid (p3 false a b d) (w ∷ ws) (a ∷ b ∷ d ∷ without_dashes (w ∷ ws))
      go true e = as_read _ _ (plan word (a ∷ b ∷ d ∷ ws)) _ (ap (λ (l : List Text). plan word (a ∷ b ∷ d ∷ l)) (dashes_here w ws e))
          (passes_dashes plan_leaf found (p3 false a b d).held.rows (p3 false a b d).held.pending 4 w ws _ e (p3_trailing a b d ws))
      go false e = no_place plan_leaf plan_options found (p3 false a b d).held.rows (p3 false a b d).held.pending 4 w ws _ kind.UnknownArgument [] e refl
          (ap (λ (l : List Text). plan word (a ∷ b ∷ d ∷ l)) (dashes_later w ws e))

  p2_trailing : (a b : Text) (ws : List Text) → PlanSaid (p2 true a b) ws (a ∷ b ∷ ws)
  unfolding clap_on_literals
  p2_trailing a b [] = refused kind.MissingRequiredArgument [] refl refl
  p2_trailing a b (w ∷ ws) = goes_on plan_leaf found (p2 true a b) (p3 true a b w) w ws _ refl refl (p3_trailing a b w ws)

  p2_there : (a b : Text) (ws : List Text) → PlanSaid (p2 false a b) ws (a ∷ b ∷ without_dashes ws)
  unfolding clap_on_literals
  p2_there a b [] = refused kind.MissingRequiredArgument [] refl refl
  p2_there a b (w ∷ ws) = go (bytes_eq w (codes "--")) refl
    where
      go : (t : Bool) → bytes_eq w (codes "--") ≡ t → PlanSaid (p2 false a b) (w ∷ ws) (a ∷ b ∷ without_dashes (w ∷ ws))
      go true e = as_read _ _ (plan word (a ∷ b ∷ ws)) _ (ap (λ (l : List Text). plan word (a ∷ b ∷ l)) (dashes_here w ws e))
          (passes_dashes plan_leaf found (p2 false a b).held.rows (p2 false a b).held.pending 3 w ws _ e (p2_trailing a b ws))
      go false e = as_read _ _ (plan word (a ∷ b ∷ w ∷ without_dashes ws)) _ (ap (λ (l : List Text). plan word (a ∷ b ∷ l)) (dashes_later w ws e))
          (takes_place plan_leaf plan_options found (p2 false a b).held.rows (p2 false a b).held.pending 3 (p3 false a b w) w ws _ e refl refl
          (λ none. ap (option_map word) (no_start a b w (without_dashes ws) none)) (p3_there a b w ws))

  p1_trailing : (a : Text) (ws : List Text) → PlanSaid (p1 true a) ws (a ∷ ws)
  unfolding clap_on_literals
  p1_trailing a [] = refused kind.MissingRequiredArgument [] refl refl
  p1_trailing a (w ∷ ws) = goes_on plan_leaf found (p1 true a) (p2 true a w) w ws _ refl refl (p2_trailing a w ws)

  p1_there : (a : Text) (ws : List Text) → PlanSaid (p1 false a) ws (a ∷ without_dashes ws)
  unfolding clap_on_literals
  p1_there a [] = refused kind.MissingRequiredArgument [] refl refl
  p1_there a (w ∷ ws) = go (bytes_eq w (codes "--")) refl
    where
      go : (t : Bool) → bytes_eq w (codes "--") ≡ t → PlanSaid (p1 false a) (w ∷ ws) (a ∷ without_dashes (w ∷ ws))
      go true e = as_read _ _ (plan word (a ∷ ws)) _ (ap (λ (l : List Text). plan word (a ∷ l)) (dashes_here w ws e))
          (passes_dashes plan_leaf found (p1 false a).held.rows (p1 false a).held.pending 2 w ws _ e (p1_trailing a ws))
      go false e = as_read _ _ (plan word (a ∷ w ∷ without_dashes ws)) _ (ap (λ (l : List Text). plan word (a ∷ l)) (dashes_later w ws e))
          (takes_place plan_leaf plan_options found (p1 false a).held.rows (p1 false a).held.pending 2 (p2 false a w) w ws _ e refl refl
          (λ none. ap (option_map word) (no_calls a w (without_dashes ws) none)) (p2_there a w ws))

  p0_trailing : (ws : List Text) → PlanSaid (p0 true) ws ws
  unfolding clap_on_literals
  p0_trailing [] = refused kind.MissingRequiredArgument [] refl refl
  p0_trailing (w ∷ ws) = goes_on plan_leaf found (p0 true) (p1 true w) w ws _ refl refl (p1_trailing w ws)

  plan_start : (ws : List Text) → PlanSaid (p0 false) ws (without_dashes ws)
  unfolding clap_on_literals
  plan_start [] = refused kind.MissingRequiredArgument [] refl refl
  plan_start (w ∷ ws) = go (bytes_eq w (codes "--")) refl
    where
      go : (t : Bool) → bytes_eq w (codes "--") ≡ t → PlanSaid (p0 false) (w ∷ ws) (without_dashes (w ∷ ws))
      go true e = as_read _ _ (plan word ws) _ (ap (plan word) (dashes_here w ws e))
          (passes_dashes plan_leaf found [] None 1 w ws _ e (p0_trailing ws))
      go false e = as_read _ _ (plan word (w ∷ without_dashes ws)) _ (ap (plan word) (dashes_later w ws e))
          (takes_place plan_leaf plan_options found [] None 1 (p1 false w) w ws _ e refl refl
          (λ none. ap (option_map word) (no_nodes w (without_dashes ws) none)) (p1_there w ws))

-- ---- the command of a plan that is cut

no_cut_nodes : (w : Text) (ws : List Text) → number_of w ≡ None → chain_numbers (w ∷ ws) ≡ None
no_cut_nodes w [] e = refl
no_cut_nodes w (b ∷ []) e = refl
no_cut_nodes w (b ∷ c ∷ []) e = refl
no_cut_nodes w (b ∷ c ∷ d ∷ []) e = ap (λ (o : Option ℕ). chain_numbers_of o (number_of b) (number_of c) (number_of d)) e
no_cut_nodes w (b ∷ c ∷ d ∷ x ∷ ws) e = refl

no_chains : (a w : Text) (ws : List Text) → number_of w ≡ None → chain_numbers (a ∷ w ∷ ws) ≡ None
no_chains a w [] e = refl
no_chains a w (c ∷ []) e = refl
no_chains a w (c ∷ d ∷ []) e = go (number_of a)
  where
    go : (o : Option ℕ) → chain_numbers_of o (number_of w) (number_of c) (number_of d) ≡ None
    go None = refl
    go (Some n) = ap (λ (o : Option ℕ). chain_numbers_of (Some n) o (number_of c) (number_of d)) e
no_chains a w (c ∷ d ∷ x ∷ ws) e = refl

no_cut_calls : (a b w : Text) (ws : List Text) → number_of w ≡ None → chain_numbers (a ∷ b ∷ w ∷ ws) ≡ None
no_cut_calls a b w [] e = refl
no_cut_calls a b w (d ∷ []) e = go (number_of a) (number_of b)
  where
    go : (o p : Option ℕ) → chain_numbers_of o p (number_of w) (number_of d) ≡ None
    go None p = refl
    go (Some n) None = refl
    go (Some n) (Some c) = ap (λ (o : Option ℕ). chain_numbers_of (Some n) (Some c) o (number_of d)) e
no_cut_calls a b w (d ∷ x ∷ ws) e = refl

no_cut_start : (a b c w : Text) (ws : List Text) → number_of w ≡ None → chain_numbers (a ∷ b ∷ c ∷ w ∷ ws) ≡ None
no_cut_start a b c w [] e = go (number_of a) (number_of b) (number_of c)
  where
    go : (o p q : Option ℕ) → chain_numbers_of o p q (number_of w) ≡ None
    go None p q = refl
    go (Some n) None q = refl
    go (Some n) (Some m) None = refl
    go (Some n) (Some m) (Some k) = ap (chain_numbers_of (Some n) (Some m) (Some k)) e
no_cut_start a b c w (x ∷ ws) e = refl

abbrev chains_leaf : Shape
chains_leaf = leaf command.chains.top

chains_options : NoOptions chains_leaf.rules
chains_options = record { long = λ n. refl; short = λ c. refl }

abbrev c0 : Bool → Walk
c0 t = standing [] None 1 t

abbrev c1 : Bool → Text → Walk
c1 t a = standing [] (Some (codes "nodes", a ∷ [])) 2 t

abbrev c2 : Bool → Text → Text → Walk
c2 t a b = standing (settled chains_leaf.rules (c1 t a).held).rows (Some (codes "chains", b ∷ [])) 3 t

abbrev c3 : Bool → Text → Text → Text → Walk
c3 t a b d = standing (settled chains_leaf.rules (c2 t a b).held).rows (Some (codes "calls", d ∷ [])) 4 t

abbrev c4 : Bool → Text → Text → Text → Text → Walk
c4 t a b d f = standing (settled chains_leaf.rules (c3 t a b d).held).rows (Some (codes "seed", f ∷ [])) 5 t

-- from here on, with what was read before
abbrev ChainsSaid : Walk → List Text → List Text → Type 0
ChainsSaid v ws read = Agrees (rest_fault chains_leaf v ws) (chains_in (rest_rows chains_leaf v ws)) (chains read)

c4_trailing : (a b d f : Text) (ws : List Text) → ChainsSaid (c4 true a b d f) ws (a ∷ b ∷ d ∷ f ∷ ws)
unfolding clap_on_literals
c4_trailing a b d f [] = taken refl refl
c4_trailing a b d f (w ∷ ws) = stops chains_leaf chains_in (c4 true a b d f) w ws None kind.UnknownArgument [] refl refl

c4_there : (a b d f : Text) (ws : List Text) → ChainsSaid (c4 false a b d f) ws (a ∷ b ∷ d ∷ f ∷ without_dashes ws)
unfolding clap_on_literals
c4_there a b d f [] = taken refl refl
c4_there a b d f (w ∷ ws) = go (bytes_eq w (codes "--")) refl
  where
    go : (t : Bool) → bytes_eq w (codes "--") ≡ t → ChainsSaid (c4 false a b d f) (w ∷ ws) (a ∷ b ∷ d ∷ f ∷ without_dashes (w ∷ ws))
    go true e = as_read _ _ (chains (a ∷ b ∷ d ∷ f ∷ ws)) _ (ap (λ (l : List Text). chains (a ∷ b ∷ d ∷ f ∷ l)) (dashes_here w ws e))
        (passes_dashes chains_leaf chains_in (c4 false a b d f).held.rows (c4 false a b d f).held.pending 5 w ws _ e (c4_trailing a b d f ws))
    go false e = no_place chains_leaf chains_options chains_in (c4 false a b d f).held.rows (c4 false a b d f).held.pending 5 w ws _ kind.UnknownArgument [] e refl
        (ap (λ (l : List Text). chains (a ∷ b ∷ d ∷ f ∷ l)) (dashes_later w ws e))

c3_trailing : (a b d : Text) (ws : List Text) → ChainsSaid (c3 true a b d) ws (a ∷ b ∷ d ∷ ws)
unfolding clap_on_literals
c3_trailing a b d [] = refused kind.MissingRequiredArgument [] refl refl
c3_trailing a b d (w ∷ ws) = goes_on chains_leaf chains_in (c3 true a b d) (c4 true a b d w) w ws _ refl refl (c4_trailing a b d w ws)

c3_there : (a b d : Text) (ws : List Text) → ChainsSaid (c3 false a b d) ws (a ∷ b ∷ d ∷ without_dashes ws)
unfolding clap_on_literals
c3_there a b d [] = refused kind.MissingRequiredArgument [] refl refl
c3_there a b d (w ∷ ws) = go (bytes_eq w (codes "--")) refl
  where
    go : (t : Bool) → bytes_eq w (codes "--") ≡ t → ChainsSaid (c3 false a b d) (w ∷ ws) (a ∷ b ∷ d ∷ without_dashes (w ∷ ws))
    go true e = as_read _ _ (chains (a ∷ b ∷ d ∷ ws)) _ (ap (λ (l : List Text). chains (a ∷ b ∷ d ∷ l)) (dashes_here w ws e))
        (passes_dashes chains_leaf chains_in (c3 false a b d).held.rows (c3 false a b d).held.pending 4 w ws _ e (c3_trailing a b d ws))
    go false e = as_read _ _ (chains (a ∷ b ∷ d ∷ w ∷ without_dashes ws)) _ (ap (λ (l : List Text). chains (a ∷ b ∷ d ∷ l)) (dashes_later w ws e))
        (takes_place chains_leaf chains_options chains_in (c3 false a b d).held.rows (c3 false a b d).held.pending 4 (c4 false a b d w) w ws _ e refl refl
        (λ none. ap (option_map (λ p. Chains p)) (no_cut_start a b d w (without_dashes ws) none)) (c4_there a b d w ws))

c2_trailing : (a b : Text) (ws : List Text) → ChainsSaid (c2 true a b) ws (a ∷ b ∷ ws)
unfolding clap_on_literals
c2_trailing a b [] = refused kind.MissingRequiredArgument [] refl refl
c2_trailing a b (w ∷ ws) = goes_on chains_leaf chains_in (c2 true a b) (c3 true a b w) w ws _ refl refl (c3_trailing a b w ws)

c2_there : (a b : Text) (ws : List Text) → ChainsSaid (c2 false a b) ws (a ∷ b ∷ without_dashes ws)
unfolding clap_on_literals
c2_there a b [] = refused kind.MissingRequiredArgument [] refl refl
c2_there a b (w ∷ ws) = go (bytes_eq w (codes "--")) refl
  where
    go : (t : Bool) → bytes_eq w (codes "--") ≡ t → ChainsSaid (c2 false a b) (w ∷ ws) (a ∷ b ∷ without_dashes (w ∷ ws))
    go true e = as_read _ _ (chains (a ∷ b ∷ ws)) _ (ap (λ (l : List Text). chains (a ∷ b ∷ l)) (dashes_here w ws e))
        (passes_dashes chains_leaf chains_in (c2 false a b).held.rows (c2 false a b).held.pending 3 w ws _ e (c2_trailing a b ws))
    go false e = as_read _ _ (chains (a ∷ b ∷ w ∷ without_dashes ws)) _ (ap (λ (l : List Text). chains (a ∷ b ∷ l)) (dashes_later w ws e))
        (takes_place chains_leaf chains_options chains_in (c2 false a b).held.rows (c2 false a b).held.pending 3 (c3 false a b w) w ws _ e refl refl
        (λ none. ap (option_map (λ p. Chains p)) (no_cut_calls a b w (without_dashes ws) none)) (c3_there a b w ws))

c1_trailing : (a : Text) (ws : List Text) → ChainsSaid (c1 true a) ws (a ∷ ws)
unfolding clap_on_literals
c1_trailing a [] = refused kind.MissingRequiredArgument [] refl refl
c1_trailing a (w ∷ ws) = goes_on chains_leaf chains_in (c1 true a) (c2 true a w) w ws _ refl refl (c2_trailing a w ws)

c1_there : (a : Text) (ws : List Text) → ChainsSaid (c1 false a) ws (a ∷ without_dashes ws)
unfolding clap_on_literals
c1_there a [] = refused kind.MissingRequiredArgument [] refl refl
c1_there a (w ∷ ws) = go (bytes_eq w (codes "--")) refl
  where
    go : (t : Bool) → bytes_eq w (codes "--") ≡ t → ChainsSaid (c1 false a) (w ∷ ws) (a ∷ without_dashes (w ∷ ws))
    go true e = as_read _ _ (chains (a ∷ ws)) _ (ap (λ (l : List Text). chains (a ∷ l)) (dashes_here w ws e))
        (passes_dashes chains_leaf chains_in (c1 false a).held.rows (c1 false a).held.pending 2 w ws _ e (c1_trailing a ws))
    go false e = as_read _ _ (chains (a ∷ w ∷ without_dashes ws)) _ (ap (λ (l : List Text). chains (a ∷ l)) (dashes_later w ws e))
        (takes_place chains_leaf chains_options chains_in (c1 false a).held.rows (c1 false a).held.pending 2 (c2 false a w) w ws _ e refl refl
        (λ none. ap (option_map (λ p. Chains p)) (no_chains a w (without_dashes ws) none)) (c2_there a w ws))

c0_trailing : (ws : List Text) → ChainsSaid (c0 true) ws ws
unfolding clap_on_literals
c0_trailing [] = refused kind.MissingRequiredArgument [] refl refl
c0_trailing (w ∷ ws) = goes_on chains_leaf chains_in (c0 true) (c1 true w) w ws _ refl refl (c1_trailing w ws)

chains_start : (ws : List Text) → ChainsSaid (c0 false) ws (without_dashes ws)
unfolding clap_on_literals
chains_start [] = refused kind.MissingRequiredArgument [] refl refl
chains_start (w ∷ ws) = go (bytes_eq w (codes "--")) refl
  where
    go : (t : Bool) → bytes_eq w (codes "--") ≡ t → ChainsSaid (c0 false) (w ∷ ws) (without_dashes (w ∷ ws))
    go true e = as_read _ _ (chains (ws)) _ (ap chains (dashes_here w ws e))
        (passes_dashes chains_leaf chains_in [] None 1 w ws _ e (c0_trailing ws))
    go false e = as_read _ _ (chains (w ∷ without_dashes ws)) _ (ap chains (dashes_later w ws e))
        (takes_place chains_leaf chains_options chains_in [] None 1 (c1 false w) w ws _ e refl refl
        (λ none. ap (option_map (λ p. Chains p)) (no_cut_nodes w (without_dashes ws) none)) (c1_there w ws))

-- ---- the command of a bus

no_bus_nodes : (w : Text) (ws : List Text) → number_of w ≡ None → bus_numbers (w ∷ ws) ≡ None
no_bus_nodes w [] e = refl
no_bus_nodes w (b ∷ []) e = refl
no_bus_nodes w (b ∷ c ∷ []) e = ap (λ (o : Option ℕ). bus_numbers_of o (number_of b) (number_of c)) e
no_bus_nodes w (b ∷ c ∷ d ∷ ws) e = refl

no_messages : (a w : Text) (ws : List Text) → number_of w ≡ None → bus_numbers (a ∷ w ∷ ws) ≡ None
no_messages a w [] e = refl
no_messages a w (c ∷ []) e = go (number_of a)
  where
    go : (o : Option ℕ) → bus_numbers_of o (number_of w) (number_of c) ≡ None
    go None = refl
    go (Some n) = ap (λ (o : Option ℕ). bus_numbers_of (Some n) o (number_of c)) e
no_messages a w (c ∷ d ∷ ws) e = refl

no_bus_seed : (a b w : Text) (ws : List Text) → number_of w ≡ None → bus_numbers (a ∷ b ∷ w ∷ ws) ≡ None
no_bus_seed a b w [] e = go (number_of a) (number_of b)
  where
    go : (o p : Option ℕ) → bus_numbers_of o p (number_of w) ≡ None
    go None p = refl
    go (Some n) None = refl
    go (Some n) (Some c) = ap (bus_numbers_of (Some n) (Some c)) e
no_bus_seed a b w (d ∷ ws) e = refl

abbrev bus_leaf : Shape
bus_leaf = leaf command.bus.top

bus_options : NoOptions bus_leaf.rules
bus_options = record { long = λ n. refl; short = λ c. refl }

abbrev b0 : Bool → Walk
b0 t = standing [] None 1 t

abbrev b1 : Bool → Text → Walk
b1 t a = standing [] (Some (codes "nodes", a ∷ [])) 2 t

abbrev b2 : Bool → Text → Text → Walk
b2 t a b = standing (settled bus_leaf.rules (b1 t a).held).rows (Some (codes "messages", b ∷ [])) 3 t

abbrev b3 : Bool → Text → Text → Text → Walk
b3 t a b d = standing (settled bus_leaf.rules (b2 t a b).held).rows (Some (codes "seed", d ∷ [])) 4 t

-- from here on, with what was read before
abbrev BusSaid : Walk → List Text → List Text → Type 0
BusSaid v ws read = Agrees (rest_fault bus_leaf v ws) (bus_in (rest_rows bus_leaf v ws)) (bus read)

b3_trailing : (a b d : Text) (ws : List Text) → BusSaid (b3 true a b d) ws (a ∷ b ∷ d ∷ ws)
unfolding clap_on_literals
b3_trailing a b d [] = taken refl refl
b3_trailing a b d (w ∷ ws) = stops bus_leaf bus_in (b3 true a b d) w ws None kind.UnknownArgument [] refl refl

b3_there : (a b d : Text) (ws : List Text) → BusSaid (b3 false a b d) ws (a ∷ b ∷ d ∷ without_dashes ws)
unfolding clap_on_literals
b3_there a b d [] = taken refl refl
b3_there a b d (w ∷ ws) = go (bytes_eq w (codes "--")) refl
  where
    go : (t : Bool) → bytes_eq w (codes "--") ≡ t → BusSaid (b3 false a b d) (w ∷ ws) (a ∷ b ∷ d ∷ without_dashes (w ∷ ws))
    go true e = as_read _ _ (bus (a ∷ b ∷ d ∷ ws)) _ (ap (λ (l : List Text). bus (a ∷ b ∷ d ∷ l)) (dashes_here w ws e))
        (passes_dashes bus_leaf bus_in (b3 false a b d).held.rows (b3 false a b d).held.pending 4 w ws _ e (b3_trailing a b d ws))
    go false e = no_place bus_leaf bus_options bus_in (b3 false a b d).held.rows (b3 false a b d).held.pending 4 w ws _ kind.UnknownArgument [] e refl
        (ap (λ (l : List Text). bus (a ∷ b ∷ d ∷ l)) (dashes_later w ws e))

b2_trailing : (a b : Text) (ws : List Text) → BusSaid (b2 true a b) ws (a ∷ b ∷ ws)
unfolding clap_on_literals
b2_trailing a b [] = refused kind.MissingRequiredArgument [] refl refl
b2_trailing a b (w ∷ ws) = goes_on bus_leaf bus_in (b2 true a b) (b3 true a b w) w ws _ refl refl (b3_trailing a b w ws)

b2_there : (a b : Text) (ws : List Text) → BusSaid (b2 false a b) ws (a ∷ b ∷ without_dashes ws)
unfolding clap_on_literals
b2_there a b [] = refused kind.MissingRequiredArgument [] refl refl
b2_there a b (w ∷ ws) = go (bytes_eq w (codes "--")) refl
  where
    go : (t : Bool) → bytes_eq w (codes "--") ≡ t → BusSaid (b2 false a b) (w ∷ ws) (a ∷ b ∷ without_dashes (w ∷ ws))
    go true e = as_read _ _ (bus (a ∷ b ∷ ws)) _ (ap (λ (l : List Text). bus (a ∷ b ∷ l)) (dashes_here w ws e))
        (passes_dashes bus_leaf bus_in (b2 false a b).held.rows (b2 false a b).held.pending 3 w ws _ e (b2_trailing a b ws))
    go false e = as_read _ _ (bus (a ∷ b ∷ w ∷ without_dashes ws)) _ (ap (λ (l : List Text). bus (a ∷ b ∷ l)) (dashes_later w ws e))
        (takes_place bus_leaf bus_options bus_in (b2 false a b).held.rows (b2 false a b).held.pending 3 (b3 false a b w) w ws _ e refl refl
        (λ none. ap (option_map (λ p. Bus p)) (no_bus_seed a b w (without_dashes ws) none)) (b3_there a b w ws))

b1_trailing : (a : Text) (ws : List Text) → BusSaid (b1 true a) ws (a ∷ ws)
unfolding clap_on_literals
b1_trailing a [] = refused kind.MissingRequiredArgument [] refl refl
b1_trailing a (w ∷ ws) = goes_on bus_leaf bus_in (b1 true a) (b2 true a w) w ws _ refl refl (b2_trailing a w ws)

b1_there : (a : Text) (ws : List Text) → BusSaid (b1 false a) ws (a ∷ without_dashes ws)
unfolding clap_on_literals
b1_there a [] = refused kind.MissingRequiredArgument [] refl refl
b1_there a (w ∷ ws) = go (bytes_eq w (codes "--")) refl
  where
    go : (t : Bool) → bytes_eq w (codes "--") ≡ t → BusSaid (b1 false a) (w ∷ ws) (a ∷ without_dashes (w ∷ ws))
    go true e = as_read _ _ (bus (a ∷ ws)) _ (ap (λ (l : List Text). bus (a ∷ l)) (dashes_here w ws e))
        (passes_dashes bus_leaf bus_in (b1 false a).held.rows (b1 false a).held.pending 2 w ws _ e (b1_trailing a ws))
    go false e = as_read _ _ (bus (a ∷ w ∷ without_dashes ws)) _ (ap (λ (l : List Text). bus (a ∷ l)) (dashes_later w ws e))
        (takes_place bus_leaf bus_options bus_in (b1 false a).held.rows (b1 false a).held.pending 2 (b2 false a w) w ws _ e refl refl
        (λ none. ap (option_map (λ p. Bus p)) (no_messages a w (without_dashes ws) none)) (b2_there a w ws))

b0_trailing : (ws : List Text) → BusSaid (b0 true) ws ws
unfolding clap_on_literals
b0_trailing [] = refused kind.MissingRequiredArgument [] refl refl
b0_trailing (w ∷ ws) = goes_on bus_leaf bus_in (b0 true) (b1 true w) w ws _ refl refl (b1_trailing w ws)

bus_start : (ws : List Text) → BusSaid (b0 false) ws (without_dashes ws)
unfolding clap_on_literals
bus_start [] = refused kind.MissingRequiredArgument [] refl refl
bus_start (w ∷ ws) = go (bytes_eq w (codes "--")) refl
  where
    go : (t : Bool) → bytes_eq w (codes "--") ≡ t → BusSaid (b0 false) (w ∷ ws) (without_dashes (w ∷ ws))
    go true e = as_read _ _ (bus ws) _ (ap bus (dashes_here w ws e))
        (passes_dashes bus_leaf bus_in [] None 1 w ws _ e (b0_trailing ws))
    go false e = as_read _ _ (bus (w ∷ without_dashes ws)) _ (ap bus (dashes_later w ws e))
        (takes_place bus_leaf bus_options bus_in [] None 1 (b1 false w) w ws _ e refl refl
        (λ none. ap (option_map (λ p. Bus p)) (no_bus_nodes w (without_dashes ws) none)) (b1_there w ws))

-- ---- the command

abbrev app : App
app = built command.program

abbrev names : Names
names = names_of app

-- where a command ended the walk
abbrev ended : Text → List Text → Walk
ended name ws = record { held = nothing_held; waiting = idle; position = 1; is_trailing = false; stopped = Some (name, ws) }

-- the words behind it are gathered
gathers : (name : Text) (before ws : List Text) → fold (walked app.top.rules names) (ended name before) ws ≡ ended name (before ++ ws)
unfolding walked
gathers name before [] = ap (ended name) (sym (append-nil before))
gathers name before (w ∷ ws) = gathers name (before ++ w ∷ []) ws ∙ ap (ended name) (append_assoc before (w ∷ []) ws)

gathers_well : (name : Text) (before ws : List Text) → walk_fault app.top names (ended name before) ws ≡ []
unfolding walked walk_fault
gathers_well name before [] = refl
gathers_well name before (w ∷ ws) = gathers_well name (before ++ w ∷ []) ws

or_none : (ks : Kinds) → or_else ks [] ≡ ks
or_none [] = refl
or_none (k ∷ ks) = refl

-- what fails, by what fails at the words, and by the walk's end
abbrev fault_by : Kinds → Walk → Kinds
fault_by walking v = or_else walking (or_else (entered_fault app v.stopped) (or_else (settle_fault app.top.rules app.top.args_override_self v.held)
    (or_else (defaults_fault (settled app.top.rules v.held).rows app.top.rules) (check_fault app.top (finished app.top.rules v.held) (is_some (entered app v.stopped))))))

module _ (name : Text) (ws : List Text) where
  ended_fault : fault_by (walk_fault app.top names (ended name []) ws) (fold (walked app.top.rules names) (ended name []) ws) ≡ fault_by [] (ended name ws)
  ended_fault = ap₂ fault_by (gathers_well name [] ws) (gathers name [] ws)

  ended_at : matched (entered app (fold (walked app.top.rules names) (ended name []) ws).stopped) ≡ matched (entered app (Some (name, ws)))
  ended_at = ap (λ (v : Walk). matched (entered app v.stopped)) (gathers name [] ws)

as_said : (kinds other : Kinds) (found same read : Option Word) → other ≡ kinds → same ≡ found → Agrees kinds found read → Agrees other same read
as_said kinds other found same read ek ef h =
    subst (λ (k : Kinds). Agrees k same read) (sym ek) (subst (λ (f : Option Word). Agrees kinds f read) (sym ef) h)

abbrev Said : List Text → Type 0
Said ws = Agrees (fault_of command.program ws) (matched (subcommand_of command.program ws)) (reading ws)

play_said : (ws : List Text) → Said (codes "play" ∷ ws)
unfolding clap_on_literals
play_said ws = as_said _ _ _ _ _ (ended_fault (codes "play") ws ∙ or_none _) (ended_at (codes "play") ws) (bare_start (codes "play") Play ws)

lcp2_said : (ws : List Text) → Said (codes "lcp2" ∷ ws)
unfolding clap_on_literals
lcp2_said ws = as_said _ _ _ _ _ (ended_fault (codes "lcp2") ws ∙ or_none _) (ended_at (codes "lcp2") ws) (bare_start (codes "lcp2") Lcp2 ws)

soak_said : (ws : List Text) → Said (codes "soak" ∷ ws)
unfolding clap_on_literals
soak_said ws = as_said _ _ _ _ _ (ended_fault (codes "soak") ws ∙ or_none _) (ended_at (codes "soak") ws) (soak_start ws)

cluster_said : (ws : List Text) → Said (codes "cluster" ∷ ws)
unfolding clap_on_literals
cluster_said ws = as_said _ _ _ _ _ (ended_fault (codes "cluster") ws ∙ or_none _) (ended_at (codes "cluster") ws) (plan_start (codes "cluster") (λ p. Cluster p) ws)

loopback_said : (ws : List Text) → Said (codes "loopback" ∷ ws)
unfolding clap_on_literals
loopback_said ws = as_said _ _ _ _ _ (ended_fault (codes "loopback") ws ∙ or_none _) (ended_at (codes "loopback") ws) (plan_start (codes "loopback") (λ p. Loopback p) ws)

chains_said : (ws : List Text) → Said (codes "chains" ∷ ws)
unfolding clap_on_literals
chains_said ws = as_said _ _ _ _ _ (ended_fault (codes "chains") ws ∙ or_none _) (ended_at (codes "chains") ws) (chains_start ws)

bus_said : (ws : List Text) → Said (codes "bus" ∷ ws)
unfolding clap_on_literals
bus_said ws = as_said _ _ _ _ _ (ended_fault (codes "bus") ws ∙ or_none _) (ended_at (codes "bus") ws) (bus_start ws)

-- ---- a first word that is no command

turned : (a b : Text) → bytes_eq a b ≡ false → bytes_eq b a ≡ false
turned a b e = go (bytes_eq b a) refl
  where
    go : (t : Bool) → bytes_eq b a ≡ t → bytes_eq b a ≡ false
    go false q = q
    go true q = absurd (true≢false (sym ((bytes_eq-Decides a b).1 (sym ((bytes_eq-Decides b a).0 q))) ∙ e))

program_options : NoOptions app.top.rules
program_options = record { long = λ n. refl; short = λ c. refl }

module _ (w : Text) (no_play : bytes_eq w (codes "play") ≡ false) (no_lcp2 : bytes_eq w (codes "lcp2") ≡ false) (no_soak : bytes_eq w (codes "soak") ≡ false)
    (no_cluster : bytes_eq w (codes "cluster") ≡ false) (no_loopback : bytes_eq w (codes "loopback") ≡ false) (no_chains_word : bytes_eq w (codes "chains") ≡ false)
    (no_bus_word : bytes_eq w (codes "bus") ≡ false) where
  abbrev label : Text → Text × List Text
  label name = (name, [])

  abbrev met_by : Bool → Bool → Bool → Bool → Bool → Bool → Bool → Option Text
  met_by p l s c b h u = option_map (λ n. n.0)
      (cond (p || false) (Some (label (codes "play"))) (cond (l || false) (Some (label (codes "lcp2"))) (cond (s || false) (Some (label (codes "soak")))
      (cond (c || false) (Some (label (codes "cluster"))) (cond (b || false) (Some (label (codes "loopback"))) (cond (h || false) (Some (label (codes "chains")))
      (cond (u || false) (Some (label (codes "bus"))) None)))))))

  unnamed : subcommand_met names idle w ≡ None
  unnamed = ap (λ (p : Bool). met_by p (bytes_eq (codes "lcp2") w) (bytes_eq (codes "soak") w) (bytes_eq (codes "cluster") w) (bytes_eq (codes "loopback") w) (bytes_eq (codes "chains") w) (bytes_eq (codes "bus") w)) (turned w (codes "play") no_play)
      ∙ ap (λ (l : Bool). met_by false l (bytes_eq (codes "soak") w) (bytes_eq (codes "cluster") w) (bytes_eq (codes "loopback") w) (bytes_eq (codes "chains") w) (bytes_eq (codes "bus") w)) (turned w (codes "lcp2") no_lcp2)
      ∙ ap (λ (s : Bool). met_by false false s (bytes_eq (codes "cluster") w) (bytes_eq (codes "loopback") w) (bytes_eq (codes "chains") w) (bytes_eq (codes "bus") w)) (turned w (codes "soak") no_soak)
      ∙ ap (λ (c : Bool). met_by false false false c (bytes_eq (codes "loopback") w) (bytes_eq (codes "chains") w) (bytes_eq (codes "bus") w)) (turned w (codes "cluster") no_cluster)
      ∙ ap (λ (b : Bool). met_by false false false false b (bytes_eq (codes "chains") w) (bytes_eq (codes "bus") w)) (turned w (codes "loopback") no_loopback)
      ∙ ap (λ (h : Bool). met_by false false false false false h (bytes_eq (codes "bus") w)) (turned w (codes "chains") no_chains_word)
      ∙ ap (λ (u : Bool). met_by false false false false false false u) (turned w (codes "bus") no_bus_word)

  module _ (ws : List Text) where
    abbrev read_by : Bool → Bool → Bool → Bool → Bool → Bool → Bool → Option Word
    read_by p l s c b h u = cond p (alone Play (without_dashes ws)) (cond l (alone Lcp2 (without_dashes ws)) (cond s (soak (without_dashes ws))
        (cond c (plan (λ n. Cluster n) (without_dashes ws)) (cond b (plan (λ n. Loopback n) (without_dashes ws)) (cond h (chains (without_dashes ws))
        (cond u (bus (without_dashes ws)) None))))))

    unread : reading (w ∷ ws) ≡ None
    unread = ap (λ (p : Bool). read_by p (bytes_eq w (codes "lcp2")) (bytes_eq w (codes "soak")) (bytes_eq w (codes "cluster")) (bytes_eq w (codes "loopback")) (bytes_eq w (codes "chains")) (bytes_eq w (codes "bus"))) no_play
        ∙ ap (λ (l : Bool). read_by false l (bytes_eq w (codes "soak")) (bytes_eq w (codes "cluster")) (bytes_eq w (codes "loopback")) (bytes_eq w (codes "chains")) (bytes_eq w (codes "bus"))) no_lcp2
        ∙ ap (λ (s : Bool). read_by false false s (bytes_eq w (codes "cluster")) (bytes_eq w (codes "loopback")) (bytes_eq w (codes "chains")) (bytes_eq w (codes "bus"))) no_soak
        ∙ ap (λ (c : Bool). read_by false false false c (bytes_eq w (codes "loopback")) (bytes_eq w (codes "chains")) (bytes_eq w (codes "bus"))) no_cluster
        ∙ ap (λ (b : Bool). read_by false false false false b (bytes_eq w (codes "chains")) (bytes_eq w (codes "bus"))) no_loopback
        ∙ ap (λ (h : Bool). read_by false false false false false h (bytes_eq w (codes "bus"))) no_chains_word
        ∙ ap (λ (u : Bool). read_by false false false false false false u) no_bus_word

    fails : (k : ErrorKind) (ks : Kinds) → turn_fault app.top names (walk_from nothing_held) w ≡ k ∷ ks → Said (w ∷ ws)
    unfolding walk_fault
    fails k ks e = let next : Walk = walked app.top.rules names (walk_from nothing_held) w in
        refused k _ (ap (λ (t : Kinds). fault_by (or_else t (walk_fault app.top names next ws)) (fold (walked app.top.rules names) next ws)) e) unread

    other_said : bytes_eq w (codes "--") ≡ false → Said (w ∷ ws)
    other_said ne = go _ _ (single app.top names 1 [] None w program_options unnamed ne) refl refl
      where
        go : (kinds : Kinds) (met : Held × Step) → Single w nothing_held kinds met → word_fault app.top names false idle w nothing_held ≡ kinds
            → word_met app.top.rules names false idle 1 w nothing_held ≡ met → Said (w ∷ ws)
        go kinds met (is_value ek em) ak am = fails kind.UnknownArgument (kind.InvalidSubcommand ∷ [])
            (ap₂ (λ (k : Kinds) (m : Held × Step). or_else k (step_fault app.top 1 m.0 m.1)) (ak ∙ ek) (am ∙ em))
        go kinds met (is_odd k ks ek nn) ak am = let m : Held × Step = word_met app.top.rules names false idle 1 w nothing_held in
            fails k ks (ap (λ (t : Kinds). or_else t (step_fault app.top 1 m.0 m.1)) (ak ∙ ek))

dashes_said : (ws : List Text) → Said (codes "--" ∷ ws)
unfolding clap_on_literals
dashes_said [] = refused kind.MissingSubcommand [] refl refl
dashes_said (w ∷ ws) = refused kind.UnknownArgument (kind.InvalidSubcommand ∷ []) refl refl

said_at : (name w : Text) (ws : List Text) → bytes_eq w name ≡ true → Said (name ∷ ws) → Said (w ∷ ws)
said_at name w ws e h = subst (λ (x : Text). Said (x ∷ ws)) (sym ((bytes_eq-Decides w name).0 e)) h

-- what `clap` makes of the words is their reading
pub said : (ws : List Text) → Said ws
unfolding clap_on_literals
said [] = refused kind.MissingSubcommand [] refl refl
said (w ∷ ws) =
    go (bytes_eq w (codes "play")) (bytes_eq w (codes "lcp2")) (bytes_eq w (codes "soak")) (bytes_eq w (codes "cluster")) (bytes_eq w (codes "loopback")) (bytes_eq w (codes "chains")) (bytes_eq w (codes "bus")) (bytes_eq w (codes "--")) refl refl refl refl refl refl refl refl
  where
    go : (p l s c b h u d : Bool) → bytes_eq w (codes "play") ≡ p → bytes_eq w (codes "lcp2") ≡ l → bytes_eq w (codes "soak") ≡ s → bytes_eq w (codes "cluster") ≡ c
        → bytes_eq w (codes "loopback") ≡ b → bytes_eq w (codes "chains") ≡ h → bytes_eq w (codes "bus") ≡ u → bytes_eq w (codes "--") ≡ d → Said (w ∷ ws)
    go true l s c b h u d ep el es ec eb eh eu ed = said_at (codes "play") w ws ep (play_said ws)
    go false true s c b h u d ep el es ec eb eh eu ed = said_at (codes "lcp2") w ws el (lcp2_said ws)
    go false false true c b h u d ep el es ec eb eh eu ed = said_at (codes "soak") w ws es (soak_said ws)
    go false false false true b h u d ep el es ec eb eh eu ed = said_at (codes "cluster") w ws ec (cluster_said ws)
    go false false false false true h u d ep el es ec eb eh eu ed = said_at (codes "loopback") w ws eb (loopback_said ws)
    go false false false false false true u d ep el es ec eb eh eu ed = said_at (codes "chains") w ws eh (chains_said ws)
    go false false false false false false true d ep el es ec eb eh eu ed = said_at (codes "bus") w ws eu (bus_said ws)
    go false false false false false false false true ep el es ec eb eh eu ed = said_at (codes "--") w ws ed (dashes_said ws)
    go false false false false false false false false ep el es ec eb eh eu ed = other_said w ep el es ec eb eh eu ws ed

-- nothing fails: what was found is the reading
pub found_read : (kinds : Kinds) (found read : Option Word) → Agrees kinds found read → kinds ≡ [] → found ≡ read
found_read kinds found read (taken e f) none = f
found_read kinds found read (refused k ks e r) none = absurd (cc)

-- something fails: there is no reading
pub fails_unread : (kinds : Kinds) (found read : Option Word) (k : ErrorKind) → Agrees kinds found read → IsAmong k kinds → read ≡ None
fails_unread kinds found read k (taken e f) among = absurd (subst (λ (ks : Kinds). IsAmong k ks) e among)
fails_unread kinds found read k (refused j js e r) among = r

pub is_exact : is_simple_and_free command.program ≡ true
unfolding clap_on_literals
is_exact = refl

pub is_plain : is_simple command.program ≡ true
unfolding clap_on_literals
is_plain = refl

-- what is answered where nothing fails
pub reads_found : (found read : Option Word) (r : Result Word WordsFault) → found ≡ read → r ≡ ok_or found Usage → Reads r read
reads_found None read r e is = subst (λ (x : Result Word WordsFault). Reads x read) (sym is) (sym e)
reads_found (Some w) read r e is = subst (λ (x : Result Word WordsFault). Reads x read) (sym is) (sym e)

-- the numbers of what is answered are in their range
pub ranged_found : (found : Option Word) (r : Result Word WordsFault) → IfSome found IsRanged → r ≡ ok_or found Usage → IfOk r IsRanged
ranged_found None r h is = subst (λ (x : Result Word WordsFault). IfOk x IsRanged) (sym is) tt
ranged_found (Some w) r h is = subst (λ (x : Result Word WordsFault). IfOk x IsRanged) (sym is) h
