-- Columns that were played side by side have played.
use Rattle.std.proofs.Common.{◌≡◌, ◌∙◌, ℕ, zero, suc, ◌<◌, ◌≤◌, Bool, true, nat_lt, List, [], ◌∷◌, ◌++◌, length, take, Option, None, Some, Result, Ok, Err, refl, sym, ap, subst, arith}
use Rattle.std.proofs.lemmas.Bool.{and_parts, cond_both, le-ltb, lt-ltb}
use Rattle.std.proofs.Math.Seq.{take-append_seam}
use Rattle.std.proofs.lemmas.Option.{slice_get_past, slice_get_within}
use Rattle.std.specs.List.{list_all}
use Rattle.std.specs.Prelude.{if◌then◌else◌, slice_get}
use Rattle.ct_call.specs.Rules.{Rules}
use Rattle.ct_script.specs.declared.plan.Plan.{Plan}
use Rattle.ct_journal.specs.declared.journal.Journal.{Journal}
use Rattle.ct_values.specs.declared.memory.NoMemory.{NoMemory}
use Rattle.ct_troupe.specs.Played.{ArePlayed}
use Rattle.ct_troupe.specs.Columns.{ArePlayedIn}
use Rattle.ct_troupe_threads.specs.Sides.{AreColumnsOf, LeavesOf, ended_well, has_ended, journals_in, or_no_journals}
use Rattle.ct_troupe_threads.specs.declared.column.Column.{Column}

leaves_all : (rules : Rules) (p : Plan) (r : Result (Unit {0}) NoMemory) (js : List Journal) → ended_well r ≡ true → LeavesOf rules p r js → ArePlayed rules p js
leaves_all rules p (Ok u) js e h = h
leaves_all rules p (Err f) js e h = absurd (cc)

module _ {G : Type 0} where
  -- the column at a place before which all have ended
  got_ended : (cs : List (Column G)) (n i : ℕ) → list_all has_ended (take n cs) ≡ true → i < n → n ≤ length cs → (c : Column G) × (slice_get cs i ≡ Some c) × (has_ended c ≡ true)
  got_ended [] n i h l m = absurd (omega arith)
  got_ended (c ∷ cs) zero i h l m = absurd (omega arith)
  got_ended (c ∷ cs) (suc n) zero h l m = (c, refl, (and_parts (has_ended c) (list_all has_ended (take n cs)) h).0)
  got_ended (c ∷ cs) (suc n) (suc i) h l m = got_ended cs n i (and_parts (has_ended c) (list_all has_ended (take n cs)) h).1 (omega arith) (omega arith)

  there : (cs : List (Column G)) (played i : ℕ) → i < played → journals_in cs played i ≡ or_no_journals (slice_get cs i)
  unfolding journals_in
  there cs played i l = ap (λ (b : Bool). if b then or_no_journals (slice_get cs i) else []) (lt-ltb i played l)

  not_there : (cs : List (Column G)) (played i : ℕ) → played ≤ i → journals_in cs played i ≡ []
  unfolding journals_in
  not_there cs played i l = ap (λ (b : Bool). if b then or_no_journals (slice_get cs i) else []) (le-ltb i played l)

  -- none are where no column is
  pub no_column : (cs : List (Column G)) (played i : ℕ) → slice_get cs i ≡ None → journals_in cs played i ≡ []
  unfolding journals_in or_no_journals
  no_column cs played i none = cond_both (nat_lt i played) (or_no_journals (slice_get cs i)) [] (λ (js : List Journal). js ≡ []) (λ _. ap (λ (o : Option (Column G)). or_no_journals o) none) (λ _. refl)

  played_at : (rules : Rules) (ps : List Plan) (cs : List (Column G)) → AreColumnsOf rules ps cs → list_all has_ended (take (length ps) cs) ≡ true → length ps ≤ length cs → (i : ℕ) (p : Plan) → slice_get ps i ≡ Some p → ArePlayed rules p (journals_in cs (length ps) i)
  unfolding or_no_journals
  played_at rules ps cs h ended l i p e =
      let w = slice_get_within ps i p e in
      let g = got_ended cs (length ps) i ended w l in
      subst (λ (js : List Journal). ArePlayed rules p js) (sym (there cs (length ps) i w ∙ ap (λ (o : Option (Column G)). or_no_journals o) g.1)) (leaves_all rules p g.0.ended g.0.last g.2 (h i g.0 g.1 p e))

  -- all columns have played
  pub are_played : (rules : Rules) (ps : List Plan) (cs : List (Column G)) → AreColumnsOf rules ps cs → list_all has_ended (take (length ps) cs) ≡ true → length ps ≤ length cs → ArePlayedIn rules ps (journals_in cs (length ps))
  are_played rules ps cs h ended l = record { played = played_at rules ps cs h ended l; beyond = λ i m. not_there cs (length ps) i m }

  -- none has journals
  pub none_played : (cs : List (Column G)) (i : ℕ) → journals_in cs 0 i ≡ []
  none_played cs i = not_there cs 0 i (omega arith)

  -- what is left of all columns once these are written back
  written_back : (new rest : List (Column G)) (len : ℕ) → length new ≡ len → take len (new ++ rest) ≡ new
  written_back new rest len is = subst (λ (n : ℕ). take n (new ++ rest) ≡ new) is (take-append_seam new rest)

  pub all_played : (rules : Rules) (ps : List Plan) (new rest : List (Column G)) (len : ℕ) → AreColumnsOf rules ps new → length new ≡ len → list_all has_ended (take (length ps) (take len (new ++ rest))) ≡ true → length ps ≤ len
      → ArePlayedIn rules ps (journals_in (take len (new ++ rest)) (length ps))
  all_played rules ps new rest len h is ended l =
      let same = written_back new rest len is in
      subst (λ (cs : List (Column G)). ArePlayedIn rules ps (journals_in cs (length ps))) (sym same)
      (are_played rules ps new h (ap (λ (cs : List (Column G)). list_all has_ended (take (length ps) cs)) (sym same) ∙ ended) (omega (arith, is, l)))

  pub no_column_past : (cs seen : List (Column G)) (played i : ℕ) → seen ≡ cs → length seen ≤ i → journals_in cs played i ≡ []
  no_column_past cs seen played i is l = no_column cs played i (slice_get_past cs i (let e = ap (λ (xs : List (Column G)). length xs) is in omega (arith, e, l)))
