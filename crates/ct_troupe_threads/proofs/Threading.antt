-- What nodes leave that all served.
use Rattle.std.proofs.Common.{◌≡◌, ◌∙◌, ℕ, zero, suc, ◌<◌, ◌≤◌, ◌^◌, ⊎_elim, inl, List, [], ◌∷◌, length, map, Option, None, Some, refl, sym, ap, subst, arith}
use Rattle.std.proofs.lemmas.Bool.{cases_lt}
use Rattle.std.proofs.lemmas.List.{length-map}
use Rattle.std.proofs.lemmas.Option.{same_Some}
use Rattle.std.specs.Prelude.{IfOk, IfSome, Result, slice_get}
use Rattle.ct_values.specs.declared.memory.NoMemory.{NoMemory}
use Rattle.ct_call.specs.Rules.{Rules}
use Rattle.ct_script.specs.Cues.{IsScripted, items_in}
use Rattle.ct_script.specs.declared.plan.Plan.{Plan}
use Rattle.ct_script.specs.declared.plan.PlanItem.{PlanItem}
use Rattle.ct_journal.specs.Order.{AreInOrder, entries_of, or_no_entries}
use Rattle.ct_journal.specs.declared.journal.Journal.{Journal}
use Rattle.ct_journal.specs.declared.journal.JournalEntry.{JournalEntry}
use Rattle.ct_journal.proofs.Ends.{no_entries_past}
use Rattle.ct_law_journal_schedule.specs.Laws.{AreRuns}
use Rattle.ct_script.specs.Sound.{IsSound, script_of}
use Rattle.ct_troupe_threads.specs.Threaded.{HasServed, served}
use Rattle.ct_troupe.specs.Played.{ArePlayed}
use Rattle.ct_script.proofs.Soundness.{no_script_past}
use Rattle.ct_law_journal_schedule.proofs.Scheduled.{has_entries}

module _ {X : Type 0} where
  -- what each node leaves is so, where it served to its end
  abbrev pub AllServed : (ℕ → X → Type 0) → List (Result (Option X) NoMemory) → Type 0
  AllServed P all = (n : ℕ) (r : Result (Option X) NoMemory) → slice_get all n ≡ Some r → IfOk r (λ o. IfSome o (P n))

  got_served : (xs : List X) (n : ℕ) (x : X) → slice_get xs n ≡ Some x → slice_get (map served xs) n ≡ Some (served x)
  got_served [] n x e = absurd (cc)
  got_served (y ∷ ys) zero x e = ap (λ (z : X). Some (served z)) (same_Some y x e)
  got_served (y ∷ ys) (suc n) x e = got_served ys n x e

  pub each_served : (P : ℕ → X → Type 0) (all : List (Result (Option X) NoMemory)) (xs : List X) → AllServed P all → all ≡ map served xs → (n : ℕ) (x : X) → slice_get xs n ≡ Some x → P n x
  each_served P all xs h is n x e = h n (served x) (ap (λ (rs : List (Result (Option X) NoMemory)). slice_get rs n) is ∙ got_served xs n x e)

  pub count_served : (all : List (Result (Option X) NoMemory)) (xs : List X) → all ≡ map served xs → length all ≡ length xs
  count_served all xs is = ap (λ (rs : List (Result (Option X) NoMemory)). length rs) is ∙ length-map xs served

own_entries : (js : List Journal) (n : ℕ) (j : Journal) → slice_get js n ≡ Some j → entries_of js n ≡ j.entries
unfolding entries_of or_no_entries
own_entries js n j e = ap (λ (o : Option Journal). or_no_entries o) e

no_script : IsScripted [] []
unfolding items_in
no_script = record { rest = []; taken = refl; played = refl; held_up = inl refl }

scripted : (rules : Rules) (p : Plan) (js : List Journal) → IsSound p → length js ≡ p.config.nodes → ((n : ℕ) (j : Journal) → slice_get js n ≡ Some j → HasServed rules p n j) → (n : ℕ) → IsScripted (script_of p n) (entries_of js n)
scripted rules p js sound count each n = let b = sound.scripts in ⊎_elim
    (λ (l : n < length js). (
    let g = has_entries js n l in
    subst (λ (xs : List JournalEntry). IsScripted (script_of p n) xs) (sym (own_entries js n g.0 g.1)) (each n g.0 g.1).scripted))
    (λ (l : length js ≤ n).
    subst (λ (xs : List JournalEntry). IsScripted (script_of p n) xs) (sym (no_entries_past js n l))
    (subst (λ (script : List PlanItem). IsScripted script []) (sym (no_script_past p n (omega arith))) no_script))
    (cases_lt n (length js))

runs : (rules : Rules) (p : Plan) (js : List Journal) → length js ≡ p.config.nodes → ((n : ℕ) (j : Journal) → slice_get js n ≡ Some j → HasServed rules p n j) → AreRuns p.config rules js
runs rules p js count each = record { count = count; each = λ n j e. (each n j e).run }

pub each_played : (rules : Rules) (p : Plan) (js : List Journal) → IsSound p → length js ≡ p.config.nodes → ((n : ℕ) (j : Journal) → slice_get js n ≡ Some j → HasServed rules p n j) → AreInOrder js → ArePlayed rules p js
each_played rules p js sound count each order = record { runs = runs rules p js count each; scripted = scripted rules p js sound count each; in_order = order }

pub are_played : (rules : Rules) (p : Plan) (all : List (Result (Option Journal) NoMemory)) (js : List Journal) → IsSound p → length all ≡ p.config.nodes → AllServed (HasServed rules p) all → all ≡ map served js → AreInOrder js → ArePlayed rules p js
are_played rules p all js sound count h is order = each_played rules p js sound (sym (count_served all js is) ∙ count) (each_served (HasServed rules p) all js h is) order

pub few_journals : (p : Plan) (all : List (Result (Option Journal) NoMemory)) (js : List Journal) → p.config.nodes < 2 ^ 32 → length all ≡ p.config.nodes → all ≡ map served js → length js < 2 ^ 32
few_journals p all js few count is = let c = count_served all js is in omega arith
