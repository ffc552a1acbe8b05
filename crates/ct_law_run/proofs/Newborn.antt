-- The world of a record as its line is born: nobody has joined, each node has what it will install, and nothing was sent.
use Rattle.std.proofs.Common.{◌≡◌, ℕ, ◌≤◌, Bool, true, false, cond, List, [], length, Option, Some, None, refl, sym, ap, ◌∙◌, subst, arith}
use Rattle.std.specs.List.{list_all}
use Rattle.ct_frame.specs.Fields.{is_node}
use Rattle.ct_frame.specs.declared.frame.TableRow.{TableRow}
use Rattle.ct_rules.specs.State.{nothing_kept}
use Rattle.ct_rules.specs.declared.state.Wish.{Wish}
use Rattle.ct_rules_node.specs.Node.{is_among}
use Rattle.ct_rules_node.specs.Rounds.{row_master, or_nobody}
use Rattle.ct_register.specs.Register.{Register, reading, newborn}
use Rattle.ct_law_record.specs.World.{Scene, World, AreDrawn, SeesAtMost, born_state}
use Rattle.ct_law_record.proofs.Invariant.{Ghost}
use Rattle.ct_law_record.proofs.Worlds.{WorldInv}
use Rattle.ct_law_record.proofs.Law.{bare_ghost, bare_holds}
use Rattle.ct_law_record.proofs.Births.{born_ghost, born_holds}
use Rattle.ct_law_run.proofs.Ages.{begun_state, begun_view}

abbrev pub begun_world : Scene → Option TableRow → (ℕ → ℕ) → (ℕ → Option Wish) → World
begun_world s row number wish = record { nodes = λ n. begun_view s row n (wish n) (number n); joined = λ _. false; mail = [] }

unfoldable pub begun_ghost : Scene → Option TableRow → List (List ℕ) → Ghost
begun_ghost s None vs = bare_ghost s.lmaster
begun_ghost s (Some row) vs = born_ghost row (row_master row) vs (λ _. 0)

none_seen : (s : Scene) (count : ℕ) → SeesAtMost s (λ _. 0) count
none_seen s count n = omega arith

pub begun_holds : (s : Scene) (row : Option TableRow) (vs : List (List ℕ)) (number : ℕ → ℕ) (wish : ℕ → Option Wish) → list_all is_node s.members ≡ true → is_among s.lmaster s.members ≡ true →
    ((x : TableRow) → row ≡ Some x → (m : ℕ) × (x.master ≡ Some m) × (is_among m s.members ≡ true)) → (row ≡ None → vs ≡ []) → ((x : TableRow) → row ≡ Some x → x.value ≡ reading vs) → AreDrawn number wish →
    WorldInv s (begun_world s row number wish) (newborn vs) (begun_ghost s row vs)
unfolding begun_state begun_ghost born_state row_master or_nobody
begun_holds s None vs number wish real home mastered none value drawn =
    subst (λ (l : List (List ℕ)). WorldInv s (begun_world s None number wish) (newborn l) (bare_ghost s.lmaster)) (sym (none refl)) (bare_holds s (λ _. false) number wish drawn)
begun_holds s (Some row) vs number wish real home mastered none value drawn =
    let m = mastered row refl in
    born_holds s row (λ _. false) vs (λ _. 0) number wish real home (subst (λ (j : ℕ). is_among j s.members ≡ true) (sym (ap or_nobody m.1)) m.2) (value row refl) (none_seen s (length vs)) drawn
