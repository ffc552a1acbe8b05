-- The law of one generation, from the opening and from one that began with rows, and the promises that follow from it.
use Rattle.std.proofs.Common.{◌≡◌, ℕ, true, cond, List, [], None, refl, sym, ap, arith, subst}
use Rattle.ct_values.specs.declared.client.ClientOp.TheVariants as op
use Rattle.ct_values.specs.declared.config.Config.{Config}
use Rattle.ct_call.specs.Rules.{Rules}
use Rattle.ct_rules_node.specs.Node.{master_of, is_among}
use Rattle.ct_rules_node.specs.Rounds.{row_master, or_nobody}
use Rattle.ct_rules_cluster.specs.Cluster.{Cluster, everyone, opening, pending}
use Rattle.ct_register.specs.Register.{newborn}
use Rattle.ct_register.specs.Lines
use Rattle.ct_promise.specs.Promises.{IsConfig}
use Rattle.ct_promise.specs.Born.{Rows, IsBornWith, log_of, BornRegisters, PromiseFromRows}
use Rattle.ct_promise.specs.Marked.{LineMarks}
use Rattle.ct_promise.specs.Kept.{RunsFrom, LawOfOneGeneration, LawFromRows}
use Rattle.ct_promise.specs.Generation.{PromiseOfOneGeneration}
use Rattle.ct_promise.proofs.Opened.{everyone_is}
use Rattle.ct_promise.proofs.Follows.{one_generation_follows, rows_follow}
use Rattle.ct_law_record.specs.World.{World}
use Rattle.ct_law_record.proofs.Invariant.{Ghost}
use Rattle.ct_law_record.proofs.Worlds.{WorldInv}
use Rattle.ct_law_record.proofs.Law.{bare_ghost, bare_holds}
use Rattle.ct_law_record.proofs.Births.{born_ghost, born_holds}
use Rattle.ct_law_record.proofs.MarkedLaw.{bare_marks}
use Rattle.ct_law_generation.specs.Shown.{scene, project}
use Rattle.ct_law_generation.proofs.Pending.{Callers}
use Rattle.ct_law_generation.proofs.Clusters.{all_known}
use Rattle.ct_law_generation.proofs.Configured.{all_real, all_small}
use Rattle.ct_law_generation.proofs.Opening.{first_era, first_is_era, below_everyone, opened_world, opened_stays}
use Rattle.ct_law_generation.proofs.BornWorlds.{era_from}
use Rattle.ct_law_generation.proofs.BornStarts.{born_real, each_begins, born_line, born_installed, born_holder}
use Rattle.ct_law_generation.proofs.BornCalls.{callers_in}
use Rattle.ct_law_generation.proofs.BornStays.{born_stays}
use Rattle.ct_law_generation.proofs.CallsRun.{opened_calls}
use Rattle.ct_law_generation.proofs.Born.{born_calls}
use Rattle.ct_law_generation.proofs.Going.{Ghosts, marks_of_all, Followed}
use Rattle.ct_law_generation.proofs.Entries.{opening_home, born_home}
use Rattle.ct_law_generation.proofs.Running.{IsGeneration, Lives, restart, runs_from}

-- ---- from the opening

first_is_generation : (c : Config) → IsConfig c → IsGeneration c (first_era c)
first_is_generation c is = record { alone = refl; real = all_real c is; ascend = (first_is_era c (all_real c is)).ascend; positive = omega arith; small = all_small c is }

-- nothing is known of any call
no_callers : Callers
no_callers call = (0, op.Unlock 0 [])

-- the ghosts of the opening
abbrev opened_ghosts : Config → Ghosts
opened_ghosts c db key = bare_ghost (master_of (everyone c) key)

opened_followed : (c : Config) (rules : Rules) → Followed c (first_era c) rules (opening c) (Lines.opening c) (opened_ghosts c)
opened_followed c rules db key = (let s = scene c (first_era c) rules db key in
    subst (λ (x : World). WorldInv s x (newborn []) (bare_ghost s.lmaster)) (opened_world c db key) (bare_holds s (λ _. true) (λ _. 1) (λ _. None) (record { some = λ n. omega arith; above = λ n w e. absurd (cc) })))

opened_lives : (c : Config) (rules : Rules) → Lives c (first_era c) rules (opening c) (Lines.opening c) (opened_ghosts c)
unfolding opening
opened_lives c rules = record {
  who = no_callers;
  stays = restart c (first_era c) rules no_callers (opening c) (λ db key. project 1 db key (opening c)) (opened_stays c rules no_callers);
  line = record { born = refl; named = everyone_is c; inside = λ n among. ap (λ b. cond b 1 0) (below_everyone c n among); ready = λ cold. absurd (cc); holder = refl };
  home = opening_home c (λ n. (all_known c (first_era c) rules no_callers (opening c) (opened_stays c rules no_callers) n).order);
  followed = opened_followed c rules;
}

pub law_of_one_generation : LawOfOneGeneration
law_of_one_generation config rules steps is all =
    subst (λ (marks : LineMarks). RunsFrom config rules 1 (opening config) [] (Lines.opening config) marks steps) (λ i db key. bare_marks (master_of (everyone config) key) i)
    (runs_from config (first_era config) rules (opening config) [] (Lines.opening config) (opened_ghosts config) steps (first_is_generation config is) all (opened_lives config rules) (opened_calls config))

-- ---- from a generation that began with rows

born_is_generation : (config : Config) (g : ℕ) (members : List ℕ) (row : Rows) (w : Cluster) → IsConfig config → IsBornWith config g members row w → IsGeneration config (era_from g members w)
born_is_generation config g members row w is h = record { alone = refl; real = born_real config g members row w is h; ascend = h.ascend; positive = h.real; small = all_small config is }

-- the world of each record is in order with its register and some ghost
born_ghosts : (config : Config) (g : ℕ) (members : List ℕ) (rules : Rules) (row : Rows) (w : Cluster) (r : Lines.Lines) → IsConfig config → IsBornWith config g members row w → BornRegisters config w g members row r → (db : ℕ) (key : List ℕ) →
    (ghost : Ghost) × WorldInv (scene config (era_from g members w) rules db key) (project g db key w) (r.records g db key) ghost
unfolding row_master or_nobody
born_ghosts config g members rules row w r is h b = each_begins (λ s x q. (ghost : Ghost) × WorldInv s x q ghost) config (era_from g members w) rules row w r is h b
    (λ s x master vs seen number wish k. (born_ghost x (row_master x) vs seen, born_holds s x (λ _. true) vs seen number wish k.real k.lmaster (subst (λ m. is_among m s.members ≡ true) (sym (ap or_nobody k.named)) k.member) k.value k.sees k.drawn))
    (λ s number wish real drawn. (bare_ghost s.lmaster, bare_holds s (λ _. true) number wish drawn))

born_lives : (config : Config) (g : ℕ) (members : List ℕ) (rules : Rules) (row : Rows) (w : Cluster) (r : Lines.Lines) (is : IsConfig config) (h : IsBornWith config g members row w) (b : BornRegisters config w g members row r) →
    Lives config (era_from g members w) rules w r (λ db key. (born_ghosts config g members rules row w r is h b db key).0)
born_lives config g members rules row w r is h b = record {
  who = callers_in w;
  stays = born_stays config (era_from g members w) rules row w refl h;
  line = record { born = b.born; named = b.named; inside = born_line config w g members row r b; ready = λ _. born_installed config w g members row r b; holder = born_holder config w g members row r b };
  home = born_home config g members row w h;
  followed = λ db key. (born_ghosts config g members rules row w r is h b db key).1;
}

pub law_from_rows : LawFromRows
law_from_rows config rules g members row w r is h b =
    let ghosts : Ghosts = λ db key. (born_ghosts config g members rules row w r is h b db key).0 in
    (marks_of_all ghosts, λ steps all. runs_from config (era_from g members w) rules w (log_of (pending w)) r ghosts steps (born_is_generation config g members row w is h) all (born_lives config g members rules row w r is h b) (born_calls config g members row w h))

-- ---- the promises

pub promise_of_one_generation : PromiseOfOneGeneration
promise_of_one_generation = one_generation_follows law_of_one_generation

pub promise_from_rows : PromiseFromRows
promise_from_rows = rows_follow law_from_rows
