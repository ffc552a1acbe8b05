-- How a vacuum is stored as a value.
use Rattle.std.specs.Prelude.{ℕ, List, refl}
use Rattle.std.specs.Coded.{Coded, code_by, coded×, coded_ℕ, coded_list}
use Rattle.ct_tracking.specs.Vacuum.{Vacuuming}
use Rattle.ct_tracking.specs.declared.vacuum.VacuumPhase.{VacuumPhase}
use Rattle.ct_tracking.specs.contracts.vacuum.VacuumPhase as phase

abbrev pub vacuuming_code : Coded Vacuuming
vacuuming_code = code_by (VacuumPhase × (ℕ × (List ℕ × List ℕ))) (coded× phase.the_row.coded (coded× coded_ℕ (coded× (coded_list coded_ℕ) (coded_list coded_ℕ)))) (λ v. (v.phase, (v.rsn, (v.missing, v.others)))) (λ p. record { phase = p.0; rsn = p.1.0; missing = p.1.1.0; others = p.1.1.1 }) (λ _. refl)
