-- How nodes that are awaited and a tracking are stored as values.
use Rattle.std.specs.Prelude.{ℕ, List, Option, refl}
use Rattle.std.specs.Coded.{Coded, code_by, coded×, coded_ℕ, coded_list, coded_option}
use Rattle.ct_tracking.specs.Awaited.{Awaited}
use Rattle.ct_tracking.specs.Tracked.{Tracked, Revocation}

abbrev pub awaited_code : Coded Awaited
awaited_code = code_by (List ℕ × List ℕ) (coded× (coded_list coded_ℕ) (coded_list coded_ℕ)) (λ a. (a.asked, a.missing)) (λ p. record { asked = p.0; missing = p.1 }) (λ _. refl)

abbrev pub revocation_code : Coded Revocation
revocation_code = code_by (ℕ × List ℕ) (coded× coded_ℕ (coded_list coded_ℕ)) (λ r. (r.rsn, r.missing)) (λ p. record { rsn = p.0; missing = p.1 }) (λ _. refl)

abbrev pub tracked_code : Coded Tracked
tracked_code = code_by (List ℕ × Option Revocation) (coded× (coded_list coded_ℕ) (coded_option revocation_code)) (λ t. (t.tracked, t.revoking)) (λ p. record { tracked = p.0; revoking = p.1 }) (λ _. refl)
