-- How a call that waits is stored as a value.
use Rattle.std.specs.Prelude.{ℕ, List, refl}
use Rattle.std.specs.Coded.{Coded, code_by, coded×, coded_ℕ, coded_list}
use Rattle.ct_rules_node.specs.Rounds.{Called}

abbrev pub called_code : Coded Called
called_code = code_by (ℕ × (ℕ × List ℕ)) (coded× coded_ℕ (coded× coded_ℕ (coded_list coded_ℕ))) (λ c. (c.call, (c.db, c.key))) (λ p. record { call = p.0; db = p.1.0; key = p.1.1 }) (λ _. refl)
