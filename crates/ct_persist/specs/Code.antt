-- How a database and a commit are stored as values.
use Rattle.std.specs.Prelude.{ℕ, List, refl}
use Rattle.std.specs.Coded.{Coded, code_by, coded×, coded_ℕ, coded_list}
use Rattle.ct_store.specs.Map.{Pairs}
use Rattle.ct_persist.specs.Persisted.{Persisted}
use Rattle.ct_persist.specs.Commits.{Pending}

abbrev pub persisted_code : Coded Persisted
persisted_code = code_by (ℕ × Pairs (List ℕ)) (coded× coded_ℕ (coded_list (coded× (coded_list coded_ℕ) (coded_list coded_ℕ)))) (λ p. (p.seq, p.pairs)) (λ p. record { seq = p.0; pairs = p.1 }) (λ _. refl)

abbrev pub pending_code : Coded Pending
pending_code = code_by (ℕ × List ℕ) (coded× coded_ℕ (coded_list coded_ℕ)) (λ c. (c.seq, c.missing)) (λ p. record { seq = p.0; missing = p.1 }) (λ _. refl)
