-- How a database and its commit are stored as values.
use Rattle.std.specs.Prelude.{ℕ, List, Option, refl}
use Rattle.std.specs.Coded.{Coded, code_by, coded×, coded_ℕ, coded_list, coded_option}
use Rattle.ct_values.specs.declared.client.Pair.{Pair}
use Rattle.ct_values.specs.contracts.client.Pair as pair
use Rattle.ct_store.specs.Map.{Pairs}
use Rattle.ct_persist.specs.Persisted.{Persisted}
use Rattle.ct_persist.specs.Commits.{Pending}
use Rattle.ct_persist.specs.Code.{persisted_code, pending_code}
use Rattle.ct_rules.specs.declared.state.RecState.{RecState}
use Rattle.ct_rules.specs.contracts.state.RecState as rec
use Rattle.ct_rules_node.specs.Node.{Committing, Database}

abbrev pub committing_code : Coded Committing
committing_code = code_by (ℕ × (List Pair × Pending)) (coded× coded_ℕ (coded× (coded_list pair.the_row.coded) pending_code)) (λ c. (c.call, (c.writes, c.pending))) (λ p. record { call = p.0; writes = p.1.0; pending = p.1.1 }) (λ _. refl)

abbrev pub records_code : Coded (Pairs RecState)
records_code = coded_list (coded× (coded_list coded_ℕ) rec.the_row.coded)

abbrev pub database_code : Coded Database
database_code = code_by (Pairs RecState × (ℕ × (Persisted × Option Committing))) (coded× records_code (coded× coded_ℕ (coded× persisted_code (coded_option committing_code)))) (λ d. (d.records, (d.floor, (d.store, d.commit)))) (λ p. record { records = p.0; floor = p.1.0; store = p.1.1.0; commit = p.1.1.1 }) (λ _. refl)
