-- How what is gathered is stored as a value.
use Rattle.std.specs.Prelude.{ℕ, List, refl}
use Rattle.std.specs.Coded.{Coded, code_by, coded×, coded_ℕ, coded_list}
use Rattle.ct_merge.specs.Gathered.{Gathered}
use Rattle.ct_merge.specs.declared.held.HeldRow.{HeldRow}
use Rattle.ct_merge.specs.declared.held.HeldPTable.{HeldPTable}
use Rattle.ct_merge.specs.declared.held.HeldAddress.{HeldAddress}
use Rattle.ct_merge.specs.contracts.held.HeldRow as row
use Rattle.ct_merge.specs.contracts.held.HeldPTable as ptable
use Rattle.ct_merge.specs.contracts.held.HeldAddress as address

abbrev pub gathered_code : Coded Gathered
gathered_code = code_by (List ℕ × (ℕ × (List HeldRow × (ℕ × (List HeldPTable × List HeldAddress)))))
    (coded× (coded_list coded_ℕ) (coded× coded_ℕ (coded× (coded_list row.the_row.coded) (coded× coded_ℕ (coded× (coded_list ptable.the_row.coded) (coded_list address.the_row.coded))))))
    (λ g. (g.nodes, (g.vbase, (g.rows, (g.pbase, (g.ptables, g.addresses))))))
    (λ p. record { nodes = p.0; vbase = p.1.0; rows = p.1.1.0; pbase = p.1.1.1.0; ptables = p.1.1.1.1.0; addresses = p.1.1.1.1.1 })
    (λ _. refl)
