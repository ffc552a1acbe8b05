-- What a node has of the records of a database, it has of those records that have something.
use Rattle.std.proofs.Common.{◌≡◌, ℕ, false, List, ◌++◌, Option, Some, None, refl, true≢false}
use Rattle.std.specs.Prelude.{is_some}
use Rattle.ct_frame.specs.declared.frame.TableRow.{TableRow}
use Rattle.ct_frame.specs.declared.header.RecCopy.{RecCopy}
use Rattle.ct_rules.specs.declared.state.Entry.{Entry}
use Rattle.ct_rules.specs.declared.state.RecState.{RecState}
use Rattle.ct_rules.specs.declared.state.Wish.{Wish}
use Rattle.ct_rules_cluster.specs.Cluster.{wished, wished_in}
use Rattle.ct_rules_cluster.specs.declared.step.PendingCall.{PendingCall}
use Rattle.ct_rules_node.specs.Rounds.{Called, called_of, calls_of, row_of, rows_of, with_row}
use Rattle.ct_store.specs.Map.{Pairs}
use Rattle.ct_store.specs.Those.{those}
use Rattle.ct_store.proofs.Those.{over_those}
use Rattle.ct_node_view.specs.Had.{copies_of, entries_of, entry_row, with_copy}

no_copy : (key : List ℕ) (o : Option RecCopy) (copies : List (List ℕ × RecCopy)) → is_some o ≡ false → with_copy key o copies ≡ copies
no_copy key None copies n = refl
no_copy key (Some c) copies n = absurd (true≢false n)

-- the copies are those of the records that have one
pub copies_those : (m : Pairs RecState) → copies_of (those (λ s. is_some s.copy) m) ≡ copies_of m
copies_those m = over_those (λ s. is_some s.copy) copies_of (λ e z. with_copy e.0 e.1.copy z) (λ e m. refl) (λ e z n. no_copy e.0 e.1.copy z n) m

no_entry : (db : ℕ) (key : List ℕ) (o : Option Entry) (rows : List TableRow) → is_some o ≡ false → with_row (entry_row db key o) rows ≡ rows
unfolding with_row
no_entry db key None rows n = refl
no_entry db key (Some e) rows n = absurd (true≢false n)

-- the rows of entries are those of the records that have one
pub entries_those : (db : ℕ) (m : Pairs RecState) → entries_of db (those (λ s. is_some s.entry) m) ≡ entries_of db m
entries_those db m = over_those (λ s. is_some s.entry) (entries_of db) (λ e z. with_row (entry_row db e.0 e.1.entry) z) (λ e m. refl) (λ e z n. no_entry db e.0 e.1.entry z n) m

no_row : (me db : ℕ) (key : List ℕ) (o : Option RecCopy) (rows : List TableRow) → is_some o ≡ false → with_row (row_of me db key o) rows ≡ rows
unfolding with_row row_of
no_row me db key None rows n = refl
no_row me db key (Some c) rows n = absurd (true≢false n)

-- the rows of copies are those of the records that have one
pub rows_those : (me db : ℕ) (m : Pairs RecState) → rows_of me db (those (λ s. is_some s.copy) m) ≡ rows_of me db m
unfolding rows_of
rows_those me db m = over_those (λ s. is_some s.copy) (rows_of me db) (λ e z. with_row (row_of me db e.0 e.1.copy) z) (λ e m. refl) (λ e z n. no_row me db e.0 e.1.copy z n) m

no_call : (db : ℕ) (key : List ℕ) (o : Option Wish) (calls : List Called) → is_some o ≡ false → called_of db key o ++ calls ≡ calls
unfolding called_of
no_call db key None calls n = refl
no_call db key (Some w) calls n = absurd (true≢false n)

-- the calls that wait are those of the records that have a wish
pub calls_those : (db : ℕ) (m : Pairs RecState) → calls_of db (those (λ s. is_some s.wish) m) ≡ calls_of db m
unfolding calls_of
calls_those db m = over_those (λ s. is_some s.wish) (calls_of db) (λ e z. called_of db e.0 e.1.wish ++ z) (λ e m. refl) (λ e z n. no_call db e.0 e.1.wish z n) m

no_wish : (node : ℕ) (o : Option Wish) (calls : List PendingCall) → is_some o ≡ false → wished node o ++ calls ≡ calls
unfolding wished
no_wish node None calls n = refl
no_wish node (Some w) calls n = absurd (true≢false n)

-- the same by the node that they wait at
pub wished_those : (node : ℕ) (m : Pairs RecState) → wished_in node (those (λ s. is_some s.wish) m) ≡ wished_in node m
unfolding wished_in
wished_those node m = over_those (λ s. is_some s.wish) (wished_in node) (λ e z. wished node e.1.wish ++ z) (λ e m. refl) (λ e z n. no_wish node e.1.wish z n) m
