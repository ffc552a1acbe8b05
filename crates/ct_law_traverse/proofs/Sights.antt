-- What the rows of a member tell of its records, at the moment at which it answers.
use Rattle.std.proofs.Common.{◌≡◌, ◌≢◌, ℕ, ◌+◌, ◌≤◌, true, false, List, [], Option, None, Some, refl, sym, ap, ◌∙◌, subst, inl, inr, ⊎_elim}
use Rattle.std.specs.Prelude.{◌⊎◌}
use Rattle.ct_frame.specs.declared.frame.TableRow.{TableRow}
use Rattle.ct_frame.specs.declared.header.RecCopy.{RecCopy}
use Rattle.ct_store.specs.Map.{Ascends}
use Rattle.ct_rules.specs.declared.state.Entry.{Entry}
use Rattle.ct_rules_node.specs.Node.{db_at, is_present_in, master_of, state_at}
use Rattle.ct_rules_node.specs.Rounds.{row_of, rows_of}
use Rattle.ct_rules_cluster.specs.Cluster.{Cluster, node_at}
use Rattle.ct_register.specs.Lines.{Lines}
use Rattle.ct_register.specs.Marks.{Site, Marks, IsCopyAt, IsEntryAt}
use Rattle.ct_promise.specs.Marked.{AllMarks, MarksHoldIn}
use Rattle.ct_node_view.specs.Had.{entry_row, entries_of}
use Rattle.ct_law_readings.specs.Fresh.{Moment}
use Rattle.ct_law_readings.specs.Moments.{moment_of}
use Rattle.ct_traverse_parts.specs.Kept.{rows_for}
use Rattle.ct_traverse_parts.specs.Rows.{one_row}
use Rattle.ct_traverse_parts.specs.declared.line.Pass.TheVariants.{Copies, Entries}
use Rattle.ct_traverse_parts.proofs.Exact.{rows_are_exact}

-- a node that is present has this copy of a record at this moment, or none
pub record SawCopy (n : ℕ) (o : Option RecCopy) (m : Moment) : Type 0 where
  pub copy : (c : RecCopy) → o ≡ Some c → IsCopyAt m.marks.marks m.versions c.header.rsn c.value
  pub found : (z : Site) → m.marks.site ≡ Some z → z.holder ≡ n → (m.marks.low ≤ z.least) ⊎ ((c : RecCopy) × (o ≡ Some c) × (c.header.rsn + 1 ≡ m.marks.low))

-- it has this entry, or none; its line's master of the key is given
pub record SawEntry (n master : ℕ) (o : Option Entry) (m : Moment) : Type 0 where
  pub entry : (e : Entry) → o ≡ Some e → IsEntryAt m.marks.marks m.versions e.least e.value
  pub site : (e : Entry) → o ≡ Some e → m.marks.site ≡ Some (record { holder = e.holder; least = e.least })
  pub alone : (e : Entry) → o ≡ Some e → n ≡ master
  pub none : o ≡ None → n ≡ master → m.marks.marks ≡ []

-- of each key, these rows are those of its copies at this moment
abbrev pub CopySight : (g db n : ℕ) → List TableRow → Lines → AllMarks → Type 0
CopySight g db n rows r marks = (key : List ℕ) → (o : Option RecCopy) × (rows_for key Copies n rows ≡ one_row Copies n (row_of n db key o)) × SawCopy n o (moment_of r marks g db key)

-- or those of its entries
abbrev pub EntrySight : (g db n : ℕ) → List ℕ → List TableRow → Lines → AllMarks → Type 0
EntrySight g db n members rows r marks = (key : List ℕ) → (o : Option Entry) × (rows_for key Entries n rows ≡ one_row Entries n (entry_row db key o)) × SawEntry n (master_of members key) o (moment_of r marks g db key)

module _ (g : ℕ) (w : Cluster) (r : Lines) (marks : AllMarks) (hold : MarksHoldIn g w r (marks g)) (n db : ℕ) (here : is_present_in g (node_at n w) ≡ true) (order : Ascends (db_at db (node_at n w)).records) where
  saw_copy : (key : List ℕ) → SawCopy n (state_at db key (node_at n w)).copy (moment_of r marks g db key)
  saw_copy key = record {
    copy = λ c is. hold.copies n db key c here is;
    found = λ z is at. subst (λ (k : ℕ). (is_present_in g (node_at k w) ≡ true → (((marks g db key).low ≤ z.least) ⊎ ((c : RecCopy) × ((state_at db key (node_at k w)).copy ≡ Some c) × (c.header.rsn + 1 ≡ (marks g db key).low)))) →
        (((marks g db key).low ≤ z.least) ⊎ ((c : RecCopy) × ((state_at db key (node_at n w)).copy ≡ Some c) × (c.header.rsn + 1 ≡ (marks g db key).low)))) (sym at) (λ f. f here) (λ there. hold.found db key z is there);
  }

  pub sees_copies : CopySight g db n (rows_of n db (db_at db (node_at n w)).records) r marks
  unfolding state_at
  sees_copies key = ((state_at db key (node_at n w)).copy, (rows_are_exact n db key (db_at db (node_at n w)).records order).0, saw_copy key)

  saw_entry : (key : List ℕ) → SawEntry n (master_of (r.members g) key) (state_at db key (node_at n w)).entry (moment_of r marks g db key)
  saw_entry key = record {
    entry = λ e is. hold.entries n db key e here is;
    site = λ e is. hold.sites n db key e here is;
    alone = λ e is. hold.alone n db key e here is;
    none = λ is own. hold.empty n db key here own is;
  }

  pub sees_entries : EntrySight g db n (r.members g) (entries_of db (db_at db (node_at n w)).records) r marks
  unfolding state_at
  sees_entries key = ((state_at db key (node_at n w)).entry, (rows_are_exact n db key (db_at db (node_at n w)).records order).1, saw_entry key)
