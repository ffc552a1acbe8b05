-- Who holds an address, said without registers: one node of a generation at most, and only where what was told assigns it.
use Rattle.std.proofs.Common.{◌≡◌, ◌≢◌, ℕ, List, [], ◌∷◌, Option, None, Some, refl, sym, ap, ◌∙◌, subst, inl, inr, ⊎_elim}
use Rattle.std.specs.Prelude.{◌⊎◌, not}
use Rattle.std.proofs.lemmas.Bool.{cases_eq}
use Rattle.ct_values.specs.declared.client.Answer.{Answer}
use Rattle.ct_values.specs.declared.client.Answer.TheVariants as answer
use Rattle.ct_values.specs.declared.client.ClientOp.{ClientOp}
use Rattle.ct_values.specs.declared.client.ClientOp.TheVariants as op
use Rattle.ct_values.specs.declared.client.Why.TheVariants as why
use Rattle.ct_values.specs.declared.config.Config.{Config}
use Rattle.ct_frame.specs.declared.event.Note.{Note}
use Rattle.ct_frame.specs.declared.event.Note.TheVariants as note
use Rattle.ct_frame.specs.declared.frame.Assigned.{Assigned}
use Rattle.ct_call.specs.Rules.{Rules}
use Rattle.ct_merge.proofs.Among.{In, contains_of, in_filter}
use Rattle.ct_rules_cluster.specs.Cluster.{opening}
use Rattle.ct_rules_cluster.specs.Labels.{Label, Answered, Unasked, Begun, Noted, Ticket, Yielded, Stopped, Started, Pushed, Takeover, Taken}
use Rattle.ct_rules_cluster.specs.Traces.{ran}
use Rattle.ct_register.proofs.Places.{at_same, at_other}
use Rattle.ct_register.specs.Database
use Rattle.ct_register.specs.Legal.{AtRecord, AtDatabase, AcceptsAnswer, AcceptsNote, AcceptsLabel, AcceptsLabels}
use Rattle.ct_register.specs.Lines
use Rattle.ct_register.specs.Placing.{Placing, given_placement}
use Rattle.ct_register.specs.Register
use Rattle.ct_register.specs.Words.{at}
use Rattle.ct_law_promise.specs.Addresses.{speaks_of_databases, other_labels}
use Rattle.ct_law_promise.specs.Holders.{OneHolder, AssignsSo, HeldWhereAssigned}
use Rattle.ct_law_promise.proofs.Law.{promise_of_addresses}

pub one_holder : OneHolder
one_holder config rules steps is = (let p = promise_of_addresses config rules steps is in
    λ n m a up on some same one other. p.4.addresses n m a up on (λ z. some (p.3.generations n up ∙ z)) (sym (p.3.generations m on) ∙ same ∙ p.3.generations n up) one other)

-- ---- what is placed was told

abbrev Told : List Label → ℕ → List Assigned → Type 0
Told all g xs = (label : Label) × In label all × AssignsSo g xs label

-- what a line's push or its last take assigns
abbrev IsPlaced : Placing → List Assigned → Type 0
IsPlaced p xs = (p.pushed ≡ Some xs) ⊎ (p.last ≡ Some xs)

abbrev AllTold : List Label → (ℕ → Placing) → Type 0
AllTold all placing = (g : ℕ) (xs : List Assigned) → IsPlaced (placing g) xs → Told all g xs

module _ (config : Config) (rules : Rules) (all : List Label) where
  still_told : (r s : Lines.Lines) → s.placing ≡ r.placing → AllTold all r.placing → AllTold all s.placing
  still_told r s e old = subst (AllTold all) (sym e) old

  -- ---- labels that place nothing

  answer_places : (n : ℕ) (asked : ClientOp) (given : Answer) (r s : Lines.Lines) → AcceptsAnswer config rules n asked given r s → s.placing ≡ r.placing
  answer_places n asked (answer.Refused (why.TooLong m)) r s h = ap (λ (l : Lines.Lines). l.placing) h.4
  answer_places n asked (answer.Refused w) r s h = ap (λ (l : Lines.Lines). l.placing) h.1
  answer_places n (op.Commit db writes) given r s h = ap (λ (l : Lines.Lines). l.placing) h.2.4
  answer_places n (op.Read db key) (answer.Read v) r s h = ⊎_elim
      (λ (q : AtRecord config n db key (Register.Accepts rules n (op.Read db key) (answer.Read v)) r s). ap (λ (l : Lines.Lines). l.placing) q.4)
      (λ (q : AtDatabase config n db (Database.AcceptsRead n key v) r s). ap (λ (l : Lines.Lines). l.placing) q.4) h
  answer_places n asked given r s h = ap (λ (l : Lines.Lines). l.placing) h.4

  note_places : (n : ℕ) (noted : Note) (r s : Lines.Lines) → AcceptsNote config n noted r s → s.placing ≡ r.placing
  note_places n (note.Vacuumed db key) r s h = ap (λ (l : Lines.Lines). l.placing) h.4
  note_places n (note.Ended db key) r s h = ap (λ (l : Lines.Lines). l.placing) h.4
  note_places n (note.Round g members v q) r s h = ap (λ (l : Lines.Lines). l.placing) h.4
  note_places n (note.Installed g) r s h = ap (λ (l : Lines.Lines). l.placing) h.4
  note_places n (note.Thawed g) r s h = ap (λ (l : Lines.Lines). l.placing) h.3
  note_places n (note.Released a) r s h = ap (λ (l : Lines.Lines). l.placing) h.1
  note_places n (note.Took a) r s h = ap (λ (l : Lines.Lines). l.placing) h.3

  -- ---- every label

  -- another placing of one line
  placed_told : (g : ℕ) (p : Placing) (r : Lines.Lines) → AllTold all r.placing → ((xs : List Assigned) → IsPlaced p xs → Told all g xs) → AllTold all (at g p r.placing)
  placed_told g p r old new h xs e = ⊎_elim
      (λ (same : h ≡ g). subst (λ (j : ℕ). Told all j xs) (sym same) (new xs (subst (λ (q : Placing). IsPlaced q xs) (at_same g h p r.placing same) e)))
      (λ (ne : h ≢ g). old h xs (subst (λ (q : Placing). IsPlaced q xs) (at_other g h p r.placing ne) e)) (cases_eq h g)

  push_told : (g : ℕ) (ys : List Assigned) (r : Lines.Lines) → In (Pushed g ys) all → AllTold all r.placing → (xs : List Assigned) → IsPlaced (record (r.placing g) { pushed = Some ys }) xs → Told all g xs
  unfolding AssignsSo
  push_told g ys r there old xs (inl e) = (Pushed g ys, there, (refl, (let same : ys ≡ xs = cc in same)))
  push_told g ys r there old xs (inr e) = old g xs (inr e)

  take_told : (n g number : ℕ) (ys : List Assigned) (r : Lines.Lines) → r.line n ≡ g → In (Taken n g number ys) all → AllTold all r.placing → (xs : List Assigned) →
      IsPlaced (record (r.placing (r.line n)) { taken = at number (Some ys) (r.placing (r.line n)).taken; last = Some ys }) xs → Told all (r.line n) xs
  unfolding AssignsSo
  take_told n g number ys r line there old xs (inl e) = old (r.line n) xs (inl e)
  take_told n g number ys r line there old xs (inr e) = (Taken n g number ys, there, (sym line, (let same : ys ≡ xs = cc in same)))

  label_told : (label : Label) (r s : Lines.Lines) → In label all → AcceptsLabel config rules r label s → AllTold all r.placing → AllTold all s.placing
  label_told (Answered n asked given) r s there h old = still_told r s (answer_places n asked given r s h) old
  label_told (Unasked call given) r s there h old = absurd h
  label_told (Begun n db writes) r s there h old = still_told r s (ap (λ (l : Lines.Lines). l.placing) h.4) old
  label_told (Noted n noted) r s there h old = still_told r s (note_places n noted r s h) old
  label_told (Ticket g n members) r s there h old = still_told r s (ap (λ (l : Lines.Lines). l.placing) h.2) old
  label_told (Yielded n) r s there h old = still_told r s (ap (λ (l : Lines.Lines). l.placing) h.1) old
  label_told (Stopped n) r s there h old = still_told r s (ap (λ (l : Lines.Lines). l.placing) h) old
  label_told (Started n) r s there h old = still_told r s (ap (λ (l : Lines.Lines). l.placing) h) old
  label_told (Pushed g ys) r s there h old = subst (λ (l : Lines.Lines). AllTold all l.placing) (sym h.3)
      (placed_told g h.1 r old (λ xs e. push_told g ys r there old xs (subst (λ (q : Placing). IsPlaced q xs) h.2.1 e)))
  label_told (Takeover n able) r s there h old = subst (λ (l : Lines.Lines). AllTold all l.placing) (sym h.3)
      (placed_told (r.line n) h.1 r old (λ xs e. old (r.line n) xs (subst (λ (q : Placing). IsPlaced q xs) h.2.2 e)))
  label_told (Taken n g number ys) r s there h old = subst (λ (l : Lines.Lines). AllTold all l.placing) (sym h.1.3)
      (placed_told (r.line n) h.1.1 r old (λ xs e. take_told n g number ys r h.0 there old xs (subst (λ (q : Placing). IsPlaced q xs) h.1.2.3 e)))

  labels_told : (labels : List Label) (r s : Lines.Lines) → ((label : Label) → In label labels → In label all) → AcceptsLabels config rules r labels s → AllTold all r.placing → AllTold all s.placing
  labels_told [] r s within h old = still_told r s (ap (λ (l : Lines.Lines). l.placing) h) old
  labels_told (label ∷ labels) r s within h old = labels_told labels h.0 s (λ l i. within l (inr i)) h.2 (label_told label r h.0 (within label (inl refl)) h.1 old)

-- ---- so what a node holds was told

given_is_placed : (p : Placing) (xs : List Assigned) (last : Option (List Assigned)) → p.last ≡ last → given_placement p.pushed last ≡ Some xs → IsPlaced p xs
unfolding given_placement
given_is_placed p xs None e given = inl given
given_is_placed p xs (Some ys) e given = inr (e ∙ given)

pub held_where_assigned : HeldWhereAssigned
held_where_assigned config rules steps is =
    let run = ran config rules (opening config) [] steps in
    let p = promise_of_addresses config rules steps is in
    let told : AllTold (other_labels config run.trace) p.0.placing
    = labels_told config rules (other_labels config run.trace) (other_labels config run.trace) (Lines.opening config) p.0 (λ label i. i) p.1
    (λ g xs e. ⊎_elim (λ (k : None ≡ Some xs). absurd (cc)) (λ (k : None ≡ Some xs). absurd (cc)) e) in
    λ n a up has.
    let k = p.4.assigned n a up has in
    let t = told (p.0.line n) k.0 (given_is_placed (p.0.placing (p.0.line n)) k.0 (p.0.placing (p.0.line n)).last refl k.1) in (
      k.0,
      record {
        label = t.0;
        told = contains_of run.trace t.0 (in_filter (λ (label : Label). not (speaks_of_databases config label)) run.trace t.0 t.1).0;
        assigns = subst (λ (g : ℕ). AssignsSo g k.0 t.0) (sym (p.3.generations n up)) t.2;
      },
      k.2,
    )
