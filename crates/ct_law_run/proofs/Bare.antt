-- What is told of records leaves every database without commits.
use Rattle.std.proofs.Common.{◌≡◌, ℕ, Bool, true, false, cond, List, [], ◌∷◌, Option, Some, ⊎_elim, refl, sym, ap, ◌∙◌, subst}
use Rattle.std.specs.Prelude.{not}
use Rattle.std.specs.List.{filter}
use Rattle.ct_values.specs.declared.client.Answer.{Answer}
use Rattle.ct_values.specs.declared.client.Answer.TheVariants as answer
use Rattle.ct_values.specs.declared.client.ClientOp.{ClientOp}
use Rattle.ct_values.specs.declared.client.ClientOp.TheVariants as op
use Rattle.ct_values.specs.declared.client.Why.TheVariants as why
use Rattle.ct_values.specs.declared.config.Config.{Config}
use Rattle.ct_values.specs.declared.config.DbKind.{DbKind}
use Rattle.ct_values.specs.declared.config.DbKind.TheVariants.{Persistent}
use Rattle.ct_frame.specs.declared.event.Note.{Note}
use Rattle.ct_frame.specs.declared.event.Note.TheVariants as note
use Rattle.ct_call.specs.Rules.{Rules}
use Rattle.ct_rules_node.specs.Node.{is_persistent, kind_at}
use Rattle.ct_rules_cluster.specs.Labels.{Label, Answered, Unasked, Begun, Noted, Ticket, Yielded, Stopped, Started, Pushed, Takeover, Taken}
use Rattle.ct_register.specs.Database
use Rattle.ct_register.specs.Legal.{AtRecord, AtDatabase, AcceptsAnswer, AcceptsNote, AcceptsLabel, AcceptsLabels}
use Rattle.ct_register.specs.Lines.{Lines}
use Rattle.ct_register.specs.Register
use Rattle.ct_register.proofs.Places.{at_all}
use Rattle.ct_promise.specs.Generation.{speaks_of_records, record_labels}

-- a database without commits, of which nobody has seen any
abbrev pub NoCommits : Database.Database → Type 0
NoCommits d = (d.commits ≡ []) × (d.acked ≡ 0) × ((n : ℕ) → d.seen n ≡ 0)

abbrev pub IsBare : Lines → Type 0
IsBare r = (g db : ℕ) → NoCommits (r.databases g db)

-- a persistent database is none of a label of records
not_persistent : (c : Config) (db : ℕ) → not (is_persistent (kind_at c db)) ≡ true → kind_at c db ≡ Some Persistent → ⊥
unfolding is_persistent
not_persistent c db speaks is = absurd (let e = sym speaks ∙ ap (λ (k : Option DbKind). not (is_persistent k)) is in cc)

answer_bare : (c : Config) (rules : Rules) (n : ℕ) (asked : ClientOp) (given : Answer) (r s : Lines) → speaks_of_records c (Answered n asked given) ≡ true → AcceptsAnswer c rules n asked given r s → IsBare r → IsBare s
unfolding speaks_of_records
answer_bare c rules n asked (answer.Refused (why.TooLong m)) r s speaks p b = subst IsBare (sym p.4) b
answer_bare c rules n asked (answer.Refused w) r s speaks p b = subst IsBare (sym p.1) b
answer_bare c rules n (op.Commit db writes) given r s speaks p b = absurd (not_persistent c db speaks p.2.1)
answer_bare c rules n (op.Read db key) (answer.Read v) r s speaks p b = ⊎_elim
    (λ (q : AtRecord c n db key (Register.Accepts rules n (op.Read db key) (answer.Read v)) r s). subst IsBare (sym q.4) b)
    (λ (q : AtDatabase c n db (Database.AcceptsRead n key v) r s). absurd (not_persistent c db speaks q.1)) p
answer_bare c rules n asked given r s speaks p b = subst IsBare (sym p.4) b

note_bare : (c : Config) (n : ℕ) (noted : Note) (r s : Lines) → AcceptsNote c n noted r s → IsBare r → IsBare s
note_bare c n (note.Vacuumed db key) r s p b = subst IsBare (sym p.4) b
note_bare c n (note.Ended db key) r s p b = subst IsBare (sym p.4) b
note_bare c n (note.Round g members v q) r s p b = subst IsBare (sym p.4) (at_all (λ (ds : ℕ → Database.Database). (db : ℕ) → NoCommits (ds db)) g _ r.databases (λ db. (refl, refl, λ m. refl)) b)
note_bare c n (note.Installed g) r s p b = subst IsBare (sym p.4)
    (at_all (λ (ds : ℕ → Database.Database). (db : ℕ) → NoCommits (ds db)) g _ r.databases (λ db. ((b g db).0, (b g db).1, at_all (λ (k : ℕ). k ≡ 0) n 0 (r.databases g db).seen refl (b g db).2)) b)
note_bare c n (note.Thawed g) r s p b = subst IsBare (sym p.3) b
note_bare c n (note.Released a) r s p b = subst IsBare (sym p.1) b
note_bare c n (note.Took a) r s p b = subst IsBare (sym p.3) b

label_bare : (c : Config) (rules : Rules) (label : Label) (r s : Lines) → speaks_of_records c label ≡ true → AcceptsLabel c rules r label s → IsBare r → IsBare s
unfolding speaks_of_records
label_bare c rules (Answered n asked given) r s speaks p b = answer_bare c rules n asked given r s speaks p b
label_bare c rules (Unasked call given) r s speaks p b = absurd p
label_bare c rules (Begun n db writes) r s speaks p b = absurd (cc)
label_bare c rules (Noted n noted) r s speaks p b = note_bare c n noted r s p b
label_bare c rules (Ticket g n members) r s speaks p b = subst IsBare (sym p.2) b
label_bare c rules (Yielded n) r s speaks p b = subst IsBare (sym p.1) b
label_bare c rules (Stopped n) r s speaks p b = subst IsBare (sym p) b
label_bare c rules (Started n) r s speaks p b = subst IsBare (sym p) b
label_bare c rules (Pushed g assigned) r s speaks p b = subst IsBare (sym p.3) b
label_bare c rules (Takeover n able) r s speaks p b = subst IsBare (sym p.3) b
label_bare c rules (Taken n g number assigned) r s speaks p b = subst IsBare (sym p.1.3) b

-- all that is told of records does
pub labels_bare : (c : Config) (rules : Rules) (labels : List Label) (r s : Lines) → AcceptsLabels c rules r (record_labels c labels) s → IsBare r → IsBare s
labels_bare c rules [] r s p b = subst IsBare (sym p) b
labels_bare c rules (label ∷ labels) r s p b = either (speaks_of_records c label) refl p (λ m q d. labels_bare c rules labels m s q d)
  where
    either : (t : Bool) → speaks_of_records c label ≡ t → AcceptsLabels c rules r (cond t (label ∷ filter (speaks_of_records c) labels) (filter (speaks_of_records c) labels)) s →
        ((m : Lines) → AcceptsLabels c rules m (record_labels c labels) s → IsBare m → IsBare s) → IsBare s
    either true e q rest = rest q.0 q.2 (label_bare c rules label r q.0 e q.1 b)
    either false e q rest = rest r q b
