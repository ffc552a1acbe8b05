-- Of answers and of addresses: each answer fits what was asked, no commit that began is refused, each take assigns what LCP2 makes, and
-- addresses are held as was told last.
use Rattle.std.proofs.Common.{◌≡◌, ◌≢◌, ℕ, Bool, true, false, cond, List, [], ◌∷◌, ◌++◌, Option, None, Some, refl, sym, ◌∙◌, ap, subst, ⊎_elim}
use Rattle.std.specs.Prelude.{nat_eq}
use Rattle.std.proofs.lemmas.Bool.{cases_eq, eq-eqb, ne_eqb}
use Rattle.ct_values.specs.declared.client.Answer.{Answer}
use Rattle.ct_values.specs.declared.client.Answer.TheVariants as answer
use Rattle.ct_values.specs.declared.client.ClientOp.{ClientOp}
use Rattle.ct_values.specs.declared.client.ClientOp.TheVariants as op
use Rattle.ct_values.specs.declared.client.Pair.{Pair}
use Rattle.ct_values.specs.declared.client.Why.{Why}
use Rattle.ct_values.specs.declared.client.Why.TheVariants as why
use Rattle.ct_values.specs.declared.config.Config.{Config}
use Rattle.ct_frame.specs.declared.event.Note.{Note}
use Rattle.ct_frame.specs.declared.event.Note.TheVariants as note
use Rattle.ct_frame.specs.declared.frame.Assigned.{Assigned}
use Rattle.ct_call.specs.Rules.{Rules}
use Rattle.ct_rules_cluster.specs.Cluster.{node_at, opening}
use Rattle.ct_rules_cluster.specs.Labels.{Label, Answered, Unasked, Begun, Noted, Ticket, Yielded, Stopped, Started, Pushed, Takeover, Taken}
use Rattle.ct_rules_cluster.specs.Traces.{ran}
use Rattle.ct_register.proofs.Places.{at_same, at_other}
use Rattle.ct_register.specs.Database.{AcceptsRead}
use Rattle.ct_register.specs.Legal.{AtRecord, AtDatabase, CommitWaits, AcceptsAnswer, AcceptsNote, AcceptsLabel, AcceptsLabels}
use Rattle.ct_register.specs.Lines
use Rattle.ct_register.specs.Lines.{Lines}
use Rattle.ct_register.specs.Placing.{Placing, given_placement}
use Rattle.ct_register.specs.Register as register
use Rattle.ct_register.specs.Words.{at}
use Rattle.ct_law_promise.proofs.Running.{promise}
use Rattle.ct_law_promise.proofs.Stays.{accepts_front}
use Rattle.ct_law_promise.specs.Phrases.{CommitsNotRefused, EachAnswerFits, EachTakeIsPlaced, last_told, HeldAsLastTold}

pub answers_fit : EachAnswerFits
answers_fit config rules steps is before after n asked given split =
    let p = promise config rules steps is in
    let k = accepts_front config rules before (Answered n asked given ∷ after) (Lines.opening config) p.0 (subst (λ labels. AcceptsLabels config rules (Lines.opening config) labels p.0) split p.1) in
    (k.0, k.2.0, k.1, k.2.1)

refused_so : (config : Config) (rules : Rules) (n db : ℕ) (writes : List Pair) (reason : Why) (r s : Lines) → AcceptsAnswer config rules n (op.Commit db writes) (answer.Refused reason) r s → CommitWaits config n db r → reason ≡ why.CommitPending
refused_so config rules n db writes (why.TooLong m) r s h waits = absurd h.3
refused_so config rules n db writes reason r s h waits = h.0 waits

pub commits_not_refused : CommitsNotRefused
commits_not_refused config rules steps is before after n db writes reason split =
    let k = answers_fit config rules steps is before after n (op.Commit db writes) (answer.Refused reason) split in
    (k.0, k.2, refused_so config rules n db writes reason k.0 k.1 k.3)

pub takes_placed : EachTakeIsPlaced
takes_placed config rules steps is before after n g number assigned split =
    let p = promise config rules steps is in
    let k = accepts_front config rules before (Taken n g number assigned ∷ after) (Lines.opening config) p.0 (subst (λ labels. AcceptsLabels config rules (Lines.opening config) labels p.0) split p.1) in
    let h = k.2.1 in
    let line : k.0.line n ≡ g = h.0 in
    (k.0, k.1, line, (h.1.2.0, ap (λ (l : ℕ). (k.0.placing l).runs number) (sym line) ∙ h.1.2.1, h.1.2.2))

-- ---- what was told last

-- what a line assigns
abbrev given_in : ℕ → Lines → Option (List Assigned)
given_in g r = given_placement (r.placing g).pushed (r.placing g).last

-- what is told last, from what these registers have
abbrev told_from : ℕ → Lines → List Label → Option (List Assigned)
told_from g r labels = last_told g (r.placing g).pushed (r.placing g).last labels

-- whatever leaves what is placed
same_told : (g : ℕ) (r s : Lines) (labels : List Label) → (s.placing g).pushed ≡ (r.placing g).pushed → (s.placing g).last ≡ (r.placing g).last → told_from g s labels ≡ told_from g r labels
same_told g r s labels p l = (λ i. last_told g (p i) (l i) labels)

answer_places : (config : Config) (rules : Rules) (n : ℕ) (asked : ClientOp) (given : Answer) (r s : Lines) → AcceptsAnswer config rules n asked given r s → s.placing ≡ r.placing
answer_places config rules n asked (answer.Refused (why.TooLong m)) r s h = ap (λ (l : Lines). l.placing) h.4
answer_places config rules n asked (answer.Refused w) r s h = ap (λ (l : Lines). l.placing) h.1
answer_places config rules n (op.Commit db writes) given r s h = ap (λ (l : Lines). l.placing) h.2.4
answer_places config rules n (op.Read db key) (answer.Read v) r s h = ⊎_elim
    (λ (q : AtRecord config n db key (register.Accepts rules n (op.Read db key) (answer.Read v)) r s). ap (λ (l : Lines). l.placing) q.4)
    (λ (q : AtDatabase config n db (AcceptsRead n key v) r s). ap (λ (l : Lines). l.placing) q.4) h
answer_places config rules n asked given r s h = ap (λ (l : Lines). l.placing) h.4

note_places : (config : Config) (n : ℕ) (noted : Note) (r s : Lines) → AcceptsNote config n noted r s → s.placing ≡ r.placing
note_places config n (note.Vacuumed db key) r s h = ap (λ (l : Lines). l.placing) h.4
note_places config n (note.Ended db key) r s h = ap (λ (l : Lines). l.placing) h.4
note_places config n (note.Round g members v q) r s h = ap (λ (l : Lines). l.placing) h.4
note_places config n (note.Installed g) r s h = ap (λ (l : Lines). l.placing) h.4
note_places config n (note.Thawed g) r s h = ap (λ (l : Lines). l.placing) h.3
note_places config n (note.Released a) r s h = ap (λ (l : Lines). l.placing) h.1
note_places config n (note.Took a) r s h = ap (λ (l : Lines). l.placing) h.3

-- one line is placed anew
placed_told : (g h : ℕ) (p : Placing) (r s : Lines) (labels : List Label) (told : Option (List Assigned)) → s.placing ≡ at h p r.placing → (h ≡ g → told ≡ last_told g p.pushed p.last labels) → (nat_eq h g ≡ false → told ≡ told_from g r labels) → told ≡ told_from g s labels
placed_told g h p r s labels told is here there = ⊎_elim
    (λ (e : g ≡ h). here (sym e) ∙ ap (λ (q : Placing). last_told g q.pushed q.last labels) (sym (ap (λ (f : ℕ → Placing). f g) is ∙ at_same h g p r.placing e)))
    (λ (ne : g ≢ h). there (ne_eqb h g (λ e. ne (sym e))) ∙ ap (λ (q : Placing). last_told g q.pushed q.last labels) (sym (ap (λ (f : ℕ → Placing). f g) is ∙ at_other h g p r.placing ne)))
    (cases_eq g h)

all_same : (g : ℕ) (r s : Lines) (labels : List Label) → s.placing ≡ r.placing → told_from g r labels ≡ told_from g s labels
all_same g r s labels e = ap (λ (f : ℕ → Placing). last_told g (f g).pushed (f g).last labels) (sym e)

-- after one label
label_told : (config : Config) (rules : Rules) (g : ℕ) (label : Label) (labels : List Label) (r s : Lines) → AcceptsLabel config rules r label s → told_from g r (label ∷ labels) ≡ told_from g s labels
unfolding last_told
label_told config rules g (Answered n asked given) labels r s h = all_same g r s labels (answer_places config rules n asked given r s h)
label_told config rules g (Unasked call given) labels r s h = absurd h
label_told config rules g (Begun n db writes) labels r s h = all_same g r s labels (ap (λ (l : Lines). l.placing) h.4)
label_told config rules g (Noted n noted) labels r s h = all_same g r s labels (note_places config n noted r s h)
label_told config rules g (Ticket l n members) labels r s h = all_same g r s labels (ap (λ (l : Lines). l.placing) h.2)
label_told config rules g (Yielded n) labels r s h = all_same g r s labels (ap (λ (l : Lines). l.placing) h.1)
label_told config rules g (Stopped n) labels r s h = all_same g r s labels (ap (λ (l : Lines). l.placing) h)
label_told config rules g (Started n) labels r s h = all_same g r s labels (ap (λ (l : Lines). l.placing) h)
label_told config rules g (Pushed l xs) labels r s h = placed_told g l (record (r.placing l) { pushed = Some xs }) r s labels _ (ap (λ (x : Lines). x.placing) h.3 ∙ ap (λ (p : Placing). at l p r.placing) h.2.1)
    (λ e. ap (λ (b : Bool). cond b (last_told g (Some xs) (r.placing g).last labels) (told_from g r labels)) (eq-eqb l g e) ∙ ap (λ (m : ℕ). last_told g (Some xs) (r.placing m).last labels) (sym e))
    (λ f. ap (λ (b : Bool). cond b (last_told g (Some xs) (r.placing g).last labels) (told_from g r labels)) f)
label_told config rules g (Takeover n able) labels r s h = placed_told g (r.line n) h.1 r s labels _ (ap (λ (x : Lines). x.placing) h.3)
    (λ e. (λ i. last_told g (same e i).0 (same e i).1 labels)) (λ f. refl)
  where
    same : r.line n ≡ g → ◌≡◌ {A = Option (List Assigned) × Option (List Assigned)} ((r.placing g).pushed, (r.placing g).last) (h.1.pushed, h.1.last)
    same e = ap (λ (m : ℕ). ((r.placing m).pushed, (r.placing m).last)) (sym e) ∙ ap (λ (p : Placing). (p.pushed, p.last)) (sym h.2.2)
label_told config rules g (Taken n l number xs) labels r s h = placed_told g (r.line n) h.1.1 r s labels _ (ap (λ (x : Lines). x.placing) h.1.3)
    (λ e. ap (λ (b : Bool). cond b (last_told g (r.placing g).pushed (Some xs) labels) (told_from g r labels)) (eq-eqb l g (sym h.0 ∙ e)) ∙ (λ i. last_told g (same e i).0 (same e i).1 labels))
    (λ f. ap (λ (b : Bool). cond b (last_told g (r.placing g).pushed (Some xs) labels) (told_from g r labels)) (ap (λ (m : ℕ). nat_eq m g) (sym h.0) ∙ f))
  where
    same : r.line n ≡ g → ◌≡◌ {A = Option (List Assigned) × Option (List Assigned)} ((r.placing g).pushed, Some xs) (h.1.1.pushed, h.1.1.last)
    same e = ap (λ (m : ℕ). ((r.placing m).pushed, Some xs)) (sym e) ∙ ap (λ (p : Placing). (p.pushed, p.last)) (sym h.1.2.3)

labels_told : (config : Config) (rules : Rules) (g : ℕ) (labels : List Label) (r s : Lines) → AcceptsLabels config rules r labels s → told_from g r labels ≡ given_in g s
unfolding last_told
labels_told config rules g [] r s h = ap (λ (x : Lines). given_in g x) (sym h)
labels_told config rules g (label ∷ labels) r s h = label_told config rules g label labels r h.0 h.1 ∙ labels_told config rules g labels h.0 s h.2

pub held_as_told : HeldAsLastTold
held_as_told config rules steps is n a up has =
    let run = ran config rules (opening config) [] steps in
    let p = promise config rules steps is in
    let k = p.2.assigned n a up has in
    (k.0, labels_told config rules (node_at n run.cluster).generation run.trace (Lines.opening config) p.0 p.1 ∙ ap (λ (g : ℕ). given_in g p.0) (p.2.generations n up) ∙ k.1, k.2)
