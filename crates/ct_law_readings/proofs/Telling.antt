-- What the lines of a node's turn tell of one record: one label at most adds a version.
use Rattle.std.proofs.Common.{◌≡◌, ◌≢◌, ℕ, Bool, true, false, cond, List, [], ◌∷◌, ◌++◌, Option, None, Some, refl, sym, ap, ◌∙◌, arith, ⊎_elim}
use Rattle.std.specs.Prelude.{◌⊎◌, ◌+◌, ◌≤◌, ◌&&◌, ◌||◌, if◌then◌else◌, nat_eq}
use Rattle.std.specs.List.{list_any}
use Rattle.std.proofs.lemmas.Bool.{cases_Bool, eqb-true, eq-eqb, ne_eqb, or_parts}
use Rattle.std.proofs.lemmas.List.Folds.{list_any-append}
use Rattle.ct_values.specs.declared.client.Answer.{Answer}
use Rattle.ct_values.specs.declared.client.ClientOp.{ClientOp}
use Rattle.ct_frame.specs.declared.event.Note.{Note}
use Rattle.ct_frame.specs.declared.event.Out.{Out}
use Rattle.ct_frame.specs.declared.event.Out.TheVariants as out
use Rattle.ct_frame.specs.declared.frame.Msg.{Msg}
use Rattle.ct_frame.specs.declared.frame.Msg.TheVariants as msg
use Rattle.ct_rules_cluster.specs.Labels.{Label, Answered, Noted}
use Rattle.ct_rules_cluster.specs.Steps.{lines_of}
use Rattle.ct_rules_cluster.specs.Traces.{OpenCall, asked_in, closed, closed_by, answer_label, sent_label, label_of, line_labels}
use Rattle.ct_rules_cluster.specs.declared.step.Step.{Step}
use Rattle.ct_promise.specs.Marked.{removes}
use Rattle.ct_law_generation.proofs.Opened.{Opened, without, answered_by, AllOpen, case_open, some_none}
use Rattle.ct_law_generation.proofs.Removing.{removes_by, removed_by}
use Rattle.ct_law_readings.proofs.Versions.{gives_value, is_given, is_about, adds, clears, is_installation, moves, additions}

-- does the operation give a value to the record?
abbrev pub changes : ℕ → List ℕ → ClientOp → Bool
changes db key asked = gives_value asked && is_about db key asked

-- of the node's open calls one at most gives a value to the record
abbrev pub OneChanges : ℕ → ℕ → List ℕ → Opened → Type 0
OneChanges n db key who = (j k : ℕ) (o p : ClientOp) → who j ≡ Some (n, o) → who k ≡ Some (n, p) → changes db key o ≡ true → changes db key p ≡ true → j ≡ k

-- each of these is open in the log, too
abbrev pub InLog : Opened → List OpenCall → Type 0
InLog who log = (k : ℕ) (v : ℕ × ClientOp) → who k ≡ Some v → asked_in k log ≡ Some v

-- ---- the log

-- who is not closed stays
still_asked : (call k : ℕ) (log : List OpenCall) → k ≢ call → asked_in k (closed call log) ≡ asked_in k log
unfolding asked_in closed
still_asked call k [] ne = refl
still_asked call k (x ∷ xs) ne = ⊎_elim
    (λ (t : nat_eq call x.call ≡ true). ap (λ (b : Bool). asked_in k (cond b (closed call xs) (x ∷ closed call xs))) t ∙ still_asked call k xs ne
    ∙ sym (ap (λ (b : Bool). cond b (Some (x.node, x.asked)) (asked_in k xs)) (ne_eqb k x.call (λ (is : k ≡ x.call). ne (is ∙ sym (eqb-true call x.call t))))))
    (λ (f : nat_eq call x.call ≡ false). ap (λ (b : Bool). asked_in k (cond b (closed call xs) (x ∷ closed call xs))) f ∙ ap (λ (y : Option (ℕ × ClientOp)). cond (nat_eq k x.call) (Some (x.node, x.asked)) y) (still_asked call k xs ne))
    (cases_Bool (nat_eq call x.call))

still_in_log : (call : ℕ) (who : Opened) (log : List OpenCall) → InLog who log → InLog (without call who) (closed call log)
unfolding without
still_in_log call who log like k v e =
    let c = case_open (nat_eq k call) (who k) (Some v) e (some_none v) in
    still_asked call k log (λ (is : k ≡ call). absurd (let t = eq-eqb k call is in let f = c.0 in cc)) ∙ like k v c.1

-- ---- one label

true_parts : (a b d : Bool) → ((a && b) && d) ≡ true → (a && d) ≡ true
true_parts true true d e = e
true_parts true false d e = absurd (cc)
true_parts false b d e = absurd (cc)

-- an answer that adds a version is to an operation that gives one to the record
adds_changes : (db : ℕ) (key : List ℕ) (n : ℕ) (asked : ClientOp) (a : Answer) → adds db key (Answered n asked a) ≡ true → changes db key asked ≡ true
unfolding adds
adds_changes db key n asked a e = true_parts (gives_value asked) (is_given a) (is_about db key asked) e

not_adding : (db : ℕ) (key : List ℕ) (n : ℕ) (asked : ClientOp) (a : Answer) → (changes db key asked ≡ true → ⊥) → adds db key (Answered n asked a) ≡ false
not_adding db key n asked a never = ⊎_elim
    (λ (t : adds db key (Answered n asked a) ≡ true). absurd (never (adds_changes db key n asked a t)))
    (λ (f : adds db key (Answered n asked a) ≡ false). f)
    (cases_Bool (adds db key (Answered n asked a)))

pub additions_more : (db : ℕ) (key : List ℕ) (xs ys : List Label) → additions db key (xs ++ ys) ≡ additions db key xs + additions db key ys
unfolding additions
additions_more db key [] ys = omega arith
additions_more db key (x ∷ xs) ys = (let k = additions_more db key xs ys in omega arith)

sent_adds : (db : ℕ) (key : List ℕ) (n g : ℕ) (m : Msg) → additions db key (sent_label n g m) ≡ 0
unfolding sent_label additions adds
sent_adds db key n g (msg.Push members table ptables assigned) = refl
sent_adds db key n g (msg.Take number assigned) = refl
sent_adds db key n g _ = refl

sent_clears : (db : ℕ) (key : List ℕ) (n g : ℕ) (m : Msg) → list_any (clears db key) (sent_label n g m) ≡ false
unfolding sent_label clears
sent_clears db key n g (msg.Push members table ptables assigned) = refl
sent_clears db key n g (msg.Take number assigned) = refl
sent_clears db key n g _ = refl

sent_moves : (n g : ℕ) (m : Msg) → list_any moves (sent_label n g m) ≡ false
unfolding sent_label moves
sent_moves n g (msg.Push members table ptables assigned) = refl
sent_moves n g (msg.Take number assigned) = refl
sent_moves n g _ = refl

answer_clears : (db : ℕ) (key : List ℕ) (call : ℕ) (a : Answer) (x : Option (ℕ × ClientOp)) → clears db key (answer_label call a x) ≡ false
unfolding answer_label clears
answer_clears db key call a None = refl
answer_clears db key call a (Some v) = refl

answer_moves : (call : ℕ) (a : Answer) (x : Option (ℕ × ClientOp)) → moves (answer_label call a x) ≡ false
unfolding answer_label moves
answer_moves call a None = refl
answer_moves call a (Some v) = refl

-- a note adds none
noted_none : (db : ℕ) (key : List ℕ) (n : ℕ) (x : Note) (count : ℕ) → count ≡ 0 → (if adds db key (Noted n x) then 1 else 0) + count ≡ 0
unfolding adds
noted_none db key n x count e = omega arith

noted_once : (db : ℕ) (key : List ℕ) (n : ℕ) (x : Note) (count : ℕ) → count ≤ 1 → (if adds db key (Noted n x) then 1 else 0) + count ≤ 1
unfolding adds
noted_once db key n x count e = omega arith

-- ---- a turn

-- where no open call of the node gives the record a value, no label adds one
tells_none : (s : Step) (db : ℕ) (key : List ℕ) (n i : ℕ) (xs : List Out) (who : Opened) (log : List OpenCall) → InLog who log → AllOpen n who (answered_by xs) → ((k : ℕ) (p : ClientOp) → who k ≡ Some (n, p) → changes db key p ≡ true → ⊥) →
    additions db key (line_labels s log (lines_of n i xs)) ≡ 0
unfolding line_labels label_of closed_by lines_of answered_by AllOpen answer_label additions without
tells_none s db key n i [] who log like h none = refl
tells_none s db key n i (out.Send f ∷ xs) who log like h none =
    additions_more db key (sent_label f.sender f.generation f.msg) (line_labels s log (lines_of n (i + 1) xs)) ∙ (λ t. sent_adds db key f.sender f.generation f.msg t + tells_none s db key n (i + 1) xs who log like h none t)
tells_none s db key n i (out.Answer call a ∷ xs) who log like h none =
    let one : adds db key (answer_label call a (asked_in call log)) ≡ false = ap (λ (y : Option (ℕ × ClientOp)). adds db key (answer_label call a y)) (like call (n, h.0.0) h.0.1) ∙ not_adding db key n h.0.0 a (none call h.0.0 h.0.1) in
    let rest : additions db key (line_labels s (closed call log) (lines_of n i xs)) ≡ 0 = tells_none s db key n i xs (without call who) (closed call log) (still_in_log call who log like) h.1
    (λ k p e. none k p (case_open (nat_eq k call) (who k) (Some (n, p)) e (some_none (n, p))).1) in
    (λ t. (if one t then 1 else 0) + rest t)
tells_none s db key n i (out.Note x ∷ xs) who log like h none = noted_none db key n x (additions db key (line_labels s log (lines_of n i xs))) (tells_none s db key n i xs who log like h none)

one_more : (b : Bool) (count : ℕ) → (b ≡ true → count ≡ 0) → count ≤ 1 → (if b then 1 else 0) + count ≤ 1
one_more true count zero le = (let z = zero refl in omega arith)
one_more false count zero le = omega arith

-- where one at most does, one label at most adds one
pub tells_once : (s : Step) (db : ℕ) (key : List ℕ) (n i : ℕ) (xs : List Out) (who : Opened) (log : List OpenCall) → InLog who log → AllOpen n who (answered_by xs) → OneChanges n db key who →
    additions db key (line_labels s log (lines_of n i xs)) ≤ 1
unfolding line_labels label_of closed_by lines_of answered_by AllOpen answer_label additions without
tells_once s db key n i [] who log like h once = omega arith
tells_once s db key n i (out.Send f ∷ xs) who log like h once =
    (let a = additions_more db key (sent_label f.sender f.generation f.msg) (line_labels s log (lines_of n (i + 1) xs)) in
    let b = sent_adds db key f.sender f.generation f.msg in
    let c = tells_once s db key n (i + 1) xs who log like h once in omega arith)
tells_once s db key n i (out.Answer call a ∷ xs) who log like h once =
    let own : who call ≡ Some (n, h.0.0) = h.0.1 in
    one_more (adds db key (answer_label call a (asked_in call log))) (additions db key (line_labels s (closed call log) (lines_of n i xs)))
    (λ (t : adds db key (answer_label call a (asked_in call log)) ≡ true).
    let mine : changes db key h.0.0 ≡ true = adds_changes db key n h.0.0 a (sym (ap (λ (y : Option (ℕ × ClientOp)). adds db key (answer_label call a y)) (like call (n, h.0.0) own)) ∙ t) in
    tells_none s db key n i xs (without call who) (closed call log) (still_in_log call who log like) h.1
    (λ k p e c. (let other = case_open (nat_eq k call) (who k) (Some (n, p)) e (some_none (n, p)) in
    absurd (let same = eq-eqb k call (once k call p h.0.0 other.1 own c mine) in let f = other.0 in cc))))
    (tells_once s db key n i xs (without call who) (closed call log) (still_in_log call who log like) h.1
    (λ j k o p e f c d. once j k o p (case_open (nat_eq j call) (who j) (Some (n, o)) e (some_none (n, o))).1 (case_open (nat_eq k call) (who k) (Some (n, p)) f (some_none (n, p))).1 c d))
tells_once s db key n i (out.Note x ∷ xs) who log like h once = noted_once db key n x (additions db key (line_labels s log (lines_of n i xs))) (tells_once s db key n i xs who log like h once)

pub one_label : (b : Bool) → (if b then 1 else 0) + 0 ≤ 1
one_label true = omega arith
one_label false = omega arith

-- a turn that answers one call and does no more
pub tells_one : (s : Step) (db : ℕ) (key : List ℕ) (n i call : ℕ) (a : Answer) (log : List OpenCall) → additions db key (line_labels s log (lines_of n i (out.Answer call a ∷ []))) ≤ 1
unfolding line_labels label_of closed_by lines_of additions
tells_one s db key n i call a log = one_label (adds db key (answer_label call a (asked_in call log)))

-- what a turn does not remove, no label says was removed
pub tells_kept : (s : Step) (db : ℕ) (key : List ℕ) (n i : ℕ) (xs : List Out) (log : List OpenCall) → removed_by db key xs ≡ false → list_any (clears db key) (line_labels s log (lines_of n i xs)) ≡ false
unfolding line_labels label_of closed_by lines_of removes_by clears
tells_kept s db key n i [] log e = refl
tells_kept s db key n i (out.Send f ∷ xs) log e =
    list_any-append (clears db key) (sent_label f.sender f.generation f.msg) (line_labels s log (lines_of n (i + 1) xs)) ∙ (λ t. sent_clears db key f.sender f.generation f.msg t || tells_kept s db key n (i + 1) xs log e t)
tells_kept s db key n i (out.Answer call a ∷ xs) log e = (λ t. answer_clears db key call a (asked_in call log) t || tells_kept s db key n i xs (closed call log) e t)
tells_kept s db key n i (out.Note x ∷ xs) log e = (let p = or_parts (removes db key x) (removed_by db key xs) e in (λ t. p.0 t || tells_kept s db key n i xs log p.1 t))

-- does the node install a generation?
unfoldable pub installs : Out → Bool
installs (out.Note x) = is_installation x
installs _ = false

-- where it installs none, no label changes the line of a node
pub tells_unmoved : (s : Step) (n i : ℕ) (xs : List Out) (log : List OpenCall) → list_any installs xs ≡ false → list_any moves (line_labels s log (lines_of n i xs)) ≡ false
unfolding line_labels label_of closed_by lines_of installs moves
tells_unmoved s n i [] log e = refl
tells_unmoved s n i (out.Send f ∷ xs) log e =
    list_any-append moves (sent_label f.sender f.generation f.msg) (line_labels s log (lines_of n (i + 1) xs)) ∙ (λ t. sent_moves f.sender f.generation f.msg t || tells_unmoved s n (i + 1) xs log e t)
tells_unmoved s n i (out.Answer call a ∷ xs) log e = (λ t. answer_moves call a (asked_in call log) t || tells_unmoved s n i xs (closed call log) e t)
tells_unmoved s n i (out.Note x ∷ xs) log e = (let p = or_parts (is_installation x) (list_any installs xs) e in (λ t. p.0 t || tells_unmoved s n i xs log p.1 t))
