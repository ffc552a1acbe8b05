-- What labels tell of the removal of a record, and what a step at one record does of it.
use Rattle.std.proofs.Common.{◌≡◌, ℕ, zero, suc, ◌≤◌, Bool, true, false, ◌&&◌, ◌||◌, List, [], ◌∷◌, ◌++◌, map, length, None, refl, sym, ap, ◌∙◌, arith, subst, ⊎_elim, inl, inr}
use Rattle.std.specs.Prelude.{◌⊎◌, nat_eq, nat_lt, bytes_eq, slice_get}
use Rattle.std.specs.List.{AllByRecursion, list_any}
use Rattle.std.proofs.lemmas.Bool.{cond_both, eqb-true, eq-eqb, ltb-true, ltb-false, or_parts, cases_Bool}
use Rattle.std.proofs.lemmas.List.Folds.{list_any-append}
use Rattle.ct_values.specs.declared.client.Answer.{Answer}
use Rattle.ct_values.specs.declared.client.ClientOp.{ClientOp}
use Rattle.ct_values.specs.declared.config.Config.{Config}
use Rattle.ct_frame.specs.declared.event.Note.TheVariants as note
use Rattle.ct_frame.specs.declared.event.Out.{Out}
use Rattle.ct_frame.specs.declared.event.Out.TheVariants as out
use Rattle.ct_frame.specs.declared.frame.Msg.{Msg}
use Rattle.ct_frame.specs.declared.frame.Msg.TheVariants as msg
use Rattle.ct_rules.specs.Parts.{Moving}
use Rattle.ct_rules.specs.declared.event.Act.{Act}
use Rattle.ct_rules.specs.declared.event.Act.TheVariants as act
use Rattle.ct_rules.specs.declared.event.Place.{Place}
use Rattle.ct_rules.specs.declared.state.RecState.{RecState}
use Rattle.ct_store.specs.Map.{look}
use Rattle.ct_rules_node.specs.Node.{Database, master_of, state_at, db_at, with_db, or_nothing, or_untouched, untouched}
use Rattle.ct_rules_node.specs.Turn.{Turn}
use Rattle.ct_rules_node.specs.Records.{out_of, place_of, acted, put_back, at_record}
use Rattle.ct_law_rules_node.specs.NodeLaws.{unless_blank, NodeAscends, left_by}
use Rattle.ct_law_rules_node.proofs.AtRecord.{moves_at, set_past}
use Rattle.ct_rules_cluster.specs.Labels.{Label, Answered, Noted}
use Rattle.ct_rules_cluster.specs.Traces.{sent_label}
use Rattle.ct_law_generation.proofs.Vacuumed.{past_db}
use Rattle.ct_law_generation.specs.Waiting.{answered}
use Rattle.ct_rules_cluster.specs.declared.step.PendingCall.{PendingCall}
use Rattle.ct_register.specs.Lines.{Lines}
use Rattle.ct_promise.specs.Generation.{speaks_of_records, is_note_of_records, record_labels}
use Rattle.ct_promise.specs.Marked.{removes, is_removal, is_removed}
use Rattle.ct_law_record.specs.Labels as law
use Rattle.ct_law_record.specs.Marked as law_marked
use Rattle.ct_law_generation.specs.Shown.{is_it, is_telling, told_of, told_by, told_by_all, heard, IsOfLine, labels_of}
use Rattle.ct_law_generation.proofs.Weave.{it_is}
use Rattle.ct_law_generation.proofs.Finishing.{IsNoFinish, Unfinished, Finishes}

-- ---- small words

and_none : (a : Bool) → (a && false) ≡ false
and_none true = refl
and_none false = refl

or_none : (a : Bool) → (a || false) ≡ a
or_none true = refl
or_none false = refl

-- ---- what labels tell of it

told_removal : (b : Bool) (n : ℕ) (rest : List law.Label) → law_marked.is_removed (told_of b (law.Vacuumed n) ++ rest) ≡ (b || law_marked.is_removed rest)
unfolding told_of law_marked.is_removed law_marked.is_removal
told_removal true n rest = refl
told_removal false n rest = refl

told_answer : (b : Bool) (n : ℕ) (asked : ClientOp) (a : Answer) (rest : List law.Label) → law_marked.is_removed (told_of b (law.Told n asked a) ++ rest) ≡ law_marked.is_removed rest
unfolding told_of law_marked.is_removed law_marked.is_removal
told_answer true n asked a rest = refl
told_answer false n asked a rest = refl

in_line : (l g : ℕ) (b : Bool) → l ≡ g → (nat_eq l g && b) ≡ b
in_line l g b e = ap (λ (x : Bool). x && b) (eq-eqb l g e)

-- of a record of the line, labels of the line tell a removal exactly where its world is told one
pub removed_as_told : (c : Config) (r : Lines) (g db : ℕ) (key : List ℕ) (labels : List Label) → AllByRecursion (IsOfLine c g r) labels → is_removed r g db key labels ≡ law_marked.is_removed (told_by_all db key labels)
unfolding is_removal removes told_by told_by_all IsOfLine is_it law_marked.is_removed
removed_as_told c r g db key [] h = refl
removed_as_told c r g db key (Answered n asked a ∷ xs) h = removed_as_told c r g db key xs h.1 ∙ sym (told_answer _ n asked a (told_by_all db key xs))
removed_as_told c r g db key (Noted n (note.Vacuumed d k) ∷ xs) h =
    (λ i. in_line (r.line n) g (nat_eq d db && bytes_eq k key) h.0.0 i || removed_as_told c r g db key xs h.1 i) ∙ sym (told_removal (nat_eq d db && bytes_eq k key) n (told_by_all db key xs))
removed_as_told c r g db key (Noted n (note.Thawed t) ∷ xs) h = (λ i. and_none (nat_eq (r.line n) g) i || removed_as_told c r g db key xs h.1 i)
removed_as_told c r g db key (_ ∷ xs) h = absurd h.0

-- a label that speaks of no record tells no removal
unspoken : (c : Config) (r : Lines) (g db : ℕ) (key : List ℕ) (x : Label) → speaks_of_records c x ≡ false → is_removal r g db key x ≡ false
unfolding speaks_of_records is_note_of_records is_removal removes
unspoken c r g db key (Noted n (note.Vacuumed d k)) e = absurd (cc)
unspoken c r g db key (Noted n noted) e = and_none (nat_eq (r.line n) g)
unspoken c r g db key _ e = refl

pub removed_in_records : (c : Config) (r : Lines) (g db : ℕ) (key : List ℕ) (labels : List Label) → is_removed r g db key (record_labels c labels) ≡ is_removed r g db key labels
removed_in_records c r g db key [] = refl
removed_in_records c r g db key (x ∷ xs) =
    cond_both (speaks_of_records c x) (x ∷ record_labels c xs) (record_labels c xs) (λ (l : List Label). is_removed r g db key l ≡ is_removed r g db key (x ∷ xs))
    (λ _. ap (λ (b : Bool). is_removal r g db key x || b) (removed_in_records c r g db key xs))
    (λ f. removed_in_records c r g db key xs ∙ sym (ap (λ (b : Bool). b || is_removed r g db key xs) (unspoken c r g db key x f)))

-- nor does an answer that tells nothing
pub removed_heard : (xs : List law.Label) → law_marked.is_removed (heard xs) ≡ law_marked.is_removed xs
unfolding heard law_marked.is_removed law_marked.is_removal
removed_heard [] = refl
removed_heard (law.Told n asked a ∷ xs) = told_answer (is_telling a) n asked a (heard xs) ∙ removed_heard xs
removed_heard (law.Unasked n a ∷ xs) = removed_heard xs
removed_heard (law.Vacuumed n ∷ xs) = refl
removed_heard (law.Ended n ∷ xs) = removed_heard xs
removed_heard (law.Left n ∷ xs) = removed_heard xs
removed_heard (law.Joined n ∷ xs) = removed_heard xs

-- ---- what a node does of it

-- is it the note that this record was removed?
unfoldable pub removes_by : ℕ → List ℕ → Out → Bool
removes_by db key (out.Note x) = removes db key x
removes_by db key _ = false

-- was this record removed by what was done?
abbrev pub removed_by : ℕ → List ℕ → List Out → Bool
removed_by db key outs = list_any (removes_by db key) outs

answered_none : (r : Lines) (g db : ℕ) (key : List ℕ) (call : ℕ) (a : Answer) (calls : List PendingCall) → is_removed r g db key (answered call a calls) ≡ false
unfolding answered is_removal
answered_none r g db key call a [] = refl
answered_none r g db key call a (x ∷ xs) = cond_both (nat_eq x.call call) (Answered x.node x.op a ∷ []) (answered call a xs) (λ (l : List Label). is_removed r g db key l ≡ false) (λ _. refl) (λ _. answered_none r g db key call a xs)

sent_none : (r : Lines) (g db : ℕ) (key : List ℕ) (n h : ℕ) (m : Msg) → is_removed r g db key (sent_label n h m) ≡ false
unfolding sent_label is_removal
sent_none r g db key n h (msg.Push members table ptables assigned) = refl
sent_none r g db key n h (msg.Take number assigned) = refl
sent_none r g db key n h _ = refl

-- the labels of what is done tell no removal that was not done
pub not_told : (r : Lines) (g db : ℕ) (key : List ℕ) (n : ℕ) (calls : List PendingCall) (xs : List Out) → removed_by db key xs ≡ false → is_removed r g db key (labels_of n calls xs) ≡ false
unfolding labels_of removes_by is_removal
not_told r g db key n calls [] e = refl
not_told r g db key n calls (out.Send f ∷ xs) e =
    list_any-append (is_removal r g db key) (sent_label f.sender f.generation f.msg) (labels_of n calls xs) ∙ (λ i. sent_none r g db key f.sender f.generation f.msg i || not_told r g db key n calls xs e i)
not_told r g db key n calls (out.Answer call a ∷ xs) e =
    list_any-append (is_removal r g db key) (answered call a calls) (labels_of n calls xs) ∙ (λ i. answered_none r g db key call a calls i || not_told r g db key n calls xs e i)
not_told r g db key n calls (out.Note x ∷ xs) e = (let p = or_parts (removes db key x) (removed_by db key xs) e in
    (λ i. (nat_eq (r.line n) g && p.0 i) || not_told r g db key n calls xs p.1 i) ∙ (λ i. and_none (nat_eq (r.line n) g) i || false))

pub done_where_told : (r : Lines) (g db : ℕ) (key : List ℕ) (n : ℕ) (calls : List PendingCall) (xs : List Out) → is_removed r g db key (labels_of n calls xs) ≡ true → removed_by db key xs ≡ true
done_where_told r g db key n calls xs e = ⊎_elim (λ (t : removed_by db key xs ≡ true). t) (λ (f : removed_by db key xs ≡ false). absurd (let k = sym e ∙ not_told r g db key n calls xs f in cc)) (cases_Bool (removed_by db key xs))

-- and they tell it of a node that is in the line
not_in_line : (r : Lines) (g db : ℕ) (key : List ℕ) (n : ℕ) (calls : List PendingCall) (xs : List Out) → nat_eq (r.line n) g ≡ false → is_removed r g db key (labels_of n calls xs) ≡ false
unfolding labels_of is_removal
not_in_line r g db key n calls [] e = refl
not_in_line r g db key n calls (out.Send f ∷ xs) e =
    list_any-append (is_removal r g db key) (sent_label f.sender f.generation f.msg) (labels_of n calls xs) ∙ (λ i. sent_none r g db key f.sender f.generation f.msg i || not_in_line r g db key n calls xs e i)
not_in_line r g db key n calls (out.Answer call a ∷ xs) e =
    list_any-append (is_removal r g db key) (answered call a calls) (labels_of n calls xs) ∙ (λ i. answered_none r g db key call a calls i || not_in_line r g db key n calls xs e i)
not_in_line r g db key n calls (out.Note x ∷ xs) e = (λ i. (e i && removes db key x) || not_in_line r g db key n calls xs e i)

pub told_in_line : (r : Lines) (g db : ℕ) (key : List ℕ) (n : ℕ) (calls : List PendingCall) (xs : List Out) → is_removed r g db key (labels_of n calls xs) ≡ true → r.line n ≡ g
told_in_line r g db key n calls xs e = ⊎_elim (λ (t : nat_eq (r.line n) g ≡ true). eqb-true (r.line n) g t) (λ (f : nat_eq (r.line n) g ≡ false). absurd (let k = sym e ∙ not_in_line r g db key n calls xs f in cc)) (cases_Bool (nat_eq (r.line n) g))

-- ---- a step at one record

unfinished_outs : (db : ℕ) (key : List ℕ) (g n d : ℕ) (k : List ℕ) (acts : List Act) → Unfinished acts → removed_by db key (map (out_of g n d k) acts) ≡ false
unfolding Unfinished IsNoFinish out_of removes_by
unfinished_outs db key g n d k [] h = refl
unfinished_outs db key g n d k (act.Send receiver m ∷ xs) h = unfinished_outs db key g n d k xs h.1
unfinished_outs db key g n d k (act.Answer call a ∷ xs) h = unfinished_outs db key g n d k xs h.1
unfinished_outs db key g n d k (act.Finished floor ∷ xs) h = absurd h.0

other_outs : (db : ℕ) (key : List ℕ) (g n d : ℕ) (k : List ℕ) (acts : List Act) → is_it db key d k ≡ false → removed_by db key (map (out_of g n d k) acts) ≡ false
unfolding out_of removes_by removes is_it
other_outs db key g n d k [] e = refl
other_outs db key g n d k (act.Send receiver m ∷ xs) e = other_outs db key g n d k xs e
other_outs db key g n d k (act.Answer call a ∷ xs) e = other_outs db key g n d k xs e
other_outs db key g n d k (act.Finished floor ∷ xs) e = (λ i. e i || other_outs db key g n d k xs e i)

-- a rule that removes nothing
pub unfinished_at : (c : Config) (n db : ℕ) (key : List ℕ) (part : Place → Moving → Moving) (t : Turn) (d : ℕ) (k : List ℕ) → Unfinished (left_by c n db key part t).acts → removed_by d k (at_record c n db key part t).outs ≡ removed_by d k t.outs
unfolding at_record acted
unfinished_at c n db key part t d k h =
    list_any-append (removes_by d k) t.outs _ ∙ ap (λ (b : Bool). removed_by d k t.outs || b) (unfinished_outs d k t.node.generation n db key (left_by c n db key part t).acts h) ∙ or_none (removed_by d k t.outs)

-- a step at another record
other_at : (c : Config) (n db : ℕ) (key : List ℕ) (part : Place → Moving → Moving) (t : Turn) (d : ℕ) (k : List ℕ) → is_it d k db key ≡ false → removed_by d k (at_record c n db key part t).outs ≡ removed_by d k t.outs
unfolding at_record acted
other_at c n db key part t d k e =
    list_any-append (removes_by d k) t.outs _ ∙ ap (λ (b : Bool). removed_by d k t.outs || b) (other_outs d k t.node.generation n db key (left_by c n db key part t).acts e) ∙ or_none (removed_by d k t.outs)

-- after the step there is no entry where the rule left none
pub kept_entry : (s : RecState) → s.entry ≡ None → (or_nothing (unless_blank s)).entry ≡ None
unfolding unless_blank or_nothing
kept_entry s h = grind (arith, h)

past_entry : (ds : List Database) (db : ℕ) (key : List ℕ) → length ds ≤ db → (or_nothing (look key (or_untouched (slice_get ds db)).records)).entry ≡ None
unfolding untouched or_nothing
past_entry ds db key l = ap (λ (d : Database). (or_nothing (look key d.records)).entry) (past_db ds db l)

pub entry_after : (c : Config) (n db : ℕ) (key : List ℕ) (part : Place → Moving → Moving) (t : Turn) → NodeAscends t.node → (left_by c n db key part t).state.entry ≡ None → (state_at db key (at_record c n db key part t).node).entry ≡ None
unfolding at_record acted put_back with_db state_at db_at
entry_after c n db key part t h none = cond_both (nat_lt db (length t.node.dbs)) true false (λ (_ : Bool). (state_at db key (at_record c n db key part t).node).entry ≡ None)
    (λ l. ap (λ (s : RecState). s.entry) ((moves_at c n db key part t h).seen (ltb-true db (length t.node.dbs) l)) ∙ kept_entry (left_by c n db key part t).state none)
    (λ f. (let l = ltb-false db (length t.node.dbs) f in ap (λ (ds : List Database). (or_nothing (look key (or_untouched (slice_get ds db)).records)).entry) (set_past t.node.dbs db _ l) ∙ past_entry t.node.dbs db key l))

-- the record is removed: by its location master, which has no entry of it any more
abbrev pub IsGone : ℕ → ℕ → List ℕ → Turn → Turn → Type 0
IsGone n db key t u = (n ≡ master_of t.node.members key) × ((state_at db key u.node).entry ≡ None)

-- A rule that may remove its record: where this record is removed after the step, it was before, or it is the one that the
-- rule removed.
pub finished_at : (c : Config) (n db : ℕ) (key : List ℕ) (part : Place → Moving → Moving) (t : Turn) (d : ℕ) (k : List ℕ) → NodeAscends t.node → Finishes (place_of c n db key t.node) (left_by c n db key part t) →
    removed_by d k (at_record c n db key part t).outs ≡ true → (removed_by d k t.outs ≡ true) ⊎ (db ≡ d) × (key ≡ k) × IsGone n d k t (at_record c n db key part t)
unfolding place_of
finished_at c n db key part t d k h may told = ⊎_elim
    (λ (quiet : Unfinished (left_by c n db key part t).acts). inl (sym (unfinished_at c n db key part t d k quiet) ∙ told))
    (λ (gone : (n ≡ master_of t.node.members key) × ((left_by c n db key part t).state.entry ≡ None)). ⊎_elim
    (λ (is : is_it d k db key ≡ true). (let p = it_is d db k key is in inr (
      p.0,
      p.1,
      subst (λ (x : ℕ). IsGone n x k t (at_record c n db key part t)) p.0 (subst (λ (x : List ℕ). IsGone n db x t (at_record c n db key part t)) p.1 (gone.0, entry_after c n db key part t h gone.1)),
    )))
    (λ (unlike : is_it d k db key ≡ false). inl (sym (other_at c n db key part t d k unlike) ∙ told))
    (cases_Bool (is_it d k db key)))
    may
