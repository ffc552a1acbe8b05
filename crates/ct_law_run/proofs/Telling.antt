-- What is told of locks that end: the registers of a line accept it, one label after the other.
use Rattle.std.proofs.Common.{◌≡◌, ◌≢◌, ℕ, suc, ◌+◌, Bool, true, false, cond, ◌&&◌, ◌||◌, List, [], ◌∷◌, ◌++◌, Option, None, Some, ⊎_elim, refl, sym, ap, ◌∙◌, subst, arith}
use Rattle.std.specs.Prelude.{nat_eq, is_some, slice_get}
use Rattle.std.specs.List.{list_any}
use Rattle.std.proofs.lemmas.Bool.{cases_eq, eq-eqb, cases_Bool}
use Rattle.std.proofs.lemmas.Slice.Eq.{bytes_eq-Decides}
use Rattle.ct_values.specs.declared.client.Answer.{Answer}
use Rattle.ct_values.specs.declared.client.Answer.TheVariants as answer
use Rattle.ct_values.specs.declared.config.Config.{Config}
use Rattle.ct_frame.specs.declared.event.Note.TheVariants as note
use Rattle.ct_frame.specs.declared.event.Out.{Out}
use Rattle.ct_frame.specs.declared.event.Out.TheVariants as out
use Rattle.ct_call.specs.Rules.{Rules}
use Rattle.ct_rules_node.specs.Node.{Database, Committing, or_untouched, name_of, has_records, kind_at}
use Rattle.ct_rules_cluster.specs.Cluster.{Sent}
use Rattle.ct_rules_cluster.specs.Labels.{Label, Answered, Noted}
use Rattle.ct_rules_cluster.specs.Steps.{frames_of}
use Rattle.ct_law_generation.specs.Waiting.{answered}
use Rattle.ct_rules_cluster.specs.declared.step.PendingCall.{PendingCall}
use Rattle.ct_register.specs.Legal.{AcceptsLabels}
use Rattle.ct_register.specs.Lines.{Lines, with_record}
use Rattle.ct_register.specs.Register.{Register, released}
use Rattle.ct_register.specs.Words.{at, at_key}
use Rattle.ct_register.proofs.Places.{at_same, at_other, at_key_same, at_key_other}
use Rattle.ct_promise.specs.Generation.{record_labels, speaks_of_records, is_note_of_records}
use Rattle.ct_promise.specs.Marked.{is_removal, is_removed, removes}
use Rattle.ct_promise.proofs.Follows.{filter_more}
use Rattle.ct_law_generation.specs.Shown.{labels_of, is_it}
use Rattle.ct_law_generation.proofs.Hearing.{labels_more, frames_more}
use Rattle.ct_law_generation.proofs.Weave.{it_is, same_record, other_record}
use Rattle.ct_law_run.proofs.Ends.{is_ended, ends_out, ends_outs}
use Rattle.ct_law_run.proofs.Freed.{ended_register}
use Rattle.ct_law_generation.proofs.Committed.{Untold}

-- ---- the registers after all ends

abbrev pub record_ended : ℕ → List ℕ → (ℕ → ℕ → List ℕ → Register) → ℕ → ℕ → List ℕ → Register
record_ended g name rs = at g (at 0 (at_key name (released (rs g 0 name)) (rs g 0)) (rs g)) rs

abbrev pub one_ended : ℕ → List ℕ → Option Committing → (ℕ → ℕ → List ℕ → Register) → ℕ → ℕ → List ℕ → Register
one_ended g name None rs = rs
one_ended g name (Some x) rs = record_ended g name rs

abbrev pub all_ended : Config → ℕ → ℕ → List Database → (ℕ → ℕ → List ℕ → Register) → ℕ → ℕ → List ℕ → Register
all_ended c g i [] rs = rs
all_ended c g i (d ∷ ds) rs = all_ended c g (i + 1) ds (one_ended g (name_of c i) d.commit rs)

-- each register by itself
twice : (b d : Bool) (r : Register) → ended_register d (ended_register b r) ≡ ended_register (b || d) r
twice true true r = refl
twice true false r = refl
twice false d r = refl

one_here : (g : ℕ) (name : List ℕ) (o : Option Committing) (r : Lines) (db : ℕ) (key : List ℕ) → one_ended g name o r.records g db key ≡ ended_register (is_some o && is_it db key 0 name) (r.records g db key)
one_here g name None r db key = refl
one_here g name (Some x) r db key = ⊎_elim
    (λ (t : is_it db key 0 name ≡ true). (let p = it_is db 0 key name t in
    subst (λ (k : List ℕ). record_ended g name r.records g db k ≡ released (r.records g db k)) p.1
    (subst (λ (d : ℕ). record_ended g name r.records g d name ≡ released (r.records g d name)) p.0 (same_record g g 0 name (released (r.records g 0 name)) r refl))
    ∙ sym (ap (λ (b : Bool). ended_register b (r.records g db key)) t)))
    (λ (f : is_it db key 0 name ≡ false). other_record g g 0 db name key (released (r.records g 0 name)) r refl f ∙ sym (ap (λ (b : Bool). ended_register b (r.records g db key)) f))
    (cases_Bool (is_it db key 0 name))

one_elsewhere : (g : ℕ) (name : List ℕ) (o : Option Committing) (rs : ℕ → ℕ → List ℕ → Register) (m : ℕ) → m ≢ g → one_ended g name o rs m ≡ rs m
one_elsewhere g name None rs m ne = refl
one_elsewhere g name (Some x) rs m ne = at_other g m _ rs ne

pub all_here : (c : Config) (g i : ℕ) (ds : List Database) (r : Lines) (db : ℕ) (key : List ℕ) → all_ended c g i ds r.records g db key ≡ ended_register (is_ended c i ds db key) (r.records g db key)
all_here c g i [] r db key = refl
all_here c g i (d ∷ ds) r db key = all_here c g (i + 1) ds (record r { records = one_ended g (name_of c i) d.commit r.records }) db key
    ∙ ap (ended_register (is_ended c (i + 1) ds db key)) (one_here g (name_of c i) d.commit r db key)
    ∙ twice (is_some d.commit && is_it db key 0 (name_of c i)) (is_ended c (i + 1) ds db key) (r.records g db key)

pub all_elsewhere : (c : Config) (g i : ℕ) (ds : List Database) (rs : ℕ → ℕ → List ℕ → Register) (m : ℕ) → m ≢ g → all_ended c g i ds rs m ≡ rs m
all_elsewhere c g i [] rs m ne = refl
all_elsewhere c g i (d ∷ ds) rs m ne = all_elsewhere c g (i + 1) ds (one_ended g (name_of c i) d.commit rs) m ne ∙ one_elsewhere g (name_of c i) d.commit rs m ne

-- ---- the labels

-- of every commit that waits: no answer to it is told of records
abbrev pub All_untold : Config → List PendingCall → List Database → Type 0
All_untold c pend ds = (k : ℕ) (x : Committing) → (or_untouched (slice_get ds k)).commit ≡ Some x → Untold c pend x.call

-- and its lock is owned by node n in line g
abbrev pub All_owned : Config → ℕ → ℕ → ℕ → List Database → (ℕ → ℕ → List ℕ → Register) → Type 0
All_owned c n g i ds rs = (k : ℕ) (x : Committing) → (or_untouched (slice_get ds k)).commit ≡ Some x → (rs g 0 (name_of c (i + k))).owner ≡ Some n

-- the names of databases with commits that wait are different
abbrev pub All_differ : Config → ℕ → List Database → Type 0
All_differ c i ds = (k l : ℕ) (x y : Committing) → (or_untouched (slice_get ds k)).commit ≡ Some x → (or_untouched (slice_get ds l)).commit ≡ Some y → k ≢ l → name_of c (i + k) ≢ name_of c (i + l)

out_labels : (c : Config) (n : ℕ) (pend : List PendingCall) (call seq : ℕ) (missing : List ℕ) (name : List ℕ) → Untold c pend call →
    record_labels c (labels_of n pend (out.Answer call (answer.Unsure seq missing) ∷ out.Note (note.Ended 0 name) ∷ [])) ≡ Noted n (note.Ended 0 name) ∷ []
unfolding labels_of speaks_of_records is_note_of_records
out_labels c n pend call seq missing name u = filter_more (speaks_of_records c) (answered call (answer.Unsure seq missing) pend) (Noted n (note.Ended 0 name) ∷ []) ∙ ap (λ (l : List Label). l ++ Noted n (note.Ended 0 name) ∷ []) (u (answer.Unsure seq missing))

more_labels : (c : Config) (n : ℕ) (pend : List PendingCall) (xs ys : List Out) → record_labels c (labels_of n pend (xs ++ ys)) ≡ record_labels c (labels_of n pend xs) ++ record_labels c (labels_of n pend ys)
more_labels c n pend xs ys = ap (λ (l : List Label). record_labels c l) (labels_more n pend xs ys) ∙ filter_more (speaks_of_records c) (labels_of n pend xs) (labels_of n pend ys)

pub ends_accepted : (c : Config) (rules : Rules) (n i : ℕ) (pend : List PendingCall) (ds : List Database) (r : Lines) → r.line n ≢ 0 → has_records (kind_at c 0) ≡ true → All_untold c pend ds → All_owned c n (r.line n) i ds r.records → All_differ c i ds →
    AcceptsLabels c rules r (record_labels c (labels_of n pend (ends_outs c i ds))) (record r { records = all_ended c (r.line n) i ds r.records })
unfolding labels_of or_untouched
ends_accepted c rules n i pend [] r there kind untold owned differ = refl
ends_accepted c rules n i pend (d ∷ ds) r there kind untold owned differ =
    subst (λ (l : List Label). AcceptsLabels c rules r l (record r { records = all_ended c (r.line n) i (d ∷ ds) r.records })) (sym (more_labels c n pend (ends_out c i d.commit) (ends_outs c (i + 1) ds)))
    (pick d.commit refl (λ q own. ends_accepted c rules n (i + 1) pend ds (record r { records = q }) there kind (λ k x e. untold (suc k) x e) own
    (λ k l x y e f ne. (let a : i + suc k ≡ (i + 1) + k = omega arith in let b : i + suc l ≡ (i + 1) + l = omega arith in
    λ same. differ (suc k) (suc l) x y e f (λ z. ne (omega arith)) (ap (name_of c) a ∙ same ∙ sym (ap (name_of c) b))))))
  where
    g : ℕ
    g = r.line n

    next : (k : ℕ) → name_of c (i + suc k) ≡ name_of c ((i + 1) + k)
    next k = ap (name_of c) (let a : i + suc k ≡ (i + 1) + k = omega arith in a)

    pick : (o : Option Committing) → d.commit ≡ o →
        ((q : ℕ → ℕ → List ℕ → Register) → All_owned c n (r.line n) (i + 1) ds q → AcceptsLabels c rules (record r { records = q }) (record_labels c (labels_of n pend (ends_outs c (i + 1) ds))) (record r { records = all_ended c (r.line n) (i + 1) ds q })) →
        AcceptsLabels c rules r (record_labels c (labels_of n pend (ends_out c i d.commit)) ++ record_labels c (labels_of n pend (ends_outs c (i + 1) ds))) (record r { records = all_ended c (r.line n) (i + 1) ds (one_ended (r.line n) (name_of c i) d.commit r.records) })
    pick None e rest = subst (λ (o : Option Committing). AcceptsLabels c rules r (record_labels c (labels_of n pend (ends_out c i o)) ++ record_labels c (labels_of n pend (ends_outs c (i + 1) ds))) (record r { records = all_ended c (r.line n) (i + 1) ds (one_ended (r.line n) (name_of c i) o r.records) })) (sym e)
        (rest r.records (λ k x f. sym (ap (λ (nm : List ℕ). (r.records (r.line n) 0 nm).owner) (next k)) ∙ owned (suc k) x f))
    pick (Some x) e rest = subst (λ (o : Option Committing). AcceptsLabels c rules r (record_labels c (labels_of n pend (ends_out c i o)) ++ record_labels c (labels_of n pend (ends_outs c (i + 1) ds))) (record r { records = all_ended c (r.line n) (i + 1) ds (one_ended (r.line n) (name_of c i) o r.records) })) (sym e)
        (subst (λ (l : List Label). AcceptsLabels c rules r (l ++ record_labels c (labels_of n pend (ends_outs c (i + 1) ds))) (record r { records = all_ended c (r.line n) (i + 1) ds (record_ended (r.line n) (name_of c i) r.records) }))
        (sym (out_labels c n pend x.call x.pending.seq x.pending.missing (name_of c i) (untold 0 x e))) (
          record r { records = record_ended (r.line n) (name_of c i) r.records },
          (there, kind, released (r.records (r.line n) 0 (name_of c i)), (owner, refl), refl),
          rest (record_ended (r.line n) (name_of c i) r.records) (λ k y f.
              ap (λ (t : Register). t.owner) (other_record (r.line n) (r.line n) 0 0 (name_of c i) (name_of c ((i + 1) + k)) (released (r.records (r.line n) 0 (name_of c i))) r refl (apart k x y e f))
              ∙ sym (ap (λ (nm : List ℕ). (r.records (r.line n) 0 nm).owner) (next k)) ∙ owned (suc k) y f),
        ))
      where
        owner : (r.records (r.line n) 0 (name_of c i)).owner ≡ Some n
        owner = ap (λ (j : ℕ). (r.records (r.line n) 0 (name_of c j)).owner) (let j : i ≡ i + 0 = omega arith in j) ∙ owned 0 x e

        apart : (k : ℕ) (x y : Committing) → d.commit ≡ Some x → (or_untouched (slice_get ds k)).commit ≡ Some y → is_it 0 (name_of c ((i + 1) + k)) 0 (name_of c i) ≡ false
        apart k x y e f = ⊎_elim
            (λ (t : is_it 0 (name_of c ((i + 1) + k)) 0 (name_of c i) ≡ true). absurd (differ 0 (suc k) x y e f (λ z. absurd (omega arith)) (sym (ap (name_of c) (let j : i ≡ i + 0 = omega arith in j)) ∙ (it_is 0 0 (name_of c ((i + 1) + k)) (name_of c i) t).1 ∙ sym (next k))))
            (λ (f : is_it 0 (name_of c ((i + 1) + k)) 0 (name_of c i) ≡ false). f)
            (cases_Bool (is_it 0 (name_of c ((i + 1) + k)) 0 (name_of c i)))

-- ---- nothing is sent, and no record is removed

pub ends_frames : (c : Config) (i : ℕ) (ds : List Database) → frames_of (ends_outs c i ds) ≡ []
unfolding frames_of
ends_frames c i [] = refl
ends_frames c i (d ∷ ds) = frames_more (ends_out c i d.commit) (ends_outs c (i + 1) ds) ∙ ap (λ (l : List Sent). l ++ frames_of (ends_outs c (i + 1) ds)) (none d.commit) ∙ ends_frames c (i + 1) ds
  where
    none : (o : Option Committing) → frames_of (ends_out c i o) ≡ []
    none None = refl
    none (Some x) = refl

any_more : (f : Label → Bool) (xs ys : List Label) → list_any f xs ≡ false → list_any f ys ≡ false → list_any f (xs ++ ys) ≡ false
any_more f [] ys a b = b
any_more f (x ∷ xs) ys a b = both (f x) _ _ a (λ h. any_more f xs ys h b)
  where
    both : (p q s : Bool) → (p || q) ≡ false → (q ≡ false → s ≡ false) → (p || s) ≡ false
    both true q s e k = absurd (cc)
    both false q s e k = k e

answer_removes : (r : Lines) (g db : ℕ) (key : List ℕ) (call : ℕ) (a : Answer) (pend : List PendingCall) → is_removed r g db key (answered call a pend) ≡ false
unfolding answered is_removal
answer_removes r g db key call a [] = refl
answer_removes r g db key call a (x ∷ xs) = either (nat_eq x.call call) (answer_removes r g db key call a xs)
  where
    either : (b : Bool) → is_removed r g db key (answered call a xs) ≡ false → is_removed r g db key (cond b (Answered x.node x.op a ∷ []) (answered call a xs)) ≡ false
    either true e = refl
    either false e = e

pub ends_remove : (c : Config) (r : Lines) (g db : ℕ) (key : List ℕ) (n i : ℕ) (pend : List PendingCall) (ds : List Database) → is_removed r g db key (labels_of n pend (ends_outs c i ds)) ≡ false
unfolding labels_of is_removal removes
ends_remove c r g db key n i pend [] = refl
ends_remove c r g db key n i pend (d ∷ ds) = ap (λ (l : List Label). is_removed r g db key l) (labels_more n pend (ends_out c i d.commit) (ends_outs c (i + 1) ds))
    ∙ any_more (is_removal r g db key) (labels_of n pend (ends_out c i d.commit)) (labels_of n pend (ends_outs c (i + 1) ds)) (one d.commit) (ends_remove c r g db key n (i + 1) pend ds)
  where
    last : (b : Bool) → (b && false || false) ≡ false
    last true = refl
    last false = refl

    one : (o : Option Committing) → is_removed r g db key (labels_of n pend (ends_out c i o)) ≡ false
    one None = refl
    one (Some x) = any_more (is_removal r g db key) (answered x.call (answer.Unsure x.pending.seq x.pending.missing) pend) (Noted n (note.Ended 0 (name_of c i)) ∷ [])
        (answer_removes r g db key x.call (answer.Unsure x.pending.seq x.pending.missing) pend) (last (nat_eq (r.line n) g))
