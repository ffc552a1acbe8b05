-- Where the register of each record accepts what a trace tells of that record, the registers of its line accept the trace.
use Rattle.std.proofs.Common.{◌≡◌, ℕ, ◌≤◌, Bool, true, false, List, [], ◌∷◌, ◌++◌, refl, sym, ap, ◌∙◌, ⊎_elim, inl, inr, subst, arith}
use Rattle.std.specs.Prelude.{◌≢◌, ◌⊎◌, nat_eq, bytes_eq, ◌&&◌}
use Rattle.std.specs.List.{AllByRecursion}
use Rattle.std.proofs.lemmas.Bool.{cases_eq, eq-eqb, eqb-true, and_parts, and_left, cases_Bool}
use Rattle.std.proofs.lemmas.Slice.Eq.{bytes_eq-Decides}
use Rattle.ct_values.specs.Client.{db_of, key_of}
use Rattle.ct_values.specs.declared.client.Answer.{Answer}
use Rattle.ct_values.specs.declared.client.Answer.TheVariants as answer
use Rattle.ct_values.specs.declared.client.ClientOp.{ClientOp}
use Rattle.ct_values.specs.declared.client.ClientOp.TheVariants as op
use Rattle.ct_values.specs.declared.client.Why.{Why}
use Rattle.ct_values.specs.declared.client.Why.TheVariants as why
use Rattle.ct_values.specs.declared.config.Config.{Config}
use Rattle.ct_frame.specs.declared.event.Note.TheVariants as note
use Rattle.ct_call.specs.Rules.{Rules}
use Rattle.ct_rules_cluster.specs.Labels.{Label, Answered, Noted}
use Rattle.ct_rules_node.specs.Node.{is_among, has_records, is_persistent, kind_at}
use Rattle.ct_register.specs.Register
use Rattle.ct_register.specs.Register.{Register, AcceptsVacuum}
use Rattle.ct_register.specs.Lines.{Lines, with_record}
use Rattle.ct_register.specs.Legal.{AtRecord, MayRefuse, AcceptsAnswer, AcceptsThawed, AcceptsLabel, AcceptsLabels}
use Rattle.ct_register.proofs.Places.{at_same, at_other, at_key_same, at_key_other}
use Rattle.ct_law_record.specs.Labels.{AcceptsAll}
use Rattle.ct_law_record.specs.Labels as law
use Rattle.ct_law_generation.specs.Shown.{is_it, is_telling, told_of, told_by, told_by_all, AllInstalled, IsOfLine}

-- ---- one record among all

pub it_is : (db d : ℕ) (key k : List ℕ) → is_it db key d k ≡ true → (d ≡ db) × (k ≡ key)
unfolding is_it
it_is db d key k t = (let p = and_parts (nat_eq d db) (bytes_eq k key) t in (eqb-true d db p.0, (bytes_eq-Decides k key).0 p.1))

pub it_is_itself : (db : ℕ) (key : List ℕ) → is_it db key db key ≡ true
unfolding is_it
it_is_itself db key = rw (eq-eqb db db refl) ((bytes_eq-Decides key key).1 refl)

pub same_record : (g : ℕ) (l db : ℕ) (key : List ℕ) (t : Register) (r : Lines) → l ≡ g → (with_record l db key t r).records g db key ≡ t
same_record g l db key t r e =
    ap (λ (f : ℕ → List ℕ → Register). f db key) (at_same l g _ r.records (sym e)) ∙ ap (λ (f : List ℕ → Register). f key) (at_same db db _ (r.records l) refl) ∙ at_key_same key key t (r.records l db) refl

pub other_record : (g : ℕ) (l db d : ℕ) (key k : List ℕ) (t : Register) (r : Lines) → l ≡ g → is_it d k db key ≡ false → (with_record l db key t r).records g d k ≡ r.records g d k
unfolding is_it
other_record g l db d key k t r e unlike = ap (λ (f : ℕ → List ℕ → Register). f d k) (at_same l g _ r.records (sym e)) ∙ ⊎_elim
    (λ (is : d ≡ db). ap (λ (f : List ℕ → Register). f k) (at_same db d _ (r.records l) is)
    ∙ at_key_other key k t (r.records l db) (λ same. absurd (let a = eq-eqb db d (sym is) in let b = (bytes_eq-Decides key k).1 (sym same) in cc))
    ∙ ap (λ (x : ℕ). r.records l x k) (sym is) ∙ ap (λ (x : ℕ). r.records x d k) e)
    (λ (ne : d ≢ db). ap (λ (f : List ℕ → Register). f k) (at_other db d _ (r.records l) ne) ∙ ap (λ (x : ℕ). r.records x d k) e)
    (cases_eq d db)

-- ---- one label

-- a call that is of no persistent database may be refused for anything
refuses_any : (config : Config) (n : ℕ) (asked : ClientOp) (w : Why) (r : Lines) → is_persistent (kind_at config (db_of asked)) ≡ false → MayRefuse config n asked w r
unfolding is_persistent
refuses_any config n (op.Commit db writes) w r other = λ k. absurd (let e : true ≡ false = ap is_persistent (sym k.1) ∙ other in cc)
refuses_any config n asked w r other = tt

-- an answer that tells nothing, to a call that is of no persistent database, is accepted and changes nothing
pub silent : (config : Config) (rules : Rules) (n : ℕ) (asked : ClientOp) (a : Answer) (r : Lines) → is_persistent (kind_at config (db_of asked)) ≡ false → is_telling a ≡ false → AcceptsAnswer config rules n asked a r r
unfolding is_telling
silent config rules n asked (answer.Refused (why.TooLong m)) r other e = absurd (cc)
silent config rules n asked (answer.Refused w) r other e = (refuses_any config n asked w r other, refl)
silent config rules n asked _ r other e = absurd (cc)

-- what the register of a record accepts as an answer, all registers accept
answered : (config : Config) (rules : Rules) (n : ℕ) (asked : ClientOp) (a : Answer) (r s : Lines) → is_telling a ≡ true →
    AtRecord config n (db_of asked) (key_of asked) (Register.Accepts rules n asked a) r s → AcceptsAnswer config rules n asked a r s
unfolding is_telling
answered config rules n asked (answer.Refused (why.TooLong m)) r s e h = h
answered config rules n asked (answer.Refused w) r s e h = absurd (cc)
answered config rules n (op.Commit db writes) a r s e h = absurd (h.3)
answered config rules n (op.Read db key) (answer.Read v) r s e h = inl h
answered config rules n asked a r s e h = h

answer_accepted : (g : ℕ) (config : Config) (rules : Rules) (n : ℕ) (asked : ClientOp) (a : Answer) (r : Lines) (t : Register) → 1 ≤ g → is_telling a ≡ true →
    r.line n ≡ g → has_records (kind_at config (db_of asked)) ≡ true → Register.Accepts rules n asked a (r.records g (db_of asked) (key_of asked)) t →
    AcceptsAnswer config rules n asked a r (with_record (r.line n) (db_of asked) (key_of asked) t r)
answer_accepted g config rules n asked a r t real e line kind h = answered config rules n asked a r _ e (
  (λ zero. absurd (omega arith)),
  kind,
  t,
  subst (λ (l : ℕ). Register.Accepts rules n asked a (r.records l (db_of asked) (key_of asked)) t) (sym line) h,
  refl,
)

vacuum_accepted : (g : ℕ) (config : Config) (n db : ℕ) (key : List ℕ) (r : Lines) (t : Register) → 1 ≤ g → r.line n ≡ g → has_records (kind_at config db) ≡ true →
    AcceptsVacuum (r.records g db key) t → AtRecord config n db key AcceptsVacuum r (with_record (r.line n) db key t r)
vacuum_accepted g config n db key r t real line kind h = ((λ zero. absurd (omega arith)), kind, t, subst (λ (l : ℕ). AcceptsVacuum (r.records l db key) t) (sym line) h, refl)

-- ---- all labels

-- what each record's register comes to
abbrev pub Each : ℕ → Rules → Lines → List Label → (ℕ → List ℕ → Register) → Type 0
Each g rules r labels t = (db : ℕ) (key : List ℕ) → AcceptsAll rules (r.records g db key) (told_by_all db key labels) (t db key)

-- the registers of the other lines stay
abbrev pub OthersStay : ℕ → Lines → Lines → Type 0
OthersStay g r s = (h : ℕ) → h ≢ g → s.records h ≡ r.records h

-- all registers accept the labels, and come to these of line g; all else stays
abbrev pub Woven : ℕ → Config → Rules → Lines → List Label → (ℕ → List ℕ → Register) → Type 0
Woven g config rules r labels t = (s : Lines) × AcceptsLabels config rules r labels s × ((db : ℕ) (key : List ℕ) → s.records g db key ≡ t db key) × (s ≡ record r { records = s.records }) × OthersStay g r s

-- the register after the first label, where that tells one thing of the record
first_mid : (rules : Rules) (b : Bool) (x : law.Label) (xs : List law.Label) (r t : Register) → b ≡ true → AcceptsAll rules r (told_of b x ++ xs) t →
    (mid : Register) × law.AcceptsLabel rules r x mid × AcceptsAll rules mid xs t
unfolding told_of
first_mid rules true x xs r t e h = h
first_mid rules false x xs r t e h = absurd (cc)

-- another record's register is where it was
first_none : (rules : Rules) (b : Bool) (x : law.Label) (xs : List law.Label) (r t : Register) → b ≡ false → AcceptsAll rules r (told_of b x ++ xs) t → AcceptsAll rules r xs t
unfolding told_of
first_none rules true x xs r t e h = absurd (cc)
first_none rules false x xs r t e h = h

rest_each : (g : ℕ) (rules : Rules) (l db0 : ℕ) (key0 : List ℕ) (x : law.Label) (mid : Register) (r : Lines) (labels : List Label) (t : ℕ → List ℕ → Register) → l ≡ g →
    ((db : ℕ) (key : List ℕ) → AcceptsAll rules (r.records g db key) (told_of (is_it db key db0 key0) x ++ told_by_all db key labels) (t db key)) →
    AcceptsAll rules mid (told_by_all db0 key0 labels) (t db0 key0) → Each g rules (with_record l db0 key0 mid r) labels t
rest_each g rules l db0 key0 x mid r labels t e h m db key = ⊎_elim
    (λ (is : is_it db key db0 key0 ≡ true). (let p = it_is db db0 key key0 is in
    subst (λ (k : List ℕ). AcceptsAll rules ((with_record l db0 key0 mid r).records g db k) (told_by_all db k labels) (t db k)) p.1
    (subst (λ (d : ℕ). AcceptsAll rules ((with_record l db0 key0 mid r).records g d key0) (told_by_all d key0 labels) (t d key0)) p.0
    (subst (λ (q : Register). AcceptsAll rules q (told_by_all db0 key0 labels) (t db0 key0)) (sym (same_record g l db0 key0 mid r e)) m))))
    (λ (unlike : is_it db key db0 key0 ≡ false). subst (λ (q : Register). AcceptsAll rules q (told_by_all db key labels) (t db key)) (sym (other_record g l db0 db key0 key mid r e unlike))
    (first_none rules (is_it db key db0 key0) x (told_by_all db key labels) (r.records g db key) (t db key) unlike (h db key)))
    (cases_Bool (is_it db key db0 key0))

-- what the registers come to after one label
abbrev pub Goes_on : ℕ → Config → Rules → Lines → Label → List Label → (ℕ → List ℕ → Register) → Type 0
Goes_on g config rules r x labels t = (s : Lines) × AcceptsLabel config rules r x s × Each g rules s labels t × (s ≡ record r { records = s.records }) × OthersStay g r s

other_lines : (g : ℕ) (l db : ℕ) (key : List ℕ) (t : Register) (r : Lines) → l ≡ g → OthersStay g r (with_record l db key t r)
other_lines g l db key t r e h ne = at_other l h _ r.records (λ is. ne (is ∙ e))

telling_alone : (a b : Bool) → a ≡ true → (a && b) ≡ b
telling_alone true b e = refl
telling_alone false b e = absurd (cc)

told_answer : (g : ℕ) (config : Config) (rules : Rules) (n : ℕ) (asked : ClientOp) (a : Answer) (labels : List Label) (r : Lines) (t : ℕ → List ℕ → Register) → 1 ≤ g → is_telling a ≡ true →
    r.line n ≡ g → has_records (kind_at config (db_of asked)) ≡ true → Each g rules r (Answered n asked a ∷ labels) t → Goes_on g config rules r (Answered n asked a) labels t
unfolding told_by_all told_by
told_answer g config rules n asked a labels r t real e line kind h =
    let every : (db : ℕ) (key : List ℕ) → AcceptsAll rules (r.records g db key) (told_of (is_it db key (db_of asked) (key_of asked)) (law.Told n asked a) ++ told_by_all db key labels) (t db key)
    = λ db key. subst (λ (b : Bool). AcceptsAll rules (r.records g db key) (told_of b (law.Told n asked a) ++ told_by_all db key labels) (t db key)) (telling_alone (is_telling a) _ e) (h db key) in
    let p = first_mid rules (is_it (db_of asked) (key_of asked) (db_of asked) (key_of asked)) (law.Told n asked a) (told_by_all (db_of asked) (key_of asked) labels) _ _ (it_is_itself (db_of asked) (key_of asked)) (every (db_of asked) (key_of asked)) in (
      with_record (r.line n) (db_of asked) (key_of asked) p.0 r,
      answer_accepted g config rules n asked a r p.0 real e line kind p.1,
      rest_each g rules (r.line n) (db_of asked) (key_of asked) (law.Told n asked a) p.0 r labels t line every p.2,
      refl,
      other_lines g (r.line n) (db_of asked) (key_of asked) p.0 r line,
    )

silent_answer : (g : ℕ) (config : Config) (rules : Rules) (n : ℕ) (asked : ClientOp) (a : Answer) (labels : List Label) (r : Lines) (t : ℕ → List ℕ → Register) → is_persistent (kind_at config (db_of asked)) ≡ false → is_telling a ≡ false →
    Each g rules r (Answered n asked a ∷ labels) t → Goes_on g config rules r (Answered n asked a) labels t
unfolding told_by_all told_by
silent_answer g config rules n asked a labels r t other e h = (
  r,
  silent config rules n asked a r other e,
  λ db key. first_none rules _ (law.Told n asked a) (told_by_all db key labels) (r.records g db key) (t db key) (and_left (is_telling a) _ e) (h db key),
  refl,
  λ l ne. refl,
)

told_vacuum : (g : ℕ) (config : Config) (rules : Rules) (n db : ℕ) (key : List ℕ) (labels : List Label) (r : Lines) (t : ℕ → List ℕ → Register) → 1 ≤ g →
    r.line n ≡ g → has_records (kind_at config db) ≡ true → Each g rules r (Noted n (note.Vacuumed db key) ∷ labels) t → Goes_on g config rules r (Noted n (note.Vacuumed db key)) labels t
unfolding told_by_all told_by
told_vacuum g config rules n db key labels r t real line kind h =
    let p = first_mid rules (is_it db key db key) (law.Vacuumed n) (told_by_all db key labels) _ _ (it_is_itself db key) (h db key) in (
      with_record (r.line n) db key p.0 r,
      vacuum_accepted g config n db key r p.0 real line kind p.1,
      rest_each g rules (r.line n) db key (law.Vacuumed n) p.0 r labels t line h p.2,
      refl,
      other_lines g (r.line n) db key p.0 r line,
    )

-- a node that serves in line g, which all have installed, is accepted and changes nothing
thaw_accepted : (g h n : ℕ) (r : Lines) → 1 ≤ g → (h ≡ g) × (r.line n ≡ g) × AllInstalled g r → AcceptsThawed h n r r
thaw_accepted g h n r real own = (
  (λ zero. absurd (let e = own.1 in omega arith)),
  own.1 ∙ sym own.0,
  (λ m among. ap (λ (l : ℕ). r.installed l m) own.0 ∙ own.2 m (ap (λ (l : ℕ). is_among m (r.members l)) (sym own.0) ∙ among)),
  refl,
)

-- other records leave a label of the line
of_line : (g : ℕ) (config : Config) (r : Lines) (records : ℕ → ℕ → List ℕ → Register) (x : Label) → IsOfLine config g r x → IsOfLine config g (record r { records = records }) x
unfolding IsOfLine
of_line g config r records (Answered n asked a) own = own
of_line g config r records (Noted n (note.Vacuumed db key)) own = own
of_line g config r records (Noted n (note.Thawed h)) own = own
of_line g config r records _ own = absurd own

all_of_line : (g : ℕ) (config : Config) (r : Lines) (records : ℕ → ℕ → List ℕ → Register) (xs : List Label) → AllByRecursion (IsOfLine config g r) xs → AllByRecursion (IsOfLine config g (record r { records = records })) xs
all_of_line g config r records [] own = tt
all_of_line g config r records (x ∷ xs) own = (of_line g config r records x own.0, all_of_line g config r records xs own.1)

one_label : (g : ℕ) (config : Config) (rules : Rules) (x : Label) (labels : List Label) (r : Lines) (t : ℕ → List ℕ → Register) → 1 ≤ g → IsOfLine config g r x →
    Each g rules r (x ∷ labels) t → Goes_on g config rules r x labels t
unfolding IsOfLine told_by_all told_by
one_label g config rules (Answered n asked a) labels r t real own h = ⊎_elim
    (λ (e : is_telling a ≡ true). told_answer g config rules n asked a labels r t real e (own.1 e).0 (own.1 e).1 h)
    (λ (e : is_telling a ≡ false). silent_answer g config rules n asked a labels r t own.0 e h)
    (cases_Bool (is_telling a))
one_label g config rules (Noted n (note.Vacuumed db key)) labels r t real own h = told_vacuum g config rules n db key labels r t real own.0 own.1 h
one_label g config rules (Noted n (note.Thawed h)) labels r t real own each = (r, thaw_accepted g h n r real own, each, refl, λ l ne. refl)
one_label g config rules _ labels r t real own h = absurd own

-- where each record's register accepts what the labels tell of the record, all registers accept them
pub weave : (g : ℕ) (config : Config) (rules : Rules) (labels : List Label) (r : Lines) (t : ℕ → List ℕ → Register) → 1 ≤ g → AllByRecursion (IsOfLine config g r) labels →
    Each g rules r labels t → Woven g config rules r labels t
unfolding told_by_all
weave g config rules [] r t real own h = (r, refl, (λ db key. sym (h db key)), refl, λ l ne. refl)
weave g config rules (x ∷ labels) r t real own h =
    let p = one_label g config rules x labels r t real own.0 h in
    let q = weave g config rules labels p.0 t real (subst (λ (l : Lines). AllByRecursion (IsOfLine config g l) labels) (sym p.3) (all_of_line g config r (p.0).records labels own.1)) p.2 in
    (q.0, (p.0, p.1, q.1), q.2, q.3 ∙ ap (λ (l : Lines). record l { records = (q.0).records }) p.3, λ l ne. q.4 l ne ∙ p.4 l ne)
