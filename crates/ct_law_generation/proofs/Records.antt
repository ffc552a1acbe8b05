-- A part of the rule of a record at a node: the calls that wait are exactly the open ones after it, too.
use Rattle.std.proofs.Common.{◌≡◌, ◌≢◌, ℕ, ◌<◌, ◌≤◌, Bool, true, false, cond, ◌||◌, List, [], ◌∷◌, ◌++◌, length, Option, Some, None, refl, sym, ap, ◌∙◌, subst, arith, ⊎_elim}
use Rattle.std.specs.Prelude.{nat_eq, nat_lt, slice_get}
use Rattle.std.proofs.lemmas.Bool.{cond_both, cases_eq, eq-eqb, eqb-true, ne_eqb, ltb-true, ltb-false, or_right, or_parts, cases_Bool}
use Rattle.ct_values.specs.Client.{db_of, key_of, wants_record}
use Rattle.ct_values.specs.declared.client.ClientOp.{ClientOp}
use Rattle.ct_values.specs.declared.client.ClientOp.TheVariants as op
use Rattle.ct_values.specs.declared.config.Config.{Config}
use Rattle.ct_store.specs.Map.{look}
use Rattle.ct_rules.specs.Parts.{Moving}
use Rattle.ct_rules.specs.declared.event.Place.{Place}
use Rattle.ct_rules.specs.declared.event.Act.{Act}
use Rattle.ct_rules.specs.declared.state.RecState.{RecState}
use Rattle.ct_rules.specs.declared.state.Wish.{Wish}
use Rattle.ct_rules_node.specs.Node.{Node, Database, Committing, state_at, db_at, with_db, or_nothing, or_untouched, untouched}
use Rattle.ct_rules_node.specs.Turn.{Turn}
use Rattle.ct_rules_node.specs.Records.{at_record, acted, put_back, place_of, view}
use Rattle.ct_rules_node.specs.Clients.{is_commit}
use Rattle.ct_law_rules_node.specs.NodeLaws.{NodeAscends, left_by, unless_blank}
use Rattle.ct_law_rules_node.proofs.AtRecord.{moves_at, at_set, at_other, set_past}
use Rattle.ct_law_generation.proofs.Forming.{or_second}
use Rattle.ct_law_generation.proofs.Vacuumed.{past_db}
use Rattle.ct_law_generation.specs.Shown.{is_it}
use Rattle.ct_law_generation.proofs.Weave.{it_is, it_is_itself}
use Rattle.ct_law_wishes.proofs.Wishing.{Wishful}
use Rattle.ct_law_generation.proofs.Amid.{other_state}
use Rattle.ct_law_record.proofs.Even.{answers_in, Even, number_of, even_is}
use Rattle.ct_law_generation.proofs.Opened.{Opened, without, without_all, answered_by, AllOpen, is_one, answered_more, without_more, open_more, open_first, open_rest, outs_answer, was_open, stays_open, is_later, only_one}
use Rattle.ct_law_generation.proofs.Accounts.{Wished, Committed, wish_call, commit_call, Stands, Account, wish_like, commit_like, same_asked, place_commit, place_wish, with_call, own_call, other_call, none_other}
use Rattle.ct_law_generation.proofs.Pending.{or_grows}

-- ---- the state of the record after it

pub kept_wish : (s : RecState) → (or_nothing (unless_blank s)).wish ≡ s.wish
unfolding unless_blank or_nothing
kept_wish s = grind arith

past_wish : (ds : List Database) (db : ℕ) (key : List ℕ) → length ds ≤ db → (or_nothing (look key (or_untouched (slice_get ds db)).records)).wish ≡ None
unfolding untouched or_nothing
past_wish ds db key l = ap (λ (d : Database). (or_nothing (look key d.records)).wish) (past_db ds db l)

wish_after : (c : Config) (n db : ℕ) (key : List ℕ) (part : Place → Moving → Moving) (t : Turn) → NodeAscends t.node → (length t.node.dbs ≤ db → (left_by c n db key part t).state.wish ≡ None) →
    (state_at db key (at_record c n db key part t).node).wish ≡ (left_by c n db key part t).state.wish
unfolding at_record acted put_back with_db state_at db_at
wish_after c n db key part t h none = cond_both (nat_lt db (length t.node.dbs)) true false (λ (_ : Bool). (state_at db key (at_record c n db key part t).node).wish ≡ (left_by c n db key part t).state.wish)
    (λ l. ap (λ (s : RecState). s.wish) ((moves_at c n db key part t h).seen (ltb-true db (length t.node.dbs) l)) ∙ kept_wish (left_by c n db key part t).state)
    (λ f. (let l = ltb-false db (length t.node.dbs) f in ap (λ (ds : List Database). (or_nothing (look key (or_untouched (slice_get ds db)).records)).wish) (set_past t.node.dbs db _ l) ∙ past_wish t.node.dbs db key l ∙ sym (none l)))

commit_after : (c : Config) (n db d : ℕ) (key : List ℕ) (part : Place → Moving → Moving) (t : Turn) → (db_at d (at_record c n db key part t).node).commit ≡ (db_at d t.node).commit
unfolding at_record acted put_back with_db db_at
commit_after c n db d key part t = ⊎_elim
    (λ (is : d ≡ db). subst (λ (i : ℕ). (or_untouched (slice_get (at_record c n db key part t).node.dbs i)).commit ≡ (or_untouched (slice_get t.node.dbs i)).commit) (sym is)
    (cond_both (nat_lt db (length t.node.dbs)) true false (λ (_ : Bool). (or_untouched (slice_get (at_record c n db key part t).node.dbs db)).commit ≡ (or_untouched (slice_get t.node.dbs db)).commit)
    (λ l. ap (λ (y : Database). y.commit) (at_set t.node.dbs db _ (ltb-true db (length t.node.dbs) l)))
    (λ f. ap (λ (ds : List Database). (or_untouched (slice_get ds db)).commit) (set_past t.node.dbs db _ (ltb-false db (length t.node.dbs) f)))))
    (λ (ne : d ≢ db). ap (λ (y : Database). y.commit) (at_other t.node.dbs db d _ ne))
    (cases_eq d db)

-- ---- what it answers

-- The calls of this place, before the part, which are xs: each is open now, and wants this record; one that was open before and is
-- none of these has another place.
pub record AtPlace (n : ℕ) (old now : Opened) (db : ℕ) (key : List ℕ) (xs : List ℕ) : Type 0 where
  pub opened : AllOpen n now xs
  pub mine : (k : ℕ) (o : ClientOp) → is_one k xs ≡ true → now k ≡ Some (n, o) → (is_commit o ≡ false) × (db_of o ≡ db) × (key_of o ≡ key)
  -- what is open of the others is what was
  pub more : (k : ℕ) (v : ℕ × ClientOp) → old k ≡ Some v → now k ≡ Some v
  pub others : (k : ℕ) (v : ℕ × ClientOp) → is_one k xs ≡ false → now k ≡ Some v → old k ≡ Some v
  -- and each that was open with this place is one of these
  pub all : (k : ℕ) (o : ClientOp) → old k ≡ Some (n, o) → is_commit o ≡ false → db_of o ≡ db → key_of o ≡ key → is_one k xs ≡ true

pub wants_place : (o : ClientOp) → wants_record o ≡ true → is_commit o ≡ false
unfolding wants_record is_commit
wants_place (op.Lock db key) e = refl
wants_place (op.Read db key) e = refl
wants_place (op.Write db key v) e = refl
wants_place (op.Apply db key f arg) e = refl
wants_place (op.Store db key v) e = refl
wants_place (op.Unlock db key) e = refl
wants_place (op.Commit db ws) e = absurd (cc)

first_one : (k : ℕ) (zs ys : List ℕ) → is_one k zs ≡ true → is_one k (zs ++ ys) ≡ true
first_one k [] ys e = absurd (cc)
first_one k (z ∷ zs) ys e = or_grows (nat_eq k z) (is_one k zs) (is_one k (zs ++ ys)) (first_one k zs ys) e

-- a call of another place is none of these that are answered
not_answered : (n : ℕ) (old now : Opened) (db : ℕ) (key : List ℕ) (xs zs ys : List ℕ) → AtPlace n old now db key xs → zs ++ ys ≡ xs → (k : ℕ) (o : ClientOp) → old k ≡ Some (n, o) → ((is_commit o ≡ false) → (db_of o ≡ db) → (key_of o ≡ key) → ⊥) → without_all zs now k ≡ Some (n, o)
not_answered n old now db key xs zs ys p whole k o e apart = stays_open zs now k (⊎_elim
    (λ (t : is_one k zs ≡ true). absurd (let m = p.mine k o (subst (λ (l : List ℕ). is_one k l ≡ true) whole (first_one k zs ys t)) (p.more k (n, o) e) in apart m.0 m.1 m.2))
    (λ (f : is_one k zs ≡ false). f)
    (cases_Bool (is_one k zs))) ∙ p.more k (n, o) e

still_open : (now : Opened) (n : ℕ) (zs : List ℕ) (w : Wish) → AllOpen n (without_all zs now) (number_of (Some w)) → now w.call ≡ Some (n, w.op) → without_all zs now w.call ≡ Some (n, w.op)
unfolding number_of AllOpen
still_open now n zs w h e = (let k = h.0.1 in k ∙ sym (was_open zs now w.call (n, h.0.0) k) ∙ e)

wish_still : (n : ℕ) (now : Opened) (db : ℕ) (key : List ℕ) (zs : List ℕ) (w : Option Wish) → AllOpen n (without_all zs now) (number_of w) → Wishful (Wished n now db key) w → Wishful (Wished n (without_all zs now) db key) w
unfolding Wishful Wished
wish_still n now db key zs None o h = tt
wish_still n now db key zs (Some w) o h = (still_open now n zs w o h.0, h.1, h.2, h.3)

the_wish : (w : Wish) (k : ℕ) → w.call ≡ k → wish_call (Some w) ≡ Some k
unfolding wish_call
the_wish w k e = ap (λ (i : ℕ). Some i) e

not_it : (d : ℕ) (k : List ℕ) (db : ℕ) (key : List ℕ) → is_it d k db key ≡ false → d ≡ db → k ≡ key → ⊥
not_it d k db key unlike e f = absurd (let t = sym (it_is_itself d k) ∙ ap (λ (i : ℕ). is_it d k i k) e ∙ ap (λ (l : List ℕ). is_it d k db l) f ∙ unlike in cc)

-- The part leaves the calls of its place even: what it answers, and then the call that waits after it, are these calls.
pub record_stands : (c : Config) (n db : ℕ) (key : List ℕ) (part : Place → Moving → Moving) (t : Turn) (old now : Opened) (xs : List ℕ) → Stands n old t.node → AtPlace n old now db key xs →
    (length t.node.dbs ≤ db → (left_by c n db key part t).state.wish ≡ None) → Even xs (left_by c n db key part t).acts (left_by c n db key part t).state.wish → Wishful (Wished n now db key) (left_by c n db key part t).state.wish →
    Stands n (without_all (answers_in (left_by c n db key part t).acts) now) (at_record c n db key part t).node
unfolding Committed is_commit
record_stands c n db key part t old now xs s p past even wished =
    let o = left_by c n db key part t in
    let u = (at_record c n db key part t).node in
    let zs = answers_in o.acts in
    let whole : zs ++ number_of o.state.wish ≡ xs = even_is xs o.acts o.state.wish even in
    let here : (state_at db key u).wish ≡ o.state.wish = wish_after c n db key part t s.order past in
    let open_after : AllOpen n (without_all zs now) (number_of o.state.wish) = open_rest n now zs (number_of o.state.wish) (subst (λ (l : List ℕ). AllOpen n now l) (sym whole) p.opened) in
    record {
      order = (moves_at c n db key part t s.order).order;
      wishes = λ d k. ⊎_elim
          (λ (is : is_it d k db key ≡ true). (let q = it_is d db k key is in
          subst (λ (i : ℕ). Wishful (Wished n (without_all zs now) i k) (state_at i k u).wish) q.0 (subst (λ (l : List ℕ). Wishful (Wished n (without_all zs now) db l) (state_at db l u).wish) q.1
          (subst (λ (w : Option Wish). Wishful (Wished n (without_all zs now) db key) w) (sym here) (wish_still n now db key zs o.state.wish open_after wished)))))
          (λ (unlike : is_it d k db key ≡ false). subst (λ (r : RecState). Wishful (Wished n (without_all zs now) d k) r.wish) (sym (other_state c n db d key k part t s.order unlike))
          (wish_like n old (without_all zs now) d k (state_at d k t.node).wish
          (λ call asked waits e wants of_db of_key. not_answered n old now db key xs zs (number_of o.state.wish) p whole call asked e (λ none is_db is_key. not_it d k db key unlike (sym of_db ∙ is_db) (sym of_key ∙ is_key)))
          (s.wishes d k)))
          (cases_Bool (is_it d k db key));
      commits = λ d. subst (λ (x : Option Committing). Committed n (without_all zs now) d x) (sym (commit_after c n db d key part t))
          (commit_like n old (without_all zs now) d (db_at d t.node).commit (λ y at e. not_answered n old now db key xs zs (number_of o.state.wish) p whole y.call (op.Commit d y.writes) e (λ none is_db is_key. absurd (cc))) (s.commits d));
      waits = λ k asked e. ⊎_elim
          (λ (is : is_one k xs ≡ true). (let m = p.mine k asked is (was_open zs now k (n, asked) e) in
          let w = only_one k o.state.wish (is_later zs (number_of o.state.wish) now k (n, asked) (subst (λ (l : List ℕ). is_one k l ≡ true) (sym whole) is) e) in
          place_wish asked u m.0 ∙ ap (λ (i : ℕ). wish_call (state_at i (key_of asked) u).wish) m.1 ∙ ap (λ (l : List ℕ). wish_call (state_at db l u).wish) m.2 ∙ ap wish_call (here ∙ w.1) ∙ the_wish w.0 k w.2))
          (λ (no : is_one k xs ≡ false). (let was = p.others k (n, asked) no (was_open zs now k (n, asked) e) in ⊎_elim
          (λ (co : is_commit asked ≡ true). place_commit asked u co ∙ ap commit_call (commit_after c n db (db_of asked) key part t) ∙ sym (place_commit asked t.node co) ∙ s.waits k asked was)
          (λ (no_co : is_commit asked ≡ false). ⊎_elim
          (λ (it : is_it (db_of asked) (key_of asked) db key ≡ true). absurd (let q = it_is (db_of asked) db (key_of asked) key it in let t = sym (p.all k asked was no_co (sym q.0) (sym q.1)) ∙ no in cc))
          (λ (unlike : is_it (db_of asked) (key_of asked) db key ≡ false). place_wish asked u no_co ∙ ap (λ (r : RecState). wish_call r.wish) (other_state c n db (db_of asked) key (key_of asked) part t s.order unlike) ∙ sym (place_wish asked t.node no_co) ∙ s.waits k asked was)
          (cases_Bool (is_it (db_of asked) (key_of asked) db key)))
          (cases_Bool (is_commit asked))))
          (cases_Bool (is_one k xs));
    }

-- ---- a part that no call begins

-- the part answers only the call that waits, once
abbrev pub IsEven : (Place → Moving → Moving) → Type 0
IsEven part = (xs : List ℕ) (at : Place) (o : Moving) → Even xs o.acts o.state.wish → Even xs (part at o).acts (part at o).state.wish

-- and the call that waits after it is one that waited, with what it asked
abbrev pub KeepsAsked : (Place → Moving → Moving) → Type 1
KeepsAsked part = (P : ℕ → ClientOp → Type 0) (at : Place) (o : Moving) → Wishful P o.state.wish → Wishful P (part at o).state.wish

pub even_start : (n : ℕ) (who : Opened) (db : ℕ) (key : List ℕ) (w : Option Wish) → Wishful (Wished n who db key) w → Even (number_of w) [] w
unfolding Even number_of answers_in Wishful Wished
even_start n who db key None h = refl
even_start n who db key (Some w) h = (refl, h.3)

opened_start : (n : ℕ) (who : Opened) (db : ℕ) (key : List ℕ) (w : Option Wish) → Wishful (Wished n who db key) w → AllOpen n who (number_of w)
unfolding number_of AllOpen Wishful Wished
opened_start n who db key None h = tt
opened_start n who db key (Some w) h = ((w.op, h.0), tt)

the_asked : (n : ℕ) (who : Opened) (db : ℕ) (key : List ℕ) (k : ℕ) (o : ClientOp) (w : Wish) → Wishful (Wished n who db key) (Some w) → w.call ≡ k → who k ≡ Some (n, o) → (is_commit o ≡ false) × (db_of o ≡ db) × (key_of o ≡ key)
unfolding Wishful Wished
the_asked n who db key k o w h is e = (let same : w.op ≡ o = same_asked h.0 (ap who is ∙ e) in
    (ap is_commit (sym same) ∙ wants_place w.op h.3, ap db_of (sym same) ∙ h.1, ap key_of (sym same) ∙ h.2))

asked_mine : (n : ℕ) (who : Opened) (db : ℕ) (key : List ℕ) (w : Option Wish) → Wishful (Wished n who db key) w → (k : ℕ) (o : ClientOp) → is_one k (number_of w) ≡ true → who k ≡ Some (n, o) → (is_commit o ≡ false) × (db_of o ≡ db) × (key_of o ≡ key)
asked_mine n who db key w h k o is e = (let x = only_one k w is in the_asked n who db key k o x.0 (subst (λ (y : Option Wish). Wishful (Wished n who db key) y) x.1 h) x.2 e)

is_itself : (k : ℕ) → (nat_eq k k || false) ≡ true
is_itself k = rw (eq-eqb k k refl) refl

call_one : (w : Option Wish) (k : ℕ) → wish_call w ≡ Some k → is_one k (number_of w) ≡ true
unfolding wish_call number_of
call_one None k e = absurd (cc)
call_one (Some w) k e = (let same : w.call ≡ k = cc in subst (λ (i : ℕ). is_one k (i ∷ []) ≡ true) (sym same) (is_itself k))

place_all : (n : ℕ) (who : Opened) (db : ℕ) (key : List ℕ) (x : Node) → Stands n who x → (k : ℕ) (o : ClientOp) → who k ≡ Some (n, o) → is_commit o ≡ false → db_of o ≡ db → key_of o ≡ key → is_one k (number_of (state_at db key x).wish) ≡ true
place_all n who db key x s k o e co is_db is_key = call_one (state_at db key x).wish k
    (sym (place_wish o x co ∙ ap (λ (i : ℕ). wish_call (state_at i (key_of o) x).wish) is_db ∙ ap (λ (l : List ℕ). wish_call (state_at db l x).wish) is_key) ∙ s.waits k o e)

at_place : (n : ℕ) (who : Opened) (db : ℕ) (key : List ℕ) (x : Node) → Stands n who x → AtPlace n who who db key (number_of (state_at db key x).wish)
at_place n who db key x s = record {
  opened = opened_start n who db key (state_at db key x).wish (s.wishes db key);
  mine = asked_mine n who db key (state_at db key x).wish (s.wishes db key);
  more = λ k v e. e;
  others = λ k v no e. e;
  all = place_all n who db key x s;
}

nil_first : (xs ys : List ℕ) → xs ++ ys ≡ [] → ys ≡ []
nil_first [] ys e = e
nil_first (x ∷ xs) ys e = absurd (cc)

no_number : (w : Option Wish) → number_of w ≡ [] → w ≡ None
unfolding number_of
no_number None e = refl
no_number (Some w) e = absurd (cc)

even_nil : (as' : List Act) (w : Option Wish) → Even [] as' w → w ≡ None
even_nil as' w h = no_number w (nil_first (answers_in as') (number_of w) (even_is [] as' w h))

none_past : (x : Node) (db : ℕ) (key : List ℕ) → length x.dbs ≤ db → (state_at db key x).wish ≡ None
unfolding state_at db_at
none_past x db key l = past_wish x.dbs db key l

pub number_none : (w : Option Wish) → w ≡ None → number_of w ≡ []
unfolding number_of
number_none None e = refl
number_none (Some w) e = absurd (cc)

outs_after : (c : Config) (n db : ℕ) (key : List ℕ) (part : Place → Moving → Moving) (t : Turn) → answered_by (at_record c n db key part t).outs ≡ answered_by t.outs ++ answers_in (left_by c n db key part t).acts
unfolding at_record acted
outs_after c n db key part t = answered_more t.outs _ ∙ ap (λ (l : List ℕ). answered_by t.outs ++ l) (outs_answer t.node.generation n db key (left_by c n db key part t).acts)

pub at_record_kept : {who : Opened} {n : ℕ} (c : Config) (db : ℕ) (key : List ℕ) (part : Place → Moving → Moving) (t : Turn) → IsEven part → KeepsAsked part → Account who n t → Account who n (at_record c n db key part t)
unfolding view place_of
at_record_kept {who} {n} c db key part t even keeps a =
    let now = without_all (answered_by t.outs) who in
    let o = left_by c n db key part t in
    let w = (state_at db key t.node).wish in
    let p = at_place n now db key t.node a.stands in
    let e : Even (number_of w) o.acts o.state.wish = even (number_of w) (place_of c n db key t.node) (view db key t.node) (even_start n now db key w (a.stands.wishes db key)) in
    let all_open : AllOpen n now (answers_in o.acts) = open_first n now (answers_in o.acts) (number_of o.state.wish) (subst (λ (l : List ℕ). AllOpen n now l) (sym (even_is (number_of w) o.acts o.state.wish e)) p.opened) in
    record {
      asked = subst (λ (l : List ℕ). AllOpen n who l) (sym (outs_after c n db key part t)) (open_more n who (answered_by t.outs) (answers_in o.acts) a.asked all_open);
      stands = subst (λ (l : List ℕ). Stands n (without_all l who) (at_record c n db key part t).node) (sym (outs_after c n db key part t))
          (subst (λ (f : Opened). Stands n f (at_record c n db key part t).node) (sym (without_more (answered_by t.outs) (answers_in o.acts) who))
          (record_stands c n db key part t now now (number_of w) a.stands p
          (λ l. even_nil o.acts o.state.wish (subst (λ (xs : List ℕ). Even xs o.acts o.state.wish) (number_none w (none_past t.node db key l)) e)) e
          (keeps (Wished n now db key) (place_of c n db key t.node) (view db key t.node) (a.stands.wishes db key))));
    }

-- ---- a part that a call begins

not_same : (k call : ℕ) → nat_eq k call ≡ false → k ≢ call
not_same k call e is = absurd (let t = sym (eq-eqb k call is) ∙ e in cc)

still_number : (n call : ℕ) (o : ClientOp) (who : Opened) (db : ℕ) (key : List ℕ) (w : Option Wish) → who call ≡ None → Wishful (Wished n who db key) w → AllOpen n (without call (with_call call (n, o) who)) (number_of w)
unfolding number_of AllOpen Wishful Wished without
still_number n call o who db key None fresh h = tt
still_number n call o who db key (Some w) fresh h = (let ne = none_other who call w.call (n, w.op) fresh h.0 in
    ((w.op, ap (λ (b : Bool). cond b None (with_call call (n, o) who w.call)) (ne_eqb w.call call ne) ∙ other_call call w.call (n, o) who ne ∙ h.0), tt))

with_at_place : (n call : ℕ) (o : ClientOp) (who : Opened) (db : ℕ) (key : List ℕ) (x : Node) → who call ≡ None → is_commit o ≡ false → db_of o ≡ db → key_of o ≡ key → Stands n who x →
    AtPlace n who (with_call call (n, o) who) db key (call ∷ number_of (state_at db key x).wish)
unfolding AllOpen
with_at_place n call o who db key x fresh no_commit of_db of_key s = record {
  opened = ((o, own_call call (n, o) who), still_number n call o who db key (state_at db key x).wish fresh (s.wishes db key));
  mine = λ k asked is e. ⊎_elim
      (λ (t : nat_eq k call ≡ true). (let same : o ≡ asked = same_asked (own_call call (n, o) who) (ap (with_call call (n, o) who) (sym (eqb-true k call t)) ∙ e) in
      (ap is_commit (sym same) ∙ no_commit, ap db_of (sym same) ∙ of_db, ap key_of (sym same) ∙ of_key)))
      (λ (f : nat_eq k call ≡ false). asked_mine n who db key (state_at db key x).wish (s.wishes db key) k asked (or_second (nat_eq k call) _ f is) (sym (other_call call k (n, o) who (not_same k call f)) ∙ e))
      (cases_Bool (nat_eq k call));
  more = λ k v e. other_call call k (n, o) who (none_other who call k v fresh e) ∙ e;
  others = λ k v no e. sym (other_call call k (n, o) who (not_same k call (or_parts (nat_eq k call) _ no).0)) ∙ e;
  all = λ k asked e co is_db is_key. or_right (nat_eq k call) _ (place_all n who db key x s k asked e co is_db is_key);
}

pub wish_more : (n call : ℕ) (o : ClientOp) (who : Opened) (db : ℕ) (key : List ℕ) (w : Option Wish) → who call ≡ None → Wishful (Wished n who db key) w → Wishful (Wished n (with_call call (n, o) who) db key) w
wish_more n call o who db key w fresh h = wish_like n who (with_call call (n, o) who) db key w (λ k asked is e wants of_db of_key. other_call call k (n, o) who (none_other who call k (n, asked) fresh e) ∙ e) h

-- The call of this number comes, and what the part answers, and then the call that waits, are this call and the one that waited.
pub call_kept : (who : Opened) (n : ℕ) (c : Config) (db : ℕ) (key : List ℕ) (part : Place → Moving → Moving) (t : Turn) (call : ℕ) (o : ClientOp) → t.outs ≡ [] → who call ≡ None → is_commit o ≡ false → db_of o ≡ db → key_of o ≡ key → db < length t.node.dbs →
    Stands n who t.node → Even (call ∷ number_of (state_at db key t.node).wish) (left_by c n db key part t).acts (left_by c n db key part t).state.wish →
    Wishful (Wished n (with_call call (n, o) who) db key) (left_by c n db key part t).state.wish → Account (with_call call (n, o) who) n (at_record c n db key part t)
unfolding answers_in answered_by
call_kept who n c db key part t call o none fresh no_commit of_db of_key has s even wished =
    let now = with_call call (n, o) who in
    let q = left_by c n db key part t in
    let p = with_at_place n call o who db key t.node fresh no_commit of_db of_key s in
    let outs : answered_by (at_record c n db key part t).outs ≡ answers_in q.acts = outs_after c n db key part t ∙ ap (λ (l : List _). answered_by l ++ answers_in q.acts) none in
    record {
      asked = subst (λ (l : List ℕ). AllOpen n now l) (sym outs)
          (open_first n now (answers_in q.acts) (number_of q.state.wish) (subst (λ (l : List ℕ). AllOpen n now l) (sym (even_is (call ∷ number_of (state_at db key t.node).wish) q.acts q.state.wish even)) p.opened));
      stands = subst (λ (l : List ℕ). Stands n (without_all l now) (at_record c n db key part t).node) (sym outs)
          (record_stands c n db key part t who now (call ∷ number_of (state_at db key t.node).wish) s p (λ l. absurd (omega arith)) even wished);
    }
