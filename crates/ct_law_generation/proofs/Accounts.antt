-- At a node the calls that wait are exactly its open ones, each with what it asked.
use Rattle.std.proofs.Common.{◌≡◌, ◌≢◌, ℕ, zero, suc, ◌<◌, ◌≤◌, Bool, true, false, cond, List, [], ◌∷◌, ◌++◌, length, set, Option, Some, None, refl, sym, ap, ◌∙◌, subst, arith, ⊎_elim}
use Rattle.std.specs.Prelude.{nat_eq, nat_lt, slice_get}
use Rattle.std.proofs.lemmas.Bool.{cond_both, cases_eq, eq-eqb, ne_eqb, ltb-true, ltb-false, cases_Bool}
use Rattle.ct_values.specs.Client.{db_of, key_of, wants_record}
use Rattle.ct_values.specs.declared.client.Answer.{Answer}
use Rattle.ct_values.specs.declared.client.ClientOp.{ClientOp}
use Rattle.ct_values.specs.declared.client.ClientOp.TheVariants as op
use Rattle.ct_values.specs.declared.client.Pair.{Pair}
use Rattle.ct_store.specs.Map.{look}
use Rattle.ct_rules.specs.declared.state.RecState.{RecState}
use Rattle.ct_rules.specs.declared.state.Wish.{Wish}
use Rattle.ct_rules_node.specs.Node.{Node, Database, Committing, state_at, db_at, with_db, or_nothing, or_untouched, untouched}
use Rattle.ct_rules_node.specs.Turn.{Turn, does, answers}
use Rattle.ct_rules_node.specs.Clients.{is_commit}
use Rattle.ct_law_rules_node.specs.NodeLaws.{AllAscend, NodeAscends}
use Rattle.ct_law_rules_node.proofs.AtRecord.{at_set, at_other, set_past, all_set, at_ascends}
use Rattle.ct_frame.specs.declared.event.Out.{Out}
use Rattle.ct_frame.specs.declared.event.Out.TheVariants as out
use Rattle.ct_law_wishes.proofs.Wishing.{Wishful}
use Rattle.ct_law_generation.proofs.Opened.{Opened, without, without_all, answered_by, AllOpen, stays_case, case_open, some_none}

-- ---- what waits, and what is open

-- the call that waits for the record was made at the node, and asked for the record
unfoldable pub Wished : ℕ → Opened → ℕ → List ℕ → ℕ → ClientOp → Type 0
Wished n who db key call asked = (who call ≡ Some (n, asked)) × (db_of asked ≡ db) × (key_of asked ≡ key) × (wants_record asked ≡ true)

unfoldable pub Committed : ℕ → Opened → ℕ → Option Committing → Type 0
Committed n who db None = Unit {0}
Committed n who db (Some x) = who x.call ≡ Some (n, op.Commit db x.writes)

unfoldable pub wish_call : Option Wish → Option ℕ
wish_call None = None
wish_call (Some w) = Some w.call

unfoldable pub commit_call : Option Committing → Option ℕ
commit_call None = None
commit_call (Some x) = Some x.call

-- the call that waits where one with this operation would
unfoldable pub place_call : ClientOp → Node → Option ℕ
place_call o x = cond (is_commit o) (commit_call (db_at (db_of o) x).commit) (wish_call (state_at (db_of o) (key_of o) x).wish)

pub record Stands (n : ℕ) (who : Opened) (x : Node) : Type 0 where
  pub order : NodeAscends x
  -- each call that waits is open, of this node and with what it asked
  pub wishes : (db : ℕ) (key : List ℕ) → Wishful (Wished n who db key) (state_at db key x).wish
  pub commits : (db : ℕ) → Committed n who db (db_at db x).commit
  -- and each open one of this node waits
  pub waits : (k : ℕ) (o : ClientOp) → who k ≡ Some (n, o) → place_call o x ≡ Some k

-- so it is in the middle of a step: each answer was to an open call, and what is left stands
pub record Account (who : Opened) (n : ℕ) (t : Turn) : Type 0 where
  pub asked : AllOpen n who (answered_by t.outs)
  pub stands : Stands n (without_all (answered_by t.outs) who) t.node

-- ---- the same calls wait

place_same : (o : ClientOp) (x y : Node) → ((db : ℕ) (key : List ℕ) → (state_at db key y).wish ≡ (state_at db key x).wish) → ((db : ℕ) → (db_at db y).commit ≡ (db_at db x).commit) → place_call o y ≡ place_call o x
unfolding place_call
place_same o x y wish commit = ap (λ (a : Option Committing). cond (is_commit o) (commit_call a) (wish_call (state_at (db_of o) (key_of o) y).wish)) (commit (db_of o))
    ∙ ap (λ (a : Option Wish). cond (is_commit o) (commit_call (db_at (db_of o) x).commit) (wish_call a)) (wish (db_of o) (key_of o))

pub same_stands : (n : ℕ) (who : Opened) (x y : Node) → NodeAscends y → ((db : ℕ) (key : List ℕ) → (state_at db key y).wish ≡ (state_at db key x).wish) → ((db : ℕ) → (db_at db y).commit ≡ (db_at db x).commit) → Stands n who x → Stands n who y
same_stands n who x y order wish commit s = record {
  order = order;
  wishes = λ db key. subst (λ (w : Option Wish). Wishful (Wished n who db key) w) (sym (wish db key)) (s.wishes db key);
  commits = λ db. subst (λ (c : Option Committing). Committed n who db c) (sym (commit db)) (s.commits db);
  waits = λ k o e. place_same o x y wish commit ∙ s.waits k o e;
}

pub same_kept : {who : Opened} {here : ℕ} {t : Turn} (u : Turn) → answered_by u.outs ≡ answered_by t.outs → NodeAscends u.node → ((db : ℕ) (key : List ℕ) → (state_at db key u.node).wish ≡ (state_at db key t.node).wish) → ((db : ℕ) → (db_at db u.node).commit ≡ (db_at db t.node).commit) →
    Account who here t → Account who here u
same_kept {who} {here} {t} u outs order wish commit s = record {
  asked = subst (λ (l : List ℕ). AllOpen here who l) (sym outs) s.asked;
  stands = subst (λ (l : List ℕ). Stands here (without_all l who) u.node) (sym outs) (same_stands here (without_all (answered_by t.outs) who) t.node u.node order wish commit s.stands);
}

-- ---- the same calls are open

pub wish_like : (n : ℕ) (who now : Opened) (db : ℕ) (key : List ℕ) (w : Option Wish) → ((call : ℕ) (o : ClientOp) → wish_call w ≡ Some call → who call ≡ Some (n, o) → wants_record o ≡ true → db_of o ≡ db → key_of o ≡ key → now call ≡ Some (n, o)) → Wishful (Wished n who db key) w → Wishful (Wished n now db key) w
unfolding Wishful Wished wish_call
wish_like n who now db key None f h = tt
wish_like n who now db key (Some w) f h = (f w.call w.op refl h.0 h.3 h.1 h.2, h.1, h.2, h.3)

pub commit_like : (n : ℕ) (who now : Opened) (db : ℕ) (x : Option Committing) → ((y : Committing) → x ≡ Some y → who y.call ≡ Some (n, op.Commit db y.writes) → now y.call ≡ Some (n, op.Commit db y.writes)) → Committed n who db x → Committed n now db x
unfolding Committed
commit_like n who now db None f h = tt
commit_like n who now db (Some y) f h = f y refl h

pub like_stands : (n : ℕ) (who now : Opened) (x : Node) → ((k : ℕ) → who k ≡ now k) → Stands n who x → Stands n now x
like_stands n who now x like s = record {
  order = s.order;
  wishes = λ db key. wish_like n who now db key (state_at db key x).wish (λ call o is e wants of_db of_key. sym (like call) ∙ e) (s.wishes db key);
  commits = λ db. commit_like n who now db (db_at db x).commit (λ y is e. sym (like y.call) ∙ e) (s.commits db);
  waits = λ k o e. s.waits k o (like k ∙ e);
}

-- ---- another commit

abbrev pub with_committing : ℕ → Option Committing → Node → Node
with_committing db c x = with_db db (record (db_at db x) { commit = c }) x

committing_db : (db d : ℕ) (c : Option Committing) (x : Node) → (db_at d (with_committing db c x)).records ≡ (db_at d x).records
unfolding with_db db_at
committing_db db d c x = ⊎_elim
    (λ (is : d ≡ db). subst (λ (i : ℕ). (or_untouched (slice_get (set x.dbs db (record (db_at db x) { commit = c })) i)).records ≡ (or_untouched (slice_get x.dbs i)).records) (sym is)
    (cond_both (nat_lt db (length x.dbs)) true false (λ (_ : Bool). (or_untouched (slice_get (set x.dbs db (record (db_at db x) { commit = c })) db)).records ≡ (or_untouched (slice_get x.dbs db)).records)
    (λ t. ap (λ (y : Database). y.records) (at_set x.dbs db _ (ltb-true db (length x.dbs) t)))
    (λ f. ap (λ (ds : List Database). (or_untouched (slice_get ds db)).records) (set_past x.dbs db _ (ltb-false db (length x.dbs) f)))))
    (λ (ne : d ≢ db). ap (λ (y : Database). y.records) (at_other x.dbs db d _ ne))
    (cases_eq d db)

pub committing_state : (db d : ℕ) (key : List ℕ) (c : Option Committing) (x : Node) → state_at d key (with_committing db c x) ≡ state_at d key x
unfolding state_at
committing_state db d key c x = ap (λ (m : List (List ℕ × RecState)). or_nothing (look key m)) (committing_db db d c x)

pub committing_other : (db d : ℕ) (c : Option Committing) (x : Node) → d ≢ db → db_at d (with_committing db c x) ≡ db_at d x
unfolding with_db db_at
committing_other db d c x ne = at_other x.dbs db d _ ne

pub committing_own : (db : ℕ) (c : Option Committing) (x : Node) → db < length x.dbs → (db_at db (with_committing db c x)).commit ≡ c
unfolding with_db db_at
committing_own db c x l = ap (λ (y : Database). y.commit) (at_set x.dbs db _ l)

pub committing_order : (db : ℕ) (c : Option Committing) (x : Node) → NodeAscends x → NodeAscends (with_committing db c x)
unfolding with_db db_at AllAscend
committing_order db c x order = all_set (λ (y : Database). _) x.dbs db _ (at_ascends x.dbs db order) order

past_commit : (dbs : List Database) (db : ℕ) → length dbs ≤ db → (or_untouched (slice_get dbs db)).commit ≡ None
unfolding or_untouched untouched
past_commit [] db l = refl
past_commit (d ∷ ds) zero l = absurd (omega arith)
past_commit (d ∷ ds) (suc db) l = past_commit ds db (omega arith)

pub has_db : (db : ℕ) (x : Node) (y : Committing) → (db_at db x).commit ≡ Some y → db < length x.dbs
unfolding db_at
has_db db x y e = cond_both (nat_lt db (length x.dbs)) true false (λ (_ : Bool). db < length x.dbs) (λ t. ltb-true db (length x.dbs) t)
    (λ f. absurd (some_commit y (sym e ∙ past_commit x.dbs db (ltb-false db (length x.dbs) f))))
  where
    some_commit : (y : Committing) → Some y ≢ None
    some_commit y e = absurd (cc)

-- ---- a commit ends

pub wants_no_commit : (o : ClientOp) (db : ℕ) (ws : List _) → wants_record o ≡ true → o ≢ op.Commit db ws
unfolding wants_record
wants_no_commit o db ws e is = absurd (let k : wants_record (op.Commit db ws) ≡ true = subst (λ (x : ClientOp). wants_record x ≡ true) is e in cc)

asked_of : Option (ℕ × ClientOp) → ClientOp
asked_of None = op.Unlock 0 []
asked_of (Some p) = p.1

pub same_asked : {n : ℕ} {a b : ClientOp} {x : Option (ℕ × ClientOp)} → x ≡ Some (n, a) → x ≡ Some (n, b) → a ≡ b
unfolding asked_of
same_asked e f = ap asked_of (sym e ∙ f)

pub is_still : (who : Opened) (k call : ℕ) (v : ℕ × ClientOp) → k ≢ call → who k ≡ Some v → without call who k ≡ Some v
unfolding without
is_still who k call v ne e = stays_case (nat_eq k call) (who k) (ne_eqb k call ne) ∙ e

pub place_commit : (o : ClientOp) (x : Node) → is_commit o ≡ true → place_call o x ≡ commit_call (db_at (db_of o) x).commit
unfolding place_call
place_commit o x e = rw e refl

pub place_wish : (o : ClientOp) (x : Node) → is_commit o ≡ false → place_call o x ≡ wish_call (state_at (db_of o) (key_of o) x).wish
unfolding place_call
place_wish o x e = rw e refl

the_call : (y : Committing) (k : ℕ) → commit_call (Some y) ≡ Some k → k ≡ y.call
unfolding commit_call
the_call y k e = cc

ends_place : (o : ClientOp) (db k : ℕ) (x : Node) (y : Committing) → (db_at db x).commit ≡ Some y → nat_eq k y.call ≡ false → place_call o x ≡ Some k → place_call o (with_committing db None x) ≡ Some k
ends_place o db k x y is ne e = ⊎_elim
    (λ (c : is_commit o ≡ true). place_commit o (with_committing db None x) c ∙ ⊎_elim
    (λ (same : db_of o ≡ db). absurd (not_own (the_call y k (ap commit_call (sym is) ∙ ap (λ (d : ℕ). commit_call (db_at d x).commit) (sym same) ∙ sym (place_commit o x c) ∙ e))))
    (λ (other : db_of o ≢ db). ap (λ (d : Database). commit_call d.commit) (committing_other db (db_of o) None x other) ∙ sym (place_commit o x c) ∙ e)
    (cases_eq (db_of o) db))
    (λ (w : is_commit o ≡ false). place_wish o (with_committing db None x) w ∙ ap (λ (r : RecState). wish_call r.wish) (committing_state db (db_of o) (key_of o) None x) ∙ sym (place_wish o x w) ∙ e)
    (cases_Bool (is_commit o))
  where
    not_own : k ≢ y.call
    not_own same = absurd (let t = sym (eq-eqb k y.call same) ∙ ne in cc)

pub commit_ends : (n db : ℕ) (who : Opened) (x : Node) (y : Committing) → (db_at db x).commit ≡ Some y → Stands n who x → Stands n (without y.call who) (with_committing db None x)
unfolding Committed without
commit_ends n db who x y is s =
    let v = with_committing db None x in
    let mine : who y.call ≡ Some (n, op.Commit db y.writes) = subst (λ (c : Option Committing). Committed n who db c) is (s.commits db) in
    record {
      order = committing_order db None x s.order;
      wishes = λ d key. subst (λ (r : RecState). Wishful (Wished n (without y.call who) d key) r.wish) (sym (committing_state db d key None x))
          (wish_like n who (without y.call who) d key (state_at d key x).wish
          (λ call o waits e wants of_db of_key. is_still who call y.call (n, o) (λ (same : call ≡ y.call). wants_no_commit o db y.writes wants (same_asked e (ap who same ∙ mine))) e) (s.wishes d key));
      commits = λ d. ⊎_elim
          (λ (same : d ≡ db). subst (λ (i : ℕ). Committed n (without y.call who) i (db_at i v).commit) (sym same) (subst (λ (c : Option Committing). Committed n (without y.call who) db c) (sym (committing_own db None x (has_db db x y is))) tt))
          (λ (ne : d ≢ db). subst (λ (z : Database). Committed n (without y.call who) d z.commit) (sym (committing_other db d None x ne))
          (commit_like n who (without y.call who) d (db_at d x).commit (λ z at e. is_still who z.call y.call _ (λ (same : z.call ≡ y.call). ne (ap db_of (same_asked e (ap who same ∙ mine)))) e) (s.commits d)))
          (cases_eq d db);
      waits = λ k o e. (let p = case_open (nat_eq k y.call) (who k) (Some (n, o)) e (some_none (n, o)) in ends_place o db k x y is p.0 (s.waits k o p.1));
    }

-- ---- a call comes

-- the calls that are open, with one more
abbrev pub with_call : ℕ → ℕ × ClientOp → Opened → Opened
with_call call x who k = cond (nat_eq k call) (Some x) (who k)

pub own_call : (call : ℕ) (x : ℕ × ClientOp) (who : Opened) → with_call call x who call ≡ Some x
own_call call x who = ap (λ (b : Bool). cond b (Some x) (who call)) (eq-eqb call call refl)

pub other_call : (call k : ℕ) (x : ℕ × ClientOp) (who : Opened) → k ≢ call → with_call call x who k ≡ who k
other_call call k x who ne = ap (λ (b : Bool). cond b (Some x) (who k)) (ne_eqb k call ne)

pub none_other : (who : Opened) (call k : ℕ) (v : ℕ × ClientOp) → who call ≡ None → who k ≡ Some v → k ≢ call
none_other who call k v none e is = absurd (let t : Some v ≡ None = sym e ∙ ap who is ∙ none in cc)

-- a call that comes and is answered at once: what was open stays so
closed_same : (call : ℕ) (x : ℕ × ClientOp) (who : Opened) → who call ≡ None → (k : ℕ) → who k ≡ without call (with_call call x who) k
unfolding without
closed_same call x who none k = ⊎_elim
    (λ (is : k ≡ call). ap who is ∙ none ∙ sym (ap (λ (b : Bool). cond b None (with_call call x who k)) (eq-eqb k call is)))
    (λ (ne : k ≢ call). sym (ap (λ (b : Bool). cond b None (with_call call x who k)) (ne_eqb k call ne) ∙ other_call call k x who ne))
    (cases_eq k call)

pub answers_kept : (who : Opened) (n call : ℕ) (asked : ClientOp) (a : Answer) (t : Turn) → t.outs ≡ [] → who call ≡ None → Stands n who t.node → Account (with_call call (n, asked) who) n (answers call a t)
unfolding answers does answered_by AllOpen without_all
answers_kept who n call asked a t none fresh s = subst (λ (l : List Out). Account (with_call call (n, asked) who) n (record t { outs = l ++ out.Answer call a ∷ [] })) (sym none)
    (record { asked = ((asked, own_call call (n, asked) who), tt); stands = like_stands n who (without call (with_call call (n, asked) who)) t.node (closed_same call (n, asked) who fresh) s })

its_call : (y : Committing) (k : ℕ) → y.call ≡ k → commit_call (Some y) ≡ Some k
unfolding commit_call
its_call y k e = ap (λ (i : ℕ). Some i) e

no_call : (k : ℕ) → commit_call None ≢ Some k
unfolding commit_call
no_call k e = absurd (cc)

waits_place : (o : ClientOp) (db k : ℕ) (x : Node) (y : Committing) → (db_at db x).commit ≡ None → place_call o x ≡ Some k → place_call o (with_committing db (Some y) x) ≡ Some k
waits_place o db k x y none e = ⊎_elim
    (λ (c : is_commit o ≡ true). place_commit o (with_committing db (Some y) x) c ∙ ⊎_elim
    (λ (same : db_of o ≡ db). absurd (no_call k (ap commit_call (sym none) ∙ ap (λ (d : ℕ). commit_call (db_at d x).commit) (sym same) ∙ sym (place_commit o x c) ∙ e)))
    (λ (other : db_of o ≢ db). ap (λ (d : Database). commit_call d.commit) (committing_other db (db_of o) (Some y) x other) ∙ sym (place_commit o x c) ∙ e)
    (cases_eq (db_of o) db))
    (λ (w : is_commit o ≡ false). place_wish o (with_committing db (Some y) x) w ∙ ap (λ (r : RecState). wish_call r.wish) (committing_state db (db_of o) (key_of o) (Some y) x) ∙ sym (place_wish o x w) ∙ e)
    (cases_Bool (is_commit o))

-- a commit that waits
pub commit_waits : (n db call : ℕ) (who : Opened) (x : Node) (y : Committing) → db < length x.dbs → (db_at db x).commit ≡ None → y.call ≡ call → who call ≡ None → Stands n who x → Stands n (with_call call (n, op.Commit db y.writes) who) (with_committing db (Some y) x)
unfolding Committed is_commit
commit_waits n db call who x y has none mine fresh s =
    let o = op.Commit db y.writes in
    let v = with_committing db (Some y) x in
    let more : (k : ℕ) (z : ℕ × ClientOp) → who k ≡ Some z → with_call call (n, o) who k ≡ Some z = (λ k z e. other_call call k (n, o) who (none_other who call k z fresh e) ∙ e) in
    record {
      order = committing_order db (Some y) x s.order;
      wishes = λ d key. subst (λ (r : RecState). Wishful (Wished n (with_call call (n, o) who) d key) r.wish) (sym (committing_state db d key (Some y) x))
          (wish_like n who (with_call call (n, o) who) d key (state_at d key x).wish (λ k asked waits e wants of_db of_key. more k (n, asked) e) (s.wishes d key));
      commits = λ d. ⊎_elim
          (λ (same : d ≡ db). subst (λ (i : ℕ). Committed n (with_call call (n, o) who) i (db_at i v).commit) (sym same)
          (subst (λ (c : Option Committing). Committed n (with_call call (n, o) who) db c) (sym (committing_own db (Some y) x has)) (ap (with_call call (n, o) who) mine ∙ own_call call (n, o) who)))
          (λ (ne : d ≢ db). subst (λ (z : Database). Committed n (with_call call (n, o) who) d z.commit) (sym (committing_other db d (Some y) x ne))
          (commit_like n who (with_call call (n, o) who) d (db_at d x).commit (λ z at e. more z.call _ e) (s.commits d)))
          (cases_eq d db);
      waits = λ k asked e. ⊎_elim
          (λ (is : k ≡ call). (let same : asked ≡ o = same_asked (ap (with_call call (n, o) who) (sym is) ∙ e) (own_call call (n, o) who) in
          subst (λ (q : ClientOp). place_call q v ≡ Some k) (sym same) (place_commit o v refl ∙ ap commit_call (committing_own db (Some y) x has) ∙ its_call y k (mine ∙ sym is))))
          (λ (ne : k ≢ call). waits_place asked db k x y none (s.waits k asked (sym (other_call call k (n, o) who ne) ∙ e)))
          (cases_eq k call);
    }

committed_same : (n db : ℕ) (who : Opened) (x y : Committing) → y.call ≡ x.call → y.writes ≡ x.writes → Committed n who db (Some x) → Committed n who db (Some y)
unfolding Committed
committed_same n db who x y call writes h = ap who call ∙ h ∙ ap (λ (ws : List Pair). Some (n, op.Commit db ws)) (sym writes)

-- a commit that waits on
pub commit_stays : (n db : ℕ) (who : Opened) (x : Node) (y z : Committing) → (db_at db x).commit ≡ Some y → z.call ≡ y.call → z.writes ≡ y.writes → Stands n who x → Stands n who (with_committing db (Some z) x)
unfolding commit_call
commit_stays n db who x y z is call writes s =
    let v = with_committing db (Some z) x in
    let own : (db_at db v).commit ≡ Some z = committing_own db (Some z) x (has_db db x y is) in
    let calls : (d : ℕ) → commit_call (db_at d v).commit ≡ commit_call (db_at d x).commit = (λ d. ⊎_elim
    (λ (same : d ≡ db). subst (λ (i : ℕ). commit_call (db_at i v).commit ≡ commit_call (db_at i x).commit) (sym same) (ap commit_call own ∙ ap (λ (i : ℕ). Some i) call ∙ sym (ap commit_call is)))
    (λ (ne : d ≢ db). ap (λ (q : Database). commit_call q.commit) (committing_other db d (Some z) x ne))
    (cases_eq d db)) in
    record {
      order = committing_order db (Some z) x s.order;
      wishes = λ d key. subst (λ (r : RecState). Wishful (Wished n who d key) r.wish) (sym (committing_state db d key (Some z) x)) (s.wishes d key);
      commits = λ d. ⊎_elim
          (λ (same : d ≡ db). subst (λ (i : ℕ). Committed n who i (db_at i v).commit) (sym same)
          (subst (λ (c : Option Committing). Committed n who db c) (sym own) (committed_same n db who y z call writes (subst (λ (c : Option Committing). Committed n who db c) is (s.commits db)))))
          (λ (ne : d ≢ db). subst (λ (q : Database). Committed n who d q.commit) (sym (committing_other db d (Some z) x ne)) (s.commits d))
          (cases_eq d db);
      waits = λ k o e. ⊎_elim
          (λ (co : is_commit o ≡ true). place_commit o v co ∙ calls (db_of o) ∙ sym (place_commit o x co) ∙ s.waits k o e)
          (λ (no : is_commit o ≡ false). place_wish o v no ∙ ap (λ (r : RecState). wish_call r.wish) (committing_state db (db_of o) (key_of o) (Some z) x) ∙ sym (place_wish o x no) ∙ s.waits k o e)
          (cases_Bool (is_commit o));
    }
