-- A Freeze ends the commits that wait, and the locks that they stand under: what that makes of the node.
use Rattle.std.proofs.Common.{◌≡◌, ◌≢◌, ℕ, zero, suc, ◌+◌, ◌<◌, Bool, true, false, cond, ◌&&◌, ◌||◌, List, [], ◌∷◌, ◌++◌, length, set, Option, None, Some, append-nil, append_assoc, inl, inr, ⊎_elim, refl, sym, ap, ◌∙◌, subst, arith}
use Rattle.std.specs.Prelude.{◌⊎◌, nat_eq, is_some, slice_get}
use Rattle.std.proofs.lemmas.Bool.{cases_eq, ne_eqb, eq-eqb, or_parts, cases_Bool}
use Rattle.std.proofs.lemmas.List.{length-set}
use Rattle.ct_tracking.specs.Tracked.{untracked}
use Rattle.ct_values.specs.declared.client.Answer.TheVariants as answer
use Rattle.ct_values.specs.declared.config.Config.{Config}
use Rattle.ct_frame.specs.declared.event.Note.TheVariants as note
use Rattle.ct_frame.specs.declared.event.Out.{Out}
use Rattle.ct_frame.specs.declared.event.Out.TheVariants as out
use Rattle.ct_store.specs.Map.{Ascends, look}
use Rattle.ct_rules.specs.Parts.{Moving}
use Rattle.ct_rules.specs.declared.event.Place.{Place}
use Rattle.ct_rules.specs.declared.state.RecState.{RecState}
use Rattle.ct_rules_node.specs.Node.{Node, Database, Committing, untouched, or_untouched, or_nothing, db_at, with_db, state_at, name_of}
use Rattle.ct_rules_node.specs.Turn.{Turn, does, with_node, answers, notes}
use Rattle.ct_rules_node.specs.Records as node
use Rattle.ct_rules_node.specs.Records.{with_state, kept, put_back, acted, at_record}
use Rattle.ct_rules_node.specs.Databases.{with_commit}
use Rattle.ct_rules_node.specs.Rounds.{ends_lock, ends_commit, ends_commits}
use Rattle.ct_law_rules_node.specs.NodeLaws.{AllAscend, NodeAscends}
use Rattle.ct_law_rules_node.proofs.AtRecord.{at_other, all_set, at_ascends, moves_at, blank_is_nothing}
use Rattle.ct_law_generation.specs.Shown.{is_it}
use Rattle.ct_law_generation.proofs.Weave.{it_is}
use Rattle.ct_law_generation.proofs.Amid.{other_state}

-- is this the lock of a commit that waits? i is the number of the first of these databases
abbrev pub is_ended : Config → ℕ → List Database → ℕ → List ℕ → Bool
is_ended c i [] db key = false
is_ended c i (d ∷ ds) db key = (is_some d.commit && is_it db key 0 (name_of c i)) || is_ended c (i + 1) ds db key

-- does a commit of this database wait?
abbrev pub is_gone : ℕ → List Database → ℕ → Bool
is_gone i [] db = false
is_gone i (d ∷ ds) db = (is_some d.commit && nat_eq db i) || is_gone (i + 1) ds db

-- what the node does of each
abbrev pub ends_out : Config → ℕ → Option Committing → List Out
ends_out c i None = []
ends_out c i (Some x) = out.Answer x.call (answer.Unsure x.pending.seq x.pending.missing) ∷ out.Note (note.Ended 0 (name_of c i)) ∷ []

abbrev pub ends_outs : Config → ℕ → List Database → List Out
ends_outs c i [] = []
ends_outs c i (d ∷ ds) = ends_out c i d.commit ++ ends_outs c (i + 1) ds

abbrev pub unlock : RecState → RecState
unlock s = record s { locked = None }

-- nothing is tracked at the node: so it is of one that froze
abbrev pub Untracked : Node → Type 0
Untracked x = (db : ℕ) (key : List ℕ) → (state_at db key x).tracking ≡ untracked

-- From one middle of a turn to another these locks end, the commits of these databases are gone, and this is done; else the node stays.
pub record Ends (t u : Turn) (hit : ℕ → List ℕ → Bool) (gone : ℕ → Bool) (more : List Out) : Type 0 where
  pub node : u.node ≡ record t.node { dbs = u.node.dbs }
  pub size : length u.node.dbs ≡ length t.node.dbs
  pub order : NodeAscends u.node
  pub state : (db : ℕ) (key : List ℕ) → state_at db key u.node ≡ cond (hit db key) (unlock (state_at db key t.node)) (state_at db key t.node)
  pub floor : (db : ℕ) → (db_at db u.node).floor ≡ (db_at db t.node).floor
  pub commit : (db : ℕ) → (db_at db u.node).commit ≡ cond (gone db) None (db_at db t.node).commit
  pub outs : u.outs ≡ t.outs ++ more
  pub spent : u.spent ≡ t.spent

-- ---- one database is set

pub same_set : {Y : Type 0} (f : Database → Y) (dbs : List Database) (i j : ℕ) (d : Database) → f d ≡ f (or_untouched (slice_get dbs i)) → f (or_untouched (slice_get (set dbs i d) j)) ≡ f (or_untouched (slice_get dbs j))
unfolding or_untouched
same_set f [] i j d e = refl
same_set f (x ∷ xs) zero zero d e = e
same_set f (x ∷ xs) zero (suc j) d e = refl
same_set f (x ∷ xs) (suc i) zero d e = refl
same_set f (x ∷ xs) (suc i) (suc j) d e = same_set f xs i j d e

commit_here : (dbs : List Database) (i : ℕ) (d : Database) → d.commit ≡ None → (or_untouched (slice_get (set dbs i d) i)).commit ≡ None
unfolding or_untouched untouched
commit_here [] i d e = refl
commit_here (x ∷ xs) zero d e = e
commit_here (x ∷ xs) (suc i) d e = commit_here xs i d e

commit_set : (dbs : List Database) (i j : ℕ) (d : Database) → d.commit ≡ None → (or_untouched (slice_get (set dbs i d) j)).commit ≡ cond (nat_eq j i) None (or_untouched (slice_get dbs j)).commit
commit_set dbs i j d e = ⊎_elim
    (λ (is : j ≡ i). subst (λ (k : ℕ). (or_untouched (slice_get (set dbs i d) k)).commit ≡ None) (sym is) (commit_here dbs i d e) ∙ sym (ap (λ (b : Bool). cond b None (or_untouched (slice_get dbs j)).commit) (eq-eqb j i is)))
    (λ (ne : j ≢ i). ap (λ (x : Database). x.commit) (at_other dbs i j d ne) ∙ sym (ap (λ (b : Bool). cond b None (or_untouched (slice_get dbs j)).commit) (ne_eqb j i ne)))
    (cases_eq j i)

-- ---- one lock ends

abbrev frees : RecState → Place → Moving → Moving
frees s at o = record o { state = s }

freed_state : (c : Config) (name : List ℕ) (t : Turn) (db : ℕ) (key : List ℕ) → NodeAscends t.node → 0 < length t.node.dbs → Untracked t.node →
    state_at db key (with_state 0 name (unlock (state_at 0 name t.node)) t.node) ≡ cond (is_it db key 0 name) (unlock (state_at db key t.node)) (state_at db key t.node)
unfolding at_record acted put_back with_state with_db db_at node.view
freed_state c name t db key order some bare = ⊎_elim
    (λ (is : is_it db key 0 name ≡ true). (let p = it_is db 0 key name is in
    subst (λ (k : List ℕ). state_at db k (with_state 0 name (unlock (state_at 0 name t.node)) t.node) ≡ unlock (state_at db k t.node)) p.1
    (subst (λ (d : ℕ). state_at d name (with_state 0 name (unlock (state_at 0 name t.node)) t.node) ≡ unlock (state_at d name t.node)) p.0
    ((moves_at c 0 0 name (frees (unlock (state_at 0 name t.node))) t order).seen some ∙ blank_is_nothing (unlock (state_at 0 name t.node)) (bare 0 name))))
    ∙ sym (ap (λ (b : Bool). cond b (unlock (state_at db key t.node)) (state_at db key t.node)) is))
    (λ (no : is_it db key 0 name ≡ false). other_state c 0 0 db name key (frees (unlock (state_at 0 name t.node))) t order no ∙ sym (ap (λ (b : Bool). cond b (unlock (state_at db key t.node)) (state_at db key t.node)) no))
    (cases_Bool (is_it db key 0 name))

freed_order : (c : Config) (name : List ℕ) (t : Turn) → NodeAscends t.node → NodeAscends (with_state 0 name (unlock (state_at 0 name t.node)) t.node)
unfolding at_record acted put_back with_state with_db db_at node.view
freed_order c name t order = (moves_at c 0 0 name (frees (unlock (state_at 0 name t.node))) t order).order

-- ---- one commit

pub ends_one : (c : Config) (i : ℕ) (t : Turn) (o : Option Committing) → NodeAscends t.node → 0 < length t.node.dbs → Untracked t.node →
    Ends t (ends_commit i (name_of c i) t o) (λ db key. is_some o && is_it db key 0 (name_of c i)) (λ db. is_some o && nat_eq db i) (ends_out c i o)
unfolding ends_commit ends_lock with_commit answers notes does with_node with_state with_db AllAscend state_at db_at
ends_one c i t None order some bare = record {
  node = refl;
  size = refl;
  order = order;
  state = λ db key. refl;
  floor = λ db. refl;
  commit = λ db. refl;
  outs = sym (append-nil t.outs);
  spent = refl;
}
ends_one c i t (Some x) order some bare = record {
  node = refl;
  size = length-set u.node.dbs 0 _ ∙ length-set t.node.dbs i _;
  order = freed_order c (name_of c i) u ascends;
  state = λ db key. freed_state c (name_of c i) u db key ascends (subst (λ (l : ℕ). 0 < l) (sym (length-set t.node.dbs i _)) some) (λ d k. ap (λ (s : RecState). s.tracking) (same d k) ∙ bare d k)
      ∙ ap (λ (s : RecState). cond (is_it db key 0 (name_of c i)) (unlock s) s) (same db key);
  floor = λ db. same_set (λ (d : Database). d.floor) u.node.dbs 0 db _ refl ∙ same_set (λ (d : Database). d.floor) t.node.dbs i db _ refl;
  commit = λ db. same_set (λ (d : Database). d.commit) u.node.dbs 0 db _ refl ∙ commit_set t.node.dbs i db _ refl;
  outs = append_assoc t.outs _ _;
  spent = refl;
}
  where
    u : Turn
    u = with_commit i None (answers x.call (answer.Unsure x.pending.seq x.pending.missing) t)

    same : (db : ℕ) (key : List ℕ) → state_at db key u.node ≡ state_at db key t.node
    same db key = ap (λ m. or_nothing (look key m)) (same_set (λ (d : Database). d.records) t.node.dbs i db _ refl)

    ascends : NodeAscends u.node
    ascends = all_set (λ d. Ascends d.records) t.node.dbs i _ (at_ascends t.node.dbs i order) order

-- ---- all commits, one after the other

twice : (b d : Bool) (s : RecState) → cond d (unlock (cond b (unlock s) s)) (cond b (unlock s) s) ≡ cond (b || d) (unlock s) s
twice true true s = refl
twice true false s = refl
twice false d s = refl

gone_twice : (b d : Bool) (o : Option Committing) → cond d None (cond b None o) ≡ cond (b || d) None o
gone_twice true true o = refl
gone_twice true false o = refl
gone_twice false d o = refl

still_bare : (b : Bool) (s : RecState) → s.tracking ≡ untracked → (cond b (unlock s) s).tracking ≡ untracked
still_bare true s e = e
still_bare false s e = e

pub ends_bare : (t u : Turn) (hit : ℕ → List ℕ → Bool) (gone : ℕ → Bool) (more : List Out) → Ends t u hit gone more → Untracked t.node → Untracked u.node
ends_bare t u hit gone more e bare db key = ap (λ (s : RecState). s.tracking) (e.state db key) ∙ still_bare (hit db key) (state_at db key t.node) (bare db key)

pub ends_then : (t u v : Turn) (hit hot : ℕ → List ℕ → Bool) (gone lost : ℕ → Bool) (more most : List Out) → Ends t u hit gone more → Ends u v hot lost most →
    Ends t v (λ db key. hit db key || hot db key) (λ db. gone db || lost db) (more ++ most)
ends_then t u v hit hot gone lost more most a b = record {
  node = b.node ∙ ap (λ (x : Node). record x { dbs = v.node.dbs }) a.node;
  size = b.size ∙ a.size;
  order = b.order;
  state = λ db key. b.state db key ∙ ap (λ (s : RecState). cond (hot db key) (unlock s) s) (a.state db key) ∙ twice (hit db key) (hot db key) (state_at db key t.node);
  floor = λ db. b.floor db ∙ a.floor db;
  commit = λ db. b.commit db ∙ ap (λ (o : Option Committing). cond (lost db) None o) (a.commit db) ∙ gone_twice (gone db) (lost db) (db_at db t.node).commit;
  outs = b.outs ∙ ap (λ (l : List Out). l ++ most) a.outs ∙ append_assoc t.outs more most;
  spent = b.spent ∙ a.spent;
}

pub ends_all : (c : Config) (i : ℕ) (ds : List Database) (t : Turn) → NodeAscends t.node → 0 < length t.node.dbs → Untracked t.node → Ends t (ends_commits c i ds t) (is_ended c i ds) (is_gone i ds) (ends_outs c i ds)
unfolding ends_commits
ends_all c i [] t order some bare = record {
  node = refl;
  size = refl;
  order = order;
  state = λ db key. refl;
  floor = λ db. refl;
  commit = λ db. refl;
  outs = sym (append-nil t.outs);
  spent = refl;
}
ends_all c i (d ∷ ds) t order some bare =
    let one = ends_one c i t d.commit order some bare in
    ends_then t (ends_commit i (name_of c i) t d.commit) _ _ _ _ _ _ _ one
    (ends_all c (i + 1) ds (ends_commit i (name_of c i) t d.commit) one.order (subst (λ (l : ℕ). 0 < l) (sym one.size) some) (ends_bare t _ _ _ _ one bare))

-- what is_gone and is_ended say
gone_past : (i k : ℕ) (ds : List Database) → is_gone i ds (i + k) ≡ false → (or_untouched (slice_get ds k)).commit ≡ None
unfolding or_untouched untouched
gone_past i k [] e = refl
gone_past i zero (d ∷ ds) e = here d.commit (is_gone (i + 1) ds (i + zero)) e
  where
    here : (o : Option Committing) (b : Bool) → ((is_some o && nat_eq (i + zero) i) || b) ≡ false → o ≡ None
    here None b e = refl
    here (Some x) b e = absurd (let f = eq-eqb (i + zero) i (omega arith) in grind arith)
gone_past i (suc k) (d ∷ ds) e = gone_past (i + 1) k ds (subst (λ (j : ℕ). is_gone (i + 1) ds j ≡ false) (let j : i + suc k ≡ (i + 1) + k = omega arith in j) (or_parts _ _ e).1)

-- so all commits are gone
pub none_left : (x : Node) (db : ℕ) → cond (is_gone 0 x.dbs db) None (db_at db x).commit ≡ None
unfolding db_at
none_left x db = pick (is_gone 0 x.dbs db) refl
  where
    pick : (b : Bool) → is_gone 0 x.dbs db ≡ b → cond b None (or_untouched (slice_get x.dbs db)).commit ≡ None
    pick true e = refl
    pick false e = gone_past 0 db x.dbs (subst (λ (j : ℕ). is_gone 0 x.dbs j ≡ false) (let j : db ≡ 0 + db = omega arith in j) e)

-- and a lock that ends is that of a commit that waits
abbrev pub Lock_of : Config → ℕ → List Database → ℕ → List ℕ → Type 0
Lock_of c i ds db key = (k : ℕ) × (x : Committing) × ((or_untouched (slice_get ds k)).commit ≡ Some x) × (db ≡ 0) × (key ≡ name_of c (i + k))

pub ended_is : (c : Config) (i : ℕ) (ds : List Database) (db : ℕ) (key : List ℕ) → is_ended c i ds db key ≡ true → Lock_of c i ds db key
unfolding or_untouched
ended_is c i [] db key e = absurd (cc)
ended_is c i (d ∷ ds) db key e = pick d.commit refl (cases_Bool (is_it db key 0 (name_of c i))) (λ t. ended_is c (i + 1) ds db key t)
  where
    rest : (is_ended c (i + 1) ds db key ≡ true → Lock_of c (i + 1) ds db key) → is_ended c (i + 1) ds db key ≡ true → Lock_of c i (d ∷ ds) db key
    rest more t = (let h = more t in (suc h.0, h.1, h.2, h.3, h.4 ∙ ap (name_of c) (let j : (i + 1) + h.0 ≡ i + suc h.0 = omega arith in j)))

    pick : (o : Option Committing) → d.commit ≡ o → (is_it db key 0 (name_of c i) ≡ true) ⊎ (is_it db key 0 (name_of c i) ≡ false) → (is_ended c (i + 1) ds db key ≡ true → Lock_of c (i + 1) ds db key) → Lock_of c i (d ∷ ds) db key
    pick None is both more = rest more (skip d.commit (is_it db key 0 (name_of c i)) (is_ended c (i + 1) ds db key) is e)
      where
        skip : (o : Option Committing) (b d : Bool) → o ≡ None → ((is_some o && b) || d) ≡ true → d ≡ true
        skip None b d is t = t
        skip (Some x) b d is t = absurd (cc)
    pick (Some x) is (inl t) more = (let p = it_is db 0 key (name_of c i) t in (0, x, is, sym p.0, sym p.1 ∙ ap (name_of c) (let j : i ≡ i + 0 = omega arith in j)))
    pick (Some x) is (inr f) more = rest more (skip (is_some d.commit) (is_it db key 0 (name_of c i)) (is_ended c (i + 1) ds db key) f e)
      where
        skip : (a b d : Bool) → b ≡ false → ((a && b) || d) ≡ true → d ≡ true
        skip a true d f t = absurd (cc)
        skip true false d f t = t
        skip false false d f t = t
