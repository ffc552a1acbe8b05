-- A commit waits only at a node that serves, and under the lock of its database, from its beginning to its end.
use Rattle.std.proofs.Common.{◌≡◌, ◌≢◌, ℕ, zero, suc, Bool, true, false, cond, List, [], ◌∷◌, set, Option, Some, None, refl, sym, ap, ◌∙◌, subst, arith, inl, inr, ⊎_elim}
use Rattle.std.specs.Prelude.{◌⊎◌, slice_get, is_some, bytes_eq}
use Rattle.std.proofs.lemmas.Slice.Eq.{bytes_eq-Decides}
use Rattle.ct_values.specs.declared.config.Config.{Config}
use Rattle.ct_store.specs.Map.{Pairs, look, write, erase}
use Rattle.ct_store.proofs.Maps.{written}
use Rattle.ct_rules.specs.State.{is_blank}
use Rattle.ct_rules.specs.Parts.{Moving}
use Rattle.ct_rules.specs.declared.event.Place.{Place}
use Rattle.ct_rules.specs.declared.state.RecState.{RecState}
use Rattle.ct_rules_node.specs.Node.{Node, Phase, Serving, Database, is_serving, is_present, is_persistent, kind_at, name_of, or_untouched, or_nothing, untouched, db_at, state_at, with_db}
use Rattle.ct_rules_node.specs.Turn.{Turn}
use Rattle.ct_rules_node.specs.Records.{kept, view, put_back, acted, at_record}
use Rattle.ct_rules_node.specs.Clients.{is_locked, is_committing}
use Rattle.ct_law_rules_node.proofs.Keys.{kept_others}
use Rattle.ct_law_plain.proofs.Plainly.{like_set}
use Rattle.ct_law_plain.proofs.Locking.{KeepsLock}

-- a node that serves is present
pub serves_present : (p : Phase) → is_serving p ≡ true → is_present p ≡ true
unfolding is_serving is_present
serves_present Serving e = refl
serves_present _ e = absurd (cc)

-- does a commit of the database wait in these?
unfoldable pub waits_in : ℕ → List Database → Bool
waits_in db ds = is_some (or_untouched (slice_get ds db)).commit

-- is the record of this key in the first of these, the database of locks, locked?
unfoldable pub locked_in : List ℕ → List Database → Bool
locked_in key ds = is_some (or_nothing (look key (or_untouched (slice_get ds 0)).records)).locked

-- what a commit of the database needs while it waits
pub record UnderLock (c : Config) (db : ℕ) (p : Phase) (ds : List Database) : Type 0 where
  pub kind : is_persistent (kind_at c db) ≡ true
  pub serving : is_serving p ≡ true
  pub lock : locked_in (name_of c db) ds ≡ true

-- every commit that waits has it
unfoldable pub Locked : Config → Phase → List Database → Type 0
Locked c p ds = (db : ℕ) → waits_in db ds ≡ true → UnderLock c db p ds

-- every commit that waits at the node is of a persistent database, under its lock, and the node serves
abbrev pub CommitLocked : Config → Node → Type 0
CommitLocked c n = Locked c n.phase n.dbs

-- the same in the words of a node
pub commit_locked : (c : Config) (n : Node) (db : ℕ) → CommitLocked c n → is_committing db n ≡ true → (is_persistent (kind_at c db) ≡ true) × (is_present n.phase ≡ true) × (is_locked 0 (name_of c db) n ≡ true)
unfolding Locked waits_in locked_in is_committing is_locked state_at db_at
commit_locked c n db h w = (let l = h db w in (l.kind, serves_present n.phase l.serving, l.lock))

-- a node where a commit waits serves
pub commit_serves : (c : Config) (n : Node) (db : ℕ) → CommitLocked c n → is_committing db n ≡ true → is_serving n.phase ≡ true
unfolding Locked waits_in is_committing db_at
commit_serves c n db h w = (h db w).serving

-- ---- what keeps it

-- a node that served still does, no commit begins, and no lock of the database of locks ends
pub record Keeps (p q : Phase) (ds es : List Database) : Type 0 where
  pub serving : is_serving p ≡ true → is_serving q ≡ true
  pub waits : (db : ℕ) → waits_in db es ≡ true → waits_in db ds ≡ true
  pub locks : (key : List ℕ) → locked_in key ds ≡ true → locked_in key es ≡ true

abbrev pub KeepsCommits : Turn → Turn → Type 0
KeepsCommits t u = Keeps t.node.phase u.node.phase t.node.dbs u.node.dbs

pub keeps_same : {p : Phase} {ds : List Database} → Keeps p p ds ds
keeps_same {p} {ds} = record { serving = λ h. h; waits = λ db h. h; locks = λ key h. h }

pub keeps_after : {p q o : Phase} {ds es fs : List Database} → Keeps p q ds es → Keeps q o es fs → Keeps p o ds fs
keeps_after {p} {q} {o} {ds} {es} {fs} a b = record { serving = λ h. b.serving (a.serving h); waits = λ db h. a.waits db (b.waits db h); locks = λ key h. b.locks key (a.locks key h) }

pub either_keeps : (t u v : Turn) (b : Bool) → KeepsCommits t u → KeepsCommits t v → KeepsCommits t (cond b u v)
either_keeps t u v true a b = a
either_keeps t u v false a b = b

pub locked_kept : (c : Config) (p q : Phase) (ds es : List Database) → Keeps p q ds es → Locked c p ds → Locked c q es
unfolding Locked
locked_kept c p q ds es k h db w = (let l = h db (k.waits db w) in record { kind = l.kind; serving = k.serving l.serving; lock = k.locks (name_of c db) l.lock })

-- no commit waits
abbrev pub NoneWaits : List Database → Type 0
NoneWaits ds = (db : ℕ) → waits_in db ds ≡ true → ⊥

pub locked_none : (c : Config) (p : Phase) (ds : List Database) → NoneWaits ds → Locked c p ds
unfolding Locked
locked_none c p ds none db w = absurd (none db w)

-- nor at a node that is not present
pub none_waits : (c : Config) (p : Phase) (ds : List Database) → Locked c p ds → is_present p ≡ false → NoneWaits ds
unfolding Locked
none_waits c p ds h f db w = (let l = serves_present p (h db w).serving in absurd (cc))

-- ---- one database put in its place

pub waits_set : (ds : List Database) (i : ℕ) (d : Database) → (is_some d.commit ≡ true → waits_in i ds ≡ true) → (k : ℕ) → waits_in k (set ds i d) ≡ true → waits_in k ds ≡ true
unfolding waits_in or_untouched
waits_set [] i d f k w = w
waits_set (x ∷ xs) zero d f zero w = f w
waits_set (x ∷ xs) zero d f (suc k) w = w
waits_set (x ∷ xs) (suc i) d f zero w = w
waits_set (x ∷ xs) (suc i) d f (suc k) w = waits_set xs i d f k w

-- where the commit of one ends, all that wait are others
pub waits_ended : (ds : List Database) (i : ℕ) (d : Database) → d.commit ≡ None → (k : ℕ) → waits_in k (set ds i d) ≡ true → (waits_in k ds ≡ true) × (k ≢ i)
unfolding waits_in or_untouched untouched
waits_ended [] i d e k w = absurd (cc)
waits_ended (x ∷ xs) zero d e zero w = absurd (let n = ap is_some e in cc)
waits_ended (x ∷ xs) zero d e (suc k) w = (w, λ is. absurd (omega arith))
waits_ended (x ∷ xs) (suc i) d e zero w = (w, λ is. absurd (omega arith))
waits_ended (x ∷ xs) (suc i) d e (suc k) w = (let r = waits_ended xs i d e k w in (r.0, λ (is : suc k ≡ suc i). r.1 (omega arith)))

-- where one begins, all others waited before
pub waits_begun : (ds : List Database) (i : ℕ) (d : Database) (k : ℕ) → waits_in k (set ds i d) ≡ true → (k ≡ i) ⊎ (waits_in k ds ≡ true)
unfolding waits_in or_untouched
waits_begun [] i d k w = inr w
waits_begun (x ∷ xs) zero d zero w = inl refl
waits_begun (x ∷ xs) zero d (suc k) w = inr w
waits_begun (x ∷ xs) (suc i) d zero w = inr w
waits_begun (x ∷ xs) (suc i) d (suc k) w = ⊎_elim (λ (e : k ≡ i). inl (ap (λ (n : ℕ). suc n) e)) (λ (r : waits_in k xs ≡ true). inr r) (waits_begun xs i d k w)

not_blank : (s : RecState) → is_some s.locked ≡ true → is_blank s ≡ false
not_blank s e = grind arith

-- the state of a locked record is kept
held_kept : (key : List ℕ) (s : RecState) (m : Pairs RecState) → is_some s.locked ≡ true → look key (kept key s m) ≡ Some s
unfolding kept
held_kept key s m e = ap (λ (b : Bool). look key (cond b (erase key m) (write key s m))) (not_blank s e) ∙ written m key s

kept_locked : (key : List ℕ) (s : RecState) (m : Pairs RecState) (q : List ℕ) → (q ≡ key → is_some s.locked ≡ true) → is_some (or_nothing (look q m)).locked ≡ true → is_some (or_nothing (look q (kept key s m))).locked ≡ true
unfolding or_nothing
kept_locked key s m q put h = decide (bytes_eq q key) refl
  where
    put_there : q ≡ key → is_some (or_nothing (look q (kept key s m))).locked ≡ true
    put_there is = subst (λ (k : List ℕ). is_some (or_nothing (look k (kept key s m))).locked ≡ true) (sym is) (ap (λ (o : Option RecState). is_some (or_nothing o).locked) (held_kept key s m (put is)) ∙ put is)

    decide : (b : Bool) → bytes_eq q key ≡ b → is_some (or_nothing (look q (kept key s m))).locked ≡ true
    decide true t = put_there ((bytes_eq-Decides q key).0 t)
    decide false t = ap (λ (o : Option RecState). is_some (or_nothing o).locked) (kept_others key s m q (λ same. absurd (let u = (bytes_eq-Decides q key).1 same in cc))) ∙ h

-- a record that was locked stays so where the state that is put there is
pub lock_put : (ds : List Database) (i : ℕ) (d : Database) (key : List ℕ) (s : RecState) (q : List ℕ) → d.records ≡ kept key s (or_untouched (slice_get ds i)).records → (i ≡ 0 → q ≡ key → is_some s.locked ≡ true) →
    locked_in q ds ≡ true → locked_in q (set ds i d) ≡ true
unfolding locked_in or_untouched
lock_put [] i d key s q is put h = h
lock_put (x ∷ xs) zero d key s q is put h = ap (λ (m : Pairs RecState). is_some (or_nothing (look q m)).locked) is ∙ kept_locked key s x.records q (put refl) h
lock_put (x ∷ xs) (suc i) d key s q is put h = h

-- ---- a step at one record

-- where it keeps this lock, if it is that record's
pub lock_at_record : (c : Config) (me db : ℕ) (key : List ℕ) (part : Place → Moving → Moving) (t : Turn) (q : List ℕ) →
    (db ≡ 0 → q ≡ key → KeepsLock part) → locked_in q t.node.dbs ≡ true → locked_in q (at_record c me db key part t).node.dbs ≡ true
unfolding at_record acted put_back with_db db_at view state_at locked_in
lock_at_record c me db key part t q keeps h = lock_put t.node.dbs db _ key _ q refl (λ (e : db ≡ 0) (f : q ≡ key). keeps e f _ _ (here e f)) h
  where
    seen : is_some (or_nothing (look q (or_untouched (slice_get t.node.dbs 0)).records)).locked ≡ true
    seen = h

    here : db ≡ 0 → q ≡ key → is_some (or_nothing (look key (or_untouched (slice_get t.node.dbs db)).records)).locked ≡ true
    here e f = subst (λ (k : List ℕ). is_some (or_nothing (look k (or_untouched (slice_get t.node.dbs db)).records)).locked ≡ true) f (subst (λ (i : ℕ). is_some (or_nothing (look q (or_untouched (slice_get t.node.dbs i)).records)).locked ≡ true) (sym e) seen)

pub waits_at_record : (c : Config) (me db : ℕ) (key : List ℕ) (part : Place → Moving → Moving) (t : Turn) (k : ℕ) → waits_in k (at_record c me db key part t).node.dbs ≡ true → waits_in k t.node.dbs ≡ true
unfolding at_record acted put_back with_db db_at waits_in
waits_at_record c me db key part t k w = sym (like_set (λ (d : Database). is_some d.commit) t.node.dbs db _ refl k) ∙ w

pub phase_at_record : (c : Config) (me db : ℕ) (key : List ℕ) (part : Place → Moving → Moving) (t : Turn) → (at_record c me db key part t).node.phase ≡ t.node.phase
unfolding at_record acted put_back
phase_at_record c me db key part t = refl

pub at_record_keeps : (c : Config) (me db : ℕ) (key : List ℕ) (part : Place → Moving → Moving) (t : Turn) → KeepsLock part → KeepsCommits t (at_record c me db key part t)
unfolding at_record acted put_back
at_record_keeps c me db key part t keeps = record { serving = λ h. h; waits = waits_at_record c me db key part t; locks = λ q h. lock_at_record c me db key part t q (λ e f. keeps) h }
