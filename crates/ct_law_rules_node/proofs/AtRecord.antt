-- A step at one record, seen at every record.
use Rattle.std.proofs.Common.{◌≡◌, ◌≢◌, ℕ, zero, suc, ◌<◌, ◌≤◌, Bool, true, false, cond, List, [], ◌∷◌, Option, Some, None, length, get_or, set, get_or-set_same, get_or-set_other, refl, sym, ◌∙◌, ap, arith}
use Rattle.std.proofs.lemmas.Bool.{cond_both, ltb-true, ltb-false}
use Rattle.std.specs.Prelude.{slice_get, nat_lt, is_none}
use Rattle.std.specs.List.{AllByRecursion}
use Rattle.ct_values.proofs.Words.{nil_is}
use Rattle.ct_values.specs.Words.{is_nil}
use Rattle.ct_values.specs.declared.config.Config.{Config}
use Rattle.ct_tracking.specs.Tracked.{Tracked, untracked}
use Rattle.ct_frame.specs.declared.header.RecCopy.{RecCopy}
use Rattle.ct_store.specs.Map.{Ascends, look}
use Rattle.ct_store.proofs.Maps.{empty_ascends}
use Rattle.ct_law_rules.specs.Form.{IsInForm}
use Rattle.ct_law_rules.specs.Laws.{TracksAsHolder}
use Rattle.ct_rules.specs.Parts.{Moving}
use Rattle.ct_rules.specs.State.{is_mastered, is_quiet, is_blank}
use Rattle.ct_rules.specs.declared.event.Place.{Place}
use Rattle.ct_rules.specs.declared.state.RecState.{RecState}
use Rattle.ct_rules_node.specs.Node.{Database, untouched, or_nothing, or_untouched, db_at, with_db, state_at}
use Rattle.ct_rules_node.specs.Turn.{Turn}
use Rattle.ct_rules_node.specs.Records.{put_back, acted, at_record}
use Rattle.ct_law_rules_node.specs.NodeLaws.{unless_blank, AllAscend, NodeAscends, left_by, IsAtRecord}
use Rattle.ct_law_rules_node.proofs.Keys.{kept_seen, kept_others, kept_ascends}

-- ---- a database in its place

pub or_get : (dbs : List Database) (i : ℕ) → or_untouched (slice_get dbs i) ≡ get_or dbs i untouched
unfolding or_untouched
or_get [] i = refl
or_get (d ∷ ds) zero = refl
or_get (d ∷ ds) (suc i) = or_get ds i

pub at_set : (dbs : List Database) (i : ℕ) (d : Database) → i < length dbs → or_untouched (slice_get (set dbs i d) i) ≡ d
at_set dbs i d l = or_get (set dbs i d) i ∙ get_or-set_same dbs i d untouched l

pub at_other : (dbs : List Database) (i j : ℕ) (d : Database) → j ≢ i → or_untouched (slice_get (set dbs i d) j) ≡ or_untouched (slice_get dbs j)
at_other dbs i j d n = or_get (set dbs i d) j ∙ get_or-set_other dbs i j d untouched n ∙ sym (or_get dbs j)

pub set_past : (dbs : List Database) (i : ℕ) (d : Database) → length dbs ≤ i → set dbs i d ≡ dbs
set_past [] i d l = refl
set_past (x ∷ xs) zero d l = absurd (omega arith)
set_past (x ∷ xs) (suc i) d l = ap (λ l. x ∷ l) (set_past xs i d (omega arith))

pub all_set : (P : Database → Type 0) (dbs : List Database) (i : ℕ) (d : Database) → P d → AllByRecursion P dbs → AllByRecursion P (set dbs i d)
all_set P [] i d p h = h
all_set P (x ∷ xs) zero d p h = (p, h.1)
all_set P (x ∷ xs) (suc i) d p h = (h.0, all_set P xs i d p h.1)

pub at_ascends : (dbs : List Database) (i : ℕ) → AllAscend dbs → Ascends (or_untouched (slice_get dbs i)).records
unfolding AllAscend or_untouched untouched
at_ascends [] i h = empty_ascends RecState
at_ascends (d ∷ ds) zero h = h.0
at_ascends (d ∷ ds) (suc i) h = at_ascends ds i h.1

-- ---- the step

-- what is seen of another key in a database after a change of one key
other_seen : (dbs : List Database) (db : ℕ) (d : Database) (key : List ℕ) → look key d.records ≡ look key (or_untouched (slice_get dbs db)).records
    → look key (or_untouched (slice_get (set dbs db d) db)).records ≡ look key (or_untouched (slice_get dbs db)).records
other_seen dbs db d key e = cond_both (nat_lt db (length dbs)) true false (λ (_ : Bool). look key (or_untouched (slice_get (set dbs db d) db)).records ≡ look key (or_untouched (slice_get dbs db)).records)
    (λ t. ap (λ (x : Database). look key x.records) (at_set dbs db d (ltb-true _ _ t)) ∙ e)
    (λ f. ap (λ (l : List Database). look key (or_untouched (slice_get l db)).records) (set_past dbs db d (ltb-false _ _ f)))

pub moves_at : (c : Config) (me db : ℕ) (key : List ℕ) (part : Place → Moving → Moving) (t : Turn) → NodeAscends t.node → IsAtRecord c me db key part t
unfolding at_record acted put_back with_db db_at state_at AllAscend
moves_at c me db key part t h =
    let o = left_by c me db key part t in
    let m = (db_at db t.node).records in
    let a = at_ascends t.node.dbs db h in
    record {
      seen = λ l. ap (λ (x : Database). or_nothing (look key x.records)) (at_set t.node.dbs db _ l) ∙ ap or_nothing (kept_seen key o.state m a);
      other_keys = λ q n. ap or_nothing (other_seen t.node.dbs db _ q (kept_others key o.state m q n));
      other_dbs = λ q n. at_other t.node.dbs db q _ n;
      order = all_set (λ d. Ascends d.records) t.node.dbs db _ (kept_ascends key o.state m a) h;
    }

pub blank_is_nothing : (s : RecState) → s.tracking ≡ untracked → or_nothing (unless_blank s) ≡ s
unfolding or_nothing unless_blank
blank_is_nothing s u = grind arith

pub none_is : {X : Type 0} (x : Option X) → is_none x ≡ true → x ≡ None
none_is None e = refl
none_is (Some x) e = absurd (cc)

-- a fact whose failure wants a holder holds where there is no copy
held_or_not : (me : ℕ) (copy : Option RecCopy) (b : Bool) → is_none copy ≡ true → (b ≡ false → is_mastered me copy ≡ true) → b ≡ true
unfolding is_mastered
held_or_not me None true n f = refl
held_or_not me None false n f = f refl
held_or_not me (Some c) b n f = absurd (cc)

tracks_none : (me : ℕ) (copy : Option RecCopy) (t : Tracked) → is_none copy ≡ true → (is_nil t.tracked ≡ false → is_mastered me copy ≡ true) → (is_quiet t ≡ false → is_mastered me copy ≡ true) → t ≡ untracked
unfolding is_quiet
tracks_none me copy t n f g =
    let a = nil_is t.tracked (held_or_not me copy (is_nil t.tracked) n f) in
    let b = none_is t.revoking (held_or_not me copy (is_none t.revoking) n g) in
    λ i. record { tracked = a i; revoking = b i }

blank_copy : (s : RecState) → is_blank s ≡ true → is_none s.copy ≡ true
blank_copy s e = grind arith

pub formed_is_kept : (at : Place) (next : ℕ) (s : RecState) → IsInForm at next s → TracksAsHolder at s.copy s.tracking s.vacuum → or_nothing (unless_blank s) ≡ s
unfolding or_nothing unless_blank
formed_is_kept at next s f t =
    elim (is_blank s) as (λ b. is_blank s ≡ b → or_nothing (cond b None (Some s)) ≡ s) [
      | true ↦ λ e. (let u = tracks_none at.me s.copy s.tracking (blank_copy s e) t.tracked_held f.shape.revocation_held in ap (λ (b : Bool). or_nothing (cond b None (Some s))) (sym e) ∙ blank_is_nothing s u)
      | false ↦ λ _. refl
    ] refl
