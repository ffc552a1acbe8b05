-- A record that stays as it is leaves its node as it is.
use Rattle.std.proofs.Common.{◌≡◌, ℕ, zero, suc, Bool, cond, List, [], ◌∷◌, set, Option, Some, None, refl, ◌∙◌, ap}
use Rattle.std.specs.Prelude.{slice_get}
use Rattle.ct_store.specs.Map.{Pairs, Ascends, look}
use Rattle.ct_store.proofs.Maps.{same_map}
use Rattle.ct_rules.specs.Parts.{Moving}
use Rattle.ct_rules.specs.declared.state.RecState.{RecState}
use Rattle.ct_law_rules_node.specs.NodeLaws.{unless_blank}
use Rattle.ct_rules_node.specs.Node.{Node, Database, db_at, or_nothing, or_untouched, state_at, with_db}
use Rattle.ct_rules_node.specs.Records.{acted, at_record, kept, place_of, put_back, view}
use Rattle.ct_law_rules_node.proofs.AtRecord.{at_ascends}
use Rattle.ct_law_rules_node.proofs.Keys.{kept_ascends, kept_others, kept_seen}
use Rattle.ct_law_form.proofs.Formed.{by_key}
use Rattle.ct_law_form.specs.Form.{IsWorth, LeavesAll, NothingMoves}

worth_stays : (x : Option RecState) → IsWorth x → unless_blank (or_nothing x) ≡ x
unfolding IsWorth unless_blank or_nothing
worth_stays None h = refl
worth_stays (Some s) h = ap (λ (b : Bool). cond b None (Some s)) h

-- what is kept of a key, put there again
kept_same : (key : List ℕ) (m : Pairs RecState) → Ascends m → IsWorth (look key m) → kept key (or_nothing (look key m)) m ≡ m
kept_same key m a h =
    let s = or_nothing (look key m) in
    same_map (kept key s m) m (kept_ascends key s m a) a
    (λ q. by_key (λ (q : List ℕ). look q (kept key s m) ≡ look q m) key q (kept_seen key s m a ∙ worth_stays (look key m) h) (λ n. kept_others key s m q n))

set_same : (dbs : List Database) (i : ℕ) → set dbs i (or_untouched (slice_get dbs i)) ≡ dbs
unfolding or_untouched
set_same [] i = refl
set_same (d ∷ ds) zero = refl
set_same (d ∷ ds) (suc i) = ap (λ l. d ∷ l) (set_same ds i)

put_same : (db : ℕ) (key : List ℕ) (o : Moving) (n : Node) → Ascends (db_at db n).records → IsWorth (look key (db_at db n).records) → o.state ≡ state_at db key n → o.next ≡ n.next → o.floor ≡ (db_at db n).floor → put_back db key o n ≡ n
unfolding put_back with_db db_at state_at
put_same db key o n a h s x f =
    let d = or_untouched (slice_get n.dbs db) in
    let records = ap (λ (y : RecState). kept key y d.records) s ∙ kept_same key d.records a h in
    ap (λ (y : RecState). record n { dbs = set n.dbs db (record d { records = kept key y d.records; floor = o.floor }); next = o.next }) s
    ∙ ap (λ (m : Pairs RecState). record n { dbs = set n.dbs db (record d { records = m; floor = o.floor }); next = o.next }) (kept_same key d.records a h)
    ∙ ap (λ (y : ℕ). record n { dbs = set n.dbs db (record d { floor = y }); next = o.next }) f
    ∙ ap (λ (y : ℕ). record n { dbs = set n.dbs db d; next = y }) x
    ∙ ap (λ (y : List Database). record n { dbs = y }) (set_same n.dbs db)

pub nothing_moves : NothingMoves
unfolding at_record acted view LeavesAll db_at
nothing_moves c me db key part t a l h still =
    put_same db key (part (place_of c me db key t.node) (view db key t.node)) t.node (at_ascends t.node.dbs db a) h still.0 still.1 still.2
