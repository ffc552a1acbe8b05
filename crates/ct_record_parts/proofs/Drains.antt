-- The recalls that wait from a place on.
use Rattle.std.proofs.Common.{◌≡◌, ℕ, ◌+◌, ◌<◌, Bool, true, false, cond, List, [], ◌∷◌, length, drop, get_or, None, refl, ap, ◌∙◌, add-one, suc}
use Rattle.std.proofs.Math.Seq.{drop-cons, drop-length}
use Rattle.ct_rules.specs.State.{is_free, is_read_kind}
use Rattle.ct_rules.specs.Parts.{Moving, keeps, end_vacuum, grant, yield_record, drain}
use Rattle.ct_rules.specs.declared.event.Place.{Place}
use Rattle.ct_rules.specs.declared.state.RecallNote.{RecallNote}

-- at a node that is not free they all wait
pub drain_stays : (at : Place) (ws : List RecallNote) (o : Moving) → is_free at.me o.state ≡ false → drain at ws o ≡ record o { state = record o.state { waiting = ws } }
unfolding drain keeps
drain_stays at [] o h = refl
drain_stays at (w ∷ ws) o h = rw h refl

-- what comes of the first that waits, at a free node
drain_first : (at : Place) (w : RecallNote) (ws : List RecallNote) (o : Moving) → is_free at.me o.state ≡ true → drain at (w ∷ ws) o ≡ cond (is_read_kind w.kind) (drain at ws (grant at w.node w.request (end_vacuum o))) (yield_record at (record o { state = record o.state { waiting = w ∷ ws; vacuum = None } }))
unfolding drain keeps
drain_first at w ws o h = rw h refl

-- to one of kind Lock the record is yielded
pub drain_yields : (at : Place) (ws : List RecallNote) (i : ℕ) (d : RecallNote) (o : Moving) → i < length ws → is_free at.me o.state ≡ true → is_read_kind (get_or ws i d).kind ≡ false → drain at (drop i ws) o ≡ yield_record at (record o { state = record o.state { waiting = drop i ws; vacuum = None } })
drain_yields at ws i d o h f k =
    let w = get_or ws i d in
    let r = drop (suc i) ws in
    rw (drop-cons ws i d h) (drain_first at w r o f ∙ ap (λ (b : Bool). cond b (drain at r (grant at w.node w.request (end_vacuum o))) (yield_record at (record o { state = record o.state { waiting = w ∷ r; vacuum = None } }))) k)

-- one of kind Read is granted, and then come the rest
pub drain_grants : (at : Place) (ws : List RecallNote) (i : ℕ) (d : RecallNote) (o : Moving) → i < length ws → is_free at.me o.state ≡ true → is_read_kind (get_or ws i d).kind ≡ true → drain at (drop i ws) o ≡ drain at (drop (i + 1) ws) (grant at (get_or ws i d).node (get_or ws i d).request (end_vacuum o))
drain_grants at ws i d o h f k =
    let w = get_or ws i d in
    let r = drop (suc i) ws in
    rw (add-one, drop-cons ws i d h) (drain_first at w r o f ∙ ap (λ (b : Bool). cond b (drain at r (grant at w.node w.request (end_vacuum o))) (yield_record at (record o { state = record o.state { waiting = w ∷ r; vacuum = None } }))) k)

-- none waits after the last
pub drain_ends : (at : Place) (ws : List RecallNote) (o : Moving) → drain at (drop (length ws) ws) o ≡ record o { state = record o.state { waiting = drop (length ws) ws } }
unfolding drain keeps
drain_ends at ws o = rw (drop-length ws) refl
