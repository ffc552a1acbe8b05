-- A node stays sound while it posts and takes.
use Rattle.std.proofs.Common.{arith, ◌≡◌, ◌∙◌, ◌<◌, ◌^◌, ℕ, List, [], length, map, set, refl, sym, ap, subst, false}
use Rattle.std.specs.Prelude.{Some, Vec, slice_get, slice_index_or}
use Rattle.std.proofs.Math.Seq.{map-set_same}
use Rattle.std.proofs.lemmas.List.{length-map, length-set, map-set}
use Rattle.atomic_table.specs.Seated.{TableId}
use Rattle.ct_bus.specs.Ends.{into_queue, out_queue, posted_to, taken_from}
use Rattle.ct_bus.specs.Seats.{IsReceiving, IsSending, Queues, Shown, messages_of, posted_at, posted_by, receiving, sending, taken_by}
use Rattle.ct_bus.specs.declared.message.Message.{Message}
use Rattle.ct_bus.specs.declared.seat.SendSeat.{SendSeat}
use Rattle.ct_bus_exchange.specs.Exchange.{AreCounted}
use Rattle.ct_bus_threads.specs.Works.{Fixed, IsSound, all_planned, fixed, left_of, planned}
use Rattle.ct_bus_threads.specs.declared.work.Todo.{Todo}
use Rattle.ct_bus_threads.specs.declared.work.Work.{Work}
use Rattle.ct_bus_threads.proofs.Planning.{planned_aside, planned_there}

-- a seat that shows the same queues is as much a seat of the bus
pub still_sends : (bus : Queues) (a b : Shown) → b.node ≡ a.node → b.queues ≡ a.queues → IsSending bus a → IsSending bus b
still_sends bus a b node queues h = record { whole = ap (λ (q : List TableId). length q) queues ∙ h.whole; row = ap (λ (n : ℕ). slice_get bus n) node ∙ h.row ∙ ap (λ (q : List TableId). Some q) (sym queues) }

pub still_receives : (bus : Queues) (a b : Shown) → b.node ≡ a.node → b.queues ≡ a.queues → IsReceiving bus a → IsReceiving bus b
still_receives bus a b node queues h = record {
  node = subst (λ (n : ℕ). n < length bus) (sym node) h.node;
  column = ap (λ (q : List TableId). map (λ (x : TableId). Some x) q) queues ∙ h.column ∙ ap (λ (n : ℕ). map (λ (row : List TableId). slice_get row n) bus) (sym node);
}

-- there is a list of posted messages for each node
pub posted_many : (bus : Queues) (s : SendSeat) → IsSending bus (sending s) → length (posted_by s) ≡ length bus
posted_many bus s h = length-map s.ends.items posted_to ∙ sym (length-map s.ends.items into_queue) ∙ h.whole

same_fixed : (a b : Fixed) → a.node ≡ b.node → a.posts ≡ b.posts → a.takes ≡ b.takes → a.into ≡ b.into → a.out ≡ b.out → a.plan ≡ b.plan → a.wanted ≡ b.wanted → a ≡ b
same_fixed a b p q r s t u v = λ i. record { node = p i; posts = q i; takes = r i; into = s i; out = t i; plan = u i; wanted = v i }

pub posted_sound : (bus : Queues) (w v : Work) (k : ℕ) (t new : Todo) (ms : List Message) → IsSound bus w → k < length bus → t ≡ slice_index_or w.all.items k t
    → v.all.items ≡ set w.all.items k new → v.node ≡ w.node → v.receive ≡ w.receive → v.lost ≡ w.lost
    → (sending v.send).node ≡ (sending w.send).node → (sending v.send).queues ≡ (sending w.send).queues → posted_by v.send ≡ set (posted_by w.send) k ms → planned ms new ≡ planned (posted_at k w.send) t
    → new.wanted ≡ t.wanted → new.came ≡ t.came → new.got ≡ t.got → (fixed v ≡ fixed w) × IsSound bus v
posted_sound bus w v k t new ms h within is all node receive lost seat queues posted same wanted came got =
    let plan : all_planned (posted_by v.send) v.all.items ≡ all_planned (posted_by w.send) w.all.items =
    ap (λ (p : List (List Message)). all_planned p v.all.items) posted ∙ ap (λ (ts : List Todo). all_planned (set (posted_by w.send) k ms) ts) all
    ∙ planned_there (posted_by w.send) w.all.items k ms t new (let m = h.many in omega arith) (posted_many bus w.send h.sends ∙ sym h.many) is same in (
      same_fixed (fixed v) (fixed w) node seat (ap (λ (r : _). (receiving r).node) receive) queues (ap (λ (r : _). (receiving r).queues) receive) plan
          (ap (λ (ts : List Todo). map (λ (x : Todo). x.wanted) ts) all ∙ map-set_same (λ (x : Todo). x.wanted) w.all.items k new t (wanted ∙ ap (λ (x : Todo). x.wanted) is)),
      record {
        sends = still_sends bus (sending w.send) (sending v.send) seat queues h.sends;
        receives = subst (λ (r : _). IsReceiving bus (receiving r)) (sym receive) h.receives;
        posts = seat ∙ h.posts ∙ sym node;
        takes = ap (λ (r : _). (receiving r).node) receive ∙ h.takes ∙ sym node;
        many = ap (λ (ts : List Todo). length ts) all ∙ length-set w.all.items k new ∙ h.many;
        counted = λ n. subst (λ (p : List (List Message)). AreCounted (messages_of n p)) (sym plan) (h.counted n);
        few = λ n. subst (λ (p : List (List Message)). length (messages_of n p) < 2 ^ 61) (sym plan) (h.few n);
        came = ap (λ (ts : List Todo). map (λ (x : Todo). x.came) ts) all ∙ map-set_same (λ (x : Todo). x.came) w.all.items k new t (came ∙ ap (λ (x : Todo). x.came) is) ∙ h.came ∙ ap (λ (r : _). map (λ (l : List Message). length l) (taken_by r)) (sym receive);
        kept = λ l. ap (λ (ts : List Todo). map (λ (x : Todo). x.got.items) ts) all ∙ map-set_same (λ (x : Todo). x.got.items) w.all.items k new t (ap (λ (g : _). g.items) got ∙ ap (λ (x : Todo). x.got.items) is)
            ∙ h.kept (sym lost ∙ l) ∙ ap (λ (r : _). taken_by r) (sym receive);
      },
    )

pub taken_sound : (bus : Queues) (w v : Work) (k : ℕ) (t new : Todo) (ms : List Message) → IsSound bus w → k < length bus → t ≡ slice_index_or w.all.items k t
    → v.all.items ≡ set w.all.items k new → v.node ≡ w.node → v.send ≡ w.send
    → (receiving v.receive).node ≡ (receiving w.receive).node → (receiving v.receive).queues ≡ (receiving w.receive).queues → taken_by v.receive ≡ set (taken_by w.receive) k ms
    → new.came ≡ length ms → (v.lost ≡ false → (w.lost ≡ false) × (new.got.items ≡ ms)) → new.wanted ≡ t.wanted → left_of new ≡ left_of t → (fixed v ≡ fixed w) × IsSound bus v
taken_sound bus w v k t new ms h within is all node send seat queues taken came kept wanted rest =
    let plan : all_planned (posted_by v.send) v.all.items ≡ all_planned (posted_by w.send) w.all.items =
    ap (λ (s : SendSeat). all_planned (posted_by s) v.all.items) send ∙ ap (λ (ts : List Todo). all_planned (posted_by w.send) ts) all
    ∙ planned_aside (posted_by w.send) w.all.items k t new (let m = h.many in omega arith) (posted_many bus w.send h.sends ∙ sym h.many) is rest in (
      same_fixed (fixed v) (fixed w) node (ap (λ (s : SendSeat). (sending s).node) send) seat (ap (λ (s : SendSeat). (sending s).queues) send) queues plan
          (ap (λ (ts : List Todo). map (λ (x : Todo). x.wanted) ts) all ∙ map-set_same (λ (x : Todo). x.wanted) w.all.items k new t (wanted ∙ ap (λ (x : Todo). x.wanted) is)),
      record {
        sends = subst (λ (s : SendSeat). IsSending bus (sending s)) (sym send) h.sends;
        receives = still_receives bus (receiving w.receive) (receiving v.receive) seat queues h.receives;
        posts = ap (λ (s : SendSeat). (sending s).node) send ∙ h.posts ∙ sym node;
        takes = seat ∙ h.takes ∙ sym node;
        many = ap (λ (ts : List Todo). length ts) all ∙ length-set w.all.items k new ∙ h.many;
        counted = λ n. subst (λ (p : List (List Message)). AreCounted (messages_of n p)) (sym plan) (h.counted n);
        few = λ n. subst (λ (p : List (List Message)). length (messages_of n p) < 2 ^ 61) (sym plan) (h.few n);
        came = ap (λ (ts : List Todo). map (λ (x : Todo). x.came) ts) all ∙ map-set (λ (x : Todo). x.came) w.all.items k new ∙ ap (λ (l : List ℕ). set l k new.came) h.came ∙ ap (λ (n : ℕ). set (map (λ (l : List Message). length l) (taken_by w.receive)) k n) came
            ∙ sym (map-set (λ (l : List Message). length l) (taken_by w.receive) k ms) ∙ ap (λ (l : List (List Message)). map (λ (x : List Message). length x) l) (sym taken);
        kept = λ l. (let k' = kept l in ap (λ (ts : List Todo). map (λ (x : Todo). x.got.items) ts) all ∙ map-set (λ (x : Todo). x.got.items) w.all.items k new ∙ ap (λ (x : List (List Message)). set x k new.got.items) (h.kept k'.0) ∙ ap (λ (x : List Message). set (taken_by w.receive) k x) k'.1 ∙ sym taken);
      },
    )
