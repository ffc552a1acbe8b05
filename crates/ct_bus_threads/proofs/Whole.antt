-- What the nodes handled is the whole of the scripts.
use Rattle.std.proofs.Common.{arith, ◌≡◌, ◌∙◌, ◌+◌, ◌<◌, ◌≤◌, ◌^◌, ℕ, zero, suc, List, [], ◌∷◌, ◌++◌, length, map, refl, sym, ap, subst, append-nil, false}
use Rattle.std.specs.Prelude.{IfSome, None, Option, Some, slice_get, slice_index_or}
use Rattle.std.specs.List.{range_with_len}
use Rattle.std.proofs.Math.ListN as math
use Rattle.std.proofs.lemmas.List.{ext_get_or, get_or-map, length-append, length-map, nil_from_length}
use Rattle.std.proofs.lemmas.List.FromFn.{get_or-map-range_with_len, length-map-range_with_len, length-range_with_len}
use Rattle.std.proofs.lemmas.Option.{get_or_from_slice_get, slice_get-get_or, slice_get-map, slice_get_within}
use Rattle.std.specs.Option.{option_map}
use Rattle.ct_bus.proofs.Fronts.{same_some}
use Rattle.ct_bus.specs.Ends.{out_queue, taken_from}
use Rattle.ct_bus.specs.Relay.{IsFront}
use Rattle.ct_bus.specs.Seats.{AreFronts, AreNew, AreReceiving, AreSeats, AreSending, IsReceiving, IsSending, Queues, Shown, messages_of, posted_by, receiving, sending, taken_by}
use Rattle.ct_bus.specs.declared.message.Message.{Message}
use Rattle.ct_bus.specs.declared.seat.ReceiveSeat.{ReceiveSeat}
use Rattle.ct_bus.specs.declared.seat.SendSeat.{SendSeat}
use Rattle.ct_bus.proofs.Fronts.{column_many}
use Rattle.ct_bus_exchange.specs.Exchange.{AreCounted, AreScripts, Scripts, exchanged, exchanged_for, for_node, script, scripts_for}
use Rattle.ct_bus_exchange.specs.Handling.{Handling, handled}
use Rattle.ct_bus_exchange.specs.declared.handled.Handled.{Handled}
use Rattle.ct_bus_threads.specs.Works.{HasServed, HasTodos, IsSound, all_planned, fixed, left_of, planned}
use Rattle.ct_bus_threads.specs.declared.work.Todo.{Todo}
use Rattle.ct_bus_threads.specs.declared.work.Work.{Work}
use Rattle.ct_bus_threads.proofs.Sounding.{posted_many}

-- ---- fronts

front_whole : (front whole : List Message) → IsFront front whole → length whole ≤ length front → front ≡ whole
front_whole front whole f enough = let l = ap (λ (ms : List Message). length ms) f.1 in let k = length-append front f.0 in sym (f.1 ∙ ap (λ (ms : List Message). front ++ ms) (nil_from_length f.0 (omega arith)) ∙ append-nil front)

-- ---- lists of which nothing went through

none_planned : (mss : List (List Message)) (ts : List Todo) → length mss ≡ length ts → ((k : ℕ) → messages_of k mss ≡ []) → all_planned mss ts ≡ map left_of ts
none_planned [] [] many none = refl
none_planned [] (t ∷ ts) many none = absurd (omega arith)
none_planned (ms ∷ mss) [] many none = absurd (omega arith)
none_planned (ms ∷ mss) (t ∷ ts) many none = λ i. planned (none 0 i) t ∷ none_planned mss ts (omega arith) (λ k. none (suc k)) i

none_came : (mss : List (List Message)) (ts : List Todo) → length mss ≡ length ts → ((k : ℕ) → messages_of k mss ≡ []) → map (λ (t : Todo). 0) ts ≡ map (λ (ms : List Message). length ms) mss
none_came [] [] many none = refl
none_came [] (t ∷ ts) many none = absurd (omega arith)
none_came (ms ∷ mss) [] many none = absurd (omega arith)
none_came (ms ∷ mss) (t ∷ ts) many none = λ i. length (sym (none 0) i) ∷ none_came mss ts (omega arith) (λ k. none (suc k)) i

none_got : (mss : List (List Message)) (ts : List Todo) → length mss ≡ length ts → ((k : ℕ) → messages_of k mss ≡ []) → map {B = List Message} (λ (t : Todo). []) ts ≡ mss
none_got [] [] many none = refl
none_got [] (t ∷ ts) many none = absurd (omega arith)
none_got (ms ∷ mss) [] many none = absurd (omega arith)
none_got (ms ∷ mss) (t ∷ ts) many none = λ i. sym (none 0) i ∷ none_got mss ts (omega arith) (λ k. none (suc k)) i

-- ---- scripts

-- a row is what its node has for each
row_whole : (scripts : Scripts) (node : ℕ) → AreScripts scripts → node < length scripts → map (λ (k : ℕ). script scripts node k) (range_with_len 0 (length scripts)) ≡ slice_index_or scripts node []
row_whole scripts node are within =
    let row : List (List Message) = slice_index_or scripts node [] in
    let wide : length row ≡ length scripts = are.square node row (slice_get-get_or scripts node [] within) in
    let count = length-map-range_with_len (λ (k : ℕ). script scripts node k) 0 (length scripts) in
    ext_get_or [] (map (λ (k : ℕ). script scripts node k) (range_with_len 0 (length scripts))) row (count ∙ sym wide)
    (λ i lt. get_or-map-range_with_len (λ (k : ℕ). script scripts node k) 0 (length scripts) i i [] (omega (arith, count)) (omega arith))

-- what a node is to get of another one
script_there : (scripts : Scripts) (me other : ℕ) → slice_index_or (scripts_for me scripts) other [] ≡ script scripts other me
script_there scripts me other = math.get_or-map (for_node me) scripts other []

-- ---- before and after

-- a node with its seats and what it has to do is sound
pub begins_sound : (bus : Queues) (scripts : Scripts) (me : ℕ) (w : Work) → AreScripts scripts → length scripts ≡ length bus → me < length scripts → HasTodos scripts me w
    → ((sending w.send).node ≡ me) → ((receiving w.receive).node ≡ me) → IsReceiving bus (receiving w.receive) → IsSending bus (sending w.send)
    → ((k : ℕ) → messages_of k (posted_by w.send) ≡ []) → ((k : ℕ) → messages_of k (taken_by w.receive) ≡ [])
    → IsSound bus w × ((fixed w).plan ≡ slice_index_or scripts me [])
begins_sound bus scripts me w are wide within h send_node receive_node receives sends none_posted none_taken =
    let count : length w.all.items ≡ length bus = (
    let a = ap (λ (l : List (List Message)). length l) h.left in
    let b = length-map w.all.items left_of in
    let d = length-map-range_with_len (λ (k : ℕ). script scripts me k) 0 (length scripts) in
    omega arith
    ) in
    let posted : length (posted_by w.send) ≡ length w.all.items = posted_many bus w.send sends ∙ sym count in
    let taken : length (taken_by w.receive) ≡ length w.all.items = length-map w.receive.ends.items taken_from ∙ sym (length-map w.receive.ends.items out_queue) ∙ column_many bus (receiving w.receive) receives ∙ sym count in
    let plan : all_planned (posted_by w.send) w.all.items ≡ slice_index_or scripts me [] = none_planned (posted_by w.send) w.all.items posted none_posted ∙ h.left ∙ row_whole scripts me are within in (
      record {
        sends = sends;
        receives = receives;
        posts = send_node ∙ sym h.node;
        takes = receive_node ∙ sym h.node;
        many = count;
        counted = λ n. subst (λ (p : List (List Message)). AreCounted (messages_of n p)) (sym plan) (are.counted me n);
        few = λ n. subst (λ (p : List (List Message)). length (messages_of n p) < 2 ^ 61) (sym plan) (are.few me n);
        came = h.came ∙ none_came (taken_by w.receive) w.all.items taken none_taken;
        kept = λ _. h.got ∙ none_got (taken_by w.receive) w.all.items taken none_taken;
      },
      plan,
    )

-- ---- the answer

-- what a node has taken is what all have for it, where of each it is a front that is long enough
pub taken_whole : (bus : Queues) (scripts : Scripts) (me : ℕ) (r : ReceiveSeat) (posting : List Shown) → length scripts ≡ length bus → IsReceiving bus (receiving r)
    → ((k : ℕ) → k < length scripts → (s : Shown) × (slice_get posting k ≡ Some s) × (s.messages ≡ slice_index_or scripts k []))
    → ((k : ℕ) (s : Shown) → slice_get posting k ≡ Some s → IsFront (messages_of k (taken_by r)) (messages_of me s.messages))
    → ((k : ℕ) → k < length scripts → length (script scripts k me) ≤ length (messages_of k (taken_by r)))
    → taken_by r ≡ scripts_for me scripts
taken_whole bus scripts me r posting wide receives posted fronts enough =
    let count : length (taken_by r) ≡ length scripts = length-map r.ends.items taken_from ∙ sym (length-map r.ends.items out_queue) ∙ column_many bus (receiving r) receives ∙ sym wide in
    ext_get_or [] (taken_by r) (scripts_for me scripts) (count ∙ sym (length-map scripts (for_node me)))
    (λ i lt. (let within : i < length scripts = omega (arith, count) in let p = posted i within in
    let front : IsFront (messages_of i (taken_by r)) (script scripts i me) = subst (λ (ms : List (List Message)). IsFront (messages_of i (taken_by r)) (messages_of me ms)) p.2 (fronts i p.0 p.1) in
    front_whole (messages_of i (taken_by r)) (script scripts i me) front (enough i within) ∙ sym (script_there scripts me i)))

-- what each node handled is the answer
pub all_handled : (hs : Handling) (scripts : Scripts) (done : List (List (List Handled))) → length done ≡ length scripts → ((i : ℕ) (v : List (List Handled)) → slice_get done i ≡ Some v → v ≡ exchanged_for hs i scripts) → done ≡ exchanged hs scripts
all_handled hs scripts done count each =
    ext_get_or [] done (exchanged hs scripts) (count ∙ sym (length-map-range_with_len (λ (r : ℕ). exchanged_for hs r scripts) 0 (length scripts)))
    (λ i lt. each i (slice_index_or done i []) (slice_get-get_or done i [] lt) ∙ sym (get_or-map-range_with_len (λ (r : ℕ). exchanged_for hs r scripts) 0 (length scripts) i i [] (omega (arith, count)) (omega arith)))

-- ---- all nodes

some_map : {A B : Type 0} (f : A → B) (xs : List A) (n : ℕ) (y : B) → slice_get (map f xs) n ≡ Some y → (x : A) × (slice_get xs n ≡ Some x) × (y ≡ f x)
some_map f [] n y e = absurd (cc)
some_map f (x ∷ xs) zero y e = (x, refl, cc)
some_map f (x ∷ xs) (suc n) y e = some_map f xs n y e

map_some : {A B : Type 0} (f : A → B) (xs : List A) (n : ℕ) (x : A) → slice_get xs n ≡ Some x → slice_get (map f xs) n ≡ Some (f x)
map_some f [] n x e = absurd (cc)
map_some f (y ∷ xs) zero x e = cc
map_some f (y ∷ xs) (suc n) x e = map_some f xs n x e

-- nodes with their seats and what they have to do
pub record AreBegun (bus : Queues) (scripts : Scripts) (works : List Work) : Type 0 where
  pub sound : AreScripts scripts
  pub wide : length bus ≡ length scripts
  pub seats : AreSeats bus (map (λ w. w.send) works) (map (λ w. w.receive) works)
  pub new : AreNew (map sending (map (λ w. w.send) works)) × AreNew (map receiving (map (λ w. w.receive) works))
  pub todos : (n : ℕ) (w : Work) → slice_get works n ≡ Some w → HasTodos scripts n w

begun_within : (bus : Queues) (scripts : Scripts) (works : List Work) → AreBegun bus scripts works → length works ≡ length scripts
begun_within bus scripts works b = sym (length-map works (λ (w : Work). w.send)) ∙ sym (length-map (map (λ (w : Work). w.send) works) sending) ∙ b.seats.sending.count ∙ b.wide

pub begins : (bus : Queues) (scripts : Scripts) (works : List Work) → AreBegun bus scripts works → (n : ℕ) (w : Work) → slice_get works n ≡ Some w → IsSound bus w × ((fixed w).plan ≡ slice_index_or scripts n [])
begins bus scripts works b n w e =
    let send = map_some sending (map (λ (x : Work). x.send) works) n w.send (map_some (λ (x : Work). x.send) works n w e) in
    let receive = map_some receiving (map (λ (x : Work). x.receive) works) n w.receive (map_some (λ (x : Work). x.receive) works n w e) in
    let s = b.seats.sending.each n (sending w.send) send in
    let r = b.seats.receiving.each n (receiving w.receive) receive in
    let within : n < length scripts = (let l = slice_get_within works n w e in let m = begun_within bus scripts works b in omega arith) in
    begins_sound bus scripts n w b.sound (sym b.wide) within (b.todos n w e) s.0 r.0 r.1 s.1 (λ k. b.new.0 n k (sending w.send) send) (λ k. b.new.1 n k (receiving w.receive) receive)

-- nodes that have all served
pub record AreServed (hs : Handling) (bus : Queues) (works served : List Work) : Type 0 where
  pub count : length served ≡ length works
  pub each : (n : ℕ) (d : Work) → n < length works → HasServed hs bus (fixed (slice_index_or works n d)) (slice_index_or served n d)

served_there : (hs : Handling) (bus : Queues) (works served : List Work) → AreServed hs bus works served → (n : ℕ) (v : Work) → slice_get served n ≡ Some v → (w : Work) × (slice_get works n ≡ Some w) × HasServed hs bus (fixed w) v
served_there hs bus works served a n v e =
    let within : n < length works = (let l = slice_get_within served n v e in let m = a.count in omega arith) in
    (slice_index_or works n v, slice_get-get_or works n v within, subst (λ (x : Work). HasServed hs bus (fixed (slice_index_or works n v)) x) (get_or_from_slice_get served n v v e) (a.each n v within))

-- the seats of nodes that have served are those of the bus
pub served_seats : (hs : Handling) (bus : Queues) (scripts : Scripts) (works served : List Work) → AreBegun bus scripts works → AreServed hs bus works served → AreSeats bus (map (λ w. w.send) served) (map (λ w. w.receive) served)
served_seats hs bus scripts works served b a =
    let many : length served ≡ length bus = a.count ∙ begun_within bus scripts works b ∙ sym b.wide in
    record {
      sending = record {
        count = length-map (map (λ (w : Work). w.send) served) sending ∙ length-map served (λ (w : Work). w.send) ∙ many;
        each = λ n s e. (
            let x = some_map sending (map (λ (w : Work). w.send) served) n s e in
            let y = some_map (λ (w : Work). w.send) served n x.0 x.1 in
            let t = served_there hs bus works served a n y.0 y.1 in
            let is : s ≡ sending (y.0).send = x.2 ∙ ap (λ (z : SendSeat). sending z) y.2 in
            subst (λ (z : Shown). (z.node ≡ n) × IsSending bus z) (sym is) (t.2.posts ∙ (b.todos n t.0 t.1).node, t.2.sends)
            );
      };
      receiving = record {
        count = length-map (map (λ (w : Work). w.receive) served) receiving ∙ length-map served (λ (w : Work). w.receive) ∙ many;
        each = λ n s e. (
            let x = some_map receiving (map (λ (w : Work). w.receive) served) n s e in
            let y = some_map (λ (w : Work). w.receive) served n x.0 x.1 in
            let t = served_there hs bus works served a n y.0 y.1 in
            let is : s ≡ receiving (y.0).receive = x.2 ∙ ap (λ (z : ReceiveSeat). receiving z) y.2 in
            subst (λ (z : Shown). (z.node ≡ n) × IsReceiving bus z) (sym is) (t.2.takes ∙ (b.todos n t.0 t.1).node, t.2.receives)
            );
      };
    }

-- what the nodes have handled is what an exchange answers
pub served_whole : (hs : Handling) (bus : Queues) (scripts : Scripts) (works served : List Work) (done : List (List (List Handled))) → AreBegun bus scripts works → AreServed hs bus works served
    → AreFronts (map sending (map (λ w. w.send) served)) (map receiving (map (λ w. w.receive) served)) → map (λ v. Some v) done ≡ map (λ w. w.done) served → done ≡ exchanged hs scripts
served_whole hs bus scripts works served done b a fronts left =
    let within = begun_within bus scripts works b in
    let count : length done ≡ length scripts = sym (length-map done (λ (v : List (List Handled)). Some v)) ∙ ap (λ (l : List (Option (List (List Handled)))). length l) left ∙ length-map served (λ (w : Work). w.done) ∙ a.count ∙ within in
    all_handled hs scripts done count (λ i v e. (
    let x = some_map (λ (w : Work). w.done) served i (Some v) (subst (λ (l : List (Option (List (List Handled)))). slice_get l i ≡ Some (Some v)) left (map_some (λ (y : List (List Handled)). Some y) done i v e)) in
    let w : Work = x.0 in
    let t = served_there hs bus works served a i w x.1 in
    let made : v ≡ map (λ ms. map (handled hs) ms) (taken_by w.receive) = subst (λ (o : Option (List (List Handled))). IfSome o (λ y. y ≡ map (λ ms. map (handled hs) ms) (taken_by w.receive))) (sym x.2) t.2.done in
    let receive = map_some receiving (map (λ (y : Work). y.receive) served) i w.receive (map_some (λ (y : Work). y.receive) served i w x.1) in
    let whole : taken_by w.receive ≡ scripts_for i scripts = taken_whole bus scripts i w.receive (map sending (map (λ (y : Work). y.send) served)) (sym b.wide) t.2.receives
    (λ k lt. (
    let l : k < length served = (let c = a.count in let m = within in omega arith) in
    let p = slice_get-get_or served k w l in
    let q = served_there hs bus works served a k (slice_index_or served k w) p in
    (sending (slice_index_or served k w).send, map_some sending (map (λ (y : Work). y.send) served) k (slice_index_or served k w).send (map_some (λ (y : Work). y.send) served k (slice_index_or served k w) p), q.2.posted ∙ (begins bus scripts works b k q.0 q.1).1)
    ))
    (λ k s at. fronts i (receiving w.receive) receive k s at)
    (λ k lt. subst (λ (n : ℕ). n ≤ length (messages_of k (taken_by w.receive)))
    (ap (λ (l : List ℕ). slice_index_or l k 0) (b.todos i t.0 t.1).wanted ∙ get_or-map-range_with_len (λ (other : ℕ). length (script scripts other i)) 0 (length scripts) k k 0 lt (omega arith))
    (t.2.enough k)) in
    made ∙ ap (λ (l : List (List Message)). map (λ ms. map (handled hs) ms) l) whole
    ))

pub are_begun : (bus : Queues) (scripts : Scripts) (senders : List SendSeat) (receivers : List ReceiveSeat) (works : List Work) → AreScripts scripts → length bus ≡ length scripts → AreSeats bus senders receivers
    → AreNew (map sending senders) × AreNew (map receiving receivers) → map (λ w. w.send) works ≡ senders → map (λ w. w.receive) works ≡ receivers → ((n : ℕ) (w : Work) → slice_get works n ≡ Some w → HasTodos scripts n w) → AreBegun bus scripts works
are_begun bus scripts senders receivers works are wide seats new sends receives todos = record {
  sound = are;
  wide = wide;
  seats = subst (λ (s : List SendSeat). AreSeats bus s (map (λ w. w.receive) works)) (sym sends) (subst (λ (r : List ReceiveSeat). AreSeats bus senders r) (sym receives) seats);
  new = (subst (λ (s : List SendSeat). AreNew (map sending s)) (sym sends) new.0, subst (λ (r : List ReceiveSeat). AreNew (map receiving r)) (sym receives) new.1);
  todos = todos;
}
