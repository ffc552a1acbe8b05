-- Two nodes keep their seats at a bus.
use Rattle.std.proofs.Common.{◌≡◌, ◌∙◌, ℕ, ◌+◌, ◌<◌, List, [], length, map, get_or, refl, sym, ap, arith}
use Rattle.std.specs.Prelude.{Option, Some, option_map, slice_get, slice_set}
use Rattle.std.proofs.lemmas.List.{get_or-set_same, length-map}
use Rattle.std.proofs.lemmas.Option.{slice_get-map, slice_get_read}
use Rattle.ct_bus.specs.Seats.{AreNew, AreSeats, Queues, Shown, messages_of, posted_by, receiving, sending}
use Rattle.ct_bus.specs.declared.message.Message.{Message}
use Rattle.ct_bus.specs.declared.seat.ReceiveSeat.{ReceiveSeat}
use Rattle.ct_bus.specs.declared.seat.SendSeat.{SendSeat}
use Rattle.ct_bus_threads.proofs.Sounding.{posted_many, still_receives, still_sends}
use Rattle.ct_cases_bus.specs.Pairs.{ArePair}

sender_there : (ss : List SendSeat) (k : ℕ) (s : SendSeat) → k < length ss → s ≡ get_or ss k s → slice_get (map sending ss) k ≡ Some (sending s)
sender_there ss k s within is = slice_get-map sending ss k ∙ ap (λ (o : Option SendSeat). option_map sending o) (slice_get_read ss (length ss) k s refl within is)

receiver_there : (rs : List ReceiveSeat) (k : ℕ) (r : ReceiveSeat) → k < length rs → r ≡ get_or rs k r → slice_get (map receiving rs) k ≡ Some (receiving r)
receiver_there rs k r within is = slice_get-map receiving rs k ∙ ap (λ (o : Option ReceiveSeat). option_map receiving o) (slice_get_read rs (length rs) k r refl within is)

-- the first seat that posts, and the second that takes, of a new bus of two nodes
pub pair_opens : (bus : Queues) (senders : List SendSeat) (receivers : List ReceiveSeat) (s : SendSeat) (r : ReceiveSeat) → length bus ≡ 2 → AreSeats bus senders receivers → AreNew (map sending senders)
    → s ≡ get_or senders 0 s → r ≡ get_or receivers 1 r → ArePair bus (sending s) 0 (receiving r)
pair_opens bus senders receivers s r two seats new first second =
    let many_send : length senders ≡ 2 = sym (length-map senders sending) ∙ seats.sending.count ∙ two in
    let many_receive : length receivers ≡ 2 = sym (length-map receivers receiving) ∙ seats.receiving.count ∙ two in
    let send = sender_there senders 0 s (omega (arith, many_send)) first in
    let receive = receiver_there receivers 1 r (omega (arith, many_receive)) second in
    record {
      two = two;
      sends = (seats.sending.each 0 (sending s) send).1;
      first = (seats.sending.each 0 (sending s) send).0;
      many = ap (λ (ms : List Message). length ms) (new 0 1 (sending s) send);
      receives = (seats.receiving.each 1 (receiving r) receive).1;
      second = (seats.receiving.each 1 (receiving r) receive).0;
    }

-- one message more was posted
pub pair_posts : (bus : Queues) (s t : SendSeat) (posted : ℕ) (r : Shown) (ms : List Message) → ArePair bus (sending s) posted r → (sending t).node ≡ (sending s).node → (sending t).queues ≡ (sending s).queues
    → posted_by t ≡ slice_set (posted_by s) 1 ms → length ms ≡ posted + 1 → ArePair bus (sending t) (posted + 1) r
pair_posts bus s t posted r ms p node queues is long =
    let many : length (posted_by s) ≡ 2 = posted_many bus s p.sends ∙ p.two in
    let there = get_or-set_same (posted_by s) 1 ms [] (omega (arith, many)) in
    record {
      two = p.two;
      sends = still_sends bus (sending s) (sending t) node queues p.sends;
      first = node ∙ p.first;
      many = ap (λ (all : List (List Message)). length (messages_of 1 all)) is ∙ ap (λ (l : List Message). length l) there ∙ long;
      receives = p.receives;
      second = p.second;
    }

-- the message came back
pub pair_stays : (bus : Queues) (s t : SendSeat) (posted : ℕ) (r : Shown) → ArePair bus (sending s) posted r → (sending t).node ≡ (sending s).node → (sending t).queues ≡ (sending s).queues → posted_by t ≡ posted_by s → ArePair bus (sending t) posted r
pair_stays bus s t posted r p node queues is = record {
  two = p.two;
  sends = still_sends bus (sending s) (sending t) node queues p.sends;
  first = node ∙ p.first;
  many = ap (λ (all : List (List Message)). length (messages_of 1 all)) is ∙ p.many;
  receives = p.receives;
  second = p.second;
}

-- a message was taken, or none
pub pair_takes : (bus : Queues) (s r t : Shown) (posted : ℕ) → ArePair bus s posted r → t.node ≡ r.node → t.queues ≡ r.queues → ArePair bus s posted t
pair_takes bus s r t posted p node queues = record { two = p.two; sends = p.sends; first = p.first; many = p.many; receives = still_receives bus r t node queues p.receives; second = node ∙ p.second }
