-- Fronts of what was posted, while a bus is settled up.
use Rattle.std.proofs.Common.{arith, ◌≡◌, ◌≢◌, ◌∙◌, ◌<◌, ℕ, zero, suc, List, [], ◌∷◌, ◌++◌, length, map, refl, sym, ap, subst, ⊎_elim}
use Rattle.std.proofs.lemmas.List.{length-append, length-map, map-append}
use Rattle.std.proofs.lemmas.Option.{slice_get-map, slice_get_read}
use Rattle.std.proofs.lemmas.Bool.{cases_eq}
use Rattle.std.specs.Prelude.{Option, None, Some, slice_get, slice_index_or}
use Rattle.std.specs.Option.{option_map}
use Rattle.atomic_table.specs.Seated.{TableId}
use Rattle.ct_bus.specs.Ends.{out_queue, taken_from}
use Rattle.ct_bus.specs.Relay.{IsFront}
use Rattle.ct_bus.specs.Seats.{AreFronts, AreFrontsTo, AreReceiving, AreSending, IsReceiving, IsSending, Queues, Shown, messages_of, receiving, sending}
use Rattle.ct_bus.specs.declared.seat.SendSeat.{SendSeat}
use Rattle.ct_bus.specs.declared.message.Message.{Message}
use Rattle.ct_bus.specs.declared.ends.TakeEnd.{TakeEnd}
use Rattle.ct_bus.specs.declared.seat.ReceiveSeat.{ReceiveSeat}
use Rattle.ct_bus.proofs.Places.{at_snoc, at_seam}

-- the messages of another node stay where one more list of messages comes
messages_stay : (n : ℕ) (all : List (List Message)) (ms : List Message) → n ≢ length all → messages_of n (all ++ ms ∷ []) ≡ messages_of n all
messages_stay zero [] ms apart = absurd (apart refl)
messages_stay (suc n) [] ms apart = refl
messages_stay zero (x ∷ xs) ms apart = refl
messages_stay (suc n) (x ∷ xs) ms apart = messages_stay n xs ms (λ e. apart (ap suc e))

messages_more : (all : List (List Message)) (ms : List Message) → messages_of (length all) (all ++ ms ∷ []) ≡ ms
messages_more [] ms = refl
messages_more (x ∷ xs) ms = messages_more xs ms

-- nothing is a front of everything
pub no_fronts : (receiver : ℕ) (posting : List Shown) → AreFrontsTo receiver posting []
no_fronts receiver posting sender s e = (messages_of receiver s.messages, refl)

-- one more sender is settled
pub fronts_more : (receiver : ℕ) (posting : List Shown) (done : List TakeEnd) (take : TakeEnd) → AreFrontsTo receiver posting (map taken_from done)
    → ((s : Shown) → slice_get posting (length done) ≡ Some s → IsFront (taken_from take) (messages_of receiver s.messages))
    → AreFrontsTo receiver posting (map taken_from (done ++ take ∷ []))
fronts_more receiver posting done take before now sender s e =
    subst (λ (all : List (List Message)). IsFront (messages_of sender all) (messages_of receiver s.messages)) (sym (map-append taken_from done (take ∷ [])))
    (⊎_elim
    (λ (is : sender ≡ length done). subst (λ (ms : List Message). IsFront ms (messages_of receiver s.messages))
    (sym (messages_more (map taken_from done) (taken_from take)) ∙ ap (λ (k : ℕ). messages_of k (map taken_from done ++ taken_from take ∷ [])) (length-map done taken_from ∙ sym is))
    (now s (subst (λ (k : ℕ). slice_get posting k ≡ Some s) is e)))
    (λ (apart : sender ≢ length done). subst (λ (ms : List Message). IsFront ms (messages_of receiver s.messages))
    (sym (messages_stay sender (map taken_from done) (taken_from take) (λ x. apart (x ∙ length-map done taken_from))))
    (before sender s e))
    (cases_eq sender (length done)))

-- one more receiver is settled
pub all_fronts_more : (posting : List Shown) (bus : Queues) (done rest all : List ReceiveSeat) (r : ReceiveSeat) → all ≡ done ++ r ∷ rest → AreReceiving bus (map receiving all) → AreFronts posting (map receiving done)
    → AreFrontsTo (receiving r).node posting (receiving r).messages → AreFronts posting (map receiving (done ++ r ∷ []))
all_fronts_more posting bus done rest all r is seats before now receiver shown e =
    ⊎_elim
    (λ (i : slice_get (map receiving done) receiver ≡ Some shown). before receiver shown i)
    (λ (i : (receiver ≡ length (map receiving done)) × (shown ≡ receiving r)).
    (let n : receiver ≡ length done = i.0 ∙ length-map done receiving in
    let at : slice_get (map receiving all) (length done) ≡ Some (receiving r) = slice_get-map receiving all (length done) ∙ ap (λ (x : Option ReceiveSeat). option_map receiving x) (ap (λ (x : List ReceiveSeat). slice_get x (length done)) is ∙ at_seam done r rest) in
    let node : (receiving r).node ≡ receiver = (seats.each (length done) (receiving r) at).0 ∙ sym n in
    subst (λ (x : Shown). AreFrontsTo receiver posting x.messages) (sym i.1) (subst (λ (k : ℕ). AreFrontsTo k posting (receiving r).messages) node now)))
    (at_snoc (map receiving done) (receiving r) shown receiver (subst (λ (x : List Shown). slice_get x receiver ≡ Some shown) (map-append receiving done (r ∷ [])) e))

-- the seat that takes next is a seat of the bus
pub next_receives : (bus : Queues) (done rest all : List ReceiveSeat) (r : ReceiveSeat) → all ≡ done ++ r ∷ rest → AreReceiving bus (map receiving all) → IsReceiving bus (receiving r)
next_receives bus done rest all r is seats =
    (seats.each (length done) (receiving r) (slice_get-map receiving all (length done) ∙ ap (λ (x : Option ReceiveSeat). option_map receiving x) (ap (λ (x : List ReceiveSeat). slice_get x (length done)) is ∙ at_seam done r rest))).1

pub same_some : {A : Type 0} (a b : A) → Some a ≡ Some b → a ≡ b
same_some a b e = cc

-- the queue of a column's place stands in the row of that place
pub column_there : (bus : Queues) (s : Shown) (n : ℕ) (row : List TableId) → IsReceiving bus s → slice_get bus n ≡ Some row → (q : TableId) × (slice_get row s.node ≡ Some q) × (slice_get s.queues n ≡ Some q)
column_there bus s n row h at = of (slice_get s.queues n) refl
  where
    both : option_map (λ (q : TableId). Some q) (slice_get s.queues n) ≡ Some (slice_get row s.node)
    both = sym (slice_get-map (λ (q : TableId). Some q) s.queues n) ∙ ap (λ (x : List (Option TableId)). slice_get x n) h.column ∙ slice_get-map (λ (r : List TableId). slice_get r s.node) bus n
        ∙ ap (λ (x : Option (List TableId)). option_map (λ (r : List TableId). slice_get r s.node) x) at

    of : (found : Option TableId) → slice_get s.queues n ≡ found → (q : TableId) × (slice_get row s.node ≡ Some q) × (slice_get s.queues n ≡ Some q)
    of None is = absurd (let e = ap (λ (x : Option TableId). option_map (λ (q : TableId). Some q) x) (sym is) ∙ both in cc)
    of (Some q) is = (q, sym (same_some (Some q) (slice_get row s.node) (ap (λ (x : Option TableId). option_map (λ (q : TableId). Some q) x) (sym is) ∙ both)), is)

-- a seat that takes has an end for each node
pub column_many : (bus : Queues) (s : Shown) → IsReceiving bus s → length s.queues ≡ length bus
column_many bus s h = sym (length-map s.queues (λ (q : TableId). Some q)) ∙ ap (λ (x : List (Option TableId)). length x) h.column ∙ length-map bus (λ (r : List TableId). slice_get r s.node)

pub line_there : (bus : Queues) (s : Shown) (n : ℕ) (row : List TableId) → IsReceiving bus s → n < length bus → row ≡ slice_index_or bus n row → (q : TableId) × (slice_get row s.node ≡ Some q) × (slice_get s.queues n ≡ Some q)
line_there bus s n row h within is = column_there bus s n row h (slice_get_read bus (length bus) n row refl within is)

-- the next sender to be settled, the queue between the two, and where its seat stands
pub pair_there : (bus : Queues) (ss : List SendSeat) (r : ReceiveSeat) (done rest : List TakeEnd) (take : TakeEnd) (k : ℕ) (seat : SendSeat) → AreSending bus (map sending ss) → IsReceiving bus (receiving r) → r.ends.items ≡ done ++ take ∷ rest
    → length done ≡ k → seat ≡ slice_index_or ss k seat
    → (k < length ss) × IsSending bus (sending seat) × (slice_get (sending seat).queues r.me ≡ Some (out_queue take)) × (slice_get (map sending ss) k ≡ Some (sending seat))
pair_there bus ss r done rest take k seat sends receives is count at =
    let within : k < length ss = (
    let e = ap (λ (x : List TakeEnd). length x) is in
    let d = length-append done (take ∷ rest) in
    let m = column_many bus (receiving r) receives in
    let q = length-map r.ends.items out_queue in
    let s = sends.count in
    let t = length-map ss sending in
    omega arith
    ) in
    let stands : slice_get (map sending ss) k ≡ Some (sending seat) = slice_get-map sending ss k ∙ ap (λ (x : Option SendSeat). option_map sending x) (slice_get_read ss (length ss) k seat refl within at) in
    let it = sends.each k (sending seat) stands in
    let row : slice_get bus k ≡ Some (sending seat).queues = subst (λ (n : ℕ). slice_get bus n ≡ Some (sending seat).queues) it.0 it.1.row in
    let there = column_there bus (receiving r) k (sending seat).queues receives row in
    let taken : slice_get (receiving r).queues k ≡ Some (out_queue take) = slice_get-map out_queue r.ends.items k ∙ ap (λ (x : Option TakeEnd). option_map out_queue x) (ap (λ (x : List TakeEnd). slice_get x k) is ∙ subst (λ (n : ℕ). slice_get (done ++ take ∷ rest) n ≡ Some take) count (at_seam done take rest)) in
    (within, it.1, there.1 ∙ sym there.2 ∙ taken, stands)
