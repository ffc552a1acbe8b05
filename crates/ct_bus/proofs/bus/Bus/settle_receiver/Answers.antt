use Rattle.std.proofs.Common.{rules, ◌≡◌, ◌∙◌, ◌+◌, ℕ, List, [], ◌∷◌, ◌++◌, ap, sym, subst, length, map, append_assoc}
use Rattle.std.specs.Prelude.{Some, slice_get}
use Rattle.std.proofs.Math.Seq.{map-set_same}
use Rattle.std.proofs.lemmas.List.{length-append}
use Rattle.ct_bus.specs.Ends.{taken_from}
use Rattle.ct_bus.specs.Relay.{IsFront}
use Rattle.ct_bus.specs.Seats.{AreSending, Shown, messages_of, sending}
use Rattle.ct_bus.specs.declared.ends.TakeEnd.{TakeEnd}
use Rattle.ct_bus.specs.declared.seat.SendSeat.{SendSeat}
use Rattle.ct_bus.proofs.Fronts.{fronts_more, pair_there, same_some}
use Rattle.ct_bus.proofs.bus.Bus.settle_receiver.Goals as goal

pub settle_pair-requires-clause-seat : goal.settle_pair-requires-clause-seat
settle_pair-requires-clause-seat g c =
    let start : c.into_iter-take-iterator.result.rest.items ≡ c.args.receiver.ends.items = search rules in
    let step : c.loop-take.take-iterator.rest.items ≡ c.in-Some.take ∷ c.next.new.self.rest.items = search rules in
    let i = c.loop-take.invariant in
    let ss : List SendSeat = c.loop-take.senders.items in
    let seat : SendSeat = c.index_mut.result.now in
    (pair_there c.args.self.now ss c.args.receiver i.0 c.next.new.self.rest.items c.in-Some.take c.loop-take.sender seat (subst (λ (xs : List Shown). AreSending c.args.self.now xs) (sym i.3) c.requires.senders) c.requires.receiver
    (sym start ∙ i.1 ∙ ap (λ (xs : List TakeEnd). i.0 ++ xs) step) i.2 c.index_mut.ensures.value).1

pub settle_pair-requires-clause-take : goal.settle_pair-requires-clause-take
settle_pair-requires-clause-take g c =
    let start : c.into_iter-take-iterator.result.rest.items ≡ c.args.receiver.ends.items = search rules in
    let step : c.loop-take.take-iterator.rest.items ≡ c.in-Some.take ∷ c.next.new.self.rest.items = search rules in
    let i = c.loop-take.invariant in
    let ss : List SendSeat = c.loop-take.senders.items in
    let seat : SendSeat = c.index_mut.result.now in
    (pair_there c.args.self.now ss c.args.receiver i.0 c.next.new.self.rest.items c.in-Some.take c.loop-take.sender seat (subst (λ (xs : List Shown). AreSending c.args.self.now xs) (sym i.3) c.requires.senders) c.requires.receiver
    (sym start ∙ i.1 ∙ ap (λ (xs : List TakeEnd). i.0 ++ xs) step) i.2 c.index_mut.ensures.value).2

pub loop-take-preserved : goal.loop-take-preserved
loop-take-preserved g c =
    let start : c.into_iter-take-iterator.result.rest.items ≡ c.args.receiver.ends.items = search rules in
    let step : c.loop-take.take-iterator.rest.items ≡ c.in-Some.take ∷ c.next.new.self.rest.items = search rules in
    let i = c.loop-take.invariant in
    let ss : List SendSeat = c.loop-take.senders.items in
    let k : ℕ = c.loop-take.sender in
    let seat : SendSeat = c.index_mut.result.now in
    let t = pair_there c.args.self.now ss c.args.receiver i.0 c.next.new.self.rest.items c.in-Some.take k seat (subst (λ (xs : List Shown). AreSending c.args.self.now xs) (sym i.3) c.requires.senders) c.requires.receiver
    (sym start ∙ i.1 ∙ ap (λ (xs : List TakeEnd). i.0 ++ xs) step) i.2 c.index_mut.ensures.value in (
      i.0 ++ c.in-Some.take ∷ [],
      i.1 ∙ ap (λ (xs : List TakeEnd). i.0 ++ xs) step ∙ sym (append_assoc i.0 (c.in-Some.take ∷ []) c.next.new.self.rest.items),
      length-append i.0 (c.in-Some.take ∷ []) ∙ ap (λ (n : ℕ). n + 1) i.2,
      map-set_same sending ss k c.settle_pair.new.seat seat (c.settle_pair.ensures.same ∙ ap (λ (x : SendSeat). sending x) c.index_mut.ensures.value) ∙ i.3,
      fronts_more c.args.receiver.me (map sending c.args.senders.now.items) i.0 c.in-Some.take i.4 (λ (s : Shown) (e : slice_get (map sending c.args.senders.now.items) (length i.0) ≡ Some s).
          subst (λ (x : Shown). IsFront (taken_from c.in-Some.take) (messages_of c.args.receiver.me x.messages))
          (sym (same_some s (sending seat) (sym e ∙ ap (λ (n : ℕ). slice_get (map sending c.args.senders.now.items) n) i.2 ∙ ap (λ (xs : List Shown). slice_get xs k) (sym i.3) ∙ t.3)))
          c.settle_pair.ensures.front),
    )
