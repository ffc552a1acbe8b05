use Rattle.std.proofs.Common.{rules, ◌≡◌, ◌∙◌, List, [], ◌∷◌, ◌++◌, ap, sym, subst, map, append_assoc}
use Rattle.ct_bus.specs.Seats.{AreFrontsTo, Shown, receiving, sending}
use Rattle.ct_bus.specs.declared.seat.ReceiveSeat.{ReceiveSeat}
use Rattle.ct_bus.proofs.Fronts.{all_fronts_more, next_receives}
use Rattle.ct_bus.proofs.bus.Bus.settle_up.Goals as goal

pub settle_receiver-requires-clause-receiver : goal.settle_receiver-requires-clause-receiver
settle_receiver-requires-clause-receiver g c =
    let start : c.into_iter-receiver-iterator.result.rest.items ≡ c.args.receivers.items = search rules in
    let step : c.loop-receiver.receiver-iterator.rest.items ≡ c.in-Some.receiver ∷ c.next.new.self.rest.items = search rules in
    let i = c.loop-receiver.invariant in
    next_receives c.args.self i.0 c.next.new.self.rest.items c.args.receivers.items c.in-Some.receiver (sym start ∙ i.1 ∙ ap (λ (xs : List ReceiveSeat). i.0 ++ xs) step) c.requires.receiving

pub loop-receiver-preserved : goal.loop-receiver-preserved
loop-receiver-preserved g c =
    let start : c.into_iter-receiver-iterator.result.rest.items ≡ c.args.receivers.items = search rules in
    let step : c.loop-receiver.receiver-iterator.rest.items ≡ c.in-Some.receiver ∷ c.next.new.self.rest.items = search rules in
    let i = c.loop-receiver.invariant in (
      i.0 ++ c.in-Some.receiver ∷ [],
      i.1 ∙ ap (λ (xs : List ReceiveSeat). i.0 ++ xs) step ∙ sym (append_assoc i.0 (c.in-Some.receiver ∷ []) c.next.new.self.rest.items),
      c.settle_receiver.ensures.same ∙ i.2,
      all_fronts_more (map sending c.args.senders.items) c.args.self i.0 c.next.new.self.rest.items c.args.receivers.items c.in-Some.receiver (sym start ∙ i.1 ∙ ap (λ (xs : List ReceiveSeat). i.0 ++ xs) step) c.requires.receiving i.3
          (subst (λ (xs : List Shown). AreFrontsTo (receiving c.in-Some.receiver).node xs (receiving c.in-Some.receiver).messages) i.2 c.settle_receiver.ensures.fronts),
    )
