use Rattle.std.proofs.Common.{rules, ◌≡◌, ◌∙◌, ◌<◌, ◌++◌, ℕ, List, ap, sym, subst, length, map, take, drop}
use Rattle.std.specs.Prelude.{Some, slice_index_or}
use Rattle.std.proofs.Math.Seq.{take-append_seam}
use Rattle.std.proofs.lemmas.Option.{slice_get-get_or}
use Rattle.ct_bus.specs.Seats.{AreFronts, AreNew, AreSeats, receiving, sending}
use Rattle.ct_bus.specs.declared.seat.ReceiveSeat.{ReceiveSeat}
use Rattle.ct_bus.specs.declared.seat.SendSeat.{SendSeat}
use Rattle.ct_bus_exchange.specs.Shown.{handled_by}
use Rattle.ct_bus_threads.specs.Works.{IsSound}
use Rattle.ct_bus_threads.specs.declared.work.Work.{Work}
use Rattle.ct_bus_threads.proofs.Whole.{AreBegun, AreServed, are_begun, begins, served_seats, served_whole}
use Rattle.ct_bus_threads.proofs.exchange.exchange_behind.Goals as goal

pub serve_all-requires-clause-sound : goal.serve_all-requires-clause-sound
serve_all-requires-clause-sound g c κs inside k d within =
    let o = c.in_ok-bus.field-0 in
    let works : List Work = c.in_ok-works.works.items in
    let e = c.in_ok-bus.ensures in
    let s = c.in_ok-works.ensures in
    let begun : AreBegun o.bus c.args.scripts.now works = are_begun o.bus c.args.scripts.now o.senders.items o.receivers.items works c.requires e.count e.seats e.new s.sends s.receives s.todos in
    let now : c.as_mut_slice.result.now ≡ works = search rules in
    subst (λ (l : List Work). IsSound o.bus (slice_index_or l k d)) (sym now) (begins o.bus c.args.scripts.now works begun k (slice_index_or works k d) (slice_get-get_or works k d (subst (λ (l : List Work). k < length l) now within))).0

pub settle_up-requires : goal.settle_up-requires
settle_up-requires g c =
    let o = c.in_ok-bus.field-0 in
    let works : List Work = c.in_ok-works.works.items in
    let after : List Work = c.serve_all.new.works in
    let e = c.in_ok-bus.ensures in
    let s = c.in_ok-works.ensures in
    let p = c.in_ok-senders.field-0 in
    let begun : AreBegun o.bus c.args.scripts.now works = are_begun o.bus c.args.scripts.now o.senders.items o.receivers.items works c.requires e.count e.seats e.new s.sends s.receives s.todos in
    let served : AreServed (handled_by c.args.handlers.now) o.bus works after = search rules in
    let many : c.in_ok-works.works.len ≡ length after = search rules in
    let whole : take c.in_ok-works.works.len (after ++ drop (length after) works) ≡ after = ap (λ (n : ℕ). take n (after ++ drop (length after) works)) many ∙ take-append_seam after (drop (length after) works) in
    let sends : p.senders.items ≡ map (λ w. w.send) after = c.in_ok-senders.ensures.senders ∙ ap (λ (l : List Work). map (λ w. w.send) l) whole in
    let receives : p.receivers.items ≡ map (λ w. w.receive) after = c.in_ok-senders.ensures.receivers ∙ ap (λ (l : List Work). map (λ w. w.receive) l) whole in
    subst (λ (l : List SendSeat). AreSeats o.bus l p.receivers.items) (sym sends) (subst (λ (l : List ReceiveSeat). AreSeats o.bus (map (λ w. w.send) after) l) (sym receives) (served_seats (handled_by c.args.handlers.now) o.bus c.args.scripts.now works after begun served))

pub returns : goal.returns
returns g c =
    let o = c.in_ok-bus.field-0 in
    let works : List Work = c.in_ok-works.works.items in
    let after : List Work = c.serve_all.new.works in
    let e = c.in_ok-bus.ensures in
    let s = c.in_ok-works.ensures in
    let p = c.in_ok-senders.field-0 in
    let begun : AreBegun o.bus c.args.scripts.now works = are_begun o.bus c.args.scripts.now o.senders.items o.receivers.items works c.requires e.count e.seats e.new s.sends s.receives s.todos in
    let served : AreServed (handled_by c.args.handlers.now) o.bus works after = search rules in
    let many : c.in_ok-works.works.len ≡ length after = search rules in
    let whole : take c.in_ok-works.works.len (after ++ drop (length after) works) ≡ after = ap (λ (n : ℕ). take n (after ++ drop (length after) works)) many ∙ take-append_seam after (drop (length after) works) in
    let sends : p.senders.items ≡ map (λ w. w.send) after = c.in_ok-senders.ensures.senders ∙ ap (λ (l : List Work). map (λ w. w.send) l) whole in
    let receives : p.receivers.items ≡ map (λ w. w.receive) after = c.in_ok-senders.ensures.receivers ∙ ap (λ (l : List Work). map (λ w. w.receive) l) whole in
    let left : map (λ v. Some v) p.done.items ≡ map (λ w. w.done) after = c.in_ok-senders.ensures.done ∙ ap (λ (l : List Work). map (λ w. w.done) l) whole in
    served_whole (handled_by c.args.handlers.now) o.bus c.args.scripts.now works after p.done.items begun served
    (subst (λ (l : List SendSeat). AreFronts (map sending l) (map receiving (map (λ w. w.receive) after))) sends (subst (λ (l : List ReceiveSeat). AreFronts (map sending p.senders.items) (map receiving l)) receives c.settle_up.ensures)) left
