use Rattle.std.proofs.Common.{rules, ◌≡◌, ◌∙◌, ◌+◌, ℕ, List, [], ◌∷◌, ap, length, refl, false}
use Rattle.std.specs.Prelude.{None}
use Rattle.std.specs.Vec.Iter.{into_iter_items}
use Rattle.std.proofs.lemmas.List.{length-append}
use Rattle.ct_bus_threads.specs.declared.work.Work.{Work}
use Rattle.ct_bus_threads.proofs.Served.{moved, todos_more}
use Rattle.ct_bus_threads.proofs.seats.seated.Goals as goal

pub loop-send-preserved : goal.loop-send-preserved
loop-send-preserved c =
    let i = c.loop-send.invariant in
    let old : List Work = c.loop-send.works.items in
    let new : List Work = c.push.new.self.items in
    let w : Work = record { node = c.loop-send.node; send = c.in-Some.send; receive = c.in-Some-next.receive; all = c.in_ok-all.all; lost = false; done = None } in
    let sent : c.loop-send.send-iterator.rest.items ≡ c.in-Some.send ∷ c.next.new.self.rest.items = search rules in
    let received : into_iter_items c.loop-send.seats ≡ c.in-Some-next.receive ∷ into_iter_items c.next-in-loop-send.new.self = search rules in
    let e = c.in_ok-all.ensures in
    record {
      count = ap (λ (l : List Work). length l) c.in_ok-push.ensures.items ∙ length-append old (w ∷ []) ∙ ap (λ (n : ℕ). n + 1) i.count;
      sends = moved (λ x. x.send) old new w c.loop-send.send-iterator.rest.items c.next.new.self.rest.items c.into_iter-send-iterator.result.rest.items c.in_ok-push.ensures.items sent i.sends;
      receives = moved (λ x. x.receive) old new w (into_iter_items c.loop-send.seats) (into_iter_items c.next-in-loop-send.new.self) (into_iter_items c.into_iter-seats.result) c.in_ok-push.ensures.items received i.receives;
      todos = todos_more c.args.scripts.now old new w c.loop-send.node c.in_ok-push.ensures.items i.count (record { node = refl; left = e.left; wanted = e.wanted; came = e.came; got = e.got }) i.todos;
    }
