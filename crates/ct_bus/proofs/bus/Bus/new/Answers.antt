use Rattle.std.proofs.Common.{arith, rules, ◌≡◌, ◌∙◌, ◌+◌, ℕ, [], ◌∷◌, ◌++◌, ap, length, map}
use Rattle.std.proofs.lemmas.List.{length-append}
use Rattle.ct_bus.specs.Seats.{Queues, receiving, sending}
use Rattle.ct_bus.proofs.Columns.{columns_receive, pushed_column, pushed_row, rows_send}
use Rattle.ct_bus.proofs.bus.Bus.new.Goals as goal

pub loop-sender-preserved : goal.loop-sender-preserved
loop-sender-preserved g c =
    let i = c.loop-sender.invariant in
    let l = c.in_ok-lines.field-0 in
    let wide : c.push.new.self ≡ c.loop-sender.rows ++ l.lines ∷ [] = search rules in
    record {
      below = omega (arith, c.loop-sender-test.true);
      count = ap (λ (r : Queues). length r) wide ∙ length-append c.loop-sender.rows (l.lines ∷ []) ∙ ap (λ (n : ℕ). n + 1) i.count;
      rows = pushed_row c.args.nodes c.loop-sender.sender c.loop-sender.rows c.push.new.self c.loop-sender.senders.items c.push-in-loop-sender.new.self.items l.send l.lines wide c.in_ok-push-2.ensures.items (search rules) i.count (search rules) i.rows;
      columns = pushed_column c.args.nodes c.loop-sender.rows c.push.new.self c.loop-sender.receivers.items c.in_ok-receivers-2.receivers.items l.takes.items l.lines wide c.in_ok-receivers-2.ensures (search rules) (search rules) (search rules) i.columns;
    }

pub returns-clause-seats : goal.returns-clause-seats
returns-clause-seats g c =
    let i = c.loop-sender.invariant in
    let all : length c.loop-sender.rows ≡ c.args.nodes = (let b = i.below in let k = i.count in omega (arith, c.loop-sender-test.false)) in
    record { sending = (rows_send c.args.nodes c.loop-sender.rows (map sending c.loop-sender.senders.items) all i.rows).0; receiving = (columns_receive c.args.nodes c.loop-sender.rows (map receiving c.loop-sender.receivers.items) all i.columns).0 }

pub returns-clause-new : goal.returns-clause-new
returns-clause-new g c =
    let i = c.loop-sender.invariant in
    let all : length c.loop-sender.rows ≡ c.args.nodes = (let b = i.below in let k = i.count in omega (arith, c.loop-sender-test.false)) in
    ((rows_send c.args.nodes c.loop-sender.rows (map sending c.loop-sender.senders.items) all i.rows).1, (columns_receive c.args.nodes c.loop-sender.rows (map receiving c.loop-sender.receivers.items) all i.columns).1)
