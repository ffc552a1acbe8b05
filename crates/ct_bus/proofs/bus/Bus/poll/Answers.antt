use Rattle.std.proofs.Common.{arith, rules, ◌≡◌, ◌∙◌, List, ap, sym}
use Rattle.std.specs.Prelude.{slice_get}
use Rattle.std.proofs.lemmas.Option.{slice_get_within, get_or_from_slice_get}
use Rattle.atomic_table.specs.Seated.{TableId}
use Rattle.ct_bus.specs.Ends.{out_queue}
use Rattle.ct_bus.specs.Seats.{receiving}
use Rattle.ct_bus.proofs.Fronts.{column_many, line_there}
use Rattle.ct_bus.proofs.Seats.{out_there, polls}
use Rattle.std.proofs.lemmas.List.{length-map}
use Rattle.ct_bus.proofs.bus.Bus.poll.Goals as goal

pub bounds-row-me : goal.bounds-row-me
bounds-row-me g c =
    let t = line_there c.args.self.now (receiving c.args.seat.now) c.args.sender c.index-as_slice-place.result c.requires.seat c.requires.sender.0 (search rules) in
    let row : c.as_slice-row.result.now ≡ c.index-as_slice-place.result = search rules in
    slice_get_within c.as_slice-row.result.now c.args.seat.now.me t.0 (ap (λ (x : List TableId). slice_get x c.args.seat.now.me) row ∙ t.1)

pub poll-requires : goal.poll-requires
poll-requires g c =
    let t = line_there c.args.self.now (receiving c.args.seat.now) c.args.sender c.index-as_slice-place.result c.requires.seat c.requires.sender.0 (search rules) in
    let row : c.as_slice-row.result.now ≡ c.index-as_slice-place.result = search rules in
    record {
      line = out_there c.args.seat.now.ends.items c.args.sender c.index_mut.result.now t.0 c.index_mut.ensures.value t.2
          ∙ sym (get_or_from_slice_get c.as_slice-row.result.now c.args.seat.now.me t.0 c.index-row-me.result (ap (λ (x : List TableId). slice_get x c.args.seat.now.me) row ∙ t.1)) ∙ sym c.index-row-me.is;
    }

pub returns-clause-taken : goal.returns-clause-taken
returns-clause-taken g c = polls c.args.seat.now.ends.items c.args.sender c.index_mut.result.now c.poll.new.end c.poll.result
    (let m = column_many c.args.self.now (receiving c.args.seat.now) c.requires.seat in let k = length-map c.args.seat.now.ends.items out_queue in let r = c.requires.sender.0 in omega arith) c.index_mut.ensures.value c.poll.ensures.taken
