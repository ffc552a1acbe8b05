use Rattle.std.proofs.Common.{◌∙◌, ◌+◌, ℕ, Err, Ok, ap, refl, subst, sym}
use Rattle.ct_node_plan.specs.Changes.{changed_by}
use Rattle.ct_world.specs.Feeding.{TellsAll, booked}
use Rattle.ct_world.specs.World.{Applies, AreSeated, cluster_of, world_of}
use Rattle.ct_world.specs.declared.parts.Parts.{Parts}
use Rattle.std.specs.Prelude.{Vec}
use Rattle.std.specs.declared.alloc.Global.{Global}
use Rattle.ct_rules_cluster.specs.Steps.{fed}
use Rattle.ct_rules_cluster.specs.declared.step.Line.{Line}
use Rattle.ct_world.proofs.Fed.{all_done, books_refused, has_item, seated_set, told_refused}
use Rattle.ct_world.proofs.Given.{no_memory}
use Rattle.ct_world.proofs.parts.Parts.carry_out.Goals as goal

pub returns-then-not-are_counted-clause-step : goal.returns-then-not-are_counted-clause-step
returns-then-not-are_counted-clause-step c = λ rules e h.
    let i = has_item c.args.self.now.cores c.args.node c.requires.there in
    (books_refused c.args.self.now rules c.args.node e c.args.own.items c.args.books i.0 i.1 c.requires.seats c.args.planned (h i.0 i.1) (sym c.if-not-are_counted.ensures), refl)

pub returns-in-Err-clause-step : goal.returns-in-Err-clause-step
returns-in-Err-clause-step c = λ rules e h.
    let i = has_item c.args.self.now.cores c.args.node c.requires.there in
    let t = subst (λ (k : ℕ). TellsAll (Err c.in-Err.fault) c.args.node (k + 1) c.args.own.items c.args.planned.outs) c.len.ensures c.in-Err.ensures in
    told_refused c.args.self.now rules c.args.node e c.args.own.items c.args.books i.0 i.1 c.requires.seats (λ (v : Vec Line Global). v.items) c.in-Err.fault c.args.planned (h i.0 i.1) t

pub returns-in_err-settle-clause-step : goal.returns-in_err-settle-clause-step
returns-in_err-settle-clause-step c = λ rules e h.
    subst (λ (q : Parts). Applies (λ (v : Vec Line Global). v.items) c.from_residual.result (fed c.args.self.now.config rules c.args.node e c.args.own.items (booked c.args.books (cluster_of c.args.self.now))) (world_of c.args.self.now) (world_of q)) (sym c.in_err-settle.ensures.err)
    (no_memory (λ (v : Vec Line Global). v.items) c.from_residual.result _ (world_of c.args.self.now) c.from_residual.ensures.1)

pub returns-in_err-settle-clause-seats : goal.returns-in_err-settle-clause-seats
returns-in_err-settle-clause-seats c = subst (λ (q : Parts). AreSeated q.config q.cores) (sym c.in_err-settle.ensures.err) c.requires.seats

pub settle-requires-clause-planned : goal.settle-requires-clause-planned
settle-requires-clause-planned c = λ x at. (c.args.planned.outs, c.requires.planned x at)

pub returns-clause-step : goal.returns-clause-step
returns-clause-step c = λ rules e h.
    let i = has_item c.args.self.now.cores c.args.node c.requires.there in
    let t = subst (λ (k : ℕ). TellsAll (Ok c.in-Ok.told) c.args.node (k + 1) c.args.own.items c.args.planned.outs) c.len.ensures c.in-Ok.ensures in
    let is = ap (λ (q : Parts). record q { books = c.args.books }) (c.in_ok-settle.ensures.ok i.0 i.1) in
    let all = all_done c.args.self.now rules c.args.node e c.args.own.items c.args.books i.0 i.1 c.requires.seats c.args.planned c.in-Ok.told (record c.settle.new.self { books = c.args.books }) (h i.0 i.1) t (sym c.if-not-are_counted.ensures) is in
    (all.0, all.1)

pub returns-clause-seats : goal.returns-clause-seats
returns-clause-seats c =
    let i = has_item c.args.self.now.cores c.args.node c.requires.there in
    subst (λ (q : Parts). AreSeated q.config q.cores) (sym (c.in_ok-settle.ensures.ok i.0 i.1))
    (seated_set c.args.self.now.config c.args.self.now.cores c.args.node i.0 (changed_by c.args.planned.change i.0.node) i.1 c.requires.seats)
