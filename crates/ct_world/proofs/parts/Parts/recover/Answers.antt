use Rattle.std.proofs.Common.{◌≡◌, ◌+◌, ◌∷◌, [], List, Some, ℕ, true, ap, subst, sym}
use Rattle.std.specs.Prelude.{Vec}
use Rattle.std.specs.declared.alloc.Global.{Global}
use Rattle.ct_call.specs.Shown.{rules_of}
use Rattle.ct_rules_cluster.specs.Steps.{steps}
use Rattle.ct_rules_cluster.specs.declared.step.Line.{Line}
use Rattle.ct_rules_cluster.specs.declared.step.Line.TheVariants as line
use Rattle.ct_frame.specs.declared.event.Event.TheVariants as event
use Rattle.ct_rules_node.specs.Coming.{may_come}
use Rattle.ct_world.specs.World.{cluster_of, world_of}
use Rattle.ct_rules_cluster.specs.Cluster.{node_at}
use Rattle.ct_rules_cluster.specs.Steps.{recover}
use Rattle.ct_world.proofs.Asked.{few_tickets, recover_node, round_comes}
use Rattle.ct_world.proofs.Given.{fed_as, no_memory, one_fits}
use Rattle.ct_world.proofs.parts.Parts.recover.Goals as goal

pub overflow_add-books : goal.overflow_add-books
overflow_add-books g c = one_fits c.args.self.now.books.ticket (few_tickets c.args.self.now c.requires.form)

pub feed-answer-requires-clause-there : goal.feed-answer-requires-clause-there
feed-answer-requires-clause-there g c = recover_node c.args.self.now c.args.node c.args.members.now c.requires

pub feed-answer-requires-clause-coming : goal.feed-answer-requires-clause-coming
feed-answer-requires-clause-coming g c =
    subst (λ (ms : List ℕ). may_come c.args.self.now.config c.args.node (node_at c.args.node (cluster_of c.args.self.now)) (event.BeginRound (c.args.self.now.books.ticket + 1) ms) ≡ true) (sym c.in_ok-members.ensures)
    (round_comes c.args.self.now c.args.node c.args.members.now (c.args.self.now.books.ticket + 1) c.requires)

pub returns-clause-step : goal.returns-clause-step
unfolding steps recover
returns-clause-step g c =
    let w = cluster_of c.args.self.now in
    let t = c.args.self.now.books.ticket + 1 in
    fed_as (λ (v : Vec Line Global). v.items) c.feed-answer.result c.args.self.now.config (rules_of c.args.table.now) c.args.node (event.BeginRound t c.in_ok-members.members) (event.BeginRound t c.args.members.now) c.in_ok-own.own.items (line.Ticket t c.args.node ∷ []) (record w { holder = Some c.args.node; ticket = t }) (world_of c.args.self.now) (world_of c.feed-answer.new.self)
    c.in_ok-own.ensures (ap (λ (ms : List ℕ). event.BeginRound t ms) c.in_ok-members.ensures) c.feed-answer.ensures.step

pub returns-in_err-members-clause-step : goal.returns-in_err-members-clause-step
returns-in_err-members-clause-step g c = no_memory (λ (v : Vec Line Global). v.items) c.from_residual.result _ _ c.from_residual.ensures.1

pub returns-in_err-own-clause-step : goal.returns-in_err-own-clause-step
returns-in_err-own-clause-step g c = no_memory (λ (v : Vec Line Global). v.items) c.from_residual-in_err-own.result _ _ c.from_residual-in_err-own.ensures.1
