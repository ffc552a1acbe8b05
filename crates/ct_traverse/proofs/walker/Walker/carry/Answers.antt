use Rattle.std.proofs.Common.{ℕ, [], ◌∙◌, sym}
use Rattle.ct_traverse.proofs.Carrying.{carried_done, carried_gone, carried_refused, still_waits}
use Rattle.ct_traverse.proofs.walker.Walker.carry.Goals as goal

pub returns-then-not-is_taken : goal.returns-then-not-is_taken
returns-then-not-is_taken c = carried_gone c.args.number c.args.world.now c.args.self.now c.lose_it.new.self c.in-Some.post c.in_ok-lose_it.field-0.items
    (sym c.in_ok-post.ensures ∙ c.in-Some.is) (sym c.is_waiting.ensures ∙ c.if-not-is_waiting.false) (sym c.is_taken.ensures ∙ c.if-not-is_taken.true) c.in_ok-lose_it.ensures.lines
    (c.in_ok-lose_it.ensures.ok c.in-Some.post (sym c.in_ok-post.ensures ∙ c.in-Some.is))

pub end-requires-clause-waiting : goal.end-requires-clause-waiting
end-requires-clause-waiting c = still_waits c.args.number c.in-Some.post c.args.world.now c.args.self.now c.give.new.self c.in-Ok.lines.items (sym c.in_ok-post.ensures ∙ c.in-Some.is) (sym c.is_waiting.ensures ∙ c.if-not-is_waiting.false) c.in-Ok.ensures

pub returns-in-Ok : goal.returns-in-Ok
returns-in-Ok c = carried_done c.args.number c.in-Some.post c.args.world.now c.args.self.now c.give.new.self c.end.new.self c.in-Ok.lines.items (sym c.in_ok-post.ensures ∙ c.in-Some.is) (sym c.is_waiting.ensures ∙ c.if-not-is_waiting.false)
    (sym c.is_taken.ensures ∙ c.if-not-is_taken.false) c.in-Ok.ensures c.end.ensures

pub returns : goal.returns
returns c = carried_refused {X = ℕ} (λ n. []) c.args.number c.in-Some.post c.args.world.now c.args.self.now c.give.new.self c.in-Err.fault (sym c.in_ok-post.ensures ∙ c.in-Some.is) (sym c.is_waiting.ensures ∙ c.if-not-is_waiting.false)
    (sym c.is_taken.ensures ∙ c.if-not-is_taken.false) c.in-Err.ensures
