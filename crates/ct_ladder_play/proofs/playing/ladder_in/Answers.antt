use Rattle.std.proofs.Common.{◌∙◌, sym}
use Rattle.ct_call.specs.Shown.{rules_of}
use Rattle.ct_ladder_play.proofs.Climbing.{ladder_made, ladder_unended}
use Rattle.ct_ladder_play.proofs.playing.ladder_in.Goals as goal

pub returns-then-not-is_empty-clause-ladder : goal.returns-then-not-is_empty-clause-ladder
returns-then-not-is_empty-clause-ladder g c =
    ladder_unended (λ l. l.now) c.args.parts.now c.saturating_sub-n.result (rules_of c.args.table.now) c.args.shown c.new-session.result c.climb_all.new.session c.new-rungs.result.items c.climb_all.new.rungs.items c.word_at.result.now
    c.saturating_sub-n.ensures c.new-session.ensures c.word_at.ensures (sym c.is_empty.ensures ∙ c.if-not-is_empty.true) c.in-Ok.ensures

pub returns-clause-ladder : goal.returns-clause-ladder
returns-clause-ladder g c =
    ladder_made (λ l. l.now) c.args.parts.now c.saturating_sub-n.result (rules_of c.args.table.now) c.args.shown c.new-session.result c.climb_all.new.session c.new-rungs.result.items c.climb_all.new.rungs.items c.new.result c.nodes_of.result c.word_at.result.now
    c.saturating_sub-n.ensures c.new-session.ensures c.word_at.ensures (sym c.is_empty.ensures ∙ c.if-not-is_empty.false) c.in-Ok.ensures
    c.new-rungs.ensures.items (c.new.ensures ∙ c.in-Ok-add_pending.ensures) c.nodes_of.ensures.nodes
