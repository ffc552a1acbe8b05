use Rattle.std.proofs.Common.{◌∙◌, ap, rules, sym}
use Rattle.std.proofs.lemmas.List.{nil_from_length}
use Rattle.std.specs.Map.Iter.{deref_pair}
use Rattle.ct_rules_node.specs.Rounds.{changed}
use Rattle.ct_node_database.specs.Sweeps.{swept}
use Rattle.ct_node_database.proofs.Sweeping.{fills, filled, swept_ascends}
use Rattle.ct_node_database.proofs.database.Database.fill.Goals as goal

pub loop-key-preserved : goal.loop-key-preserved
loop-key-preserved c =
    let f = swept c.args.sweep in
    fills deref_pair f c.args.self.now (changed f c.args.records.now) c.loop-key.self c.add.new.self (c.in-Some.key, c.in-Some.state) c.in_ok-copy.field-0 c.in_ok-state.state
    c.loop-key.key-iterator.rest.items c.next.new.self.rest.items (search rules) (swept_ascends f c.args.records.now c.are_in_order.ensures) c.loop-key.invariant c.in_ok-copy.ensures (c.in_ok-state.ensures ∙ ap f c.as_ref.ensures)
    c.in_ok-add.ensures.blank c.in_ok-add.ensures.worth

pub returns : goal.returns
returns c =
    let f = swept c.args.sweep in
    filled deref_pair f c.args.self.now (changed f c.args.records.now) c.loop-key.self c.loop-key.key-iterator.rest.items (nil_from_length _ (sym c.loop-key.key-iterator.rest.ok.0 ∙ c.in-None.ensures.steps.0)) c.loop-key.invariant
