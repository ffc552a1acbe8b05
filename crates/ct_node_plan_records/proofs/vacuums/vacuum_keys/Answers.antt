use Rattle.std.proofs.Common.{◌∙◌, rules, sym}
use Rattle.std.proofs.lemmas.List.{nil_from_length}
use Rattle.ct_node_plan_records.specs.Walked.{so_far}
use Rattle.ct_node_plan_records.proofs.Walking.{walk_begins, walk_ends, walk_fails, walk_goes}
use Rattle.ct_node_plan_records.proofs.vacuums.vacuum_keys.Goals as goal

pub loop-key-init : goal.loop-key-init
loop-key-init c =
    walk_begins c.args.config.now c.args.me c.args.db c.args.node.now c.args.keys.items c.into_iter-key-iterator.result.rest.items c.begins-walk.result c.begins-walk.ensures (search rules) c.requires.ascending

pub returns-in-Err : goal.returns-in-Err
returns-in-Err c =
    walk_fails c.args.config.now c.args.me c.args.db c.args.node.now c.args.keys.items c.in-Some.key c.loop-key.key-iterator.rest.items c.next.new.self.rest.items c.loop-key.walk c.in-Err.fault
    (so_far c.args.db c.args.node.now c.vacuum_key.new.self) (search rules) c.loop-key.invariant c.in-Err.ensures.step

pub loop-key-preserved : goal.loop-key-preserved
loop-key-preserved c =
    walk_goes c.args.config.now c.args.me c.args.db c.args.node.now c.args.keys.items c.in-Some.key c.loop-key.key-iterator.rest.items c.next.new.self.rest.items c.loop-key.walk c.vacuum_key.new.self
    (search rules) c.requires.order c.loop-key.invariant c.in_default.ensures.step c.in_default.ensures.middle

pub returns : goal.returns
returns c =
    walk_ends c.args.config.now c.args.me c.args.db c.args.node.now c.args.keys.items c.loop-key.key-iterator.rest.items c.loop-key.walk
    (nil_from_length _ (sym c.loop-key.key-iterator.rest.ok.0 ∙ c.in-None.ensures.steps.0)) c.loop-key.invariant
