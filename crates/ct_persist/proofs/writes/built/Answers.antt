use Rattle.std.proofs.Common.{◌≡◌, subst, rules}
use Rattle.ct_store.specs.Map.{write}
use Rattle.ct_persist.specs.Persisted.{keyed}
use Rattle.ct_persist.proofs.Orders.{built_more}
use Rattle.ct_persist.proofs.writes.built.Goals as goal

pub loop-pair-preserved-in_ok-put : goal.loop-pair-preserved-in_ok-put
loop-pair-preserved-in_ok-put c = built_more c.loop-pair.items c.put.new.self (keyed c.args.pairs.items) c.in-Some.pair _ _ c.requires c.loop-pair.invariant (search rules) (subst (λ p. c.put.new.self ≡ write p.0 p.1 c.loop-pair.items) c.into_parts-key.ensures c.in_ok-put.ensures.ok)

pub loop-pair-preserved : goal.loop-pair-preserved
loop-pair-preserved c = built_more c.loop-pair.items c.put.new.self (keyed c.args.pairs.items) c.in-Some.pair _ _ c.requires c.loop-pair.invariant (search rules) (subst (λ p. c.put.new.self ≡ write p.0 p.1 c.loop-pair.items) c.into_parts-key.ensures c.in_ok-put.ensures.ok)
