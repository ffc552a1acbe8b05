-- Moves one after the other, and the steps among them.
use Rattle.std.proofs.Common.{◌≡◌, ◌∙◌, List, [], ◌∷◌, ◌++◌, refl, sym, ap, append_assoc}
use Rattle.ct_values.specs.declared.config.Config.{Config}
use Rattle.ct_call.specs.Rules.{Rules}
use Rattle.ct_rules_cluster.specs.Cluster.{Cluster}
use Rattle.ct_rules_cluster.specs.Traces.{OpenCall, Ran, after, idle, ran}
use Rattle.ct_traverse_parts.specs.Moves.{Move, Stepped, Begin, Carry, Lose, Again, Moved, and_more, moved, moves_ran, stepped_by, steps_in}
use Rattle.ct_traverse_parts.specs.Walk.{Walk}

after_after : (q r t : Ran) → after q (after r t) ≡ after (after q r) t
unfolding after
after_after q r t = (λ i. record { cluster = t.cluster; lines = sym (append_assoc q.lines r.lines t.lines) i; trace = sym (append_assoc q.trace r.trace t.trace) i; log = t.log })

more_more : (x y z : Moved) → and_more x (and_more y z) ≡ and_more (and_more x y) z
more_more x y z = (λ i. record { ran = after_after x.ran y.ran z.ran i; walk = z.walk; told = sym (append_assoc x.told y.told z.told) i })

-- some moves and others are the ones and then the others
pub moves_append : (c : Config) (rules : Rules) (w : Cluster) (log : List OpenCall) (k : Walk) (xs ys : List Move)
    → moves_ran c rules w log k (xs ++ ys)
    ≡ and_more (moves_ran c rules w log k xs) (moves_ran c rules (moves_ran c rules w log k xs).ran.cluster (moves_ran c rules w log k xs).ran.log (moves_ran c rules w log k xs).walk ys)
unfolding moves_ran after idle
moves_append c rules w log k [] ys = refl
moves_append c rules w log k (m ∷ xs) ys =
    let x = moved c rules w log k m in
    let q = moves_ran c rules x.ran.cluster x.ran.log x.walk xs in
    ap (λ r. and_more x r) (moves_append c rules x.ran.cluster x.ran.log x.walk xs ys) ∙ more_more x q (moves_ran c rules q.ran.cluster q.ran.log q.walk ys)

-- the steps among moves are a run of the cluster, whatever traverses do
pub steps_run : (c : Config) (rules : Rules) (w : Cluster) (log : List OpenCall) (k : Walk) (moves : List Move) → (moves_ran c rules w log k moves).ran ≡ ran c rules w log (steps_in moves)
unfolding moves_ran ran stepped_by idle after
steps_run c rules w log k [] = refl
steps_run c rules w log k (Stepped s ∷ ms) = let x = moved c rules w log k (Stepped s) in ap (λ r. after x.ran r) (steps_run c rules x.ran.cluster x.ran.log x.walk ms)
steps_run c rules w log k (Begin n db ∷ ms) = steps_run c rules w log (moved c rules w log k (Begin n db)).walk ms
steps_run c rules w log k (Carry n ∷ ms) = steps_run c rules w log (moved c rules w log k (Carry n)).walk ms
steps_run c rules w log k (Lose n ∷ ms) = steps_run c rules w log (moved c rules w log k (Lose n)).walk ms
steps_run c rules w log k (Again n ∷ ms) = steps_run c rules w log (moved c rules w log k (Again n)).walk ms
