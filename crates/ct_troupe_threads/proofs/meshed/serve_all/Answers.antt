use Rattle.std.proofs.Common.{◌<◌, Option, Result, arith, subst}
use Rattle.std.proofs.lemmas.Option.{get_or_from_slice_get, slice_get_within}
use Rattle.std.specs.Prelude.{IfOk, IfSome}
use Rattle.ct_values.specs.declared.memory.NoMemory.{NoMemory}
use Rattle.ct_call.specs.Shown.{rules_of}
use Rattle.ct_troupe_threads.specs.Meshed.{HasEnded}
use Rattle.ct_troupe_threads.specs.declared.node.NodeEnd.{NodeEnd}
use Rattle.ct_troupe_threads.proofs.meshed.serve_all.Goals as goal

pub returns-clause-each : goal.returns-clause-each
returns-clause-each g c = λ n r e.
    let within = slice_get_within c.in_ok-all.all.items n r e in
    let k = (c.in_ok-all.ensures.each n r (let l = c.in_ok-all.ensures.len in omega arith)).1 in
    subst (λ (x : Result (Option NodeEnd) NoMemory). IfOk x (λ o. IfSome o (HasEnded (rules_of c.args.table.now) c.args.plan.now n))) (get_or_from_slice_get c.in_ok-all.all.items n r r e) k.met
