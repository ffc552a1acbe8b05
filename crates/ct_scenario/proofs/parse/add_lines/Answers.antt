use Rattle.std.proofs.Common.{◌∙◌, ◌+◌, ◌++◌, ◌∷◌, [], ℕ, List, ap, map}
use Rattle.std.specs.Borrow.{Bor}
use Rattle.ct_scenario.specs.Scenarios.{so_far}
use Rattle.ct_scenario.proofs.Adding.{go_on, go_stop}
use Rattle.ct_scenario.proofs.parse.add_lines.Goals as goal

pub returns-in-Err : goal.returns-in-Err
returns-in-Err c =
    let f = λ (p : Bor (List ℕ)). p.now in
    go_stop f c.args.pieces.now c.loop-piece.piece-index _ c.args.rest.now c.loop-piece.lines.items c.add_line.new.lines.items c.loop-piece.places c.add_line.new.places c.in-Err.fault (c.len.result + 1)
    (so_far c.args.lines.now.items c.args.places.now (map f c.args.pieces.now ++ c.args.rest.now ∷ []))
    c.loop-piece-test.true (ap (λ (k : ℕ). k + 1) (c.len.ensures ∙ c.loop-piece.lines.ok.0)) c.in-Err.ensures c.loop-piece.invariant

pub loop-piece-preserved : goal.loop-piece-preserved
loop-piece-preserved c =
    let f = λ (p : Bor (List ℕ)). p.now in
    go_on f c.args.pieces.now c.loop-piece.piece-index _ c.args.rest.now c.loop-piece.lines.items c.add_line.new.lines.items c.loop-piece.places c.add_line.new.places c.in-Ok.field-0 (c.len.result + 1)
    (so_far c.args.lines.now.items c.args.places.now (map f c.args.pieces.now ++ c.args.rest.now ∷ []))
    c.loop-piece-test.true c.in-Ok.ensures c.loop-piece.invariant
