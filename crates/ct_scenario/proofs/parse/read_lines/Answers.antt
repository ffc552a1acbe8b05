use Rattle.std.proofs.Common.{◌∙◌, ◌+◌, ℕ, List, ap, map}
use Rattle.std.proofs.lemmas.List.{nil_from_length}
use Rattle.std.specs.Borrow.{Bor}
use Rattle.ct_lines.specs.Places.{nothing_accepted}
use Rattle.ct_scenario.specs.Scenarios.{lines_read}
use Rattle.ct_scenario.proofs.Adding.{all_read, ended, none_read, unended}
use Rattle.ct_scenario.proofs.parse.read_lines.Goals as goal

pub returns-in_default : goal.returns-in_default
returns-in_default c = none_read (λ (p : Bor (List ℕ)). p.now) c.args.pieces.now c.new-lines.result.items (nil_from_length _ c.in_default.ensures.cases) c.new-lines.ensures.items

pub returns-in-Ok-end_lines : goal.returns-in-Ok-end_lines
returns-in-Ok-end_lines c =
    let f = λ (p : Bor (List ℕ)). p.now in
    ended c.add_lines.new.lines.items c.add_lines.new.places c.in-Some.rest.now.now (lines_read 1 nothing_accepted (map f c.args.pieces.now)) c.in-Ok-end_lines.ensures
    (c.in-Ok.ensures ∙ all_read f c.args.pieces.now c.in-Some.whole.now c.in-Some.rest.now c.new-lines.result.items c.new-places.result c.new-lines.ensures.items c.new-places.ensures c.in-Some.ensures.cases.0)

pub returns : goal.returns
returns c =
    let f = λ (p : Bor (List ℕ)). p.now in
    unended c.in-Err-end_lines.fault (c.len.result + 1) c.add_lines.new.lines.items c.add_lines.new.places c.in-Some.rest.now.now (lines_read 1 nothing_accepted (map f c.args.pieces.now))
    (ap (λ (k : ℕ). k + 1) (c.len.ensures ∙ c.add_lines.new.lines.ok.0)) c.in-Err-end_lines.ensures
    (c.in-Ok.ensures ∙ all_read f c.args.pieces.now c.in-Some.whole.now c.in-Some.rest.now c.new-lines.result.items c.new-places.result c.new-lines.ensures.items c.new-places.ensures c.in-Some.ensures.cases.0)
