use Rattle.std.proofs.Common.{◌≡◌, ◌∙◌, ◌<◌, true, false, length, get_or, take, Some, refl, sym, ap, arith, ℕ}
use Rattle.ct_wire_link.specs.Reading.{is_ours}
use Rattle.ct_wire_link.proofs.Ours.{kept_first, kept_here, kept_more}
use Rattle.ct_wire_link.proofs.readers.keep_ours.Goals as goal

pub loop-i-init : goal.loop-i-init
loop-i-init c = record { same = refl; kept = kept_first c.args.me c.args.sender c.args.frames.now.items }

pub loop-i-preserved : goal.loop-i-preserved
loop-i-preserved c =
    let xs = c.args.frames.now.items in
    let f = c.index-frame.result.now in
    let is : f ≡ get_or xs c.loop-i.i f = c.index-frame.ensures ∙ ap (λ v. get_or v.items c.loop-i.i f) c.loop-i.invariant.same in
    let lt : c.loop-i.i < length xs = omega (arith, c.loop-i-test.true, c.len-i-end.ensures, c.args.frames.now.ok.0) in
    let ours : is_ours c.args.me c.args.sender f ≡ true = sym c.is_ours.ensures ∙ c.if-not-is_ours.false in
    record { same = c.loop-i.invariant.same; kept = kept_more c.args.me c.args.sender c.loop-i.i xs f lt is ours c.loop-i.invariant.kept }

pub returns-then-not-is_ours-clause-kept : goal.returns-then-not-is_ours-clause-kept
returns-then-not-is_ours-clause-kept c =
    let xs = c.args.frames.now.items in
    let f = c.index-frame.result.now in
    let is : f ≡ get_or xs c.loop-i.i f = c.index-frame.ensures ∙ ap (λ v. get_or v.items c.loop-i.i f) c.loop-i.invariant.same in
    let lt : c.loop-i.i < length xs = omega (arith, c.loop-i-test.true, c.len-i-end.ensures, c.args.frames.now.ok.0) in
    let other : is_ours c.args.me c.args.sender f ≡ false = sym c.is_ours.ensures ∙ c.if-not-is_ours.true in
    c.truncate.ensures.items ∙ ap (λ v. take c.loop-i.i v.items) c.loop-i.invariant.same ∙ (kept_here c.args.me c.args.sender c.loop-i.i xs f lt is other c.loop-i.invariant.kept).0

pub returns-then-not-is_ours-clause-strange : goal.returns-then-not-is_ours-clause-strange
returns-then-not-is_ours-clause-strange c =
    let xs = c.args.frames.now.items in
    let f = c.index-frame.result.now in
    let is : f ≡ get_or xs c.loop-i.i f = c.index-frame.ensures ∙ ap (λ v. get_or v.items c.loop-i.i f) c.loop-i.invariant.same in
    let lt : c.loop-i.i < length xs = omega (arith, c.loop-i-test.true, c.len-i-end.ensures, c.args.frames.now.ok.0) in
    let other : is_ours c.args.me c.args.sender f ≡ false = sym c.is_ours.ensures ∙ c.if-not-is_ours.true in
    ap (λ (n : ℕ). Some n) c.strange_at-offset.ensures ∙ (kept_here c.args.me c.args.sender c.loop-i.i xs f lt is other c.loop-i.invariant.kept).1
