use Rattle.std.proofs.Common.{◌≡◌, ◌∙◌, List, [], sym, subst}
use Rattle.ct_frame.specs.declared.frame.Frame.{Frame}
use Rattle.ct_wire.specs.declared.decode.Event.TheVariants as event
use Rattle.ct_wire.specs.declared.decode.Progress.TheVariants as progress
use Rattle.ct_wire.specs.declared.decode.WireFault.TheVariants as fault
use Rattle.ct_wire.specs.Cursor.{start}
use Rattle.ct_wire.specs.Decoding.{End, eaten}
use Rattle.ct_wire.proofs.Frames.{GoesOn, finds_breaks, finds_ends, finds_waits, goes_on_empty, goes_on_last, goes_on_next}
use Rattle.ct_wire.proofs.decoder.read_frames.Goals as goal

pub frames-preserved : goal.frames-preserved
frames-preserved c =
    let first = eaten c.args.spot.cursor c.args.spot.raw c.args.piece.now in
    let is : c.frames.event ≡ event.Ends c.in-Ends.frame c.in-Ends.field-1 c.in-Ends.rest = cc in
    let ends = finds_ends c.frames.event c.in-Ends.frame c.in-Ends.field-1 c.in-Ends.rest c.frames.invariant.0 is c.frames.invariant.1 in
    let on : GoesOn first c.frames.frames.items (End.Ends c.in-Ends.frame c.in-Ends.field-1 c.in-Ends.rest.now) = subst (λ (e : End). GoesOn first c.frames.frames.items e) ends c.frames.invariant.2 in
    let next = goes_on_next first c.frames.frames.items c.in-Ends.frame c.in-Ends.field-1 c.in-Ends.rest.now on in
    let pushed : GoesOn first c.add.new.frames.items (eaten start [] c.in-Ends.rest.now) = subst (λ (gs : List Frame). GoesOn first gs (eaten start [] c.in-Ends.rest.now)) (sym c.in_ok-add-in-Ends.ensures) next in
    (eaten start [] c.in-Ends.rest.now, c.in_ok-event-in-Ends.ensures.exact, pushed)

pub returns-then-is_empty-clause-exact : goal.returns-then-is_empty-clause-exact
returns-then-is_empty-clause-exact c =
    let first = eaten c.args.spot.cursor c.args.spot.raw c.args.piece.now in
    let is : c.frames.event ≡ event.Ends c.in-Ends.frame c.in-Ends.field-1 c.in-Ends.rest = cc in
    let ends = finds_ends c.frames.event c.in-Ends.frame c.in-Ends.field-1 c.in-Ends.rest c.frames.invariant.0 is c.frames.invariant.1 in
    let on : GoesOn first c.frames.frames.items (End.Ends c.in-Ends.frame c.in-Ends.field-1 c.in-Ends.rest.now) = subst (λ (e : End). GoesOn first c.frames.frames.items e) ends c.frames.invariant.2 in
    let next = goes_on_next first c.frames.frames.items c.in-Ends.frame c.in-Ends.field-1 c.in-Ends.rest.now on in
    let pushed : GoesOn first c.add.new.frames.items (eaten start [] c.in-Ends.rest.now) = subst (λ (gs : List Frame). GoesOn first gs (eaten start [] c.in-Ends.rest.now)) (sym c.in_ok-add-in-Ends.ensures) next in
    goes_on_empty first c.add.new.frames.items c.in-Ends.rest.now c.before_frame.result pushed (sym c.is_empty.ensures ∙ c.if-is_empty.true) c.before_frame.ensures

pub returns-in-Waits-clause-exact : goal.returns-in-Waits-clause-exact
returns-in-Waits-clause-exact c =
    let first = eaten c.args.spot.cursor c.args.spot.raw c.args.piece.now in
    let is : c.frames.event ≡ event.Waits c.in-Waits.spot = cc in
    goes_on_last first c.frames.frames.items c.frames.invariant.0 (progress.Amid c.in-Waits.spot) c.frames.invariant.2 (finds_waits c.frames.event c.in-Waits.spot c.frames.invariant.0 is c.frames.invariant.1)

pub returns-in-Breaks-clause-exact : goal.returns-in-Breaks-clause-exact
returns-in-Breaks-clause-exact c =
    let first = eaten c.args.spot.cursor c.args.spot.raw c.args.piece.now in
    let is : c.frames.event ≡ event.Breaks c.in-Breaks.offset = cc in
    goes_on_last first c.frames.frames.items c.frames.invariant.0 (progress.Failed (fault.Malformed c.in-Breaks.offset)) c.frames.invariant.2 (finds_breaks c.frames.event c.in-Breaks.offset c.frames.invariant.0 is c.frames.invariant.1)
