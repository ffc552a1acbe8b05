use Rattle.std.proofs.Common.{◌≡◌, true, false, length, sym}
use Rattle.std.proofs.lemmas.Bool.{ltb-false}
use Rattle.ct_traverse_parts.specs.Posts.{waits}
use Rattle.ct_traverse_parts.proofs.Waiting.{read_there, goes_past, stops_there, ends_there}
use Rattle.ct_traverse_parts.proofs.post.first_from.Goals as goal

pub returns-then-is_waiting : goal.returns-then-is_waiting
returns-then-is_waiting c = (let e = c.in-Some.ensures.lookup in
    let w : waits c.in-Some.one.now.fate ≡ true = cc in
    stops_there c.args.posts.now c.loop-one.first c.in-Some.one.now c.loop-one.invariant (read_there c.args.posts.now c.loop-one.first c.in-Some.one.now e.0 e.1) w)

pub loop-one-preserved : goal.loop-one-preserved
loop-one-preserved c = (let e = c.in-Some.ensures.lookup in
    let w : waits c.in-Some.one.now.fate ≡ false = cc in
    goes_past c.args.posts.now c.loop-one.first c.in-Some.one.now c.loop-one.invariant (read_there c.args.posts.now c.loop-one.first c.in-Some.one.now e.0 e.1) w)

pub returns : goal.returns
returns c = ends_there c.args.posts.now c.loop-one.first c.loop-one.invariant (let e = c.in_default.ensures.lookup in ltb-false c.loop-one.first (length c.args.posts.now) (sym e.0))
