use Rattle.std.proofs.Common.{◌≢◌, arith}
use Rattle.ct_wire_link.proofs.Places.{passed_more}
use Rattle.ct_wire_link.proofs.readers.place_of.Goals as goal

pub loop-i-preserved : goal.loop-i-preserved
loop-i-preserved c =
    let other : c.index-readers-i.result.sender ≢ c.args.sender = grind (arith, c.is_of.ensures, c.if-is_of.false) in
    passed_more c.args.sender c.loop-i.i c.args.readers.now c.index-readers-i.result c.loop-i.invariant c.index-readers-i.is other
