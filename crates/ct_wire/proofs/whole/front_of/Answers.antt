use Rattle.std.proofs.Common.{◌≡◌, ◌∙◌, [], ◌++◌, ap, sym, arith}
use Rattle.ct_wire_fields.specs.Version.{version_of}
use Rattle.ct_wire.specs.Cursor.{start}
use Rattle.ct_wire.specs.Decoding.{eaten}
use Rattle.ct_wire.proofs.AtOnce.{front_taken}
use Rattle.ct_wire.proofs.whole.front_of.Goals as goal

pub returns-clause-same : goal.returns-clause-same
returns-clause-same c =
    let l = c.split_at.result.0.now in
    let m = c.split_at-2.result.0.now in
    let v = c.split_at-3.result.0.now in
    let g = c.split_at-4.result.0.now in
    let rest = c.split_at-4.result.1.now in
    let is : c.args.bytes.now ≡ l ++ (m ++ (v ++ (g ++ rest))) = cc in
    ap (eaten start []) is
    ∙ front_taken l m v g rest c.number_of-length.result c.in_ok-version.version c.number_of-generation.result c.split_at.ensures.front_len c.split_at-2.ensures.front_len c.split_at-3.ensures.front_len c.split_at-4.ensures.front_len c.number_of-length.ensures c.number_of-generation.ensures (omega arith) (omega arith) (sym c.number_of.ensures ∙ c.if-number_of-ne-MAGIC.false) (ap version_of (sym c.number_of-2.ensures) ∙ sym c.of.ensures ∙ c.in_ok-version.was) (sym c.if-not-is_from_one.ensures)
