use Rattle.std.proofs.Common.{◌≡◌, ◌∙◌, ◌++◌, sym, arith}
use Rattle.ct_wire.proofs.whole.key_fields.Goals as goal

pub returns-clause-stands : goal.returns-clause-stands
returns-clause-stands c =
    let d = c.split_at.result.0.now in
    let k = c.split_at-2.result.0.now in
    let key = c.split_at-3.result.0.now in
    let rest = c.split_at-3.result.1.now in
    let is : c.args.bytes.now ≡ d ++ (k ++ (key ++ rest)) = cc (c.split_at.ensures.by_index.0, c.split_at-2.ensures.by_index.0, c.split_at-3.ensures.by_index.0) in
    record {
      db_field = d;
      key_length = k;
      db_width = c.split_at.ensures.front_len;
      key_length_width = c.split_at-2.ensures.front_len;
      db_is = sym c.number_of-db.ensures;
      key_length_is = sym c.number_of-size.ensures ∙ sym c.split_at-3.ensures.front_len;
      db_keeps = sym c.if-not-is_db.ensures;
      key_some = omega arith;
      key_most = omega arith;
      bytes_are = is;
    }
