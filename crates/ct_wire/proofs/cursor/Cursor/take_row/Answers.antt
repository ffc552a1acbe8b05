use Rattle.std.proofs.Common.{◌≡◌, ◌∙◌, ◌+◌, ℕ, List, [], length, true, ap, sym, arith}
use Rattle.ct_frame.specs.declared.frame.TableRow.{TableRow}
use Rattle.ct_wire_fields.specs.declared.place.NumberPlace.TheVariants as number
use Rattle.ct_wire_fields.specs.declared.place.Place.{Place}
use Rattle.ct_wire_fields.specs.Check.{follows_row, last_of}
use Rattle.ct_wire.specs.declared.cursor.Cursor.{Cursor}
use Rattle.ct_wire.specs.Decoding.{eaten}
use Rattle.ct_wire.specs.Whole.{at_number}
use Rattle.ct_wire.proofs.AtOnce.{held, row_taken}
use Rattle.ct_wire.proofs.cursor.Cursor.take_row.Goals as goal

pub returns-clause-same : goal.returns-clause-same
returns-clause-same c =
    let self = c.args.self.now in
    let d = self.reading.draft in
    let x = c.in-Some-copy_fields.fields in
    let left = c.in-Some.left in
    let end = self.at + 15 + (length x.key.now + length x.value.now) in
    let key_same : x.key.now ≡ c.in-Some-2.key = sym (held _ _ _ _ c.in-Some-2.is c.in_ok-key.ensures ∙ c.in_ok-from_slice.ensures.items) in
    let value_same : x.value.now ≡ c.in-Some-3.value = sym (held _ _ _ _ c.in-Some-3.is c.in_ok-value.ensures ∙ c.in_ok-from_slice-2.ensures.items) in
    let follows : follows_row (last_of d.table) x.db x.key.now ≡ true =
    ap (λ (rows : List TableRow). follows_row (last_of rows) x.db x.key.now) (sym c.as_slice.ensures)
    ∙ ap (λ (key : List ℕ). follows_row (last_of c.as_slice.result.now) x.db key) key_same
    ∙ sym c.follows_row.ensures ∙ c.if-not-follows_row.false in
    let all = record d { db = x.db; rsn = x.rsn } in
    ap (λ (p : Place). eaten (record { reading = record { draft = d; place = p }; at = self.at; stage = self.stage }) [] c.args.bytes.now) c.in-Some.ensures
    ∙ row_taken d self.at left self.stage c.args.bytes.now x c.in-Some-copy_fields.ensures.stands (sym c.if-not-names_masters.ensures) follows (omega (arith, c.in-Some-master_at.ensures.is, c.in-Some-master_at.ensures.room))
    ∙ ap (λ (key : List ℕ). eaten (at_number all end (number.RowMaster left key x.value.now)) [] x.rest.now) key_same
    ∙ ap (λ (value : List ℕ). eaten (at_number all end (number.RowMaster left c.in-Some-2.key value)) [] x.rest.now) value_same
    ∙ ap (λ (n : ℕ). eaten (at_number all n (number.RowMaster left c.in-Some-2.key c.in-Some-3.value)) [] x.rest.now) (sym c.in-Some-master_at.ensures.is)
    ∙ ap (λ (next : Cursor). eaten next [] x.rest.now) (sym c.stand.ensures)
