-- Where fields that keep their rules lead a reader of bytes.
use Rattle.std.proofs.Common.{◌≡◌, ℕ, ◌<◌, true, false, leb, eqb, List, [], ◌++◌, refl, sym, ap, ◌∙◌, arith}
use Rattle.std.proofs.lemmas.Bool.{eq-eqb, le-leb, lt-leb, ne_eqb}
use Rattle.ct_frame.specs.declared.frame.Frame.{Frame}
use Rattle.ct_wire.specs.Cursor.{start}
use Rattle.ct_wire.specs.Decoding.{End, after_field, eaten}
use Rattle.ct_wire.proofs.Eaten.{eaten_rest}
use Rattle.ct_law_wire_faults.specs.Fields.{Ahead, Judged, AreField, HasRoom, IsMalformed, IsRead, IsShort, KeptTo, LacksRoom, at_front, begin_of, end_of, judged}
use Rattle.ct_law_wire_faults.proofs.Steps.{MayCome, cursor_at, field_eaten, makes, next_comes, some_of, width_is}

-- a reader of these bytes comes to the next field, or stops at it where it has no room
pub record Reached (bytes : List ℕ) (a : Ahead) (rest : List ℕ) : Type 0 where
  pub may : MayCome a
  pub comes : HasRoom a → eaten start [] bytes ≡ eaten (cursor_at a) [] rest
  pub stops : LacksRoom a → eaten start [] bytes ≡ End.Breaks (begin_of a)

-- behind a whole field
pub behind_field : (bytes : List ℕ) (a : Ahead) (field rest : List ℕ) (shows : Judged) → Reached bytes a (field ++ rest) → AreField a field → judged a field ≡ shows
    → eaten start [] bytes ≡ after_field (makes a.draft.head.length (end_of a) shows) rest (λ next. eaten next [] rest)
behind_field bytes a field rest shows r whole is =
    r.comes whole.0 ∙ field_eaten a field rest r.may whole.1 ∙ ap (λ (x : Judged). after_field (makes a.draft.head.length (end_of a) x) rest (λ next. eaten next [] rest)) is

next_reached : (bytes : List ℕ) (a b : Ahead) (field rest : List ℕ) → Reached bytes a (field ++ rest) → AreField a field → judged a field ≡ Judged.Keeps b → Reached bytes b rest
next_reached bytes a b field rest r whole is =
    let next = next_comes a field b is in
    let some = some_of a r.may in
    let amid : 0 < begin_of b = omega (arith, next.1, some) in
    let led = behind_field bytes a field rest (Judged.Keeps b) r whole is in
    record {
      may = next.0;
      comes = λ room. (let has : leb (end_of b) b.draft.head.length ≡ true = le-leb _ _ (room amid) in led ∙ rw has refl);
      stops = λ lacks. (let none : leb (end_of b) b.draft.head.length ≡ false = lt-leb _ _ lacks.1 in led ∙ rw none refl);
    }

front_reached : (bytes : List ℕ) → Reached bytes at_front bytes
front_reached bytes = record { may = tt; comes = λ room. refl; stops = λ lacks. absurd (omega (arith, lacks.0)) }

pub reached : {bytes : List ℕ} {a : Ahead} {rest : List ℕ} → KeptTo bytes a rest → Reached bytes a rest
reached {bytes = bytes} KeptTo.Front = front_reached bytes
reached {bytes = bytes} (KeptTo.Behind a b field rest kept whole is) = next_reached bytes a b field rest (reached kept) whole is

-- ---- the three ends

pub read_ends : (bytes : List ℕ) (f : Frame) (n : ℕ) (r : IsRead bytes f n) → eaten start [] bytes ≡ End.Ends f n r.rest
read_ends bytes f n r =
    let led = behind_field bytes r.last r.field r.rest (Judged.Ends f) (reached r.kept) r.whole r.ends in
    let fills : eqb (end_of r.last) r.last.draft.head.length ≡ true = eq-eqb _ _ r.fills in
    led ∙ rw fills refl ∙ ap (λ (k : ℕ). End.Ends f k r.rest) (sym r.size)

pub short_waits : (bytes : List ℕ) (s : IsShort bytes) → eaten start [] bytes ≡ End.Waits (record { cursor = cursor_at s.next; raw = s.rest })
short_waits bytes s =
    let r = reached s.kept in
    let wide = width_is s.next r.may in
    r.comes s.room ∙ eaten_rest (cursor_at s.next) [] s.rest (omega (arith, wide, s.lacks))

pub malformed_breaks : (bytes : List ℕ) (offset : ℕ) → IsMalformed bytes offset → eaten start [] bytes ≡ End.Breaks offset
malformed_breaks bytes offset (IsMalformed.Passes a rest kept lacks is) = (reached kept).stops lacks ∙ ap (λ (o : ℕ). End.Breaks o) (sym is)
malformed_breaks bytes offset (IsMalformed.Fails a field rest kept whole is) = behind_field bytes a field rest (Judged.Breaks offset) (reached kept) whole is
malformed_breaks bytes offset (IsMalformed.Lacks a field rest f kept whole is early at_end) =
    let led = behind_field bytes a field rest (Judged.Ends f) (reached kept) whole is in
    let lacks : eqb (end_of a) a.draft.head.length ≡ false = ne_eqb _ _ early in
    led ∙ rw lacks refl ∙ ap (λ (o : ℕ). End.Breaks o) (sym at_end)
