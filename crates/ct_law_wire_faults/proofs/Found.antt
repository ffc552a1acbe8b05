-- All bytes are read, short or malformed.
use Rattle.std.proofs.Common.{◌≡◌, ◌⊎◌, ℕ, zero, suc, ◌+◌, ◌<◌, ◌≤◌, Bool, true, false, eqb, List, ◌++◌, length, take, drop, refl, sym, subst, arith, inl, inr, ⊎_elim}
use Rattle.std.proofs.lemmas.Bool.{cases_lt, eqb-true, eqb-false}
use Rattle.std.proofs.lemmas.List.{length-drop, length-take, take-append-drop}
use Rattle.ct_frame.specs.declared.frame.Frame.{Frame}
use Rattle.ct_law_wire_faults.specs.Fields.{Ahead, Judged, AreField, HasRoom, IsMalformed, IsRead, IsShort, KeptTo, LacksRoom, at_front, begin_of, end_of, field_width, judged}
use Rattle.ct_law_wire_faults.proofs.Steps.{some_of}
use Rattle.ct_law_wire_faults.proofs.Reached.{reached}

pub data Found (bytes : List ℕ) : Type 0 where
  Read : (f : Frame) (n : ℕ) → IsRead bytes f n → Found bytes
  Short : IsShort bytes → Found bytes
  Malformed : (offset : ℕ) → IsMalformed bytes offset → Found bytes

room_or : (a : Ahead) → HasRoom a ⊎ LacksRoom a
room_or a = elim (cases_lt 0 (begin_of a)) [
  | inl some ↦ elim (cases_lt a.draft.head.length (end_of a)) [
    | inl lacks ↦ inr (some, lacks)
    | inr has ↦ inl (λ given. has)
  ]
  | inr none ↦ inl (λ some. absurd (omega (arith, some, none)))
]

-- the last field
close_found : (fills : Bool) (bytes : List ℕ) (a : Ahead) (field rest : List ℕ) (f : Frame) → KeptTo bytes a (field ++ rest) → AreField a field → judged a field ≡ Judged.Ends f → eqb (end_of a) a.draft.head.length ≡ fills → Found bytes
close_found true bytes a field rest f kept whole is e =
    Found.Read f (end_of a) (record { last = a; field = field; rest = rest; kept = kept; whole = whole; ends = is; fills = eqb-true _ _ e; size = refl })
close_found false bytes a field rest f kept whole is e = Found.Malformed (end_of a) (IsMalformed.Lacks a field rest f kept whole is (eqb-false _ _ e) refl)

-- a whole field
field_found : (shows : Judged) (bytes : List ℕ) (a : Ahead) (field rest : List ℕ) → KeptTo bytes a (field ++ rest) → AreField a field → judged a field ≡ shows → ((b : Ahead) → KeptTo bytes b rest → Found bytes) → Found bytes
field_found (Judged.Keeps b) bytes a field rest kept whole is others = others b (KeptTo.Behind a b field rest kept whole is)
field_found (Judged.Ends f) bytes a field rest kept whole is others = close_found (eqb (end_of a) a.draft.head.length) bytes a field rest f kept whole is refl
field_found (Judged.Breaks offset) bytes a field rest kept whole is others = Found.Malformed offset (IsMalformed.Fails a field rest kept whole is)

-- the bytes of a field and the others, where they are there
cut_found : (bytes : List ℕ) (a : Ahead) (rest : List ℕ) → KeptTo bytes a rest → HasRoom a → field_width a.field ≤ length rest → ((b : Ahead) → KeptTo bytes b (drop (field_width a.field) rest) → Found bytes) → Found bytes
cut_found bytes a rest kept room long others =
    let parts : rest ≡ take (field_width a.field) rest ++ drop (field_width a.field) rest = sym (take-append-drop (field_width a.field) rest) in
    let size : length (take (field_width a.field) rest) ≡ field_width a.field = omega (arith, length-take (field_width a.field) rest, long) in
    field_found (judged a (take (field_width a.field) rest)) bytes a (take (field_width a.field) rest) (drop (field_width a.field) rest) (subst (λ (x : List ℕ). KeptTo bytes a x) parts kept) (room, size) refl others

find : (most : ℕ) (bytes : List ℕ) (a : Ahead) (rest : List ℕ) → length rest < most → KeptTo bytes a rest → Found bytes
find zero bytes a rest few kept = absurd (omega (arith, few))
find (suc most) bytes a rest few kept = ⊎_elim
    (λ (room : HasRoom a). ⊎_elim
    (λ (short : length rest < field_width a.field). Found.Short (record { next = a; rest = rest; kept = kept; room = room; lacks = short }))
    (λ (long : field_width a.field ≤ length rest).
    (let some = some_of a (reached kept).may in
    cut_found bytes a rest kept room long (λ b more. find most bytes b (drop (field_width a.field) rest) (omega (arith, few, some, long, length-drop (field_width a.field) rest)) more)))
    (cases_lt (length rest) (field_width a.field)))
    (λ (lacks : LacksRoom a). Found.Malformed (begin_of a) (IsMalformed.Passes a rest kept lacks refl))
    (room_or a)

pub found : (bytes : List ℕ) → Found bytes
found bytes = find (length bytes + 1) bytes at_front bytes (omega arith) KeptTo.Front
