-- Where a frame was read, its spelling stands at the front of the bytes.
use Rattle.std.proofs.Common.{◌≡◌, ℕ, zero, suc, ◌+◌, ◌-◌, ◌≤◌, Bool, true, false, cond, ltb, eqb, ◌&&◌, List, [], ◌∷◌, ◌++◌, length, Option, Some, None, Result, Ok, refl, sym, ap, subst, ◌∙◌, arith}
use Rattle.std.specs.Prelude.{slice_get}
use Rattle.std.proofs.lemmas.Bool.{and_from, and_parts, eqb-true, ltb-true}
use Rattle.ct_frame.specs.declared.frame.Frame.{Frame}
use Rattle.ct_frame.specs.declared.frame.Msg.{Msg}
use Rattle.ct_frame.specs.declared.frame.Msg.TheVariants as msg
use Rattle.ct_frame.specs.Fields.{is_from_one, is_node, well_formed}
use Rattle.ct_wire_fields.specs.declared.place.NumberPlace.TheVariants as number
use Rattle.ct_wire_fields.specs.declared.place.Operation.{Operation}
use Rattle.ct_wire_fields.specs.declared.place.Operation.TheVariants as operation
use Rattle.ct_wire_fields.specs.declared.draft.Step.TheVariants as step
use Rattle.ct_wire_fields.specs.declared.version.Version.{Version}
use Rattle.ct_wire_fields.specs.declared.version.Version.TheVariants.{One, Two, Three}
use Rattle.ct_wire_fields.specs.Version.{version_number, version_of}
use Rattle.ct_wire_fields.specs.Reading.{begun, is_request, no_draft, operation_found, operation_of, operations, to_number, version_found}
use Rattle.ct_wire.specs.declared.decode.WireFault.{WireFault}
use Rattle.ct_wire.specs.Cursor.{number_of, settled, start}
use Rattle.ct_wire.specs.Decoding.{End, after_field, decoded, eaten, frame_or_fault}
use Rattle.ct_wire.specs.Spelling.{body, request, size, spelled, u32, u64}
use Rattle.ct_wire.specs.Whole.{headed}
use Rattle.ct_wire.specs.Spelling as written
use Rattle.ct_law_wire.specs.Grammar.{Says, Spelling}
use Rattle.ct_law_wire.proofs.Headers.{reads_what_is_spelled}
use Rattle.ct_law_wire.proofs.Messages.{op_of}
use Rattle.ct_law_wire.specs.Alone.{BeginsWith, IsBytes, ReadsSpellingsAlone}
use Rattle.ct_law_wire.proofs.Back.{Backs, Taken, back_when, broken_backs, field_of, long_backs, word_backs, word_of}
use Rattle.ct_law_wire.proofs.Bodies.{Body, body_back}
use Rattle.ct_law_wire.proofs.Items.{backs_as}

-- ---- what the numbers of a header stand for

version_is : (one two three : Bool) (n : ℕ) (v : Version) → (one ≡ true → n ≡ 1) → (two ≡ true → n ≡ 2) → (three ≡ true → n ≡ 3) → cond one (Some One) (cond two (Some Two) (cond three (Some Three) None)) ≡ Some v → n ≡ version_number v
version_is true two three n v is_1 is_2 is_3 e = let same : One ≡ v = cc in subst (λ (w : Version). n ≡ version_number w) same (is_1 refl)
version_is false true three n v is_1 is_2 is_3 e = let same : Two ≡ v = cc in subst (λ (w : Version). n ≡ version_number w) same (is_2 refl)
version_is false false true n v is_1 is_2 is_3 e = let same : Three ≡ v = cc in subst (λ (w : Version). n ≡ version_number w) same (is_3 refl)
version_is false false false n v is_1 is_2 is_3 e = absurd (cc)

version_known : (n : ℕ) (v : Version) → version_of n ≡ Some v → n ≡ version_number v
version_known n v e = version_is (eqb n 1) (eqb n 2) (eqb n 3) n v (λ t. eqb-true n 1 t) (λ t. eqb-true n 2 t) (λ t. eqb-true n 3 t) e

-- the number of each operation
place_of : Operation → ℕ
place_of operation.Call = 1
place_of operation.Recall = 2
place_of operation.Give = 3
place_of operation.Pass = 4
place_of operation.Refuse = 5
place_of operation.Grant = 6
place_of operation.Done = 7
place_of operation.Revoke = 8
place_of operation.RevokeAck = 9
place_of operation.VStore = 10
place_of operation.VStored = 11
place_of operation.VDelete = 12
place_of operation.VDeleted = 13
place_of operation.Freeze = 14
place_of operation.FreezeAck = 15
place_of operation.Pull = 16
place_of operation.PullReply = 17
place_of operation.Push = 18
place_of operation.PushAck = 19
place_of operation.Thaw = 20
place_of operation.PUpdate = 21
place_of operation.PAck = 22
place_of operation.Release = 23
place_of operation.ReleaseAck = 24
place_of operation.Take = 25

-- each stands at its number, counted from the first of these on
abbrev InPlace : ℕ → List Operation → Type 0
InPlace n [] = Unit {0}
InPlace n (o ∷ os) = (place_of o ≡ n) × InPlace (n + 1) os

found_in_place : (os : List Operation) (n i : ℕ) (o : Operation) → InPlace n os → slice_get os i ≡ Some o → n + i ≡ place_of o
found_in_place [] n i o places e = absurd (cc)
found_in_place (x ∷ os) n zero o places e = let same : x ≡ o = cc in omega (arith, subst (λ (y : Operation). place_of y ≡ n) same places.0)
found_in_place (x ∷ os) n (suc i) o places e = omega (arith, found_in_place os (n + 1) i o places.1 e)

all_in_place : InPlace 1 operations
unfolding place_of
all_in_place = (refl, (refl, (refl, (refl, (refl, (refl, (refl, (refl, (refl, (refl, (refl, (refl, (refl, (refl, (refl, (refl, (refl, (refl, (refl, (refl, (refl, (refl, (refl, (refl, (refl, tt)))))))))))))))))))))))))

operation_is : (b : Bool) (n : ℕ) (o : Operation) → ltb 0 n ≡ b → cond b (slice_get operations (n - 1)) None ≡ Some o → n ≡ place_of o
operation_is true n o some e = omega (arith, ltb-true 0 n some, found_in_place operations 1 (n - 1) o all_in_place e)
operation_is false n o some e = absurd (cc)

operation_known : (n : ℕ) (o : Operation) → operation_of n ≡ Some o → n ≡ place_of o
operation_known n o e = operation_is (ltb 0 n) n o refl e

message_number : (m : Msg) → written.operation m ≡ place_of (op_of m)
unfolding place_of
message_number (msg.Call db k q call) = refl
message_number (msg.Recall db k least node q call) = refl
message_number (msg.Give db k rsn x) = refl
message_number (msg.Pass db k q rsn x) = refl
message_number (msg.Refuse db k q rsn) = refl
message_number (msg.Grant db k q rsn x) = refl
message_number (msg.Done db k node q) = refl
message_number (msg.Revoke db k rsn) = refl
message_number (msg.RevokeAck db k rsn) = refl
message_number (msg.VStore db k rsn) = refl
message_number (msg.VStored db k rsn) = refl
message_number (msg.VDelete db k rsn) = refl
message_number (msg.VDeleted db k rsn) = refl
message_number (msg.Freeze members) = refl
message_number msg.FreezeAck = refl
message_number msg.Pull = refl
message_number (msg.PullReply vbase pbase table ptables addresses) = refl
message_number (msg.Push members table ptables assigns) = refl
message_number msg.PushAck = refl
message_number msg.Thaw = refl
message_number (msg.PUpdate db seq writes) = refl
message_number (msg.PAck db seq) = refl
message_number (msg.Release run keep) = refl
message_number (msg.ReleaseAck run) = refl
message_number (msg.Take run assigns) = refl

-- ---- the header

-- what was taken from the start of a frame of this length
record Whole (long : ℕ) (taken : List ℕ) (f : Frame) : Type 0 where
  pub v : Version
  pub kept : well_formed f ≡ true
  pub said : Says v f.sender f.msg
  pub fields : u32 long ++ taken ≡ u32 long ++ (u32 1129595970 ++ (u32 (version_number v) ++ (u64 f.generation ++ (u32 (written.operation f.msg) ++ (u32 f.receiver ++ (u32 f.sender ++ (u64 (request f.msg) ++ body v f.msg)))))))

-- the bytes of a header, before those of a body
abbrev Headed : ℕ → ℕ → ℕ → ℕ → ℕ → ℕ → ℕ → List ℕ → List ℕ
Headed magic version generation operation receiver sender request taken = u32 magic ++ (u32 version ++ (u64 generation ++ (u32 operation ++ (u32 receiver ++ (u32 sender ++ (u64 request ++ taken))))))

whole_from : (long : ℕ) (v : Version) (g r s q n k : ℕ) (o : Operation) (taken : List ℕ) (f : Frame) → is_from_one g ≡ true → is_node r ≡ true → is_node s ≡ true → n ≡ version_number v → k ≡ place_of o
    → Body (record { length = long; version = v; generation = g; operation = o; receiver = r; sender = s; request = q }) taken f → Whole long (Headed 1129595970 n g k r s q taken) f
whole_from long v g r s q n k o taken f g_ok r_ok s_ok n_is k_is b =
    let made : Whole long (Headed 1129595970 n g k r s q taken) (record { generation = g; sender = s; receiver = r; msg = b.m }) =
    record {
      v = v;
      kept = and_from _ _ (and_from _ _ (and_from _ _ g_ok r_ok) s_ok) b.kept;
      said = b.says;
      fields = ap (λ (j : ℕ). u32 long ++ Headed 1129595970 j g k r s q taken) n_is
          ∙ ap (λ (j : ℕ). u32 long ++ Headed 1129595970 (version_number v) g j r s q taken) (k_is ∙ ap place_of (sym b.op) ∙ sym (message_number b.m))
          ∙ ap (λ (j : ℕ). u32 long ++ Headed 1129595970 (version_number v) g (written.operation b.m) r s j taken) (sym b.asks)
          ∙ ap (λ (t : List ℕ). u32 long ++ Headed 1129595970 (version_number v) g (written.operation b.m) r s (request b.m) t) b.bytes;
    } in
    subst (λ (x : Frame). Whole long (Headed 1129595970 n g k r s q taken) x) b.frame made

-- behind the operation
operated : (long : ℕ) (v : Version) (g n k : ℕ) (o : Operation) → is_from_one g ≡ true → n ≡ version_number v → k ≡ place_of o
    → Backs long (to_number (headed (record no_draft.head { length = long; version = v; generation = g; operation = o })) number.Receiver) (λ taken f. Whole long (u32 1129595970 ++ (u32 n ++ (u64 g ++ (u32 k ++ taken)))) f)
operated long v g n k o g_ok n_is k_is =
    word_backs (headed (record no_draft.head { length = long; version = v; generation = g; operation = o })) number.Receiver (λ taken f. Whole long (u32 1129595970 ++ (u32 n ++ (u64 g ++ (u32 k ++ taken)))) f) refl (λ at r small.
    back_when long (is_node r) (to_number (headed (record no_draft.head { length = long; version = v; generation = g; operation = o; receiver = r })) number.Sender) at (λ taken f. Whole long (u32 1129595970 ++ (u32 n ++ (u64 g ++ (u32 k ++ (u32 r ++ taken))))) f) (λ r_ok.
    word_backs (headed (record no_draft.head { length = long; version = v; generation = g; operation = o; receiver = r })) number.Sender (λ taken f. Whole long (u32 1129595970 ++ (u32 n ++ (u64 g ++ (u32 k ++ (u32 r ++ taken))))) f) refl (λ at_sender s small_sender.
    back_when long (is_node s) (to_number (headed (record no_draft.head { length = long; version = v; generation = g; operation = o; receiver = r; sender = s })) number.Request) at_sender (λ taken f. Whole long (u32 1129595970 ++ (u32 n ++ (u64 g ++ (u32 k ++ (u32 r ++ (u32 s ++ taken)))))) f) (λ s_ok.
    long_backs (headed (record no_draft.head { length = long; version = v; generation = g; operation = o; receiver = r; sender = s })) number.Request (λ taken f. Whole long (u32 1129595970 ++ (u32 n ++ (u64 g ++ (u32 k ++ (u32 r ++ (u32 s ++ taken)))))) f) refl (λ at_request q small_request.
    back_when long (is_request o q) (begun (headed (record { length = long; version = v; generation = g; operation = o; receiver = r; sender = s; request = q })) o) at_request (λ taken f. Whole long (Headed 1129595970 n g k r s q taken) f) (λ q_ok.
    backs_as long (begun (headed (record { length = long; version = v; generation = g; operation = o; receiver = r; sender = s; request = q })) o)
    (Body (record { length = long; version = v; generation = g; operation = o; receiver = r; sender = s; request = q })) (λ taken f. Whole long (Headed 1129595970 n g k r s q taken) f)
    (λ taken f b. whole_from long v g r s q n k o taken f g_ok r_ok s_ok n_is k_is b) (body_back o long v g r s q s_ok q_ok)))))))

operation_back : (found : Option Operation) (long : ℕ) (v : Version) (g n k at : ℕ) → is_from_one g ≡ true → n ≡ version_number v → operation_of k ≡ found
    → Backs long (operation_found (headed (record no_draft.head { length = long; version = v; generation = g })) at found) (λ taken f. Whole long (u32 1129595970 ++ (u32 n ++ (u64 g ++ (u32 k ++ taken)))) f)
operation_back None long v g n k at g_ok n_is k_is = broken_backs long at (λ taken f. Whole long (u32 1129595970 ++ (u32 n ++ (u64 g ++ (u32 k ++ taken)))) f)
operation_back (Some o) long v g n k at g_ok n_is k_is = operated long v g n k o g_ok n_is (operation_known k o k_is)

version_back : (found : Option Version) (long n at : ℕ) → version_of n ≡ found
    → Backs long (version_found (headed (record no_draft.head { length = long })) at found) (λ taken f. Whole long (u32 1129595970 ++ (u32 n ++ taken)) f)
version_back None long n at is = broken_backs long at (λ taken f. Whole long (u32 1129595970 ++ (u32 n ++ taken)) f)
version_back (Some v) long n at is =
    long_backs (headed (record no_draft.head { length = long; version = v })) number.Generation (λ taken f. Whole long (u32 1129595970 ++ (u32 n ++ taken)) f) refl (λ at_generation g small.
    back_when long (is_from_one g) (to_number (headed (record no_draft.head { length = long; version = v; generation = g })) number.Operation) at_generation (λ taken f. Whole long (u32 1129595970 ++ (u32 n ++ (u64 g ++ taken))) f) (λ g_ok.
    word_backs (headed (record no_draft.head { length = long; version = v; generation = g })) number.Operation (λ taken f. Whole long (u32 1129595970 ++ (u32 n ++ (u64 g ++ taken))) f) refl (λ at_operation k small_operation.
    operation_back (operation_of k) long v g n k at_operation g_ok (version_known n v is) refl)))

magic_back : (long : ℕ) → Backs long (to_number (headed (record no_draft.head { length = long })) number.Magic) (Whole long)
magic_back long =
    word_backs (headed (record no_draft.head { length = long })) number.Magic (Whole long) refl (λ at n small.
    back_when long (eqb n 1129595970) (to_number (headed (record no_draft.head { length = long })) number.Version) at (λ taken f. Whole long (u32 n ++ taken) f) (λ is.
    rw (eqb-true n 1129595970 is) (word_backs (headed (record no_draft.head { length = long })) number.Version (λ taken f. Whole long (u32 1129595970 ++ taken) f) refl (λ at_version k small_version. version_back (version_of k) long k at_version refl))))

-- ---- the whole

-- the spelling of a frame of this length
spelling_from : (long : ℕ) (taken : List ℕ) (f : Frame) → 4 + length taken ≡ long → long ≤ 268435456 → (w : Whole long taken f) → Spelling f w.v (u32 long ++ taken)
spelling_from long taken f fills short w =
    let count : length (u32 long ++ taken) ≡ size w.v f = ap (λ (t : List ℕ). length t) w.fields ∙ omega arith in
    let is : size w.v f ≡ long = omega (arith, count, fills) in
    record { kept = w.kept; said = w.said; short = omega (arith, is, short); fields = w.fields ∙ ap (λ (n : ℕ). u32 n ++ (u32 1129595970 ++ (u32 (version_number w.v) ++ (u64 f.generation ++ (u32 (written.operation f.msg) ++ (u32 f.receiver ++ (u32 f.sender ++ (u64 (request f.msg) ++ body w.v f.msg)))))))) (sym is) }

-- behind the length of a frame
length_back : (b : Bool) (k : ℕ) (bytes : List ℕ) (f : Frame) (n : ℕ) (rest : List ℕ) → IsBytes bytes
    → after_field (settled 0 (cond b (to_number (headed (record no_draft.head { length = k })) number.Magic) (step.Broken 0)) 4) bytes (λ next. eaten next [] bytes) ≡ End.Ends f n rest → (b ≡ true) × Taken k 4 bytes n rest (λ taken. Whole k taken f)
length_back true k bytes f n rest fits e = (refl, (magic_back k).back 4 bytes f n rest fits e)
length_back false k bytes f n rest fits e = absurd (cc)

-- what stands at the front of bytes that led to this end
pub begins : (bytes : List ℕ) (f : Frame) (n : ℕ) (rest : List ℕ) → IsBytes bytes → eaten start [] bytes ≡ End.Ends f n rest → (v : Version) × (front : List ℕ) × Spelling f v front × (bytes ≡ front ++ rest) × (n ≡ length front)
begins bytes f n rest fits e =
    let x = field_of start bytes f n rest (omega arith) fits e in
    let word = word_of x.field x.size x.field_fits in
    let k = number_of x.field in
    let t = length_back (ltb 39 k && ltb k 268435457) k x.more f n rest x.more_fits x.ends in
    let short : k ≤ 268435456 = omega (arith, ltb-true k 268435457 (and_parts (ltb 39 k) (ltb k 268435457) t.0).1) in
    let s = spelling_from k t.1.taken f t.1.fills short t.1.holds in
    let parts : bytes ≡ (u32 k ++ t.1.taken) ++ rest = x.parts ∙ ap (λ (y : List ℕ). y ++ x.more) (sym word.0) ∙ ap (λ (y : List ℕ). u32 k ++ y) t.1.parts in
    let count : n ≡ length (u32 k ++ t.1.taken) = omega (arith, t.1.whole, t.1.fills) in
    (t.1.holds.v, u32 k ++ t.1.taken, s, parts, count)

-- the answer of a reading
abbrev answer : Frame × ℕ → Result (Frame × ℕ) WireFault
answer x = Ok x

same_ok : (x y : Frame × ℕ) → answer x ≡ answer y → x ≡ y
same_ok x y is = cc

told_ends : (e : End) (f : Frame) (n : ℕ) → frame_or_fault e ≡ Ok (f, n) → (rest : List ℕ) × (e ≡ End.Ends f n rest)
told_ends (End.Waits s) f n is = absurd (cc)
told_ends (End.Ends g m rest) f n is =
    let both = same_ok (g, m) (f, n) is in
    let frames : g ≡ f = ap (λ (p : Frame × ℕ). p.0) both in
    let lengths : m ≡ n = ap (λ (p : Frame × ℕ). p.1) both in
    (rest, ap (λ (x : Frame). End.Ends x m rest) frames ∙ ap (λ (j : ℕ). End.Ends f j rest) lengths)
told_ends (End.Breaks offset) f n is = absurd (cc)

read_begins : (bytes : List ℕ) (f : Frame) (n : ℕ) → IsBytes bytes → decoded bytes ≡ Ok (f, n) → BeginsWith f n bytes
read_begins bytes f n fits is =
    let e = told_ends (eaten start [] bytes) f n is in
    let b = begins bytes f n e.0 fits e.1 in
    (b.0, b.1, e.0, b.2, b.3, b.4)

begins_read : (bytes : List ℕ) (f : Frame) (n : ℕ) → BeginsWith f n bytes → decoded bytes ≡ Ok (f, n)
begins_read bytes f n b = ap decoded b.4 ∙ reads_what_is_spelled f b.0 b.1 b.2 b.3 ∙ ap (λ (k : ℕ). Ok (f, k)) (sym b.5)

pub reads_spellings_alone : ReadsSpellingsAlone
reads_spellings_alone bytes f n fits = (read_begins bytes f n fits, begins_read bytes f n)
