-- A frame is read from its header on.
use Rattle.std.proofs.Common.{◌≡◌, ℕ, ◌+◌, ◌<◌, ◌≤◌, ◌^◌, Bool, true, false, cond, ltb, eqb, ◌&&◌, List, [], ◌++◌, length, take, drop, Option, Some, refl, sym, ap, ◌∙◌, arith}
use Rattle.std.proofs.lemmas.Bool.{and_from, and_parts, eqb-true, lt-ltb}
use Rattle.std.proofs.lemmas.List.{take_at}
use Rattle.std.proofs.lemmas.Nat.{from_be_bytes-to_be_bytes_4}
use Rattle.ct_frame.specs.declared.frame.Frame.{Frame}
use Rattle.ct_frame.specs.declared.frame.Msg.{Msg}
use Rattle.ct_frame.specs.declared.frame.Msg.TheVariants as msg
use Rattle.ct_frame.specs.Fields.{is_below_limit, is_db, is_from_one, is_message, is_node}
use Rattle.ct_wire_fields.specs.declared.place.NumberPlace.TheVariants as number
use Rattle.ct_wire_fields.specs.declared.draft.Draft.{Draft}
use Rattle.ct_wire_fields.specs.declared.version.Version.{Version}
use Rattle.ct_wire_fields.specs.declared.version.Version.TheVariants.{One, Two, Three}
use Rattle.ct_wire_fields.specs.Version.{version_number, version_of}
use Rattle.ct_wire_fields.specs.Reading.{begun, is_request, names_request, no_draft, operation_of, to_number}
use Rattle.ct_wire.specs.Cursor.{number_of, start}
use Rattle.ct_wire.specs.Decoding.{End, eaten}
use Rattle.ct_wire.specs.Spelling.{body, operation, request, size, spelled, u32, u64}
use Rattle.ct_wire.specs.Whole.{headed}
use Rattle.ct_law_wire.specs.Grammar.{ReadsWhatIsSpelled, Spelling, SpellsApart, WritesSpellings}
use Rattle.ct_law_wire.proofs.Fields.{Goes, field_eaten, long_goes, when, word_goes}
use Rattle.ct_law_wire.proofs.Lists.{small_node}
use Rattle.ct_law_wire.proofs.Messages.{body_goes, head_of, op_of, small_from_one}

-- ---- what the numbers of a header stand for

version_back : (v : Version) → version_of (version_number v) ≡ Some v
version_back One = refl
version_back Two = refl
version_back Three = refl

small_version : (v : Version) → version_number v < 2 ^ 32
small_version One = omega arith
small_version Two = omega arith
small_version Three = omega arith

operation_back : (m : Msg) → operation_of (operation m) ≡ Some (op_of m)
operation_back (msg.Call db k q call) = refl
operation_back (msg.Recall db k least node q call) = refl
operation_back (msg.Give db k rsn x) = refl
operation_back (msg.Pass db k q rsn x) = refl
operation_back (msg.Refuse db k q rsn) = refl
operation_back (msg.Grant db k q rsn x) = refl
operation_back (msg.Done db k node q) = refl
operation_back (msg.Revoke db k rsn) = refl
operation_back (msg.RevokeAck db k rsn) = refl
operation_back (msg.VStore db k rsn) = refl
operation_back (msg.VStored db k rsn) = refl
operation_back (msg.VDelete db k rsn) = refl
operation_back (msg.VDeleted db k rsn) = refl
operation_back (msg.Freeze members) = refl
operation_back msg.FreezeAck = refl
operation_back msg.Pull = refl
operation_back (msg.PullReply vbase pbase table ptables addresses) = refl
operation_back (msg.Push members table ptables assigns) = refl
operation_back msg.PushAck = refl
operation_back msg.Thaw = refl
operation_back (msg.PUpdate db seq writes) = refl
operation_back (msg.PAck db seq) = refl
operation_back (msg.Release run keep) = refl
operation_back (msg.ReleaseAck run) = refl
operation_back (msg.Take run assigns) = refl

small_operation : (m : Msg) → operation m < 2 ^ 32
small_operation (msg.Call db k q call) = omega arith
small_operation (msg.Recall db k least node q call) = omega arith
small_operation (msg.Give db k rsn x) = omega arith
small_operation (msg.Pass db k q rsn x) = omega arith
small_operation (msg.Refuse db k q rsn) = omega arith
small_operation (msg.Grant db k q rsn x) = omega arith
small_operation (msg.Done db k node q) = omega arith
small_operation (msg.Revoke db k rsn) = omega arith
small_operation (msg.RevokeAck db k rsn) = omega arith
small_operation (msg.VStore db k rsn) = omega arith
small_operation (msg.VStored db k rsn) = omega arith
small_operation (msg.VDelete db k rsn) = omega arith
small_operation (msg.VDeleted db k rsn) = omega arith
small_operation (msg.Freeze members) = omega arith
small_operation msg.FreezeAck = omega arith
small_operation msg.Pull = omega arith
small_operation (msg.PullReply vbase pbase table ptables addresses) = omega arith
small_operation (msg.Push members table ptables assigns) = omega arith
small_operation msg.PushAck = omega arith
small_operation msg.Thaw = omega arith
small_operation (msg.PUpdate db seq writes) = omega arith
small_operation (msg.PAck db seq) = omega arith
small_operation (msg.Release run keep) = omega arith
small_operation (msg.ReleaseAck run) = omega arith
small_operation (msg.Take run assigns) = omega arith

request_kept : (s : ℕ) (m : Msg) → is_message s m ≡ true → is_request (op_of m) (request m) ≡ true
request_kept s (msg.Call db k q call) kept = (and_parts (is_db db) (is_from_one q) kept).1
request_kept s (msg.Recall db k least node q call) kept = (and_parts (is_db db && is_below_limit least && is_node node) (is_from_one q) kept).1
request_kept s (msg.Pass db k q rsn x) kept = (and_parts (is_db db) (is_from_one q) (and_parts (is_db db && is_from_one q) (is_below_limit rsn) kept).0).1
request_kept s (msg.Refuse db k q rsn) kept = (and_parts (is_db db) (is_from_one q) (and_parts (is_db db && is_from_one q) (is_below_limit rsn) kept).0).1
request_kept s (msg.Grant db k q rsn x) kept = (and_parts (is_db db) (is_from_one q) (and_parts (is_db db && is_from_one q) (is_below_limit rsn) kept).0).1
request_kept s (msg.Done db k node q) kept = (and_parts (is_db db && is_node node) (is_from_one q) kept).1
request_kept s (msg.Give db k rsn x) kept = refl
request_kept s (msg.Revoke db k rsn) kept = refl
request_kept s (msg.RevokeAck db k rsn) kept = refl
request_kept s (msg.VStore db k rsn) kept = refl
request_kept s (msg.VStored db k rsn) kept = refl
request_kept s (msg.VDelete db k rsn) kept = refl
request_kept s (msg.VDeleted db k rsn) kept = refl
request_kept s (msg.Freeze members) kept = refl
request_kept s msg.FreezeAck kept = refl
request_kept s msg.Pull kept = refl
request_kept s (msg.PullReply vbase pbase table ptables addresses) kept = refl
request_kept s (msg.Push members table ptables assigns) kept = refl
request_kept s msg.PushAck kept = refl
request_kept s msg.Thaw kept = refl
request_kept s (msg.PUpdate db seq writes) kept = refl
request_kept s (msg.PAck db seq) kept = refl
request_kept s (msg.Release run keep) kept = refl
request_kept s (msg.ReleaseAck run) kept = refl
request_kept s (msg.Take run assigns) kept = refl

small_where : (b : Bool) (n : ℕ) → cond b (is_from_one n) (eqb n 0) ≡ true → n < 2 ^ 64
small_where true n is = small_from_one n is
small_where false n is = omega (arith, eqb-true n 0 is)

-- ---- the header

header_goes : (long : ℕ) (v : Version) (f : Frame) (bytes : List ℕ) → is_from_one f.generation ≡ true → is_node f.receiver ≡ true → is_node f.sender ≡ true → is_request (op_of f.msg) (request f.msg) ≡ true
    → Goes long (begun (headed (head_of long v f.generation f.receiver f.sender f.msg)) (op_of f.msg)) bytes f
    → Goes long (to_number (record no_draft { head = record no_draft.head { length = long } }) number.Magic)
    (u32 1129595970 ++ (u32 (version_number v) ++ (u64 f.generation ++ (u32 (operation f.msg) ++ (u32 f.receiver ++ (u32 f.sender ++ (u64 (request f.msg) ++ bytes))))))) f
header_goes long v f bytes generation receiver sender asks goes =
    let h = head_of long v f.generation f.receiver f.sender f.msg in
    let d7 : Draft = headed (record h { request = 0 }) in
    let d6 : Draft = headed (record h { request = 0; sender = 0 }) in
    let d5 : Draft = headed (record h { request = 0; sender = 0; receiver = 0 }) in
    let d4 : Draft = headed (record no_draft.head { length = long; version = v; generation = f.generation }) in
    let d3 : Draft = headed (record no_draft.head { length = long; version = v }) in
    let d2 : Draft = headed (record no_draft.head { length = long }) in
    let asked : Goes long (to_number d7 number.Request) (u64 (request f.msg) ++ bytes) f =
    long_goes d7 number.Request (request f.msg) bytes f refl (small_where (names_request (op_of f.msg)) (request f.msg) asks) (λ at. when _ asks goes) in
    let sent : Goes long (to_number d6 number.Sender) (u32 f.sender ++ (u64 (request f.msg) ++ bytes)) f =
    word_goes d6 number.Sender f.sender (u64 (request f.msg) ++ bytes) f refl (small_node f.sender sender) (λ at. when _ sender asked) in
    let received : Goes long (to_number d5 number.Receiver) (u32 f.receiver ++ (u32 f.sender ++ (u64 (request f.msg) ++ bytes))) f =
    word_goes d5 number.Receiver f.receiver (u32 f.sender ++ (u64 (request f.msg) ++ bytes)) f refl (small_node f.receiver receiver) (λ at. when _ receiver sent) in
    let operated : Goes long (to_number d4 number.Operation) (u32 (operation f.msg) ++ (u32 f.receiver ++ (u32 f.sender ++ (u64 (request f.msg) ++ bytes)))) f =
    word_goes d4 number.Operation (operation f.msg) (u32 f.receiver ++ (u32 f.sender ++ (u64 (request f.msg) ++ bytes))) f refl (small_operation f.msg) (λ at. rw (operation_back f.msg) received) in
    let generated : Goes long (to_number d3 number.Generation) (u64 f.generation ++ (u32 (operation f.msg) ++ (u32 f.receiver ++ (u32 f.sender ++ (u64 (request f.msg) ++ bytes))))) f =
    long_goes d3 number.Generation f.generation (u32 (operation f.msg) ++ (u32 f.receiver ++ (u32 f.sender ++ (u64 (request f.msg) ++ bytes)))) f refl (small_from_one f.generation generation) (λ at. when _ generation operated) in
    let versioned : Goes long (to_number d2 number.Version) (u32 (version_number v) ++ (u64 f.generation ++ (u32 (operation f.msg) ++ (u32 f.receiver ++ (u32 f.sender ++ (u64 (request f.msg) ++ bytes)))))) f =
    word_goes d2 number.Version (version_number v) (u64 f.generation ++ (u32 (operation f.msg) ++ (u32 f.receiver ++ (u32 f.sender ++ (u64 (request f.msg) ++ bytes))))) f refl (small_version v) (λ at. rw (version_back v) generated) in
    word_goes d2 number.Magic 1129595970 (u32 (version_number v) ++ (u64 f.generation ++ (u32 (operation f.msg) ++ (u32 f.receiver ++ (u32 f.sender ++ (u64 (request f.msg) ++ bytes)))))) f refl (omega arith) (λ at. versioned)

-- ---- the whole

-- what the length of a frame leads to
length_goes : (long : ℕ) (bytes : List ℕ) (f : Frame) (rest : List ℕ) → 4 + length bytes ≡ long → 40 ≤ long → long ≤ 268435456
    → Goes long (to_number (record no_draft { head = record no_draft.head { length = long } }) number.Magic) bytes f → eaten start [] ((u32 long ++ bytes) ++ rest) ≡ End.Ends f long rest
length_goes long bytes f rest fills some short goes =
    let read : number_of (u32 long) ≡ long = from_be_bytes-to_be_bytes_4 long (omega (arith, short)) in
    let kept : (ltb 39 long && ltb long 268435457) ≡ true = and_from _ _ (lt-ltb _ _ some) (lt-ltb _ _ (omega (arith, short))) in
    field_eaten start (u32 long) bytes rest refl (omega arith) ∙ rw (read, kept) (goes.reads 4 fills short rest)

pub spelled_goes : (f : Frame) (v : Version) (bytes rest : List ℕ) → Spelling f v bytes → eaten start [] (bytes ++ rest) ≡ End.Ends f (length bytes) rest
spelled_goes f v bytes rest s =
    let all = and_parts (is_from_one f.generation && is_node f.receiver && is_node f.sender) (is_message f.sender f.msg) s.kept in
    let three = and_parts (is_from_one f.generation && is_node f.receiver) (is_node f.sender) all.0 in
    let two = and_parts (is_from_one f.generation) (is_node f.receiver) three.0 in
    let goes = header_goes (size v f) v f (body v f.msg) two.0 two.1 three.1 (request_kept f.sender f.msg all.1) (body_goes (size v f) v f.generation f.receiver f.sender f.msg s.said three.1 all.1) in
    let read : eaten start [] (spelled v f ++ rest) ≡ End.Ends f (size v f) rest = length_goes (size v f) _ f rest (omega arith) (omega arith) s.short goes in
    let long : length bytes ≡ size v f = ap (λ (t : List ℕ). length t) s.fields ∙ omega arith in
    rw (long, s.fields) read

pub reads_what_is_spelled : ReadsWhatIsSpelled
reads_what_is_spelled f v bytes rest s = rw (spelled_goes f v bytes rest s) refl

same_frame : (f g : Frame) (m n : ℕ) (x y : List ℕ) → End.Ends f m x ≡ End.Ends g n y → (f ≡ g) × (m ≡ n)
same_frame f g m n x y is = (cc, cc)

some_version : (v w : Version) → Some v ≡ Some w → v ≡ w
some_version v w is = cc

-- the version that stands in the bytes
version_in : List ℕ → Option Version
version_in bytes = version_of (number_of (take 4 (drop 8 bytes)))

version_read : (f : Frame) (v : Version) → version_in (spelled v f) ≡ Some v
unfolding version_in
version_read f v = ap version_of (from_be_bytes-to_be_bytes_4 (version_number v) (small_version v)) ∙ version_back v

pub spells_apart : SpellsApart
spells_apart f g v w a b x y s t same =
    let two = same_frame f g (length a) (length b) x y (sym (spelled_goes f v a x s) ∙ ap (eaten start []) same ∙ spelled_goes g w b y t) in
    let bytes : a ≡ b = sym (take_at a x (length a) refl) ∙ ap (take (length a)) same ∙ ap (λ (n : ℕ). take n (b ++ y)) two.1 ∙ take_at b y (length b) refl in
    let versions : Some v ≡ Some w = sym (version_read f v) ∙ ap version_in (sym s.fields ∙ bytes ∙ t.fields) ∙ version_read g w in
    (two.0, some_version v w versions, bytes)

pub writes_spellings : WritesSpellings
writes_spellings f bytes kept said written = record { kept = kept; said = said; short = written.1; fields = written.0 }
