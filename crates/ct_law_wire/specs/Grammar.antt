-- The frames that a version of the layout can say, and the bytes that spell them.
use Rattle.std.specs.Prelude.{ℕ, ◌++◌, Ok, ◌<◌, ◌≤◌, ◌≡◌, List, length, Option, None, Some, IsTrue, IsFalse}
use Rattle.std.specs.List.{AllByRecursion}
use Rattle.ct_values.specs.Address.{IsAddress}
use Rattle.ct_values.specs.declared.address.Address.{Address}
use Rattle.ct_values.specs.declared.address.Address.TheVariants.{V4, V6}
use Rattle.ct_values.specs.declared.client.Pair.{Pair}
use Rattle.ct_frame.specs.declared.frame.Assigned.{Assigned}
use Rattle.ct_frame.specs.declared.frame.Frame.{Frame}
use Rattle.ct_frame.specs.declared.frame.Msg.{Msg}
use Rattle.ct_frame.specs.declared.frame.Msg.TheVariants.{Call, Recall, Give, Pass, Refuse, Grant, Done, Revoke, RevokeAck, VStore, VStored, VDelete, VDeleted, PullReply, Push, PUpdate, Release, Take}
use Rattle.ct_frame.specs.declared.frame.PTable.{PTable}
use Rattle.ct_frame.specs.declared.frame.TableRow.{TableRow}
use Rattle.ct_frame.specs.Fields.{well_formed}
use Rattle.ct_wire_fields.specs.declared.version.Version.{Version}
use Rattle.ct_wire_fields.specs.Version.{names_families, names_masters, newest}
use Rattle.ct_wire.specs.Decoding.{decoded}
use Rattle.ct_wire.specs.Spelling.{size, spelled}
use Rattle.ct_wire.specs.Writing.{Encodes}

-- a key has 1 to 255 bytes
abbrev pub IsKey : List ℕ → Type 0
IsKey k = (0 < length k) × (length k < 256)

-- a value has at most 1,024
abbrev pub IsValue : List ℕ → Type 0
IsValue x = length x < 1025

abbrev pub IsPair : Pair → Type 0
IsPair p = IsKey p.key × IsValue p.value

abbrev pub IsPTable : PTable → Type 0
IsPTable t = AllByRecursion IsPair t.pairs

-- an IPv6 address is said where a version names families
abbrev pub SaysFamily : Version → Address → Type 0
SaysFamily v (V4 n) = Unit {0}
SaysFamily v (V6 n) = IsTrue (names_families v)

abbrev pub SaysAddress : Version → Address → Type 0
SaysAddress v a = IsAddress a × SaysFamily v a

abbrev pub SaysAssigned : Version → Assigned → Type 0
SaysAssigned v a = SaysAddress v a.address

-- a version that names no data master says rows of this one alone
abbrev pub SaysRow : Version → Option ℕ → TableRow → Type 0
SaysRow v plain r = IsKey r.key × IsValue r.value × (IsFalse (names_masters v) → r.master ≡ plain)

-- what a version can say of a message of this sender
abbrev pub Says : Version → ℕ → Msg → Type 0
Says v sender (Call db k q call) = IsKey k
Says v sender (Recall db k least node q call) = IsKey k
Says v sender (Give db k rsn x) = IsKey k × IsValue x
Says v sender (Pass db k q rsn x) = IsKey k × IsValue x
Says v sender (Refuse db k q rsn) = IsKey k
Says v sender (Grant db k q rsn x) = IsKey k × IsValue x
Says v sender (Done db k node q) = IsKey k
Says v sender (Revoke db k rsn) = IsKey k
Says v sender (RevokeAck db k rsn) = IsKey k
Says v sender (VStore db k rsn) = IsKey k
Says v sender (VStored db k rsn) = IsKey k
Says v sender (VDelete db k rsn) = IsKey k
Says v sender (VDeleted db k rsn) = IsKey k
Says v sender (PullReply vbase pbase table ptables addresses) = AllByRecursion (SaysRow v None) table × AllByRecursion IsPTable ptables × AllByRecursion (SaysAddress v) addresses
Says v sender (Push members table ptables assigns) = AllByRecursion (SaysRow v (Some sender)) table × AllByRecursion IsPTable ptables × AllByRecursion (SaysAssigned v) assigns
Says v sender (PUpdate db seq writes) = AllByRecursion IsPair writes
Says v sender (Release run keep) = AllByRecursion (SaysAddress v) keep
Says v sender (Take run assigns) = AllByRecursion (SaysAssigned v) assigns
Says v sender _ = Unit {0}

-- these bytes spell this frame in this version
pub record Spelling (f : Frame) (v : Version) (bytes : List ℕ) : Type 0 where
  pub kept : IsTrue (well_formed f)
  pub said : Says v f.sender f.msg
  pub short : size v f ≤ 268435456
  pub fields : bytes ≡ spelled v f

-- what the encoder answers is a spelling in the newest version, where keys, values and addresses are in range
abbrev pub WritesSpellings : Type 0
WritesSpellings = (f : Frame) (bytes : List ℕ) → IsTrue (well_formed f) → Says newest f.sender f.msg → Encodes (λ x. x) (Ok bytes) f → Spelling f newest bytes

-- a spelling is read as its frame, with its length, whatever follows it
abbrev pub ReadsWhatIsSpelled : Type 0
ReadsWhatIsSpelled = (f : Frame) (v : Version) (bytes rest : List ℕ) → Spelling f v bytes → decoded (bytes ++ rest) ≡ Ok (f, length bytes)

-- where two spellings stand at the front of the same bytes, they are one: no two frames share a spelling, and none is a
-- front of another
abbrev pub SpellsApart : Type 0
SpellsApart = (f g : Frame) (v w : Version) (a b x y : List ℕ) → Spelling f v a → Spelling g w b → a ++ x ≡ b ++ y → (f ≡ g) × (v ≡ w) × (a ≡ b)
