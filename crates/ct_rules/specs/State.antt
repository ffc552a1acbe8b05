-- A state in which nothing is kept, and the small words that the rules use of a state.
use Rattle.std.specs.Prelude.{ℕ, ◌+◌, ◌==◌, nat_eq, Bool, true, false, ◌&&◌, List, [], ◌∷◌, Option, None, Some, is_none}
use Rattle.ct_values.specs.Words.{is_nil}
use Rattle.ct_frame.specs.Header.{for_reading, nobody, plain}
use Rattle.ct_tracking.specs.Tracked.{Tracked, untracked}
use Rattle.ct_values.specs.declared.client.ClientOp.{ClientOp}
use Rattle.ct_values.specs.declared.client.ClientOp.TheVariants as op
use Rattle.ct_frame.specs.declared.frame.CallKind.{CallKind}
use Rattle.ct_frame.specs.declared.frame.CallKind.TheVariants as kind
use Rattle.ct_frame.specs.declared.header.RecCopy.{RecCopy}
use Rattle.ct_rules.specs.declared.state.RecState.{RecState}
use Rattle.ct_rules.specs.declared.state.Wish.{Wish}

-- State of a key: nothing is kept of the record
abbrev pub nothing_kept : RecState
nothing_kept = record { copy = None; entry = None; queue = []; waiting = []; tracking = untracked; vacuum = None; locked = None; wish = None }

-- State of a key: is it blank, with no copy, entry, queue, waiting recall, wish, lock and vacuum?
abbrev pub is_blank : RecState → Bool
is_blank s = is_none s.copy && is_none s.entry && is_nil s.queue && is_nil s.waiting && is_none s.wish && is_none s.locked && is_none s.vacuum

-- a copy with this RSN, data master, flags and value
abbrev pub a_copy : ℕ → ℕ → ℕ → List ℕ → RecCopy
a_copy rsn master flags value = record { header = record { rsn = rsn; dmaster = master; flags = flags }; value = value }

-- the rank of a copy: 0 where there is none, else one above its RSN
unfoldable pub rank : Option RecCopy → ℕ
rank None = 0
rank (Some c) = c.header.rsn + 1

-- the RSN of a copy, and 0 where there is none
unfoldable pub rsn_of : Option RecCopy → ℕ
rsn_of None = 0
rsn_of (Some c) = c.header.rsn

-- the value of a copy; one that is not there has the empty value
unfoldable pub value_of : Option RecCopy → List ℕ
value_of None = []
value_of (Some c) = c.value

-- is the node holder: does its copy name it as data master?
unfoldable pub is_mastered : ℕ → Option RecCopy → Bool
is_mastered me None = false
is_mastered me (Some c) = c.header.dmaster == me

-- did the data master give the copy away?
unfoldable pub is_given : Option RecCopy → Bool
is_given None = false
is_given (Some c) = c.header.dmaster == nobody

-- is it a copy for reading?
unfoldable pub is_for_reading : Option RecCopy → Bool
is_for_reading None = false
is_for_reading (Some c) = c.header.flags == for_reading

-- the copy with another value
unfoldable pub with_value : List ℕ → Option RecCopy → Option RecCopy
with_value v None = None
with_value v (Some c) = Some (record c { value = v })

-- the copy with other flags
unfoldable pub with_flags : ℕ → Option RecCopy → Option RecCopy
with_flags flags None = None
with_flags flags (Some c) = Some (record c { header = record c.header { flags = flags } })

-- the copy under the next RSN, with all else as it was
unfoldable pub risen : Option RecCopy → Option RecCopy
risen None = None
risen (Some c) = Some (record c { header = record c.header { rsn = c.header.rsn + 1 } })

-- the copy that its data master gave away
unfoldable pub given : Option RecCopy → Option RecCopy
given None = None
given (Some c) = Some (record c { header = record c.header { dmaster = nobody; flags = plain } })

-- does no revocation run?
unfoldable pub is_quiet : Tracked → Bool
is_quiet t = is_none t.revoking

-- is the node free: holder, the record unlocked, and no revocation running?
unfoldable pub is_free : ℕ → RecState → Bool
is_free me s = is_mastered me s.copy && is_none s.locked && is_quiet s.tracking

-- is the kind Read?
unfoldable pub is_read_kind : CallKind → Bool
is_read_kind kind.Read = true
is_read_kind kind.Lock = false

-- are the kinds the same?
unfoldable pub same_kind : CallKind → CallKind → Bool
same_kind kind.Lock kind.Lock = true
same_kind kind.Read kind.Read = true
same_kind kind.Lock kind.Read = false
same_kind kind.Read kind.Lock = false

-- the kind of a wish: Read for a read of a read-only database, and else Lock
unfoldable pub kind_of : Bool → ClientOp → CallKind
kind_of true (op.Read db key) = kind.Read
kind_of _ _ = kind.Lock

-- does the wish have this request and this kind?
unfoldable pub is_wished : Bool → ℕ → CallKind → Option Wish → Bool
is_wished readonly request k None = false
is_wished readonly request k (Some w) = nat_eq w.request request && same_kind (kind_of readonly w.op) k
