-- Queue: what was posted is what was taken and then what the queue holds, in order. At most one end posts, and it has the list
-- of what was posted; at most one takes, and it has the list of what was taken.
use Rattle.std.specs.Prelude.{◌≡◌, ℕ, Bool, true, List, ◌++◌}
use mathlib.Core.Option.{some}
use lib.ListN.{get_elem?}
use Rattle.ct_bus.specs.declared.message.Log.{Log}
use Rattle.ct_bus.specs.declared.message.Message.{Message}

-- a message to a service, at a place, with a body
abbrev pub message : ℕ → ℕ → List ℕ → Message
message srvid place body = record { srvid = srvid; place = place; body = body }

-- may the end post, may it take, what was posted and what was taken
abbrev pub log : Bool → Bool → List Message → List Message → Log
log posts takes posted taken = record { posts = posts; takes = takes; posted = posted; taken = taken }

-- the end of this number is as the queue has it: where it posts, it is the poster, and has all that was posted; where it takes,
-- it is the taker, and has all that was taken
abbrev pub Fits : ℕ → ℕ → List Message → List Message → ℕ → Log → Type 0
Fits poster taker posted taken end v = (v.posts ≡ true → (end ≡ poster) × (v.posted ≡ posted)) × (v.takes ≡ true → (end ≡ taker) × (v.taken ≡ taken))

-- Queue: the rule of one pair's queue, of what it holds and of what its ends have
abbrev pub Relayed : List Message → List Log → Type 0
Relayed items views = (poster : ℕ) × (taker : ℕ) × (posted : List Message) × (taken : List Message) × (posted ≡ taken ++ items)
    × ((end : ℕ) (v : Log) → get_elem? views end ≡ some v → Fits poster taker posted taken end v)

-- these are the first of all, in order
abbrev pub IsFront : List Message → List Message → Type 0
IsFront front whole = (rest : List Message) × (whole ≡ front ++ rest)
