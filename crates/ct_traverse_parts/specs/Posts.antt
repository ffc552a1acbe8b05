-- The messages of traverses, by number, and the first of them that waits.
use Rattle.std.specs.Prelude.{ℕ, zero, suc, ◌+◌, ◌-◌, nat_eq, Bool, true, false, if◌then◌else◌, List, [], ◌∷◌, Option, None, Some, slice_get, slice_set}
use Rattle.ct_mail.specs.declared.sent.Fate.{Fate}
use Rattle.ct_mail.specs.declared.sent.Fate.TheVariants.{Waiting, Delivered, Dropped}
use Rattle.ct_traverse_parts.specs.declared.post.Post.{Post}

-- does a message of this fate wait?
abbrev pub waits : Fate → Bool
waits Waiting = true
waits Delivered = false
waits Dropped = false

-- was a message of this fate delivered?
abbrev pub was_delivered : Fate → Bool
was_delivered Waiting = false
was_delivered Delivered = true
was_delivered Dropped = false

-- the message of this number, which are counted from 1
unfoldable pub numbered : ℕ → List Post → Option Post
numbered k posts = if nat_eq k 0 then None else slice_get posts (k - 1)

-- is there such a message that waits, and one that was delivered?
unfoldable pub is_waiting : Option Post → Bool
is_waiting None = false
is_waiting (Some p) = waits p.fate

unfoldable pub is_delivered : Option Post → Bool
is_delivered None = false
is_delivered (Some p) = was_delivered p.fate

-- how many messages stand before the first one that waits: all, where none does
unfoldable pub before_waiting : List Post → ℕ
before_waiting [] = zero
before_waiting (p ∷ posts) = if waits p.fate then zero else suc (before_waiting posts)

-- the least number of a message that waits, where the first of these has number k
unfoldable pub waiting_from : ℕ → List Post → Option ℕ
waiting_from k [] = None
waiting_from k (p ∷ posts) = if waits p.fate then Some k else waiting_from (k + 1) posts

-- the least number of a message that waits
abbrev pub next_waiting : List Post → Option ℕ
next_waiting posts = waiting_from 1 posts

-- another fate of the message of this number
abbrev pub ended_as : ℕ → Post → Fate → List Post → List Post
ended_as k p fate posts = slice_set posts (k - 1) (record p { fate = fate })
