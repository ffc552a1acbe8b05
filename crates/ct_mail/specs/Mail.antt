-- The messages that were sent, by number, and the first of them that waits.
use Rattle.std.specs.Prelude.{ℕ, zero, suc, ◌+◌, ◌-◌, nat_eq, if◌then◌else◌, List, [], ◌∷◌, Option, None, Some, slice_get}
use Rattle.ct_frame.specs.declared.frame.Frame.{Frame}
use Rattle.ct_rules_cluster.specs.Cluster as cluster
use Rattle.ct_rules_cluster.specs.Cluster.{Sent, is_waiting_fate}
use Rattle.ct_mail.specs.declared.sent.Fate.{Fate}
use Rattle.ct_mail.specs.declared.sent.Fate.TheVariants.{Waiting, Delivered, Dropped}

-- the fate that the rules speak of
abbrev pub fate_of : Fate → cluster.Fate
fate_of Waiting = cluster.Waiting
fate_of Delivered = cluster.Delivered
fate_of Dropped = cluster.Dropped

-- a message that was just sent
abbrev pub posted : Frame → Sent
posted f = record { frame = f; fate = cluster.Waiting }

-- the message of this number, which are counted from 1
unfoldable pub numbered : ℕ → List Sent → Option Sent
numbered k xs = if nat_eq k 0 then None else slice_get xs (k - 1)

-- how many messages stand before the first one that waits: all, where none does
unfoldable pub before_waiting : List Sent → ℕ
before_waiting [] = zero
before_waiting (x ∷ xs) = if is_waiting_fate x.fate then zero else suc (before_waiting xs)

-- the least number of a message that waits, where the first of these has number k
unfoldable pub waiting_from : ℕ → List Sent → Option ℕ
waiting_from k [] = None
waiting_from k (x ∷ xs) = if is_waiting_fate x.fate then Some k else waiting_from (k + 1) xs

-- the least number of a message that waits
abbrev pub next_waiting : List Sent → Option ℕ
next_waiting xs = waiting_from 1 xs
