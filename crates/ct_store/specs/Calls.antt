-- Calls of a map, and what it answers.
use Rattle.std.specs.Prelude.{ℕ, List, [], ◌∷◌, length}
use Rattle.std.specs.Map.{values_of}
use Rattle.ct_store.specs.Map.{Pairs, look, write, erase}
use Rattle.ct_store.specs.declared.calls.StoreCall.{StoreCall}
use Rattle.ct_store.specs.declared.calls.StoreCall.TheVariants as call
use Rattle.ct_store.specs.declared.calls.StoreReply.{StoreReply}
use Rattle.ct_store.specs.declared.calls.StoreReply.TheVariants as reply

-- the answer of a map to a call
abbrev pub reply_to : StoreCall → Pairs ℕ → StoreReply
reply_to (call.Get key) m = reply.Item (look key m)
reply_to (call.Put key item) m = reply.Item (look key m)
reply_to (call.Remove key) m = reply.Item (look key m)
reply_to call.Len m = reply.Number (length m)
reply_to call.Sorted m = reply.Items (values_of m)

-- the map after a call
abbrev pub after : StoreCall → Pairs ℕ → Pairs ℕ
after (call.Get key) m = m
after (call.Put key item) m = write key item m
after (call.Remove key) m = erase key m
after call.Len m = m
after call.Sorted m = m

-- the answers to calls, in order
abbrev pub replies : List StoreCall → Pairs ℕ → List StoreReply
replies [] m = []
replies (c ∷ cs) m = reply_to c m ∷ replies cs (after c m)

-- the map after calls, in order
abbrev pub after_all : List StoreCall → Pairs ℕ → Pairs ℕ
after_all [] m = m
after_all (c ∷ cs) m = after_all cs (after c m)
