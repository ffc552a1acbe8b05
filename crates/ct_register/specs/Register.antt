-- One record in one generation: the values that it had, who owns it, and what each node has seen of it.
use Rattle.std.specs.Prelude.{◌≡◌, ℕ, nat_eq, if◌then◌else◌, List, [], ◌∷◌, ◌++◌, length, Option, None, Some, Ok, Err}
use Rattle.ct_values.specs.declared.client.Answer.{Answer}
use Rattle.ct_values.specs.declared.client.Answer.TheVariants as answer
use Rattle.ct_values.specs.declared.client.ClientOp.{ClientOp}
use Rattle.ct_values.specs.declared.client.ClientOp.TheVariants as op
use Rattle.ct_values.specs.declared.client.Why.TheVariants as why
use Rattle.ct_call.specs.Rules.{Rules}
use Rattle.ct_call.specs.Table.{applied}
use Rattle.ct_call.specs.declared.fault.CallFault.TheVariants as call
use Rattle.ct_register.specs.Words.{at}

-- the register of one record in one line
pub record Register : Type 0 where
  -- the values that it was given, the newest last
  pub versions : List (List ℕ)
  -- those with which its generation began
  pub birth : List (List ℕ)
  -- the node that holds its lock
  pub owner : Option ℕ
  -- how many of the versions each node has seen
  pub seen : ℕ → ℕ

-- the newest value, and the empty value where there is none
unfoldable pub reading : List (List ℕ) → List ℕ
reading [] = []
reading (v ∷ []) = v
reading (v ∷ w ∷ vs) = reading (w ∷ vs)

-- a register as its generation begins: nobody owns it, and nobody has seen anything
abbrev pub newborn : List (List ℕ) → Register
newborn vs = record { versions = vs; birth = vs; owner = None; seen = λ _. 0 }

-- the node has seen all versions
abbrev pub seen_by : ℕ → Register → Register
seen_by n r = record r { seen = at n (length r.versions) r.seen }

-- one version more, which its node has seen
abbrev pub with_version : ℕ → List ℕ → Register → Register
with_version n v r = seen_by n (record r { versions = r.versions ++ v ∷ [] })

-- the node owns it, and has seen all versions
abbrev pub owned_by : ℕ → Register → Register
owned_by n r = seen_by n (record r { owner = Some n })

-- nobody owns it
abbrev pub released : Register → Register
released r = record r { owner = None }

-- nothing is left of its versions, nor of what was seen of them
abbrev pub emptied : Register → Register
emptied r = record r { versions = []; seen = λ _. 0 }

-- a node that installs the generation has seen what it began with
abbrev pub joined_by : ℕ → Register → Register
joined_by n r = record r { seen = at n (length r.birth) r.seen }

-- the owner, unless it is this node
unfoldable pub owner_without : ℕ → Option ℕ → Option ℕ
owner_without n None = None
owner_without n (Some m) = if nat_eq m n then None else Some m

-- a node that stops owns nothing, and what it had seen is forgotten
abbrev pub left_by : ℕ → Register → Register
left_by n r = record r { owner = owner_without n r.owner; seen = at n 0 r.seen }

-- nobody owns it, or this node does
abbrev pub OwnedByNoOther : ℕ → Option ℕ → Type 0
OwnedByNoOther n None = Unit {0}
OwnedByNoOther n (Some m) = m ≡ n

-- A client of node n asked for this and was answered this: the register accepts it and goes on as the last one.
-- A lock needs that nobody owns the record, answers the reading, and makes the node the owner. A read needs that no other
-- node owns it, and answers the reading. A write needs that nobody owns it, and a store that the node does: each adds its
-- value as a version. An unlock needs the owner. A function needs that nobody owns the record, and answers its rule's
-- value of the reading and the argument, which is a new version; or, where that has above 1,024 bytes, its length, and
-- nothing changes. Any other refusal changes nothing. No other answer is accepted. Each of these but an unlock and a
-- refusal makes the node see all versions.
abbrev pub Accepts : Rules → ℕ → ClientOp → Answer → Register → Register → Type 0
Accepts rules n (op.Lock db key) (answer.Locked v) r s = (r.owner ≡ None) × (v ≡ reading r.versions) × (s ≡ owned_by n r)
Accepts rules n (op.Read db key) (answer.Read v) r s = OwnedByNoOther n r.owner × (v ≡ reading r.versions) × (s ≡ seen_by n r)
Accepts rules n (op.Write db key v) answer.Written r s = (r.owner ≡ None) × (s ≡ with_version n v r)
Accepts rules n (op.Store db key v) answer.Stored r s = (r.owner ≡ Some n) × (s ≡ with_version n v r)
Accepts rules n (op.Unlock db key) answer.Unlocked r s = (r.owner ≡ Some n) × (s ≡ released r)
Accepts rules n (op.Apply db key function arg) (answer.Applied v) r s =
    (r.owner ≡ None) × (applied function (reading r.versions) arg rules ≡ Ok v) × (s ≡ with_version n v r)
Accepts rules n (op.Apply db key function arg) (answer.Refused (why.TooLong m)) r s =
    (r.owner ≡ None) × (applied function (reading r.versions) arg rules ≡ Err (call.TooLong m)) × (s ≡ r)
Accepts rules n asked (answer.Refused (why.TooLong m)) r s = ⊥
Accepts rules n asked (answer.Refused w) r s = s ≡ r
Accepts rules n asked given r s = ⊥

-- a lock ends without its client
abbrev pub AcceptsEnd : ℕ → Register → Register → Type 0
AcceptsEnd n r s = (r.owner ≡ Some n) × (s ≡ released r)

-- a record is removed: nobody owns it, and its reading is empty
abbrev pub AcceptsVacuum : Register → Register → Type 0
AcceptsVacuum r s = (r.owner ≡ None) × (reading r.versions ≡ []) × (s ≡ emptied r)
