-- One persistent database in one generation: what it began with, its commits, and what each node has seen of them.
use Rattle.std.specs.Prelude.{◌≡◌, ◌≢◌, ℕ, ◌+◌, ◌<◌, ◌≤◌, nat_lt, not, ◌&&◌, true, if◌then◌else◌, List, [], ◌∷◌, ◌++◌, length, take, Option, None, Some}
use Rattle.std.specs.List.{list_all}
use Rattle.ct_values.specs.Words.{or_empty, others}
use Rattle.ct_values.specs.declared.client.Answer.{Answer}
use Rattle.ct_values.specs.declared.client.Answer.TheVariants as answer
use Rattle.ct_values.specs.declared.client.Pair.{Pair}
use Rattle.ct_frame.specs.Fields.{ascends}
use Rattle.ct_store.specs.Map.{Pairs, look}
use Rattle.ct_persist.specs.Updates.{contents}
use Rattle.ct_rules_cluster.specs.Handed.{is_among}
use Rattle.ct_register.specs.Words.{at}

-- one persistent database in one line
pub record Database : Type 0 where
  -- the number and the pairs with which its generation began
  pub seq : ℕ
  pub base : Pairs (List ℕ)
  -- of each older line the number up to which its commits are in what this one began with, and none where it took over nothing of it
  pub from : ℕ → Option ℕ
  -- the writes of each commit since, the newest last
  pub commits : List (List Pair)
  -- the node whose commit is the newest of them, until that is answered
  pub committer : Option ℕ
  -- how many of them are acknowledged
  pub acked : ℕ
  -- how many of them each node has seen
  pub seen : ℕ → ℕ

-- a database as its generation begins, with what it took over of older lines
abbrev pub newborn : ℕ → Pairs (List ℕ) → (ℕ → Option ℕ) → Database
newborn seq base from = record { seq = seq; base = base; from = from; commits = []; committer = None; acked = 0; seen = λ _. 0 }

-- the pairs after the first j commits
abbrev pub contents_after : ℕ → Database → Pairs (List ℕ)
contents_after j d = contents (take j d.commits) d.base

-- the value of a key after the first j commits, and the empty value where it has none
abbrev pub value_after : ℕ → List ℕ → Database → List ℕ
value_after j key d = or_empty (look key (contents_after j d))

-- the last of them
unfoldable pub newest : List (List Pair) → Option (List Pair)
newest [] = None
newest (c ∷ []) = Some c
newest (c ∷ d ∷ cs) = newest (d ∷ cs)

-- the commit of these writes, which node n began, is the newest and not answered yet, is not acknowledged, and has this number
pub record IsOpen (n : ℕ) (writes : List Pair) (number : ℕ) (d : Database) : Type 0 where
  pub begun : d.committer ≡ Some n
  pub newest : newest d.commits ≡ Some writes
  pub unacknowledged : d.acked < length d.commits
  pub numbered : number ≡ d.seq + length d.commits

-- these nodes, but those that are missing, have seen all commits
unfoldable pub all_seen : ℕ → List ℕ → List ℕ → (ℕ → ℕ) → ℕ → ℕ
all_seen all members missing seen m = if is_among m members && not (is_among m missing) then all else seen m

-- a commit begins at a node that owns the database's lock, once all before it are acknowledged: the node has seen it
abbrev pub AcceptsBegin : ℕ → List Pair → Option ℕ → Database → Database → Type 0
AcceptsBegin n writes owner d e =
    (owner ≡ Some n) × (d.acked ≡ length d.commits) ×
    (e ≡ record d { commits = d.commits ++ writes ∷ []; committer = Some n; seen = at n (length (d.commits ++ writes ∷ [])) d.seen })

-- some of these members in their order, one at least, and node n is none of them
abbrev pub AreMissing : List ℕ → ℕ → List ℕ → Type 0
AreMissing members n missing = (missing ≢ []) × (ascends nat_lt missing ≡ true) × (list_all (λ m. is_among m (others n members)) missing ≡ true)

-- A commit of node n is answered, among these members. As committed: it is acknowledged, and every member has seen it. As
-- unsure: some members beside n are named as missing, and every member that is not has seen it. Either needs that it is the newest commit,
-- is not answered yet, is not acknowledged and has the number that is answered. No other answer is accepted.
abbrev pub AcceptsCommit : List ℕ → ℕ → List Pair → Answer → Database → Database → Type 0
AcceptsCommit members n writes (answer.Committed number) d e =
    IsOpen n writes number d × (e ≡ record d { committer = None; acked = length d.commits; seen = all_seen (length d.commits) members [] d.seen })
AcceptsCommit members n writes (answer.Unsure number missing) d e =
    IsOpen n writes number d × AreMissing members n missing × (e ≡ record d { committer = None; seen = all_seen (length d.commits) members missing d.seen })
AcceptsCommit members n writes given d e = ⊥

-- node n reads the value of a key after some number of commits: all that are acknowledged, and all that it saw before
abbrev pub AcceptsRead : ℕ → List ℕ → List ℕ → Database → Database → Type 0
AcceptsRead n key v d e =
    (j : ℕ) × (d.acked ≤ j) × (d.seen n ≤ j) × (j ≤ length d.commits) × (v ≡ value_after j key d) × (e ≡ record d { seen = at n j d.seen })
