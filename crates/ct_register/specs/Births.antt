-- The birth of a line: what it takes over from its parents.
use Rattle.std.specs.Prelude.{◌≡◌, ◌≢◌, ℕ, ◌+◌, ◌<◌, ◌≤◌, nat_eq, true, false, if◌then◌else◌, List, [], ◌∷◌, length, take, Some}
use Rattle.ct_rules_cluster.specs.Handed.{is_among}
use Rattle.ct_register.specs.Words.{at}
use Rattle.ct_register.specs.Register
use Rattle.ct_register.specs.Register.{Register, reading}
use Rattle.ct_register.specs.Database
use Rattle.ct_register.specs.Database.{Database, contents_after}
use Rattle.ct_register.specs.Lines.{Lines}

-- a list of versions, or none where its reading is empty
unfoldable pub unless_empty : List (List ℕ) → List ℕ → List (List ℕ)
unless_empty vs [] = []
unless_empty vs (b ∷ bs) = vs

-- what a record begins with that takes over the first of these versions: these, or nothing where their reading is empty
unfoldable pub taken_over : ℕ → List (List ℕ) → List (List ℕ)
taken_over count vs = unless_empty (take count vs) (reading (take count vs))

-- what each record of a line begins with: where it has a parent, what it takes over of it
unfoldable pub birth_list : Lines → ℕ → (ℕ → List ℕ → ℕ) → ℕ → List ℕ → List (List ℕ)
birth_list r p counts db key = if nat_eq p 0 then [] else taken_over (counts db key) (r.records p db key).versions

-- Ticket g was given to node h with these members, its generation is no line yet, and p may be its parent. That is older,
-- at least as new as the line of each member whose line is older than g, and was that of some member since the ticket.
-- Of each record some first versions are taken over, at least as many as each member has seen whose line the parent is.
pub record Birth (r : Lines) (g h : ℕ) (ms : List ℕ) (p : ℕ) (counts : ℕ → List ℕ → ℕ) : Type 0 where
  pub given : r.leader g ≡ Some h
  pub named : r.members g ≡ ms
  pub unborn : r.born g ≡ false
  pub older : p < g
  pub greatest : (m : ℕ) → is_among m ms ≡ true → r.line m < g → r.line m ≤ p
  pub had : (m : ℕ) × (is_among m ms ≡ true) × (r.had g m p ≡ true)
  pub within : (db : ℕ) (key : List ℕ) → p ≢ 0 → counts db key ≤ length (r.records p db key).versions
  pub seen : (db m : ℕ) (key : List ℕ) → p ≢ 0 → is_among m ms ≡ true → r.line m ≡ p → (r.records p db key).seen m ≤ counts db key

-- And q may be the parent of its persistent databases. That is older, at least as new as the persistent line of each
-- member whose persistent line is older than g, and was that of some member since the ticket. Of each database some first
-- commits are taken over: all that are acknowledged, and all that each member has seen whose persistent line the parent is.
pub record PersistentBirth (r : Lines) (g : ℕ) (ms : List ℕ) (q : ℕ) (counts : ℕ → ℕ) : Type 0 where
  pub older : q < g
  pub greatest : (m : ℕ) → is_among m ms ≡ true → r.pline m < g → r.pline m ≤ q
  pub had : (m : ℕ) × (is_among m ms ≡ true) × (r.phad g m q ≡ true)
  pub within : (db : ℕ) → counts db ≤ length (r.databases q db).commits
  pub acked : (db : ℕ) → (r.databases q db).acked ≤ counts db
  pub seen : (db m : ℕ) → is_among m ms ≡ true → r.pline m ≡ q → (r.databases q db).seen m ≤ counts db

-- a database begins with what it takes over of line q: the first j commits, and with these what line q took over
abbrev pub base_of : ℕ → ℕ → Database → Database
base_of q j d = Database.newborn (d.seq + j) (contents_after j d) (at q (Some (d.seq + j)) d.from)

-- line g is born of its parents
abbrev pub born_of : ℕ → ℕ → (ℕ → List ℕ → ℕ) → ℕ → (ℕ → ℕ) → Lines → Lines
born_of g p counts q kept r = record r {
  born = at g true r.born;
  records = at g (λ db key. Register.newborn (birth_list r p counts db key)) r.records;
  databases = at g (λ db. base_of q (kept db) (r.databases q db)) r.databases;
}
