-- The registers of all generations. A generation that was born is a line: a node is in one line at most.
use Rattle.std.specs.Prelude.{ℕ, nat_eq, nat_lt, Bool, true, false, if◌then◌else◌, List, [], Option, None, Some}
use Rattle.std.specs.List.{range_with_len}
use Rattle.ct_values.specs.declared.address.Address.{Address}
use Rattle.ct_values.specs.declared.config.Config.{Config}
use Rattle.ct_register.specs.Words.{at, at_key, at_address}
use Rattle.ct_register.specs.Register
use Rattle.ct_register.specs.Register.{Register, owner_without, joined_by, left_by}
use Rattle.ct_register.specs.Database
use Rattle.ct_register.specs.Database.{Database}
use Rattle.ct_register.specs.Placing.{Placing, nothing_placed}

-- all that the registers are
pub record Lines : Type 0 where
  -- of each line, database and key
  pub records : ℕ → ℕ → List ℕ → Register
  -- of each line and persistent database
  pub databases : ℕ → ℕ → Database
  -- of each line
  pub placing : ℕ → Placing
  -- which generations are lines
  pub born : ℕ → Bool
  -- the last ticket that was given
  pub last : ℕ
  -- to whom each ticket was given
  pub leader : ℕ → Option ℕ
  -- of each ticket, and of its line
  pub members : ℕ → List ℕ
  -- who holds the recovery lock
  pub holder : Option ℕ
  -- the line of each node, 0 for none
  pub line : ℕ → ℕ
  -- the same for its persistent databases, which a stop leaves as it is
  pub pline : ℕ → ℕ
  -- had g n l: since ticket g was given, l was at some time the line of n, 0 for none
  pub had : ℕ → ℕ → ℕ → Bool
  -- the same for persistent databases
  pub phad : ℕ → ℕ → ℕ → Bool
  -- installed g n: node n has installed generation g
  pub installed : ℕ → ℕ → Bool
  -- which addresses each node holds
  pub held : ℕ → Address → Bool

-- ---- a change of one register

-- another register of one record in a line
abbrev pub with_record : ℕ → ℕ → List ℕ → Register → Lines → Lines
with_record g db key t r = record r { records = at g (at db (at_key key t (r.records g db)) (r.records g)) r.records }

-- another register of one persistent database in a line
abbrev pub with_database : ℕ → ℕ → Database → Lines → Lines
with_database g db d r = record r { databases = at g (at db d (r.databases g)) r.databases }

-- another placing of a line
abbrev pub with_placing : ℕ → Placing → Lines → Lines
with_placing g p r = record r { placing = at g p r.placing }

-- ---- tickets, installations and stops

-- since each ticket, line l was at some time that of node n, too
unfoldable pub also_had : ℕ → ℕ → (ℕ → ℕ → ℕ → Bool) → ℕ → ℕ → ℕ → Bool
also_had n l had g = at n (at l true (had g n)) (had g)

-- a ticket is given with the recovery lock: from now on it is noted what line its members have
abbrev pub ticketed : ℕ → ℕ → List ℕ → Lines → Lines
ticketed g n members r = record r {
  last = g;
  holder = Some n;
  leader = at g (Some n) r.leader;
  members = at g members r.members;
  had = at g (λ m l. nat_eq (r.line m) l) r.had;
  phad = at g (λ m l. nat_eq (r.pline m) l) r.phad;
}

-- node n installs line g: it has seen what each record began with, and no commit
abbrev pub joined : ℕ → ℕ → Lines → Lines
joined g n r = record r {
  records = at g (λ db key. joined_by n (r.records g db key)) r.records;
  databases = at g (λ db. record (r.databases g db) { seen = at n 0 (r.databases g db).seen }) r.databases;
  line = at n g r.line;
  pline = at n g r.pline;
  had = also_had n g r.had;
  phad = also_had n g r.phad;
  installed = at g (at n true (r.installed g)) r.installed;
}

-- node n stops: it leaves its line, in which alone it owned anything, and what it had seen there is forgotten. What it had
-- seen in older lines is never asked for again, and what it had seen of persistent databases stays. It holds no address and
-- no recovery lock.
abbrev pub stopped : ℕ → Lines → Lines
stopped n r = record r {
  records = at (r.line n) (λ db key. left_by n (r.records (r.line n) db key)) r.records;
  line = at n 0 r.line;
  had = also_had n 0 r.had;
  holder = owner_without n r.holder;
  held = at n (λ _. false) r.held;
}

-- the node holds the address, or it does not
abbrev pub with_address : ℕ → Address → Bool → Lines → Lines
with_address n a is_held r = record r { held = at n (at_address a is_held (r.held n)) r.held }

-- ---- the opening

-- line 1 is there from the opening with all nodes as members, and with nothing written
abbrev pub opening : Config → Lines
opening config = record {
  records = λ g db key. Register.newborn [];
  databases = λ g db. Database.newborn 0 [] (λ _. None);
  placing = λ g. nothing_placed;
  born = λ g. nat_eq g 1;
  last = 1;
  leader = λ g. None;
  members = at 1 (range_with_len 0 config.nodes) (λ g. []);
  holder = None;
  line = λ n. if nat_lt n config.nodes then 1 else 0;
  pline = λ n. if nat_lt n config.nodes then 1 else 0;
  had = λ g n l. false;
  phad = λ g n l. false;
  installed = λ g n. false;
  held = λ n a. false;
}
