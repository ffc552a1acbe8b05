-- The lines of all generations side by side: the world of each record in each, which goes on by steps of the nodes that are
-- present there, and stays as it is of every other node.
use Rattle.std.specs.Prelude.{◌≡◌, ℕ, ◌<◌, ◌^◌, nat_eq, nat_lt, true, false, ◌||◌, List, [], Option, None, Some}
use Rattle.std.specs.List.{list_all}
use Rattle.ct_values.specs.declared.config.Config.{Config}
use Rattle.ct_frame.specs.Fields.{is_node, ascends, row_before}
use Rattle.ct_frame.specs.declared.frame.TableRow.{TableRow}
use Rattle.ct_call.specs.Rules.{Rules}
use Rattle.ct_merge.specs.Rule.{row_at}
use Rattle.ct_rules.specs.State.{nothing_kept, rsn_of}
use Rattle.ct_rules.specs.declared.state.RecState.{RecState}
use Rattle.ct_rules.specs.declared.state.Wish.{Wish}
use Rattle.ct_rules_node.specs.Node.{Node, is_among, state_at}
use Rattle.ct_rules_node.specs.Rounds.{frozen_state}
use Rattle.ct_rules_cluster.specs.Cluster.{Cluster}
use Rattle.ct_register.specs.Lines.{Lines}
use Rattle.ct_law_record.specs.World.{Scene, View, World, born_state}
use Rattle.ct_law_record.proofs.Invariant.{Ghost}
use Rattle.ct_law_record.proofs.Worlds.{WorldInv}
use Rattle.ct_law_generation.specs.Shown.{Era, scene, mails}

-- of each generation the world of each record, what that is compared with, and the rows that the generation began with
pub record Ages : Type 0 where
  pub worlds : ℕ → ℕ → List ℕ → World
  pub ghosts : ℕ → ℕ → List ℕ → Ghost
  pub tables : ℕ → List TableRow

-- a generation, as the law of one generation sees it
abbrev pub era_of : Lines → Ages → ℕ → Era
era_of r a g = record { number = g; members = r.members g; thawed = false; alone = false; start = a.worlds g }

-- the row of a record, if the generation began with one
abbrev pub row_in : Ages → ℕ → ℕ → List ℕ → Option TableRow
row_in a g db key = row_at db key (a.tables g)

-- what a node has of a record as it installs a generation that has, or has not, a row for it
unfoldable pub begun_state : Scene → Option TableRow → ℕ → Option Wish → RecState
begun_state s None n wish = record nothing_kept { wish = wish }
begun_state s (Some row) n wish = born_state s row n wish

abbrev pub begun_view : Scene → Option TableRow → ℕ → Option Wish → ℕ → View
begun_view s row n wish next = record { state = begun_state s row n wish; next = next; floor = 0 }

-- what a node that freezes, or is frozen, has of a record is what it had there without what a Freeze takes away
pub record Rests (db : ℕ) (key : List ℕ) (v : View) (x : Node) : Type 0 where
  pub state : state_at db key x ≡ frozen_state v.state
  pub next : x.next ≡ v.next

-- one line
pub record LineLives (c : Config) (rules : Rules) (w : Cluster) (r : Lines) (a : Ages) (g : ℕ) : Type 0 where
  -- its members are nodes, in order
  pub real : list_all is_node (r.members g) ≡ true
  pub ascend : ascends nat_lt (r.members g) ≡ true
  pub there : (n : ℕ) → is_among n (r.members g) ≡ true → nat_lt n c.nodes ≡ true
  -- the world of each record is in order with its register
  pub world : (db : ℕ) (key : List ℕ) → WorldInv (scene c (era_of r a g) rules db key) (a.worlds g db key) (r.records g db key) (a.ghosts g db key)
  -- it has all messages of the record in this generation, and who has installed that has joined
  pub mail : (db : ℕ) (key : List ℕ) → (a.worlds g db key).mail ≡ mails g db key w.sent
  pub joined : (db : ℕ) (key : List ℕ) (n : ℕ) → (a.worlds g db key).joined n ≡ (nat_eq g 1 || r.installed g n)
  -- RSNs of copies at nodes that joined are below 2^62, and so are those of the rows
  pub low : (db : ℕ) (key : List ℕ) (n : ℕ) → (a.worlds g db key).joined n ≡ true → rsn_of ((a.worlds g db key).nodes n).state.copy < 2 ^ 62
  pub rows_low : list_all (λ row. nat_lt row.rsn (2 ^ 62)) (a.tables g) ≡ true
  -- it began with rows in order
  pub order : ascends row_before (a.tables g) ≡ true

-- all lines: the first is one; of a generation that is none yet no message of a record was sent
pub record LinesLive (c : Config) (rules : Rules) (w : Cluster) (r : Lines) (a : Ages) : Type 0 where
  pub first : r.born 1 ≡ true
  pub none : r.born 0 ≡ false
  pub line : (g : ℕ) → r.born g ≡ true → LineLives c rules w r a g
  pub silent : (g db : ℕ) (key : List ℕ) → r.born g ≡ false → mails g db key w.sent ≡ []
  pub uninstalled : (g n : ℕ) → r.born g ≡ false → r.installed g n ≡ false
  pub unowned : (g db : ℕ) (key : List ℕ) → r.born g ≡ false → (r.records g db key).owner ≡ None
