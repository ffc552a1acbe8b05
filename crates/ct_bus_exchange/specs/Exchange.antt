-- What an exchange is asked, and what it answers.
use Rattle.std.specs.Prelude.{◌≡◌, ℕ, ◌≤◌, ◌<◌, ◌^◌, List, [], length, map, Some, slice_get, slice_index_or, Result, Ok, Err}
use Rattle.std.specs.Global.{Vec}
use Rattle.std.specs.List.{range_with_len}
use Rattle.ct_values.specs.declared.memory.NoMemory.{NoMemory}
use Rattle.ct_outside.specs.Causes.{one_more}
use Rattle.ct_bus.specs.declared.message.Message.{Message}
use Rattle.ct_bus_exchange.specs.declared.handled.Handled.{Handled}
use Rattle.ct_bus_exchange.specs.Handling.{Handling, handled}

-- Scripts: what each node has to post to each, by sender and then receiver
abbrev pub Scripts : Type 0
Scripts = List (List (List Message))

-- what the sender of this row has for a node
abbrev pub for_node : ℕ → List (List Message) → List Message
for_node receiver row = slice_index_or row receiver []

-- what one node has for another one
abbrev pub script : Scripts → ℕ → ℕ → List Message
script scripts sender receiver = for_node receiver (slice_index_or scripts sender [])

-- each message has the place at which it stands
abbrev pub AreCounted : List Message → Type 0
AreCounted ms = (place : ℕ) (m : Message) → slice_get ms place ≡ Some m → m.place ≡ place

-- Scripts: 2 to 8 nodes, each with a list of messages for each, and none for itself; places count from 0 in each list, and there
-- are fewer than 2^61
pub record AreScripts (scripts : Scripts) : Type 0 where
  pub nodes : (2 ≤ length scripts) × (length scripts ≤ 8)
  pub square : (sender : ℕ) (row : List (List Message)) → slice_get scripts sender ≡ Some row → length row ≡ length scripts
  pub alone : (node : ℕ) → script scripts node node ≡ []
  pub counted : (sender receiver : ℕ) → AreCounted (script scripts sender receiver)
  pub few : (sender receiver : ℕ) → length (script scripts sender receiver) < 2 ^ 61

-- what a node is to get, from each
abbrev pub scripts_for : ℕ → Scripts → List (List Message)
scripts_for receiver scripts = map (for_node receiver) scripts

-- what a node handles, of each: what that one had for it, whole and in order
abbrev pub exchanged_for : Handling → ℕ → Scripts → List (List Handled)
exchanged_for hs receiver scripts = map (λ ms. map (handled hs) ms) (scripts_for receiver scripts)

-- Exchange: what each node handles of each, by receiver and then sender
abbrev pub exchanged : Handling → Scripts → List (List (List Handled))
exchanged hs scripts = map (λ receiver. exchanged_for hs receiver scripts) (range_with_len 0 (length scripts))

-- Exchange: it answers what the scripts and the rules determine, and the count is one more; or memory runs out, and the count stays
abbrev pub Exchanges : Handling → Scripts → Result (Vec (List (List Handled))) NoMemory → ℕ → ℕ → Type 0
Exchanges hs scripts (Ok v) before now = (v.items ≡ exchanged hs scripts) × (now ≡ one_more before)
Exchanges hs scripts (Err e) before now = now ≡ before
