-- The text of an exchange: a line for each receiver and each other node.
use Rattle.std.specs.Prelude.{ℕ, ◌+◌, nat_eq, if◌then◌else◌, List, [], ◌∷◌, ◌++◌, length, codes}
use Rattle.std.specs.Fmt.{decimal}
use Rattle.ct_bus_exchange.specs.Exchange.{exchanged}
use Rattle.ct_bus_exchange.specs.Handling.{Handling}
use Rattle.ct_bus_exchange.specs.declared.handled.Handled.{Handled}
use Rattle.ct_bus_run.specs.Generated.{generated}
use Rattle.ct_bus_run.specs.declared.generated.BusWanted.{BusWanted}

-- how many bytes these answers have together
abbrev pub lengths : List (List ℕ) → ℕ
lengths [] = 0
lengths (a ∷ rest) = length a + lengths rest

-- how many answers these messages got
abbrev pub answers_in : List Handled → ℕ
answers_in [] = 0
answers_in (h ∷ hs) = length h.answers + answers_in hs

-- how many bytes all these answers have
abbrev pub bytes_in : List Handled → ℕ
bytes_in [] = 0
bytes_in (h ∷ hs) = lengths h.answers + bytes_in hs

-- Bus text: what a node handled of another one
abbrev pub bus_line : ℕ → ℕ → List Handled → List ℕ
bus_line receiver sender hs =
    codes "bus " ++ decimal receiver ++ codes " " ++ decimal sender ++ codes " handled " ++ decimal (length hs) ++ codes " answers " ++ decimal (answers_in hs) ++ codes " bytes " ++ decimal (bytes_in hs) ++ codes "\n"

-- the line of a pair; none where the two are one node
abbrev pub pair_text : ℕ → ℕ → List Handled → List ℕ
pair_text receiver sender hs = if nat_eq sender receiver then [] else bus_line receiver sender hs

-- the lines of what a node handled of the others, from this one on
abbrev pub row_text : ℕ → ℕ → List (List Handled) → List ℕ
row_text receiver sender [] = []
row_text receiver sender (hs ∷ row) = pair_text receiver sender hs ++ row_text receiver (sender + 1) row

-- the lines of all nodes, from this one on
abbrev pub rows_text : ℕ → List (List (List Handled)) → List ℕ
rows_text receiver [] = []
rows_text receiver (row ∷ rows) = row_text receiver 0 row ++ rows_text (receiver + 1) rows

-- Bus text: what the nodes handle of each other, of the messages that a seed makes, by these handlers
abbrev pub bus_text : Handling → BusWanted → List ℕ
bus_text hs x = rows_text 0 (exchanged hs (generated x))
