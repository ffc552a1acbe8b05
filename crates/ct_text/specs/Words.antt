-- The words that a printed line is made of.
use Rattle.std.specs.Prelude.{ℕ, List, [], ◌∷◌, ◌++◌, codes, Option, None, Some}
use Rattle.std.specs.Fmt.{decimal}
use Rattle.ct_values.specs.Address.{address_text}
use Rattle.ct_spelling.specs.Spelling.{spelling}
use Rattle.ct_values.specs.declared.config.Config.{Config}
use Rattle.ct_frame.specs.declared.frame.Assigned.{Assigned}
use Rattle.ct_rules_node.specs.Node.{name_of}

-- items after others, each behind a comma
abbrev pub more_items : {X : Type 0} → (X → List ℕ) → List X → List ℕ
more_items text [] = []
more_items text (x ∷ xs) = codes "," ++ text x ++ more_items text xs

-- items with commas between them, and `-` where there are none
abbrev pub items_text : {X : Type 0} → (X → List ℕ) → List X → List ℕ
items_text text [] = codes "-"
items_text text (x ∷ xs) = text x ++ more_items text xs

-- a database and a key
unfoldable pub record_text : Config → ℕ → List ℕ → List ℕ
record_text c db key = name_of c db ++ codes " " ++ spelling key

-- the node that an address is assigned to, and `-1` where it is assigned to none
abbrev pub node_text : Option ℕ → List ℕ
node_text None = codes "-1"
node_text (Some n) = decimal n

-- an address and its node
unfoldable pub assigned_text : Assigned → List ℕ
assigned_text x = address_text x.address ++ codes "=" ++ node_text x.node
