-- The grammar of the lines that say nodes and addresses.
use Rattle.std.specs.Prelude.{ℕ, if◌then◌else◌, List, [], ◌∷◌, codes, Option, None, Some, option_map}
use Rattle.std.specs.Str.{bytes_eq}
use Rattle.ct_spelling.specs.Number.{number_of}
use Rattle.ct_values.specs.declared.address.Address.{Address}
use Rattle.ct_lines.specs.Grammar.{words_of}
use Rattle.ct_lines.specs.Words.{address_word, number_word, within}
use Rattle.ct_lcp2_lines.specs.declared.line.GivenLine.{GivenLine}
use Rattle.ct_lcp2_lines.specs.declared.line.GivenLine.TheVariants as given

-- an address that no node holds
abbrev pub at_none : Address → GivenLine
at_none a = given.Address (record { address = a; node = None })

-- an address and the node that holds it
abbrev pub at_node : Option Address → Option ℕ → Option GivenLine
at_node None p = None
at_node (Some a) None = None
at_node (Some a) (Some p) = Some (given.Address (record { address = a; node = Some p }))

-- `nodes N`, `disabled P`, `address A`
abbrev pub one_form : List ℕ → List ℕ → Option GivenLine
one_form w a =
    if bytes_eq w (codes "nodes")
    then option_map given.Nodes (within 1 17 (number_of a))
    else if bytes_eq w (codes "disabled")
    then option_map given.Disabled (number_word a)
    else if bytes_eq w (codes "address")
    then option_map at_none (address_word a)
    else None

-- `address A P`
abbrev pub two_form : List ℕ → List ℕ → List ℕ → Option GivenLine
two_form w a p = if bytes_eq w (codes "address") then at_node (address_word a) (number_word p) else None

-- the line that these words are
abbrev pub form : List (List ℕ) → Option GivenLine
form [] = None
form (w ∷ []) = None
form (w ∷ a ∷ []) = one_form w a
form (w ∷ a ∷ p ∷ []) = two_form w a p
form (w ∷ a ∷ p ∷ x ∷ more) = None

-- the line that these bytes are, without the line feed, if they are one
unfoldable pub line_of : List ℕ → Option GivenLine
line_of line = form (words_of line)
