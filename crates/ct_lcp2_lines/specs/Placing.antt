-- What lines say of nodes and addresses, each after those before it.
use Rattle.std.specs.Prelude.{◌≡◌, ◌≤◌, ℕ, nat_eq, nat_le, nat_lt, Bool, false, not, ◌||◌, if◌then◌else◌, is_none, is_some, List, [], ◌∷◌, ◌++◌, length, Option, None, Some, Result, Ok, Err}
use Rattle.std.specs.List.{list_any}
use Rattle.ct_values.specs.Address.{same_address}
use Rattle.ct_values.specs.Words.{is_nil}
use Rattle.ct_values.specs.declared.address.Address.{Address}
use Rattle.ct_frame.specs.Fields.{assigned_before}
use Rattle.ct_frame.specs.declared.frame.Assigned.{Assigned}
use Rattle.ct_lcp2.specs.Placing.{Ascend}
use Rattle.ct_lines.specs.declared.line.LineKind.{LineKind}
use Rattle.ct_lines.specs.declared.line.LineKind.TheVariants.{Long, Words, Order, Repeat, Limit}
use Rattle.ct_lines.specs.declared.line.LineKindFault.{LineKindFault}
use Rattle.ct_lines.specs.declared.line.LineKindFault.TheVariants.{Kind, NoMemory}
use Rattle.ct_lcp2_lines.specs.Grammar.{line_of}
use Rattle.ct_lcp2_lines.specs.declared.line.GivenLine.{GivenLine}
use Rattle.ct_lcp2_lines.specs.declared.line.GivenLine.TheVariants as given

-- What the lines say: how many nodes there are, once a line says it; those that are disabled, in the order of their lines;
-- and the addresses with the nodes that hold them, in ascending order
pub record Given : Type 0 where
  pub nodes : Option ℕ
  pub disabled : List ℕ
  pub at : List Assigned

-- before the first line
abbrev pub nothing_given : Given
nothing_given = record { nodes = None; disabled = []; at = [] }

-- in form: no address comes twice, and there are at most 256
pub record InForm (g : Given) : Type 0 where
  pub ascending : Ascend g.at
  pub few : length g.at ≤ 256

-- ---- why a line is refused

-- the first of these reasons that holds, if one does
abbrev pub first_reason : Bool → Bool → Bool → Bool → Option LineKind
first_reason words order repeat limit = if words then Some Words else if order then Some Order else if repeat then Some Repeat else if limit then Some Limit else None

-- is the node none of those that a line says there are?
abbrev pub is_beyond : Option ℕ → ℕ → Bool
is_beyond None p = false
is_beyond (Some nodes) p = nat_le nodes p

-- the same of a node, where one is named
abbrev pub is_held_beyond : Option ℕ → Option ℕ → Bool
is_held_beyond nodes None = false
is_held_beyond nodes (Some p) = is_beyond nodes p

-- is the node disabled?
abbrev pub is_disabled : List ℕ → ℕ → Bool
is_disabled disabled p = list_any (nat_eq p) disabled

-- is the address there already?
abbrev pub is_there : Address → List Assigned → Bool
is_there a at = list_any (λ x. same_address a x.address) at

-- Refusal of what a line says: a node is named that there is not; `nodes` is not the first line alone, or a `disabled` comes
-- after an address; a node is disabled, or an address named, for the second time; it is the 257th address
abbrev pub said_refusal : GivenLine → Given → Option LineKind
said_refusal (given.Nodes n) g = first_reason false (is_some g.nodes) false false
said_refusal (given.Disabled p) g = first_reason (is_beyond g.nodes p) (is_none g.nodes || not (is_nil g.at)) (is_disabled g.disabled p) false
said_refusal (given.Address x) g = first_reason (is_held_beyond g.nodes x.node) (is_none g.nodes) (is_there x.address g.at) (nat_le 256 (length g.at))

-- refusal of the line that bytes are, if they are one
abbrev pub form_refusal : Option GivenLine → Given → Option LineKind
form_refusal None g = Some Words
form_refusal (Some said) g = said_refusal said g

-- Refusal of a line, if it is refused
abbrev pub refusal : List ℕ → Given → Option LineKind
refusal line g = if nat_lt 65535 (length line) then Some Long else form_refusal (line_of line) g

-- ---- what a line adds

-- an address at its place among those in ascending order
unfoldable pub with_address : Assigned → List Assigned → List Assigned
with_address x [] = x ∷ []
with_address x (y ∷ ys) = if assigned_before x y then x ∷ y ∷ ys else y ∷ with_address x ys

abbrev pub with_said : GivenLine → Given → Given
with_said (given.Nodes n) g = record g { nodes = Some n }
with_said (given.Disabled p) g = record g { disabled = g.disabled ++ p ∷ [] }
with_said (given.Address x) g = record g { at = with_address x g.at }

abbrev pub with_form : Option GivenLine → Given → Given
with_form None g = g
with_form (Some said) g = with_said said g

abbrev pub with_line : List ℕ → Given → Given
with_line line g = with_form (line_of line) g

-- Ok adds what is said, exactly where it is not refused; a refusal is the rule's, and changes nothing. Want of memory changes
-- nothing either
abbrev pub TakesLine : Result (Unit {0}) LineKindFault → Option LineKind → Given → Given → Given → Type 0
TakesLine (Ok u) refused after old new = (refused ≡ None) × (new ≡ after)
TakesLine (Err (Kind k)) refused after old new = (refused ≡ Some k) × (new ≡ old)
TakesLine (Err NoMemory) refused after old new = new ≡ old
