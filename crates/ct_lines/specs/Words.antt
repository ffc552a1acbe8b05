-- What the words of a line say, each by itself.
use Rattle.std.specs.Prelude.{ℕ, ◌^◌, Bool, ◌&&◌, ◌==◌, nat_le, nat_lt, is_none, if◌then◌else◌, List, [], ◌∷◌, length, codes, Option, None, Some}
use Rattle.std.specs.List.{slice_split}
use Rattle.std.specs.Str.{bytes_eq}
use Rattle.ct_values.specs.declared.address.Address.{Address}
use Rattle.ct_values.specs.declared.address.Address.TheVariants.{V4, V6}
use Rattle.ct_values.specs.Address.{address_of}
use Rattle.ct_values.specs.Name.{bad_byte}
use Rattle.ct_spelling.specs.Number.{number_of}
use Rattle.ct_spelling.specs.Spelling.{unspelled}
use Rattle.ct_frame.specs.Fields.{ascends, is_one_to_sixteen}
use Rattle.ct_values.specs.declared.client.Pair.{Pair}
use Rattle.ct_values.specs.declared.config.DbKind.{DbKind}
use Rattle.ct_values.specs.declared.config.DbKind.TheVariants.{Volatile, ReadOnly, Persistent}

-- a number, where it is at least low and below high
abbrev pub within : ℕ → ℕ → Option ℕ → Option ℕ
within low high None = None
within low high (Some n) = if nat_le low n && nat_lt n high then Some n else None

-- the number of a node, or any other below 2^32
abbrev pub number_word : List ℕ → Option ℕ
number_word word = within 0 4294967296 (number_of word)

-- the number of a message, from 1 and below 2^62
abbrev pub message_word : List ℕ → Option ℕ
message_word word = within 1 4611686018427387904 (number_of word)

-- the number of an address is in its type's range
abbrev pub is_address : Address → Bool
is_address (V4 n) = nat_lt n (2 ^ 32)
is_address (V6 n) = nat_lt n (2 ^ 128)

abbrev pub if_address : Option Address → Option Address
if_address None = None
if_address (Some a) = if is_address a then Some a else None

-- the address whose text the word is
abbrev pub address_word : List ℕ → Option Address
address_word word = if_address (address_of word)

-- a list of bytes, where it has at least low and at most high of them
abbrev pub of_length : ℕ → ℕ → Option (List ℕ) → Option (List ℕ)
of_length low high None = None
of_length low high (Some bytes) = if nat_le low (length bytes) && nat_le (length bytes) high then Some bytes else None

abbrev pub key_word : List ℕ → Option (List ℕ)
key_word word = of_length 1 255 (unspelled word)

abbrev pub value_word : List ℕ → Option (List ℕ)
value_word word = of_length 0 1024 (unspelled word)

-- a name stands for itself
abbrev pub name_word : List ℕ → Option (List ℕ)
name_word word = if is_none (bad_byte word) then of_length 1 63 (Some word) else None

abbrev pub kind_word : List ℕ → Option DbKind
kind_word word =
    if bytes_eq word (codes "volatile")
    then Some Volatile
    else if bytes_eq word (codes "readonly")
    then Some ReadOnly
    else if bytes_eq word (codes "persistent")
    then Some Persistent
    else None

-- an item and those after it, where all are there
abbrev pub with_item : {X : Type 0} → Option X → Option (List X) → Option (List X)
with_item None after = None
with_item (Some x) None = None
with_item (Some x) (Some xs) = Some (x ∷ xs)

-- what each of the words says, where each says something
abbrev pub each_of : {X : Type 0} → (List ℕ → Option X) → List (List ℕ) → Option (List X)
each_of says [] = Some []
each_of says (w ∷ ws) = with_item (says w) (each_of says ws)

abbrev pub pair_from : Option (List ℕ) → Option (List ℕ) → Option Pair
pair_from None value = None
pair_from (Some key) None = None
pair_from (Some key) (Some value) = Some (record { key = key; value = value })

-- a key's word and a value's
abbrev pub pair_of : List (List ℕ) → Option Pair
pair_of [] = None
pair_of (k ∷ []) = None
pair_of (k ∷ v ∷ []) = pair_from (key_word k) (value_word v)
pair_of (k ∷ v ∷ x ∷ more) = None

-- `KEY=VALUE`: no spelling has the byte `=`
abbrev pub pair_word : List ℕ → Option Pair
pair_word word = pair_of (slice_split (λ b. b == 61) word)

-- 1 to 16 pairs
abbrev pub pairs_of : List (List ℕ) → Option (List Pair)
pairs_of ws = if is_one_to_sixteen ws then each_of pair_word ws else None

-- numbers, where they ascend
abbrev pub in_order : List ℕ → Option (List ℕ)
in_order ns = if ascends nat_lt ns then Some ns else None

abbrev pub if_in_order : Option (List ℕ) → Option (List ℕ)
if_in_order None = None
if_in_order (Some ns) = in_order ns

-- 1 to 16 numbers that ascend
abbrev pub numbers_of : List (List ℕ) → Option (List ℕ)
numbers_of ws = if is_one_to_sixteen ws then if_in_order (each_of number_word ws) else None

-- numbers with a comma between each two
abbrev pub members_word : List ℕ → Option (List ℕ)
members_word word = numbers_of (slice_split (λ b. b == 44) word)
