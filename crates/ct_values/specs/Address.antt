-- The one spelling of an address, and the order of addresses.
use Rattle.std.specs.Prelude.{ℕ, ◌^◌, ◌<◌, ◌==◌, Bool, false, List, Option, None, Some, bytes_eq, if◌then◌else◌}
use Rattle.std.specs.Int.{w32, w128, to_be_bytes, from_be_bytes}
use Rattle.std.specs.Net.Addr.{segments_of, octets_of}
use Rattle.std.specs.Net.Text.{ipv4_text, hex_groups_text}
use Rattle.std.specs.Net.Reader.{whole_value, read_ipv4, read_ipv6}
use Rattle.std.specs.Ordering.{nat_cmp, is_lt}
use Rattle.std.specs.declared.cmp.Ordering.{Ordering}
use Rattle.std.specs.declared.cmp.Ordering.TheVariants.{Less, Greater}
use Rattle.ct_values.specs.declared.address.Address.{Address}
use Rattle.ct_values.specs.declared.address.Address.TheVariants.{V4, V6}

-- the four bytes of a number of 32 bits, the most significant first
unfoldable pub octets : ℕ → List ℕ
octets n = to_be_bytes w32 n

-- the eight groups of 16 bits of a number of 128 bits, the most significant first
unfoldable pub groups : ℕ → List ℕ
groups n = segments_of (to_be_bytes w128 n)

-- four decimal numbers with dots; or groups in lower-case hexadecimal with colons, where `::` stands for the longest
-- run of two or more zero groups, of equal ones the first. No number has a leading zero
abbrev pub address_text : Address → List ℕ
address_text (V4 n) = ipv4_text (octets n)
address_text (V6 n) = hex_groups_text (groups n)

-- the number of an address is in its type's range
abbrev pub IsAddress : Address → Type 0
IsAddress (V4 n) = n < 2 ^ 32
IsAddress (V6 n) = n < 2 ^ 128

-- the address of the bytes, or else that of the groups, that were read
abbrev pub address_of_parts : Option (List ℕ) → Option (List ℕ) → Option Address
address_of_parts (Some bytes) parts = Some (V4 (from_be_bytes w32 bytes))
address_of_parts None (Some parts) = Some (V6 (from_be_bytes w128 (octets_of parts)))
address_of_parts None None = None

-- the address that the word spells in some way
unfoldable pub lenient_address : List ℕ → Option Address
lenient_address word = address_of_parts (whole_value (read_ipv4 word)) (whole_value (read_ipv6 word))

-- the address, where the word is its text
abbrev pub if_spelled_so : List ℕ → Option Address → Option Address
if_spelled_so word None = None
if_spelled_so word (Some a) = if bytes_eq (address_text a) word then Some a else None

-- the address whose text the word is
unfoldable pub address_of : List ℕ → Option Address
address_of word = if_spelled_so word (lenient_address word)

-- every V4 before every V6, and then by number
abbrev pub address_cmp : Address → Address → Ordering
address_cmp (V4 m) (V4 n) = nat_cmp m n
address_cmp (V4 m) (V6 n) = Less
address_cmp (V6 m) (V4 n) = Greater
address_cmp (V6 m) (V6 n) = nat_cmp m n

-- does the first address come before the second?
abbrev pub address_before : Address → Address → Bool
address_before a b = is_lt (address_cmp a b)

abbrev pub same_address : Address → Address → Bool
same_address (V4 m) (V4 n) = m == n
same_address (V6 m) (V6 n) = m == n
same_address (V4 m) (V6 n) = false
same_address (V6 m) (V4 n) = false
