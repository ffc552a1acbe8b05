-- What a word is read as.
use Rattle.std.proofs.Common.{◌≡◌, ℕ, List, [], ◌∷◌, ◌++◌, length, Option, Some, None, refl, sym, ap, ◌∙◌, subst, lit≤, append-nil, ne_eqb, arith}
use Rattle.std.specs.Prelude.{bytes_eq}
use Rattle.std.specs.declared.net.ipv4_addr.Ipv4Addr.{Ipv4Addr}
use Rattle.std.specs.declared.net.ipv6_addr.Ipv6Addr.{Ipv6Addr}
use Rattle.std.specs.declared.net.ip_addr.IpAddr.{IpAddr}
use Rattle.std.specs.declared.net.ip_addr.IpAddr.TheVariants as Ip
use Rattle.std.specs.Net.Grammar.{IsDotted, IsColonHex, IsIpText}
use Rattle.std.specs.Net.Reader.{Read, whole_value, read_ipv4, read_ipv6}
use Rattle.std.specs.Net.Addr.{ipv4_bits, ipv6_bits}
use Rattle.std.proofs.lemmas.Slice.Eq.{bytes_eq-Decides}
use Rattle.std.proofs.NetLemmas.Options.{cond_some}
use Rattle.std.proofs.NetLemmas.Ipv4.{read_ipv4_complete, read_ipv4_sound}
use Rattle.std.proofs.NetLemmas.Ipv6.{read_ipv6_complete, read_ipv6_sound, EndsGroups-nil, IsDotted-not_colon_hex}
use Rattle.ct_values.specs.declared.address.Address.{Address}
use Rattle.ct_values.specs.declared.address.Address.TheVariants.{V4, V6}
use Rattle.ct_values.specs.Address.{octets, groups, address_text, IsAddress, lenient_address, if_spelled_so, address_of}
use Rattle.ct_values.proofs.Addresses.{spells, comes_back}

-- ---- the whole of a word

-- where each front that is read is spelled, what is read of the whole is spelled by the whole
abbrev Sound : (List ℕ → List ℕ → Type 0) → List ℕ → Read (List ℕ) → Type 0
Sound Spells text read = (parts rest : List ℕ) → read ≡ Some (parts, rest) → (front : List ℕ) × (text ≡ front ++ rest) × Spells front parts

whole_at : (Spells : List ℕ → List ℕ → Type 0) (text found rest : List ℕ) → Sound Spells text (Some (found, rest)) → (parts : List ℕ) → whole_value {A = List ℕ} (Some (found, rest)) ≡ Some parts → Spells text parts
whole_at Spells text found [] sound parts e =
    let (front, split, spelled) = sound found [] refl in
    let same : found ≡ parts = cc in
    subst (λ t. Spells t parts) (sym (split ∙ append-nil front)) (subst (Spells front) same spelled)
whole_at Spells text found (c ∷ rest) sound parts e = let none = rw (ne_eqb (length (c ∷ rest)) 0 (omega arith)) at e in cc

whole_sound : (Spells : List ℕ → List ℕ → Type 0) (text : List ℕ) (read : Read (List ℕ)) → Sound Spells text read → (parts : List ℕ) → whole_value read ≡ Some parts → Spells text parts
whole_sound Spells text None sound parts e = cc
whole_sound Spells text (Some p) sound parts e = whole_at Spells text p.0 p.1 sound parts e

whole_v4 : (word bytes : List ℕ) → IsDotted word bytes → whole_value (read_ipv4 word) ≡ Some bytes
whole_v4 word bytes h = ap whole_value (rw append-nil at (read_ipv4_complete word bytes [] h (lit≤ tt)))

whole_v6 : (word parts : List ℕ) → IsColonHex word parts → whole_value (read_ipv6 word) ≡ Some parts
whole_v6 word parts h = ap whole_value (rw append-nil at (read_ipv6_complete word parts [] h EndsGroups-nil))

-- a value that can't be there is not there
none_at : (o : Option (List ℕ)) → ((x : List ℕ) → o ≡ Some x → ⊥) → o ≡ None
none_at None h = refl
none_at (Some x) h = absurd (h x refl)

sound_v4 : (word bytes : List ℕ) → whole_value (read_ipv4 word) ≡ Some bytes → IsDotted word bytes
sound_v4 word bytes e = whole_sound IsDotted word (read_ipv4 word) (λ parts rest. read_ipv4_sound word parts rest) bytes e

sound_v6 : (word parts : List ℕ) → whole_value (read_ipv6 word) ≡ Some parts → IsColonHex word parts
sound_v6 word bytes e = whole_sound IsColonHex word (read_ipv6 word) (λ parts rest. read_ipv6_sound word parts rest) bytes e

-- ---- a word that is read

pub read_v4 : (word : List ℕ) (ip : Ipv4Addr) → IsIpText word (Ip.V4 ip) → lenient_address word ≡ Some (V4 (ipv4_bits ip))
unfolding lenient_address ipv4_bits
read_v4 word ip h = rw (whole_v4 word ip.octets h)

pub read_v6 : (word : List ℕ) (ip : Ipv6Addr) → IsIpText word (Ip.V6 ip) → lenient_address word ≡ Some (V6 (ipv6_bits ip))
unfolding lenient_address ipv6_bits
read_v6 word ip h =
    rw (none_at (whole_value (read_ipv4 word)) (λ bytes e. IsDotted-not_colon_hex word bytes ip.segments (sound_v4 word bytes e) h), whole_v6 word ip.segments h)

pub read_none : (word : List ℕ) → ((ip : IpAddr) → ¬ IsIpText word ip) → lenient_address word ≡ None
unfolding lenient_address
read_none word none =
    rw (
      none_at (whole_value (read_ipv4 word)) (λ bytes e. none (Ip.V4 (record { octets = bytes })) (sound_v4 word bytes e)),
      none_at (whole_value (read_ipv6 word)) (λ parts e. none (Ip.V6 (record { segments = parts })) (sound_v6 word parts e)),
    )

-- ---- the one spelling

lenient_back : (a : Address) → IsAddress a → lenient_address (address_text a) ≡ Some a
lenient_back (V4 n) fits = read_v4 (address_text (V4 n)) (record { octets = octets n }) (spells (V4 n)) ∙ ap Some (comes_back (V4 n) fits)
lenient_back (V6 n) fits = read_v6 (address_text (V6 n)) (record { segments = groups n }) (spells (V6 n)) ∙ ap Some (comes_back (V6 n) fits)

-- the text of an address is read as that address
pub read_back : (a : Address) → IsAddress a → address_of (address_text a) ≡ Some a
unfolding address_of
read_back a fits = rw (lenient_back a fits, (bytes_eq-Decides (address_text a) (address_text a)).1 refl)

only_so : (word : List ℕ) (o : Option Address) (a : Address) → if_spelled_so word o ≡ Some a → address_text a ≡ word
only_so word None a e = cc
only_so word (Some b) a e =
    let (so, same) = cond_some (bytes_eq (address_text b) word) b a e in
    ap address_text (sym same) ∙ (bytes_eq-Decides (address_text b) word).0 so

-- what is read as an address is its text
pub read_only : (word : List ℕ) (a : Address) → address_of word ≡ Some a → address_text a ≡ word
unfolding address_of
read_only word a e = only_so word (lenient_address word) a e
