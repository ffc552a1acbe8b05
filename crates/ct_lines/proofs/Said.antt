-- What each word of a line says, and that it says it in one way.
use Rattle.std.proofs.Common.{◌≡◌, ℕ, ◌<◌, ◌≤◌, ◌^◌, Bool, true, false, cond, ◌&&◌, ltb, leb, List, length, codes, Option, Some, None, refl, ap, sym, ◌∙◌, subst, arith, inl, inr}
use Rattle.std.proofs.lemmas.Bool.{and_parts, and_from, cases_Bool, cond-true, cond-false, ltb-true, lt-ltb, leb-true, le-leb}
use Rattle.std.proofs.lemmas.Slice.Eq.{bytes_eq-Decides}
use Rattle.std.specs.Fmt.{decimal}
use Rattle.std.specs.Prelude.{is_none, option_map, nat_lt}
use Rattle.std.specs.Str.{bytes_eq}
use Rattle.ct_values.specs.declared.address.Address.{Address}
use Rattle.ct_values.specs.declared.address.Address.TheVariants.{V4, V6}
use Rattle.ct_values.specs.Address.{address_of, address_text, IsAddress}
use Rattle.ct_values.proofs.Reading.{read_back, read_only}
use Rattle.ct_values.specs.Name.{bad_byte}
use Rattle.ct_spelling.specs.Number.{number_of}
use Rattle.ct_spelling.specs.Spelling.{spelling, unspelled}
use Rattle.ct_spelling.proofs.Numbers.{number_only, number_back}
use Rattle.ct_spelling.proofs.Spellings.{spelling-unspelled, unspelled-spelling}
use Rattle.ct_values.specs.declared.config.DbKind.{DbKind}
use Rattle.ct_values.specs.declared.config.DbKind.TheVariants.{Volatile, ReadOnly, Persistent}
use Rattle.ct_lines.specs.Words.{within, of_length, number_word, message_word, address_word, if_address, is_address, key_word, value_word, name_word, kind_word}
use Rattle.ct_lines.specs.Spelled.{kind_text, IsSmall, IsMessage, IsName, IsKey, IsValue}

-- where a test failed there is nothing
pub passed : {A : Type 0} (b : Bool) (o : Option A) (x : A) → cond b o None ≡ Some x → (b ≡ true) × (o ≡ Some x)
passed true o x h = (refl, h)
passed false o x h = cc

pub same_word : (w v : List ℕ) → bytes_eq w v ≡ true → w ≡ v
same_word w v h = (bytes_eq-Decides w v).0 h

-- a choice by what a word is, where both ways give the same
pub choice : {A : Type 0} (P : Type 0) (w v : List ℕ) (x o : Option A) (y : A) → cond (bytes_eq w v) x o ≡ Some y → (w ≡ v → x ≡ Some y → P) → (o ≡ Some y → P) → P
choice P w v x o y h same_case other_case =
    elim (cases_Bool (bytes_eq w v)) [
      | inl p ↦ same_case (same_word w v p) (sym (cond-true (bytes_eq w v) x o p) ∙ h)
      | inr p ↦ other_case (sym (cond-false (bytes_eq w v) x o p) ∙ h)
    ]

-- what holds of an item holds of the one that it is
pub some_said : {A : Type 0} (P : A → Type 0) (x y : A) → P x → Some x ≡ Some y → P y
some_said P x y p h = let same : x ≡ y = cc in subst P same p

-- what holds of each item that is made holds of the one that was
pub mapped : {X A : Type 0} (f : X → A) (P : A → Type 0) (o : Option X) (y : A) → option_map f o ≡ Some y → ((x : X) → o ≡ Some x → P (f x)) → P y
mapped f P None y h one = cc
mapped f P (Some x) y h one = some_said P (f x) y (one x refl) h

-- a choice of a word that stands for itself
pub if_word : {A : Type 0} (P : A → Type 0) (w v : List ℕ) (x : A) (o : Option A) (y : A) → (w ≡ v → P x) → (o ≡ Some y → P y) → cond (bytes_eq w v) (Some x) o ≡ Some y → P y
if_word {A} P w v x o y same_case other_case h =
    elim (cases_Bool (bytes_eq w v)) [
      | inl p ↦ let same : x ≡ y = cc (cond-true (bytes_eq w v) (Some x) o p) in subst P same (same_case (same_word w v p))
      | inr p ↦ other_case (sym (cond-false (bytes_eq w v) (Some x) o p) ∙ h)
    ]

pub within_only : (low high : ℕ) (o : Option ℕ) (n : ℕ) → within low high o ≡ Some n → (o ≡ Some n) × (low ≤ n) × (n < high)
within_only low high None n h = cc
within_only low high (Some m) n h =
    let p = passed (leb low m && ltb m high) (Some m) n h in
    let q = and_parts (leb low m) (ltb m high) p.0 in
    let same : m ≡ n = cc in
    let least : low ≤ m = leb-true low m q.0 in
    let below : m < high = ltb-true m high q.1 in
    (p.1, omega arith, omega arith)

pub within_back : (low high : ℕ) (o : Option ℕ) (n : ℕ) → o ≡ Some n → low ≤ n → n < high → within low high o ≡ Some n
within_back low high o n e l h =
    ap (within low high) e
    ∙ cond-true (leb low n && ltb n high) (Some n) None (and_from (leb low n) (ltb n high) (le-leb low n l) (lt-ltb n high h))

pub count_only : (word : List ℕ) (low high n : ℕ) → within low high (number_of word) ≡ Some n → (low ≤ n) × (n < high) × (word ≡ decimal n)
count_only word low high n h =
    let p = within_only low high (number_of word) n h in
    (p.1, p.2, (number_only word n p.0).1)

pub count_back : (low high n : ℕ) → high ≤ 4611686018427387904 → low ≤ n → n < high → within low high (number_of (decimal n)) ≡ Some n
count_back low high n k l h = within_back low high (number_of (decimal n)) n (number_back n (omega arith)) l h

pub small_only : (word : List ℕ) (n : ℕ) → number_word word ≡ Some n → IsSmall n × (word ≡ decimal n)
small_only word n h = let p = count_only word 0 4294967296 n h in (p.1, p.2)

pub small_back : (n : ℕ) → IsSmall n → number_word (decimal n) ≡ Some n
small_back n h = count_back 0 4294967296 n (omega arith) (omega arith) h

pub message_only : (word : List ℕ) (k : ℕ) → message_word word ≡ Some k → IsMessage k × (word ≡ decimal k)
message_only word k h = let p = count_only word 1 4611686018427387904 k h in ((p.0, p.1), p.2)

pub message_back : (k : ℕ) → IsMessage k → message_word (decimal k) ≡ Some k
message_back k h = count_back 1 4611686018427387904 k (omega arith) h.0 h.1

is_address_only : (a : Address) → is_address a ≡ true → IsAddress a
is_address_only (V4 n) h = ltb-true n (2 ^ 32) h
is_address_only (V6 n) h = ltb-true n (2 ^ 128) h

is_address_back : (a : Address) → IsAddress a → is_address a ≡ true
is_address_back (V4 n) h = lt-ltb n (2 ^ 32) h
is_address_back (V6 n) h = lt-ltb n (2 ^ 128) h

-- an address in its range is taken
pub if_address_in : (a : Address) → IsAddress a → if_address (Some a) ≡ Some a
if_address_in a h = cond-true (is_address a) (Some a) None (is_address_back a h)

if_address_only : (o : Option Address) (a : Address) → if_address o ≡ Some a → (o ≡ Some a) × IsAddress a
if_address_only None a h = cc
if_address_only (Some b) a h =
    let p = passed (is_address b) (Some b) a h in
    let same : b ≡ a = cc in
    (p.1, subst IsAddress same (is_address_only b p.0))

pub address_only : (word : List ℕ) (a : Address) → address_word word ≡ Some a → IsAddress a × (word ≡ address_text a)
address_only word a h = let p = if_address_only (address_of word) a h in (p.1, sym (read_only word a p.0))

pub address_back : (a : Address) → IsAddress a → address_word (address_text a) ≡ Some a
address_back a h = ap if_address (read_back a h) ∙ if_address_in a h

pub of_length_only : (low high : ℕ) (o : Option (List ℕ)) (bytes : List ℕ) → of_length low high o ≡ Some bytes → (o ≡ Some bytes) × (low ≤ length bytes) × (length bytes ≤ high)
of_length_only low high None bytes h = cc
of_length_only low high (Some xs) bytes h =
    let p = passed (leb low (length xs) && leb (length xs) high) (Some xs) bytes h in
    let q = and_parts (leb low (length xs)) (leb (length xs) high) p.0 in
    let same : xs ≡ bytes = cc in
    let long : length xs ≡ length bytes = ap length same in
    let least : low ≤ length xs = leb-true low (length xs) q.0 in
    let most : length xs ≤ high = leb-true (length xs) high q.1 in
    (p.1, omega arith, omega arith)

pub of_length_back : (low high : ℕ) (o : Option (List ℕ)) (bytes : List ℕ) → o ≡ Some bytes → low ≤ length bytes → length bytes ≤ high → of_length low high o ≡ Some bytes
of_length_back low high o bytes e l h =
    ap (of_length low high) e
    ∙ cond-true (leb low (length bytes) && leb (length bytes) high) (Some bytes) None
    (and_from (leb low (length bytes)) (leb (length bytes) high) (le-leb low (length bytes) l) (le-leb (length bytes) high h))

pub key_word_only : (word key : List ℕ) → key_word word ≡ Some key → IsKey key × (word ≡ spelling key)
key_word_only word key h =
    let p = of_length_only 1 255 (unspelled word) key h in
    let q = spelling-unspelled word key p.0 in
    ((p.1, p.2, q.0), sym q.1)

pub key_word_back : (key : List ℕ) → IsKey key → key_word (spelling key) ≡ Some key
key_word_back key h = of_length_back 1 255 (unspelled (spelling key)) key (unspelled-spelling key h.2) h.0 h.1

pub value_word_only : (word value : List ℕ) → value_word word ≡ Some value → IsValue value × (word ≡ spelling value)
value_word_only word value h =
    let p = of_length_only 0 1024 (unspelled word) value h in
    let q = spelling-unspelled word value p.0 in
    ((p.2, q.0), sym q.1)

pub value_word_back : (value : List ℕ) → IsValue value → value_word (spelling value) ≡ Some value
value_word_back value h = of_length_back 0 1024 (unspelled (spelling value)) value (unspelled-spelling value h.1) (omega arith) h.0

is_none_only : (o : Option ℕ) → is_none o ≡ true → o ≡ None
is_none_only None h = refl
is_none_only (Some n) h = cc

pub name_word_only : (word name : List ℕ) → name_word word ≡ Some name → IsName name × (word ≡ name)
name_word_only word name h =
    let p = passed (is_none (bad_byte word)) (of_length 1 63 (Some word)) name h in
    let q = of_length_only 1 63 (Some word) name p.1 in
    let same : word ≡ name = cc in
    ((q.1, q.2, subst (λ (xs : List ℕ). bad_byte xs ≡ None) same (is_none_only (bad_byte word) p.0)), same)

pub name_word_back : (name : List ℕ) → IsName name → name_word name ≡ Some name
name_word_back name h =
    cond-true (is_none (bad_byte name)) (of_length 1 63 (Some name)) None (ap is_none h.2)
    ∙ of_length_back 1 63 (Some name) name refl h.0 h.1

pub kind_word_only : (word : List ℕ) (kind : DbKind) → kind_word word ≡ Some kind → word ≡ kind_text kind
kind_word_only word kind h =
    if_word (λ k. word ≡ kind_text k) word (codes "volatile") Volatile _ kind (λ e. e)
    (λ g. if_word (λ k. word ≡ kind_text k) word (codes "readonly") ReadOnly _ kind (λ e. e)
    (λ f. if_word (λ k. word ≡ kind_text k) word (codes "persistent") Persistent None kind (λ e. e) (λ d. cc) f) g) h

pub kind_word_back : (kind : DbKind) → kind_word (kind_text kind) ≡ Some kind
kind_word_back Volatile = refl
kind_word_back ReadOnly = refl
kind_word_back Persistent = refl
