-- What is accepted makes a configuration.
use Rattle.std.proofs.Common.{◌≡◌, ◌∙◌, ℕ, ◌+◌, ◌≤◌, Bool, true, false, cond, List, [], ◌∷◌, ◌++◌, length, Option, None, Some, append-nil, refl, sym, ap, subst, append_assoc, arith}
use Rattle.std.proofs.lemmas.Bool.{cond-false, or_parts}
use Rattle.std.proofs.lemmas.Bool.Decides.{nat_tests}
use Rattle.std.proofs.lemmas.List.{length-append}
use Rattle.std.specs.List.{list_any}
use Rattle.std.specs.Prelude.{IsSome, is_none, is_some, nat_lt, nat_le, ◌||◌, option_map}
use Rattle.ct_values.specs.Address.{same_address}
use Rattle.ct_values.specs.declared.address.Address.{Address}
use Rattle.ct_values.specs.Config.{config_fault, first_place, lock_db, repeat_from, repeated_address, repeated_name, same_name}
use Rattle.ct_values.specs.declared.config.Config.{Config}
use Rattle.ct_values.specs.declared.config.ConfigFault.TheVariants.{BadNodes, Repeated, TooMany}
use Rattle.ct_values.specs.declared.config.DbDecl.{DbDecl}
use Rattle.ct_lines.specs.Places.{Accepted, IsAccepted, IsConfigOf, IsMade, config_refusal, first_reason, is_closed, is_named, is_there, later_refusal, or_one, refusal, with_config, with_later, with_line}
use Rattle.ct_lines.specs.declared.line.ConfigLine.{ConfigLine}
use Rattle.ct_lines.specs.declared.line.ConfigLine.TheVariants as config
use Rattle.ct_lines.specs.declared.line.ScenarioLine.{ScenarioLine}
use Rattle.ct_lines.specs.declared.line.ScenarioLine.TheVariants as line

-- what makes a configuration, part by part
record HasNoFault (n : ℕ) (dbs : List DbDecl) (addresses : List Address) : Type 0 where
  nodes : (nat_lt n 1 || nat_lt 16 n) ≡ false
  few : (nat_lt 15 (length dbs) || nat_lt 64 (length addresses)) ≡ false
  names : repeated_name dbs ≡ None
  places : repeated_address addresses ≡ None

parts : (n : ℕ) (dbs : List DbDecl) (addresses : List Address) → config_fault n dbs addresses ≡ None → HasNoFault n dbs addresses
parts n dbs addresses e = by (nat_lt n 1 || nat_lt 16 n) refl (nat_lt 15 (length dbs) || nat_lt 64 (length addresses)) refl (repeated_name dbs) refl (repeated_address addresses) refl e
  where
    by : (b : Bool) → (nat_lt n 1 || nat_lt 16 n) ≡ b → (c : Bool) → (nat_lt 15 (length dbs) || nat_lt 64 (length addresses)) ≡ c → (p : Option ℕ) → repeated_name dbs ≡ p → (q : Option ℕ) → repeated_address addresses ≡ q → cond b (Some (BadNodes n)) (cond c (Some TooMany) (option_map Repeated (first_place p q))) ≡ None → HasNoFault n dbs addresses
    by true eb c ec p ep q eq e = absurd (cc)
    by false eb true ec p ep q eq e = absurd (cc)
    by false eb false ec (Some i) ep q eq e = absurd (cc)
    by false eb false ec None ep (Some j) eq e = absurd (cc)
    by false eb false ec None ep None eq e = record { nodes = eb; few = ec; names = ep; places = eq }

whole : (n : ℕ) (dbs : List DbDecl) (addresses : List Address) → HasNoFault n dbs addresses → config_fault n dbs addresses ≡ None
whole n dbs addresses h = rw h.nodes (rw h.few (rw h.names (rw h.places refl)))

-- the reason is none
none_holds : (order repeat limit : Bool) → first_reason order repeat limit ≡ None → (order ≡ false) × (repeat ≡ false) × (limit ≡ false)
none_holds true r l e = absurd (cc)
none_holds false true l e = absurd (cc)
none_holds false false true e = absurd (cc)
none_holds false false false e = (refl, refl, refl)

-- an item that is not among those before repeats none
not_repeated : (b : Bool) (i : ℕ) (r : Option ℕ) → cond b (Some i) r ≡ None → (b ≡ false) × (r ≡ None)
not_repeated true i r e = absurd (cc)
not_repeated false i r e = (refl, e)

one_more : {X : Type 0} (same : X → X → Bool) (before xs : List X) (i : ℕ) (x : X) → repeat_from same before i xs ≡ None → list_any (same x) (before ++ xs) ≡ false → repeat_from same before i (xs ++ x ∷ []) ≡ None
one_more same before [] i x e f = cond-false _ _ _ (ap (list_any (same x)) (sym (append-nil before)) ∙ f)
one_more same before (y ∷ ys) i x e f =
    let first = not_repeated (list_any (same y) before) i _ e in
    cond-false _ _ _ first.0 ∙ one_more same (before ++ y ∷ []) ys (i + 1) x first.1 (ap (list_any (same x)) (append_assoc before (y ∷ []) ys) ∙ f)

in_range : (n : ℕ) → 1 ≤ n → n ≤ 16 → (nat_lt n 1 || nat_lt 16 n) ≡ false
in_range n l h = grind (arith, nat_tests)

room : (limit m : ℕ) → nat_le limit m ≡ false → nat_lt limit (m + 1) ≡ false
room limit m e = grind (arith, nat_tests)

few_more : (m k : ℕ) → nat_le 15 m ≡ false → (nat_lt 15 m || nat_lt 64 k) ≡ false → (nat_lt 15 (m + 1) || nat_lt 64 k) ≡ false
few_more m k e f = rw (room 15 m e) (or_parts (nat_lt 15 m) (nat_lt 64 k) f).1

more_few : (m k : ℕ) → nat_le 64 k ≡ false → (nat_lt 15 m || nat_lt 64 k) ≡ false → (nat_lt 15 m || nat_lt 64 (k + 1)) ≡ false
more_few m k e f = rw (or_parts (nat_lt 15 m) (nat_lt 64 k) f).0 (room 64 k e)

-- ---- each line that is accepted

-- with the number of nodes
pub nodes_accepted : (a : Accepted) (n : ℕ) → (1 ≤ n) × (n ≤ 16) → IsAccepted a → IsAccepted (record a { nodes = Some n })
nodes_accepted a n range h =
    let p = parts (or_one a.nodes) a.dbs a.addresses h in whole n a.dbs a.addresses (record { nodes = in_range n range.0 range.1; few = p.few; names = p.names; places = p.places })

-- with one database more
pub db_accepted : (a : Accepted) (what : ConfigLine) (d : DbDecl) (dbs : List DbDecl) → what ≡ config.Db d → dbs ≡ a.dbs ++ d ∷ [] → config_refusal what a ≡ None → IsAccepted a → IsAccepted (record a { dbs = dbs })
db_accepted a what d dbs is e place h =
    let n = or_one a.nodes in
    let p = parts n a.dbs a.addresses h in
    let free = none_holds (is_closed a) (is_named d a) (nat_le 15 (length a.dbs)) (subst (λ (w : ConfigLine). config_refusal w a ≡ None) is place) in
    let few : (nat_lt 15 (length (a.dbs ++ d ∷ [])) || nat_lt 64 (length a.addresses)) ≡ false = ap (λ (m : ℕ). nat_lt 15 m || nat_lt 64 (length a.addresses)) (length-append a.dbs (d ∷ [])) ∙ few_more (length a.dbs) (length a.addresses) free.2 p.few in
    let all = whole n (a.dbs ++ d ∷ []) a.addresses (record { nodes = p.nodes; few = few; names = one_more same_name (lock_db ∷ []) a.dbs 0 d p.names free.1; places = p.places }) in
    subst (λ (ds : List DbDecl). config_fault n ds a.addresses ≡ None) (sym e) all

-- with one address more
pub address_accepted : (a : Accepted) (what : ConfigLine) (x : Address) (addresses : List Address) → what ≡ config.Address x → addresses ≡ a.addresses ++ x ∷ [] → config_refusal what a ≡ None → IsAccepted a → IsAccepted (record a { addresses = addresses })
address_accepted a what x addresses is e place h =
    let n = or_one a.nodes in
    let p = parts n a.dbs a.addresses h in
    let free = none_holds (is_closed a) (is_there x a) (nat_le 64 (length a.addresses)) (subst (λ (w : ConfigLine). config_refusal w a ≡ None) is place) in
    let few : (nat_lt 15 (length a.dbs) || nat_lt 64 (length (a.addresses ++ x ∷ []))) ≡ false = ap (λ (m : ℕ). nat_lt 15 (length a.dbs) || nat_lt 64 m) (length-append a.addresses (x ∷ [])) ∙ more_few (length a.dbs) (length a.addresses) free.2 p.few in
    let all = whole n a.dbs (a.addresses ++ x ∷ []) (record { nodes = p.nodes; few = few; names = p.names; places = one_more same_address [] a.addresses 0 x p.places free.1 }) in
    subst (λ (xs : List Address). config_fault n a.dbs xs ≡ None) (sym e) all

-- ---- after a line that is accepted it is known how many nodes there are

known : (o : Option ℕ) (b : Bool) → (is_none o || b) ≡ false → IsSome o
known None b e = absurd (cc)
known (Some n) b e = refl

pub nodes_known : (what : ConfigLine) (a : Accepted) → config_refusal what a ≡ None → IsSome (with_config what a).nodes
nodes_known (config.Nodes n) a e = refl
nodes_known (config.Db d) a e = known a.nodes a.begun (none_holds (is_closed a) (is_named d a) (nat_le 15 (length a.dbs)) e).0
nodes_known (config.Address x) a e = known a.nodes a.begun (none_holds (is_closed a) (is_there x a) (nat_le 64 (length a.addresses)) e).0

pub begun_known : (a : Accepted) → later_refusal a ≡ None → IsSome a.nodes
begun_known a e = by a.nodes e
  where
    by : (o : Option ℕ) → first_reason (is_none o) false false ≡ None → IsSome o
    by None e = absurd (cc)
    by (Some n) e = refl

-- ---- the configuration

pub made_of : (a : Accepted) (c : Config) → IsConfigOf a c → IsMade c
made_of a c h = (a.dbs, a.addresses, h.1)

-- ---- the configuration stands once a line of another kind came

config_refused : (what : ConfigLine) (a : Accepted) → IsSome a.nodes → a.begun ≡ true → config_refusal what a ≡ None → with_config what a ≡ a
config_refused (config.Nodes n) a some b e = let open_so = (none_holds (is_some a.nodes) false false e).0 in absurd (cc)
config_refused (config.Db d) a some b e =
    let open_so = (or_parts (is_none a.nodes) a.begun (none_holds (is_closed a) (is_named d a) (nat_le 15 (length a.dbs)) e).0).1 in absurd (cc)
config_refused (config.Address x) a some b e =
    let open_so = (or_parts (is_none a.nodes) a.begun (none_holds (is_closed a) (is_there x a) (nat_le 64 (length a.addresses)) e).0).1 in absurd (cc)

begun_already : (a : Accepted) → a.begun ≡ true → with_later a ≡ a
begun_already a b = (λ i. record a { begun = sym b i })

pub stands : (l : ScenarioLine) (a : Accepted) → IsSome a.nodes → a.begun ≡ true → refusal l a ≡ None → with_line l a ≡ a
stands (line.Config what) a some b e = config_refused what a some b e
stands (line.Change step) a some b e = begun_already a b
stands (line.ByName node db asked) a some b e = begun_already a b
stands (line.Settle count) a some b e = begun_already a b
stands (line.Traverse said) a some b e = begun_already a b
stands (line.Ctdb node asked) a some b e = begun_already a b
