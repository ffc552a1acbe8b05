-- Where a generation began with rows, the law of one record holds from there on of every record.
use Rattle.std.proofs.Common.{◌≡◌, ℕ, zero, suc, ◌<◌, ◌≤◌, Bool, true, false, cond, ◌||◌, List, [], ◌∷◌, length, Option, Some, None, refl, sym, ◌∙◌, ap, arith, subst, ⊎_elim, inl, inr}
use Rattle.std.specs.Prelude.{nat_eq, slice_get, ◌%◌}
use Rattle.std.specs.List.{list_all, list_any}
use Rattle.std.proofs.Math.Nat.{mod-lt}
use Rattle.std.proofs.lemmas.Bool.{and_from, eq-eqb, ltb-true, lt-ltb, or_right}
use Rattle.ct_values.specs.Hash.{hash_of}
use Rattle.ct_values.specs.declared.config.Config.{Config}
use Rattle.ct_frame.specs.Header.{nobody}
use Rattle.ct_frame.specs.Fields.{is_node}
use Rattle.ct_frame.specs.declared.frame.TableRow.{TableRow}
use Rattle.ct_call.specs.Rules.{Rules}
use Rattle.ct_rules.specs.declared.state.RecState.{RecState}
use Rattle.ct_rules.specs.declared.state.Wish.{Wish}
use Rattle.ct_rules_node.specs.Node.{Node, db_at, state_at, master_of, or_zero, is_among, has_records, kind_at}
use Rattle.ct_rules_node.specs.Rounds.{row_master, or_nobody}
use Rattle.ct_rules_cluster.specs.Cluster.{Cluster, node_at}
use Rattle.ct_register.specs.Register.{Register, reading, newborn}
use Rattle.ct_register.specs.Lines.{Lines}
use Rattle.ct_register.proofs.Small.{none_not_some, some_not_none}
use Rattle.ct_promise.specs.Promises.{IsConfig}
use Rattle.ct_promise.specs.Born.{Rows, IsBornWith, BornRegisters, WishIsSound, IsMastered, IsBirthOf}
use Rattle.ct_law_record.specs.World.{Scene, World, bare, born, AreDrawn, SeesAtMost}
use Rattle.ct_law_record.proofs.Worlds.{member_real}
use Rattle.ct_law_generation.specs.Shown.{Era, scene, project, AllInstalled}
use Rattle.ct_law_generation.proofs.Configured.{at_most_sixteen_nodes}
use Rattle.ct_law_generation.proofs.BornWorlds.{numbers_in, wishes_in, by_test, of_all, state_none, row_world, bare_world, HasNoRow}

-- ---- the members

first_in : (m : ℕ) (ms : List ℕ) → is_among m (m ∷ ms) ≡ true
unfolding is_among
first_in m ms = rw (eq-eqb m m refl) refl

later_in : (n m : ℕ) (ms : List ℕ) → is_among n ms ≡ true → is_among n (m ∷ ms) ≡ true
unfolding is_among
later_in n m ms t = or_right (nat_eq n m) (list_any (nat_eq n) ms) t

each_node : (members : List ℕ) → ((n : ℕ) → is_among n members ≡ true → is_node n ≡ true) → list_all is_node members ≡ true
each_node [] h = refl
each_node (m ∷ ms) h = and_from (is_node m) (list_all is_node ms) (h m (first_in m ms)) (each_node ms (λ n t. h n (later_in n m ms t)))

-- every member is a node
pub born_real : (config : Config) (g : ℕ) (members : List ℕ) (row : Rows) (w : Cluster) → IsConfig config → IsBornWith config g members row w → list_all is_node members ≡ true
born_real config g members row w is h = each_node members (λ n t. (let few = at_most_sixteen_nodes config is in let low = ltb-true n config.nodes (h.there n t) in lt-ltb n 16 (omega arith)))

one_in : (i : ℕ) (ns : List ℕ) → i < length ns → is_among (or_zero (slice_get ns i)) ns ≡ true
unfolding or_zero
one_in i [] l = absurd (omega arith)
one_in zero (n ∷ ns) l = first_in n ns
one_in (suc i) (n ∷ ns) l = later_in (or_zero (slice_get ns i)) n ns (one_in i ns (omega arith))

some_member : (n : ℕ) (ns : List ℕ) → is_among n ns ≡ true → 0 < length ns
unfolding is_among
some_member n [] e = absurd (cc)
some_member n (m ∷ ms) e = omega arith

-- where there is a member, each location master is one
pub master_in : (n : ℕ) (members : List ℕ) (key : List ℕ) → is_among n members ≡ true → is_among (master_of members key) members ≡ true
unfolding master_of
master_in n members key t = one_in (hash_of key % length members) members (mod-lt (hash_of key) (some_member n members t))

-- a data master that is a member is named
named_in : (members : List ℕ) (o : Option ℕ) → list_all is_node members ≡ true → is_among (or_nobody o) members ≡ true → (m : ℕ) × (o ≡ Some m) × (is_among m members ≡ true)
unfolding or_nobody
named_in members None real t = absurd (member_real nobody members t real refl)
named_in members (Some m) real t = (m, refl, t)

pub row_named : (members : List ℕ) (x : TableRow) → list_all is_node members ≡ true → IsMastered members (Some x) → (m : ℕ) × (x.master ≡ Some m) × (is_among m members ≡ true)
unfolding IsMastered row_master
row_named members x real t = named_in members x.master real t

-- ---- the calls that wait

drawn_wish : (db : ℕ) (key : List ℕ) (next : ℕ) (o : Option Wish) (v : Wish) → WishIsSound db key next o → o ≡ Some v → v.request < next
unfolding WishIsSound
drawn_wish db key next None v h e = absurd (none_not_some e)
drawn_wish db key next (Some u) v h e = (let same : u ≡ v = cc in subst (λ (x : Wish). x.request < next) same h.drawn)

no_wish : (db : ℕ) (key : List ℕ) (x : Node) (v : Wish) → (db_at db x).records ≡ [] → (state_at db key x).wish ≡ Some v → ⊥
no_wish db key x v none e = none_not_some (sym (ap (λ (s : RecState). s.wish) (state_none db key x none)) ∙ e)

-- each node has drawn the request of its call
pub born_drawn : (config : Config) (g : ℕ) (members : List ℕ) (row : Rows) (w : Cluster) → IsBornWith config g members row w → (db : ℕ) (key : List ℕ) → AreDrawn (numbers_in w) (wishes_in db key w)
born_drawn config g members row w h db key = record {
  some = of_all (λ (n : ℕ). 1 ≤ numbers_in w n) members (λ n t. (h.born n t).drawn) (λ n f. (h.left n f).drawn);
  above = of_all (λ (n : ℕ). (v : Wish) → wishes_in db key w n ≡ Some v → v.request < numbers_in w n) members inside (λ n f v e. absurd (no_wish db key (node_at n w) v ((h.left n f).records db) e));
}
  where
    inside : (n : ℕ) → is_among n members ≡ true → (v : Wish) → wishes_in db key w n ≡ Some v → v.request < numbers_in w n
    inside n t v e = by_test (has_records (kind_at config db))
        (λ of. drawn_wish db key (numbers_in w n) (wishes_in db key w n) v ((h.born n t).wishes db key of) e)
        (λ none. absurd (no_wish db key (node_at n w) v ((h.born n t).others db none) e))

-- ---- the registers

-- the register of a record is as its generation begins, and its nodes have seen this
pub born_register : (config : Config) (w : Cluster) (g : ℕ) (members : List ℕ) (row : Rows) (r : Lines) → BornRegisters config w g members row r → (db : ℕ) (key : List ℕ) →
    r.records g db key ≡ record (newborn (r.records g db key).birth) { seen = (r.records g db key).seen }
born_register config w g members row r b db key = λ i. record {
  versions = b.newborn db key i;
  birth = (r.records g db key).birth;
  owner = b.unowned db key i;
  seen = (r.records g db key).seen;
}

sees_if : (b : Bool) (seen count : ℕ) → (b ≡ true → seen ≡ count) → (b ≡ false → seen ≡ 0) → seen ≤ cond b count 0
sees_if true seen count h k = (let e = h refl in omega arith)
sees_if false seen count h k = (let e = k refl in omega arith)

-- no node has seen more than what a member begins with
pub born_sees : (config : Config) (w : Cluster) (era : Era) (rules : Rules) (row : Rows) (r : Lines) → BornRegisters config w era.number era.members row r → (db : ℕ) (key : List ℕ) →
    SeesAtMost (scene config era rules db key) (r.records era.number db key).seen (length (r.records era.number db key).birth)
born_sees config w era rules row r b db key n = sees_if (is_among n era.members) _ _ (λ t. b.seen n db key t) (λ f. b.unseen n db key f)

birth_none : (o : Option TableRow) (vs : List (List ℕ)) → o ≡ None → IsBirthOf o vs → vs ≡ []
unfolding IsBirthOf
birth_none None vs e h = h
birth_none (Some x) vs e h = absurd (some_not_none e)

birth_some : (o : Option TableRow) (x : TableRow) (vs : List (List ℕ)) → o ≡ Some x → IsBirthOf o vs → x.value ≡ reading vs
unfolding IsBirthOf
birth_some None x vs e h = absurd (none_not_some e)
birth_some (Some y) x vs e h = (let same : y ≡ x = cc in subst (λ (z : TableRow). z.value ≡ reading vs) same (sym h))

-- it began with no version
births_none : (config : Config) (w : Cluster) (g : ℕ) (members : List ℕ) (row : Rows) (r : Lines) → BornRegisters config w g members row r → (db : ℕ) (key : List ℕ) → HasNoRow config row db key → (r.records g db key).birth ≡ []
births_none config w g members row r b db key no_row = ⊎_elim
    (λ (a : (has_records (kind_at config db) ≡ true) × (row db key ≡ None)). birth_none (row db key) _ a.1 (b.births db key a.0))
    (λ (none : has_records (kind_at config db) ≡ false). b.none db key none) no_row

-- the register of a record without a row is as one that nothing was ever written to
pub empty_register : (config : Config) (w : Cluster) (g : ℕ) (members : List ℕ) (row : Rows) (r : Lines) → BornRegisters config w g members row r → (db : ℕ) (key : List ℕ) → HasNoRow config row db key → r.records g db key ≡ newborn []
empty_register config w g members row r b db key no_row = λ i. record { versions = whole i; birth = none i; owner = b.unowned db key i; seen = λ n. unseen n i }
  where
    none : (r.records g db key).birth ≡ []
    none = births_none config w g members row r b db key no_row

    whole : (r.records g db key).versions ≡ []
    whole = b.newborn db key ∙ none

    unseen : (n : ℕ) → (r.records g db key).seen n ≡ 0
    unseen = of_all (λ (n : ℕ). (r.records g db key).seen n ≡ 0) members (λ n t. b.seen n db key t ∙ ap (λ (vs : List (List ℕ)). length vs) none) (λ n f. b.unseen n db key f)

-- ---- the law of one record

-- with these the law of one record begins where the record has a row
pub record Row_begins (s : Scene) (x : TableRow) (master : ℕ) (vs : List (List ℕ)) (seen number : ℕ → ℕ) (wish : ℕ → Option Wish) : Type 0 where
  pub real : list_all is_node s.members ≡ true
  pub lmaster : is_among s.lmaster s.members ≡ true
  pub named : x.master ≡ Some master
  pub member : is_among master s.members ≡ true
  pub value : x.value ≡ reading vs
  pub sees : SeesAtMost s seen (length vs)
  pub drawn : AreDrawn number wish

-- what holds where the law of one record begins, with a row or with none, holds at this cluster of every record
pub each_begins : (P : Scene → World → Register → Type 0) (config : Config) (era : Era) (rules : Rules) (row : Rows) (w : Cluster) (r : Lines) → IsConfig config → IsBornWith config era.number era.members row w →
    BornRegisters config w era.number era.members row r →
    ((s : Scene) (x : TableRow) (master : ℕ) (vs : List (List ℕ)) (seen number : ℕ → ℕ) (wish : ℕ → Option Wish) → Row_begins s x master vs seen number wish → P s (born s x (λ _. true) number wish) (record (newborn vs) { seen = seen })) →
    ((s : Scene) (number : ℕ → ℕ) (wish : ℕ → Option Wish) → list_all is_node s.members ≡ true → AreDrawn number wish → P s (bare (λ _. true) number wish) (newborn [])) →
    (db : ℕ) (key : List ℕ) → P (scene config era rules db key) (project era.number db key w) (r.records era.number db key)
each_begins P config era rules row w r is h b with_row without db key = by_test (has_records (kind_at config db))
    (λ of. either of (row db key) refl)
    (λ none. of_none (inr none))
  where
    s : Scene
    s = scene config era rules db key

    t : Register
    t = r.records era.number db key

    real : list_all is_node era.members ≡ true
    real = born_real config era.number era.members row w is h

    drawn : AreDrawn (numbers_in w) (wishes_in db key w)
    drawn = born_drawn config era.number era.members row w h db key

    of_none : HasNoRow config row db key → P s (project era.number db key w) t
    of_none no_row = subst (λ (x : World). P s x t) (sym (bare_world config era.number era.members row w h db key no_row))
        (subst (λ (q : Register). P s (bare (λ _. true) (numbers_in w) (wishes_in db key w)) q) (sym (empty_register config w era.number era.members row r b db key no_row)) (without s (numbers_in w) (wishes_in db key w) real drawn))

    of_row : (x : TableRow) → has_records (kind_at config db) ≡ true → row db key ≡ Some x → P s (project era.number db key w) t
    of_row x of e =
        let m = row_named era.members x real (subst (λ (o : Option TableRow). IsMastered era.members o) e (h.mastered db key)) in
        subst (λ (y : World). P s y t) (sym (row_world config era rules row w h db key x of e))
        (subst (λ (q : Register). P s (born s x (λ _. true) (numbers_in w) (wishes_in db key w)) q) (sym (born_register config w era.number era.members row r b db key))
        (with_row s x m.0 t.birth t.seen (numbers_in w) (wishes_in db key w) (record {
          real = real;
          lmaster = master_in m.0 era.members key m.2;
          named = m.1;
          member = m.2;
          value = birth_some (row db key) x t.birth e (b.births db key of);
          sees = born_sees config w era rules row r b db key;
          drawn = drawn;
        })))

    either : has_records (kind_at config db) ≡ true → (o : Option TableRow) → row db key ≡ o → P s (project era.number db key w) t
    either of None e = of_none (inl (of, e))
    either of (Some x) e = of_row x of e

-- ---- the lines

-- every member is in the line
pub born_line : (config : Config) (w : Cluster) (g : ℕ) (members : List ℕ) (row : Rows) (r : Lines) → BornRegisters config w g members row r → (n : ℕ) → is_among n members ≡ true → r.line n ≡ g
born_line config w g members row r b n t = b.inside n t

-- and has installed it
pub born_installed : (config : Config) (w : Cluster) (g : ℕ) (members : List ℕ) (row : Rows) (r : Lines) → BornRegisters config w g members row r → AllInstalled g r
born_installed config w g members row r b n t = b.installed n (subst (λ (ms : List ℕ). is_among n ms ≡ true) b.named t)

pub born_holder : (config : Config) (w : Cluster) (g : ℕ) (members : List ℕ) (row : Rows) (r : Lines) → BornRegisters config w g members row r → r.holder ≡ w.holder
born_holder config w g members row r b = b.holder
