-- All states of a database, changed one after the other, by ascending key.
use Rattle.std.proofs.Common.{◌≡◌, ℕ, Bool, true, false, cond, not, List, [], ◌∷◌, ◌++◌, append-nil, Option, Some, None, refl, sym, ◌∙◌, ap, subst}
use Rattle.std.specs.Prelude.{map}
use Rattle.std.specs.Ordering.{ordering_reverse, match_ordering}
use Rattle.std.specs.Cmp.Lexicographic.{nat_list_cmp_total}
use Rattle.std.specs.declared.cmp.Ordering.TheVariants.{Less}
use Rattle.std.specs.List.{AllByRecursion}
use Rattle.std.specs.List.Sorted.{IsStrictlySortedBy}
use Rattle.std.specs.Map.{keys_of}
use Rattle.ct_values.specs.Key.{key_cmp}
use Rattle.ct_store.specs.Map.{Pairs, Ascends, look, write}
use Rattle.ct_store.proofs.Maps.{same_map}
use Rattle.ct_rules.specs.State.{is_blank}
use Rattle.ct_rules.specs.declared.state.RecState.{RecState}
use Rattle.ct_rules_node.specs.Node.{Database}
use Rattle.ct_rules_node.specs.Rounds.{changed}
use Rattle.ct_law_rules_node.specs.NodeLaws.{changed_at, unless_blank}
use Rattle.ct_law_rules_node.proofs.Keys.{changed_ascends, changed_seen}
use Rattle.ct_node_database.specs.Noted.{IsTidy, is_worth}
use Rattle.ct_node_database.specs.Sweeps.{swept}
use Rattle.ct_node_database.specs.declared.database.Sweep.TheVariants.{Keep}

-- ---- a key above all that are there

behind : {X : Type 0} (P : List ℕ → Type 0) (m rest : Pairs X) (e : List ℕ × X) → AllByRecursion P (keys_of (m ++ e ∷ rest)) → P e.0
behind P [] rest e all = all.0
behind P (x ∷ m) rest e all = behind P m rest e all.1

-- is written at the end
pub last_written : {X : Type 0} (m rest : Pairs X) (k : List ℕ) (s : X) → Ascends (m ++ (k, s) ∷ rest) → write k s m ++ rest ≡ m ++ (k, s) ∷ rest
unfolding IsStrictlySortedBy
last_written [] rest k s a = refl
last_written {X} (x ∷ m) rest k s a =
    let greater = nat_list_cmp_total.antisymm k x.0 ∙ ap ordering_reverse (behind (λ q. key_cmp x.0 q ≡ Less) m rest (k, s) a.0) in
    ap (λ o. match_ordering o ((k, s) ∷ x ∷ m) ((x.0, s) ∷ m) (x ∷ write k s m) ++ rest) greater ∙ ap (λ (l : Pairs X). x ∷ l) (last_written m rest k s a.1)

-- ---- one state more

-- a blank one is left out
pub one_blank : (f : RecState → RecState) (built left rest all : Pairs RecState) (k : List ℕ) (s : RecState) →
    built ++ changed f left ≡ all → left ≡ (k, s) ∷ rest → is_blank (f s) ≡ true → built ++ changed f rest ≡ all
unfolding changed
one_blank f built left rest all k s e l b =
    ap (λ (c : Bool). built ++ cond c (changed f rest) ((k, f s) ∷ changed f rest)) (sym b) ∙ ap (λ (x : Pairs RecState). built ++ changed f x) (sym l) ∙ e

-- another is written
pub one_written : (f : RecState → RecState) (built more left rest all : Pairs RecState) (k : List ℕ) (s : RecState) →
    Ascends all → built ++ changed f left ≡ all → left ≡ (k, s) ∷ rest → is_blank (f s) ≡ false → more ≡ write k (f s) built → more ++ changed f rest ≡ all
unfolding changed
one_written f built more left rest all k s a e l b m =
    let whole : built ++ (k, f s) ∷ changed f rest ≡ all = ap (λ (c : Bool). built ++ cond c (changed f rest) ((k, f s) ∷ changed f rest)) (sym b) ∙ ap (λ (x : Pairs RecState). built ++ changed f x) (sym l) ∙ e in
    ap (λ (x : Pairs RecState). x ++ changed f rest) m ∙ last_written built (changed f rest) k (f s) (subst Ascends (sym whole) a) ∙ whole

-- ---- no change

stays : (x : Option RecState) → is_worth x ≡ true → changed_at (swept Keep) x ≡ x
unfolding is_worth changed_at unless_blank swept
stays None e = refl
stays (Some s) e = from (is_blank s) e
  where
    from : (b : Bool) → not b ≡ true → cond b None (Some s) ≡ Some s
    from true e = absurd (cc)
    from false e = refl

-- states that stay as they are make the same map
pub unchanged : (keys : List (List ℕ)) (m : Pairs RecState) → Ascends m → IsTidy keys m → changed (swept Keep) m ≡ m
unchanged keys m a h = same_map (changed (swept Keep) m) m (changed_ascends (swept Keep) m a) a (λ q. changed_seen (swept Keep) m a q ∙ stays (look q m) (h.worth q))

-- the changed map is in order
pub swept_ascends : (f : RecState → RecState) (m : Pairs RecState) → Ascends m → Ascends (changed f m)
swept_ascends f m a = changed_ascends f m a

-- ---- a database that is filled

-- all but the states is as at first, and what is there and what is left, changed, is all of it
pub record IsFilling (f : RecState → RecState) (first : Database) (all : Pairs RecState) (d : Database) (left : Pairs RecState) : Type 0 where
  pub same : d ≡ record first { records = d.records }
  pub states : d.records ++ changed f left ≡ all

filled_by : (f : RecState → RecState) (first : Database) (all : Pairs RecState) (d e : Database) (k : List ℕ) (s x : RecState) (rest : Pairs RecState) (b : Bool) → is_blank x ≡ b →
    Ascends all → IsFilling f first all d ((k, s) ∷ rest) → x ≡ f s → (b ≡ true → e ≡ d) → (b ≡ false → e ≡ record d { records = write k x d.records }) → IsFilling f first all e rest
filled_by f first all d e k s x rest true h a g i blank worth =
    let same = blank refl in
    let is : is_blank (f s) ≡ true = ap is_blank (sym i) ∙ h in
    subst (λ (y : Database). IsFilling f first all y rest) (sym same) (record { same = g.same; states = one_blank f d.records _ rest all k s g.states refl is })
filled_by f first all d e k s x rest false h a g i blank worth =
    let same = worth refl in
    let is : is_blank (f s) ≡ false = ap is_blank (sym i) ∙ h in
    subst (λ (y : Database). IsFilling f first all y rest) (sym same) (record {
      same = ap (λ (y : Database). record y { records = write k x d.records }) g.same;
      states = one_written f d.records (write k x d.records) _ rest all k s a g.states refl is (ap (λ (y : RecState). write k y d.records) i);
    })

-- one state more
pub fills : {A : Type 0} (shows : A → List ℕ × RecState) (f : RecState → RecState) (first : Database) (all : Pairs RecState) (d e : Database) (x : A) (k : List ℕ) (s : RecState) (left rest : List A) →
    left ≡ x ∷ rest → Ascends all → IsFilling f first all d (map shows left) → k ≡ (shows x).0 → s ≡ f (shows x).1 →
    (is_blank s ≡ true → e ≡ d) → (is_blank s ≡ false → e ≡ record d { records = write k s d.records }) → IsFilling f first all e (map shows rest)
fills shows f first all d e x k s left rest l a g same i blank worth =
    let h = subst (λ (ys : List _). IsFilling f first all d (map shows ys)) l g in
    filled_by f first all d e k (shows x).1 s (map shows rest) (is_blank s) refl a (subst (λ (q : List ℕ). IsFilling f first all d ((q, (shows x).1) ∷ map shows rest)) (sym same) h) i blank worth

-- nothing is left
pub filled : {A : Type 0} (shows : A → List ℕ × RecState) (f : RecState → RecState) (first : Database) (all : Pairs RecState) (d : Database) (left : List A) →
    left ≡ [] → IsFilling f first all d (map shows left) → d ≡ record first { records = all }
unfolding changed
filled shows f first all d left l g =
    let h = subst (λ (ys : List _). IsFilling f first all d (map shows ys)) l g in
    h.same ∙ ap (λ (m : Pairs RecState). record first { records = m }) (sym (append-nil d.records) ∙ h.states)
