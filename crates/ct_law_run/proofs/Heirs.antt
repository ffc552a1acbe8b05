-- What a next line may take over of a record, out of its world in the parent.
use Rattle.std.proofs.Common.{◌≡◌, ℕ, ◌≤◌, Bool, true, List, [], ◌∷◌, length, take, Option, Some, None, refl, sym, ap, ◌∙◌, arith, subst}
use Rattle.ct_frame.specs.declared.header.RecCopy.{RecCopy}
use Rattle.ct_register.specs.Register.{Register, reading}
use Rattle.ct_register.specs.Births.{unless_empty, taken_over}
use Rattle.ct_register.specs.Marks.{value_at}
use Rattle.ct_law_record.specs.World.{World, HasCopy, StandsFor, NothingIsLost}
use Rattle.std.specs.Prelude.{nat_le}
use Rattle.std.proofs.lemmas.Bool.{cond_both, leb-true, leb-false}
use Rattle.std.proofs.lemmas.List.{take_all}

-- so many first versions have this reading, and none of these nodes has seen more
pub record Counted (r : Register) (among : ℕ → Bool) (v : List ℕ) : Type 0 where
  pub count : ℕ
  pub within : count ≤ length r.versions
  pub value : value_at count r.versions ≡ v
  pub seen : (k : ℕ) → among k ≡ true → r.seen k ≤ count

abbrev pub SeenAtMost : Register → Type 0
SeenAtMost r = (n : ℕ) → r.seen n ≤ length r.versions

copy_stands : (w : World) (r : Register) (h : NothingIsLost w r) (n : ℕ) (c : RecCopy) → HasCopy w n c → StandsFor r h.0 h.1 n (Some c)
copy_stands w r h n c is = subst (λ (x : Option RecCopy). StandsFor r h.0 h.1 n x) is (h.5 n)

none_stands : (w : World) (r : Register) (h : NothingIsLost w r) (n : ℕ) → (w.nodes n).state.copy ≡ None → r.seen n ≤ h.0
none_stands w r h n is = subst (λ (x : Option RecCopy). StandsFor r h.0 h.1 n x) is (h.5 n)

seen_up_to : (w : World) (r : Register) (h : NothingIsLost w r) (k p : ℕ) → h.0 ≤ p → ((d : RecCopy) → HasCopy w k d → h.1 d.header.rsn ≤ p) → r.seen k ≤ p
seen_up_to w r h k p low up = go (w.nodes k).state.copy refl
  where
    go : (c : Option RecCopy) → (w.nodes k).state.copy ≡ c → r.seen k ≤ p
    go None e = (let a = none_stands w r h k e in omega arith)
    go (Some d) e = (let a = (copy_stands w r h k d e).1 in let b = up d e in omega arith)

-- of a copy of the greatest RSN among some nodes
pub some_counted : (w : World) (r : Register) (among : ℕ → Bool) (n : ℕ) (c : RecCopy) → NothingIsLost w r → HasCopy w n c → ((k : ℕ) (d : RecCopy) → among k ≡ true → HasCopy w k d → d.header.rsn ≤ c.header.rsn) → Counted r among c.value
some_counted w r among n c h is most =
    let own = copy_stands w r h n c is in
    record {
      count = h.1 c.header.rsn;
      within = h.4 c.header.rsn;
      value = sym own.0;
      seen = λ k t. seen_up_to w r h k (h.1 c.header.rsn) own.2 (λ d e. h.3 d.header.rsn c.header.rsn (most k d t e));
    }

-- and where none of them has a copy
pub none_counted : (w : World) (r : Register) (among : ℕ → Bool) → SeenAtMost r → NothingIsLost w r → ((k : ℕ) → among k ≡ true → (w.nodes k).state.copy ≡ None) → Counted r among []
none_counted w r among within h none = cond_both (nat_le h.0 (length r.versions)) true true (λ (_ : Bool). Counted r among [])
    (λ t. record { count = h.0; within = leb-true h.0 (length r.versions) t; value = h.2; seen = λ k a. none_stands w r h k (none k a) })
    (λ f. record {
      count = length r.versions;
      within = omega arith;
      value = ap reading (take_all (length r.versions) r.versions (omega arith)) ∙ sym (ap reading (take_all h.0 r.versions (let l = leb-false h.0 (length r.versions) f in omega arith))) ∙ h.2;
      seen = λ k a. within k;
    })

-- ---- what is taken over of so many versions

unless_reading : (l : List (List ℕ)) (x : List ℕ) → reading l ≡ x → reading (unless_empty l x) ≡ x
unfolding unless_empty reading
unless_reading l [] e = refl
unless_reading l (b ∷ bs) e = e

pub taken_reading : (count : ℕ) (vs : List (List ℕ)) → reading (taken_over count vs) ≡ value_at count vs
unfolding taken_over
taken_reading count vs = unless_reading (take count vs) (reading (take count vs)) refl

pub taken_none : (count : ℕ) (vs : List (List ℕ)) → value_at count vs ≡ [] → taken_over count vs ≡ []
unfolding taken_over unless_empty
taken_none count vs e = ap (unless_empty (take count vs)) e
