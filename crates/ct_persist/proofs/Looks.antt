-- What is at a key after a step of an update.
use Rattle.std.proofs.Common.{◌≡◌, ◌≢◌, ℕ, Bool, true, false, cond, List, [], ◌∷◌, Option, Some, None, refl, sym, ◌∙◌, ap}
use Rattle.std.specs.Prelude.{is_some, if◌then◌else◌}
use Rattle.std.specs.declared.cmp.Ordering.TheVariants.{Less, Equal, Greater}
use Rattle.std.specs.Ordering.{match_ordering}
use Rattle.std.specs.Option.{option_copied_mut, OnSome}
use Rattle.std.specs.Borrow.{MutBor}
use Rattle.std.specs.Cmp.{eq_by_cmp_equiv}
use Rattle.std.specs.List.{AllByRecursion}
use Rattle.std.specs.Map.{values_of}
use Rattle.std.specs.BTreeMap.{is_at}
use Rattle.ct_values.specs.Key.{key_cmp}
use Rattle.ct_values.specs.declared.client.Pair.{Pair}
use Rattle.ct_store.specs.Map.{Pairs, Ascends, look, write, erase}
use Rattle.ct_store.proofs.Maps.{written as written_here, not_written, erased, not_erased, key_total, one_key, equal, look-write, look-erase, write_ascends, erase_ascends}
use Rattle.ct_persist.specs.Persisted.{IsKept, stored, written}
use Rattle.ct_persist.specs.Steps.{added, assigned, is_empty_value, dropped}

abbrev pub V : Type 0
V = List ℕ

-- is q the key k?
abbrev pub at : List ℕ → List ℕ → Bool
at q k = is_at (key_cmp q) k

pub at_is : (q k : List ℕ) → at q k ≡ true → q ≡ k
at_is q k h = one_key q k (equal _ h)

pub flips : (q k : List ℕ) → at k q ≡ at q k
flips q k = (eq_by_cmp_equiv key_total).symm k q

-- nothing in place of the empty value
abbrev pub trimmed : Option V → Option V
trimmed None = None
trimmed (Some []) = None
trimmed (Some (b ∷ bs)) = Some (b ∷ bs)

-- what a step at some key does to what is at q, where the Bool says whether q is that key
abbrev pub added_at : Bool → Option V → Option V
added_at false o = o
added_at true (Some v) = Some v
added_at true None = Some []

abbrev pub assigned_at : Bool → V → Option V → Option V
assigned_at false v o = o
assigned_at true v (Some x) = Some v
assigned_at true v None = None

abbrev pub dropped_at : Bool → Option V → Option V
dropped_at false o = o
dropped_at true o = trimmed o

abbrev pub stored_at : Bool → V → Option V → Option V
stored_at false v o = o
stored_at true v o = trimmed (Some v)

same_at : (q k : List ℕ) (m : Pairs V) → at q k ≡ true → look q m ≡ look k m
same_at q k m h = ap (λ z. look z m) (at_is q k h)

add_there : (b : Bool) (o : Option V) (x : V) → (b ≡ true → o ≡ Some x) → o ≡ added_at b o
add_there false o x h = refl
add_there true o x h = h refl ∙ ap (added_at true) (sym (h refl))

add_new : (b : Bool) (o : Option V) → (b ≡ true → o ≡ None) → cond b (Some []) o ≡ added_at b o
add_new false o h = refl
add_new true o h = ap (added_at true) (sym (h refl))

pub look-added : (q k : List ℕ) (m : Pairs V) → look q (added k m) ≡ added_at (at q k) (look q m)
look-added q k m = elim (look k m) as (λ o. look k m ≡ o → look q (if is_some o then m else write k [] m) ≡ added_at (at q k) (look q m)) [
  | Some x ↦ λ e. add_there (at q k) (look q m) x (λ h. same_at q k m h ∙ e)
  | None ↦ λ e. look-write q k [] m ∙ add_new (at q k) (look q m) (λ h. same_at q k m h ∙ e)
] refl

give_there : (b : Bool) (v : V) (o : Option V) (x : V) → (b ≡ true → o ≡ Some x) → cond b (Some v) o ≡ assigned_at b v o
give_there false v o x h = refl
give_there true v o x h = ap (assigned_at true v) (sym (h refl))

give_none : (b : Bool) (v : V) (o : Option V) → (b ≡ true → o ≡ None) → o ≡ assigned_at b v o
give_none false v o h = refl
give_none true v o h = h refl ∙ ap (assigned_at true v) (sym (h refl))

pub look-assigned : (q k : List ℕ) (v : V) (m : Pairs V) → look q (assigned k v m) ≡ assigned_at (at q k) v (look q m)
look-assigned q k v m = elim (look k m) as (λ o. look k m ≡ o → look q (if is_some o then write k v m else m) ≡ assigned_at (at q k) v (look q m)) [
  | Some x ↦ λ e. look-write q k v m ∙ give_there (at q k) v (look q m) x (λ h. same_at q k m h ∙ e)
  | None ↦ λ e. give_none (at q k) v (look q m) (λ h. same_at q k m h ∙ e)
] refl

drop_same : (b : Bool) (o p : Option V) → trimmed p ≡ p → (b ≡ true → o ≡ p) → o ≡ dropped_at b o
drop_same false o p t h = refl
drop_same true o p t h = h refl ∙ sym t ∙ ap trimmed (sym (h refl))

drop_one : (b : Bool) (o : Option V) → (b ≡ true → o ≡ Some []) → cond b None o ≡ dropped_at b o
drop_one false o h = refl
drop_one true o h = ap trimmed (sym (h refl))

look-taken : (q k : List ℕ) (m : Pairs V) → Ascends m → look q (erase k m) ≡ cond (at q k) None (look q m)
look-taken q k m a = look-erase q k m a ∙ ap (λ b. cond b None (look q m)) (flips q k)

pub look-dropped : (q k : List ℕ) (m : Pairs V) → Ascends m → look q (dropped k m) ≡ dropped_at (at q k) (look q m)
look-dropped q k m a = elim (look k m) as (λ o. look k m ≡ o → look q (if is_empty_value o then erase k m else m) ≡ dropped_at (at q k) (look q m)) [
  | None ↦ λ e. drop_same (at q k) (look q m) None refl (λ h. same_at q k m h ∙ e)
  | Some v ↦ elim v as (λ x. look k m ≡ Some x → look q (if is_empty_value (Some x) then erase k m else m) ≡ dropped_at (at q k) (look q m)) [
    | [] ↦ λ e. look-taken q k m a ∙ drop_one (at q k) (look q m) (λ h. same_at q k m h ∙ e)
    | b ∷ bs ↦ λ e. drop_same (at q k) (look q m) (Some (b ∷ bs)) refl (λ h. same_at q k m h ∙ e)
  ]
] refl

store_none : (b : Bool) (o : Option V) → cond b None o ≡ stored_at b [] o
store_none false o = refl
store_none true o = refl

store_some : (b : Bool) (x : ℕ) (xs : V) (o : Option V) → cond b (Some (x ∷ xs)) o ≡ stored_at b (x ∷ xs) o
store_some false x xs o = refl
store_some true x xs o = refl

pub look-stored : (q k : List ℕ) (v : V) (m : Pairs V) → Ascends m → look q (stored k v m) ≡ stored_at (at q k) v (look q m)
look-stored q k [] m a = look-taken q k m a ∙ store_none (at q k) (look q m)
look-stored q k (x ∷ xs) m a = look-write q k (x ∷ xs) m ∙ store_some (at q k) x xs (look q m)

-- each step keeps the order
pub added_ascends : (k : List ℕ) (m : Pairs V) → Ascends m → Ascends (added k m)
added_ascends k m a = elim (is_some (look k m)) as (λ b. Ascends (if b then m else write k [] m)) [ true ↦ a | false ↦ write_ascends m k [] a ]

pub assigned_ascends : (k : List ℕ) (v : V) (m : Pairs V) → Ascends m → Ascends (assigned k v m)
assigned_ascends k v m a = elim (is_some (look k m)) as (λ b. Ascends (if b then write k v m else m)) [ true ↦ write_ascends m k v a | false ↦ a ]

pub dropped_ascends : (k : List ℕ) (m : Pairs V) → Ascends m → Ascends (dropped k m)
dropped_ascends k m a = elim (is_empty_value (look k m)) as (λ b. Ascends (if b then erase k m else m)) [ true ↦ erase_ascends m k a | false ↦ a ]

pub stored_ascends : (k : List ℕ) (v : V) (m : Pairs V) → Ascends m → Ascends (stored k v m)
stored_ascends k [] m a = erase_ascends m k a
stored_ascends k (x ∷ xs) m a = write_ascends m k (x ∷ xs) a

pub written_ascends : (ws : List Pair) (m : Pairs V) → Ascends m → Ascends (written ws m)
unfolding written
written_ascends [] m a = a
written_ascends (w ∷ ws) m a = written_ascends ws (stored w.key w.value m) (stored_ascends w.key w.value m a)

-- no value is empty
abbrev pub Full : Pairs V → Type 0
Full m = AllByRecursion (λ value. value ≢ []) (values_of m)

write_full : (k : List ℕ) (v : V) (m : Pairs V) → v ≢ [] → Full m → Full (write k v m)
write_full k v [] n f = (n, tt)
write_full k v (e ∷ m) n f = elim (key_cmp k e.0) as (λ o. Full (match_ordering o ((k, v) ∷ e ∷ m) ((e.0, v) ∷ m) (e ∷ write k v m))) [
  | Less ↦ (n, f)
  | Equal ↦ (n, f.1)
  | Greater ↦ (f.0, write_full k v m n f.1)
]

erase_full : (k : List ℕ) (m : Pairs V) → Full m → Full (erase k m)
erase_full k [] f = tt
erase_full k (e ∷ m) f = elim (is_at (key_cmp k) e.0) as (λ b. Full (cond b m (e ∷ erase k m))) [ true ↦ f.1 | false ↦ (f.0, erase_full k m f.1) ]

stored_full : (k : List ℕ) (v : V) (m : Pairs V) → Full m → Full (stored k v m)
stored_full k [] m f = erase_full k m f
stored_full k (x ∷ xs) m f = write_full k (x ∷ xs) m (λ e. cc) f

written_full : (ws : List Pair) (m : Pairs V) → Full m → Full (written ws m)
unfolding written
written_full [] m f = f
written_full (w ∷ ws) m f = written_full ws (stored w.key w.value m) (stored_full w.key w.value m f)

pub written_kept : (ws : List Pair) (m : Pairs V) → IsKept m → IsKept (written ws m)
written_kept ws m k = (written_ascends ws m k.0, written_full ws m k.1)

trim_full : (v : V) → v ≢ [] → trimmed (Some v) ≡ Some v
trim_full [] n = absurd (n refl)
trim_full (b ∷ bs) n = refl

trim_cond : (b : Bool) (x : V) (o : Option V) → x ≢ [] → trimmed o ≡ o → trimmed (cond b (Some x) o) ≡ cond b (Some x) o
trim_cond false x o n t = t
trim_cond true x o n t = trim_full x n

-- so what is at a key is not empty
pub full_look : (q : List ℕ) (m : Pairs V) → Full m → trimmed (look q m) ≡ look q m
full_look q [] f = refl
full_look q (e ∷ m) f = trim_cond (at q e.0) e.1 (look q m) f.0 (full_look q m f.1)

-- the pairs after the value at a key was written in its place
pub assigned_there : (r : Option (MutBor V)) (x : MutBor V) (k v : V) (m n : Pairs V) → r ≡ Some x → option_copied_mut r ≡ look k m → OnSome r (n ≡ write k v m) → n ≡ assigned k v m
assigned_there None x k v m n is e w = absurd (cc)
assigned_there (Some y) x k v m n is e w = w ∙ ap (λ o. if is_some o then write k v m else m) e

pub stored_here : (m : Pairs V) (key value : V) → value ≢ [] → look key (stored key value m) ≡ Some value
stored_here m key [] n = absurd (n refl)
stored_here m key (b ∷ bs) n = written_here m key (b ∷ bs)

pub removed_here : (m : Pairs V) (key : V) → IsKept m → look key (stored key [] m) ≡ None
removed_here m key k = erased m key k.0

pub stored_other : (m : Pairs V) (key other value : V) → other ≢ key → look other (stored key value m) ≡ look other m
stored_other m key other [] n = not_erased m key other n
stored_other m key other (b ∷ bs) n = not_written m key other (b ∷ bs) n
