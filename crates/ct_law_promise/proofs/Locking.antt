-- Of locks holds after every step what the law of persistent databases asks: a lock is gone where its node froze under a commit, or where
-- its owner stopped.
use Rattle.std.proofs.Common.{◌≡◌, ◌≢◌, ℕ, zero, ◌≤◌, Bool, true, false, List, [], ◌∷◌, Option, None, Some, refl, sym, ap, ◌∙◌, subst, inl, inr, ⊎_elim, eqb-true}
use Rattle.std.specs.Prelude.{◌⊎◌, nat_eq, bytes_eq, ◌&&◌, ◌||◌}
use Rattle.std.specs.List.{list_any}
use Rattle.std.proofs.lemmas.Bool.{and_parts, and_from, eq-eqb}
use Rattle.std.proofs.lemmas.Slice.Eq.{bytes_eq-Decides}
use Rattle.ct_values.specs.declared.address.Address.{Address}
use Rattle.ct_values.specs.declared.config.Config.{Config}
use Rattle.ct_frame.specs.declared.event.Note.TheVariants as note
use Rattle.ct_call.specs.Rules.{Rules}
use Rattle.ct_merge.proofs.Among.{In}
use Rattle.ct_rules_node.specs.Node.{name_of}
use Rattle.ct_rules_cluster.specs.Cluster.{Cluster, node_at}
use Rattle.ct_rules_cluster.specs.Labels.{Label, Noted, Stopped}
use Rattle.ct_register.specs.Database.{Database}
use Rattle.ct_register.specs.Lines.{Lines}
use Rattle.ct_register.specs.Placing.{Placing}
use Rattle.ct_law_run.proofs.Ages.{Ages}
use Rattle.ct_law_run.proofs.Lives.{Lives}
use Rattle.ct_law_run.proofs.Later.{Rest}
use Rattle.ct_law_registers.proofs.Facts.{Gone, bases, owners}
use Rattle.ct_law_databases.proofs.Law.{LockLaw, LocksEnd}
use Rattle.ct_law_databases.proofs.Ordered.{IsOrdered}
use Rattle.ct_law_databases.proofs.Locks.{lock_owned, owner_in, none_locked}
use Rattle.ct_law_databases.proofs.Like.{with_others}
use Rattle.ct_law_databases.proofs.Later.{GoesLater}
use Rattle.ct_law_databases.proofs.JoinTurns.{Froze_under, Step_does}
use Rattle.ct_law_databases.proofs.Lost.{Lost, lost_unowned, lost_stays}
use Rattle.ct_law_databases.proofs.Losing.{froze_lost, stop_lost, first_or, second_or}

-- does this node own the record?
unfoldable pub is_owner : ℕ → Option ℕ → Bool
is_owner n None = false
is_owner n (Some m) = nat_eq m n

-- does the label tell that the lock of this key in line g ended without its client, or that its owner stopped?
unfoldable pub ends_there : Lines → ℕ → List ℕ → Label → Bool
ends_there r g key (Noted n (note.Ended db k)) = nat_eq db 0 && nat_eq (r.line n) g && bytes_eq k key
ends_there r g key (Stopped n) = nat_eq (r.line n) g && is_owner n (r.records g 0 key).owner
ends_there r g key label = false

-- which locks are gone after these labels
abbrev pub gone_after : Lines → Gone → List Label → Gone
gone_after r gone labels g key = gone g key || list_any (ends_there r g key) labels

any_in : (f : Label → Bool) (ls : List Label) (l : Label) → In l ls → f l ≡ true → list_any f ls ≡ true
any_in f [] l i e = absurd i
any_in f (x ∷ xs) l (inl same) e = ap (λ (b : Bool). b || list_any f xs) (ap f same ∙ e)
any_in f (x ∷ xs) l (inr i) e = second (f x) (any_in f xs l i e)
  where
    second : (b : Bool) → list_any f xs ≡ true → (b || list_any f xs) ≡ true
    second true e = refl
    second false e = e

one_of : (f : Label → Bool) (ls : List Label) → list_any f ls ≡ true → (l : Label) × In l ls × (f l ≡ true)
one_of f [] e = absurd (cc)
one_of f (x ∷ xs) e = by (f x) refl e (one_of f xs)
  where
    by : (b : Bool) → f x ≡ b → (b || list_any f xs) ≡ true → (list_any f xs ≡ true → (l : Label) × In l xs × (f l ≡ true)) → (l : Label) × In l (x ∷ xs) × (f l ≡ true)
    by true t e rest = (x, inl refl, t)
    by false t e rest = (let k = rest e in (k.0, inr k.1, k.2))

owner_is : (n : ℕ) (o : Option ℕ) → is_owner n o ≡ true → o ≡ Some n
unfolding is_owner
owner_is n None e = absurd (cc)
owner_is n (Some m) e = ap (λ (k : ℕ). Some k) (eqb-true m n e)

is_of_owner : (n : ℕ) (o : Option ℕ) → o ≡ Some n → is_owner n o ≡ true
unfolding is_owner
is_of_owner n o e = ap (is_owner n) e ∙ eq-eqb n n refl

either_true : (a b : Bool) → (a || b) ≡ true → (a ≡ true) ⊎ (b ≡ true)
either_true true b e = inl refl
either_true false b e = inr e

-- ---- where a step tells it, it is so

pub locks_end : (c : Config) (t : Lines) (gone : Gone) (labels : List Label) (d : ℕ → ℕ → Database) (p : ℕ → Placing) (q : ℕ → Address → Bool) →
    LocksEnd c (bases (with_others t d p q)) (owners c (with_others t d p q)) (gone_after t gone labels) labels
unfolding ends_there
locks_end c t gone labels d p q = record {
  ended = λ n key i. second_or (gone (t.line n) key) (list_any (ends_there t (t.line n) key) labels)
      (any_in (ends_there t (t.line n) key) labels (Noted n (note.Ended 0 key)) i (and_from (nat_eq (t.line n) (t.line n)) (bytes_eq key key) (eq-eqb (t.line n) (t.line n) refl) ((bytes_eq-Decides key key).1 refl)));
  stopped = λ n db i own. second_or (gone (t.line n) (name_of c db)) (list_any (ends_there t (t.line n) (name_of c db)) labels)
      (any_in (ends_there t (t.line n) (name_of c db)) labels (Stopped n) i (and_from (nat_eq (t.line n) (t.line n)) (is_owner n (t.records (t.line n) 0 (name_of c db)).owner) (eq-eqb (t.line n) (t.line n) refl) (is_of_owner n (t.records (t.line n) 0 (name_of c db)).owner own)));
}

-- ---- what is gone is lost

module _ (c : Config) (rules : Rules) (w v : Cluster) (r s : Lines) (h : Lives c rules w r) (k : Lives c rules v s) (later : GoesLater r s) (rest : (n : ℕ) → Rest r h.ages s k.ages n (node_at n v).phase) (labels : List Label) (d : Step_does c w v labels) where
  told_lost : (g : ℕ) (key : List ℕ) (l : Label) → In l labels → ends_there r g key l ≡ true → Lost c v s k.ages g key
  unfolding ends_there
  told_lost g key (Noted n (note.Ended db e)) i t =
      let a = and_parts (nat_eq db 0 && nat_eq (r.line n) g) (bytes_eq e key) t in
      let b = and_parts (nat_eq db 0) (nat_eq (r.line n) g) a.0 in
      let zeroth : db ≡ 0 = eqb-true db 0 b.0 in
      let line : r.line n ≡ g = eqb-true (r.line n) g b.1 in
      let same : e ≡ key = (bytes_eq-Decides e key).0 a.1 in
      let told : In (Noted n (note.Ended 0 key)) labels = subst (λ (j : ℕ). In (Noted n (note.Ended j key)) labels) zeroth (subst (λ (x : List ℕ). In (Noted n (note.Ended db x)) labels) same i) in
      subst (λ (j : ℕ). Lost c v s k.ages j key) line (froze_lost c rules w v r s h k later rest n key (d.ended n key told))
  told_lost g key (Stopped n) i t =
      let a = and_parts (nat_eq (r.line n) g) (is_owner n (r.records g 0 key).owner) t in
      let line : r.line n ≡ g = eqb-true (r.line n) g a.0 in
      let own : (r.records (r.line n) 0 key).owner ≡ Some n = subst (λ (j : ℕ). (r.records j 0 key).owner ≡ Some n) (sym line) (owner_is n (r.records g 0 key).owner a.1) in
      subst (λ (j : ℕ). Lost c v s k.ages j key) line (stop_lost c rules w v r s h k later rest n key (d.stops n i) own)
  told_lost g key l i t = absurd (cc)

  pub gone_lost : (gone : Gone) → ((g : ℕ) (key : List ℕ) → gone g key ≡ true → Lost c w r h.ages g key) → ((n : ℕ) → (node_at n w).promise ≤ (node_at n v).promise) → (g : ℕ) (key : List ℕ) → gone_after r gone labels g key ≡ true → Lost c v s k.ages g key
  gone_lost gone lost promise g key e = ⊎_elim
      (λ (was : gone g key ≡ true). lost_stays c rules w v r s h k later rest promise g key (lost g key was))
      (λ (told : list_any (ends_there r g key) labels ≡ true). (let o = one_of (ends_there r g key) labels told in told_lost g key o.0 o.1 o.2))
      (either_true (gone g key) (list_any (ends_there r g key) labels) e)

-- ---- the law of locks

pub lock_law : (c : Config) (rules : Rules) (w : Cluster) (t : Lines) (h : Lives c rules w t) → IsOrdered c t → (gone : Gone) → ((g : ℕ) (key : List ℕ) → gone g key ≡ true → Lost c w t h.ages g key) → (d : ℕ → ℕ → Database) (p : ℕ → Placing) (q : ℕ → Address → Bool) →
    LockLaw c (λ n. node_at n w) (bases (with_others t d p q)) gone (owners c (with_others t d p q))
lock_law c rules w t h o gone lost d p q = record {
  ended = λ g db e. lost_unowned c rules w t h g (name_of c db) (lost g (name_of c db) e);
  locks = λ n db kind e. (lock_owned c rules w t h n 0 (name_of c db) e).1;
  owns = λ g db n e. (let k = owner_in c rules w t h g 0 n (name_of c db) e in (k.0, k.3));
  unlocked = λ n db key kind. none_locked c rules w t h o n db key kind;
}
