-- How an update changes what a node has, and what stays of messages when databases grow.
use Rattle.std.proofs.Common.{◌≡◌, ℕ, zero, suc, ◌+◌, ◌<◌, ◌≤◌, Bool, true, false, List, [], ◌∷◌, ◌++◌, length, Option, None, Some, refl, sym, ap, ◌∙◌, arith, subst}
use Rattle.std.specs.Prelude.{take, slice_get, nat_lt, nat_eq, ◌&&◌}
use Rattle.std.proofs.lemmas.Bool.{cond_both, eqb-true, eq-eqb, lt-ltb, and_parts}
use Rattle.ct_values.specs.declared.client.Pair.{Pair}
use Rattle.ct_values.specs.declared.config.Config.{Config}
use Rattle.ct_frame.specs.declared.frame.Msg.{Msg}
use Rattle.ct_frame.specs.declared.frame.Msg.TheVariants as msg
use Rattle.ct_store.specs.Map.{Pairs}
use Rattle.ct_persist.specs.Persisted.{Persisted, written, updated, fits, listed}
use Rattle.ct_persist.specs.Updates.{contents}
use Rattle.ct_register.specs.Database.{Database, contents_after}
use Rattle.ct_rules_node.specs.Node.{Lead, Installs}
use Rattle.ct_rules_node.specs.Rounds.{push_of}
use Rattle.ct_law_registers.proofs.Facts.{Has, Bases, after, Stands, IsTold, LeadStands}

-- ---- one commit more

-- the pairs after one commit more
pub contents_snoc : (cs : List (List Pair)) (c : List Pair) (m : Pairs (List ℕ)) → contents (cs ++ c ∷ []) m ≡ written c (contents cs m)
unfolding contents
contents_snoc [] c m = refl
contents_snoc (d ∷ ds) c m = contents_snoc ds c (written d m)

-- the list of a commit, and no writes where there is none
unfoldable writes_or_none : Option (List Pair) → List Pair
writes_or_none None = []
writes_or_none (Some c) = c

pub contents_next : (i : ℕ) (cs : List (List Pair)) (c : List Pair) (m : Pairs (List ℕ)) → slice_get cs i ≡ Some c → contents (take (suc i) cs) m ≡ written c (contents (take i cs) m)
unfolding contents writes_or_none
contents_next i [] c m e = absurd (cc)
contents_next zero (d ∷ ds) c m e = ap (λ (x : Option (List Pair)). written (writes_or_none x) m) e
contents_next (suc i) (d ∷ ds) c m e = contents_next i ds c (written d m) e

-- the next commit, where it fits, makes of a database after i commits one after i + 1
pub update_next : (i : ℕ) (d : Database) (ws : List Pair) → slice_get d.commits i ≡ Some ws → fits ws (contents_after i d) ≡ true → updated (d.seq + suc i) ws (after i d) ≡ after (suc i) d
update_next i d ws e fit =
    let below : nat_lt (d.seq + i) (d.seq + suc i) ≡ true = lt-ltb (d.seq + i) (d.seq + suc i) (omega arith) in
    let next : nat_eq (d.seq + suc i) (d.seq + i + 1) ≡ true = eq-eqb (d.seq + suc i) (d.seq + i + 1) (omega arith) in
    rw below (rw next (rw fit (ap (λ (m : Pairs (List ℕ)). record { seq = d.seq + suc i; pairs = m }) (sym (contents_next i d.commits ws d.base e)))))

-- ---- what stays of messages

-- a database later: its number, its base and what it took over stay, commits only follow those that were there, and no fewer are acknowledged
pub record Grown (d e : Database) : Type 0 where
  pub seq : e.seq ≡ d.seq
  pub base : e.base ≡ d.base
  pub from : e.from ≡ d.from
  pub acked : d.acked ≤ e.acked
  pub commits : (i : ℕ) (ws : List Pair) → slice_get d.commits i ≡ Some ws → slice_get e.commits i ≡ Some ws
  pub first : (j : ℕ) → j ≤ length d.commits → take j e.commits ≡ take j d.commits

-- lines stay born with their members, their databases grow, and so does what nodes have
pub record Grow (r s : Bases) (has more : Has) : Type 0 where
  pub born : (g : ℕ) → r.born g ≡ true → s.born g ≡ true
  pub databases : (g db : ℕ) → r.born g ≡ true → Grown (r.databases g db) (s.databases g db)
  pub rises : (g n db : ℕ) → has g n db ≤ more g n db
  pub members : (g : ℕ) → r.born g ≡ true → s.members g ≡ r.members g

-- of the databases that this message was pulled from, its sender has as many commits as before
unfoldable pub IsStill : Has → Has → ℕ → Msg → Type 0
IsStill has more n (msg.PullReply vbase pbase table ptables addresses) = (db : ℕ) → more pbase n db ≡ has pbase n db
IsStill has more n _ = Unit {0}

pub after_same : (j : ℕ) (d e : Database) → e.seq ≡ d.seq → e.base ≡ d.base → take j e.commits ≡ take j d.commits → after j e ≡ after j d
after_same j d e s b t = (λ i. record { seq = s i + j; pairs = contents (t i) (b i) })

-- what a message stands for it stands for later, too
pub stands_later : (config : Config) (r s : Bases) (has more : Has) (g n : ℕ) (m : Msg) → Grow r s has more → ((g db k : ℕ) → has g k db ≤ length (r.databases g db).commits) → IsStill has more n m →
    Stands config r has g n m → Stands config s more g n m
unfolding Stands IsStill
stands_later config r s has more g n (msg.PUpdate db seq writes) grow within still h =
    (grow.born g h.0, h.1, h.2 ∙ sym (ap (λ (x : ℕ). x + suc h.1) ((grow.databases g db h.0).seq)), (grow.databases g db h.0).commits h.1 writes h.3)
stands_later config r s has more g n (msg.PAck db seq) grow within still h =
    (grow.born g h.0, (let same = (grow.databases g db h.0).seq in let le = h.1 in let up = grow.rises g n db in omega arith))
stands_later config r s has more g n (msg.PullReply vbase pbase table ptables addresses) grow within still h = (
  grow.born pbase h.0,
  h.1,
  λ db p. subst (λ (q : Persisted). IsTold (record { db = db; seq = q.seq; pairs = listed q.pairs }) ptables)
      (sym (ap (λ (j : ℕ). after j (s.databases pbase db)) (still db) ∙
      after_same (has pbase n db) (r.databases pbase db) (s.databases pbase db) (grow.databases pbase db h.0).seq (grow.databases pbase db h.0).base ((grow.databases pbase db h.0).first (has pbase n db) (within pbase db n)))) (h.2 db p),
)
stands_later config r s has more g n (msg.Push members table ptables assigned) grow within still h =
    (grow.born g h.0, λ db p is. h.1 db p is ∙ (λ i. record { seq = sym ((grow.databases g db h.0).seq) i; pairs = sym ((grow.databases g db h.0).base) i }))
stands_later config r s has more g n _ grow within still h = h

-- and so does what a node leads
pub lead_later : (config : Config) (r s : Bases) (has more : Has) (n : ℕ) (l : Lead) → Grow r s has more → ((g db k : ℕ) → has g k db ≤ length (r.databases g db).commits) →
    LeadStands config r has n l → LeadStands config s more n l
unfolding LeadStands push_of IsStill
lead_later config r s has more n (Installs g members missing body) grow within h = stands_later config r s has more g n (push_of body) grow within tt h
lead_later config r s has more n _ grow within h = h

-- what does not change has grown
pub grown_same : (d : Database) → Grown d d
grown_same d = record { seq = refl; base = refl; from = refl; acked = omega arith; commits = λ i ws e. e; first = λ j l. refl }

pub grow_same : (b : Bases) (has : Has) → Grow b b has has
grow_same b has = record { born = λ g e. e; databases = λ g db e. grown_same (b.databases g db); rises = λ g n db. omega arith; members = λ g e. refl }

-- ---- an update comes

in_list : {X : Type 0} (xs : List X) (i : ℕ) (x : X) → slice_get xs i ≡ Some x → i < length xs
in_list [] i x e = absurd (cc)
in_list (y ∷ ys) zero x e = omega arith
in_list (y ∷ ys) (suc i) x e = (let l = in_list ys i x e in omega arith)

-- a database after some commits that an update comes to has as many, or one more
abbrev pub Updates : ℕ → Database → ℕ → Persisted → Type 0
Updates q d h p = (k : ℕ) × (h ≤ k) × (k ≤ length d.commits) × (p ≡ after k d)

-- whatever commit of the line comes: it is one that the node has, the next one, or is ignored
pub update_comes : (i h : ℕ) (d : Database) (ws : List Pair) → slice_get d.commits i ≡ Some ws → h ≤ length d.commits → Updates (d.seq + suc i) d h (updated (d.seq + suc i) ws (after h d))
update_comes i h d ws e within =
    cond_both (nat_lt (d.seq + h) (d.seq + suc i)) true false (λ (_ : Bool). Updates (d.seq + suc i) d h (updated (d.seq + suc i) ws (after h d)))
    (λ below. cond_both (nat_eq (d.seq + suc i) (d.seq + h + 1) && fits ws (contents_after h d)) true false (λ (_ : Bool). Updates (d.seq + suc i) d h (updated (d.seq + suc i) ws (after h d)))
    (λ done. (let p = and_parts (nat_eq (d.seq + suc i) (d.seq + h + 1)) (fits ws (contents_after h d)) done in
    let same : i ≡ h = (let n = eqb-true (d.seq + suc i) (d.seq + h + 1) p.0 in omega arith) in
    let l = in_list d.commits i ws e in
    (suc h, omega arith, omega arith, subst (λ (j : ℕ). fits ws (contents_after j d) ≡ true → updated (d.seq + suc i) ws (after j d) ≡ after (suc j) d) same (update_next i d ws e) p.1)))
    (λ gap. (h, omega arith, within, rw below (rw gap refl))))
    (λ had. (h, omega arith, within, rw had refl))

-- who acknowledged the newest commit of a line has all of them
pub has_all : (d : Database) (has q : ℕ) → q ≡ d.seq + length d.commits → q ≤ d.seq + has → has ≤ length d.commits → has ≡ length d.commits
has_all d has q is ack within = omega arith
