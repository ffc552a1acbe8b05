-- Updates one after the other.
use Rattle.std.proofs.Common.{◌≡◌, ◌+◌, ℕ, suc, Bool, true, false, ◌&&◌, nat_eq, nat_lt, List, [], ◌∷◌, length, refl, ◌∙◌, ap, arith}
use Rattle.std.specs.Prelude.{if◌then◌else◌}
use Rattle.std.specs.Bool.{IsTrue}
use Rattle.std.proofs.lemmas.Bool.{and_parts}
use Rattle.ct_values.specs.declared.client.Pair.{Pair}
use Rattle.ct_store.specs.Map.{Pairs}
use Rattle.ct_persist.specs.declared.store.Updated.{Updated}
use Rattle.ct_persist.specs.declared.store.Updated.TheVariants.{Done, Had, Gap}
use Rattle.ct_persist.specs.Persisted.{Persisted, IsKept, written, fits, answer, answered, updated, listed, replaced}
use Rattle.ct_persist.proofs.Looks.{written_kept}
use Rattle.ct_persist.proofs.Orders.{keyed_listed}
use Rattle.ct_persist.specs.Updates.{Update, contents, updated_all, with_commit, commits, each_next, writes_of}

-- the database after these commits
abbrev after : List (List Pair) → Persisted → Persisted
after cs p = record { seq = p.seq + length cs; pairs = contents cs p.pairs }

is_next : (a : Bool) (seq : ℕ) (ws : List Pair) (p : Persisted) → answer seq ws p ≡ Done → seq ≡ p.seq + 1
is_next a seq ws p e = by (nat_lt p.seq seq) (nat_eq seq (p.seq + 1)) (fits ws p.pairs) refl e
  where
    by : (b c d : Bool) → nat_eq seq (p.seq + 1) ≡ c → (if b then (if c && d then Done else Gap) else Had) ≡ Done → seq ≡ p.seq + 1
    by false c d h e = absurd (cc)
    by true false d h e = absurd (cc)
    by true true d h e = grind arith

-- an update, and then commits
one_first : (u : Updated) (seq : ℕ) (ws : List Pair) (p : Persisted) (cs : List (List Pair)) → (u ≡ Done → seq ≡ p.seq + 1) → after cs (answered u seq ws p) ≡ after (with_commit u ws cs) p
unfolding contents
one_first Done seq ws p cs h = ap (λ n. record { seq = n; pairs = contents cs (written ws p.pairs) }) (omega (arith, h refl))
one_first Had seq ws p cs h = refl
one_first Gap seq ws p cs h = refl

-- updates leave what their commits make, whatever else comes between
pub contents_after : (us : List Update) (p : Persisted) → updated_all us p ≡ record { seq = p.seq + length (commits us p); pairs = contents (commits us p) p.pairs }
unfolding updated_all commits contents
contents_after [] p = ap (λ n. record { seq = n; pairs = p.pairs }) (omega arith)
contents_after (u ∷ us) p =
    contents_after us (updated u.seq u.writes p) ∙ one_first (answer u.seq u.writes p) u.seq u.writes p (commits us (updated u.seq u.writes p)) (is_next true u.seq u.writes p)

is_done : (b c d e : Bool) → b ≡ true → (c && d && e) ≡ true → (if b then (if c && d then Done else Gap) else Had) ≡ Done
is_done true true true e h g = refl
is_done true true false e h g = absurd (cc)
is_done true false d e h g = absurd (cc)
is_done false c d e h g = absurd (cc)

third : (c d e : Bool) → (c && d && e) ≡ true → e ≡ true
third true true e h = h
third true false e h = absurd (cc)
third false d e h = absurd (cc)

-- where each is the next one and fits, each is a commit
pub all_commits : (us : List Update) (p : Persisted) → IsTrue (each_next us p) → commits us p ≡ writes_of us
unfolding commits each_next
all_commits [] p h = refl
all_commits (u ∷ us) p h =
    let done = is_done (nat_lt p.seq u.seq) (nat_eq u.seq (p.seq + 1)) (fits u.writes p.pairs) _ (above (and_parts _ _ (and_parts _ _ h).0).0) h in
    ap (λ a. with_commit a u.writes (commits us (answered a u.seq u.writes p))) done ∙ ap (λ cs. u.writes ∷ cs) (all_commits us _ (third (nat_eq u.seq (p.seq + 1)) (fits u.writes p.pairs) _ h))
  where
    above : nat_eq u.seq (p.seq + 1) ≡ true → nat_lt p.seq u.seq ≡ true
    above e = grind arith

count_of : (us : List Update) → length (writes_of us) ≡ length us
count_of [] = refl
count_of (u ∷ us) = ap suc (count_of us)

pub all_contents : (us : List Update) (p : Persisted) → IsTrue (each_next us p) → updated_all us p ≡ record { seq = p.seq + length us; pairs = contents (writes_of us) p.pairs }
all_contents us p h =
    let all = all_commits us p h in
    contents_after us p ∙ ap (λ cs. after cs p) all ∙ ap (λ n. record { seq = p.seq + n; pairs = contents (writes_of us) p.pairs }) (count_of us)

pub contents_kept : (cs : List (List Pair)) (m : Pairs (List ℕ)) → IsKept m → IsKept (contents cs m)
unfolding contents
contents_kept [] m k = k
contents_kept (c ∷ cs) m k = contents_kept cs (written c m) (written_kept c m k)

pub back_again : (db : ℕ) (p : Persisted) → replaced (record { db = db; seq = p.seq; pairs = listed p.pairs }) ≡ p
back_again db p = ap (λ m. record { seq = p.seq; pairs = m }) (keyed_listed p.pairs)
