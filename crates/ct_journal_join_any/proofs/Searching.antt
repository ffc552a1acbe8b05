-- The search for a message.
use Rattle.std.proofs.Common.{◌≡◌, ℕ, zero, suc, ◌+◌, ◌<◌, ◌≤◌, List, [], ◌∷◌, length, Option, None, Some, arith, sym, ap, ◌∙◌, ◌⊎◌, inl, inr}
use Rattle.std.proofs.lemmas.Bool.{cases_lt}
use Rattle.std.specs.Prelude.{IfNone, slice_get}
use Rattle.ct_frame.specs.declared.frame.Frame.{Frame}
use Rattle.ct_rules_cluster.specs.Cluster.{Cluster, Sent, sent_at}
use Rattle.ct_journal_join_any.specs.Going.{IsSentAs}

got_behind : (ss : List Sent) (i k : ℕ) (s : Sent) → slice_get ss i ≡ None → i ≤ k → slice_get ss k ≡ Some s → ⊥
got_behind [] i k s none le got = cc
got_behind (y ∷ ys) zero k s none le got = cc
got_behind (y ∷ ys) (suc i) zero s none le got = absurd (omega arith)
got_behind (y ∷ ys) (suc i) (suc k) s none le got = got_behind ys i k s none (omega arith) got

got_within : (ss : List Sent) (k : ℕ) (s : Sent) → slice_get ss k ≡ Some s → k < length ss
got_within [] k s got = absurd (cc)
got_within (y ∷ ys) zero s got = omega arith
got_within (y ∷ ys) (suc k) s got = let l = got_within ys k s got in omega arith

-- behind a number that no message has, no message has one
pub none_behind : (w : Cluster) (m : Frame) (i k : ℕ) → 1 ≤ i → sent_at i w ≡ None → i ≤ k → IsSentAs w m k → ⊥
unfolding sent_at
none_behind w m zero k one none le h = absurd (omega arith)
none_behind w m (suc i) zero one none le h = absurd (omega arith)
none_behind w m (suc i) (suc k) one none le h = got_behind w.sent i k h.0 none (omega arith) h.1

-- numbers are no greater than the number of messages
pub is_within : (w : Cluster) (m : Frame) (k : ℕ) → IsSentAs w m k → k ≤ length w.sent
unfolding sent_at
is_within w m zero h = omega arith
is_within w m (suc k) h = let l = got_within w.sent k h.0 h.1 in omega arith

-- no message has number 0
pub is_numbered : (w : Cluster) (m : Frame) (k : ℕ) → IsSentAs w m k → 1 ≤ k
unfolding sent_at
is_numbered w m zero h = absurd (let e = h.1 in cc)
is_numbered w m (suc k) h = omega arith

-- a number more is tried
pub tried_more : (w : Cluster) (m : Frame) (from i : ℕ) (s : Sent) → ((k : ℕ) → from ≤ k → k < i → IsSentAs w m k → ⊥) → sent_at i w ≡ Some s → (s.frame ≡ m → ⊥) → (k : ℕ) → from ≤ k → k < i + 1 → IsSentAs w m k → ⊥
tried_more w m from i s before got other k le lt h = by (cases_lt k i)
  where
    same : k ≡ i → ⊥
    same e = other (let g : Some h.0 ≡ Some s = sym h.1 ∙ ap (λ (j : ℕ). sent_at j w) e ∙ got in let t : h.0 ≡ s = cc in sym (ap (λ (z : Sent). z.frame) t) ∙ h.2)

    by : (k < i) ⊎ (i ≤ k) → ⊥
    by (inl l) = before k le l h
    by (inr l) = same (omega arith)

-- the search comes to a number that no message has
pub none_from : (w : Cluster) (m : Frame) (from i : ℕ) → ((k : ℕ) → from ≤ k → k < i → IsSentAs w m k → ⊥) → from ≤ i → sent_at i w ≡ None → 1 ≤ from → (k : ℕ) → from ≤ k → IsSentAs w m k → ⊥
none_from w m from i before le none one k lt h = by (cases_lt k i)
  where
    by : (k < i) ⊎ (i ≤ k) → ⊥
    by (inl l) = before k lt l h
    by (inr l) = none_behind w m i k (omega arith) none l h

-- the search comes to a number behind all messages
pub none_left : (w : Cluster) (m : Frame) (from i : ℕ) → ((k : ℕ) → from ≤ k → k < i → IsSentAs w m k → ⊥) → length w.sent < i → (k : ℕ) → from ≤ k → IsSentAs w m k → ⊥
none_left w m from i before less k lt h = before k lt (let l = is_within w m k h in omega arith) h

-- all are tried from the first on
pub none_at_all : (w : Cluster) (m : Frame) (o : Option ℕ) → IfNone o (1 ≤ 1 → (k : ℕ) → 1 ≤ k → IsSentAs w m k → ⊥) → IfNone o ((k : ℕ) → IsSentAs w m k → ⊥)
none_at_all w m None none = λ k h. none (omega arith) k (is_numbered w m k h) h
none_at_all w m (Some i) none = none
