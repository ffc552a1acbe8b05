-- What queues carry: at first, once the first message between two nodes is taken off, and with more of a node.
use Rattle.std.proofs.Common.{◌≡◌, ◌≢◌, ℕ, zero, suc, ◌+◌, ◌<◌, ◌≤◌, List, [], ◌∷◌, ◌++◌, length, get_or, set, drop, replicate, append-nil, append_assoc, length-set, arith, refl, sym, ap, ◌∙◌, subst, ⊎_elim}
use Rattle.std.proofs.lemmas.Bool.{cases_eq, eq-eqb, ne_eqb}
use Rattle.std.proofs.lemmas.List.{get_or-replicate, get_or-set_other, get_or-set_same, get_or_past, get_or_read, length-replicate}
use Rattle.ct_frame.specs.declared.frame.Frame.{Frame}
use Rattle.ct_journal_join.specs.Queues.{Carry, queue_to, queued, queues_of}
use Rattle.ct_law_journal_schedule.proofs.Carrying.{between, between_more, not_sent, others_stay}
use Rattle.ct_law_journal_schedule.specs.Scheduling.{Carried, carried_of, first_between, is_between, without_first}

-- ---- no message

no_queue : (k n : ℕ) → queue_to n (replicate k []) ≡ []
unfolding queue_to
no_queue zero n = refl
no_queue (suc k) zero = refl
no_queue (suc k) (suc n) = no_queue k n

none_to : (k j s n : ℕ) → queue_to n (queues_of s (replicate k (replicate j []))) ≡ []
unfolding queues_of queue_to
none_to zero j s n = refl
none_to (suc k) j zero n = no_queue j n
none_to (suc k) j (suc s) n = none_to k j s n

pub none_carried : (nodes : ℕ) → Carry nodes (replicate nodes (replicate nodes [])) []
unfolding queues_of between
none_carried nodes = record {
  size = length-replicate nodes (replicate nodes []);
  sizes = λ s l. ap length (get_or-replicate nodes s (replicate nodes []) [] l) ∙ length-replicate nodes [];
  each = λ s n l. none_to nodes nodes s n;
}

-- ---- queues of a node

queues_at : (senders : List (List (List ℕ))) (s : ℕ) (qs : List (List ℕ)) → s < length senders → qs ≡ get_or senders s qs → qs ≡ queues_of s senders
unfolding queues_of
queues_at senders s qs inside at = get_or_read senders s qs inside at []

of_nobody : (s n : ℕ) (senders : List (List (List ℕ))) → length senders ≤ s → queue_to n (queues_of s senders) ≡ []
unfolding queue_to queues_of
of_nobody s n senders past = ap (λ (qs : List (List ℕ)). get_or qs n []) (get_or_past senders s [] past)

-- ---- the first message between two nodes

first_number : (s n : ℕ) (ms : List Carried) → first_between s n ms ≡ get_or (between s n ms) 0 0
unfolding first_between between
first_number s n [] = refl
first_number s n (m ∷ ms) = grind (arith, first_number s n ms)

pub first_carried : (nodes s n number : ℕ) (senders : List (List (List ℕ))) (qs : List (List ℕ)) (ms : List Carried) → s < length senders → qs ≡ get_or senders s qs → number ≡ get_or (queue_to n qs) 0 0 → Carry nodes senders ms → n < nodes →
    number ≡ first_between s n ms
first_carried nodes s n number senders qs ms inside at first h l =
    first ∙ ap (λ (ks : List ℕ). get_or ks 0 0) (ap (queue_to n) (queues_at senders s qs inside at) ∙ h.each s n l) ∙ sym (first_number s n ms)

pub first_of_nobody : (nodes s n : ℕ) (senders : List (List (List ℕ))) (ms : List Carried) → length senders ≤ s → Carry nodes senders ms → n < nodes → 0 ≡ first_between s n ms
first_of_nobody nodes s n senders ms past h l = ap (λ (ks : List ℕ). get_or ks 0 0) (sym (of_nobody s n senders past) ∙ h.each s n l) ∙ sym (first_number s n ms)

rest_between : (s n : ℕ) (ms : List Carried) → between s n (without_first s n ms) ≡ drop 1 (between s n ms)
unfolding between without_first
rest_between s n [] = refl
rest_between s n (m ∷ ms) = grind (arith, rest_between s n ms)

-- ---- other queues of one node

queues_set : (senders : List (List (List ℕ))) (s : ℕ) (qs : List (List ℕ)) → s < length senders → queues_of s (set senders s qs) ≡ qs
unfolding queues_of
queues_set senders s qs l = get_or-set_same senders s qs [] l

queues_other : (senders : List (List (List ℕ))) (s a : ℕ) (qs : List (List ℕ)) → a ≢ s → queues_of a (set senders s qs) ≡ queues_of a senders
unfolding queues_of
queues_other senders s a qs ne = get_or-set_other senders s a qs [] ne

-- where a node has other queues, what is carried between it and another is what stands there
carried_with : (nodes s : ℕ) (senders : List (List (List ℕ))) (qs : List (List ℕ)) (ms more : List Carried) → Carry nodes senders ms → s < nodes → length qs ≡ length (queues_of s senders) →
    ((n : ℕ) → n < nodes → queue_to n qs ≡ between s n more) → ((a n : ℕ) → a ≢ s → between a n ms ≡ between a n more) → Carry nodes (set senders s qs) more
carried_with nodes s senders qs ms more h l size own other = record {
  size = length-set senders s qs ∙ h.size;
  sizes = λ a la. ⊎_elim
      (λ (e : a ≡ s). subst (λ (k : ℕ). length (queues_of k (set senders s qs)) ≡ nodes) (sym e) (ap length (queues_set senders s qs inside) ∙ size ∙ h.sizes s l))
      (λ (ne : a ≡ s → ⊥). ap length (queues_other senders s a qs ne) ∙ h.sizes a la)
      (cases_eq a s);
  each = λ a n ln. ⊎_elim
      (λ (e : a ≡ s). subst (λ (k : ℕ). queue_to n (queues_of k (set senders s qs)) ≡ between k n more) (sym e) (ap (queue_to n) (queues_set senders s qs inside) ∙ own n ln))
      (λ (ne : a ≡ s → ⊥). ap (queue_to n) (queues_other senders s a qs ne) ∙ h.each a n ln ∙ other a n ne)
      (cases_eq a s);
}
  where
    inside : s < length senders
    inside = let z = h.size in omega arith

-- ---- a message is taken off

queue_set : (qs : List (List ℕ)) (n : ℕ) (q : List ℕ) → n < length qs → queue_to n (set qs n q) ≡ q
unfolding queue_to
queue_set qs n q l = get_or-set_same qs n q [] l

queue_other : (qs : List (List ℕ)) (n b : ℕ) (q : List ℕ) → b ≢ n → queue_to b (set qs n q) ≡ queue_to b qs
unfolding queue_to
queue_other qs n b q ne = get_or-set_other qs n b q [] ne

without : (nodes s n : ℕ) (senders : List (List (List ℕ))) (ms : List Carried) → s < length senders → Carry nodes senders ms →
    Carry nodes (set senders s (set (queues_of s senders) n (drop 1 (queue_to n (queues_of s senders))))) (without_first s n ms)
without nodes s n senders ms inside h =
    carried_with nodes s senders (set qs n (drop 1 (queue_to n qs))) ms (without_first s n ms) h l (length-set qs n (drop 1 (queue_to n qs))) own
    (λ a b ne. sym (others_stay s n a b ms (λ p. ne p.0)))
  where
    qs : List (List ℕ)
    qs = queues_of s senders

    l : s < nodes
    l = let z = h.size in omega arith

    own : (b : ℕ) → b < nodes → queue_to b (set qs n (drop 1 (queue_to n qs))) ≡ between s b (without_first s n ms)
    own b lb = ⊎_elim
        (λ (e : b ≡ n). subst (λ (k : ℕ). queue_to k (set qs n (drop 1 (queue_to n qs))) ≡ between s k (without_first s n ms)) (sym e)
        (queue_set qs n (drop 1 (queue_to n qs)) (let z = h.sizes s l in omega arith) ∙ ap (λ (ks : List ℕ). drop 1 ks) (h.each s n (omega arith)) ∙ sym (rest_between s n ms)))
        (λ (ne : b ≡ n → ⊥). queue_other qs n b (drop 1 (queue_to n qs)) ne ∙ h.each s b lb ∙ sym (others_stay s n s b ms (λ p. ne p.1)))
        (cases_eq b n)

pub carried_without : (nodes s n : ℕ) (senders : List (List (List ℕ))) (qs rest : List (List ℕ)) (ms : List Carried) → s < length senders → qs ≡ get_or senders s qs → rest ≡ set qs n (drop 1 (queue_to n qs)) → Carry nodes senders ms →
    Carry nodes (set senders s rest) (without_first s n ms)
carried_without nodes s n senders qs rest ms inside at put h =
    subst (λ (l : List (List ℕ)). Carry nodes (set senders s l) (without_first s n ms)) (sym (put ∙ ap (λ (l : List (List ℕ)). set l n (drop 1 (queue_to n l))) (queues_at senders s qs inside at)))
    (without nodes s n senders ms inside h)

-- what is no node has sent nothing
pub nobody_carried : (nodes s n : ℕ) (senders : List (List (List ℕ))) (ms : List Carried) → length senders ≤ s → Carry nodes senders ms → Carry nodes senders (without_first s n ms)
nobody_carried nodes s n senders ms past h = record {
  size = h.size;
  sizes = h.sizes;
  each = λ a b l. ⊎_elim
      (λ (e : a ≡ s). ⊎_elim
      (λ (same : b ≡ n). subst (λ (k : ℕ). queue_to b (queues_of k senders) ≡ between k b (without_first s n ms)) (sym e)
      (subst (λ (k : ℕ). queue_to k (queues_of s senders) ≡ between s k (without_first s n ms)) (sym same)
      (of_nobody s n senders past ∙ ap (λ (ks : List ℕ). drop 1 ks) (sym (of_nobody s n senders past) ∙ h.each s n (omega arith)) ∙ sym (rest_between s n ms))))
      (λ (ne : b ≡ n → ⊥). h.each a b l ∙ sym (others_stay s n a b ms (λ p. ne p.1)))
      (cases_eq b n))
      (λ (ne : a ≡ s → ⊥). h.each a b l ∙ sym (others_stay s n a b ms (λ p. ne p.0)))
      (cases_eq a s);
}

-- ---- messages are sent

size_queued : (k : ℕ) (fs : List Frame) (qs : List (List ℕ)) → length (queued k fs qs) ≡ length qs
unfolding queued
size_queued k [] qs = refl
size_queued k (f ∷ fs) qs = size_queued (k + 1) fs _ ∙ length-set qs f.receiver _

sent_to_it : (s n k : ℕ) (f : Frame) (fs : List Frame) → n ≡ f.receiver → between s n (carried_of s k (f ∷ fs)) ≡ k ∷ between s n (carried_of s (k + 1) fs)
unfolding between carried_of is_between
sent_to_it s n k f fs e = rw (eq-eqb s s refl, eq-eqb f.receiver n (sym e)) refl

sent_elsewhere : (s n k : ℕ) (f : Frame) (fs : List Frame) → n ≢ f.receiver → between s n (carried_of s k (f ∷ fs)) ≡ between s n (carried_of s (k + 1) fs)
unfolding between carried_of is_between
sent_elsewhere s n k f fs ne = rw (eq-eqb s s refl, ne_eqb f.receiver n (λ e. ne (sym e))) refl

queued_to : (s n k : ℕ) (fs : List Frame) (qs : List (List ℕ)) → n < length qs → queue_to n (queued k fs qs) ≡ queue_to n qs ++ between s n (carried_of s k fs)
unfolding queued between carried_of
queued_to s n k [] qs l = sym (append-nil (queue_to n qs))
queued_to s n k (f ∷ fs) qs l =
    queued_to s n (k + 1) fs (set qs f.receiver (queue_to f.receiver qs ++ k ∷ [])) (let z = length-set qs f.receiver (queue_to f.receiver qs ++ k ∷ []) in omega arith) ∙ ⊎_elim
    (λ (e : n ≡ f.receiver). ap (λ (q : List ℕ). q ++ rest) (subst (λ (r : ℕ). queue_to n (set qs r (queue_to r qs ++ k ∷ [])) ≡ queue_to n qs ++ k ∷ []) e (queue_set qs n (queue_to n qs ++ k ∷ []) l))
    ∙ append_assoc (queue_to n qs) (k ∷ []) rest ∙ ap (λ (q : List ℕ). queue_to n qs ++ q) (sym (sent_to_it s n k f fs e)))
    (λ (ne : n ≡ f.receiver → ⊥). ap (λ (q : List ℕ). q ++ rest) (queue_other qs f.receiver n (queue_to f.receiver qs ++ k ∷ []) ne) ∙ ap (λ (q : List ℕ). queue_to n qs ++ q) (sym (sent_elsewhere s n k f fs ne)))
    (cases_eq n f.receiver)
  where
    rest : List ℕ
    rest = between s n (carried_of s (k + 1) fs)

more : (nodes s k : ℕ) (fs : List Frame) (senders : List (List (List ℕ))) (ms : List Carried) → s < length senders → Carry nodes senders ms → Carry nodes (set senders s (queued k fs (queues_of s senders))) (ms ++ carried_of s k fs)
more nodes s k fs senders ms inside h =
    carried_with nodes s senders (queued k fs qs) ms (ms ++ new) h l (size_queued k fs qs) own
    (λ a n ne. sym (between_more a n ms new ∙ ap (λ (q : List ℕ). between a n ms ++ q) (not_sent s a n k fs ne) ∙ append-nil (between a n ms)))
  where
    qs : List (List ℕ)
    qs = queues_of s senders

    new : List Carried
    new = carried_of s k fs

    l : s < nodes
    l = let z = h.size in omega arith

    own : (n : ℕ) → n < nodes → queue_to n (queued k fs qs) ≡ between s n (ms ++ new)
    own n ln = queued_to s n k fs qs (let z = h.sizes s l in omega arith) ∙ ap (λ (q : List ℕ). q ++ between s n new) (h.each s n ln) ∙ sym (between_more s n ms new)

pub carried_more : (nodes s k : ℕ) (fs : List Frame) (senders : List (List (List ℕ))) (qs more_qs : List (List ℕ)) (ms : List Carried) → s < length senders → qs ≡ get_or senders s qs → more_qs ≡ queued k fs qs → Carry nodes senders ms →
    Carry nodes (set senders s more_qs) (ms ++ carried_of s k fs)
carried_more nodes s k fs senders qs more_qs ms inside at put h =
    subst (λ (l : List (List ℕ)). Carry nodes (set senders s l) (ms ++ carried_of s k fs)) (sym (put ∙ ap (queued k fs) (queues_at senders s qs inside at)))
    (more nodes s k fs senders ms inside h)
