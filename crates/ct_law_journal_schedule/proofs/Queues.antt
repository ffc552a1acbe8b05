-- Of each node to another, the messages that have not arrived wait, in the order in which they were sent.
use Rattle.std.proofs.Common.{◌≡◌, ◌≢◌, ℕ, zero, suc, ◌+◌, true, false, List, [], ◌∷◌, ◌++◌, length, map, set, Some, append-nil, append_assoc, arith, refl, sym, ap, ap₂, ◌∙◌, subst, ⊎_elim}
use Rattle.std.proofs.lemmas.Bool.{cases_eq, eq-eqb, ne_eqb}
use Rattle.std.proofs.lemmas.List.{length-append, map-append}
use Rattle.std.specs.Prelude.{slice_get}
use Rattle.ct_frame.specs.declared.event.Event.TheVariants as event
use Rattle.ct_frame.specs.declared.event.Out.{Out}
use Rattle.ct_frame.specs.declared.event.Out.TheVariants as out
use Rattle.ct_frame.specs.declared.frame.Frame.{Frame}
use Rattle.ct_rules_cluster.specs.Cluster.{Delivered, Sent}
use Rattle.ct_rules_cluster.specs.Steps.{frames_of}
use Rattle.ct_journal.specs.Order.{arrived_from, frames_in, frames_to, is_from, sent_to}
use Rattle.ct_journal.specs.declared.journal.JournalEntry.{JournalEntry}
use Rattle.ct_law_journal_schedule.proofs.Carrying.{Avoids, Rising, Wait, between, between_more, first_is, got, not_sent, others_stay, rest_is, sent_waits, set_waits, taken_away, wait_more, waiting}
use Rattle.ct_law_journal_schedule.proofs.Fronts.{arrived_more, arrived_same, sent_more}
use Rattle.ct_law_journal_schedule.specs.Scheduling.{Carried, carried_of, first_between, without_first}

-- of these that were sent so many have arrived, and the others wait under these numbers
pub record Queue (ss : List Sent) (ks : List ℕ) (sent : List Frame) (arrived : ℕ) : Type 0 where
  pub gone : List Frame
  pub left : List Frame
  pub whole : sent ≡ gone ++ left
  pub count : length gone ≡ arrived
  pub wait : Wait ss ks left

-- of each node to another, where these are the entries that send and those in which messages arrive
unfoldable pub Mailed : List Sent → List Carried → (ℕ → List JournalEntry) → (ℕ → List JournalEntry) → Type 0
Mailed ss ms sends takes = (s n : ℕ) → Queue ss (between s n ms) (sent_to n (sends s)) (arrived_from s (takes n))

-- ---- one queue

-- the message that arrives next is the first that waits
next_waits : (gone left : List Frame) (m : Frame) → slice_get (gone ++ left) (length gone) ≡ Some m → (rest : List Frame) × (left ≡ m ∷ rest)
next_waits [] [] m e = absurd (cc)
next_waits [] (f ∷ fs) m e = (fs, cc)
next_waits (g ∷ gs) left m e = next_waits gs left m e

record Head (ss : List Sent) (ks : List ℕ) (sent : List Frame) (arrived : ℕ) (m : Frame) : Type 0 where
  number : ℕ
  rest : List ℕ
  first : ks ≡ number ∷ rest
  is : got ss number ≡ Some (waiting m)
  others : Queue ss rest sent (arrived + 1)

head_of : (ss : List Sent) (ks : List ℕ) (sent : List Frame) (arrived : ℕ) (m : Frame) → Queue ss ks sent arrived → slice_get sent arrived ≡ Some m → Head ss ks sent arrived m
head_of ss ks sent arrived m q e =
    let at : slice_get (q.gone ++ q.left) (length q.gone) ≡ Some m = subst (λ (k : ℕ). slice_get (q.gone ++ q.left) k ≡ Some m) (sym q.count) (subst (λ (l : List Frame). slice_get l arrived ≡ Some m) q.whole e) in
    let n = next_waits q.gone q.left m at in
    by ks n.0 (subst (λ (l : List Frame). Wait ss ks l) n.1 q.wait) (q.whole ∙ ap (λ (l : List Frame). q.gone ++ l) n.1)
  where
    by : (ks : List ℕ) (left : List Frame) → Wait ss ks (m ∷ left) → sent ≡ q.gone ++ m ∷ left → Head ss ks sent arrived m
    by [] left w whole = absurd (cc)
    by (k ∷ ks) left w whole = record {
      number = k;
      rest = ks;
      first = refl;
      is = cc;
      others = record {
        gone = q.gone ++ m ∷ [];
        left = left;
        whole = whole ∙ sym (append_assoc q.gone (m ∷ []) left);
        count = (let l = length-append q.gone (m ∷ []) in let c = q.count in omega arith);
        wait = cc;
      };
    }

queue_set : (ss : List Sent) (ks : List ℕ) (sent : List Frame) (arrived k : ℕ) (y : Sent) → Avoids (suc k) ks → Queue ss ks sent arrived → Queue (set ss k y) ks sent arrived
queue_set ss ks sent arrived k y a q = record { gone = q.gone; left = q.left; whole = q.whole; count = q.count; wait = set_waits ss k y ks a ∙ q.wait }

wait_both : (ss : List Sent) (ks ls : List ℕ) (fs gs : List Frame) → Wait ss ks fs → Wait ss ls gs → Wait ss (ks ++ ls) (fs ++ gs)
wait_both ss ks ls fs gs a b = map-append (got ss) ks ls ∙ ap₂ (λ xs ys. xs ++ ys) a b ∙ sym (map-append (λ (f : Frame). Some (waiting f)) fs gs)

queue_more : (ss ts : List Sent) (ks ls : List ℕ) (sent fs : List Frame) (arrived : ℕ) → Queue ss ks sent arrived → Wait (ss ++ ts) ls fs → Queue (ss ++ ts) (ks ++ ls) (sent ++ fs) arrived
queue_more ss ts ks ls sent fs arrived q w = record {
  gone = q.gone;
  left = q.left ++ fs;
  whole = ap (λ (l : List Frame). l ++ fs) q.whole ∙ append_assoc q.gone q.left fs;
  count = q.count;
  wait = wait_both (ss ++ ts) ks ls q.left fs (wait_more ss ts ks q.left q.wait) w;
}

queue_kept : (ss ts : List Sent) (ks : List ℕ) (sent : List Frame) (arrived : ℕ) → Queue ss ks sent arrived → Queue (ss ++ ts) ks sent arrived
queue_kept ss ts ks sent arrived q = record { gone = q.gone; left = q.left; whole = q.whole; count = q.count; wait = wait_more ss ts ks q.left q.wait }

-- ---- an event comes

-- an event that is no message's
pub none_comes : (ss : List Sent) (ms : List Carried) (past more : ℕ → List JournalEntry) (n : ℕ) (x : JournalEntry) → more n ≡ past n ++ x ∷ [] → ((b : ℕ) → b ≢ n → more b ≡ past b) → ((a : ℕ) → is_from a x.event ≡ false) →
    Mailed ss ms past past → Mailed ss ms past more
unfolding Mailed
none_comes ss ms past more n x own other none h a b = subst (λ (k : ℕ). Queue ss (between a b ms) (sent_to b (past a)) k) (sym same) (h a b)
  where
    same : arrived_from a (more b) ≡ arrived_from a (past b)
    same = ⊎_elim
        (λ (e : b ≡ n). subst (λ (k : ℕ). arrived_from a (more k) ≡ arrived_from a (past k)) (sym e) (ap (arrived_from a) own ∙ arrived_same a (past n) x (none a)))
        (λ (ne : b ≡ n → ⊥). ap (arrived_from a) (other b ne))
        (cases_eq b n)

-- what a message that comes leaves
pub record Comes (ss : List Sent) (ms : List Carried) (past more : ℕ → List JournalEntry) (n : ℕ) (m : Frame) : Type 0 where
  pub before : ℕ  -- so many messages were sent before it
  pub first : first_between m.sender n ms ≡ suc before
  pub is : got ss (suc before) ≡ Some (waiting m)
  pub mail : Mailed (set ss before (record { frame = m; fate = Delivered })) (without_first m.sender n ms) past more

pub message_comes : (ss : List Sent) (ms : List Carried) (j : ℕ) (past more : ℕ → List JournalEntry) (n : ℕ) (m : Frame) (x : JournalEntry) → x.event ≡ event.Arrive m → more n ≡ past n ++ x ∷ [] → ((b : ℕ) → b ≢ n → more b ≡ past b) →
    Rising 1 ms j → slice_get (sent_to n (past m.sender)) (arrived_from m.sender (past n)) ≡ Some m → Mailed ss ms past past → Comes ss ms past more n m
unfolding Mailed is_from got
message_comes ss ms j past more n m x arrives own other rising may h =
    let hd = head_of ss (between m.sender n ms) (sent_to n (past m.sender)) (arrived_from m.sender (past n)) m (h m.sender n) may in
    by hd.number hd.rest hd.first hd.is hd.others
  where
    here : (a : ℕ) → a ≡ m.sender → is_from a x.event ≡ true
    here a e = ap (is_from a) arrives ∙ eq-eqb m.sender a (sym e)

    away : (a : ℕ) → a ≢ m.sender → is_from a x.event ≡ false
    away a ne = ap (is_from a) arrives ∙ ne_eqb m.sender a (λ e. ne (sym e))

    same : (a b : ℕ) → ((a ≡ m.sender) × (b ≡ n) → ⊥) → arrived_from a (more b) ≡ arrived_from a (past b)
    same a b ne = ⊎_elim
        (λ (e : b ≡ n). subst (λ (k : ℕ). arrived_from a (more k) ≡ arrived_from a (past k)) (sym e) (ap (arrived_from a) own ∙ arrived_same a (past n) x (away a (λ q. ne (q, e)))))
        (λ (no_n : b ≡ n → ⊥). ap (arrived_from a) (other b no_n))
        (cases_eq b n)

    by : (k : ℕ) (rest : List ℕ) → between m.sender n ms ≡ k ∷ rest → got ss k ≡ Some (waiting m) → Queue ss rest (sent_to n (past m.sender)) (arrived_from m.sender (past n) + 1) → Comes ss ms past more n m
    by zero rest first is others = absurd (cc)
    by (suc k) rest first is others = record { before = k; first = first_is m.sender n (suc k) rest ms first; is = is; mail = mail }
      where
        left : List Carried
        left = without_first m.sender n ms

        moved : (a b : ℕ) → Queue ss (between a b left) (sent_to b (past a)) (arrived_from a (more b))
        moved a b = ⊎_elim
            (λ (ea : a ≡ m.sender). ⊎_elim
            (λ (eb : b ≡ n). subst (λ (p : ℕ). Queue ss (between a p left) (sent_to p (past a)) (arrived_from a (more p))) (sym eb)
            (subst (λ (p : ℕ). Queue ss (between p n left) (sent_to n (past p)) (arrived_from p (more n))) (sym ea)
            (subst (λ (l : List ℕ). Queue ss l (sent_to n (past m.sender)) (arrived_from m.sender (more n))) (sym (rest_is m.sender n (suc k) rest ms first))
            (subst (λ (q : ℕ). Queue ss rest (sent_to n (past m.sender)) q) (sym (ap (arrived_from m.sender) own ∙ arrived_more m.sender (past n) x (here m.sender refl))) others))))
            (λ (nb : b ≡ n → ⊥). stays a b (λ q. nb q.1))
            (cases_eq b n))
            (λ (na : a ≡ m.sender → ⊥). stays a b (λ q. na q.0))
            (cases_eq a m.sender)
          where
            stays : (a b : ℕ) → ((a ≡ m.sender) × (b ≡ n) → ⊥) → Queue ss (between a b left) (sent_to b (past a)) (arrived_from a (more b))
            stays a b ne = subst (λ (l : List ℕ). Queue ss l (sent_to b (past a)) (arrived_from a (more b))) (sym (others_stay m.sender n a b ms ne))
                (subst (λ (q : ℕ). Queue ss (between a b ms) (sent_to b (past a)) q) (sym (same a b ne)) (h a b))

        mail : Mailed (set ss k (record { frame = m; fate = Delivered })) left past more
        mail a b = queue_set ss (between a b left) (sent_to b (past a)) (arrived_from a (more b)) k (record { frame = m; fate = Delivered }) (taken_away m.sender n a b 1 j (suc k) rest ms rising first) (moved a b)

-- ---- messages are sent

pub frames_wait : (xs : List Out) → frames_of xs ≡ map waiting (frames_in xs)
unfolding frames_of frames_in
frames_wait [] = refl
frames_wait (out.Send f ∷ xs) = ap (λ (l : List Sent). waiting f ∷ l) (frames_wait xs)
frames_wait (out.Answer call a ∷ xs) = frames_wait xs
frames_wait (out.Note x ∷ xs) = frames_wait xs

pub messages_go : (ss : List Sent) (ms : List Carried) (past more : ℕ → List JournalEntry) (n : ℕ) (x : JournalEntry) → more n ≡ past n ++ x ∷ [] → ((b : ℕ) → b ≢ n → more b ≡ past b) →
    Mailed ss ms past more → Mailed (ss ++ map waiting (frames_in x.outs)) (ms ++ carried_of n (length ss + 1) (frames_in x.outs)) more more
unfolding Mailed
messages_go ss ms past more n x own other h a b =
    subst (λ (l : List ℕ). Queue (ss ++ map waiting fs) l (sent_to b (more a)) (arrived_from a (more b))) (sym (between_more a b ms new)) (⊎_elim
    (λ (e : a ≡ n). subst (λ (l : List Frame). Queue (ss ++ map waiting fs) (between a b ms ++ between a b new) l (arrived_from a (more b))) (sym (sends e))
    (queue_more ss (map waiting fs) (between a b ms) (between a b new) (sent_to b (past a)) (frames_to b fs) (arrived_from a (more b)) (h a b)
    (subst (λ (k : ℕ). Wait (ss ++ map waiting fs) (between k b new) (frames_to b fs)) (sym e) (sent_waits n b ss fs))))
    (λ (ne : a ≡ n → ⊥). subst (λ (l : List ℕ). Queue (ss ++ map waiting fs) l (sent_to b (more a)) (arrived_from a (more b)))
    (sym (ap (λ (l : List ℕ). between a b ms ++ l) (not_sent n a b (length ss + 1) fs ne) ∙ append-nil (between a b ms)))
    (subst (λ (l : List Frame). Queue (ss ++ map waiting fs) (between a b ms) l (arrived_from a (more b))) (sym (ap (sent_to b) (other a ne)))
    (queue_kept ss (map waiting fs) (between a b ms) (sent_to b (past a)) (arrived_from a (more b)) (h a b))))
    (cases_eq a n))
  where
    fs : List Frame
    fs = frames_in x.outs

    new : List Carried
    new = carried_of n (length ss + 1) fs

    sends : a ≡ n → sent_to b (more a) ≡ sent_to b (past a) ++ frames_to b fs
    sends e = subst (λ (k : ℕ). sent_to b (more k) ≡ sent_to b (past k) ++ frames_to b fs) (sym e) (ap (sent_to b) own ∙ sent_more b (past n) x)
