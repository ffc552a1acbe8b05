-- What the labels of a turn tell of rounds and of locks that ended, by what the node did.
use Rattle.std.proofs.Common.{◌≡◌, ◌≢◌, ℕ, ◌+◌, ◌≤◌, Bool, true, false, cond, List, [], ◌∷◌, ◌++◌, length, map, Option, None, Some, refl, sym, ap, ◌∙◌, subst, arith, inl, inr, ⊎_elim}
use Rattle.std.specs.Prelude.{◌⊎◌, nat_eq, ◌||◌}
use Rattle.std.specs.List.{AllByRecursion, list_any}
use Rattle.ct_values.specs.declared.client.Answer.{Answer}
use Rattle.ct_frame.specs.declared.event.Note.{Note}
use Rattle.ct_frame.specs.declared.event.Note.TheVariants as note
use Rattle.ct_frame.specs.declared.event.Out.{Out}
use Rattle.ct_frame.specs.declared.event.Out.TheVariants as out
use Rattle.ct_frame.specs.declared.frame.Frame.{Frame}
use Rattle.ct_frame.specs.declared.frame.Msg.{Msg}
use Rattle.ct_frame.specs.declared.frame.Msg.TheVariants as msg
use Rattle.ct_merge.proofs.Among.{In}
use Rattle.ct_rules_cluster.specs.Cluster.{Sent}
use Rattle.ct_rules_cluster.specs.Labels.{Label, Answered, Unasked, Begun, Noted, Ticket, Yielded, Stopped, Started, Pushed, Takeover, Taken}
use Rattle.ct_rules_cluster.specs.Steps.{frames_of}
use Rattle.ct_rules_cluster.specs.Traces.{sent_label}
use Rattle.ct_rules_cluster.specs.declared.step.PendingCall.{PendingCall}
use Rattle.ct_law_generation.specs.Shown.{labels_of}
use Rattle.ct_law_generation.specs.Waiting.{answered}
use Rattle.ct_law_plain.proofs.Steady.{IsOwn}
use Rattle.ct_law_acts.proofs.Steps.{is_note}

-- ---- rounds

-- is the label the note of a round?
unfoldable pub is_round : Label → Bool
is_round (Noted n (note.Round g members p q)) = true
is_round label = false

-- at most one label is the note of a round
unfoldable pub one_round : List Label → Bool
one_round [] = true
one_round (l ∷ ls) = cond (is_round l) (cond (list_any is_round ls) false true) (one_round ls)

any_both : (f : Label → Bool) (xs ys : List Label) → list_any f xs ≡ false → list_any f ys ≡ false → list_any f (xs ++ ys) ≡ false
any_both f [] ys a b = b
any_both f (x ∷ xs) ys a b = first (f x) a (any_both f xs ys)
  where
    first : (t : Bool) → (t || list_any f xs) ≡ false → (list_any f xs ≡ false → list_any f ys ≡ false → list_any f (xs ++ ys) ≡ false) → (t || list_any f (xs ++ ys)) ≡ false
    first true a rest = absurd (cc)
    first false a rest = rest a b

-- where none is one, at most one is
pub none_one : (ls : List Label) → list_any is_round ls ≡ false → one_round ls ≡ true
unfolding one_round
none_one [] e = refl
none_one (l ∷ ls) e = first (is_round l) e (none_one ls)
  where
    first : (t : Bool) → (t || list_any is_round ls) ≡ false → (list_any is_round ls ≡ false → one_round ls ≡ true) → cond t (cond (list_any is_round ls) false true) (one_round ls) ≡ true
    first true e rest = absurd (cc)
    first false e rest = rest e

-- and where none is one before
pub one_after : (xs ys : List Label) → list_any is_round xs ≡ false → one_round ys ≡ true → one_round (xs ++ ys) ≡ true
unfolding one_round
one_after [] ys e k = k
one_after (x ∷ xs) ys e k = first (is_round x) e (one_after xs ys)
  where
    first : (t : Bool) → (t || list_any is_round xs) ≡ false → (list_any is_round xs ≡ false → one_round ys ≡ true → one_round (xs ++ ys) ≡ true) → cond t (cond (list_any is_round (xs ++ ys)) false true) (one_round (xs ++ ys)) ≡ true
    first true e rest = absurd (cc)
    first false e rest = rest e k

no_note_no_round : (l : Label) → is_note l ≡ false → is_round l ≡ false
unfolding is_note is_round
no_note_no_round (Noted n x) e = absurd (cc)
no_note_no_round l e = refl

-- a label that is no note is none of a round
pub aside_none : (ls : List Label) → list_any is_note ls ≡ false → list_any is_round ls ≡ false
aside_none [] e = refl
aside_none (l ∷ ls) e = first (is_note l) (is_round l) (no_note_no_round l) e (aside_none ls)
  where
    first : (a b : Bool) → (a ≡ false → b ≡ false) → (a || list_any is_note ls) ≡ false → (list_any is_note ls ≡ false → list_any is_round ls ≡ false) → (b || list_any is_round ls) ≡ false
    first true b f e rest = absurd (cc)
    first false b f e rest = ap (λ (t : Bool). t || list_any is_round ls) (f refl) ∙ rest e

-- ---- notes that a lock ended

-- it is among these only where it is a note
pub aside_out : (ls : List Label) (l : Label) → is_note l ≡ true → list_any is_note ls ≡ false → In l ls → ⊥
aside_out [] l is e i = i
aside_out (x ∷ xs) l is e i = first (is_note x) refl e i (aside_out xs l is)
  where
    first : (a : Bool) → is_note x ≡ a → (a || list_any is_note xs) ≡ false → (x ≡ l) ⊎ In l xs → (list_any is_note xs ≡ false → In l xs → ⊥) → ⊥
    first true t e i rest = absurd (cc)
    first false t e (inl same) rest = absurd (let f : is_note l ≡ false = ap is_note (sym same) ∙ t in cc)
    first false t e (inr j) rest = rest e j

pub in_two : (xs ys : List Label) (l : Label) → In l (xs ++ ys) → In l xs ⊎ In l ys
in_two [] ys l i = inr i
in_two (x ∷ xs) ys l (inl e) = inl (inl e)
in_two (x ∷ xs) ys l (inr i) = more (in_two xs ys l i)
  where
    more : In l xs ⊎ In l ys → In l (x ∷ xs) ⊎ In l ys
    more (inl j) = inl (inr j)
    more (inr j) = inr j

sent_aside : (n g : ℕ) (m : Msg) → list_any is_note (sent_label n g m) ≡ false
unfolding sent_label is_note
sent_aside n g (msg.Push members table ptables assigned) = refl
sent_aside n g (msg.Take number assigned) = refl
sent_aside n g _ = refl

answered_aside : (call : ℕ) (a : Answer) (xs : List PendingCall) → list_any is_note (answered call a xs) ≡ false
unfolding answered is_note
answered_aside call a [] = refl
answered_aside call a (x ∷ xs) = by (nat_eq x.call call) (answered_aside call a xs)
  where
    by : (b : Bool) → list_any is_note (answered call a xs) ≡ false → list_any is_note (cond b (Answered x.node x.op a ∷ []) (answered call a xs)) ≡ false
    by true rest = refl
    by false rest = rest

-- a note that is told is one that the node made
pub noted_in : (n : ℕ) (calls : List PendingCall) (xs : List Out) (m : ℕ) (x : Note) → In (Noted m x) (labels_of n calls xs) → (m ≡ n) × In (out.Note x) xs
unfolding labels_of is_note
noted_in n calls [] m x i = absurd i
noted_in n calls (out.Send f ∷ xs) m x i = by (in_two (sent_label f.sender f.generation f.msg) (labels_of n calls xs) (Noted m x) i) (noted_in n calls xs m x)
  where
    by : In (Noted m x) (sent_label f.sender f.generation f.msg) ⊎ In (Noted m x) (labels_of n calls xs) → (In (Noted m x) (labels_of n calls xs) → (m ≡ n) × In (out.Note x) xs) → (m ≡ n) × In (out.Note x) (out.Send f ∷ xs)
    by (inl j) rest = absurd (aside_out (sent_label f.sender f.generation f.msg) (Noted m x) refl (sent_aside f.sender f.generation f.msg) j)
    by (inr j) rest = (let k = rest j in (k.0, inr k.1))
noted_in n calls (out.Answer call a ∷ xs) m x i = by (in_two (answered call a calls) (labels_of n calls xs) (Noted m x) i) (noted_in n calls xs m x)
  where
    by : In (Noted m x) (answered call a calls) ⊎ In (Noted m x) (labels_of n calls xs) → (In (Noted m x) (labels_of n calls xs) → (m ≡ n) × In (out.Note x) xs) → (m ≡ n) × In (out.Note x) (out.Answer call a ∷ xs)
    by (inl j) rest = absurd (aside_out (answered call a calls) (Noted m x) refl (answered_aside call a calls) j)
    by (inr j) rest = (let k = rest j in (k.0, inr k.1))
noted_in n calls (out.Note y ∷ xs) m x i = by i (noted_in n calls xs m x)
  where
    by : (Noted n y ≡ Noted m x) ⊎ In (Noted m x) (labels_of n calls xs) → (In (Noted m x) (labels_of n calls xs) → (m ≡ n) × In (out.Note x) xs) → (m ≡ n) × In (out.Note x) (out.Note y ∷ xs)
    by (inl e) rest = ((let a : n ≡ m = cc in sym a), inl (let b : y ≡ x = cc in ap (λ (z : Note). out.Note z) b))
    by (inr j) rest = (let k = rest j in (k.0, inr k.1))

-- no turn tells that a node stopped
pub stopped_out : (n : ℕ) (calls : List PendingCall) (xs : List Out) (m : ℕ) → In (Stopped m) (labels_of n calls xs) → ⊥
unfolding labels_of is_note
stopped_out n calls [] m i = i
stopped_out n calls (out.Send f ∷ xs) m i = by (in_two (sent_label f.sender f.generation f.msg) (labels_of n calls xs) (Stopped m) i) (stopped_out n calls xs m)
  where
    by : In (Stopped m) (sent_label f.sender f.generation f.msg) ⊎ In (Stopped m) (labels_of n calls xs) → (In (Stopped m) (labels_of n calls xs) → ⊥) → ⊥
    by (inl j) rest = aside_out (sent_label f.sender f.generation f.msg) (Stopped m) refl (sent_aside f.sender f.generation f.msg) j
    by (inr j) rest = rest j
stopped_out n calls (out.Answer call a ∷ xs) m i = by (in_two (answered call a calls) (labels_of n calls xs) (Stopped m) i) (stopped_out n calls xs m)
  where
    by : In (Stopped m) (answered call a calls) ⊎ In (Stopped m) (labels_of n calls xs) → (In (Stopped m) (labels_of n calls xs) → ⊥) → ⊥
    by (inl j) rest = aside_out (answered call a calls) (Stopped m) refl (answered_aside call a calls) j
    by (inr j) rest = rest j
stopped_out n calls (out.Note y ∷ xs) m (inl e) = absurd (cc)
stopped_out n calls (out.Note y ∷ xs) m (inr j) = stopped_out n calls xs m j

-- ---- what is the node's own

-- a message that is the node's own, an answer, or a note of anything but of a round
unfoldable pub IsUsual : ℕ → Out → Type 0
IsUsual me (out.Send f) = f.sender ≡ me
IsUsual me (out.Note (note.Round g members p q)) = ⊥
IsUsual me o = Unit {0}

own_usual : (me : ℕ) (x : Out) → IsOwn me x → IsUsual me x
unfolding IsOwn IsUsual
own_usual me (out.Send f) h = h
own_usual me (out.Note (note.Round g members p q)) h = absurd h
own_usual me x h = tt

pub all_usual : (me : ℕ) (xs : List Out) → AllByRecursion (IsOwn me) xs → AllByRecursion (IsUsual me) xs
all_usual me [] h = tt
all_usual me (x ∷ xs) h = (own_usual me x h.0, all_usual me xs h.1)

usual_round : (me : ℕ) (n : Note) (k : ℕ) → IsUsual me (out.Note n) → is_round (Noted k n) ≡ false
unfolding IsUsual is_round
usual_round me (note.Round g members p q) k h = absurd h
usual_round me x k h = refl

-- no round is told
pub usual_none : (me n : ℕ) (calls : List PendingCall) (xs : List Out) → AllByRecursion (IsUsual me) xs → list_any is_round (labels_of n calls xs) ≡ false
unfolding labels_of
usual_none me n calls [] h = refl
usual_none me n calls (out.Send f ∷ xs) h = any_both is_round (sent_label f.sender f.generation f.msg) (labels_of n calls xs) (aside_none (sent_label f.sender f.generation f.msg) (sent_aside f.sender f.generation f.msg)) (usual_none me n calls xs h.1)
usual_none me n calls (out.Answer call a ∷ xs) h = any_both is_round (answered call a calls) (labels_of n calls xs) (aside_none (answered call a calls) (answered_aside call a calls)) (usual_none me n calls xs h.1)
usual_none me n calls (out.Note y ∷ xs) h = ap (λ (b : Bool). b || list_any is_round (labels_of n calls xs)) (usual_round me y n h.0) ∙ usual_none me n calls xs h.1

-- and what is sent is sent by the node
pub usual_sent : (me : ℕ) (xs : List Out) → AllByRecursion (IsUsual me) xs → (f : Frame) → In f (map (λ (s : Sent). s.frame) (frames_of xs)) → f.sender ≡ me
unfolding IsUsual frames_of
usual_sent me [] h f i = absurd i
usual_sent me (out.Send g ∷ xs) h f (inl e) = ap (λ (k : Frame). k.sender) (sym e) ∙ h.0
usual_sent me (out.Send g ∷ xs) h f (inr i) = usual_sent me xs h.1 f i
usual_sent me (out.Answer call a ∷ xs) h f i = usual_sent me xs h.1 f i
usual_sent me (out.Note n ∷ xs) h f i = usual_sent me xs h.1 f i

-- what is its own tells of no lock that ended
pub own_ended : (me : ℕ) (xs : List Out) (db : ℕ) (key : List ℕ) → AllByRecursion (IsOwn me) xs → In (out.Note (note.Ended db key)) xs → ⊥
unfolding IsOwn
own_ended me [] db key h i = i
own_ended me (x ∷ xs) db key h (inl e) = subst (IsOwn me) e h.0
own_ended me (x ∷ xs) db key h (inr i) = own_ended me xs db key h.1 i
