-- Messages that wait may arrive.
use Rattle.std.proofs.Common.{◌≡◌, ◌∙◌, ℕ, zero, suc, ◌<◌, ⊎_elim, Bool, true, false, ◌&&◌, if◌then◌else◌, List, [], ◌∷◌, length, set, drop, Option, Some, refl, sym, ap, subst}
use Rattle.std.proofs.lemmas.Bool.{and_from, and_parts, cases_eq}
use Rattle.std.proofs.lemmas.List.Folds.{list_all-append}
use Rattle.std.specs.Prelude.{nat_eq, nat_lt, slice_get}
use Rattle.std.specs.List.{list_all}
use Rattle.ct_frame.specs.Fields.{well_formed}
use Rattle.ct_frame.specs.declared.event.Event.{Event}
use Rattle.ct_frame.specs.declared.event.Event.TheVariants as event
use Rattle.ct_frame.specs.declared.event.Out.{Out}
use Rattle.ct_frame.specs.declared.event.Out.TheVariants as out
use Rattle.ct_frame.specs.declared.frame.Frame.{Frame}
use Rattle.ct_journal.specs.Order.{frames_in, frames_to}
use Rattle.ct_law_journal_growing.specs.Growing.{is_own, or_no_frames, posted, queue_at, taken_off}
use Rattle.ct_law_journal_growing.proofs.Queues.{posted_at, queue_set_same, taken_others}
use Rattle.ct_values.specs.declared.config.Config.{Config}
use Rattle.ct_law_form.specs.Whole.{is_node_of, is_sound_out}
use Rattle.ct_actor.specs.Queues.{TakesOff, first_of, is_for}

-- ---- the first message is taken off

set_same : (qs : List (List Frame)) (n : ℕ) → queue_at qs n ≡ [] → set qs n (drop 1 (queue_at qs n)) ≡ qs
unfolding queue_at or_no_frames
set_same [] n e = refl
set_same (q ∷ qs) zero e = ap (λ (p : List Frame). p ∷ qs) (ap (λ (fs : List Frame). drop 1 fs) e ∙ sym e)
set_same (q ∷ qs) (suc n) e = ap (λ (ps : List (List Frame)). q ∷ ps) (set_same qs n e)

-- by the first message of the queue
takes_of : (q : List Frame) (n : ℕ) (old new : List (List Frame)) → queue_at old n ≡ q → new ≡ set old n (drop 1 (queue_at old n)) → TakesOff n (first_of q) old new
takes_of [] n old new is put = (is, put ∙ set_same old n is)
takes_of (f ∷ fs) n old new is put = (is ∙ ap (λ (gs : List Frame). f ∷ gs) (sym (ap (λ (gs : List Frame). drop 1 gs) is)), put)

takes_off : (n : ℕ) (first : Option Frame) (old new : List (List Frame)) → first ≡ first_of (queue_at old n) → new ≡ set old n (drop 1 (queue_at old n)) → TakesOff n first old new
takes_off n first old new is put = subst (λ (o : Option Frame). TakesOff n o old new) (sym is) (takes_of (queue_at old n) n old new refl put)

pub takes_next : (n : ℕ) (q : List Frame) (first : Option Frame) (old : List (List Frame)) (rest : List Frame) → slice_get old n ≡ Some q → first ≡ first_of q → rest ≡ drop 1 q → TakesOff n first old (set old n rest)
unfolding queue_at or_no_frames
takes_next n q first old rest at is put =
    let here : queue_at old n ≡ q = ap (λ (o : Option (List Frame)). or_no_frames o) at in
    takes_off n first old (set old n rest) (is ∙ ap (λ (fs : List Frame). first_of fs) (sym here)) (ap (λ (fs : List Frame). set old n fs) (put ∙ ap (λ (fs : List Frame). drop 1 fs) (sym here)))

-- ---- messages that a node sends

-- what holds of each message among these outs
frames_all : (r : Out → Bool) (q : Frame → Bool) (outs : List Out) → ((f : Frame) → r (out.Send f) ≡ true → q f ≡ true) → list_all r outs ≡ true → list_all q (frames_in outs) ≡ true
unfolding frames_in
frames_all r q [] each h = refl
frames_all r q (out.Send f ∷ xs) each h =
    let p = and_parts (r (out.Send f)) (list_all r xs) h in
    and_from (q f) (list_all q (frames_in xs)) (each f p.0) (frames_all r q xs each p.1)
frames_all r q (out.Answer call a ∷ xs) each h = frames_all r q xs each (and_parts (r (out.Answer call a)) (list_all r xs) h).1
frames_all r q (out.Note x ∷ xs) each h = frames_all r q xs each (and_parts (r (out.Note x)) (list_all r xs) h).1

sound_formed : (c : Config) (n : ℕ) (f : Frame) → is_sound_out c n (out.Send f) ≡ true → well_formed f ≡ true
unfolding is_sound_out
sound_formed c n f h = (and_parts (well_formed f) (nat_eq f.sender n) (and_parts (well_formed f && nat_eq f.sender n) (is_node_of c f.receiver) h).0).0

sound_own : (c : Config) (n : ℕ) (f : Frame) → is_sound_out c n (out.Send f) ≡ true → is_own n c.nodes f ≡ true
unfolding is_sound_out is_own is_node_of
sound_own c n f h =
    let p = and_parts (well_formed f && nat_eq f.sender n) (nat_lt f.receiver c.nodes) h in
    and_from (nat_eq f.sender n) (nat_lt f.receiver c.nodes) (and_parts (well_formed f) (nat_eq f.sender n) p.0).1 p.1

pub own_frames : (c : Config) (n : ℕ) (outs : List Out) → list_all (is_sound_out c n) outs ≡ true → (list_all (is_own n c.nodes) (frames_in outs) ≡ true) × (list_all well_formed (frames_in outs) ≡ true)
own_frames c n outs h = (frames_all (is_sound_out c n) (is_own n c.nodes) outs (sound_own c n) h, frames_all (is_sound_out c n) well_formed outs (sound_formed c n) h)

-- ---- those that wait for a node are for it

is_for_by : (m : ℕ) (f : Frame) → well_formed f ≡ true → nat_eq f.receiver m ≡ true → is_for m f ≡ true
unfolding is_for
is_for_by m f formed e = and_from (well_formed f) (nat_eq f.receiver m) formed e

for_by : (r : Frame → Bool) (f : Frame) (fs : List Frame) (b : Bool) → (b ≡ true → r f ≡ true) → list_all r fs ≡ true → list_all r (if b then f ∷ fs else fs) ≡ true
for_by r f fs true here h = and_from (r f) (list_all r fs) (here refl) h
for_by r f fs false here h = h

-- what holds of each of these messages that goes to node m
sent_all : (q r : Frame → Bool) (m : ℕ) (fs : List Frame) → ((f : Frame) → q f ≡ true → nat_eq f.receiver m ≡ true → r f ≡ true) → list_all q fs ≡ true → list_all r (frames_to m fs) ≡ true
unfolding frames_to
sent_all q r m [] each h = refl
sent_all q r m (f ∷ fs) each h =
    let p = and_parts (q f) (list_all q fs) h in
    for_by r f (frames_to m fs) (nat_eq f.receiver m) (λ e. each f p.0 e) (sent_all q r m fs each p.1)

sent_for : (m : ℕ) (fs : List Frame) → list_all well_formed fs ≡ true → list_all (is_for m) (frames_to m fs) ≡ true
sent_for m fs h = sent_all well_formed (is_for m) m fs (is_for_by m) h

pub waits_posted : (me nodes m : ℕ) (fs : List Frame) (qs : List (List Frame)) → list_all (is_own me nodes) fs ≡ true → list_all well_formed fs ≡ true → length qs ≡ nodes → list_all (is_for m) (queue_at qs m) ≡ true →
    list_all (is_for m) (queue_at (posted fs qs) m) ≡ true
waits_posted me nodes m fs qs own formed size h =
    ap (λ (q : List Frame). list_all (is_for m) q) (posted_at me nodes m fs qs own size) ∙ list_all-append (is_for m) (queue_at qs m) (frames_to m fs)
    ∙ and_from (list_all (is_for m) (queue_at qs m)) (list_all (is_for m) (frames_to m fs)) h (sent_for m fs formed)

dropped_for : (m : ℕ) (q : List Frame) → list_all (is_for m) q ≡ true → list_all (is_for m) (drop 1 q) ≡ true
dropped_for m [] h = h
dropped_for m (f ∷ fs) h = (and_parts (is_for m f) (list_all (is_for m) fs) h).1

taken_here : (n : ℕ) (e : Event) (qs : List (List Frame)) → n < length qs → list_all (is_for n) (queue_at qs n) ≡ true → list_all (is_for n) (queue_at (taken_off n e qs) n) ≡ true
unfolding taken_off
taken_here n (event.Client call o) qs l h = h
taken_here n (event.Arrive f) qs l h = ap (λ (q : List Frame). list_all (is_for n) q) (queue_set_same qs n (drop 1 (queue_at qs n)) l) ∙ dropped_for n (queue_at qs n) h
taken_here n event.Retry qs l h = h
taken_here n (event.Vacuum db) qs l h = h
taken_here n (event.BeginRound t members) qs l h = h
taken_here n (event.BeginTakeover able) qs l h = h

pub waits_taken : (n m : ℕ) (e : Event) (qs : List (List Frame)) → n < length qs → list_all (is_for m) (queue_at qs m) ≡ true → list_all (is_for m) (queue_at (taken_off n e qs) m) ≡ true
waits_taken n m e qs l h = ⊎_elim
    (λ (same : m ≡ n). subst (λ (k : ℕ). list_all (is_for k) (queue_at (taken_off n e qs) k) ≡ true) (sym same) (taken_here n e qs l (subst (λ (k : ℕ). list_all (is_for k) (queue_at qs k) ≡ true) same h)))
    (λ (ne : m ≡ n → ⊥). ap (λ (q : List Frame). list_all (is_for m) q) (taken_others n m e qs ne) ∙ h)
    (cases_eq m n)
