-- The nodes of a plan have their turns.
use Rattle.std.proofs.Common.{◌≡◌, ◌∙◌, ℕ, zero, suc, ◌+◌, ◌-◌, ◌<◌, ◌≤◌, ◌^◌, ◌⊎◌, inl, inr, ⊎_elim, Bool, true, false, List, [], ◌∷◌, ◌++◌, length, set, drop, None, Some, refl, sym, ap, subst, arith}
use Rattle.std.proofs.lemmas.Bool.{and_parts, cases_eq, cases_lt}
use Rattle.std.proofs.lemmas.List.{length-append, length-map, length-set}
use Rattle.std.proofs.lemmas.Option.{same_Some, slice_get_within}
use Rattle.std.specs.Prelude.{slice_get}
use Rattle.std.specs.List.{list_all}
use Rattle.ct_actor.specs.Acting.{last_entry}
use Rattle.ct_actor.proofs.Stepping.{last_put}
use Rattle.ct_call.specs.Rules.{Rules}
use Rattle.ct_script.specs.Cues.{first_cue, most_entries, next_item}
use Rattle.ct_script.specs.declared.cue.Cue.{Cue}
use Rattle.ct_frame.specs.declared.event.Event.{Event}
use Rattle.ct_frame.specs.declared.event.Event.TheVariants as event
use Rattle.ct_frame.specs.declared.frame.Frame.{Frame}
use Rattle.ct_script.specs.declared.plan.Plan.{Plan}
use Rattle.ct_journal.specs.Order.{all_entries, count_sent, entries_of, frames_in, or_no_entries, ticket_after}
use Rattle.ct_journal.specs.declared.journal.Journal.{Journal}
use Rattle.ct_journal.specs.declared.journal.JournalEntry.{JournalEntry}
use Rattle.ct_law_journal_growing.specs.Following.{Follows}
use Rattle.ct_law_journal_growing.proofs.Following.{follows_first}
use Rattle.ct_law_journal_growing.specs.Growing.{IsUnderWay, MayFollow, grown, is_own, or_no_frames, posted, queue_at, taken_off}
use Rattle.ct_law_journal_growing.proofs.Growth.{begins, counts_grown, goes_on}
use Rattle.ct_law_journal_growing.proofs.Lists.{got_other, got_set, no_entries}
use Rattle.ct_law_journal_growing.proofs.Queues.{taken_length}
use Rattle.ct_actor.specs.Journalled.{IsRunBy, Journalled, at_opening}
use Rattle.ct_actor.proofs.Running.{starts_run}
use Rattle.ct_law_form.specs.Whole.{HasLimits}
use Rattle.ct_law_form.proofs.Whole.{configs_have_limits}
use Rattle.ct_script.specs.Sound.{IsSound, script_of}
use Rattle.ct_actor.specs.Queues.{TakesOff, is_for}
use Rattle.ct_actor.specs.Seats.{IsItem, IsSeatOf, TakesEvent, TakesItem}
use Rattle.ct_troupe.specs.Stages.{IsAtRest, IsNoted, IsPlaying, Passes, Rests, Staged, TakesOne, TakesSome, Turns, journal_of, journals_of}
use Rattle.ct_actor.specs.declared.seat.Seat.{Seat}
use Rattle.ct_actor.proofs.Waiting.{own_frames, waits_posted, waits_taken}

-- ---- lists

staged_eq : (a b : Staged) → a.seats ≡ b.seats → a.queues ≡ b.queues → a.ticket ≡ b.ticket → a.count ≡ b.count → a ≡ b
staged_eq a b p q r s = (λ i. record { seats = p i; queues = q i; ticket = r i; count = s i })

set_got : (xs : List Seat) (n : ℕ) (x : Seat) → slice_get xs n ≡ Some x → set xs n x ≡ xs
set_got [] n x e = refl
set_got (y ∷ ys) zero x e = ap (λ (z : Seat). z ∷ ys) (sym (same_Some y x e))
set_got (y ∷ ys) (suc n) x e = ap (λ (zs : List Seat). y ∷ zs) (set_got ys n x e)

pub got_some : (xs : List Seat) (n : ℕ) → n < length xs → (x : Seat) × (slice_get xs n ≡ Some x)
got_some [] n l = absurd (omega arith)
got_some (x ∷ xs) zero l = (x, refl)
got_some (x ∷ xs) (suc n) l = got_some xs n (omega arith)

got_last : (xs : List Seat) (y : Seat) (n : ℕ) (x : Seat) → slice_get (xs ++ y ∷ []) n ≡ Some x → (slice_get xs n ≡ Some x) ⊎ ((n ≡ length xs) × (x ≡ y))
got_last [] y zero x e = inr (refl, sym (same_Some y x e))
got_last [] y (suc n) x e = absurd (cc)
got_last (z ∷ zs) y zero x e = inl e
got_last (z ∷ zs) y (suc n) x e = ⊎_elim
    (λ (a : slice_get zs n ≡ Some x). inl a)
    (λ (b : (n ≡ length zs) × (x ≡ y)). inr (ap suc b.0, b.1))
    (got_last zs y n x e)

-- ---- at the opening

pub has_limits : (p : Plan) → IsSound p → HasLimits p.config
has_limits p sound = configs_have_limits p.config sound.config.0 sound.config.1 sound.config.2

-- node n of the plan at the opening
pub record IsOpened (p : Plan) (n : ℕ) (x : Seat) : Type 0 where
  pub node : x.node ≡ at_opening n p.config
  pub cue : x.cue ≡ first_cue []

-- so many nodes of the plan, at the opening, and no message waits
pub record Opens (p : Plan) (seats : List Seat) (queues : List (List Frame)) (nodes : ℕ) : Type 0 where
  pub seats_are : length seats ≡ nodes
  pub queues_are : length queues ≡ nodes
  pub each : (n : ℕ) (x : Seat) → slice_get seats n ≡ Some x → IsOpened p n x
  pub none : (n : ℕ) → queue_at queues n ≡ []

none_at : (n : ℕ) → queue_at [] n ≡ []
unfolding queue_at or_no_frames
none_at n = refl

none_more : (qs : List (List Frame)) → ((n : ℕ) → queue_at qs n ≡ []) → (n : ℕ) → queue_at (qs ++ [] ∷ []) n ≡ []
unfolding queue_at or_no_frames
none_more [] none zero = refl
none_more [] none (suc n) = refl
none_more (q ∷ qs) none zero = none 0
none_more (q ∷ qs) none (suc n) = none_more qs (λ k. none (suc k)) n

pub opens_first : (p : Plan) (seats : List Seat) (queues : List (List Frame)) → seats ≡ [] → queues ≡ [] → Opens p seats queues 0
opens_first p seats queues a b = subst (λ (ss : List Seat). Opens p ss queues 0) (sym a) (subst (λ (qs : List (List Frame)). Opens p [] qs 0) (sym b) (record { seats_are = refl; queues_are = refl; each = λ n x e. absurd (cc); none = none_at }))

pub opens_more : (p : Plan) (seats more : List Seat) (queues most : List (List Frame)) (node : ℕ) (x : Seat) → Opens p seats queues node → x.node ≡ at_opening node p.config → x.cue ≡ first_cue [] → more ≡ seats ++ x ∷ [] → most ≡ queues ++ [] ∷ [] → Opens p more most (node + 1)
opens_more p seats more queues most node x h is cue a b =
    subst (λ (ss : List Seat). Opens p ss most (node + 1)) (sym a) (subst (λ (qs : List (List Frame)). Opens p (seats ++ x ∷ []) qs (node + 1)) (sym b) (record {
      seats_are = (let s = h.seats_are in let l = length-append seats (x ∷ []) in omega arith);
      queues_are = (let s = h.queues_are in let l = length-append queues ([] ∷ []) in omega arith);
      each = λ n y e. ⊎_elim
          (λ (old : slice_get seats n ≡ Some y). h.each n y old)
          (λ (new : (n ≡ length seats) × (y ≡ x)). subst (λ (k : ℕ). IsOpened p k y) (sym (new.0 ∙ h.seats_are)) (subst (λ (z : Seat). IsOpened p node z) (sym new.1) (record { node = is; cue = cue })))
          (got_last seats x n y e);
      none = none_more queues h.none;
    }))

opened_acts : (rules : Rules) (p : Plan) (n : ℕ) (x : Seat) → IsOpened p n x → IsSeatOf rules p n x
opened_acts rules p n x h = record {
  config = ap (λ (y : Journalled). y.core.config) h.node;
  own = ap (λ (y : Journalled). y.core.pnn) h.node;
  acting = record {
    run = subst (λ (y : Journalled). IsRunBy rules y) (sym h.node) (starts_run rules n p.config);
    since = [];
    all = ap (λ (y : Journalled). y.entries) h.node;
    follows = subst (λ (c : Cue). Follows (script_of p n) [] [] c) (sym h.cue) (follows_first (script_of p n) []);
  };
}

empty_at : (p : Plan) (seats : List Seat) (m : ℕ) → ((n : ℕ) (x : Seat) → slice_get seats n ≡ Some x → IsOpened p (m + n) x) → (n : ℕ) → entries_of (journals_of seats) n ≡ []
unfolding entries_of or_no_entries
empty_at p [] m h n = refl
empty_at p (s ∷ ss) m h zero = ap (λ (y : Journalled). y.entries) (h 0 s refl).node
empty_at p (s ∷ ss) m h (suc n) = empty_at p ss (m + 1) (λ k x e. subst (λ (j : ℕ). IsOpened p j x) (omega arith) (h (suc k) x e)) n

nothing_for : (n : ℕ) (qs : List (List Frame)) → queue_at qs n ≡ [] → list_all (is_for n) (queue_at qs n) ≡ true
nothing_for n qs e = ap (λ (q : List Frame). list_all (is_for n) q) e

nothing_counted : (js : List Journal) → all_entries js ≡ [] → length (all_entries js) + count_sent (all_entries js) ≡ 0
unfolding count_sent
nothing_counted js e = ap (λ (xs : List JournalEntry). length xs + count_sent xs) e

pub opens_playing : (p : Plan) (seats : List Seat) (queues : List (List Frame)) (nodes : ℕ) → nodes ≡ p.config.nodes → Opens p seats queues nodes → (rules : Rules) → IsPlaying rules p (record { seats = seats; queues = queues; ticket = 1; count = 0 })
opens_playing p seats queues nodes is h rules =
    let empty : (n : ℕ) → entries_of (journals_of seats) n ≡ [] = empty_at p seats 0 (λ n x e. subst (λ (k : ℕ). IsOpened p k x) (omega arith) (h.each n x e)) in
    record {
      seats = h.seats_are ∙ is;
      each = λ n x e. opened_acts rules p n x (h.each n x e);
      way = begins (journals_of seats) queues empty h.none (h.queues_are ∙ sym (length-map seats journal_of ∙ h.seats_are));
      waiting = λ n. nothing_for n queues (h.none n);
      count = nothing_counted (journals_of seats) (no_entries (journals_of seats) empty);
      few = omega arith;
      tickets = omega arith;
    }

-- ---- one event

journals_set : (seats : List Seat) (n : ℕ) (old new : Seat) (x : JournalEntry) → slice_get seats n ≡ Some old → new.node.core.pnn ≡ old.node.core.pnn → new.node.entries ≡ old.node.entries ++ x ∷ [] → journals_of (set seats n new) ≡ grown n x (journals_of seats)
unfolding grown
journals_set [] n old new x at own put = absurd (cc)
journals_set (s ∷ ss) zero old new x at own put =
    let same : s ≡ old = same_Some s old at in
    (λ i. record { node = (own ∙ ap (λ (z : Seat). z.node.core.pnn) (sym same)) i; entries = (put ∙ ap (λ (z : Seat). z.node.entries ++ x ∷ []) (sym same)) i } ∷ journals_of ss)
journals_set (s ∷ ss) (suc n) old new x at own put = ap (λ (js : List Journal). journal_of s ∷ js) (journals_set ss n old new x at own put)

ticket_next : (n last : ℕ) (e : Event) (qs : List (List Frame)) → MayFollow n last qs e → ticket_after e last ≤ last + 1
unfolding MayFollow ticket_after
ticket_next n last (event.BeginRound t members) qs may = (let e = may.0 in omega arith)
ticket_next n last _ qs may = omega arith

module _ (rules : Rules) (p : Plan) (n : ℕ) (e : Event) (s : Staged) (old new : Seat) (playing : IsPlaying rules p s) (at : slice_get s.seats n ≡ Some old) (takes : TakesEvent rules p n e old new) (may : MayFollow n s.ticket s.queues e) where
  abbrev pub entry : JournalEntry
  entry = record { event = e; outs = takes.outs }

  place : n < length s.seats
  place = slice_get_within s.seats n old at

  size : length (journals_of s.seats) ≡ p.config.nodes
  size = length-map s.seats journal_of ∙ playing.seats

  room : n < length (journals_of s.seats)
  room = let a = length-map s.seats journal_of in let b = place in omega arith

  grows : journals_of (set s.seats n new) ≡ grown n entry (journals_of s.seats)
  grows = journals_set s.seats n old new entry at (takes.seat.own ∙ sym (playing.each n old at).own) takes.put

  owned : list_all (is_own n p.config.nodes) (frames_in takes.outs) ≡ true
  owned = (own_frames p.config n takes.outs takes.sound).0

  queues_size : length s.queues ≡ p.config.nodes
  queues_size = playing.way.queues ∙ size

  abbrev pub all_queues : List (List Frame)
  all_queues = posted (frames_in takes.outs) (taken_off n e s.queues)

  each_after : (m : ℕ) (x : Seat) → slice_get (set s.seats n new) m ≡ Some x → IsSeatOf rules p m x
  each_after m x got = ⊎_elim
      (λ (same : m ≡ n).
      let own : slice_get (set s.seats n new) n ≡ Some x = subst (λ (k : ℕ). slice_get (set s.seats n new) k ≡ Some x) same got in
      let is : new ≡ x = same_Some new x (sym (got_set s.seats n new place) ∙ own) in
      subst (λ (k : ℕ). IsSeatOf rules p k x) (sym same) (subst (λ (y : Seat). IsSeatOf rules p n y) is takes.seat))
      (λ (ne : m ≡ n → ⊥). playing.each m x (sym (got_other s.seats n m new ne) ∙ got))
      (cases_eq m n)

  way_after : IsUnderWay (journals_of (set s.seats n new)) all_queues (ticket_after e s.ticket)
  way_after =
      subst (λ (js : List Journal). IsUnderWay js all_queues (ticket_after e s.ticket)) (sym grows)
      (goes_on (journals_of s.seats) s.queues s.ticket n entry playing.way room may (subst (λ (k : ℕ). list_all (is_own n k) (frames_in takes.outs) ≡ true) (sym size) owned))

  waiting_after : (m : ℕ) → list_all (is_for m) (queue_at all_queues m) ≡ true
  waiting_after m =
      waits_posted n p.config.nodes m (frames_in takes.outs) (taken_off n e s.queues) owned (own_frames p.config n takes.outs takes.sound).1 (taken_length n e s.queues ∙ queues_size)
      (waits_taken n m e s.queues (let a = queues_size in let b = playing.seats in let c = place in omega arith) (playing.waiting m))

  count_after : length (all_entries (journals_of (set s.seats n new))) + count_sent (all_entries (journals_of (set s.seats n new))) ≡ s.count + (1 + length (frames_in takes.outs))
  count_after =
      ap (λ (js : List Journal). length (all_entries js) + count_sent (all_entries js)) grows ∙ counts_grown (journals_of s.seats) n entry room ∙ ap (λ (k : ℕ). k + (1 + length (frames_in takes.outs))) playing.count

  pub plays_on : (t : Staged) → t.seats ≡ set s.seats n new → t.queues ≡ all_queues → t.ticket ≡ ticket_after e s.ticket → t.count ≡ s.count + (1 + length (frames_in takes.outs)) → t.count < 2 ^ 61 → IsPlaying rules p t
  plays_on t a b c d few =
      let next : Staged = record { seats = set s.seats n new; queues = all_queues; ticket = ticket_after e s.ticket; count = t.count } in
      let after : IsPlaying rules p next = record {
        seats = length-set s.seats n new ∙ playing.seats;
        each = each_after;
        way = way_after;
        waiting = waiting_after;
        count = count_after ∙ sym d;
        few = few;
        tickets = (let u = ticket_next n s.ticket e s.queues may in let v = playing.tickets in omega arith);
      } in
      subst (λ (u : Staged). IsPlaying rules p u) (sym (staged_eq t next a b c refl)) after

-- ---- a node takes an event

pub first_for : (n : ℕ) (f : Frame) (old new : List (List Frame)) → TakesOff n (Some f) old new → list_all (is_for n) (queue_at old n) ≡ true → is_for n f ≡ true
first_for n f old new off h = (and_parts (is_for n f) (list_all (is_for n) (drop 1 (queue_at old n))) (sym (ap (λ (q : List Frame). list_all (is_for n) q) off.0) ∙ h)).0

pub one_message : (rules : Rules) (p : Plan) (n : ℕ) (f : Frame) (s t : Staged) (old new : Seat) → slice_get s.seats n ≡ Some old → TakesEvent rules p n (event.Arrive f) old new → TakesOff n (Some f) s.queues t.queues →
    t.seats ≡ set s.seats n new → t.ticket ≡ s.ticket → t.count ≡ s.count → TakesOne rules p n s t
unfolding MayFollow taken_off
one_message rules p n f s t old new at takes off seats ticket count = record {
  event = event.Arrive f;
  before = old;
  after = new;
  at = at;
  takes = takes;
  follows = (drop 1 (queue_at s.queues n), off.0);
  seats = seats;
  queues = off.1;
  ticket = ticket;
  count = count;
}

item_follows : (n last : ℕ) (e : Event) (qs : List (List Frame)) → IsItem n last e → MayFollow n last qs e
unfolding IsItem MayFollow
item_follows n last (event.Client call o) qs is = tt
item_follows n last (event.Arrive f) qs is = absurd is
item_follows n last event.Retry qs is = is
item_follows n last (event.Vacuum db) qs is = is
item_follows n last (event.BeginRound t members) qs is = is
item_follows n last (event.BeginTakeover able) qs is = is

item_leaves : (n last : ℕ) (e : Event) (qs : List (List Frame)) → IsItem n last e → taken_off n e qs ≡ qs
unfolding IsItem taken_off
item_leaves n last (event.Client call o) qs is = refl
item_leaves n last (event.Arrive f) qs is = absurd is
item_leaves n last event.Retry qs is = refl
item_leaves n last (event.Vacuum db) qs is = refl
item_leaves n last (event.BeginRound t members) qs is = refl
item_leaves n last (event.BeginTakeover able) qs is = refl

pub some_item : (rules : Rules) (p : Plan) (n : ℕ) (some : Bool) (s t : Staged) (old new : Seat) → slice_get s.seats n ≡ Some old → TakesItem rules p n s.ticket some old new → TakesOff n None s.queues t.queues → t.seats ≡ set s.seats n new →
    t.ticket ≡ s.ticket → t.count ≡ s.count → TakesSome rules p n some s t
some_item rules p n true s t old new at takes off seats ticket count = record {
  event = takes.0;
  before = old;
  after = new;
  at = at;
  takes = takes.2;
  follows = item_follows n s.ticket takes.0 s.queues takes.1;
  seats = seats;
  queues = off.1 ∙ sym (item_leaves n s.ticket takes.0 s.queues takes.1);
  ticket = ticket;
  count = count;
}
some_item rules p n false s t old new at takes off seats ticket count = (
  staged_eq t s (seats ∙ ap (λ (x : Seat). set s.seats n x) takes.1 ∙ set_got s.seats n old at) off.1 ticket count,
  λ x got. inr (off.0, subst (λ (y : Seat). next_item (script_of p n) y.cue ≡ None) (same_Some old x (sym at ∙ got)) takes.0),
)

-- ---- a turn

acted_one : (rules : Rules) (p : Plan) (n : ℕ) (s mid t : Staged) → IsPlaying rules p s → TakesOne rules p n s mid → ((x : Seat) (y : JournalEntry) → slice_get mid.seats n ≡ Some x → last_entry x.node ≡ Some y → IsNoted y mid t) →
    Turns rules p n true s t
acted_one rules p n s mid t playing k noted =
    let there : slice_get mid.seats n ≡ Some k.after = subst (λ (ss : List Seat). slice_get ss n ≡ Some k.after) (sym k.seats) (got_set s.seats n k.after (slice_get_within s.seats n k.before k.at)) in
    let last : last_entry k.after.node ≡ Some (record { event = k.event; outs = k.takes.outs }) =
    ap (λ (xs : List JournalEntry). slice_get xs (length xs - 1)) k.takes.put ∙ last_put k.before.node.entries (record { event = k.event; outs = k.takes.outs }) in
    let is : IsNoted (record { event = k.event; outs = k.takes.outs }) mid t = noted k.after (record { event = k.event; outs = k.takes.outs }) there last in
    let count : t.count ≡ s.count + (1 + length (frames_in k.takes.outs)) = is.count ∙ ap (λ (c : ℕ). c + (1 + length (frames_in k.takes.outs))) k.count in (
      plays_on rules p n k.event s k.before k.after playing k.at k.takes k.follows t (is.seats ∙ k.seats) (is.queues ∙ ap (λ (qs : List (List Frame)). posted (frames_in k.takes.outs) qs) k.queues)
          (is.ticket ∙ ap (λ (l : ℕ). ticket_after k.event l) k.ticket) count is.few,
      omega arith,
    )

pub acted : (rules : Rules) (p : Plan) (n : ℕ) (some : Bool) (s mid t : Staged) → IsPlaying rules p s → some ≡ true → TakesSome rules p n some s mid → ((x : Seat) (y : JournalEntry) → slice_get mid.seats n ≡ Some x → last_entry x.node ≡ Some y → IsNoted y mid t) →
    Turns rules p n true s t
acted rules p n true s mid t playing is k noted = acted_one rules p n s mid t playing k noted
acted rules p n false s mid t playing is k noted = absurd (cc)

pub rested : (rules : Rules) (p : Plan) (n : ℕ) (some : Bool) (s t : Staged) → some ≡ false → TakesSome rules p n some s t → Turns rules p n false s t
rested rules p n true s t is k = absurd (cc)
rested rules p n false s t is k = k

-- what is to be noted is within bounds
pub noted_place : (rules : Rules) (p : Plan) (n : ℕ) (some : Bool) (s mid : Staged) → some ≡ true → TakesSome rules p n some s mid → (n < length mid.seats) × (mid.count ≡ s.count)
noted_place rules p n true s mid is k = (let l = slice_get_within s.seats n k.before k.at in let e = ap (λ (ss : List Seat). length ss) k.seats in let f = length-set s.seats n k.after in omega arith, k.count)
noted_place rules p n false s mid is k = absurd (cc)

full_rests : (p : Plan) (n : ℕ) (s : Staged) (x : Seat) → slice_get s.seats n ≡ Some x → most_entries ≤ length x.node.entries → Rests p n s
full_rests p n s x at l y got = inl (subst (λ (z : Seat). most_entries ≤ length z.node.entries) (same_Some x y (sym at ∙ got)) l)

pub is_full : (rules : Rules) (p : Plan) (n : ℕ) (s : Staged) (x : Seat) → slice_get s.seats n ≡ Some x → most_entries ≤ length x.node.entries → Turns rules p n false s s
is_full rules p n s x at l = (refl, full_rests p n s x at l)

-- ---- a pass

-- so many nodes have had their turns
pub record Passing (rules : Rules) (p : Plan) (start s : Staged) (node : ℕ) (some : Bool) : Type 0 where
  pub playing : IsPlaying rules p s
  pub more : some ≡ true → start.count < s.count
  pub same : some ≡ false → s ≡ start
  pub rests : some ≡ false → (n : ℕ) → n < node → Rests p n start

pub passing_first : (rules : Rules) (p : Plan) (s : Staged) → IsPlaying rules p s → Passing rules p s s 0 false
passing_first rules p s h = record { playing = h; more = λ e. absurd (cc); same = λ e. refl; rests = λ e n l. absurd (omega arith) }

grown_count : (rules : Rules) (p : Plan) (start s : Staged) (node : ℕ) (some : Bool) → Passing rules p start s node some → start.count ≤ s.count
grown_count rules p start s node true h = let l = h.more refl in omega arith
grown_count rules p start s node false h = let e = ap (λ (u : Staged). u.count) (h.same refl) in omega arith

pub passing_took : (rules : Rules) (p : Plan) (start s t : Staged) (node : ℕ) (some : Bool) → Passing rules p start s node some → Turns rules p node true s t → Passing rules p start t (node + 1) true
passing_took rules p start s t node some h turn = record { playing = turn.0; more = λ e. (let g = grown_count rules p start s node some h in let l = turn.1 in omega arith); same = λ e. absurd (cc); rests = λ e n l. absurd (cc) }

rests_more : (p : Plan) (start : Staged) (node : ℕ) → ((n : ℕ) → n < node → Rests p n start) → Rests p node start → (n : ℕ) → n < node + 1 → Rests p n start
rests_more p start node before here n l = ⊎_elim
    (λ (less : n < node). before n less)
    (λ (no_less : node ≤ n). subst (λ (k : ℕ). Rests p k start) (omega arith) here)
    (cases_lt n node)

pub passing_rested : (rules : Rules) (p : Plan) (start s t : Staged) (node : ℕ) (some : Bool) → Passing rules p start s node some → Turns rules p node false s t → Passing rules p start t (node + 1) some
passing_rested rules p start s t node some h turn = record {
  playing = subst (λ (u : Staged). IsPlaying rules p u) (sym turn.0) h.playing;
  more = λ e. subst (λ (u : Staged). start.count < u.count) (sym turn.0) (h.more e);
  same = λ e. turn.0 ∙ h.same e;
  rests = λ e. rests_more p start node (h.rests e) (subst (λ (u : Staged). Rests p node u) (h.same e) turn.1);
}

pub passing_turn : (rules : Rules) (p : Plan) (start s t : Staged) (node : ℕ) (some took now : Bool) → Passing rules p start s node some → Turns rules p node took s t → (took ≡ true → now ≡ true) → (took ≡ false → now ≡ some) → Passing rules p start t (node + 1) now
passing_turn rules p start s t node some true now h turn a b = subst (λ (x : Bool). Passing rules p start t (node + 1) x) (sym (a refl)) (passing_took rules p start s t node some h turn)
passing_turn rules p start s t node some false now h turn a b = subst (λ (x : Bool). Passing rules p start t (node + 1) x) (sym (b refl)) (passing_rested rules p start s t node some h turn)

pub passes : (rules : Rules) (p : Plan) (start s : Staged) (node : ℕ) (some : Bool) → p.config.nodes ≤ node → Passing rules p start s node some → Passes rules p some start s
passes rules p start s node true le h = (h.playing, h.more refl)
passes rules p start s node false le h = (h.same refl, λ n l. h.rests refl n (omega arith))

-- ---- the play

-- the nodes have their turns
pub record Going (rules : Rules) (p : Plan) (s : Staged) (some : Bool) : Type 0 where
  pub playing : IsPlaying rules p s
  pub rests : some ≡ false → (n : ℕ) → n < p.config.nodes → Rests p n s

pub going_first : (rules : Rules) (p : Plan) (s : Staged) → IsPlaying rules p s → Going rules p s true
going_first rules p s h = record { playing = h; rests = λ e. absurd (cc) }

pub going_on : (rules : Rules) (p : Plan) (s t : Staged) (some now : Bool) → Going rules p s some → Passes rules p now s t → Going rules p t now
going_on rules p s t some true h pass = record { playing = pass.0; rests = λ e. absurd (cc) }
going_on rules p s t some false h pass = record {
  playing = subst (λ (u : Staged). IsPlaying rules p u) (sym pass.0) h.playing;
  rests = λ e n l. subst (λ (u : Staged). Rests p n u) (sym pass.0) (pass.1 n l);
}

pub going_end : (rules : Rules) (p : Plan) (s : Staged) (some : Bool) → some ≡ false → Going rules p s some → IsAtRest rules p s
going_end rules p s some e h = record { playing = h.playing; rests = h.rests e }
