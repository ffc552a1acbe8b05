-- What a play leaves behind.
use Rattle.std.proofs.Common.{◌≡◌, ◌∙◌, ℕ, zero, suc, ◌<◌, ◌≤◌, inl, inr, ⊎_elim, nat_lt, true, List, [], ◌∷◌, length, Option, None, Some, refl, sym, ap, subst, arith}
use Rattle.std.proofs.lemmas.Bool.{cases_lt}
use Rattle.std.proofs.lemmas.List.{length-map}
use Rattle.std.proofs.lemmas.Option.{same_Some, slice_get_past}
use Rattle.std.specs.Prelude.{slice_get}
use Rattle.ct_call.specs.Rules.{Rules}
use Rattle.ct_script.specs.Cues.{IsScripted, items_in, most_entries, next_item}
use Rattle.ct_frame.specs.Fields.{ascends}
use Rattle.ct_frame.specs.declared.frame.Frame.{Frame}
use Rattle.ct_script.specs.declared.plan.Plan.{Plan}
use Rattle.ct_script.specs.declared.plan.PlanItem.{PlanItem}
use Rattle.ct_journal.specs.Order.{AreInOrder, all_entries, count_arrived, count_sent, entries_of, numbers_of_calls, or_no_entries}
use Rattle.ct_journal.specs.declared.journal.Journal.{Journal}
use Rattle.ct_journal.specs.declared.journal.JournalEntry.{JournalEntry}
use Rattle.ct_law_journal_growing.specs.Following.{Follows}
use Rattle.ct_law_journal_growing.proofs.Following.{ends_scripted, follows_rising}
use Rattle.ct_law_journal_growing.specs.Growing.{or_no_frames, queue_at}
use Rattle.ct_law_journal_growing.proofs.Growth.{all_arrives, grows_in_order}
use Rattle.ct_law_journal_schedule.specs.Laws.{AreRuns, IsRunOf}
use Rattle.ct_journal.proofs.Ends.{no_entries_past}
use Rattle.ct_actor.proofs.Running.{run_of}
use Rattle.ct_script.specs.Sound.{IsSound, script_of}
use Rattle.ct_troupe.specs.Played.{ArePlayed}
use Rattle.ct_actor.specs.Seats.{IsSeatOf}
use Rattle.ct_troupe.specs.Stages.{AllHaveArrived, IsAtRest, IsPlaying, Rests, Staged, journal_of, journals_of}
use Rattle.ct_actor.specs.declared.seat.Seat.{Seat}
use Rattle.ct_script.proofs.Soundness.{no_script_past}
use Rattle.ct_troupe.proofs.Staging.{got_some}

-- ---- nodes and their journals

got_journal : (seats : List Seat) (n : ℕ) (j : Journal) → slice_get (journals_of seats) n ≡ Some j → (x : Seat) × (slice_get seats n ≡ Some x) × (journal_of x ≡ j)
got_journal [] n j e = absurd (cc)
got_journal (s ∷ ss) zero j e = (s, refl, same_Some (journal_of s) j e)
got_journal (s ∷ ss) (suc n) j e = got_journal ss n j e

seat_entries : (seats : List Seat) (n : ℕ) (x : Seat) → slice_get seats n ≡ Some x → entries_of (journals_of seats) n ≡ x.node.entries
unfolding entries_of or_no_entries
seat_entries [] n x e = absurd (cc)
seat_entries (s ∷ ss) zero x e = ap (λ (y : Seat). y.node.entries) (same_Some s x e)
seat_entries (s ∷ ss) (suc n) x e = seat_entries ss n x e

no_queue_past : (qs : List (List Frame)) (n : ℕ) → length qs ≤ n → queue_at qs n ≡ []
unfolding queue_at or_no_frames
no_queue_past qs n l = ap (λ (o : Option (List Frame)). or_no_frames o) (slice_get_past qs n l)

-- ---- runs

seat_runs : (rules : Rules) (p : Plan) (n : ℕ) (x : Seat) → IsSeatOf rules p n x → IsRunOf p.config rules n (journal_of x)
seat_runs rules p n x h = record { node = h.own; end = x.node.core.node; runs = run_of rules p.config x.node h.config h.acting.run }

runs : (rules : Rules) (p : Plan) (s : Staged) → IsPlaying rules p s → AreRuns p.config rules (journals_of s.seats)
runs rules p s h = record {
  count = length-map s.seats journal_of ∙ h.seats;
  each = λ n j e. (let g = got_journal s.seats n j e in subst (λ (k : Journal). IsRunOf p.config rules n k) g.2 (seat_runs rules p n g.0 (h.each n g.0 g.1)));
}

-- ---- scripts

follows_all : (rules : Rules) (p : Plan) (n : ℕ) (x : Seat) → IsSeatOf rules p n x → Follows (script_of p n) [] x.node.entries x.cue
follows_all rules p n x h = subst (λ (xs : List JournalEntry). Follows (script_of p n) [] xs x.cue) (sym h.acting.all) h.acting.follows

no_script : IsScripted [] []
unfolding items_in
no_script = record { rest = []; taken = refl; played = refl; held_up = inl refl }

seat_scripted : (rules : Rules) (p : Plan) (n : ℕ) (s : Staged) (x : Seat) → IsSeatOf rules p n x → slice_get s.seats n ≡ Some x → Rests p n s → IsScripted (script_of p n) x.node.entries
seat_scripted rules p n s x h at rests = ends_scripted (script_of p n) x.node.entries x.cue (follows_all rules p n x h) (⊎_elim
    (λ (full : most_entries ≤ length x.node.entries). inr full)
    (λ (none : (queue_at s.queues n ≡ []) × (next_item (script_of p n) x.cue ≡ None)). inl none.1)
    (rests x at))

scripted : (rules : Rules) (p : Plan) (s : Staged) → IsSound p → IsAtRest rules p s → (n : ℕ) → IsScripted (script_of p n) (entries_of (journals_of s.seats) n)
scripted rules p s sound h n = let a = h.playing.seats in let b = sound.scripts in let c = length-map s.seats journal_of in ⊎_elim
    (λ (l : n < p.config.nodes). (
    let g = got_some s.seats n (omega arith) in
    subst (λ (xs : List JournalEntry). IsScripted (script_of p n) xs) (sym (seat_entries s.seats n g.0 g.1)) (seat_scripted rules p n s g.0 (h.playing.each n g.0 g.1) g.1 (h.rests n l))))
    (λ (l : p.config.nodes ≤ n).
    subst (λ (xs : List JournalEntry). IsScripted (script_of p n) xs) (sym (no_entries_past (journals_of s.seats) n (omega arith)))
    (subst (λ (script : List PlanItem). IsScripted script []) (sym (no_script_past p n (omega arith))) no_script))
    (cases_lt n p.config.nodes)

-- ---- order

no_calls : ascends nat_lt (numbers_of_calls []) ≡ true
unfolding numbers_of_calls
no_calls = refl

rising : (rules : Rules) (p : Plan) (s : Staged) → IsPlaying rules p s → (n : ℕ) → ascends nat_lt (numbers_of_calls (entries_of (journals_of s.seats) n)) ≡ true
rising rules p s h n = let a = h.seats in let c = length-map s.seats journal_of in ⊎_elim
    (λ (l : n < p.config.nodes). (
    let g = got_some s.seats n (omega arith) in
    subst (λ (xs : List JournalEntry). ascends nat_lt (numbers_of_calls xs) ≡ true) (sym (seat_entries s.seats n g.0 g.1)) (follows_rising (script_of p n) g.0.node.entries g.0.cue (follows_all rules p n g.0 (h.each n g.0 g.1)))))
    (λ (l : p.config.nodes ≤ n). subst (λ (xs : List JournalEntry). ascends nat_lt (numbers_of_calls xs) ≡ true) (sym (no_entries_past (journals_of s.seats) n (omega arith))) no_calls)
    (cases_lt n p.config.nodes)

in_order : (rules : Rules) (p : Plan) (s : Staged) → IsPlaying rules p s → AreInOrder (journals_of s.seats)
in_order rules p s h = grows_in_order (journals_of s.seats) s.queues s.ticket h.way (rising rules p s h) (let a = h.count in let b = h.few in omega arith)

pub are_played : (rules : Rules) (p : Plan) (s : Staged) (js : List Journal) → IsSound p → IsAtRest rules p s → js ≡ journals_of s.seats → ArePlayed rules p js
are_played rules p s js sound h is =
    subst (λ (ks : List Journal). ArePlayed rules p ks) (sym is) (record { runs = runs rules p s h.playing; scripted = scripted rules p s sound h; in_order = in_order rules p s h.playing })

-- ---- arrivals

no_message : (rules : Rules) (p : Plan) (s : Staged) → IsAtRest rules p s → ((n : ℕ) → length (entries_of (journals_of s.seats) n) < most_entries) → (n : ℕ) → queue_at s.queues n ≡ []
no_message rules p s h few n = let a = h.playing.seats in let c = length-map s.seats journal_of in let d = h.playing.way.queues in ⊎_elim
    (λ (l : n < p.config.nodes). (
    let g = got_some s.seats n (omega arith) in
    ⊎_elim
    (λ (full : most_entries ≤ length g.0.node.entries). absurd (let e = ap (λ (xs : List JournalEntry). length xs) (seat_entries s.seats n g.0 g.1) in let f = few n in omega arith))
    (λ (none : (queue_at s.queues n ≡ []) × (next_item (script_of p n) g.0.cue ≡ None)). none.0)
    (h.rests n l g.0 g.1)))
    (λ (l : p.config.nodes ≤ n). no_queue_past s.queues n (omega arith))
    (cases_lt n p.config.nodes)

pub have_arrived : (rules : Rules) (p : Plan) (s : Staged) (js : List Journal) → IsAtRest rules p s → js ≡ journals_of s.seats → AllHaveArrived js
have_arrived rules p s js h is =
    subst (λ (ks : List Journal). AllHaveArrived ks) (sym is) (λ few. (let e = all_arrives (journals_of s.seats) s.queues s.ticket h.playing.way (no_message rules p s h few) in omega arith))

-- where nothing was played
nothing_left : AllHaveArrived []
unfolding all_entries count_sent count_arrived
nothing_left few = refl

pub none_left : (js : List Journal) → js ≡ [] → AllHaveArrived js
none_left js is = subst (λ (ks : List Journal). AllHaveArrived ks) (sym is) nothing_left
