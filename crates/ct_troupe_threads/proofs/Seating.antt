-- A node that serves over a hub.
use Rattle.std.proofs.Common.{◌≡◌, ◌∙◌, ℕ, ◌+◌, ◌<◌, ◌≤◌, ◌-◌, ◌^◌, Bool, List, [], ◌∷◌, ◌++◌, Option, None, Some, Result, Ok, Err, true, false, ◌⊎◌, inl, inr, refl, sym, ap, subst, arith}
use Rattle.std.proofs.lemmas.Bool.{false≢true, leb-true}
use Rattle.std.proofs.lemmas.List.{append-nil}
use Rattle.std.specs.Prelude.{IfOk, IfSome, IsErr, length, nat_le}
use Rattle.ct_values.specs.declared.memory.NoMemory.{NoMemory}
use Rattle.ct_call.specs.Rules.{Rules}
use Rattle.ct_script.specs.Cues.{first_cue, most_entries, next_item}
use Rattle.ct_script.specs.declared.cue.Cue.{Cue}
use Rattle.ct_script.specs.Sound.{script_of}
use Rattle.ct_frame.specs.declared.event.Event.{Event}
use Rattle.ct_script.specs.declared.plan.Plan.{Plan}
use Rattle.ct_script.specs.declared.plan.PlanItem.{PlanItem}
use Rattle.ct_journal.specs.declared.journal.Journal.{Journal}
use Rattle.ct_journal.specs.declared.journal.JournalEntry.{JournalEntry}
use Rattle.ct_law_journal_growing.specs.Following.{Follows}
use Rattle.ct_law_journal_growing.proofs.Following.{ends_scripted, follows_first}
use Rattle.ct_outside.specs.Told.{Lists}
use Rattle.ct_actor_serving.specs.Handed.{IsRunBy, Journalled, at_opening}
use Rattle.ct_actor_serving.specs.Handed.{IsSeatOf, TakesEvent, TakesItem}
use Rattle.ct_actor_serving.specs.Handed.{Seat}
use Rattle.ct_actor_serving.proofs.Handed.{run_of, starts_run}
use Rattle.ct_actor_serving.specs.Turns.{made_in, may_all_turn, passes_over}
use Rattle.ct_actor_serving.specs.declared.fault.Until.TheVariants as until
use Rattle.ct_actor_serving.proofs.Turns.{IsTurning, may_begin, turning_first, turning_next}
use Rattle.ct_troupe_threads.specs.Seated.{ServesInTurns, StaysSeated}
use Rattle.ct_troupe_threads.specs.Threaded.{HasServed}

-- ---- a step

-- a seat that takes an event stays that of its node
pub took_event : (rules : Rules) (p : Plan) (n : ℕ) (e : Event) (old new : Seat) → TakesEvent rules p n e old new → StaysSeated rules p n old new
took_event rules p n e old new h = record { seat = h.seat; since = record { event = e; outs = h.outs } ∷ []; all = h.put }

-- so does one at which nothing happens
pub stays_same : (rules : Rules) (p : Plan) (n : ℕ) (x : Seat) → IsSeatOf rules p n x → StaysSeated rules p n x x
stays_same rules p n x h = record { seat = h; since = []; all = sym (append-nil x.node.entries) }

-- and one that takes an item, or finds none
pub took_item : (rules : Rules) (p : Plan) (n last : ℕ) (some : Bool) (old new : Seat) → IsSeatOf rules p n old → TakesItem rules p n last some old new → StaysSeated rules p n old new
took_item rules p n last true old new seat h = took_event rules p n h.0 old new h.2
took_item rules p n last false old new seat h = subst (λ (x : Seat). StaysSeated rules p n old x) (sym h.1) (stays_same rules p n old seat)

-- where there is no next item of what is the script of the node, it has none to take
pub none_next : (p : Plan) (n : ℕ) (script : List PlanItem) (c : Cue) → script ≡ script_of p n → next_item script c ≡ None → next_item (script_of p n) c ≡ None
none_next p n script c is none = subst (λ (s : List PlanItem). next_item s c ≡ None) is none

-- ---- turn by turn

-- so many turns were made since its opening, and the gate was passed before each
pub record IsServing (rules : Rules) (p : Plan) (n number : ℕ) (x : Seat) (old new : Option (List (ℕ × ℕ))) : Type 0 where
  pub seat : IsSeatOf rules p n x
  pub turning : IsTurning (until.Entries most_entries) (script_of p n) number (at_opening n p.config) x.node x.cue None None old new

-- a node at its opening has taken nothing of its script
opened_seat : (rules : Rules) (p : Plan) (n : ℕ) (x : Seat) → x.node ≡ at_opening n p.config → x.cue ≡ first_cue [] → IsSeatOf rules p n x
opened_seat rules p n x node cue = record {
  config = ap (λ (y : Journalled). y.core.config) node;
  own = ap (λ (y : Journalled). y.core.pnn) node;
  acting = record {
    run = subst (λ (y : Journalled). IsRunBy rules y) (sym node) (starts_run rules n p.config);
    since = [];
    all = ap (λ (y : Journalled). y.entries) node;
    follows = subst (λ (c : Cue). Follows (script_of p n) [] [] c) (sym cue) (follows_first (script_of p n) []);
  };
}

pub serving_first : (rules : Rules) (p : Plan) (n : ℕ) (x : Seat) (o : Option (List (ℕ × ℕ))) → x.node ≡ at_opening n p.config → x.cue ≡ first_cue [] → IsServing rules p n 0 x o o
serving_first rules p n x o node cue = record {
  seat = opened_seat rules p n x node cue;
  turning = subst (λ (y : Journalled). IsTurning (until.Entries most_entries) (script_of p n) 0 (at_opening n p.config) y x.cue None None o o) (sym node)
      (turning_first (until.Entries most_entries) (script_of p n) (at_opening n p.config) x.cue None o cue);
}

pub serving_next : (rules : Rules) (p : Plan) (n number : ℕ) (full : Bool) (x y : Seat) (old mid new : Option (List (ℕ × ℕ))) →
    IsServing rules p n number x old mid → number < 2 ^ 64 - 1 → full ≡ nat_le most_entries (length x.node.entries) → full ≡ false
    → Lists ((n, number) ∷ []) mid new → StaysSeated rules p n x y → IsServing rules p n (number + 1) y old new
serving_next rules p n number full x y old mid new h less is free pass stays = record {
  seat = stays.seat;
  turning = turning_next (until.Entries most_entries) rules (script_of p n) number (at_opening n p.config) x.node y.node x.cue y.cue None None None old mid new stays.since
      h.turning stays.seat.acting stays.all (may_begin (until.Entries most_entries) number (2 ^ 64 - 1) (length x.node.entries) full refl less is free) tt pass;
}

-- ---- at the end

served_by : (rules : Rules) (p : Plan) (n : ℕ) (x : Seat) (j : Journal) → IsSeatOf rules p n x → (next_item (script_of p n) x.cue ≡ None) ⊎ (most_entries ≤ length x.node.entries) → j ≡ record { node = x.node.core.pnn; entries = x.node.entries } → HasServed rules p n j
served_by rules p n x j h end is = subst (λ (k : Journal). HasServed rules p n k) (sym is) (record {
  run = record { node = h.own; end = x.node.core.node; runs = run_of rules p.config x.node h.config h.acting.run };
  scripted = ends_scripted (script_of p n) x.node.entries x.cue (subst (λ (xs : List JournalEntry). Follows (script_of p n) [] xs x.cue) (sym h.acting.all) h.acting.follows) end;
})

-- one that has nothing to take has served
pub rested_served : (rules : Rules) (p : Plan) (n : ℕ) (x : Seat) (j : Journal) → IsSeatOf rules p n x → next_item (script_of p n) x.cue ≡ None → j ≡ record { node = x.node.core.pnn; entries = x.node.entries } → HasServed rules p n j
rested_served rules p n x j h none made = served_by rules p n x j h (inl none) made

-- and so has one whose journal has all its entries
pub full_served : (rules : Rules) (p : Plan) (n : ℕ) (x : Seat) (j : Journal) (full : Bool) → IsSeatOf rules p n x → full ≡ nat_le most_entries (length x.node.entries) → full ≡ true → j ≡ record { node = x.node.core.pnn; entries = x.node.entries } → HasServed rules p n j
full_served rules p n x j full h told is made = served_by rules p n x j h (inr (leb-true most_entries (length x.node.entries) (sym told ∙ is))) made

none_listed : (o : Option (List (ℕ × ℕ))) → Lists [] o o
none_listed None = tt
none_listed (Some ps) = sym (append-nil ps)

-- where a node could not begin, no turn was made
pub none_made : (n : ℕ) (r : Result (Option Journal) NoMemory) (o : Option (List (ℕ × ℕ))) → IsErr r → ServesInTurns n r o o
unfolding may_all_turn passes_over
none_made n (Ok a) o h = absurd (false≢true h)
none_made n (Err e) o h = record { turns = []; began = refl; passes = none_listed o; all = tt }

-- the turns of a node that served, and what it leaves
pub turns_left : (rules : Rules) (p : Plan) (n number : ℕ) (x : Seat) (r : Result (Option Journal) NoMemory) (old new : Option (List (ℕ × ℕ))) →
    IsServing rules p n number x old new → IfOk r (λ o. IfSome o (λ j. j.entries ≡ x.node.entries)) → ServesInTurns n r old new
turns_left rules p n number x (Ok (Some j)) old new h all = record { turns = h.turning.turns; began = h.turning.began; passes = h.turning.passes; all = all ∙ h.turning.all }
turns_left rules p n number x (Ok None) old new h all = record { turns = h.turning.turns; began = h.turning.began; passes = h.turning.passes; all = tt }
turns_left rules p n number x (Err e) old new h all = record { turns = h.turning.turns; began = h.turning.began; passes = h.turning.passes; all = tt }
