-- A node of a plan that follows its script.
use Rattle.std.specs.Prelude.{◌≡◌, ℕ, ◌+◌, Bool, true, false, List, [], ◌∷◌, ◌++◌, None}
use Rattle.std.specs.List.{list_all}
use Rattle.ct_actor.specs.Acting.{IsActing}
use Rattle.ct_call.specs.Rules.{Rules}
use Rattle.ct_script.specs.Cues.{next_item}
use Rattle.ct_frame.specs.declared.event.Event.{Event}
use Rattle.ct_frame.specs.declared.event.Event.TheVariants as event
use Rattle.ct_frame.specs.declared.event.Out.{Out}
use Rattle.ct_script.specs.declared.plan.Plan.{Plan}
use Rattle.ct_law_form.specs.Whole.{is_sound_out}
use Rattle.ct_script.specs.Sound.{script_of}
use Rattle.ct_rules_node.specs.Node.{is_among}
use Rattle.ct_actor.specs.declared.seat.Seat.{Seat}

-- Turns: this is node n of the plan, run by these rules, which has followed its script from its opening on
pub record IsSeatOf (rules : Rules) (p : Plan) (n : ℕ) (s : Seat) : Type 0 where
  pub config : s.node.core.config ≡ p.config
  pub own : s.node.core.pnn ≡ n
  pub acting : IsActing rules (script_of p n) [] s.node s.cue

-- Turns: node n of the plan takes an event: its journal has one entry more, and what it does is sound
pub record TakesEvent (rules : Rules) (p : Plan) (n : ℕ) (e : Event) (old new : Seat) : Type 0 where
  pub seat : IsSeatOf rules p n new
  pub outs : List Out
  pub put : new.node.entries ≡ old.node.entries ++ record { event = e; outs = outs } ∷ []
  pub sound : list_all (is_sound_out p.config n) outs ≡ true

-- Turns: this is what node n may take of its script after this last ticket: a call, or a round with the next ticket, of which it
-- is a member
unfoldable pub IsItem : ℕ → ℕ → Event → Type 0
IsItem n last (event.Client call o) = Unit {0}
IsItem n last (event.BeginRound ticket members) = (ticket ≡ last + 1) × (is_among n members ≡ true)
IsItem n last (event.Arrive f) = ⊥
IsItem n last event.Retry = ⊥
IsItem n last (event.Vacuum db) = ⊥
IsItem n last (event.BeginTakeover able) = ⊥

-- Turns: node n of the plan takes its next item, or there is none to take, and then nothing is changed
abbrev pub TakesItem : Rules → Plan → ℕ → ℕ → Bool → Seat → Seat → Type 0
TakesItem rules p n last true old new = (e : Event) × IsItem n last e × TakesEvent rules p n e old new
TakesItem rules p n last false old new = (next_item (script_of p n) old.cue ≡ None) × (new ≡ old)
