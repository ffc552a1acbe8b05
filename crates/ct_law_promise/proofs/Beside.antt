-- What holds of addresses beside registers of every kind, of which those of lines are those of a cluster that lives: it goes on through
-- every step, whatever is chosen for records and for databases.
use Rattle.std.proofs.Common.{◌≡◌, ◌≢◌, ℕ, Bool, true, false, cond, List, [], ◌∷◌, refl, sym, ap, ◌∙◌, subst, arith, ⊎_elim}
use Rattle.std.specs.Prelude.{Result, Ok, Err}
use Rattle.std.proofs.lemmas.Bool.{cases_eq}
use Rattle.ct_values.specs.declared.address.Address.{Address}
use Rattle.ct_values.specs.declared.config.Config.{Config}
use Rattle.ct_frame.specs.declared.event.Note.{Note}
use Rattle.ct_frame.specs.declared.event.Note.TheVariants as note
use Rattle.ct_call.specs.Rules.{Rules}
use Rattle.ct_rules_cluster.specs.Cluster.{Cluster, opening}
use Rattle.ct_rules_cluster.specs.Faults.{is_allowed}
use Rattle.ct_rules_cluster.specs.Labels.{Label, Answered, Unasked, Begun, Noted, Ticket, Yielded, Stopped, Started, Pushed, Takeover, Taken}
use Rattle.ct_rules_cluster.specs.Steps.{Stepped, applied}
use Rattle.ct_rules_cluster.specs.declared.step.Step.{Step}
use Rattle.ct_rules_cluster.specs.declared.step.StepFault.{StepFault}
use Rattle.ct_register.proofs.Places.{at_same, at_other}
use Rattle.ct_register.specs.Lines
use Rattle.ct_promise.specs.Promises.{IsConfig}
use Rattle.ct_law_generation.specs.Waiting.{Outcome, unchanged, came_of, outcome}
use Rattle.ct_law_run.proofs.Lives.{Lives}
use Rattle.ct_law_registers.proofs.Parts.{Choice, goes, goes_on, note_goes, PlacesNeed, AllNeed}
use Rattle.ct_law_registers.proofs.Rounds.{RoundsNeed}
use Rattle.ct_law_registers.proofs.Places.{Turns}
use Rattle.ct_law_addresses.proofs.Aside.{IsAside, answer_aside}
use Rattle.ct_law_addresses.proofs.Facts.{Spots, spots, RoundsHold, MailStands, Holds}
use Rattle.ct_law_acts.proofs.Parts.{nodes_of, frames_in}
use Rattle.ct_law_promise.proofs.AddressLaw.{Before, StepHolds, step_holds}
use Rattle.ct_law_promise.specs.Addresses.{AddressesStand}
use Rattle.ct_law_promise.proofs.Given.{rounds_given, before_given}
use Rattle.ct_law_promise.proofs.Stood.{addresses_stand, opened_holds, opened_mail, opened_nowhere}
use Rattle.ct_law_promise.proofs.HeldTogether.{AreAlike, Nowhere, address_nowhere}

-- what holds of addresses in a cluster and its registers
pub record PlacesCarried (config : Config) (w : Cluster) (r : Lines.Lines) : Type 0 where
  pub turns : Turns
  pub holds : Holds config.addresses (nodes_of w) (spots r) turns
  pub mail : MailStands config.addresses (nodes_of w) (spots r) turns (frames_in w)
  pub nowhere : Nowhere r

-- so the cluster stands for them
pub places_stand : (config : Config) (w : Cluster) (r : Lines.Lines) → PlacesCarried config w r → AddressesStand w r
places_stand config w r p = addresses_stand config w r p.turns p.holds p.mail p.nowhere

pub opened_places : (config : Config) → PlacesCarried config (opening config) (Lines.opening config)
opened_places config = record { turns = λ g. 0; holds = opened_holds config; mail = opened_mail config; nowhere = opened_nowhere config }

-- ---- one step, whether it is taken or refused

pub outcome_holds : (config : Config) (rules : Rules) (x : Choice) (w : Cluster) (r : Lines.Lines) (turns : Turns) (s : Step) → Before config w r turns → StepHolds config x (outcome config rules w s).cluster r (outcome config rules w s).trace
unfolding outcome unchanged came_of goes_on AllNeed
outcome_holds config rules x w r turns s b = allowed (is_allowed s)
  where
    idle : StepHolds config x w r []
    idle = record { turns = turns; needs = tt; holds = b.ready.holds; mail = b.ready.mail }

    came : (o : Result Stepped StepFault) → applied config rules w s ≡ o → StepHolds config x (came_of w s o).cluster r (came_of w s o).trace
    came (Ok y) e = step_holds config rules x w r turns b s y e
    came (Err f) e = idle

    allowed : (c : Bool) → StepHolds config x (cond c (came_of w s (applied config rules w s)) (unchanged w)).cluster r (cond c (came_of w s (applied config rules w s)) (unchanged w)).trace
    allowed true = came (applied config rules w s) refl
    allowed false = idle

-- ---- who is in no line holds nothing

note_nowhere : (config : Config) (rules : Rules) (x : Choice) (n : ℕ) (noted : Note) (r : Lines.Lines) → PlacesNeed config r (Noted n noted) → RoundsNeed r (Noted n noted) → Nowhere r → Nowhere (goes config x (Noted n noted) r)
unfolding PlacesNeed RoundsNeed goes note_goes
note_nowhere config rules x n (note.Vacuumed db key) r need turn nowhere = nowhere
note_nowhere config rules x n (note.Ended db key) r need turn nowhere = nowhere
note_nowhere config rules x n (note.Round g members v q) r need turn nowhere = nowhere
note_nowhere config rules x n (note.Thawed g) r need turn nowhere = nowhere
note_nowhere config rules x n (note.Installed g) r need turn nowhere = λ m a z. ⊎_elim
    (λ (e : m ≡ n). absurd (let k : g ≡ 0 = sym (at_same n m g r.line e) ∙ z in let low = turn.2 in omega arith))
    (λ (ne : m ≢ n). nowhere m a (sym (at_other n m g r.line ne) ∙ z)) (cases_eq m n)
note_nowhere config rules x n (note.Released a) r need turn nowhere = address_nowhere config rules x n a false r need nowhere
note_nowhere config rules x n (note.Took a) r need turn nowhere = address_nowhere config rules x n a true r need.0 nowhere

label_nowhere : (config : Config) (rules : Rules) (x : Choice) (label : Label) (r : Lines.Lines) → PlacesNeed config r label → RoundsNeed r label → Nowhere r → Nowhere (goes config x label r)
unfolding goes IsAside
label_nowhere config rules x (Answered n asked given) r need turn nowhere = subst (λ (b : Spots). (m : ℕ) (a : Address) → b.line m ≡ 0 → b.held m a ≡ false) (sym (answer_aside config n asked given x r).1) nowhere
label_nowhere config rules x (Unasked call given) r need turn nowhere = nowhere
label_nowhere config rules x (Begun n db writes) r need turn nowhere = nowhere
label_nowhere config rules x (Noted n noted) r need turn nowhere = note_nowhere config rules x n noted r need turn nowhere
label_nowhere config rules x (Ticket g n members) r need turn nowhere = nowhere
label_nowhere config rules x (Yielded n) r need turn nowhere = nowhere
label_nowhere config rules x (Stopped n) r need turn nowhere = λ m a z. ⊎_elim
    (λ (e : m ≡ n). ap (λ (f : Address → Bool). f a) (at_same n m (λ _. false) r.held e))
    (λ (ne : m ≢ n). ap (λ (f : Address → Bool). f a) (at_other n m (λ _. false) r.held ne) ∙ nowhere m a (sym (at_other n m 0 r.line ne) ∙ z)) (cases_eq m n)
label_nowhere config rules x (Started n) r need turn nowhere = nowhere
label_nowhere config rules x (Pushed g assigned) r need turn nowhere = nowhere
label_nowhere config rules x (Takeover n able) r need turn nowhere = nowhere
label_nowhere config rules x (Taken n g number assigned) r need turn nowhere = nowhere

labels_nowhere : (config : Config) (rules : Rules) (x : Choice) (labels : List Label) (r : Lines.Lines) → AllNeed (PlacesNeed config) config x r labels → AllNeed RoundsNeed config x r labels → Nowhere r → Nowhere (goes_on config x labels r)
unfolding AllNeed goes_on
labels_nowhere config rules x [] r need turn nowhere = nowhere
labels_nowhere config rules x (label ∷ labels) r need turn nowhere = labels_nowhere config rules x labels (goes config x label r) need.1 turn.1 (label_nowhere config rules x label r need.0 turn.0 nowhere)

-- ---- the step beside any other law

-- what its labels need of addresses holds; and where they have what they need of rounds, addresses are as they should be after it
pub record PlacesGo (config : Config) (x : Choice) (o : Outcome) (r : Lines.Lines) : Type 0 where
  pub needs : AllNeed (PlacesNeed config) config x r o.trace
  pub carried : AllNeed RoundsNeed config x r o.trace → PlacesCarried config o.cluster (goes_on config x o.trace r)

pub places_go : (config : Config) (rules : Rules) (x : Choice) (w : Cluster) (r t : Lines.Lines) → Lives config rules w t → AreAlike t r → IsConfig config → PlacesCarried config w r → (s : Step) → PlacesGo config x (outcome config rules w s) r
places_go config rules x w r t lives same is p s =
    let b = before_given config rules w t r lives is p.turns
    (subst (λ (k : Spots). Holds config.addresses (nodes_of w) k p.turns) same p.holds)
    (subst (λ (k : Spots). MailStands config.addresses (nodes_of w) k p.turns (frames_in w)) same p.mail) in
    let before : Before config w r p.turns = record {
      ready = record { valid = is; holds = p.holds; mail = p.mail; rounds = subst (RoundsHold (nodes_of w) (frames_in w)) (sym same) (rounds_given config rules w t r lives) };
      there = b.there;
      lines = λ g low. ap (λ (k : Spots). k.born g) same ∙ b.lines g low;
    } in
    let g = outcome_holds config rules x w r p.turns s before in
    record {
      needs = g.needs;
      carried = λ turn. record { turns = g.turns; holds = g.holds; mail = g.mail; nowhere = labels_nowhere config rules x (outcome config rules w s).trace r g.needs turn p.nowhere };
    }
