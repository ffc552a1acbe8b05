-- Labels of addresses and of commits are accepted where what they need holds.
use Rattle.std.proofs.Common.{◌≡◌, ◌≢◌, ℕ, ◌+◌, true, List, Option, None, Some, refl, ap}
use Rattle.ct_values.specs.declared.address.Address.{Address}
use Rattle.ct_values.specs.declared.client.Answer.TheVariants as answer
use Rattle.ct_values.specs.declared.client.ClientOp.TheVariants as op
use Rattle.ct_values.specs.declared.client.Pair.{Pair}
use Rattle.ct_values.specs.declared.config.Config.{Config}
use Rattle.ct_values.specs.declared.config.DbKind.{DbKind}
use Rattle.ct_values.specs.declared.config.DbKind.TheVariants.{Persistent}
use Rattle.ct_frame.specs.declared.event.Note.TheVariants as note
use Rattle.ct_frame.specs.declared.frame.Assigned.{Assigned}
use Rattle.ct_call.specs.Rules.{Rules}
use Rattle.ct_rules_cluster.specs.Labels.{Answered, Begun, Noted, Pushed, Takeover, Taken}
use Rattle.ct_rules_node.specs.Node.{is_persistent, kind_at}
use Rattle.ct_register.specs.Words.{at}
use Rattle.ct_register.specs.Placing.{given_placement}
use Rattle.ct_register.specs.Lines.{Lines}
use Rattle.ct_register.specs.Legal.{AcceptsLabel}
use Rattle.ct_law_registers.proofs.Parts.{Choice, goes, answer_goes, note_goes, database_goes, run_of, began, DatabasesNeed, PlacesNeed}

-- ---- addresses

pub took_accepted : (config : Config) (rules : Rules) (x : Choice) (r : Lines) (n : ℕ) (a : Address) → PlacesNeed config r (Noted n (note.Took a)) → AcceptsLabel config rules r (Noted n (note.Took a)) (goes config x (Noted n (note.Took a)) r)
unfolding PlacesNeed goes note_goes
took_accepted config rules x r n a h = (h.0, h.1, h.2, refl)

pub released_accepted : (config : Config) (rules : Rules) (x : Choice) (r : Lines) (n : ℕ) (a : Address) → PlacesNeed config r (Noted n (note.Released a)) → AcceptsLabel config rules r (Noted n (note.Released a)) (goes config x (Noted n (note.Released a)) r)
unfolding PlacesNeed goes note_goes
released_accepted config rules x r n a h = (h, refl)

pub pushed_accepted : (config : Config) (rules : Rules) (x : Choice) (r : Lines) (g : ℕ) (xs : List Assigned) → PlacesNeed config r (Pushed g xs) → AcceptsLabel config rules r (Pushed g xs) (goes config x (Pushed g xs) r)
unfolding PlacesNeed goes
pushed_accepted config rules x r g xs h = (h.0, record (r.placing g) { pushed = Some xs }, (h.1, refl), refl)

pub taken_accepted : (config : Config) (rules : Rules) (x : Choice) (r : Lines) (n g number : ℕ) (xs : List Assigned) → PlacesNeed config r (Taken n g number xs) → AcceptsLabel config rules r (Taken n g number xs) (goes config x (Taken n g number xs) r)
unfolding PlacesNeed goes
taken_accepted config rules x r n g number xs h =
    (h.0, (h.1, record (r.placing (r.line n)) { taken = at number (Some xs) (r.placing (r.line n)).taken; last = Some xs }, (h.2.0, h.2.1, h.2.2, refl), refl))

-- where something was pushed, a run begins with the last placement
run_accepted : (config : Config) (rules : Rules) (x : Choice) (r : Lines) (n : ℕ) (able : List ℕ) (given : Option (List Assigned)) → given_placement (r.placing (r.line n)).pushed (r.placing (r.line n)).last ≡ given →
    r.line n ≢ 0 → given ≢ None → AcceptsLabel config rules r (Takeover n able) (goes config x (Takeover n able) r)
unfolding goes run_of
run_accepted config rules x r n able None is line some = absurd (some refl)
run_accepted config rules x r n able (Some given) is line some = (
  line,
  began (r.members (r.line n)) able (r.placing (r.line n)),
  (
    given,
    is,
    ap (λ (o : Option (List Assigned)). record (r.placing (r.line n)) {
      begun = (r.placing (r.line n)).begun + 1;
      runs = at ((r.placing (r.line n)).begun + 1) (run_of o able (r.members (r.line n))) (r.placing (r.line n)).runs;
    }) is,
  ),
  refl,
)

pub takeover_accepted : (config : Config) (rules : Rules) (x : Choice) (r : Lines) (n : ℕ) (able : List ℕ) → PlacesNeed config r (Takeover n able) → AcceptsLabel config rules r (Takeover n able) (goes config x (Takeover n able) r)
unfolding PlacesNeed
takeover_accepted config rules x r n able h = run_accepted config rules x r n able (given_placement (r.placing (r.line n)).pushed (r.placing (r.line n)).last) refl h.0 h.1

-- ---- commits

pub begun_accepted : (config : Config) (rules : Rules) (x : Choice) (r : Lines) (n db : ℕ) (ws : List Pair) → DatabasesNeed config x r (Begun n db ws) → AcceptsLabel config rules r (Begun n db ws) (goes config x (Begun n db ws) r)
unfolding DatabasesNeed goes
begun_accepted config rules x r n db ws h = (h.0.0, h.0.1, _, (h.1, h.0.2, refl), refl)

pub persistent : (k : Option DbKind) → k ≡ Some Persistent → is_persistent k ≡ true
unfolding is_persistent
persistent k e = ap is_persistent e

pub committed_accepted : (config : Config) (rules : Rules) (x : Choice) (r : Lines) (n db number : ℕ) (ws : List Pair) → DatabasesNeed config x r (Answered n (op.Commit db ws) (answer.Committed number)) →
    AcceptsLabel config rules r (Answered n (op.Commit db ws) (answer.Committed number)) (goes config x (Answered n (op.Commit db ws) (answer.Committed number)) r)
unfolding DatabasesNeed goes answer_goes database_goes
committed_accepted config rules x r n db number ws h = rw (persistent (kind_at config db) h.1.1) (h.0, h.2, (h.1.0, h.1.1, _, (h.1.2, refl), refl))

pub unsure_accepted : (config : Config) (rules : Rules) (x : Choice) (r : Lines) (n db number : ℕ) (ws : List Pair) (missing : List ℕ) → DatabasesNeed config x r (Answered n (op.Commit db ws) (answer.Unsure number missing)) →
    AcceptsLabel config rules r (Answered n (op.Commit db ws) (answer.Unsure number missing)) (goes config x (Answered n (op.Commit db ws) (answer.Unsure number missing)) r)
unfolding DatabasesNeed goes answer_goes database_goes
unsure_accepted config rules x r n db number ws missing h = rw (persistent (kind_at config db) h.1.1) (h.0, tt, (h.1.0, h.1.1, _, (h.1.2, h.2, refl), refl))
