-- Journals that are worked out, of the two nodes of ct_journal: in order, and so that messages overtake one another and one comes
-- twice.
use Rattle.std.specs.Prelude.{ℕ, List, [], ◌∷◌, codes}
use Rattle.ct_call.specs.Rules.{Rules}
use Rattle.ct_values.specs.declared.client.ClientOp.TheVariants as op
use Rattle.ct_values.specs.declared.config.Config.{Config}
use Rattle.ct_frame.specs.declared.event.Event.TheVariants as event
use Rattle.ct_frame.specs.declared.event.Out.TheVariants as out
use Rattle.ct_frame.specs.declared.frame.CallKind.TheVariants as kind
use Rattle.ct_frame.specs.declared.frame.Frame.{Frame}
use Rattle.ct_frame.specs.declared.frame.Msg.TheVariants as msg
use Rattle.ct_journal.specs.Worked.{asks, noted, recalls, told}
use Rattle.ct_journal.specs.declared.journal.Journal.{Journal}
use Rattle.ct_law_journal_schedule.specs.Laws.{AreRuns}
use Rattle.ct_law_journal_reach.specs.Counts.{AreNotTooMany, HaveOwnTickets}
use Rattle.ct_rules_config.specs.Configured.{IsConfig}

-- node 1 asks node 0 for another record, too
abbrev pub asks_too : Frame
asks_too = told 1 0 (msg.Call 1 (codes "d") 2 kind.Lock)

-- node 0 recalls that record from itself
abbrev pub recalls_too : Frame
recalls_too = told 0 0 (msg.Recall 1 (codes "d") 0 1 2 kind.Lock)

-- the journal of node 0: it is asked for the record
abbrev pub first_straight : Journal
first_straight = record { node = 0; entries = noted (event.Arrive asks) (out.Send recalls) ∷ [] }

-- the journal of node 1: a client writes
abbrev pub second_straight : Journal
second_straight = record { node = 1; entries = noted (event.Client 1 (op.Write 1 (codes "b") (codes "y"))) (out.Send asks) ∷ [] }

-- journals in order: a client of node 1 writes, and node 0 is asked for the record
abbrev pub straight_journals : List Journal
straight_journals = first_straight ∷ second_straight ∷ []

-- the journal of node 0: what node 1 asked last comes first, and then what it asked first, twice
abbrev pub first_crossed : Journal
first_crossed = record {
  node = 0;
  entries =
      noted (event.Arrive asks_too) (out.Send recalls_too) ∷
      noted (event.Arrive asks) (out.Send recalls) ∷
      noted (event.Arrive asks) (out.Send recalls) ∷
      [];
}

-- the journal of node 1: two clients write
abbrev pub second_crossed : Journal
second_crossed = record {
  node = 1;
  entries =
      noted (event.Client 1 (op.Write 1 (codes "b") (codes "y"))) (out.Send asks) ∷
      noted (event.Client 2 (op.Write 1 (codes "d") (codes "z"))) (out.Send asks_too) ∷
      [];
}

abbrev pub crossed_journals : List Journal
crossed_journals = first_crossed ∷ second_crossed ∷ []

-- what is asked of journals that are joined
pub record MayJoin (c : Config) (rules : Rules) (js : List Journal) : Type 0 where
  pub config : IsConfig c
  pub runs : AreRuns c rules js
  pub few : AreNotTooMany js
  pub tickets : HaveOwnTickets js
