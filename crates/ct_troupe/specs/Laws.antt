-- What holds of every play of columns.
use Rattle.std.specs.Prelude.{◌≡◌, ℕ, nat_eq, Bool, true, List}
use Rattle.std.specs.List.{list_all}
use Rattle.ct_call.specs.Rules.{Rules}
use Rattle.ct_frame.specs.declared.event.Event.{Event}
use Rattle.ct_frame.specs.declared.event.Event.TheVariants as event
use Rattle.ct_script.specs.declared.plan.Plan.{Plan}
use Rattle.ct_journal.specs.Order.{entries_of}
use Rattle.ct_journal.specs.declared.journal.Journal.{Journal}
use Rattle.ct_values.specs.declared.config.Config.{Config}
use Rattle.ct_troupe.specs.Played.{ArePlayed}
use Rattle.ct_chain.specs.Chains.{chain_of}
use Rattle.ct_chain.specs.Cut.{cut_one}

-- is the event no call of a client, or one of this chain?
unfoldable pub keeps_chain : Config → ℕ → ℕ → Event → Bool
keeps_chain c chains i (event.Client call o) = nat_eq (chain_of c chains o) i
keeps_chain c chains i _ = true

-- Columns: each call in the journals of a play of column i has the chain i
abbrev pub ColumnsKeepTheirChain : Type 0
ColumnsKeepTheirChain =
    (rules : Rules) (p : Plan) (chains i : ℕ) (js : List Journal) → ArePlayed rules (cut_one p chains i) js → (n : ℕ) → list_all (λ x. keeps_chain p.config chains i x.event) (entries_of js n) ≡ true
