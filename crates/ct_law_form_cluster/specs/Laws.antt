-- What is asked of the number of a client's call can be met: the calls that wait at a node have numbers below one that only
-- grows.
use Rattle.std.specs.Prelude.{◌≡◌, ℕ, ◌≤◌, nat_lt, Bool, true, List}
use Rattle.ct_values.specs.declared.config.Config.{Config}
use Rattle.ct_frame.specs.declared.event.Event.{Event}
use Rattle.ct_frame.specs.declared.event.Event.TheVariants as event
use Rattle.ct_call.specs.Rules.{Rules}
use Rattle.ct_rules_node.specs.Coming.{is_after_pending}
use Rattle.ct_rules_node.specs.Node.{Node, opening, restarted}
use Rattle.ct_rules_node.specs.Steps.{happens}
use Rattle.ct_rules_node.specs.Turn.{Turn}

-- does the event, where it is a client's call, have a number below this one?
unfoldable pub asks_below : ℕ → Event → Bool
asks_below b (event.Client call o) = nat_lt call b
asks_below b _ = true

-- where all calls that wait have numbers below this one, and the call that comes, all that wait then have
abbrev pub CallsStayBelow : Type 0
CallsStayBelow = (c : Config) (rules : Rules) (me b : ℕ) (t : Turn) (e : Event) → asks_below b e ≡ true → is_after_pending b t.node ≡ true → is_after_pending b (happens c rules me t e).node ≡ true

-- and so below every greater number
abbrev pub CallsStayBelowMore : Type 0
CallsStayBelowMore = (b d : ℕ) (n : Node) → b ≤ d → is_after_pending b n ≡ true → is_after_pending d n ≡ true

-- at the opening no call waits
abbrev pub NoneWaitsAtOpening : Type 0
NoneWaitsAtOpening = (c : Config) (members : List ℕ) (b : ℕ) → is_after_pending b (opening c members) ≡ true

-- nor after a stop
abbrev pub NoneWaitsAfterStop : Type 0
NoneWaitsAfterStop = (c : Config) (n : Node) (b : ℕ) → is_after_pending b (restarted c n) ≡ true
