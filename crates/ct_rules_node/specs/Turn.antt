-- The middle of a node's step.
use Rattle.std.specs.Prelude.{ℕ, ◌^◌, nat_le, Bool, false, ◌||◌, List, [], ◌∷◌, ◌++◌}
use Rattle.ct_values.specs.declared.client.Answer.{Answer}
use Rattle.ct_frame.specs.declared.event.Note.{Note}
use Rattle.ct_frame.specs.declared.event.Out.{Out}
use Rattle.ct_frame.specs.declared.event.Out.TheVariants as out
use Rattle.ct_frame.specs.declared.frame.Msg.{Msg}
use Rattle.ct_rules_node.specs.Node.{Node, Lead, Phase}

-- the middle of a step: the node, what it does, in order, and whether a number of this step reached 2^62
pub record Turn : Type 0 where
  pub node : Node
  pub outs : List Out
  pub spent : Bool

-- the node does this after all else
unfoldable pub does : Out → Turn → Turn
does x t = record t { outs = t.outs ++ x ∷ [] }

-- the step goes on with this node
unfoldable pub with_node : Node → Turn → Turn
with_node n t = record t { node = n }

-- the node leads this from now on
unfoldable pub with_lead : Lead → Turn → Turn
with_lead l t = record t { node = record t.node { lead = l } }

-- the node's phase is this from now on
unfoldable pub with_phase : Phase → Turn → Turn
with_phase p t = record t { node = record t.node { phase = p } }

-- Numbers: this number is made; where it reaches 2^62 the whole step is refused
unfoldable pub makes : ℕ → Turn → Turn
makes number t = record t { spent = t.spent || nat_le (2 ^ 62) number }

-- a client's call is answered
unfoldable pub answers : ℕ → Answer → Turn → Turn
answers call a t = does (out.Answer call a) t

-- the node notes something
unfoldable pub notes : Note → Turn → Turn
notes n t = does (out.Note n) t

-- a message of a generation is sent by this node
unfoldable pub posts : ℕ → ℕ → ℕ → Msg → Turn → Turn
posts g me receiver m t = does (out.Send (record { generation = g; sender = me; receiver = receiver; msg = m })) t

-- the same message is sent to several nodes, in order
unfoldable pub posts_all : ℕ → ℕ → List ℕ → Msg → Turn → Turn
posts_all g me [] m t = t
posts_all g me (n ∷ ns) m t = posts_all g me ns m (posts g me n m t)

-- a step begins
abbrev pub begins : Node → Turn
begins n = record { node = n; outs = []; spent = false }
