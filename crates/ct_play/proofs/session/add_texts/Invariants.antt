use Rattle.std.proofs.Common.{◌≡◌, ◌++◌, map, drop}
use Rattle.ct_traverse_parts.specs.Text.{pending_traverse_text}
use Rattle.ct_play.proofs.session.add_texts.Given as goal

-- the texts so far, and those of the traverses that are left
abbrev pub invariant-loop-traverse : goal.invariant-loop-traverse
invariant-loop-traverse l = l.texts.items ++ map (pending_traverse_text l.config) (drop l.traverse-index l.traverses) ≡ l.fn.texts.items ++ map (pending_traverse_text l.config) l.traverses
