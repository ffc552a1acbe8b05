-- Vacuum: key by key.
use Rattle.std.specs.Prelude.{ℕ, Bool, List, [], ◌∷◌}
use Rattle.std.specs.List.{filter}
use Rattle.ct_values.specs.Words.{others}
use Rattle.ct_node_database.specs.Noted.{is_deleted}
use Rattle.ct_values.specs.declared.config.Config.{Config}
use Rattle.ct_rules.specs.Moves.{vacuum}
use Rattle.ct_rules_node.specs.Node.{Node, state_at}
use Rattle.ct_rules_node.specs.Records.{at_record}
use Rattle.ct_rules_node.specs.Turn.{Turn}

-- Vacuum of one key
unfoldable pub vacuum_key : Config → ℕ → ℕ → List ℕ → Turn → Turn
vacuum_key c me db key t = at_record c me db key (λ at o. vacuum at (others me t.node.members) o) t

-- that of each of these keys, in order
unfoldable pub vacuum_keys : Config → ℕ → ℕ → List (List ℕ) → Turn → Turn
vacuum_keys c me db [] t = t
vacuum_keys c me db (key ∷ keys) t = vacuum_keys c me db keys (vacuum_key c me db key t)

-- is the record of this key a deleted one?
abbrev pub is_deleted_at : ℕ → Node → List ℕ → Bool
is_deleted_at db n key = is_deleted (state_at db key n).copy

-- those of these keys whose records are deleted ones
abbrev pub deleted_of : ℕ → Node → List (List ℕ) → List (List ℕ)
deleted_of db n keys = filter (is_deleted_at db n) keys
