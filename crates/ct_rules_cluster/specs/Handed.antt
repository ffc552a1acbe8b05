-- Words of the libraries below, handed on to the crates above.
pub use Rattle.ct_rules.specs.State.{nothing_kept}
pub use Rattle.ct_rules.specs.declared.state.RecState.{RecState}
unfoldable pub use Rattle.ct_rules_node.specs.Node.{assigned_all, db_at, has_records, holder_in, is_among, is_persistent, kind_at, name_of, opening, or_nothing, or_untouched, state_at, untouched, untouched_all}
pub use Rattle.ct_rules_node.specs.Node.{Database, Node}
unfoldable pub use Rattle.ct_rules_node.specs.Rounds.{installed_state, want_again, want_again_of}
