-- Words of the libraries below, handed on to the crates above.
unfoldable pub use Rattle.ct_rules_cluster.specs.Handed.{installed_state, is_among, want_again, want_again_of}
