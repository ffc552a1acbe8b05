-- Words of the libraries below, handed on to the crates above.
unfoldable pub use Rattle.ct_register.specs.Handed.{want_again, want_again_of}
unfoldable pub use Rattle.ct_register.specs.Register.{reading}
pub use Rattle.ct_register.specs.Register.{Register}
