-- Words of the libraries below, handed on to the crates above.
pub use Rattle.ct_world.specs.World.{Applies}
