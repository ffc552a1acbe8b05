-- Words of the libraries below, handed on to the crates above.
pub use Rattle.ct_actor.specs.Journalled.{Journalled, at_opening}
unfoldable pub use Rattle.ct_actor.specs.Journalled.{IsRunBy}
pub use Rattle.ct_actor.specs.Seats.{IsSeatOf, TakesEvent, TakesItem}
pub use Rattle.ct_actor.specs.declared.seat.Seat.{Seat}
