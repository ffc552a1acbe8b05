-- What went through an end of a queue so far, and which queue it is an end of.
use Rattle.std.specs.Prelude.{List}
use Rattle.atomic_table.specs.Seated.{TableId}
use Rattle.crossbeam_queue.specs.Passes.{view}
use Rattle.ct_bus.specs.declared.message.Message.{Message}
use Rattle.ct_bus.specs.declared.ends.PostEnd.{PostEnd}
use Rattle.ct_bus.specs.declared.ends.TakeEnd.{TakeEnd}

-- what was posted
abbrev pub posted_to : PostEnd → List Message
posted_to e = (view e.pass).posted

-- what was taken
abbrev pub taken_from : TakeEnd → List Message
taken_from e = (view e.pass).taken

-- the queue to which is posted
abbrev pub into_queue : PostEnd → TableId
into_queue e = e.pass.table_id

-- the queue of which is taken
abbrev pub out_queue : TakeEnd → TableId
out_queue e = e.pass.table_id
