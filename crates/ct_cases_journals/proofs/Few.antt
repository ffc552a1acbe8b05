-- A node that has taken few items may take one more.
use Rattle.std.proofs.Common.{ℕ, ◌+◌, ◌<◌, ◌^◌, arith}
use Rattle.ct_frame.specs.declared.event.Event.{Event}
use Rattle.ct_frame.specs.declared.event.Event.TheVariants as event
use Rattle.ct_script.specs.Cues.{begun}
use Rattle.ct_script.specs.declared.cue.Cue.{Cue}

pub begun_few : (e : Event) (c : Cue) → c.taken < 10 → (begun e c).taken < 2 ^ 64
unfolding begun
begun_few (event.Client call o) c l = omega arith
begun_few (event.Arrive f) c l = omega arith
begun_few event.Retry c l = omega arith
begun_few (event.Vacuum db) c l = omega arith
begun_few (event.BeginRound ticket members) c l = omega arith
begun_few (event.BeginTakeover able) c l = omega arith
