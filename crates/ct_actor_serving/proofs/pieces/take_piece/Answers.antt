use Rattle.std.proofs.Common.{◌≡◌, ◌∙◌, ap, true, Ok, Result, subst}
use Rattle.ct_call.specs.Shown.{rules_of}
use Rattle.ct_actor.specs.Handed.{Core}
use Rattle.ct_wire_link.specs.declared.arrived.Arrived.{Arrived}
use Rattle.ct_actor_serving.specs.Serving.{HasCause}
use Rattle.ct_actor_serving.proofs.Hearing.{Gives}
use Rattle.ct_actor_serving.proofs.Turning.{piece_foreign, piece_stopped, piece_unread, piece_whole}
use Rattle.std.specs.Prelude.{IfOk}
use Rattle.std.specs.List.{list_all}
use Rattle.ct_values.specs.declared.memory.NoMemory.{NoMemory}
use Rattle.ct_wire_link.specs.Reading.{TakesPiece, is_sound, progress_of}
use Rattle.ct_actor_serving.proofs.pieces.take_piece.Goals as goal

pub returns-in_default-clause-cause : goal.returns-in_default-clause-cause
unfolding HasCause
returns-in_default-clause-cause g c = tt

pub returns-in-Some-clause-cause : goal.returns-in-Some-clause-cause
unfolding HasCause
returns-in-Some-clause-cause g c = tt

pub returns-in_default-clause-outside : goal.returns-in_default-clause-outside
returns-in_default-clause-outside g c =
    piece_unread (rules_of c.args.table.now) c.args.sender c.args.bytes.now c.args.node.now (g.L.Link.pieces c.args.link.now) c.args.readers.now c.take.new.self

pub returns-in-Err-clause-outside : goal.returns-in-Err-clause-outside
returns-in-Err-clause-outside g c =
    let own : c.pnn.result ≡ c.args.node.now.core.pnn = c.pnn.ensures ∙ ap (λ (k : Core). k.pnn) c.core.ensures in
    let a : Arrived = c.in-Ok.field-0 in
    let is : c.take.result ≡ Ok a = c.in-Ok.is in
    let gives : Gives c.pnn.result c.args.sender c.args.bytes.now a c.args.readers.now c.take.new.self = record {
      takes = subst (λ (r : Result Arrived NoMemory). TakesPiece r c.pnn.result c.args.sender c.args.bytes.now (progress_of c.args.sender c.args.readers.now) (progress_of c.args.sender c.take.new.self)) is c.take.ensures.takes;
      others = c.take.ensures.others;
      sound = subst (λ (r : Result Arrived NoMemory). IfOk r (λ (x : Arrived). list_all (is_sound c.pnn.result c.args.sender) x.frames.items ≡ true)) is c.take.ensures.sound;
    } in
    piece_stopped (rules_of c.args.table.now) c.in-Err.fault c.pnn.result c.args.sender c.args.bytes.now a c.args.node.now c.take_frames.new.node (g.L.Link.pieces c.args.link.now) (g.L.Link.pieces c.take_frames.new.link)
    c.args.readers.now c.take.new.self own gives c.in-Err.ensures.outside c.in-Err.ensures.ours

pub returns-in-Some-clause-outside : goal.returns-in-Some-clause-outside
returns-in-Some-clause-outside g c =
    let own : c.pnn.result ≡ c.args.node.now.core.pnn = c.pnn.ensures ∙ ap (λ (k : Core). k.pnn) c.core.ensures in
    let a : Arrived = c.in-Ok.field-0 in
    let is : c.take.result ≡ Ok a = c.in-Ok.is in
    let gives : Gives c.pnn.result c.args.sender c.args.bytes.now a c.args.readers.now c.take.new.self = record {
      takes = subst (λ (r : Result Arrived NoMemory). TakesPiece r c.pnn.result c.args.sender c.args.bytes.now (progress_of c.args.sender c.args.readers.now) (progress_of c.args.sender c.take.new.self)) is c.take.ensures.takes;
      others = c.take.ensures.others;
      sound = subst (λ (r : Result Arrived NoMemory). IfOk r (λ (x : Arrived). list_all (is_sound c.pnn.result c.args.sender) x.frames.items ≡ true)) is c.take.ensures.sound;
    } in
    piece_foreign (rules_of c.args.table.now) c.pnn.result c.args.sender c.in-Some.offset c.args.bytes.now a c.args.node.now c.take_frames.new.node (g.L.Link.pieces c.args.link.now) (g.L.Link.pieces c.take_frames.new.link)
    c.args.readers.now c.take.new.self own gives c.in-Ok-take_frames.ensures.outside c.in-Some.is

pub returns-in-None-clause-outside : goal.returns-in-None-clause-outside
returns-in-None-clause-outside g c =
    let own : c.pnn.result ≡ c.args.node.now.core.pnn = c.pnn.ensures ∙ ap (λ (k : Core). k.pnn) c.core.ensures in
    let a : Arrived = c.in-Ok.field-0 in
    let is : c.take.result ≡ Ok a = c.in-Ok.is in
    let gives : Gives c.pnn.result c.args.sender c.args.bytes.now a c.args.readers.now c.take.new.self = record {
      takes = subst (λ (r : Result Arrived NoMemory). TakesPiece r c.pnn.result c.args.sender c.args.bytes.now (progress_of c.args.sender c.args.readers.now) (progress_of c.args.sender c.take.new.self)) is c.take.ensures.takes;
      others = c.take.ensures.others;
      sound = subst (λ (r : Result Arrived NoMemory). IfOk r (λ (x : Arrived). list_all (is_sound c.pnn.result c.args.sender) x.frames.items ≡ true)) is c.take.ensures.sound;
    } in
    piece_whole (rules_of c.args.table.now) c.pnn.result c.args.sender c.args.bytes.now a c.args.node.now c.take_frames.new.node (g.L.Link.pieces c.args.link.now) (g.L.Link.pieces c.take_frames.new.link)
    c.args.readers.now c.take.new.self own gives c.in-Ok-take_frames.ensures.outside c.in-None.is
