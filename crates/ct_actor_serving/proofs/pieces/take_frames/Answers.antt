use Rattle.std.proofs.Common.{rules, ◌≡◌, ◌∙◌, [], ◌∷◌, refl, List, None, Some, ap, subst, sym}
use Rattle.ct_call.specs.Shown.{rules_of}
use Rattle.ct_wire_link.specs.Reading.{is_sound}
use Rattle.ct_actor_serving.specs.Serving.{of_link}
use Rattle.ct_actor_serving.proofs.Going.{cause_late, fell_then, goes_then, fell_same, goes_same}
use Rattle.ct_actor_serving.proofs.Taking.{all_rest}
use Rattle.ct_actor_serving.proofs.Telling.{frames_end, frames_first, frames_last, frames_next}
use Rattle.std.proofs.lemmas.List.{nil_from_length}
use Rattle.std.specs.List.{list_all}
use Rattle.ct_frame.specs.declared.frame.Frame.{Frame}
use Rattle.ct_actor_serving.specs.Outside.{ServesFrames}
use Rattle.ct_actor_serving.proofs.pieces.take_frames.Goals as goal

pub loop-frame-preserved : goal.loop-frame-preserved
loop-frame-preserved g c =
    let link = of_link g.L.Link.faults g.L.Link.endings g.L.Link.looks in
    let step : c.loop-frame.frame-iterator.rest.items ≡ c.in-Some.frame ∷ c.next.new.self.rest.items = search rules in
    record {
      can_next = tt;
      is_finite = tt;
      goes_on = λ script.
          goes_then (rules_of c.args.table.now) script c.args.node.now c.loop-frame.node c.take_frame.new.node c.args.cue.now c.loop-frame.cue c.take_frame.new.cue (c.loop-frame.invariant.goes_on script) (c.in-Ok.ensures.goes_on script);
      pnn = (c.in-Ok.ensures.goes_on []).pnn ∙ c.loop-frame.invariant.pnn;
      sound = all_rest (is_sound c.args.node.now.core.pnn c.args.sender) c.loop-frame.frame-iterator.rest.items c.next.new.self.rest.items c.in-Some.frame step c.loop-frame.invariant.sound;
      counts = fell_then (link c.args.link.now) (link c.loop-frame.link) (link c.take_frame.new.link) c.loop-frame.invariant.counts c.in-Ok.ensures.counts;
      permissions = c.in-Ok.ensures.permissions ∙ c.loop-frame.invariant.permissions;
      served = frames_next (rules_of c.args.table.now) c.into_iter-frame-iterator.result.rest.items c.loop-frame.frame-iterator.rest.items c.next.new.self.rest.items c.in-Some.frame c.args.node.now c.loop-frame.node c.take_frame.new.node
          (g.L.Link.pieces c.args.link.now) (g.L.Link.pieces c.loop-frame.link) (g.L.Link.pieces c.take_frame.new.link) c.loop-frame.invariant.served step c.in-Ok.ensures.outside;
    }

pub returns-in-Err-clause-goes_on : goal.returns-in-Err-clause-goes_on
returns-in-Err-clause-goes_on g c = λ script.
    goes_then (rules_of c.args.table.now) script c.args.node.now c.loop-frame.node c.take_frame.new.node c.args.cue.now c.loop-frame.cue c.take_frame.new.cue (c.loop-frame.invariant.goes_on script) (c.in-Err.ensures.goes_on script)

pub returns-in-Err-clause-cause : goal.returns-in-Err-clause-cause
returns-in-Err-clause-cause g c =
    let link = of_link g.L.Link.faults g.L.Link.endings g.L.Link.looks in
    cause_late c.in-Err.fault (link c.args.link.now) (link c.loop-frame.link) (link c.take_frame.new.link) c.loop-frame.invariant.counts c.in-Err.ensures.cause

pub returns-in-Err-clause-outside : goal.returns-in-Err-clause-outside
returns-in-Err-clause-outside g c =
    let step : c.loop-frame.frame-iterator.rest.items ≡ c.in-Some.frame ∷ c.next.new.self.rest.items = search rules in
    subst (λ (fs : List Frame). ServesFrames (rules_of c.args.table.now) (Some c.in-Err.fault) fs c.args.node.now c.take_frame.new.node (g.L.Link.pieces c.args.link.now) (g.L.Link.pieces c.take_frame.new.link)) c.into_iter-frame-iterator.ensures.into_iter_gives.0
    (frames_end (rules_of c.args.table.now) c.in-Err.fault c.into_iter-frame-iterator.result.rest.items c.loop-frame.frame-iterator.rest.items c.next.new.self.rest.items c.in-Some.frame c.args.node.now c.loop-frame.node c.take_frame.new.node
    (g.L.Link.pieces c.args.link.now) (g.L.Link.pieces c.loop-frame.link) (g.L.Link.pieces c.take_frame.new.link) c.loop-frame.invariant.served step c.in-Err.ensures.outside)

pub returns-clause-outside : goal.returns-clause-outside
returns-clause-outside g c =
    let none : c.loop-frame.frame-iterator.rest.items ≡ [] = nil_from_length _ (sym c.loop-frame.frame-iterator.rest.ok.0 ∙ c.in-None.ensures.steps.0) in
    subst (λ (fs : List Frame). ServesFrames (rules_of c.args.table.now) None fs c.args.node.now c.loop-frame.node (g.L.Link.pieces c.args.link.now) (g.L.Link.pieces c.loop-frame.link)) c.into_iter-frame-iterator.ensures.into_iter_gives.0
    (frames_last (rules_of c.args.table.now) c.into_iter-frame-iterator.result.rest.items c.loop-frame.frame-iterator.rest.items c.args.node.now c.loop-frame.node (g.L.Link.pieces c.args.link.now) (g.L.Link.pieces c.loop-frame.link) c.loop-frame.invariant.served none)

pub loop-frame-init : goal.loop-frame-init
loop-frame-init g c =
    let link = of_link g.L.Link.faults g.L.Link.endings g.L.Link.looks in
    record {
      can_next = tt;
      is_finite = tt;
      goes_on = λ script. goes_same (rules_of c.args.table.now) script c.args.node.now c.args.cue.now;
      pnn = refl;
      sound = ap (λ (fs : List Frame). list_all (is_sound c.args.node.now.core.pnn c.args.sender) fs) c.into_iter-frame-iterator.ensures.into_iter_gives.0 ∙ c.requires;
      counts = fell_same (link c.args.link.now);
      permissions = refl;
      served = frames_first (rules_of c.args.table.now) c.into_iter-frame-iterator.result.rest.items c.args.node.now (g.L.Link.pieces c.args.link.now);
    }
