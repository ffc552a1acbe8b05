use Rattle.std.proofs.Common.{◌≡◌, ◌∙◌, true, List, ap, subst}
use Rattle.std.specs.List.{list_all}
use Rattle.ct_frame.specs.declared.frame.Frame.{Frame}
use Rattle.ct_wire_link.specs.Reading.{Reading, is_sound}
use Rattle.ct_wire_link.proofs.Sound.{reads_reached, reads_sound}
use Rattle.ct_wire_link.proofs.readers.Reader.take.Goals as goal

pub invariant_of-self-in-Some-keep_ours : goal.invariant_of-self-in-Some-keep_ours
invariant_of-self-in-Some-keep_ours c = reads_reached c.in_ok-frames.field-0 c.self.inside.decoder c.args.bytes.now c.read_on.new.decoder c.self.invariant c.read_on.ensures.bytes c.in_ok-frames.ensures.reads

pub invariant_of-self-in-None : goal.invariant_of-self-in-None
invariant_of-self-in-None c = reads_reached c.in_ok-frames.field-0 c.self.inside.decoder c.args.bytes.now c.read_on.new.decoder c.self.invariant c.read_on.ensures.bytes c.in_ok-frames.ensures.reads

pub returns-in-Some-keep_ours-clause-sound : goal.returns-in-Some-keep_ours-clause-sound
returns-in-Some-keep_ours-clause-sound c =
    let me = c.args.me in
    let read = reads_sound me c.self.inside.sender c.in_ok-frames.field-0 c.self.inside.decoder c.args.bytes.now c.read_on.new.decoder c.self.invariant c.read_on.ensures.bytes c.in_ok-frames.ensures.reads in
    let kept : list_all (is_sound me c.self.inside.sender) c.keep_ours.new.frames.items ≡ true = ap (λ (fs : List Frame). list_all (is_sound me c.self.inside.sender) fs) c.keep_ours.ensures.kept ∙ read in
    subst (λ (r : Reading). list_all (is_sound me r.sender) c.keep_ours.new.frames.items ≡ true) c.self.view_is kept

pub returns-in-None-clause-sound : goal.returns-in-None-clause-sound
returns-in-None-clause-sound c =
    let me = c.args.me in
    let read = reads_sound me c.self.inside.sender c.in_ok-frames.field-0 c.self.inside.decoder c.args.bytes.now c.read_on.new.decoder c.self.invariant c.read_on.ensures.bytes c.in_ok-frames.ensures.reads in
    let kept : list_all (is_sound me c.self.inside.sender) c.keep_ours.new.frames.items ≡ true = ap (λ (fs : List Frame). list_all (is_sound me c.self.inside.sender) fs) c.keep_ours.ensures.kept ∙ read in
    subst (λ (r : Reading). list_all (is_sound me r.sender) c.keep_ours.new.frames.items ≡ true) c.self.view_is kept
