-- What a message says it says still, when registers and worlds go on.
use Rattle.std.proofs.Common.{◌≡◌, ℕ, true, List, sym, ap, ◌∙◌, subst}
use Rattle.ct_values.specs.declared.config.Config.{Config}
use Rattle.ct_frame.specs.declared.frame.Frame.{Frame}
use Rattle.ct_frame.specs.declared.frame.Msg.{Msg}
use Rattle.ct_frame.specs.declared.frame.Msg.TheVariants as msg
use Rattle.ct_rules_node.specs.Node.{is_among}
use Rattle.ct_register.specs.Lines.{Lines}
use Rattle.ct_law_run.proofs.Ages.{Ages}
use Rattle.ct_law_run.proofs.Lives.{IsTicket, RoundSays, MailSays}
use Rattle.ct_law_run.proofs.Later.{Later, MailLater}

pub ticket_later : (c : Config) (r : Lines) (a : Ages) (s : Lines) (b : Ages) (g n : ℕ) (members : List ℕ) → Later r a s b → IsTicket c r g n members → IsTicket c s g n members
ticket_later c r a s b g n members l h = record { given = l.leader g n h.given; named = l.named g n h.given ∙ h.named; later = h.later; real = h.real; ascend = h.ascend; there = h.there; own = h.own }

round_later : (c : Config) (r : Lines) (a : Ages) (s : Lines) (b : Ages) (g from : ℕ) (m : Msg) → Later r a s b → RoundSays c r a g from m → RoundSays c s b g from m
unfolding RoundSays
round_later c r a s b g from (msg.Freeze members) l h = ticket_later c r a s b g from members l h
round_later c r a s b g from (msg.Push members table ptables assigned) l h = (h.0, l.born g h.1, h.2 ∙ sym (l.members g h.1), h.3 ∙ sym (l.tables g h.1))
round_later c r a s b g from msg.PushAck l h = l.installed g from h
round_later c r a s b g from msg.Thaw l h = (l.born g h.0, λ m among. l.installed g m (h.1 m (subst (λ (ms : List ℕ). is_among m ms ≡ true) (l.members g h.0) among)))
round_later c r a s b g from m l h = h

pub mail_later : MailLater
mail_later c r a s b f l h = record { round = round_later c r a s b f.generation f.sender f.msg l h.round; sound = h.sound }
