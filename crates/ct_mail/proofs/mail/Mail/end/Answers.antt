use Rattle.std.proofs.Common.{◌≡◌, true, List, sym, ◌∙◌, subst, arith}
use Rattle.ct_rules_cluster.specs.Cluster.{Sent, is_waiting}
use Rattle.ct_mail.specs.Mail.{fate_of, numbered}
use Rattle.ct_mail.proofs.Waiting.{ended_later}
use Rattle.ct_mail.proofs.mail.Mail.end.Goals as goal

pub first_from-self-inside-requires : goal.first_from-self-inside-requires
first_from-self-inside-requires c =
    let l = ended_later c.args.number c.self.inside.sent c.as_slice.result.now (fate_of c.args.fate) c.requires.ends (subst (λ (xs : List Sent). is_waiting (numbered c.args.number xs) ≡ true) (sym c.self.view_is) c.requires.waits) (λ x e. c.as_slice.ensures ∙ c.mark.ensures x e) in
    let i = c.self.invariant in
    omega arith
