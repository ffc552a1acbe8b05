use Rattle.std.proofs.Common.{◌≡◌, true, List, sym, ◌∙◌, subst, arith}
use Rattle.ct_traverse_parts.specs.Posts.{is_waiting, numbered}
use Rattle.ct_traverse_parts.specs.declared.post.Post.{Post}
use Rattle.ct_traverse_parts.proofs.Waiting.{ended_later}
use Rattle.ct_traverse_parts.proofs.post.Posts.end.Goals as goal

pub first_from-self-inside-requires : goal.first_from-self-inside-requires
first_from-self-inside-requires c =
    let l = ended_later c.args.number c.self.inside.list c.as_slice.result.now c.args.fate c.requires.ended (subst (λ (xs : List Post). is_waiting (numbered c.args.number xs) ≡ true) (sym c.self.view_is) c.requires.waiting) (λ x e. c.as_slice.ensures ∙ c.mark.ensures x e) in
    let i = c.self.invariant in
    omega arith
