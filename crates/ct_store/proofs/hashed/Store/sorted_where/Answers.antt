use Rattle.std.proofs.Common.{◌≡◌, ◌++◌, ap, sym, subst, ◌∙◌, append-nil}
use Rattle.std.specs.Prelude.{map}
use Rattle.std.specs.List.{IsDistinct}
use Rattle.std.specs.Map.{keys_of}
use Rattle.std.specs.Map.Iter.{deref_pair}
use Rattle.std.proofs.lemmas.Map.Iter.{rest_all}
use Rattle.ct_store.specs.Hashed.{ordered}
use Rattle.ct_store.specs.Those.{those}
use Rattle.ct_store.proofs.Hashing.{same}
use Rattle.ct_store.proofs.Those.{those_distinct, those_ordered}
use Rattle.ct_store.proofs.hashed.Store.sorted_where.Goals as goal

pub returns : goal.returns
returns g c = λ p tells.
    let es = c.self.inside.items.entries in
    let all = c.into_iter-key-iterator.ensures.into_iter_gives in
    let ends = rest_all deref_pair c.loop-key.key-iterator c.next.new.self c.next.result c.in-None.is c.next.ensures.steps in
    let some : map deref_pair c.loop-key.some.items ≡ those p es =
    sym (append-nil _) ∙ ap (λ r. map deref_pair c.loop-key.some.items ++ those p r) (sym ends) ∙ c.loop-key.invariant p tells ∙ ap (those p) all.0 in
    c.put_in_order.ensures (subst (λ m. IsDistinct same (keys_of m)) (sym some) (those_distinct p es all.4))
    ∙ ap ordered some
    ∙ those_ordered p es all.4
    ∙ ap (those p) c.self.view_is
