use Rattle.std.proofs.Common.{[], ap, sym, ◌∙◌}
use Rattle.std.specs.Prelude.{map}
use Rattle.std.specs.Map.Iter.{deref_pair}
use Rattle.std.proofs.lemmas.Map.Iter.{rest_more}
use Rattle.ct_store.proofs.Hashing.{filled, all_filled, write_refs}
use Rattle.ct_traverse_parts.proofs.kept.Kept.in_order.Goals as goal

pub loop-key-init : goal.loop-key-init
loop-key-init g c =
    ap (λ xs. filled (map deref_pair xs) c.into_iter-key-iterator.result) c.new-found.ensures.empty
    ∙ ap (filled []) c.into_iter-key-iterator.ensures.into_iter_gives.0
    ∙ all_filled c.self.inside.items.entries c.into_iter-key-iterator.ensures.into_iter_gives.4
    ∙ c.self.view_is

pub loop-key-preserved : goal.loop-key-preserved
loop-key-preserved g c =
    let r = rest_more deref_pair c.loop-key.key-iterator c.next.new.self c.next.result (c.in-Some.key, c.in-Some.item) c.in-Some.is c.next.ensures.steps in
    ap (λ es. filled (map deref_pair es) c.next.new.self) c.in_ok-insert.ensures.entries
    ∙ ap (λ m. filled m c.next.new.self) (write_refs c.loop-key.found.entries c.in-Some.key c.in-Some.item)
    ∙ ap (filled (map deref_pair c.loop-key.found.entries)) (sym r)
    ∙ c.loop-key.invariant
