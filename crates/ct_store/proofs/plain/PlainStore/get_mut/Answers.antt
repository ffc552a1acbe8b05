use Rattle.std.proofs.Common.{refl, ap, ◌∙◌}
use Rattle.ct_store.specs.Map.{look}
use Rattle.ct_store.proofs.Maps.{lent}
use Rattle.ct_store.proofs.plain.PlainStore.get_mut.Goals as goal

pub returns : goal.returns
returns g c = (
  (
    refl,
    λ w. lent c.get_mut.result _ _ _ c.args.key.now w c.get_mut.ensures.ordered (c.get_mut.follows.holds w).4 c.get_mut.ensures.value (λ s. ((c.get_mut.follows.holds w).3 s).0) c.self.view_is,
    ap (λ m. m.entries) c.get_mut.follows.holds-at-none ∙ c.self.view_is,
  ),
  record { writes_back = tt; value = c.get_mut.ensures.value ∙ ap (look c.args.key.now) c.self.view_is },
)
