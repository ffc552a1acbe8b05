use Rattle.std.proofs.Common.{refl, ap, sym, ◌∙◌}
use Rattle.ct_store.specs.Map.{look}
use Rattle.ct_store.specs.Hashed.{ordered}
use Rattle.ct_store.proofs.Hashing.{look-ordered, lent_hashed}
use Rattle.ct_store.proofs.hashed.Store.get_mut.Goals as goal

pub returns : goal.returns
returns g c = (
  (
    refl,
    λ w. lent_hashed c.get_mut.result _ _ _ c.args.key.now w c.get_mut.ensures.value (λ s. ((c.get_mut.follows.holds w).3 s).0) c.self.view_is,
    ap (λ m. ordered m.entries) c.get_mut.follows.holds-at-none ∙ c.self.view_is,
  ),
  record { writes_back = tt; value = c.get_mut.ensures.value ∙ sym (look-ordered c.args.key.now c.self.inside.items.entries) ∙ ap (look c.args.key.now) c.self.view_is },
)
