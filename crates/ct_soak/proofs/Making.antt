-- The cluster of a soak at its opening.
use Rattle.std.proofs.Common.{◌≡◌, [], refl, sym, subst}
use Rattle.std.specs.List.Sorted.{IsStrictlySortedBy}
use Rattle.std.proofs.lemmas.List.Sorted.{IsPermutation-refl}
use Rattle.ct_rules_cluster.specs.Cluster.{opening, World}
use Rattle.ct_rules_cluster.specs.Steps.{is_counted}
use Rattle.ct_script.specs.Generated.{each_kind}
use Rattle.ct_values.specs.declared.config.Config.{Config}
use Rattle.ct_rules_config.specs.Configured.{IsConfig}
use Rattle.ct_soak.specs.Counts.{IsCounted}
use Rattle.ct_soak.specs.Soaking.{soak_config}

pub is_config : IsConfig soak_config
unfolding IsStrictlySortedBy
is_config = (each_kind, [], (refl, refl, refl, IsPermutation-refl [], tt))

-- no message was sent and no call made, and ticket 1 is the last one
pub opening_counted : (w : World) (c : Config) → w ≡ record { config = c; cluster = opening c } → c ≡ soak_config → IsCounted w 0 0 1
unfolding opening is_counted
opening_counted w c e h =
    let here : w ≡ record { config = soak_config; cluster = opening soak_config } = subst (λ (k : Config). w ≡ record { config = k; cluster = opening k }) h e in
    subst (λ (x : World). IsCounted x 0 0 1) (sym here) (record { config_is = refl; sent_is = refl; calls_is = refl; ticket_is = refl; four_nodes = refl; below = refl })
