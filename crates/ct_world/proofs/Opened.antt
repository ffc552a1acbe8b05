-- A cluster at its opening.
use Rattle.std.proofs.Common.{◌≡◌, ◌∙◌, ℕ, zero, suc, ◌+◌, Bool, true, List, [], ◌∷◌, ◌++◌, None, Ok, Some, refl, sym, ap, subst, arith}
use Rattle.std.specs.Prelude.{map, replicate, slice_get}
use Rattle.std.proofs.lemmas.List.{length-replicate}
use Rattle.ct_values.specs.declared.address.Address.{Address}
use Rattle.ct_values.specs.Config.{Configures}
use Rattle.ct_values.specs.declared.config.Config.{Config}
use Rattle.ct_values.specs.declared.config.DbDecl.{DbDecl}
use Rattle.ct_rules_cluster.specs.Cluster as cluster
use Rattle.ct_rules_cluster.specs.Cluster.{Cluster, everyone, numbers}
use Rattle.ct_rules_cluster.specs.Steps.{is_counted}
use Rattle.ct_law_form_cluster.proofs.WholeCluster.{opens_in_form}
use Rattle.ct_core.specs.Core.{Core}
use Rattle.ct_core.proofs.Everyone.{numbers_more}
use Rattle.ct_law_form.specs.Whole.{HasLimits}
use Rattle.ct_law_form.proofs.Whole.{configs_have_limits}
use Rattle.ct_rules_config.specs.Configured.{IsConfig}
use Rattle.ct_rules_node.specs.Node.{opening}
use Rattle.ct_world.specs.World.{AreSeated, WorldInForm, opened, states_of}

map_more : {X Y : Type 0} (f : X → Y) (xs : List X) (x : X) → map f (xs ++ x ∷ []) ≡ map f xs ++ f x ∷ []
map_more f [] x = refl
map_more f (y ∷ xs) x = ap (λ ys. f y ∷ ys) (map_more f xs x)

pub opened_more : (c : Config) (n : ℕ) → map (opened c) (numbers 0 (n + 1)) ≡ map (opened c) (numbers 0 n) ++ opened c n ∷ []
opened_more c n = ap (map (opened c)) (numbers_more n) ∙ map_more (opened c) (numbers 0 n) n

states_from : (c : Config) (i k : ℕ) → states_of (map (opened c) (numbers i k)) ≡ replicate k (opening c (everyone c))
unfolding numbers
states_from c i zero = refl
states_from c i (suc k) = ap (λ xs. opening c (everyone c) ∷ xs) (states_from c (i + 1) k)

states_opened : (c : Config) (cores : List Core) → cores ≡ map (opened c) (numbers 0 c.nodes) → states_of cores ≡ replicate c.nodes (opening c (everyone c))
states_opened c cores e = ap states_of e ∙ states_from c 0 c.nodes

seated_from : (c : Config) (i k n : ℕ) (x : Core) → slice_get (map (opened c) (numbers i k)) n ≡ Some x → x ≡ opened c (i + n)
unfolding numbers
seated_from c i zero n x e = absurd (cc)
seated_from c i (suc k) zero x e = (let h : opened c i ≡ x = cc in sym h ∙ ap (opened c) (omega arith))
seated_from c i (suc k) (suc n) x e = seated_from c (i + 1) k n x e ∙ ap (opened c) (omega arith)

seated : (c : Config) → AreSeated c (map (opened c) (numbers 0 c.nodes))
seated c n x e = let h = seated_from c 0 c.nodes n x e in (ap (λ (y : Core). y.pnn) h ∙ (omega arith), ap (λ (y : Core). y.config) h)

pub has_limits : (c : Config) → IsConfig c → HasLimits c
has_limits c h = configs_have_limits c h.0 h.1 h.2

-- what is made of databases and addresses is a configuration
pub is_config : (c : Config) (n : ℕ) (dbs : List DbDecl) (addresses : List Address) → Configures (Ok c) n dbs addresses → IsConfig c
is_config c n dbs addresses h = (dbs, addresses, subst (λ (k : ℕ). Configures (Ok c) k dbs addresses) (sym h.1) h)

counted : (c : Config) → is_counted (cluster.opening c) ≡ true
unfolding is_counted cluster.opening
counted c = refl

in_form : (c : Config) → IsConfig c → WorldInForm c (map (opened c) (numbers 0 c.nodes)) (cluster.opening c)
unfolding cluster.opening
in_form c h = record {
  cluster = opens_in_form c h.0 h.1 h.2;
  seats = seated c;
  running = length-replicate c.nodes true;
  able = length-replicate c.nodes true;
  counted = counted c;
}

module _ (c : Config) (cores : List Core) (running able : List Bool) (e : cores ≡ map (opened c) (numbers 0 c.nodes)) (f : running ≡ replicate c.nodes true) (g : able ≡ replicate c.nodes true) where
  -- what is made of its parts is the opening
  pub is_opening : record { nodes = states_of cores; running = running; able = able; sent = []; holder = None; ticket = 1; calls = 0 } ≡ cluster.opening c
  unfolding cluster.opening
  is_opening = (λ i. record { nodes = states_opened c cores e i; running = f i; able = g i; sent = []; holder = None; ticket = 1; calls = 0 })

  -- and in form
  pub opens : (d : Config) → IsConfig c → d ≡ c → WorldInForm d cores (record { nodes = states_of cores; running = running; able = able; sent = []; holder = None; ticket = 1; calls = 0 })
  opens d h same =
      subst (λ (b : Config). WorldInForm b cores (record { nodes = states_of cores; running = running; able = able; sent = []; holder = None; ticket = 1; calls = 0 })) (sym same)
      (subst (λ (cs : List Core). WorldInForm c cs (record { nodes = states_of cores; running = running; able = able; sent = []; holder = None; ticket = 1; calls = 0 })) (sym e)
      (subst (λ (v : Cluster). WorldInForm c (map (opened c) (numbers 0 c.nodes)) v) (sym is_opening) (in_form c h)))
