-- At the opening the facts hold.
use Rattle.std.proofs.Common.{◌≡◌, ℕ, zero, suc, true, false, List, map, Option, None, Some, refl, sym, ap, subst, arith, inl}
use Rattle.std.specs.List.{list_any}
use Rattle.ct_values.specs.Address.{same_address}
use Rattle.ct_values.specs.declared.address.Address.{Address}
use Rattle.ct_values.specs.declared.config.Config.{Config}
use Rattle.ct_persist.specs.Updates.{contents}
use Rattle.ct_rules_node.specs.Node as node
use Rattle.ct_rules_node.specs.Node.{Node, Committing, Lead, Nothing}
use Rattle.ct_rules_cluster.specs.Cluster as cluster
use Rattle.ct_rules_cluster.specs.Cluster.{Cluster, Sent, sent_at}
use Rattle.ct_register.proofs.Opened.{one_of_all, opened_held, opened_db}
use Rattle.ct_register.specs.Database.{Database}
use Rattle.ct_register.specs.Lines
use Rattle.ct_register.specs.Lines.{Lines}
use Rattle.ct_register.specs.Stands.{HoldsAddress}
use Rattle.ct_frame.specs.declared.frame.Frame.{Frame}
use Rattle.ct_merge.proofs.Among.{In}
use Rattle.ct_law_registers.proofs.Facts.{Bases, Has, StoresHold, MayWait, LeadStands}
use Rattle.ct_law_registers.proofs.Places.{PlacesHold, LeadsRuns}

opened_run : (c : Config) (n : ℕ) → (cluster.node_at n (cluster.opening c)).last_run ≡ 0
unfolding node.opening cluster.node_at cluster.opening cluster.absent
opened_run c n = one_of_all (λ (x : Node). x.last_run ≡ 0) (node.opening c (cluster.everyone c)) refl refl c.nodes n

opened_lead : (c : Config) (n : ℕ) → (cluster.node_at n (cluster.opening c)).lead ≡ Nothing
unfolding node.opening cluster.node_at cluster.opening cluster.absent
opened_lead c n = one_of_all (λ (x : Node). x.lead ≡ Nothing) (node.opening c (cluster.everyone c)) refl refl c.nodes n

cluster_silent : (c : Config) (f : Frame) → In f (map (λ (s : Sent). s.frame) (cluster.opening c).sent) → ⊥
unfolding cluster.opening
cluster_silent c f is = is

no_address : (c : Config) (n : ℕ) (a : Address) → HoldsAddress (cluster.opening c) n a → ⊥
no_address c n a has = (let k : false ≡ true = subst (λ held. list_any (same_address a) held ≡ true) (opened_held c n) has in absurd (cc))

unsent : (c : Config) (k : ℕ) (s : Sent) → sent_at k (cluster.opening c) ≡ Some s → ⊥
unfolding sent_at cluster.opening
unsent c zero s e = absurd (cc)
unsent c (suc k) s e = absurd (cc)

no_commit : (n : ℕ) (members : List ℕ) (d : Database) (has : ℕ → ℕ) (o : Option Committing) → o ≡ None → MayWait n members d has o
unfolding MayWait
no_commit n members d has None e = tt
no_commit n members d has (Some y) e = absurd (cc)

no_push : (c : Config) (b : Bases) (has : Has) (n : ℕ) (l : Lead) → l ≡ Nothing → LeadStands c b has n l
unfolding LeadStands
no_push c b has n l e = subst (LeadStands c b has n) (sym e) tt

pub stores_open : (c : Config) → StoresHold c (cluster.opening c) (Lines.opening c) (λ g n db. 0) (λ g key. false)
unfolding contents node.untouched
stores_open c = record {
  holds = record {
    stores = λ n db kind line. ap (λ (d : node.Database). d.store) (opened_db c n db);
    fresh = λ g n db below. refl;
    unborn = λ g db is. refl;
    others = λ g db is. refl;
    counted = λ g db. record { within = λ n. omega arith; known = omega arith; acked = λ n member. omega arith; seen = λ n. omega arith; begun = λ n e. absurd (cc) };
    committing = λ n db line e. absurd (cc);
    waits = λ n db. no_commit n _ _ _ _ (ap (λ (d : node.Database). d.commit) (opened_db c n db));
    leads = λ n. no_push c _ _ n _ (opened_lead c n);
  };
  settled = record { settles = λ g db kind. inl refl; owner_has = λ g db n kind owns. absurd (cc); heirs = λ l g db k kind e. absurd (cc) };
  mail = λ f is. absurd (cluster_silent c f is);
}

no_lead : (c : Config) (w : Cluster) (r : Lines) (turns : ℕ → ℕ) (l : Lead) → l ≡ Nothing → LeadsRuns c w r turns l
unfolding LeadsRuns
no_lead c w r turns l e = subst (LeadsRuns c w r turns) (sym e) tt

pub places_open : (c : Config) → PlacesHold c (cluster.opening c) (Lines.opening c) (λ g. 0)
places_open c = record {
  unborn = λ g is. (refl, refl);
  counts = λ g. record { turn = omega arith; runs = λ i low high. absurd (omega arith); none = λ z. refl; last = λ z. absurd (z refl); pushed = λ z. absurd (z refl) };
  installed = λ g m z member. absurd (z refl);
  follows = λ n line. record {
    after = omega arith;
    within = (let e = opened_run c n in omega arith);
    turn = λ a holds. absurd (no_address c n a holds);
    own = λ a holds. absurd (no_address c n a holds);
  };
  leads = λ n. no_lead c _ _ _ _ (opened_lead c n);
  mail = λ k s sent. absurd (unsent c k s sent);
}
