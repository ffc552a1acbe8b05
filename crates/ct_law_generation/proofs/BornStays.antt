-- Where a generation began with rows, what stays of the cluster through the steps of one generation holds.
use Rattle.std.proofs.Common.{◌≡◌, ℕ, ◌≤◌, true, List, [], ◌∷◌, None, sym, ◌∙◌, false, subst}
use Rattle.std.specs.List.{AllByRecursion}
use Rattle.ct_values.specs.declared.config.Config.{Config}
use Rattle.ct_call.specs.Rules.{Rules}
use Rattle.ct_rules_node.specs.Admission.{record_in}
use Rattle.ct_rules_cluster.specs.Cluster.{Cluster, Sent, node_at}
use Rattle.ct_register.proofs.Small.{none_not_some}
use Rattle.ct_promise.specs.Born.{Rows, IsBornWith}
use Rattle.ct_law_generation.specs.Shown.{Era}
use Rattle.ct_law_generation.proofs.Plain.{IsPlain, AllPlain}
use Rattle.ct_law_generation.proofs.Staying.{NodeStays, AllWishes, Of_records}
use Rattle.ct_law_generation.proofs.Clusters.{ClusterStays}
use Rattle.ct_law_generation.proofs.BornWorlds.{by_test, state_none}
use Rattle.ct_law_generation.proofs.BornCalls.{callers_in, born_known}
use Rattle.ct_law_generation.proofs.BornForms.{member_formed}
use Rattle.ct_law_generation.proofs.BornNodes.{born_up, born_left, born_sent}
use Rattle.ct_law_wishes.proofs.Wishing.{Wishful, all_wishful}
use Rattle.ct_rules_node.specs.Node.{state_at, is_among, has_records, kind_at}
use Rattle.ct_rules.specs.declared.state.RecState.{RecState}

-- calls wait only for records of databases that have records: the others have no record
born_waits : (config : Config) (era : Era) (row : Rows) (w : Cluster) → IsBornWith config era.number era.members row w → (n : ℕ) → is_among n era.members ≡ true → AllWishes (Of_records config) (node_at n w)
unfolding Wishful
born_waits config era row w h n t db key = by_test (has_records (kind_at config db))
    (λ of. all_wishful (Of_records config db key) (state_at db key (node_at n w)).wish (λ call asked. of))
    (λ none. subst (λ (s : RecState). Wishful (Of_records config db key) s.wish) (sym (state_none db key (node_at n w) ((h.born n t).others db none))) tt)

born_node : (config : Config) (era : Era) (rules : Rules) (row : Rows) (w : Cluster) → era.thawed ≡ false → IsBornWith config era.number era.members row w → (n : ℕ) → is_among n era.members ≡ true → NodeStays config era rules (callers_in w) w.calls n (node_at n w)
born_node config era rules row w still h n t = (let b = h.born n t in record {
  present = b.present;
  knows = b.knows;
  promise = b.promise;
  lead = λ _. b.lead;
  size = b.dbs;
  known = born_known config era.number era.members row w h n;
  waits = born_waits config era row w h n t;
  serves = λ e. absurd (let f = still in cc);
  formed = member_formed config era rules row w h n t;
})

-- where no message of the generation speaks of a record, all are plain
silent_plain : (g : ℕ) (ss : List Sent) → AllByRecursion (λ (s : Sent). (s.frame.generation ≤ g) × (s.frame.generation ≡ g → record_in s.frame.msg ≡ None)) ss → AllPlain g ss
unfolding IsPlain
silent_plain g [] h = tt
silent_plain g (s ∷ ss) h = ((h.0.0, λ r is now. absurd (none_not_some (sym (h.0.1 now) ∙ is))), silent_plain g ss h.1)

-- what stays of the cluster holds
pub born_stays : (config : Config) (era : Era) (rules : Rules) (row : Rows) (w : Cluster) → era.thawed ≡ false → IsBornWith config era.number era.members row w → ClusterStays config era rules (callers_in w) w
born_stays config era rules row w still h = record {
  size = h.size;
  there = h.there;
  up = born_up config era.number era.members row w h;
  nodes = born_node config era rules row w still h;
  left = born_left config era.number era.members row w h;
  left_known = λ n f. born_known config era.number era.members row w h n;
  sent = silent_plain era.number w.sent (born_sent config era.number era.members row w h);
}
