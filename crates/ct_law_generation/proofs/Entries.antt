-- Where the entries and copies of records stand in a generation: at its start, and while it goes on.
use Rattle.std.proofs.Common.{◌≡◌, ◌≢◌, ℕ, ◌≤◌, true, false, List, [], Option, Some, None, refl, sym, ap, ◌∙◌, subst, ⊎_elim}
use Rattle.std.proofs.lemmas.Bool.{cases_Bool}
use Rattle.ct_values.specs.declared.config.Config.{Config}
use Rattle.ct_frame.specs.declared.frame.TableRow.{TableRow}
use Rattle.ct_frame.specs.declared.header.RecCopy.{RecCopy}
use Rattle.ct_call.specs.Rules.{Rules}
use Rattle.ct_store.specs.Map.{Ascends, look}
use Rattle.ct_store.proofs.Maps.{empty_ascends}
use Rattle.ct_rules.specs.State.{nothing_kept}
use Rattle.ct_rules.specs.declared.state.RecState.{RecState}
use Rattle.ct_rules.specs.declared.state.Wish.{Wish}
use Rattle.ct_rules_node.specs.Node.{Node, master_of, state_at, db_at, or_nothing, is_among, has_records, kind_at}
use Rattle.ct_rules_node.specs.Rounds.{installed_state}
use Rattle.ct_rules_cluster.specs.Cluster.{Cluster, node_at}
use Rattle.ct_rules_cluster.specs.Cluster as cluster
use Rattle.ct_register.specs.Lines.{Lines}
use Rattle.ct_promise.specs.Born.{Rows, born_state, IsBornNode, HasLeft, IsBornWith}
use Rattle.ct_law_record.specs.World.{World}
use Rattle.ct_law_generation.specs.Shown.{Era}
use Rattle.ct_law_generation.proofs.Pending.{Callers}
use Rattle.ct_law_generation.proofs.Clusters.{ClusterStays}
use Rattle.ct_law_generation.proofs.Opening.{opened_world}
use Rattle.ct_law_generation.proofs.Holding.{Lined}
use Rattle.ct_law_generation.proofs.Clearing as clearing
use Rattle.ct_law_generation.proofs.Leaving.{AtHome, all_ascend, own_entry}
use Rattle.ct_law_generation.proofs.AtHome.{AllAtHome, empty_home}

-- ---- at the start

-- in a cluster at its opening
pub opening_home : (c : Config) → clearing.AllAscend (cluster.opening c) → AllAtHome (cluster.opening c)
opening_home c order n = record { order = order n; entry = λ db key ne. sym (ap (λ (w : World). (w.nodes n).state.entry) (opened_world c db key)) }

born_none : (me l : ℕ) (row : Option TableRow) (wish : Option Wish) → me ≢ l → (born_state me l row wish).entry ≡ None
unfolding born_state installed_state
born_none me l None wish ne = refl
born_none me l (Some row) wish ne = own_entry me l row ne

no_records : (db : ℕ) (key : List ℕ) (x : Node) → (db_at db x).records ≡ [] → (state_at db key x).entry ≡ None
unfolding state_at or_nothing
no_records db key x e = ap (λ m. (or_nothing (look key m)).entry) e

born_node_home : (config : Config) (g : ℕ) (members : List ℕ) (row : Rows) (n : ℕ) (x : Node) → IsBornNode config g members row n x → AtHome n (record { node = x; outs = []; spent = false })
unfolding db_at
born_node_home config g members row n x h = record {
  order = all_ascend x.dbs h.maps;
  entry = λ db key ne. ⊎_elim
      (λ (t : has_records (kind_at config db) ≡ true). ap (λ (s : RecState). s.entry) (h.records db key t)
      ∙ born_none n (master_of members key) (row db key) (state_at db key x).wish (λ is. ne (is ∙ ap (λ (ms : List ℕ). master_of ms key) (sym h.knows))))
      (λ (f : has_records (kind_at config db) ≡ false). no_records db key x (h.others db f))
      (cases_Bool (has_records (kind_at config db)));
}

left_home : (config : Config) (n : ℕ) (x : Node) → HasLeft config n x → AtHome n (record { node = x; outs = []; spent = false })
unfolding db_at
left_home config n x h = empty_home n x (all_ascend x.dbs (λ i. subst Ascends (sym (h.records i)) (empty_ascends RecState))) h.records

-- in a cluster whose generation was born with rows
pub born_home : (config : Config) (g : ℕ) (members : List ℕ) (row : Rows) (w : Cluster) → IsBornWith config g members row w → AllAtHome w
born_home config g members row w h n = ⊎_elim
    (λ (t : is_among n members ≡ true). born_node_home config g members row n (node_at n w) (h.born n t))
    (λ (f : is_among n members ≡ false). left_home config n (node_at n w) (h.left n f))
    (cases_Bool (is_among n members))

-- ---- while the generation goes on

no_copy : (s : RecState) (d : RecCopy) → s ≡ nothing_kept → s.copy ≡ Some d → ⊥
no_copy s d e is = absurd (let k : None ≡ Some d = sym (ap (λ (x : RecState). x.copy) e) ∙ is in cc)

-- the line of the members is that of every node with a copy, and of entries each is at its location master
pub lined : (c : Config) (era : Era) (rules : Rules) (who : Callers) (w : Cluster) (r : Lines) → 1 ≤ era.number → ClusterStays c era rules who w → ((n : ℕ) → is_among n era.members ≡ true → r.line n ≡ era.number) →
    r.born era.number ≡ true → r.members era.number ≡ era.members → AllAtHome w → Lined era w r
lined c era rules who w r real stays inside born named home = record {
  real = real;
  line = record {
    up = λ n up. inside n (stays.up n up);
    has = λ n db key d has. ⊎_elim
        (λ (t : is_among n era.members ≡ true). inside n t)
        (λ (f : is_among n era.members ≡ false). absurd (no_copy (state_at db key (node_at n w)) d (stays.left n f db key) has))
        (cases_Bool (is_among n era.members));
  };
  entry = λ n db key ne. ⊎_elim
      (λ (t : is_among n era.members ≡ true). (home n).entry db key (λ is. ne (is ∙ ap (λ (ms : List ℕ). master_of ms key) (stays.nodes n t).knows)))
      (λ (f : is_among n era.members ≡ false). ap (λ (s : RecState). s.entry) (stays.left n f db key))
      (cases_Bool (is_among n era.members));
  born = born;
  named = named;
  knows = λ n up. (stays.nodes n (stays.up n up)).knows;
}
