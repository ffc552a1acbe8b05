-- What holds of the cluster in a generation stays so when a message of a record is delivered or comes again.
use Rattle.std.proofs.Common.{◌≡◌, ◌≢◌, ℕ, suc, ◌<◌, true, false, List, [], length, Some, sym, ap, ◌∙◌, subst, ⊎_elim}
use Rattle.std.specs.Prelude.{nat_lt, slice_get}
use Rattle.std.proofs.lemmas.Bool.{cases_eq, ltb-true, cases_Bool}
use Rattle.std.proofs.lemmas.List.{length-set}
use Rattle.ct_values.specs.declared.config.Config.{Config}
use Rattle.ct_call.specs.Rules.{Rules}
use Rattle.ct_rules.specs.State.{nothing_kept}
use Rattle.ct_rules_node.specs.Node.{Node, state_at, is_among}
use Rattle.ct_rules_node.specs.Turn.{Turn}
use Rattle.ct_rules_cluster.specs.Cluster.{Cluster, Sent, Fate, is_up, node_at}
use Rattle.ct_rules_cluster.specs.Steps.{frames_of, with_node, put, with_fate}
use Rattle.ct_law_generation.specs.Shown.{Era}
use Rattle.ct_law_generation.proofs.Plain.{AllPlain, plain_more, plain_at, plain_fate}
use Rattle.ct_law_generation.proofs.Pending.{Callers, NodeKnown}
use Rattle.ct_law_generation.proofs.Staying.{NodeStays}
use Rattle.ct_law_generation.proofs.Putting.{own_node, other_node}

-- ---- the cluster

-- what holds of the cluster while no generation follows
pub record ClusterStays (c : Config) (era : Era) (rules : Rules) (who : Callers) (w : Cluster) : Type 0 where
  pub size : length w.nodes ≡ c.nodes
  -- members are nodes, and only they run
  pub there : (n : ℕ) → is_among n era.members ≡ true → nat_lt n c.nodes ≡ true
  pub up : (n : ℕ) → is_up n w ≡ true → is_among n era.members ≡ true
  pub nodes : (n : ℕ) → is_among n era.members ≡ true → NodeStays c era rules who w.calls n (node_at n w)
  -- who is no member keeps nothing of any record
  pub left : (n : ℕ) → is_among n era.members ≡ false → (db : ℕ) (key : List ℕ) → state_at db key (node_at n w) ≡ nothing_kept
  pub left_known : (n : ℕ) → is_among n era.members ≡ false → NodeKnown who w.calls n (node_at n w)
  pub sent : AllPlain era.number w.sent

-- of every call that waits, at any node, it is known who made it
pub all_known : (c : Config) (era : Era) (rules : Rules) (who : Callers) (w : Cluster) → ClusterStays c era rules who w → (n : ℕ) → NodeKnown who w.calls n (node_at n w)
all_known c era rules who w h n = ⊎_elim
    (λ (among : is_among n era.members ≡ true). (h.nodes n among).known)
    (λ (out : is_among n era.members ≡ false). h.left_known n out)
    (cases_Bool (is_among n era.members))

-- what became of a message changes none of it
pub fate_stays : (c : Config) (era : Era) (rules : Rules) (who : Callers) (w : Cluster) (k : ℕ) (s : Sent) (f : Fate) → slice_get w.sent k ≡ Some s → ClusterStays c era rules who w → ClusterStays c era rules who (with_fate (suc k) s f w)
unfolding with_fate node_at is_up
fate_stays c era rules who w k s f e h = record { size = h.size; there = h.there; up = h.up; nodes = h.nodes; left = h.left; left_known = h.left_known; sent = plain_fate era.number w.sent k s f (plain_at era.number w.sent k s e h.sent) h.sent }

put_node_stays : (c : Config) (era : Era) (rules : Rules) (who : Callers) (w : Cluster) (n : ℕ) (u : Turn) → n < length w.nodes → ClusterStays c era rules who w → NodeStays c era rules who w.calls n u.node → (k : ℕ) → is_among k era.members ≡ true → NodeStays c era rules who w.calls k (node_at k (with_node n u.node w))
put_node_stays c era rules who w n u l h mine k t = ⊎_elim
    (λ (is : k ≡ n). subst (λ (j : ℕ). NodeStays c era rules who w.calls j (node_at j (with_node n u.node w))) (sym is) (subst (λ (x : Node). NodeStays c era rules who w.calls n x) (sym (own_node n u.node w l)) mine))
    (λ (ne : k ≢ n). subst (λ (x : Node). NodeStays c era rules who w.calls k x) (sym (other_node n k u.node w ne)) (h.nodes k t))
    (cases_eq k n)

-- a member is no other node
apart : (members : List ℕ) (n k : ℕ) → is_among n members ≡ true → is_among k members ≡ false → k ≢ n
apart members n k among out same = absurd (let e = ap (λ (m : ℕ). is_among m members) same in let f = sym among ∙ sym e ∙ out in cc)

-- a member's place is one of the nodes
pub inside : (c : Config) (era : Era) (rules : Rules) (who : Callers) (w : Cluster) (n : ℕ) → ClusterStays c era rules who w → is_among n era.members ≡ true → n < length w.nodes
inside c era rules who w n h among = subst (λ (l : ℕ). n < l) (sym h.size) (ltb-true n c.nodes (h.there n among))

-- a step of a member that stays as it was, and sends plain messages
pub put_stays : (c : Config) (era : Era) (rules : Rules) (who : Callers) (w : Cluster) (n : ℕ) (u : Turn) → is_among n era.members ≡ true → ClusterStays c era rules who w → NodeStays c era rules who w.calls n u.node → AllPlain era.number (frames_of u.outs) →
    ClusterStays c era rules who (put n u [] w).cluster
unfolding put with_node node_at is_up
put_stays c era rules who w n u among h mine plain = record {
  size = length-set w.nodes n u.node ∙ h.size;
  there = h.there;
  up = h.up;
  nodes = put_node_stays c era rules who w n u (inside c era rules who w n h among) h mine;
  left = λ k out. subst (λ (x : Node). (db : ℕ) (key : List ℕ) → state_at db key x ≡ nothing_kept) (sym (other_node n k u.node w (apart era.members n k among out))) (h.left k out);
  left_known = λ k out. subst (λ (x : Node). NodeKnown who w.calls k x) (sym (other_node n k u.node w (apart era.members n k among out))) (h.left_known k out);
  sent = plain_more era.number w.sent (frames_of u.outs) h.sent plain;
}
