-- What a step gives to a node of a cluster in form may come to it.
use Rattle.std.proofs.Common.{◌≡◌, ℕ, zero, suc, ◌+◌, ◌<◌, Bool, true, false, cond, List, [], ◌∷◌, Some, None, refl, subst, arith}
use Rattle.std.proofs.lemmas.Bool.{and_from, and_parts, cond_both, eq-eqb, lt-ltb}
use Rattle.std.specs.Prelude.{nat_lt, slice_get}
use Rattle.std.specs.List.{list_all}
use Rattle.ct_values.specs.declared.client.ClientOp.{ClientOp}
use Rattle.ct_values.specs.declared.config.Config.{Config}
use Rattle.ct_frame.specs.Fields.{ascends, ascends_after, well_formed}
use Rattle.ct_frame.specs.declared.event.Event.TheVariants as event
use Rattle.ct_rules_cluster.specs.Cluster.{Cluster, Sent, able_from, node_at, sent_at}
use Rattle.ct_rules_cluster.specs.Faults.{fault_of, is_allowed, no_such_node, no_such_nodes, not_member}
use Rattle.ct_rules_cluster.specs.declared.step.Step.TheVariants as step
use Rattle.ct_rules_cluster.specs.declared.step.StepFault.TheVariants as fault
use Rattle.ct_rules_node.specs.Coming.{may_come}
use Rattle.ct_rules_node.specs.Node.{is_among}
use Rattle.ct_law_rules_node.proofs.Refusals.{first_none, required}
use Rattle.ct_law_form.specs.Whole.{is_node_of}
use Rattle.ct_law_form_cluster.specs.Form.{ClusterInForm, EventsMayCome, is_sound_sent}

-- ---- messages

-- what holds of each holds of the one at a place
pub got_all : {X : Type 0} (p : X → Bool) (xs : List X) (k : ℕ) (x : X) → list_all p xs ≡ true → slice_get xs k ≡ Some x → p x ≡ true
got_all p [] k x all e = absurd (cc)
got_all p (y ∷ ys) zero x all e = (let same : y ≡ x = cc in subst (λ (z : _). p z ≡ true) same (and_parts (p y) (list_all p ys) all).0)
got_all p (y ∷ ys) (suc k) x all e = got_all p ys k x (and_parts (p y) (list_all p ys) all).1 e

pub sent_sound : (c : Config) (w : Cluster) (k : ℕ) (s : Sent) → ClusterInForm c w → sent_at k w ≡ Some s → is_sound_sent c s ≡ true
unfolding sent_at
sent_sound c w zero s h e = absurd (cc)
sent_sound c w (suc k) s h e = got_all (is_sound_sent c) w.sent k s h.sent e

message_comes : (c : Config) (w : Cluster) (k : ℕ) (s : Sent) → ClusterInForm c w → sent_at k w ≡ Some s → (is_node_of c s.frame.receiver ≡ true) × (may_come c s.frame.receiver (node_at s.frame.receiver w) (event.Arrive s.frame) ≡ true)
unfolding may_come is_sound_sent
message_comes c w k s h e =
    let p = and_parts (well_formed s.frame) (is_node_of c s.frame.receiver) (sent_sound c w k s h e) in
    (p.1, and_from _ _ p.0 (eq-eqb s.frame.receiver s.frame.receiver refl))

-- ---- calls

client_comes : (c : Config) (w : Cluster) (n : ℕ) (o : ClientOp) → ClusterInForm c w → is_allowed (step.Client n o) ≡ true → is_node_of c n ≡ true → may_come c n (node_at n w) (event.Client (w.calls + 1) o) ≡ true
unfolding may_come is_allowed
client_comes c w n o h may real = and_from _ _ may (h.counted n real)

-- ---- rounds

pub node_is : (c : Config) (n : ℕ) → no_such_node c n ≡ None → is_node_of c n ≡ true
unfolding no_such_node is_node_of
node_is c n e = required (nat_lt n c.nodes) (fault.NoSuchNode n) e

nodes_are : (c : Config) (ns : List ℕ) → no_such_nodes c ns ≡ None → list_all (λ m. nat_lt m c.nodes) ns ≡ true
unfolding no_such_nodes
nodes_are c [] e = refl
nodes_are c (n ∷ ns) e = by (nat_lt n c.nodes) refl e (nodes_are c ns)
  where
    by : (b : Bool) → nat_lt n c.nodes ≡ b → cond b (no_such_nodes c ns) (Some (fault.NoSuchNode n)) ≡ None → (no_such_nodes c ns ≡ None → list_all (λ m. nat_lt m c.nodes) ns ≡ true) → list_all (λ m. nat_lt m c.nodes) (n ∷ ns) ≡ true
    by true t k rest = and_from (nat_lt n c.nodes) _ t (rest k)
    by false t k rest = absurd (cc)

member_is : (n : ℕ) (members : List ℕ) → not_member n members ≡ None → is_among n members ≡ true
unfolding not_member
member_is n members e = required (is_among n members) (fault.NotMember n) e

-- the members of a recovery that is not refused
pub recover_nodes : (c : Config) (w : Cluster) (n : ℕ) (members : List ℕ) → fault_of c w (step.Recover n members) ≡ None → (is_node_of c n ≡ true) × (list_all (λ m. nat_lt m c.nodes) members ≡ true) × (is_among n members ≡ true)
unfolding fault_of is_node_of
recover_nodes c w n members e =
    let a = first_none _ _ e in let b = first_none _ _ a.1 in let d = first_none _ _ b.1 in
    let all = and_parts (nat_lt n c.nodes) (list_all (λ m. nat_lt m c.nodes) members) (nodes_are c (n ∷ members) a.0) in
    (all.0, all.1, member_is n members d.0)

round_comes : (c : Config) (w : Cluster) (n ticket : ℕ) (members : List ℕ) → is_allowed (step.Recover n members) ≡ true → fault_of c w (step.Recover n members) ≡ None → may_come c n (node_at n w) (event.BeginRound ticket members) ≡ true
unfolding may_come is_allowed
round_comes c w n ticket members may e = (let r = recover_nodes c w n members e in and_from _ _ (and_from _ _ may r.1) r.2)

-- ---- takeovers

able_after : (x i : ℕ) (bs : List Bool) → x < i → ascends_after nat_lt x (able_from i bs) ≡ true
unfolding able_from
able_after x i [] l = refl
able_after x i (b ∷ bs) l = cond_both b (i ∷ able_from (i + 1) bs) (able_from (i + 1) bs) (λ (ns : List ℕ). ascends_after nat_lt x ns ≡ true)
    (λ _. and_from _ _ (lt-ltb x i l) (able_after i (i + 1) bs (omega arith))) (λ _. able_after x (i + 1) bs (omega arith))

able_ascend : (i : ℕ) (bs : List Bool) → ascends nat_lt (able_from i bs) ≡ true
unfolding able_from
able_ascend i [] = refl
able_ascend i (b ∷ bs) = cond_both b (i ∷ able_from (i + 1) bs) (able_from (i + 1) bs) (λ (ns : List ℕ). ascends nat_lt ns ≡ true) (λ _. able_after i (i + 1) bs (omega arith)) (λ _. able_ascend (i + 1) bs)

takeover_comes : (c : Config) (w : Cluster) (n : ℕ) → may_come c n (node_at n w) (event.BeginTakeover (able_from 0 w.able)) ≡ true
unfolding may_come
takeover_comes c w n = able_ascend 0 w.able

pub events_may_come : EventsMayCome
events_may_come = record { client = client_comes; message = message_comes; round = round_comes; takeover = takeover_comes }
