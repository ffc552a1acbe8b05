-- What a step makes of the cluster: of its nodes, and of the messages that were sent.
use Rattle.std.proofs.Common.{◌≡◌, ◌≢◌, ℕ, zero, suc, ◌<◌, List, [], ◌∷◌, ◌++◌, length, map, set, Some, refl, sym, ap, ◌∙◌, inl, inr, ⊎_elim}
use Rattle.std.specs.Prelude.{slice_get}
use Rattle.std.proofs.lemmas.Bool.{cases_eq}
use Rattle.ct_frame.specs.declared.event.Out.{Out}
use Rattle.ct_frame.specs.declared.frame.Frame.{Frame}
use Rattle.ct_merge.proofs.Among.{In}
use Rattle.ct_rules_node.specs.Node.{Node}
use Rattle.ct_rules_cluster.specs.Cluster.{Cluster, Sent, Fate, node_at, sent_at}
use Rattle.ct_rules_cluster.specs.Steps.{frames_of, with_node, with_fate, gone}
use Rattle.ct_rules_cluster.specs.declared.step.PendingCall.{PendingCall}
use Rattle.ct_rules_cluster.specs.declared.step.Step.{Step}
use Rattle.ct_register.proofs.Places.{at_same, at_other}
use Rattle.ct_register.specs.Words.{at}
use Rattle.ct_law_generation.specs.Waiting.{told_line, told_lines}
use Rattle.ct_law_generation.proofs.Putting.{own_node, other_node}

-- the nodes, by number
abbrev pub nodes_of : Cluster → ℕ → Node
nodes_of w n = node_at n w

-- the messages themselves
abbrev pub frames : List Sent → List Frame
frames ss = map (λ (s : Sent). s.frame) ss

-- all that were ever sent
abbrev pub frames_in : Cluster → List Frame
frames_in w = frames w.sent

-- those that a node's step sends
abbrev pub frame_list : List Out → List Frame
frame_list xs = frames (frames_of xs)

pub put_nodes : (n : ℕ) (x : Node) (w : Cluster) → n < length w.nodes → nodes_of (with_node n x w) ≡ at n x (nodes_of w)
unfolding node_at with_node
put_nodes n x w l = λ i k. by k i
  where
    by : (k : ℕ) → node_at k (with_node n x w) ≡ at n x (nodes_of w) k
    by k = ⊎_elim
        (λ (e : k ≡ n). ap (λ (j : ℕ). node_at j (with_node n x w)) e ∙ own_node n x w l ∙ sym (at_same n k x (nodes_of w) e))
        (λ (ne : k ≢ n). other_node n k x w ne ∙ sym (at_other n k x (nodes_of w) ne)) (cases_eq k n)

pub sent_more : (xs ys : List Sent) → frames (xs ++ ys) ≡ frames xs ++ frames ys
sent_more [] ys = refl
sent_more (x ∷ xs) ys = ap (λ (l : List Frame). x.frame ∷ l) (sent_more xs ys)

-- ---- what became of a message does not show

fate_frames_at : (xs : List Sent) (k : ℕ) (s : Sent) (f : Fate) → slice_get xs k ≡ Some s → frames (set xs k (record s { fate = f })) ≡ frames xs
fate_frames_at [] k s f e = refl
fate_frames_at (x ∷ xs) zero s f e = (let same : x ≡ s = cc in ap (λ (y : Sent). y.frame ∷ frames xs) (sym same))
fate_frames_at (x ∷ xs) (suc k) s f e = ap (λ (l : List Frame). x.frame ∷ l) (fate_frames_at xs k s f e)

pub fate_frames : (k : ℕ) (s : Sent) (f : Fate) (w : Cluster) → sent_at k w ≡ Some s → frames_in (with_fate k s f w) ≡ frames_in w
unfolding with_fate sent_at
fate_frames zero s f w e = refl
fate_frames (suc k) s f w e = fate_frames_at w.sent k s f e

pub fate_nodes : (k : ℕ) (s : Sent) (f : Fate) (w : Cluster) → (with_fate k s f w).nodes ≡ w.nodes
unfolding with_fate
fate_nodes zero s f w = refl
fate_nodes (suc k) s f w = refl

-- ---- a message that was sent

sent_in_at : (xs : List Sent) (k : ℕ) (s : Sent) → slice_get xs k ≡ Some s → In s.frame (frames xs)
sent_in_at [] k s e = absurd (cc)
sent_in_at (x ∷ xs) zero s e = inl (let same : x ≡ s = cc in ap (λ (y : Sent). y.frame) same)
sent_in_at (x ∷ xs) (suc k) s e = inr (sent_in_at xs k s e)

pub sent_in : (k : ℕ) (s : Sent) (w : Cluster) → sent_at k w ≡ Some s → In s.frame (frames_in w)
unfolding sent_at
sent_in zero s w e = absurd (cc)
sent_in (suc k) s w e = sent_in_at w.sent k s e

-- ---- a call that ends with its node tells nothing

pub gone_told : (s : Step) (calls xs : List PendingCall) → told_lines s calls (gone xs) ≡ []
unfolding gone told_lines told_line
gone_told s calls [] = refl
gone_told s calls (p ∷ xs) = gone_told s calls xs
