-- The step of a node becomes the cluster's: what the cluster shows of each record then, and the schedules that lead to it.
use Rattle.std.proofs.Common.{◌≡◌, ◌≢◌, ℕ, zero, suc, ◌<◌, true, cond, List, [], ◌∷◌, ◌++◌, length, Some, get_or, set, get_or-set_same, get_or-set_other, refl, sym, ap, ◌∙◌, subst}
use Rattle.std.specs.Prelude.{nat_eq, slice_get}
use Rattle.std.proofs.lemmas.Bool.{cond_both, eqb-true, eqb-false}
use Rattle.ct_values.specs.declared.config.Config.{Config}
use Rattle.ct_call.specs.Rules.{Rules}
use Rattle.ct_rules_node.specs.Node.{Node}
use Rattle.ct_rules_node.specs.Turn.{Turn}
use Rattle.ct_rules_node.specs.Admission.{record_in}
use Rattle.ct_rules_cluster.specs.Cluster.{Cluster, Sent, Fate, absent, or_absent, node_at}
use Rattle.ct_rules_cluster.specs.Labels.{Label}
use Rattle.ct_rules_cluster.specs.Steps.{frames_of, with_node, put, with_fate}
use Rattle.ct_rules_cluster.specs.declared.step.Line.{Line}
use Rattle.ct_rules_cluster.specs.declared.step.PendingCall.{PendingCall}
use Rattle.ct_law_record.specs.Labels as law
use Rattle.ct_law_record.specs.World.{Scene, View, Mail, World, Event, last, trace}
use Rattle.ct_law_generation.specs.Shown.{Era, scene, view, mail_of, mails, told_by_all, heard, labels_of, project, amid, Follows, Schedules}
use Rattle.ct_law_generation.proofs.Hearing.{mails_more, told_by_more, heard_more}
use Rattle.ct_law_generation.proofs.Following.{last_more, trace_more}

-- ---- the nodes

or_get : (ns : List Node) (i : ℕ) → or_absent (slice_get ns i) ≡ get_or ns i absent
unfolding or_absent
or_get [] i = refl
or_get (x ∷ xs) zero = refl
or_get (x ∷ xs) (suc i) = or_get xs i

pub own_node : (n : ℕ) (x : Node) (w : Cluster) → n < length w.nodes → node_at n (with_node n x w) ≡ x
unfolding node_at with_node
own_node n x w l = or_get (set w.nodes n x) n ∙ get_or-set_same w.nodes n x absent l

pub other_node : (n k : ℕ) (x : Node) (w : Cluster) → k ≢ n → node_at k (with_node n x w) ≡ node_at k w
unfolding node_at with_node
other_node n k x w ne = or_get (set w.nodes n x) k ∙ get_or-set_other w.nodes n k x absent ne ∙ sym (or_get w.nodes k)

put_node : (db : ℕ) (key : List ℕ) (n k : ℕ) (x : Node) (w : Cluster) → n < length w.nodes → view db key (node_at k (with_node n x w)) ≡ cond (nat_eq k n) (view db key x) (view db key (node_at k w))
put_node db key n k x w l = cond_both (nat_eq k n) _ _ (λ (v : View). view db key (node_at k (with_node n x w)) ≡ v)
    (λ t. subst (λ (j : ℕ). view db key (node_at j (with_node n x w)) ≡ view db key x) (sym (eqb-true k n t)) (ap (view db key) (own_node n x w l)))
    (λ f. ap (view db key) (other_node n k x w (eqb-false k n f)))

-- the cluster shows what there was amid the step at its end
pub put_shows : (g : ℕ) (db : ℕ) (key : List ℕ) (n : ℕ) (u : Turn) (own : List Line) (w : Cluster) → n < length w.nodes → project g db key (put n u own w).cluster ≡ amid g db key n (project g db key w) u
unfolding put with_node node_at
put_shows g db key n u own w l = (let mail = mails_more g db key w.sent (frames_of u.outs) in
    λ i. record { nodes = λ k. put_node db key n k u.node w l i; joined = λ _. true; mail = mail i })

-- ---- what became of a message does not show

fates : (g : ℕ) (db : ℕ) (key : List ℕ) (ss : List Sent) (k : ℕ) (s : Sent) (f : Fate) → slice_get ss k ≡ Some s → mails g db key (set ss k (record s { fate = f })) ≡ mails g db key ss
unfolding mails
fates g db key [] k s f e = absurd (cc)
fates g db key (x ∷ xs) zero s f e = (let same : s ≡ x = cc in ap (λ (y : Sent). mail_of g db key y.frame (record_in y.frame.msg) ++ mails g db key xs) same)
fates g db key (x ∷ xs) (suc k) s f e = ap (λ (l : List Mail). mail_of g db key x.frame (record_in x.frame.msg) ++ l) (fates g db key xs k s f e)

pub fate_hidden : (g : ℕ) (db : ℕ) (key : List ℕ) (k : ℕ) (s : Sent) (f : Fate) (w : Cluster) → slice_get w.sent k ≡ Some s → project g db key (with_fate (suc k) s f w) ≡ project g db key w
unfolding with_fate node_at
fate_hidden g db key k s f w e = ap (λ (l : List Mail). record { nodes = λ n. view db key (node_at n w); joined = λ _. true; mail = l }) (fates g db key w.sent k s f e)

-- ---- the schedules go on

-- the world of a record goes on by these events
extended : (s : Scene) (start w v : World) (es fs : List Event) (told more : List law.Label) → last s start es ≡ w → heard (trace s start es) ≡ told → last s w fs ≡ v → heard (trace s w fs) ≡ more →
    (last s start (es ++ fs) ≡ v) × (heard (trace s start (es ++ fs)) ≡ told ++ more)
extended s start w v es fs told more at tells to tells_more = (
  last_more s start es fs ∙ ap (λ (x : World). last s x fs) at ∙ to,
  ap heard (trace_more s start es fs) ∙ heard_more (trace s start es) (trace s (last s start es) fs)
      ∙ (λ i. tells i ++ heard (trace s (at i) fs)) ∙ ap (λ (l : List law.Label). told ++ l) tells_more,
)

-- Schedules that lead to a cluster go on to what a step of a node makes of it, where each record's world follows the step
-- from its beginning.
pub extends : (c : Config) (era : Era) (rules : Rules) (n : ℕ) (t u : Turn) (own : List Line) (w : Cluster) (pend : List PendingCall) (labels : List Label) (es : ℕ → List ℕ → List Event) → n < length w.nodes → t.outs ≡ [] →
    ((db : ℕ) (key : List ℕ) → project era.number db key w ≡ amid era.number db key n (project era.number db key w) t) → Schedules c era rules w labels es →
    (follow : (db : ℕ) (key : List ℕ) → Follows era.number (scene c era rules db key) n (project era.number db key w) pend t u) →
    Schedules c era rules (put n u own w).cluster (labels ++ labels_of n pend u.outs) (λ db key. es db key ++ (follow db key).0)
unfolding labels_of told_by_all
extends c era rules n t u own w pend labels es l empty begun h follow db key =
    let f = follow db key in
    let s = scene c era rules db key in
    let none : told_by_all db key (labels_of n pend t.outs) ≡ [] = ap (λ xs. told_by_all db key (labels_of n pend xs)) empty in
    let tells : heard (trace s (project era.number db key w) f.0) ≡ told_by_all db key (labels_of n pend u.outs) =
    ap (λ (x : World). heard (trace s x f.0)) (begun db key) ∙ sym (f.1.labels ∙ ap (λ (l : List law.Label). l ++ heard (trace s (amid era.number db key n (project era.number db key w) t) f.0)) none) in
    let to : last s (project era.number db key w) f.0 ≡ project era.number db key (put n u own w).cluster = ap (λ (x : World). last s x f.0) (begun db key) ∙ f.1.world ∙ sym (put_shows era.number db key n u own w l) in
    let p = extended s (era.start db key) (project era.number db key w) (project era.number db key (put n u own w).cluster) (es db key) f.0 (told_by_all db key labels) (told_by_all db key (labels_of n pend u.outs)) (h db key).0 (h db key).1 to tells in
    (p.0, p.1 ∙ sym (told_by_more db key labels (labels_of n pend u.outs)))
