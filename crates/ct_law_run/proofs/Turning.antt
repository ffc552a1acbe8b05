-- All holds after a step in which a node took a turn, where its parts hold of the turn.
use Rattle.std.proofs.Common.{◌≡◌, ◌≢◌, ℕ, ◌<◌, true, List, [], ◌∷◌, ◌++◌, ⊎_elim, inl, inr, sym, ap, ◌∙◌, subst}
use Rattle.std.specs.Prelude.{nat_lt, map}
use Rattle.std.specs.List.{AllByRecursion}
use Rattle.std.proofs.lemmas.Bool.{cases_eq, ltb-true}
use Rattle.std.proofs.lemmas.List.{length-set}
use Rattle.ct_values.specs.declared.config.Config.{Config}
use Rattle.ct_frame.specs.declared.frame.Frame.{Frame}
use Rattle.ct_call.specs.Rules.{Rules}
use Rattle.ct_merge.proofs.Among.{In}
use Rattle.ct_rules_node.specs.Node.{Node, Phase}
use Rattle.ct_rules_node.specs.Turn.{Turn}
use Rattle.ct_rules_cluster.specs.Cluster.{Cluster, Sent, is_up, node_at}
use Rattle.ct_rules_cluster.specs.Labels.{Label}
use Rattle.ct_rules_cluster.specs.Steps.{frames_of, with_node, put}
use Rattle.ct_rules_cluster.specs.declared.step.Line.{Line}
use Rattle.ct_rules_cluster.specs.declared.step.PendingCall.{PendingCall}
use Rattle.ct_register.specs.Lines.{Lines}
use Rattle.ct_register.specs.Legal.{AcceptsLabels}
use Rattle.ct_register.proofs.Formed.{labels_formed}
use Rattle.ct_promise.specs.Generation.{record_labels}
use Rattle.ct_promise.specs.Marked.{MarksGoOn}
use Rattle.ct_law_generation.specs.Shown.{labels_of}
use Rattle.ct_law_generation.proofs.Putting.{own_node, other_node}
use Rattle.ct_law_run.proofs.Ages.{Ages}
use Rattle.ct_law_run.proofs.Lives.{ReplySays, MailSays, NodeLives, Lives}
use Rattle.ct_law_run.proofs.Later.{Rest, keeps_view}
use Rattle.ct_law_run.proofs.Framing.{mail_later}
use Rattle.ct_law_run.proofs.Apart.{each_then, replies_away, node_away}
use Rattle.ct_law_run.proofs.Faces.{Turned, After, marks_in_all}
use Rattle.ct_law_run.proofs.Bare.{labels_bare}

-- what holds of the items of two lists holds of those of both
pub all_append : {X : Type 0} (P : X → Type 0) (xs ys : List X) → AllByRecursion P xs → AllByRecursion P ys → AllByRecursion P (xs ++ ys)
all_append P [] ys a b = b
all_append P (x ∷ xs) ys a b = (a.0, all_append P xs ys a.1 b)

-- what was sent was sent still where more is
pub sent_more : (f : Frame) (ss ts : List Sent) → In f (map (λ (s : Sent). s.frame) ss) → In f (map (λ (s : Sent). s.frame) (ss ++ ts))
sent_more f [] ts h = absurd h
sent_more f (s ∷ ss) ts h = ⊎_elim (λ (e : s.frame ≡ f). inl e) (λ (k : In f (map (λ (s : Sent). s.frame) ss)). inr (sent_more f ss ts k)) h

module _ (c : Config) (rules : Rules) (w : Cluster) (r : Lines) (h : Lives c rules w r) (n : ℕ) (pend : List PendingCall) (u : Turn) (own : List Line) (t : Turned c rules h.who w r h.ages n pend u)
    (there : nat_lt n c.nodes ≡ true) where
  abbrev v : Cluster
  v = (put n u own w).cluster

  others_live : (k : ℕ) → k ≢ n → nat_lt k c.nodes ≡ true → NodeLives c rules h.who v t.lines t.ages k (node_at k v)
  unfolding put with_node node_at
  others_live k ne lt = (let l = h.nodes k lt in
      subst (λ (x : Node). NodeLives c rules h.who v t.lines t.ages k x) (sym (other_node n k u.node w ne))
      (node_away c rules h.who h.who w v r h.ages t.lines t.ages k (node_at k w) t.later (t.away k ne) (t.fresh k ne lt) l.known (λ f was. sent_more f w.sent (frames_of u.outs) was) (λ some. (l.named some).0)
      (all_append (λ q. ReplySays t.lines t.ages k (node_at k w) q.frame q.frame.msg) w.sent (frames_of u.outs)
      (replies_away c rules h.who h.who w v r h.ages t.lines t.ages k (node_at k w) t.later (t.away k ne) w.sent l.replies)
      (t.replies k ne)) l))

  own_lives : NodeLives c rules h.who v t.lines t.ages n (node_at n v)
  unfolding put with_node node_at
  own_lives = subst (λ (x : Node). NodeLives c rules h.who v t.lines t.ages n x) (sym (own_node n u.node w (subst (λ (k : ℕ). n < k) (sym h.size) (ltb-true n c.nodes there)))) t.mine

  own_is : node_at n v ≡ u.node
  unfolding put with_node node_at
  own_is = own_node n u.node w (subst (λ (k : ℕ). n < k) (sym h.size) (ltb-true n c.nodes there))

  -- each node keeps what it has in lines in which it does nothing
  all_rest : (k : ℕ) → Rest r h.ages t.lines t.ages k (node_at k v).phase
  all_rest k = ⊎_elim
      (λ (is : k ≡ n). subst (λ (j : ℕ). Rest r h.ages t.lines t.ages j (node_at j v).phase) (sym is) (subst (λ (x : Node). Rest r h.ages t.lines t.ages n x.phase) (sym own_is) t.rest))
      (λ (ne : k ≢ n). λ g db key born why. keeps_view _ _ ((t.away k ne).views g db key born))
      (cases_eq k n)

  all_live : (k : ℕ) → nat_lt k c.nodes ≡ true → NodeLives c rules h.who v t.lines t.ages k (node_at k v)
  all_live k lt = ⊎_elim (λ (is : k ≡ n). subst (λ (j : ℕ). NodeLives c rules h.who v t.lines t.ages j (node_at j v)) (sym is) own_lives) (λ (ne : k ≢ n). others_live k ne lt) (cases_eq k n)

  -- so it is from these registers on, where they accept what is told and marks go on
  pub turned_after : (r0 : Lines) (a0 : Ages) (trace : List Label) → AcceptsLabels c rules r0 (record_labels c trace) t.lines → MarksGoOn r0 trace (marks_in_all a0) (marks_in_all t.ages) →
      ((k : ℕ) (p : Phase) → Rest r h.ages t.lines t.ages k p → Rest r0 a0 t.lines t.ages k p) → After c rules r0 a0 (record { cluster = v; trace = trace })
  unfolding put with_node is_up
  turned_after r0 a0 trace accepts marks rests = record {
    lines = t.lines;
    accepts = accepts;
    lives = record {
      who = h.who;
      ages = t.ages;
      formed = labels_formed c rules (record_labels c (labels_of n pend u.outs)) r t.lines t.accepts h.formed;
      last = t.last ∙ h.last;
      holder = t.holder ∙ h.holder;
      size = length-set w.nodes n u.node ∙ h.size;
      up = h.up;
      lines = t.lives;
      nodes = all_live;
      outside = λ k out. (t.away k (λ is. absurd (let e = sym out ∙ ap (λ (j : ℕ). nat_lt j c.nodes) is ∙ there in cc))).line ∙ h.outside k out;
      mail = all_append (λ q. MailSays c t.lines t.ages q.frame) w.sent (frames_of u.outs) (each_then (λ q. MailSays c r h.ages q.frame) (λ q. MailSays c t.lines t.ages q.frame) (λ q m. mail_later c r h.ages t.lines t.ages q.frame t.later m) w.sent h.mail) t.says;
      bare = labels_bare c rules (labels_of n pend u.outs) r t.lines t.accepts h.bare;
    };
    marks = marks;
    rest = λ k. rests k (node_at k v).phase (all_rest k);
  }
