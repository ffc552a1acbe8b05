-- A call that is refused, at any node: nothing changes but the count of calls.
use Rattle.std.specs.Prelude.{nat_lt}
use Rattle.ct_call.specs.Rules.{Rules}
use Rattle.ct_rules_cluster.specs.Cluster.{Cluster, Sent, node_at, pending}
use Rattle.ct_rules_cluster.specs.Labels.{Answered, Label}
use Rattle.ct_rules_cluster.specs.Steps.{frames_of, put, with_node}
use Rattle.ct_rules_cluster.specs.declared.step.PendingCall.{PendingCall}
use Rattle.ct_law_record.proofs.Markings.{goes_stays}
use Rattle.ct_law_record.proofs.Invariant.{span_of}
use Rattle.ct_law_run.proofs.Freezing.{resent}
use Rattle.ct_law_run.proofs.Stood.{lead_later}
use Rattle.ct_law_run.proofs.LeadTurning.{sent_still}
use Rattle.ct_law_run.proofs.Faces.{Turned}
use Rattle.ct_law_run.proofs.Lives.{Lives, NodeLives, MailSays, ReplySays}
use Rattle.ct_law_generation.proofs.Calling.{own_pending}
use Rattle.ct_law_record.proofs.MarkLists.{marks_go}
use Rattle.ct_law_record.proofs.MarkedRun.{marks_of}
use Rattle.ct_law_generation.specs.Shown.{mails, labels_of}
use Rattle.ct_values.specs.declared.client.ClientOp.{ClientOp}
use Rattle.ct_values.specs.declared.config.Config.{Config}
use Rattle.ct_promise.specs.Generation.{record_labels}
use Rattle.ct_promise.specs.Marked.{is_removal, is_removed}
use Rattle.ct_register.specs.Legal.{AcceptsLabels}
use Rattle.ct_register.specs.Lines.{Lines}
use Rattle.ct_register.specs.Marks.{MarksStep}
use Rattle.ct_rules_node.specs.Turn.{Turn}
use Rattle.std.proofs.Common.{◌≡◌, ℕ, Bool, true, false, not, List, [], ◌++◌, append-nil, refl, sym, ap, ◌∙◌, subst, cond, ◌∷◌}
use Rattle.std.specs.List.{AllByRecursion}
use Rattle.std.proofs.lemmas.Bool.{not-true}
use Rattle.ct_values.specs.Client.{db_of}
use Rattle.ct_rules_node.specs.Node.{is_persistent, kind_at}
use Rattle.ct_law_record.specs.Marked as law_marked
use Rattle.ct_law_run.proofs.Leading.{later_none}
use Rattle.ct_values.specs.declared.client.Answer.TheVariants as answer
use Rattle.ct_rules_node.specs.Turn.{does}
use Rattle.ct_rules_node.specs.Turn.{begins}
use Rattle.std.proofs.Common.{Some, inl}
use Rattle.ct_values.specs.declared.client.Why.{Why}
use Rattle.ct_frame.specs.declared.event.Event.TheVariants as event
use Rattle.ct_rules_node.specs.Clients.{client, refusal, serves_or}
use Rattle.ct_rules_node.specs.Steps.{happens}
use Rattle.ct_law_generation.proofs.Configured.{refusals_silent}
use Rattle.ct_promise.specs.Generation.{speaks_of_records}
use Rattle.ct_rules_node.specs.Turn.{makes, answers}
use Rattle.ct_law_generation.specs.Shown.{is_telling}
use Rattle.ct_law_generation.proofs.Weave.{silent}
use Rattle.ct_law_run.proofs.Held.{outs_labels}
use Rattle.ct_law_run.proofs.Leading.{node_lead}
use Rattle.ct_law_run.proofs.Later.{keeps_view}
use Rattle.ct_law_run.proofs.Apart.{none_fresh}

module _ (c : Config) (rules : Rules) (w : Cluster) (r : Lines) (h : Lives c rules w r) (n : ℕ) (asked : ClientOp) (reason : Why) (there : nat_lt n c.nodes ≡ true) (quiet : is_telling (answer.Refused reason) ≡ false) where
  abbrev u : Turn
  u = answers w.calls (answer.Refused reason) (makes w.calls (begins (node_at n w)))

  abbrev v : Cluster
  v = (put n u [] w).cluster

  abbrev pend : List PendingCall
  pend = own_pending n w.calls asked ∷ pending w

  labels : labels_of n pend u.outs ≡ Answered n asked (answer.Refused reason) ∷ []
  unfolding answers does makes
  labels = outs_labels n 0 0 w.calls asked (answer.Refused reason) (pending w) u.outs [] refl (inl refl)

  frames : frames_of u.outs ≡ []
  unfolding answers does makes frames_of
  frames = refl

  sent_is : v.sent ≡ w.sent ++ frames_of u.outs
  unfolding put with_node
  sent_is = refl

  sent_same : v.sent ≡ w.sent
  sent_same = sent_is ∙ ap (λ (l : List Sent). w.sent ++ l) frames ∙ append-nil w.sent

  calls_is : v.calls ≡ w.calls
  unfolding put with_node
  calls_is = refl

  accepted : (b : Bool) → not (is_persistent (kind_at c (db_of asked))) ≡ b → AcceptsLabels c rules r (cond b (Answered n asked (answer.Refused reason) ∷ []) []) r
  accepted true e = (r, silent c rules n asked (answer.Refused reason) r (not-true (is_persistent (kind_at c (db_of asked))) e) quiet, refl)
  accepted false e = refl

  spoken : not (is_persistent (kind_at c (db_of asked))) ≡ speaks_of_records c (Answered n asked (answer.Refused reason))
  unfolding speaks_of_records
  spoken = refl

  mine : NodeLives c rules h.who v r h.ages n u.node
  unfolding answers does makes
  mine = node_lead c rules h.who w v r h.ages n (node_at n w) (node_at n w).lead calls_is
      (lead_later c w v r h.ages r h.ages n (node_at n w).lead (later_none r h.ages) (λ g e. e) (λ q i. sent_still w v (frames_of u.outs) q sent_is i) (h.nodes n there).lead)
      (subst (λ (l : List Sent). AllByRecursion (λ s. ReplySays r h.ages n (node_at n w) s.frame s.frame.msg) l) (sym sent_same) (h.nodes n there).replies)
      (h.nodes n there)

  unremoved : (m d : ℕ) (k : List ℕ) → is_removed r m d k (labels_of n pend u.outs) ≡ false
  unfolding is_removal
  unremoved m d k = ap (λ (z : List Label). is_removed r m d k z) labels

  pub refused_turned : Turned c rules h.who w r h.ages n pend u
  unfolding law_marked.is_removed
  refused_turned = record {
    lines = r;
    ages = h.ages;
    accepts = subst (λ (z : List Label). AcceptsLabels c rules r (record_labels c z) r) (sym labels) (accepted (speaks_of_records c (Answered n asked (answer.Refused reason))) spoken);
    later = later_none r h.ages;
    away = λ k ne. record { line = refl; pline = refl; views = λ g db key born. refl };
    rest = λ g db key born why. keeps_view _ _ refl;
    last = refl;
    holder = refl;
    lives = resent c rules w v r h.ages (λ m db key. ap (λ (l : List Sent). mails m db key l) sent_same) h.lines;
    mine = mine;
    says = subst (λ (l : List Sent). AllByRecursion (λ s. MailSays c r h.ages s.frame) l) (sym frames) tt;
    replies = λ k ne. subst (λ (l : List Sent). AllByRecursion (λ s. ReplySays r h.ages k (node_at k w) s.frame s.frame.msg) l) (sym frames) tt;
    marks = λ g born db key. subst (λ (t : Bool). MarksStep t (marks_of (h.ages.ghosts g db key)) (marks_of (h.ages.ghosts g db key))) (sym (unremoved g db key))
        (marks_go false (span_of (h.ages.ghosts g db key)) (span_of (h.ages.ghosts g db key)) ((h.lines.line g born).world db key).all.marks.under (goes_stays (span_of (h.ages.ghosts g db key))));
    fresh = λ k ne lt. none_fresh c rules r r h.ages k (node_at k w) (λ g. refl);
  }

-- so it is of every call that the node must refuse
pub refusal_turned : (c : Config) (rules : Rules) (w : Cluster) (r : Lines) (h : Lives c rules w r) (n : ℕ) (o : ClientOp) (reason : Why) → nat_lt n c.nodes ≡ true → refusal c rules (node_at n w) o ≡ Some reason →
    Turned c rules h.who w r h.ages n (own_pending n w.calls o ∷ pending w) (happens c rules n (begins (node_at n w)) (event.Client w.calls o))
unfolding happens client serves_or
refusal_turned c rules w r h n o reason there why =
    subst (λ (t : Turn). Turned c rules h.who w r h.ages n (own_pending n w.calls o ∷ pending w) t) (sym (ap (serves_or c rules n w.calls o (makes w.calls (begins (node_at n w)))) why))
    (refused_turned c rules w r h n o reason there (refusals_silent c rules (node_at n w) o reason why))
