-- The turn in which a node begins a takeover run: it leads as before, and members get a Release.
use Rattle.std.proofs.Common.{◌≡◌, ℕ, true, ◌&&◌, List, [], ◌∷◌, ◌++◌, None, refl, sym, ap, ◌∙◌, subst}
use Rattle.std.specs.Prelude.{nat_eq, nat_lt}
use Rattle.std.specs.List.{AllByRecursion}
use Rattle.std.proofs.lemmas.Bool.{cond_both}
use Rattle.ct_values.specs.declared.address.Address.{Address}
use Rattle.ct_values.specs.declared.config.Config.{Config}
use Rattle.ct_frame.specs.declared.event.Out.{Out}
use Rattle.ct_frame.specs.declared.event.Out.TheVariants as out
use Rattle.ct_frame.specs.declared.frame.Assigned.{Assigned}
use Rattle.ct_frame.specs.declared.frame.Frame.{Frame}
use Rattle.ct_frame.specs.declared.frame.Msg.{Msg}
use Rattle.ct_frame.specs.declared.frame.Msg.TheVariants as msg
use Rattle.ct_call.specs.Rules.{Rules}
use Rattle.ct_rules_node.specs.Admission.{record_in}
use Rattle.ct_rules_node.specs.Node.{Node, Lead, Completed, is_serving}
use Rattle.ct_rules_node.specs.Takeovers.{share, send_releases, runs, begin_takeover}
use Rattle.ct_rules_node.specs.Turn.{Turn, begins, does, posts, makes, with_lead}
use Rattle.ct_rules_cluster.specs.Cluster.{Cluster, Sent, node_at}
use Rattle.ct_rules_cluster.specs.Labels.{Label}
use Rattle.ct_rules_cluster.specs.Steps.{frames_of}
use Rattle.ct_rules_cluster.specs.Traces.{sent_label}
use Rattle.ct_rules_cluster.specs.declared.step.PendingCall.{PendingCall}
use Rattle.ct_register.specs.Lines.{Lines}
use Rattle.ct_promise.specs.Generation.{record_labels}
use Rattle.ct_law_generation.specs.Shown.{labels_of}
use Rattle.ct_law_generation.proofs.Hearing.{frames_more, labels_more}
use Rattle.ct_law_generation.proofs.Pending.{Callers}
use Rattle.ct_law_run.proofs.Ages.{Ages}
use Rattle.ct_law_run.proofs.Lives.{ReplySays, RoundSays, MailSays, LeadSays, NodeLives, Lives}
use Rattle.ct_law_run.proofs.Apart.{each_then}
use Rattle.ct_law_run.proofs.Faces.{Turned}
use Rattle.ct_law_run.proofs.Wordless.{Is_wordless, wordless_turned, nothing_turned}
use Rattle.ct_law_run.proofs.Turning.{all_append}
use Rattle.ct_law_run.proofs.Beginning.{node_led}

abbrev IsRelease : Frame → Type 0
IsRelease f = (number : ℕ) × (keep : List Address) × (f.msg ≡ msg.Release number keep)

record Releases_only (n : ℕ) (pend : List PendingCall) (outs : List Out) : Type 0 where
  silent : labels_of n pend outs ≡ []
  sent : AllByRecursion (λ (s : Sent). IsRelease s.frame) (frames_of outs)

more_releases : (g n k number : ℕ) (keep : List Address) (pend : List PendingCall) (outs : List Out) → Releases_only n pend outs →
    Releases_only n pend (outs ++ out.Send (record { generation = g; sender = n; receiver = k; msg = msg.Release number keep }) ∷ [])
unfolding labels_of frames_of sent_label
more_releases g n k number keep pend outs h = (let x : List Out = out.Send (record { generation = g; sender = n; receiver = k; msg = msg.Release number keep }) ∷ [] in record {
  silent = labels_more n pend outs x ∙ ap (λ (ls : List Label). ls ++ []) h.silent;
  sent = subst (λ (ss : List Sent). AllByRecursion (λ (s : Sent). IsRelease s.frame) ss) (sym (frames_more outs x)) (all_append (λ (s : Sent). IsRelease s.frame) (frames_of outs) (frames_of x) h.sent ((number, keep, refl), tt));
})

send_only : (g n number : ℕ) (placement : List Assigned) (ks : List ℕ) (pend : List PendingCall) (t : Turn) → Releases_only n pend t.outs →
    Releases_only n pend (send_releases n g number placement ks t).outs × ((send_releases n g number placement ks t).node ≡ t.node)
unfolding send_releases posts does
send_only g n number placement [] pend t h = (h, refl)
send_only g n number placement (k ∷ ks) pend t h = send_only g n number placement ks pend (posts g n k (msg.Release number (share k placement)) t) (more_releases g n k number (share k placement) pend t.outs h)

release_says : (c : Config) (r : Lines) (a : Ages) (f : Frame) → IsRelease f → MailSays c r a f
unfolding RoundSays record_in
release_says c r a f h = record { round = subst (λ (m : Msg). RoundSays c r a f.generation f.sender m) (sym h.2) tt; sound = λ k e. absurd (let i = sym (ap record_in h.2) ∙ e in cc) }

release_reply : (r : Lines) (a : Ages) (k : ℕ) (x : Node) (f : Frame) → IsRelease f → ReplySays r a k x f f.msg
unfolding ReplySays
release_reply r a k x f h = subst (λ (m : Msg). ReplySays r a k x f m) (sym h.2) tt

releases_wordless : (c : Config) (rules : Rules) (who : Callers) (w : Cluster) (r : Lines) (a : Ages) (n : ℕ) (pend : List PendingCall) (u : Turn) → NodeLives c rules who w r a n u.node → Releases_only n pend u.outs → Is_wordless c rules who w r a n pend u
unfolding record_in
releases_wordless c rules who w r a n pend u mine only = record {
  untold = ap (record_labels c) only.silent;
  wordless = each_then (λ q. IsRelease q.frame) (λ q. record_in q.frame.msg ≡ None) (λ q h. ap record_in h.2) (frames_of u.outs) only.sent;
  says = each_then (λ q. IsRelease q.frame) (λ q. MailSays c r a q.frame) (λ q h. release_says c r a q.frame h) (frames_of u.outs) only.sent;
  replies = λ k ne. each_then (λ q. IsRelease q.frame) (λ q. ReplySays r a k (node_at k w) q.frame q.frame.msg) (λ q h. release_reply r a k (node_at k w) q.frame h) (frames_of u.outs) only.sent;
  own = each_then (λ q. IsRelease q.frame) (λ q. ReplySays r a n u.node q.frame q.frame.msg) (λ q h. release_reply r a n u.node q.frame h) (frames_of u.outs) only.sent;
  mine = mine;
}

-- by what it leads
pub takeover_turned : (c : Config) (rules : Rules) (w : Cluster) (r : Lines) (h : Lives c rules w r) (n : ℕ) (able : List ℕ) (pend : List PendingCall) (l : Lead) → LeadSays c w r h.ages n l → nat_lt n c.nodes ≡ true →
    Turned c rules h.who w r h.ages n pend (begin_takeover n able (begins (node_at n w)) l)
unfolding begin_takeover runs labels_of frames_of with_lead makes LeadSays
takeover_turned c rules w r h n able pend (Completed g members x) says there =
    cond_both (is_serving (node_at n w).phase && nat_eq (node_at n w).generation g) _ (begins (node_at n w)) (λ (y : Turn). Turned c rules h.who w r h.ages n pend y)
    (λ _. (let p = send_only g n _ _ members pend _ (record { silent = refl; sent = tt }) in
    wordless_turned c rules h.who w r h.ages n pend _ h.lines (releases_wordless c rules h.who w r h.ages n pend _ (subst (λ (y : Node). NodeLives c rules h.who w r h.ages n y) (sym p.1) (node_led c rules h.who w r h.ages n (node_at n w) _ says (h.nodes n there))) p.0)))
    (λ _. nothing_turned c rules w r h n pend there)
takeover_turned c rules w r h n able pend l says there = nothing_turned c rules w r h n pend there
