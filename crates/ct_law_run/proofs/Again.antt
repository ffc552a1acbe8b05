-- What a leader says again at a Retry.
use Rattle.std.proofs.Common.{◌≡◌, ℕ, Bool, true, false, cond, List, [], ◌∷◌, ◌++◌, append-nil, append_assoc, refl, sym, ap, ◌∙◌, subst}
use Rattle.std.specs.List.{AllByRecursion}
use Rattle.ct_values.specs.declared.config.Config.{Config}
use Rattle.ct_frame.specs.declared.event.Event.TheVariants as event
use Rattle.ct_frame.specs.declared.event.Out.{Out}
use Rattle.ct_frame.specs.declared.event.Out.TheVariants as out
use Rattle.ct_frame.specs.declared.frame.Frame.{Frame}
use Rattle.ct_frame.specs.declared.frame.Msg.{Msg}
use Rattle.ct_frame.specs.declared.frame.Msg.TheVariants as msg
use Rattle.ct_call.specs.Rules.{Rules}
use Rattle.ct_lcp2.proofs.Choices.{all_append}
use Rattle.ct_rules_node.specs.Node.{Node, Lead}
use Rattle.ct_rules_node.specs.Turn.{Turn, begins}
use Rattle.ct_rules_node.specs.Admission.{record_in}
use Rattle.ct_rules_node.specs.Steps.{happens}
use Rattle.ct_rules_cluster.specs.Cluster.{Cluster, absent, node_at, pending}
use Rattle.ct_register.specs.Lines.{Lines}
use Rattle.ct_law_run.proofs.Ages.{Ages}
use Rattle.ct_law_run.proofs.Lives.{Lives, RoundSays, ReplySays, LeadSays, IsTicket}
use Rattle.ct_law_run.proofs.Faces.{Turned}
use Rattle.ct_rules_node.specs.Node.{Nothing, is_present}
use Rattle.std.specs.Prelude.{nat_lt}
use Rattle.ct_rules_node.specs.Node.{Freezes, Pulls, Installs, Completed}
use Rattle.ct_rules_node.specs.Turn.{does, posts, posts_all}
use Rattle.ct_law_run.proofs.Leading.{Led, lead_turned}
use Rattle.ct_frame.specs.declared.round.PushBody.{PushBody}
use Rattle.ct_law_run.proofs.Rounding.{Says_round, sends, sends_led, leads_still}
use Rattle.ct_values.specs.declared.address.Address.{Address}
use Rattle.ct_frame.specs.declared.frame.Assigned.{Assigned}
use Rattle.ct_rules_node.specs.Node.{Takeover, Run, NoRun, Releasing, Taking, is_present_in}
use Rattle.ct_rules_node.specs.Rounds.{push_of}
use Rattle.ct_rules_node.specs.Takeovers.{send_releases, assigned_in}
use Rattle.ct_rules_node.specs.Retries.{retry, retry_records, retry_lead, retry_run}
use Rattle.ct_law_run.proofs.Arriving.{to_all, posts_outs, posts_node, all_say, pull_asks, thaw_says}

-- from one middle of a turn to another these messages of rounds are sent, each of which says what is so, and the node stays
pub record Says_more (c : Config) (w : Cluster) (r : Lines) (a : Ages) (n : ℕ) (t u : Turn) : Type 0 where
  pub frames : List Frame
  pub node : u.node ≡ t.node
  pub outs : u.outs ≡ t.outs ++ sends frames
  pub all : AllByRecursion (Says_round c w r a n) frames

pub says_none : (c : Config) (w : Cluster) (r : Lines) (a : Ages) (n : ℕ) (t : Turn) → Says_more c w r a n t t
says_none c w r a n t = record { frames = []; node = refl; outs = sym (append-nil t.outs); all = tt }

sends_more : (fs gs : List Frame) → sends (fs ++ gs) ≡ sends fs ++ sends gs
sends_more [] gs = refl
sends_more (f ∷ fs) gs = ap (λ (l : List Out). out.Send f ∷ l) (sends_more fs gs)

pub says_then : (c : Config) (w : Cluster) (r : Lines) (a : Ages) (n : ℕ) (t u v : Turn) → Says_more c w r a n t u → Says_more c w r a n u v → Says_more c w r a n t v
says_then c w r a n t u v p q = record {
  frames = p.frames ++ q.frames;
  node = q.node ∙ p.node;
  outs = q.outs ∙ ap (λ (l : List Out). l ++ sends q.frames) p.outs ∙ append_assoc t.outs (sends p.frames) (sends q.frames) ∙ ap (λ (l : List Out). t.outs ++ l) (sym (sends_more p.frames q.frames));
  all = all_append (Says_round c w r a n) p.frames q.frames p.all q.all;
}

says_one : (c : Config) (w : Cluster) (r : Lines) (a : Ages) (n g k : ℕ) (m : Msg) (t : Turn) → Says_round c w r a n (record { generation = g; sender = n; receiver = k; msg = m }) → Says_more c w r a n t (posts g n k m t)
unfolding posts does
says_one c w r a n g k m t h = record { frames = record { generation = g; sender = n; receiver = k; msg = m } ∷ []; node = refl; outs = refl; all = (h, tt) }

pub says_all : (c : Config) (w : Cluster) (r : Lines) (a : Ages) (n g : ℕ) (ks : List ℕ) (m : Msg) (t : Turn) → ((k : ℕ) → Says_round c w r a n (record { generation = g; sender = n; receiver = k; msg = m })) → Says_more c w r a n t (posts_all g n ks m t)
says_all c w r a n g ks m t h = record { frames = to_all g n ks m; node = posts_node g n ks m t; outs = posts_outs g n ks m t; all = all_say c w r a n g ks m h }

-- ---- each message

freeze_says : (c : Config) (w : Cluster) (r : Lines) (a : Ages) (n g k : ℕ) (members : List ℕ) → IsTicket c r g n members → Says_round c w r a n (record { generation = g; sender = n; receiver = k; msg = msg.Freeze members })
unfolding RoundSays ReplySays record_in
freeze_says c w r a n g k members t = record { sender = refl; round = t; none = refl; reply = tt }

pub push_says : (c : Config) (w : Cluster) (r : Lines) (a : Ages) (n g k : ℕ) (members : List ℕ) (b : PushBody) → IsTicket c r g n members → r.born g ≡ true → b.members ≡ members → b.table ≡ a.tables g → Says_round c w r a n (record { generation = g; sender = n; receiver = k; msg = push_of b })
unfolding RoundSays ReplySays record_in push_of
push_says c w r a n g k members b t born is table = record { sender = refl; round = (t.later, born, is ∙ sym t.named, table); none = refl; reply = tt }

release_says : (c : Config) (w : Cluster) (r : Lines) (a : Ages) (n g k number : ℕ) (keep : List Address) → Says_round c w r a n (record { generation = g; sender = n; receiver = k; msg = msg.Release number keep })
unfolding RoundSays ReplySays record_in
release_says c w r a n g k number keep = record { sender = refl; round = tt; none = refl; reply = tt }

pub take_says : (c : Config) (w : Cluster) (r : Lines) (a : Ages) (n g k number : ℕ) (assigned : List Assigned) → Says_round c w r a n (record { generation = g; sender = n; receiver = k; msg = msg.Take number assigned })
unfolding RoundSays ReplySays record_in
take_says c w r a n g k number assigned = record { sender = refl; round = tt; none = refl; reply = tt }

releases_say : (c : Config) (w : Cluster) (r : Lines) (a : Ages) (n g number : ℕ) (placement : List Assigned) (ks : List ℕ) (t : Turn) → Says_more c w r a n t (send_releases n g number placement ks t)
unfolding send_releases
releases_say c w r a n g number placement [] t = says_none c w r a n t
releases_say c w r a n g number placement (k ∷ ks) t = says_then c w r a n t _ _ (says_one c w r a n g k _ t (release_says c w r a n g k number _)) (releases_say c w r a n g number placement ks _)

run_says : (c : Config) (w : Cluster) (r : Lines) (a : Ages) (n g : ℕ) (members : List ℕ) (x : Takeover) (run : Run) (t : Turn) → Says_more c w r a n t (retry_run n g members x t run)
unfolding retry_run
run_says c w r a n g members x NoRun t = says_none c w r a n t
run_says c w r a n g members x (Releasing placement missing) t = releases_say c w r a n g x.number placement missing t
run_says c w r a n g members x (Taking placement) t = says_all c w r a n g members _ t (λ k. take_says c w r a n g k x.number (assigned_in placement))

-- ---- a Retry: in the middle of any turn, a leader says again what is so

pub lead_says_again : (c : Config) (w : Cluster) (r : Lines) (a : Ages) (n : ℕ) (l : Lead) (t : Turn) → LeadSays c w r a n l → Says_more c w r a n t (retry_lead n t l)
unfolding retry_lead LeadSays
lead_says_again c w r a n Nothing t h = says_none c w r a n t
lead_says_again c w r a n (Freezes g members missing) t h = says_all c w r a n g missing (msg.Freeze members) t (λ k. freeze_says c w r a n g k members h.0)
lead_says_again c w r a n (Pulls g members missing x) t h = says_all c w r a n g missing msg.Pull t (λ k. pull_asks c w r a n g k)
lead_says_again c w r a n (Installs g members missing b) t h = says_all c w r a n g missing (push_of b) t (λ k. push_says c w r a n g k members b h.0 h.1 h.2 h.3)
lead_says_again c w r a n (Completed g members x) t h = either (is_present_in g t.node)
  where
    thawed : Says_more c w r a n t (posts_all g n members msg.Thaw t)
    thawed = says_all c w r a n g members msg.Thaw t (λ k. thaw_says c w r a n g k members h.0 h.1 h.2)

    either : (b : Bool) → Says_more c w r a n t (cond b (retry_run n g members x (posts_all g n members msg.Thaw t) x.run) (posts_all g n members msg.Thaw t))
    either true = says_then c w r a n t _ _ thawed (run_says c w r a n g members x x.run (posts_all g n members msg.Thaw t))
    either false = thawed

-- a turn that only says more
pub more_led : (c : Config) (w : Cluster) (r : Lines) (a : Ages) (n : ℕ) (l : Lead) (t u : Turn) → t.node ≡ record (node_at n w) { lead = l } → t.outs ≡ [] → LeadSays c w r a n l → Says_more c w r a n t u → Led c w r a n u
more_led c w r a n l t u node outs lead s =
    let is : u.node ≡ record (node_at n w) { lead = l } = s.node ∙ node in
    let leads : u.node.lead ≡ l = ap (λ (x : Node). x.lead) is in
    sends_led c w r a n u s.frames (is ∙ ap (λ (k : Lead). record (node_at n w) { lead = k }) (sym leads)) (s.outs ∙ ap (λ (o : List Out). o ++ sends s.frames) outs)
    (leads_still c w r a n u u.node.lead (subst (λ (k : Lead). LeadSays c w r a n k) (sym leads) lead)) s.all

-- the Retry of a node that is not present
pub retry_turned : (c : Config) (rules : Rules) (w : Cluster) (r : Lines) (h : Lives c rules w r) (n : ℕ) → nat_lt n c.nodes ≡ true → is_present (node_at n w).phase ≡ false → Turned c rules h.who w r h.ages n (pending w) (happens c rules n (begins (node_at n w)) event.Retry)
unfolding happens retry retry_records
retry_turned c rules w r h n there absent = lead_turned c rules w r h n (happens c rules n (begins (node_at n w)) event.Retry) there
    (subst (λ (t : Turn). Led c w r h.ages n (retry_lead n t t.node.lead)) (sym (other (is_present (node_at n w).phase) _ _ absent))
    (more_led c w r h.ages n (node_at n w).lead (begins (node_at n w)) (retry_lead n (begins (node_at n w)) (node_at n w).lead) refl refl (h.nodes n there).lead (lead_says_again c w r h.ages n (node_at n w).lead (begins (node_at n w)) (h.nodes n there).lead)))
  where
    other : (b : Bool) (p q : Turn) → b ≡ false → cond b p q ≡ q
    other true p q e = absurd (cc)
    other false p q e = refl
