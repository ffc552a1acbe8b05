-- The turn in which a node begins the round of a ticket that was given to it: it leads from then on, and members get a Freeze.
use Rattle.std.proofs.Common.{◌≡◌, ℕ, true, false, List, [], ◌∷◌, ◌++◌, refl, sym, ap, ◌∙◌, subst, None}
use Rattle.std.specs.Prelude.{nat_lt}
use Rattle.std.specs.List.{AllByRecursion}
use Rattle.std.proofs.lemmas.Bool.{cond_both}
use Rattle.ct_values.specs.declared.config.Config.{Config}
use Rattle.ct_frame.specs.declared.event.Out.{Out}
use Rattle.ct_frame.specs.declared.event.Out.TheVariants as out
use Rattle.ct_frame.specs.declared.frame.Frame.{Frame}
use Rattle.ct_frame.specs.declared.frame.Msg.{Msg}
use Rattle.ct_frame.specs.declared.frame.Msg.TheVariants as msg
use Rattle.ct_call.specs.Rules.{Rules}
use Rattle.ct_rules_node.specs.Admission.{record_in}
use Rattle.ct_rules_node.specs.Node.{Node, Phase, Idle, Freezing, Frozen, Lead, Freezes, db_at, state_at}
use Rattle.ct_rules_node.specs.Rounds.{begin_round}
use Rattle.ct_rules_node.specs.Turn.{Turn, begins, does, posts, posts_all, makes, with_lead}
use Rattle.ct_rules_cluster.specs.Cluster.{Cluster, Sent, node_at}
use Rattle.ct_rules_cluster.specs.Labels.{Label}
use Rattle.ct_rules_cluster.specs.Steps.{frames_of}
use Rattle.ct_rules_cluster.specs.Traces.{sent_label}
use Rattle.ct_rules_cluster.specs.declared.step.PendingCall.{PendingCall}
use Rattle.ct_register.specs.Lines.{Lines}
use Rattle.ct_promise.specs.Generation.{record_labels}
use Rattle.ct_law_generation.specs.Shown.{labels_of}
use Rattle.ct_law_generation.proofs.Hearing.{frames_more, labels_more}
use Rattle.ct_law_generation.proofs.Pending.{Callers}
use Rattle.ct_law_run.proofs.Ages.{Ages, Rests}
use Rattle.ct_law_run.proofs.Lives.{IsTicket, ReplySays, RoundSays, MailSays, LeadSays, PhaseSays, NodeLives, Lives}
use Rattle.ct_law_run.proofs.Apart.{each_then}
use Rattle.ct_law_run.proofs.Faces.{Turned}
use Rattle.ct_law_run.proofs.Wordless.{Is_wordless, wordless_turned}
use Rattle.ct_law_run.proofs.Turning.{all_append}

-- ---- a node that leads something else

rests_led : (db : ℕ) (key : List ℕ) (v : _) (x : Node) (l : Lead) → Rests db key v x → Rests db key v (record x { lead = l })
unfolding state_at db_at
rests_led db key v x l h = record { state = h.state; next = h.next }

phase_led : (c : Config) (rules : Rules) (who : Callers) (w : Cluster) (r : Lines) (a : Ages) (n : ℕ) (x : Node) (l : Lead) (p : Phase) → PhaseSays c rules who w r a n x p → PhaseSays c rules who w r a n (record x { lead = l }) p
unfolding PhaseSays state_at db_at
phase_led c rules who w r a n x l Idle h = h
phase_led c rules who w r a n x l (Freezing g k) h = (h.0, h.1, h.2, h.3, h.4, λ some db key. rests_led db key _ x l (h.5 some db key), h.6, h.7)
phase_led c rules who w r a n x l (Frozen g) h = (h.0, h.1, h.2, h.3, λ some db key. rests_led db key _ x l (h.4 some db key), h.5, h.6, h.7)
phase_led c rules who w r a n x l p h = h

reply_led : (r : Lines) (a : Ages) (n : ℕ) (x : Node) (l : Lead) (f : Frame) (m : Msg) → ReplySays r a n x f m → ReplySays r a n (record x { lead = l }) f m
unfolding ReplySays state_at db_at
reply_led r a n x l f (msg.PullReply vbase pbase table ptables addresses) h = λ own. (let p = h own in
    record { promised = p.promised; given = p.given; older = p.older; had = p.had; still = p.still; past = p.past; stuck = p.stuck; some = p.some; order = p.order; polder = p.polder; phad = p.phad; pstill = p.pstill })
reply_led r a n x l f m h = h

-- all but the lead of what holds of a node does not speak of its lead
pub node_led : (c : Config) (rules : Rules) (who : Callers) (w : Cluster) (r : Lines) (a : Ages) (n : ℕ) (x : Node) (l : Lead) → LeadSays c w r a n l → NodeLives c rules who w r a n x → NodeLives c rules who w r a n (record x { lead = l })
unfolding state_at db_at
node_led c rules who w r a n x l says h = record {
  size = h.size;
  known = record { order = h.known.order; dbs = h.known.dbs };
  line = h.line;
  base = h.base;
  older = h.older;
  given = h.given;
  named = h.named;
  done = h.done;
  promises = h.promises;
  waits = h.waits;
  formed = h.formed;
  commits = h.commits;
  persist = h.persist;
  serving = h.serving;
  phase = phase_led c rules who w r a n x l x.phase h.phase;
  lead = says;
  replies = each_then (λ q. ReplySays r a n x q.frame q.frame.msg) (λ q. ReplySays r a n (record x { lead = l }) q.frame q.frame.msg) (λ q p. reply_led r a n x l q.frame q.frame.msg p) w.sent h.replies;
}

-- ---- a turn that tells nothing and sends Freezes alone

-- a Freeze of the round
abbrev pub IsFreeze : ℕ → ℕ → List ℕ → Frame → Type 0
IsFreeze g n members f = (f.generation ≡ g) × (f.sender ≡ n) × (f.msg ≡ msg.Freeze members)

pub record Freezes_only (g n : ℕ) (members : List ℕ) (pend : List PendingCall) (outs : List Out) : Type 0 where
  pub silent : labels_of n pend outs ≡ []
  pub sent : AllByRecursion (λ (s : Sent). IsFreeze g n members s.frame) (frames_of outs)

-- one more
more_freezes : (g n k : ℕ) (members : List ℕ) (pend : List PendingCall) (outs : List Out) → Freezes_only g n members pend outs →
    Freezes_only g n members pend (outs ++ out.Send (record { generation = g; sender = n; receiver = k; msg = msg.Freeze members }) ∷ [])
unfolding labels_of frames_of sent_label
more_freezes g n k members pend outs h = (let x : List Out = out.Send (record { generation = g; sender = n; receiver = k; msg = msg.Freeze members }) ∷ [] in record {
  silent = labels_more n pend outs x ∙ ap (λ (ls : List Label). ls ++ []) h.silent;
  sent = subst (λ (ss : List Sent). AllByRecursion (λ (s : Sent). IsFreeze g n members s.frame) ss) (sym (frames_more outs x)) (all_append (λ (s : Sent). IsFreeze g n members s.frame) (frames_of outs) (frames_of x) h.sent ((refl, refl, refl), tt));
})

post_freezes : (g n : ℕ) (ks members : List ℕ) (pend : List PendingCall) (t : Turn) → Freezes_only g n members pend t.outs →
    Freezes_only g n members pend (posts_all g n ks (msg.Freeze members) t).outs × ((posts_all g n ks (msg.Freeze members) t).node ≡ t.node)
unfolding posts_all posts does
post_freezes g n [] members pend t h = (h, refl)
post_freezes g n (k ∷ ks) members pend t h = post_freezes g n ks members pend (posts g n k (msg.Freeze members) t) (more_freezes g n k members pend t.outs h)

freeze_says : (c : Config) (r : Lines) (a : Ages) (n g : ℕ) (members : List ℕ) (f : Frame) → IsTicket c r g n members → IsFreeze g n members f → MailSays c r a f
unfolding RoundSays record_in
freeze_says c r a n g members f ticket h = record {
  round = subst (λ (m : Msg). RoundSays c r a f.generation f.sender m) (sym h.2) (subst (λ (k : ℕ). IsTicket c r k f.sender members) (sym h.0) (subst (λ (k : ℕ). IsTicket c r g k members) (sym h.1) ticket));
  sound = λ k e. absurd (let i = sym (ap record_in h.2) ∙ e in cc);
}

freeze_reply : (r : Lines) (a : Ages) (n g : ℕ) (members : List ℕ) (k : ℕ) (x : Node) (f : Frame) → IsFreeze g n members f → ReplySays r a k x f f.msg
unfolding ReplySays
freeze_reply r a n g members k x f h = subst (λ (m : Msg). ReplySays r a k x f m) (sym h.2) tt

-- it is a turn without a word of records
freezes_wordless : (c : Config) (rules : Rules) (who : Callers) (w : Cluster) (r : Lines) (a : Ages) (n g : ℕ) (members : List ℕ) (pend : List PendingCall) (u : Turn) → IsTicket c r g n members → NodeLives c rules who w r a n u.node →
    Freezes_only g n members pend u.outs → Is_wordless c rules who w r a n pend u
unfolding record_in
freezes_wordless c rules who w r a n g members pend u ticket mine only = record {
  untold = ap (record_labels c) only.silent;
  wordless = each_then (λ q. IsFreeze g n members q.frame) (λ q. record_in q.frame.msg ≡ None) (λ q h. ap record_in h.2) (frames_of u.outs) only.sent;
  says = each_then (λ q. IsFreeze g n members q.frame) (λ q. MailSays c r a q.frame) (λ q h. freeze_says c r a n g members q.frame ticket h) (frames_of u.outs) only.sent;
  replies = λ k ne. each_then (λ q. IsFreeze g n members q.frame) (λ q. ReplySays r a k (node_at k w) q.frame q.frame.msg) (λ q h. freeze_reply r a n g members k (node_at k w) q.frame h) (frames_of u.outs) only.sent;
  own = each_then (λ q. IsFreeze g n members q.frame) (λ q. ReplySays r a n u.node q.frame q.frame.msg) (λ q h. freeze_reply r a n g members n u.node q.frame h) (frames_of u.outs) only.sent;
  mine = mine;
}

-- ---- the round begins

pub begin_turned : (c : Config) (rules : Rules) (w : Cluster) (r : Lines) (h : Lives c rules w r) (n g : ℕ) (members : List ℕ) (pend : List PendingCall) → IsTicket c r g n members → r.born g ≡ false → nat_lt n c.nodes ≡ true →
    Turned c rules h.who w r h.ages n pend (begin_round n g members (begins (node_at n w)))
unfolding begin_round labels_of frames_of with_lead makes LeadSays
begin_turned c rules w r h n g members pend ticket unborn there =
    let x : Node = node_at n w in
    let l = h.nodes n there in
    let t : Turn = with_lead (Freezes g members members) (makes g (begins x)) in
    let u : Turn = posts_all g n members (msg.Freeze members) t in
    let p = post_freezes g n members members pend t (record { silent = refl; sent = tt }) in
    let mine = subst (λ (y : Node). NodeLives c rules h.who w r h.ages n y) (sym p.1) (node_led c rules h.who w r h.ages n x (Freezes g members members) (ticket, unborn) l) in
    cond_both (nat_lt x.promise g) u (begins x) (λ (y : Turn). Turned c rules h.who w r h.ages n pend y)
    (λ _. wordless_turned c rules h.who w r h.ages n pend u h.lines (freezes_wordless c rules h.who w r h.ages n g members pend u ticket mine p.0))
    (λ _. wordless_turned c rules h.who w r h.ages n pend (begins x) h.lines (freezes_wordless c rules h.who w r h.ages n g members pend (begins x) ticket l (record { silent = refl; sent = tt })))
