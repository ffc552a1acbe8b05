-- A turn that changes of its node no more than what it leads, and sends messages of rounds alone: registers and worlds stay.
use Rattle.std.proofs.Common.{◌≡◌, ℕ, Bool, true, false, List, [], ◌++◌, append-nil, refl, sym, ap, ◌∙◌, subst, arith}
use Rattle.std.specs.Prelude.{nat_lt}
use Rattle.std.specs.List.{AllByRecursion}
use Rattle.ct_values.specs.declared.config.Config.{Config}
use Rattle.ct_frame.specs.declared.frame.Frame.{Frame}
use Rattle.ct_frame.specs.declared.frame.Msg.{Msg}
use Rattle.ct_frame.specs.declared.frame.Msg.TheVariants as msg
use Rattle.ct_call.specs.Rules.{Rules}
use Rattle.ct_lcp2.proofs.Choices.{all_append, all_weaken}
use Rattle.ct_rules_node.specs.Node.{Node, Phase, Freezing, Frozen, Lead, db_at, state_at}
use Rattle.ct_rules_node.specs.Turn.{Turn}
use Rattle.ct_rules_cluster.specs.Cluster.{Cluster, Sent, node_at, pending}
use Rattle.ct_rules_cluster.specs.Labels.{Label}
use Rattle.ct_rules_cluster.specs.Steps.{frames_of, put, with_node}
use Rattle.ct_register.specs.Lines.{Lines}
use Rattle.ct_register.specs.Legal.{AcceptsLabels}
use Rattle.ct_register.specs.Marks.{MarksStep}
use Rattle.ct_promise.specs.Generation.{record_labels}
use Rattle.ct_promise.specs.Marked.{is_removed}
use Rattle.ct_law_record.specs.World.{View}
use Rattle.ct_law_record.proofs.Invariant.{span_of}
use Rattle.ct_law_record.proofs.Markings.{goes_stays}
use Rattle.ct_law_record.specs.Marked as law_marked
use Rattle.ct_law_record.proofs.MarkLists.{marks_go}
use Rattle.ct_law_record.proofs.MarkedRun.{marks_of}
use Rattle.ct_law_generation.specs.Shown.{mails, labels_of}
use Rattle.ct_law_generation.proofs.Hearing.{mails_more}
use Rattle.ct_law_generation.proofs.Pending.{Callers, NodeKnown}
use Rattle.ct_law_run.proofs.Ages.{Ages, era_of, Rests}
use Rattle.ct_law_run.proofs.Lives.{Lives, NodeLives, MailSays, ReplySays, LeadSays, PhaseSays}
use Rattle.ct_law_run.proofs.Later.{keeps_view, Later}
use Rattle.ct_law_run.proofs.Apart.{none_fresh}
use Rattle.ct_law_run.proofs.Faces.{Turned}
use Rattle.ct_law_generation.proofs.Removing.{removed_in_records}
use Rattle.ct_rules_node.specs.Node.{Idle, Serving, Installed, Nothing}
use Rattle.ct_law_generation.proofs.Staying.{NodeStays}
use Rattle.ct_law_run.proofs.Lives.{Replied}
use Rattle.ct_law_run.proofs.Freezing.{resent}

-- what is asked of the turn
pub record Led (c : Config) (w : Cluster) (r : Lines) (a : Ages) (n : ℕ) (u : Turn) : Type 0 where
  pub node : u.node ≡ record (node_at n w) { lead = u.node.lead }
  pub lead : LeadSays c (put n u [] w).cluster r a n u.node.lead
  pub mails : (m db : ℕ) (key : List ℕ) → mails m db key (frames_of u.outs) ≡ []
  pub untold : record_labels c (labels_of n (pending w) u.outs) ≡ []
  pub says : AllByRecursion (λ s. MailSays c r a s.frame) (frames_of u.outs)
  pub replies : (k : ℕ) → AllByRecursion (λ s. ReplySays r a k (node_at k w) s.frame s.frame.msg) (frames_of u.outs)

-- ---- a node that leads something else

known_lead : (who : Callers) (calls n : ℕ) (x : Node) (l : Lead) → NodeKnown who calls n x → NodeKnown who calls n (record x { lead = l })
unfolding db_at
known_lead who calls n x l k = record { order = k.order; dbs = k.dbs }

rests_lead : (db : ℕ) (key : List ℕ) (v : View) (x : Node) (l : Lead) → Rests db key v x → Rests db key v (record x { lead = l })
unfolding state_at db_at
rests_lead db key v x l k = record { state = k.state; next = k.next }

phase_lead : (c : Config) (rules : Rules) (who : Callers) (w v : Cluster) (r : Lines) (a : Ages) (n : ℕ) (x : Node) (l : Lead) (p : Phase) → v.calls ≡ w.calls → PhaseSays c rules who w r a n x p → PhaseSays c rules who v r a n (record x { lead = l }) p
unfolding PhaseSays state_at db_at
phase_lead c rules who w v r a n x l Idle e k = k
phase_lead c rules who w v r a n x l (Freezing g h) e k = (k.0, k.1, k.2, k.3, k.4, λ ne db key. rests_lead db key _ x l (k.5 ne db key), k.6, k.7)
phase_lead c rules who w v r a n x l (Frozen g) e k = (k.0, k.1, k.2, k.3, λ ne db key. rests_lead db key _ x l (k.4 ne db key), k.5, k.6, k.7)
phase_lead c rules who w v r a n x l Serving e k = (k.0, subst (λ (j : ℕ). NodeStays c (era_of r a (r.line n)) rules who j n (record x { lead = Nothing })) (sym e) k.1, k.2, k.3)
phase_lead c rules who w v r a n x l Installed e k = (k.0, subst (λ (j : ℕ). NodeStays c (era_of r a (r.line n)) rules who j n (record x { lead = Nothing })) (sym e) k.1, k.2)

replied_lead : (r : Lines) (a : Ages) (g n vbase pbase : ℕ) (table : List _) (x : Node) (l : Lead) → Replied r a g n vbase pbase table x → Replied r a g n vbase pbase table (record x { lead = l })
unfolding state_at db_at
replied_lead r a g n vbase pbase table x l k = record {
  promised = k.promised;
  given = k.given;
  older = k.older;
  had = k.had;
  still = k.still;
  past = k.past;
  stuck = k.stuck;
  some = k.some;
  order = k.order;
  polder = k.polder;
  phad = k.phad;
  pstill = k.pstill;
}

pub reply_lead : (r : Lines) (a : Ages) (n : ℕ) (x : Node) (l : Lead) (f : Frame) (m : Msg) → ReplySays r a n x f m → ReplySays r a n (record x { lead = l }) f m
unfolding ReplySays
reply_lead r a n x l f (msg.PullReply vbase pbase table ptables addresses) k = λ own. replied_lead r a f.generation n vbase pbase table x l (k own)
reply_lead r a n x l f m k = tt

pub node_lead : (c : Config) (rules : Rules) (who : Callers) (w v : Cluster) (r : Lines) (a : Ages) (n : ℕ) (x : Node) (l : Lead) → v.calls ≡ w.calls → LeadSays c v r a n l → AllByRecursion (λ s. ReplySays r a n x s.frame s.frame.msg) v.sent →
    NodeLives c rules who w r a n x → NodeLives c rules who v r a n (record x { lead = l })
unfolding state_at db_at
node_lead c rules who w v r a n x l e lead replies k = record {
  size = k.size;
  known = subst (λ (j : ℕ). NodeKnown who j n (record x { lead = l })) (sym e) (known_lead who w.calls n x l k.known);
  line = k.line;
  base = k.base;
  older = k.older;
  given = k.given;
  named = k.named;
  done = k.done;
  promises = k.promises;
  waits = k.waits;
  formed = k.formed;
  commits = k.commits;
  persist = k.persist;
  serving = k.serving;
  phase = phase_lead c rules who w v r a n x l x.phase e k.phase;
  lead = lead;
  replies = all_weaken (λ s. ReplySays r a n x s.frame s.frame.msg) (λ s. ReplySays r a n (record x { lead = l }) s.frame s.frame.msg) (λ s i. reply_lead r a n x l s.frame s.frame.msg i) v.sent replies;
}

-- ---- the turn

pub later_none : (r : Lines) (a : Ages) → Later r a r a
later_none r a = record {
  last = omega arith;
  leader = λ g k e. e;
  named = λ g k e. refl;
  born = λ g e. e;
  members = λ g e. refl;
  tables = λ g e. refl;
  installed = λ g k e. e;
  had = λ g k l lt e. e;
  phad = λ g k l lt e. e;
}

module _ (c : Config) (rules : Rules) (w : Cluster) (r : Lines) (h : Lives c rules w r) (n : ℕ) (u : Turn) (there : nat_lt n c.nodes ≡ true) (led : Led c w r h.ages n u) where
  abbrev v : Cluster
  v = (put n u [] w).cluster

  sent_is : v.sent ≡ w.sent ++ frames_of u.outs
  unfolding put with_node
  sent_is = refl

  calls_is : v.calls ≡ w.calls
  unfolding put with_node
  calls_is = refl

  same_mails : (m db : ℕ) (key : List ℕ) → mails m db key v.sent ≡ mails m db key w.sent
  same_mails m db key = ap (λ (l : List Sent). mails m db key l) sent_is ∙ mails_more m db key w.sent (frames_of u.outs) ∙ ap (λ (l : List _). mails m db key w.sent ++ l) (led.mails m db key) ∙ append-nil (mails m db key w.sent)

  own : NodeLives c rules h.who w r h.ages n (node_at n w)
  own = h.nodes n there

  mine : NodeLives c rules h.who v r h.ages n u.node
  mine = subst (λ (y : Node). NodeLives c rules h.who v r h.ages n y) (sym led.node) (node_lead c rules h.who w v r h.ages n (node_at n w) u.node.lead calls_is led.lead
      (subst (λ (l : List Sent). AllByRecursion (λ s. ReplySays r h.ages n (node_at n w) s.frame s.frame.msg) l) (sym sent_is) (all_append (λ s. ReplySays r h.ages n (node_at n w) s.frame s.frame.msg) w.sent (frames_of u.outs) own.replies (led.replies n)))
      own)

  unremoved : (g db : ℕ) (key : List ℕ) → is_removed r g db key (labels_of n (pending w) u.outs) ≡ false
  unremoved g db key = sym (removed_in_records c r g db key (labels_of n (pending w) u.outs)) ∙ ap (λ (l : List Label). is_removed r g db key l) led.untold

  pub lead_turned : Turned c rules h.who w r h.ages n (pending w) u
  unfolding law_marked.is_removed
  lead_turned = record {
    lines = r;
    ages = h.ages;
    accepts = subst (λ (l : List Label). AcceptsLabels c rules r l r) (sym led.untold) refl;
    later = later_none r h.ages;
    away = λ k ne. record { line = refl; pline = refl; views = λ g db key born. refl };
    rest = λ g db key born why. keeps_view _ _ refl;
    last = refl;
    holder = refl;
    lives = resent c rules w v r h.ages same_mails h.lines;
    mine = mine;
    says = led.says;
    replies = λ k ne. led.replies k;
    marks = λ g born db key. subst (λ (t : Bool). MarksStep t (marks_of (h.ages.ghosts g db key)) (marks_of (h.ages.ghosts g db key))) (sym (unremoved g db key))
        (marks_go false (span_of (h.ages.ghosts g db key)) (span_of (h.ages.ghosts g db key)) ((h.lines.line g born).world db key).all.marks.under (goes_stays (span_of (h.ages.ghosts g db key))));
    fresh = λ k ne lt. none_fresh c rules r r h.ages k (node_at k w) (λ g. refl);
  }
