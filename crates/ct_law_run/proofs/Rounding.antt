-- Turns of a round that send messages alone, or change the lead: a Pull, a Freeze again, a FreezeAck, a PushAck.
use Rattle.std.proofs.Common.{◌≡◌, ◌≢◌, ℕ, ◌<◌, Bool, true, false, cond, ◌||◌, List, [], ◌∷◌, ◌++◌, Option, None, Some, ⊎_elim, refl, sym, ap, ◌∙◌, subst, arith}
use Rattle.std.specs.List.{AllByRecursion}
use Rattle.std.proofs.lemmas.Bool.{cases_eq, eq-eqb, or_right}
use Rattle.ct_values.specs.declared.config.Config.{Config}
use Rattle.ct_frame.specs.declared.event.Event.TheVariants as event
use Rattle.ct_frame.specs.declared.event.Out.{Out}
use Rattle.ct_frame.specs.declared.event.Out.TheVariants as out
use Rattle.ct_frame.specs.declared.frame.Frame.{Frame}
use Rattle.ct_frame.specs.declared.frame.Msg.{Msg}
use Rattle.ct_frame.specs.declared.frame.Msg.TheVariants as msg
use Rattle.ct_call.specs.Rules.{Rules}
use Rattle.ct_lcp2.proofs.Choices.{all_weaken}
use Rattle.ct_rules.specs.declared.state.RecState.{RecState}
use Rattle.ct_rules_node.specs.Node.{Node, Phase, Freezing, Frozen, Lead, db_at, state_at}
use Rattle.ct_rules_node.specs.Rounds.{frozen_state}
use Rattle.ct_rules_node.specs.Turn.{Turn, begins}
use Rattle.ct_rules_node.specs.Admission.{is_sound, record_in}
use Rattle.ct_rules_node.specs.Steps.{happens}
use Rattle.ct_rules_cluster.specs.Cluster.{Cluster, node_at, pending}
use Rattle.ct_rules_cluster.specs.Steps.{frames_of, put, with_node}
use Rattle.ct_rules_cluster.specs.Traces.{sent_label}
use Rattle.ct_rules_cluster.specs.declared.step.PendingCall.{PendingCall}
use Rattle.ct_register.specs.Lines.{Lines}
use Rattle.ct_promise.specs.Generation.{record_labels}
use Rattle.ct_law_record.specs.World.{View}
use Rattle.ct_law_generation.specs.Shown.{mails, mail_of, labels_of}
use Rattle.ct_law_run.proofs.Ages.{Ages, Rests}
use Rattle.ct_law_run.proofs.Lives.{Lives, NodeLives, MailSays, RoundSays, ReplySays, LeadSays, PhaseSays}
use Rattle.ct_law_run.proofs.Faces.{Turned}
use Rattle.ct_law_run.proofs.Stood.{lead_later}
use Rattle.ct_rules_node.specs.Node.{is_present}
use Rattle.ct_law_run.proofs.Lives.{Replied}
use Rattle.ct_law_run.proofs.LeadTurning.{sent_still}
use Rattle.std.specs.Prelude.{nat_eq, nat_lt}
use Rattle.std.proofs.lemmas.Bool.{eqb-true}
use Rattle.ct_frame.specs.declared.header.RecCopy.{RecCopy}
use Rattle.ct_promise.specs.Generation.{speaks_of_records}
use Rattle.ct_rules_node.specs.Node.{is_frozen_in}
use Rattle.ct_rules_node.specs.Rounds.{on_pull, table_of, ptables_of, row_of}
use Rattle.ct_rules_node.specs.Steps.{if_sound, arrives}
use Rattle.ct_rules_node.specs.Turn.{does, posts}
use Rattle.ct_law_rules_node.proofs.Tables.{tells_at}
use Rattle.ct_promise.proofs.Follows.{filter_more}
use Rattle.ct_law_run.proofs.Leading.{Led, lead_turned, later_none}

-- ---- what is sent

-- a message of a round that node n sends says what is so
pub record Says_round (c : Config) (w : Cluster) (r : Lines) (a : Ages) (n : ℕ) (f : Frame) : Type 0 where
  pub sender : f.sender ≡ n
  pub round : RoundSays c r a f.generation f.sender f.msg
  pub none : record_in f.msg ≡ None
  pub reply : ReplySays r a n (node_at n w) f f.msg

pub sent_untold : (c : Config) (n g : ℕ) (m : Msg) → record_labels c (sent_label n g m) ≡ []
unfolding sent_label speaks_of_records
sent_untold c n g (msg.Push members table ptables assigned) = refl
sent_untold c n g (msg.Take number assigned) = refl
sent_untold c n g m = refl

abbrev pub sends : List Frame → List Out
sends [] = []
sends (f ∷ fs) = out.Send f ∷ sends fs

pub sends_untold : (c : Config) (n : ℕ) (pend : List PendingCall) (fs : List Frame) → record_labels c (labels_of n pend (sends fs)) ≡ []
unfolding labels_of
sends_untold c n pend [] = refl
sends_untold c n pend (f ∷ fs) = filter_more (speaks_of_records c) (sent_label f.sender f.generation f.msg) (labels_of n pend (sends fs)) ∙ (λ i. sent_untold c f.sender f.generation f.msg i ++ sends_untold c n pend fs i)

pub sends_mails : (c : Config) (w : Cluster) (r : Lines) (a : Ages) (n m db : ℕ) (key : List ℕ) (fs : List Frame) → AllByRecursion (Says_round c w r a n) fs → mails m db key (frames_of (sends fs)) ≡ []
unfolding frames_of mails mail_of
sends_mails c w r a n m db key [] h = refl
sends_mails c w r a n m db key (f ∷ fs) h = (λ i. mail_of m db key f (h.0.none i) ++ sends_mails c w r a n m db key fs h.1 i)

pub sends_all : (P : Frame → Type 0) (fs : List Frame) → AllByRecursion P fs → AllByRecursion (λ s. P s.frame) (frames_of (sends fs))
unfolding frames_of
sends_all P [] h = tt
sends_all P (f ∷ fs) h = (h.0, sends_all P fs h.1)

pub foreign : (r : Lines) (a : Ages) (n k : ℕ) (x : Node) (f : Frame) (m : Msg) → f.sender ≡ n → k ≢ n → ReplySays r a k x f m
unfolding ReplySays
foreign r a n k x f (msg.PullReply vbase pbase table ptables addresses) own ne = λ e. absurd (ne (sym e ∙ own))
foreign r a n k x f m own ne = tt

pub replies_all : (c : Config) (w : Cluster) (r : Lines) (a : Ages) (n k : ℕ) (f : Frame) → Says_round c w r a n f → ReplySays r a k (node_at k w) f f.msg
replies_all c w r a n k f h = ⊎_elim
    (λ (e : k ≡ n). subst (λ (j : ℕ). ReplySays r a j (node_at j w) f f.msg) (sym e) h.reply)
    (λ (ne : k ≢ n). foreign r a n k (node_at k w) f f.msg h.sender ne)
    (cases_eq k n)

pub says_mail : (c : Config) (w : Cluster) (r : Lines) (a : Ages) (n : ℕ) (f : Frame) → Says_round c w r a n f → MailSays c r a f
says_mail c w r a n f h = record { round = h.round; sound = λ k e. absurd (let z : None ≡ Some k = sym h.none ∙ e in cc) }

-- a turn that sends these, and leads that
pub sends_led : (c : Config) (w : Cluster) (r : Lines) (a : Ages) (n : ℕ) (u : Turn) (fs : List Frame) → u.node ≡ record (node_at n w) { lead = u.node.lead } → u.outs ≡ sends fs → LeadSays c (put n u [] w).cluster r a n u.node.lead → AllByRecursion (Says_round c w r a n) fs → Led c w r a n u
sends_led c w r a n u fs node outs lead all = record {
  node = node;
  lead = lead;
  mails = λ m db key. ap (λ (l : List Out). mails m db key (frames_of l)) outs ∙ sends_mails c w r a n m db key fs all;
  untold = ap (λ (l : List Out). record_labels c (labels_of n (pending w) l)) outs ∙ sends_untold c n (pending w) fs;
  says = subst (λ (l : List Out). AllByRecursion (λ s. MailSays c r a s.frame) (frames_of l)) (sym outs) (sends_all (MailSays c r a) fs (all_weaken (Says_round c w r a n) (MailSays c r a) (λ f h. says_mail c w r a n f h) fs all));
  replies = λ k. subst (λ (l : List Out). AllByRecursion (λ s. ReplySays r a k (node_at k w) s.frame s.frame.msg) (frames_of l)) (sym outs)
      (sends_all (λ f. ReplySays r a k (node_at k w) f f.msg) fs (all_weaken (Says_round c w r a n) (λ f. ReplySays r a k (node_at k w) f f.msg) (λ f h. replies_all c w r a n k f h) fs all));
}

-- what the node leads it leads still
pub leads_still : (c : Config) (w : Cluster) (r : Lines) (a : Ages) (n : ℕ) (u : Turn) (l : Lead) → LeadSays c w r a n l → LeadSays c (put n u [] w).cluster r a n l
unfolding put with_node
leads_still c w r a n u l h = lead_later c w (put n u [] w).cluster r a r a n l (later_none r a) (λ g e. e) (λ q k. sent_still w (put n u [] w).cluster (frames_of u.outs) q refl k) h

-- ---- nothing happens, or one message is sent

pub idle_led : (c : Config) (w : Cluster) (r : Lines) (a : Ages) (n : ℕ) → LeadSays c w r a n (node_at n w).lead → Led c w r a n (begins (node_at n w))
idle_led c w r a n h = sends_led c w r a n (begins (node_at n w)) [] refl refl (leads_still c w r a n (begins (node_at n w)) (node_at n w).lead h) tt

pub one_led : (c : Config) (w : Cluster) (r : Lines) (a : Ages) (n g k : ℕ) (m : Msg) → LeadSays c w r a n (node_at n w).lead → Says_round c w r a n (record { generation = g; sender = n; receiver = k; msg = m }) → Led c w r a n (posts g n k m (begins (node_at n w)))
unfolding posts does
one_led c w r a n g k m h says = sends_led c w r a n (posts g n k m (begins (node_at n w))) (record { generation = g; sender = n; receiver = k; msg = m } ∷ []) refl refl (leads_still c w r a n (posts g n k m (begins (node_at n w))) (node_at n w).lead h) (says, tt)

-- ---- a Pull

-- a node that is Frozen tells what it has
copy_left : (db : ℕ) (key : List ℕ) (v : View) (x : Node) → Rests db key v x → (state_at db key x).copy ≡ v.state.copy
unfolding frozen_state
copy_left db key v x h = ap (λ (t : RecState). t.copy) h.state

pub frozen_of : (p : Phase) (g : ℕ) → is_frozen_in g p ≡ true → p ≡ Frozen g
unfolding is_frozen_in
frozen_of (Frozen h) g e = ap Frozen (eqb-true h g e)
frozen_of _ g e = absurd (cc)

pub not_freezing : (p : Phase) (g k l : ℕ) → p ≡ Frozen g → p ≢ Freezing k l
not_freezing p g k l e f = absurd (let j : Frozen g ≡ Freezing k l = sym e ∙ f in cc)

frozen_absent : (g : ℕ) → is_present (Frozen g) ≡ false
unfolding is_present
frozen_absent g = refl

pub tells_itself : (c : Config) (rules : Rules) (w : Cluster) (r : Lines) (h : Lives c rules w r) (n g : ℕ) → nat_lt n c.nodes ≡ true → is_frozen_in g (node_at n w).phase ≡ true →
    Replied r h.ages g n (node_at n w).generation (node_at n w).pbase (table_of n 0 (node_at n w).dbs) (node_at n w)
unfolding PhaseSays state_at db_at
tells_itself c rules w r h n g there frozen =
    let x = node_at n w in
    let own = h.nodes n there in
    let is = frozen_of x.phase g frozen in
    let k : PhaseSays c rules h.who w r h.ages n x (Frozen g) = subst (λ (p : Phase). PhaseSays c rules h.who w r h.ages n x p) is own.phase in
    let line : r.line n < g = below k.2 in
    let table = tells_at n x.dbs own.known.order in
    record {
      promised = (let e = k.1 in omega arith);
      given = (let e = k.1 in let l = own.given in omega arith);
      older = (let e = own.line in omega arith);
      had = subst (λ (l : ℕ). r.had g n l ≡ true) (sym own.line) (h.formed.order.has g n k.0.0 k.0.1);
      still = λ _ _. sym own.line;
      past = λ l e. not_freezing x.phase g g l is e;
      stuck = λ _ _. (ap is_present is ∙ frozen_absent g, k.6);
      some = λ ne. (let nz : r.line n ≢ 0 = (λ z. ne (own.line ∙ z)) in (
        subst (λ (l : ℕ). r.born l ≡ true) (sym own.line) (own.named nz).0,
        subst (λ (l : ℕ). (nat_eq l 1 || r.installed l n) ≡ true) (sym own.line) (joined own nz),
        λ db key. table.seen db key ∙ ap (λ (o : Option RecCopy). row_of n db key o) (copy_left db key _ x (k.4 nz db key) ∙ ap (λ (l : ℕ). ((h.ages.worlds l db key).nodes n).state.copy) (sym own.line)),
      ));
      order = table.order;
      polder = (let e = own.base in let l = k.2 in omega arith);
      phad = subst (λ (l : ℕ). r.phad g n l ≡ true) (sym own.base) (h.formed.order.phas g n k.0.0 k.0.1);
      pstill = λ _. sym own.base;
    }
  where
    below : r.pline n < g → r.line n < g
    below l = ⊎_elim
        (λ (z : r.line n ≡ 0). omega arith)
        (λ (ne : r.line n ≢ 0). (let s = h.formed.order.stays n ne in omega arith))
        (cases_eq (r.line n) 0)

    joined : NodeLives c rules h.who w r h.ages n (node_at n w) → r.line n ≢ 0 → (nat_eq (r.line n) 1 || r.installed (r.line n) n) ≡ true
    joined own ne = ⊎_elim
        (λ (e : r.line n ≡ 1). ap (λ (b : Bool). b || r.installed (r.line n) n) (eq-eqb (r.line n) 1 e))
        (λ (no : r.line n ≢ 1). or_right (nat_eq (r.line n) 1) (r.installed (r.line n) n) (own.done (omega arith)))
        (cases_eq (r.line n) 1)

pull_says : (c : Config) (rules : Rules) (w : Cluster) (r : Lines) (h : Lives c rules w r) (n g k : ℕ) → nat_lt n c.nodes ≡ true → is_frozen_in g (node_at n w).phase ≡ true →
    Says_round c w r h.ages n (record { generation = g; sender = n; receiver = k; msg = msg.PullReply (node_at n w).generation (node_at n w).pbase (table_of n 0 (node_at n w).dbs) (ptables_of c 0 (node_at n w).dbs) (node_at n w).held })
unfolding RoundSays ReplySays record_in
pull_says c rules w r h n g k there e = record { sender = refl; round = tt; none = refl; reply = λ _. tells_itself c rules w r h n g there e }

pub pull_turned : (c : Config) (rules : Rules) (w : Cluster) (r : Lines) (h : Lives c rules w r) (n : ℕ) (f : Frame) → nat_lt n c.nodes ≡ true → f.msg ≡ msg.Pull → Turned c rules h.who w r h.ages n (pending w) (happens c rules n (begins (node_at n w)) (event.Arrive f))
unfolding happens arrives if_sound on_pull
pull_turned c rules w r h n f there is = lead_turned c rules w r h n (happens c rules n (begins (node_at n w)) (event.Arrive f)) there
    (subst (λ (u : Turn). Led c w r h.ages n u) (sym (ap (λ (m : Msg). arrives c rules n f (begins (node_at n w)) m) is))
    (either (is_sound c f) (is_frozen_in f.generation (node_at n w).phase) refl))
  where
    idle : Led c w r h.ages n (begins (node_at n w))
    idle = idle_led c w r h.ages n (h.nodes n there).lead

    tells : is_frozen_in f.generation (node_at n w).phase ≡ true → Says_round c w r h.ages n (record { generation = f.generation; sender = n; receiver = f.sender; msg = msg.PullReply (node_at n w).generation (node_at n w).pbase (table_of n 0 (node_at n w).dbs) (ptables_of c 0 (node_at n w).dbs) (node_at n w).held })
    tells e = pull_says c rules w r h n f.generation f.sender there e

    either : (b d : Bool) → is_frozen_in f.generation (node_at n w).phase ≡ d → Led c w r h.ages n (cond b (cond d (posts f.generation n f.sender (msg.PullReply (node_at n w).generation (node_at n w).pbase (table_of n 0 (node_at n w).dbs) (ptables_of c 0 (node_at n w).dbs) (node_at n w).held) (begins (node_at n w))) (begins (node_at n w))) (begins (node_at n w)))
    either true true e = one_led c w r h.ages n f.generation f.sender _ (h.nodes n there).lead (tells e)
    either true false e = idle
    either false d e = idle
