-- What a client does at a node that freezes, under a lock, as a whole turn.
use Rattle.std.proofs.Common.{◌≡◌, ◌≢◌, ℕ, Bool, true, false, cond, ◌||◌, List, [], ◌∷◌, ◌++◌, length, Option, None, Some, append-nil, ⊎_elim, refl, sym, ap, ◌∙◌, subst, arith}
use Rattle.std.specs.List.{AllByRecursion}
use Rattle.std.proofs.lemmas.Bool.{cases_eq, eq-eqb, or_right, cases_Bool}
use Rattle.ct_values.specs.declared.config.Config.{Config}
use Rattle.ct_frame.specs.declared.event.Out.{Out}
use Rattle.ct_frame.specs.declared.event.Out.TheVariants as out
use Rattle.ct_frame.specs.declared.frame.Frame.{Frame}
use Rattle.ct_frame.specs.declared.frame.Msg.{Msg}
use Rattle.ct_frame.specs.declared.frame.Msg.TheVariants as msg
use Rattle.ct_call.specs.Rules.{Rules}
use Rattle.ct_lcp2.proofs.Choices.{all_append, all_weaken}
use Rattle.ct_rules.specs.declared.state.RecState.{RecState}
use Rattle.ct_rules.specs.declared.state.Wish.{Wish}
use Rattle.ct_rules_node.specs.Node.{Node, Phase, Freezing, Frozen, Committing, Lead, has_records, kind_at, db_at, is_present, state_at}
use Rattle.ct_law_rules_node.specs.NodeLaws.{NodeAscends}
use Rattle.ct_rules_node.specs.Rounds.{frozen_state}
use Rattle.ct_rules_node.specs.Turn.{Turn}
use Rattle.ct_rules_node.specs.Admission.{record_in}
use Rattle.ct_rules_cluster.specs.Cluster.{Cluster, Sent, node_at, pending}
use Rattle.ct_rules_cluster.specs.Labels.{Label}
use Rattle.ct_rules_cluster.specs.Steps.{frames_of, put, with_node}
use Rattle.ct_rules_cluster.specs.declared.step.PendingCall.{PendingCall}
use Rattle.ct_register.specs.Lines.{Lines}
use Rattle.ct_register.specs.Legal.{AcceptsLabels}
use Rattle.ct_register.specs.Marks.{MarksStep}
use Rattle.ct_promise.specs.Generation.{record_labels}
use Rattle.ct_promise.specs.Marked.{is_removed}
use Rattle.ct_law_record.specs.World.{World, View}
use Rattle.ct_law_record.proofs.MarkedRun.{marks_of}
use Rattle.ct_law_generation.specs.Shown.{scene, view, mails, labels_of}
use Rattle.ct_law_wishes.proofs.Wishing.{Wishful}
use Rattle.ct_law_generation.proofs.Hearing.{mails_more}
use Rattle.ct_law_generation.proofs.Pending.{Callers, Known, KnownAt, CommitFits, NodeKnown}
use Rattle.ct_law_generation.proofs.Staying.{Of_records}
use Rattle.ct_law_generation.proofs.Forming.{Is_formed}
use Rattle.ct_law_run.proofs.Apart.{none_fresh}
use Rattle.ct_law_run.proofs.Ages.{Ages, era_of, Rests}
use Rattle.ct_law_run.proofs.Lives.{Lives, NodeLives, MailSays, RoundSays, ReplySays, LeadSays, PhaseSays}
use Rattle.ct_law_run.proofs.Later.{Later, Keeps, keeps_view}
use Rattle.ct_law_run.proofs.Faces.{Turned}
use Rattle.ct_law_run.proofs.Froze.{ack}
use Rattle.ct_law_run.proofs.Stood.{lead_later}
use Rattle.ct_law_run.proofs.LeadTurning.{sent_still, Rest_after, acks_labels, acks_mails, acks_all}
use Rattle.ct_law_run.proofs.Lives.{Replied}
use Rattle.std.specs.Prelude.{◌⊎◌, nat_eq, nat_lt, is_some}
use Rattle.ct_frame.specs.declared.frame.TableRow.{TableRow}
use Rattle.ct_rules_node.specs.Rounds.{row_of}
use Rattle.ct_values.specs.declared.client.Answer.{Answer}
use Rattle.ct_values.specs.declared.client.ClientOp.{ClientOp}
use Rattle.ct_law_record.specs.World.{Event}
use Rattle.ct_law_generation.specs.Shown.{is_it}
use Rattle.ct_law_generation.proofs.Weave.{it_is}
use Rattle.ct_register.specs.Register as register
use Rattle.ct_register.specs.Legal.{AtRecord, AcceptsAnswer}
use Rattle.ct_rules_cluster.specs.Labels.{Answered}
use Rattle.ct_law_generation.specs.Waiting.{answered}
use Rattle.ct_promise.specs.Marked.{is_removal}
use Rattle.ct_law_generation.proofs.Calling.{own_pending}
use Rattle.ct_law_run.proofs.Holding
use Rattle.ct_law_run.proofs.Rounding.{not_freezing}
use Rattle.ct_register.proofs.Places.{at_other}
use Rattle.ct_store.specs.Map.{look}
use Rattle.ct_rules_node.specs.Node.{or_nothing}
use Rattle.ct_rules.specs.State.{rsn_of}

-- what the turn makes of the node, which freezes for g and its leader l: the record's state, and the phase
pub record Held_node (x y : Node) (db : ℕ) (key : List ℕ) (st : RecState) (g l : ℕ) : Type 0 where
  pub size : length y.dbs ≡ length x.dbs
  pub order : NodeAscends y
  pub generation : y.generation ≡ x.generation
  pub members : y.members ≡ x.members
  pub pbase : y.pbase ≡ x.pbase
  pub next : y.next ≡ x.next
  pub promise : y.promise ≡ x.promise
  pub lead : y.lead ≡ x.lead
  pub phase : (y.phase ≡ Freezing g l) ⊎ ((y.phase ≡ Frozen g) × ((d : ℕ) (k : List ℕ) → (state_at d k y).locked ≡ None))
  pub own : state_at db key y ≡ st
  pub other : (d : ℕ) (k : List ℕ) → is_it d k db key ≡ false → state_at d k y ≡ state_at d k x
  pub floor : (d : ℕ) → (db_at d y).floor ≡ (db_at d x).floor
  pub commit : (d : ℕ) → (db_at d y).commit ≡ (db_at d x).commit

-- what holds of the record's new state, and of each that stays
held_each : (P : ℕ → List ℕ → RecState → Type 0) (x y : Node) (db : ℕ) (key : List ℕ) (st : RecState) (g l : ℕ) → Held_node x y db key st g l → P db key st → ((d : ℕ) (k : List ℕ) → is_it d k db key ≡ false → P d k (state_at d k x)) → (d : ℕ) (k : List ℕ) → P d k (state_at d k y)
held_each P x y db key st g l z new old d k = ⊎_elim
    (λ (t : is_it d k db key ≡ true). (let p = it_is d db k key t in
    subst (λ (q : List ℕ). P d q (state_at d q y)) p.1 (subst (λ (j : ℕ). P j key (state_at j key y)) p.0 (subst (λ (s : RecState). P db key s) (sym z.own) new))))
    (λ (f : is_it d k db key ≡ false). subst (λ (s : RecState). P d k s) (sym (z.other d k f)) (old d k f))
    (cases_Bool (is_it d k db key))

-- ---- the calls that wait

known_held : (who : Callers) (calls n : ℕ) (x y : Node) (db : ℕ) (key : List ℕ) (st : RecState) (g l : ℕ) → Held_node x y db key st g l → st.wish ≡ (state_at db key x).wish → ((d : ℕ) → (db_at d x).commit ≡ None) → NodeKnown who calls n x → NodeKnown who calls n y
unfolding KnownAt CommitFits state_at
known_held who calls n x y db key st g l z wish calm k = record {
  order = z.order;
  dbs = λ d. record {
    records = λ q. held_each (λ d q s. Wishful (Known who calls n d q) s.wish) x y db key st g l z (subst (λ (w : Option Wish). Wishful (Known who calls n db key) w) (sym wish) ((k.dbs db).records key)) (λ d q f. (k.dbs d).records q) d q;
    commit = subst (λ (w : Option Committing). CommitFits who calls n d w) (sym (z.commit d ∙ calm d)) tt;
  };
}

-- ---- what it told of itself

-- a node with a lock told nothing of its line
replied_held : (r s : Lines) (a b : Ages) (n q vbase pbase : ℕ) (table : List TableRow) (x y : Node) (db : ℕ) (key : List ℕ) (st : RecState) (g l : ℕ) → s ≡ record r { records = s.records } → Held_node x y db key st g l → x.phase ≡ Freezing g l → is_some (state_at db key x).locked ≡ true →
    ((m d : ℕ) (k : List ℕ) → m ≢ r.line n → (b.worlds m d k).nodes n ≡ (a.worlds m d k).nodes n) → Replied r a q n vbase pbase table x → Replied (record r { records = s.records }) b q n vbase pbase table y
replied_held r s a b n q vbase pbase table x y db key st g l is z freezing locked views k = record {
  promised = (let p = k.promised in let e = z.promise in omega arith);
  given = k.given;
  older = k.older;
  had = k.had;
  still = k.still;
  past = λ j e. ⊎_elim
      (λ (i : y.phase ≡ Freezing g l). k.past j (freezing ∙ sym i ∙ e))
      (λ p. absurd (not_freezing y.phase g q j p.0 e))
      z.phase;
  stuck = λ ne line. absurd (stuck ne line);
  some = λ ne. (let p = k.some ne in (p.0, p.1, λ d o. p.2 d o ∙ ap (λ (t : View). row_of n d o t.state.copy) (sym (views vbase d o (λ e. stuck ne (sym e))))));
  order = k.order;
  polder = k.polder;
  phad = k.phad;
  pstill = k.pstill;
}
  where
    stuck : vbase ≢ 0 → r.line n ≡ vbase → ⊥
    stuck ne line = (let e : (state_at db key x).locked ≡ None = (k.stuck ne line).1 db key in absurd (cc))

reply_held : (r s : Lines) (a b : Ages) (n : ℕ) (x y : Node) (db : ℕ) (key : List ℕ) (st : RecState) (g l : ℕ) (f : Frame) (m : Msg) → s ≡ record r { records = s.records } → Held_node x y db key st g l → x.phase ≡ Freezing g l → is_some (state_at db key x).locked ≡ true →
    ((m d : ℕ) (k : List ℕ) → m ≢ r.line n → (b.worlds m d k).nodes n ≡ (a.worlds m d k).nodes n) → ReplySays r a n x f m → ReplySays (record r { records = s.records }) b n y f m
unfolding ReplySays
reply_held r s a b n x y db key st g l f (msg.PullReply vbase pbase table ptables addresses) is z freezing locked views k = λ own. replied_held r s a b n f.generation vbase pbase table x y db key st g l is z freezing locked views (k own)
reply_held r s a b n x y db key st g l f m is z freezing locked views k = tt

pub phase_held : (c : Config) (rules : Rules) (who : Callers) (v : Cluster) (r : Lines) (b : Ages) (n g l : ℕ) (y : Node) → (y.phase ≡ Freezing g l) ⊎ ((y.phase ≡ Frozen g) × ((d : ℕ) (k : List ℕ) → (state_at d k y).locked ≡ None)) → Rest_after r b n g y → PhaseSays c rules who v r b n y y.phase
unfolding PhaseSays
phase_held c rules who v r b n g l y z k = ⊎_elim
    (λ (e : y.phase ≡ Freezing g l). subst (λ (p : Phase). PhaseSays c rules who v r b n y p) (sym e) (k.ticket, k.unborn, k.promise, k.older, k.empty, k.rests, k.commit, k.member))
    (λ p. subst (λ (q : Phase). PhaseSays c rules who v r b n y q) (sym p.0) (k.ticket, k.promise, k.older, k.empty, k.rests, k.commit, p.1, λ born. absurd (let e = sym born ∙ k.unborn in cc)))
    z

-- ---- the whole turn

-- what is asked of the turn u of a node that freezes for g and its leader l: it answers the call `asked` of a record that is locked there, and leaves the state
-- st, which is what a Freeze leaves of the state `left` in the world
pub record Held_turn (c : Config) (rules : Rules) (w : Cluster) (r : Lines) (a : Ages) (n g l db : ℕ) (key : List ℕ) (e : Event) (left st : RecState) (asked : ClientOp) (given : Answer) (u : Turn) : Type 0 where
  pub freezing : (node_at n w).phase ≡ Freezing g l
  pub locked : is_some (state_at db key (node_at n w)).locked ≡ true
  pub node : Held_node (node_at n w) u.node db key st g l
  pub rests : st ≡ frozen_state left
  pub wish : st.wish ≡ (state_at db key (node_at n w)).wish
  pub formed : Is_formed (scene c (era_of r a (r.line n)) rules db key) n (record (view db key (node_at n w)) { state = st })
  pub so : Holding.Holds_so (scene c (era_of r a (r.line n)) rules db key) (a.worlds (r.line n) db key) n e left asked given
  pub rsn : rsn_of left.copy ≡ rsn_of ((a.worlds (r.line n) db key).nodes n).state.copy
  pub more : List Out
  pub outs : u.outs ≡ out.Answer w.calls given ∷ more
  pub acks : (more ≡ []) ⊎ (more ≡ ack n g l ∷ [])
  pub kind : has_records (kind_at c db) ≡ true
  pub speaks : record_labels c (Answered n asked given ∷ []) ≡ Answered n asked given ∷ []
  pub sort : (s : Lines) → AtRecord c n db key (register.Accepts rules n asked given) r s → AcceptsAnswer c rules n asked given r s

answered_own : (n call : ℕ) (asked : ClientOp) (a : Answer) (pend : List PendingCall) → answered call a (own_pending n call asked ∷ pend) ≡ Answered n asked a ∷ []
unfolding answered
answered_own n call asked a pend = ap (λ (b : Bool). cond b (Answered n asked a ∷ []) (answered call a pend)) (eq-eqb call call refl)

pub outs_labels : (n g l call : ℕ) (asked : ClientOp) (a : Answer) (pend : List PendingCall) (outs more : List Out) → outs ≡ out.Answer call a ∷ more → (more ≡ []) ⊎ (more ≡ ack n g l ∷ []) → labels_of n (own_pending n call asked ∷ pend) outs ≡ Answered n asked a ∷ []
unfolding labels_of
outs_labels n g l call asked a pend outs more e acks = ap (λ (o : List Out). labels_of n (own_pending n call asked ∷ pend) o) e
    ∙ (λ i. answered_own n call asked a pend i ++ acks_labels n g l (own_pending n call asked ∷ pend) more acks i) ∙ append-nil (Answered n asked a ∷ [])

outs_frames : (call : ℕ) (a : Answer) (outs more : List Out) → outs ≡ out.Answer call a ∷ more → frames_of outs ≡ frames_of more
unfolding frames_of
outs_frames call a outs more e = ap frames_of e

module _ (c : Config) (rules : Rules) (w : Cluster) (r : Lines) (h : Lives c rules w r) (n g l db : ℕ) (key : List ℕ) (e : Event) (left st : RecState) (asked : ClientOp) (given : Answer) (u : Turn)
    (there : nat_lt n c.nodes ≡ true) (t : Held_turn c rules w r h.ages n g l db key e left st asked given u) where
  abbrev x : Node
  x = node_at n w

  abbrev a : Ages
  a = h.ages

  abbrev y : Node
  y = u.node

  abbrev who : Callers
  who = h.who

  abbrev pend : List PendingCall
  pend = own_pending n w.calls asked ∷ pending w

  abbrev v : Cluster
  v = (put n u [] w).cluster

  own : NodeLives c rules h.who w r a n x
  own = h.nodes n there

  says : PhaseSays c rules h.who w r a n x (Freezing g l)
  says = subst (λ (p : Phase). PhaseSays c rules h.who w r a n x p) t.freezing own.phase

  sent_is : v.sent ≡ w.sent ++ frames_of u.outs
  unfolding put with_node
  sent_is = refl

  calls_is : v.calls ≡ w.calls
  unfolding put with_node
  calls_is = refl

  frames : frames_of u.outs ≡ frames_of t.more
  frames = outs_frames w.calls given u.outs t.more t.outs

  labels : labels_of n pend u.outs ≡ Answered n asked given ∷ []
  labels = outs_labels n g l w.calls asked given (pending w) u.outs t.more t.outs t.acks

  same_mails : (m d : ℕ) (k : List ℕ) → mails m d k v.sent ≡ mails m d k w.sent
  same_mails m d k = ap (λ (z : List Sent). mails m d k z) sent_is ∙ mails_more m d k w.sent (frames_of u.outs)
      ∙ ap (λ (z : List _). mails m d k w.sent ++ z) (ap (λ (z : List Sent). mails m d k z) frames ∙ acks_mails n g l m d k t.more t.acks)
      ∙ append-nil (mails m d k w.sent)

  -- a node with a lock is in a line
  calm : (d : ℕ) → (db_at d x).commit ≡ None
  unfolding PhaseSays
  calm = says.6

  lined : r.line n ≢ 0
  unfolding PhaseSays state_at or_nothing
  lined z = absurd (let none : (db_at db x).records ≡ [] = says.4 z db in let f : is_some (or_nothing (look key [])).locked ≡ true = sym (ap (λ m. is_some (or_nothing (look key m)).locked) none) ∙ t.locked in cc)

  rested : (d : ℕ) (k : List ℕ) → Rests d k ((a.worlds (r.line n) d k).nodes n) x
  unfolding PhaseSays
  rested = says.5 lined

  joined : (nat_eq (r.line n) 1 || r.installed (r.line n) n) ≡ true
  joined = ⊎_elim
      (λ (i : r.line n ≡ 1). ap (λ (b : Bool). b || r.installed (r.line n) n) (eq-eqb (r.line n) 1 i))
      (λ (no : r.line n ≢ 1). or_right (nat_eq (r.line n) 1) (r.installed (r.line n) n) (own.done (let z = lined in omega arith)))
      (cases_eq (r.line n) 1)

  holding : Holding.Holding c rules w v r a n (r.line n) db key e left asked given
  holding = record { line = refl; born = (own.named lined).0; member = (own.named lined).2; there = joined; so = t.so; rsn = t.rsn; same = same_mails }

  abbrev s : Lines
  s = record r { records = Holding.records c rules w v r a n (r.line n) db key e left asked given h.lines holding }

  abbrev b : Ages
  b = Holding.ages c rules w v r a n (r.line n) db key e left asked given h.lines holding

  accepted : AtRecord c n db key (register.Accepts rules n asked given) r s
  accepted = (lined, t.kind, (Holding.here c rules w v r a n (r.line n) db key e left asked given h.lines holding).register, (Holding.here c rules w v r a n (r.line n) db key e left asked given h.lines holding).accepted, refl)

  later : Later r a s b
  later = record { last = omega arith; leader = λ q k i. i; named = λ q k i. refl; born = λ q i. i; members = λ q i. refl; tables = λ q i. refl; installed = λ q k i. i; had = λ q k j lt i. i; phad = λ q k j lt i. i }

  rests_all : (d : ℕ) (k : List ℕ) → Rests d k ((b.worlds (r.line n) d k).nodes n) y
  rests_all d k = record {
    state = held_each (λ d k z. z ≡ frozen_state ((b.worlds (r.line n) d k).nodes n).state) x y db key st g l t.node
        (t.rests ∙ ap (λ (z : View). frozen_state z.state) (sym (Holding.own_view c rules w v r a n (r.line n) db key e left asked given h.lines holding)))
        (λ d k no_it. (rested d k).state ∙ ap (λ (z : View). frozen_state z.state) (sym (Holding.other_view c rules w v r a n (r.line n) db key e left asked given h.lines holding d k no_it))) d k;
    next = t.node.next ∙ next_all d k;
  }
    where
      next_all : (d : ℕ) (k : List ℕ) → x.next ≡ ((b.worlds (r.line n) d k).nodes n).next
      next_all d k = ⊎_elim
          (λ (i : is_it d k db key ≡ true). (let p = it_is d db k key i in
          subst (λ (q : List ℕ). x.next ≡ ((b.worlds (r.line n) d q).nodes n).next) p.1
          (subst (λ (j : ℕ). x.next ≡ ((b.worlds (r.line n) j key).nodes n).next) p.0
          ((rested db key).next ∙ ap (λ (z : View). z.next) (sym (Holding.own_view c rules w v r a n (r.line n) db key e left asked given h.lines holding))))))
          (λ (f : is_it d k db key ≡ false). (rested d k).next ∙ ap (λ (z : View). z.next) (sym (Holding.other_view c rules w v r a n (r.line n) db key e left asked given h.lines holding d k f)))
          (cases_Bool (is_it d k db key))

  rest : Rest_after s b n g y
  unfolding PhaseSays
  rest = record {
    ticket = says.0;
    unborn = says.1;
    promise = t.node.promise ∙ says.2;
    older = says.3;
    empty = λ z. absurd (lined z);
    rests = λ _ d k. rests_all d k;
    commit = λ d. t.node.commit d ∙ calm d;
    member = says.7;
  }

  all_replies : AllByRecursion (λ q. ReplySays s b n y q.frame q.frame.msg) v.sent
  unfolding ReplySays
  all_replies = subst (λ (z : List Sent). AllByRecursion (λ q. ReplySays s b n y q.frame q.frame.msg) z) (sym (sent_is ∙ ap (λ (z : List Sent). w.sent ++ z) frames))
      (all_append (λ q. ReplySays s b n y q.frame q.frame.msg) w.sent (frames_of t.more)
      (all_weaken (λ q. ReplySays r a n x q.frame q.frame.msg) (λ q. ReplySays s b n y q.frame q.frame.msg)
      (λ q k. reply_held r s a b n x y db key st g l q.frame q.frame.msg refl t.node t.freezing t.locked (λ m d o ne. ap (λ (z : World). z.nodes n) (ap (λ (f : ℕ → List ℕ → World). f d o) (at_other (r.line n) m _ a.worlds ne))) k) w.sent own.replies)
      (acks_all (λ q. ReplySays s b n y q q.msg) n g l t.more t.acks tt))

  view_other : (d : ℕ) (k : List ℕ) → is_it d k db key ≡ false → view d k y ≡ view d k x
  view_other d k f = λ i. record { state = t.node.other d k f i; next = t.node.next i; floor = t.node.floor d i }

  view_own : view db key y ≡ record (view db key x) { state = st }
  view_own = λ i. record { state = t.node.own i; next = t.node.next i; floor = t.node.floor db i }

  formed_all : (d : ℕ) (k : List ℕ) → Is_formed (scene c (era_of r a (r.line n)) rules d k) n (view d k y)
  formed_all d k = ⊎_elim
      (λ (i : is_it d k db key ≡ true). (let p = it_is d db k key i in
      subst (λ (q : List ℕ). Is_formed (scene c (era_of r a (r.line n)) rules d q) n (view d q y)) p.1
      (subst (λ (j : ℕ). Is_formed (scene c (era_of r a (r.line n)) rules j key) n (view j key y)) p.0
      (subst (λ (z : View). Is_formed (scene c (era_of r a (r.line n)) rules db key) n z) (sym view_own) t.formed))))
      (λ (f : is_it d k db key ≡ false). subst (λ (z : View). Is_formed (scene c (era_of r a (r.line n)) rules d k) n z) (sym (view_other d k f)) (own.formed d k))
      (cases_Bool (is_it d k db key))

  mine : NodeLives c rules who v s b n y
  mine = record {
    size = t.node.size ∙ own.size;
    known = subst (λ (k : ℕ). NodeKnown who k n y) (sym calls_is) (known_held h.who w.calls n x y db key st g l t.node t.wish calm own.known);
    line = t.node.generation ∙ own.line;
    base = t.node.pbase ∙ own.base;
    older = (let o = own.older in let p = t.node.promise in omega arith);
    given = (let o = own.given in let p = t.node.promise in omega arith);
    named = λ ne. (let k = own.named ne in (k.0, t.node.members ∙ k.1, k.2));
    done = own.done;
    promises = λ q born among. (let k = own.promises q born among in let p = t.node.promise in omega arith);
    waits = λ d k. held_each (λ d k z. Wishful (Of_records c d k) z.wish) x y db key st g l t.node (subst (λ (o : Option Wish). Wishful (Of_records c db key) o) (sym t.wish) (own.waits db key)) (λ d k f. own.waits d k) d k;
    formed = formed_all;
    commits = λ d k i. absurd (let z : None ≡ Some k = sym (t.node.commit d ∙ calm d) ∙ i in cc);
    persist = λ d k i. absurd (let z : None ≡ Some k = sym (t.node.commit d ∙ calm d) ∙ i in cc);
    serving = λ d k i. absurd (let z : None ≡ Some k = sym (t.node.commit d ∙ calm d) ∙ i in cc);
    phase = phase_held c rules who v s b n g l y t.node.phase rest;
    lead = subst (λ (k : Lead). LeadSays c v s b n k) (sym t.node.lead) (lead_later c w v r a s b n x.lead later (λ q i. i) (λ q k. sent_still w v (frames_of u.outs) q sent_is k) own.lead);
    replies = all_replies;
  }

  said : AllByRecursion (λ q. MailSays c s b q.frame) (frames_of u.outs)
  unfolding RoundSays record_in
  said = subst (λ (z : List Sent). AllByRecursion (λ q. MailSays c s b q.frame) z) (sym frames) (acks_all (MailSays c s b) n g l t.more t.acks (record { round = tt; sound = λ k i. absurd (cc) }))

  others_say : (k : ℕ) → k ≢ n → AllByRecursion (λ q. ReplySays s b k (node_at k w) q.frame q.frame.msg) (frames_of u.outs)
  unfolding ReplySays
  others_say k ne = subst (λ (z : List Sent). AllByRecursion (λ q. ReplySays s b k (node_at k w) q.frame q.frame.msg) z) (sym frames) (acks_all (λ q. ReplySays s b k (node_at k w) q q.msg) n g l t.more t.acks tt)

  unremoved : (m d : ℕ) (k : List ℕ) → is_removed r m d k (labels_of n pend u.outs) ≡ false
  unfolding is_removal
  unremoved m d k = ap (λ (z : List Label). is_removed r m d k z) labels

  -- what the node has not locked stays as it is
  world_locked : ((a.worlds (r.line n) db key).nodes n).state.locked ≡ None → ⊥
  unfolding frozen_state
  world_locked f = absurd (let e = sym (ap is_some (ap (λ (z : RecState). z.locked) (rested db key).state ∙ f)) ∙ t.locked in cc)

  own_line : (d : ℕ) (o : List ℕ) → ((a.worlds (r.line n) d o).nodes n).state.locked ≡ None → (b.worlds (r.line n) d o).nodes n ≡ (a.worlds (r.line n) d o).nodes n
  own_line d o free = ⊎_elim
      (λ (i : is_it d o db key ≡ true). (let p = it_is d db o key i in
      absurd (world_locked (subst (λ (q : List ℕ). ((a.worlds (r.line n) db q).nodes n).state.locked ≡ None) (sym p.1) (subst (λ (j : ℕ). ((a.worlds (r.line n) j o).nodes n).state.locked ≡ None) (sym p.0) free)))))
      (λ (f : is_it d o db key ≡ false). Holding.other_view c rules w v r a n (r.line n) db key e left asked given h.lines holding d o f)
      (cases_Bool (is_it d o db key))

  keeps : (q d : ℕ) (o : List ℕ) → (r.line n ≢ q) ⊎ (r.line n ≢ q) ⊎ ((is_present y.phase ≡ false) × (((a.worlds q d o).nodes n).state.locked ≡ None)) → Keeps ((a.worlds q d o).nodes n) ((b.worlds q d o).nodes n)
  keeps q d o why = ⊎_elim
      (λ (is : q ≡ r.line n). ⊎_elim
      (λ (ne : r.line n ≢ q). absurd (ne (sym is)))
      (λ (k : (r.line n ≢ q) ⊎ ((is_present y.phase ≡ false) × (((a.worlds q d o).nodes n).state.locked ≡ None))). ⊎_elim
      (λ (ne : r.line n ≢ q). absurd (ne (sym is)))
      (λ (p : (is_present y.phase ≡ false) × (((a.worlds q d o).nodes n).state.locked ≡ None)).
      subst (λ (j : ℕ). Keeps ((a.worlds j d o).nodes n) ((b.worlds j d o).nodes n)) (sym is) (keeps_view _ _ (own_line d o (subst (λ (j : ℕ). ((a.worlds j d o).nodes n).state.locked ≡ None) is p.1)))) k) why)
      (λ (no : q ≢ r.line n). keeps_view _ _ (ap (λ (z : World). z.nodes n) (ap (λ (f : ℕ → List ℕ → World). f d o) (at_other (r.line n) q _ a.worlds no))))
      (cases_eq q (r.line n))

  pub held_turned : Turned c rules who w r h.ages n pend u
  held_turned = record {
    lines = s;
    ages = b;
    accepts = subst (λ (z : List Label). AcceptsLabels c rules r z s) (sym (ap (λ (z : List Label). record_labels c z) labels ∙ t.speaks)) (s, t.sort s accepted, refl);
    later = later;
    away = λ k ne. record { line = refl; pline = refl; views = λ q d o born. Holding.other_node c rules w v r a n (r.line n) db key e left asked given h.lines holding k ne q d o };
    rest = λ q d o born why. keeps q d o why;
    last = refl;
    holder = refl;
    lives = Holding.held_live c rules w v r a n (r.line n) db key e left asked given h.lines holding;
    mine = mine;
    says = said;
    replies = others_say;
    marks = λ q born d k. subst (λ (z : Bool). MarksStep z (marks_of (a.ghosts q d k)) (marks_of (b.ghosts q d k))) (sym (unremoved q d k))
        (Holding.marks c rules w v r a n (r.line n) db key e left asked given h.lines holding q d k born);
    fresh = λ k ne lt. none_fresh c rules r s b k (node_at k w) (λ q. refl);
  }
