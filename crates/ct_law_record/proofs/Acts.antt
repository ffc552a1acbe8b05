-- Each part of the rule keeps the invariant: what is sent, told, given, revoked, granted, drained.
use Rattle.std.proofs.Common.{◌≡◌, ◌≢◌, ◌⊎◌, ℕ, ◌<◌, ◌≤◌, Bool, true, false, Option, Some, None, List, [], ◌∷◌, ◌++◌, length, length-append, refl, sym, ap, ◌∙◌, inl, inr, ⊎_elim, arith, append_assoc, subst, not, ◌&&◌, ◌||◌, ◌==◌, le_of_eq}
use Rattle.std.proofs.lemmas.Bool.{and_parts, not-true, cond_both, cases_eq, eqb-false, lt-leb, le-leb, ne_eqb, eq-eqb}
use Rattle.ct_values.proofs.Words.{nil_is}
use Rattle.ct_values.specs.Words.{is_nil}
use Rattle.ct_values.specs.Client.{is_read}
use Rattle.ct_tracking.specs.Awaited.{including}
use Rattle.ct_law_record.proofs.Invariant.{span_of, Goes, Start, Waits, readers_of, is_revoking, Ghost, RevokeAt, Says, BodyAt, Recalled, NodeInv, MasterFacts, MasterInv, GlobalInv, Good, Holds, Kept}
use Rattle.ct_law_record.proofs.Nodes.{and_frame, NodeInv-frame, given, NodeInv-given, rank_of, NodeInv-nowish, NodeInv-recalls, seeing, NodeInv-seeing}
use Rattle.ct_law_record.proofs.Markings.{grows_none, goes_on, goes_told}
use Rattle.ct_law_record.specs.Marked.{is_removal, is_removed}
use Rattle.ct_law_record.proofs.Holder.{Change, Shift, Own, NodeInv-shift, NodeInv-own}
use Rattle.ct_law_record.proofs.Parts.{accepts_one_more, idle_none, has-track, has-track_new, rank-with_value, here-with_value, value-with_value, reading-append, nobody_has, readers_idle, quiet, NodeInv-quiet, tracks, change_tracks, global_tracks, shift_to, granted_to, granted_end, shift_register, registers, grown, grown_below, change_grown, global_grown}
use Rattle.std.specs.Prelude.{Result, Ok, Err, List}
use Rattle.ct_values.specs.declared.client.Answer.TheVariants as answer
use Rattle.ct_values.specs.declared.client.ClientOp.{ClientOp}
use Rattle.ct_values.specs.declared.client.ClientOp.TheVariants as op
use Rattle.ct_call.specs.Rules.{Rules}
use Rattle.ct_call.specs.Table.{applied}
use Rattle.ct_call.specs.declared.fault.CallFault.{CallFault}
use Rattle.ct_call.specs.declared.fault.CallFault.TheVariants as fault
use Rattle.ct_values.specs.declared.client.Why.TheVariants as why
use Rattle.ct_tracking.specs.Tracked.{Revocation}
use Rattle.ct_tracking.specs.Vacuum.{Vacuuming}
use Rattle.ct_rules.specs.State.{is_read_kind}
use Rattle.ct_rules.specs.declared.state.Entry.{Entry}
use Rattle.ct_rules.specs.declared.state.RecallNote.{RecallNote}
use Rattle.ct_register.specs.Register.{Register, reading}
use Rattle.ct_register.specs.Words.{at as changed}
use Rattle.ct_law_record.specs.Labels.{Label, Told, AcceptsLabel, AcceptsAll}
use Rattle.ct_law_record.proofs.Rule.{applies, read_here, Body, Copy, Done, Frame, Give, Grant, Node, Out, Revoke, Wish, drain, end_vacuum, give, grant, has_node, is_free, is_here, is_idle, is_wish, rank, reads_op, revoke, revoke_again, rsn_of, satisfy, send, send_all, tell, value_of, with_node, with_value, yield_record}
use Rattle.ct_law_record.proofs.Small.{given_is, read_accepted, reads_is_read, changed_me, changed_other}

module _ (rules : Rules) (ps : List ℕ) (m me : ℕ) (nodes : ℕ → Node) (frames : List Frame) (r : Start) where
  pub send_holds : (to : ℕ) (b : Body) (g : Ghost) (o : Out) → ((q rsn : ℕ) (value : List ℕ) → b ≡ Grant q rsn value → g.revoking ≡ false) → Holds rules ps m me nodes frames r g o → BodyAt g me o.node me to b → ((n : ℕ) → n ≢ me → BodyAt g n (nodes n) me to b)
      → Holds rules ps m me nodes frames r (and_frame (record { from = me; to = to; body = b }) g) (send me to b o)
  unfolding send
  send_holds to b g o still h mine other =
      let f : Frame = record { from = me; to = to; body = b } in record {
        sent = ap (λ fs. fs ++ (f ∷ [])) h.sent ∙ append_assoc frames o.frames (f ∷ []);
        told = h.told;
        went = h.went;
        good = record {
          all = h.good.all;
          mine = NodeInv-frame g me o.node f still mine h.good.mine;
          others = λ n ne. NodeInv-frame g n (nodes n) f still (other n ne) (h.good.others n ne);
          master = h.good.master;
          joined = h.good.joined;
          master_other = h.good.master_other;
        };
      }

  -- the node alone changes
  pub node_holds : (node : Node) (g : Ghost) (o : Out) → node.fresh ≡ o.node.fresh → Holds rules ps m me nodes frames r g o → NodeInv g me node → (me ≡ m → MasterInv m g node) → Holds rules ps m me nodes frames r g (with_node node o)
  unfolding with_node
  node_holds node g o same h mine master = record {
    sent = h.sent;
    told = h.told;
    went = h.went;
    good = record { all = h.good.all; mine = mine; others = h.good.others; master = master; joined = same ∙ h.good.joined; master_other = h.good.master_other };
  }

  -- the holder changes, and with it the ghost
  unfoldable pub Others : Ghost → Ghost → Type 0
  Others g g' = (n : ℕ) → n ≢ me → Shift g g' n (nodes n).copy (nodes n).wish

  own_good : (g g' : Ghost) (o : Out) (node : Node) → is_here o.node.copy ≡ true → GlobalInv ps m g' → Change g g' → Own g g' me o.node node → Others g g' → (me ≡ m → MasterInv m g' node) → (me ≢ m → g'.vacuum ≡ g.vacuum) →
      Holds rules ps m me nodes frames r g o → Good ps m me nodes g' node
  unfolding Others
  own_good g g' o node here all c d others master same h = record {
    all = all;
    mine = NodeInv-own ps m g g' me o.node node h.good.joined all here c d h.good.mine;
    others = λ n ne. NodeInv-shift g g' n (nodes n) (λ e. ne (e ∙ sym (h.good.mine.here here).0)) c (others n ne) (h.good.others n ne);
    master = master;
    joined = d.fresh ∙ h.good.joined;
    master_other = λ ne. (let k = h.good.master_other ne in record {
      entry = ⊎_elim
          (λ (e : ((nodes m).entry ≡ Some g.entry) × (g.base < g.top)). inl (e.0 ∙ ap Some (sym c.entry), (let t = c.span.top in let b = c.span.base in let x = e.1 in omega arith)))
          (λ p. absurd (ne ((h.good.mine.here here).0 ∙ ap (λ (x : Entry). x.holder) p.1))) k.entry;
      queue = k.queue ∙ sym c.queue;
      vacuum = k.vacuum ∙ sym (same ne);
    });
  }

  -- where a node is holder there are marks
  pub has_marks : (g : Ghost) (o : Out) → is_here o.node.copy ≡ true → Holds rules ps m me nodes frames r g o → g.base < g.top
  has_marks g o here h = (let low = (h.good.mine.here here).1 in let under = h.good.mine.under in let first = h.good.all.marks.first in omega arith)

  own_went : (g g' : Ghost) (o : Out) → is_here o.node.copy ≡ true → Change g g' → Holds rules ps m me nodes frames r g o → Goes (is_removed o.labels) r.span (span_of g')
  own_went g g' o here c h = goes_on (is_removed o.labels) r.span (span_of g) (span_of g') (λ _ l. (let some = has_marks g o here h in omega arith)) c.span h.went

  pub own_holds : (g g' : Ghost) (o : Out) (node : Node) → is_here o.node.copy ≡ true → GlobalInv ps m g' → Change g g' → Own g g' me o.node node → Others g g' → (me ≡ m → MasterInv m g' node) → (me ≢ m → g'.vacuum ≡ g.vacuum) →
      g'.register ≡ g.register → Holds rules ps m me nodes frames r g o → Holds rules ps m me nodes frames r g' (with_node node o)
  unfolding with_node
  own_holds g g' o node here all c d others master same reg h = record {
    sent = c.sent ∙ h.sent;
    told = subst (λ (x : Register). AcceptsAll rules r.register o.labels x) (sym reg) h.told;
    went = own_went g g' o here c h;
    good = own_good g g' o node here all c d others master same h;
  }

  -- the same with a label
  pub act_holds : (l : Label) (g g' : Ghost) (o : Out) (node : Node) → is_here o.node.copy ≡ true → GlobalInv ps m g' → Change g g' → Own g g' me o.node node → Others g g' → (me ≡ m → MasterInv m g' node) → (me ≢ m → g'.vacuum ≡ g.vacuum) →
      is_removal l ≡ false → AcceptsLabel rules g.register l g'.register → Holds rules ps m me nodes frames r g o → Holds rules ps m me nodes frames r g' (tell l (with_node node o))
  unfolding with_node tell
  act_holds l g g' o node here all c d others master same keeps accepts h = record {
    sent = c.sent ∙ h.sent;
    told = accepts_one_more rules r.register g.register g'.register o.labels l h.told accepts;
    went = goes_told o.labels l r.span (span_of g') keeps (own_went g g' o here c h);
    good = own_good g g' o node here all c d others master same h;
  }

  -- the master's part, where the copy and no part of the master changes
  pub master_copy : (g : Ghost) (o : Out) (copy : Option Copy) (top : ℕ) → g.top ≤ top → is_here o.node.copy ≡ true → Holds rules ps m me nodes frames r g o → me ≡ m → MasterFacts m g.entry g.queue g.vacuum g.base top o.node.entry o.node.queue copy o.node.vacuum o.node.floor
  unfolding is_here
  master_copy g o copy top up here h e = record {
    entry = ⊎_elim (λ (k : (o.node.entry ≡ Some g.entry) × (g.base < g.top)). inl (k.0, (let x = k.1 in omega arith))) (λ k. absurd (let c = ap is_here k.2 in cc)) (h.good.master e).entry;
    queue = (h.good.master e).queue;
    vacuum = (h.good.master e).vacuum;
  }

  -- at a holder that is not the location master no vacuum runs
  pub calm_other : (g : Ghost) (node : Node) → Good ps m me nodes g node → is_here node.copy ≡ true → me ≢ m → g.vacuum ≡ None
  calm_other g node h here ne = go g.vacuum refl
    where
      go : (v : Option Vacuuming) → g.vacuum ≡ v → g.vacuum ≡ None
      go None e = e
      go (Some v) e = absurd (ne ((h.mine.here here).0 ∙ (h.all.vacuum v e).at))

  -- the vacuum ends
  pub quiet_holds : (g : Ghost) (o : Out) → (me ≢ m → g.vacuum ≡ None) → Holds rules ps m me nodes frames r g o → Holds rules ps m me nodes frames r (quiet g) (end_vacuum o)
  unfolding end_vacuum with_node
  quiet_holds g o calm h = record {
    sent = h.sent;
    told = h.told;
    went = h.went;
    good = record {
      all = (let k = h.good.all in record { rises = k.rises; whole = k.whole; within = k.within; absent = k.absent; vacuum = λ v e. absurd (cc); marks = k.marks });
      mine = NodeInv-quiet g me o.node h.good.mine;
      others = λ n ne. NodeInv-quiet g n (nodes n) (h.good.others n ne);
      master = λ e. (let k = h.good.master e in record { entry = k.entry; queue = k.queue; vacuum = refl });
      joined = h.good.joined;
      master_other = λ ne. (let k = h.good.master_other ne in record { entry = k.entry; queue = k.queue; vacuum = k.vacuum ∙ calm ne });
    };
  }

  pub give_holds : (g : Ghost) (o : Out) → is_here o.node.copy ≡ true → o.node.locked ≡ false → o.node.tracked ≡ [] → o.node.revoking ≡ None → g.vacuum ≡ None → Holds rules ps m me nodes frames r g o → Kept rules ps m me nodes frames r (give me m o)
  unfolding give with_node Says rank
  give_holds g o here unlocked untracked idle calm h =
      subst (λ (c : Option Copy). Kept rules ps m me nodes frames r (send me m (Give (rsn_of o.node.copy) (value_of o.node.copy)) (with_node (record o.node { copy = c; recalls = [] }) o))) (sym (given_is o.node.copy here))
      (let at = h.good.mine.here here in
      let top = (h.good.mine.holds at.0 at.1).0 in
      let same = rank_of o.node.copy here in (
        _,
        send_holds m (Give (rsn_of o.node.copy) (value_of o.node.copy)) g (with_node (given o.node) o) (λ q s v is. absurd (cc))
            (node_holds (given o.node) g o refl h (NodeInv-given g me o.node here unlocked untracked idle calm h.good.mine) (master_copy g o _ g.top (omega arith) here h))
            (λ p. record { below = omega arith; held = λ _ _. refl })
            (λ n ne p. absurd (ne (sym p))),
      ))

  revoke_all : (ns : List ℕ) (rsn : ℕ) (g : Ghost) (o : Out) → RevokeAt g.top g.revoking rsn → Holds rules ps m me nodes frames r g o → Kept rules ps m me nodes frames r (send_all me ns (Revoke rsn) o)
  unfolding send_all Says
  revoke_all [] rsn g o k h = (g, h)
  revoke_all (n ∷ ns) rsn g o k h = revoke_all ns rsn _ _ k (send_holds n (Revoke rsn) g o (λ q s v is. absurd (cc)) h k (λ _ _. k))

  pub revoke_again_holds : (revoking : Option Revocation) (g : Ghost) (o : Out) → o.node.revoking ≡ revoking → Holds rules ps m me nodes frames r g o → Kept rules ps m me nodes frames r (revoke_again me o revoking)
  unfolding revoke_again is_revoking
  revoke_again_holds None g o is h = (g, h)
  revoke_again_holds (Some v) g o is h =
      let runs = h.good.mine.runs v is in
      let at = h.good.mine.here runs.0 in
      let top = (h.good.mine.holds at.0 at.1).0 in
      let rank_is = runs.1 in
      revoke_all v.missing v.rsn g o (record { below = omega arith; running = λ _. (h.good.mine.mirror runs.0).1 ∙ ap is_revoking is }) h

  covered_revoking : (k : ℕ) (rs : List ℕ) → (has_node k rs || true) ≡ true
  covered_revoking k rs = grind arith

  -- REVOKE, where the wish becomes this one
  pub revoke_holds : (wish : Option Wish) (g : Ghost) (o : Out) → is_nil o.node.tracked ≡ false → is_here o.node.copy ≡ true → o.node.locked ≡ false → o.node.revoking ≡ None → g.vacuum ≡ None →
      ((w : Wish) → wish ≡ Some w → (o.node.wish ≡ Some w) ⊎ ((w.request ≡ 0) × (reads_op w.op ≡ false))) → Holds rules ps m me nodes frames r g o → Kept rules ps m me nodes frames r (revoke me (with_node (record o.node { wish = wish }) o))
  unfolding revoke with_node readers_of is_revoking Others
  revoke_holds wish g o some here unlocked idle calm wishes h =
      let v : Revocation = record { rsn = rsn_of o.node.copy; missing = o.node.tracked } in
      let node : Node = record o.node { wish = wish; revoking = Some v } in
      let at = h.good.mine.here here in
      let top = h.good.mine.holds at.0 at.1 in
      let up = top.0 in
      let same = readers_idle g me o.node here idle h.good.mine in
      let rank_is = rank_of o.node.copy here in
      let stays = λ (k : ℕ) (a : has_node k g.readers ≡ true). subst (λ l. has_node k l ≡ true) same.0 a in
      revoke_all o.node.tracked v.rsn _ _ (record { below = omega arith; running = λ _. refl })
      (own_holds g (tracks o.node.tracked true g.top g) o node here (global_tracks ps m g o.node.tracked true g.top calm (omega arith) h.good.all) (change_tracks g o.node.tracked true g.top (inr (refl, λ _. refl)))
      (record {
        here = here;
        up = omega arith;
        top = top.0;
        value = top.1;
        locked = λ a. absurd (cc);
        owner = h.good.mine.owner;
        unwished = λ a. absurd (cc);
        next = refl;
        fresh = refl;
        recalls = refl;
        wishes = wishes;
        runs = λ u e. (let k : v ≡ u = cc in (rw (ap (λ (x : Revocation). x.rsn) (sym k)) (sym rank_is), calm));
        quiet = λ a. absurd (let z : true ≡ false = ap is_nil (sym a) ∙ some in cc);
        readers = refl;
        revoking = refl;
        granted = granted_to g o.node.tracked true me o.node.copy o.node.wish (inl (stays me));
        seen = h.good.mine.seen;
      })
      (λ n ne. shift_to g o.node.tracked true n (nodes n) (λ _. covered_revoking n o.node.tracked) (inl (stays n)) (h.good.others n ne))
      h.good.master (λ _. refl) refl h)

  -- who is holder and has no lock, knows that nobody has
  pub owner_me : (g : Ghost) (node : Node) → Good ps m me nodes g node → is_here node.copy ≡ true → (n : ℕ) → g.register.owner ≡ Some n → n ≡ me
  owner_me g node h here n e = ⊎_elim
      (λ (is : n ≡ me). is)
      (λ (ne : n ≢ me). (let k = h.others n ne in (k.here (k.locked (k.owner e)).0).0 ∙ sym (h.mine.here here).0))
      (cases_eq n me)

  pub owner_none : (g : Ghost) (node : Node) → Good ps m me nodes g node → is_here node.copy ≡ true → node.locked ≡ false → (owner : Option ℕ) → g.register.owner ≡ owner → owner ≡ None
  owner_none g node h here unlocked None e = refl
  owner_none g node h here unlocked (Some n) e = absurd (let is = owner_me g node h here n e in let k : node.locked ≡ true = h.mine.owner (e ∙ ap Some is) in cc)

  -- a node reads: it has seen all versions
  pub see_holds : (g : Ghost) (o : Out) → rank o.node.copy ≡ g.top → ((n : ℕ) → g.register.owner ≡ Some n → n ≡ me) → (asked : ClientOp) → is_read asked ≡ true → (value : List ℕ) → value ≡ reading g.register.versions →
      Holds rules ps m me nodes frames r g o → Holds rules ps m me nodes frames r (seeing (changed me (length g.register.versions) g.register.seen) g) (tell (Told me asked (answer.Read value)) o)
  unfolding tell changed is_removal
  see_holds g o top owner asked is value new h =
      let whole = h.good.all.whole (rank o.node.copy) (omega arith) in record {
        sent = h.sent;
        told = accepts_one_more rules r.register g.register _ o.labels (Told me asked (answer.Read value)) h.told (read_accepted rules g.register me asked is owner value new);
        went = goes_told o.labels (Told me asked (answer.Read value)) r.span (span_of g) refl h.went;
        good = record {
          all = h.good.all;
          mine = NodeInv-seeing g me o.node _ (rw (eq-eqb me me refl) (le_of_eq (sym whole))) h.good.mine;
          others = λ n ne. NodeInv-seeing g n (nodes n) _ (rw (ne_eqb n me ne) (h.good.others n ne).seen) (h.good.others n ne);
          master = h.good.master;
          joined = h.good.joined;
          master_other = h.good.master_other;
        };
      }

  -- what the holder's own change of the register owes
  own_register : (g g' : Ghost) (o : Out) (copy : Option Copy) (locked : Bool) → is_here o.node.copy ≡ true → o.node.tracked ≡ [] → o.node.revoking ≡ None → g.vacuum ≡ None → g'.vacuum ≡ g.vacuum → g'.readers ≡ g.readers → g'.revoking ≡ g.revoking → g'.top ≡ g.top →
      is_here copy ≡ true → rank copy ≡ rank o.node.copy → value_of copy ≡ reading g'.register.versions → (locked ≡ true → g'.register.owner ≡ Some me) → (g'.register.owner ≡ Some me → locked ≡ true) → g'.register.seen me ≤ g'.place (rank copy) → (locked ≡ true → o.node.wish ≡ None) →
      NodeInv g me o.node → Own g g' me o.node (record o.node { copy = copy; locked = locked })
  own_register g g' o copy locked here untracked idle calm vacuum readers revoking top here' same value own1 own2 seen unwished h = record {
    here = here';
    up = omega arith;
    top = (let at = h.here here in same ∙ (h.holds at.0 at.1).0 ∙ sym top);
    value = value;
    locked = λ a. (own1 a, untracked, idle, vacuum ∙ calm);
    owner = own2;
    unwished = unwished;
    next = refl;
    fresh = refl;
    recalls = refl;
    wishes = λ w e. inl e;
    runs = λ v e. absurd (cc);
    readers = readers ∙ (h.mirror here).0;
    quiet = λ _. idle;
    revoking = revoking ∙ (h.mirror here).1;
    granted = granted_end g g' me o.node.copy o.node.wish (inl (nobody_has me g.readers ((readers_idle g me o.node here idle h).0 ∙ untracked)));
    seen = seen;
  }

  -- other copies are below the top, where the holder tracks nobody and revokes nothing
  pub below_top : (g : Ghost) (o : Out) → is_here o.node.copy ≡ true → o.node.tracked ≡ [] → o.node.revoking ≡ None → Holds rules ps m me nodes frames r g o → (n : ℕ) → n ≢ me → rank (nodes n).copy < g.top
  unfolding has_node
  below_top g o here untracked idle h n ne =
      let at = h.good.mine.here here in
      let up = (h.good.mine.holds at.0 at.1).0 in
      let low = at.1 in
      let f = h.good.others n ne in
      let under = f.under in
      let same = readers_idle g me o.node here idle h.good.mine in
      let none : g.readers ≡ [] = same.0 ∙ untracked in
      ⊎_elim
      (λ (e : rank (nodes n).copy ≡ g.top). absurd (let k = f.other (λ e'. ne (e' ∙ sym at.0)) (omega arith) e in
      let z : (has_node n [] || false) ≡ true = subst (λ (x : List ℕ × Bool). (has_node n x.0 || x.1) ≡ true) (λ i. (none i, same.1 i)) k in cc))
      (λ (a : rank (nodes n).copy ≢ g.top). omega arith)
      (cases_eq (rank (nodes n).copy) g.top)

  -- the holder writes
  pub grow_holds : (v : List ℕ) (l : Label) (owner : Option ℕ) (g : Ghost) (o : Out) → is_here o.node.copy ≡ true → o.node.tracked ≡ [] → o.node.revoking ≡ None → g.vacuum ≡ None → is_removal l ≡ false →
      AcceptsLabel rules g.register l (grown v owner me g).register → (o.node.locked ≡ true → owner ≡ Some me) → (owner ≡ Some me → o.node.locked ≡ true) → ((n : ℕ) → n ≢ me → owner ≢ Some n) →
      Holds rules ps m me nodes frames r g o → Holds rules ps m me nodes frames r (grown v owner me g) (tell l (with_node (record o.node { copy = with_value v o.node.copy }) o))
  unfolding Others changed
  grow_holds v l owner g o here untracked idle calm keeps accepts own1 own2 others h =
      let at = h.good.mine.here here in
      let up = (h.good.mine.holds at.0 at.1).0 in
      let low = at.1 in
      let same = rank-with_value v o.node.copy in
      let none : g.readers ≡ [] = (readers_idle g me o.node here idle h.good.mine).0 ∙ untracked in
      act_holds l g (grown v owner me g) o (record o.node { copy = with_value v o.node.copy }) here (global_grown ps m g v owner me calm (omega arith) h.good.all) (change_grown ps m g v owner me h.good.all)
      (own_register g (grown v owner me g) o (with_value v o.node.copy) o.node.locked here untracked idle calm refl refl refl refl
      (here-with_value v _ ∙ here) same (value-with_value v _ here ∙ sym (reading-append g.register.versions v)) own1 own2
      (let u = changed_me me (length (g.register.versions ++ (v ∷ []))) g.register.seen in let e = length-append g.register.versions (v ∷ []) in rw (le-leb g.top (rank (with_value v o.node.copy)) (omega arith)) (omega arith)) h.good.mine.unwished h.good.mine)
      (λ n ne. (let b = below_top g o here untracked idle h n ne in let f = h.good.others n ne in
      shift_register g _ _ _ n (nodes n) none (others n ne) (f.value ∙ sym (grown_below ps m g v (rank (nodes n).copy) h.good.all b))
      (rw (ne_eqb n me ne, lt-leb g.top (rank (nodes n).copy) b) f.seen) (rw (lt-leb g.top (rank (nodes n).copy) b) (omega arith)) f))
      (λ e. (let k = master_copy g o (with_value v o.node.copy) g.top (omega arith) here h e in record { entry = k.entry; queue = k.queue; vacuum = k.vacuum })) (λ _. refl) keeps accepts h

  -- the lock changes
  pub lock_holds : (locked : Bool) (l : Label) (owner : Option ℕ) (seen : ℕ → ℕ) (g : Ghost) (o : Out) → is_here o.node.copy ≡ true → o.node.tracked ≡ [] → o.node.revoking ≡ None → g.vacuum ≡ None → is_removal l ≡ false →
      AcceptsLabel rules g.register l (record g.register { owner = owner; seen = seen }) → (locked ≡ true → owner ≡ Some me) → (owner ≡ Some me → locked ≡ true) → ((n : ℕ) → n ≢ me → owner ≢ Some n) →
      (locked ≡ true → o.node.wish ≡ None) → seen me ≤ length g.register.versions → ((n : ℕ) → n ≢ me → seen n ≡ g.register.seen n) →
      Holds rules ps m me nodes frames r g o → Holds rules ps m me nodes frames r (registers (record g.register { owner = owner; seen = seen }) g.place g.mark g) (tell l (with_node (record o.node { locked = locked }) o))
  unfolding Others changed
  lock_holds locked l owner seen g o here untracked idle calm keeps accepts own1 own2 others unwished mine seens h =
      let at = h.good.mine.here here in
      let holds = h.good.mine.holds at.0 at.1 in
      let up = holds.0 in
      let whole = h.good.all.whole (rank o.node.copy) (omega arith) in
      let none : g.readers ≡ [] = (readers_idle g me o.node here idle h.good.mine).0 ∙ untracked in
      let g' = registers (record g.register { owner = owner; seen = seen }) g.place g.mark g in
      act_holds l g g' o (record o.node { locked = locked }) here h.good.all
      (record { entry = refl; queue = refl; sent = refl; birth = refl; top = inr (refl, λ a. a); empty = λ a b c. c; joined = λ a b c. c; span = grows_none (span_of g) })
      (own_register g g' o o.node.copy locked here untracked idle calm refl refl refl refl here refl holds.1 own1 own2 (omega arith) unwished h.good.mine)
      (λ n ne. (let f = h.good.others n ne in let s = f.seen in let e = seens n ne in shift_register g _ g.place g.mark n (nodes n) none (others n ne) f.value (omega arith) (omega arith) f))
      h.good.master (λ _. refl) keeps accepts h

  applies_holds : (db : ℕ) (key : List ℕ) (f : ℕ) (arg : List ℕ) (g : Ghost) (o : Out) (x : Result (List ℕ) CallFault) → applied f (reading g.register.versions) arg rules ≡ x → is_here o.node.copy ≡ true → o.node.locked ≡ false → o.node.tracked ≡ [] → o.node.revoking ≡ None → g.vacuum ≡ None → Holds rules ps m me nodes frames r g o → Kept rules ps m me nodes frames r (applies me (op.Apply db key f arg) o x)
  unfolding applies tell is_removal
  applies_holds db key f arg g o (Err (fault.TooLong n)) is here unlocked untracked idle calm h =
      let none = owner_none g o.node h.good here unlocked g.register.owner refl in
      (g, record { sent = h.sent; told = accepts_one_more rules r.register g.register g.register o.labels (Told me (op.Apply db key f arg) (answer.Refused (why.TooLong n))) h.told (none, is, refl); went = goes_told o.labels (Told me (op.Apply db key f arg) (answer.Refused (why.TooLong n))) r.span (span_of g) refl h.went; good = h.good })
  applies_holds db key f arg g o (Err fault.NoSuchCall) is here unlocked untracked idle calm h =
      (g, record { sent = h.sent; told = accepts_one_more rules r.register g.register g.register o.labels (Told me (op.Apply db key f arg) (answer.Refused why.NoSuchCall)) h.told refl; went = goes_told o.labels (Told me (op.Apply db key f arg) (answer.Refused why.NoSuchCall)) r.span (span_of g) refl h.went; good = h.good })
  applies_holds db key f arg g o (Err fault.NoMemory) is here unlocked untracked idle calm h = (g, h)
  applies_holds db key f arg g o (Ok v) is here unlocked untracked idle calm h =
      let none = owner_none g o.node h.good here unlocked g.register.owner refl in
      (_, grow_holds v (Told me (op.Apply db key f arg) (answer.Applied v)) g.register.owner g o here untracked idle calm refl (none, is, refl) (λ a. absurd (cc)) (λ a. absurd (cc)) (λ n ne e. absurd (cc)) h)

  pub satisfy_holds : (asked : ClientOp) (g : Ghost) (o : Out) → o.node.wish ≡ None → is_here o.node.copy ≡ true → o.node.locked ≡ false → o.node.tracked ≡ [] → o.node.revoking ≡ None → g.vacuum ≡ None → Holds rules ps m me nodes frames r g o → Kept rules ps m me nodes frames r (satisfy rules me asked o)
  unfolding satisfy is_read is_removal
  satisfy_holds (op.Lock db key) g o free here unlocked untracked idle calm h =
      let none = owner_none g o.node h.good here unlocked g.register.owner refl in
      let at = h.good.mine.here here in
      let value = (h.good.mine.holds at.0 at.1).1 in (
        _,
        lock_holds true (Told me (op.Lock db key) (answer.Locked (value_of o.node.copy))) (Some me) (changed me (length g.register.versions) g.register.seen) g o here untracked idle calm refl (none, value, refl) (λ _. refl) (λ _. refl) (λ n ne e. absurd (ne (grind arith))) (λ _. free)
            (changed_me me _ _) (λ n ne. changed_other me n _ _ ne) h,
      )
  satisfy_holds (op.Write db key v) g o free here unlocked untracked idle calm h =
      let none = owner_none g o.node h.good here unlocked g.register.owner refl in
      (_, grow_holds v (Told me (op.Write db key v) answer.Written) g.register.owner g o here untracked idle calm refl (none, refl) (λ a. absurd (cc)) (λ a. absurd (cc)) (λ n ne e. absurd (cc)) h)
  satisfy_holds (op.Read db key) g o free here unlocked untracked idle calm h =
      let at = h.good.mine.here here in
      let k = h.good.mine.holds at.0 at.1 in
      (_, see_holds g o k.0 (owner_me g o.node h.good here) (op.Read db key) refl (value_of o.node.copy) k.1 h)
  satisfy_holds (op.Apply db key f arg) g o free here unlocked untracked idle calm h =
      let at = h.good.mine.here here in
      applies_holds db key f arg g o (applied f (value_of o.node.copy) arg rules) (ap (λ (x : List ℕ). applied f x arg rules) (sym (h.good.mine.holds at.0 at.1).1)) here unlocked untracked idle calm h
  satisfy_holds (op.Store db key v) g o free here unlocked untracked idle calm h = (g, h)
  satisfy_holds (op.Unlock db key) g o free here unlocked untracked idle calm h = (g, h)
  satisfy_holds (op.Commit db writes) g o free here unlocked untracked idle calm h = (g, h)

  -- the node of a recall that was sent has drawn its number
  recalled_low : (g : Ghost) (n : ℕ) (node : Node) (x : RecallNote) → NodeInv g n node → Recalled x g.frames → x.node ≡ n → (x.request < node.next) × (x.request ≢ 0)
  unfolding Recalled Says
  recalled_low g n node x h s at = subst (λ b. Says g n node.copy node.next node.wish s.0.from s.0.to b) s.2 (h.frames s.0 s.1) at

  covered_track : (k n : ℕ) (rs ns : List ℕ) (b : Bool) → rs ≡ ns → b ≡ false → (has_node k rs || b) ≡ true → (has_node k (including n ns) || false) ≡ true
  covered_track k n rs ns b e f h =
      let z : (has_node k ns || false) ≡ true = subst (λ (x : List ℕ × Bool). (has_node k x.0 || x.1) ≡ true) (λ i. (e i, f i)) h in
      let t = has-track k n ns in grind arith

  read_here_holds : (q : ℕ) (g : Ghost) (o : Out) (wish : Option Wish) → o.node.wish ≡ wish → is_here o.node.copy ≡ true → o.node.locked ≡ false → Holds rules ps m me nodes frames r g o → Kept rules ps m me nodes frames r (read_here me q o wish)
  unfolding read_here is_wish with_node
  read_here_holds q g o None is here unlocked h = (g, h)
  read_here_holds q g o (Some w) is here unlocked h = cond_both (w.request == q && reads_op w.op) _ _ (Kept rules ps m me nodes frames r)
      (λ t.
      let p = and_parts (w.request == q) (reads_op w.op) t in
      let at = h.good.mine.here here in
      let k = h.good.mine.holds at.0 at.1 in (
        _,
        see_holds g (with_node (record o.node { wish = None }) o) k.0 (owner_me g o.node h.good here) w.op.real (reads_is_read w.op p.1) (value_of o.node.copy) k.1
            (node_holds (record o.node { wish = None }) g o refl h (NodeInv-nowish g me o.node h.good.mine) h.good.master),
      ))
      (λ _. (g, h))

  -- a recall of kind Read is handled
  pub grant_holds : (x : RecallNote) (g : Ghost) (o : Out) → is_here o.node.copy ≡ true → o.node.locked ≡ false → o.node.revoking ≡ None → g.vacuum ≡ None → Recalled x g.frames → Holds rules ps m me nodes frames r g o → Kept rules ps m me nodes frames r (grant me m x o)
  unfolding grant with_node Says readers_of is_revoking Others
  grant_holds x g o here unlocked idle calm asked h = cond_both (x.node == me) _ _ (λ y. Kept rules ps m me nodes frames r (send me m (Done x.node x.request) y))
      (λ _. (let k = read_here_holds x.request g o o.node.wish refl here unlocked h in done k.0 _ k.1))
      (λ t. (let ne : x.node ≢ me = eqb-false x.node me t in done _ _
      (send_holds x.node (Grant x.request (rsn_of o.node.copy) (value_of o.node.copy)) more (with_node (record o.node { tracked = including x.node o.node.tracked }) o) (λ _ _ _ _. refl) tracking
      (λ e. absurd (ne e))
      (λ n apart e. (let low = recalled_low g n (nodes n) x (h.good.others n apart) asked e in let k = rank_of o.node.copy here in let b = holds in record {
        low = low.0;
        apart = (λ z. ne (e ∙ sym z));
        below = omega arith;
        current = λ w _ _ _. (subst (λ (k : ℕ). has_node k (including x.node o.node.tracked) ≡ true) e (has-track_new x.node o.node.tracked), holds.1, sym k ∙ holds.0);
      })))))
    where
      at : (me ≡ g.entry.holder) × (g.entry.least < rank o.node.copy)
      at = h.good.mine.here here

      holds : (rank o.node.copy ≡ g.top) × (value_of o.node.copy ≡ reading g.register.versions)
      holds = h.good.mine.holds (h.good.mine.here here).0 (h.good.mine.here here).1

      same : (g.readers ≡ o.node.tracked) × (g.revoking ≡ false)
      same = readers_idle g me o.node here idle h.good.mine

      done : (g' : Ghost) (y : Out) → Holds rules ps m me nodes frames r g' y → Kept rules ps m me nodes frames r (send me m (Done x.node x.request) y)
      done g' y k = (_, send_holds m (Done x.node x.request) g' y (λ q s v is. absurd (cc)) k tt (λ _ _. tt))

      more : Ghost
      more = tracks (including x.node o.node.tracked) false g.top g

      stays : (k : ℕ) → has_node k g.readers ≡ true → has_node k (including x.node o.node.tracked) ≡ true
      stays k a = has-track k x.node o.node.tracked (subst (λ l. has_node k l ≡ true) same.0 a)

      tracking : Holds rules ps m me nodes frames r more (with_node (record o.node { tracked = including x.node o.node.tracked }) o)
      tracking = own_holds g more o (record o.node { tracked = including x.node o.node.tracked }) here (global_tracks ps m g (including x.node o.node.tracked) false g.top calm (omega arith) h.good.all)
          (change_tracks g (including x.node o.node.tracked) false g.top (inr (refl, λ a. absurd (let b = same.1 in cc))))
          (record {
            here = here;
            up = omega arith;
            top = holds.0;
            value = holds.1;
            locked = λ a. absurd (cc);
            owner = h.good.mine.owner;
            unwished = λ a. absurd (cc);
            next = refl;
            fresh = refl;
            recalls = refl;
            wishes = λ w e. inl e;
            runs = λ v e. absurd (cc);
            quiet = λ _. idle;
            readers = sym (ap (readers_of (including x.node o.node.tracked)) idle);
            revoking = sym (ap is_revoking idle);
            granted = granted_to g (including x.node o.node.tracked) false me o.node.copy o.node.wish (inl (stays me));
            seen = h.good.mine.seen;
          })
          (λ n ne. shift_to g (including x.node o.node.tracked) false n (nodes n) (covered_track n x.node g.readers o.node.tracked g.revoking same.0 same.1) (inl (stays n)) (h.good.others n ne))
          h.good.master (λ _. refl) refl h

  pub yield_holds : (g : Ghost) (o : Out) → is_here o.node.copy ≡ true → o.node.locked ≡ false → o.node.revoking ≡ None → g.vacuum ≡ None → Holds rules ps m me nodes frames r g o → Kept rules ps m me nodes frames r (yield_record me m o)
  unfolding yield_record with_node
  yield_holds g o here unlocked idle calm h = cond_both (is_nil o.node.tracked) _ _ (Kept rules ps m me nodes frames r)
      (λ t. give_holds g o here unlocked (nil_is _ t) idle calm h)
      (λ t. revoke_holds o.node.wish g o t here unlocked idle calm (λ w e. inl e) h)

  pub recalls_holds : (l : List RecallNote) (g : Ghost) (o : Out) → ((s : RecallNote) → Waits s l → Recalled s g.frames) → Holds rules ps m me nodes frames r g o → Holds rules ps m me nodes frames r g (with_node (record o.node { recalls = l }) o)
  recalls_holds l g o all h = node_holds (record o.node { recalls = l }) g o refl h (NodeInv-recalls g me o.node l all h.good.mine) h.good.master

  pub free_parts : (n : Node) → is_free n ≡ true → (is_here n.copy ≡ true) × (n.locked ≡ false) × (n.revoking ≡ None)
  unfolding is_free
  free_parts n t = (let p = and_parts (is_here n.copy && not n.locked) (is_idle n.revoking) t in let q = and_parts (is_here n.copy) (not n.locked) p.0 in (q.0, not-true n.locked q.1, idle_none n.revoking p.1))

  read_here_recalls : (q : ℕ) (o : Out) (w : Option Wish) → (read_here me q o w).node.recalls ≡ o.node.recalls
  unfolding read_here tell with_node
  read_here_recalls q o None = refl
  read_here_recalls q o (Some w) = grind arith

  grant_recalls : (x : RecallNote) (o : Out) → (grant me m x (end_vacuum o)).node.recalls ≡ o.node.recalls
  unfolding grant send tell with_node end_vacuum
  grant_recalls x o = grind (arith, read_here_recalls x.request (end_vacuum o) o.node.wish)

  waits_first : (x : RecallNote) (xs : List RecallNote) → Waits x (x ∷ xs)
  unfolding Waits
  waits_first x xs = inl refl

  waits_rest : (x s : RecallNote) (xs : List RecallNote) → Waits s xs → Waits s (x ∷ xs)
  unfolding Waits
  waits_rest x s xs h = inr h

  -- HANDLE of a recall of kind Lock: the vacuum ends
  pub handle_lock_holds : (l : List RecallNote) (g : Ghost) (o : Out) → is_free o.node ≡ true → ((s : RecallNote) → Waits s l → Recalled s g.frames) → Holds rules ps m me nodes frames r g o → Kept rules ps m me nodes frames r (yield_record me m (with_node (record o.node { recalls = l; vacuum = None }) o))
  unfolding end_vacuum with_node
  handle_lock_holds l g o free all h =
      let p = free_parts o.node free in
      yield_holds (quiet g) _ p.0 p.1 p.2 refl (quiet_holds g (with_node (record o.node { recalls = l }) o) (calm_other g o.node h.good p.0) (recalls_holds l g o all h))

  pub handle_read_holds : (x : RecallNote) (g : Ghost) (o : Out) → is_free o.node ≡ true → Recalled x g.frames → Holds rules ps m me nodes frames r g o → Kept rules ps m me nodes frames r (grant me m x (end_vacuum o))
  unfolding end_vacuum with_node
  handle_read_holds x g o free asked h =
      let p = free_parts o.node free in
      grant_holds x (quiet g) (end_vacuum o) p.0 p.1 p.2 refl asked (quiet_holds g o (calm_other g o.node h.good p.0) h)

  pub drain_holds : (l : List RecallNote) (g : Ghost) (o : Out) → ((s : RecallNote) → Waits s l → Waits s o.node.recalls) → Holds rules ps m me nodes frames r g o → Kept rules ps m me nodes frames r (drain me m l o)
  unfolding drain with_node
  drain_holds [] g o sub h = (g, recalls_holds [] g o (λ s w. h.good.mine.waits s (sub s w)) h)
  drain_holds (x ∷ xs) g o sub h = cond_both (is_free o.node) _ _ (Kept rules ps m me nodes frames r)
      (λ t. cond_both (is_read_kind x.kind) _ _ (Kept rules ps m me nodes frames r)
      (λ _. (let k = handle_read_holds x g o t (h.good.mine.waits x (sub x (waits_first x xs))) h in
      drain_holds xs k.0 (grant me m x (end_vacuum o)) (λ s w. rw grant_recalls (sub s (waits_rest x s xs w))) k.1))
      (λ _. handle_lock_holds (x ∷ xs) g o t (λ s w. h.good.mine.waits s (sub s w)) h))
      (λ _. (g, recalls_holds (x ∷ xs) g o (λ s w. h.good.mine.waits s (sub s w)) h))
