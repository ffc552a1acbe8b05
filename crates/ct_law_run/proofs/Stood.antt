-- What each phase says of a node before a Freeze, and what stays of it: its lead, its replies, the form of its records.
use Rattle.std.proofs.Common.{◌≡◌, ◌≢◌, ℕ, ◌<◌, Bool, true, false, cond, List, [], Option, None, Some, inl, inr, ⊎_elim, refl, sym, ap, ◌∙◌, arith}
use Rattle.std.specs.Prelude.{nat_lt, is_some}
use Rattle.ct_values.specs.declared.config.Config.{Config}
use Rattle.ct_frame.specs.declared.frame.Frame.{Frame}
use Rattle.ct_frame.specs.declared.frame.Msg.{Msg}
use Rattle.ct_frame.specs.declared.frame.Msg.TheVariants as msg
use Rattle.ct_frame.specs.declared.header.RecCopy.{RecCopy}
use Rattle.ct_call.specs.Rules.{Rules}
use Rattle.ct_rules.specs.declared.state.RecState.{RecState}
use Rattle.ct_rules.specs.State.{is_quiet}
use Rattle.ct_law_rules.specs.Form.{least_of, sent_for, revoked_rsn, vacuumed_rsn}
use Rattle.ct_rules_node.specs.Node.{Node, Phase, Idle, Serving, Installed, Freezing, Frozen, Committing, Lead, Nothing, Freezes, Pulls, Installs, Completed, is_present, name_of, db_at, state_at}
use Rattle.ct_rules_node.specs.Rounds.{frozen_state, lead_from, row_of}
use Rattle.ct_rules_cluster.specs.Cluster.{Cluster}
use Rattle.ct_register.specs.Lines.{Lines}
use Rattle.ct_law_record.specs.World.{Scene, View}
use Rattle.ct_law_generation.proofs.Pending.{Callers}
use Rattle.ct_law_generation.proofs.Forming.{Is_formed}
use Rattle.ct_law_run.proofs.Ages.{Ages, Rests}
use Rattle.ct_law_run.proofs.Lives.{PhaseSays, LeadSays, ReplySays, Replied, WasSent}
use Rattle.ct_law_run.proofs.Later.{Later}
use Rattle.ct_law_run.proofs.Framing.{ticket_later}
use Rattle.ct_law_run.proofs.Resting.{frozen_twice}
use Rattle.ct_law_run.proofs.Ends.{unlock, is_ended}
use Rattle.ct_law_run.proofs.Froze.{Froze}

-- ---- before the Freeze

-- what a node has as a Freeze comes, in any phase: in no line nothing; else what is left by a Freeze is that of its world, and the lock of
-- each commit that waits is in its world
pub record Stood (c : Config) (r : Lines) (a : Ages) (n : ℕ) (x : Node) : Type 0 where
  pub empty : r.line n ≡ 0 → (db : ℕ) → (db_at db x).records ≡ []
  pub calm : r.line n ≡ 0 → (db : ℕ) → (db_at db x).commit ≡ None
  pub state : r.line n ≢ 0 → (db : ℕ) (key : List ℕ) → frozen_state (state_at db key x) ≡ frozen_state ((a.worlds (r.line n) db key).nodes n).state
  pub next : r.line n ≢ 0 → (db : ℕ) (key : List ℕ) → x.next ≡ ((a.worlds (r.line n) db key).nodes n).next
  pub locks : r.line n ≢ 0 → (k : ℕ) (y : Committing) → (db_at k x).commit ≡ Some y → is_some ((a.worlds (r.line n) 0 (name_of c k)).nodes n).state.locked ≡ true

rested_state : (db : ℕ) (key : List ℕ) (v : View) (x : Node) → Rests db key v x → frozen_state (state_at db key x) ≡ frozen_state v.state
rested_state db key v x h = ap frozen_state h.state ∙ frozen_twice v.state

pub stood : (c : Config) (rules : Rules) (who : Callers) (w : Cluster) (r : Lines) (a : Ages) (n : ℕ) (x : Node) (p : Phase) → ((db : ℕ) (k : Committing) → (db_at db x).commit ≡ Some k → is_some (state_at 0 (name_of c db) x).locked ≡ true) →
    PhaseSays c rules who w r a n x p → Stood c r a n x
unfolding PhaseSays
stood c rules who w r a n x Idle commits h = record {
  empty = λ _. h.1;
  calm = λ _. h.2;
  state = λ ne. absurd (ne h.0);
  next = λ ne. absurd (ne h.0);
  locks = λ ne. absurd (ne h.0);
}
stood c rules who w r a n x (Freezing g l) commits h = record {
  empty = h.4;
  calm = λ _. h.6;
  state = λ ne db key. rested_state db key _ x (h.5 ne db key);
  next = λ ne db key. (h.5 ne db key).next;
  locks = λ ne k y e. absurd (let f : None ≡ Some y = sym (h.6 k) ∙ e in cc);
}
stood c rules who w r a n x (Frozen g) commits h = record {
  empty = h.3;
  calm = λ _. h.5;
  state = λ ne db key. rested_state db key _ x (h.4 ne db key);
  next = λ ne db key. (h.4 ne db key).next;
  locks = λ ne k y e. absurd (let f : None ≡ Some y = sym (h.5 k) ∙ e in cc);
}
stood c rules who w r a n x Serving commits h = record {
  empty = λ z. absurd (h.0 z);
  calm = λ z. absurd (h.0 z);
  state = λ ne db key. ap (λ (v : View). frozen_state v.state) (sym (h.2 db key));
  next = λ ne db key. ap (λ (v : View). v.next) (sym (h.2 db key));
  locks = λ ne k y e. ap (λ (v : View). is_some v.state.locked) (h.2 0 (name_of c k)) ∙ commits k y e;
}
stood c rules who w r a n x Installed commits h = record {
  empty = λ z. absurd (h.0 z);
  calm = λ z. absurd (h.0 z);
  state = λ ne db key. ap (λ (v : View). frozen_state v.state) (sym (h.2 db key));
  next = λ ne db key. ap (λ (v : View). v.next) (sym (h.2 db key));
  locks = λ ne k y e. ap (λ (v : View). is_some v.state.locked) (h.2 0 (name_of c k)) ∙ commits k y e;
}

-- ---- the form

pub frozen_formed : (s : Scene) (n : ℕ) (v : View) (b : Bool) → Is_formed s n v → Is_formed s n (record v { state = cond b (unlock (frozen_state v.state)) (frozen_state v.state) })
unfolding frozen_state least_of sent_for revoked_rsn vacuumed_rsn is_quiet
frozen_formed s n v true h = record {
  form = record {
    shape = record {
      sent_on = λ e. absurd (e refl);
      queue_entry = λ e. absurd (cc);
      lock_held = λ e. absurd (cc);
      revocation_held = λ e. absurd (cc);
      lock_quiet = λ e. absurd (cc);
      revocation_tracked = λ e. absurd (cc);
      lock_unwished = λ e. absurd (cc);
      vacuum_home = λ e. absurd (cc);
      vacuum_queue = λ e. absurd (cc);
      vacuum_unlocked = λ e. absurd (cc);
      vacuum_unwished = λ e. absurd (cc);
      vacuum_quiet = λ e. absurd (cc);
      wish_wants = h.form.shape.wish_wants;
      queue_asked = refl;
      waiting_recalled = refl;
    };
    numbers = record { copy_limit = h.form.numbers.copy_limit; least_limit = omega arith; request_limit = omega arith; revocation_limit = omega arith; vacuum_limit = omega arith; wish_limit = h.form.numbers.wish_limit };
    counters = h.form.counters;
  };
  tracks = record { tracked_held = λ e. absurd (cc); vacuum_untracked = λ e. absurd (cc) };
  waits = refl;
}
frozen_formed s n v false h = record {
  form = record {
    shape = record {
      sent_on = λ e. absurd (e refl);
      queue_entry = λ e. absurd (cc);
      lock_held = h.form.shape.lock_held;
      revocation_held = λ e. absurd (cc);
      lock_quiet = λ e. refl;
      revocation_tracked = λ e. absurd (cc);
      lock_unwished = h.form.shape.lock_unwished;
      vacuum_home = λ e. absurd (cc);
      vacuum_queue = λ e. absurd (cc);
      vacuum_unlocked = λ e. absurd (cc);
      vacuum_unwished = λ e. absurd (cc);
      vacuum_quiet = λ e. absurd (cc);
      wish_wants = h.form.shape.wish_wants;
      queue_asked = refl;
      waiting_recalled = refl;
    };
    numbers = record { copy_limit = h.form.numbers.copy_limit; least_limit = omega arith; request_limit = omega arith; revocation_limit = omega arith; vacuum_limit = omega arith; wish_limit = h.form.numbers.wish_limit };
    counters = h.form.counters;
  };
  tracks = record { tracked_held = λ e. absurd (cc); vacuum_untracked = λ e. absurd (cc) };
  waits = refl;
}

-- ---- the lead

-- what a leader knows stays while tickets, births and tables stay and what was sent was sent
pub lead_later : (c : Config) (w v : Cluster) (r : Lines) (a : Ages) (s : Lines) (b : Ages) (n : ℕ) (l : Lead) → Later r a s b → ((g : ℕ) → r.born g ≡ false → s.born g ≡ false) → ((f : Frame) → WasSent w f → WasSent v f) → LeadSays c w r a n l → LeadSays c v s b n l
unfolding LeadSays
lead_later c w v r a s b n Nothing later unborn sent h = tt
lead_later c w v r a s b n (Freezes g members missing) later unborn sent h = (ticket_later c r a s b g n members later h.0, unborn g h.1)
lead_later c w v r a s b n (Pulls g members missing x) later unborn sent h = (
  ticket_later c r a s b g n members later h.0,
  unborn g h.1,
  record {
    pulls = h.2.pulls;
    same = h.2.same;
    sent = λ p i. sent _ (h.2.sent p i);
    member = h.2.member;
    waits = h.2.waits;
  },
)
lead_later c w v r a s b n (Installs g members missing body) later unborn sent h = (
  ticket_later c r a s b g n members later h.0,
  later.born g h.1,
  h.2,
  h.3 ∙ sym (later.tables g h.1),
  record { within = h.4.within; met = λ m i. ⊎_elim (λ k. inl k) (λ k. inr (later.installed g m k)) (h.4.met m i) },
)
lead_later c w v r a s b n (Completed g members t) later unborn sent h = (ticket_later c r a s b g n members later h.0, later.born g h.1, λ m i. later.installed g m (h.2 m i))

-- a Freeze ends it or leaves it
pub lead_left : (c : Config) (w : Cluster) (r : Lines) (a : Ages) (n g : ℕ) (l : Lead) → LeadSays c w r a n l → LeadSays c w r a n (lead_from g l)
unfolding lead_from LeadSays
lead_left c w r a n g Nothing h = tt
lead_left c w r a n g (Freezes k members missing) h = either (nat_lt k g)
  where
    either : (b : Bool) → LeadSays c w r a n (cond b Nothing (Freezes k members missing))
    either true = tt
    either false = h
lead_left c w r a n g (Pulls k members missing x) h = either (nat_lt k g)
  where
    either : (b : Bool) → LeadSays c w r a n (cond b Nothing (Pulls k members missing x))
    either true = tt
    either false = h
lead_left c w r a n g (Installs k members missing x) h = either (nat_lt k g)
  where
    either : (b : Bool) → LeadSays c w r a n (cond b Nothing (Installs k members missing x))
    either true = tt
    either false = h
lead_left c w r a n g (Completed k members t) h = either (nat_lt k g)
  where
    either : (b : Bool) → LeadSays c w r a n (cond b Nothing (Completed k members t))
    either true = tt
    either false = h

-- ---- the replies

freezing_same : (p : Phase) (g h k l : ℕ) → p ≡ Freezing g h → p ≡ Freezing k l → g ≡ k
freezing_same p g h k l e f = generation (Freezing g h) (Freezing k l) (sym e ∙ f)
  where
    of : Phase → ℕ
    of (Freezing g h) = g
    of _ = 0

    generation : (p q : Phase) → p ≡ q → of p ≡ of q
    generation p q e = ap of e

frozen_not : (p : Phase) (g k l : ℕ) → p ≡ Frozen g → p ≢ Freezing k l
frozen_not p g k l e f = absurd (let j : Frozen g ≡ Freezing k l = sym e ∙ f in cc)

no_locks : (b : Bool) (s : RecState) → s.locked ≡ None → (cond b (unlock (frozen_state s)) (frozen_state s)).locked ≡ None
unfolding frozen_state
no_locks true s e = refl
no_locks false s e = e

not_present : (c : Config) (g h : ℕ) (x y : Node) → Froze c g h x y → is_present y.phase ≡ false
unfolding is_present
not_present c g h x y z = ⊎_elim (λ (e : y.phase ≡ Freezing g h). ap is_present e) (λ p. ap is_present p.0) z.phase

-- what the node told of itself it has still
pub replied_freezes : (c : Config) (r : Lines) (a b : Ages) (s : Lines) (n g h : ℕ) (x y : Node) (q vbase pbase : ℕ) (table : List _) → s ≡ record r { records = s.records } → Froze c g h x y → x.promise < g →
    ((m db : ℕ) (key : List ℕ) → ((b.worlds m db key).nodes n).state.copy ≡ ((a.worlds m db key).nodes n).state.copy) → Replied r a q n vbase pbase table x → Replied (record r { records = s.records }) b q n vbase pbase table y
replied_freezes c r a b s n g h x y q vbase pbase table is z newer copies k = record {
  promised = (let p = k.promised in let e = z.promise in omega arith);
  given = k.given;
  older = k.older;
  had = k.had;
  still = k.still;
  past = λ l e. ⊎_elim
      (λ (j : y.phase ≡ Freezing g h). absurd (let same = freezing_same y.phase g h q l j e in let p = k.promised in omega arith))
      (λ p. absurd (frozen_not y.phase g q l p.0 e))
      z.phase;
  stuck = λ ne line. (not_present c g h x y z, λ db key. ap (λ (t : RecState). t.locked) (z.state db key) ∙ no_locks (is_ended c 0 x.dbs db key) (state_at db key x) ((k.stuck ne line).1 db key));
  some = λ ne. (let p = k.some ne in (p.0, p.1, λ db key. p.2 db key ∙ ap (λ (o : Option RecCopy). row_of n db key o) (sym (copies vbase db key))));
  order = k.order;
  polder = k.polder;
  phad = k.phad;
  pstill = k.pstill;
}

pub reply_freezes : (c : Config) (r : Lines) (a b : Ages) (s : Lines) (n g h : ℕ) (x y : Node) (f : Frame) (m : Msg) → s ≡ record r { records = s.records } → Froze c g h x y → x.promise < g →
    ((m db : ℕ) (key : List ℕ) → ((b.worlds m db key).nodes n).state.copy ≡ ((a.worlds m db key).nodes n).state.copy) → ReplySays r a n x f m → ReplySays (record r { records = s.records }) b n y f m
unfolding ReplySays
reply_freezes c r a b s n g h x y f (msg.PullReply vbase pbase table ptables addresses) is z newer copies k = λ own. replied_freezes c r a b s n g h x y f.generation vbase pbase table is z newer copies (k own)
reply_freezes c r a b s n g h x y f m is z newer copies k = tt
