-- A client's call on a record comes to a node that is present, and is not refused.
use Rattle.std.proofs.Common.{◌≡◌, ℕ, Bool, true, false, List, ◌∷◌, None, refl, sym, ap, ◌∙◌, subst, arith}
use Rattle.std.specs.Prelude.{nat_lt, ◌&&◌}
use Rattle.std.specs.List.{AllByRecursion}
use Rattle.ct_values.specs.Client.{db_of, key_of}
use Rattle.ct_values.specs.declared.client.ClientOp.{ClientOp}
use Rattle.ct_values.specs.declared.client.ClientOp.TheVariants as op
use Rattle.ct_values.specs.declared.config.Config.{Config}
use Rattle.ct_frame.specs.declared.event.Event.TheVariants as event
use Rattle.ct_call.specs.Rules.{Rules}
use Rattle.ct_rules.specs.Moves.{move}
use Rattle.ct_rules.specs.Parts.{want}
use Rattle.ct_rules.specs.declared.event.MoveEvent.{MoveEvent}
use Rattle.ct_rules.specs.declared.event.MoveEvent.TheVariants as moves
use Rattle.ct_rules_node.specs.Node.{Node, Phase, is_present, is_freezing, is_persistent, has_records, kind_at, state_at}
use Rattle.ct_rules_node.specs.Turn.{Turn, begins, makes}
use Rattle.ct_rules_node.specs.Records.{at_record}
use Rattle.ct_rules_node.specs.Clients as clients
use Rattle.ct_rules_node.specs.Clients.{client, refusal, serves, is_commit, is_unlock}
use Rattle.ct_rules_node.specs.Steps.{happens}
use Rattle.ct_rules_cluster.specs.Cluster.{Cluster, node_at, pending}
use Rattle.ct_rules_cluster.specs.declared.step.PendingCall.{PendingCall}
use Rattle.ct_register.specs.Lines.{Lines}
use Rattle.ct_promise.specs.Promises.{IsConfig}
use Rattle.ct_law_record.specs.World.{World, Event, Wants, Stores, Unlocks, own_call, may_want}
use Rattle.ct_law_generation.specs.Shown.{Era, labels_of}
use Rattle.ct_law_generation.proofs.Pending.{Callers}
use Rattle.ct_law_generation.proofs.Lining.{Is_fit}
use Rattle.ct_law_generation.proofs.Following.{Goes_on, Comes_to, follows}
use Rattle.ct_law_generation.proofs.Delivering.{has_place}
use Rattle.ct_law_generation.proofs.Calling.{own_pending, Calls_at, wants_come, stores_come, unlocks_come}
use Rattle.ct_law_generation.proofs.Admitted.{Admits, admits, may_lock, may_read, may_write, may_apply, may_store, may_unlock}
use Rattle.ct_law_generation.proofs.Served.{client_serves, call_kind, serves_lock, serves_read, serves_write, serves_apply, serves_store, serves_unlock}
use Rattle.ct_law_generation.proofs.Committed.{commit_kind}
use Rattle.ct_law_generation.proofs.Kept.{event_kept}
use Rattle.ct_law_plain.proofs.Events.{client_plain}
use Rattle.ct_law_run.proofs.Ages.{era_of}
use Rattle.ct_law_run.proofs.Lives.{Lives}
use Rattle.ct_law_run.proofs.Faces.{Turned}
use Rattle.ct_law_run.proofs.Records.{present_here, ws, shown, starts, asks, plain_turned}

not_last : (b : Bool) (p : Phase) → is_present p ≡ true → (b && is_freezing p) ≡ false
unfolding is_present is_freezing
not_last b p e = grind arith

-- that the call's number is made is seen by no record
started : (c : Config) (era : Era) (rules : Rules) (who : Callers) (calls n call : ℕ) (pend : List PendingCall) (ws : ℕ → List ℕ → World) (t u : Turn) → Goes_on c era rules who calls n pend ws (makes call t) u → Goes_on c era rules who calls n pend ws t u
unfolding makes
started c era rules who calls n call pend ws t u g = (g.0, λ db key. ((g.1 db key).0, record { world = (g.1 db key).1.world; labels = (g.1 db key).1.labels }), g.2)

module _ (c : Config) (rules : Rules) (w : Cluster) (r : Lines) (h : Lives c rules w r) (n : ℕ) (o : ClientOp) (config : IsConfig c) (there : nat_lt n c.nodes ≡ true) (present : is_present (node_at n w).phase ≡ true)
    (own : h.who w.calls ≡ (n, o)) (free : refusal c rules (node_at n w) o ≡ None) (spent : (client c rules n w.calls o (begins (node_at n w))).spent ≡ false) where
  abbrev x : Node
  x = node_at n w

  abbrev t : Turn
  t = makes w.calls (begins x)

  abbrev u : Turn
  u = client c rules n w.calls o (begins x)

  abbrev pend : List PendingCall
  pend = own_pending n w.calls o ∷ pending w

  abbrev allowed : Admits c x o
  allowed = admits c rules x o free

  -- what is known of the call at its record
  calls : has_records (kind_at c (db_of o)) ≡ true → Calls_at c (era_of r h.ages (r.line n)) rules h.who w.calls n (db_of o) w.calls (key_of o) o w (h.ages.worlds (r.line n))
  calls kind = (let begin = starts c rules w r h n pend there present config in record {
    real = begin.era_is;
    small = begin.small (db_of o) (has_place c (db_of o) kind);
    member = begin.member;
    stays = (present_here c rules w r h n there present).stays;
    kind = kind;
    own = own;
    counted = omega arith;
    of_db = refl;
    of_key = refl;
    shown = shown c rules w r h n pend there present;
    lawful = asks c rules w r h n pend there present (db_of o) (key_of o);
  })

  -- the turn, where the call is an event at its record
  event_comes : (e : MoveEvent) (ev : Event) → has_records (kind_at c (db_of o)) ≡ true → is_commit o ≡ false → u ≡ at_record c n (db_of o) (key_of o) (λ at m. move at rules e m) t →
      Comes_to c (era_of r h.ages (r.line n)) rules h.who w.calls n (db_of o) (key_of o) e t pend (own_call w.calls o) (h.ages.worlds (r.line n) (db_of o) (key_of o)) ev → Turned c rules h.who w r h.ages n pend (happens c rules n (begins x) (event.Client w.calls o))
  unfolding happens makes labels_of
  event_comes e ev kind other turn comes =
      let era = era_of r h.ages (r.line n) in
      let begin = starts c rules w r h n pend there present config in
      let stays = (present_here c rules w r h n there present).stays in
      plain_turned c rules w r h n pend there present (event.Client w.calls o)
      (subst (λ (v : Turn). Goes_on c era rules h.who w.calls n pend (h.ages.worlds (r.line n)) (begins x) v) (sym turn)
      (started c era rules h.who w.calls n w.calls pend (h.ages.worlds (r.line n)) (begins x) (at_record c n (db_of o) (key_of o) (λ at m. move at rules e m) t)
      (follows c era rules h.who w.calls n (db_of o) (key_of o) e t pend (own_call w.calls o) (h.ages.worlds (r.line n)) ev begin.era_is begin.member stays comes)))
      (subst (λ (v : Turn). AllByRecursion (Is_fit c (r.line n) r) (labels_of n pend v.outs)) (sym turn)
      (event_kept c era rules r h.who w.calls n (db_of o) (key_of o) e t pend (own_call w.calls o) (h.ages.worlds (r.line n) (db_of o) (key_of o)) ev begin kind stays comes tt))
      (client_plain c rules n w.calls o (begins x) other (not_last (is_unlock o) x.phase present))

  serves_by : (v : Turn) → serves c rules n w.calls t o ≡ v → u ≡ v
  serves_by v e = client_serves c rules n w.calls o x free ∙ e

  whole_by : (v : Turn) → u ≡ v → v.spent ≡ false
  whole_by v e = sym (ap (λ (q : Turn). q.spent) e) ∙ spent

  want_turned : has_records (kind_at c (db_of o)) ≡ true → is_commit o ≡ false → may_want (state_at (db_of o) (key_of o) x) o ≡ true → serves c rules n w.calls t o ≡ at_record c n (db_of o) (key_of o) (λ at m. want at rules w.calls o m) t →
      Turned c rules h.who w r h.ages n pend (happens c rules n (begins x) (event.Client w.calls o))
  want_turned kind other may serve = (let turn = serves_by _ serve in
      event_comes (moves.Want w.calls o) (Wants n w.calls o) kind other turn (wants_come c (era_of r h.ages (r.line n)) rules h.who w.calls n (db_of o) w.calls (key_of o) o w (h.ages.worlds (r.line n)) (calls kind) may (whole_by _ turn)))

-- a call of a database that is not persistent
pub call_turned : (c : Config) (rules : Rules) (w : Cluster) (r : Lines) (h : Lives c rules w r) (n : ℕ) (o : ClientOp) → IsConfig c → nat_lt n c.nodes ≡ true → is_present (node_at n w).phase ≡ true → h.who w.calls ≡ (n, o) → refusal c rules (node_at n w) o ≡ None →
    (client c rules n w.calls o (begins (node_at n w))).spent ≡ false → is_persistent (kind_at c (db_of o)) ≡ false →
    Turned c rules h.who w r h.ages n (own_pending n w.calls o ∷ pending w) (happens c rules n (begins (node_at n w)) (event.Client w.calls o))
unfolding is_commit makes
call_turned c rules w r h n (op.Lock db key) config there present own free spent f =
    let a = admits c rules (node_at n w) (op.Lock db key) free in
    want_turned c rules w r h n (op.Lock db key) config there present own free spent (call_kind c (node_at n w) (op.Lock db key) a f) refl (may_lock c (node_at n w) db key a) (serves_lock c rules n w.calls db key (makes w.calls (begins (node_at n w))))
call_turned c rules w r h n (op.Read db key) config there present own free spent f =
    let a = admits c rules (node_at n w) (op.Read db key) free in
    want_turned c rules w r h n (op.Read db key) config there present own free spent (call_kind c (node_at n w) (op.Read db key) a f) refl (may_read c (node_at n w) db key a) (serves_read c rules n w.calls db key (makes w.calls (begins (node_at n w))) f)
call_turned c rules w r h n (op.Write db key v) config there present own free spent f =
    let a = admits c rules (node_at n w) (op.Write db key v) free in
    want_turned c rules w r h n (op.Write db key v) config there present own free spent (call_kind c (node_at n w) (op.Write db key v) a f) refl (may_write c (node_at n w) db key v a) (serves_write c rules n w.calls db key v (makes w.calls (begins (node_at n w))))
call_turned c rules w r h n (op.Apply db key k arg) config there present own free spent f =
    let a = admits c rules (node_at n w) (op.Apply db key k arg) free in
    want_turned c rules w r h n (op.Apply db key k arg) config there present own free spent (call_kind c (node_at n w) (op.Apply db key k arg) a f) refl (may_apply c (node_at n w) db k key arg a) (serves_apply c rules n w.calls db k key arg (makes w.calls (begins (node_at n w))))
call_turned c rules w r h n (op.Store db key v) config there present own free spent f =
    let o = op.Store db key v in
    let a = admits c rules (node_at n w) o free in
    let kind = call_kind c (node_at n w) o a f in
    let turn = serves_by c rules w r h n o config there present own free spent _ (serves_store c rules n w.calls db key v (makes w.calls (begins (node_at n w)))) in
    event_comes c rules w r h n o config there present own free spent (moves.Store w.calls v) (Stores n w.calls v) kind refl turn
    (stores_come c (era_of r h.ages (r.line n)) rules h.who w.calls n db w.calls key v w (h.ages.worlds (r.line n)) (calls c rules w r h n o config there present own free spent kind) (may_store c (node_at n w) db key v a)
    (whole_by c rules w r h n o config there present own free spent _ turn))
call_turned c rules w r h n (op.Unlock db key) config there present own free spent f =
    let o = op.Unlock db key in
    let a = admits c rules (node_at n w) o free in
    let kind = call_kind c (node_at n w) o a f in
    let turn = serves_by c rules w r h n o config there present own free spent _ (serves_unlock c rules n w.calls db key (makes w.calls (begins (node_at n w))) present) in
    event_comes c rules w r h n o config there present own free spent (moves.Unlock w.calls) (Unlocks n w.calls) kind refl turn
    (unlocks_come c (era_of r h.ages (r.line n)) rules h.who w.calls n db w.calls key w (h.ages.worlds (r.line n)) (calls c rules w r h n o config there present own free spent kind) (may_unlock c (node_at n w) db key a)
    (whole_by c rules w r h n o config there present own free spent _ turn))
call_turned c rules w r h n (op.Commit db writes) config there present own free spent f =
    absurd (let k = commit_kind c (node_at n w) db writes (admits c rules (node_at n w) (op.Commit db writes) free) in cc)
