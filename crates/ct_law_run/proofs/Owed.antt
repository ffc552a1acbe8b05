-- Every turn that a node may take: what is owed of each holds, whether the node is present or not.
use Rattle.std.proofs.Common.{◌≡◌, ℕ, true, false, List, ◌∷◌, Option, Some, None, ⊎_elim, refl, sym, subst}
use Rattle.std.specs.Prelude.{nat_lt}
use Rattle.std.proofs.lemmas.Bool.{cases_Bool}
use Rattle.ct_values.specs.declared.client.ClientOp.{ClientOp}
use Rattle.ct_values.specs.declared.config.Config.{Config}
use Rattle.ct_frame.specs.declared.event.Event.{Event}
use Rattle.ct_frame.specs.declared.event.Event.TheVariants as event
use Rattle.ct_frame.specs.declared.frame.Frame.{Frame}
use Rattle.ct_frame.specs.declared.frame.Msg.{Msg}
use Rattle.ct_frame.specs.declared.frame.Msg.TheVariants as msg
use Rattle.ct_call.specs.Rules.{Rules}
use Rattle.ct_rules_node.specs.Node.{is_present}
use Rattle.ct_rules_node.specs.Admission.{record_in}
use Rattle.ct_rules_node.specs.Steps.{happens}
use Rattle.ct_rules_node.specs.Turn.{begins}
use Rattle.ct_rules_cluster.specs.Cluster.{Cluster, node_at, pending}
use Rattle.ct_rules_cluster.specs.declared.step.PendingCall.{PendingCall}
use Rattle.ct_register.specs.Lines.{Lines}
use Rattle.ct_promise.specs.Promises.{IsConfig}
use Rattle.ct_law_generation.proofs.Calling.{own_pending}
use Rattle.ct_law_run.proofs.Lives.{WasSent, Lives}
use Rattle.ct_law_run.proofs.Faces.{Turned}
use Rattle.ct_law_run.proofs.HandedServing.{retry_turned}
use Rattle.ct_law_run.proofs.Dropped.{is_of_round}
use Rattle.ct_law_run.proofs.Asking
use Rattle.ct_law_run.proofs.Absent
use Rattle.ct_law_run.proofs.Absent.{round_turned, arrives_turned}
use Rattle.ct_law_run.proofs.Records.{record_turned, vacuum_turned}
use Rattle.ct_law_run.proofs.Thawing.{retry_here, thaw_turned}
use Rattle.ct_law_run.proofs.Asides.{pupdate_turned, pack_turned, release_turned, take_turned}
use Rattle.ct_law_run.proofs.Runs.{releaseack_turned}
use Rattle.ct_law_run.proofs.Clients.{client_turned}
use Rattle.ct_law_run.specs.Records.{LawOfRecords, PromiseOfRecords}
use Rattle.ct_law_run.proofs.Stepping.{Comes, IsOwed, AllOwed, law_from_turns}
use Rattle.ct_law_run.proofs.Followed.{records_follow}

-- ---- a node that is present

module _ (c : Config) (rules : Rules) (w : Cluster) (r : Lines) (h : Lives c rules w r) (n : ℕ) (config : IsConfig c) (there : nat_lt n c.nodes ≡ true) where
  -- the turn of the event
  abbrev Goal : List PendingCall → Event → Type 0
  Goal pend e = Turned c rules h.who w r h.ages n pend (happens c rules n (begins (node_at n w)) e)

  module _ (f : Frame) (own : f.receiver ≡ n) (sent : WasSent w f) (present : is_present (node_at n w).phase ≡ true) (whole : (happens c rules n (begins (node_at n w)) (event.Arrive f)).spent ≡ false) where
    -- a message of no record and of no round
    other : (m : Msg) → f.msg ≡ m → record_in m ≡ None → is_of_round m ≡ false → Goal (pending w) (event.Arrive f)
    unfolding record_in is_of_round
    other (msg.PUpdate db seq writes) is none e = pupdate_turned c rules w r h n f there present db seq writes is
    other (msg.PAck db seq) is none e = pack_turned c rules w r h n f there present db seq is
    other msg.Thaw is none e = thaw_turned c rules w r h n f config there present sent is whole
    other (msg.Release number keep) is none e = release_turned c rules w r h n f there present number keep is
    other (msg.ReleaseAck number) is none e = releaseack_turned c rules w r h n f number there is
    other (msg.Take number assigned) is none e = take_turned c rules w r h n f there present number assigned is
    other (msg.Freeze members) is none e = absurd (cc)
    other msg.FreezeAck is none e = absurd (cc)
    other msg.Pull is none e = absurd (cc)
    other (msg.PullReply vbase pbase table ptables addresses) is none e = absurd (cc)
    other (msg.Push members table ptables assigned) is none e = absurd (cc)
    other msg.PushAck is none e = absurd (cc)
    other m is none e = absurd (cc)

    message_turned : Goal (pending w) (event.Arrive f)
    message_turned = ⊎_elim
        (λ (e : is_of_round f.msg ≡ true). round_turned c rules w r h n f f.msg config there refl e (record { sent = sent; receiver = own }) whole)
        (λ (e : is_of_round f.msg ≡ false). either (record_in f.msg) refl e)
        (cases_Bool (is_of_round f.msg))
      where
        either : (k : Option (ℕ × List ℕ)) → record_in f.msg ≡ k → is_of_round f.msg ≡ false → Goal (pending w) (event.Arrive f)
        either (Some k) is e = record_turned c rules w r h n f k config there present own sent is whole
        either None none e = other f.msg refl none e

  -- ---- every event

  called : (o : ClientOp) → h.who w.calls ≡ (n, o) → (happens c rules n (begins (node_at n w)) (event.Client w.calls o)).spent ≡ false → Goal (own_pending n w.calls o ∷ pending w) (event.Client w.calls o)
  unfolding happens
  called o own whole = ⊎_elim
      (λ (present : is_present (node_at n w).phase ≡ true). client_turned c rules w r h n o config there present own whole)
      (λ (absent : is_present (node_at n w).phase ≡ false). Asking.call_turned c rules w r h n config there o absent)
      (cases_Bool (is_present (node_at n w).phase))

  came : (f : Frame) → f.receiver ≡ n → WasSent w f → (happens c rules n (begins (node_at n w)) (event.Arrive f)).spent ≡ false → Goal (pending w) (event.Arrive f)
  came f own sent whole = ⊎_elim
      (λ (present : is_present (node_at n w).phase ≡ true). message_turned f own sent present whole)
      (λ (absent : is_present (node_at n w).phase ≡ false). arrives_turned c rules w r h n config there absent f (record { sent = sent; receiver = own }) whole)
      (cases_Bool (is_present (node_at n w).phase))

  owes : (pend : List PendingCall) (e : Event) → Comes c h.who w n pend e → (happens c rules n (begins (node_at n w)) e).spent ≡ false → IsOwed e → Goal pend e
  unfolding Comes IsOwed
  owes pend (event.Client call o) comes whole owed =
      subst (λ (p : List PendingCall). Goal p (event.Client call o)) (sym comes.3)
      (subst (λ (k : ℕ). h.who k ≡ (n, o) → (happens c rules n (begins (node_at n w)) (event.Client k o)).spent ≡ false → Goal (own_pending n k o ∷ pending w) (event.Client k o)) (sym comes.0) (called o) comes.1 whole)
  owes pend (event.Arrive f) comes whole owed = subst (λ (p : List PendingCall). Goal p (event.Arrive f)) (sym comes.2) (came f comes.0 comes.1 whole)
  owes pend event.Retry comes whole owed = subst (λ (p : List PendingCall). Goal p event.Retry) (sym comes) (⊎_elim
      (λ (present : is_present (node_at n w).phase ≡ true). retry_here c rules w r h n config there present)
      (λ (absent : is_present (node_at n w).phase ≡ false). retry_turned c rules w r h n there absent)
      (cases_Bool (is_present (node_at n w).phase)))
  owes pend (event.Vacuum db) comes whole owed = subst (λ (p : List PendingCall). Goal p (event.Vacuum db)) (sym comes.1) (⊎_elim
      (λ (present : is_present (node_at n w).phase ≡ true). vacuum_turned c rules w r h n db config there present comes.0 whole)
      (λ (absent : is_present (node_at n w).phase ≡ false). Absent.vacuum_turned c rules w r h n config there absent db)
      (cases_Bool (is_present (node_at n w).phase)))
  owes pend (event.BeginRound g members) comes whole owed = absurd comes
  owes pend (event.BeginTakeover able) comes whole owed = absurd owed

pub all_owed : AllOwed
all_owed c rules w r h n pend e config there comes whole owed = owes c rules w r h n config there pend e comes whole owed

-- so the law of records holds, and the promise that follows from it
pub law_of_records : LawOfRecords
law_of_records = law_from_turns all_owed

pub promise_of_records : PromiseOfRecords
promise_of_records = records_follow law_of_records
