-- Every turn of a node that is not present, and every message of a round at any node.
use Rattle.std.proofs.Common.{◌≡◌, ℕ, Bool, true, false, cond, None, Some, ⊎_elim, refl, sym, ◌∙◌, subst}
use Rattle.std.specs.Prelude.{nat_lt}
use Rattle.std.proofs.lemmas.Bool.{cases_Bool}
use Rattle.ct_values.specs.declared.config.Config.{Config}
use Rattle.ct_frame.specs.declared.event.Event.{Event}
use Rattle.ct_frame.specs.declared.event.Event.TheVariants as event
use Rattle.ct_frame.specs.declared.frame.Frame.{Frame}
use Rattle.ct_frame.specs.declared.frame.Msg.{Msg}
use Rattle.ct_frame.specs.declared.frame.Msg.TheVariants as msg
use Rattle.ct_call.specs.Rules.{Rules}
use Rattle.ct_rules_node.specs.Node.{Node, Phase, Idle, Freezing, Frozen, is_present, is_serving, db_at}
use Rattle.ct_rules_node.specs.Steps.{happens, vacuums, vacuum_all}
use Rattle.ct_rules_node.specs.Turn.{Turn, begins}
use Rattle.ct_rules_cluster.specs.Cluster.{Cluster, node_at, pending}
use Rattle.ct_register.specs.Lines.{Lines}
use Rattle.ct_promise.specs.Promises.{IsConfig}
use Rattle.ct_law_generation.proofs.Pending.{Callers}
use Rattle.ct_law_run.proofs.Ages.{Ages}
use Rattle.ct_law_run.proofs.Lives.{Lives, PhaseSays}
use Rattle.ct_law_run.proofs.Faces.{Turned}
use Rattle.ct_law_run.proofs.HandedInstalls.{freezes_turned, freezeack_turned, pushack_turned, pull_turned, HasCome, nothing_turned}
use Rattle.ct_law_run.proofs.Last.{replies_turned}
use Rattle.ct_law_run.proofs.Pushes.{push_turned}
use Rattle.ct_law_run.proofs.Asking.{not_there}
use Rattle.ct_law_run.proofs.Dropped.{is_of_round, dropped}

-- ---- messages of a round

-- at every node, whatever its phase
pub round_turned : (c : Config) (rules : Rules) (w : Cluster) (r : Lines) (h : Lives c rules w r) (n : ℕ) (f : Frame) (m : Msg) → IsConfig c → nat_lt n c.nodes ≡ true → f.msg ≡ m → is_of_round m ≡ true → HasCome w n f →
    (happens c rules n (begins (node_at n w)) (event.Arrive f)).spent ≡ false → Turned c rules h.who w r h.ages n (pending w) (happens c rules n (begins (node_at n w)) (event.Arrive f))
unfolding is_of_round
round_turned c rules w r h n f (msg.Freeze members) config there is e come whole = freezes_turned c rules w r h n f members config there is come
round_turned c rules w r h n f msg.FreezeAck config there is e come whole = freezeack_turned c rules w r h n f there is
round_turned c rules w r h n f msg.Pull config there is e come whole = pull_turned c rules w r h n f there is
round_turned c rules w r h n f (msg.PullReply vbase pbase table ptables addresses) config there is e come whole = replies_turned c rules w r h n f vbase pbase table ptables addresses there is come
round_turned c rules w r h n f (msg.Push members table ptables assigned) config there is e come whole = push_turned c rules w r h n f members table ptables assigned there is come whole
round_turned c rules w r h n f msg.PushAck config there is e come whole = pushack_turned c rules w r h n f there is come.sent
round_turned c rules w r h n f _ config there is e come whole = absurd (cc)

-- ---- a node that is not present

module _ (c : Config) (rules : Rules) (w : Cluster) (r : Lines) (h : Lives c rules w r) (n : ℕ) (config : IsConfig c) (there : nat_lt n c.nodes ≡ true) (absent : is_present (node_at n w).phase ≡ false) where
  abbrev x : Node
  x = node_at n w

  -- where nothing comes of the event
  nothing_comes : (e : Event) → happens c rules n (begins x) e ≡ begins x → Turned c rules h.who w r h.ages n (pending w) (happens c rules n (begins x) e)
  nothing_comes e same = subst (λ (u : Turn). Turned c rules h.who w r h.ages n (pending w) u) (sym same) (nothing_turned c rules w r h n (pending w) there)

  pub arrives_turned : (f : Frame) → HasCome w n f → (happens c rules n (begins x) (event.Arrive f)).spent ≡ false → Turned c rules h.who w r h.ages n (pending w) (happens c rules n (begins x) (event.Arrive f))
  unfolding happens
  arrives_turned f come whole = ⊎_elim
      (λ (e : is_of_round f.msg ≡ true). round_turned c rules w r h n f f.msg config there refl e come whole)
      (λ (e : is_of_round f.msg ≡ false). nothing_comes (event.Arrive f) (dropped c rules n f x absent f.msg e))
      (cases_Bool (is_of_round f.msg))

  pub vacuum_turned : (db : ℕ) → Turned c rules h.who w r h.ages n (pending w) (happens c rules n (begins x) (event.Vacuum db))
  unfolding happens vacuums
  vacuum_turned db = nothing_comes (event.Vacuum db) (untaken (is_serving x.phase) (vacuum_all c n db (db_at db x).records (begins x)) (begins x) (not_there x.phase absent))
    where
      untaken : (b : Bool) (p q : Turn) → b ≡ false → cond b p q ≡ q
      untaken true p q e = absurd (cc)
      untaken false p q e = refl
