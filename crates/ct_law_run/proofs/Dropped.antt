-- Which messages a node drops that is not present: all but those of a round.
use Rattle.std.proofs.Common.{◌≡◌, ℕ, Bool, true, false, cond, ◌&&◌, List, Option, None, Some, refl, ap}
use Rattle.std.specs.Prelude.{nat_eq}
use Rattle.std.specs.List.{list_all}
use Rattle.std.proofs.lemmas.Bool.{and_right, and_left}
use Rattle.ct_values.specs.declared.config.Config.{Config}
use Rattle.ct_frame.specs.declared.frame.Frame.{Frame}
use Rattle.ct_frame.specs.declared.frame.Msg.{Msg}
use Rattle.ct_frame.specs.declared.frame.Msg.TheVariants as msg
use Rattle.ct_call.specs.Rules.{Rules}
use Rattle.ct_rules_node.specs.Admission.{is_current, is_sound, named_in}
use Rattle.ct_rules_node.specs.Node.{Node, Phase, Idle, Serving, Installed, Freezing, Frozen, is_present, is_present_in, is_among}
use Rattle.ct_rules_node.specs.Rounds.{on_thaw}
use Rattle.ct_rules_node.specs.Steps.{arrives, on_record_of, if_persistent, if_sound, if_taken_over}
use Rattle.ct_rules_node.specs.Turn.{Turn, begins}

-- is it a message of a round that a node may follow that is not present?
unfoldable pub is_of_round : Msg → Bool
is_of_round (msg.Freeze members) = true
is_of_round msg.FreezeAck = true
is_of_round msg.Pull = true
is_of_round (msg.PullReply vbase pbase table ptables addresses) = true
is_of_round (msg.Push members table ptables assigned) = true
is_of_round msg.PushAck = true
is_of_round m = false

no_current : (f : Frame) (x : Node) → is_present x.phase ≡ false → is_current f x ≡ false
unfolding is_current is_present_in
no_current f x e = ap (λ (b : Bool). b && nat_eq x.generation f.generation && is_among f.sender x.members && list_all (λ m. is_among m x.members) (named_in f.msg)) e

untaken : (b : Bool) (p q : Turn) → b ≡ false → cond b p q ≡ q
untaken true p q e = absurd (cc)
untaken false p q e = refl

module _ (c : Config) (rules : Rules) (n : ℕ) (f : Frame) (x : Node) (absent : is_present x.phase ≡ false) where
  record_dropped : (k : Option (ℕ × List ℕ)) → on_record_of c rules n f (begins x) k ≡ begins x
  unfolding on_record_of
  record_dropped None = refl
  record_dropped (Some k) = untaken _ _ _ (and_left (is_current f x) _ (no_current f x absent))

  persistent_dropped : (db : ℕ) (u : Turn) → if_persistent c f db u (begins x) ≡ begins x
  unfolding if_persistent
  persistent_dropped db u = untaken _ _ _ (and_left (is_current f x) _ (no_current f x absent))

  run_dropped : (u : Turn) → if_taken_over c f u (begins x) ≡ begins x
  unfolding if_taken_over
  run_dropped u = untaken _ _ _ (and_right (is_sound c f) (is_current f x) (no_current f x absent))

  same_turn : (b : Bool) (u t : Turn) → u ≡ t → cond b u t ≡ t
  same_turn true u t e = e
  same_turn false u t e = refl

  thaw_dropped : (p : Phase) → is_present p ≡ false → on_thaw c rules n f.generation (begins x) p ≡ begins x
  unfolding on_thaw is_present
  thaw_dropped Installed e = absurd (cc)
  thaw_dropped Serving e = refl
  thaw_dropped Idle e = refl
  thaw_dropped (Freezing g l) e = refl
  thaw_dropped (Frozen g) e = refl

  pub dropped : (m : Msg) → is_of_round m ≡ false → arrives c rules n f (begins x) m ≡ begins x
  unfolding arrives if_sound is_of_round
  dropped (msg.PUpdate db seq writes) e = persistent_dropped db _
  dropped (msg.PAck db seq) e = persistent_dropped db _
  dropped msg.Thaw e = same_turn (is_sound c f) _ (begins x) (thaw_dropped x.phase absent)
  dropped (msg.Release number keep) e = run_dropped _
  dropped (msg.ReleaseAck number) e = run_dropped _
  dropped (msg.Take number assigned) e = run_dropped _
  dropped (msg.Freeze members) e = absurd (cc)
  dropped msg.FreezeAck e = absurd (cc)
  dropped msg.Pull e = absurd (cc)
  dropped (msg.PullReply vbase pbase table ptables addresses) e = absurd (cc)
  dropped (msg.Push members table ptables assigned) e = absurd (cc)
  dropped msg.PushAck e = absurd (cc)
  dropped (msg.Call db key request k) e = record_dropped _
  dropped (msg.Recall db key least node request k) e = record_dropped _
  dropped (msg.Give db key rsn value) e = record_dropped _
  dropped (msg.Pass db key request rsn value) e = record_dropped _
  dropped (msg.Refuse db key request rsn) e = record_dropped _
  dropped (msg.Grant db key request rsn value) e = record_dropped _
  dropped (msg.Done db key node request) e = record_dropped _
  dropped (msg.Revoke db key rsn) e = record_dropped _
  dropped (msg.RevokeAck db key rsn) e = record_dropped _
  dropped (msg.VStore db key rsn) e = record_dropped _
  dropped (msg.VStored db key rsn) e = record_dropped _
  dropped (msg.VDelete db key rsn) e = record_dropped _
  dropped (msg.VDeleted db key rsn) e = record_dropped _
