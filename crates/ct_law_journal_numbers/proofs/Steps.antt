-- What comes of every event at a node, under other numbers of calls.
use Rattle.std.proofs.Common.{◌≡◌, ℕ, ◌^◌, Bool, true, false, cond, ◌&&◌, List, [], ◌∷◌, Option, Some, None, refl, ap, ◌∙◌}
use Rattle.std.specs.Prelude.{nat_le}
use Rattle.ct_values.specs.Words.{others}
use Rattle.ct_values.specs.declared.config.Config.{Config}
use Rattle.ct_frame.specs.declared.event.Event.{Event}
use Rattle.ct_frame.specs.declared.event.Event.TheVariants as event
use Rattle.ct_frame.specs.declared.frame.Frame.{Frame}
use Rattle.ct_frame.specs.declared.frame.Msg.{Msg}
use Rattle.ct_frame.specs.declared.frame.Msg.TheVariants as msg
use Rattle.ct_call.specs.Rules.{Rules}
use Rattle.ct_store.specs.Map.{Pairs}
use Rattle.ct_rules.specs.Moves.{arrive, vacuum}
use Rattle.ct_rules.specs.declared.state.RecState.{RecState}
use Rattle.ct_rules_node.specs.Admission.{record_in, is_current, is_sound}
use Rattle.ct_rules_node.specs.Node.{Node, Database, is_present_in, is_serving, has_records, is_persistent, kind_at, db_at}
use Rattle.ct_rules_node.specs.Turn.{Turn, begins}
use Rattle.ct_rules_node.specs.Records.{at_record}
use Rattle.ct_rules_node.specs.Steps.{on_record_of, if_persistent, if_sound, if_taken_over, arrives, vacuum_all, vacuums, happens, unless_spent, stepped}
use Rattle.ct_journal.specs.Schedules.{event_under}
use Rattle.ct_law_journal_numbers.specs.Renumbered.{records_under, database_under, node_under, turn_under, step_under}
use Rattle.ct_law_journal_numbers.proofs.Calls.{IsInOrder, on_thaw_under, retry_under}
use Rattle.ct_law_journal_numbers.proofs.Clients.{client_under}
use Rattle.ct_law_journal_numbers.proofs.Messages.{arrive_under, vacuum_under}
use Rattle.ct_law_journal_numbers.proofs.Nodes.{db_at_under, at_record_under}
use Rattle.ct_law_journal_numbers.proofs.Rounds.{begin_round_under, on_freeze_under, on_freezeack_under, on_pull_under, on_pullreply_under, on_push_under, on_pushack_under}
use Rattle.ct_law_journal_numbers.proofs.Takeovers.{begin_takeover_under, on_release_under, on_releaseack_under, on_take_under}
use Rattle.ct_law_journal_numbers.proofs.Turns.{either_turn, turn_unchanged, on_pupdate_under, on_pack_under}

module _ (number : ℕ → ℕ) where
  -- ---- Vacuum

  vacuum_all_under : (c : Config) (me db : ℕ) (m : Pairs RecState) (t : Turn) → vacuum_all c me db (records_under number m) (turn_under number t) ≡ turn_under number (vacuum_all c me db m t)
  unfolding vacuum_all records_under turn_under node_under
  vacuum_all_under c me db [] t = refl
  vacuum_all_under c me db (e ∷ m) t =
      ap (vacuum_all c me db (records_under number m)) (at_record_under number c me db e.0 (λ at o. vacuum at (others me t.node.members) o) (λ at o. vacuum at (others me t.node.members) o) t (λ at o. vacuum_under number at (others me t.node.members) o))
      ∙ vacuum_all_under c me db m (at_record c me db e.0 (λ at o. vacuum at (others me t.node.members) o) t)

  vacuums_under : (c : Config) (me db : ℕ) (t : Turn) → vacuums c me db (turn_under number t) ≡ turn_under number (vacuums c me db t)
  unfolding vacuums turn_under node_under database_under
  vacuums_under c me db t = either_turn number (is_serving t.node.phase) _ _ refl
      (ap (λ (d : Database). vacuum_all c me db d.records (turn_under number t)) (db_at_under number db t.node) ∙ vacuum_all_under c me db (db_at db t.node).records t)
      (turn_unchanged number t)

  -- ---- messages

  current_under : (f : Frame) (t : Turn) → is_current f (turn_under number t).node ≡ is_current f t.node
  unfolding is_current is_present_in turn_under node_under
  current_under f t = refl

  on_record_of_under : (c : Config) (rules : Rules) (me : ℕ) (f : Frame) (t : Turn) (r : Option (ℕ × List ℕ)) → on_record_of c rules me f (turn_under number t) r ≡ turn_under number (on_record_of c rules me f t r)
  unfolding on_record_of
  on_record_of_under c rules me f t None = refl
  on_record_of_under c rules me f t (Some r) = either_turn number (is_current f t.node && has_records (kind_at c r.0)) _ _
      (ap (λ (b : Bool). b && has_records (kind_at c r.0)) (current_under f t))
      (at_record_under number c me r.0 r.1 (λ at o. arrive at rules f.sender f.msg o) (λ at o. arrive at rules f.sender f.msg o) t (λ at o. arrive_under number at rules f.sender f.msg o))
      (turn_unchanged number t)

  if_persistent_under : (c : Config) (f : Frame) (db : ℕ) {done' : Turn} (done t : Turn) → done' ≡ turn_under number done → if_persistent c f db done' (turn_under number t) ≡ turn_under number (if_persistent c f db done t)
  unfolding if_persistent
  if_persistent_under c f db done t e = either_turn number (is_current f t.node && is_persistent (kind_at c db)) done t (ap (λ (b : Bool). b && is_persistent (kind_at c db)) (current_under f t)) e refl

  if_sound_under : (c : Config) (f : Frame) {done' : Turn} (done t : Turn) → done' ≡ turn_under number done → if_sound c f done' (turn_under number t) ≡ turn_under number (if_sound c f done t)
  unfolding if_sound
  if_sound_under c f done t e = either_turn number (is_sound c f) done t refl e refl

  if_taken_over_under : (c : Config) (f : Frame) {done' : Turn} (done t : Turn) → done' ≡ turn_under number done → if_taken_over c f done' (turn_under number t) ≡ turn_under number (if_taken_over c f done t)
  unfolding if_taken_over
  if_taken_over_under c f done t e = either_turn number (is_sound c f && is_current f t.node) done t (ap (λ (b : Bool). is_sound c f && b) (current_under f t)) e refl

  arrives_under : (c : Config) (rules : Rules) (me : ℕ) (f : Frame) (t : Turn) (m : Msg) → IsInOrder number t.node → arrives c rules me f (turn_under number t) m ≡ turn_under number (arrives c rules me f t m)
  unfolding arrives turn_under node_under
  arrives_under c rules me f t (msg.PUpdate db seq writes) order = if_persistent_under c f db _ t (on_pupdate_under number me f.sender db seq writes t)
  arrives_under c rules me f t (msg.PAck db seq) order = if_persistent_under c f db _ t (on_pack_under number f.sender db seq t)
  arrives_under c rules me f t (msg.Freeze members) order = if_sound_under c f _ t (on_freeze_under number c me f.sender f.generation t)
  arrives_under c rules me f t msg.FreezeAck order = if_sound_under c f _ t (on_freezeack_under number me f.sender f.generation t t.node.lead)
  arrives_under c rules me f t msg.Pull order = if_sound_under c f _ t (on_pull_under number c me f.sender f.generation t)
  arrives_under c rules me f t (msg.PullReply vbase pbase table ptables addresses) order = if_sound_under c f _ t (on_pullreply_under number me f.generation (record { node = f.sender; vbase = vbase; pbase = pbase; table = table; ptables = ptables; addresses = addresses }) t t.node.lead)
  arrives_under c rules me f t (msg.Push members table ptables assigned) order = if_sound_under c f _ t (on_push_under number c me f.sender f.generation members table ptables assigned t)
  arrives_under c rules me f t msg.PushAck order = if_sound_under c f _ t (on_pushack_under number c me f.sender f.generation t t.node.lead)
  arrives_under c rules me f t msg.Thaw order = if_sound_under c f _ t (on_thaw_under number c rules me f.generation t t.node.phase order)
  arrives_under c rules me f t (msg.Release run keep) order = if_taken_over_under c f _ t (on_release_under number me f.sender run keep t)
  arrives_under c rules me f t (msg.ReleaseAck run) order = if_taken_over_under c f _ t (on_releaseack_under number me f.sender f.generation run t t.node.lead)
  arrives_under c rules me f t (msg.Take run assigned) order = if_taken_over_under c f _ t (on_take_under number c me run assigned t)
  arrives_under c rules me f t m order = on_record_of_under c rules me f t (record_in m)

  -- ---- every event

  -- the call of an event reaches 2^62 where its new number does
  unfoldable pub Reaches : Event → Type 0
  Reaches (event.Client call o) = nat_le (2 ^ 62) (number call) ≡ nat_le (2 ^ 62) call
  Reaches e = Unit {0}

  pub happens_under : (c : Config) (rules : Rules) (me : ℕ) (t : Turn) (e : Event) → IsInOrder number t.node → Reaches e → happens c rules me (turn_under number t) (event_under number e) ≡ turn_under number (happens c rules me t e)
  unfolding happens event_under Reaches turn_under node_under
  happens_under c rules me t (event.Client call o) order reaches = client_under number c rules me call o t reaches
  happens_under c rules me t (event.Arrive f) order reaches = arrives_under c rules me f t f.msg order
  happens_under c rules me t event.Retry order reaches = retry_under number c me t order
  happens_under c rules me t (event.Vacuum db) order reaches = vacuums_under c me db t
  happens_under c rules me t (event.BeginRound ticket members) order reaches = begin_round_under number me ticket members t
  happens_under c rules me t (event.BeginTakeover able) order reaches = begin_takeover_under number me able t t.node.lead

  begins_under : (n : Node) → begins (node_under number n) ≡ turn_under number (begins n)
  unfolding turn_under
  begins_under n = refl

  spent_under : (t : Turn) → unless_spent (turn_under number t) ≡ step_under number (unless_spent t)
  unfolding step_under turn_under
  spent_under t = by t.spent
    where
      by : (b : Bool) → cond b None (Some (turn_under number t)) ≡ step_under number (cond b None (Some t))
      by true = refl
      by false = refl

  -- a whole step
  pub stepped_under : (c : Config) (rules : Rules) (me : ℕ) (e : Event) (n : Node) → IsInOrder number n → Reaches e → stepped c rules me (event_under number e) (node_under number n) ≡ step_under number (stepped c rules me e n)
  stepped_under c rules me e n order reaches =
      ap (λ (t : Turn). unless_spent (happens c rules me t (event_under number e))) (begins_under n)
      ∙ ap unless_spent (happens_under c rules me (begins n) e order reaches)
      ∙ spent_under (happens c rules me (begins n) e)
