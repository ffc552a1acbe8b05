-- Every event leaves a node in form.
use Rattle.std.proofs.Common.{◌≡◌, ℕ, Bool, true, false, cond, ◌&&◌, List, Option, Some, None, refl, sym, ◌∙◌, ap, subst}
use Rattle.std.proofs.lemmas.Bool.{and_parts, cond_both}
use Rattle.std.specs.Prelude.{nat_eq, nat_lt}
use Rattle.std.specs.List.{list_all}
use Rattle.ct_values.specs.declared.config.Config.{Config}
use Rattle.ct_frame.specs.Fields.{are_assigned, ascends, assigned_before, is_assigned, is_from_one, is_message, well_formed}
use Rattle.ct_frame.specs.declared.event.Event.TheVariants as event
use Rattle.ct_frame.specs.declared.frame.Frame.{Frame}
use Rattle.ct_frame.specs.declared.frame.Msg.{Msg}
use Rattle.ct_frame.specs.declared.frame.Msg.TheVariants as msg
use Rattle.ct_call.specs.Rules.{Rules}
use Rattle.ct_rules_node.specs.Admission.{is_current, is_sound, record_in}
use Rattle.ct_rules_node.specs.Coming.{is_after_pending, is_allowed_op, may_come}
use Rattle.ct_rules_node.specs.Node.{Node, is_among, is_present, is_present_in}
use Rattle.ct_rules_node.specs.Retries.{retry, retry_lead, retry_records}
use Rattle.ct_rules_node.specs.Steps.{arrives, happens, if_sound, if_taken_over, on_record_of, unless_spent}
use Rattle.ct_rules_node.specs.Turn.{Turn, begins}
use Rattle.ct_law_form.specs.Whole.{NodeInForm, TurnInForm, is_node_of, is_sound_out}
use Rattle.ct_law_form.proofs.WholeRecords.{clients_keep_form, commit_messages_keep_form, record_messages_keep_form, retries_keep_form, thaws_keep_form, vacuums_keep_form, message_of}
use Rattle.ct_law_form_steps.proofs.WholeRounds.{begins_keep_form, from_nodes, rounds_keep_form}
use Rattle.ct_law_form_steps.proofs.Takeovers.{begin_takeover_in_form, release_in_form, releaseack_in_form, retry_lead_in_form, retry_lead_spent, take_in_form}
use Rattle.ct_law_form_steps.specs.StepLaws.{HappensInForm, StepsKeepForm}

-- ---- messages of takeover runs

present_of : (f : Frame) (n : Node) → is_current f n ≡ true → is_present n.phase ≡ true
unfolding is_current is_present_in
present_of f n e = (and_parts (is_present n.phase) (nat_eq n.generation f.generation) (and_parts _ (is_among f.sender n.members) (and_parts _ _ e).0).0).0

if_taken : (c : Config) (me : ℕ) (f : Frame) (u t : Turn) → (is_sound c f ≡ true → is_current f t.node ≡ true → TurnInForm c me u) → TurnInForm c me t → TurnInForm c me (if_taken_over c f u t)
unfolding if_taken_over
if_taken c me f u t k h = cond_both (is_sound c f && is_current f t.node) u t (TurnInForm c me) (λ e. (let p = and_parts (is_sound c f) (is_current f t.node) e in k p.0 p.1)) (λ _. h)

if_thawed : (c : Config) (me : ℕ) (f : Frame) (u t : Turn) → (u.spent ≡ false → TurnInForm c me u) → TurnInForm c me t → (if_sound c f u t).spent ≡ false → TurnInForm c me (if_sound c f u t)
unfolding if_sound
if_thawed c me f u t k h unspent = cond_both (is_sound c f) u t (λ (x : Turn). x.spent ≡ false → TurnInForm c me x) (λ _. k) (λ _ e. h) unspent

none_in_form : (c : Config) (rules : Rules) (me : ℕ) (f : Frame) (t : Turn) → TurnInForm c me t → TurnInForm c me (on_record_of c rules me f t None)
unfolding on_record_of
none_in_form c rules me f t h = h

of_record_in_form : (c : Config) (rules : Rules) (me : ℕ) (f : Frame) (t : Turn) (r : Option (ℕ × List ℕ)) → record_in f.msg ≡ r → well_formed f ≡ true → TurnInForm c me t → (on_record_of c rules me f t r).spent ≡ false → TurnInForm c me (on_record_of c rules me f t r)
of_record_in_form c rules me f t (Some r) is sound h unspent = record_messages_keep_form c rules me f t r is sound h unspent
of_record_in_form c rules me f t None is sound h unspent = none_in_form c rules me f t h

arrives_in_form : (c : Config) (rules : Rules) (me : ℕ) (f : Frame) (t : Turn) (m : Msg) → f.msg ≡ m → well_formed f ≡ true → TurnInForm c me t → (arrives c rules me f t m).spent ≡ false → TurnInForm c me (arrives c rules me f t m)
unfolding arrives
arrives_in_form c rules me f t (msg.PUpdate db seq writes) is sound h unspent = commit_messages_keep_form.updated c me f db seq writes t is sound h
arrives_in_form c rules me f t (msg.PAck db seq) is sound h unspent = commit_messages_keep_form.acknowledged c me f db seq t h
arrives_in_form c rules me f t (msg.Freeze members) is sound h unspent = rounds_keep_form.freeze c me f t sound h
arrives_in_form c rules me f t msg.FreezeAck is sound h unspent = rounds_keep_form.freezeack c me f t h
arrives_in_form c rules me f t msg.Pull is sound h unspent = rounds_keep_form.pull c me f t sound h
arrives_in_form c rules me f t (msg.PullReply vbase pbase table ptables addresses) is sound h unspent = rounds_keep_form.pullreply c me f vbase pbase table ptables addresses t is sound h
arrives_in_form c rules me f t (msg.Push members table ptables assigned) is sound h unspent = rounds_keep_form.push c me f members table ptables assigned t is sound h unspent
arrives_in_form c rules me f t msg.PushAck is sound h unspent = rounds_keep_form.pushack c me f t h
arrives_in_form c rules me f t msg.Thaw is sound h unspent = if_thawed c me f _ t (thaws_keep_form c rules me f.generation t t.node.phase refl h) h unspent
arrives_in_form c rules me f t (msg.Release number keep) is sound h unspent = if_taken c me f _ t
    (λ e n. release_in_form c me f.sender number keep t (present_of f t.node n) (from_nodes c f e).sender (and_parts (is_from_one number) _ (subst (λ (m : Msg). is_message f.sender m ≡ true) is (message_of f sound))).0 h) h
arrives_in_form c rules me f t (msg.ReleaseAck number) is sound h unspent = if_taken c me f _ t (λ e n. releaseack_in_form c me f.sender f.generation number t t.node.lead h.node.lead h) h
arrives_in_form c rules me f t (msg.Take number assigned) is sound h unspent = if_taken c me f _ t
    (λ e n. take_in_form c me number assigned t (and_parts (list_all is_assigned assigned) (ascends assigned_before assigned) (and_parts (is_from_one number) (are_assigned assigned) (subst (λ (m : Msg). is_message f.sender m ≡ true) is (message_of f sound))).1).1 h) h
arrives_in_form c rules me f t (msg.Call db key request k) is sound h unspent = of_record_in_form c rules me f t _ (ap record_in is) sound h unspent
arrives_in_form c rules me f t (msg.Recall db key least node request k) is sound h unspent = of_record_in_form c rules me f t _ (ap record_in is) sound h unspent
arrives_in_form c rules me f t (msg.Give db key rsn value) is sound h unspent = of_record_in_form c rules me f t _ (ap record_in is) sound h unspent
arrives_in_form c rules me f t (msg.Pass db key request rsn value) is sound h unspent = of_record_in_form c rules me f t _ (ap record_in is) sound h unspent
arrives_in_form c rules me f t (msg.Refuse db key request rsn) is sound h unspent = of_record_in_form c rules me f t _ (ap record_in is) sound h unspent
arrives_in_form c rules me f t (msg.Grant db key request rsn value) is sound h unspent = of_record_in_form c rules me f t _ (ap record_in is) sound h unspent
arrives_in_form c rules me f t (msg.Done db key node request) is sound h unspent = of_record_in_form c rules me f t _ (ap record_in is) sound h unspent
arrives_in_form c rules me f t (msg.Revoke db key rsn) is sound h unspent = of_record_in_form c rules me f t _ (ap record_in is) sound h unspent
arrives_in_form c rules me f t (msg.RevokeAck db key rsn) is sound h unspent = of_record_in_form c rules me f t _ (ap record_in is) sound h unspent
arrives_in_form c rules me f t (msg.VStore db key rsn) is sound h unspent = of_record_in_form c rules me f t _ (ap record_in is) sound h unspent
arrives_in_form c rules me f t (msg.VStored db key rsn) is sound h unspent = of_record_in_form c rules me f t _ (ap record_in is) sound h unspent
arrives_in_form c rules me f t (msg.VDelete db key rsn) is sound h unspent = of_record_in_form c rules me f t _ (ap record_in is) sound h unspent
arrives_in_form c rules me f t (msg.VDeleted db key rsn) is sound h unspent = of_record_in_form c rules me f t _ (ap record_in is) sound h unspent

-- ---- every event

lead_spent : (me : ℕ) (t : Turn) (unspent : (retry_lead me t t.node.lead).spent ≡ false) → t.spent ≡ false
lead_spent me t unspent = sym (retry_lead_spent me t t.node.lead) ∙ unspent

retry_in_form : (c : Config) (me : ℕ) (t : Turn) → TurnInForm c me t → (retry c me t).spent ≡ false → TurnInForm c me (retry c me t)
unfolding retry
retry_in_form c me t h unspent =
    let k = retries_keep_form c me t h (lead_spent me (retry_records c me t) unspent) in
    retry_lead_in_form c me (retry_records c me t) _ k.node.lead k

pub happens_in_form : HappensInForm
unfolding happens may_come is_node_of
happens_in_form c rules me t (event.Client call o) may h unspent = clients_keep_form c rules me call o t (and_parts (is_allowed_op o) (is_after_pending call t.node) may).0 h unspent
happens_in_form c rules me t (event.Arrive f) may h unspent = arrives_in_form c rules me f t f.msg refl (and_parts (well_formed f) (nat_eq f.receiver me) may).0 h unspent
happens_in_form c rules me t event.Retry may h unspent = retry_in_form c me t h unspent
happens_in_form c rules me t (event.Vacuum db) may h unspent = vacuums_keep_form c rules me db t h unspent
happens_in_form c rules me t (event.BeginRound ticket members) may h unspent =
    let p = and_parts (ascends nat_lt members && list_all (λ m. nat_lt m c.nodes) members) (is_among me members) may in
    let q = and_parts (ascends nat_lt members) (list_all (λ m. nat_lt m c.nodes) members) p.0 in
    begins_keep_form c me ticket members t q.0 q.1 p.1 h unspent
happens_in_form c rules me t (event.BeginTakeover able) may h unspent = begin_takeover_in_form c me able t t.node.lead h.node.lead h unspent

-- ---- a whole step

unspent_is : (u t : Turn) → unless_spent u ≡ Some t → (u.spent ≡ false) × (u ≡ t)
unspent_is u t e = by u.spent refl e
  where
    by : (b : Bool) → u.spent ≡ b → cond b None (Some u) ≡ Some t → (u.spent ≡ false) × (u ≡ t)
    by true s e = absurd (cc)
    by false s e = (s, cc)

pub steps_keep_form : StepsKeepForm
steps_keep_form c rules me e n t h may is =
    let u = unspent_is (happens c rules me (begins n) e) t is in
    let k = happens_in_form c rules me (begins n) e may (record { node = h; outs = refl }) u.0 in
    subst (λ (x : Turn). NodeInForm c me x.node × (list_all (is_sound_out c me) x.outs ≡ true)) u.1 (k.node, k.outs)
