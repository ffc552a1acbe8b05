-- A Retry and a Thaw at a node that is present.
use Rattle.std.proofs.Common.{◌≡◌, ℕ, ◌+◌, true, false, List, [], ◌∷◌, Option, Some, None, ⊎_elim, inl, inr, refl, sym, ap, ◌∙◌, subst}
use Rattle.std.specs.Prelude.{nat_lt}
use Rattle.std.specs.List.{AllByRecursion}
use Rattle.ct_values.specs.declared.config.Config.{Config}
use Rattle.ct_frame.specs.declared.event.Event.TheVariants as event
use Rattle.ct_frame.specs.declared.frame.Frame.{Frame}
use Rattle.ct_frame.specs.declared.frame.Msg.{Msg}
use Rattle.ct_frame.specs.declared.frame.Msg.TheVariants as msg
use Rattle.ct_call.specs.Rules.{Rules}
use Rattle.ct_rules_node.specs.Node.{Node, Database, Committing, Lead, Installed, is_present}
use Rattle.ct_rules_node.specs.Turn.{Turn, begins, does, notes, with_phase}
use Rattle.ct_rules_node.specs.Admission.{is_sound, record_in}
use Rattle.ct_rules_node.specs.Retries.{update_again, update_in, retry_lead}
use Rattle.ct_rules_node.specs.Rounds.{pending_calls, thaws}
use Rattle.ct_rules_node.specs.Steps.{arrives, happens}
use Rattle.ct_rules_cluster.specs.Cluster.{Cluster, node_at, pending}
use Rattle.ct_rules_cluster.specs.Steps.{frames_of}
use Rattle.ct_register.specs.Lines.{Lines}
use Rattle.ct_promise.specs.Promises.{IsConfig}
use Rattle.ct_law_record.specs.World.{World}
use Rattle.ct_law_generation.specs.Shown.{scene, labels_of, AllInstalled}
use Rattle.ct_law_generation.proofs.Lining.{Is_fit}
use Rattle.ct_law_generation.proofs.Staying.{of_era}
use Rattle.ct_law_generation.proofs.Following.{Asks, node_of}
use Rattle.ct_law_generation.proofs.Delivering.{shown_begins}
use Rattle.ct_law_generation.proofs.Rounding.{arrives_thaw}
use Rattle.ct_law_generation.proofs.Retried.{Retries_at}
use Rattle.ct_law_generation.proofs.Resending.{resends_of, resends_go}
use Rattle.ct_law_generation.proofs.Retrying.{retry_is}
use Rattle.ct_law_generation.proofs.Thawed.{Thaws_from, thawing, thaws_go}
use Rattle.ct_law_generation.proofs.Silent.{resends_silent}
use Rattle.ct_law_generation.proofs.Thawing.{thaws_tell}
use Rattle.ct_law_plain.proofs.Events.{want_all_plain, resends_plain}
use Rattle.ct_law_run.proofs.Ages.{Ages, era_of}
use Rattle.ct_law_run.proofs.Lives.{WasSent, RoundSays, ReplySays, MailSays, LeadSays, Lives}
use Rattle.ct_law_run.proofs.Faces.{Turned}
use Rattle.ct_law_run.proofs.Wordless.{nothing_turned}
use Rattle.ct_law_run.proofs.LeadTurning.{was_said}
use Rattle.ct_law_run.proofs.Again.{Says_more, says_none, says_then, says_all, lead_says_again}
use Rattle.ct_law_run.proofs.Records.{present_here, own_of, shown, finds, starts, asks, event_turned}

-- ---- a Retry

update_says : (c : Config) (w : Cluster) (r : Lines) (a : Ages) (n db : ℕ) (t : Turn) (x : Option Committing) → Says_more c w r a n t (update_again n db t x)
unfolding update_again RoundSays ReplySays record_in
update_says c w r a n db t None = says_none c w r a n t
update_says c w r a n db t (Some x) = says_all c w r a n t.node.generation x.pending.missing (msg.PUpdate db x.pending.seq x.writes) t (λ k. record { sender = refl; round = tt; none = refl; reply = tt })

updates_say : (c : Config) (w : Cluster) (r : Lines) (a : Ages) (n i : ℕ) (ds : List Database) (t : Turn) → Says_more c w r a n t (update_in n i ds t)
unfolding update_in
updates_say c w r a n i [] t = says_none c w r a n t
updates_say c w r a n i (d ∷ ds) t = says_then c w r a n t (update_again n i t d.commit) _ (update_says c w r a n i t d.commit) (updates_say c w r a n (i + 1) ds (update_again n i t d.commit))

-- Calls and Revokes of records, then the PUpdates of commits and what the node leads
pub retry_here : (c : Config) (rules : Rules) (w : Cluster) (r : Lines) (h : Lives c rules w r) (n : ℕ) → IsConfig c → nat_lt n c.nodes ≡ true → is_present (node_at n w).phase ≡ true →
    Turned c rules h.who w r h.ages n (pending w) (happens c rules n (begins (node_at n w)) event.Retry)
unfolding happens frames_of labels_of
retry_here c rules w r h n config there present =
    let x = node_at n w in
    let t = begins x in
    let era = era_of r h.ages (r.line n) in
    let here = present_here c rules w r h n there present in
    let worlds = h.ages.worlds (r.line n) in
    let begin = starts c rules w r h n (pending w) there present config in
    let at : Retries_at c n = record { real = node_of n (r.members (r.line n)) begin.era_is.real begin.member; small = begin.small } in
    let u = resends_of c n t in
    let v = update_in n 0 x.dbs u in
    let same = resends_plain c n (pending_calls x) x.dbs t in
    let updates = updates_say c w r h.ages n 0 x.dbs u in
    let leads : LeadSays c w r h.ages n v.node.lead = subst (λ (l : Lead). LeadSays c w r h.ages n l) (sym (ap (λ (y : Node). y.lead) updates.node ∙ same.lead)) (h.nodes n there).lead in
    let says : Says_more c w r h.ages n u (retry_lead n v v.node.lead) = says_then c w r h.ages n u v _ updates (lead_says_again c w r h.ages n v.node.lead v leads) in
    event_turned c rules w r h n (pending w) there present event.Retry u (record {
      goes = resends_go c era rules h.who w.calls n (pending w) worlds t begin.member at here.stays;
      fits = subst (AllByRecursion (Is_fit c (r.line n) r)) (sym (resends_silent c era rules h.who w.calls n (pending w) t at here.stays refl)) tt;
      pbase = same.pbase;
      phase = λ e. inl (sym same.phase ∙ e);
      lead = same.lead;
      own = own_of (r.line n) n t u same refl (of_era c era rules h.who w.calls n x here.stays);
    }) (subst (λ (y : Turn). Says_more c w r h.ages n u y) (sym (retry_is c n t present)) says)

-- ---- a Thaw

thaw_said : (c : Config) (r : Lines) (a : Ages) (f : Frame) (g : ℕ) → f.msg ≡ msg.Thaw → f.generation ≡ g → MailSays c r a f → AllInstalled g r
unfolding RoundSays
thaw_said c r a f g is now h = subst (λ (k : ℕ). AllInstalled k r) now (let q : RoundSays c r a f.generation f.sender msg.Thaw = subst (λ (m : Msg). RoundSays c r a f.generation f.sender m) is h.round in q.1)

pub thaw_turned : (c : Config) (rules : Rules) (w : Cluster) (r : Lines) (h : Lives c rules w r) (n : ℕ) (f : Frame) → IsConfig c → nat_lt n c.nodes ≡ true → is_present (node_at n w).phase ≡ true → WasSent w f → f.msg ≡ msg.Thaw →
    (happens c rules n (begins (node_at n w)) (event.Arrive f)).spent ≡ false → Turned c rules h.who w r h.ages n (pending w) (happens c rules n (begins (node_at n w)) (event.Arrive f))
unfolding happens frames_of labels_of notes does with_phase thaws
thaw_turned c rules w r h n f config there present sent is spent =
    let x = node_at n w in
    let t = begins x in
    let g = r.line n in
    let era = era_of r h.ages g in
    let here = present_here c rules w r h n there present in
    let worlds = h.ages.worlds g in
    let begin = starts c rules w r h n (pending w) there present config in
    let show = shown c rules w r h n (pending w) there present in
    let find = finds c rules w r h n (pending w) there present in
    let thawed : arrives c rules n f t f.msg ≡ arrives c rules n f t msg.Thaw = ap (λ (m : Msg). arrives c rules n f t m) is in ⊎_elim
    (λ (none : arrives c rules n f t msg.Thaw ≡ t). subst (λ (u : Turn). Turned c rules h.who w r h.ages n (pending w) u) (sym (thawed ∙ none)) (nothing_turned c rules w r h n (pending w) there))
    (λ (k : (t.node.phase ≡ Installed) × (f.generation ≡ g) × (is_sound c f ≡ true) × (arrives c rules n f t msg.Thaw ≡ thaws c rules n g t)).
    let turn : arrives c rules n f t f.msg ≡ thaws c rules n g t = thawed ∙ k.3 in
    let from : Thaws_from c era rules n worlds t = record {
      real = begin.era_is;
      member = begin.member;
      small = begin.small;
      reached = λ db key. subst (λ (v : World). Asks (scene c era rules db key) v) (shown_begins g db key n w worlds show) (asks c rules w r h n (pending w) there present db key);
    } in
    let whole = sym (ap (λ (u : Turn). u.spent) turn) ∙ spent in
    let installed = thaw_said c r h.ages f g is k.1 (was_said (MailSays c r h.ages) w.sent f h.mail sent) in
    let same = want_all_plain c rules n (pending_calls x) (thawing g t) in
    event_turned c rules w r h n (pending w) there present (event.Arrive f) (thaws c rules n g t) (record {
      goes = thaws_go c era rules h.who w.calls n g (pending w) worlds t from here.stays find whole;
      fits = thaws_tell c era rules r h.who w.calls n (pending w) worlds t begin installed from here.stays find tt whole;
      pbase = same.pbase;
      phase = λ e. inr installed;
      lead = same.lead;
      own = own_of g n (thawing g t) (thaws c rules n g t) same refl (of_era c era rules h.who w.calls n x here.stays);
    }) (subst (λ (y : Turn). Says_more c w r h.ages n (thaws c rules n g t) y) (sym turn) (says_none c w r h.ages n (thaws c rules n g t))))
    (arrives_thaw c rules n g f t here.stays.present)
