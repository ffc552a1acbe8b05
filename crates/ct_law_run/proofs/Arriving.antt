-- A Freeze at any node, and what a leader makes of a FreezeAck and of a PushAck.
use Rattle.std.proofs.Common.{◌≡◌, ◌≢◌, ℕ, Bool, true, false, cond, ◌&&◌, ◌||◌, List, [], ◌∷◌, ◌++◌, append-nil, append_assoc, inl, inr, ⊎_elim, refl, sym, ap, ◌∙◌, subst}
use Rattle.std.specs.List.{AllByRecursion}
use Rattle.std.proofs.lemmas.Bool.{cases_eq, and_parts, or_right, cases_Bool}
use Rattle.ct_values.specs.Words.{others}
use Rattle.ct_values.specs.declared.config.Config.{Config}
use Rattle.ct_frame.specs.declared.event.Event.TheVariants as event
use Rattle.ct_frame.specs.declared.event.Out.TheVariants as out
use Rattle.ct_frame.specs.declared.frame.Frame.{Frame}
use Rattle.ct_frame.specs.declared.frame.Msg.{Msg}
use Rattle.ct_frame.specs.declared.frame.Msg.TheVariants as msg
use Rattle.ct_call.specs.Rules.{Rules}
use Rattle.ct_rules_node.specs.Node.{Node, Lead, is_among}
use Rattle.ct_rules_node.specs.Turn.{Turn, begins}
use Rattle.ct_rules_node.specs.Admission.{is_sound, record_in}
use Rattle.ct_rules_node.specs.Steps.{happens}
use Rattle.ct_rules_cluster.specs.Cluster.{Cluster, node_at, pending}
use Rattle.ct_register.specs.Lines.{Lines}
use Rattle.ct_promise.specs.Promises.{IsConfig}
use Rattle.ct_law_run.proofs.Ages.{Ages}
use Rattle.ct_law_run.proofs.Lives.{Lives, MailSays, RoundSays, ReplySays, LeadSays, IsTicket, WasSent}
use Rattle.ct_law_run.proofs.Faces.{Turned}
use Rattle.ct_law_run.proofs.Freezing.{HasCome}
use Rattle.ct_rules_node.specs.Node.{Nothing}
use Rattle.ct_law_run.proofs.LeadTurning.{was_said}
use Rattle.std.specs.Prelude.{nat_eq, nat_lt}
use Rattle.std.proofs.lemmas.Bool.{eqb-true}
use Rattle.ct_merge.specs.Gathered.{nothing}
use Rattle.ct_rules_node.specs.Node.{Freezes, Pulls, Installs, Completed, is_frozen_in}
use Rattle.ct_rules_node.specs.Rounds.{on_freeze, on_freezeack, all_frozen}
use Rattle.ct_rules_node.specs.Steps.{if_sound, arrives}
use Rattle.ct_rules_node.specs.Turn.{does, posts, posts_all, with_lead}
use Rattle.ct_law_run.proofs.Lives.{IsGatheredOf, Waits}
use Rattle.ct_law_run.proofs.Leading.{Led, lead_turned}
use Rattle.std.specs.List.{list_any}
use Rattle.std.specs.Prelude.{not}
use Rattle.ct_rules_node.specs.Rounds.{on_pushack, all_installed, completed}
use Rattle.ct_law_run.proofs.LeadTurning.{freeze_turned}
use Rattle.ct_law_run.proofs.Rounding.{Says_round, sends, sends_led, leads_still, idle_led, one_led}

-- ---- a Freeze

again_is : (c : Config) (n : ℕ) (x : Node) (f : Frame) → nat_lt x.promise f.generation ≡ false → on_freeze c n f.sender f.generation (begins x) ≡ cond (is_frozen_in f.generation x.phase) (posts f.generation n f.sender msg.FreezeAck (begins x)) (begins x)
unfolding on_freeze
again_is c n x f e = pick (nat_lt x.promise f.generation) _ _ e
  where
    pick : (b : Bool) (p q : Turn) → b ≡ false → cond b p q ≡ q
    pick true p q e = absurd (cc)
    pick false p q e = refl

ack_says : (c : Config) (w : Cluster) (r : Lines) (a : Ages) (n g k : ℕ) → Says_round c w r a n (record { generation = g; sender = n; receiver = k; msg = msg.FreezeAck })
unfolding RoundSays ReplySays record_in
ack_says c w r a n g k = record { sender = refl; round = tt; none = refl; reply = tt }

-- one that is not above the promise, or not sound, is acknowledged again or dropped
pub freeze_again_turned : (c : Config) (rules : Rules) (w : Cluster) (r : Lines) (h : Lives c rules w r) (n : ℕ) (f : Frame) (members : List ℕ) → nat_lt n c.nodes ≡ true → f.msg ≡ msg.Freeze members → (is_sound c f && nat_lt (node_at n w).promise f.generation) ≡ false →
    Turned c rules h.who w r h.ages n (pending w) (happens c rules n (begins (node_at n w)) (event.Arrive f))
unfolding happens arrives if_sound
freeze_again_turned c rules w r h n f members there is old = lead_turned c rules w r h n (happens c rules n (begins (node_at n w)) (event.Arrive f)) there
    (subst (λ (u : Turn). Led c w r h.ages n u) (sym (ap (λ (m : Msg). arrives c rules n f (begins (node_at n w)) m) is))
    (either (is_sound c f) (nat_lt (node_at n w).promise f.generation) refl old))
  where
    frozen : (d : Bool) → Led c w r h.ages n (cond d (posts f.generation n f.sender msg.FreezeAck (begins (node_at n w))) (begins (node_at n w)))
    frozen true = one_led c w r h.ages n f.generation f.sender msg.FreezeAck (h.nodes n there).lead (ack_says c w r h.ages n f.generation f.sender)
    frozen false = idle_led c w r h.ages n (h.nodes n there).lead

    either : (b d : Bool) → nat_lt (node_at n w).promise f.generation ≡ d → (b && d) ≡ false → Led c w r h.ages n (cond b (on_freeze c n f.sender f.generation (begins (node_at n w))) (begins (node_at n w)))
    either true true e k = absurd (cc)
    either true false e k = subst (λ (u : Turn). Led c w r h.ages n u) (sym (again_is c n (node_at n w) f e)) (frozen (is_frozen_in f.generation (node_at n w).phase))
    either false d e k = idle_led c w r h.ages n (h.nodes n there).lead

-- every Freeze that was sent to the node, at every node
pub freezes_turned : (c : Config) (rules : Rules) (w : Cluster) (r : Lines) (h : Lives c rules w r) (n : ℕ) (f : Frame) (members : List ℕ) → IsConfig c → nat_lt n c.nodes ≡ true → f.msg ≡ msg.Freeze members → HasCome w n f →
    Turned c rules h.who w r h.ages n (pending w) (happens c rules n (begins (node_at n w)) (event.Arrive f))
freezes_turned c rules w r h n f members config there is come = ⊎_elim
    (λ (e : (is_sound c f && nat_lt (node_at n w).promise f.generation) ≡ true). (let p = and_parts _ _ e in freeze_turned c rules w r h n f members config is come p.0 p.1 (h.nodes n there).persist))
    (λ (e : (is_sound c f && nat_lt (node_at n w).promise f.generation) ≡ false). freeze_again_turned c rules w r h n f members there is e)
    (cases_Bool (is_sound c f && nat_lt (node_at n w).promise f.generation))

-- ---- who is missing still

among_others : (m n : ℕ) (ns : List ℕ) → is_among m (others n ns) ≡ true → is_among m ns ≡ true
unfolding is_among
among_others m n [] e = e
among_others m n (k ∷ ns) e = either (nat_eq k n) e (λ i. among_others m n ns i)
  where
    either : (b : Bool) → list_any (nat_eq m) (cond (not b) (k ∷ others n ns) (others n ns)) ≡ true → (list_any (nat_eq m) (others n ns) ≡ true → list_any (nat_eq m) ns ≡ true) → (nat_eq m k || list_any (nat_eq m) ns) ≡ true
    either true i rest = or_right (nat_eq m k) _ (rest i)
    either false i rest = both (nat_eq m k) _ _ i rest
      where
        both : (p q s : Bool) → (p || q) ≡ true → (q ≡ true → s ≡ true) → (p || s) ≡ true
        both true q s e f = refl
        both false q s e f = f e

still_among : (m n : ℕ) (ns : List ℕ) → m ≢ n → is_among m ns ≡ true → is_among m (others n ns) ≡ true
unfolding is_among
still_among m n [] ne e = e
still_among m n (k ∷ ns) ne e = either (nat_eq k n) (nat_eq m k) refl refl e (λ i. still_among m n ns ne i)
  where
    either : (b d : Bool) → nat_eq k n ≡ b → nat_eq m k ≡ d → (d || list_any (nat_eq m) ns) ≡ true → (list_any (nat_eq m) ns ≡ true → list_any (nat_eq m) (others n ns) ≡ true) → list_any (nat_eq m) (cond (not b) (k ∷ others n ns) (others n ns)) ≡ true
    either true true p q i rest = absurd (ne (eqb-true m k q ∙ eqb-true k n p))
    either true false p q i rest = rest i
    either false true p q i rest = ap (λ (t : Bool). t || list_any (nat_eq m) (others n ns)) q
    either false false p q i rest = ap (λ (t : Bool). t || list_any (nat_eq m) (others n ns)) q ∙ rest i

-- one that is done is struck off
pub waits_less : (members missing : List ℕ) (Done : ℕ → Type 0) (n : ℕ) → Waits members missing Done → Done n → Waits members (others n missing) Done
waits_less members missing Done n h is = record {
  within = λ m e. h.within m (among_others m n missing e);
  met = λ m e. ⊎_elim
      (λ (k : m ≡ n). inr (subst Done (sym k) is))
      (λ (ne : m ≢ n). ⊎_elim (λ k. inl (still_among m n missing ne k)) (λ k. inr k) (h.met m e))
      (cases_eq m n);
}

-- nobody is missing
pub waits_none : (members : List ℕ) (Done : ℕ → Type 0) → Waits members [] Done → (m : ℕ) → is_among m members ≡ true → Done m
unfolding is_among
waits_none members Done h m e = ⊎_elim (λ k. absurd (cc)) (λ k. k) (h.met m e)

-- ---- to all members

abbrev pub to_all : ℕ → ℕ → List ℕ → Msg → List Frame
to_all g n [] m = []
to_all g n (k ∷ ks) m = record { generation = g; sender = n; receiver = k; msg = m } ∷ to_all g n ks m

pub posts_outs : (g n : ℕ) (ks : List ℕ) (m : Msg) (t : Turn) → (posts_all g n ks m t).outs ≡ t.outs ++ sends (to_all g n ks m)
unfolding posts_all posts does
posts_outs g n [] m t = sym (append-nil t.outs)
posts_outs g n (k ∷ ks) m t = posts_outs g n ks m (posts g n k m t) ∙ append_assoc t.outs (out.Send (record { generation = g; sender = n; receiver = k; msg = m }) ∷ []) (sends (to_all g n ks m))

pub posts_node : (g n : ℕ) (ks : List ℕ) (m : Msg) (t : Turn) → (posts_all g n ks m t).node ≡ t.node
unfolding posts_all posts does
posts_node g n [] m t = refl
posts_node g n (k ∷ ks) m t = posts_node g n ks m (posts g n k m t)

pub all_say : (c : Config) (w : Cluster) (r : Lines) (a : Ages) (n g : ℕ) (ks : List ℕ) (m : Msg) → ((k : ℕ) → Says_round c w r a n (record { generation = g; sender = n; receiver = k; msg = m })) → AllByRecursion (Says_round c w r a n) (to_all g n ks m)
all_say c w r a n g [] m h = tt
all_say c w r a n g (k ∷ ks) m h = (h k, all_say c w r a n g ks m h)

-- the node leads this from now on, and sends a message to all of these
pub posts_led : (c : Config) (w : Cluster) (r : Lines) (a : Ages) (n g : ℕ) (ks : List ℕ) (m : Msg) (l : Lead) → LeadSays c w r a n l → ((k : ℕ) → Says_round c w r a n (record { generation = g; sender = n; receiver = k; msg = m })) → Led c w r a n (posts_all g n ks m (with_lead l (begins (node_at n w))))
unfolding with_lead
posts_led c w r a n g ks m l lead says =
    let t = with_lead l (begins (node_at n w)) in
    let same = posts_node g n ks m t in
    sends_led c w r a n (posts_all g n ks m t) (to_all g n ks m)
    (same ∙ ap (λ (k : Lead). record (node_at n w) { lead = k }) (sym (ap (λ (x : Node). x.lead) same)))
    (posts_outs g n ks m t)
    (leads_still c w r a n (posts_all g n ks m t) (posts_all g n ks m t).node.lead (subst (λ (k : Lead). LeadSays c w r a n k) (sym (ap (λ (x : Node). x.lead) same)) lead))
    (all_say c w r a n g ks m says)

pub only_leads : (c : Config) (w : Cluster) (r : Lines) (a : Ages) (n : ℕ) (l : Lead) → LeadSays c w r a n l → Led c w r a n (with_lead l (begins (node_at n w)))
unfolding with_lead
only_leads c w r a n l lead = sends_led c w r a n (with_lead l (begins (node_at n w))) [] refl refl (leads_still c w r a n (with_lead l (begins (node_at n w))) l lead) tt

-- ---- FreezeAck

pub pull_asks : (c : Config) (w : Cluster) (r : Lines) (a : Ages) (n g k : ℕ) → Says_round c w r a n (record { generation = g; sender = n; receiver = k; msg = msg.Pull })
unfolding RoundSays ReplySays record_in
pull_asks c w r a n g k = record { sender = refl; round = tt; none = refl; reply = tt }

none_gathered : (w : Cluster) (n g : ℕ) (members : List ℕ) → IsGatheredOf w n g members members nothing
none_gathered w n g members = record { pulls = []; same = refl; sent = λ p i. absurd i; member = λ p i. absurd i; waits = record { within = λ m e. e; met = λ m e. inl e } }

freezeack_led : (c : Config) (w : Cluster) (r : Lines) (a : Ages) (n k g : ℕ) (l : Lead) → LeadSays c w r a n (node_at n w).lead → LeadSays c w r a n l → Led c w r a n (on_freezeack n k g (begins (node_at n w)) l)
unfolding on_freezeack all_frozen LeadSays
freezeack_led c w r a n k g (Freezes q members missing) own h = either (nat_eq q g && is_among k missing) refl (others k missing)
  where
    either : (b : Bool) → (nat_eq q g && is_among k missing) ≡ b → (left : List ℕ) → Led c w r a n (cond b (all_frozen n g members (begins (node_at n w)) left) (begins (node_at n w)))
    either true e [] = (let p = eqb-true q g (and_parts _ _ e).0 in posts_led c w r a n g members msg.Pull (Pulls g members members nothing) (subst (λ (j : ℕ). IsTicket c r j n members) p h.0, subst (λ (j : ℕ). r.born j ≡ false) p h.1, none_gathered w n g members) (λ j. pull_asks c w r a n g j))
    either true e (m ∷ ms) = (let p = eqb-true q g (and_parts _ _ e).0 in only_leads c w r a n (Freezes g members (m ∷ ms)) (subst (λ (j : ℕ). IsTicket c r j n members) p h.0, subst (λ (j : ℕ). r.born j ≡ false) p h.1))
    either false e left = idle_led c w r a n own
freezeack_led c w r a n k g Nothing own h = idle_led c w r a n own
freezeack_led c w r a n k g (Pulls q members missing x) own h = idle_led c w r a n own
freezeack_led c w r a n k g (Installs q members missing x) own h = idle_led c w r a n own
freezeack_led c w r a n k g (Completed q members x) own h = idle_led c w r a n own

pub freezeack_turned : (c : Config) (rules : Rules) (w : Cluster) (r : Lines) (h : Lives c rules w r) (n : ℕ) (f : Frame) → nat_lt n c.nodes ≡ true → f.msg ≡ msg.FreezeAck → Turned c rules h.who w r h.ages n (pending w) (happens c rules n (begins (node_at n w)) (event.Arrive f))
unfolding happens arrives if_sound
freezeack_turned c rules w r h n f there is = lead_turned c rules w r h n (happens c rules n (begins (node_at n w)) (event.Arrive f)) there
    (subst (λ (u : Turn). Led c w r h.ages n u) (sym (ap (λ (m : Msg). arrives c rules n f (begins (node_at n w)) m) is)) (either (is_sound c f)))
  where
    either : (b : Bool) → Led c w r h.ages n (cond b (on_freezeack n f.sender f.generation (begins (node_at n w)) (node_at n w).lead) (begins (node_at n w)))
    either true = freezeack_led c w r h.ages n f.sender f.generation (node_at n w).lead (h.nodes n there).lead (h.nodes n there).lead
    either false = idle_led c w r h.ages n (h.nodes n there).lead

-- ---- PushAck

pub thaw_says : (c : Config) (w : Cluster) (r : Lines) (a : Ages) (n g k : ℕ) (members : List ℕ) → IsTicket c r g n members → r.born g ≡ true → ((m : ℕ) → is_among m members ≡ true → r.installed g m ≡ true) → Says_round c w r a n (record { generation = g; sender = n; receiver = k; msg = msg.Thaw })
unfolding RoundSays ReplySays record_in
thaw_says c w r a n g k members t born all = record { sender = refl; round = (born, λ m e. all m (subst (λ (ms : List ℕ). is_among m ms ≡ true) t.named e)); none = refl; reply = tt }

pushack_led : (c : Config) (w : Cluster) (r : Lines) (a : Ages) (n k g : ℕ) (l : Lead) → r.installed g k ≡ true → LeadSays c w r a n (node_at n w).lead → LeadSays c w r a n l → Led c w r a n (on_pushack c n k g (begins (node_at n w)) l)
unfolding on_pushack all_installed LeadSays
pushack_led c w r a n k g (Installs q members missing body) is own h = either (nat_eq q g && is_among k missing) refl (others k missing) refl
  where
    either : (b : Bool) → (nat_eq q g && is_among k missing) ≡ b → (left : List ℕ) → others k missing ≡ left → Led c w r a n (cond b (all_installed c n g members body (begins (node_at n w)) left) (begins (node_at n w)))
    either true e [] none =
        let p = eqb-true q g (and_parts _ _ e).0 in
        let ticket = subst (λ (j : ℕ). IsTicket c r j n members) p h.0 in
        let born = subst (λ (j : ℕ). r.born j ≡ true) p h.1 in
        let less = waits_less members missing (λ m. r.installed g m ≡ true) k (subst (λ (j : ℕ). Waits members missing (λ m. r.installed j m ≡ true)) p h.4) is in
        let all = waits_none members (λ m. r.installed g m ≡ true) (subst (λ (ms : List ℕ). Waits members ms (λ m. r.installed g m ≡ true)) none less) in
        posts_led c w r a n g members msg.Thaw (Completed g members (completed c body)) (ticket, born, all) (λ j. thaw_says c w r a n g j members ticket born all)
    either true e (m ∷ ms) left =
        let p = eqb-true q g (and_parts _ _ e).0 in
        let less = waits_less members missing (λ m. r.installed g m ≡ true) k (subst (λ (j : ℕ). Waits members missing (λ m. r.installed j m ≡ true)) p h.4) is in
        only_leads c w r a n (Installs g members (m ∷ ms) body) (subst (λ (j : ℕ). IsTicket c r j n members) p h.0, subst (λ (j : ℕ). r.born j ≡ true) p h.1, h.2, h.3 ∙ ap a.tables p, subst (λ (l : List ℕ). Waits members l (λ m. r.installed g m ≡ true)) left less)
    either false e left none = idle_led c w r a n own
pushack_led c w r a n k g Nothing is own h = idle_led c w r a n own
pushack_led c w r a n k g (Pulls q members missing x) is own h = idle_led c w r a n own
pushack_led c w r a n k g (Freezes q members missing) is own h = idle_led c w r a n own
pushack_led c w r a n k g (Completed q members x) is own h = idle_led c w r a n own

installed_said : (c : Config) (r : Lines) (a : Ages) (f : Frame) → f.msg ≡ msg.PushAck → MailSays c r a f → r.installed f.generation f.sender ≡ true
unfolding RoundSays
installed_said c r a f is h = subst (λ (m : Msg). RoundSays c r a f.generation f.sender m) is h.round

pub pushack_turned : (c : Config) (rules : Rules) (w : Cluster) (r : Lines) (h : Lives c rules w r) (n : ℕ) (f : Frame) → nat_lt n c.nodes ≡ true → f.msg ≡ msg.PushAck → WasSent w f → Turned c rules h.who w r h.ages n (pending w) (happens c rules n (begins (node_at n w)) (event.Arrive f))
unfolding happens arrives if_sound
pushack_turned c rules w r h n f there is sent = lead_turned c rules w r h n (happens c rules n (begins (node_at n w)) (event.Arrive f)) there
    (subst (λ (u : Turn). Led c w r h.ages n u) (sym (ap (λ (m : Msg). arrives c rules n f (begins (node_at n w)) m) is)) (either (is_sound c f)))
  where
    either : (b : Bool) → Led c w r h.ages n (cond b (on_pushack c n f.sender f.generation (begins (node_at n w)) (node_at n w).lead) (begins (node_at n w)))
    either true = pushack_led c w r h.ages n f.sender f.generation (node_at n w).lead (installed_said c r h.ages f is (was_said (MailSays c r h.ages) w.sent f h.mail sent)) (h.nodes n there).lead (h.nodes n there).lead
    either false = idle_led c w r h.ages n (h.nodes n there).lead
