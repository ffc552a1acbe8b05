-- Rounds and takeover runs at a node that has installed a generation: no message of one, but for a Thaw, touches a record.
use Rattle.std.proofs.Common.{◌≡◌, ◌≢◌, ℕ, ◌+◌, ◌≤◌, Bool, true, false, cond, not, List, [], ◌∷◌, refl, sym, ap, ◌∙◌, subst, arith, ⊎_elim, inl, inr}
use Rattle.std.specs.Prelude.{nat_eq, nat_lt, ◌&&◌, ◌⊎◌}
use Rattle.std.specs.List.{filter}
use Rattle.std.proofs.lemmas.Bool.{cond_both, and_parts, cases_eq, eqb-true, ne_eqb, eq-eqb, le-ltb}
use Rattle.ct_values.specs.Words.{others}
use Rattle.ct_values.specs.declared.address.Address.{Address}
use Rattle.ct_values.specs.declared.config.Config.{Config}
use Rattle.ct_frame.specs.declared.frame.Assigned.{Assigned}
use Rattle.ct_frame.specs.declared.frame.Frame.{Frame}
use Rattle.ct_frame.specs.declared.frame.Msg.{Msg}
use Rattle.ct_frame.specs.declared.frame.Msg.TheVariants as msg
use Rattle.ct_frame.specs.declared.frame.PTable.{PTable}
use Rattle.ct_frame.specs.declared.frame.TableRow.{TableRow}
use Rattle.ct_frame.specs.declared.round.Pull.{Pull}
use Rattle.ct_frame.specs.declared.round.PushBody.{PushBody}
use Rattle.ct_call.specs.Rules.{Rules}
use Rattle.ct_lcp2.specs.Placing.{placed}
use Rattle.ct_rules_node.specs.Node.{Node, Phase, Idle, Serving, Installed, Freezing, Frozen, Lead, Nothing, Freezes, Pulls, Installs, Completed, Takeover, Run, NoRun, Releasing, Taking, is_present, is_present_in, is_frozen_in, is_among, is_serving, assigned_all}
use Rattle.ct_rules_node.specs.Turn.{Turn, with_node, with_lead, makes, posts, posts_all}
use Rattle.ct_rules_node.specs.Admission.{record_in, is_current, is_sound}
use Rattle.ct_rules_node.specs.Steps.{arrives, if_sound, if_taken_over}
use Rattle.ct_rules_node.specs.Rounds.{on_freeze, on_freezeack, on_pull, on_pullreply, on_push, on_pushack, all_installed, completed, on_thaw, thaws, releases}
use Rattle.ct_rules_node.specs.Takeovers.{begin_takeover, runs, send_releases, on_release, on_releaseack, released_by, all_released, on_take, takes, has_address, share, assigned_in}
use Rattle.ct_promise.specs.Born.{has_pushed}
use Rattle.ct_law_generation.proofs.Asides.{Beside, Settled, beside_none, beside_then, beside_makes, beside_leads, beside_places, beside_posts, beside_posts_all, beside_releases, beside_takes, beside_send_releases}

-- ---- messages of a round: a freeze is too late, the node is not frozen, and it waits at most for acknowledgements of a push

-- a node that is present is not frozen
present_thawed : (k : ℕ) (p : Phase) → is_present p ≡ true → is_frozen_in k p ≡ false
unfolding is_present is_frozen_in
present_thawed k Idle e = refl
present_thawed k Serving e = refl
present_thawed k Installed e = refl
present_thawed k (Freezing h leader) e = refl
present_thawed k (Frozen h) e = absurd (cc)

settled_thawed : (g k : ℕ) (n : Node) → Settled g n → is_frozen_in k n.phase ≡ false
unfolding is_present_in
settled_thawed g k n s = present_thawed k n.phase (and_parts (is_present n.phase) (nat_eq n.generation g) s.present).0

-- it is in its generation
pub settled_in : (g : ℕ) (n : Node) → is_present_in g n ≡ true → n.generation ≡ g
unfolding is_present_in
settled_in g n e = eqb-true n.generation g (and_parts (is_present n.phase) (nat_eq n.generation g) e).1

-- Freeze: it is not followed
freeze_nothing : (c : Config) (me h k g : ℕ) (t : Turn) → Settled g t.node → k ≤ g → on_freeze c me h k t ≡ t
unfolding on_freeze
freeze_nothing c me h k g t s l =
    let late : nat_lt t.node.promise k ≡ false = ap (λ p. nat_lt p k) s.promise ∙ le-ltb g k l in
    rw late (rw (settled_thawed g k t.node s) refl)

-- FreezeAck: nothing waits for it
freezeack_nothing : (me n k g : ℕ) (t : Turn) (l : Lead) → has_pushed g l ≡ true → on_freezeack me n k t l ≡ t
unfolding on_freezeack has_pushed
freezeack_nothing me n k g t Nothing e = refl
freezeack_nothing me n k g t (Freezes h members missing) e = absurd (cc)
freezeack_nothing me n k g t (Pulls h members missing x) e = refl
freezeack_nothing me n k g t (Installs h members missing b) e = refl
freezeack_nothing me n k g t (Completed h members x) e = refl

-- Pull: the node is not frozen
pull_nothing : (c : Config) (me h k g : ℕ) (t : Turn) → Settled g t.node → on_pull c me h k t ≡ t
unfolding on_pull
pull_nothing c me h k g t s = rw (settled_thawed g k t.node s) refl

-- PullReply: nothing waits for it
pullreply_nothing : (me k : ℕ) (pull : Pull) (g : ℕ) (t : Turn) (l : Lead) → has_pushed g l ≡ true → on_pullreply me k pull t l ≡ t
unfolding on_pullreply has_pushed
pullreply_nothing me k pull g t Nothing e = refl
pullreply_nothing me k pull g t (Freezes h members missing) e = refl
pullreply_nothing me k pull g t (Pulls h members missing x) e = absurd (cc)
pullreply_nothing me k pull g t (Installs h members missing b) e = refl
pullreply_nothing me k pull g t (Completed h members x) e = refl

-- Push: that of the node's generation is acknowledged again
push_beside : (c : Config) (me h k : ℕ) (members : List ℕ) (table : List TableRow) (ptables : List PTable) (assigned : List Assigned) (g : ℕ) (t : Turn) → Settled g t.node → k ≤ g →
    Beside g me t (on_push c me h k members table ptables assigned t)
unfolding on_push record_in
push_beside c me h k members table ptables assigned g t s l = rw (settled_thawed g k t.node s) (
    cond_both (is_present_in k t.node) (posts k me h msg.PushAck t) t (λ (u : Turn). Beside g me t u)
    (λ _. beside_posts g me k h msg.PushAck t l refl)
    (λ _. beside_none g me t))

-- the last acknowledgement of a push is followed by the Thaws
all_installed_beside : (c : Config) (me g : ℕ) (members : List ℕ) (b : PushBody) (t : Turn) (missing : List ℕ) → Beside g me t (all_installed c me g members b t missing)
unfolding all_installed has_pushed record_in
all_installed_beside c me g members b t [] = let u = with_lead (Completed g members (completed c b)) t in
    beside_then g me t u (posts_all g me members msg.Thaw u) (beside_leads g me (Completed g members (completed c b)) t (eq-eqb g g refl)) (beside_posts_all g me g members msg.Thaw u (omega arith) refl)
all_installed_beside c me g members b t (m ∷ ms) = beside_leads g me (Installs g members (m ∷ ms) b) t (eq-eqb g g refl)

-- PushAck: the node strikes its sender off
pushack_beside : (c : Config) (me n k g : ℕ) (t : Turn) (l : Lead) → has_pushed g l ≡ true → Beside g me t (on_pushack c me n k t l)
unfolding on_pushack has_pushed
pushack_beside c me n k g t Nothing e = beside_none g me t
pushack_beside c me n k g t (Freezes h members missing) e = beside_none g me t
pushack_beside c me n k g t (Pulls h members missing x) e = beside_none g me t
pushack_beside c me n k g t (Completed h members x) e = beside_none g me t
pushack_beside c me n k g t (Installs h members missing b) e =
    cond_both (nat_eq h k && is_among n missing) (all_installed c me k members b t (others n missing)) t (λ (u : Turn). Beside g me t u)
    (λ i. (let same : g ≡ k = sym (eqb-true h g e) ∙ eqb-true h k (and_parts (nat_eq h k) (is_among n missing) i).0 in
    subst (λ (q : ℕ). Beside g me t (all_installed c me q members b t (others n missing))) same (all_installed_beside c me g members b t (others n missing))))
    (λ _. beside_none g me t)

-- ---- messages of a run

-- Release: what is not kept is released
pub release_beside : (me h number : ℕ) (keep : List Address) (g : ℕ) (t : Turn) → t.node.generation ≡ g → Beside g me t (on_release me h number keep t)
unfolding on_release record_in
release_beside me h number keep g t is =
    let free = filter (λ a. not (has_address keep a)) t.node.held in
    let u = with_node (record t.node { last_run = number; held = filter (has_address keep) t.node.held }) t in
    let v = releases free u in
    cond_both (nat_lt number t.node.last_run) t (posts t.node.generation me h (msg.ReleaseAck number) v) (λ (x : Turn). Beside g me t x)
    (λ _. beside_none g me t)
    (λ _. beside_then g me t v (posts t.node.generation me h (msg.ReleaseAck number) v)
    (beside_then g me t u v (beside_places g me t.node.placement (filter (has_address keep) t.node.held) number t) (beside_releases g me free u))
    (beside_posts g me t.node.generation h (msg.ReleaseAck number) v (omega arith) refl))

-- the last of the releases is followed by the Takes
all_released_beside : (me g : ℕ) (members : List ℕ) (x : Takeover) (placement : List Assigned) (t : Turn) (missing : List ℕ) → Beside g me t (all_released me g members x placement t missing)
unfolding all_released has_pushed record_in
all_released_beside me g members x placement t [] =
    let l = Completed g members (record x { made = placement; run = Taking placement }) in
    let u = with_lead l t in
    beside_then g me t u (posts_all g me members (msg.Take x.number (assigned_in placement)) u) (beside_leads g me l t (eq-eqb g g refl))
    (beside_posts_all g me g members (msg.Take x.number (assigned_in placement)) u (omega arith) refl)
all_released_beside me g members x placement t (m ∷ ms) = beside_leads g me (Completed g members (record x { run = Releasing placement (m ∷ ms) })) t (eq-eqb g g refl)

pub released_by_beside : (me n g : ℕ) (members : List ℕ) (x : Takeover) (t : Turn) (r : Run) → Beside g me t (released_by me n g members x t r)
unfolding released_by
released_by_beside me n g members x t NoRun = beside_none g me t
released_by_beside me n g members x t (Taking placement) = beside_none g me t
released_by_beside me n g members x t (Releasing placement missing) =
    cond_both (is_among n missing) (all_released me g members x placement t (others n missing)) t (λ (u : Turn). Beside g me t u)
    (λ _. all_released_beside me g members x placement t (others n missing))
    (λ _. beside_none g me t)

-- ReleaseAck: the node strikes its sender off
releaseack_beside : (me n k number g : ℕ) (t : Turn) (l : Lead) → has_pushed g l ≡ true → Beside g me t (on_releaseack me n k number t l)
unfolding on_releaseack has_pushed
releaseack_beside me n k number g t Nothing e = beside_none g me t
releaseack_beside me n k number g t (Freezes h members missing) e = beside_none g me t
releaseack_beside me n k number g t (Pulls h members missing x) e = beside_none g me t
releaseack_beside me n k number g t (Installs h members missing b) e = beside_none g me t
releaseack_beside me n k number g t (Completed h members x) e =
    cond_both (nat_eq h k && nat_eq x.number number) (released_by me n k members x t x.run) t (λ (u : Turn). Beside g me t u)
    (λ i. (let same : g ≡ k = sym (eqb-true h g e) ∙ eqb-true h k (and_parts (nat_eq h k) (nat_eq x.number number) i).0 in
    subst (λ (q : ℕ). Beside g me t (released_by me n q members x t x.run)) same (released_by_beside me n g members x t x.run)))
    (λ _. beside_none g me t)

-- Take: what the placement gives to the node is taken
pub take_beside : (c : Config) (me number : ℕ) (assigned : List Assigned) (g : ℕ) (t : Turn) → Beside g me t (on_take c me number assigned t)
unfolding on_take
take_beside c me number assigned g t =
    let new = filter (λ a. not (has_address t.node.held a)) (share me assigned) in
    let u = with_node (record t.node { placement = assigned_all c.addresses assigned }) t in
    cond_both (nat_eq number t.node.last_run) (takes new u) t (λ (x : Turn). Beside g me t x)
    (λ _. beside_then g me t u (takes new u) (beside_places g me (assigned_all c.addresses assigned) t.node.held t.node.last_run t) (beside_takes g me new u))
    (λ _. beside_none g me t)

-- ---- every message

-- a message that must be sound is followed or dropped
sound_beside : (c : Config) (f : Frame) (g me : ℕ) (t done : Turn) → Beside g me t done → Beside g me t (if_sound c f done t)
unfolding if_sound
sound_beside c f g me t done b = cond_both (is_sound c f) done t (λ (u : Turn). Beside g me t u) (λ _. b) (λ _. beside_none g me t)

pub run_beside : (c : Config) (f : Frame) (g me : ℕ) (t done : Turn) → Beside g me t done → Beside g me t (if_taken_over c f done t)
unfolding if_taken_over
run_beside c f g me t done b = cond_both (is_sound c f && is_current f t.node) done t (λ (u : Turn). Beside g me t u) (λ _. b) (λ _. beside_none g me t)

-- is it a message of a round or a run, but for a Thaw?
unfoldable pub is_beside_records : Msg → Bool
is_beside_records (msg.Freeze members) = true
is_beside_records msg.FreezeAck = true
is_beside_records msg.Pull = true
is_beside_records (msg.PullReply vbase pbase table ptables addresses) = true
is_beside_records (msg.Push members table ptables assigned) = true
is_beside_records msg.PushAck = true
is_beside_records (msg.Release number keep) = true
is_beside_records (msg.ReleaseAck number) = true
is_beside_records (msg.Take number assigned) = true
is_beside_records _ = false

-- such a message of no newer generation touches no record
pub arrives_beside : (c : Config) (rules : Rules) (me g : ℕ) (f : Frame) (t : Turn) (m : Msg) → Settled g t.node → f.generation ≤ g → is_beside_records m ≡ true → Beside g me t (arrives c rules me f t m)
unfolding arrives is_beside_records
arrives_beside c rules me g f t (msg.Freeze members) s l e = sound_beside c f g me t (on_freeze c me f.sender f.generation t) (rw (freeze_nothing c me f.sender f.generation g t s l) (beside_none g me t))
arrives_beside c rules me g f t msg.FreezeAck s l e = sound_beside c f g me t (on_freezeack me f.sender f.generation t t.node.lead) (rw (freezeack_nothing me f.sender f.generation g t t.node.lead s.lead) (beside_none g me t))
arrives_beside c rules me g f t msg.Pull s l e = sound_beside c f g me t (on_pull c me f.sender f.generation t) (rw (pull_nothing c me f.sender f.generation g t s) (beside_none g me t))
arrives_beside c rules me g f t (msg.PullReply vbase pbase table ptables addresses) s l e =
    let pull : Pull = record { node = f.sender; vbase = vbase; pbase = pbase; table = table; ptables = ptables; addresses = addresses } in
    sound_beside c f g me t (on_pullreply me f.generation pull t t.node.lead) (rw (pullreply_nothing me f.generation pull g t t.node.lead s.lead) (beside_none g me t))
arrives_beside c rules me g f t (msg.Push members table ptables assigned) s l e =
    sound_beside c f g me t (on_push c me f.sender f.generation members table ptables assigned t) (push_beside c me f.sender f.generation members table ptables assigned g t s l)
arrives_beside c rules me g f t msg.PushAck s l e = sound_beside c f g me t (on_pushack c me f.sender f.generation t t.node.lead) (pushack_beside c me f.sender f.generation g t t.node.lead s.lead)
arrives_beside c rules me g f t (msg.Release number keep) s l e = run_beside c f g me t (on_release me f.sender number keep t) (release_beside me f.sender number keep g t (settled_in g t.node s.present))
arrives_beside c rules me g f t (msg.ReleaseAck number) s l e = run_beside c f g me t (on_releaseack me f.sender f.generation number t t.node.lead) (releaseack_beside me f.sender f.generation number g t t.node.lead s.lead)
arrives_beside c rules me g f t (msg.Take number assigned) s l e = run_beside c f g me t (on_take c me number assigned t) (take_beside c me number assigned g t)
arrives_beside c rules me g f t _ s l e = absurd (cc)

-- ---- Thaw

-- what comes of a Thaw at a node that is present: nothing, or it has installed the generation and is thawed
thaw_of : (c : Config) (rules : Rules) (me k g : ℕ) (t : Turn) (p : Phase) → t.node.generation ≡ g → (on_thaw c rules me k t p ≡ t) ⊎ ((p ≡ Installed) × (k ≡ g) × (on_thaw c rules me k t p ≡ thaws c rules me g t))
unfolding on_thaw
thaw_of c rules me k g t Idle is = inl refl
thaw_of c rules me k g t Serving is = inl refl
thaw_of c rules me k g t (Freezing h leader) is = inl refl
thaw_of c rules me k g t (Frozen h) is = inl refl
thaw_of c rules me k g t Installed is = ⊎_elim
    (λ (same : t.node.generation ≡ k). (let e : k ≡ g = sym same ∙ is in
    inr (refl, e, ap (λ (b : Bool). cond b (thaws c rules me k t) t) (eq-eqb t.node.generation k same) ∙ ap (λ (q : ℕ). thaws c rules me q t) e)))
    (λ (ne : t.node.generation ≢ k). inl (ap (λ (b : Bool). cond b (thaws c rules me k t) t) (ne_eqb t.node.generation k ne)))
    (cases_eq t.node.generation k)

-- a Thaw is dropped or follows nothing, or the node has installed the generation and is thawed
pub arrives_thaw : (c : Config) (rules : Rules) (me g : ℕ) (f : Frame) (t : Turn) → is_present_in g t.node ≡ true →
    (arrives c rules me f t msg.Thaw ≡ t) ⊎ ((t.node.phase ≡ Installed) × (f.generation ≡ g) × (is_sound c f ≡ true) × (arrives c rules me f t msg.Thaw ≡ thaws c rules me g t))
unfolding arrives if_sound
arrives_thaw c rules me g f t e =
    let u = on_thaw c rules me f.generation t t.node.phase in
    elim (is_sound c f) as (λ b. (cond b u t ≡ t) ⊎ ((t.node.phase ≡ Installed) × (f.generation ≡ g) × (b ≡ true) × (cond b u t ≡ thaws c rules me g t))) [
      | true ↦ ⊎_elim
          (λ (none : u ≡ t). inl none)
          (λ (k : (t.node.phase ≡ Installed) × (f.generation ≡ g) × (u ≡ thaws c rules me g t)). inr (k.0, k.1, refl, k.2))
          (thaw_of c rules me f.generation g t t.node.phase (settled_in g t.node e))
      | false ↦ inl refl
    ]

-- ---- the begin of a run

runs_beside : (me g : ℕ) (members : List ℕ) (x : Takeover) (number : ℕ) (placement : List Assigned) (t : Turn) → Beside g me t (runs me g members x number placement t)
unfolding runs has_pushed
runs_beside me g members x number placement t =
    let l = Completed g members (record x { number = number; run = Releasing placement members }) in
    let u = with_lead l t in
    let v = makes number u in
    beside_then g me t v (send_releases me g number placement members v)
    (beside_then g me t u v (beside_leads g me l t (eq-eqb g g refl)) (beside_makes g me number u))
    (beside_send_releases g me number placement members v)

-- the begin of a run
pub begin_takeover_beside : (me g : ℕ) (able : List ℕ) (t : Turn) (l : Lead) → has_pushed g l ≡ true → Beside g me t (begin_takeover me able t l)
unfolding begin_takeover has_pushed
begin_takeover_beside me g able t Nothing e = beside_none g me t
begin_takeover_beside me g able t (Freezes h members missing) e = beside_none g me t
begin_takeover_beside me g able t (Pulls h members missing x) e = beside_none g me t
begin_takeover_beside me g able t (Installs h members missing b) e = beside_none g me t
begin_takeover_beside me g able t (Completed h members x) e =
    let placement = placed (filter (λ n. is_among n members) able) x.made in
    cond_both (is_serving t.node.phase && nat_eq t.node.generation h) (runs me h members x (x.number + 1) placement t) t (λ (u : Turn). Beside g me t u)
    (λ _. subst (λ (k : ℕ). Beside g me t (runs me k members x (x.number + 1) placement t)) (sym (eqb-true h g e)) (runs_beside me g members x (x.number + 1) placement t))
    (λ _. beside_none g me t)
