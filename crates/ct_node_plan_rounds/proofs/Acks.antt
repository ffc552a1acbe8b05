-- What a leader makes of the answers of members.
use Rattle.std.proofs.Common.{◌≡◌, ◌∙◌, ℕ, Bool, true, false, cond, ◌&&◌, List, [], ◌∷◌, Option, Some, None, refl, ap, sym}
use Rattle.std.proofs.lemmas.Bool.{and_parts, eqb-true}
use Rattle.std.specs.Prelude.{nat_eq}
use Rattle.ct_values.specs.Words.{is_nil, others}
use Rattle.ct_values.specs.declared.config.Config.{Config}
use Rattle.ct_frame.specs.declared.event.Note.TheVariants as note
use Rattle.ct_frame.specs.declared.frame.Msg.TheVariants as msg
use Rattle.ct_frame.specs.declared.round.Pull.{Pull}
use Rattle.ct_frame.specs.declared.round.PushBody.{PushBody}
use Rattle.ct_merge.specs.Gathered.{Gathered, nothing, gathered, finished}
use Rattle.ct_rules_node.specs.Node.{Lead, Nothing, Freezes, Pulls, Installs, Completed, NoRun, is_among, assigned_all}
use Rattle.ct_rules_node.specs.Rounds.{all_frozen, on_freezeack, all_pulled, body_of, on_pullreply, push_of, pushes, all_installed, completed, on_pushack}
use Rattle.ct_rules_node.specs.Turn.{Turn, notes, posts_all, with_lead}
use Rattle.ct_lead.specs.Stages.{awaits_freezeack, awaits_pullreply, awaits_pushack, is_completed, is_pulling, led_after_freezeack, led_after_pullreply, led_after_pushack, led_body, led_members}
use Rattle.ct_node_plan_rounds.specs.Made.{made_by}

-- ---- FreezeAck

pub freezeack_dropped : (me n g : ℕ) (t : Turn) (l : Lead) → awaits_freezeack g n l ≡ false → on_freezeack me n g t l ≡ t
unfolding on_freezeack
freezeack_dropped me n g t Nothing e = refl
freezeack_dropped me n g t (Freezes h members missing) e = ap (λ (b : Bool). cond b (all_frozen me g members t (others n missing)) t) e
freezeack_dropped me n g t (Pulls h members missing x) e = refl
freezeack_dropped me n g t (Installs h members missing b) e = refl
freezeack_dropped me n g t (Completed h members x) e = refl

freezes_end : (me g h : ℕ) (members : List ℕ) (t : Turn) (left : List ℕ) → h ≡ g → is_pulling (cond (is_nil left) (Pulls h members members nothing) (Freezes h members left)) ≡ true →
    all_frozen me g members t left ≡ posts_all g me members msg.Pull (with_lead (cond (is_nil left) (Pulls h members members nothing) (Freezes h members left)) t)
unfolding all_frozen
freezes_end me g h members t [] same e = ap (λ (x : ℕ). posts_all g me members msg.Pull (with_lead (Pulls x members members nothing) t)) (sym same)
freezes_end me g h members t (m ∷ ms) same e = absurd (cc)

-- once all are frozen, they are asked for what they hold
pub freezeack_ends : (me n g : ℕ) (t : Turn) (l : Lead) → awaits_freezeack g n l ≡ true → is_pulling (led_after_freezeack n l) ≡ true →
    on_freezeack me n g t l ≡ posts_all g me (led_members l) msg.Pull (with_lead (led_after_freezeack n l) t)
unfolding on_freezeack
freezeack_ends me n g t Nothing e p = absurd (cc)
freezeack_ends me n g t (Freezes h members missing) e p =
    ap (λ (b : Bool). cond b (all_frozen me g members t (others n missing)) t) e ∙ freezes_end me g h members t (others n missing) (eqb-true h g (and_parts _ _ e).0) p
freezeack_ends me n g t (Pulls h members missing x) e p = absurd (cc)
freezeack_ends me n g t (Installs h members missing b) e p = absurd (cc)
freezeack_ends me n g t (Completed h members x) e p = absurd (cc)

freezes_wait : (me g h : ℕ) (members : List ℕ) (t : Turn) (left : List ℕ) → h ≡ g → is_pulling (cond (is_nil left) (Pulls h members members nothing) (Freezes h members left)) ≡ false →
    all_frozen me g members t left ≡ with_lead (cond (is_nil left) (Pulls h members members nothing) (Freezes h members left)) t
unfolding all_frozen
freezes_wait me g h members t [] same e = absurd (cc)
freezes_wait me g h members t (m ∷ ms) same e = ap (λ (x : ℕ). with_lead (Freezes x members (m ∷ ms)) t) (sym same)

-- until then the others are waited for
pub freezeack_waits : (me n g : ℕ) (t : Turn) (l : Lead) → awaits_freezeack g n l ≡ true → is_pulling (led_after_freezeack n l) ≡ false →
    on_freezeack me n g t l ≡ with_lead (led_after_freezeack n l) t
unfolding on_freezeack
freezeack_waits me n g t Nothing e p = absurd (cc)
freezeack_waits me n g t (Freezes h members missing) e p =
    ap (λ (b : Bool). cond b (all_frozen me g members t (others n missing)) t) e ∙ freezes_wait me g h members t (others n missing) (eqb-true h g (and_parts _ _ e).0) p
freezeack_waits me n g t (Pulls h members missing x) e p = absurd (cc)
freezeack_waits me n g t (Installs h members missing b) e p = absurd (cc)
freezeack_waits me n g t (Completed h members x) e p = absurd (cc)

-- ---- PullReply

pub pullreply_dropped : (me g : ℕ) (pull : Pull) (t : Turn) (l : Lead) → awaits_pullreply g pull.node l ≡ false → on_pullreply me g pull t l ≡ t
unfolding on_pullreply
pullreply_dropped me g pull t Nothing e = refl
pullreply_dropped me g pull t (Freezes h members missing) e = refl
pullreply_dropped me g pull t (Pulls h members missing x) e = ap (λ (b : Bool). cond b (all_pulled me g members (gathered pull x) t (others pull.node missing)) t) e
pullreply_dropped me g pull t (Installs h members missing b) e = refl
pullreply_dropped me g pull t (Completed h members x) e = refl

abbrev body_or : PushBody → Option PushBody → PushBody
body_or d None = d
body_or d (Some b) = b

pulls_end : (me g h : ℕ) (members : List ℕ) (x : Gathered) (t : Turn) (left : List ℕ) (b : PushBody) → h ≡ g →
    led_body (cond (is_nil left) (Installs h members members (body_of me members (finished x))) (Pulls h members left x)) ≡ Some b →
    all_pulled me g members x t left ≡
    posts_all g me members (push_of b) (notes (note.Round g members b.vparent b.pparent) (with_lead (cond (is_nil left) (Installs h members members (body_of me members (finished x))) (Pulls h members left x)) t))
unfolding all_pulled pushes
pulls_end me g h members x t [] b same e =
    let d = body_of me members (finished x) in
    ap (λ (j : ℕ). posts_all g me members (push_of d) (notes (note.Round g members d.vparent d.pparent) (with_lead (Installs j members members d) t))) (sym same)
    ∙ ap (λ (f : PushBody). posts_all g me members (push_of f) (notes (note.Round g members f.vparent f.pparent) (with_lead (Installs h members members d) t))) (ap (body_or d) e)
pulls_end me g h members x t (m ∷ ms) b same e = absurd (cc)

-- the last one is followed by the merge, its note and the Push
pub pullreply_ends : (me g : ℕ) (pull : Pull) (t : Turn) (l : Lead) (b : PushBody) → awaits_pullreply g pull.node l ≡ true → led_body (led_after_pullreply me pull l) ≡ Some b →
    on_pullreply me g pull t l ≡ posts_all g me (led_members l) (push_of b) (notes (note.Round g (led_members l) b.vparent b.pparent) (with_lead (led_after_pullreply me pull l) t))
unfolding on_pullreply
pullreply_ends me g pull t Nothing b e p = absurd (cc)
pullreply_ends me g pull t (Freezes h members missing) b e p = absurd (cc)
pullreply_ends me g pull t (Pulls h members missing x) b e p =
    ap (λ (c : Bool). cond c (all_pulled me g members (gathered pull x) t (others pull.node missing)) t) e
    ∙ pulls_end me g h members (gathered pull x) t (others pull.node missing) b (eqb-true h g (and_parts _ _ e).0) p
pullreply_ends me g pull t (Installs h members missing d) b e p = absurd (cc)
pullreply_ends me g pull t (Completed h members x) b e p = absurd (cc)

pulls_wait : (me g h : ℕ) (members : List ℕ) (x : Gathered) (t : Turn) (left : List ℕ) → h ≡ g →
    led_body (cond (is_nil left) (Installs h members members (body_of me members (finished x))) (Pulls h members left x)) ≡ None →
    all_pulled me g members x t left ≡ with_lead (cond (is_nil left) (Installs h members members (body_of me members (finished x))) (Pulls h members left x)) t
unfolding all_pulled
pulls_wait me g h members x t [] same e = absurd (cc)
pulls_wait me g h members x t (m ∷ ms) same e = ap (λ (j : ℕ). with_lead (Pulls j members (m ∷ ms) x) t) (sym same)

-- until then the others are waited for
pub pullreply_waits : (me g : ℕ) (pull : Pull) (t : Turn) (l : Lead) → awaits_pullreply g pull.node l ≡ true → led_body (led_after_pullreply me pull l) ≡ None →
    on_pullreply me g pull t l ≡ with_lead (led_after_pullreply me pull l) t
unfolding on_pullreply
pullreply_waits me g pull t Nothing e p = absurd (cc)
pullreply_waits me g pull t (Freezes h members missing) e p = absurd (cc)
pullreply_waits me g pull t (Pulls h members missing x) e p =
    ap (λ (c : Bool). cond c (all_pulled me g members (gathered pull x) t (others pull.node missing)) t) e
    ∙ pulls_wait me g h members (gathered pull x) t (others pull.node missing) (eqb-true h g (and_parts _ _ e).0) p
pullreply_waits me g pull t (Installs h members missing d) e p = absurd (cc)
pullreply_waits me g pull t (Completed h members x) e p = absurd (cc)

-- ---- PushAck

pub pushack_dropped : (c : Config) (me n g : ℕ) (t : Turn) (l : Lead) → awaits_pushack g n l ≡ false → on_pushack c me n g t l ≡ t
unfolding on_pushack
pushack_dropped c me n g t Nothing e = refl
pushack_dropped c me n g t (Freezes h members missing) e = refl
pushack_dropped c me n g t (Pulls h members missing x) e = refl
pushack_dropped c me n g t (Installs h members missing b) e = ap (λ (d : Bool). cond d (all_installed c me g members b t (others n missing)) t) e
pushack_dropped c me n g t (Completed h members x) e = refl

-- the lead once these are left
abbrev left_with : Config → ℕ → List ℕ → PushBody → List ℕ → Lead
left_with c h members b left = cond (is_nil left) (Completed h members (completed c b)) (Installs h members left b)

installs_end : (c : Config) (me g h : ℕ) (members : List ℕ) (b : PushBody) (t : Turn) (left : List ℕ) → h ≡ g → is_completed (left_with c h members b left) ≡ true →
    all_installed c me g members b t left ≡ posts_all g me members msg.Thaw (with_lead (left_with c h members b left) t)
unfolding all_installed
installs_end c me g h members b t [] same e = ap (λ (x : ℕ). posts_all g me members msg.Thaw (with_lead (Completed x members (completed c b)) t)) (sym same)
installs_end c me g h members b t (m ∷ ms) same e = absurd (cc)

-- once all have installed, the round is completed, and they are thawed
pub pushack_ends : (c : Config) (me n g : ℕ) (t : Turn) (l : Lead) → awaits_pushack g n l ≡ true → is_completed (led_after_pushack n (made_by c (led_body l)) l) ≡ true →
    on_pushack c me n g t l ≡ posts_all g me (led_members l) msg.Thaw (with_lead (led_after_pushack n (made_by c (led_body l)) l) t)
unfolding on_pushack completed
pushack_ends c me n g t Nothing e p = absurd (cc)
pushack_ends c me n g t (Freezes h members missing) e p = absurd (cc)
pushack_ends c me n g t (Pulls h members missing x) e p = absurd (cc)
pushack_ends c me n g t (Installs h members missing b) e p =
    ap (λ (d : Bool). cond d (all_installed c me g members b t (others n missing)) t) e ∙ installs_end c me g h members b t (others n missing) (eqb-true h g (and_parts _ _ e).0) p
pushack_ends c me n g t (Completed h members x) e p = absurd (cc)

installs_wait : (c : Config) (me g h : ℕ) (members : List ℕ) (b : PushBody) (t : Turn) (left : List ℕ) → h ≡ g → is_completed (left_with c h members b left) ≡ false →
    all_installed c me g members b t left ≡ with_lead (left_with c h members b left) t
unfolding all_installed
installs_wait c me g h members b t [] same e = absurd (cc)
installs_wait c me g h members b t (m ∷ ms) same e = ap (λ (x : ℕ). with_lead (Installs x members (m ∷ ms) b) t) (sym same)

-- until then the others are waited for
pub pushack_waits : (c : Config) (me n g : ℕ) (t : Turn) (l : Lead) → awaits_pushack g n l ≡ true → is_completed (led_after_pushack n (made_by c (led_body l)) l) ≡ false →
    on_pushack c me n g t l ≡ with_lead (led_after_pushack n (made_by c (led_body l)) l) t
unfolding on_pushack completed
pushack_waits c me n g t Nothing e p = absurd (cc)
pushack_waits c me n g t (Freezes h members missing) e p = absurd (cc)
pushack_waits c me n g t (Pulls h members missing x) e p = absurd (cc)
pushack_waits c me n g t (Installs h members missing b) e p =
    ap (λ (d : Bool). cond d (all_installed c me g members b t (others n missing)) t) e ∙ installs_wait c me g h members b t (others n missing) (eqb-true h g (and_parts _ _ e).0) p
pushack_waits c me n g t (Completed h members x) e p = absurd (cc)
