-- Takeover runs: the leader of a completed round places the addresses anew; all members release before any takes.
use Rattle.std.specs.Prelude.{ℕ, ◌+◌, nat_eq, nat_lt, Bool, not, ◌&&◌, if◌then◌else◌, List, [], ◌∷◌, is_some}
use Rattle.std.specs.List.{filter, list_any}
use Rattle.ct_values.specs.Address.{address_before, same_address}
use Rattle.ct_values.specs.Words.{others, is_this_node}
use Rattle.ct_values.specs.declared.address.Address.{Address}
use Rattle.ct_values.specs.declared.config.Config.{Config}
use Rattle.ct_frame.specs.declared.event.Note.TheVariants as note
use Rattle.ct_frame.specs.declared.frame.Assigned.{Assigned}
use Rattle.ct_frame.specs.declared.frame.Msg.TheVariants as msg
use Rattle.ct_lcp2.specs.Placing.{placed}
use Rattle.ct_rules_node.specs.Node.{Lead, Completed, Takeover, Run, Releasing, Taking, is_serving, is_among, assigned_all}
use Rattle.ct_rules_node.specs.Turn.{Turn, with_node, with_lead, makes, notes, posts, posts_all}
use Rattle.ct_rules_node.specs.Rounds.{releases}

-- the addresses that a placement gives to a node
unfoldable pub share : ℕ → List Assigned → List Address
share n [] = []
share n (x ∷ xs) = if is_this_node n x.node then x.address ∷ share n xs else share n xs

-- the addresses that have a node in a placement
unfoldable pub assigned_in : List Assigned → List Assigned
assigned_in xs = filter (λ x. is_some x.node) xs

-- ---- BeginTakeover

-- each of these members gets a Release with the addresses that it keeps
unfoldable pub send_releases : ℕ → ℕ → ℕ → List Assigned → List ℕ → Turn → Turn
send_releases me g number placement [] t = t
send_releases me g number placement (n ∷ ns) t = send_releases me g number placement ns (posts g me n (msg.Release number (share n placement)) t)

-- Begin of a takeover: the run gets this number and placement, and the members get their Releases
unfoldable pub runs : ℕ → ℕ → List ℕ → Takeover → ℕ → List Assigned → Turn → Turn
runs me g members x number placement t =
    send_releases me g number placement members (makes number (with_lead (Completed g members (record x { number = number; run = Releasing placement members })) t))

-- Begin of a takeover: by the leader of its generation, once the round is completed, over able members
unfoldable pub begin_takeover : ℕ → List ℕ → Turn → Lead → Turn
begin_takeover me able t (Completed g members x) =
    if is_serving t.node.phase && nat_eq t.node.generation g
    then runs me g members x (x.number + 1) (placed (filter (λ n. is_among n members) able) x.made) t
    else t
begin_takeover me able t _ = t

-- ---- Release: what is not kept is released, unless a later run is known

-- is the address in the list?
unfoldable pub has_address : List Address → Address → Bool
has_address keep a = list_any (same_address a) keep

-- Release: what is not kept is given up and noted, unless a later run was followed
unfoldable pub on_release : ℕ → ℕ → ℕ → List Address → Turn → Turn
on_release me h number keep t =
    if nat_lt number t.node.last_run then t
    else posts t.node.generation me h (msg.ReleaseAck number)
    (releases (filter (λ a. not (has_address keep a)) t.node.held)
    (with_node (record t.node { last_run = number; held = filter (has_address keep) t.node.held }) t))

-- ---- ReleaseAck: once all have released, the placement is made and they take

-- ReleaseAck: these are missing still; where nobody is, the run is handed out and all members get a Take
unfoldable pub all_released : ℕ → ℕ → List ℕ → Takeover → List Assigned → Turn → List ℕ → Turn
all_released me g members x placement t [] =
    posts_all g me members (msg.Take x.number (assigned_in placement)) (with_lead (Completed g members (record x { made = placement; run = Taking placement })) t)
all_released me g members x placement t (m ∷ ms) = with_lead (Completed g members (record x { run = Releasing placement (m ∷ ms) })) t

-- ReleaseAck: a run that waits for its sender strikes it off
unfoldable pub released_by : ℕ → ℕ → ℕ → List ℕ → Takeover → Turn → Run → Turn
released_by me n g members x t (Releasing placement missing) = if is_among n missing then all_released me g members x placement t (others n missing) else t
released_by me n g members x t _ = t

-- ReleaseAck: only of the last run of the leader of this generation
unfoldable pub on_releaseack : ℕ → ℕ → ℕ → ℕ → Turn → Lead → Turn
on_releaseack me n g number t (Completed h members x) = if nat_eq h g && nat_eq x.number number then released_by me n g members x t x.run else t
on_releaseack me n g number t _ = t

-- ---- Take

-- an address in its place among those that are held
unfoldable pub held_with : Address → List Address → List Address
held_with a [] = a ∷ []
held_with a (b ∷ bs) = if address_before b a then b ∷ held_with a bs else a ∷ b ∷ bs

-- Take: each of these addresses is held and noted
unfoldable pub takes : List Address → Turn → Turn
takes [] t = t
takes (a ∷ rest) t = takes rest (notes (note.Took a) (with_node (record t.node { held = held_with a t.node.held }) t))

-- Take: the placement is known, and what it gives to this node is held; only of the last run that was followed
unfoldable pub on_take : Config → ℕ → ℕ → List Assigned → Turn → Turn
on_take c me number assigned t =
    if nat_eq number t.node.last_run
    then takes (filter (λ a. not (has_address t.node.held a)) (share me assigned)) (with_node (record t.node { placement = assigned_all c.addresses assigned }) t)
    else t
