-- What a node makes of the messages of a run.
use Rattle.std.proofs.Common.{◌≡◌, ◌∙◌, ℕ, Bool, true, false, cond, not, List, [], ◌∷◌, ◌++◌, map, append-nil, append_assoc, Option, None, Some, refl, sym, ap}
use Rattle.std.specs.Prelude.{nat_eq, nat_lt}
use Rattle.std.specs.List.{filter}
use Rattle.ct_values.specs.declared.address.Address.{Address}
use Rattle.ct_frame.specs.declared.frame.Assigned.{Assigned}
use Rattle.ct_frame.specs.declared.frame.Msg.TheVariants as msg
use Rattle.ct_values.specs.declared.config.Config.{Config}
use Rattle.ct_node_plan.specs.Posts.{does_all, sent}
use Rattle.ct_node_plan.proofs.Sending.{does_both, does_nothing}
use Rattle.ct_rules_node.specs.Node.{Node, assigned_all}
use Rattle.ct_rules_node.specs.Rounds.{releases}
use Rattle.ct_rules_node.specs.Takeovers.{has_address, held_with, on_release, on_take, share, takes}
use Rattle.ct_rules_node.specs.Turn.{Turn, does, notes, posts, with_node}
use Rattle.ct_lead.specs.Held.{Holding, after_release, after_take, held_with_all, kept, left_out}
use Rattle.ct_lead.specs.Held as held
use Rattle.ct_node_plan_runs.specs.Notes.{released, took}

-- ---- Release

releases_does : (xs : List Address) (t : Turn) → releases xs t ≡ does_all (map released xs) t
unfolding releases notes does
releases_does [] t = does_nothing t
releases_does (a ∷ xs) t = releases_does xs (does_all (released a ∷ []) t) ∙ does_both (released a ∷ []) (map released xs) t

-- the addresses and the last run of a node
abbrev pub holding : Node → Holding
holding n = record { held = n.held; last_run = n.last_run }

-- one of a run before the last that was followed is dropped
pub release_dropped : (me h number : ℕ) (keep : List Address) (t : Turn) → held.released number keep (holding t.node) ≡ None → on_release me h number keep t ≡ t
unfolding on_release
release_dropped me h number keep t e = by (nat_lt number t.node.last_run) refl e
  where
    by : (b : Bool) → nat_lt number t.node.last_run ≡ b → cond b None (Some (left_out keep t.node.held)) ≡ None → on_release me h number keep t ≡ t
    by true i o = ap (λ (b : Bool). cond b t (posts t.node.generation me h (msg.ReleaseAck number) (releases (filter (λ a. not (has_address keep a)) t.node.held) (with_node (record t.node { last_run = number; held = filter (has_address keep) t.node.held }) t)))) i
    by false i o = absurd (cc)

-- one that is followed: what is given up is noted, and it is acknowledged
pub release_followed : (me h number : ℕ) (keep given_up : List Address) (t : Turn) → held.released number keep (holding t.node) ≡ Some given_up →
    on_release me h number keep t ≡
    does_all (map released given_up ++ sent t.node.generation me (msg.ReleaseAck number) h ∷ [])
    (with_node (record t.node { held = (after_release number keep (holding t.node)).held; last_run = (after_release number keep (holding t.node)).last_run }) t)
unfolding on_release posts does with_node
release_followed me h number keep given_up t e = by (nat_lt number t.node.last_run) refl e
  where
    by : (b : Bool) → nat_lt number t.node.last_run ≡ b → cond b None (Some (left_out keep t.node.held)) ≡ Some given_up →
        cond b t (posts t.node.generation me h (msg.ReleaseAck number) (releases (left_out keep t.node.held) (with_node (record t.node { last_run = number; held = kept keep t.node.held }) t))) ≡
        does_all (map released given_up ++ sent t.node.generation me (msg.ReleaseAck number) h ∷ [])
        (with_node (record t.node { held = (cond b (holding t.node) (record { last_run = number; held = kept keep t.node.held })).held; last_run = (cond b (holding t.node) (record { last_run = number; held = kept keep t.node.held })).last_run }) t)
    by true i o = absurd (cc)
    by false i o =
        ap (posts t.node.generation me h (msg.ReleaseAck number)) (releases_does (left_out keep t.node.held) (with_node (record t.node { last_run = number; held = kept keep t.node.held }) t))
        ∙ does_both (map released (left_out keep t.node.held)) (sent t.node.generation me (msg.ReleaseAck number) h ∷ []) (with_node (record t.node { last_run = number; held = kept keep t.node.held }) t)
        ∙ ap (λ (xs : List Address). does_all (map released xs ++ sent t.node.generation me (msg.ReleaseAck number) h ∷ []) (with_node (record t.node { last_run = number; held = kept keep t.node.held }) t)) (let j : left_out keep t.node.held ≡ given_up = cc in j)

-- ---- Take

takes_does : (xs : List Address) (t : Turn) → takes xs t ≡ does_all (map took xs) (with_node (record t.node { held = held_with_all xs t.node.held }) t)
unfolding takes notes does with_node
takes_does [] t = does_nothing t
takes_does (a ∷ xs) t =
    takes_does xs (does_all (took a ∷ []) (with_node (record t.node { held = held_with a t.node.held }) t))
    ∙ does_both (took a ∷ []) (map took xs) (with_node (record t.node { held = held_with_all xs (held_with a t.node.held) }) t)

-- one of another run than the last that was followed is dropped
pub take_dropped : (c : Config) (me number : ℕ) (assigned : List Assigned) (t : Turn) → held.taken number assigned me (holding t.node) ≡ None → on_take c me number assigned t ≡ t
unfolding on_take
take_dropped c me number assigned t e = by (nat_eq number t.node.last_run) refl e
  where
    by : (b : Bool) → nat_eq number t.node.last_run ≡ b → cond b (Some (left_out t.node.held (share me assigned))) None ≡ None → on_take c me number assigned t ≡ t
    by true i o = absurd (cc)
    by false i o = ap (λ (b : Bool). cond b (takes (filter (λ a. not (has_address t.node.held a)) (share me assigned)) (with_node (record t.node { placement = assigned_all c.addresses assigned }) t)) t) i

-- one that is followed: what it gives to this node is held and noted
pub take_followed : (c : Config) (me number : ℕ) (assigned : List Assigned) (more : List Address) (t : Turn) → held.taken number assigned me (holding t.node) ≡ Some more →
    on_take c me number assigned t ≡
    does_all (map took more)
    (with_node (record t.node { placement = assigned_all c.addresses assigned; held = (after_take number assigned me (holding t.node)).held; last_run = (after_take number assigned me (holding t.node)).last_run }) t)
unfolding on_take with_node
take_followed c me number assigned more t e = by (nat_eq number t.node.last_run) refl e
  where
    given : List Address
    given = left_out t.node.held (share me assigned)

    by : (b : Bool) → nat_eq number t.node.last_run ≡ b → cond b (Some (left_out t.node.held (share me assigned))) None ≡ Some more →
        cond b (takes (left_out t.node.held (share me assigned)) (with_node (record t.node { placement = assigned_all c.addresses assigned }) t)) t ≡
        does_all (map took more)
        (with_node (record t.node { placement = assigned_all c.addresses assigned; held = (cond b (record (holding t.node) { held = held_with_all (left_out t.node.held (share me assigned)) t.node.held }) (holding t.node)).held; last_run = (cond b (record (holding t.node) { held = held_with_all (left_out t.node.held (share me assigned)) t.node.held }) (holding t.node)).last_run }) t)
    by true i o =
        takes_does (left_out t.node.held (share me assigned)) (with_node (record t.node { placement = assigned_all c.addresses assigned }) t)
        ∙ ap (λ (xs : List Address). does_all (map took xs) (with_node (record t.node { placement = assigned_all c.addresses assigned; held = held_with_all (left_out t.node.held (share me assigned)) t.node.held }) t)) (let j : left_out t.node.held (share me assigned) ≡ more = cc in j)
    by false i o = absurd (cc)
