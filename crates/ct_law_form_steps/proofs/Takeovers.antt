-- Takeover runs leave a node in form.
use Rattle.std.proofs.Common.{◌≡◌, ℕ, ◌+◌, ◌<◌, ◌≤◌, ◌^◌, Bool, true, false, cond, not, ◌&&◌, List, [], ◌∷◌, Option, Some, None, refl, sym, ◌∙◌, ap, subst, arith}
use Rattle.std.proofs.lemmas.Bool.{and_from, and_parts, cond_both}
use Rattle.std.proofs.lemmas.List.Folds.{list_all-append}
use Rattle.std.specs.Prelude.{is_some, nat_eq, nat_lt}
use Rattle.std.specs.List.{AllByRecursion, filter, list_all}
use Rattle.std.specs.List.Sorted.{IsStrictlySortedBy}
use Rattle.std.specs.declared.cmp.Ordering.TheVariants.{Less}
use Rattle.ct_values.specs.Address.{address_cmp}
use Rattle.ct_values.specs.Words.{is_this_node, others}
use Rattle.ct_values.specs.declared.address.Address.{Address}
use Rattle.ct_values.specs.declared.config.Config.{Config}
use Rattle.ct_frame.specs.Fields.{are_addresses, ascends, assigned_before, is_assigned, is_from_one, is_message, is_node, is_some_node}
use Rattle.ct_frame.specs.declared.event.Note.TheVariants as note
use Rattle.ct_frame.specs.declared.frame.Assigned.{Assigned}
use Rattle.ct_frame.specs.declared.frame.Msg.TheVariants as msg
use Rattle.ct_lcp2.specs.Placing as lcp2
use Rattle.ct_lcp2.specs.Placing.{Ascend, addresses, is_able, must_leave, placed}
use Rattle.ct_lcp2.proofs.Standing.{ascend_to, held_ascends}
use Rattle.ct_lcp2.proofs.Steps.{placed_able, same_addresses}
use Rattle.ct_lead.specs.Held.{held_with_all}
use Rattle.ct_lead.proofs.Places.{taken_ascend}
use Rattle.ct_law_rules_node.proofs.Events.{others_all}
use Rattle.ct_rules_node.specs.Admission.{nodes_in, some_of}
use Rattle.ct_rules_node.specs.Node.{Completed, Freezes, Installs, Lead, NoRun, Nothing, Pulls, Releasing, Run, Takeover, Taking, assigned_all, is_among, is_present, is_present_in, is_serving}
use Rattle.ct_rules_node.specs.Retries.{retry_lead, retry_run}
use Rattle.ct_rules_node.specs.Rounds.{push_of}
use Rattle.ct_rules_node.specs.Takeovers.{all_released, assigned_in, begin_takeover, has_address, held_with, on_release, on_releaseack, on_take, released_by, runs, send_releases, share, takes}
use Rattle.ct_rules_node.specs.Turn.{Turn, does, notes, posts, posts_all, with_lead, with_node}
use Rattle.ct_law_form.specs.Whole.{RoundInForm, PlacementInForm, TakeoverInForm, LeadInForm, NodeInForm, RunInForm, TurnInForm, is_node_of, is_sound_out}
use Rattle.ct_law_form.proofs.Lists.{among_all, each_among, self_among}
use Rattle.ct_law_form.proofs.Putting.{from_one_is, present_generation, sound_more}
use Rattle.ct_law_form.proofs.Turns.{holding_in_form, made, makes_in_form, posts_all_in_form, posts_in_form, with_lead_in_form}
use Rattle.ct_law_form.proofs.Whole.{filter_ascends, sorted_addresses, sorted_so}
use Rattle.ct_law_form.proofs.Commits.{posts_all_spent}
use Rattle.ct_law_form_steps.proofs.Leading.{led_as, missing_configured, same_round}
use Rattle.ct_law_form_steps.proofs.Pushing.{releases_in_form}
use Rattle.ct_law_form_steps.proofs.Gathering.{nodes_of}

-- ---- placements

-- a placement of the configuration's addresses ascends
pub placement_ascends : (c : Config) (xs : List Assigned) → are_addresses c.addresses ≡ true → PlacementInForm c xs → Ascend xs
placement_ascends c xs up h = subst (λ (l : List Address). IsStrictlySortedBy address_cmp l) (sym h.addresses_are) (sorted_so c.addresses up)

share_held : (n : ℕ) (xs : List Assigned) → share n xs ≡ lcp2.held n xs
unfolding share lcp2.held
share_held n [] = refl
share_held n (x ∷ xs) = ap (λ (l : List Address). cond (is_this_node n x.node) (x.address ∷ l) l) (share_held n xs)

-- what a placement gives to a node ascends
pub share_ascends : (n : ℕ) (xs : List Assigned) → Ascend xs → are_addresses (share n xs) ≡ true
share_ascends n xs up = subst (λ (l : List Address). are_addresses l ≡ true) (sym (share_held n xs)) (sorted_addresses (lcp2.held n xs) (held_ascends n xs up))

some_is : (o : Option ℕ) → list_all is_node (some_of o) ≡ true → is_some o ≡ true → is_some_node o ≡ true
unfolding some_of
some_is None all e = absurd (cc)
some_is (Some n) all e = (and_parts (is_node n) true all).0

assigned_are : (xs : List Assigned) → list_all is_node (nodes_in xs) ≡ true → list_all is_assigned (assigned_in xs) ≡ true
unfolding nodes_in assigned_in
assigned_are [] all = refl
assigned_are (x ∷ xs) all =
    let p = and_parts (list_all is_node (some_of x.node)) (list_all is_node (nodes_in xs)) (sym (list_all-append is_node (some_of x.node) (nodes_in xs)) ∙ all) in
    by (is_some x.node) refl (some_is x.node p.0) (assigned_are xs p.1)
  where
    by : (b : Bool) → is_some x.node ≡ b → (is_some x.node ≡ true → is_some_node x.node ≡ true) → list_all is_assigned (filter (λ x. is_some x.node) xs) ≡ true → list_all is_assigned (cond b (x ∷ filter (λ x. is_some x.node) xs) (filter (λ x. is_some x.node) xs)) ≡ true
    by true e here rest = and_from (is_assigned x) _ (here e) rest
    by false e here rest = rest

above_in : (a : Address) (xs : List Assigned) → AllByRecursion (λ b. address_cmp a b ≡ Less) (addresses xs) → AllByRecursion (λ b. address_cmp a b ≡ Less) (addresses (assigned_in xs))
unfolding assigned_in
above_in a [] all = tt
above_in a (x ∷ xs) all = cond_both (is_some x.node) (x ∷ filter (λ x. is_some x.node) xs) (filter (λ x. is_some x.node) xs) (λ (l : List Assigned). AllByRecursion (λ b. address_cmp a b ≡ Less) (addresses l)) (λ _. (all.0, above_in a xs all.1)) (λ _. above_in a xs all.1)

assigned_ascend : (xs : List Assigned) → Ascend xs → Ascend (assigned_in xs)
unfolding assigned_in IsStrictlySortedBy
assigned_ascend [] h = tt
assigned_ascend (x ∷ xs) h = cond_both (is_some x.node) (x ∷ filter (λ x. is_some x.node) xs) (filter (λ x. is_some x.node) xs) Ascend (λ _. (above_in x.address xs h.0, assigned_ascend xs h.1)) (λ _. assigned_ascend xs h.1)

-- a Take of a placement
take_sound : (c : Config) (me number : ℕ) (xs : List Assigned) → are_addresses c.addresses ≡ true → PlacementInForm c xs → is_from_one number ≡ true → is_message me (msg.Take number (assigned_in xs)) ≡ true
take_sound c me number xs up h one = and_from _ _ one (and_from (list_all is_assigned (assigned_in xs)) _ (assigned_are xs h.nodes_are) (ascend_to (assigned_in xs) (assigned_ascend xs (placement_ascends c xs up h))))

-- a Release of a placement
release_sound : (c : Config) (me number n : ℕ) (xs : List Assigned) → are_addresses c.addresses ≡ true → PlacementInForm c xs → is_from_one number ≡ true → is_message me (msg.Release number (share n xs)) ≡ true
release_sound c me number n xs up h one = and_from _ _ one (share_ascends n xs (placement_ascends c xs up h))

-- ---- what LCP2 makes

members_kept : (members able : List ℕ) → list_all (λ n. is_among n members) (filter (λ n. is_among n members) able) ≡ true
members_kept members [] = refl
members_kept members (n ∷ ns) = by (is_among n members) refl (members_kept members ns)
  where
    by : (b : Bool) → is_among n members ≡ b → list_all (λ n. is_among n members) (filter (λ n. is_among n members) ns) ≡ true → list_all (λ n. is_among n members) (cond b (n ∷ filter (λ n. is_among n members) ns) (filter (λ n. is_among n members) ns)) ≡ true
    by true e rest = and_from _ _ e rest
    by false e rest = rest

not_left : (b : Bool) → not b ≡ false → b ≡ true
not_left true e = refl
not_left false e = absurd (cc)

stays_node : (able : List ℕ) (o : Option ℕ) → list_all is_node able ≡ true → must_leave able o ≡ false → list_all is_node (some_of o) ≡ true
unfolding some_of is_among
stays_node able None all e = refl
stays_node able (Some n) all e = and_from _ _ (among_all is_node n able all (not_left (is_able able n) e)) refl

stay_nodes : (able : List ℕ) (xs : List Assigned) → list_all is_node able ≡ true → AllByRecursion (λ x. must_leave able x.node ≡ false) xs → list_all is_node (nodes_in xs) ≡ true
unfolding nodes_in
stay_nodes able [] all h = refl
stay_nodes able (x ∷ xs) all h = list_all-append is_node (some_of x.node) (nodes_in xs) ∙ and_from _ _ (stays_node able x.node all h.0) (stay_nodes able xs all h.1)

placed_says : (c : Config) (members able : List ℕ) (xs : List Assigned) → list_all is_node members ≡ true → PlacementInForm c xs → PlacementInForm c (placed (filter (λ n. is_among n members) able) xs)
placed_says c members able xs nodes h = record {
  addresses_are = same_addresses (filter (λ n. is_among n members) able) xs ∙ h.addresses_are;
  nodes_are = stay_nodes (filter (λ n. is_among n members) able) _ (each_among is_node (filter (λ n. is_among n members) able) members nodes (members_kept members able)) (placed_able (filter (λ n. is_among n members) able) xs);
}

-- ---- the begin of a takeover

pub releases_sent : (c : Config) (me g number : ℕ) (xs : List Assigned) (ns : List ℕ) (t : Turn) → is_from_one g ≡ true → is_from_one number ≡ true → PlacementInForm c xs → list_all (is_node_of c) ns ≡ true → TurnInForm c me t → TurnInForm c me (send_releases me g number xs ns t)
unfolding send_releases
releases_sent c me g number xs [] t one from p all h = h
releases_sent c me g number xs (n ∷ ns) t one from p all h =
    let a = and_parts (is_node_of c n) (list_all (is_node_of c) ns) all in
    releases_sent c me g number xs ns _ one from p a.1 (posts_in_form c me g n (msg.Release number (share n xs)) t one a.0 (release_sound c me number n xs h.node.limits.addresses p from) h)

releases_sent_spent : (me g number : ℕ) (xs : List Assigned) (ns : List ℕ) (t : Turn) → (send_releases me g number xs ns t).spent ≡ t.spent
unfolding send_releases posts does
releases_sent_spent me g number xs [] t = refl
releases_sent_spent me g number xs (n ∷ ns) t = releases_sent_spent me g number xs ns (posts g me n (msg.Release number (share n xs)) t)

above_zero : (n : ℕ) → n + 1 < 2 ^ 62 → is_from_one (n + 1) ≡ true
above_zero n l = from_one_is (n + 1) (omega arith) l

runs_in_form : (c : Config) (me g : ℕ) (members : List ℕ) (x : Takeover) (xs : List Assigned) (t : Turn) → RoundInForm c me g members [] → TakeoverInForm c members x → PlacementInForm c xs → TurnInForm c me t → (runs me g members x (x.number + 1) xs t).spent ≡ false → TurnInForm c me (runs me g members x (x.number + 1) xs t)
unfolding runs LeadInForm RunInForm
runs_in_form c me g members x xs t l k p h unspent =
    let y = record x { number = x.number + 1; run = Releasing xs members } in
    let low = (made (x.number + 1) (with_lead (Completed g members y) t) (sym (releases_sent_spent me g (x.number + 1) xs members _) ∙ unspent)).1 in
    releases_sent c me g (x.number + 1) xs members _ l.number (above_zero x.number low) p l.configured
    (makes_in_form c me (x.number + 1) _ (with_lead_in_form c me (Completed g members y) t (l, record { made = k.made; number_limit = low; last = (omega arith, p, self_among members) }) h))

pub begin_takeover_in_form : (c : Config) (me : ℕ) (able : List ℕ) (t : Turn) (l : Lead) → LeadInForm c me l → TurnInForm c me t → (begin_takeover me able t l).spent ≡ false → TurnInForm c me (begin_takeover me able t l)
unfolding begin_takeover LeadInForm
begin_takeover_in_form c me able t (Completed g members x) l h unspent = cond_both (is_serving t.node.phase && nat_eq t.node.generation g) _ _ (λ (u : Turn). u.spent ≡ false → TurnInForm c me u)
    (λ _ e. runs_in_form c me g members x _ t l.0 l.1 (placed_says c members able x.made (nodes_of members l.0.members_are) l.1.made) h e) (λ _ e. h) unspent
begin_takeover_in_form c me able t Nothing l h unspent = h
begin_takeover_in_form c me able t (Freezes g members missing) l h unspent = h
begin_takeover_in_form c me able t (Pulls g members missing x) l h unspent = h
begin_takeover_in_form c me able t (Installs g members missing b) l h unspent = h

-- ---- Release and its acknowledgement

pub release_in_form : (c : Config) (me h number : ℕ) (keep : List Address) (t : Turn) → is_present t.node.phase ≡ true → is_node_of c h ≡ true → is_from_one number ≡ true → TurnInForm c me t → TurnInForm c me (on_release me h number keep t)
unfolding on_release
release_in_form c me h number keep t present from one f = cond_both (nat_lt number t.node.last_run) _ _ (TurnInForm c me) (λ _. f)
    (λ _. posts_in_form c me t.node.generation h (msg.ReleaseAck number) _ (present_generation c me t.node f.node present) from one
    (releases_in_form c me _ _ (holding_in_form c me t.node.placement (filter (has_address keep) t.node.held) number t (filter_ascends (has_address keep) t.node.held f.node.held) f)))

all_released_in_form : (c : Config) (me g : ℕ) (members : List ℕ) (x : Takeover) (xs : List Assigned) (t : Turn) (ns : List ℕ) → RoundInForm c me g members [] → TakeoverInForm c members x → 1 ≤ x.number → PlacementInForm c xs → list_all (λ m. is_among m members) ns ≡ true → TurnInForm c me t → TurnInForm c me (all_released me g members x xs t ns)
unfolding all_released LeadInForm RunInForm
all_released_in_form c me g members x xs t [] l k one p all h =
    posts_all_in_form c me g members (msg.Take x.number (assigned_in xs)) _ l.number l.configured (take_sound c me x.number xs h.node.limits.addresses p (from_one_is x.number one k.number_limit))
    (with_lead_in_form c me (Completed g members (record x { made = xs; run = Taking xs })) t (l, record { made = p; number_limit = k.number_limit; last = (one, p) }) h)
all_released_in_form c me g members x xs t (n ∷ ns) l k one p all h = with_lead_in_form c me (Completed g members (record x { run = Releasing xs (n ∷ ns) })) t (l, record { made = k.made; number_limit = k.number_limit; last = (one, p, all) }) h

released_by_in_form : (c : Config) (me n g : ℕ) (members : List ℕ) (x : Takeover) (t : Turn) (r : Run) → RoundInForm c me g members [] → TakeoverInForm c members x → RunInForm c members x.number r → TurnInForm c me t → TurnInForm c me (released_by me n g members x t r)
unfolding released_by RunInForm
released_by_in_form c me n g members x t (Releasing xs missing) l k s h = cond_both (is_among n missing) _ _ (TurnInForm c me)
    (λ _. all_released_in_form c me g members x xs t (others n missing) l k s.0 s.1 (others_all (λ m. is_among m members) n missing s.2) h) (λ _. h)
released_by_in_form c me n g members x t NoRun l k s h = h
released_by_in_form c me n g members x t (Taking xs) l k s h = h

pub releaseack_in_form : (c : Config) (me n g number : ℕ) (t : Turn) (l : Lead) → LeadInForm c me l → TurnInForm c me t → TurnInForm c me (on_releaseack me n g number t l)
unfolding on_releaseack LeadInForm
releaseack_in_form c me n g number t (Completed j members x) l h = cond_both (nat_eq j g && nat_eq x.number number) _ _ (TurnInForm c me)
    (λ e. released_by_in_form c me n g members x t x.run (led_as c me j g members [] (same_round j g _ e).0 l.0) l.1 l.1.last h) (λ _. h)
releaseack_in_form c me n g number t Nothing l h = h
releaseack_in_form c me n g number t (Freezes j members missing) l h = h
releaseack_in_form c me n g number t (Pulls j members missing x) l h = h
releaseack_in_form c me n g number t (Installs j members missing b) l h = h

-- ---- Take

takes_node : (as' : List Address) (t : Turn) → (takes as' t).node ≡ record t.node { held = held_with_all as' t.node.held }
unfolding takes notes does with_node
takes_node [] t = refl
takes_node (a ∷ as') t = takes_node as' (notes (note.Took a) (with_node (record t.node { held = held_with a t.node.held }) t))

takes_outs : (c : Config) (me : ℕ) (as' : List Address) (t : Turn) → list_all (is_sound_out c me) t.outs ≡ true → list_all (is_sound_out c me) (takes as' t).outs ≡ true
unfolding takes notes does with_node is_sound_out
takes_outs c me [] t all = all
takes_outs c me (a ∷ as') t all = takes_outs c me as' (notes (note.Took a) (with_node (record t.node { held = held_with a t.node.held }) t)) (sound_more c me t.outs _ all refl)

takes_in_form : (c : Config) (me : ℕ) (as' : List Address) (t : Turn) → are_addresses (held_with_all as' t.node.held) ≡ true → TurnInForm c me t → TurnInForm c me (takes as' t)
unfolding with_node
takes_in_form c me as' t up h = record {
  node = subst (NodeInForm c me) (sym (takes_node as' t)) (holding_in_form c me t.node.placement (held_with_all as' t.node.held) t.node.last_run t up h).node;
  outs = takes_outs c me as' t h.outs;
}

pub take_in_form : (c : Config) (me number : ℕ) (assigned : List Assigned) (t : Turn) → ascends assigned_before assigned ≡ true → TurnInForm c me t → TurnInForm c me (on_take c me number assigned t)
unfolding on_take with_node
take_in_form c me number assigned t up h = cond_both (nat_eq number t.node.last_run) _ _ (TurnInForm c me)
    (λ _. takes_in_form c me _ _ (taken_ascend me assigned t.node.held (share me assigned) _ _ up refl refl refl h.node.held) (holding_in_form c me (assigned_all c.addresses assigned) t.node.held t.node.last_run t h.node.held h)) (λ _. h)

-- ---- sending again

retry_run_in_form : (c : Config) (me g : ℕ) (members : List ℕ) (x : Takeover) (t : Turn) (r : Run) → RoundInForm c me g members [] → TakeoverInForm c members x → RunInForm c members x.number r → TurnInForm c me t → TurnInForm c me (retry_run me g members x t r)
unfolding retry_run RunInForm
retry_run_in_form c me g members x t NoRun l k s h = h
retry_run_in_form c me g members x t (Releasing xs missing) l k s h = releases_sent c me g x.number xs missing t l.number (from_one_is x.number s.0 k.number_limit) s.1 (each_among (is_node_of c) missing members l.configured s.2) h
retry_run_in_form c me g members x t (Taking xs) l k s h = posts_all_in_form c me g members (msg.Take x.number (assigned_in xs)) t l.number l.configured (take_sound c me x.number xs h.node.limits.addresses s.1 (from_one_is x.number s.0 k.number_limit)) h

pub retry_lead_in_form : (c : Config) (me : ℕ) (t : Turn) (l : Lead) → LeadInForm c me l → TurnInForm c me t → TurnInForm c me (retry_lead me t l)
unfolding retry_lead LeadInForm
retry_lead_in_form c me t Nothing l h = h
retry_lead_in_form c me t (Freezes g members missing) l h = posts_all_in_form c me g missing (msg.Freeze members) t l.number (missing_configured c me g members missing l) l.members_are h
retry_lead_in_form c me t (Pulls g members missing x) l h = posts_all_in_form c me g missing msg.Pull t l.0.number (missing_configured c me g members missing l.0) refl h
retry_lead_in_form c me t (Installs g members missing b) l h = posts_all_in_form c me g missing (push_of b) t l.0.number (missing_configured c me g members missing l.0) l.1 h
retry_lead_in_form c me t (Completed g members x) l h =
    let k = posts_all_in_form c me g members msg.Thaw t l.0.number l.0.configured refl h in
    cond_both (is_present_in g t.node) (retry_run me g members x (posts_all g me members msg.Thaw t) x.run) (posts_all g me members msg.Thaw t) (TurnInForm c me) (λ _. retry_run_in_form c me g members x _ x.run l.0 l.1 l.1.last k) (λ _. k)

retry_run_spent : (me g : ℕ) (members : List ℕ) (x : Takeover) (t : Turn) (r : Run) → (retry_run me g members x t r).spent ≡ t.spent
unfolding retry_run
retry_run_spent me g members x t NoRun = refl
retry_run_spent me g members x t (Releasing xs missing) = releases_sent_spent me g x.number xs missing t
retry_run_spent me g members x t (Taking xs) = posts_all_spent g me members (msg.Take x.number (assigned_in xs)) t

-- sending again makes no number
pub retry_lead_spent : (me : ℕ) (t : Turn) (l : Lead) → (retry_lead me t l).spent ≡ t.spent
unfolding retry_lead
retry_lead_spent me t Nothing = refl
retry_lead_spent me t (Freezes g members missing) = posts_all_spent g me missing (msg.Freeze members) t
retry_lead_spent me t (Pulls g members missing x) = posts_all_spent g me missing msg.Pull t
retry_lead_spent me t (Installs g members missing b) = posts_all_spent g me missing (push_of b) t
retry_lead_spent me t (Completed g members x) =
    let k = posts_all_spent g me members msg.Thaw t in
    cond_both (is_present_in g t.node) (retry_run me g members x (posts_all g me members msg.Thaw t) x.run) (posts_all g me members msg.Thaw t) (λ (u : Turn). u.spent ≡ t.spent) (λ _. retry_run_spent me g members x _ x.run ∙ k) (λ _. k)
