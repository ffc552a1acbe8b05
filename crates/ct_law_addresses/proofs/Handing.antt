-- A Release and a Take come to a node of their line.
use Rattle.std.proofs.Common.{◌≡◌, ◌≢◌, ℕ, ◌+◌, ◌<◌, ◌≤◌, Bool, true, false, cond, ◌&&◌, ◌||◌, List, [], ◌∷◌, ◌++◌, map, append-nil, Some, refl, sym, ap, ◌∙◌, subst, arith, inl, inr, ⊎_elim}
use Rattle.std.specs.Prelude.{◌⊎◌, nat_eq, nat_lt, not}
use Rattle.std.specs.List.{filter}
use Rattle.std.proofs.lemmas.Bool.{and_parts, or_cases, eqb-true, ltb-false}
use Rattle.ct_values.specs.declared.address.Address.{Address}
use Rattle.ct_values.specs.declared.config.Config.{Config}
use Rattle.ct_frame.specs.declared.event.Note.TheVariants as note
use Rattle.ct_frame.specs.declared.event.Out.TheVariants as out
use Rattle.ct_frame.specs.declared.frame.Assigned.{Assigned}
use Rattle.ct_frame.specs.declared.frame.Frame.{Frame}
use Rattle.ct_frame.specs.declared.frame.Msg.TheVariants as msg
use Rattle.ct_rules_node.specs.Node.{Node, assigned_all, holder_in}
use Rattle.ct_rules_node.specs.Turn.{Turn, begins, does, with_node, posts}
use Rattle.ct_rules_node.specs.Rounds.{releases}
use Rattle.ct_rules_node.specs.Takeovers.{share, has_address, takes, on_release, on_take}
use Rattle.ct_rules_cluster.specs.Labels.{Label}
use Rattle.ct_rules_cluster.specs.Steps.{frames_of}
use Rattle.ct_rules_cluster.specs.Traces.{sent_label}
use Rattle.ct_rules_cluster.specs.declared.step.PendingCall.{PendingCall}
use Rattle.ct_register.proofs.Places.{at_same}
use Rattle.ct_register.specs.Placing.{Placing}
use Rattle.ct_register.specs.Lines.{Lines}
use Rattle.ct_register.specs.Words.{at}
use Rattle.ct_law_generation.specs.Shown.{labels_of}
use Rattle.ct_law_registers.proofs.Parts.{Choice, goes_on}
use Rattle.ct_law_registers.proofs.Places.{Turns, plan}
use Rattle.ct_law_registers.proofs.Shares.{share_holder, share_assigned}
use Rattle.ct_law_addresses.proofs.Lists.{plan_apart, has_kept, share_assigns}
use Rattle.ct_law_addresses.proofs.Facts.{spots, IsThere, Stands, FrameStands, MailStands, FollowsIn}
use Rattle.ct_law_addresses.proofs.Aside.{aside_same}
use Rattle.ct_law_addresses.proofs.Kept.{Ready, Kept, all_aside_kept, frame_list}
use Rattle.ct_law_addresses.proofs.Touched.{Touched, MayTake, released_by, took_by, touched, released_goes, took_goes, releases_is, held_all, takes_is, has_all, all_of_has, released_labels, released_frames, took_labels, took_frames, touched_kept}

module _ (config : Config) (x : Choice) (nodes : ℕ → Node) (fs : List Frame) (r : Lines) (turns : Turns) (h : Ready config nodes fs r turns) (n : ℕ) (calls : List PendingCall) (there : IsThere (spots r) n (nodes n)) where
  abbrev g : ℕ
  g = r.line n

  abbrev p : Placing
  p = r.placing (r.line n)

  abbrev Kept_by : Turn → Type 0
  Kept_by u = Kept config x (at n u.node nodes) fs r (labels_of n calls u.outs) (frame_list u.outs)

  nothing_kept : Kept_by (begins (nodes n))
  nothing_kept = all_aside_kept config x nodes fs r turns h n calls [] (begins (nodes n)) tt aside_same

  before : FollowsIn config.addresses p (turns g) n (nodes n)
  before = h.holds.follows n there.line

  -- ---- a Release

  module _ (from number : ℕ) (keep : List Address) (stands : Stands config.addresses nodes (spots r) turns g from n (msg.Release number keep)) where
    abbrev kept_node : Node
    kept_node = record (nodes n) { last_run = number; held = filter (has_address keep) (nodes n).held }

    abbrev given_up : List Address
    given_up = filter (λ a. not (has_address keep a)) (nodes n).held

    low : 1 ≤ number
    unfolding Stands
    low = stands.0

    high : number ≤ p.begun
    unfolding Stands
    high = stands.1

    kept_is : keep ≡ share n (plan config.addresses p number)
    unfolding Stands
    kept_is = stands.2

    -- what the node holds then
    still : (a : Address) → has_address (filter (has_address keep) (nodes n).held) a ≡ true → (has_address (nodes n).held a ≡ true) × (has_address keep a ≡ true)
    still a e = and_parts _ _ (sym (has_kept a (has_address keep) (nodes n).held) ∙ e)

    after : (nodes n).last_run ≤ number → FollowsIn config.addresses p (turns g) n kept_node
    after rise = record {
      after = (let k = before.after in omega arith);
      within = high;
      turn = λ a e. before.turn a (still a e).0;
      own = λ a e. share_holder a n (plan config.addresses p number) (plan_apart config h.valid p number) (ap (λ (l : List Address). has_address l a) (sym kept_is) ∙ (still a e).1);
    }

    own_then : (a : Address) → (r.held n a && not (has_address given_up a)) ≡ has_address kept_node.held a
    own_then a =
        ap (λ (t : Bool). t && not (has_address given_up a)) (h.holds.holds n a) ∙ ap (λ (t : Bool). has_address (nodes n).held a && not t) (has_kept a (λ b. not (has_address keep b)) (nodes n).held)
        ∙ either (has_address (nodes n).held a) (has_address keep a) ∙ sym (has_kept a (has_address keep) (nodes n).held)
      where
        either : (s t : Bool) → (s && not (s && not t)) ≡ (s && t)
        either true true = refl
        either true false = refl
        either false t = refl

    abbrev ack : Frame
    ack = record { generation = (nodes n).generation; sender = n; receiver = from; msg = msg.ReleaseAck number }

    ack_stands : MailStands config.addresses (at n kept_node nodes) (touched config x nodes fs r turns h n kept_node (released_by n given_up)) turns (ack ∷ [])
    unfolding Stands
    ack_stands f (inl e) = subst (FrameStands config.addresses (at n kept_node nodes) (touched config x nodes fs r turns h n kept_node (released_by n given_up)) turns) e (
      (λ z. there.line (sym there.generation ∙ z)),
      (let a = there.generation in let b = h.rounds.stays n there.line in omega arith),
      subst (λ (l : ℕ). number ≤ (r.placing l).begun) (sym there.generation) high,
      (λ line. (let same = ap (λ (y : Node). y.last_run) (at_same n n kept_node nodes refl) in omega arith)),
    )
    ack_stands f (inr none) = absurd none

    hands_over : Turn
    hands_over = record { node = kept_node; outs = map (λ a. out.Note (note.Released a)) given_up ++ out.Send ack ∷ []; spent = false }

    hands_kept : (nodes n).last_run ≤ number → Kept_by hands_over
    unfolding hands_over labels_of sent_label frames_of
    hands_kept rise =
        let goes = released_goes config x n given_up r there.line in
        let touch : Touched r (goes_on config x (released_by n given_up) r) n (λ a. has_address kept_node.held a) = record { only = goes.1.only; other = goes.1.other; own = λ a. goes.1.own a ∙ own_then a } in
        let kept = touched_kept config x nodes fs r turns h n kept_node (released_by n given_up) goes.0 touch rise refl (λ line. after rise) (ack ∷ []) ack_stands in
        subst (λ (ls : List Label). Kept config x (at n kept_node nodes) fs r ls (frame_list hands_over.outs)) (sym (released_labels n calls given_up (out.Send ack ∷ []) ∙ append-nil (released_by n given_up)))
        (subst (λ (gs : List Frame). Kept config x (at n kept_node nodes) fs r (released_by n given_up) gs) (sym (ap (map (λ s. s.frame)) (released_frames given_up (out.Send ack ∷ [])))) kept)

    pub release_kept : Kept_by (on_release n from number keep (begins (nodes n)))
    unfolding on_release with_node posts does hands_over
    release_kept = either (nat_lt number (nodes n).last_run) refl
      where
        either : (b : Bool) → nat_lt number (nodes n).last_run ≡ b → Kept_by (cond b (begins (nodes n)) (posts (nodes n).generation n from (msg.ReleaseAck number) (releases given_up (with_node kept_node (begins (nodes n))))))
        either true e = nothing_kept
        either false e = subst Kept_by (sym (ap (posts (nodes n).generation n from (msg.ReleaseAck number)) (releases_is given_up (with_node kept_node (begins (nodes n)))))) (hands_kept (ltb-false number (nodes n).last_run e))

  -- ---- a Take

  module _ (from number : ℕ) (xs : List Assigned) (stands : Stands config.addresses nodes (spots r) turns g from n (msg.Take number xs)) (last : number ≡ (nodes n).last_run) where
    abbrev fresh : List Address
    fresh = filter (λ a. not (has_address (nodes n).held a)) (share n xs)

    abbrev taking : Node
    taking = record (nodes n) { placement = assigned_all config.addresses xs }

    abbrev taken_node : Node
    taken_node = record taking { held = held_all fresh (nodes n).held }

    -- the run is that of the last take, which the node follows
    now : (1 ≤ number) × (number ≡ turns g)
    unfolding Stands
    now = (stands.0, (let a = stands.1 in let b = before.after in omega arith))

    sent : p.taken number ≡ Some xs
    unfolding Stands
    sent = stands.2

    -- what it gives to the node is its own in the placement of the line's last take
    given : (a : Address) → has_address (share n xs) a ≡ true → holder_in a (plan config.addresses p number) ≡ Some n
    unfolding Stands
    given a e = share_holder a n (plan config.addresses p number) (plan_apart config h.valid p number)
        (ap (λ (l : List Address). has_address l a) (sym (ap (share n) stands.3 ∙ share_assigned n (plan config.addresses p number))) ∙ e)

    of_share : (a : Address) → has_address fresh a ≡ true → has_address (share n xs) a ≡ true
    of_share a e = (and_parts _ _ (sym (has_kept a (λ b. not (has_address (nodes n).held b)) (share n xs)) ∙ e)).0

    -- so nobody else of the line holds it
    may : (a : Address) → has_address fresh a ≡ true → MayTake r n a
    may a e = (
      (λ m ne same. h.holds.holds m a ∙ nobody m ne same (has_address (nodes m).held a) refl),
      (number, xs, sent, share_assigns a n xs (of_share a e)),
    )
      where
        nobody : (m : ℕ) → m ≢ n → r.line m ≡ g → (t : Bool) → has_address (nodes m).held a ≡ t → t ≡ false
        nobody m ne same false f = refl
        nobody m ne same true f = absurd (let theirs = (h.holds.follows m (λ z. there.line (sym same ∙ z))).turn a f in
            let moved : holder_in a (plan config.addresses p number) ≡ Some m = (λ i. holder_in a (plan config.addresses (r.placing (sym same i)) (now.1 i))) ∙ ap (λ (l : ℕ). holder_in a (plan config.addresses (r.placing (r.line m)) (turns l))) (sym same) ∙ theirs in
            let own = given a (of_share a e) in
            let equal : Some m ≡ Some n = sym moved ∙ own in
            ne (let i : m ≡ n = cc in i))

    -- what the node holds then
    holds_then : (a : Address) → has_address (held_all fresh (nodes n).held) a ≡ true → (holder_in a (plan config.addresses p number) ≡ Some n) ⊎ (has_address (nodes n).held a ≡ true)
    holds_then a e = ⊎_elim
        (λ (f : has_address fresh a ≡ true). inl (given a (of_share a f)))
        (λ (f : has_address (nodes n).held a ≡ true). inr f)
        (or_cases _ _ (sym (has_all a fresh (nodes n).held) ∙ e))

    after_take : FollowsIn config.addresses p (turns g) n taken_node
    after_take = record {
      after = before.after;
      within = before.within;
      turn = λ a e. ⊎_elim
          (λ (f : holder_in a (plan config.addresses p number) ≡ Some n). ap (λ (i : ℕ). holder_in a (plan config.addresses p i)) (sym now.1) ∙ f)
          (λ (f : has_address (nodes n).held a ≡ true). before.turn a f) (holds_then a e);
      own = λ a e. ⊎_elim
          (λ (f : holder_in a (plan config.addresses p number) ≡ Some n). ap (λ (i : ℕ). holder_in a (plan config.addresses p i)) (sym last) ∙ f)
          (λ (f : has_address (nodes n).held a ≡ true). before.own a f) (holds_then a e);
    }

    takes_over : Turn
    takes_over = record { node = taken_node; outs = map (λ a. out.Note (note.Took a)) fresh; spent = false }

    takes_kept : Kept_by takes_over
    unfolding takes_over
    takes_kept =
        let goes = took_goes config x n fresh r there.line (all_of_has (MayTake r n) fresh may) in
        let touch : Touched r (goes_on config x (took_by n fresh) r) n (λ a. has_address taken_node.held a)
        = record { only = goes.1.only; other = goes.1.other; own = λ a. goes.1.own a ∙ ap (λ (t : Bool). has_address fresh a || t) (h.holds.holds n a) ∙ sym (has_all a fresh (nodes n).held) } in
        let kept = touched_kept config x nodes fs r turns h n taken_node (took_by n fresh) goes.0 touch (omega arith) refl (λ line. after_take) [] (λ f none. absurd none) in
        subst (λ (ls : List Label). Kept config x (at n taken_node nodes) fs r ls (frame_list takes_over.outs)) (sym (took_labels n calls fresh))
        (subst (λ (gs : List Frame). Kept config x (at n taken_node nodes) fs r (took_by n fresh) gs) (sym (ap (map (λ s. s.frame)) (took_frames fresh))) kept)

    taken_now : Kept_by (takes fresh (with_node taking (begins (nodes n))))
    unfolding with_node takes_over
    taken_now = subst Kept_by (sym (takes_is fresh (with_node taking (begins (nodes n))))) takes_kept

  pub take_kept : (from number : ℕ) (xs : List Assigned) → Stands config.addresses nodes (spots r) turns g from n (msg.Take number xs) → Kept_by (on_take config n number xs (begins (nodes n)))
  unfolding on_take with_node
  take_kept from number xs stands = either (nat_eq number (nodes n).last_run) refl
    where
      either : (b : Bool) → nat_eq number (nodes n).last_run ≡ b → Kept_by (cond b (takes (filter (λ a. not (has_address (nodes n).held a)) (share n xs)) (with_node (record (nodes n) { placement = assigned_all config.addresses xs }) (begins (nodes n)))) (begins (nodes n)))
      either true e = taken_now from number xs stands (eqb-true number (nodes n).last_run e)
      either false e = nothing_kept
