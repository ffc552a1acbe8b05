-- The leader of a completed round begins a takeover run, and hands it out once all members have released.
use Rattle.std.proofs.Common.{◌≡◌, ◌≢◌, ℕ, ◌+◌, ◌<◌, ◌≤◌, Bool, true, false, cond, ◌&&◌, ◌||◌, List, [], ◌∷◌, ◌++◌, map, Option, Some, refl, sym, ap, ◌∙◌, subst, arith, inl, inr, ⊎_elim}
use Rattle.std.specs.Prelude.{◌⊎◌, nat_eq, not}
use Rattle.std.specs.List.{AllByRecursion, filter, list_any}
use Rattle.std.proofs.lemmas.Bool.{cases_eq, eqb-true, eq-eqb}
use Rattle.ct_values.specs.Words.{others}
use Rattle.ct_values.specs.declared.config.Config.{Config}
use Rattle.ct_frame.specs.declared.frame.Assigned.{Assigned}
use Rattle.ct_frame.specs.declared.frame.Frame.{Frame}
use Rattle.ct_frame.specs.declared.frame.Msg.TheVariants as msg
use Rattle.ct_lcp2.specs.Placing.{placed}
use Rattle.ct_rules_node.specs.Node.{Node, Lead, Completed, Takeover, Run, NoRun, Releasing, Taking, is_serving, is_among, holder_in}
use Rattle.ct_rules_node.specs.Turn.{Turn, begins, with_lead, makes, posts_all}
use Rattle.ct_rules_node.specs.Takeovers as takeovers
use Rattle.ct_rules_node.specs.Takeovers.{share, assigned_in, begin_takeover, all_released, released_by, on_releaseack}
use Rattle.ct_rules_cluster.specs.Labels as label
use Rattle.ct_rules_cluster.specs.Labels.{Label, Taken}
use Rattle.ct_rules_cluster.specs.Traces.{sent_label}
use Rattle.ct_rules_cluster.specs.declared.step.PendingCall.{PendingCall}
use Rattle.ct_register.proofs.Places.{at_same, at_other}
use Rattle.ct_register.specs.Placing as placing
use Rattle.ct_register.specs.Placing.{Placing, take_list}
use Rattle.ct_register.specs.Lines.{Lines}
use Rattle.ct_register.specs.Words.{at}
use Rattle.ct_law_generation.specs.Shown.{labels_of}
use Rattle.ct_law_registers.proofs.Parts.{Choice, goes, goes_on, began, run_of, PlacesNeed, AllNeed}
use Rattle.ct_law_registers.proofs.Places.{Turns, Counts, plan, made_by}
use Rattle.ct_law_addresses.proofs.Facts.{Spots, spots, IsThere, IsLeader, LeadSays, Follower, RunStands, TakeoverStands, LeadStands, Stands, FrameStands, FollowsIn}
use Rattle.ct_law_addresses.proofs.Aside.{aside_same}
use Rattle.ct_law_addresses.proofs.Kept.{Ready, Kept, IsIdle, all_idle, taken_idle, aside_kept, all_aside_kept, frames_stand, frame_list}
use Rattle.ct_law_addresses.proofs.Placed.{plan_like, plan_of, Given, given_now, sends, alike, release_to, posts_all_is, send_releases_is, sends_stand, sends_silent, sends_tell, replaced, turned, Replaces, replaced_kept}

-- ---- who is missing still

left_among : (m n : ℕ) (ns : List ℕ) → m ≢ n → is_among m ns ≡ true → is_among m (others n ns) ≡ true
unfolding is_among
left_among m n [] ne e = e
left_among m n (k ∷ ns) ne e = either (nat_eq k n) (nat_eq m k) refl refl e (λ i. left_among m n ns ne i)
  where
    either : (b d : Bool) → nat_eq k n ≡ b → nat_eq m k ≡ d → (d || list_any (nat_eq m) ns) ≡ true → (list_any (nat_eq m) ns ≡ true → list_any (nat_eq m) (others n ns) ≡ true) → list_any (nat_eq m) (cond (not b) (k ∷ others n ns) (others n ns)) ≡ true
    either true true p q i rest = absurd (ne (eqb-true m k q ∙ eqb-true k n p))
    either true false p q i rest = rest i
    either false true p q i rest = ap (λ (t : Bool). t || list_any (nat_eq m) (others n ns)) q
    either false false p q i rest = ap (λ (t : Bool). t || list_any (nat_eq m) (others n ns)) q ∙ rest i

-- who is not missing any more is the node that was struck off, or was not missing before
met_now : (m n : ℕ) (ns : List ℕ) → is_among m (others n ns) ≡ false → (m ≡ n) ⊎ (is_among m ns ≡ false)
met_now m n ns e = ⊎_elim (λ (is : m ≡ n). inl is) (λ (ne : m ≢ n). inr (either (is_among m ns) refl ne)) (cases_eq m n)
  where
    either : (b : Bool) → is_among m ns ≡ b → m ≢ n → b ≡ false
    either true f ne = absurd (let k = left_among m n ns ne f in cc)
    either false f ne = refl

module _ (config : Config) (x : Choice) (nodes : ℕ → Node) (fs : List Frame) (r : Lines) (turns : Turns) (h : Ready config nodes fs r turns) (n : ℕ) (calls : List PendingCall) (there : IsThere (spots r) n (nodes n))
    (members : List ℕ) (t : Takeover) (leads : (nodes n).lead ≡ Completed (r.line n) members t) where
  abbrev g : ℕ
  g = r.line n

  abbrev p : Placing
  p = r.placing (r.line n)

  says : LeadSays (spots r) n (nodes n) (Completed g members t)
  says = subst (LeadSays (spots r) n (nodes n)) leads (h.rounds.leads n)

  is_leader : IsLeader (spots r) n g members
  unfolding LeadSays
  is_leader = says.0

  have_installed : (m : ℕ) → is_among m members ≡ true → r.installed g m ≡ true
  unfolding LeadSays
  have_installed = says.2

  stands : TakeoverStands config.addresses nodes (spots r) turns g members t
  unfolding LeadStands
  stands = subst (LeadStands config.addresses nodes (spots r) turns) leads (h.holds.leads n)

  installed_line : g ≡ r.pline n
  installed_line = h.rounds.stays n there.line

  line_born : r.born g ≡ true
  line_born = ap r.born installed_line ∙ h.rounds.real n (λ z. there.line (installed_line ∙ z))

  counted : Counts config.addresses p (turns g)
  counted = h.holds.counts g

  -- ---- a run begins

  module _ (able : List ℕ) where
    abbrev q : Placing
    q = began (r.members g) able p

    abbrev next_placement : List Assigned
    next_placement = placed (filter (λ k. is_among k members) able) t.made

    abbrev begun_node : Node
    begun_node = record (nodes n) { lead = Completed g members (record t { number = t.number + 1; run = Releasing next_placement members }) }

    given : Given config.addresses p (turns g)
    given = given_now config h.valid p (turns g) counted stands.pushed

    next_run : q.runs (p.begun + 1) ≡ Some (record { able = filter (λ k. is_among k (r.members g)) able; given = given.list })
    unfolding run_of
    next_run = at_same (p.begun + 1) (p.begun + 1) _ p.runs refl ∙ ap (λ (o : Option (List Assigned)). run_of o able (r.members g)) given.is

    plan_next : plan config.addresses q (p.begun + 1) ≡ next_placement
    unfolding made_by
    plan_next =
        plan_of config.addresses q (p.begun + 1) (omega arith) ∙ ap (made_by config.addresses) next_run
        ∙ ap (placed (filter (λ k. is_among k (r.members g)) able)) (given.all ∙ sym stands.made) ∙ ap (λ (ms : List ℕ). placed (filter (λ k. is_among k ms) able) t.made) is_leader.named

    plan_before : (i : ℕ) → i ≤ p.begun → plan config.addresses q i ≡ plan config.addresses p i
    plan_before i low = plan_like config.addresses p q refl i (at_other (p.begun + 1) i _ p.runs (λ e. absurd (omega arith)))

    runs_then : (i : ℕ) → 1 ≤ i → i ≤ p.begun + 1 → (run : placing.Run) × (q.runs i ≡ Some run)
    runs_then i low high = ⊎_elim
        (λ (e : i ≡ p.begun + 1). (_, ap q.runs e ∙ next_run))
        (λ (ne : i ≢ p.begun + 1). (let k = counted.runs i low (omega arith) in (k.0, at_other (p.begun + 1) i _ p.runs ne ∙ k.1)))
        (cases_eq i (p.begun + 1))

    follows_then : (k : ℕ) → r.line k ≡ g → r.line k ≢ 0 → FollowsIn config.addresses q (turns g) k (nodes k)
    follows_then k e line =
        let f : FollowsIn config.addresses p (turns g) k (nodes k) = subst (λ (l : ℕ). FollowsIn config.addresses (r.placing l) (turns l) k (nodes k)) e (h.holds.follows k line) in
        record {
          after = f.after;
          within = (let w = f.within in omega arith);
          turn = λ a has. ap (holder_in a) (plan_before (turns g) counted.turn) ∙ f.turn a has;
          own = λ a has. ap (holder_in a) (plan_before (nodes k).last_run f.within) ∙ f.own a has;
        }

    begun_replaces : Replaces config x nodes fs r turns h n begun_node g q (turns g) r.born
    begun_replaces = record {
      grown = record { pushed = λ xs e. e; begun = omega arith; plans = λ i low high. plan_before i high; turn = omega arith; taken = λ i xs low e. e };
      counts = record {
        turn = (let c = counted.turn in omega arith);
        runs = runs_then;
        none = counted.none;
        last = λ some. counted.last some ∙ ap (λ (l : List Assigned). Some (assigned_in l)) (sym (plan_before (turns g) counted.turn));
        pushed = λ z. stands.pushed;
      };
      is_born = line_born;
      others = λ l ne. refl;
      installed = λ some m member. h.holds.installed g m some member;
      follows = follows_then;
      leader = is_leader.given;
      held = refl;
      last_run = refl;
    }

    abbrev c : Spots
    c = replaced config x nodes fs r turns h n begun_node g q (turns g) r.born

    abbrev then : Turns
    then = turned config x nodes fs r turns h n begun_node g q (turns g) r.born

    here : c.placing g ≡ q
    here = at_same g g q r.placing refl

    here_turn : then g ≡ turns g
    here_turn = at_same g g (turns g) turns refl

    number_then : t.number + 1 ≡ (c.placing g).begun
    number_then = ap (λ (k : ℕ). k + 1) stands.number ∙ ap (λ (y : Placing). y.begun) (sym here)

    placed_then : next_placement ≡ plan config.addresses (c.placing g) (t.number + 1)
    placed_then = sym plan_next ∙ (λ i. plan config.addresses (sym here i) (ap (λ (k : ℕ). k + 1) (sym stands.number) i))

    begun_lead : LeadStands config.addresses (at n begun_node nodes) c then begun_node.lead
    unfolding LeadStands RunStands
    begun_lead = record {
      pushed = λ z. stands.pushed (ap (λ (y : Placing). y.pushed) (sym here) ∙ z);
      number = number_then;
      made = stands.made ∙ sym (plan_before (turns g) counted.turn) ∙ (λ i. plan config.addresses (sym here i) (sym here_turn i));
      run = (placed_then, (let a = counted.turn in let b = stands.number in let e = here_turn in omega arith), λ m member met. absurd (cc));
    }

    release_stands : (k : ℕ) → FrameStands config.addresses (at n begun_node nodes) c then (release_to g n (t.number + 1) next_placement k)
    unfolding Stands
    release_stands k = (omega arith, (let e = number_then in omega arith), ap (share k) placed_then)

    need : AllNeed (PlacesNeed config) config x r (label.Takeover n able ∷ [])
    unfolding AllNeed PlacesNeed
    need = ((there.line, λ e. absurd (let f = given.is in cc)), tt)

    gone : spots (goes_on config x (label.Takeover n able ∷ []) r) ≡ c
    unfolding goes_on goes
    gone = refl

    abbrev Begins_by : Turn → Type 0
    Begins_by u = Kept config x (at n u.node nodes) fs r (label.Takeover n able ∷ labels_of n calls u.outs) (frame_list u.outs)

    silent : labels_of n calls (sends (release_to g n (t.number + 1) next_placement) members) ≡ []
    unfolding sent_label
    silent = sends_silent n calls (release_to g n (t.number + 1) next_placement) members (λ k. refl)

    begun_kept : (spent : Bool) → Begins_by (record { node = begun_node; outs = sends (release_to g n (t.number + 1) next_placement) members; spent = spent })
    begun_kept spent = subst (λ (ls : List Label). Kept config x (at n begun_node nodes) fs r (label.Takeover n able ∷ ls) (frame_list (sends (release_to g n (t.number + 1) next_placement) members))) (sym silent)
        (replaced_kept config x nodes fs r turns h n begun_node g q (turns g) r.born begun_replaces (label.Takeover n able ∷ []) need gone begun_lead _
        (frames_stand config.addresses (at n begun_node nodes) c then (sends (release_to g n (t.number + 1) next_placement) members) (sends_stand config.addresses (at n begun_node nodes) c then _ members release_stands)))

    runs_kept : Begins_by (takeovers.runs n g members t (t.number + 1) next_placement (begins (nodes n)))
    unfolding takeovers.runs makes with_lead
    runs_kept = subst Begins_by (sym (send_releases_is n g (t.number + 1) next_placement members _)) (begun_kept (makes (t.number + 1) (begins (nodes n))).spent)

    pub takeover_kept : is_serving (nodes n).phase ≡ true → Begins_by (begin_takeover n able (begins (nodes n)) (nodes n).lead)
    unfolding begin_takeover
    takeover_kept serving = subst (λ (l : Lead). Begins_by (begin_takeover n able (begins (nodes n)) l)) (sym leads) (either (is_serving (nodes n).phase) (nat_eq (nodes n).generation g) serving (eq-eqb _ _ there.generation))
      where
        either : (a b : Bool) → a ≡ true → b ≡ true → Begins_by (cond (a && b) (takeovers.runs n g members t (t.number + 1) next_placement (begins (nodes n))) (begins (nodes n)))
        either true true e f = runs_kept
        either true false e f = absurd (cc)
        either false b e f = absurd (cc)

  -- ---- all have released

  module _ (pl : List Assigned) (missing : List ℕ) (releasing : t.run ≡ Releasing pl missing) (from : ℕ) (acked : Stands config.addresses nodes (spots r) turns g from n (msg.ReleaseAck t.number)) where
    abbrev Goes_by : Turn → Type 0
    Goes_by u = Kept config x (at n u.node nodes) fs r (labels_of n calls u.outs) (frame_list u.outs)

    run_stands : RunStands config.addresses nodes (spots r) turns g members t.number (Releasing pl missing)
    run_stands = subst (RunStands config.addresses nodes (spots r) turns g members t.number) releasing stands.run

    is_plan : pl ≡ plan config.addresses p t.number
    unfolding RunStands
    is_plan = run_stands.0

    newer : turns g < t.number
    unfolding RunStands
    newer = run_stands.1

    -- who is not missing any more follows the run
    follower : (m : ℕ) → is_among m members ≡ true → is_among m (others from missing) ≡ false → Follower nodes (spots r) g t.number m
    unfolding RunStands Stands
    follower m member met = ⊎_elim
        (λ (e : m ≡ from). subst (λ (k : ℕ). Follower nodes (spots r) g t.number k) (sym e) acked.3)
        (λ (f : is_among m missing ≡ false). run_stands.2 m member f)
        (met_now m from missing met)

    -- some are missing still
    abbrev waiting_node : List ℕ → Node
    waiting_node left = record (nodes n) { lead = Completed g members (record t { run = Releasing pl left }) }

    same_follower : (y : Node) → y.last_run ≡ (nodes n).last_run → (m : ℕ) → Follower nodes (spots r) g t.number m → Follower (at n y nodes) (spots r) g t.number m
    same_follower y same m f line = (let k = f line in let e = last_run_at m in omega arith)
      where
        last_run_at : (m : ℕ) → (at n y nodes m).last_run ≡ (nodes m).last_run
        last_run_at m = ⊎_elim (λ (e : m ≡ n). ap (λ (z : Node). z.last_run) (at_same n m y nodes e) ∙ same ∙ ap (λ (k : ℕ). (nodes k).last_run) (sym e)) (λ (ne : m ≢ n). ap (λ (z : Node). z.last_run) (at_other n m y nodes ne)) (cases_eq m n)

    waits_kept : (left : List ℕ) → others from missing ≡ left → Goes_by (record { node = waiting_node left; outs = []; spent = false })
    unfolding LeadStands RunStands
    waits_kept left e = aside_kept config x nodes fs r turns h n calls [] (record { node = waiting_node left; outs = []; spent = false }) (record { node = waiting_node left; outs = []; spent = false }) tt refl refl refl aside_same (record {
      pushed = stands.pushed;
      number = stands.number;
      made = stands.made;
      run = (is_plan, newer, λ m member met. same_follower (waiting_node left) refl m (follower m member (ap (is_among m) e ∙ met)));
    })

    -- nobody is
    module _ (nobody : others from missing ≡ []) where
      abbrev xs : List Assigned
      xs = assigned_in pl

      abbrev after_take : Placing
      after_take = record p { taken = at t.number (Some xs) p.taken; last = Some xs }

      abbrev handed_node : Node
      handed_node = record (nodes n) { lead = Completed g members (record t { made = pl; run = Taking pl }) }

      all_follow : (m : ℕ) → is_among m members ≡ true → Follower nodes (spots r) g t.number m
      unfolding is_among
      all_follow m member = follower m member (ap (is_among m) nobody)

      run : (run : placing.Run) × (p.runs t.number ≡ Some run)
      run = counted.runs t.number (let e = newer in omega arith) (let e = stands.number in omega arith)

      list_is : xs ≡ take_list config.addresses run.0
      unfolding take_list assigned_in made_by
      list_is = ap assigned_in (is_plan ∙ plan_of config.addresses p t.number (let e = newer in omega arith) ∙ ap (made_by config.addresses) run.1)

      plan_same : (i : ℕ) → plan config.addresses after_take i ≡ plan config.addresses p i
      plan_same i = plan_like config.addresses p after_take refl i refl

      is_member : (k : ℕ) → r.line k ≡ g → r.line k ≢ 0 → is_among k members ≡ true
      is_member k e line =
          ap (is_among k) (sym is_leader.named) ∙ ap (λ (l : ℕ). is_among k (r.members l)) (sym e) ∙ h.rounds.named k line

      follows_handed : (k : ℕ) → r.line k ≡ g → r.line k ≢ 0 → FollowsIn config.addresses after_take t.number k (nodes k)
      follows_handed k e line =
          let f : FollowsIn config.addresses p (turns g) k (nodes k) = subst (λ (l : ℕ). FollowsIn config.addresses (r.placing l) (turns l) k (nodes k)) e (h.holds.follows k line) in
          let low : t.number ≤ (nodes k).last_run = all_follow k (is_member k e line) e in
          let same : t.number ≡ (nodes k).last_run = (let w = f.within in let s = stands.number in omega arith) in
          record {
            after = low;
            within = f.within;
            turn = λ a has. ap (holder_in a) (plan_same t.number) ∙ ap (λ (i : ℕ). holder_in a (plan config.addresses p i)) same ∙ f.own a has;
            own = λ a has. ap (holder_in a) (plan_same (nodes k).last_run) ∙ f.own a has;
          }

      handed_replaces : Replaces config x nodes fs r turns h n handed_node g after_take t.number r.born
      handed_replaces = record {
        grown = record {
          pushed = λ ys e. e;
          begun = omega arith;
          plans = λ i low high. plan_same i;
          turn = (let e = newer in omega arith);
          taken = λ i ys low e. at_other t.number i (Some xs) p.taken (λ same. absurd (let l = newer in omega arith)) ∙ e;
        };
        counts = record {
          turn = (let e = stands.number in omega arith);
          runs = counted.runs;
          none = λ z. absurd (let l = newer in omega arith);
          last = λ some. ap (λ (l : List Assigned). Some (assigned_in l)) (is_plan ∙ sym (plan_same t.number));
          pushed = counted.pushed;
        };
        is_born = line_born;
        others = λ l ne. refl;
        installed = λ some m member. have_installed m (ap (is_among m) (sym is_leader.named) ∙ member);
        follows = follows_handed;
        leader = is_leader.given;
        held = refl;
        last_run = refl;
      }

      abbrev d : Spots
      d = replaced config x nodes fs r turns h n handed_node g after_take t.number r.born

      abbrev handed : Turns
      handed = turned config x nodes fs r turns h n handed_node g after_take t.number r.born

      here_handed : d.placing g ≡ after_take
      here_handed = at_same g g after_take r.placing refl

      handed_at : handed g ≡ t.number
      handed_at = at_same g g t.number turns refl

      plan_handed : pl ≡ plan config.addresses (d.placing g) t.number
      plan_handed = is_plan ∙ sym (plan_same t.number) ∙ ap (λ (y : Placing). plan config.addresses y t.number) (sym here_handed)

      taken_handed : (d.placing g).taken t.number ≡ Some xs
      taken_handed = ap (λ (y : Placing). y.taken t.number) here_handed ∙ at_same t.number t.number (Some xs) p.taken refl

      handed_lead : LeadStands config.addresses (at n handed_node nodes) d handed handed_node.lead
      unfolding LeadStands RunStands
      handed_lead = record {
        pushed = λ z. stands.pushed (ap (λ (y : Placing). y.pushed) (sym here_handed) ∙ z);
        number = stands.number ∙ ap (λ (y : Placing). y.begun) (sym here_handed);
        made = plan_handed ∙ ap (plan config.addresses (d.placing g)) (sym handed_at);
        run = (plan_handed, handed_at, (let l = newer in omega arith), taken_handed);
      }

      take_stands : (k : ℕ) → FrameStands config.addresses (at n handed_node nodes) d handed (alike g n (msg.Take t.number xs) k)
      unfolding Stands
      take_stands k = ((let l = newer in omega arith), (let e = handed_at in omega arith), taken_handed, ap assigned_in plan_handed)

      -- the first take changes the placing, and the others find it so
      told : (ns : List ℕ) → ns ≢ [] → AllNeed (PlacesNeed config) config x r (map (λ k. Taken n g t.number xs) ns) × (spots (goes_on config x (map (λ k. Taken n g t.number xs) ns) r) ≡ d)
      unfolding AllNeed PlacesNeed goes_on goes
      told [] some = absurd (some refl)
      told (k ∷ ks) some =
          let rest = all_idle config x d (map (λ j. Taken n g t.number xs) ks) _ refl (again ks) in
          (((refl, there.line, (run.0, run.1, list_is)), rest.0), rest.1)
        where
          again : (js : List ℕ) → AllByRecursion (IsIdle config d) (map (λ j. Taken n g t.number xs) js)
          again [] = tt
          again (j ∷ js) = (
            taken_idle config d n g t.number xs run.0 refl there.line (ap (λ (y : Placing). y.runs t.number) here_handed ∙ run.1) list_is taken_handed (ap (λ (y : Placing). y.last) here_handed),
            again js,
          )

      some_members : members ≢ []
      unfolding is_among
      some_members e = absurd (let k = is_leader.member in let f = ap (is_among n) (sym e) ∙ k in cc)

      tells : labels_of n calls (sends (alike g n (msg.Take t.number xs)) members) ≡ map (λ k. Taken n g t.number xs) members
      unfolding sent_label
      tells = sends_tell n calls (alike g n (msg.Take t.number xs)) (Taken n g t.number xs) members (λ k. refl)

      handed_kept : Goes_by (record { node = handed_node; outs = sends (alike g n (msg.Take t.number xs)) members; spent = false })
      handed_kept =
          let told_all = told members some_members in
          subst (λ (ls : List Label). Kept config x (at n handed_node nodes) fs r ls (frame_list (sends (alike g n (msg.Take t.number xs)) members))) (sym tells)
          (replaced_kept config x nodes fs r turns h n handed_node g after_take t.number r.born handed_replaces _ told_all.0 told_all.1 handed_lead _
          (frames_stand config.addresses (at n handed_node nodes) d handed (sends (alike g n (msg.Take t.number xs)) members) (sends_stand config.addresses (at n handed_node nodes) d handed _ members take_stands)))

      hands_out : Goes_by (posts_all g n members (msg.Take t.number (assigned_in pl)) (with_lead (Completed g members (record t { made = pl; run = Taking pl })) (begins (nodes n))))
      unfolding with_lead
      hands_out = subst Goes_by (sym (posts_all_is g n members (msg.Take t.number xs) _)) handed_kept

    released_kept : (left : List ℕ) → others from missing ≡ left → Goes_by (all_released n g members t pl (begins (nodes n)) left)
    unfolding all_released with_lead
    released_kept [] e = hands_out e
    released_kept (m ∷ ms) e = waits_kept (m ∷ ms) e

  abbrev Acks_by : Turn → Type 0
  Acks_by u = Kept config x (at n u.node nodes) fs r (labels_of n calls u.outs) (frame_list u.outs)

  ack_nothing : Acks_by (begins (nodes n))
  ack_nothing = all_aside_kept config x nodes fs r turns h n calls [] (begins (nodes n)) tt aside_same

  ack_run : (from : ℕ) → Stands config.addresses nodes (spots r) turns g from n (msg.ReleaseAck t.number) → (run : Run) → t.run ≡ run → Acks_by (released_by n from g members t (begins (nodes n)) run)
  unfolding released_by
  ack_run from acked NoRun e = ack_nothing
  ack_run from acked (Taking pl) e = ack_nothing
  ack_run from acked (Releasing pl missing) e = either (is_among from missing)
    where
      either : (b : Bool) → Acks_by (cond b (all_released n g members t pl (begins (nodes n)) (others from missing)) (begins (nodes n)))
      either true = released_kept pl missing e from acked (others from missing) refl
      either false = ack_nothing

  -- a ReleaseAck comes to the leader of its line
  pub releaseack_kept : (from number : ℕ) → Stands config.addresses nodes (spots r) turns g from n (msg.ReleaseAck number) → Acks_by (on_releaseack n from g number (begins (nodes n)) (nodes n).lead)
  unfolding on_releaseack
  releaseack_kept from number acked = subst (λ (l : Lead). Acks_by (on_releaseack n from g number (begins (nodes n)) l)) (sym leads) (either (nat_eq g g) (nat_eq t.number number) refl)
    where
      either : (a b : Bool) → nat_eq t.number number ≡ b → Acks_by (cond (a && b) (released_by n from g members t (begins (nodes n)) t.run) (begins (nodes n)))
      either true true e = ack_run from (subst (λ (k : ℕ). Stands config.addresses nodes (spots r) turns g from n (msg.ReleaseAck k)) (sym (eqb-true t.number number e)) acked) t.run refl
      either true false e = ack_nothing
      either false b e = ack_nothing
