-- A node that did nothing lives on, when registers and worlds go on.
use Rattle.std.proofs.Common.{◌≡◌, ◌≢◌, ℕ, ◌<◌, ◌≤◌, Bool, true, false, ◌||◌, ◌^◌, List, [], ◌∷◌, inl, inr, ⊎_elim, refl, sym, ap, ◌∙◌, subst, arith}
use Rattle.std.specs.Prelude.{nat_eq}
use Rattle.std.specs.List.{AllByRecursion}
use Rattle.std.proofs.lemmas.Bool.{cases_eq, eq-eqb, cases_Bool}
use Rattle.ct_values.specs.declared.config.Config.{Config}
use Rattle.ct_frame.specs.declared.frame.Frame.{Frame}
use Rattle.ct_frame.specs.declared.frame.Msg.{Msg}
use Rattle.ct_frame.specs.declared.frame.Msg.TheVariants as msg
use Rattle.ct_frame.specs.declared.frame.TableRow.{TableRow}
use Rattle.ct_call.specs.Rules.{Rules}
use Rattle.ct_merge.specs.Gathered.{Gathered}
use Rattle.ct_merge.specs.Rule.{row_at}
use Rattle.ct_rules.specs.State.{nothing_kept}
use Rattle.ct_rules.specs.declared.state.RecState.{RecState}
use Rattle.ct_law_rules.proofs.Events.{in_form_at_start}
use Rattle.ct_rules_node.specs.Node as node
use Rattle.ct_rules_node.specs.Node.{Node, Phase, Idle, Serving, Installed, Freezing, Frozen, Lead, Nothing, Freezes, Pulls, Installs, Completed, master_of, is_among, kind_at, is_readonly, db_at, state_at}
use Rattle.ct_rules_node.specs.Rounds.{row_of}
use Rattle.ct_store.specs.Map.{Pairs, look}
use Rattle.ct_rules_cluster.specs.Cluster.{Cluster, Sent}
use Rattle.ct_register.specs.Lines.{Lines}
use Rattle.ct_law_record.specs.World as law
use Rattle.ct_law_record.specs.World.{Scene, View}
use Rattle.ct_law_generation.specs.Shown.{scene, view}
use Rattle.ct_law_generation.proofs.Pending.{Callers, NodeKnown}
use Rattle.ct_law_generation.proofs.Forming.{Is_formed}
use Rattle.ct_law_generation.proofs.Staying.{NodeStays}
use Rattle.ct_law_run.proofs.Ages.{Ages, era_of, row_in, begun_view, Rests}
use Rattle.ct_law_run.proofs.Lives.{AllHaveInstalled, Replied, ReplySays, Waits, WasSent, IsGatheredOf, LeadSays, PhaseSays, NodeLives}
use Rattle.ct_law_run.proofs.Later.{Later, Away}
use Rattle.ct_law_run.proofs.Framing.{ticket_later}

-- does the node lead the round of this generation, before its line is born?
unfoldable pub is_led : ℕ → Lead → Bool
is_led g (Freezes h members missing) = nat_eq h g
is_led g (Pulls h members missing x) = nat_eq h g
is_led g l = false

-- a line that is born by the step: the node promised it, is as it will install it, and does not lead its round
pub record Fresh (c : Config) (rules : Rules) (r s : Lines) (b : Ages) (k : ℕ) (x : Node) (g : ℕ) : Type 0 where
  pub promised : is_among k (s.members g) ≡ true → g ≤ x.promise
  pub past : (h : ℕ) → x.phase ≢ Freezing g h
  pub begun : x.phase ≡ Frozen g → (db : ℕ) (key : List ℕ) → (b.worlds g db key).nodes k ≡ begun_view (scene c (era_of s b g) rules db key) (row_in b g db key) k (state_at db key x).wish x.next
  pub led : is_led g x.lead ≡ false

abbrev pub AllFresh : Config → Rules → Lines → Lines → Ages → ℕ → Node → Type 0
AllFresh c rules r s b k x = (g : ℕ) → r.born g ≡ false → s.born g ≡ true → Fresh c rules r s b k x g

-- where no line is born there is none
pub none_fresh : (c : Config) (rules : Rules) (r s : Lines) (b : Ages) (k : ℕ) (x : Node) → ((g : ℕ) → s.born g ≡ r.born g) → AllFresh c rules r s b k x
none_fresh c rules r s b k x same g old now = absurd (let e = sym old ∙ sym (same g) ∙ now in cc)

-- what holds of each holds of each then
pub each_then : {X : Type 0} (P Q : X → Type 0) → ((x : X) → P x → Q x) → (xs : List X) → AllByRecursion P xs → AllByRecursion Q xs
each_then P Q f [] h = tt
each_then P Q f (x ∷ xs) h = (f x h.0, each_then P Q f xs h.1)

-- ---- the form of records

-- the form speaks of the members of the line alone
pub formed_as : (c : Config) (rules : Rules) (db n : ℕ) (key ms ns : List ℕ) (v : View) → ms ≡ ns →
    Is_formed (record { db = db; key = key; lmaster = master_of ms key; readonly = is_readonly (kind_at c db); members = ms; rules = rules }) n v →
    Is_formed (record { db = db; key = key; lmaster = master_of ns key; readonly = is_readonly (kind_at c db); members = ns; rules = rules }) n v
formed_as c rules db n key ms ns v e h = subst (λ (x : List ℕ). Is_formed (record { db = db; key = key; lmaster = master_of x key; readonly = is_readonly (kind_at c db); members = x; rules = rules }) n v) e h

-- what nothing is kept of is in form, whoever the members are
pub empty_formed : (s : Scene) (n next floor : ℕ) (x : RecState) → x ≡ nothing_kept → 1 ≤ next → next < 2 ^ 62 → floor < 2 ^ 62 → Is_formed s n (record { state = x; next = next; floor = floor })
empty_formed s n next floor x none one low below = subst (λ (y : RecState). Is_formed s n (record { state = y; next = next; floor = floor })) (sym none) (record {
  form = in_form_at_start (law.place s n (record { state = nothing_kept; next = next; floor = floor })) next (record { from_one = one; next_limit = low; floor_limit = below });
  tracks = record { tracked_held = λ e. absurd (cc); vacuum_untracked = λ e. refl };
  waits = refl;
})

pub state_none : (db : ℕ) (key : List ℕ) (x : Node) → (db_at db x).records ≡ [] → state_at db key x ≡ nothing_kept
unfolding state_at node.or_nothing
state_none db key x e = ap (λ (m : Pairs RecState). node.or_nothing (look key m)) e

-- who is in no line keeps no records
pub empty_out : (c : Config) (rules : Rules) (who : Callers) (w : Cluster) (r : Lines) (a : Ages) (n : ℕ) (x : Node) (p : Phase) → PhaseSays c rules who w r a n x p → r.line n ≡ 0 → (db : ℕ) → (db_at db x).records ≡ []
unfolding PhaseSays
empty_out c rules who w r a n x Idle h out = h.1
empty_out c rules who w r a n x (Freezing g l) h out = h.4 out
empty_out c rules who w r a n x (Frozen g) h out = h.3 out
empty_out c rules who w r a n x p h out = absurd (h.0 out)

-- ---- the node

or_grows : (a b d : Bool) → (b ≡ true → d ≡ true) → (a || b) ≡ true → (a || d) ≡ true
or_grows true b d f e = refl
or_grows false b d f e = f e

waits_grow : (members missing : List ℕ) (P Q : ℕ → Type 0) → ((m : ℕ) → P m → Q m) → Waits members missing P → Waits members missing Q
waits_grow members missing P Q f h = record { within = h.within; met = λ m among. ⊎_elim (λ (e : is_among m missing ≡ true). inl e) (λ (p : P m). inr (f m p)) (h.met m among) }

module _ (c : Config) (rules : Rules) (who them : Callers) (w v : Cluster) (r : Lines) (a : Ages) (s : Lines) (b : Ages) (k : ℕ) (x : Node) (later : Later r a s b) (away : Away r a s b k) where
  pub replied_away : (g vbase pbase : ℕ) (table : List TableRow) → Replied r a g k vbase pbase table x → Replied s b g k vbase pbase table x
  replied_away g vbase pbase table h = record {
    promised = h.promised;
    given = (let l = h.given in let m = later.last in omega arith);
    older = h.older;
    had = later.had g k vbase h.given h.had;
    still = λ some below. away.line ∙ h.still (λ e. some (away.line ∙ e)) (subst (λ (j : ℕ). j < g) away.line below);
    past = h.past;
    stuck = λ some e. h.stuck some (sym away.line ∙ e);
    some = λ ne. (let q = h.some ne in (
      later.born vbase q.0,
      or_grows (nat_eq vbase 1) (r.installed vbase k) (s.installed vbase k) (later.installed vbase k) q.1,
      λ db key. q.2 db key ∙ ap (λ (y : View). row_of k db key y.state.copy) (sym (away.views vbase db key q.0)),
    ));
    order = h.order;
    polder = h.polder;
    phad = later.phad g k pbase h.given h.phad;
    pstill = λ below. away.pline ∙ h.pstill (subst (λ (j : ℕ). j < g) away.pline below);
  }

  pub reply_away : (f : Frame) (m : Msg) → ReplySays r a k x f m → ReplySays s b k x f m
  unfolding ReplySays
  reply_away f (msg.PullReply vbase pbase table ptables addresses) h = λ own. replied_away f.generation vbase pbase table (h own)
  reply_away f m h = h

  -- what it told of itself it has still
  pub replies_away : (ss : List Sent) → AllByRecursion (λ q. ReplySays r a k x q.frame q.frame.msg) ss → AllByRecursion (λ q. ReplySays s b k x q.frame q.frame.msg) ss
  replies_away ss h = each_then (λ q. ReplySays r a k x q.frame q.frame.msg) (λ q. ReplySays s b k x q.frame q.frame.msg) (λ q p. reply_away q.frame q.frame.msg p) ss h

  module _ (fresh : AllFresh c rules r s b k x) (known : NodeKnown them v.calls k x) (sent : (f : Frame) → WasSent w f → WasSent v f) (named : r.line k ≢ 0 → r.born (r.line k) ≡ true) where
    unborn_still : (g : ℕ) → r.born g ≡ false → (s.born g ≡ true → ⊥) → s.born g ≡ false
    unborn_still g old none = ⊎_elim (λ (t : s.born g ≡ true). absurd (none t)) (λ (f : s.born g ≡ false). f) (cases_Bool (s.born g))

    rests_away : (r.line k ≢ 0 → (db : ℕ) (key : List ℕ) → Rests db key ((a.worlds (r.line k) db key).nodes k) x) → s.line k ≢ 0 → (db : ℕ) (key : List ℕ) → Rests db key ((b.worlds (s.line k) db key).nodes k) x
    rests_away h ne db key = (let some : r.line k ≢ 0 = λ e. ne (away.line ∙ e) in
        subst (λ (j : ℕ). Rests db key ((b.worlds j db key).nodes k) x) (sym away.line) (subst (λ (y : View). Rests db key y x) (sym (away.views (r.line k) db key (named some))) (h some db key)))

    begun_away : (g : ℕ) → x.phase ≡ Frozen g → (r.born g ≡ true → (db : ℕ) (key : List ℕ) → (a.worlds g db key).nodes k ≡ begun_view (scene c (era_of r a g) rules db key) (row_in a g db key) k (state_at db key x).wish x.next) →
        s.born g ≡ true → (db : ℕ) (key : List ℕ) → (b.worlds g db key).nodes k ≡ begun_view (scene c (era_of s b g) rules db key) (row_in b g db key) k (state_at db key x).wish x.next
    begun_away g is h now db key = ⊎_elim
        (λ (t : r.born g ≡ true). away.views g db key t ∙ h t db key
        ∙ (λ i. begun_view (record { db = db; key = key; lmaster = master_of (sym (later.members g t) i) key; readonly = is_readonly (kind_at c db); members = sym (later.members g t) i; rules = rules }) (row_at db key (sym (later.tables g t) i)) k (state_at db key x).wish x.next))
        (λ (f : r.born g ≡ false). (fresh g f now).begun is db key)
        (cases_Bool (r.born g))

    stays_away : NodeStays c (era_of r a (r.line k)) rules who w.calls k (record x { lead = Nothing }) → r.line k ≢ 0 → NodeStays c (era_of s b (s.line k)) rules them v.calls k (record x { lead = Nothing })
    unfolding db_at state_at
    stays_away h some = (let ms : r.members (r.line k) ≡ s.members (s.line k) = sym (later.members (r.line k) (named some)) ∙ ap s.members (sym away.line) in record {
      present = subst (λ (j : ℕ). node.is_present_in j (record x { lead = Nothing }) ≡ true) (sym away.line) h.present;
      knows = h.knows ∙ ms;
      promise = h.promise ∙ sym away.line;
      lead = λ a. absurd (cc);
      size = h.size;
      known = record { order = known.order; dbs = known.dbs };
      waits = h.waits;
      serves = λ e. absurd (cc);
      formed = λ db key. formed_as c rules db k key _ _ (view db key x) ms (h.formed db key);
    })

    phase_away : (p : Phase) → x.phase ≡ p → PhaseSays c rules who w r a k x p → PhaseSays c rules them v s b k x p
    unfolding PhaseSays
    phase_away Idle is h = (away.line ∙ h.0, h.1, h.2)
    phase_away (Freezing g l) is h = (
      (h.0.0, later.leader g h.0.0 h.0.1),
      unborn_still g h.1 (λ t. (fresh g h.1 t).past l is),
      h.2,
      subst (λ (j : ℕ). j < g) (sym away.pline) h.3,
      λ out. h.4 (sym away.line ∙ out),
      rests_away h.5,
      h.6,
      subst (λ (ms : List ℕ). is_among k ms ≡ true) (sym (later.named g h.0.0 h.0.1)) h.7,
    )
    phase_away (Frozen g) is h = (
      (h.0.0, later.leader g h.0.0 h.0.1),
      h.1,
      subst (λ (j : ℕ). j < g) (sym away.pline) h.2,
      λ out. h.3 (sym away.line ∙ out),
      rests_away h.4,
      h.5,
      h.6,
      begun_away g is h.7,
    )
    phase_away Serving is h = (
      λ out. h.0 (sym away.line ∙ out),
      stays_away h.1 h.0,
      subst (λ (j : ℕ). (db : ℕ) (key : List ℕ) → (b.worlds j db key).nodes k ≡ view db key x) (sym away.line) (λ db key. away.views (r.line k) db key (named h.0) ∙ h.2 db key),
      λ ne. subst (λ (j : ℕ). AllHaveInstalled s j (s.members j)) (sym away.line)
          (λ m among. later.installed (r.line k) m (h.3 (λ e. ne (away.line ∙ e)) m (subst (λ (ms : List ℕ). is_among m ms ≡ true) (later.members (r.line k) (named h.0)) among))),
    )
    phase_away Installed is h = (
      λ out. h.0 (sym away.line ∙ out),
      stays_away h.1 h.0,
      subst (λ (j : ℕ). (db : ℕ) (key : List ℕ) → (b.worlds j db key).nodes k ≡ view db key x) (sym away.line) (λ db key. away.views (r.line k) db key (named h.0) ∙ h.2 db key),
    )

    gathered_away : (g : ℕ) (members missing : List ℕ) (y : Gathered) → IsGatheredOf w k g members missing y → IsGatheredOf v k g members missing y
    gathered_away g members missing y h = record { pulls = h.pulls; same = h.same; sent = λ p has. sent _ (h.sent p has); member = h.member; waits = h.waits }

    unled : (g : ℕ) → r.born g ≡ false → is_led g x.lead ≡ true → s.born g ≡ true → ⊥
    unled g old leads now = absurd (let e = sym leads ∙ (fresh g old now).led in cc)

    lead_away : (l : Lead) → x.lead ≡ l → LeadSays c w r a k l → LeadSays c v s b k l
    unfolding LeadSays is_led
    lead_away Nothing is h = tt
    lead_away (Freezes g members missing) is h = (ticket_later c r a s b g k members later h.0, unborn_still g h.1 (unled g h.1 (ap (is_led g) is ∙ eq-eqb g g refl)))
    lead_away (Pulls g members missing y) is h = (ticket_later c r a s b g k members later h.0, unborn_still g h.1 (unled g h.1 (ap (is_led g) is ∙ eq-eqb g g refl)), gathered_away g members missing y h.2)
    lead_away (Installs g members missing body) is h = (
      ticket_later c r a s b g k members later h.0,
      later.born g h.1,
      h.2,
      h.3 ∙ sym (later.tables g h.1),
      waits_grow members missing (λ m. r.installed g m ≡ true) (λ m. s.installed g m ≡ true) (later.installed g) h.4,
    )
    lead_away (Completed g members t) is h = (ticket_later c r a s b g k members later h.0, later.born g h.1, λ m among. later.installed g m (h.2 m among))

    formed_away : (h : NodeLives c rules who w r a k x) (db : ℕ) (key : List ℕ) → Is_formed (scene c (era_of s b (s.line k)) rules db key) k (view db key x)
    formed_away h db key = ⊎_elim
        (λ (out : r.line k ≡ 0). (let f = h.formed db key in empty_formed _ k x.next (db_at db x).floor (state_at db key x) (state_none db key x (empty_out c rules who w r a k x x.phase h.phase out db)) f.form.counters.from_one f.form.counters.next_limit f.form.counters.floor_limit))
        (λ (some : r.line k ≢ 0). formed_as c rules db k key _ _ (view db key x) (sym (later.members (r.line k) (named some)) ∙ ap s.members (sym away.line)) (h.formed db key))
        (cases_eq (r.line k) 0)

    -- the node lives on
    pub node_away : AllByRecursion (λ q. ReplySays s b k x q.frame q.frame.msg) v.sent → NodeLives c rules who w r a k x → NodeLives c rules them v s b k x
    node_away replies h = record {
      size = h.size;
      known = known;
      line = h.line ∙ sym away.line;
      base = h.base ∙ sym away.pline;
      older = subst (λ (j : ℕ). j ≤ x.promise) (sym away.pline) h.older;
      given = (let l = h.given in let m = later.last in omega arith);
      named = λ ne. (let q = h.named (λ e. ne (away.line ∙ e)) in
          subst (λ (j : ℕ). (s.born j ≡ true) × (x.members ≡ s.members j) × (is_among k (s.members j) ≡ true)) (sym away.line)
          (later.born (r.line k) q.0, q.1 ∙ sym (later.members (r.line k) q.0), subst (λ (ms : List ℕ). is_among k ms ≡ true) (sym (later.members (r.line k) q.0)) q.2));
      done = λ two. subst (λ (j : ℕ). s.installed j k ≡ true) (sym away.line) (later.installed (r.line k) k (h.done (subst (λ (j : ℕ). 2 ≤ j) away.line two)));
      promises = λ g now among. ⊎_elim
          (λ (t : r.born g ≡ true). h.promises g t (subst (λ (ms : List ℕ). is_among k ms ≡ true) (later.members g t) among))
          (λ (f : r.born g ≡ false). (fresh g f now).promised among)
          (cases_Bool (r.born g));
      waits = h.waits;
      formed = formed_away h;
      commits = h.commits;
      persist = h.persist;
      serving = h.serving;
      phase = phase_away x.phase refl h.phase;
      lead = lead_away x.lead refl h.lead;
      replies = replies;
    }
