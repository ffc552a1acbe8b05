-- What holds of a node that is present: it is in a line, in which it stays, and whose worlds have all that it has.
use Rattle.std.proofs.Common.{◌≡◌, ◌≢◌, ℕ, ◌≤◌, Bool, true, false, ◌||◌, List, ⊎_elim, refl, sym, ap, ◌∙◌, subst, arith}
use Rattle.std.specs.Prelude.{nat_eq, nat_lt, is_some}
use Rattle.std.specs.List.{AllByRecursion}
use Rattle.std.proofs.lemmas.Bool.{cases_eq, eq-eqb, cases_Bool, or_right}
use Rattle.ct_values.specs.declared.config.Config.{Config}
use Rattle.ct_frame.specs.declared.frame.Frame.{Frame}
use Rattle.ct_frame.specs.declared.frame.Msg.{Msg}
use Rattle.ct_frame.specs.declared.frame.Msg.TheVariants as msg
use Rattle.ct_frame.specs.declared.frame.TableRow.{TableRow}
use Rattle.ct_call.specs.Rules.{Rules}
use Rattle.ct_rules_node.specs.Node.{Node, Phase, Nothing, Idle, Serving, Installed, Freezing, Frozen, is_present, is_present_in, db_at, state_at}
use Rattle.ct_rules_node.specs.Clients.{is_committing, is_locked}
use Rattle.ct_rules_node.specs.Rounds.{row_of}
use Rattle.ct_rules_cluster.specs.Cluster.{Cluster, node_at}
use Rattle.ct_register.specs.Register.{Register}
use Rattle.ct_register.specs.Lines.{Lines}
use Rattle.ct_law_record.specs.World.{View}
use Rattle.ct_law_record.proofs.Law.{leads}
use Rattle.ct_law_generation.specs.Shown.{Era, scene, view}
use Rattle.ct_law_generation.proofs.Pending.{Callers, NodeKnown}
use Rattle.ct_law_generation.proofs.Staying.{NodeStays, of_era, phase_of}
use Rattle.ct_law_generation.proofs.Following.{IsEra, asks_by_law}
use Rattle.ct_law_generation.proofs.Delivering.{IsShown}
use Rattle.ct_law_generation.proofs.Opening.{absent_known}
use Rattle.ct_law_plain.proofs.Locked.{CommitLocked, commit_locked, commit_serves}
use Rattle.ct_law_run.proofs.Ages.{Ages, era_of, LineLives}
use Rattle.ct_law_run.proofs.Lives.{AllHaveInstalled, Replied, ReplySays, LeadSays, PhaseSays, NodeLives, Lives}
use Rattle.ct_law_run.proofs.Lined.{beyond}
use Rattle.ct_law_generation.proofs.Running.{other_rules}

-- ---- the node

pub record Is_present (c : Config) (rules : Rules) (who : Callers) (w : Cluster) (r : Lines) (a : Ages) (n : ℕ) (x : Node) : Type 0 where
  pub lined : r.line n ≢ 0
  pub stays : NodeStays c (era_of r a (r.line n)) rules who w.calls n x
  pub shows : (db : ℕ) (key : List ℕ) → (a.worlds (r.line n) db key).nodes n ≡ view db key x

-- where other generations are begun beside it, it does not matter what the node leads
unled : (c : Config) (era : Era) (rules : Rules) (who : Callers) (calls n : ℕ) (x : Node) → era.alone ≡ false → NodeStays c era rules who calls n (record x { lead = Nothing }) → NodeStays c era rules who calls n x
unfolding is_present_in db_at state_at
unled c era rules who calls n x other h = record {
  present = h.present;
  knows = h.knows;
  promise = h.promise;
  lead = λ alone. absurd (cc);
  size = h.size;
  known = record { order = h.known.order; dbs = h.known.dbs };
  waits = h.waits;
  serves = h.serves;
  formed = h.formed;
}

pub present_says : (c : Config) (rules : Rules) (who : Callers) (w : Cluster) (r : Lines) (a : Ages) (n : ℕ) (x : Node) (p : Phase) → is_present p ≡ true → PhaseSays c rules who w r a n x p → Is_present c rules who w r a n x
unfolding PhaseSays is_present
present_says c rules who w r a n x Idle e k = absurd (cc)
present_says c rules who w r a n x (Freezing g l) e k = absurd (cc)
present_says c rules who w r a n x (Frozen g) e k = absurd (cc)
present_says c rules who w r a n x Serving e k = record { lined = k.0; stays = unled c (era_of r a (r.line n)) rules who w.calls n x refl k.1; shows = k.2 }
present_says c rules who w r a n x Installed e k = record { lined = k.0; stays = unled c (era_of r a (r.line n)) rules who w.calls n x refl k.1; shows = k.2 }

-- where it serves all members have installed its line, or that is line 1
pub serving_says : (c : Config) (rules : Rules) (who : Callers) (w : Cluster) (r : Lines) (a : Ages) (n : ℕ) (x : Node) (p : Phase) → p ≡ Serving → PhaseSays c rules who w r a n x p → r.line n ≢ 1 → AllHaveInstalled r (r.line n) (r.members (r.line n))
unfolding PhaseSays
serving_says c rules who w r a n x Serving e k = k.3
serving_says c rules who w r a n x _ e k = absurd (cc)

-- the same with other registers of records and other worlds
still_says : (c : Config) (rules : Rules) (who : Callers) (v : Cluster) (r : Lines) (a b : Ages) (records : ℕ → ℕ → List ℕ → Register) (n : ℕ) (y : Node) (p : Phase) → is_present p ≡ true → (p ≡ Serving → r.line n ≢ 1 → AllHaveInstalled r (r.line n) (r.members (r.line n))) → r.line n ≢ 0 →
    NodeStays c (era_of r a (r.line n)) rules who v.calls n y → ((db : ℕ) (key : List ℕ) → (b.worlds (r.line n) db key).nodes n ≡ view db key y) → PhaseSays c rules who v (record r { records = records }) b n y p
unfolding PhaseSays is_present is_present_in db_at state_at
still_says c rules who v r a b records n y Idle e thawed lined h shows = absurd (cc)
still_says c rules who v r a b records n y (Freezing g l) e thawed lined h shows = absurd (cc)
still_says c rules who v r a b records n y (Frozen g) e thawed lined h shows = absurd (cc)
still_says c rules who v r a b records n y Serving e thawed lined h shows = (
  lined,
  record {
    present = h.present;
    knows = h.knows;
    promise = h.promise;
    lead = λ alone. absurd (cc);
    size = h.size;
    known = record { order = h.known.order; dbs = h.known.dbs };
    waits = h.waits;
    serves = λ warm. absurd (cc);
    formed = h.formed;
  },
  shows,
  thawed refl,
)
still_says c rules who v r a b records n y Installed e thawed lined h shows = (
  lined,
  record {
    present = h.present;
    knows = h.knows;
    promise = h.promise;
    lead = λ alone. absurd (cc);
    size = h.size;
    known = record { order = h.known.order; dbs = h.known.dbs };
    waits = h.waits;
    serves = λ warm. absurd (cc);
    formed = h.formed;
  },
  shows,
)

-- ---- what it told of itself

not_freezing : (p : Phase) (g l : ℕ) → is_present p ≡ true → p ≢ Freezing g l
unfolding is_present
not_freezing p g l e is = absurd (let f = sym (ap is_present is) ∙ e in cc)

-- it stays so while the node is present: what it told is of older lines
pub replied_still : (r : Lines) (a b : Ages) (records : ℕ → ℕ → List ℕ → Register) (n g vbase pbase : ℕ) (table : List TableRow) (x y : Node) → is_present x.phase ≡ true → is_present y.phase ≡ true → y.promise ≡ x.promise →
    ((m db : ℕ) (key : List ℕ) → m ≢ r.line n → (b.worlds m db key).nodes n ≡ (a.worlds m db key).nodes n) → Replied r a g n vbase pbase table x → Replied (record r { records = records }) b g n vbase pbase table y
replied_still r a b records n g vbase pbase table x y before after promise views k = record {
  promised = subst (λ (p : ℕ). g ≤ p) (sym promise) k.promised;
  given = k.given;
  older = k.older;
  had = k.had;
  still = k.still;
  past = λ h. not_freezing y.phase g h after;
  stuck = λ ne line. absurd (apart ne (sym line));
  some = λ ne. (let q = k.some ne in (q.0, q.1, λ db key. q.2 db key ∙ ap (λ (v : View). row_of n db key v.state.copy) (sym (views vbase db key (apart ne)))));
  order = k.order;
  polder = k.polder;
  phad = k.phad;
  pstill = k.pstill;
}
  where
    apart : vbase ≢ 0 → vbase ≢ r.line n
    apart ne same = absurd (let e = sym before ∙ (k.stuck ne (sym same)).0 in cc)

pub reply_still : (r : Lines) (a b : Ages) (records : ℕ → ℕ → List ℕ → Register) (n : ℕ) (x y : Node) (f : Frame) (m : Msg) → is_present x.phase ≡ true → is_present y.phase ≡ true → y.promise ≡ x.promise →
    ((m db : ℕ) (key : List ℕ) → m ≢ r.line n → (b.worlds m db key).nodes n ≡ (a.worlds m db key).nodes n) → ReplySays r a n x f m → ReplySays (record r { records = records }) b n y f m
unfolding ReplySays
reply_still r a b records n x y f (msg.PullReply vbase pbase table ptables addresses) before after promise views k = λ own. replied_still r a b records n f.generation vbase pbase table x y before after promise views (k own)
reply_still r a b records n x y f m before after promise views k = tt

-- ---- it lives on

pub present_lives : (c : Config) (rules : Rules) (who : Callers) (w v : Cluster) (r : Lines) (a b : Ages) (records : ℕ → ℕ → List ℕ → Register) (n : ℕ) (x y : Node) → NodeLives c rules who w r a n x → Is_present c rules who w r a n x →
    NodeStays c (era_of r a (r.line n)) rules who v.calls n y → y.pbase ≡ x.pbase → (y.phase ≡ Serving → r.line n ≢ 1 → AllHaveInstalled r (r.line n) (r.members (r.line n))) → ((db : ℕ) (key : List ℕ) → (b.worlds (r.line n) db key).nodes n ≡ view db key y) → CommitLocked c y →
    LeadSays c v (record r { records = records }) b n y.lead → AllByRecursion (λ q. ReplySays (record r { records = records }) b n y q.frame q.frame.msg) v.sent → NodeLives c rules who v (record r { records = records }) b n y
unfolding is_committing is_locked
present_lives c rules who w v r a b records n x y own is stays pbase thawed shows commits lead replies =
    let promise : y.promise ≡ x.promise = stays.promise ∙ sym is.stays.promise in
    record {
      size = stays.size;
      known = stays.known;
      line = of_era c (era_of r a (r.line n)) rules who v.calls n y stays;
      base = pbase ∙ own.base;
      older = subst (λ (p : ℕ). r.pline n ≤ p) (sym promise) own.older;
      given = subst (λ (p : ℕ). p ≤ r.last) (sym promise) own.given;
      named = λ ne. (let k = own.named ne in (k.0, stays.knows, k.2));
      done = own.done;
      promises = λ g born among. subst (λ (p : ℕ). g ≤ p) (sym promise) (own.promises g born among);
      waits = stays.waits;
      formed = stays.formed;
      commits = λ db k e. (commit_locked c y db commits (ap is_some e)).2;
      persist = λ db k e. (commit_locked c y db commits (ap is_some e)).0;
      serving = λ db k e. commit_serves c y db commits (ap is_some e);
      phase = still_says c rules who v r a b records n y y.phase (phase_of (r.line n) y stays.present) thawed is.lined stays shows;
      lead = lead;
      replies = replies;
    }

-- ---- its line

module _ (c : Config) (rules : Rules) (w : Cluster) (r : Lines) (h : Lives c rules w r) (n : ℕ) (there : nat_lt n c.nodes ≡ true) (lined : r.line n ≢ 0) where
  abbrev pub g : ℕ
  g = r.line n

  pub line_here : LineLives c rules w r h.ages g
  line_here = h.lines.line g ((h.nodes n there).named lined).0

  -- it has joined
  pub joined_here : (nat_eq g 1 || r.installed g n) ≡ true
  joined_here = ⊎_elim
      (λ (i : g ≡ 1). ap (λ (b : Bool). b || r.installed g n) (eq-eqb g 1 i))
      (λ (no : g ≢ 1). or_right (nat_eq g 1) (r.installed g n) ((h.nodes n there).done (let z = lined in omega arith)))
      (cases_eq g 1)

  -- what is asked of a generation holds of the line
  pub era_here : IsEra c (era_of r h.ages g)
  era_here = record {
    real = line_here.real;
    ascend = line_here.ascend;
    positive = (let z = lined in omega arith);
    asks = λ others db key. asks_by_law (scene c (era_of r h.ages g) others db key) (h.ages.worlds g db key) (r.records g db key)
        (λ es. leads (scene c (era_of r h.ages g) others db key) (h.ages.worlds g db key) (r.records g db key) (h.ages.ghosts g db key) es line_here.real
        (other_rules (scene c (era_of r h.ages g) rules db key) others (h.ages.worlds g db key) (r.records g db key) (h.ages.ghosts g db key) (line_here.world db key)));
  }

  -- the worlds of the line show the node
  pub shown_here : ((db : ℕ) (key : List ℕ) → (h.ages.worlds g db key).nodes n ≡ view db key (node_at n w)) → IsShown g n w (h.ages.worlds g)
  shown_here shows = record { own = shows; joined = λ db key. line_here.joined db key n ∙ joined_here; mail = line_here.mail }

-- of every call that waits, at any node, it is known who made it
pub known_all : (c : Config) (rules : Rules) (w : Cluster) (r : Lines) (h : Lives c rules w r) (m : ℕ) → NodeKnown h.who w.calls m (node_at m w)
known_all c rules w r h m = ⊎_elim
    (λ (there : nat_lt m c.nodes ≡ true). (h.nodes m there).known)
    (λ (out : nat_lt m c.nodes ≡ false). subst (λ (x : Node). NodeKnown h.who w.calls m x) (sym (beyond c rules w r h m out)) (absent_known h.who w.calls m))
    (cases_Bool (nat_lt m c.nodes))
