-- What the law of addresses takes from that of records and generations: it holds of every cluster that lives.
use Rattle.std.proofs.Common.{◌≡◌, ◌≢◌, ℕ, ◌<◌, Bool, true, false, List, refl, sym, ◌∙◌, subst, arith, ⊎_elim}
use Rattle.std.specs.Prelude.{nat_lt}
use Rattle.std.proofs.lemmas.Bool.{cases_Bool, eqb-true, ltb-true}
use Rattle.ct_values.specs.declared.config.Config.{Config}
use Rattle.ct_frame.specs.declared.frame.Msg.{Msg}
use Rattle.ct_frame.specs.declared.frame.Msg.TheVariants as msg
use Rattle.ct_call.specs.Rules.{Rules}
use Rattle.ct_rules_node.specs.Node.{Node, Phase, Serving, Installed, Frozen, Lead, Nothing, Freezes, Pulls, Installs, Completed, is_present, is_frozen_in}
use Rattle.ct_rules_cluster.specs.Cluster.{Cluster, absent, node_at}
use Rattle.ct_register.specs.Lines.{Lines}
use Rattle.ct_promise.specs.Promises.{IsConfig}
use Rattle.ct_law_generation.proofs.Pending.{Callers}
use Rattle.ct_law_run.proofs.Ages.{Ages}
use Rattle.ct_law_run.proofs.Lives as lives
use Rattle.ct_law_run.proofs.Lives.{Lives, PhaseSays, RoundSays, MailSays, IsTicket}
use Rattle.ct_law_run.proofs.Lined.{beyond}
use Rattle.ct_law_run.proofs.LeadTurning.{was_said}
use Rattle.ct_law_registers.proofs.Places.{Turns}
use Rattle.ct_law_addresses.proofs.Facts.{spots, Spots, IsThere, IsLeader, LeadSays, PushSays, RoundsHold, MailStands, Holds}
use Rattle.ct_law_acts.proofs.Parts.{nodes_of, frames_in}
use Rattle.ct_law_promise.proofs.AddressLaw.{Before}
use Rattle.ct_law_promise.proofs.HeldTogether.{placed_as}

-- ---- by phase

present_line : (c : Config) (rules : Rules) (who : Callers) (w : Cluster) (r : Lines) (a : Ages) (n : ℕ) (x : Node) (p : Phase) → is_present p ≡ true → PhaseSays c rules who w r a n x p → r.line n ≢ 0
unfolding PhaseSays is_present
present_line c rules who w r a n x Serving e h = h.0
present_line c rules who w r a n x Installed e h = h.0
present_line c rules who w r a n x _ e h = absurd (cc)

frozen_older : (c : Config) (rules : Rules) (who : Callers) (w : Cluster) (r : Lines) (a : Ages) (n g : ℕ) (x : Node) (p : Phase) → is_frozen_in g p ≡ true → PhaseSays c rules who w r a n x p → r.pline n < g
unfolding PhaseSays is_frozen_in
frozen_older c rules who w r a n g x (Frozen k) e h = (let same = eqb-true k g e in let low = h.2 in omega arith)
frozen_older c rules who w r a n g x _ e h = absurd (cc)

absent_nothing : (g : ℕ) → (is_present absent.phase ≡ false) × (is_frozen_in g absent.phase ≡ false) × (absent.lead ≡ Nothing)
unfolding absent is_present is_frozen_in
absent_nothing g = (refl, refl, refl)

-- ---- what is led

led_by : (c : Config) (r p : Lines) (g n : ℕ) (members : List ℕ) → IsTicket c r g n members → IsLeader (spots (placed_as r p)) n g members
led_by c r p g n members t = record { given = t.given; named = t.named; member = t.own }

lead_says : (c : Config) (w : Cluster) (r p : Lines) (a : Ages) (n : ℕ) (x : Node) (l : Lead) → lives.LeadSays c w r a n l → LeadSays (spots (placed_as r p)) n x l
unfolding LeadSays lives.LeadSays
lead_says c w r p a n x Nothing h = tt
lead_says c w r p a n x (Freezes g members missing) h = (led_by c r p g n members h.0, h.1)
lead_says c w r p a n x (Pulls g members missing y) h = (led_by c r p g n members h.0, h.1)
lead_says c w r p a n x (Installs g members missing b) h = (led_by c r p g n members h.0, h.1)
lead_says c w r p a n x (Completed g members t) h = (led_by c r p g n members h.0, (λ z. absurd (let low = h.0.later in omega arith)), h.2)

nothing_says : (b : Spots) (n : ℕ) (x : Node) → LeadSays b n x Nothing
unfolding LeadSays
nothing_says b n x = tt

-- ---- what is pushed

push_says : (c : Config) (r p : Lines) (a : Ages) (g from : ℕ) (m : Msg) → RoundSays c r a g from m → PushSays (spots (placed_as r p)) g m
unfolding RoundSays PushSays
push_says c r p a g from (msg.Push members table ptables assigned) h = sym h.2
push_says c r p a g from _ h = tt

-- ---- the whole

module _ (c : Config) (rules : Rules) (w : Cluster) (r p : Lines) (h : Lives c rules w r) where
  -- a node of the configuration, or one that is absent
  either_node : (P : ℕ → Node → Type 0) → ((n : ℕ) → nat_lt n c.nodes ≡ true → P n (node_at n w)) → ((n : ℕ) → r.line n ≡ 0 → P n absent) → (n : ℕ) → P n (node_at n w)
  either_node P here away n = ⊎_elim
      (λ (e : nat_lt n c.nodes ≡ true). here n e)
      (λ (e : nat_lt n c.nodes ≡ false). subst (P n) (sym (beyond c rules w r h n e)) (away n (h.outside n e)))
      (cases_Bool (nat_lt n c.nodes))

  pub rounds_given : RoundsHold (nodes_of w) (frames_in w) (spots (placed_as r p))
  rounds_given = record {
    stays = h.formed.order.stays;
    real = h.formed.order.real;
    named = λ n line. ⊎_elim (λ (e : nat_lt n c.nodes ≡ true). ((h.nodes n e).named line).2) (λ (e : nat_lt n c.nodes ≡ false). absurd (line (h.outside n e))) (cases_Bool (nat_lt n c.nodes));
    had = h.formed.order.newer;
    there = either_node (λ (n : ℕ) (x : Node). is_present x.phase ≡ true → IsThere (spots (placed_as r p)) n x)
        (λ n e present. (let y = h.nodes n e in let line = present_line c rules h.who w r h.ages n (node_at n w) (node_at n w).phase present y.phase in record { line = line; generation = y.line; members = (y.named line).1 }))
        (λ n z present. absurd (let k = (absent_nothing 0).0 in let f : true ≡ false = sym present ∙ k in cc));
    frozen = λ n g. either_node (λ (m : ℕ) (x : Node). is_frozen_in g x.phase ≡ true → r.pline m < g)
        (λ m e frozen. frozen_older c rules h.who w r h.ages m g (node_at m w) (node_at m w).phase frozen (h.nodes m e).phase)
        (λ m z frozen. absurd (let k = (absent_nothing g).1 in let f : true ≡ false = sym frozen ∙ k in cc)) n;
    leads = either_node (λ (n : ℕ) (x : Node). LeadSays (spots (placed_as r p)) n x x.lead)
        (λ n e. lead_says c w r p h.ages n (node_at n w) (node_at n w).lead (h.nodes n e).lead)
        (λ n z. subst (LeadSays (spots (placed_as r p)) n absent) (sym (absent_nothing 0).2) (nothing_says (spots (placed_as r p)) n absent));
    pushes = λ f is. push_says c r p h.ages f.generation f.sender f.msg (was_said (MailSays c r h.ages) w.sent f h.mail is).round;
  }

  pub before_given : IsConfig c → (turns : Turns) → Holds c.addresses (nodes_of w) (spots (placed_as r p)) turns → MailStands c.addresses (nodes_of w) (spots (placed_as r p)) turns (frames_in w) → Before c w (placed_as r p) turns
  before_given valid turns holds mail = record {
    ready = record { valid = valid; holds = holds; mail = mail; rounds = rounds_given };
    there = λ n up. (let l = ltb-true n c.nodes (h.up n up) in let s = h.size in omega arith);
    lines = λ g low. unborn g low (r.born g) refl;
  }
    where
      unborn : (g : ℕ) → w.ticket < g → (b : Bool) → r.born g ≡ b → b ≡ false
      unborn g low true e = absurd (let k = h.formed.order.lines g e in let s = h.last in omega arith)
      unborn g low false e = refl
