-- In a cluster that lives, what the law of persistent databases takes from the law of rounds holds: lines, frozen nodes, replies and leaders.
use Rattle.std.proofs.Common.{◌≡◌, ◌≢◌, ℕ, ◌+◌, ◌<◌, true, false, List, [], ◌∷◌, length, map, Option, None, Some, refl, sym, ap, ◌∙◌, subst, arith, inl, inr, ⊎_elim, eqb-true}
use Rattle.std.specs.Prelude.{◌⊎◌, nat_eq, nat_lt, is_some, slice_get}
use Rattle.std.specs.List.{AllByRecursion}
use Rattle.std.proofs.lemmas.Bool.{cases_Bool}
use Rattle.ct_values.specs.declared.config.Config.{Config}
use Rattle.ct_frame.specs.Fields.{ascends}
use Rattle.ct_frame.specs.declared.frame.Frame.{Frame}
use Rattle.ct_frame.specs.declared.frame.Msg.{Msg}
use Rattle.ct_frame.specs.declared.frame.Msg.TheVariants as msg
use Rattle.ct_call.specs.Rules.{Rules}
use Rattle.ct_merge.proofs.Among.{In}
use Rattle.ct_rules_node.specs.Node.{Node, Phase, Idle, Serving, Installed, Freezing, Frozen, Committing, Lead, Nothing, Freezes, Pulls, Installs, Completed, is_among, is_present, is_frozen_in, is_persistent, kind_at, name_of, or_untouched, or_nothing, untouched, db_at, state_at}
use Rattle.ct_rules_cluster.specs.Cluster.{Cluster, Sent, absent, is_up, node_at}
use Rattle.ct_register.specs.Database.{Database}
use Rattle.ct_register.specs.Lines.{Lines}
use Rattle.ct_promise.specs.Promises.{IsConfig}
use Rattle.ct_law_plain.proofs.Names.{names_differ}
use Rattle.ct_law_plain.proofs.Locked.{waits_in, locked_in, UnderLock, Locked, CommitLocked}
use Rattle.ct_law_run.proofs.Ages.{Ages}
use Rattle.ct_law_run.proofs.Lives as lives
use Rattle.ct_law_run.proofs.Lives.{Lives, NodeLives, PhaseSays, Replied}
use Rattle.ct_law_run.proofs.Lined.{beyond}
use Rattle.ct_law_registers.proofs.Facts.{Bases, bases}
use Rattle.ct_law_databases.proofs.Law as law
use Rattle.ct_law_databases.proofs.Law.{IsThere, IsFrozen, NamesDiffer, RoundsHold}
use Rattle.ct_law_databases.proofs.Outs.{is_below}
use Rattle.ct_law_databases.proofs.Settling.{AllLocked}
use Rattle.ct_law_databases.proofs.Ordered.{IsOrdered}

-- ---- small words

-- what holds of every message that was sent holds of each
pub found : (P : Frame → Type 0) (ss : List Sent) → AllByRecursion (λ (s : Sent). P s.frame) ss → (f : Frame) → In f (map (λ (s : Sent). s.frame) ss) → P f
found P [] all f is = absurd is
found P (s ∷ ss) all f is = ⊎_elim (λ (e : s.frame ≡ f). subst P e all.0) (λ (i : In f (map (λ (t : Sent). t.frame) ss)). found P ss all.1 f i) is

frozen_is : (g : ℕ) (p : Phase) → is_frozen_in g p ≡ true → p ≡ Frozen g
unfolding is_frozen_in
frozen_is g (Frozen h) e = ap (λ (k : ℕ). Frozen k) (eqb-true h g e)
frozen_is g _ e = absurd (cc)

absent_here : is_present absent.phase ≡ false
unfolding absent is_present
absent_here = refl

absent_frozen : (g : ℕ) → is_frozen_in g absent.phase ≡ true → ⊥
unfolding absent is_frozen_in
absent_frozen g e = absurd (cc)

-- messages are sent by nodes of the configuration
abbrev pub SendersThere : Config → Cluster → Type 0
SendersThere c w = (f : Frame) → In f (map (λ s. s.frame) w.sent) → nat_lt f.sender c.nodes ≡ true

module _ (c : Config) (rules : Rules) (w : Cluster) (r : Lines) (h : Lives c rules w r) where
  -- what holds of each node of the configuration, and of one that is not there, holds of every number
  pub by_node : (P : ℕ → Node → Type 0) → ((n : ℕ) → nat_lt n c.nodes ≡ true → P n (node_at n w)) → ((n : ℕ) → P n absent) → (n : ℕ) → P n (node_at n w)
  by_node P here none n = ⊎_elim
      (λ (lt : nat_lt n c.nodes ≡ true). here n lt)
      (λ (out : nat_lt n c.nodes ≡ false). subst (P n) (sym (beyond c rules w r h n out)) (none n))
      (cases_Bool (nat_lt n c.nodes))

  present_line : (n : ℕ) (x : Node) (p : Phase) → is_present p ≡ true → PhaseSays c rules h.who w r h.ages n x p → r.line n ≢ 0
  unfolding PhaseSays is_present
  present_line n x Idle e k = absurd (cc)
  present_line n x (Freezing g l) e k = absurd (cc)
  present_line n x (Frozen g) e k = absurd (cc)
  present_line n x Serving e k = k.0
  present_line n x Installed e k = k.0

  present_promise : (n : ℕ) (x : Node) (p : Phase) → is_present p ≡ true → PhaseSays c rules h.who w r h.ages n x p → x.promise ≡ r.line n
  unfolding PhaseSays is_present
  present_promise n x Idle e k = absurd (cc)
  present_promise n x (Freezing g l) e k = absurd (cc)
  present_promise n x (Frozen g) e k = absurd (cc)
  present_promise n x Serving e k = k.1.promise
  present_promise n x Installed e k = k.1.promise

  -- who is present is in a line
  pub in_line : (n : ℕ) → nat_lt n c.nodes ≡ true → is_present (node_at n w).phase ≡ true → r.line n ≢ 0
  in_line n lt e = present_line n (node_at n w) (node_at n w).phase e (h.nodes n lt).phase

  older : (n g : ℕ) (x : Node) → PhaseSays c rules h.who w r h.ages n x (Frozen g) → r.pline n < g
  unfolding PhaseSays
  older n g x k = k.2

  -- ---- rounds

  module _ (o : IsOrdered c r) (senders : SendersThere c w) (d : ℕ → ℕ → Database) where
    abbrev b : Bases
    b = record (bases r) { databases = d }

    abbrev nodes : ℕ → Node
    nodes n = node_at n w

    there : (n : ℕ) → nat_lt n c.nodes ≡ true → is_present (nodes n).phase ≡ true → IsThere c b n (nodes n)
    there n lt e = (let l = h.nodes n lt in let ne = in_line n lt e in record {
      line = ne;
      generation = l.line;
      members = (l.named ne).1;
      size = l.size;
      ascend = subst (λ (ms : List ℕ). ascends nat_lt ms ≡ true) (sym (l.named ne).1) (h.lines.line (r.line n) (l.named ne).0).ascend;
      promise = present_promise n (nodes n) (nodes n).phase e l.phase;
    })

    frozen : (g n : ℕ) → nat_lt n c.nodes ≡ true → is_frozen_in g (nodes n).phase ≡ true → IsFrozen c b g n (nodes n)
    frozen g n lt e = (let l = h.nodes n lt in
        record { older = older n g (nodes n) (subst (PhaseSays c rules h.who w r h.ages n (nodes n)) (frozen_is g (nodes n).phase e) l.phase); based = o.based n lt; base = l.base; size = l.size })

    -- a reply of a node of the configuration
    replied : (g n vbase q : ℕ) (table : List _) → nat_lt n c.nodes ≡ true → Replied r h.ages g n vbase q table (nodes n) → law.Replied nodes b g n q
    replied g n vbase q table lt k = record {
      older = k.polder;
      real = (o.had g n lt q k.phad).0;
      member = (o.had g n lt q k.phad).2;
      still = k.pstill;
      promised = k.promised;
      left = λ present same.
          let ne = in_line n lt present in
          let stays : r.line n ≡ r.pline n = h.formed.order.stays n ne in
          let low : r.line n < g = (let p = k.polder in omega arith) in
          let base : r.line n ≡ vbase = k.still ne low in
          let gone : is_present (nodes n).phase ≡ false = (k.stuck (λ z. ne (base ∙ z)) base).0 in absurd (cc);
    }

    says : (f : Frame) (m : Msg) → f.msg ≡ m → In f (map (λ s. s.frame) w.sent) → law.ReplySays nodes b f.generation f.sender m
    unfolding law.ReplySays lives.ReplySays
    says f (msg.PullReply vbase q table ptables addresses) is i =
        let lt = senders f i in
        let k = found (λ (t : Frame). lives.ReplySays r h.ages f.sender (nodes f.sender) t t.msg) w.sent (h.nodes f.sender lt).replies f i in
        replied f.generation f.sender vbase q table lt (subst (λ (m : Msg). lives.ReplySays r h.ages f.sender (nodes f.sender) f m) is k refl)
    says f m is i = tt

    leads : (n : ℕ) (l : Lead) → lives.LeadSays c w r h.ages n l → law.LeadSays (map (λ s. s.frame) w.sent) b n l
    unfolding law.LeadSays lives.LeadSays
    leads n (Pulls g members missing x) k = (k.1, k.0.named, record { pulls = k.2.pulls; same = k.2.same; sent = k.2.sent; met = k.2.waits.met })
    leads n l k = tt

    none_leads : (n : ℕ) → law.LeadSays (map (λ s. s.frame) w.sent) b n absent.lead
    unfolding law.LeadSays absent
    none_leads n = tt

    -- what is asked of rounds holds, whatever the databases are
    pub rounds_hold : RoundsHold c nodes (map (λ s. s.frame) w.sent) b
    rounds_hold = record {
      stays = h.formed.order.stays;
      real = h.formed.order.real;
      named = o.named;
      there = by_node (λ n x. is_present x.phase ≡ true → IsThere c b n x) there (λ n e. absurd (let a = absent_here in cc));
      frozen = λ n g. by_node (λ n x. is_frozen_in g x.phase ≡ true → IsFrozen c b g n x) (frozen g) (λ n e. absurd (absent_frozen g e)) n;
      replies = λ f i. says f f.msg refl i;
      leads = by_node (λ n x. law.LeadSays (map (λ s. s.frame) w.sent) b n x.lead) (λ n lt. leads n (nodes n).lead (h.nodes n lt).lead) none_leads;
    }

  -- ---- commits that wait

  some_of : (o : Option Committing) → is_some o ≡ true → (k : Committing) × (o ≡ Some k)
  some_of None e = absurd (cc)
  some_of (Some k) e = (k, refl)

  under_lock : (n : ℕ) → nat_lt n c.nodes ≡ true → CommitLocked c (node_at n w)
  unfolding Locked waits_in locked_in state_at db_at
  under_lock n lt db waits =
      let l = h.nodes n lt in
      let k = some_of (or_untouched (slice_get (node_at n w).dbs db)).commit waits in
      record { kind = l.persist db k.0 k.1; serving = l.serving db k.0 k.1; lock = l.commits db k.0 k.1 }

  absent_waits : CommitLocked c absent
  unfolding Locked waits_in absent or_untouched untouched
  absent_waits db waits = absurd (cc)

  -- all commits that wait are under their locks
  pub all_locked : AllLocked c (λ n. node_at n w)
  all_locked = by_node (λ n x. CommitLocked c x) under_lock (λ n. absent_waits)

-- two persistent databases of one name are one
pub names_apart : (c : Config) → IsConfig c → NamesDiffer c
names_apart c is i j a b same = names_differ c c.nodes is.0 is.1 is.2 i j (is_below c i a) (is_below c j b) same
