-- What a step keeps: the facts hold after it, what it tells needs no more than that, and what it sends stands.
use Rattle.std.proofs.Common.{◌≡◌, ◌≢◌, ℕ, ◌≤◌, true, List, [], ◌∷◌, ◌++◌, map, Some, refl, sym, ap, ◌∙◌, subst, arith, ⊎_elim}
use Rattle.std.specs.List.{AllByRecursion}
use Rattle.std.proofs.lemmas.Bool.{cases_eq}
use Rattle.ct_values.specs.declared.address.Address.{Address}
use Rattle.ct_values.specs.declared.config.Config.{Config}
use Rattle.ct_frame.specs.declared.event.Out.{Out}
use Rattle.ct_frame.specs.declared.event.Out.TheVariants as out
use Rattle.ct_frame.specs.declared.frame.Assigned.{Assigned}
use Rattle.ct_frame.specs.declared.frame.Frame.{Frame}
use Rattle.ct_frame.specs.declared.frame.Msg.{Msg}
use Rattle.ct_frame.specs.declared.frame.Msg.TheVariants as msg
use Rattle.ct_merge.proofs.Among.{In, in_either}
use Rattle.ct_rules_node.specs.Node.{Node, holder_in}
use Rattle.ct_rules_node.specs.Turn.{Turn, begins}
use Rattle.ct_lcp2.proofs.Choices.{all_append}
use Rattle.ct_rules_cluster.specs.declared.step.PendingCall.{PendingCall}
use Rattle.ct_law_generation.specs.Shown.{labels_of}
use Rattle.ct_rules_node.specs.Takeovers.{has_address}
use Rattle.ct_rules_cluster.specs.Cluster.{Sent}
use Rattle.ct_rules_cluster.specs.Labels.{Label, Pushed, Taken}
use Rattle.ct_rules_cluster.specs.Steps.{frames_of}
use Rattle.ct_register.proofs.Places.{at_same, at_other, at_each}
use Rattle.ct_register.specs.Placing as placing
use Rattle.ct_register.specs.Placing.{Placing, IsPushedAlike, take_list}
use Rattle.ct_register.specs.Lines.{Lines, with_placing}
use Rattle.ct_register.specs.Words.{at}
use Rattle.ct_promise.specs.Promises.{IsConfig}
use Rattle.ct_law_registers.proofs.Parts.{Choice, goes, goes_on, PlacesNeed, AllNeed}
use Rattle.ct_law_registers.proofs.Places.{Turns, plan}
use Rattle.ct_law_addresses.proofs.Facts.{Spots, spots, RoundsHold, LeadStands, Stands, FrameStands, MailStands, FollowsIn, Holds}
use Rattle.ct_law_addresses.proofs.Aside.{IsAside, IsAsideMsg, IsAsideOut, AllAside, Aside, labels_aside}
use Rattle.ct_law_addresses.proofs.Later.{grown_same, Later, mail_later, lead_later}

-- before a step: the facts hold, and so does what they take from rounds
pub record Ready (config : Config) (nodes : ℕ → Node) (fs : List Frame) (r : Lines) (turns : Turns) : Type 0 where
  pub valid : IsConfig config
  pub holds : Holds config.addresses nodes (spots r) turns
  pub mail : MailStands config.addresses nodes (spots r) turns fs
  pub rounds : RoundsHold nodes fs (spots r)

-- from these registers a step leads to those nodes, tells these labels and sends these messages, after those that there were
pub record Kept (config : Config) (x : Choice) (then : ℕ → Node) (fs : List Frame) (r : Lines) (ls : List Label) (sent : List Frame) : Type 0 where
  pub turns : Turns
  pub needs : AllNeed (PlacesNeed config) config x r ls
  pub holds : Holds config.addresses then (spots (goes_on config x ls r)) turns
  pub mail : MailStands config.addresses then (spots (goes_on config x ls r)) turns (fs ++ sent)

-- ---- messages

abbrev pub frame_list : List Out → List Frame
frame_list xs = map (λ (s : Sent). s.frame) (frames_of xs)

-- a message that is sent stands
unfoldable pub OutStands : List Address → (ℕ → Node) → Spots → Turns → Out → Type 0
OutStands addresses nodes b turns (out.Send f) = FrameStands addresses nodes b turns f
OutStands addresses nodes b turns _ = Unit {0}

pub frames_stand : (addresses : List Address) (nodes : ℕ → Node) (b : Spots) (turns : Turns) (xs : List Out) → AllByRecursion (OutStands addresses nodes b turns) xs → MailStands addresses nodes b turns (frame_list xs)
unfolding OutStands frames_of
frames_stand addresses nodes b turns [] h f is = absurd is
frames_stand addresses nodes b turns (out.Send g ∷ xs) h f is = ⊎_elim
    (λ (e : g ≡ f). subst (FrameStands addresses nodes b turns) e h.0)
    (λ (k : In f (frame_list xs)). frames_stand addresses nodes b turns xs h.1 f k) is
frames_stand addresses nodes b turns (out.Answer call a ∷ xs) h f is = frames_stand addresses nodes b turns xs h.1 f is
frames_stand addresses nodes b turns (out.Note x ∷ xs) h f is = frames_stand addresses nodes b turns xs h.1 f is

pub both_stand : (addresses : List Address) (nodes : ℕ → Node) (b : Spots) (turns : Turns) (fs gs : List Frame) → MailStands addresses nodes b turns fs → MailStands addresses nodes b turns gs → MailStands addresses nodes b turns (fs ++ gs)
both_stand addresses nodes b turns fs gs h k f is = ⊎_elim (λ (i : In f fs). h f i) (λ (i : In f gs). k f i) (in_either fs gs f is)

aside_stands : (addresses : List Address) (nodes : ℕ → Node) (b : Spots) (turns : Turns) (g n m : ℕ) (x : Msg) → IsAsideMsg x → Stands addresses nodes b turns g n m x
unfolding Stands IsAsideMsg
aside_stands addresses nodes b turns g n m (msg.Release number keep) h = absurd h
aside_stands addresses nodes b turns g n m (msg.ReleaseAck number) h = absurd h
aside_stands addresses nodes b turns g n m (msg.Take number assigned) h = absurd h
aside_stands addresses nodes b turns g n m (msg.Push members table ptables assigned) h = absurd h
aside_stands addresses nodes b turns g n m _ h = tt

pub outs_aside : (addresses : List Address) (nodes : ℕ → Node) (b : Spots) (turns : Turns) (xs : List Out) → AllAside xs → AllByRecursion (OutStands addresses nodes b turns) xs
unfolding OutStands IsAsideOut
outs_aside addresses nodes b turns [] h = tt
outs_aside addresses nodes b turns (out.Send f ∷ xs) h = (aside_stands addresses nodes b turns f.generation f.sender f.receiver f.msg h.0, outs_aside addresses nodes b turns xs h.1)
outs_aside addresses nodes b turns (out.Answer call a ∷ xs) h = (tt, outs_aside addresses nodes b turns xs h.1)
outs_aside addresses nodes b turns (out.Note x ∷ xs) h = (tt, outs_aside addresses nodes b turns xs h.1)

-- ---- labels that change nothing of these registers

-- where this is what the registers say of addresses, the label needs no more, and leaves it
unfoldable pub IsIdle : Config → Spots → Label → Type 0
IsIdle config b label = (x : Choice) (r : Lines) → spots r ≡ b → PlacesNeed config r label × (spots (goes config x label r) ≡ b)

pub aside_idle : (config : Config) (b : Spots) (ls : List Label) → AllByRecursion (IsAside config) ls → AllByRecursion (IsIdle config b) ls
unfolding IsAside IsIdle
aside_idle config b [] h = tt
aside_idle config b (label ∷ ls) h = (λ x r e. (let a = h.0 x r in (a.0, a.1 ∙ e)), aside_idle config b ls h.1)

pub all_idle : (config : Config) (x : Choice) (b : Spots) (ls : List Label) (r : Lines) → spots r ≡ b → AllByRecursion (IsIdle config b) ls → AllNeed (PlacesNeed config) config x r ls × (spots (goes_on config x ls r) ≡ b)
unfolding AllNeed goes_on IsIdle
all_idle config x b [] r e h = (tt, e)
all_idle config x b (label ∷ ls) r e h = (let a = h.0 x r e in let k = all_idle config x b ls (goes config x label r) a.1 h.1 in ((a.0, k.0), k.1))

at_itself : {X : Type 0} (n : ℕ) (y : X) (f : ℕ → X) → y ≡ f n → at n y f ≡ f
at_itself {X} n y f e = (λ i m. same m i)
  where
    same : (m : ℕ) → at n y f m ≡ f m
    same m = ⊎_elim (λ (is : m ≡ n). at_same n m y f is ∙ e ∙ ap f (sym is)) (λ (ne : m ≢ n). at_other n m y f ne) (cases_eq m n)

same_placing : (g : ℕ) (p : Placing) (r : Lines) → p ≡ r.placing g → spots (with_placing g p r) ≡ spots r
same_placing g p r e = (let k = at_itself g p r.placing e in λ i. record (spots r) { placing = k i })

-- a push that was sent before
pub pushed_idle : (config : Config) (b : Spots) (g : ℕ) (xs : List Assigned) → b.born g ≡ true → (b.placing g).pushed ≡ Some xs → IsIdle config b (Pushed g xs)
unfolding IsIdle PlacesNeed goes
pushed_idle config b g xs born pushed x r e =
    let own : (r.placing g).pushed ≡ Some xs = ap (λ (c : Spots). (c.placing g).pushed) e ∙ pushed in
    ((ap (λ (c : Spots). c.born g) e ∙ born, subst (IsPushedAlike xs) (sym own) refl), same_placing g _ r (λ i. record (r.placing g) { pushed = sym own i }) ∙ e)

-- the last take, sent before
pub taken_idle : (config : Config) (b : Spots) (n g number : ℕ) (xs : List Assigned) (run : placing.Run) → b.line n ≡ g → g ≢ 0 → (b.placing g).runs number ≡ Some run → xs ≡ take_list config.addresses run → (b.placing g).taken number ≡ Some xs → (b.placing g).last ≡ Some xs →
    IsIdle config b (Taken n g number xs)
unfolding IsIdle PlacesNeed goes
taken_idle config b n g number xs run line real began list taken last x r e =
    let here : r.line n ≡ g = ap (λ (c : Spots). c.line n) e ∙ line in
    let place : r.placing (r.line n) ≡ b.placing g = ap r.placing here ∙ ap (λ (c : Spots). c.placing g) e in
    let t = ap (λ (p : Placing). p.taken number) place ∙ taken in
    let l = ap (λ (p : Placing). p.last) place ∙ last in
    let k = at_itself number (Some xs) (r.placing (r.line n)).taken (sym t) in
    ((here, (λ z. real (sym here ∙ z)), (run, ap (λ (p : Placing). p.runs number) place ∙ began, list)), same_placing (r.line n) _ r (λ i. record (r.placing (r.line n)) { taken = k i; last = sym l i }) ∙ e)

-- ---- a step that changes nothing of addresses

-- who holds the same, and follows the same run
pub follows_like : (addresses : List Address) (p : Placing) (t n : ℕ) (x y : Node) → y.held ≡ x.held → y.last_run ≡ x.last_run → FollowsIn addresses p t n x → FollowsIn addresses p t n y
follows_like addresses p t n x y held run f = record {
  after = (let k = f.after in omega arith);
  within = (let k = f.within in omega arith);
  turn = λ a e. f.turn a (ap (λ (l : List Address). has_address l a) (sym held) ∙ e);
  own = λ a e. ap (λ (i : ℕ). holder_in a (plan addresses p i)) run ∙ f.own a (ap (λ (l : List Address). has_address l a) (sym held) ∙ e);
}

module _ (config : Config) (x : Choice) (nodes : ℕ → Node) (fs : List Frame) (r : Lines) (turns : Turns) (h : Ready config nodes fs r turns) (n : ℕ) (y : Node) where
  -- what the node follows only rises
  pub same_later : (nodes n).last_run ≤ y.last_run → Later config.addresses nodes (at n y nodes) (spots r) (spots r) turns turns
  same_later run = record {
    grown = λ g. grown_same;
    pline = λ m. omega arith;
    follower = λ g m number real low follow line. (let k = follow line in
        let rise : (nodes m).last_run ≤ (at n y nodes m).last_run = at_each (λ (j : ℕ) (z : Node). (nodes j).last_run ≤ z.last_run) n y nodes run (λ j ne. omega arith) m in
        omega arith);
  }

  same_holds : y.held ≡ (nodes n).held → y.last_run ≡ (nodes n).last_run → LeadStands config.addresses (at n y nodes) (spots r) turns y.lead → Holds config.addresses (at n y nodes) (spots r) turns
  same_holds held run lead = record {
    unborn = h.holds.unborn;
    counts = h.holds.counts;
    installed = h.holds.installed;
    holds = λ m a. at_each (λ (k : ℕ) (z : Node). r.held k a ≡ has_address z.held a) n y nodes (h.holds.holds n a ∙ ap (λ (l : List Address). has_address l a) (sym held)) (λ k ne. h.holds.holds k a) m;
    follows = λ m. at_each (λ (k : ℕ) (z : Node). r.line k ≢ 0 → FollowsIn config.addresses (r.placing (r.line k)) (turns (r.line k)) k z) n y nodes
        (λ line. follows_like config.addresses _ _ n (nodes n) y held run (h.holds.follows n line)) (λ k ne. h.holds.follows k) m;
    leads = λ m. at_each (λ (k : ℕ) (z : Node). LeadStands config.addresses (at n y nodes) (spots r) turns z.lead) n y nodes lead
        (λ k ne. lead_later config.addresses nodes (at n y nodes) (spots r) (spots r) turns turns (same_later (omega arith)) fs h.rounds k (nodes k).lead (h.rounds.leads k) (λ g given. record { placing = refl; turn = refl }) (h.holds.leads k)) m;
  }

  -- what the node leads stands where it is the same
  pub same_lead : (nodes n).last_run ≤ y.last_run → (nodes n).lead ≡ y.lead → LeadStands config.addresses (at n y nodes) (spots r) turns y.lead
  same_lead run e = subst (LeadStands config.addresses (at n y nodes) (spots r) turns) e
      (lead_later config.addresses nodes (at n y nodes) (spots r) (spots r) turns turns (same_later run) fs h.rounds n (nodes n).lead (h.rounds.leads n) (λ g given. record { placing = refl; turn = refl }) (h.holds.leads n))

  pub idle_kept : y.held ≡ (nodes n).held → y.last_run ≡ (nodes n).last_run → LeadStands config.addresses (at n y nodes) (spots r) turns y.lead →
      (ls : List Label) → AllByRecursion (IsIdle config (spots r)) ls → (sent : List Frame) → MailStands config.addresses (at n y nodes) (spots r) turns sent → Kept config x (at n y nodes) fs r ls sent
  idle_kept held run lead ls idle sent stand =
      let goes = all_idle config x (spots r) ls r refl idle in
      record {
        turns = turns;
        needs = goes.0;
        holds = subst (λ (b : Spots). Holds config.addresses (at n y nodes) b turns) (sym goes.1) (same_holds held run lead);
        mail = subst (λ (b : Spots). MailStands config.addresses (at n y nodes) b turns (fs ++ sent)) (sym goes.1)
            (both_stand config.addresses (at n y nodes) (spots r) turns fs sent (mail_later config.addresses nodes (at n y nodes) (spots r) (spots r) turns turns fs (same_later (omega arith)) h.holds h.mail) stand);
      }

-- a node's step that is aside but for what the node leads, with what it tells before
pub aside_kept : (config : Config) (x : Choice) (nodes : ℕ → Node) (fs : List Frame) (r : Lines) (turns : Turns) → Ready config nodes fs r turns → (n : ℕ) (calls : List PendingCall) (first : List Label) (t u : Turn) → AllByRecursion (IsAside config) first →
    t.node.held ≡ (nodes n).held → t.node.last_run ≡ (nodes n).last_run → t.outs ≡ [] → Aside t u → LeadStands config.addresses (at n u.node nodes) (spots r) turns t.node.lead → Kept config x (at n u.node nodes) fs r (first ++ labels_of n calls u.outs) (frame_list u.outs)
aside_kept config x nodes fs r turns h n calls first t u before held run none a lead =
    let all : AllAside u.outs = subst AllAside (sym (a.outs.1 ∙ ap (λ (l : List Out). l ++ a.outs.0) none)) a.outs.2 in
    idle_kept config x nodes fs r turns h n u.node (a.held ∙ held) (a.last_run ∙ run) (subst (LeadStands config.addresses (at n u.node nodes) (spots r) turns) (sym a.lead) lead) (first ++ labels_of n calls u.outs)
    (all_append (IsIdle config (spots r)) first (labels_of n calls u.outs) (aside_idle config (spots r) first before) (aside_idle config (spots r) (labels_of n calls u.outs) (labels_aside config n calls u.outs all)))
    (frame_list u.outs) (frames_stand config.addresses (at n u.node nodes) (spots r) turns u.outs (outs_aside config.addresses (at n u.node nodes) (spots r) turns u.outs all))

-- and one that is aside
pub all_aside_kept : (config : Config) (x : Choice) (nodes : ℕ → Node) (fs : List Frame) (r : Lines) (turns : Turns) → Ready config nodes fs r turns → (n : ℕ) (calls : List PendingCall) (first : List Label) (u : Turn) → AllByRecursion (IsAside config) first →
    Aside (begins (nodes n)) u → Kept config x (at n u.node nodes) fs r (first ++ labels_of n calls u.outs) (frame_list u.outs)
all_aside_kept config x nodes fs r turns h n calls first u before a =
    aside_kept config x nodes fs r turns h n calls first (begins (nodes n)) u before refl refl refl a
    (subst (LeadStands config.addresses (at n u.node nodes) (spots r) turns) a.lead (same_lead config x nodes fs r turns h n u.node (let e = a.last_run in omega arith) (sym a.lead)))
