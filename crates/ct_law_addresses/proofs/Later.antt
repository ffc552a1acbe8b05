-- What a step keeps of messages and of what nodes lead: placements of runs that began stay, and so does whom a node follows.
use Rattle.std.proofs.Common.{◌≡◌, ◌≢◌, ℕ, ◌≤◌, true, List, Some, refl, sym, ap, ◌∙◌, arith}
use Rattle.ct_values.specs.declared.address.Address.{Address}
use Rattle.ct_frame.specs.declared.frame.Assigned.{Assigned}
use Rattle.ct_frame.specs.declared.frame.Frame.{Frame}
use Rattle.ct_frame.specs.declared.frame.Msg.{Msg}
use Rattle.ct_frame.specs.declared.frame.Msg.TheVariants as msg
use Rattle.ct_rules_node.specs.Node.{Node, Lead, Nothing, Freezes, Pulls, Installs, Completed, Takeover, Run, NoRun, Releasing, Taking, is_among}
use Rattle.ct_rules_node.specs.Takeovers.{share, assigned_in}
use Rattle.ct_register.specs.Placing.{Placing}
use Rattle.ct_law_registers.proofs.Places.{Turns, plan}
use Rattle.ct_law_addresses.proofs.Facts.{Spots, RoundsHold, LeadSays, Follower, RunStands, TakeoverStands, LeadStands, Stands, MailStands, Holds}

-- one line's placing, before and after: what was pushed and the runs that began stay, and so do the takes that were sent
pub record Grown (addresses : List Address) (p q : Placing) (t s : ℕ) : Type 0 where
  pub pushed : (xs : List Assigned) → p.pushed ≡ Some xs → q.pushed ≡ Some xs
  pub begun : p.begun ≤ q.begun
  pub plans : (i : ℕ) → 1 ≤ i → i ≤ p.begun → plan addresses q i ≡ plan addresses p i
  pub turn : t ≤ s
  pub taken : (i : ℕ) (xs : List Assigned) → i ≤ t → p.taken i ≡ Some xs → q.taken i ≡ Some xs

pub grown_same : {addresses : List Address} {p : Placing} {t : ℕ} → Grown addresses p p t t
grown_same {addresses} {p} {t} = record { pushed = λ xs e. e; begun = omega arith; plans = λ i low high. refl; turn = omega arith; taken = λ i xs low e. e }

-- nodes and registers, before and after
pub record Later (addresses : List Address) (nodes after : ℕ → Node) (b c : Spots) (turns then : Turns) : Type 0 where
  pub grown : (g : ℕ) → Grown addresses (b.placing g) (c.placing g) (turns g) (then g)
  pub pline : (n : ℕ) → b.pline n ≤ c.pline n
  pub follower : (g n number : ℕ) → g ≢ 0 → g ≤ b.pline n → Follower nodes b g number n → Follower after c g number n

-- a message stands still
stands_later : (addresses : List Address) (nodes after : ℕ → Node) (b c : Spots) (turns then : Turns) → Later addresses nodes after b c turns then → ((g : ℕ) → turns g ≤ (b.placing g).begun) → (g n m : ℕ) (x : Msg) → Stands addresses nodes b turns g n m x → Stands addresses after c then g n m x
unfolding Stands
stands_later addresses nodes after b c turns then l low g n m (msg.Release number keep) h =
    let k = l.grown g in (h.0, (let i = h.1 in let j = k.begun in omega arith), h.2 ∙ ap (share m) (sym (k.plans number h.0 h.1)))
stands_later addresses nodes after b c turns then l low g n m (msg.ReleaseAck number) h =
    let k = l.grown g in (h.0, (let i = h.1 in let j = l.pline n in omega arith), (let i = h.2 in let j = k.begun in omega arith), l.follower g n number h.0 h.1 h.3)
stands_later addresses nodes after b c turns then l low g n m (msg.Take number assigned) h =
    let k = l.grown g in
    let begun : number ≤ (b.placing g).begun = (let i = h.1 in let j = low g in omega arith) in
    (h.0, (let i = h.1 in let j = k.turn in omega arith), k.taken number assigned h.1 h.2, h.3 ∙ ap assigned_in (sym (k.plans number h.0 begun)))
stands_later addresses nodes after b c turns then l low g n m (msg.Push members table ptables assigned) h = (l.grown g).pushed assigned h
stands_later addresses nodes after b c turns then l low g n m _ h = tt

pub mail_later : (addresses : List Address) (nodes after : ℕ → Node) (b c : Spots) (turns then : Turns) (fs : List Frame) → Later addresses nodes after b c turns then → Holds addresses nodes b turns → MailStands addresses nodes b turns fs → MailStands addresses after c then fs
mail_later addresses nodes after b c turns then fs l h mail f is = stands_later addresses nodes after b c turns then l (λ g. (h.counts g).turn) f.generation f.sender f.receiver f.msg (mail f is)

-- ---- what a node leads, where the placing of its line is the same

-- the line is the same to its leader
pub record SameLine (b c : Spots) (turns then : Turns) (g : ℕ) : Type 0 where
  pub placing : c.placing g ≡ b.placing g
  pub turn : then g ≡ turns g

module _ (addresses : List Address) (nodes after : ℕ → Node) (b c : Spots) (turns then : Turns) (l : Later addresses nodes after b c turns then) where
  -- all members have installed the line
  abbrev AllHave : ℕ → List ℕ → Type 0
  AllHave g members = (m : ℕ) → is_among m members ≡ true → g ≤ b.pline m

  run_later : (g : ℕ) (members : List ℕ) (number : ℕ) (run : Run) → SameLine b c turns then g → g ≢ 0 → AllHave g members → RunStands addresses nodes b turns g members number run → RunStands addresses after c then g members number run
  unfolding RunStands
  run_later g members number NoRun same real have h = ap (λ (p : Placing). p.begun) same.placing ∙ h
  run_later g members number (Releasing placement missing) same real have h =
      (h.0 ∙ ap (λ (p : Placing). plan addresses p number) (sym same.placing), (let i = h.1 in let j = same.turn in omega arith), λ m member met. l.follower g m number real (have m member) (h.2 m member met))
  run_later g members number (Taking placement) same real have h =
      (h.0 ∙ ap (λ (p : Placing). plan addresses p number) (sym same.placing), same.turn ∙ h.1, h.2, ap (λ (p : Placing). p.taken number) same.placing ∙ h.3)

  takeover_later : (g : ℕ) (members : List ℕ) (x : Takeover) → SameLine b c turns then g → g ≢ 0 → AllHave g members → TakeoverStands addresses nodes b turns g members x → TakeoverStands addresses after c then g members x
  takeover_later g members x same real have h = record {
    pushed = λ e. h.pushed (ap (λ (p : Placing). p.pushed) (sym same.placing) ∙ e);
    number = h.number ∙ ap (λ (p : Placing). p.begun) (sym same.placing);
    made = h.made ∙ (λ i. plan addresses (sym same.placing i) (sym same.turn i));
    run = run_later g members x.number x.run same real have h.run;
  }

  pub lead_later : (fs : List Frame) → RoundsHold nodes fs b → (k : ℕ) (x : Lead) → LeadSays b k (nodes k) x → ((g : ℕ) → b.leader g ≡ Some k → SameLine b c turns then g) → LeadStands addresses nodes b turns x → LeadStands addresses after c then x
  unfolding LeadStands LeadSays
  lead_later fs rounds k Nothing says same h = tt
  lead_later fs rounds k (Freezes g members missing) says same h = ap (λ (p : Placing). p.begun) (same g says.0.given).placing ∙ h
  lead_later fs rounds k (Pulls g members missing x) says same h = ap (λ (p : Placing). p.begun) (same g says.0.given).placing ∙ h
  lead_later fs rounds k (Installs g members missing body) says same h =
      (ap (λ (p : Placing). p.begun) (same g says.0.given).placing ∙ h.0, ap (λ (p : Placing). p.pushed) (same g says.0.given).placing ∙ h.1)
  lead_later fs rounds k (Completed g members x) says same h = takeover_later g members x (same g says.0.given) says.1 (λ m member. rounds.had g m (says.2 m member)) h
