-- What a node leads changes, and nothing of addresses does: a Freeze, a FreezeAck and a PushAck.
use Rattle.std.proofs.Common.{◌≡◌, ℕ, Bool, true, false, cond, ◌&&◌, List, [], ◌∷◌, Some, refl, sym, ap, ◌∙◌, subst, arith}
use Rattle.std.specs.Prelude.{nat_eq, nat_lt}
use Rattle.std.proofs.lemmas.Bool.{cond_both, eqb-true}
use Rattle.ct_values.specs.Words.{others}
use Rattle.ct_values.specs.declared.address.Address.{Address}
use Rattle.ct_values.specs.declared.config.Config.{Config}
use Rattle.ct_frame.specs.declared.frame.Frame.{Frame}
use Rattle.ct_frame.specs.declared.frame.Msg.TheVariants as msg
use Rattle.ct_frame.specs.declared.round.PushBody.{PushBody}
use Rattle.ct_merge.specs.Gathered.{nothing}
use Rattle.ct_rules_node.specs.Node.{Node, Lead, Nothing, Freezes, Pulls, Installs, Completed, is_among, is_frozen_in, assigned_all}
use Rattle.ct_rules_node.specs.Turn.{Turn, begins, with_node, with_lead, posts}
use Rattle.ct_rules_node.specs.Clients.{frozen_if_unlocked}
use Rattle.ct_rules_node.specs.Rounds.{lead_from, ends_commits, freezes, on_freeze, all_frozen, on_freezeack, completed, all_installed, on_pushack}
use Rattle.ct_rules_cluster.specs.declared.step.PendingCall.{PendingCall}
use Rattle.ct_register.specs.Lines.{Lines}
use Rattle.ct_register.specs.Words.{at}
use Rattle.ct_law_generation.specs.Shown.{labels_of}
use Rattle.ct_law_registers.proofs.Parts.{Choice}
use Rattle.ct_law_registers.proofs.Places.{Turns, plan, or_nothing_pushed}
use Rattle.ct_law_addresses.proofs.Facts.{Spots, spots, RunStands, LeadStands}
use Rattle.ct_law_addresses.proofs.Later.{lead_later}
use Rattle.ct_law_addresses.proofs.Aside.{IsAsideMsg, Aside, aside_same, either_aside, posts_aside, posts_all_aside}
use Rattle.ct_law_addresses.proofs.Asides.{frozen_all_aside}
use Rattle.ct_law_addresses.proofs.Kept.{Ready, Kept, frame_list, same_later, aside_kept, all_aside_kept}

-- what is led for an older generation ends, and else it stands still
from_stands : (addresses : List Address) (nodes : ℕ → Node) (b : Spots) (turns : Turns) (g : ℕ) (l : Lead) → LeadStands addresses nodes b turns l → LeadStands addresses nodes b turns (lead_from g l)
unfolding lead_from LeadStands
from_stands addresses nodes b turns g Nothing h = tt
from_stands addresses nodes b turns g (Freezes k members missing) h = cond_both (nat_lt k g) _ _ (LeadStands addresses nodes b turns) (λ _. tt) (λ _. h)
from_stands addresses nodes b turns g (Pulls k members missing x) h = cond_both (nat_lt k g) _ _ (LeadStands addresses nodes b turns) (λ _. tt) (λ _. h)
from_stands addresses nodes b turns g (Installs k members missing body) h = cond_both (nat_lt k g) _ _ (LeadStands addresses nodes b turns) (λ _. tt) (λ _. h)
from_stands addresses nodes b turns g (Completed k members x) h = cond_both (nat_lt k g) _ _ (LeadStands addresses nodes b turns) (λ _. tt) (λ _. h)

module _ (config : Config) (x : Choice) (nodes : ℕ → Node) (fs : List Frame) (r : Lines) (turns : Turns) (h : Ready config nodes fs r turns) (n : ℕ) (calls : List PendingCall) where
  abbrev pub Kept_by : Turn → Type 0
  Kept_by u = Kept config x (at n u.node nodes) fs r (labels_of n calls u.outs) (frame_list u.outs)

  pub nothing_kept : Kept_by (begins (nodes n))
  nothing_kept = all_aside_kept config x nodes fs r turns h n calls [] (begins (nodes n)) tt aside_same

  -- what the node led stands still
  pub lead_still : (y : Node) → y.last_run ≡ (nodes n).last_run → LeadStands config.addresses (at n y nodes) (spots r) turns (nodes n).lead
  lead_still y run = lead_later config.addresses nodes (at n y nodes) (spots r) (spots r) turns turns (same_later config x nodes fs r turns h n y (omega arith)) fs h.rounds n (nodes n).lead (h.rounds.leads n) (λ g given. record { placing = refl; turn = refl }) (h.holds.leads n)

  -- a step that changes what the node leads, and is aside but for that
  pub lead_kept : (t u : Turn) → t.node.held ≡ (nodes n).held → t.node.last_run ≡ (nodes n).last_run → t.outs ≡ [] → Aside t u →
      ((y : Node) → y.last_run ≡ (nodes n).last_run → LeadStands config.addresses (at n y nodes) (spots r) turns t.node.lead) → Kept_by u
  lead_kept t u held run none a lead = aside_kept config x nodes fs r turns h n calls [] t u tt held run none a (lead u.node (a.last_run ∙ run))

  -- ---- a Freeze

  pub freeze_kept : (from g : ℕ) → Kept_by (on_freeze config n from g (begins (nodes n)))
  unfolding on_freeze freezes with_node IsAsideMsg
  freeze_kept from g = either (nat_lt (nodes n).promise g)
    where
      either : (b : Bool) → Kept_by (cond b (frozen_if_unlocked n g from (ends_commits config 0 (nodes n).dbs (freezes g from (begins (nodes n))))) (cond (is_frozen_in g (nodes n).phase) (posts g n from msg.FreezeAck (begins (nodes n))) (begins (nodes n))))
      either true = lead_kept (freezes g from (begins (nodes n))) _ refl refl refl (frozen_all_aside config n from g (nodes n).dbs (freezes g from (begins (nodes n))))
          (λ y run. from_stands config.addresses (at n y nodes) (spots r) turns g (nodes n).lead (lead_still y run))
      either false = all_aside_kept config x nodes fs r turns h n calls [] _ tt (either_aside (is_frozen_in g (nodes n).phase) (posts_aside g n from msg.FreezeAck (begins (nodes n)) tt) aside_same)

  -- ---- all are frozen

  frozen_kept : (g : ℕ) (members : List ℕ) → (r.placing g).begun ≡ 0 → (left : List ℕ) → Kept_by (all_frozen n g members (begins (nodes n)) left)
  unfolding all_frozen with_lead LeadStands IsAsideMsg
  frozen_kept g members none [] = lead_kept (with_lead (Pulls g members members nothing) (begins (nodes n))) _ refl refl refl (posts_all_aside g n members msg.Pull _ tt) (λ y run. none)
  frozen_kept g members none (m ∷ ms) = lead_kept (with_lead (Freezes g members (m ∷ ms)) (begins (nodes n))) _ refl refl refl aside_same (λ y run. none)

  pub freezeack_kept : (from g : ℕ) (l : Lead) → (nodes n).lead ≡ l → Kept_by (on_freezeack n from g (begins (nodes n)) l)
  unfolding on_freezeack LeadStands
  freezeack_kept from g (Freezes k members missing) e = either (nat_eq k g) (is_among from missing) refl
    where
      none : k ≡ g → (r.placing g).begun ≡ 0
      none same = ap (λ (l : ℕ). (r.placing l).begun) (sym same) ∙ subst (LeadStands config.addresses nodes (spots r) turns) e (h.holds.leads n)

      either : (b d : Bool) → nat_eq k g ≡ b → Kept_by (cond (b && d) (all_frozen n g members (begins (nodes n)) (others from missing)) (begins (nodes n)))
      either true true f = frozen_kept g members (none (eqb-true k g f)) (others from missing)
      either true false f = nothing_kept
      either false d f = nothing_kept
  freezeack_kept from g _ e = nothing_kept

  -- ---- all have installed

  installed_kept : (g : ℕ) (members : List ℕ) (b : PushBody) → (r.placing g).begun ≡ 0 → (r.placing g).pushed ≡ Some b.assigned → (left : List ℕ) → Kept_by (all_installed config n g members b (begins (nodes n)) left)
  unfolding all_installed with_lead LeadStands RunStands completed IsAsideMsg plan or_nothing_pushed
  installed_kept g members b none pushed [] = lead_kept (with_lead (Completed g members (completed config b)) (begins (nodes n))) _ refl refl refl (posts_all_aside g n members msg.Thaw _ tt) (λ y run. record {
    pushed = λ z. absurd (let s = sym pushed ∙ z in cc);
    number = sym none;
    made = ap (λ o. assigned_all config.addresses (or_nothing_pushed o)) (sym pushed) ∙ ap (plan config.addresses (r.placing g)) (let t = (h.holds.counts g).turn in let e : 0 ≡ turns g = omega arith in e);
    run = none;
  })
  installed_kept g members b none pushed (m ∷ ms) = lead_kept (with_lead (Installs g members (m ∷ ms) b) (begins (nodes n))) _ refl refl refl aside_same (λ y run. (none, pushed))

  pub pushack_kept : (from g : ℕ) (l : Lead) → (nodes n).lead ≡ l → Kept_by (on_pushack config n from g (begins (nodes n)) l)
  unfolding on_pushack LeadStands
  pushack_kept from g (Installs k members missing b) e = either (nat_eq k g) (is_among from missing) refl
    where
      stands : ((r.placing k).begun ≡ 0) × ((r.placing k).pushed ≡ Some b.assigned)
      stands = subst (LeadStands config.addresses nodes (spots r) turns) e (h.holds.leads n)

      either : (c d : Bool) → nat_eq k g ≡ c → Kept_by (cond (c && d) (all_installed config n g members b (begins (nodes n)) (others from missing)) (begins (nodes n)))
      either true true f = (let same = eqb-true k g f in installed_kept g members b (ap (λ (l : ℕ). (r.placing l).begun) (sym same) ∙ stands.0) (ap (λ (l : ℕ). (r.placing l).pushed) (sym same) ∙ stands.1) (others from missing))
      either true false f = nothing_kept
      either false d f = nothing_kept
  pushack_kept from g _ e = nothing_kept
