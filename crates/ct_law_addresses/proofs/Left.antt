-- A node stops: it is in no line then, and holds no address.
use Rattle.std.proofs.Common.{◌≡◌, ◌≢◌, ℕ, Bool, false, List, [], ◌∷◌, append-nil, refl, sym, ap, ◌∙◌, subst, arith, ⊎_elim}
use Rattle.std.proofs.lemmas.Bool.{cases_eq}
use Rattle.ct_values.specs.declared.address.Address.{Address}
use Rattle.ct_values.specs.declared.config.Config.{Config}
use Rattle.ct_frame.specs.declared.frame.Frame.{Frame}
use Rattle.ct_rules_node.specs.Node.{Node, restarted}
use Rattle.ct_rules_node.specs.Takeovers.{has_address}
use Rattle.ct_rules_cluster.specs.Labels.{Stopped}
use Rattle.ct_register.proofs.Places.{at_same, at_other, at_each}
use Rattle.ct_register.specs.Lines.{Lines}
use Rattle.ct_register.specs.Words.{at}
use Rattle.ct_law_registers.proofs.Parts.{Choice, goes, goes_on, PlacesNeed, AllNeed}
use Rattle.ct_law_registers.proofs.Places.{Turns}
use Rattle.ct_law_addresses.proofs.Facts.{Spots, spots, LeadStands, MailStands, FollowsIn, Holds}
use Rattle.ct_law_addresses.proofs.Later.{grown_same, Later, mail_later, lead_later}
use Rattle.ct_law_addresses.proofs.Kept.{Ready, Kept}

module _ (config : Config) (x : Choice) (nodes : ℕ → Node) (fs : List Frame) (r : Lines) (turns : Turns) (h : Ready config nodes fs r turns) (n : ℕ) where
  abbrev y : Node
  y = restarted config (nodes n)

  abbrev then : ℕ → Node
  then = at n y nodes

  abbrev d : Spots
  d = record (spots r) { line = at n 0 r.line; held = at n (λ _. false) r.held }

  left_later : Later config.addresses nodes then (spots r) d turns turns
  left_later = record {
    grown = λ l. grown_same;
    pline = λ m. omega arith;
    follower = λ l m number some low follow line. ⊎_elim
        (λ (e : m ≡ n). absurd (some (sym line ∙ at_same n m 0 r.line e)))
        (λ (ne : m ≢ n). (let k = follow (sym (at_other n m 0 r.line ne) ∙ line) in let z : (then m).last_run ≡ (nodes m).last_run = ap (λ (u : Node). u.last_run) (at_other n m y nodes ne) in omega arith))
        (cases_eq m n);
  }

  left_holds : Holds config.addresses then d turns
  unfolding restarted LeadStands has_address
  left_holds = record {
    unborn = h.holds.unborn;
    counts = h.holds.counts;
    installed = h.holds.installed;
    holds = λ m a. at_each (λ (k : ℕ) (z : Node). at n (λ _. false) r.held k a ≡ has_address z.held a) n y nodes
        (ap (λ (f : Address → Bool). f a) (at_same n n (λ _. false) r.held refl))
        (λ k ne. ap (λ (f : Address → Bool). f a) (at_other n k (λ _. false) r.held ne) ∙ h.holds.holds k a) m;
    follows = at_each (λ (k : ℕ) (z : Node). at n 0 r.line k ≢ 0 → FollowsIn config.addresses (r.placing (at n 0 r.line k)) (turns (at n 0 r.line k)) k z) n y nodes
        (λ line. absurd (line (at_same n n 0 r.line refl)))
        (λ k ne. subst (λ (l : ℕ). l ≢ 0 → FollowsIn config.addresses (r.placing l) (turns l) k (nodes k)) (sym (at_other n k 0 r.line ne)) (h.holds.follows k));
    leads = at_each (λ (k : ℕ) (z : Node). LeadStands config.addresses then d turns z.lead) n y nodes tt
        (λ k ne. lead_later config.addresses nodes then (spots r) d turns turns left_later fs h.rounds k (nodes k).lead (h.rounds.leads k) (λ l given. record { placing = refl; turn = refl }) (h.holds.leads k));
  }

  pub stop_kept : Kept config x then fs r (Stopped n ∷ []) []
  unfolding AllNeed PlacesNeed goes_on goes
  stop_kept = record {
    turns = turns;
    needs = (tt, tt);
    holds = left_holds;
    mail = subst (MailStands config.addresses then d turns) (sym (append-nil fs)) (mail_later config.addresses nodes then (spots r) d turns turns fs left_later h.holds h.mail);
  }
