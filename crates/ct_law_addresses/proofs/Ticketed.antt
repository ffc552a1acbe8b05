-- A ticket is given, of a generation that is no line yet, and its node begins the round.
use Rattle.std.proofs.Common.{◌≡◌, ◌≢◌, ℕ, ◌≤◌, Bool, true, false, cond, List, [], ◌∷◌, ◌++◌, Some, refl, sym, ap, ◌∙◌, subst, arith, ⊎_elim}
use Rattle.std.specs.Prelude.{nat_lt}
use Rattle.std.proofs.lemmas.Bool.{cases_eq}
use Rattle.ct_values.specs.declared.config.Config.{Config}
use Rattle.ct_frame.specs.declared.event.Out.{Out}
use Rattle.ct_frame.specs.declared.frame.Frame.{Frame}
use Rattle.ct_frame.specs.declared.frame.Msg.TheVariants as msg
use Rattle.ct_rules_node.specs.Node.{Node, Freezes, is_among}
use Rattle.ct_rules_node.specs.Turn.{Turn, begins, with_lead, makes, posts_all}
use Rattle.ct_rules_node.specs.Rounds.{begin_round}
use Rattle.ct_rules_node.specs.Takeovers.{has_address}
use Rattle.ct_rules_cluster.specs.Labels.{Ticket}
use Rattle.ct_rules_cluster.specs.declared.step.PendingCall.{PendingCall}
use Rattle.ct_register.proofs.Places.{at_other, at_each}
use Rattle.ct_register.specs.Lines.{Lines}
use Rattle.ct_register.specs.Words.{at}
use Rattle.ct_law_generation.specs.Shown.{labels_of}
use Rattle.ct_law_registers.proofs.Parts.{Choice, goes, goes_on, PlacesNeed, AllNeed}
use Rattle.ct_law_registers.proofs.Places.{Turns}
use Rattle.ct_law_addresses.proofs.Facts.{Spots, spots, LeadStands, MailStands, FollowsIn, Holds}
use Rattle.ct_law_addresses.proofs.Later.{grown_same, Later, mail_later, lead_later}
use Rattle.ct_law_addresses.proofs.Aside.{IsAsideMsg, AllAside, Aside, aside_same, all_aside, labels_aside, posts_all_aside}
use Rattle.ct_law_addresses.proofs.Kept.{Ready, Kept, both_stand, frame_list, frames_stand, outs_aside, follows_like}

module _ (config : Config) (x : Choice) (nodes : ℕ → Node) (fs : List Frame) (r : Lines) (turns : Turns) (h : Ready config nodes fs r turns) (n : ℕ) (calls : List PendingCall) (g : ℕ) (members shown : List ℕ) (unborn : r.born g ≡ false) where
  none_begun : (r.placing g).begun ≡ 0
  none_begun = (h.holds.unborn g unborn).1

  abbrev s : Lines
  s = goes config x (Ticket g n shown) r

  abbrev d : Spots
  d = record (spots r) { leader = at g (Some n) r.leader; members = at g shown r.members }

  module _ (y : Node) (held : y.held ≡ (nodes n).held) (run : y.last_run ≡ (nodes n).last_run) where
    abbrev then : ℕ → Node
    then = at n y nodes

    ticketed_later : Later config.addresses nodes then (spots r) d turns turns
    ticketed_later = record {
      grown = λ l. grown_same;
      pline = λ m. omega arith;
      follower = λ l m number some low follow line. (let k = follow line in
          let rise : (nodes m).last_run ≤ (then m).last_run = at_each (λ (j : ℕ) (z : Node). (nodes j).last_run ≤ z.last_run) n y nodes (omega arith) (λ j ne. omega arith) m in
          omega arith);
    }

    lead_there : (k : ℕ) → LeadStands config.addresses then d turns (nodes k).lead
    lead_there k = lead_later config.addresses nodes then (spots r) d turns turns ticketed_later fs h.rounds k (nodes k).lead (h.rounds.leads k) (λ l given. record { placing = refl; turn = refl }) (h.holds.leads k)

    installed_still : (l m : ℕ) → turns l ≢ 0 → is_among m (at g shown r.members l) ≡ true → r.installed l m ≡ true
    installed_still l m some member = ⊎_elim
        (λ (e : l ≡ g). absurd (let c = (h.holds.counts g).turn in let z : turns l ≡ turns g = ap turns e in let b = none_begun in some (omega arith)))
        (λ (ne : l ≢ g). h.holds.installed l m some (ap (is_among m) (sym (at_other g l shown r.members ne)) ∙ member)) (cases_eq l g)

    ticketed_holds : LeadStands config.addresses then d turns y.lead → Holds config.addresses then d turns
    ticketed_holds lead = record {
      unborn = h.holds.unborn;
      counts = h.holds.counts;
      installed = installed_still;
      holds = λ m a. at_each (λ (k : ℕ) (z : Node). r.held k a ≡ has_address z.held a) n y nodes (h.holds.holds n a ∙ ap (λ l. has_address l a) (sym held)) (λ k ne. h.holds.holds k a) m;
      follows = at_each (λ (k : ℕ) (z : Node). r.line k ≢ 0 → FollowsIn config.addresses (r.placing (r.line k)) (turns (r.line k)) k z) n y nodes
          (λ line. follows_like config.addresses _ _ n (nodes n) y held run (h.holds.follows n line)) (λ k ne. h.holds.follows k);
      leads = at_each (λ (k : ℕ) (z : Node). LeadStands config.addresses then d turns z.lead) n y nodes lead (λ k ne. lead_there k);
    }

    ticketed_kept : LeadStands config.addresses then d turns y.lead → (xs : List Out) → AllAside xs → Kept config x then fs r (Ticket g n shown ∷ labels_of n calls xs) (frame_list xs)
    unfolding AllNeed PlacesNeed goes_on goes
    ticketed_kept lead xs aside =
        let told = all_aside config x (labels_of n calls xs) s (labels_aside config n calls xs aside) in
        record {
          turns = turns;
          needs = (tt, told.0);
          holds = subst (λ (b : Spots). Holds config.addresses then b turns) (sym told.1) (ticketed_holds lead);
          mail = subst (λ (b : Spots). MailStands config.addresses then b turns (fs ++ frame_list xs)) (sym told.1)
              (both_stand config.addresses then d turns fs (frame_list xs) (mail_later config.addresses nodes then (spots r) d turns turns fs ticketed_later h.holds h.mail)
              (frames_stand config.addresses then d turns xs (outs_aside config.addresses then d turns xs aside)));
        }

  abbrev Kept_by : Turn → Type 0
  Kept_by u = Kept config x (at n u.node nodes) fs r (Ticket g n shown ∷ labels_of n calls u.outs) (frame_list u.outs)

  -- what comes of it is aside, but for what the node leads
  turn_kept : (t u : Turn) → t.node.held ≡ (nodes n).held → t.node.last_run ≡ (nodes n).last_run → t.outs ≡ [] → Aside t u → ((y : Node) → y.held ≡ (nodes n).held → y.last_run ≡ (nodes n).last_run → LeadStands config.addresses (at n y nodes) d turns t.node.lead) → Kept_by u
  turn_kept t u held run none a lead = ticketed_kept u.node (a.held ∙ held) (a.last_run ∙ run) (subst (LeadStands config.addresses (at n u.node nodes) d turns) (sym a.lead) (lead u.node (a.held ∙ held) (a.last_run ∙ run)))
      u.outs (subst AllAside (sym (a.outs.1 ∙ ap (λ (l : List Out). l ++ a.outs.0) none)) a.outs.2)

  pub begin_kept : Kept_by (begin_round n g members (begins (nodes n)))
  unfolding begin_round with_lead makes LeadStands IsAsideMsg
  begin_kept = either (nat_lt (nodes n).promise g)
    where
      either : (b : Bool) → Kept_by (cond b (posts_all g n members (msg.Freeze members) (with_lead (Freezes g members members) (makes g (begins (nodes n))))) (begins (nodes n)))
      either true = turn_kept (with_lead (Freezes g members members) (makes g (begins (nodes n)))) _ refl refl refl (posts_all_aside g n members (msg.Freeze members) _ tt) (λ y held run. none_begun)
      either false = turn_kept (begins (nodes n)) _ refl refl refl aside_same (λ y held run. lead_there y held run n)
