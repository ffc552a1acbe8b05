-- A step by which the placing of one line changes, at the node that leads it.
use Rattle.std.proofs.Common.{◌≡◌, ◌≢◌, ℕ, zero, suc, ◌+◌, ◌<◌, ◌≤◌, Bool, true, false, List, [], ◌∷◌, ◌++◌, map, append-nil, append_assoc, Option, None, Some, refl, sym, ap, ◌∙◌, subst, arith, ⊎_elim}
use Rattle.std.specs.Prelude.{◌⊎◌}
use Rattle.std.specs.List.{AllByRecursion}
use Rattle.std.proofs.lemmas.Bool.{cases_eq}
use Rattle.ct_values.specs.declared.address.Address.{Address}
use Rattle.ct_values.specs.declared.config.Config.{Config}
use Rattle.ct_frame.specs.declared.event.Out.{Out}
use Rattle.ct_frame.specs.declared.event.Out.TheVariants as out
use Rattle.ct_frame.specs.declared.frame.Assigned.{Assigned}
use Rattle.ct_frame.specs.declared.frame.Frame.{Frame}
use Rattle.ct_frame.specs.declared.frame.Msg.{Msg}
use Rattle.ct_frame.specs.declared.frame.Msg.TheVariants as msg
use Rattle.ct_rules_node.specs.Node.{Node, is_among, assigned_all}
use Rattle.ct_rules_node.specs.Turn.{Turn, does, posts, posts_all}
use Rattle.ct_rules_node.specs.Takeovers.{share, assigned_in, has_address, send_releases}
use Rattle.ct_rules_cluster.specs.Labels.{Label}
use Rattle.ct_rules_cluster.specs.Traces.{sent_label}
use Rattle.ct_rules_cluster.specs.declared.step.PendingCall.{PendingCall}
use Rattle.ct_register.proofs.Places.{at_same, at_other, at_each}
use Rattle.ct_register.specs.Placing.{Placing, given_placement}
use Rattle.ct_register.specs.Lines.{Lines}
use Rattle.ct_register.specs.Words.{at}
use Rattle.ct_law_generation.specs.Shown.{labels_of}
use Rattle.ct_law_registers.proofs.Parts.{Choice, goes_on, PlacesNeed, AllNeed}
use Rattle.ct_law_registers.proofs.Places.{Turns, Counts, plan, made_by, or_nothing_pushed}
use Rattle.ct_law_registers.proofs.Taking.{restored}
use Rattle.ct_promise.specs.Promises.{IsConfig}
use Rattle.ct_law_addresses.proofs.Lists.{plan_apart, plan_addresses}
use Rattle.ct_law_addresses.proofs.Facts.{Spots, spots, LeadStands, FrameStands, MailStands, FollowsIn, Holds, IsUnplaced}
use Rattle.ct_law_addresses.proofs.Later.{Grown, grown_same, Later, SameLine, mail_later, lead_later}
use Rattle.ct_law_addresses.proofs.Kept.{Ready, Kept, OutStands, both_stand, follows_like}

-- ---- plans

-- who has the same push and the same runs has the same plans
pub plan_like : (addresses : List Address) (p q : Placing) → q.pushed ≡ p.pushed → (i : ℕ) → q.runs i ≡ p.runs i → plan addresses q i ≡ plan addresses p i
unfolding plan
plan_like addresses p q e zero f = ap (λ (o : Option (List Assigned)). assigned_all addresses (or_nothing_pushed o)) e
plan_like addresses p q e (suc k) f = ap (made_by addresses) f

-- what a run makes
pub plan_of : (addresses : List Address) (p : Placing) (i : ℕ) → 1 ≤ i → plan addresses p i ≡ made_by addresses (p.runs i)
unfolding plan
plan_of addresses p zero low = absurd (omega arith)
plan_of addresses p (suc k) low = refl

-- the next run begins with the placement of the last take, or with what was pushed before any
pub record Given (addresses : List Address) (p : Placing) (t : ℕ) : Type 0 where
  pub list : List Assigned
  pub is : given_placement p.pushed p.last ≡ Some list
  pub all : assigned_all addresses list ≡ plan addresses p t

given_pushed : (addresses : List Address) (p : Placing) (o : Option (List Assigned)) → p.pushed ≡ o → o ≢ None → p.last ≡ None → Given addresses p 0
unfolding given_placement plan or_nothing_pushed
given_pushed addresses p None e some none = absurd (some refl)
given_pushed addresses p (Some xs) e some none = record {
  list = xs;
  is = ap (λ (o : Option (List Assigned)). given_placement p.pushed o) none ∙ e;
  all = ap (λ (o : Option (List Assigned)). assigned_all addresses (or_nothing_pushed o)) (sym e);
}

pub given_now : (config : Config) → IsConfig config → (p : Placing) (t : ℕ) → Counts config.addresses p t → p.pushed ≢ None → Given config.addresses p t
unfolding given_placement
given_now config valid p zero c some = given_pushed config.addresses p p.pushed refl some (c.none refl)
given_now config valid p (suc t) c some = record {
  list = assigned_in (plan config.addresses p (suc t));
  is = ap (λ (o : Option (List Assigned)). given_placement p.pushed o) (c.last (λ z. absurd (cc)));
  all = restored config.addresses (plan config.addresses p (suc t)) (plan_addresses config.addresses p (suc t)) (plan_apart config valid p (suc t));
}

-- ---- messages to several nodes

pub sends : (ℕ → Frame) → List ℕ → List Out
sends to ns = map (λ k. out.Send (to k)) ns

-- the same message to each
abbrev pub alike : ℕ → ℕ → Msg → ℕ → Frame
alike g me m k = record { generation = g; sender = me; receiver = k; msg = m }

pub posts_all_is : (g me : ℕ) (ns : List ℕ) (m : Msg) (t : Turn) → posts_all g me ns m t ≡ record t { outs = t.outs ++ sends (alike g me m) ns }
unfolding posts_all posts does sends
posts_all_is g me [] m t = (λ i. record t { outs = sym (append-nil t.outs) i })
posts_all_is g me (n ∷ ns) m t = posts_all_is g me ns m (posts g me n m t) ∙ (λ i. record t { outs = append_assoc t.outs (out.Send (alike g me m n) ∷ []) (sends (alike g me m) ns) i })

-- a Release to each, with its own addresses
abbrev pub release_to : ℕ → ℕ → ℕ → List Assigned → ℕ → Frame
release_to g me number placement k = record { generation = g; sender = me; receiver = k; msg = msg.Release number (share k placement) }

pub send_releases_is : (me g number : ℕ) (placement : List Assigned) (ns : List ℕ) (t : Turn) → send_releases me g number placement ns t ≡ record t { outs = t.outs ++ sends (release_to g me number placement) ns }
unfolding send_releases posts does sends
send_releases_is me g number placement [] t = (λ i. record t { outs = sym (append-nil t.outs) i })
send_releases_is me g number placement (n ∷ ns) t =
    send_releases_is me g number placement ns (posts g me n (msg.Release number (share n placement)) t) ∙ (λ i. record t { outs = append_assoc t.outs (out.Send (release_to g me number placement n) ∷ []) (sends (release_to g me number placement) ns) i })

pub sends_stand : (addresses : List Address) (nodes : ℕ → Node) (b : Spots) (turns : Turns) (to : ℕ → Frame) (ns : List ℕ) → ((k : ℕ) → FrameStands addresses nodes b turns (to k)) → AllByRecursion (OutStands addresses nodes b turns) (sends to ns)
unfolding OutStands sends
sends_stand addresses nodes b turns to [] h = tt
sends_stand addresses nodes b turns to (n ∷ ns) h = (h n, sends_stand addresses nodes b turns to ns h)

pub sends_silent : (n : ℕ) (calls : List PendingCall) (to : ℕ → Frame) (ns : List ℕ) → ((k : ℕ) → sent_label (to k).sender (to k).generation (to k).msg ≡ []) → labels_of n calls (sends to ns) ≡ []
unfolding labels_of sends
sends_silent n calls to [] h = refl
sends_silent n calls to (k ∷ ks) h = ap (λ (l : List Label). l ++ labels_of n calls (sends to ks)) (h k) ∙ sends_silent n calls to ks h

-- one label for each
pub sends_tell : (n : ℕ) (calls : List PendingCall) (to : ℕ → Frame) (label : Label) (ns : List ℕ) → ((k : ℕ) → sent_label (to k).sender (to k).generation (to k).msg ≡ label ∷ []) → labels_of n calls (sends to ns) ≡ map (λ k. label) ns
unfolding labels_of sends
sends_tell n calls to label [] h = refl
sends_tell n calls to label (k ∷ ks) h = (λ i. h k i ++ sends_tell n calls to label ks h i)

-- ---- what is kept

module _ (config : Config) (x : Choice) (nodes : ℕ → Node) (fs : List Frame) (r : Lines) (turns : Turns) (h : Ready config nodes fs r turns) (n : ℕ) (y : Node) (g : ℕ) (q : Placing) (s : ℕ) (born : ℕ → Bool) where
  -- what the registers say of addresses then
  abbrev pub replaced : Spots
  replaced = record (spots r) { placing = at g q r.placing; born = born }

  abbrev pub turned : Turns
  turned = at g s turns

  -- what is owed of the line
  pub record Replaces : Type 0 where
    pub grown : Grown config.addresses (r.placing g) q (turns g) s
    pub counts : Counts config.addresses q s
    pub is_born : born g ≡ true
    pub others : (l : ℕ) → l ≢ g → born l ≡ r.born l
    pub installed : s ≢ 0 → (m : ℕ) → is_among m (r.members g) ≡ true → r.installed g m ≡ true
    pub follows : (k : ℕ) → r.line k ≡ g → r.line k ≢ 0 → FollowsIn config.addresses q s k (nodes k)
    pub leader : r.leader g ≡ Some n
    pub held : y.held ≡ (nodes n).held
    pub last_run : y.last_run ≡ (nodes n).last_run

  module _ (o : Replaces) where
    grown_at : (l : ℕ) → Grown config.addresses (r.placing l) (replaced.placing l) (turns l) (turned l)
    grown_at l = ⊎_elim
        (λ (e : l ≡ g). subst (λ (p : Placing). Grown config.addresses (r.placing l) p (turns l) (turned l)) (sym (at_same g l q r.placing e))
        (subst (λ (t : ℕ). Grown config.addresses (r.placing l) q (turns l) t) (sym (at_same g l s turns e)) (subst (λ (k : ℕ). Grown config.addresses (r.placing k) q (turns k) s) (sym e) o.grown)))
        (λ (ne : l ≢ g). subst (λ (p : Placing). Grown config.addresses (r.placing l) p (turns l) (turned l)) (sym (at_other g l q r.placing ne))
        (subst (λ (t : ℕ). Grown config.addresses (r.placing l) (r.placing l) (turns l) t) (sym (at_other g l s turns ne)) grown_same))
        (cases_eq l g)

    replaced_later : Later config.addresses nodes (at n y nodes) (spots r) replaced turns turned
    replaced_later = record {
      grown = grown_at;
      pline = λ m. omega arith;
      follower = λ l m number real low follow line. (let k = follow line in
          let rise : (nodes m).last_run ≤ (at n y nodes m).last_run = at_each (λ (j : ℕ) (z : Node). (nodes j).last_run ≤ z.last_run) n y nodes (let e = o.last_run in omega arith) (λ j ne. omega arith) m in
          omega arith);
    }

    -- what others lead is another line
    other_line : (k : ℕ) → k ≢ n → (l : ℕ) → r.leader l ≡ Some k → SameLine (spots r) replaced turns turned l
    other_line k ne l given =
        let differ : l ≢ g = (λ e. (let same : Some k ≡ Some n = sym given ∙ ap r.leader e ∙ o.leader in ne (let i : k ≡ n = cc in i))) in
        record { placing = at_other g l q r.placing differ; turn = at_other g l s turns differ }

    -- a fact of each line and its placing
    each_line : (P : ℕ → Placing → ℕ → Type 0) → P g q s → ((l : ℕ) → l ≢ g → P l (r.placing l) (turns l)) → (l : ℕ) → P l (replaced.placing l) (turned l)
    each_line P here there l = ⊎_elim
        (λ (e : l ≡ g). subst (λ (p : Placing). P l p (turned l)) (sym (at_same g l q r.placing e)) (subst (λ (t : ℕ). P l q t) (sym (at_same g l s turns e)) (subst (λ (k : ℕ). P k q s) (sym e) here)))
        (λ (ne : l ≢ g). subst (λ (p : Placing). P l p (turned l)) (sym (at_other g l q r.placing ne)) (subst (λ (t : ℕ). P l (r.placing l) t) (sym (at_other g l s turns ne)) (there l ne)))
        (cases_eq l g)

    followed : (k : ℕ) → r.line k ≢ 0 → FollowsIn config.addresses (replaced.placing (r.line k)) (turned (r.line k)) k (nodes k)
    followed k line = each_line (λ (l : ℕ) (p : Placing) (t : ℕ). r.line k ≡ l → FollowsIn config.addresses p t k (nodes k))
        (λ e. o.follows k e line)
        (λ l ne e. subst (λ (j : ℕ). FollowsIn config.addresses (r.placing j) (turns j) k (nodes k)) e (h.holds.follows k line))
        (r.line k) refl

    replaced_holds : LeadStands config.addresses (at n y nodes) replaced turned y.lead → Holds config.addresses (at n y nodes) replaced turned
    replaced_holds lead = record {
      unborn = each_line (λ (l : ℕ) (p : Placing) (t : ℕ). born l ≡ false → IsUnplaced p) (λ e. absurd (let b = o.is_born in cc)) (λ l ne e. h.holds.unborn l (sym (o.others l ne) ∙ e));
      counts = each_line (λ (l : ℕ) (p : Placing) (t : ℕ). Counts config.addresses p t) o.counts (λ l ne. h.holds.counts l);
      installed = λ l m. each_line (λ (k : ℕ) (p : Placing) (t : ℕ). t ≢ 0 → is_among m (r.members k) ≡ true → r.installed k m ≡ true) (λ some member. o.installed some m member) (λ k ne. h.holds.installed k m) l;
      holds = λ m a. at_each (λ (k : ℕ) (z : Node). r.held k a ≡ has_address z.held a) n y nodes (h.holds.holds n a ∙ ap (λ (l : List Address). has_address l a) (sym o.held)) (λ k ne. h.holds.holds k a) m;
      follows = λ m. at_each (λ (k : ℕ) (z : Node). r.line k ≢ 0 → FollowsIn config.addresses (replaced.placing (r.line k)) (turned (r.line k)) k z) n y nodes
          (λ line. follows_like config.addresses _ _ n (nodes n) y o.held o.last_run (followed n line)) (λ k ne. followed k) m;
      leads = λ m. at_each (λ (k : ℕ) (z : Node). LeadStands config.addresses (at n y nodes) replaced turned z.lead) n y nodes lead
          (λ k ne. lead_later config.addresses nodes (at n y nodes) (spots r) replaced turns turned replaced_later fs h.rounds k (nodes k).lead (h.rounds.leads k) (other_line k ne) (h.holds.leads k)) m;
    }

    pub replaced_kept : (ls : List Label) → AllNeed (PlacesNeed config) config x r ls → spots (goes_on config x ls r) ≡ replaced → LeadStands config.addresses (at n y nodes) replaced turned y.lead →
        (sent : List Frame) → MailStands config.addresses (at n y nodes) replaced turned sent → Kept config x (at n y nodes) fs r ls sent
    replaced_kept ls needs goes lead sent stand = record {
      turns = turned;
      needs = needs;
      holds = subst (λ (b : Spots). Holds config.addresses (at n y nodes) b turned) (sym goes) (replaced_holds lead);
      mail = subst (λ (b : Spots). MailStands config.addresses (at n y nodes) b turned (fs ++ sent)) (sym goes)
          (both_stand config.addresses (at n y nodes) replaced turned fs sent (mail_later config.addresses nodes (at n y nodes) (spots r) replaced turns turned fs replaced_later h.holds h.mail) stand);
    }
