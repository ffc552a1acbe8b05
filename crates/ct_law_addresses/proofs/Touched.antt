-- A step in which a node gives up addresses, or takes some: what it tells, and what is kept.
use Rattle.std.proofs.Common.{◌≡◌, ◌≢◌, ℕ, ◌+◌, ◌<◌, ◌≤◌, Bool, true, false, cond, ◌&&◌, ◌||◌, List, [], ◌∷◌, ◌++◌, map, append-nil, append_assoc, refl, sym, ap, ◌∙◌, subst, arith, ⊎_elim}
use Rattle.std.specs.Prelude.{◌⊎◌, not}
use Rattle.std.specs.List.{AllByRecursion, list_any}
use Rattle.ct_lcp2.proofs.Choices.{all_weaken}
use Rattle.ct_values.proofs.AddressOrder.{same_itself}
use Rattle.ct_values.specs.Address.{same_address}
use Rattle.ct_values.specs.declared.address.Address.{Address}
use Rattle.ct_values.specs.declared.config.Config.{Config}
use Rattle.ct_frame.specs.declared.event.Note.TheVariants as note
use Rattle.ct_frame.specs.declared.event.Out.{Out}
use Rattle.ct_frame.specs.declared.event.Out.TheVariants as out
use Rattle.ct_frame.specs.declared.frame.Frame.{Frame}
use Rattle.ct_rules_node.specs.Node.{Node}
use Rattle.ct_rules_node.specs.Turn.{Turn, does, with_node, notes}
use Rattle.ct_rules_node.specs.Rounds.{releases}
use Rattle.ct_rules_node.specs.Takeovers.{has_address, held_with, takes}
use Rattle.ct_rules_cluster.specs.Labels.{Label, Noted}
use Rattle.ct_rules_cluster.specs.Steps.{frames_of}
use Rattle.ct_rules_cluster.specs.declared.step.PendingCall.{PendingCall}
use Rattle.ct_register.proofs.Places.{at_same, at_other, at_each}
use Rattle.ct_register.specs.Placing.{IsAssigned}
use Rattle.ct_register.specs.Lines.{Lines, with_address}
use Rattle.ct_register.specs.Words.{at, at_address}
use Rattle.ct_law_generation.specs.Shown.{labels_of}
use Rattle.ct_law_registers.proofs.Parts.{Choice, goes, goes_on, note_goes, PlacesNeed, AllNeed}
use Rattle.ct_law_registers.proofs.Places.{Turns}
use Rattle.ct_law_addresses.proofs.Lists.{has_more}
use Rattle.ct_law_addresses.proofs.Facts.{Spots, spots, LeadStands, MailStands, FollowsIn, Holds}
use Rattle.ct_law_addresses.proofs.Later.{grown_same, Later, mail_later, lead_later}
use Rattle.ct_law_addresses.proofs.Kept.{Ready, Kept, both_stand}

-- the registers say of one node that it holds these addresses now, and nothing else changes
pub record Touched (r s : Lines) (n : ℕ) (has : Address → Bool) : Type 0 where
  pub only : spots s ≡ record (spots r) { held = s.held }
  pub other : (m : ℕ) (a : Address) → m ≢ n → s.held m a ≡ r.held m a
  pub own : (a : Address) → s.held n a ≡ has a

abbrev pub released_by : ℕ → List Address → List Label
released_by n ys = map (λ a. Noted n (note.Released a)) ys

abbrev pub took_by : ℕ → List Address → List Label
took_by n ys = map (λ a. Noted n (note.Took a)) ys

-- ---- what is told

held_other : (n m : ℕ) (b a : Address) (t : Bool) (r : Lines) → m ≢ n → (with_address n b t r).held m a ≡ r.held m a
held_other n m b a t r ne = ap (λ (f : Address → Bool). f a) (at_other n m (at_address b t (r.held n)) r.held ne)

held_own : (n : ℕ) (b a : Address) (t : Bool) (r : Lines) → (with_address n b t r).held n a ≡ cond (same_address a b) t (r.held n a)
unfolding at_address
held_own n b a t r = ap (λ (f : Address → Bool). f a) (at_same n n (at_address b t (r.held n)) r.held refl)

-- addresses are given up, one after the other
pub released_goes : (config : Config) (x : Choice) (n : ℕ) (ys : List Address) (r : Lines) → r.line n ≢ 0 →
    AllNeed (PlacesNeed config) config x r (released_by n ys) × Touched r (goes_on config x (released_by n ys) r) n (λ a. r.held n a && not (has_address ys a))
unfolding AllNeed PlacesNeed goes_on goes note_goes has_address
released_goes config x n [] r line = (tt, record { only = refl; other = λ m a ne. refl; own = λ a. grind arith })
released_goes config x n (b ∷ ys) r line =
    let k = released_goes config x n ys (with_address n b false r) line in (
      (line, k.0),
      record {
        only = k.1.only;
        other = λ m a ne. k.1.other m a ne ∙ held_other n m b a false r ne;
        own = λ a. k.1.own a ∙ ap (λ (t : Bool). t && not (list_any (same_address a) ys)) (held_own n b a false r) ∙ either (same_address a b) (r.held n a) (list_any (same_address a) ys);
      },
    )
  where
    either : (s t v : Bool) → (cond s false t && not v) ≡ (t && not (s || v))
    either true true v = refl
    either true false v = refl
    either false t v = refl

-- the node may take the address: no other node of its line holds it, and some take assigns it there
abbrev pub MayTake : Lines → ℕ → Address → Type 0
MayTake r n a = ((m : ℕ) → m ≢ n → r.line m ≡ r.line n → r.held m a ≡ false) × IsAssigned a n (r.placing (r.line n))

-- addresses are taken, one after the other
pub took_goes : (config : Config) (x : Choice) (n : ℕ) (ys : List Address) (r : Lines) → r.line n ≢ 0 → AllByRecursion (MayTake r n) ys →
    AllNeed (PlacesNeed config) config x r (took_by n ys) × Touched r (goes_on config x (took_by n ys) r) n (λ a. has_address ys a || r.held n a)
unfolding AllNeed PlacesNeed goes_on goes note_goes has_address
took_goes config x n [] r line may = (tt, record { only = refl; other = λ m a ne. refl; own = λ a. refl })
took_goes config x n (b ∷ ys) r line may =
    let still : AllByRecursion (MayTake (with_address n b true r) n) ys
    = all_weaken (MayTake r n) (MayTake (with_address n b true r) n) (λ a h. ((λ m ne same. held_other n m b a true r ne ∙ h.0 m ne same), h.1)) ys may.1 in
    let k = took_goes config x n ys (with_address n b true r) line still in (
      (((line, may.0.0, may.0.1)), k.0),
      record {
        only = k.1.only;
        other = λ m a ne. k.1.other m a ne ∙ held_other n m b a true r ne;
        own = λ a. k.1.own a ∙ ap (λ (t : Bool). list_any (same_address a) ys || t) (held_own n b a true r) ∙ either (same_address a b) (r.held n a) (list_any (same_address a) ys);
      },
    )
  where
    either : (s t v : Bool) → (v || cond s true t) ≡ ((s || v) || t)
    either true t true = refl
    either true t false = refl
    either false t v = refl

-- ---- what the rules do

pub releases_is : (ys : List Address) (t : Turn) → releases ys t ≡ record t { outs = t.outs ++ map (λ a. out.Note (note.Released a)) ys }
unfolding releases notes does
releases_is [] t = (λ i. record t { outs = sym (append-nil t.outs) i })
releases_is (a ∷ ys) t = releases_is ys (notes (note.Released a) t) ∙ (λ i. record t { outs = append_assoc t.outs (out.Note (note.Released a) ∷ []) (map (λ (b : Address). out.Note (note.Released b)) ys) i })

-- these addresses more
unfoldable pub held_all : List Address → List Address → List Address
held_all [] held = held
held_all (a ∷ ys) held = held_all ys (held_with a held)

pub takes_is : (ys : List Address) (t : Turn) → takes ys t ≡ record t { node = record t.node { held = held_all ys t.node.held }; outs = t.outs ++ map (λ a. out.Note (note.Took a)) ys }
unfolding takes notes does with_node held_all
takes_is [] t = (λ i. record t { outs = sym (append-nil t.outs) i })
takes_is (a ∷ ys) t = takes_is ys _ ∙ (λ i. record t { node = record t.node { held = held_all ys (held_with a t.node.held) }; outs = append_assoc t.outs (out.Note (note.Took a) ∷ []) (map (λ (b : Address). out.Note (note.Took b)) ys) i })

pub has_all : (a : Address) (ys held : List Address) → has_address (held_all ys held) a ≡ (has_address ys a || has_address held a)
unfolding held_all has_address
has_all a [] held = refl
has_all a (b ∷ ys) held = has_all a ys (held_with b held) ∙ ap (λ (t : Bool). list_any (same_address a) ys || t) (has_more a b held) ∙ either (same_address a b) (list_any (same_address a) ys) (list_any (same_address a) held)
  where
    either : (s v t : Bool) → (v || (s || t)) ≡ ((s || v) || t)
    either true true t = refl
    either true false t = refl
    either false v t = refl

-- what holds of each address that a list has holds of all its items
pub all_of_has : (P : Address → Type 0) (ys : List Address) → ((a : Address) → has_address ys a ≡ true → P a) → AllByRecursion P ys
unfolding has_address
all_of_has P [] f = tt
all_of_has P (b ∷ ys) f = (f b (let e = same_itself b in rw e refl), all_of_has P ys (λ a e. f a (more (same_address a b) e)))
  where
    more : (s : Bool) {t : Bool} → t ≡ true → (s || t) ≡ true
    more true e = refl
    more false e = e

-- ---- what they tell

pub released_labels : (n : ℕ) (calls : List PendingCall) (ys : List Address) (rest : List Out) → labels_of n calls (map (λ a. out.Note (note.Released a)) ys ++ rest) ≡ released_by n ys ++ labels_of n calls rest
unfolding labels_of
released_labels n calls [] rest = refl
released_labels n calls (a ∷ ys) rest = ap (λ (l : List Label). Noted n (note.Released a) ∷ l) (released_labels n calls ys rest)

pub released_frames : (ys : List Address) (rest : List Out) → frames_of (map (λ a. out.Note (note.Released a)) ys ++ rest) ≡ frames_of rest
unfolding frames_of
released_frames [] rest = refl
released_frames (a ∷ ys) rest = released_frames ys rest

pub took_labels : (n : ℕ) (calls : List PendingCall) (ys : List Address) → labels_of n calls (map (λ a. out.Note (note.Took a)) ys) ≡ took_by n ys
unfolding labels_of
took_labels n calls [] = refl
took_labels n calls (a ∷ ys) = ap (λ (l : List Label). Noted n (note.Took a) ∷ l) (took_labels n calls ys)

pub took_frames : (ys : List Address) → frames_of (map (λ a. out.Note (note.Took a)) ys) ≡ []
unfolding frames_of
took_frames [] = refl
took_frames (a ∷ ys) = took_frames ys

-- ---- what is kept

module _ (config : Config) (x : Choice) (nodes : ℕ → Node) (fs : List Frame) (r : Lines) (turns : Turns) (h : Ready config nodes fs r turns) (n : ℕ) (y : Node) (ls : List Label) where
  -- what the registers say of addresses then
  abbrev pub touched : Spots
  touched = record (spots r) { held = (goes_on config x ls r).held }

  touched_later : (nodes n).last_run ≤ y.last_run → Later config.addresses nodes (at n y nodes) (spots r) touched turns turns
  touched_later run = record {
    grown = λ g. grown_same;
    pline = λ m. omega arith;
    follower = λ g m number real low follow line. (let k = follow line in
        let rise : (nodes m).last_run ≤ (at n y nodes m).last_run = at_each (λ (j : ℕ) (z : Node). (nodes j).last_run ≤ z.last_run) n y nodes run (λ j ne. omega arith) m in
        omega arith);
  }

  touched_lead : (nodes n).last_run ≤ y.last_run → (k : ℕ) → LeadStands config.addresses (at n y nodes) touched turns (nodes k).lead
  touched_lead run k = lead_later config.addresses nodes (at n y nodes) (spots r) touched turns turns (touched_later run) fs h.rounds k (nodes k).lead (h.rounds.leads k) (λ g given. record { placing = refl; turn = refl }) (h.holds.leads k)

  pub touched_kept : AllNeed (PlacesNeed config) config x r ls → Touched r (goes_on config x ls r) n (λ a. has_address y.held a) → (nodes n).last_run ≤ y.last_run → (nodes n).lead ≡ y.lead →
      (r.line n ≢ 0 → FollowsIn config.addresses (r.placing (r.line n)) (turns (r.line n)) n y) → (sent : List Frame) → MailStands config.addresses (at n y nodes) touched turns sent → Kept config x (at n y nodes) fs r ls sent
  touched_kept needs t run lead follow sent stand = record {
    turns = turns;
    needs = needs;
    holds = subst (λ (b : Spots). Holds config.addresses (at n y nodes) b turns) (sym t.only) (record {
      unborn = h.holds.unborn;
      counts = h.holds.counts;
      installed = h.holds.installed;
      holds = λ m a. at_each (λ (k : ℕ) (z : Node). (goes_on config x ls r).held k a ≡ has_address z.held a) n y nodes (t.own a) (λ k ne. t.other k a ne ∙ h.holds.holds k a) m;
      follows = λ m. at_each (λ (k : ℕ) (z : Node). r.line k ≢ 0 → FollowsIn config.addresses (r.placing (r.line k)) (turns (r.line k)) k z) n y nodes follow (λ k ne. h.holds.follows k) m;
      leads = λ m. at_each (λ (k : ℕ) (z : Node). LeadStands config.addresses (at n y nodes) touched turns z.lead) n y nodes
          (subst (LeadStands config.addresses (at n y nodes) touched turns) lead (touched_lead run n)) (λ k ne. touched_lead run k) m;
    });
    mail = subst (λ (b : Spots). MailStands config.addresses (at n y nodes) b turns (fs ++ sent)) (sym t.only)
        (both_stand config.addresses (at n y nodes) touched turns fs sent (mail_later config.addresses nodes (at n y nodes) (spots r) touched turns turns fs (touched_later run) h.holds h.mail) stand);
  }
