-- A node installs a line: it keeps of its addresses what the push assigns to it, and no takeover run was handed out there yet.
use Rattle.std.proofs.Common.{◌≡◌, ◌≢◌, ℕ, ◌+◌, ◌<◌, ◌≤◌, Bool, true, false, cond, ◌&&◌, List, [], ◌∷◌, ◌++◌, map, append-nil, Some, refl, sym, ap, ◌∙◌, subst, arith, ⊎_elim}
use Rattle.std.specs.Prelude.{not, ◌||◌, nat_eq}
use Rattle.std.specs.List.{filter, list_any, list_all}
use Rattle.std.proofs.lemmas.Bool.{and_parts, cases_eq}
use Rattle.ct_values.specs.Address.{same_address}
use Rattle.ct_values.specs.declared.address.Address.{Address}
use Rattle.ct_values.specs.declared.config.Config.{Config}
use Rattle.ct_frame.specs.declared.event.Note.TheVariants as note
use Rattle.ct_frame.specs.declared.event.Out.{Out}
use Rattle.ct_frame.specs.declared.event.Out.TheVariants as out
use Rattle.ct_frame.specs.declared.frame.Assigned.{Assigned}
use Rattle.ct_frame.specs.declared.frame.Frame.{Frame}
use Rattle.ct_frame.specs.declared.frame.Msg.TheVariants as msg
use Rattle.ct_frame.specs.declared.frame.PTable.{PTable}
use Rattle.ct_frame.specs.declared.frame.TableRow.{TableRow}
use Rattle.ct_rules_node.specs.Node.{Node, is_among, is_frozen_in, is_present_in, master_of, assigned_all, holder_in}
use Rattle.ct_rules_node.specs.Turn.{Turn, begins, does, notes, makes, with_node, posts}
use Rattle.ct_rules_node.specs.Rounds.{row_master, is_own, installed_node, makes_rows, installs, on_push}
use Rattle.ct_rules_node.specs.Takeovers.{has_address}
use Rattle.ct_rules_cluster.specs.Labels.{Label, Noted}
use Rattle.ct_rules_cluster.specs.Steps.{frames_of}
use Rattle.ct_rules_cluster.specs.Traces.{sent_label}
use Rattle.ct_rules_cluster.specs.declared.step.PendingCall.{PendingCall}
use Rattle.ct_register.proofs.Places.{at_same, at_other, at_each}
use Rattle.ct_register.specs.Lines.{Lines}
use Rattle.ct_register.specs.Words.{at}
use Rattle.ct_law_generation.specs.Shown.{labels_of}
use Rattle.ct_law_registers.proofs.Parts.{Choice, goes, goes_on, note_goes, PlacesNeed, AllNeed}
use Rattle.ct_law_registers.proofs.Places.{Turns, plan, or_nothing_pushed}
use Rattle.ct_law_addresses.proofs.Lists.{has_kept, among_all, is_configured, own_holder}
use Rattle.ct_law_addresses.proofs.Facts.{Spots, spots, LeadStands, Stands, MailStands, FollowsIn, Holds}
use Rattle.ct_law_addresses.proofs.Later.{grown_same, Later, mail_later, lead_later}
use Rattle.ct_law_addresses.proofs.Aside.{IsAsideMsg, aside_same, either_aside, posts_aside}
use Rattle.ct_law_addresses.proofs.Kept.{Ready, Kept, both_stand, frame_list, all_aside_kept}
use Rattle.ct_law_addresses.proofs.Touched.{Touched, released_by, released_goes, releases_is, released_labels, released_frames}

-- numbers that are made tell nothing
rows_outs : (me : ℕ) (members : List ℕ) (table : List TableRow) (t : Turn) → (makes_rows me members table t).outs ≡ t.outs
unfolding makes_rows makes
rows_outs me members [] t = refl
rows_outs me members (row ∷ rows) t = rows_outs me members rows _ ∙ either (nat_eq me (row_master row) || nat_eq me (master_of members row.key))
  where
    either : (b : Bool) → (cond b (makes (row.rsn + 1) t) t).outs ≡ t.outs
    either true = refl
    either false = refl

-- of what was held and is not given up, the rest is what is kept
kept_rest : (pass : Address → Bool) (held : List Address) (a : Address) → (has_address held a && not (has_address (filter (λ b. not (pass b)) held) a)) ≡ has_address (filter pass held) a
kept_rest pass held a = ap (λ (t : Bool). has_address held a && not t) (has_kept a (λ b. not (pass b)) held) ∙ either (has_address held a) (pass a) ∙ sym (has_kept a pass held)
  where
    either : (s t : Bool) → (s && not (s && not t)) ≡ (s && t)
    either true true = refl
    either true false = refl
    either false t = refl

module _ (config : Config) (x : Choice) (nodes : ℕ → Node) (fs : List Frame) (r : Lines) (turns : Turns) (h : Ready config nodes fs r turns) (n : ℕ) (calls : List PendingCall) (g leader : ℕ) (members : List ℕ) (table : List TableRow) (ptables : List PTable) (assigned : List Assigned)
    (pushed : (r.placing g).pushed ≡ Some assigned) (named : is_among n (r.members g) ≡ true) (configured : list_all (λ a. list_any (same_address a) config.addresses) (map (λ x. x.address) assigned) ≡ true) where
  abbrev Kept_by : Turn → Type 0
  Kept_by u = Kept config x (at n u.node nodes) fs r (labels_of n calls u.outs) (frame_list u.outs)

  abbrev y : Node
  y = installed_node config n leader g members table ptables assigned (nodes n)

  abbrev then : ℕ → Node
  then = at n y nodes

  abbrev given_up : List Address
  given_up = filter (λ a. not (is_own n assigned a)) (nodes n).held

  -- the registers once the line is installed
  abbrev s : Lines
  s = goes config x (Noted n (note.Installed g)) r

  abbrev d : Spots
  d = record (spots r) { line = at n g r.line; pline = at n g r.pline; installed = at g (at n true (r.installed g)) r.installed; held = (goes_on config x (released_by n given_up) s).held }

  module _ (older : r.pline n < g) where
    real : g ≢ 0
    real z = absurd (omega arith)

    -- a take is sent once all members have installed, and the node has not
    none_taken : turns g ≡ 0
    none_taken = ⊎_elim (λ (e : turns g ≡ 0). e) (λ (some : turns g ≢ 0). absurd (let k = h.rounds.had g n (h.holds.installed g n some named) in omega arith)) (cases_eq (turns g) 0)

    line_there : s.line n ≢ 0
    unfolding goes note_goes
    line_there z = real (sym (at_same n n g r.line refl) ∙ z)

    goes_there : AllNeed (PlacesNeed config) config x s (released_by n given_up) × Touched s (goes_on config x (released_by n given_up) s) n (λ a. s.held n a && not (has_address given_up a))
    goes_there = released_goes config x n given_up s line_there

    spots_then : spots (goes_on config x (released_by n given_up) s) ≡ d
    unfolding goes note_goes
    spots_then = goes_there.1.only

    -- what the node holds then
    own_then : (a : Address) → (goes_on config x (released_by n given_up) s).held n a ≡ has_address y.held a
    unfolding goes note_goes installed_node
    own_then a = goes_there.1.own a ∙ ap (λ (t : Bool). t && not (has_address given_up a)) (h.holds.holds n a) ∙ kept_rest (is_own n assigned) (nodes n).held a

    others_then : (k : ℕ) (a : Address) → k ≢ n → (goes_on config x (released_by n given_up) s).held k a ≡ has_address (nodes k).held a
    unfolding goes note_goes
    others_then k a ne = goes_there.1.other k a ne ∙ h.holds.holds k a

    -- that is what the push assigns to it
    assigned_here : (a : Address) → has_address y.held a ≡ true → holder_in a (plan config.addresses (r.placing g) 0) ≡ Some n
    unfolding installed_node plan or_nothing_pushed
    assigned_here a e =
        let own : holder_in a assigned ≡ Some n = own_holder a n assigned (and_parts _ _ (sym (has_kept a (is_own n assigned) (nodes n).held) ∙ e)).1 in
        ap (λ o. holder_in a (assigned_all config.addresses (or_nothing_pushed o))) pushed ∙ among_all a config.addresses assigned n (is_configured a config.addresses assigned n configured own) own

    follows_then : FollowsIn config.addresses (r.placing g) (turns g) n y
    unfolding installed_node
    follows_then = record {
      after = (let t = none_taken in omega arith);
      within = omega arith;
      turn = λ a e. ap (λ (i : ℕ). holder_in a (plan config.addresses (r.placing g) i)) none_taken ∙ assigned_here a e;
      own = λ a e. assigned_here a e;
    }

    installed_more : (l m : ℕ) → r.installed l m ≡ true → d.installed l m ≡ true
    installed_more l m e = ⊎_elim
        (λ (is : l ≡ g). ap (λ (f : ℕ → Bool). f m) (at_same g l (at n true (r.installed g)) r.installed is) ∙ ⊎_elim
        (λ (i : m ≡ n). at_same n m true (r.installed g) i)
        (λ (ne : m ≢ n). at_other n m true (r.installed g) ne ∙ ap (λ (j : ℕ). r.installed j m) (sym is) ∙ e) (cases_eq m n))
        (λ (ne : l ≢ g). ap (λ (f : ℕ → Bool). f m) (at_other g l (at n true (r.installed g)) r.installed ne) ∙ e) (cases_eq l g)

    joined_later : Later config.addresses nodes then (spots r) d turns turns
    joined_later = record {
      grown = λ l. grown_same;
      pline = at_each (λ (j z : ℕ). r.pline j ≤ z) n g r.pline (omega arith) (λ j ne. omega arith);
      follower = λ l m number some low follow line. ⊎_elim
          (λ (e : m ≡ n). absurd (let same : g ≡ l = sym (at_same n m g r.line e) ∙ line in let p : r.pline m ≡ r.pline n = ap r.pline e in omega arith))
          (λ (ne : m ≢ n). (let k = follow (sym (at_other n m g r.line ne) ∙ line) in let z : (then m).last_run ≡ (nodes m).last_run = ap (λ (u : Node). u.last_run) (at_other n m y nodes ne) in omega arith))
          (cases_eq m n);
    }

    lead_there : (k : ℕ) → LeadStands config.addresses then d turns (nodes k).lead
    lead_there k = lead_later config.addresses nodes then (spots r) d turns turns joined_later fs h.rounds k (nodes k).lead (h.rounds.leads k) (λ l given. record { placing = refl; turn = refl }) (h.holds.leads k)

    holds_then : Holds config.addresses then d turns
    unfolding installed_node
    holds_then = record {
      unborn = h.holds.unborn;
      counts = h.holds.counts;
      installed = λ l m some member. installed_more l m (h.holds.installed l m some member);
      holds = λ m a. at_each (λ (k : ℕ) (z : Node). (goes_on config x (released_by n given_up) s).held k a ≡ has_address z.held a) n y nodes (own_then a) (λ k ne. others_then k a ne) m;
      follows = at_each (λ (k : ℕ) (z : Node). at n g r.line k ≢ 0 → FollowsIn config.addresses (r.placing (at n g r.line k)) (turns (at n g r.line k)) k z) n y nodes
          (λ line. subst (λ (l : ℕ). FollowsIn config.addresses (r.placing l) (turns l) n y) (sym (at_same n n g r.line refl)) follows_then)
          (λ k ne. subst (λ (l : ℕ). l ≢ 0 → FollowsIn config.addresses (r.placing l) (turns l) k (nodes k)) (sym (at_other n k g r.line ne)) (h.holds.follows k));
      leads = at_each (λ (k : ℕ) (z : Node). LeadStands config.addresses then d turns z.lead) n y nodes (lead_there n) (λ k ne. lead_there k);
    }

    abbrev ack : Frame
    ack = record { generation = g; sender = n; receiver = leader; msg = msg.PushAck }

    ack_stands : MailStands config.addresses then d turns (ack ∷ [])
    unfolding Stands
    ack_stands f is = ⊎_elim (λ (e : ack ≡ f). subst (λ (k : Frame). Stands config.addresses then d turns k.generation k.sender k.receiver k.msg) e tt) (λ none. absurd none) is

    abbrev told : List Label
    told = Noted n (note.Installed g) ∷ released_by n given_up

    joins_kept : Kept config x then fs r told (ack ∷ [])
    unfolding AllNeed PlacesNeed goes_on
    joins_kept = record {
      turns = turns;
      needs = (tt, goes_there.0);
      holds = subst (λ (b : Spots). Holds config.addresses then b turns) (sym spots_then) holds_then;
      mail = subst (λ (b : Spots). MailStands config.addresses then b turns (fs ++ ack ∷ [])) (sym spots_then)
          (both_stand config.addresses then d turns fs (ack ∷ []) (mail_later config.addresses nodes then (spots r) d turns turns fs joined_later h.holds h.mail) ack_stands);
    }

    abbrev all_outs : List Out → List Out
    all_outs before = ((before ++ out.Note (note.Installed g) ∷ []) ++ map (λ a. out.Note (note.Released a)) given_up) ++ out.Send ack ∷ []

    outs_kept : Kept config x then fs r (labels_of n calls (all_outs [])) (frame_list (all_outs []))
    unfolding labels_of frames_of sent_label
    outs_kept =
        subst (λ (ls : List Label). Kept config x then fs r (Noted n (note.Installed g) ∷ ls) (frame_list (all_outs []))) (sym (released_labels n calls given_up (out.Send ack ∷ []) ∙ append-nil (released_by n given_up)))
        (subst (λ (gs : List Frame). Kept config x then fs r told gs) (sym (ap (map (λ s. s.frame)) (released_frames given_up (out.Send ack ∷ [])))) joins_kept)

    pub install_kept : Kept_by (posts g n leader msg.PushAck (installs config n leader g members table ptables assigned (begins (nodes n))))
    unfolding installs posts does notes with_node
    install_kept = subst Kept_by (sym (ap (posts g n leader msg.PushAck) (releases_is given_up (notes (note.Installed g) (with_node y (makes_rows n members table (begins (nodes n))))))))
        (subst (λ (before : List Out). Kept config x then fs r (labels_of n calls (all_outs before)) (frame_list (all_outs before))) (sym (rows_outs n members table (begins (nodes n)))) outs_kept)

  pub push_kept : Kept_by (on_push config n leader g members table ptables assigned (begins (nodes n)))
  unfolding on_push IsAsideMsg
  push_kept = either (is_frozen_in g (nodes n).phase) refl
    where
      either : (b : Bool) → is_frozen_in g (nodes n).phase ≡ b → Kept_by (cond b (posts g n leader msg.PushAck (installs config n leader g members table ptables assigned (begins (nodes n)))) (cond (is_present_in g (nodes n)) (posts g n leader msg.PushAck (begins (nodes n))) (begins (nodes n))))
      either true e = install_kept (h.rounds.frozen n g e)
      either false e = all_aside_kept config x nodes fs r turns h n calls [] _ tt (either_aside (is_present_in g (nodes n)) (posts_aside g n leader msg.PushAck (begins (nodes n)) tt) aside_same)
