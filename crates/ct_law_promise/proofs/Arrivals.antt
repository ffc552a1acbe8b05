-- A message comes to a node.
use Rattle.std.proofs.Common.{◌≡◌, ℕ, Bool, true, false, cond, ◌&&◌, List, [], map, sym, ap, ◌∙◌, subst, refl}
use Rattle.std.specs.Prelude.{nat_eq}
use Rattle.std.specs.List.{list_any, list_all}
use Rattle.std.proofs.lemmas.Bool.{and_parts, eqb-true}
use Rattle.ct_values.specs.Address.{same_address}
use Rattle.ct_values.specs.declared.address.Address.{Address}
use Rattle.ct_values.specs.declared.config.Config.{Config}
use Rattle.ct_frame.specs.declared.frame.Assigned.{Assigned}
use Rattle.ct_frame.specs.declared.frame.Frame.{Frame}
use Rattle.ct_frame.specs.declared.frame.Msg.{Msg}
use Rattle.ct_frame.specs.declared.frame.Msg.TheVariants as msg
use Rattle.ct_frame.specs.declared.frame.PTable.{PTable}
use Rattle.ct_frame.specs.declared.frame.TableRow.{TableRow}
use Rattle.ct_call.specs.Rules.{Rules}
use Rattle.ct_merge.proofs.Among.{In}
use Rattle.ct_rules_node.specs.Node.{Node, Lead, Completed, is_among, is_present, is_present_in, is_persistent, kind_at}
use Rattle.ct_rules_node.specs.Turn.{Turn, begins}
use Rattle.ct_rules_node.specs.Admission.{record_in, members_in, addresses_in, is_listed, is_current, is_sound}
use Rattle.ct_rules_node.specs.Rounds.{on_push}
use Rattle.ct_rules_node.specs.Takeovers.{released_by, on_release, on_releaseack, on_take}
use Rattle.ct_rules_node.specs.Steps.{if_persistent, if_sound, if_taken_over, arrives}
use Rattle.ct_rules_cluster.specs.declared.step.PendingCall.{PendingCall}
use Rattle.ct_register.specs.Lines.{Lines}
use Rattle.ct_register.specs.Words.{at}
use Rattle.ct_law_generation.specs.Shown.{labels_of}
use Rattle.ct_law_registers.proofs.Parts.{Choice}
use Rattle.ct_law_registers.proofs.Places.{Turns}
use Rattle.ct_law_addresses.proofs.Facts.{spots, IsThere, PushSays, Stands}
use Rattle.ct_law_addresses.proofs.Aside.{Aside, aside_same, either_aside}
use Rattle.ct_law_addresses.proofs.Asides.{on_pupdate_aside, on_pack_aside, on_pull_aside, on_record_aside, on_thaw_aside}
use Rattle.ct_law_addresses.proofs.Kept.{Ready, Kept, frame_list, all_aside_kept}
use Rattle.ct_law_addresses.proofs.Handing.{release_kept, take_kept}
use Rattle.ct_law_addresses.proofs.Leading.{releaseack_kept}
use Rattle.ct_law_addresses.proofs.Leads.{freeze_kept, freezeack_kept, pushack_kept}
use Rattle.ct_law_addresses.proofs.Born.{pullreply_kept}
use Rattle.ct_law_addresses.proofs.Joined.{push_kept}

-- a sound message lists its sender and receiver where it lists members, and names configured addresses alone
sound_parts : (config : Config) (f : Frame) → is_sound config f ≡ true → (is_listed f (members_in f.msg) ≡ true) × (list_all (λ (a : Address). list_any (same_address a) config.addresses) (addresses_in f.msg) ≡ true)
unfolding is_sound
sound_parts config f sound = ((and_parts _ _ (and_parts _ _ (and_parts _ _ (and_parts _ _ sound).0).0).0).1, (and_parts _ _ sound).1)

module _ (config : Config) (rules : Rules) (x : Choice) (nodes : ℕ → Node) (fs : List Frame) (r : Lines) (turns : Turns) (h : Ready config nodes fs r turns) (calls : List PendingCall) (f : Frame) (came : In f fs) where
  abbrev n : ℕ
  n = f.receiver

  abbrev t : Turn
  t = begins (nodes f.receiver)

  abbrev Kept_to : Turn → Type 0
  Kept_to u = Kept config x (at n u.node nodes) fs r (labels_of n calls u.outs) (frame_list u.outs)

  aside_to : (u : Turn) → Aside t u → Kept_to u
  aside_to u a = all_aside_kept config x nodes fs r turns h n calls [] u tt a

  -- what comes of it, or nothing
  either_to : (c : Bool) (u : Turn) → (c ≡ true → Kept_to u) → Kept_to (cond c u t)
  either_to true u a = a refl
  either_to false u a = aside_to t aside_same

  says : (m : Msg) → f.msg ≡ m → Stands config.addresses nodes (spots r) turns f.generation f.sender f.receiver m
  says m is = subst (Stands config.addresses nodes (spots r) turns f.generation f.sender f.receiver) is (h.mail f came)

  -- ---- a push

  push_to : (members : List ℕ) (table : List TableRow) (ptables : List PTable) (assigned : List Assigned) → f.msg ≡ msg.Push members table ptables assigned → is_sound config f ≡ true → Kept_to (on_push config n f.sender f.generation members table ptables assigned t)
  unfolding Stands PushSays is_listed members_in addresses_in
  push_to members table ptables assigned is sound =
      let p = sound_parts config f sound in
      let members_are : r.members f.generation ≡ members = subst (PushSays (spots r) f.generation) is (h.rounds.pushes f came) in
      let listed : (is_among f.sender members && is_among f.receiver members) ≡ true = subst (λ (m : Msg). is_listed f (members_in m) ≡ true) is p.0 in
      let named : is_among n (r.members f.generation) ≡ true = ap (is_among n) members_are ∙ (and_parts (is_among f.sender members) (is_among f.receiver members) listed).1 in
      let configured : list_all (λ a. list_any (same_address a) config.addresses) (map (λ (y : Assigned). y.address) assigned) ≡ true
      = subst (λ (m : Msg). list_all (λ (a : Address). list_any (same_address a) config.addresses) (addresses_in m) ≡ true) is p.1 in
      push_kept config x nodes fs r turns h n calls f.generation f.sender members table ptables assigned (says (msg.Push members table ptables assigned) is) named configured

  -- ---- messages of a run

  -- a current message comes to a node that is in the message's line
  record OfLine : Type 0 where
    there : IsThere (spots r) n (nodes n)
    same : f.generation ≡ r.line n

  of_line : (is_sound config f && is_current f (nodes n)) ≡ true → OfLine
  unfolding is_current is_present_in
  of_line e =
      let p = and_parts (is_present (nodes n).phase) (nat_eq (nodes n).generation f.generation) (and_parts _ _ (and_parts _ _ (and_parts (is_sound config f) _ e).1).0).0 in
      let there = h.rounds.there n p.0 in
      record { there = there; same = sym (eqb-true (nodes n).generation f.generation p.1) ∙ there.generation }

  says_here : (m : Msg) → f.msg ≡ m → f.generation ≡ r.line n → Stands config.addresses nodes (spots r) turns (r.line n) f.sender n m
  says_here m is same = subst (λ (g : ℕ). Stands config.addresses nodes (spots r) turns g f.sender n m) same (says m is)

  release_to : (number : ℕ) (keep : List Address) → f.msg ≡ msg.Release number keep → OfLine → Kept_to (on_release n f.sender number keep t)
  release_to number keep is o = release_kept config x nodes fs r turns h n calls o.there f.sender number keep (says_here (msg.Release number keep) is o.same)

  take_to : (number : ℕ) (assigned : List Assigned) → f.msg ≡ msg.Take number assigned → OfLine → Kept_to (on_take config n number assigned t)
  take_to number assigned is o = take_kept config x nodes fs r turns h n calls o.there f.sender number assigned (says_here (msg.Take number assigned) is o.same)

  releaseack_to : (number : ℕ) → f.msg ≡ msg.ReleaseAck number → OfLine → (l : Lead) → (nodes n).lead ≡ l → Kept_to (on_releaseack n f.sender f.generation number t l)
  unfolding on_releaseack
  releaseack_to number is o (Completed k members z) e = either (nat_eq k f.generation) refl
    where
      either : (b : Bool) → nat_eq k f.generation ≡ b → Kept_to (cond (b && nat_eq z.number number) (released_by n f.sender f.generation members z t z.run) t)
      either false d = aside_to t aside_same
      either true d =
          let leads : (nodes n).lead ≡ Completed (r.line n) members z = e ∙ ap (λ (j : ℕ). Completed j members z) (eqb-true k f.generation d ∙ o.same) in
          subst (λ (b : Bool). Kept_to (cond (b && nat_eq z.number number) (released_by n f.sender f.generation members z t z.run) t)) d
          (subst (λ (g : ℕ). Kept_to (on_releaseack n f.sender g number t (Completed k members z))) (sym o.same)
          (subst (λ (l : Lead). Kept_to (on_releaseack n f.sender (r.line n) number t l)) e
          (releaseack_kept config x nodes fs r turns h n calls o.there members z leads f.sender number (says_here (msg.ReleaseAck number) is o.same))))
  releaseack_to number is o _ e = aside_to t aside_same

  -- ---- every message

  pub arrives_kept : (m : Msg) → f.msg ≡ m → Kept_to (arrives config rules n f t m)
  unfolding arrives if_persistent if_sound if_taken_over
  arrives_kept (msg.PUpdate db seq ws) is = aside_to _ (either_aside (is_current f (nodes n) && is_persistent (kind_at config db)) (on_pupdate_aside n f.sender db seq ws t) aside_same)
  arrives_kept (msg.PAck db seq) is = aside_to _ (either_aside (is_current f (nodes n) && is_persistent (kind_at config db)) (on_pack_aside f.sender db seq t) aside_same)
  arrives_kept (msg.Freeze members) is = either_to (is_sound config f) _ (λ e. freeze_kept config x nodes fs r turns h n calls f.sender f.generation)
  arrives_kept msg.FreezeAck is = either_to (is_sound config f) _ (λ e. freezeack_kept config x nodes fs r turns h n calls f.sender f.generation (nodes n).lead refl)
  arrives_kept msg.Pull is = aside_to _ (either_aside (is_sound config f) (on_pull_aside config n f.sender f.generation t) aside_same)
  arrives_kept (msg.PullReply vbase pbase table ptables addresses) is = either_to (is_sound config f) _ (λ e. pullreply_kept config x nodes fs r turns h n calls f.generation _ (nodes n).lead refl)
  arrives_kept (msg.Push members table ptables assigned) is = either_to (is_sound config f) _ (λ e. push_to members table ptables assigned is e)
  arrives_kept msg.PushAck is = either_to (is_sound config f) _ (λ e. pushack_kept config x nodes fs r turns h n calls f.sender f.generation (nodes n).lead refl)
  arrives_kept msg.Thaw is = aside_to _ (either_aside (is_sound config f) (on_thaw_aside config rules n f.generation t (nodes n).phase) aside_same)
  arrives_kept (msg.Release number keep) is = either_to (is_sound config f && is_current f (nodes n)) _ (λ e. release_to number keep is (of_line e))
  arrives_kept (msg.ReleaseAck number) is = either_to (is_sound config f && is_current f (nodes n)) _ (λ e. releaseack_to number is (of_line e) (nodes n).lead refl)
  arrives_kept (msg.Take number assigned) is = either_to (is_sound config f && is_current f (nodes n)) _ (λ e. take_to number assigned is (of_line e))
  arrives_kept m is = aside_to _ (on_record_aside config rules n f t (record_in m))
