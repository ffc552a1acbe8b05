-- The last reply of a round comes to its leader: a line is born, and what its pushes assign is placed in it.
use Rattle.std.proofs.Common.{◌≡◌, ◌≢◌, ℕ, Bool, true, false, cond, ◌&&◌, List, [], ◌∷◌, map, Some, refl, sym, ap, ◌∙◌, subst, arith}
use Rattle.std.specs.Prelude.{nat_eq}
use Rattle.std.specs.List.{AllByRecursion}
use Rattle.std.proofs.lemmas.Bool.{eqb-true}
use Rattle.ct_values.specs.Words.{others}
use Rattle.ct_values.specs.declared.config.Config.{Config}
use Rattle.ct_frame.specs.declared.event.Note.TheVariants as note
use Rattle.ct_frame.specs.declared.event.Out.TheVariants as out
use Rattle.ct_frame.specs.declared.frame.Frame.{Frame}
use Rattle.ct_frame.specs.declared.round.Pull.{Pull}
use Rattle.ct_frame.specs.declared.round.PushBody.{PushBody}
use Rattle.ct_merge.specs.Gathered.{Gathered, gathered, finished}
use Rattle.ct_rules_node.specs.Node.{Node, Lead, Pulls, Installs, is_among}
use Rattle.ct_rules_node.specs.Turn.{Turn, begins, does, notes, with_lead}
use Rattle.ct_rules_node.specs.Rounds.{body_of, push_of, pushes, all_pulled, on_pullreply}
use Rattle.ct_rules_cluster.specs.Labels.{Label, Noted, Pushed}
use Rattle.ct_rules_cluster.specs.Steps.{frames_of}
use Rattle.ct_rules_cluster.specs.Traces.{sent_label}
use Rattle.ct_rules_cluster.specs.declared.step.PendingCall.{PendingCall}
use Rattle.ct_register.proofs.Places.{at_same, at_other}
use Rattle.ct_register.specs.Placing.{Placing, IsPushedAlike}
use Rattle.ct_register.specs.Lines.{Lines}
use Rattle.ct_register.specs.Words.{at}
use Rattle.ct_law_generation.specs.Shown.{labels_of}
use Rattle.ct_law_registers.proofs.Parts.{Choice, goes, goes_on, note_goes, PlacesNeed, AllNeed}
use Rattle.ct_law_registers.proofs.Places.{Turns, Counts}
use Rattle.ct_law_addresses.proofs.Facts.{Spots, spots, IsLeader, LeadSays, LeadStands, Stands, FrameStands, IsUnplaced}
use Rattle.ct_law_addresses.proofs.Aside.{aside_same}
use Rattle.ct_law_addresses.proofs.Kept.{Ready, Kept, IsIdle, all_idle, pushed_idle, frames_stand, frame_list}
use Rattle.ct_law_addresses.proofs.Placed.{sends, alike, posts_all_is, sends_stand, sends_tell, replaced, turned, Replaces, replaced_kept}
use Rattle.ct_law_addresses.proofs.Leads.{nothing_kept, lead_kept}

-- ---- the last reply

module _ (config : Config) (x : Choice) (nodes : ℕ → Node) (fs : List Frame) (r : Lines) (turns : Turns) (h : Ready config nodes fs r turns) (n : ℕ) (calls : List PendingCall) (g : ℕ) (members missing : List ℕ) (y : Gathered) (leads : (nodes n).lead ≡ Pulls g members missing y) (b : PushBody) where
  says : LeadSays (spots r) n (nodes n) (Pulls g members missing y)
  says = subst (LeadSays (spots r) n (nodes n)) leads (h.rounds.leads n)

  is_leader : IsLeader (spots r) n g members
  unfolding LeadSays
  is_leader = says.0

  unborn : r.born g ≡ false
  unfolding LeadSays
  unborn = says.1

  unplaced : IsUnplaced (r.placing g)
  unplaced = h.holds.unborn g unborn

  counted : Counts config.addresses (r.placing g) (turns g)
  counted = h.holds.counts g

  none_taken : turns g ≡ 0
  none_taken = (let t = counted.turn in let z = unplaced.1 in omega arith)

  abbrev q : Placing
  q = record (r.placing g) { pushed = Some b.assigned }

  abbrev born_now : ℕ → Bool
  born_now = at g true r.born

  abbrev pushed_node : Node
  pushed_node = record (nodes n) { lead = Installs g members members b }

  -- no node is in the line yet
  nobody : (k : ℕ) → r.line k ≡ g → r.line k ≢ 0 → ⊥
  nobody k e line =
      let s = h.rounds.stays k line in
      let t : r.born g ≡ true = ap r.born (sym e ∙ s) ∙ h.rounds.real k (λ z. line (s ∙ z)) in
      let u = unborn in
      let f : true ≡ false = sym t ∙ u in cc

  born_replaces : Replaces config x nodes fs r turns h n pushed_node g q (turns g) born_now
  born_replaces = record {
    grown = record {
      pushed = λ xs e. absurd (let f = sym unplaced.0 ∙ e in cc);
      begun = omega arith;
      plans = λ i low high. absurd (let z = unplaced.1 in omega arith);
      turn = omega arith;
      taken = λ i xs low e. e;
    };
    counts = record {
      turn = counted.turn;
      runs = counted.runs;
      none = counted.none;
      last = λ some. absurd (some none_taken);
      pushed = λ some e. absurd (cc);
    };
    is_born = at_same g g true r.born refl;
    others = λ l ne. at_other g l true r.born ne;
    installed = λ some. absurd (some none_taken);
    follows = λ k e line. absurd (nobody k e line);
    leader = is_leader.given;
    held = refl;
    last_run = refl;
  }

  abbrev d : Spots
  d = replaced config x nodes fs r turns h n pushed_node g q (turns g) born_now

  abbrev then : Turns
  then = turned config x nodes fs r turns h n pushed_node g q (turns g) born_now

  pushed_there : (d.placing g).pushed ≡ Some b.assigned
  pushed_there = ap (λ (p : Placing). p.pushed) (at_same g g q r.placing refl)

  unbegun_there : (d.placing g).begun ≡ 0
  unbegun_there = ap (λ (p : Placing). p.begun) (at_same g g q r.placing refl) ∙ unplaced.1

  -- the first push places, and the others find it so
  told : (ns : List ℕ) → ns ≢ [] →
      AllNeed (PlacesNeed config) config x r (Noted n (note.Round g members b.vparent b.pparent) ∷ map (λ k. Pushed g b.assigned) ns) × (spots (goes_on config x (Noted n (note.Round g members b.vparent b.pparent) ∷ map (λ k. Pushed g b.assigned) ns) r) ≡ d)
  unfolding AllNeed PlacesNeed goes_on goes note_goes
  told [] some = absurd (some refl)
  told (k ∷ ks) some =
      let rest = all_idle config x d (map (λ j. Pushed g b.assigned) ks) _ refl (again ks) in
      ((tt, ((at_same g g true r.born refl, subst (IsPushedAlike b.assigned) (sym unplaced.0) tt), rest.0)), rest.1)
    where
      again : (js : List ℕ) → AllByRecursion (IsIdle config d) (map (λ j. Pushed g b.assigned) js)
      again [] = tt
      again (j ∷ js) = (pushed_idle config d g b.assigned (at_same g g true r.born refl) pushed_there, again js)

  some_members : members ≢ []
  unfolding is_among
  some_members e = absurd (let k = is_leader.member in let f = ap (is_among n) (sym e) ∙ k in cc)

  tells : labels_of n calls (sends (alike g n (push_of b)) members) ≡ map (λ k. Pushed g b.assigned) members
  unfolding sent_label push_of
  tells = sends_tell n calls (alike g n (push_of b)) (Pushed g b.assigned) members (λ k. refl)

  lead_then : LeadStands config.addresses (at n pushed_node nodes) d then (Installs g members members b)
  unfolding LeadStands
  lead_then = (unbegun_there, pushed_there)

  push_stands : (k : ℕ) → FrameStands config.addresses (at n pushed_node nodes) d then (alike g n (push_of b) k)
  unfolding Stands push_of
  push_stands k = pushed_there

  abbrev Kept_so : Turn → Type 0
  Kept_so u = Kept config x (at n u.node nodes) fs r (labels_of n calls u.outs) (frame_list u.outs)

  pushed_kept : Kept_so (record { node = pushed_node; outs = out.Note (note.Round g members b.vparent b.pparent) ∷ sends (alike g n (push_of b)) members; spent = false })
  unfolding labels_of frames_of
  pushed_kept =
      let all = told members some_members in
      subst (λ (ls : List Label). Kept config x (at n pushed_node nodes) fs r (Noted n (note.Round g members b.vparent b.pparent) ∷ ls) (frame_list (sends (alike g n (push_of b)) members))) (sym tells)
      (replaced_kept config x nodes fs r turns h n pushed_node g q (turns g) born_now born_replaces _ all.0 all.1 lead_then _
      (frames_stand config.addresses (at n pushed_node nodes) d then (sends (alike g n (push_of b)) members) (sends_stand config.addresses (at n pushed_node nodes) d then _ members push_stands)))

  pub born_kept : Kept_so (pushes n g members b (begins (nodes n)))
  unfolding pushes notes does with_lead
  born_kept = subst Kept_so (sym (posts_all_is g n members (push_of b) _)) pushed_kept

-- ---- every reply

module _ (config : Config) (x : Choice) (nodes : ℕ → Node) (fs : List Frame) (r : Lines) (turns : Turns) (h : Ready config nodes fs r turns) (n : ℕ) (calls : List PendingCall) where
  abbrev Kept_by : Turn → Type 0
  Kept_by u = Kept config x (at n u.node nodes) fs r (labels_of n calls u.outs) (frame_list u.outs)

  nothing : Kept_by (begins (nodes n))
  nothing = nothing_kept config x nodes fs r turns h n calls

  pulled_kept : (g : ℕ) (members missing : List ℕ) (y z : Gathered) → (nodes n).lead ≡ Pulls g members missing y → (left : List ℕ) → Kept_by (all_pulled n g members z (begins (nodes n)) left)
  unfolding all_pulled with_lead LeadStands
  pulled_kept g members missing y z leads [] = born_kept config x nodes fs r turns h n calls g members missing y leads (body_of n members (finished z))
  pulled_kept g members missing y z leads (m ∷ ms) = lead_kept config x nodes fs r turns h n calls (with_lead (Pulls g members (m ∷ ms) z) (begins (nodes n))) _ refl refl refl aside_same
      (λ u run. subst (LeadStands config.addresses nodes (spots r) turns) leads (h.holds.leads n))

  pub pullreply_kept : (g : ℕ) (pull : Pull) (l : Lead) → (nodes n).lead ≡ l → Kept_by (on_pullreply n g pull (begins (nodes n)) l)
  unfolding on_pullreply
  pullreply_kept g pull (Pulls k members missing y) e = either (nat_eq k g) (is_among pull.node missing) refl
    where
      either : (c d : Bool) → nat_eq k g ≡ c → Kept_by (cond (c && d) (all_pulled n g members (gathered pull y) (begins (nodes n)) (others pull.node missing)) (begins (nodes n)))
      either true true f = pulled_kept g members missing y (gathered pull y) (e ∙ ap (λ (j : ℕ). Pulls j members missing y) (eqb-true k g f)) (others pull.node missing)
      either true false f = nothing
      either false d f = nothing
  pullreply_kept g pull _ e = nothing
