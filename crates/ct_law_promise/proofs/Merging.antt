-- In a cluster that lives, what is made of the last reply is a birth that the registers allow.
use Rattle.std.proofs.Common.{◌≡◌, ◌≢◌, ℕ, Bool, true, false, cond, List, [], map, Option, Some, None, ⊎_elim, refl, sym, ap, ◌∙◌, subst}
use Rattle.std.specs.Prelude.{nat_lt}
use Rattle.std.specs.Option.{option_map}
use Rattle.std.proofs.lemmas.Bool.{cases_eq, ne_eqb, cases_Bool}
use Rattle.ct_values.specs.declared.config.Config.{Config}
use Rattle.ct_frame.specs.declared.event.Event.TheVariants as event
use Rattle.ct_frame.specs.declared.frame.Frame.{Frame}
use Rattle.ct_frame.specs.declared.frame.Msg.{Msg}
use Rattle.ct_frame.specs.declared.frame.TableRow.{TableRow}
use Rattle.ct_frame.specs.declared.round.Pull.{Pull}
use Rattle.ct_frame.specs.declared.round.PushBody.{PushBody}
use Rattle.ct_call.specs.Rules.{Rules}
use Rattle.ct_merge.specs.Gathered.{Gathered, gathered, finished}
use Rattle.ct_merge.specs.Held.{row_rank}
use Rattle.ct_merge.specs.Placing.{best}
use Rattle.ct_merge.specs.Rule.{rows_at, row_at}
use Rattle.ct_merge.specs.declared.held.HeldRow.{HeldRow}
use Rattle.ct_merge.proofs.Among.{in_of}
use Rattle.ct_rules_node.specs.Node.{Node, Lead, Nothing, Pulls}
use Rattle.ct_rules_node.specs.Rounds.{body_of, mastered, pushes, on_pullreply}
use Rattle.ct_rules_node.specs.Steps.{happens, arrives, if_sound}
use Rattle.ct_rules_node.specs.Turn.{begins}
use Rattle.ct_rules_cluster.specs.Cluster.{Cluster, absent, node_at}
use Rattle.ct_register.specs.Births.{Birth, birth_list, born_of}
use Rattle.ct_register.proofs.Places.{at_same}
use Rattle.ct_register.specs.Legal.{AcceptsRound}
use Rattle.ct_register.specs.Lines.{Lines}
use Rattle.ct_register.specs.Marks.{IsCopyAt, value_at}
use Rattle.ct_register.specs.Register.{Register, reading}
use Rattle.ct_promise.specs.Marked.{AllMarks}
use Rattle.ct_law_record.proofs.MarkedRun
use Rattle.ct_law_run.proofs.Lives.{Lives, LeadSays, IsTicket, IsGatheredOf}
use Rattle.ct_law_run.proofs.Best.{best_is_copy}
use Rattle.ct_law_run.proofs.Begotten.{parent, parent_is, in_order, told_is, born_parent, no_row, copies, row_is, all_heirs}
use Rattle.ct_law_run.proofs.Heirs.{taken_reading}
use Rattle.ct_law_run.proofs.Rounds.{counts, round_accepted}
use Rattle.ct_law_run.proofs.Lined.{beyond}
use Rattle.ct_law_run.proofs.Faces.{marks_in_all}
use Rattle.ct_law_run.proofs.Freezing.{HasCome}
use Rattle.ct_law_run.proofs.Handed.{pushed_is}
use Rattle.ct_law_run.proofs.Gathering.{gathers, pull_of, reply_came}
use Rattle.ct_law_promise.specs.Merges.{IsLastReply, body_at, StandsForBirth, MergesSo, KeepsWhatWasSeen, value_in_row}

-- ---- what is gathered

module _ (c : Config) (rules : Rules) (w : Cluster) (r : Lines) (h : Lives c rules w r) (n g : ℕ) (members : List ℕ) (x : Gathered) (ticket : IsTicket c r g n members) (unborn : r.born g ≡ false) (k : IsGatheredOf w n g members [] x) where
  abbrev body : PushBody
  body = body_of n members (finished x)

  abbrev taken : ℕ → List ℕ → ℕ
  taken = counts c rules w r h n g members x ticket unborn k

  -- the registers accept the note of the round with counts that take over the same
  pub accepted : AcceptsRound n g members body.vparent body.pparent r (born_of g body.vparent taken body.pparent (λ db. 0) r)
  accepted = round_accepted c rules w r h n g members x ticket unborn k

  abbrev pub so_many : ℕ → List ℕ → ℕ
  so_many = accepted.0

  pub born_so : Birth r g n members body.vparent so_many
  born_so = accepted.2

  same_births : (db : ℕ) (key : List ℕ) → birth_list r body.vparent taken db key ≡ birth_list r body.vparent so_many db key
  same_births db key = sym (ap (λ (rs : ℕ → List ℕ → Register). (rs db key).birth) (at_same g g _ r.records refl)) ∙ ap (λ (t : Lines). (t.records g db key).birth) accepted.4
      ∙ ap (λ (rs : ℕ → List ℕ → Register). (rs db key).birth) (at_same g g _ r.records refl)

  stands_here : (db : ℕ) (key : List ℕ) → StandsForBirth (birth_list r body.vparent taken db key) (row_at db key body.table)
  unfolding birth_list
  stands_here db key = (let heir = all_heirs c rules w r h n g members x db key ticket unborn k in record { none = heir.none; value = heir.value })

  pub stands_so : (db : ℕ) (key : List ℕ) → StandsForBirth (birth_list r body.vparent so_many db key) (row_at db key body.table)
  stands_so db key = subst (λ (l : List (List ℕ)). StandsForBirth l (row_at db key body.table)) (same_births db key) (stands_here db key)

  -- a row is that of a copy in the parent, which has a mark there
  marked_there : (db : ℕ) (key : List ℕ) (y : TableRow) → row_at db key body.table ≡ Some y → IsCopyAt (marks_in_all h.ages (parent c rules w r h n g members x db key ticket k) db key).marks (r.records (parent c rules w r h n g members x db key ticket k) db key).versions y.rsn y.value
  unfolding mastered
  marked_there db key y e = go (best row_rank (rows_at db key k.pulls)) refl
    where
      is : Some y ≡ option_map (mastered n) (option_map (λ (z : HeldRow). z.row) (best row_rank (rows_at db key k.pulls)))
      is = sym e ∙ row_is c rules w r h n g members x db key ticket k

      go : (o : Option HeldRow) → best row_rank (rows_at db key k.pulls) ≡ o → IsCopyAt (marks_in_all h.ages (parent c rules w r h n g members x db key ticket k) db key).marks (r.records (parent c rules w r h n g members x db key ticket k) db key).versions y.rsn y.value
      go None none = absurd (let f : Some y ≡ None = is ∙ ap (λ (o : Option HeldRow). option_map (mastered n) (option_map (λ (z : HeldRow). z.row) o)) none in cc)
      go (Some z) some = ⊎_elim
          (λ (zero : parent c rules w r h n g members x db key ticket k ≡ 0). absurd (let f : None ≡ Some z = sym (no_row c rules w r h n g members x db key ticket k zero) ∙ some in cc))
          (λ (ne : parent c rules w r h n g members x db key ticket k ≢ 0).
          let f : Some y ≡ Some (mastered n z.row) = is ∙ ap (λ (o : Option HeldRow). option_map (mastered n) (option_map (λ (z : HeldRow). z.row) o)) some in
          let same : y ≡ mastered n z.row = cc in
          let row = (best_is_copy (parent c rules w r h n g members x db key ticket k) k.pulls db key (copies c rules w r h n g members x db key ticket k) ne (in_order c rules w r h n g members x db key ticket k)
          (λ q i b. told_is c rules w r h n g members x db key ticket k q ne i b) z some).row in
          let inv = (h.lines.line (parent c rules w r h n g members x db key ticket k) (born_parent c rules w r h n g members x db key ticket k ne)).world db key in
          let at = (MarkedRun.marks_hold _ _ _ _ inv).copies z.node row.copy row.has in
          let rsn : row.copy.header.rsn ≡ y.rsn = sym row.rsn ∙ sym (ap (λ (t : TableRow). t.rsn) same) in
          let value : row.copy.value ≡ y.value = sym row.value ∙ sym (ap (λ (t : TableRow). t.value) same) in
          subst (λ (v : List ℕ). IsCopyAt (marks_in_all h.ages (parent c rules w r h n g members x db key ticket k) db key).marks (r.records (parent c rules w r h n g members x db key ticket k) db key).versions y.rsn v) value
          (subst (λ (a : ℕ). IsCopyAt (marks_in_all h.ages (parent c rules w r h n g members x db key ticket k) db key).marks (r.records (parent c rules w r h n g members x db key ticket k) db key).versions a row.copy.value) rsn at))
          (cases_eq (parent c rules w r h n g members x db key ticket k) 0)

  pub marked_so : (db : ℕ) (key : List ℕ) (y : TableRow) → row_at db key body.table ≡ Some y → IsCopyAt (marks_in_all h.ages body.vparent db key).marks (r.records body.vparent db key).versions y.rsn y.value
  marked_so db key y e = subst (λ (p : ℕ). IsCopyAt (marks_in_all h.ages p db key).marks (r.records p db key).versions y.rsn y.value) (sym (parent_is c rules w r h n g members x db key ticket k)) (marked_there db key y e)

-- ---- the last reply

module _ (c : Config) (rules : Rules) (w : Cluster) (r : Lines) (h : Lives c rules w r) (n : ℕ) (members : List ℕ) (f : Frame) (k : IsLastReply c w n members f) where
  abbrev pull : Pull
  pull = pull_of f k.vbase k.pbase k.table k.ptables k.addresses

  absent_leads : absent.lead ≡ Nothing
  unfolding absent
  absent_leads = refl

  there : nat_lt n c.nodes ≡ true
  there = ⊎_elim
      (λ (t : nat_lt n c.nodes ≡ true). t)
      (λ (e : nat_lt n c.nodes ≡ false). absurd (let z : Nothing ≡ Pulls f.generation members k.missing k.before = sym (ap (λ (x : Node). x.lead) (beyond c rules w r h n e) ∙ absent_leads) ∙ k.leads in cc))
      (cases_Bool (nat_lt n c.nodes))

  says : IsTicket c r f.generation n members × (r.born f.generation ≡ false) × IsGatheredOf w n f.generation members k.missing k.before
  unfolding LeadSays
  says = subst (λ (l : Lead). LeadSays c w r h.ages n l) k.leads (h.nodes n there).lead

  come : HasCome w n f
  come = record { sent = in_of (map (λ s. s.frame) w.sent) f k.sent; receiver = k.receiver }

  all_came : IsGatheredOf w n f.generation members [] (gathered pull k.before)
  all_came = subst (λ (ms : List ℕ). IsGatheredOf w n f.generation members ms (gathered pull k.before)) k.alone
      (gathers w n f.generation members k.missing k.before pull (reply_came w n f k.vbase k.pbase k.table k.ptables k.addresses k.reply come) k.waits says.2)

  turn_is : happens c rules n (begins (node_at n w)) (event.Arrive f) ≡ pushes n f.generation members (body_at c w n members f k) (begins (node_at n w))
  unfolding happens arrives if_sound
  turn_is = ap (λ (m : Msg). arrives c rules n f (begins (node_at n w)) m) k.reply
      ∙ ap (λ (b : Bool). cond b (on_pullreply n f.generation pull (begins (node_at n w)) (node_at n w).lead) (begins (node_at n w))) k.sound
      ∙ pushed_is n f.generation pull (begins (node_at n w)) (node_at n w).lead (record { members = members; missing = k.missing; before = k.before; is = k.leads; among = k.waits; none = k.alone })

  pub merges_so : MergesSo c rules w r (marks_in_all h.ages) n members f (body_at c w n members f k)
  merges_so = record {
    pushed = turn_is;
    counts = so_many c rules w r h n f.generation members (gathered pull k.before) says.0 says.1 all_came;
    birth = born_so c rules w r h n f.generation members (gathered pull k.before) says.0 says.1 all_came;
    rows = stands_so c rules w r h n f.generation members (gathered pull k.before) says.0 says.1 all_came;
    marked = marked_so c rules w r h n f.generation members (gathered pull k.before) says.0 says.1 all_came;
  }

-- ---- what follows

-- what is taken over of a parent has the value of so many first versions there
taken_value : (r : Lines) (p : ℕ) (taken : ℕ → List ℕ → ℕ) (db : ℕ) (key : List ℕ) → p ≢ 0 → reading (birth_list r p taken db key) ≡ value_at (taken db key) (r.records p db key).versions
unfolding birth_list
taken_value r p taken db key ne = rw (ne_eqb p 0 ne) (taken_reading (taken db key) (r.records p db key).versions)

row_value : (births : List (List ℕ)) (row : Option TableRow) → StandsForBirth births row → value_in_row row ≡ reading births
unfolding value_in_row reading
row_value births None h = sym (ap reading (h.none refl))
row_value births (Some x) h = h.value x refl

pub seen_kept : (c : Config) (rules : Rules) (w : Cluster) (r : Lines) (marks : AllMarks) (n : ℕ) (members : List ℕ) (f : Frame) (body : PushBody) → MergesSo c rules w r marks n members f body → KeepsWhatWasSeen r members body
seen_kept c rules w r marks n members f body h ne db key = (
  h.counts db key,
  h.birth.within db key ne,
  row_value (birth_list r body.vparent h.counts db key) (row_at db key body.table) (h.rows db key) ∙ taken_value r body.vparent h.counts db key ne,
  λ m among line. h.birth.seen db m key ne among line,
)
