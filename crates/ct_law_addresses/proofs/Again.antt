-- What is sent again: the messages of a round, and those of a run that was handed out or is not.
use Rattle.std.proofs.Common.{◌≡◌, ◌≢◌, ℕ, ◌+◌, Bool, true, false, cond, ◌&&◌, List, [], ◌∷◌, ◌++◌, map, append-nil, append_assoc, Option, None, Some, refl, sym, ap, ◌∙◌, subst, arith}
use Rattle.std.specs.Prelude.{nat_eq}
use Rattle.std.specs.List.{AllByRecursion}
use Rattle.std.proofs.lemmas.Bool.{and_parts, eqb-true}
use Rattle.ct_lcp2.proofs.Choices.{all_append}
use Rattle.ct_values.specs.declared.address.Address.{Address}
use Rattle.ct_values.specs.declared.config.Config.{Config}
use Rattle.ct_frame.specs.declared.event.Out.{Out}
use Rattle.ct_frame.specs.declared.event.Out.TheVariants as out
use Rattle.ct_frame.specs.declared.frame.Assigned.{Assigned}
use Rattle.ct_frame.specs.declared.frame.Frame.{Frame}
use Rattle.ct_frame.specs.declared.frame.Msg.{Msg}
use Rattle.ct_frame.specs.declared.frame.Msg.TheVariants as msg
use Rattle.ct_frame.specs.declared.round.PushBody.{PushBody}
use Rattle.ct_rules_node.specs.Node.{Node, Lead, Nothing, Freezes, Pulls, Installs, Completed, Takeover, Run, NoRun, Releasing, Taking, Database, Committing, is_present, is_present_in}
use Rattle.ct_rules_node.specs.Turn.{Turn, begins, posts_all}
use Rattle.ct_rules_node.specs.Rounds.{push_of, pending_calls}
use Rattle.ct_rules_node.specs.Retries.{call_all, revoke_in, update_again, update_in, retry_records, retry_run, retry_lead, retry}
use Rattle.ct_rules_node.specs.Takeovers.{assigned_in, send_releases, share}
use Rattle.ct_rules_cluster.specs.Labels.{Label, Pushed, Taken}
use Rattle.ct_rules_cluster.specs.Traces.{sent_label}
use Rattle.ct_rules_cluster.specs.declared.step.PendingCall.{PendingCall}
use Rattle.ct_register.specs.Placing as placing
use Rattle.ct_register.specs.Placing.{take_list}
use Rattle.ct_register.specs.Lines.{Lines}
use Rattle.ct_register.specs.Words.{at}
use Rattle.ct_law_generation.proofs.Hearing.{labels_more}
use Rattle.ct_law_generation.specs.Shown.{labels_of}
use Rattle.ct_law_plain.proofs.Events.{resends_plain}
use Rattle.ct_law_registers.proofs.Parts.{Choice}
use Rattle.ct_law_registers.proofs.Places.{Turns, Counts, plan, made_by}
use Rattle.ct_law_addresses.proofs.Facts.{Spots, spots, LeadSays, RunStands, TakeoverStands, LeadStands, Stands, FrameStands}
use Rattle.ct_law_addresses.proofs.Aside.{IsAsideMsg, IsAsideOut, Aside, labels_aside, sent_none}
use Rattle.ct_law_addresses.proofs.Asides.{retry_records_aside}
use Rattle.ct_law_addresses.proofs.Kept.{Ready, Kept, IsIdle, OutStands, aside_idle, pushed_idle, taken_idle, outs_aside, frames_stand, frame_list, same_lead, idle_kept}
use Rattle.ct_law_addresses.proofs.Placed.{plan_of, sends, alike, release_to, posts_all_is, send_releases_is, sends_stand, sends_silent, sends_tell}

-- ---- what is sent again of records and commits leaves the node in its generation

again_node : (me db : ℕ) (t : Turn) (o : Option Committing) → (update_again me db t o).node ≡ t.node
unfolding update_again
again_node me db t None = refl
again_node me db t (Some c) = ap (λ (u : Turn). u.node) (posts_all_is t.node.generation me c.pending.missing (msg.PUpdate db c.pending.seq c.writes) t)

updates_node : (me i : ℕ) (ds : List Database) (t : Turn) → (update_in me i ds t).node ≡ t.node
unfolding update_in
updates_node me i [] t = refl
updates_node me i (d ∷ ds) t = updates_node me (i + 1) ds _ ∙ again_node me i t d.commit

still_present : (c : Config) (me g : ℕ) (t : Turn) → is_present_in g (retry_records c me t).node ≡ is_present_in g t.node
unfolding retry_records is_present_in
still_present c me g t = either (is_present t.node.phase)
  where
    either : (b : Bool) → is_present_in g (cond b (update_in me 0 t.node.dbs (revoke_in c me 0 t.node.dbs (call_all c me (pending_calls t.node) t))) t).node ≡ is_present_in g t.node
    either false = refl
    either true = (let p = resends_plain c me (pending_calls t.node) t.node.dbs t in ap (is_present_in g) (updates_node me 0 t.node.dbs _) ∙ (λ i. is_present (p.phase i) && nat_eq (p.generation i) g))

-- a message that is neither of a run nor a push
aside_stands : (addresses : List Address) (nodes : ℕ → Node) (b : Spots) (turns : Turns) (f : Frame) → IsAsideMsg f.msg → FrameStands addresses nodes b turns f
unfolding OutStands IsAsideOut
aside_stands addresses nodes b turns f is = (outs_aside addresses nodes b turns (out.Send f ∷ []) (is, tt)).0

module _ (config : Config) (x : Choice) (nodes : ℕ → Node) (fs : List Frame) (r : Lines) (turns : Turns) (h : Ready config nodes fs r turns) (n : ℕ) (calls : List PendingCall) where
  -- from one middle of a step to another the node is the same, tells what is so already, and sends what stands
  record Repeats (t u : Turn) : Type 0 where
    node : u.node ≡ t.node
    more : List Out
    outs : u.outs ≡ t.outs ++ more
    idle : AllByRecursion (IsIdle config (spots r)) (labels_of n calls more)
    stands : (y : Node) → y.last_run ≡ (nodes n).last_run → AllByRecursion (OutStands config.addresses (at n y nodes) (spots r) turns) more

  repeats_nothing : {t : Turn} → Repeats t t
  unfolding labels_of
  repeats_nothing {t} = record { node = refl; more = []; outs = sym (append-nil t.outs); idle = tt; stands = λ y run. tt }

  repeats_after : {t u v : Turn} → Repeats t u → Repeats u v → Repeats t v
  repeats_after {t} {u} {v} a b = record {
    node = b.node ∙ a.node;
    more = a.more ++ b.more;
    outs = b.outs ∙ ap (λ (l : List Out). l ++ b.more) a.outs ∙ append_assoc t.outs a.more b.more;
    idle = subst (AllByRecursion (IsIdle config (spots r))) (sym (labels_more n calls a.more b.more)) (all_append (IsIdle config (spots r)) (labels_of n calls a.more) (labels_of n calls b.more) a.idle b.idle);
    stands = λ y run. all_append (OutStands config.addresses (at n y nodes) (spots r) turns) a.more b.more (a.stands y run) (b.stands y run);
  }

  either_repeats : {t u v : Turn} (b : Bool) → (b ≡ true → Repeats t u) → Repeats t v → Repeats t (cond b u v)
  either_repeats true a z = a refl
  either_repeats false a z = z

  abbrev Still : (ℕ → Frame) → Type 0
  Still to = (k : ℕ) (y : Node) → y.last_run ≡ (nodes n).last_run → FrameStands config.addresses (at n y nodes) (spots r) turns (to k)

  -- messages that tell nothing
  repeats_silent : (t : Turn) (to : ℕ → Frame) (ns : List ℕ) → ((k : ℕ) → sent_label (to k).sender (to k).generation (to k).msg ≡ []) → Still to → Repeats t (record t { outs = t.outs ++ sends to ns })
  repeats_silent t to ns silent still = record {
    node = refl;
    more = sends to ns;
    outs = refl;
    idle = subst (AllByRecursion (IsIdle config (spots r))) (sym (sends_silent n calls to ns silent)) tt;
    stands = λ y run. sends_stand config.addresses (at n y nodes) (spots r) turns to ns (λ k. still k y run);
  }

  -- messages that each tell the same, which is so already
  repeats_told : (t : Turn) (to : ℕ → Frame) (label : Label) (ns : List ℕ) → ((k : ℕ) → sent_label (to k).sender (to k).generation (to k).msg ≡ label ∷ []) → IsIdle config (spots r) label → Still to → Repeats t (record t { outs = t.outs ++ sends to ns })
  repeats_told t to label ns tell idle still = record {
    node = refl;
    more = sends to ns;
    outs = refl;
    idle = subst (AllByRecursion (IsIdle config (spots r))) (sym (sends_tell n calls to label ns tell)) (each ns);
    stands = λ y run. sends_stand config.addresses (at n y nodes) (spots r) turns to ns (λ k. still k y run);
  }
    where
      each : (ks : List ℕ) → AllByRecursion (IsIdle config (spots r)) (map (λ k. label) ks)
      each [] = tt
      each (k ∷ ks) = (idle, each ks)

  -- a message that is neither of a run nor a push
  repeats_aside : (g : ℕ) (ns : List ℕ) (m : Msg) (t : Turn) → IsAsideMsg m → Repeats t (posts_all g n ns m t)
  repeats_aside g ns m t is = subst (Repeats t) (sym (posts_all_is g n ns m t)) (repeats_silent t (alike g n m) ns (λ k. sent_none n g m is) (λ k y run. aside_stands config.addresses (at n y nodes) (spots r) turns (alike g n m k) is))

  -- ---- a push

  repeats_push : (t : Turn) (g : ℕ) (ns : List ℕ) (b : PushBody) → r.born g ≡ true → (r.placing g).pushed ≡ Some b.assigned → Repeats t (posts_all g n ns (push_of b) t)
  unfolding push_of sent_label Stands
  repeats_push t g ns b born pushed = subst (Repeats t) (sym (posts_all_is g n ns (push_of b) t))
      (repeats_told t (alike g n (push_of b)) (Pushed g b.assigned) ns (λ k. refl) (pushed_idle config (spots r) g b.assigned born pushed) (λ k y run. pushed))

  -- ---- a run

  module _ (g : ℕ) (members : List ℕ) (z : Takeover) (line : r.line n ≡ g) (real : g ≢ 0) (stands : TakeoverStands config.addresses nodes (spots r) turns g members z) where
    counted : Counts config.addresses (r.placing g) (turns g)
    counted = h.holds.counts g

    repeats_releases : (t : Turn) (pl : List Assigned) (missing : List ℕ) → RunStands config.addresses nodes (spots r) turns g members z.number (Releasing pl missing) → Repeats t (send_releases n g z.number pl missing t)
    unfolding RunStands Stands sent_label
    repeats_releases t pl missing run = subst (Repeats t) (sym (send_releases_is n g z.number pl missing t))
        (repeats_silent t (release_to g n z.number pl) missing (λ k. refl) (λ k y same. ((let l = run.1 in omega arith), (let e = stands.number in omega arith), ap (share k) run.0)))

    repeats_takes : (t : Turn) (pl : List Assigned) → RunStands config.addresses nodes (spots r) turns g members z.number (Taking pl) → Repeats t (posts_all g n members (msg.Take z.number (assigned_in pl)) t)
    unfolding RunStands Stands sent_label take_list assigned_in made_by
    repeats_takes t pl run = subst (Repeats t) (sym (posts_all_is g n members (msg.Take z.number (assigned_in pl)) t))
        (repeats_told t (alike g n (msg.Take z.number (assigned_in pl))) (Taken n g z.number (assigned_in pl)) members (λ k. refl) idle (λ k y same. (run.2, (let e = run.1 in omega arith), run.3, ap assigned_in run.0)))
      where
        begun : (made : placing.Run) × ((r.placing g).runs z.number ≡ Some made)
        begun = counted.runs z.number run.2 (let e = stands.number in omega arith)

        list : assigned_in pl ≡ take_list config.addresses begun.0
        list = ap assigned_in (run.0 ∙ plan_of config.addresses (r.placing g) z.number run.2 ∙ ap (made_by config.addresses) begun.1)

        last : (r.placing g).last ≡ Some (assigned_in pl)
        last = counted.last (λ e. absurd (let l = run.2 in let t = run.1 in omega arith)) ∙ ap (λ (i : ℕ). Some (assigned_in (plan config.addresses (r.placing g) i))) run.1 ∙ ap (λ (l : List Assigned). Some (assigned_in l)) (sym run.0)

        idle : IsIdle config (spots r) (Taken n g z.number (assigned_in pl))
        idle = taken_idle config (spots r) n g z.number (assigned_in pl) begun.0 line real begun.1 list run.3 last

    repeats_run : (t : Turn) (run : Run) → z.run ≡ run → Repeats t (retry_run n g members z t run)
    unfolding retry_run
    repeats_run t NoRun e = repeats_nothing
    repeats_run t (Releasing pl missing) e = repeats_releases t pl missing (subst (RunStands config.addresses nodes (spots r) turns g members z.number) e stands.run)
    repeats_run t (Taking pl) e = repeats_takes t pl (subst (RunStands config.addresses nodes (spots r) turns g members z.number) e stands.run)

  -- ---- what is led

  -- the node is in its line where it is present
  in_line : (g : ℕ) → is_present_in g (nodes n) ≡ true → (r.line n ≡ g) × (g ≢ 0)
  unfolding is_present_in
  in_line g e =
      let p = and_parts (is_present (nodes n).phase) (nat_eq (nodes n).generation g) e in
      let there = h.rounds.there n p.0 in
      let same = sym there.generation ∙ eqb-true (nodes n).generation g p.1 in
      (same, λ z. there.line (same ∙ z))

  repeats_lead : (t : Turn) → ((g : ℕ) → is_present_in g t.node ≡ is_present_in g (nodes n)) → (l : Lead) → (nodes n).lead ≡ l → Repeats t (retry_lead n t l)
  unfolding retry_lead IsAsideMsg LeadSays LeadStands
  repeats_lead t same Nothing e = repeats_nothing
  repeats_lead t same (Freezes g members missing) e = repeats_aside g missing (msg.Freeze members) t tt
  repeats_lead t same (Pulls g members missing y) e = repeats_aside g missing msg.Pull t tt
  repeats_lead t same (Installs g members missing b) e = repeats_push t g missing b born pushed
    where
      says : LeadSays (spots r) n (nodes n) (Installs g members missing b)
      says = subst (LeadSays (spots r) n (nodes n)) e (h.rounds.leads n)

      stands : LeadStands config.addresses nodes (spots r) turns (Installs g members missing b)
      stands = subst (LeadStands config.addresses nodes (spots r) turns) e (h.holds.leads n)

      born : r.born g ≡ true
      born = says.1

      pushed : (r.placing g).pushed ≡ Some b.assigned
      pushed = stands.1
  repeats_lead t same (Completed g members z) e =
      repeats_after (repeats_aside g members msg.Thaw t tt) (either_repeats (is_present_in g t.node) (λ here. (let there = in_line g (sym (same g) ∙ here) in repeats_run g members z there.0 there.1 stands _ z.run refl)) repeats_nothing)
    where
      stands : TakeoverStands config.addresses nodes (spots r) turns g members z
      stands = subst (LeadStands config.addresses nodes (spots r) turns) e (h.holds.leads n)

  -- ---- a Retry

  abbrev Kept_by : Turn → Type 0
  Kept_by u = Kept config x (at n u.node nodes) fs r (labels_of n calls u.outs) (frame_list u.outs)

  -- what is aside, and then only what is so already
  again_kept : (t u : Turn) → Aside (begins (nodes n)) t → Repeats t u → Kept_by u
  again_kept t u a b =
      let outs : u.outs ≡ a.outs.0 ++ b.more = b.outs ∙ ap (λ (l : List Out). l ++ b.more) a.outs.1 in
      let run : t.node.last_run ≡ (nodes n).last_run = a.last_run in
      subst (λ (y : Node). Kept config x (at n y nodes) fs r (labels_of n calls u.outs) (frame_list u.outs)) (sym b.node)
      (subst (λ (l : List Out). Kept config x (at n t.node nodes) fs r (labels_of n calls l) (frame_list l)) (sym outs)
      (idle_kept config x nodes fs r turns h n t.node a.held run (same_lead config x nodes fs r turns h n t.node (omega arith) (sym a.lead)) (labels_of n calls (a.outs.0 ++ b.more))
      (subst (AllByRecursion (IsIdle config (spots r))) (sym (labels_more n calls a.outs.0 b.more)) (all_append (IsIdle config (spots r)) (labels_of n calls a.outs.0) (labels_of n calls b.more) (aside_idle config (spots r) (labels_of n calls a.outs.0) (labels_aside config n calls a.outs.0 a.outs.2)) b.idle))
      (frame_list (a.outs.0 ++ b.more))
      (frames_stand config.addresses (at n t.node nodes) (spots r) turns (a.outs.0 ++ b.more) (all_append (OutStands config.addresses (at n t.node nodes) (spots r) turns) a.outs.0 b.more (outs_aside config.addresses (at n t.node nodes) (spots r) turns a.outs.0 a.outs.2) (b.stands t.node run)))))

  pub retry_kept : Kept_by (retry config n (begins (nodes n)))
  unfolding retry
  retry_kept = (let a = retry_records_aside config n (begins (nodes n)) in let t = retry_records config n (begins (nodes n)) in again_kept t _ a (repeats_lead t (λ g. still_present config n g (begins (nodes n))) t.node.lead (sym a.lead)))
