-- Every step that is taken is a node's turn on an event, a stop, or nothing that a node sees. What a law owes of each is named
-- here once; then it has every step.
use Rattle.std.proofs.Common.{◌≡◌, ℕ, ◌+◌, ◌<◌, Bool, true, false, cond, List, [], ◌∷◌, ◌++◌, length, set, append-nil, Option, None, Some, refl, sym, ap, ◌∙◌, subst}
use Rattle.std.specs.Prelude.{Ok}
use Rattle.ct_values.specs.declared.client.ClientOp.{ClientOp}
use Rattle.ct_values.specs.declared.config.Config.{Config}
use Rattle.ct_frame.specs.declared.event.Event.{Event}
use Rattle.ct_frame.specs.declared.event.Event.TheVariants as event
use Rattle.ct_frame.specs.declared.frame.Frame.{Frame}
use Rattle.ct_call.specs.Rules.{Rules}
use Rattle.ct_merge.proofs.Among.{In}
use Rattle.ct_rules_node.specs.Node.{Node, restarted}
use Rattle.ct_rules_node.specs.Turn.{Turn, begins}
use Rattle.ct_rules_node.specs.Steps.{happens}
use Rattle.ct_rules_cluster.specs.Cluster.{Cluster, Sent, Delivered, Dropped, is_up, node_at, sent_at, pending, pending_at, able_from}
use Rattle.ct_rules_cluster.specs.Faults.{fault_of}
use Rattle.ct_rules_cluster.specs.Labels.{Label, Ticket, Yielded, Stopped, Started, Takeover}
use Rattle.ct_rules_cluster.specs.Steps.{Stepped, frames_of, lines_of, with_node, put, fed, done, with_fate, deliver, drop, repeat, without_holder, gone, stop, recover, steps, steps_or, applied}
use Rattle.ct_rules_cluster.specs.Traces.{own_labels, begun_by, members_of}
use Rattle.ct_rules_cluster.specs.declared.step.Line.{Line}
use Rattle.ct_rules_cluster.specs.declared.step.Line.TheVariants as line
use Rattle.ct_rules_cluster.specs.declared.step.PendingCall.{PendingCall}
use Rattle.ct_rules_cluster.specs.declared.step.Step.{Step}
use Rattle.ct_rules_cluster.specs.declared.step.Step.TheVariants as step
use Rattle.ct_rules_cluster.specs.declared.step.StepFault.{StepFault}
use Rattle.ct_register.specs.Words.{at}
use Rattle.ct_law_generation.proofs.Hearing.{labels_are}
use Rattle.ct_law_generation.specs.Shown.{labels_of}
use Rattle.ct_law_generation.specs.Waiting.{answerable, told_line, told_lines, told_step}
use Rattle.ct_law_generation.proofs.Fed.{fed_is}
use Rattle.ct_law_generation.proofs.Faulting.{runs}
use Rattle.ct_law_acts.proofs.Parts.{nodes_of, frames_in, frame_list, put_nodes, sent_more, fate_frames, fate_nodes, sent_in, gone_told}

-- what a law says of a step from one cluster on: of the nodes after it, of what it tells, and of the messages that it sends
module _ (config : Config) (rules : Rules) (w : Cluster) (Law : (ℕ → Node) → List Label → List Frame → Type 0) where
  -- the law holds of a step to this cluster
  pub record Became (v : Cluster) (ls : List Label) : Type 0 where
    pub fs : List Frame
    pub sent : frames_in v ≡ frames_in w ++ fs
    pub law : Law (nodes_of v) ls fs

  -- the law holds of what comes of the event at the node, with what the step tells before
  abbrev pub OwesTurn : ℕ → Event → (Turn → List Label) → List PendingCall → Type 0
  OwesTurn n e before calls = let u = happens config rules n (begins (node_at n w)) e in Law (at n u.node (nodes_of w)) (before u ++ labels_of n calls u.outs) (frame_list u.outs)

  -- what is owed of each step that is not refused
  pub record Owes : Type 0 where
    pub client : (n : ℕ) (o : ClientOp) → is_up n w ≡ true → OwesTurn n (event.Client (w.calls + 1) o) (λ u. begun_by n (w.calls + 1) o (lines_of n (length w.sent + 1) u.outs)) (answerable w (step.Client n o))
    pub arrive : (f : Frame) → In f (frames_in w) → is_up f.receiver w ≡ true → OwesTurn f.receiver (event.Arrive f) (λ u. []) (pending w)
    pub retry : (n : ℕ) → is_up n w ≡ true → OwesTurn n event.Retry (λ u. []) (pending w)
    pub vacuum : (n db : ℕ) → is_up n w ≡ true → OwesTurn n (event.Vacuum db) (λ u. []) (pending w)
    pub recover : (n : ℕ) (members : List ℕ) → is_up n w ≡ true → OwesTurn n (event.BeginRound (w.ticket + 1) members) (λ u. Ticket (w.ticket + 1) n members ∷ []) (pending w)
    pub takeover : (n : ℕ) → fault_of config w (step.Takeover n) ≡ None → OwesTurn n (event.BeginTakeover (able_from 0 w.able)) (λ u. Takeover n (able_from 0 w.able) ∷ []) (pending w)
    pub stop : (n : ℕ) → is_up n w ≡ true → Law (at n (restarted config (node_at n w)) (nodes_of w)) (Stopped n ∷ []) []
    pub nothing : Law (nodes_of w) [] []
    pub yielded : (n : ℕ) → Law (nodes_of w) (Yielded n ∷ []) []
    pub started : (n : ℕ) → Law (nodes_of w) (Started n ∷ []) []

  module _ (owes : Owes) (there : (n : ℕ) → is_up n w ≡ true → n < length w.nodes) where
    -- a node's turn
    turn_became : (n : ℕ) (e : Event) (own : List Line) (v : Cluster) (s : Step) (before : Turn → List Label) (calls : List PendingCall) (x : Stepped) → v.nodes ≡ w.nodes → frames_in v ≡ frames_in w → is_up n w ≡ true → fed config rules n e own v ≡ Ok x →
        ((u : Turn) → told_step w s (own ++ lines_of n (length v.sent + 1) u.outs) ≡ before u ++ labels_of n calls u.outs) → OwesTurn n e before calls → Became x.cluster (told_step w s x.lines)
    unfolding put node_at with_node
    turn_became n e own v s before calls x same frames up is ls g =
        let f = fed_is config rules n e own v x is in
        let u : Turn = happens config rules n (begins (node_at n v)) e in
        let l : n < length v.nodes = subst (λ ns. n < length ns) (sym same) (there n up) in
        let nodes : nodes_of v ≡ nodes_of w = (λ i k. node_at k (record w { nodes = same i })) in
        subst (λ (y : Stepped). Became y.cluster (told_step w s y.lines)) (sym f.1)
        (subst (λ (ts : List Label). Became (put n u own v).cluster ts) (sym (ls u)) (record {
          fs = frame_list u.outs;
          sent = sent_more v.sent (frames_of u.outs) ∙ ap (λ (xs : List Frame). xs ++ frame_list u.outs) frames;
          law = subst (λ (ns : ℕ → Node). Law ns (before u ++ labels_of n calls u.outs) (frame_list u.outs)) (sym (put_nodes n u.node v l ∙ ap (at n u.node) nodes))
              (subst (λ (y : Node). (let z = happens config rules n (begins y) e in Law (at n z.node (nodes_of w)) (before z ++ labels_of n calls z.outs) (frame_list z.outs))) (sym (ap (λ (ns : ℕ → Node). ns n) nodes)) g);
        }))

    ok_is : (v : Cluster) (ls : List Line) (x : Stepped) → done ls v ≡ Ok x → record { cluster = v; lines = ls } ≡ x
    unfolding done
    ok_is v ls x e = cc

    -- no node's turn, where these labels are told
    plain_became : (v : Cluster) (s : Step) (ls : List Line) (labels : List Label) (x : Stepped) → done ls v ≡ Ok x → v.nodes ≡ w.nodes → frames_in v ≡ frames_in w → told_step w s ls ≡ labels → Law (nodes_of w) labels [] → Became x.cluster (told_step w s x.lines)
    unfolding node_at
    plain_became v s ls labels x ok same frames told law =
        subst (λ (y : Stepped). Became y.cluster (told_step w s y.lines)) (ok_is v ls x ok)
        (subst (λ (ts : List Label). Became v ts) (sym told) (record {
          fs = [];
          sent = frames ∙ sym (append-nil (frames_in w));
          law = subst (λ (ns : ℕ → Node). Law ns labels []) (λ i k. node_at k (record w { nodes = sym same i })) law;
        }))

    -- ---- messages

    deliver_became : (k : ℕ) (o : Option Sent) (x : Stepped) → sent_at k w ≡ o → deliver config rules k w o ≡ Ok x → Became x.cluster (told_step w (step.Deliver k) x.lines)
    unfolding deliver told_step own_labels answerable told_lines told_line
    deliver_became k None x is ok = plain_became w (step.Deliver k) [] [] x ok refl refl refl owes.nothing
    deliver_became k (Some s) x is ok = either (is_up s.frame.receiver w) refl ok
      where
        either : (b : Bool) → is_up s.frame.receiver w ≡ b → cond b (fed config rules s.frame.receiver (event.Arrive s.frame) [] (with_fate k s Delivered w)) (done (line.Lost k ∷ []) (with_fate k s Dropped w)) ≡ Ok x → Became x.cluster (told_step w (step.Deliver k) x.lines)
        either true up ok = turn_became s.frame.receiver (event.Arrive s.frame) [] (with_fate k s Delivered w) (step.Deliver k) (λ u. []) (pending w) x (fate_nodes k s Delivered w) (fate_frames k s Delivered w is) up ok
            (λ u. labels_are (step.Deliver k) s.frame.receiver _ (pending w) u.outs) (owes.arrive s.frame (sent_in k s w is) up)
        either false up ok = plain_became (with_fate k s Dropped w) (step.Deliver k) (line.Lost k ∷ []) [] x ok (fate_nodes k s Dropped w) (fate_frames k s Dropped w is) refl owes.nothing

    drop_became : (k : ℕ) (o : Option Sent) (x : Stepped) → sent_at k w ≡ o → drop k w o ≡ Ok x → Became x.cluster (told_step w (step.Drop k) x.lines)
    unfolding drop told_step own_labels answerable told_lines
    drop_became k None x is ok = plain_became w (step.Drop k) [] [] x ok refl refl refl owes.nothing
    drop_became k (Some s) x is ok = plain_became (with_fate k s Dropped w) (step.Drop k) [] [] x ok (fate_nodes k s Dropped w) (fate_frames k s Dropped w is) refl owes.nothing

    repeat_became : (k : ℕ) (o : Option Sent) (x : Stepped) → sent_at k w ≡ o → repeat config rules k w o ≡ Ok x → Became x.cluster (told_step w (step.Repeat k) x.lines)
    unfolding repeat told_step own_labels answerable told_lines told_line
    repeat_became k None x is ok = plain_became w (step.Repeat k) [] [] x ok refl refl refl owes.nothing
    repeat_became k (Some s) x is ok = either (is_up s.frame.receiver w) refl ok
      where
        either : (b : Bool) → is_up s.frame.receiver w ≡ b → cond b (fed config rules s.frame.receiver (event.Arrive s.frame) [] w) (done (line.Lost k ∷ []) w) ≡ Ok x → Became x.cluster (told_step w (step.Repeat k) x.lines)
        either true up ok = turn_became s.frame.receiver (event.Arrive s.frame) [] w (step.Repeat k) (λ u. []) (pending w) x refl refl up ok (λ u. labels_are (step.Repeat k) s.frame.receiver _ (pending w) u.outs) (owes.arrive s.frame (sent_in k s w is) up)
        either false up ok = plain_became w (step.Repeat k) (line.Lost k ∷ []) [] x ok refl refl refl owes.nothing

    -- ---- a stop

    stop_became : (n : ℕ) (x : Stepped) → is_up n w ≡ true → stop config n w ≡ Ok x → Became x.cluster (told_step w (step.Stop n) x.lines)
    unfolding stop told_step own_labels answerable told_lines told_line with_node node_at
    stop_became n x up ok =
        let left : Cluster = with_node n (restarted config (node_at n w)) w in
        let v : Cluster = record left { running = set w.running n false; holder = without_holder n w.holder } in
        subst (λ (y : Stepped). Became y.cluster (told_step w (step.Stop n) y.lines)) (ok_is v (line.Stopped n ∷ gone (pending_at n w)) x ok)
        (subst (λ (l : List Label). Became v (Stopped n ∷ l)) (sym (gone_told (step.Stop n) (pending w) (pending_at n w))) (record {
          fs = [];
          sent = sym (append-nil (frames_in w));
          law = subst (λ (ns : ℕ → Node). Law ns (Stopped n ∷ []) []) (sym (put_nodes n (restarted config (node_at n w)) w (there n up))) (owes.stop n up);
        }))

    -- ---- every step

    abbrev Step_became : Step → Stepped → Type 0
    Step_became s x = Became x.cluster (told_step w s x.lines)

    taken_became : (s : Step) (x : Stepped) → fault_of config w s ≡ None → steps config rules w s ≡ Ok x → Step_became s x
    unfolding fault_of steps recover told_step own_labels answerable told_lines told_line members_of
    taken_became (step.Client n o) x e ok = turn_became n (event.Client (w.calls + 1) o) [] (record w { calls = w.calls + 1 }) (step.Client n o) (λ u. begun_by n (w.calls + 1) o (lines_of n (length w.sent + 1) u.outs)) (answerable w (step.Client n o)) x refl refl (runs w n _ _ e) ok
        (λ u. ap (λ (l : List Label). begun_by n (w.calls + 1) o (lines_of n (length w.sent + 1) u.outs) ++ l) (labels_are (step.Client n o) n _ (answerable w (step.Client n o)) u.outs)) (owes.client n o (runs w n _ _ e))
    taken_became (step.Deliver k) x e ok = deliver_became k (sent_at k w) x refl ok
    taken_became (step.Drop k) x e ok = drop_became k (sent_at k w) x refl ok
    taken_became (step.Repeat k) x e ok = repeat_became k (sent_at k w) x refl ok
    taken_became (step.Retry n) x e ok = turn_became n event.Retry [] w (step.Retry n) (λ u. []) (pending w) x refl refl (runs w n _ _ e) ok (λ u. labels_are (step.Retry n) n _ (pending w) u.outs) (owes.retry n (runs w n _ _ e))
    taken_became (step.Vacuum n db) x e ok = turn_became n (event.Vacuum db) [] w (step.Vacuum n db) (λ u. []) (pending w) x refl refl (runs w n _ _ e) ok (λ u. labels_are (step.Vacuum n db) n _ (pending w) u.outs) (owes.vacuum n db (runs w n _ _ e))
    taken_became (step.Recover n members) x e ok = turn_became n (event.BeginRound (w.ticket + 1) members) (line.Ticket (w.ticket + 1) n ∷ []) (record w { holder = Some n; ticket = w.ticket + 1 }) (step.Recover n members) (λ u. Ticket (w.ticket + 1) n members ∷ []) (pending w) x refl refl (runs w n _ _ e) ok
        (λ u. ap (λ (l : List Label). Ticket (w.ticket + 1) n members ∷ l) (labels_are (step.Recover n members) n _ (pending w) u.outs)) (owes.recover n members (runs w n _ _ e))
    taken_became (step.Yield n) x e ok = plain_became (record w { holder = None }) (step.Yield n) (line.Yielded n ∷ []) (Yielded n ∷ []) x ok refl refl refl (owes.yielded n)
    taken_became (step.Stop n) x e ok = stop_became n x (runs w n _ _ e) ok
    taken_became (step.Start n) x e ok = plain_became (record w { running = set w.running n true }) (step.Start n) (line.Started n ∷ []) (Started n ∷ []) x ok refl refl refl (owes.started n)
    taken_became (step.Takeover n) x e ok = turn_became n (event.BeginTakeover (able_from 0 w.able)) [] w (step.Takeover n) (λ u. Takeover n (able_from 0 w.able) ∷ []) (pending w) x refl refl (runs w n _ _ e) ok
        (λ u. ap (λ (l : List Label). Takeover n (able_from 0 w.able) ∷ l) (labels_are (step.Takeover n) n _ (pending w) u.outs)) (owes.takeover n e)
    taken_became (step.Able n able) x e ok = plain_became (record w { able = set w.able n able }) (step.Able n able) [] [] x ok refl refl refl owes.nothing

    or_taken : (s : Step) (f : Option StepFault) (x : Stepped) → fault_of config w s ≡ f → steps_or config rules w s f ≡ Ok x → Step_became s x
    unfolding steps_or
    or_taken s (Some f) x e ok = absurd (cc)
    or_taken s None x e ok = taken_became s x e ok

    -- so the law has every step
    pub step_became : (s : Step) (x : Stepped) → applied config rules w s ≡ Ok x → Step_became s x
    unfolding applied
    step_became s x ok = or_taken s (fault_of config w s) x refl ok
