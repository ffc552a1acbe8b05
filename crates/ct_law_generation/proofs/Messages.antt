-- A message that is delivered or comes again lets the run go on.
use Rattle.std.proofs.Common.{refl, sym, ap, ◌∷◌, ◌++◌, ◌⊎◌, ◌∙◌, inl, inr, ⊎_elim, zero, [], Option, ◌≡◌, ℕ, List, slice_get, Some, None, slice_set, suc, true, Ok, subst, Result, append-nil}
use Rattle.ct_values.specs.declared.config.Config.{Config}
use Rattle.ct_rules_cluster.specs.Steps.{done, steps, with_fate, deliver, repeat, Stepped, fed, put}
use Rattle.ct_rules_node.specs.Admission.{record_in}
use Rattle.ct_law_generation.specs.Shown.{Era}
use Rattle.ct_rules_cluster.specs.Cluster.{Sent, is_up, pending, Fate, Cluster, sent_at, Delivered, Dropped, node_at}
use Rattle.ct_law_generation.proofs.Passing.{beside_taken, commit_comes, round_comes, is_of_commit}
use Rattle.ct_rules_cluster.specs.Traces.{own_labels}
use Rattle.ct_law_generation.specs.Waiting.{told_lines, answerable, told_line, told_step}
use Rattle.ct_call.specs.Rules.{Rules}
use Rattle.ct_law_generation.proofs.Rounding.{is_beside_records}
use Rattle.ct_register.specs.Lines.{Lines}
use Rattle.ct_frame.specs.declared.frame.Msg.{Msg}
use Rattle.ct_rules_cluster.specs.Labels.{Label}
use Rattle.ct_law_generation.proofs.Assembled.{Run_goes, Starts, Taken_goes, silent, pending_tells}
use Rattle.ct_law_generation.proofs.Coming.{fate_goes}
use Rattle.ct_rules_cluster.specs.declared.step.Line.TheVariants as line
use Rattle.ct_rules_node.specs.Steps as node_steps
use Rattle.ct_frame.specs.declared.event.Event.TheVariants as event
use Rattle.ct_rules_cluster.specs.declared.step.Step.TheVariants as step
use Rattle.ct_rules_cluster.specs.Traces as traces
use Rattle.ct_frame.specs.declared.frame.Msg.TheVariants as msg
use Rattle.ct_rules_cluster.specs.declared.step.Step.{Step}
use Rattle.ct_promise.specs.Generation.{record_labels}
use Rattle.std.proofs.lemmas.Bool.{cond_both}
use Rattle.ct_rules_node.specs.Turn.{Turn, begins}
use Rattle.ct_rules_cluster.specs.declared.step.StepFault.{StepFault}
use Rattle.ct_rules_node.specs.Steps.{arrives}
use Rattle.ct_law_generation.proofs.Fed.{Taken, fed_is}
use Rattle.ct_law_generation.proofs.Keeping.{message_kept}
use Rattle.ct_law_generation.proofs.Thawing.{thaw_taken}
use Rattle.ct_law_generation.proofs.Delivered.{fed_goes}
use Rattle.ct_law_generation.proofs.Plain.{not_newer, plain_at}

-- ---- every message

-- a message that speaks of no record is of a commit, of a round or a run, or it is a Thaw
which : (m : Msg) → record_in m ≡ None → (is_of_commit m ≡ true) ⊎ (is_beside_records m ≡ true) ⊎ (m ≡ msg.Thaw)
unfolding record_in is_of_commit is_beside_records
which (msg.PUpdate db seq writes) e = inl refl
which (msg.PAck db seq) e = inl refl
which (msg.Freeze members) e = inr (inl refl)
which msg.FreezeAck e = inr (inl refl)
which msg.Pull e = inr (inl refl)
which (msg.PullReply vbase pbase table ptables addresses) e = inr (inl refl)
which (msg.Push members table ptables assigned) e = inr (inl refl)
which msg.PushAck e = inr (inl refl)
which (msg.Release number keep) e = inr (inl refl)
which (msg.ReleaseAck number) e = inr (inl refl)
which (msg.Take number assigned) e = inr (inl refl)
which msg.Thaw e = inr (inr refl)
which _ e = absurd (cc)

-- a message comes to its receiver, which runs
message_taken : (c : Config) (era : Era) (rules : Rules) (reg : Lines) (w v : Cluster) (ls : List Label) (k : ℕ) (m : Sent) (s : Step) (x : Stepped) → Starts c era rules reg → Run_goes c era rules reg ls v →
    slice_get v.sent k ≡ Some m → is_up m.frame.receiver v ≡ true → answerable w s ≡ pending v → record_labels c (own_labels w s x.lines) ≡ [] → fed c rules m.frame.receiver (event.Arrive m.frame) [] v ≡ Ok x →
    Run_goes c era rules reg (ls ++ record_labels c (told_step w s x.lines)) x.cluster
unfolding node_steps.happens
message_taken c era rules reg w v ls k m s x is h at up calls none e = either (record_in m.frame.msg) refl
  where
    u : Turn
    u = arrives c rules m.frame.receiver m.frame (begins (node_at m.frame.receiver v)) m.frame.msg

    taken : Taken m.frame.receiver u [] v x
    taken = fed_is c rules m.frame.receiver (event.Arrive m.frame) [] v x e

    either : (o : Option (ℕ × List ℕ)) → record_in m.frame.msg ≡ o → Run_goes c era rules reg (ls ++ record_labels c (told_step w s x.lines)) x.cluster
    either (Some p) of =
        pending_tells c era rules reg ls w v s m.frame.receiver u x h (message_kept c era rules reg v ls k m p is h at up of taken.0) calls none taken.1
        (fed_goes c era rules h.who v k m p ls h.goes.1 x is.era_is is.small h.goes.0 h.goes.2 at up of e)
    either None of = ⊎_elim
        (λ (commit : is_of_commit m.frame.msg ≡ true). beside_taken c era rules reg ls w v s m.frame.receiver u x h up (commit_comes c era rules reg ls v m.frame.receiver m.frame m.frame.msg h up commit) calls none taken.1)
        (λ (other : (is_beside_records m.frame.msg ≡ true) ⊎ (m.frame.msg ≡ msg.Thaw)). ⊎_elim
        (λ (round : is_beside_records m.frame.msg ≡ true). beside_taken c era rules reg ls w v s m.frame.receiver u x h up
        (round_comes c era rules reg ls v m.frame.receiver m.frame m.frame.msg is.alone h up (not_newer era.number m.frame (plain_at era.number v.sent k m at h.goes.0.sent)) round) calls none taken.1)
        (λ (thaw : m.frame.msg ≡ msg.Thaw). (let same = ap (λ (q : Msg). arrives c rules m.frame.receiver m.frame (begins (node_at m.frame.receiver v)) q) thaw in
        thaw_taken c era rules reg ls w v s m.frame.receiver m.frame x is h up (sym (ap (λ (q : Turn). q.spent) same) ∙ taken.0) calls none (taken.1 ∙ ap (λ (q : Turn). put m.frame.receiver q [] v) same))) other)
        (which m.frame.msg of)

-- ---- Deliver and Repeat

-- a message is lost
lost : (c : Config) (era : Era) (rules : Rules) (reg : Lines) (ls : List Label) (w v : Cluster) (k : ℕ) (s : Step) (x : Stepped) → own_labels w s (line.Lost k ∷ []) ≡ [] → Run_goes c era rules reg ls v → done (line.Lost k ∷ []) v ≡ Ok x →
    Run_goes c era rules reg (ls ++ record_labels c (told_step w s x.lines)) x.cluster
unfolding done told_step told_lines told_line
lost c era rules reg ls w v k s x none h e =
    let is : record { cluster = v; lines = line.Lost k ∷ [] } ≡ x = cc in
    subst (λ (y : Stepped). Run_goes c era rules reg (ls ++ record_labels c (told_step w s y.lines)) y.cluster) is
    (subst (λ (l : List Label). Run_goes c era rules reg (ls ++ record_labels c (l ++ [])) v) (sym none)
    (subst (λ (l : List Label). Run_goes c era rules reg l v) (sym (append-nil ls)) h))

pub repeat_taken : (c : Config) (era : Era) (rules : Rules) (reg : Lines) (w : Cluster) (ls : List Label) (k : ℕ) → Starts c era rules reg → Run_goes c era rules reg ls w → Taken_goes c era rules reg w ls (step.Repeat k)
unfolding steps own_labels repeat sent_at answerable
repeat_taken c era rules reg w ls zero is h x ok e = silent c era rules reg ls w w (step.Repeat zero) x refl (λ who g. g) h e
repeat_taken c era rules reg w ls (suc k) is h x ok e = either (slice_get w.sent k) refl e
  where
    either : (o : Option Sent) → slice_get w.sent k ≡ o → repeat c rules (suc k) w o ≡ Ok x → Run_goes c era rules reg (ls ++ record_labels c (told_step w (step.Repeat (suc k)) x.lines)) x.cluster
    either None at r = silent c era rules reg ls w w (step.Repeat (suc k)) x refl (λ who g. g) h r
    either (Some m) at r = cond_both (is_up m.frame.receiver w) (fed c rules m.frame.receiver (event.Arrive m.frame) [] w) (done (line.Lost (suc k) ∷ []) w) (λ (y : Result Stepped StepFault). y ≡ Ok x → Run_goes c era rules reg (ls ++ record_labels c (told_step w (step.Repeat (suc k)) x.lines)) x.cluster)
        (λ up q. message_taken c era rules reg w w ls k m (step.Repeat (suc k)) x is h at up refl refl q)
        (λ down q. lost c era rules reg ls w w (suc k) (step.Repeat (suc k)) x refl h q) r

set_got : (ss : List Sent) (k : ℕ) (m y : Sent) → slice_get ss k ≡ Some m → slice_get (slice_set ss k y) k ≡ Some y
set_got [] k m y e = absurd (cc)
set_got (z ∷ zs) zero m y e = refl
set_got (z ∷ zs) (suc k) m y e = set_got zs k m y e

fate_pending : (k : ℕ) (m : Sent) (f : Fate) (w : Cluster) → pending w ≡ pending (with_fate (suc k) m f w)
unfolding with_fate pending
fate_pending k m f w = refl

fate_up : (n k : ℕ) (m : Sent) (f : Fate) (w : Cluster) → is_up n w ≡ is_up n (with_fate (suc k) m f w)
unfolding with_fate is_up
fate_up n k m f w = refl

fate_got : (k : ℕ) (m : Sent) (f : Fate) (w : Cluster) → slice_get w.sent k ≡ Some m → slice_get (with_fate (suc k) m f w).sent k ≡ Some (record m { fate = f })
unfolding with_fate
fate_got k m f w at = set_got w.sent k m (record m { fate = f }) at

run_fate : (c : Config) (era : Era) (rules : Rules) (reg : Lines) (w : Cluster) (ls : List Label) (k : ℕ) (m : Sent) (f : Fate) → slice_get w.sent k ≡ Some m → Run_goes c era rules reg ls w → Run_goes c era rules reg ls (with_fate (suc k) m f w)
run_fate c era rules reg w ls k m f at h = record { who = h.who; goes = fate_goes c era rules h.who w k m f ls at h.goes; own = h.own }

pub deliver_taken : (c : Config) (era : Era) (rules : Rules) (reg : Lines) (w : Cluster) (ls : List Label) (k : ℕ) → Starts c era rules reg → Run_goes c era rules reg ls w → Taken_goes c era rules reg w ls (step.Deliver k)
unfolding steps own_labels deliver sent_at answerable
deliver_taken c era rules reg w ls zero is h x ok e = silent c era rules reg ls w w (step.Deliver zero) x refl (λ who g. g) h e
deliver_taken c era rules reg w ls (suc k) is h x ok e = either (slice_get w.sent k) refl e
  where
    either : (o : Option Sent) → slice_get w.sent k ≡ o → deliver c rules (suc k) w o ≡ Ok x → Run_goes c era rules reg (ls ++ record_labels c (told_step w (step.Deliver (suc k)) x.lines)) x.cluster
    either None at r = silent c era rules reg ls w w (step.Deliver (suc k)) x refl (λ who g. g) h r
    either (Some m) at r = cond_both (is_up m.frame.receiver w) (fed c rules m.frame.receiver (event.Arrive m.frame) [] (with_fate (suc k) m Delivered w)) (done (line.Lost (suc k) ∷ []) (with_fate (suc k) m Dropped w)) (λ (y : Result Stepped StepFault). y ≡ Ok x → Run_goes c era rules reg (ls ++ record_labels c (told_step w (step.Deliver (suc k)) x.lines)) x.cluster)
        (λ up q. message_taken c era rules reg w (with_fate (suc k) m Delivered w) ls k (record m { fate = Delivered }) (step.Deliver (suc k)) x is (run_fate c era rules reg w ls k m Delivered at h) (fate_got k m Delivered w at)
        (sym (fate_up m.frame.receiver k m Delivered w) ∙ up) (fate_pending k m Delivered w) refl q)
        (λ down q. lost c era rules reg ls w (with_fate (suc k) m Dropped w) (suc k) (step.Deliver (suc k)) x refl (run_fate c era rules reg w ls k m Dropped at h) q) r
