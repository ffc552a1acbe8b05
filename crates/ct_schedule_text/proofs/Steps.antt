-- Steps that are played one after the other are a run, and their text is that of the run.
use Rattle.std.proofs.Common.{◌≡◌, ◌∙◌, ◌+◌, ◌<◌, ◌++◌, ℕ, zero, suc, Bool, true, cond, List, [], ◌∷◌, length, drop, get_or, Result, Ok, Err, refl, sym, ap, ap₂, subst, append_assoc, arith, add-one, drop-cons}
use Rattle.std.proofs.lemmas.Bool.{and_parts}
use Rattle.std.proofs.lemmas.Grind.{flat_map-append}
use Rattle.std.specs.List.{flat_map, list_all}
use Rattle.ct_call.specs.Rules.{Rules}
use Rattle.ct_rules_cluster.specs.Cluster.{Cluster, opening, pending}
use Rattle.ct_rules_cluster.specs.Faults.{is_allowed}
use Rattle.ct_rules_cluster.specs.Steps.{Stepped, applied}
use Rattle.ct_rules_cluster.specs.Traces.{OpenCall, Ran, after, idle, ran, ran_one, taken}
use Rattle.ct_rules_cluster.specs.declared.step.Line.{Line}
use Rattle.ct_rules_cluster.specs.declared.step.Step.{Step}
use Rattle.ct_rules_cluster.specs.declared.step.StepFault.{StepFault}
use Rattle.ct_values.specs.declared.config.Config.{Config}
use Rattle.ct_text.specs.Line.{line_text, pending_text}
use Rattle.ct_schedule_text.specs.Counted.{if_taken, last_frame, step_done, steps_done, with_lines}
use Rattle.ct_schedule_text.specs.Schedule.{run_text}
use Rattle.ct_schedule_text.proofs.Frames.{all_lead, frame_on}

-- ---- the loop

-- a cluster, the text of lines, and the number of the last message that they tell of
pub record Told : Type 0 where
  pub cluster : Cluster
  pub text : List ℕ
  pub last : ℕ

-- this text and this number, and then what is told of what was done
abbrev pub told_after : Config → List ℕ → ℕ → Stepped → Told
told_after c text last x = record { cluster = x.cluster; text = text ++ flat_map (line_text c) x.lines; last = last_frame last x.lines }

-- some lines are told, and the others later
told_later : (c : Config) (text : List ℕ) (last : ℕ) (lines : List Line) (x : Stepped)
    → told_after c (text ++ flat_map (line_text c) lines) (last_frame last lines) x ≡ told_after c text last (with_lines lines x)
told_later c text last lines x =
    ap₂ (λ (t : List ℕ) (n : ℕ). record { cluster = x.cluster; text = t; last = n })
    (append_assoc text (flat_map (line_text c) lines) (flat_map (line_text c) x.lines) ∙ ap (λ (t : List ℕ). text ++ t) (sym (flat_map-append (line_text c) lines x.lines)))
    (sym (frame_on last lines x.lines))

-- one more
pub one_more : (c d : Config) (rules : Rules) (ss : List Step) (i : ℕ) (s : Step) (w v : Cluster) (text now : List ℕ) (last new : ℕ) (whole : Told) → i < length ss → s ≡ get_or ss i s
    → v ≡ (step_done c rules w s).cluster → now ≡ text ++ flat_map (line_text d) (step_done c rules w s).lines → new ≡ last_frame last (step_done c rules w s).lines
    → told_after d text last (steps_done c rules w (drop i ss)) ≡ whole → told_after d now new (steps_done c rules v (drop (i + 1) ss)) ≡ whole
one_more c d rules ss i s w v text now last new whole h is e t n left =
    let x = step_done c rules w s in
    let rest = drop (suc i) ss in
    ap (λ (j : ℕ). told_after d now new (steps_done c rules v (drop j ss))) (add-one i)
    ∙ ap (λ (u : Cluster). told_after d now new (steps_done c rules u rest)) e
    ∙ ap₂ (λ (a : List ℕ) (k : ℕ). told_after d a k (steps_done c rules x.cluster rest)) t n
    ∙ told_later d text last x.lines (steps_done c rules x.cluster rest)
    ∙ ap (λ (l : List Step). told_after d text last (steps_done c rules w l)) (ap (λ (u : Step). u ∷ rest) is ∙ sym (drop-cons ss i s h))
    ∙ left

-- each is allowed
pub one_allowed : (ss : List Step) (i : ℕ) (s : Step) → i < length ss → s ≡ get_or ss i s → list_all is_allowed ss ≡ true → is_allowed s ≡ true
one_allowed [] i s h is all = absurd (omega (arith, h))
one_allowed (t ∷ ss) zero s h is all = ap is_allowed is ∙ (and_parts (is_allowed t) (list_all is_allowed ss) all).0
one_allowed (t ∷ ss) (suc i) s h is all = one_allowed ss i s (omega (arith, h)) is (and_parts (is_allowed t) (list_all is_allowed ss) all).1

-- ---- the run

record Agrees (q : Ran) (x : Stepped) : Type 0 where
  cluster_is : q.cluster ≡ x.cluster
  lines_are : q.lines ≡ x.lines

taken_agrees : (w : Cluster) (log : List OpenCall) (s : Step) (r : Result Stepped StepFault) → Agrees (taken w log s r) (if_taken w r)
unfolding taken idle
taken_agrees w log s (Ok x) = record { cluster_is = refl; lines_are = refl }
taken_agrees w log s (Err f) = record { cluster_is = refl; lines_are = refl }

one_agrees : (c : Config) (rules : Rules) (w : Cluster) (log : List OpenCall) (s : Step) → is_allowed s ≡ true → Agrees (ran_one c rules w log s) (step_done c rules w s)
unfolding ran_one
one_agrees c rules w log s h =
    subst (λ (b : Bool). Agrees (cond b (taken w log s (applied c rules w s)) (idle w log)) (step_done c rules w s)) (sym h) (taken_agrees w log s (applied c rules w s))

all_agree : (c : Config) (rules : Rules) (w v : Cluster) (log : List OpenCall) (ss : List Step) → w ≡ v → list_all is_allowed ss ≡ true → Agrees (ran c rules w log ss) (steps_done c rules v ss)
unfolding ran after idle
all_agree c rules w v log [] e h = record { cluster_is = e; lines_are = refl }
all_agree c rules w v log (s ∷ ss) e h =
    let parts = and_parts (is_allowed s) (list_all is_allowed ss) h in
    let q = ran_one c rules w log s in
    let one : Agrees q (step_done c rules v s) = subst (λ (u : Cluster). Agrees q (step_done c rules u s)) e (one_agrees c rules w log s parts.0) in
    let others = all_agree c rules q.cluster (step_done c rules v s).cluster q.log ss one.cluster_is parts.1 in
    record { cluster_is = others.cluster_is; lines_are = ap₂ (λ (a b : List Line). a ++ b) one.lines_are others.lines_are }

-- ---- the text

sent_none : (c : Config) → length (opening c).sent ≡ 0
unfolding opening
sent_none c = refl

pub told_so : (c : Config) (rules : Rules) (ss : List Step) (w : Cluster) (text : List ℕ) → list_all is_allowed ss ≡ true
    → w ≡ (steps_done c rules (opening c) ss).cluster → text ≡ flat_map (line_text c) (steps_done c rules (opening c) ss).lines
    → text ++ flat_map (pending_text c) (pending w) ≡ run_text c (ran c rules (opening c) [] ss)
told_so c rules ss w text h e t =
    let all = all_agree c rules (opening c) (opening c) [] ss refl h in
    let same : w ≡ (ran c rules (opening c) [] ss).cluster = e ∙ sym all.cluster_is in
    let printed : text ≡ flat_map (line_text c) (ran c rules (opening c) [] ss).lines = t ∙ ap (flat_map (line_text c)) (sym all.lines_are) in
    ap₂ (λ (l : List ℕ) (u : Cluster). l ++ flat_map (pending_text c) (pending u)) printed same

pub sent_so : (c : Config) (rules : Rules) (ss : List Step) (last : ℕ) → list_all is_allowed ss ≡ true → last ≡ last_frame 0 (steps_done c rules (opening c) ss).lines
    → last ≡ length (ran c rules (opening c) [] ss).cluster.sent
sent_so c rules ss last h n =
    let all = all_agree c rules (opening c) (opening c) [] ss refl h in
    n ∙ sym (ap (λ (k : ℕ). last_frame k (steps_done c rules (opening c) ss).lines) (sent_none c)) ∙ all_lead c rules (opening c) ss ∙ ap (λ (u : Cluster). length u.sent) (sym all.cluster_is)
