-- Deeds that are done one after the other are moves of the cluster and its traverses.
use Rattle.std.proofs.Common.{◌≡◌, ℕ, zero, suc, true, cond, List, [], ◌∷◌, ◌++◌, Option, None, Some, Result, Ok, Err, refl, sym, ap, subst, ◌∙◌}
use Rattle.std.proofs.lemmas.Grind.{flat_map-append}
use Rattle.std.proofs.lemmas.List.{map-append}
use Rattle.ct_call.specs.Rules.{Rules}
use Rattle.ct_rules_cluster.specs.Cluster.{Cluster, World}
use Rattle.ct_rules_cluster.specs.Faults.{is_allowed}
use Rattle.ct_rules_cluster.specs.Steps.{Stepped, applied}
use Rattle.ct_rules_cluster.specs.Traces.{OpenCall, Ran, after as ran_after, idle, ran_one, taken}
use Rattle.ct_rules_cluster.specs.declared.step.Line.{Line}
use Rattle.ct_rules_cluster.specs.declared.step.Step.{Step}
use Rattle.ct_rules_cluster.specs.declared.step.Step.TheVariants as step
use Rattle.ct_rules_cluster.specs.declared.step.StepFault.{StepFault}
use Rattle.ct_mail.specs.Mail.{next_waiting}
use Rattle.ct_traverse_parts.specs.Moves.{Move, Stepped as Took, Begin, Carry, Lose, Again, Moved, and_more, going_on, moves_ran, stepped_by, walked_by, walked_or}
use Rattle.ct_traverse_parts.specs.Posts.{next_waiting as next_post}
use Rattle.ct_traverse_parts.specs.Walk.{Walk, Walked, begun, carried, lost, repeated}
use Rattle.ct_traverse_parts.specs.declared.line.TFault.{TFault}
use Rattle.ct_traverse_parts.specs.declared.line.TLine.{TLine}
use Rattle.ct_traverse_parts.proofs.Moving.{moves_append}
use Rattle.ct_values.specs.declared.config.Config.{Config}
use Rattle.ct_play.specs.Course.{Deed, Effect, after, and_then, moves_of, next_first, printed, still, told, up_to}
use Rattle.ct_play.specs.Effect.{carriage, delivery, message_carried, message_lost, message_repeated, move_effect, settled, step_effect, stepped, taken as effect_taken, traverse_begun, traverse_texts, walked}
use Rattle.ct_play_text.specs.declared.what.What.{What}
use Rattle.ct_named.proofs.Allowed.{deliver_allowed}
use Rattle.ct_play.proofs.Coming.{Next}

-- the moves of these deeds, whatever calls are open
abbrev pub run_of : Config → Rules → Cluster → List OpenCall → Walk → List Deed → Moved
run_of c rules w log k deeds = moves_ran c rules w log k (moves_of deeds)

-- the moves of an effect lead to its cluster and its traverses, and print and tell what its deeds did, whatever calls are open
pub record Leads (c : Config) (rules : Rules) (w : Cluster) (log : List OpenCall) (k : Walk) (e : Effect) : Type 0 where
  pub config : e.world.config ≡ c
  pub cluster : (run_of c rules w log k e.deeds).ran.cluster ≡ e.world.cluster
  pub walk : (run_of c rules w log k e.deeds).walk ≡ e.walk
  pub lines : (run_of c rules w log k e.deeds).ran.lines ≡ printed e.deeds
  pub told : (run_of c rules w log k e.deeds).told ≡ told e.deeds

-- nothing was done
pub idle_leads : (rules : Rules) (w : World) (log : List OpenCall) (k : Walk) (texts : List (List ℕ)) → Leads w.config rules w.cluster log k (record { world = w; walk = k; texts = texts; deeds = [] })
unfolding moves_ran idle
idle_leads rules w log k texts = record { config = refl; cluster = refl; walk = refl; lines = refl; told = refl }

-- ---- one step that is as it is asked to be

one_ran : (c : Config) (rules : Rules) (w : Cluster) (log : List OpenCall) (s : Step) (y : Stepped) → is_allowed s ≡ true → applied c rules w s ≡ Ok y → ran_one c rules w log s ≡ taken w log s (Ok y)
unfolding ran_one
one_ran c rules w log s y h e = ap (λ b. cond b (taken w log s (applied c rules w s)) (idle w log)) h ∙ ap (λ r. taken w log s r) e

-- what a step is that leads so, and the traverses behind it
abbrev stepped_so : Config → Walk → Ran → Moved
stepped_so c k r = let x = going_on (record { config = c; cluster = r.cluster }) k in and_more (record { ran = r; walk = x.walk; told = x.lines }) (record { ran = idle r.cluster r.log; walk = x.walk; told = [] })

took_one : (c : Config) (rules : Rules) (w : Cluster) (log : List OpenCall) (k : Walk) (s : Step) → moves_ran c rules w log k (Took s ∷ []) ≡ stepped_so c k (ran_one c rules w log s)
unfolding moves_ran stepped_by walked_by
took_one c rules w log k s = refl

took_leads : (c : Config) (rules : Rules) (w : Cluster) (log : List OpenCall) (k : Walk) (s : Step) (y : Stepped) → is_allowed s ≡ true → applied c rules w s ≡ Ok y → Leads c rules w log k (effect_taken s (record { config = c; cluster = y.cluster }) y.lines k)
unfolding ran_after idle taken
took_leads c rules w log k s y h e =
    let o = took_one c rules w log k s ∙ ap (stepped_so c k) (one_ran c rules w log s y h e) in
    record {
      config = refl;
      cluster = ap (λ (q : Moved). q.ran.cluster) o;
      walk = ap (λ (q : Moved). q.walk) o;
      lines = ap (λ (q : Moved). q.ran.lines) o;
      told = ap (λ (q : Moved). q.told) o;
    }

step_leads_by : (c : Config) (rules : Rules) (w : Cluster) (log : List OpenCall) (k : Walk) (s : Step) (r : Result Stepped StepFault) (e : Effect) → is_allowed s ≡ true → applied c rules w s ≡ r → step_effect s c k r ≡ Ok e → Leads c rules w log k e
step_leads_by c rules w log k s (Ok y) e h a d =
    let made : Effect = effect_taken s (record { config = c; cluster = y.cluster }) y.lines k in
    let same : made ≡ e = cc in
    subst (λ z. Leads c rules w log k z) same (took_leads c rules w log k s y h a)
step_leads_by c rules w log k s (Err f) e h a d = absurd (cc)

pub step_leads : (rules : Rules) (w : World) (log : List OpenCall) (k : Walk) (s : Step) (e : Effect) → is_allowed s ≡ true → stepped rules w k s ≡ Ok e → Leads w.config rules w.cluster log k e
step_leads rules w log k s e h d = step_leads_by w.config rules w.cluster log k s (applied w.config rules w.cluster s) e h refl d

-- ---- one move of traverses

-- what a move is that takes no step, and that traverses answer so
abbrev walked_so : Cluster → List OpenCall → Walked → Moved
walked_so w log x = and_more (record { ran = idle w log; walk = x.walk; told = x.lines }) (record { ran = idle w log; walk = x.walk; told = [] })

walked_leads_by : (rules : Rules) (w : World) (log : List OpenCall) (k : Walk) (m : Move) (r : Result Walked TFault) (e : Effect)
    → moves_ran w.config rules w.cluster log k (m ∷ []) ≡ walked_so w.cluster log (walked_or k r)
    → move_effect m w r ≡ Ok e
    → Leads w.config rules w.cluster log k e
unfolding ran_after idle
walked_leads_by rules w log k m (Ok x) e o d =
    let made : Effect = record { world = w; walk = x.walk; texts = traverse_texts x.lines; deeds = record { move = m; lines = []; told = x.lines } ∷ [] } in
    let same : made ≡ e = cc in
    subst (λ z. Leads w.config rules w.cluster log k z) same (record {
      config = refl;
      cluster = ap (λ (q : Moved). q.ran.cluster) o;
      walk = ap (λ (q : Moved). q.walk) o;
      lines = ap (λ (q : Moved). q.ran.lines) o;
      told = ap (λ (q : Moved). q.told) o;
    })
walked_leads_by rules w log k m (Err f) e o d = absurd (cc)

pub begun_leads : (rules : Rules) (w : World) (log : List OpenCall) (k : Walk) (n db : ℕ) (e : Effect) → traverse_begun w k n db ≡ Ok e → Leads w.config rules w.cluster log k e
unfolding moves_ran stepped_by walked_by idle
begun_leads rules w log k n db e d = walked_leads_by rules w log k (Begin n db) (begun n db w k) e refl d

pub carried_leads : (rules : Rules) (w : World) (log : List OpenCall) (k : Walk) (number : ℕ) (e : Effect) → message_carried w k number ≡ Ok e → Leads w.config rules w.cluster log k e
unfolding moves_ran stepped_by walked_by idle
carried_leads rules w log k number e d = walked_leads_by rules w log k (Carry number) (carried number w k) e refl d

pub lost_leads : (rules : Rules) (w : World) (log : List OpenCall) (k : Walk) (number : ℕ) (e : Effect) → message_lost w k number ≡ Ok e → Leads w.config rules w.cluster log k e
unfolding moves_ran stepped_by walked_by idle
lost_leads rules w log k number e d = walked_leads_by rules w log k (Lose number) (lost number k) e refl d

pub repeated_leads : (rules : Rules) (w : World) (log : List OpenCall) (k : Walk) (number : ℕ) (e : Effect) → message_repeated w k number ≡ Ok e → Leads w.config rules w.cluster log k e
unfolding moves_ran stepped_by walked_by idle
repeated_leads rules w log k number e d = walked_leads_by rules w log k (Again number) (repeated number w k) e refl d

-- ---- an effect and then another

abbrev move_in : Deed → Move
move_in d = d.move

abbrev lines_in : Deed → List Line
lines_in d = d.lines

abbrev told_in : Deed → List TLine
told_in d = d.told

pub then_leads : (c : Config) (rules : Rules) (w : Cluster) (log : List OpenCall) (k : Walk) (x y : Effect) → Leads c rules w log k x → ((calls : List OpenCall) → Leads c rules x.world.cluster calls x.walk y)
    → Leads c rules w log k (record { world = y.world; walk = y.walk; texts = x.texts ++ y.texts; deeds = x.deeds ++ y.deeds })
unfolding ran_after
then_leads c rules w log k x y h f =
    let q : Moved = run_of c rules w log k x.deeds in
    let z : Moved = run_of c rules q.ran.cluster q.ran.log q.walk y.deeds in
    let e : run_of c rules w log k (x.deeds ++ y.deeds) ≡ and_more q z = ap (moves_ran c rules w log k) (map-append move_in x.deeds y.deeds) ∙ moves_append c rules w log k (moves_of x.deeds) (moves_of y.deeds) in
    let l : Leads c rules q.ran.cluster q.ran.log q.walk y = subst (λ v. Leads c rules v q.ran.log q.walk y) (sym h.cluster) (subst (λ v. Leads c rules x.world.cluster q.ran.log v y) (sym h.walk) (f q.ran.log)) in
    record {
      config = l.config;
      cluster = ap (λ (r : Moved). r.ran.cluster) e ∙ l.cluster;
      walk = ap (λ (r : Moved). r.walk) e ∙ l.walk;
      lines = ap (λ (r : Moved). r.ran.lines) e ∙ ap (λ a. a ++ z.ran.lines) h.lines ∙ ap (λ b. printed x.deeds ++ b) l.lines ∙ sym (flat_map-append lines_in x.deeds y.deeds);
      told = ap (λ (r : Moved). r.told) e ∙ ap (λ a. a ++ z.told) h.told ∙ ap (λ b. told x.deeds ++ b) l.told ∙ sym (flat_map-append told_in x.deeds y.deeds);
    }

-- ---- what comes next, so many times one after the other

after_leads : (c : Config) (rules : Rules) (w : Cluster) (log : List OpenCall) (k : Walk) (x z : Effect) (r : Result Effect What) → Leads c rules w log k x → ((calls : List OpenCall) (y : Effect) → r ≡ Ok y → Leads c rules x.world.cluster calls x.walk y) → after x.texts x.deeds r ≡ Ok z → Leads c rules w log k z
after_leads c rules w log k x z (Ok y) h f e =
    let made : Effect = record { world = y.world; walk = y.walk; texts = x.texts ++ y.texts; deeds = x.deeds ++ y.deeds } in
    let same : made ≡ z = cc in
    subst (λ v. Leads c rules w log k v) same (then_leads c rules w log k x y h (λ calls. f calls y refl))
after_leads c rules w log k x z (Err fault) h f e = absurd (cc)

-- an effect leads from where a cluster of this configuration and its traverses stand
abbrev pub LeadsFrom : Config → Rules → World → Walk → Result Effect What → Type 0
LeadsFrom c rules w k r = (log : List OpenCall) (e : Effect) → r ≡ Ok e → Leads c rules w.cluster log k e

and_then_leads : (c : Config) (rules : Rules) (w : World) (k : Walk) (r : Result Effect What) (later : World → Walk → Result Effect What) → LeadsFrom c rules w k r → ((v : World) (l : Walk) → v.config ≡ c → LeadsFrom c rules v l (later v l)) → LeadsFrom c rules w k (and_then r later)
and_then_leads c rules w k (Ok x) later h f = λ log z e.
    (let l : Leads c rules w.cluster log k x = h log x refl in
    after_leads c rules w.cluster log k x z (later x.world x.walk) l (λ calls y m. f x.world x.walk l.config calls y m) e)
and_then_leads c rules w k (Err fault) later h f = λ log z e. absurd (cc)

pub still_leads : (c : Config) (rules : Rules) (w : World) (k : Walk) → w.config ≡ c → LeadsFrom c rules w k (Ok (still w k))
still_leads c rules w k same = λ log e d.
    (let it : still w k ≡ e = cc in
    subst (λ (z : Effect). Leads c rules w.cluster log k z) it (subst (λ (x : Config). Leads x rules w.cluster log k (still w k)) same (idle_leads rules w log k [])))

abbrev NextLeads : Config → Rules → World → Walk → Option (Result Effect What) → Type 0
NextLeads c rules w k None = Unit {0}
NextLeads c rules w k (Some r) = LeadsFrom c rules w k r

first_leads : (c : Config) (rules : Rules) (w : World) (k : Walk) (o : Option (Result Effect What)) (later : World → Walk → Result Effect What) → w.config ≡ c → NextLeads c rules w k o → ((v : World) (l : Walk) → v.config ≡ c → LeadsFrom c rules v l (later v l)) → LeadsFrom c rules w k (next_first o w k later)
first_leads c rules w k None later same h g = still_leads c rules w k same
first_leads c rules w k (Some r) later same h g = and_then_leads c rules w k r later h g

up_to_leads : (c : Config) (rules : Rules) (next : Next) → ((w : World) (k : Walk) → w.config ≡ c → NextLeads c rules w k (next w k)) → (m : ℕ) (w : World) (k : Walk) → w.config ≡ c → LeadsFrom c rules w k (up_to m next w k)
unfolding up_to
up_to_leads c rules next each zero w k same = still_leads c rules w k same
up_to_leads c rules next each (suc m) w k same = first_leads c rules w k (next w k) (λ v l. up_to m next v l) same (each w k same) (λ v l e. up_to_leads c rules next each m v l e)

at_config : (c : Config) (rules : Rules) (w : World) (log : List OpenCall) (k : Walk) (e : Effect) → w.config ≡ c → Leads w.config rules w.cluster log k e → Leads c rules w.cluster log k e
at_config c rules w log k e same h = subst (λ (x : Config). Leads x rules w.cluster log k e) same h

delivery_leads : (c : Config) (rules : Rules) (w : World) (k : Walk) (o : Option ℕ) → w.config ≡ c → NextLeads c rules w k (delivery rules w k o)
delivery_leads c rules w k None same = tt
delivery_leads c rules w k (Some number) same = λ log e d. at_config c rules w log k e same (step_leads rules w log k (step.Deliver number) e (deliver_allowed number) d)

carriage_leads : (c : Config) (rules : Rules) (w : World) (k : Walk) (o : Option ℕ) → w.config ≡ c → NextLeads c rules w k (carriage w k o)
carriage_leads c rules w k None same = tt
carriage_leads c rules w k (Some number) same = λ log e d. at_config c rules w log k e same (carried_leads rules w log k number e d)

pub settled_leads : (rules : Rules) (m : ℕ) (w : World) (k : Walk) → LeadsFrom w.config rules w k (settled rules m w k)
settled_leads rules m w k = up_to_leads w.config rules (λ v l. delivery rules v l (next_waiting v.cluster.sent)) (λ v l same. delivery_leads w.config rules v l (next_waiting v.cluster.sent) same) m w k refl

pub walked_leads : (rules : Rules) (m : ℕ) (w : World) (k : Walk) → LeadsFrom w.config rules w k (walked m w k)
walked_leads rules m w k = up_to_leads w.config rules (λ v l. carriage v l (next_post l.posts)) (λ v l same. carriage_leads w.config rules v l (next_post l.posts) same) m w k refl
