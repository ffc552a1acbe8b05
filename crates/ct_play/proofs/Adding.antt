-- Texts that come after others, and what a call of the code makes of a rule.
use Rattle.std.proofs.Common.{◌≡◌, ℕ, List, [], ◌∷◌, ◌++◌, Result, Ok, Err, refl, sym, ap, subst, ◌∙◌, append_assoc}
use Rattle.std.specs.Prelude.{map, Vec}
use Rattle.std.specs.declared.alloc.Global.{Global}
use Rattle.ct_call.specs.Rules.{Rules}
use Rattle.ct_rules_cluster.specs.Steps.{Stepped, applied}
use Rattle.ct_rules_cluster.specs.declared.step.Line.{Line}
use Rattle.ct_rules_cluster.specs.declared.step.Step.{Step}
use Rattle.ct_rules_cluster.specs.declared.step.StepFault.{StepFault}
use Rattle.ct_rules_cluster.specs.declared.step.StepFault.TheVariants as fault
use Rattle.ct_text.specs.Line.{line_text}
use Rattle.ct_traverse_parts.specs.Moves.{Move, going_on}
use Rattle.ct_traverse_parts.specs.Walk.{Walk, Walked, Walks, ended_after}
use Rattle.ct_traverse_parts.specs.declared.line.TFault.{TFault}
use Rattle.ct_traverse_parts.specs.declared.line.TFault.TheVariants as unmoved
use Rattle.ct_traverse_parts.specs.declared.line.TLine.{TLine}
use Rattle.ct_named.specs.Handed.{Applies}
use Rattle.ct_rules_cluster.specs.Cluster.{World}
use Rattle.ct_play.specs.Course.{Adds, AddsAll, Effect}
use Rattle.ct_play.specs.Effect.{IsEffect, ShowsLines, TellsMove, Works, move_effect, refused_by, step_effect, stepped, taken, text_effect, traverse_texts, unmoved_by, what_of}
use Rattle.ct_play_text.specs.declared.what.PlayFault.{PlayFault}
use Rattle.ct_play_text.specs.declared.what.PlayFault.TheVariants.{Refused, NoMemory}
use Rattle.ct_play_text.specs.declared.what.What.{What}

-- ---- a step

-- it is refused
pub step_refused : (rules : Rules) (s : Step) (old new : World) (k : Walk) (texts : List (List ℕ)) (f : StepFault)
    → Applies (λ (v : Vec Line Global). v.items) (Err f) (applied old.config rules old.cluster s) old new
    → Adds (Err (refused_by f)) (stepped rules old k s) texts new k texts
step_refused rules s old new k texts fault.NoMemory h = tt
step_refused rules s old new k texts f h = ap (step_effect s old.config k) h.0

-- it was taken, and then the traverses were told so
pub step_added : (rules : Rules) (s : Step) (old new : World) (lines : List Line) (k l : Walk) (called : Result (Vec TLine Global) TFault) (told : Result (Unit {0}) PlayFault) (before with_lines now : List (List ℕ))
    → applied old.config rules old.cluster s ≡ Ok (record { cluster = new.cluster; lines = lines })
    → new ≡ record old { cluster = new.cluster }
    → with_lines ≡ before ++ map (line_text new.config) lines
    → Walks (λ (v : Vec TLine Global). v.items) called (ended_after new k) k l
    → TellsMove called told with_lines now
    → Adds told (stepped rules old k s) before new l now
step_added rules s old new lines k l called told before with_lines now a n e w m =
    subst (λ r. Adds told r before new l now) (sym (ap (step_effect s old.config k) a)) (by called told w m)
  where
    there : World
    there = record { config = old.config; cluster = new.cluster }

    by : (called : Result (Vec TLine Global) TFault) (told : Result (Unit {0}) PlayFault) → Walks (λ (v : Vec TLine Global). v.items) called (ended_after new k) k l → TellsMove called told with_lines now → Adds told (Ok (taken s there lines k)) before new l now
    by (Ok v) (Ok u) w m =
        let made : Walked = record { walk = l; lines = v.items } in
        let went : ended_after new k ≡ Ok made = w in
        let same : going_on new k ≡ made = cc in
        let walk : l ≡ (going_on new k).walk = sym (ap (λ (x : Walked). x.walk) same) in
        let ends : v.items ≡ (going_on new k).lines = sym (ap (λ (x : Walked). x.lines) same) in
        let texts : now ≡ before ++ (map (line_text new.config) lines ++ traverse_texts (going_on new k).lines) = m ∙ ap (λ (t : List (List ℕ)). t ++ traverse_texts v.items) e ∙ append_assoc before (map (line_text new.config) lines) (traverse_texts v.items) ∙ ap (λ (ls : List TLine). before ++ (map (line_text new.config) lines ++ traverse_texts ls)) ends in
        (n, subst (λ (x : World). l ≡ (going_on x k).walk) n walk, subst (λ (x : World). now ≡ before ++ (map (line_text x.config) lines ++ traverse_texts (going_on x k).lines)) n texts)
    by (Ok v) (Err (Refused what)) w m = absurd m
    by (Ok v) (Err NoMemory) w m = tt
    by (Err unmoved.NoMemory) told w m = subst (λ (r : Result (Unit {0}) PlayFault). Adds r (Ok (taken s there lines k)) before new l now) (sym m) tt
    by (Err f) told w m = absurd (let never : ended_after new k ≡ Err f = w.0 in cc)

-- ---- a move

pub move_added : (m : Move) (w : World) (rule : Result Walked TFault) (k l : Walk) (called : Result (Vec TLine Global) TFault) (told : Result (Unit {0}) PlayFault) (before now : List (List ℕ))
    → Walks (λ (v : Vec TLine Global). v.items) called rule k l
    → TellsMove called told before now
    → Adds told (move_effect m w rule) before w l now
move_added m w rule k l (Ok v) (Ok u) before now h t = subst (λ r. AddsAll r before w l now) (sym (ap (move_effect m w) h)) (refl, refl, t)
move_added m w rule k l (Ok v) (Err (Refused what)) before now h t = absurd t
move_added m w rule k l (Ok v) (Err NoMemory) before now h t = tt
move_added m w rule k l (Err unmoved.NoMemory) told before now h t = subst (λ (r : Result (Unit {0}) PlayFault). Adds r (move_effect m w rule) before w l now) (sym t) tt
move_added m w rule k l (Err f) told before now h t = subst (λ (r : Result (Unit {0}) PlayFault). Adds r (move_effect m w rule) before w l now) (sym t) (ap (move_effect m w) h.0)

-- ---- texts that come after none

pub added_works : (r : Result Effect What) (before : List (List ℕ)) (w : World) (k : Walk) (texts : List (List ℕ)) → before ≡ [] → AddsAll r before w k texts → IsEffect r w k texts
added_works (Ok e) before w k texts none h = (sym h.0, sym h.1, sym (h.2 ∙ ap (λ (t : List (List ℕ)). t ++ e.texts) none))
added_works (Err what) before w k texts none h = absurd h

pub refused_works : (f : PlayFault) (r : Result Effect What) (before : List (List ℕ)) (w : World) (k : Walk) (texts : List (List ℕ)) → Adds (Err f) r before w k texts → Works (Err f) r w k
refused_works (Refused what) r before w k texts h = h
refused_works NoMemory r before w k texts h = tt

-- what is shown changes nothing
pub lines_shown : (r : Result (Vec (List ℕ) Global) PlayFault) (lines : Result (List (List ℕ)) What) (w : World) (k : Walk) → ShowsLines r lines → Works r (text_effect w k lines) w k
lines_shown (Ok texts) lines w k h = subst (λ (x : Result (List (List ℕ)) What). IsEffect (text_effect w k x) w k texts.items) (sym h) (refl, refl, refl)
lines_shown (Err (Refused what)) lines w k h = ap (text_effect w k) h
lines_shown (Err NoMemory) lines w k h = tt
