-- What a node does, told one after the other.
use Rattle.std.proofs.Common.{◌≡◌, ◌∙◌, ℕ, ◌+◌, ◌≤◌, List, [], ◌∷◌, ◌++◌, length, Ok, Err, refl, sym, ap, subst, append_assoc, append-nil, arith}
use Rattle.std.specs.Prelude.{◌^◌, IsErrAnd, Result, map}
use Rattle.std.proofs.lemmas.List.{length-append}
use Rattle.ct_frame.specs.declared.event.Out.{Out}
use Rattle.ct_frame.specs.declared.event.Out.TheVariants as out
use Rattle.ct_frame.specs.declared.frame.Frame.{Frame}
use Rattle.ct_mail.specs.Mail.{posted}
use Rattle.ct_rules_cluster.specs.Cluster.{Sent}
use Rattle.ct_rules_cluster.specs.Steps.{frames_of, lines_of}
use Rattle.ct_rules_cluster.specs.declared.step.Line.{Line}
use Rattle.ct_rules_cluster.specs.declared.step.Line.TheVariants as line
use Rattle.ct_rules_cluster.specs.declared.step.StepFault.{StepFault}
use Rattle.ct_rules_cluster.specs.declared.step.StepFault.TheVariants as fault
use Rattle.ct_world.specs.Feeding.{TellsAll, TellsOne}
use Rattle.ct_world.specs.declared.parts.Told.{Told}

lines_next : (n k : ℕ) (x : Out) (xs : List Out) → lines_of n k (x ∷ xs) ≡ lines_of n k (x ∷ []) ++ lines_of n (k + length (frames_of (x ∷ []))) xs
unfolding lines_of frames_of
lines_next n k (out.Send f) xs = refl
lines_next n k (out.Answer call a) xs = (let e : k ≡ k + 0 = omega arith in ap (λ (j : ℕ). line.Answered call a ∷ lines_of n j xs) e)
lines_next n k (out.Note x) xs = (let e : k ≡ k + 0 = omega arith in ap (λ (j : ℕ). line.Noted n x ∷ lines_of n j xs) e)

frames_next : (x : Out) (xs : List Out) → frames_of (x ∷ xs) ≡ frames_of (x ∷ []) ++ frames_of xs
unfolding frames_of
frames_next (out.Send f) xs = refl
frames_next (out.Answer call a) xs = refl
frames_next (out.Note x) xs = refl

-- what was told and what is left to tell is the whole; the next message gets number k
pub record TellsOn (n first : ℕ) (own : List Line) (all : List Out) (k : ℕ) (lines : List Line) (frames : List Frame) (left : List Out) : Type 0 where
  pub lines_are : lines ++ lines_of n k left ≡ own ++ lines_of n first all
  pub frames_are : map posted frames ++ frames_of left ≡ frames_of all
  pub counted : k + length (frames_of left) ≡ first + length (frames_of all)
  pub few : k ≤ 2 ^ 62

module _ (n first : ℕ) (own : List Line) (all : List Out) where
  -- nothing is told yet
  pub tells_first : (frames : List Frame) → frames ≡ [] → first ≤ 2 ^ 62 → TellsOn n first own all first own frames all
  tells_first frames none l = subst (λ (fs : List Frame). TellsOn n first own all first own fs all) (sym none) (record { lines_are = refl; frames_are = refl; counted = refl; few = l })

  module _ (k : ℕ) (lines more : List Line) (frames sent : List Frame) (left : List Out) (on : TellsOn n first own all k lines frames left) where
    before : (x : Out) (rest : List Out) → left ≡ x ∷ rest → TellsOn n first own all k lines frames (x ∷ rest)
    before x rest is = subst (λ (xs : List Out). TellsOn n first own all k lines frames xs) is on

    count_next : (x : Out) (rest : List Out) → length (frames_of (x ∷ rest)) ≡ length (frames_of (x ∷ [])) + length (frames_of rest)
    count_next x rest = ap length (frames_next x rest) ∙ length-append (frames_of (x ∷ [])) (frames_of rest)

    -- one more is told
    pub tells_next : (next : ℕ) (x : Out) (rest : List Out) → left ≡ x ∷ rest → TellsOne (Ok next) n k x lines more frames sent → TellsOn n first own all next more sent rest
    tells_next next x rest is t =
        let h = before x rest is in
        let c = count_next x rest in
        let a = h.counted in
        record {
          lines_are = ap (λ (ls : List Line). ls ++ lines_of n next rest) t.0 ∙ append_assoc lines (lines_of n k (x ∷ [])) (lines_of n next rest)
              ∙ ap (λ (ls : List Line). lines ++ ls) (ap (λ (j : ℕ). lines_of n k (x ∷ []) ++ lines_of n j rest) t.2 ∙ sym (lines_next n k x rest)) ∙ h.lines_are;
          frames_are = ap (λ (fs : List Sent). fs ++ frames_of rest) t.1 ∙ append_assoc (map posted frames) (frames_of (x ∷ [])) (frames_of rest) ∙ ap (λ (fs : List Sent). map posted frames ++ fs) (sym (frames_next x rest)) ∙ h.frames_are;
          counted = omega (arith, a, c, t.2);
          few = t.3;
        }

    refused : (f : StepFault) (x : Out) (rest : List Out) → left ≡ x ∷ rest → TellsOne (Err f) n k x lines more frames sent → TellsAll (Err f) n first own all
    refused fault.NoMemory x rest is t = tt
    refused _ x rest is t = (let h = (before x rest is).counted in let c = count_next x rest in (t.0, omega (arith, h, c, t.1)))

    -- one is not, and so the whole is not
    pub tells_fails : (r : Result Told StepFault) (f : StepFault) (x : Out) (rest outs : List Out) → IsErrAnd r (λ e. e ≡ f) → left ≡ x ∷ rest → all ≡ outs → TellsOne (Err f) n k x lines more frames sent → TellsAll r n first own outs
    tells_fails (Ok t) f x rest outs h is same told = absurd h
    tells_fails (Err e) f x rest outs h is same told = subst (λ (g : StepFault). TellsAll (Err g) n first own outs) (sym h) (subst (λ (xs : List Out). TellsAll (Err f) n first own xs) same (refused f x rest is told))

    -- nothing is left
    pub tells_last : (t : Told) (outs : List Out) → left ≡ [] → all ≡ outs → t.lines.items ≡ lines → t.frames ≡ frames → TellsAll (Ok t) n first own outs
    unfolding lines_of frames_of
    tells_last t outs none same a b =
        let h : TellsOn n first own all k lines frames [] = subst (λ (xs : List Out). TellsOn n first own all k lines frames xs) none on in
        let c = h.counted in
        let l = h.few in
        subst (λ (xs : List Out). TellsAll (Ok t) n first own xs) same
        (a ∙ sym (append-nil lines) ∙ h.lines_are, ap (λ (fs : List Frame). map posted fs) b ∙ sym (append-nil (map posted frames)) ∙ h.frames_are, omega (arith, c, l))
