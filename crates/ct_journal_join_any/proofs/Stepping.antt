-- The cluster takes steps, one after the other.
use Rattle.std.proofs.Common.{◌≡◌, ℕ, ◌+◌, ◌<◌, ◌≤◌, Bool, true, false, ◌&&◌, List, [], ◌∷◌, length, if◌then◌else◌, drop, get_or, drop-cons, add-one, Option, None, Some, Result, Ok, arith, refl, sym, ap, ◌∙◌, subst}
use Rattle.std.proofs.lemmas.Bool.{and_parts}
use Rattle.std.proofs.lemmas.List.{drop_all}
use Rattle.ct_call.specs.Rules.{Rules}
use Rattle.ct_values.specs.declared.config.Config.{Config}
use Rattle.ct_rules_cluster.specs.Cluster.{Cluster}
use Rattle.ct_rules_cluster.specs.Faults.{is_allowed}
use Rattle.ct_rules_cluster.specs.Steps.{applied}
use Rattle.ct_rules_cluster.specs.declared.step.Line.{Line}
use Rattle.ct_rules_cluster.specs.declared.step.Step.{Step}
use Rattle.ct_journal.specs.Schedules.{after_step, cluster_in, keeps_all_up}
use Rattle.ct_law_journal_reach.specs.Making.{after_steps}
use Rattle.ct_journal_join_any.specs.Going.{AreTaken, IsTaken}

-- ---- one step

-- a step that is taken is as it is asked to be
pub is_asked : (c : Config) (rules : Rules) (w : Cluster) (s : Step) → IsTaken c rules w s → is_allowed s ≡ true
unfolding after_step
is_asked c rules w s taken = by (keeps_all_up s && is_allowed s) refl taken.1
  where
    by : (b : Bool) → keeps_all_up s && is_allowed s ≡ b → (if b then cluster_in (applied c rules w s) else None) ≡ Some taken.0 → is_allowed s ≡ true
    by true e h = (and_parts (keeps_all_up s) (is_allowed s) e).1
    by false e h = absurd (cc)

-- and leads to what the rule of the cluster gives
pub one_taken : (c : Config) (rules : Rules) (w u : Cluster) (s : Step) (lines : List Line) → IsTaken c rules w s → applied c rules w s ≡ Ok (record { cluster = u; lines = lines }) → after_step c rules w s ≡ Some u
unfolding after_step cluster_in
one_taken c rules w u s lines taken ok = by (keeps_all_up s && is_allowed s) taken.1
  where
    by : (b : Bool) → (if b then cluster_in (applied c rules w s) else None) ≡ Some taken.0 → (if b then cluster_in (applied c rules w s) else None) ≡ Some u
    by true h = ap cluster_in ok
    by false h = absurd (cc)

-- ---- steps

after_none : (c : Config) (rules : Rules) (ss : List Step) → after_steps c rules None ss ≡ None
unfolding after_steps
after_none c rules [] = refl
after_none c rules (s ∷ ss) = refl

first_taken : (c : Config) (rules : Rules) (w v : Cluster) (s : Step) (ss : List Step) → after_steps c rules (Some w) (s ∷ ss) ≡ Some v → IsTaken c rules w s
unfolding after_steps
first_taken c rules w v s ss h = by (after_step c rules w s) refl h
  where
    by : (o : Option Cluster) → after_step c rules w s ≡ o → after_steps c rules o ss ≡ Some v → IsTaken c rules w s
    by None e h = absurd (let n = after_none c rules ss in cc)
    by (Some u) e h = (u, e)

-- how far the steps from one cluster are taken: what is left of them leads from this cluster to where all lead, and the configuration
-- stays
pub record Taking (c : Config) (rules : Rules) (ss : List Step) (old : Cluster) (i : ℕ) (now : Config) (w : Cluster) : Type 0 where
  pub same : now ≡ c
  pub leads : after_steps c rules (Some w) (drop i ss) ≡ after_steps c rules (Some old) ss

pub taking_first : (c : Config) (rules : Rules) (ss : List Step) (old : Cluster) → Taking c rules ss old 0 c old
taking_first c rules ss old = record { same = refl; leads = refl }

next_step : (i : ℕ) (ss : List Step) (d : Step) → i < length ss → drop i ss ≡ get_or ss i d ∷ drop (i + 1) ss
next_step i ss d l = drop-cons ss i d l ∙ ap (λ (m : ℕ). get_or ss i d ∷ drop m ss) (sym (add-one i))

-- the next step is taken
pub next_taken : (c : Config) (rules : Rules) (ss : List Step) (old : Cluster) (i : ℕ) (now : Config) (w : Cluster) (d s : Step) → AreTaken c rules old ss → Taking c rules ss old i now w → i < length ss → s ≡ get_or ss i d → IsTaken now rules w s
next_taken c rules ss old i now w d s all t l is =
    subst (λ (k : Config). IsTaken k rules w s) (sym t.same)
    (first_taken c rules w all.0 s (drop (i + 1) ss) (ap (after_steps c rules (Some w)) (ap (λ (x : Step). x ∷ drop (i + 1) ss) is ∙ sym (next_step i ss d l)) ∙ t.leads ∙ all.1))

pub taking_more : (c : Config) (rules : Rules) (ss : List Step) (old : Cluster) (i : ℕ) (now later : Config) (w u : Cluster) (d s : Step) → Taking c rules ss old i now w → i < length ss → s ≡ get_or ss i d → after_step now rules w s ≡ Some u → later ≡ now → Taking c rules ss old (i + 1) later u
unfolding after_steps
taking_more c rules ss old i now later w u d s t l is step stays = record {
  same = stays ∙ t.same;
  leads =
      ap (λ (o : Option Cluster). after_steps c rules o (drop (i + 1) ss)) (sym step ∙ ap (λ (k : Config). after_step k rules w s) t.same)
      ∙ ap (after_steps c rules (Some w)) (ap (λ (x : Step). x ∷ drop (i + 1) ss) is ∙ sym (next_step i ss d l)) ∙ t.leads;
}

pub taking_last : (c : Config) (rules : Rules) (ss : List Step) (old : Cluster) (i : ℕ) (now : Config) (w : Cluster) → Taking c rules ss old i now w → length ss ≤ i → after_steps c rules (Some old) ss ≡ Some w
unfolding after_steps
taking_last c rules ss old i now w t l = sym t.leads ∙ ap (after_steps c rules (Some w)) (drop_all i ss l)
