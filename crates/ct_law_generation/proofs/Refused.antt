-- A call that is refused: the node stays as it was, and no record's world sees it.
use Rattle.std.proofs.Common.{◌≡◌, ℕ, Bool, true, false, cond, ◌&&◌, List, [], ◌∷◌, ◌++◌, refl, ap, ◌∙◌}
use Rattle.std.proofs.lemmas.Bool.{eq-eqb}
use Rattle.ct_values.specs.Client.{db_of, key_of}
use Rattle.ct_values.specs.declared.client.Answer.TheVariants as answer
use Rattle.ct_values.specs.declared.client.ClientOp.{ClientOp}
use Rattle.ct_values.specs.declared.client.Why.{Why}
use Rattle.ct_values.specs.declared.config.Config.{Config}
use Rattle.ct_call.specs.Rules.{Rules}
use Rattle.ct_rules_node.specs.Turn.{does, answers, makes, begins}
use Rattle.ct_rules_cluster.specs.Cluster.{Cluster, node_at, pending}
use Rattle.ct_rules_cluster.specs.Labels.{Answered}
use Rattle.ct_rules_cluster.specs.Steps.{frames_of}
use Rattle.ct_law_generation.specs.Waiting.{answered}
use Rattle.ct_law_record.specs.Labels as law
use Rattle.ct_law_record.specs.World.{World}
use Rattle.ct_law_generation.specs.Shown.{Era, is_it, mails, is_telling, told_of, told_by, told_by_all, heard, labels_of}
use Rattle.ct_law_generation.proofs.Pending.{Callers}
use Rattle.ct_law_generation.proofs.Staying.{NodeStays}
use Rattle.ct_law_generation.proofs.Calling.{Goes}

pub untold : (db : ℕ) (key : List ℕ) (n : ℕ) (asked : ClientOp) (w : Why) (b : Bool) → is_telling (answer.Refused w) ≡ b → b ≡ false → told_of (b && is_it db key (db_of asked) (key_of asked)) (law.Told n asked (answer.Refused w)) ++ [] ≡ []
unfolding told_of
untold db key n asked w true e f = absurd (cc)
untold db key n asked w false e f = refl

pub refused_follows : (c : Config) (era : Era) (rules : Rules) (who : Callers) (calls n call : ℕ) (asked : ClientOp) (w : Cluster) (ws : ℕ → List ℕ → World) (reason : Why) → NodeStays c era rules who calls n (node_at n w) → is_telling (answer.Refused reason) ≡ false →
    Goes c era rules who calls n call asked w ws (answers call (answer.Refused reason) (makes call (begins (node_at n w))))
unfolding answers does makes frames_of mails labels_of answered told_by_all told_by heard
refused_follows c era rules who calls n call asked w ws reason h e = (
  h,
  (λ db key. (
    [],
    record {
      world = refl;
      labels = ap (λ (b : Bool). told_by_all db key (cond b (Answered n asked (answer.Refused reason) ∷ []) (answered call (answer.Refused reason) (pending w)) ++ [])) (eq-eqb call call refl)
          ∙ untold db key n asked reason (is_telling (answer.Refused reason)) refl e;
    },
  )),
  λ before. before,
)
