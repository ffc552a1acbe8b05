-- What is answered once no next entry may be made.
use Rattle.std.proofs.Common.{◌≡◌, ℕ, ◌<◌, List, length, arith, sym, subst}
use Rattle.ct_call.specs.Rules.{Rules}
use Rattle.ct_values.specs.declared.config.Config.{Config}
use Rattle.ct_rules_cluster.specs.declared.step.Step.{Step}
use Rattle.ct_journal.specs.Order.{AreInOrder, entries_of}
use Rattle.ct_journal.specs.Schedules.{IsSchedule}
use Rattle.ct_journal.specs.declared.journal.Journal.{Journal}
use Rattle.ct_law_journal_reach.specs.Counts.{AreAll, AreGreatest, HaveOwnTickets, count_at}
use Rattle.ct_law_journal_reach.specs.Laws.{NoneMayGo}
use Rattle.ct_law_journal_reach.proofs.Held.{held_is_greatest}
use Rattle.ct_law_journal_reach.proofs.Whole.{all_is_scheduled, in_order_is_never_stuck, less_is_stuck}
use Rattle.ct_journal_join_any.specs.Reaching.{HasReached}
use Rattle.ct_journal_join_any.specs.declared.reach.Reach.{Reach}

-- all entries are made
pub joins_all : (c : Config) (rules : Rules) (js : List Journal) (r : Reach) → r.world.config ≡ c → HasReached rules js r → AreAll js r.taken.items → IsSchedule c rules js r.steps.items
joins_all c rules js r same h all = subst (λ (d : Config). IsSchedule d rules js r.steps.items) same (all_is_scheduled r.world.config rules js r.steps.items r.world.cluster r.taken.items h.made all)

-- some are not
pub joins_less : (c : Config) (rules : Rules) (js : List Journal) (r : Reach) → r.world.config ≡ c → HaveOwnTickets js → HasReached rules js r → NoneMayGo r.world.config js r.world.cluster r.taken.items → (n : ℕ) → count_at r.taken.items n < length (entries_of js n) →
    AreGreatest c rules js r.taken.items × ((ss : List Step) → IsSchedule c rules js ss → ⊥) × (AreInOrder js → ⊥)
joins_less c rules js r same own h held n less = subst (λ (d : Config). AreGreatest d rules js r.taken.items × ((ss : List Step) → IsSchedule d rules js ss → ⊥) × (AreInOrder js → ⊥)) same
    (greatest, λ ss s. less_is_stuck r.world.config rules js ss r.taken.items n greatest less s, λ o. (let e = in_order_is_never_stuck r.world.config rules js r.taken.items h.runs o greatest n in omega (arith, e, less)))
  where
    greatest : AreGreatest r.world.config rules js r.taken.items
    greatest = held_is_greatest r.world.config rules js r.steps.items r.world.cluster r.taken.items h.runs h.few own h.made held
