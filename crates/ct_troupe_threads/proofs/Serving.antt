-- A node that has served.
use Rattle.std.proofs.Common.{◌≡◌, ◌∙◌, ℕ, ◌<◌, ◌≤◌, List, [], ◌++◌, Option, None, true, ◌⊎◌, inl, inr, refl, sym, ap, subst, arith}
use Rattle.std.specs.Prelude.{Ok, length}
use Rattle.std.specs.List.{list_all}
use Rattle.ct_call.specs.Rules.{Rules}
use Rattle.ct_script.specs.Cues.{IsScripted}
use Rattle.ct_script.specs.declared.plan.Plan.{Plan}
use Rattle.ct_script.specs.declared.plan.PlanItem.{PlanItem}
use Rattle.ct_journal.specs.declared.journal.Journal.{Journal}
use Rattle.ct_journal.specs.declared.journal.JournalEntry.{JournalEntry}
use Rattle.ct_law_journal_growing.specs.Following.{Follows}
use Rattle.ct_law_journal_growing.proofs.Following.{ends_scripted}
use Rattle.ct_actor_serving.specs.Handed.{Journalled, at_opening}
use Rattle.ct_actor_serving.proofs.Handed.{run_of}
use Rattle.ct_script.specs.Sound.{IsSound, may_be_told, script_of}
use Rattle.ct_actor_serving.specs.Serving.{Counts, EndsBy, HasActed, of_link}
use Rattle.ct_actor_serving.specs.declared.fault.Served.{Served}
use Rattle.ct_actor_serving.specs.declared.fault.Served.TheVariants as served
use Rattle.ct_actor_serving.specs.declared.fault.Until.TheVariants as until
use Rattle.ct_links.specs.Streams.{LinkState, no_answers}
use Rattle.ct_links.specs.declared.link.LinkTally.{LinkTally}
use Rattle.ct_troupe_threads.specs.Meshed.{HadTurns, all_turns}
use Rattle.ct_troupe_threads.specs.Threaded.{HasServed, ServedFor}

pub may_serve : (p : Plan) (n : ℕ) (x : Journalled) (script : List PlanItem) → IsSound p → x ≡ at_opening n p.config → script ≡ script_of p n → list_all (may_be_told x.core.config x.core.pnn) script ≡ true
may_serve p n x script sound at is =
    subst (λ (y : Journalled). list_all (may_be_told y.core.config y.core.pnn) script ≡ true) (sym at)
    (subst (λ (s : List PlanItem). list_all (may_be_told p.config n) s ≡ true) (sym is) (sound.told n))

follows_all : (rules : Rules) (script : List PlanItem) (served : Served) (x : Journalled) → (h : HasActed rules script [] (Ok served) x) → Follows script [] x.entries h.cue
follows_all rules script served x h = subst (λ (xs : List JournalEntry). Follows script [] xs h.cue) (sym h.acting.all) h.acting.follows

served_from : (rules : Rules) (p : Plan) (n : ℕ) (served : Served) (x : Journalled) → x.core.pnn ≡ n → x.core.config ≡ p.config → HasActed rules (script_of p n) [] (Ok served) x → HasServed rules p n (record { node = x.core.pnn; entries = x.entries })
served_from rules p n served x own config h = record {
  run = record { node = own; end = x.core.node; runs = run_of rules p.config x config h.acting.run };
  scripted = ends_scripted (script_of p n) x.entries h.cue (follows_all rules (script_of p n) served x h) (inl h.done);
}

pub has_served : (rules : Rules) (p : Plan) (n : ℕ) (served : Served) (script : List PlanItem) (first x : Journalled) (j : Journal) → first ≡ at_opening n p.config → script ≡ script_of p n → x.core.pnn ≡ first.core.pnn → x.core.config ≡ first.core.config →
    HasActed rules script first.entries (Ok served) x → j ≡ record { node = x.core.pnn; entries = x.entries } → HasServed rules p n j
has_served rules p n served script first x j at is pnn config h j_is =
    subst (λ (k : Journal). HasServed rules p n k) (sym j_is)
    (served_from rules p n served x (pnn ∙ ap (λ (y : Journalled). y.core.pnn) at) (config ∙ ap (λ (y : Journalled). y.core.config) at)
    (subst (λ (s : List PlanItem). HasActed rules s [] (Ok served) x) is
    (subst (λ (y : Journalled). HasActed rules script y.entries (Ok served) x) at h)))

-- the link of a node that served for all its turns, and of which nothing was asked before, answered so
turns_of : (end : Served) (count : ℕ) (old new : Counts) → old.ended ≡ 0 → old.looked ≡ 0 → EndsBy (until.Turns all_turns) end count old new → (0 < new.ended) ⊎ (all_turns ≤ new.looked)
turns_of served.Closed count old new ended looked h = inl (omega (arith, ended, h))
turns_of served.Budget count old new ended looked h = inr (omega (arith, looked, h))

module _ {S : Type 0} where
  -- what the answers of a link count
  abbrev pub counts_of : LinkState S → Counts
  counts_of link = of_link (λ (s : LinkState S). s.tally.faults) (λ (s : LinkState S). s.tally.endings) (λ (s : LinkState S). s.tally.looks) link

  pub had_turns : (old new : LinkState S) (j : Journal) → old.tally ≡ no_answers → ServedFor (until.Turns all_turns) (counts_of old) (counts_of new) j → HadTurns new.tally
  had_turns old new j none h = turns_of h.0 (length j.entries) (counts_of old) (counts_of new) (ap (λ (t : LinkTally). t.endings) none) (ap (λ (t : LinkTally). t.looks) none) h.1
