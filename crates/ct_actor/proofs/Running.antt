-- A node stays run by the rules that its steps follow.
use Rattle.std.proofs.Common.{◌≡◌, ◌∙◌, ℕ, ◌-◌, Bool, true, false, List, [], ◌∷◌, ◌++◌, length, Option, Some, refl, sym, ap, subst, arith}
use Rattle.std.proofs.lemmas.List.{length-append}
use Rattle.std.specs.Prelude.{slice_get}
use Rattle.std.specs.List.{list_all}
use Rattle.ct_values.specs.declared.config.Config.{Config}
use Rattle.ct_frame.specs.declared.event.Event.{Event}
use Rattle.ct_frame.specs.declared.event.Out.{Out}
use Rattle.ct_call.specs.Rules.{Rules}
use Rattle.ct_core.specs.Core.{Core}
use Rattle.ct_journal.specs.Runs.{IsEntry, IsRun, RunsTo}
use Rattle.ct_journal.specs.declared.journal.JournalEntry.{JournalEntry}
use Rattle.ct_actor.specs.Journalled.{IsRunBy, Journalled, at_opening, entry_outs, last_outs, with_entry}
use Rattle.ct_rules_node.specs.Coming.{may_come}
use Rattle.ct_rules_node.specs.Node.{Node}
use Rattle.ct_rules_node.specs.Steps.{stepped}

-- one entry more
pub run_longer : (c : Config) (rules : Rules) (me : ℕ) (xs : List JournalEntry) (x : JournalEntry) (old mid new : Node) → IsRun c rules me old xs mid → IsEntry c rules me mid x new → IsRun c rules me old (xs ++ x ∷ []) new
unfolding IsRun
run_longer c rules me [] x old mid new run e = (new, subst (λ (n : Node). IsEntry c rules me n x new) (sym run) e, refl)
run_longer c rules me (y ∷ ys) x old mid new run e = (run.0, run.1, run_longer c rules me ys x run.0 mid new run.2 e)

-- at the opening
pub starts_run : (rules : Rules) (pnn : ℕ) (c : Config) → IsRunBy rules (at_opening pnn c)
unfolding IsRunBy IsRun
starts_run rules pnn c = refl

-- after a step
pub stepped_runs : (rules : Rules) (e : Event) (outs : List Out) (n : Node) (old : Journalled) → may_come old.core.config old.core.pnn old.core.node e ≡ true
    → stepped old.core.config rules old.core.pnn e old.core.node ≡ Some (record { node = n; outs = outs; spent = false }) → IsRunBy rules old → IsRunBy rules (with_entry n e outs old)
unfolding IsRunBy
stepped_runs rules e outs n old may is run = run_longer old.core.config rules old.core.pnn old.entries (record { event = e; outs = outs }) _ old.core.node n run (record { coming = may; steps = is })

pub got_put : (xs : List JournalEntry) (x : JournalEntry) → slice_get (xs ++ x ∷ []) (length xs) ≡ Some x
got_put [] x = refl
got_put (y ∷ ys) x = got_put ys x

pub one_less : (xs : List JournalEntry) (x : JournalEntry) → length (xs ++ x ∷ []) - 1 ≡ length xs
one_less xs x = omega (arith, length-append xs (x ∷ []))

-- what an entry that was just put does
pub put_last : (xs : List JournalEntry) (x : JournalEntry) → last_outs (xs ++ x ∷ []) ≡ x.outs
put_last xs x = ap (λ (i : ℕ). entry_outs (slice_get (xs ++ x ∷ []) i)) (one_less xs x) ∙ ap (λ (o : Option JournalEntry). entry_outs o) (got_put xs x)

-- once the core took a step, and its entry was put
pub step_runs : (rules : Rules) (e : Event) (outs : List Out) (old : Journalled) (core : Core) (entries : List JournalEntry) → may_come old.core.config old.core.pnn old.core.node e ≡ true
    → stepped old.core.config rules old.core.pnn e old.core.node ≡ Some (record { node = core.node; outs = outs; spent = false }) → core ≡ record old.core { node = core.node } → entries ≡ old.entries ++ record { event = e; outs = outs } ∷ []
    → IsRunBy rules old → IsRunBy rules (record { core = core; entries = entries })
step_runs rules e outs old core entries may is same put run =
    subst (λ (xs : List JournalEntry). IsRunBy rules (record { core = core; entries = xs })) (sym put)
    (subst (λ (k : Core). IsRunBy rules (record { core = k; entries = old.entries ++ record { event = e; outs = outs } ∷ [] })) (sym same) (stepped_runs rules e outs core.node old may is run))

-- what holds of all that was done holds of all that the last of these entries does
pub put_all : (q : Out → Bool) (e : Event) (outs : List Out) (xs ys : List JournalEntry) → ys ≡ xs ++ record { event = e; outs = outs } ∷ [] → list_all q outs ≡ true → list_all q (last_outs ys) ≡ true
put_all q e outs xs ys put all = subst (λ (os : List Out). list_all q os ≡ true) (sym (ap (λ (zs : List JournalEntry). last_outs zs) put ∙ put_last xs (record { event = e; outs = outs }))) all

pub run_of : (rules : Rules) (c : Config) (x : Journalled) → x.core.config ≡ c → IsRunBy rules x → RunsTo c rules (record { node = x.core.pnn; entries = x.entries }) x.core.node
unfolding IsRunBy
run_of rules c x is run = subst (λ (d : Config). RunsTo d rules (record { node = x.core.pnn; entries = x.entries }) x.core.node) is run
