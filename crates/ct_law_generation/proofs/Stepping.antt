-- Every step of one generation lets the run go on, but for a Yield: that concerns the recovery lock alone.
use Rattle.std.proofs.Common.{◌≡◌, Bool, true, false, []}
use Rattle.ct_values.specs.declared.config.Config.{Config}
use Rattle.ct_rules_cluster.specs.declared.step.Step.{Step}
use Rattle.ct_promise.specs.Generation.{is_of_one_generation, record_labels}
use Rattle.ct_law_generation.specs.Shown.{Era}
use Rattle.ct_rules_cluster.specs.Faults.{fault_of}
use Rattle.ct_call.specs.Rules.{Rules}
use Rattle.ct_register.specs.Lines.{Lines}
use Rattle.ct_rules_cluster.specs.Cluster.{Cluster}
use Rattle.ct_law_generation.proofs.Assembled.{Starts, Run_goes, Taken_goes, step_goes, drop_taken, retry_taken, vacuum_taken, able_taken}
use Rattle.ct_law_generation.proofs.Faulting.{runs, vacuum_kind}
use Rattle.ct_law_generation.specs.Waiting.{outcome}
use Rattle.ct_rules_cluster.specs.declared.step.Step.TheVariants as step
use Rattle.ct_law_generation.proofs.Joined.{client_joined}
use Rattle.ct_law_generation.proofs.Messages.{deliver_taken, repeat_taken}
use Rattle.ct_law_generation.proofs.Silent.{retry_fits}
use Rattle.ct_law_generation.proofs.Keeping.{vacuum_kept}
use Rattle.ct_law_generation.proofs.Passing.{takeover_taken}

-- gives the step the recovery lock back?
unfoldable pub is_yield : Step → Bool
is_yield (step.Yield n) = true
is_yield _ = false

-- each step goes on, if it is taken
steps_taken : (c : Config) (era : Era) (rules : Rules) (reg : Lines) (w : Cluster) (s : Step) → Starts c era rules reg → Run_goes c era rules reg [] w → is_of_one_generation s ≡ true → is_yield s ≡ false → Taken_goes c era rules reg w [] s
unfolding is_of_one_generation is_yield fault_of
steps_taken c era rules reg w (step.Client n o) is h e other = client_joined c era rules reg w [] n o is h
steps_taken c era rules reg w (step.Deliver k) is h e other = deliver_taken c era rules reg w [] k is h
steps_taken c era rules reg w (step.Drop k) is h e other = drop_taken c era rules reg w [] k h
steps_taken c era rules reg w (step.Repeat k) is h e other = repeat_taken c era rules reg w [] k is h
steps_taken c era rules reg w (step.Retry n) is h e other = λ x ok. retry_taken c era rules reg w [] n is (retry_fits c era rules reg w [] n is h (runs w n _ _ ok)) h x ok
steps_taken c era rules reg w (step.Vacuum n db) is h e other = λ x ok. vacuum_taken c era rules reg w [] n db is (vacuum_kept c era rules reg w [] n db is h (runs w n _ _ ok) (vacuum_kind c w n db ok)) h x ok
steps_taken c era rules reg w (step.Recover n members) is h e other = absurd (cc)
steps_taken c era rules reg w (step.Yield n) is h e other = absurd (cc)
steps_taken c era rules reg w (step.Stop n) is h e other = absurd (cc)
steps_taken c era rules reg w (step.Start n) is h e other = absurd (cc)
steps_taken c era rules reg w (step.Takeover n) is h e other = takeover_taken c era rules reg w [] n is.alone h
steps_taken c era rules reg w (step.Able n able) is h e other = able_taken c era rules reg w [] n able h

-- so the run goes on by each step of one generation that is no Yield
pub step_goes_on : (c : Config) (era : Era) (rules : Rules) (reg : Lines) (w : Cluster) (s : Step) → Starts c era rules reg → Run_goes c era rules reg [] w → is_of_one_generation s ≡ true → is_yield s ≡ false →
    Run_goes c era rules reg (record_labels c (outcome c rules w s).trace) (outcome c rules w s).cluster
step_goes_on c era rules reg w s is h e other = step_goes c era rules reg w [] s h (steps_taken c era rules reg w s is h e other)
