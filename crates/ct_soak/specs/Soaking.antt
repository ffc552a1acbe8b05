-- A soak: steps that words of a generator make, one after the other, in a cluster of four nodes.
use Rattle.std.specs.Prelude.{ℕ, zero, suc, ◌+◌, List, ◌++◌, length, codes, Option, None, Some, Result, Ok, Err}
use Rattle.std.specs.Fmt.{decimal}
use Rattle.rand_pcg.specs.Lcg.{Lcg, increment_of, started}
use Rattle.rand_pcg.specs.Pcg.{multiplier_64, pcg32}
use Rattle.ct_script.specs.Generated.{generated_config}
use Rattle.ct_values.specs.declared.config.Config.{Config}
use Rattle.ct_call.specs.Rules.{Rules}
use Rattle.ct_rules_cluster.specs.Cluster.{Cluster, opening, pending}
use Rattle.ct_rules_cluster.specs.Steps.{Stepped, applied}
use Rattle.ct_rules_cluster.specs.declared.step.Step.{Step}
use Rattle.ct_rules_cluster.specs.declared.step.Step.TheVariants as step
use Rattle.ct_rules_cluster.specs.declared.step.StepFault.{StepFault}
use Rattle.ct_lines.specs.declared.line.Command.{Command}
use Rattle.ct_lines.specs.declared.line.Command.TheVariants.{Shows, Steps, CatDb}
use Rattle.ct_lines.specs.declared.line.ScenarioLine.{ScenarioLine}
use Rattle.ct_lines.specs.declared.line.ScenarioLine.TheVariants as item
use Rattle.ct_mail.specs.Mail.{next_waiting}
use Rattle.ct_named.specs.Named.{command_step, named_step, number_in_step}
use Rattle.ct_soak.specs.Soak.{SoakView, soak_line}

-- four nodes, and a database of each kind
abbrev pub soak_config : Config
soak_config = generated_config 4

-- where a soak stands: its cluster, and how many steps were skipped
pub record Soaked : Type 0 where
  pub cluster : Cluster
  pub skipped : ℕ

abbrev pub first : Soaked
first = record { cluster = opening soak_config; skipped = 0 }

-- ---- steps

-- one more was skipped
abbrev pub skip : Soaked → Soaked
skip s = record { cluster = s.cluster; skipped = s.skipped + 1 }

-- a step that was taken, or is refused and skipped
abbrev pub after : Soaked → Result Stepped StepFault → Soaked
after s (Ok x) = record { cluster = x.cluster; skipped = s.skipped }
after s (Err f) = skip s

abbrev pub took : Rules → Soaked → Step → Soaked
took rules s x = after s (applied soak_config rules s.cluster x)

-- a message that came, and then what later says; a refused one ends it
abbrev pub came : Soaked → Result Stepped StepFault → (Soaked → Soaked) → Soaked
came s (Ok x) later = later (record { cluster = x.cluster; skipped = s.skipped })
came s (Err f) later = skip s

abbrev pub comes_or_skips : Rules → Soaked → Option ℕ → (Soaked → Soaked) → Soaked
comes_or_skips rules s None later = s
comes_or_skips rules s (Some k) later = came s (applied soak_config rules s.cluster (step.Deliver k)) later

-- So many deliveries of the least message that waits, one after the other; fewer where none waits. They are one step: where a
-- delivery is refused it is skipped, and those before it stand.
unfoldable pub settled : Rules → ℕ → Soaked → Soaked
settled rules zero s = s
settled rules (suc m) s = comes_or_skips rules s (next_waiting s.cluster.sent) (λ t. settled rules m t)

-- a command that is a step; any other does nothing, since a soak has no traverses
abbrev pub commanded : Rules → Soaked → ℕ → Command → Soaked
commanded rules s n (Shows command) = s
commanded rules s n (Steps command) = took rules s (command_step soak_config s.cluster n command)
commanded rules s n (CatDb db) = s

-- what a line does; one of the configuration does nothing, and none of traverses
abbrev pub line_took : Rules → Soaked → ScenarioLine → Soaked
line_took rules s (item.Config said) = s
line_took rules s (item.Change x) = took rules s x
line_took rules s (item.ByName n db asked) = took rules s (named_step n (number_in_step soak_config db) asked)
line_took rules s (item.Settle m) = settled rules m s
line_took rules s (item.Traverse said) = s
line_took rules s (item.Ctdb n command) = commanded rules s n command

-- what a word's line takes from the cluster
abbrev pub view_of : Cluster → SoakView
view_of w = record { sent = length w.sent; running = w.running }

-- what a word of the generator does
abbrev pub word_took : Rules → ℕ → Soaked → Soaked
word_took rules word s = line_took rules s (soak_line word (view_of s.cluster))

-- so many words, one after the other
unfoldable pub words_took : Rules → ℕ → Lcg → Soaked → Soaked
words_took rules zero g s = s
words_took rules (suc n) g s = words_took rules n (pcg32 g).1 (word_took rules (pcg32 g).0 s)

-- the generator of a seed, on stream 1
abbrev pub seeded : ℕ → Lcg
seeded seed = started 64 multiplier_64 seed (increment_of 64 1)

-- where a soak of so many steps stands at its end
abbrev pub soaked : Rules → ℕ → ℕ → Soaked
soaked rules seed steps = words_took rules steps (seeded seed) first

-- ---- what is counted

-- how many steps there were and were skipped, how many messages were sent and calls got a number, how many calls wait, and
-- the last ticket
abbrev pub counts_text : ℕ → Soaked → List ℕ
counts_text steps s =
    codes "soak " ++ decimal steps ++ (codes " skipped " ++ decimal s.skipped) ++ (codes " frames " ++ decimal (length s.cluster.sent))
    ++ (codes " calls " ++ decimal s.cluster.calls) ++ (codes " pending " ++ decimal (length (pending s.cluster))) ++ (codes " ticket " ++ decimal s.cluster.ticket) ++ codes "\n"

abbrev pub soak_text : Rules → ℕ → ℕ → List ℕ
soak_text rules seed steps = counts_text steps (soaked rules seed steps)
