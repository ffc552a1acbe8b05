-- The numbers that are kept beside the cluster of a soak.
use Rattle.std.specs.Prelude.{◌≡◌, ℕ, ◌+◌, Bool, true, false, List, [], ◌∷◌, length, Result, Ok, Err}
use Rattle.ct_rules_cluster.specs.Steps.{Stepped, is_counted}
use Rattle.ct_rules_cluster.specs.declared.step.Line.{Line}
use Rattle.ct_rules_cluster.specs.declared.step.Line.TheVariants as line
use Rattle.ct_rules_cluster.specs.declared.step.Step.{Step}
use Rattle.ct_rules_cluster.specs.declared.step.Step.TheVariants as step
use Rattle.ct_rules_cluster.specs.declared.step.StepFault.{StepFault}
use Rattle.ct_rules_cluster.specs.Cluster.{World}
use Rattle.ct_soak.specs.Soaking.{soak_config}

-- the number of the last message that lines tell of, or one from before
abbrev pub sent_by : ℕ → Line → ℕ
sent_by n (line.Sent k f) = k
sent_by n _ = n

abbrev pub last_sent : ℕ → List Line → ℕ
last_sent n [] = n
last_sent n (l ∷ ls) = last_sent (sent_by n l) ls

-- the last ticket that lines tell of, or one from before
abbrev pub ticket_by : ℕ → Line → ℕ
ticket_by t (line.Ticket k n) = k
ticket_by t _ = t

abbrev pub last_ticket : ℕ → List Line → ℕ
last_ticket t [] = t
last_ticket t (l ∷ ls) = last_ticket (ticket_by t l) ls

-- a client call gets the next number
abbrev pub calls_after : ℕ → Step → ℕ
calls_after n (step.Client at asked) = n + 1
calls_after n _ = n

abbrev pub is_taken : Result Stepped StepFault → Bool
is_taken (Ok x) = true
is_taken (Err f) = false

-- these are the numbers of the cluster: of the messages that were sent, of client calls, and of the last ticket
pub record IsCounted (w : World) (sent calls ticket : ℕ) : Type 0 where
  pub config_is : w.config ≡ soak_config
  pub sent_is : sent ≡ length w.cluster.sent
  pub calls_is : calls ≡ w.cluster.calls
  pub ticket_is : ticket ≡ w.cluster.ticket
  pub four_nodes : length w.cluster.running ≡ 4
  pub below : is_counted w.cluster ≡ true
