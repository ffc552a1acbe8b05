-- Which step a line or a command is, where it names a database.
use Rattle.std.specs.Prelude.{ℕ, ◌+◌, true, false, nat_lt, if◌then◌else◌, List, [], ◌∷◌, filter, Option, None, Some, unwrap_or}
use Rattle.std.specs.Str.{bytes_eq}
use Rattle.ct_rules_cluster.specs.Cluster.{Cluster, everyone, is_up}
use Rattle.ct_rules_cluster.specs.declared.step.Step.{Step}
use Rattle.ct_rules_cluster.specs.declared.step.Step.TheVariants as step
use Rattle.ct_lines.specs.declared.line.NamedOp.{NamedOp}
use Rattle.ct_lines.specs.declared.line.NamedOp.TheVariants as named
use Rattle.ct_lines.specs.declared.line.StepCommand.{StepCommand}
use Rattle.ct_lines.specs.declared.line.StepCommand.TheVariants as command
use Rattle.ct_values.specs.declared.client.ClientOp.TheVariants as op
use Rattle.ct_values.specs.declared.config.Config.{Config}
use Rattle.ct_values.specs.declared.config.DbDecl.{DbDecl}

-- the number of the database at place i; a number is below 2^32
abbrev pub number_at : ℕ → Option ℕ
number_at i = if nat_lt i 4294967296 then Some i else None

-- the number of the database of this name, where one has it and the first of these stands at place i
abbrev pub number_from : ℕ → List ℕ → List DbDecl → Option ℕ
number_from i name [] = None
number_from i name (d ∷ ds) = if bytes_eq d.name name then number_at i else number_from (i + 1) name ds

-- the number of the database that the configuration has by this name, where it has one
abbrev pub number_of_db : Config → List ℕ → Option ℕ
number_of_db c name = number_from 0 name c.dbs

-- the number that stands for no database; no configuration has a database of this number
abbrev pub no_database : ℕ
no_database = 4294967295

-- the number by which a step tells of the database of this name; that of no database where the name is not declared
abbrev pub number_in_step : Config → List ℕ → ℕ
number_in_step c name = unwrap_or (number_of_db c name) no_database

-- what is asked at a node on the database of this number
abbrev pub named_step : ℕ → ℕ → NamedOp → Step
named_step n db (named.Lock key) = step.Client n (op.Lock db key)
named_step n db (named.Read key) = step.Client n (op.Read db key)
named_step n db (named.Unlock key) = step.Client n (op.Unlock db key)
named_step n db (named.Store key value) = step.Client n (op.Store db key value)
named_step n db (named.Apply key function arg) = step.Client n (op.Apply db key function arg)
named_step n db (named.Commit pairs) = step.Client n (op.Commit db pairs)
named_step n db named.Vacuum = step.Vacuum n db

-- the nodes that run
abbrev pub running_nodes : Config → Cluster → List ℕ
running_nodes c w = filter (λ n. is_up n w) (everyone c)

-- the step that a command is
abbrev pub command_step : Config → Cluster → ℕ → StepCommand → Step
command_step c w n command.Disable = step.Able n false
command_step c w n command.Enable = step.Able n true
command_step c w n (command.ReadKey db key) = step.Client n (op.Read (number_in_step c db) key)
command_step c w n (command.WriteKey db key value) = step.Client n (op.Write (number_in_step c db) key value)
command_step c w n (command.DeleteKey db key) = step.Client n (op.Write (number_in_step c db) key [])
command_step c w n (command.PTrans db writes) = step.Client n (op.Commit (number_in_step c db) writes)
command_step c w n command.Recover = step.Recover n (running_nodes c w)
