-- The command line as `clap` knows it.
use Rattle.std.specs.Prelude.{true, codes, Some}
use Rattle.clap.specs.Simple.{Shape, on_top}
use Rattle.clap.specs.Words.{App, Rule, Text, new_app, new_rule, with_rule, with_subcommand}
use Rattle.clap.specs.declared.builder.ArgAction.TheVariants.{Set}

-- a number of a command, which has to be there
abbrev pub number : Text → Rule
number id = record (new_rule id) { required = true; action = Some Set }

abbrev pub play : App
play = new_app (codes "play")

abbrev pub lcp2 : App
lcp2 = new_app (codes "lcp2")

abbrev pub soak : App
soak = with_rule (with_rule (new_app (codes "soak")) (number (codes "seed"))) (number (codes "steps"))

-- a command with the numbers of a plan
abbrev pub planned : Text → App
planned name = with_rule (with_rule (with_rule (new_app name) (number (codes "nodes"))) (number (codes "calls"))) (number (codes "seed"))

abbrev pub cluster : App
cluster = planned (codes "cluster")

abbrev pub loopback : App
loopback = planned (codes "loopback")

-- the command with the numbers of a plan that is cut
abbrev pub chains : App
chains =
    with_rule (with_rule (with_rule (with_rule (new_app (codes "chains")) (number (codes "nodes"))) (number (codes "chains"))) (number (codes "calls"))) (number (codes "seed"))

-- the command with the numbers of a bus
abbrev pub bus : App
bus = with_rule (with_rule (with_rule (new_app (codes "bus")) (number (codes "nodes"))) (number (codes "messages"))) (number (codes "seed"))

-- no command yet
abbrev pub bare_shape : Shape → Shape
bare_shape s = record s { no_binary_name = true; subcommand_required = true; disable_help_flag = true; disable_help_subcommand = true; disable_version_flag = true }

abbrev pub bare : App
bare = on_top bare_shape (new_app (codes "ctdbsim"))

abbrev pub program : App
program =
    with_subcommand
    (with_subcommand (with_subcommand (with_subcommand (with_subcommand (with_subcommand (with_subcommand bare play.top) lcp2.top) soak.top) cluster.top) loopback.top) chains.top) bus.top
