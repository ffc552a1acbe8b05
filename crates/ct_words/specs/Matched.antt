-- What is asked for, by what `clap` matched.
use Rattle.std.specs.Prelude.{if◌then◌else◌, List, codes, Option, None, Some}
use Rattle.std.specs.Option.{option_map}
use Rattle.std.specs.Str.{bytes_eq}
use Rattle.clap.specs.Words.{Row, Text, first_of}
use Rattle.ct_spelling.specs.Number.{number_of}
use Rattle.ct_words.specs.Reading.{bus_numbers_of, chain_numbers_of, numbers_of, soak_of}
use Rattle.ct_words.specs.declared.words.BusNumbers.{BusNumbers}
use Rattle.ct_words.specs.declared.words.ChainNumbers.{ChainNumbers}
use Rattle.ct_words.specs.declared.words.PlanNumbers.{PlanNumbers}
use Rattle.ct_words.specs.declared.words.Word.{Word}
use Rattle.ct_words.specs.declared.words.Word.TheVariants.{Play, Lcp2, Cluster, Loopback, Chains, Bus}

-- a soak by the texts of its numbers, where both are there
abbrev pub soak_given : Option Text → Option Text → Option Word
soak_given (Some seed) (Some steps) = soak_of (number_of seed) (number_of steps)
soak_given (Some seed) None = None
soak_given None steps = None

abbrev pub soak_in : List Row → Option Word
soak_in rows = soak_given (first_of (codes "seed") rows) (first_of (codes "steps") rows)

-- the numbers of a plan by their texts, where all are there
abbrev pub numbers_given : Option Text → Option Text → Option Text → Option PlanNumbers
numbers_given (Some nodes) (Some calls) (Some seed) = numbers_of (number_of nodes) (number_of calls) (number_of seed)
numbers_given (Some nodes) (Some calls) None = None
numbers_given (Some nodes) None seed = None
numbers_given None calls seed = None

abbrev pub numbers_in : List Row → Option PlanNumbers
numbers_in rows = numbers_given (first_of (codes "nodes") rows) (first_of (codes "calls") rows) (first_of (codes "seed") rows)

abbrev pub plan_in : (PlanNumbers → Word) → List Row → Option Word
plan_in word rows = option_map word (numbers_in rows)

-- the numbers of a plan that is cut by their texts, where all are there
abbrev pub chain_numbers_given : Option Text → Option Text → Option Text → Option Text → Option ChainNumbers
chain_numbers_given (Some nodes) (Some chains) (Some calls) (Some seed) = chain_numbers_of (number_of nodes) (number_of chains) (number_of calls) (number_of seed)
chain_numbers_given (Some nodes) (Some chains) (Some calls) None = None
chain_numbers_given (Some nodes) (Some chains) None seed = None
chain_numbers_given (Some nodes) None calls seed = None
chain_numbers_given None chains calls seed = None

abbrev pub chain_numbers_in : List Row → Option ChainNumbers
chain_numbers_in rows = chain_numbers_given (first_of (codes "nodes") rows) (first_of (codes "chains") rows) (first_of (codes "calls") rows) (first_of (codes "seed") rows)

abbrev pub chains_in : List Row → Option Word
chains_in rows = option_map (λ p. Chains p) (chain_numbers_in rows)

-- the numbers of a bus by their texts, where all are there
abbrev pub bus_numbers_given : Option Text → Option Text → Option Text → Option BusNumbers
bus_numbers_given (Some nodes) (Some messages) (Some seed) = bus_numbers_of (number_of nodes) (number_of messages) (number_of seed)
bus_numbers_given (Some nodes) (Some messages) None = None
bus_numbers_given (Some nodes) None seed = None
bus_numbers_given None messages seed = None

abbrev pub bus_numbers_in : List Row → Option BusNumbers
bus_numbers_in rows = bus_numbers_given (first_of (codes "nodes") rows) (first_of (codes "messages") rows) (first_of (codes "seed") rows)

abbrev pub bus_in : List Row → Option Word
bus_in rows = option_map (λ p. Bus p) (bus_numbers_in rows)

-- the command that was met, and what was found after it
abbrev pub met : Text → List Row → Option Word
met name rows =
    if bytes_eq name (codes "play")
    then Some Play
    else if bytes_eq name (codes "lcp2")
    then Some Lcp2
    else if bytes_eq name (codes "soak")
    then soak_in rows
    else if bytes_eq name (codes "cluster")
    then plan_in (λ p. Cluster p) rows
    else if bytes_eq name (codes "loopback")
    then plan_in (λ p. Loopback p) rows
    else if bytes_eq name (codes "chains")
    then chains_in rows
    else if bytes_eq name (codes "bus")
    then bus_in rows
    else None

abbrev pub matched : Option (Text × List Row) → Option Word
matched None = None
matched (Some p) = met p.0 p.1
