-- What the words after the program's name ask for.
use Rattle.std.specs.Prelude.{◌≡◌, ◌≤◌, ℕ, nat_le, ◌&&◌, if◌then◌else◌, List, [], ◌∷◌, codes, Option, None, Some, Result, Ok, Err}
use Rattle.std.specs.Option.{option_map}
use Rattle.std.specs.Str.{bytes_eq}
use Rattle.ct_spelling.specs.Number.{number_of}
use Rattle.ct_words.specs.declared.words.BusNumbers.{BusNumbers}
use Rattle.ct_words.specs.declared.words.ChainNumbers.{ChainNumbers}
use Rattle.ct_words.specs.declared.words.PlanNumbers.{PlanNumbers}
use Rattle.ct_words.specs.declared.words.Word.{Word}
use Rattle.ct_words.specs.declared.words.Word.TheVariants.{Play, Lcp2, Soak, Cluster, Loopback, Chains, Bus}
use Rattle.ct_words.specs.declared.words.WordsFault.{WordsFault}
use Rattle.ct_words.specs.declared.words.WordsFault.TheVariants.{Usage, NoMemory}

-- the words without the first `--`
abbrev pub without_dashes : List (List ℕ) → List (List ℕ)
without_dashes [] = []
without_dashes (w ∷ ws) = if bytes_eq w (codes "--") then ws else w ∷ without_dashes ws

-- a command that has no numbers
abbrev pub alone : Word → List (List ℕ) → Option Word
alone word [] = Some word
alone word (w ∷ ws) = None

-- a soak of 1 to 100,000 steps
abbrev pub soak_of : Option ℕ → Option ℕ → Option Word
soak_of (Some seed) (Some steps) = if nat_le 1 steps && nat_le steps 100000 then Some (Soak seed steps) else None
soak_of (Some seed) None = None
soak_of None steps = None

-- the seed and the number of steps
abbrev pub soak : List (List ℕ) → Option Word
soak [] = None
soak (seed ∷ []) = None
soak (seed ∷ steps ∷ []) = soak_of (number_of seed) (number_of steps)
soak (seed ∷ steps ∷ w ∷ ws) = None

-- a plan of 1 to 8 nodes, with 1 to 1,000 words of its generator each
abbrev pub numbers_of : Option ℕ → Option ℕ → Option ℕ → Option PlanNumbers
numbers_of (Some nodes) (Some calls) (Some seed) =
    if nat_le 1 nodes && nat_le nodes 8
    then if nat_le 1 calls && nat_le calls 1000
    then Some (record { nodes = nodes; calls = calls; seed = seed })
    else None
    else None
numbers_of (Some nodes) (Some calls) None = None
numbers_of (Some nodes) None seed = None
numbers_of None calls seed = None

-- a plan of 1 to 8 nodes, with 1 to 1,000 words of its generator each, that is cut into 1 to 8 chains
abbrev pub chain_numbers_of : Option ℕ → Option ℕ → Option ℕ → Option ℕ → Option ChainNumbers
chain_numbers_of (Some nodes) (Some chains) (Some calls) (Some seed) =
    if nat_le 1 nodes && nat_le nodes 8
    then if nat_le 1 chains && nat_le chains 8
    then if nat_le 1 calls && nat_le calls 1000
    then Some (record { nodes = nodes; chains = chains; calls = calls; seed = seed })
    else None
    else None
    else None
chain_numbers_of (Some nodes) (Some chains) (Some calls) None = None
chain_numbers_of (Some nodes) (Some chains) None seed = None
chain_numbers_of (Some nodes) None calls seed = None
chain_numbers_of None chains calls seed = None

-- a bus of 2 to 8 nodes, with 1 to 1,000 messages
abbrev pub bus_numbers_of : Option ℕ → Option ℕ → Option ℕ → Option BusNumbers
bus_numbers_of (Some nodes) (Some messages) (Some seed) =
    if nat_le 2 nodes && nat_le nodes 8
    then if nat_le 1 messages && nat_le messages 1000
    then Some (record { nodes = nodes; messages = messages; seed = seed })
    else None
    else None
bus_numbers_of (Some nodes) (Some messages) None = None
bus_numbers_of (Some nodes) None seed = None
bus_numbers_of None messages seed = None

-- the numbers of a plan are in their range
pub record HasRange (p : PlanNumbers) : Type 0 where
  pub some_nodes : 1 ≤ p.nodes
  pub few_nodes : p.nodes ≤ 8
  pub some_calls : 1 ≤ p.calls
  pub few_calls : p.calls ≤ 1000

-- the numbers of a plan that is cut are
pub record HasChainRange (p : ChainNumbers) : Type 0 where
  pub some_nodes : 1 ≤ p.nodes
  pub few_nodes : p.nodes ≤ 8
  pub some_chains : 1 ≤ p.chains
  pub few_chains : p.chains ≤ 8
  pub some_calls : 1 ≤ p.calls
  pub few_calls : p.calls ≤ 1000

-- the numbers of a bus are
pub record HasBusRange (p : BusNumbers) : Type 0 where
  pub some_nodes : 2 ≤ p.nodes
  pub few_nodes : p.nodes ≤ 8
  pub some_messages : 1 ≤ p.messages
  pub few_messages : p.messages ≤ 1000

-- those of a word are
abbrev pub IsRanged : Word → Type 0
IsRanged Play = Unit {0}
IsRanged Lcp2 = Unit {0}
IsRanged (Soak seed steps) = Unit {0}
IsRanged (Cluster p) = HasRange p
IsRanged (Loopback p) = HasRange p
IsRanged (Chains p) = HasChainRange p
IsRanged (Bus p) = HasBusRange p

-- the numbers of nodes and of words, and the seed
abbrev pub numbers : List (List ℕ) → Option PlanNumbers
numbers [] = None
numbers (nodes ∷ []) = None
numbers (nodes ∷ calls ∷ []) = None
numbers (nodes ∷ calls ∷ seed ∷ []) = numbers_of (number_of nodes) (number_of calls) (number_of seed)
numbers (nodes ∷ calls ∷ seed ∷ w ∷ ws) = None

-- a command of a plan
abbrev pub plan : (PlanNumbers → Word) → List (List ℕ) → Option Word
plan word ws = option_map word (numbers ws)

-- the numbers of nodes, of chains and of words, and the seed
abbrev pub chain_numbers : List (List ℕ) → Option ChainNumbers
chain_numbers [] = None
chain_numbers (nodes ∷ []) = None
chain_numbers (nodes ∷ chains ∷ []) = None
chain_numbers (nodes ∷ chains ∷ calls ∷ []) = None
chain_numbers (nodes ∷ chains ∷ calls ∷ seed ∷ []) = chain_numbers_of (number_of nodes) (number_of chains) (number_of calls) (number_of seed)
chain_numbers (nodes ∷ chains ∷ calls ∷ seed ∷ w ∷ ws) = None

-- the command of a plan that is cut
abbrev pub chains : List (List ℕ) → Option Word
chains ws = option_map (λ p. Chains p) (chain_numbers ws)

-- the numbers of nodes and of messages, and the seed
abbrev pub bus_numbers : List (List ℕ) → Option BusNumbers
bus_numbers [] = None
bus_numbers (nodes ∷ []) = None
bus_numbers (nodes ∷ messages ∷ []) = None
bus_numbers (nodes ∷ messages ∷ seed ∷ []) = bus_numbers_of (number_of nodes) (number_of messages) (number_of seed)
bus_numbers (nodes ∷ messages ∷ seed ∷ w ∷ ws) = None

-- the command of a bus
abbrev pub bus : List (List ℕ) → Option Word
bus ws = option_map (λ p. Bus p) (bus_numbers ws)

-- The command stands first. Of the words after it the first `--` is dropped; the rest are exactly the command's numbers, in
-- decimal without sign or leading zero.
abbrev pub command_of : List ℕ → List (List ℕ) → Option Word
command_of name rest =
    if bytes_eq name (codes "play")
    then alone Play rest
    else if bytes_eq name (codes "lcp2")
    then alone Lcp2 rest
    else if bytes_eq name (codes "soak")
    then soak rest
    else if bytes_eq name (codes "cluster")
    then plan (λ p. Cluster p) rest
    else if bytes_eq name (codes "loopback")
    then plan (λ p. Loopback p) rest
    else if bytes_eq name (codes "chains")
    then chains rest
    else if bytes_eq name (codes "bus")
    then bus rest
    else None

abbrev pub reading : List (List ℕ) → Option Word
reading [] = None
reading (name ∷ words) = command_of name (without_dashes words)

-- what is answered: the words' reading, or `Usage` exactly where they have none, or that memory ran out
abbrev pub Reads : Result Word WordsFault → Option Word → Type 0
Reads (Ok word) read = read ≡ Some word
Reads (Err Usage) read = read ≡ None
Reads (Err NoMemory) read = Unit {0}
