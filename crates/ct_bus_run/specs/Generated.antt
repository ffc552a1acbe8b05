-- The scripts that a seed makes: what each node has for each other, by the words of its generator.
use Rattle.std.specs.Prelude.{ℕ, zero, suc, ◌+◌, ◌-◌, ◌/◌, ◌%◌, nat_eq, nat_lt, if◌then◌else◌, List, [], ◌∷◌, map, slice_index_or}
use Rattle.std.specs.Fmt.{decimal}
use Rattle.std.specs.List.{range_with_len}
use Rattle.rand_pcg.specs.Lcg.{Lcg}
use Rattle.rand_pcg.specs.Pcg.{pcg32}
use Rattle.ct_script.specs.Scripts.{drawn, generator_of}
use Rattle.ct_bus.specs.Relay.{message}
use Rattle.ct_bus.specs.declared.message.Message.{Message}
use Rattle.ct_bus_exchange.specs.Exchange.{Scripts}
use Rattle.ct_bus_run.specs.declared.generated.BusWanted.{BusWanted}

-- the generator after so many words
abbrev pub after : ℕ → Lcg → Lcg
after zero g = g
after (suc n) g = after n (pcg32 g).1

-- for each message a word for each of so many other nodes, in the order of their numbers
abbrev pub rounds : ℕ → ℕ → Lcg → List (List ℕ)
rounds zero others g = []
rounds (suc n) others g = drawn others g ∷ rounds n others (after others g)

-- Generated messages: a word makes the service and the body
abbrev pub message_of : ℕ → ℕ → Message
message_of place w = message (w % 4) place (decimal (w / 4 % 1000))

-- the messages of these words, with their places
abbrev pub messages_from : ℕ → List ℕ → List Message
messages_from place [] = []
messages_from place (w ∷ ws) = message_of place w ∷ messages_from (place + 1) ws

-- the word of a round for one of the others
abbrev pub word_at : ℕ → List ℕ → ℕ
word_at other round = slice_index_or round other 0

-- the place of a node among the others of this one
abbrev pub other_place : ℕ → ℕ → ℕ
other_place me node = if nat_lt node me then node else node - 1

-- what a node has for another one; nothing for itself
abbrev pub generated_to : List (List ℕ) → ℕ → ℕ → List Message
generated_to all sender receiver = if nat_eq receiver sender then [] else messages_from 0 (map (word_at (other_place sender receiver)) all)

-- what a node has for each: it draws its words message by message, and for each of them one for each other node
abbrev pub generated_by : BusWanted → ℕ → List (List ℕ)
generated_by x sender = rounds x.messages (x.nodes - 1) (generator_of x.seed sender)

abbrev pub generated_row : BusWanted → ℕ → List (List Message)
generated_row x sender = map (generated_to (generated_by x sender) sender) (range_with_len 0 x.nodes)

-- Generated messages: what each node has for each, by sender and then receiver
abbrev pub generated : BusWanted → Scripts
generated x = map (generated_row x) (range_with_len 0 x.nodes)
