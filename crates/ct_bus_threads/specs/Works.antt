-- What a node has to do at a bus, and what came of it.
use Rattle.std.specs.Prelude.{◌≡◌, ℕ, ◌≤◌, ◌<◌, ◌^◌, nat_eq, nat_le, Bool, false, ◌&&◌, is_none, List, [], ◌∷◌, ◌++◌, length, map, option_to_list, IfSome, slice_index_or}
use Rattle.std.specs.List.{range_with_len}
use Rattle.std.specs.Vec.Iter.{into_iter_items}
use Rattle.atomic_table.specs.Seated.{TableId}
use Rattle.ct_bus.specs.Seats.{IsReceiving, IsSending, Queues, messages_of, posted_by, receiving, sending, taken_by}
use Rattle.ct_bus.specs.declared.message.Message.{Message}
use Rattle.ct_bus_exchange.specs.Exchange.{AreCounted, Scripts, script}
use Rattle.ct_bus_exchange.specs.Handling.{Handling, handled}
use Rattle.ct_bus_threads.specs.declared.work.Todo.{Todo}
use Rattle.ct_bus_threads.specs.declared.work.Work.{Work}

-- what is still to be posted to a node
abbrev pub left_of : Todo → List Message
left_of t = option_to_list t.held ++ into_iter_items t.rest

-- all that is to be posted to a node, in order: what was posted, and what is left
abbrev pub planned : List Message → Todo → List Message
planned posted t = posted ++ left_of t

-- the same, of each node
abbrev pub all_planned : List (List Message) → List Todo → List (List Message)
all_planned [] ts = []
all_planned (ms ∷ mss) [] = []
all_planned (ms ∷ mss) (t ∷ ts) = planned ms t ∷ all_planned mss ts

-- is all posted to the node, and has as much come of it as is wanted?
abbrev pub is_done : Todo → Bool
is_done t = is_none t.held && nat_eq (length (into_iter_items t.rest)) 0 && nat_le t.wanted t.came

-- what does not change while a node serves: who it is, its queues, what is to be posted, and how much is to come
pub record Fixed : Type 0 where
  pub node : ℕ
  pub posts : ℕ
  pub takes : ℕ
  pub into : List TableId
  pub out : List TableId
  pub plan : List (List Message)
  pub wanted : List ℕ

abbrev pub fixed : Work → Fixed
fixed w = record {
  node = w.node;
  posts = (sending w.send).node;
  takes = (receiving w.receive).node;
  into = (sending w.send).queues;
  out = (receiving w.receive).queues;
  plan = all_planned (posted_by w.send) w.all.items;
  wanted = map (λ t. t.wanted) w.all.items;
}

-- the node works at this bus: it posts messages whose places count from 0, and knows how many have come; and unless one was lost
-- it has all that it took
pub record IsSound (bus : Queues) (w : Work) : Type 0 where
  pub sends : IsSending bus (sending w.send)
  pub receives : IsReceiving bus (receiving w.receive)
  pub posts : (sending w.send).node ≡ w.node
  pub takes : (receiving w.receive).node ≡ w.node
  pub many : length w.all.items ≡ length bus
  pub counted : (node : ℕ) → AreCounted (messages_of node (all_planned (posted_by w.send) w.all.items))
  pub few : (node : ℕ) → length (messages_of node (all_planned (posted_by w.send) w.all.items)) < 2 ^ 61
  pub came : map (λ t. t.came) w.all.items ≡ map (λ ms. length ms) (taken_by w.receive)
  pub kept : w.lost ≡ false → map (λ t. t.got.items) w.all.items ≡ taken_by w.receive

-- a node has served: what it was to post is posted, as much has come as is wanted, and what came is handled, unless memory ran out
pub record HasServed (hs : Handling) (bus : Queues) (f : Fixed) (w : Work) : Type 0 where
  pub sends : IsSending bus (sending w.send)
  pub receives : IsReceiving bus (receiving w.receive)
  pub posts : (sending w.send).node ≡ f.node
  pub takes : (receiving w.receive).node ≡ f.node
  pub posted : posted_by w.send ≡ f.plan
  pub enough : (node : ℕ) → slice_index_or f.wanted node 0 ≤ length (messages_of node (taken_by w.receive))
  pub done : IfSome w.done (λ v. v ≡ map (λ ms. map (handled hs) ms) (taken_by w.receive))

-- a node of these scripts has nothing posted or taken so far, and is to post what it has for each, and to get what each has for it
pub record HasTodos (scripts : Scripts) (me : ℕ) (w : Work) : Type 0 where
  pub node : w.node ≡ me
  pub left : map left_of w.all.items ≡ map (λ other. script scripts me other) (range_with_len 0 (length scripts))
  pub wanted : map (λ t. t.wanted) w.all.items ≡ map (λ other. length (script scripts other me)) (range_with_len 0 (length scripts))
  pub came : map (λ t. t.came) w.all.items ≡ map (λ t. 0) w.all.items
  pub got : map (λ t. t.got.items) w.all.items ≡ map (λ t. []) w.all.items
