-- What is to be posted, while it is posted.
use Rattle.std.proofs.Common.{arith, ◌≡◌, ◌≢◌, ◌∙◌, ◌<◌, ℕ, zero, suc, List, [], ◌∷◌, ◌++◌, length, map, set, refl, sym, ap, subst, append_assoc}
use Rattle.std.specs.Prelude.{None, Option, option_to_list, slice_index_or}
use Rattle.std.specs.Vec.Iter.{into_iter_items}
use Rattle.std.proofs.Math.ListN as math
use Rattle.std.proofs.lemmas.List.{get_or-map}
use Rattle.ct_bus.specs.Relay.{message}
use Rattle.ct_bus.specs.Seats.{messages_of}
use Rattle.ct_bus.specs.declared.message.Message.{Message}
use Rattle.ct_bus.proofs.Places.{at_seam}
use Rattle.ct_bus_exchange.specs.Exchange.{AreCounted}
use Rattle.ct_bus_threads.specs.Works.{all_planned, left_of, planned}
use Rattle.ct_bus_threads.specs.declared.work.Todo.{Todo}

-- the next message of those that count from 0 has the number of those before it as its place
pub next_place : (posted rest : List Message) (srvid place : ℕ) (body : List ℕ) → AreCounted (posted ++ message srvid place body ∷ rest) → place ≡ length posted
next_place posted rest srvid place body counted = counted (length posted) (message srvid place body) (at_seam posted (message srvid place body) rest)

-- a message that was posted is planned as before
pub posted_planned : (posted rest before : List Message) (srvid place at : ℕ) (body : List ℕ) → before ≡ message srvid place body ∷ rest → AreCounted (posted ++ before) → at ≡ length posted
    → (posted ++ message srvid at body ∷ []) ++ rest ≡ posted ++ before
posted_planned posted rest before srvid place at body is counted where' =
    append_assoc posted (message srvid at body ∷ []) rest
    ∙ ap (λ (p : ℕ). posted ++ message srvid p body ∷ rest) (where' ∙ sym (next_place posted rest srvid place body (subst (λ (ms : List Message). AreCounted (posted ++ ms)) is counted)))
    ∙ ap (λ (ms : List Message). posted ++ ms) (sym is)

-- what is planned for one node is planned as before, and so is the whole
pub planned_there : (mss : List (List Message)) (ts : List Todo) (k : ℕ) (ms : List Message) (t new : Todo) → k < length ts → length mss ≡ length ts → t ≡ slice_index_or ts k t → planned ms new ≡ planned (messages_of k mss) t
    → all_planned (set mss k ms) (set ts k new) ≡ all_planned mss ts
planned_there [] [] k ms t new within many is same = refl
planned_there [] (x ∷ ts) k ms t new within many is same = absurd (omega arith)
planned_there (p ∷ mss) [] k ms t new within many is same = absurd (omega arith)
planned_there (p ∷ mss) (x ∷ ts) zero ms t new within many is same = ap (λ (l : List Message). l ∷ all_planned mss ts) (same ∙ ap (λ (y : Todo). planned p y) is)
planned_there (p ∷ mss) (x ∷ ts) (suc k) ms t new within many is same = ap (λ (l : List (List Message)). planned p x ∷ l) (planned_there mss ts k ms t new (omega arith) (omega arith) is same)

-- what is planned for a node
pub planned_at : (mss : List (List Message)) (ts : List Todo) (k : ℕ) (t : Todo) → k < length ts → length mss ≡ length ts → t ≡ slice_index_or ts k t → messages_of k (all_planned mss ts) ≡ planned (messages_of k mss) t
planned_at [] [] k t within many is = absurd (omega arith)
planned_at [] (x ∷ ts) k t within many is = absurd (omega arith)
planned_at (p ∷ mss) [] k t within many is = absurd (omega arith)
planned_at (p ∷ mss) (x ∷ ts) zero t within many is = ap (λ (y : Todo). planned p y) (sym is)
planned_at (p ∷ mss) (x ∷ ts) (suc k) t within many is = planned_at mss ts k t (omega arith) (omega arith) is

-- other todos whose rest is the same are planned as before
pub planned_aside : (mss : List (List Message)) (ts : List Todo) (k : ℕ) (t new : Todo) → k < length ts → length mss ≡ length ts → t ≡ slice_index_or ts k t → left_of new ≡ left_of t
    → all_planned mss (set ts k new) ≡ all_planned mss ts
planned_aside [] [] k t new within many is same = refl
planned_aside [] (x ∷ ts) k t new within many is same = absurd (omega arith)
planned_aside (p ∷ mss) [] k t new within many is same = absurd (omega arith)
planned_aside (p ∷ mss) (x ∷ ts) zero t new within many is same = ap (λ (l : List Message). (p ++ l) ∷ all_planned mss ts) (same ∙ ap (λ (y : Todo). left_of y) is)
planned_aside (p ∷ mss) (x ∷ ts) (suc k) t new within many is same = ap (λ (l : List (List Message)). planned p x ∷ l) (planned_aside mss ts k t new (omega arith) (omega arith) is same)

-- a message that came back is planned as before
pub held_planned : (t : Todo) (before : List Message) (srvid place : ℕ) (body back : List ℕ) → back ≡ body → t.held ≡ None → before ≡ message srvid place body ∷ left_of t → message srvid place back ∷ into_iter_items t.rest ≡ before
held_planned t before srvid place body back same held is =
    ap (λ (b : List ℕ). message srvid place b ∷ into_iter_items t.rest) same ∙ ap (λ (h : Option Message). message srvid place body ∷ (option_to_list h ++ into_iter_items t.rest)) (sym held) ∙ sym is

-- how many have come of a node
pub came_there : (taken : List (List Message)) (ts : List Todo) (k : ℕ) (t : Todo) → map (λ (x : Todo). x.came) ts ≡ map (λ (ms : List Message). length ms) taken → k < length ts → t ≡ slice_index_or ts k t → t.came ≡ length (messages_of k taken)
came_there taken ts k t came within is =
    ap (λ (x : Todo). x.came) is ∙ sym (get_or-map (λ (x : Todo). x.came) ts k t 0 within) ∙ ap (λ (l : List ℕ). slice_index_or l k 0) came ∙ math.get_or-map (λ (ms : List Message). length ms) taken k []

-- what holds the same and has the same rest has the same left
pub same_left : (a b : Todo) → a.held ≡ b.held → a.rest ≡ b.rest → left_of a ≡ left_of b
same_left a b held rest = λ i. option_to_list (held i) ++ into_iter_items (rest i)
