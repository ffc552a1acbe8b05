-- The words of a bus, and the scripts that they make.
use Rattle.std.proofs.Common.{arith, ◌≡◌, ◌∙◌, ◌+◌, ◌-◌, ◌<◌, ◌≤◌, ◌^◌, ℕ, zero, suc, List, [], ◌∷◌, ◌++◌, length, map, refl, sym, ap, append_assoc, append-nil}
use Rattle.std.specs.Prelude.{Bool, true, false, if◌then◌else◌, Some, nat_eq, slice_get, slice_index_or}
use Rattle.std.specs.List.{range_with_len}
use Rattle.std.proofs.lemmas.List.{length-map}
use Rattle.std.proofs.lemmas.List.FromFn.{get_or-map-range_with_len, length-map-range_with_len}
use Rattle.std.proofs.lemmas.Bool.{eq-eqb}
use Rattle.std.proofs.lemmas.Option.{get_or_from_slice_get, slice_get_within}
use Rattle.rand_pcg.specs.Lcg.{Lcg}
use Rattle.rand_pcg.specs.Pcg.{pcg32}
use Rattle.ct_script.specs.Scripts.{drawn, generator_of}
use Rattle.ct_bus.specs.declared.message.Message.{Message}
use Rattle.ct_bus_exchange.specs.Exchange.{AreCounted, AreScripts, for_node}
use Rattle.ct_bus_run.specs.Generated.{after, generated, generated_by, generated_row, generated_to, message_of, messages_from, other_place, rounds, word_at}
use Rattle.ct_bus_run.specs.Numbers.{HasExchangeRange}
use Rattle.ct_bus_run.specs.declared.generated.BusWanted.{BusWanted}

-- ---- words

pub after_on : (count i w : ℕ) (g h whole : Lcg) → i < count → (w, h) ≡ pcg32 g → after (count - i) g ≡ whole → after (count - (i + 1)) h ≡ whole
after_on count i w g h whole lt e left =
    let m = count - (i + 1) in
    let more : count - i ≡ suc m = omega arith in
    ap (λ (p : ℕ × Lcg). after m p.1) e ∙ sym (ap (λ (k : ℕ). after k g) more) ∙ left

pub after_end : (count i : ℕ) (g whole : Lcg) → count ≤ i → after (count - i) g ≡ whole → g ≡ whole
after_end count i g whole le left = let none : count - i ≡ 0 = omega arith in sym (ap (λ (k : ℕ). after k g) none) ∙ left

-- none is there
pub rounds_first : (count others : ℕ) (g h : Lcg) (all : List (List ℕ)) → all ≡ [] → g ≡ h → all ++ rounds (count - 0) others g ≡ rounds count others h
rounds_first count others g h all none e = ap (λ (l : List (List ℕ)). l ++ rounds (count - 0) others g) none ∙ ap (λ (k : ℕ). rounds k others g) (omega arith) ∙ ap (rounds count others) e

pub rounds_on : (count i others : ℕ) (g h : Lcg) (words : List ℕ) (all next whole : List (List ℕ)) → i < count → words ≡ drawn others g → h ≡ after others g → next ≡ all ++ words ∷ [] → all ++ rounds (count - i) others g ≡ whole
    → next ++ rounds (count - (i + 1)) others h ≡ whole
rounds_on count i others g h words all next whole lt row later pushed left =
    let m = count - (i + 1) in
    let more : count - i ≡ suc m = omega arith in
    ap (λ (l : List (List ℕ)). l ++ rounds m others h) pushed ∙ append_assoc all (words ∷ []) (rounds m others h) ∙ ap (λ (r : List ℕ). all ++ r ∷ rounds m others h) row ∙ ap (λ (s : Lcg). all ++ drawn others g ∷ rounds m others s) later
    ∙ sym (ap (λ (k : ℕ). all ++ rounds k others g) more) ∙ left

pub rounds_end : (count i others : ℕ) (g : Lcg) (all whole : List (List ℕ)) → count ≤ i → all ++ rounds (count - i) others g ≡ whole → all ≡ whole
rounds_end count i others g all whole le left = let none : count - i ≡ 0 = omega arith in sym (append-nil all) ∙ sym (ap (λ (k : ℕ). all ++ rounds k others g) none) ∙ left

pub rounds_many : (count others : ℕ) (g : Lcg) → length (rounds count others g) ≡ count
rounds_many zero others g = refl
rounds_many (suc n) others g = ap suc (rounds_many n others (after others g))

-- ---- messages

counted_from : (place : ℕ) (ws : List ℕ) (i : ℕ) (m : Message) → slice_get (messages_from place ws) i ≡ Some m → m.place ≡ place + i
counted_from place [] i m e = absurd (cc)
counted_from place (w ∷ ws) zero m e = let s : message_of place w ≡ m = cc in ap (λ (x : Message). x.place) (sym s) ∙ omega arith
counted_from place (w ∷ ws) (suc i) m e = counted_from (place + 1) ws i m e ∙ omega arith

messages_many : (place : ℕ) (ws : List ℕ) → length (messages_from place ws) ≡ length ws
messages_many place [] = refl
messages_many place (w ∷ ws) = ap suc (messages_many (place + 1) ws)

-- what holds of each made of a number of a range, and of the default, holds of the one at a place
at_range : {X : Type 0} (f : ℕ → X) (P : X → Type 0) (d : X) (a n i : ℕ) → ((k : ℕ) → k ≡ a + i → P (f k)) → P d → P (slice_index_or (map f (range_with_len a n)) i d)
at_range f P d a zero i each none = none
at_range f P d a (suc n) zero each none = each a (omega arith)
at_range f P d a (suc n) (suc i) each none = at_range f P d (a + 1) n i (λ k e. each k (omega (arith, e))) none

generated_counted : (all : List (List ℕ)) (sender receiver : ℕ) → AreCounted (generated_to all sender receiver)
generated_counted all sender receiver = of (nat_eq receiver sender)
  where
    of : (same : Bool) → AreCounted (if same then [] else messages_from 0 (map (word_at (other_place sender receiver)) all))
    of true place m e = absurd (cc)
    of false place m e = counted_from 0 (map (word_at (other_place sender receiver)) all) place m e ∙ omega arith

generated_few : (all : List (List ℕ)) (sender receiver : ℕ) → length (generated_to all sender receiver) ≤ length all
generated_few all sender receiver = of (nat_eq receiver sender)
  where
    of : (same : Bool) → length (if same then [] else messages_from 0 (map (word_at (other_place sender receiver)) all)) ≤ length all
    of true = omega arith
    of false = let a = messages_many 0 (map (word_at (other_place sender receiver)) all) in let b = length-map all (word_at (other_place sender receiver)) in omega arith

generated_alone : (all : List (List ℕ)) (sender receiver : ℕ) → receiver ≡ sender → generated_to all sender receiver ≡ []
generated_alone all sender receiver same = ap (λ (b : Bool). if b then [] else messages_from 0 (map (word_at (other_place sender receiver)) all)) (eq-eqb receiver sender same)

pub generated_sound : (x : BusWanted) → HasExchangeRange x → AreScripts (generated x)
generated_sound x h = record {
  nodes = (let n = length-map-range_with_len (generated_row x) 0 x.nodes in let a = h.some_nodes in let b = h.few_nodes in (omega arith, omega arith));
  square = λ sender row e. (
      let n = length-map-range_with_len (generated_row x) 0 x.nodes in
      let within = slice_get_within (generated x) sender row e in
      let is : row ≡ generated_row x sender = sym (get_or_from_slice_get (generated x) sender row row e) ∙ get_or-map-range_with_len (generated_row x) 0 x.nodes sender sender row (omega arith) (omega arith) in
      ap (λ (r : List (List Message)). length r) is ∙ length-map-range_with_len (generated_to (generated_by x sender) sender) 0 x.nodes ∙ sym n
      );
  alone = λ node. at_range (generated_row x) (λ (row : List (List Message)). for_node node row ≡ []) [] 0 x.nodes node
      (λ s is. at_range (generated_to (generated_by x s) s) (λ (ms : List Message). ms ≡ []) [] 0 x.nodes node (λ r it. generated_alone (generated_by x s) s r (it ∙ sym is)) refl) refl;
  counted = λ sender receiver. at_range (generated_row x) (λ (row : List (List Message)). AreCounted (for_node receiver row)) [] 0 x.nodes sender
      (λ s is. at_range (generated_to (generated_by x s) s) (λ (ms : List Message). AreCounted ms) [] 0 x.nodes receiver (λ r it. generated_counted (generated_by x s) s r) (λ p m e. absurd (cc))) (λ p m e. absurd (cc));
  few = λ sender receiver. at_range (generated_row x) (λ (row : List (List Message)). length (for_node receiver row) < 2 ^ 61) [] 0 x.nodes sender
      (λ s is. at_range (generated_to (generated_by x s) s) (λ (ms : List Message). length ms < 2 ^ 61) [] 0 x.nodes receiver
      (λ r it. (let f = generated_few (generated_by x s) s r in let m = rounds_many x.messages (x.nodes - 1) (generator_of x.seed s) in let l = h.few_messages in omega arith)) (omega arith)) (omega arith);
}
