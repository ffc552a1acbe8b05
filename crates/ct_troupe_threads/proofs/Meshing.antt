-- What nodes leave that all had their turns.
use Rattle.std.proofs.Common.{◌≡◌, ◌∙◌, ℕ, zero, suc, List, [], ◌∷◌, length, map, Option, None, Some, refl, sym, ap, subst}
use Rattle.std.proofs.lemmas.List.{length-map}
use Rattle.std.proofs.lemmas.List.Elements.{All-cons, All-nil}
use Rattle.std.proofs.lemmas.Option.{same_Some}
use Rattle.std.specs.Prelude.{All, Result, slice_get}
use Rattle.ct_values.specs.declared.memory.NoMemory.{NoMemory}
use Rattle.ct_call.specs.Rules.{Rules}
use Rattle.ct_script.specs.declared.plan.Plan.{Plan}
use Rattle.ct_journal.specs.Order.{AreInOrder}
use Rattle.ct_journal.specs.declared.journal.Journal.{Journal}
use Rattle.ct_links.specs.declared.link.LinkTally.{LinkTally}
use Rattle.ct_script.specs.Sound.{IsSound}
use Rattle.ct_troupe.specs.Played.{ArePlayed}
use Rattle.ct_troupe_threads.specs.Meshed.{HadTurns, HasEnded}
use Rattle.ct_troupe_threads.specs.Threaded.{HasServed, served}
use Rattle.ct_troupe_threads.specs.declared.node.NodeEnd.{NodeEnd}
use Rattle.ct_troupe_threads.proofs.Threading.{AllServed, count_served, each_played, each_served}

module _ {X Y : Type 0} where
  -- what stands at a place comes of what stands there
  got_of : (f : X → Y) (xs : List X) (n : ℕ) (y : Y) → slice_get (map f xs) n ≡ Some y → (x : X) × (slice_get xs n ≡ Some x) × (f x ≡ y)
  got_of f [] n y e = absurd (cc)
  got_of f (x ∷ xs) zero y e = (x, refl, same_Some (f x) y e)
  got_of f (x ∷ xs) (suc n) y e = got_of f xs n y e

  all_of : (Q : Y → Type 0) (f : X → Y) (xs : List X) → ((n : ℕ) (x : X) → slice_get xs n ≡ Some x → Q (f x)) → All Q (map f xs)
  all_of Q f [] h = All-nil Q
  all_of Q f (x ∷ xs) h = All-cons Q (f x) (map f xs) (h 0 x refl) (all_of Q f xs (λ n. h (suc n)))

-- the journals of nodes that had their turns are those of a play
pub ends_played : (rules : Rules) (p : Plan) (all : List (Result (Option NodeEnd) NoMemory)) (ends : List NodeEnd) (js : List Journal) → IsSound p → length all ≡ p.config.nodes → AllServed (HasEnded rules p) all → all ≡ map served ends →
    js ≡ map (λ x. x.journal) ends → AreInOrder js → ArePlayed rules p js
ends_played rules p all ends js sound count h is js_is order =
    let each = each_served (HasEnded rules p) all ends h is in
    let n : length js ≡ p.config.nodes = ap (λ (ks : List Journal). length ks) js_is ∙ (length-map ends (λ (x : NodeEnd). x.journal) ∙ (sym (count_served all ends is) ∙ count)) in
    each_played rules p js sound n
    (λ n j e. (let g = got_of (λ (x : NodeEnd). x.journal) ends n j (sym (ap (λ (ks : List Journal). slice_get ks n) js_is) ∙ e) in subst (λ (k : Journal). HasServed rules p n k) g.2 (each n g.0 g.1).0))
    order

-- and the link of each answered so many looks, or the end
pub ends_turned : (rules : Rules) (p : Plan) (all : List (Result (Option NodeEnd) NoMemory)) (ends : List NodeEnd) (ts : List LinkTally) → length all ≡ p.config.nodes → AllServed (HasEnded rules p) all → all ≡ map served ends → ts ≡ map (λ x. x.tally) ends
    → (length ts ≡ p.config.nodes) × All HadTurns ts
ends_turned rules p all ends ts count h is ts_is =
    let each = each_served (HasEnded rules p) all ends h is in (
      ap (λ (us : List LinkTally). length us) ts_is ∙ (length-map ends (λ (x : NodeEnd). x.tally) ∙ (sym (count_served all ends is) ∙ count)),
      subst (λ (us : List LinkTally). All HadTurns us) (sym ts_is) (all_of HadTurns (λ (x : NodeEnd). x.tally) ends (λ n x e. (each n x e).1)),
    )
