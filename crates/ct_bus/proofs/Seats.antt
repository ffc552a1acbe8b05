-- Ends of a seat, one of which has changed.
use Rattle.std.proofs.Common.{◌≡◌, ◌∙◌, ℕ, ◌<◌, ◌≤◌, List, [], ◌∷◌, ◌++◌, length, map, set, sym, ap, subst}
use Rattle.std.specs.Prelude.{MatchOption, MatchResult, None, Option, Ok, Err, Result, Some, slice_get, slice_index_or}
use Rattle.atomic_table.specs.Seated.{TableId}
use Rattle.std.proofs.Math.Seq.{map-set_same}
use Rattle.std.proofs.lemmas.List.{get_or-map, length-map, map-set}
use Rattle.std.proofs.lemmas.Option.{get_or_from_slice_get, slice_get_within}
use Rattle.ct_bus.specs.Ends.{posted_to, taken_from, into_queue, out_queue}
use Rattle.ct_bus.specs.Relay.{message}
use Rattle.ct_bus.specs.Seats.{Shown, messages_of}
use Rattle.ct_bus.specs.declared.message.Message.{Message}
use Rattle.ct_bus.specs.declared.ends.PostEnd.{PostEnd}
use Rattle.ct_bus.specs.declared.ends.TakeEnd.{TakeEnd}

-- ---- ends that post

pub posted_there : (es : List PostEnd) (n : ℕ) (e : PostEnd) → n < length es → e ≡ slice_index_or es n e → slice_index_or (map posted_to es) n [] ≡ posted_to e
posted_there es n e within is = get_or-map posted_to es n e [] within ∙ ap posted_to (sym is)

pub queues_stay : (es : List PostEnd) (n : ℕ) (x y : PostEnd) → x ≡ slice_index_or es n x → into_queue y ≡ into_queue x → map into_queue (set es n y) ≡ map into_queue es
queues_stay es n x y is same = map-set_same into_queue es n y x (same ∙ ap into_queue is)

pub posts_change : (es : List PostEnd) (n : ℕ) (y : PostEnd) (ms : List Message) → posted_to y ≡ ms → map posted_to (set es n y) ≡ set (map posted_to es) n ms
posts_change es n y ms is = map-set posted_to es n y ∙ ap (λ (x : List Message). set (map posted_to es) n x) is

pub posts_stay : (es : List PostEnd) (n : ℕ) (x y : PostEnd) → x ≡ slice_index_or es n x → posted_to y ≡ posted_to x → map posted_to (set es n y) ≡ map posted_to es
posts_stay es n x y is same = map-set_same posted_to es n y x (same ∙ ap posted_to is)

-- ---- ends that take

pub taken_there : (es : List TakeEnd) (n : ℕ) (e : TakeEnd) → n < length es → e ≡ slice_index_or es n e → slice_index_or (map taken_from es) n [] ≡ taken_from e
taken_there es n e within is = get_or-map taken_from es n e [] within ∙ ap taken_from (sym is)

pub outs_stay : (es : List TakeEnd) (n : ℕ) (x y : TakeEnd) → x ≡ slice_index_or es n x → out_queue y ≡ out_queue x → map out_queue (set es n y) ≡ map out_queue es
outs_stay es n x y is same = map-set_same out_queue es n y x (same ∙ ap out_queue is)

pub takes_change : (es : List TakeEnd) (n : ℕ) (y : TakeEnd) (ms : List Message) → taken_from y ≡ ms → map taken_from (set es n y) ≡ set (map taken_from es) n ms
takes_change es n y ms is = map-set taken_from es n y ∙ ap (λ (x : List Message). set (map taken_from es) n x) is

pub takes_stay : (es : List TakeEnd) (n : ℕ) (x y : TakeEnd) → x ≡ slice_index_or es n x → taken_from y ≡ taken_from x → map taken_from (set es n y) ≡ map taken_from es
takes_stay es n x y is same = map-set_same taken_from es n y x (same ∙ ap taken_from is)

pub out_there : (es : List TakeEnd) (n : ℕ) (e : TakeEnd) (q : TableId) → e ≡ slice_index_or es n e → slice_get (map out_queue es) n ≡ Some q → out_queue e ≡ q
out_there es n e q is at = ap out_queue is ∙ sym (get_or-map out_queue es n e (out_queue e) (subst (λ (k : ℕ). n < k) (length-map es out_queue) (slice_get_within (map out_queue es) n q at))) ∙ get_or_from_slice_get (map out_queue es) n q (out_queue e) at

-- ---- calls

-- a post to an end, as the seat shows it
pub posts : (es : List PostEnd) (n : ℕ) (x y : PostEnd) (result : Result ℕ (List ℕ)) (srvid : ℕ) (body : List ℕ) → n < length es → x ≡ slice_index_or es n x
    → MatchResult result (λ place. (place ≡ length (posted_to x)) × (posted_to y ≡ posted_to x ++ message srvid place body ∷ [])) (λ back. (back ≡ body) × (posted_to y ≡ posted_to x) × (64 ≤ length (posted_to x)))
    → MatchResult result (λ place. (place ≡ length (messages_of n (map posted_to es))) × (map posted_to (set es n y) ≡ set (map posted_to es) n (messages_of n (map posted_to es) ++ message srvid place body ∷ [])))
    (λ back. (back ≡ body) × (map posted_to (set es n y) ≡ map posted_to es) × (64 ≤ length (messages_of n (map posted_to es))))
posts es n x y (Ok place) srvid body within is h = let there = posted_there es n x within is in (
  h.0 ∙ ap (λ (ms : List Message). length ms) (sym there),
  posts_change es n y (messages_of n (map posted_to es) ++ message srvid place body ∷ []) (h.1 ∙ ap (λ (ms : List Message). ms ++ message srvid place body ∷ []) (sym there)),
)
posts es n x y (Err back) srvid body within is h = let there = posted_there es n x within is in
    (h.0, posts_stay es n x y is h.1, subst (λ (ms : List Message). 64 ≤ length ms) (sym there) h.2)

-- a poll of an end, as the seat shows it
pub polls : (es : List TakeEnd) (n : ℕ) (x y : TakeEnd) (result : Option Message) → n < length es → x ≡ slice_index_or es n x
    → MatchOption result (taken_from y ≡ taken_from x) (λ m. taken_from y ≡ taken_from x ++ m ∷ [])
    → MatchOption result (map taken_from (set es n y) ≡ map taken_from es) (λ m. map taken_from (set es n y) ≡ set (map taken_from es) n (messages_of n (map taken_from es) ++ m ∷ []))
polls es n x y None within is h = takes_stay es n x y is h
polls es n x y (Some m) within is h = takes_change es n y (messages_of n (map taken_from es) ++ m ∷ []) (h ∙ ap (λ (ms : List Message). ms ++ m ∷ []) (sym (taken_there es n x within is)))

-- ---- seats

abbrev shown : ℕ → List TableId → List (List Message) → Shown
shown node queues messages = record { node = node; queues = queues; messages = messages }

-- an end that shows the same leaves the seat as it was
pub seat_stays : (node : ℕ) (es : List PostEnd) (n : ℕ) (x y : PostEnd) → x ≡ slice_index_or es n x → into_queue y ≡ into_queue x → posted_to y ≡ posted_to x
    → shown node (map into_queue (set es n y)) (map posted_to (set es n y)) ≡ shown node (map into_queue es) (map posted_to es)
seat_stays node es n x y is queue same = ap (λ (qs : List TableId). shown node qs (map posted_to (set es n y))) (queues_stay es n x y is queue) ∙ ap (λ (ms : List (List Message)). shown node (map into_queue es) ms) (posts_stay es n x y is same)
