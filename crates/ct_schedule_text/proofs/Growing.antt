-- What is told grows, so that a number that reaches 2^62 does so at the end, too.
use Rattle.std.proofs.Common.{◌≡◌, ◌≢◌, ◌∙◌, ◌+◌, ◌<◌, ◌≤◌, ◌^◌, ◌++◌, ◌⊎◌, inl, inr, ℕ, suc, true, false, Bool, cond, List, [], ◌∷◌, length, drop, get_or, Option, None, Some, refl, sym, ap, subst, arith, ⊎_elim, add-one, drop-cons}
use Rattle.std.proofs.lemmas.List.{length-replicate}
use Rattle.std.proofs.lemmas.Option.{same_Some}
use Rattle.ct_values.specs.declared.client.Answer.{Answer}
use Rattle.ct_values.specs.declared.config.Config.{Config}
use Rattle.ct_frame.specs.declared.event.Event.{Event}
use Rattle.ct_frame.specs.declared.event.Event.TheVariants as event
use Rattle.ct_frame.specs.declared.event.Out.{Out}
use Rattle.ct_frame.specs.declared.event.Out.TheVariants as out
use Rattle.ct_rules_cluster.specs.declared.step.Line.{Line}
use Rattle.ct_journal.specs.Order.{first_front, next_entry}
use Rattle.ct_journal.proofs.Ends.{size_after}
use Rattle.ct_journal.specs.declared.journal.Journal.{Journal}
use Rattle.ct_journal.specs.declared.journal.JournalEntry.{JournalEntry}
use Rattle.ct_schedule_text.specs.Telling.{AddsLines, AreUntold, IsPastLimit, Telling, ToldLines, entry_passed, first_telling, lines_before, lines_then, names_no_call, open_call, told_answered, told_entry, told_event, told_from, told_if_next, told_out, told_outs}
use Rattle.ct_schedule_text.specs.declared.telling.Asked.{Asked}
use Rattle.ct_schedule_text.proofs.Adding.{Text, text_after}

-- ---- no number falls, and each journal keeps its place

pub record Grows (t v : Telling) : Type 0 where
  pub sent : t.sent ≤ v.sent
  pub asked : t.asked ≤ v.asked
  pub places : length v.front.taken ≡ length t.front.taken

-- whatever is told grows
abbrev pub GrowsTo : Telling → Option ToldLines → Type 0
GrowsTo t None = Unit {0}
GrowsTo t (Some u) = Grows t u.telling

pub stays : (t : Telling) → Grows t t
stays t = record { sent = omega arith; asked = omega arith; places = refl }

grows_on : {a b c : Telling} → Grows a b → Grows b c → Grows a c
grows_on g h = record { sent = omega (arith, g.sent, h.sent); asked = omega (arith, g.asked, h.asked); places = h.places ∙ g.places }

grows_before : (t s : Telling) (ls : List Line) (o : Option ToldLines) → Grows t s → GrowsTo s o → GrowsTo t (lines_before ls o)
unfolding lines_before
grows_before t s ls None g h = tt
grows_before t s ls (Some u) g h = grows_on g h

pub grows_then : (t : Telling) (o : Option ToldLines) (go : Telling → Option ToldLines) → GrowsTo t o → ((s : Telling) → GrowsTo s (go s)) → GrowsTo t (lines_then o go)
unfolding lines_then
grows_then t None go g h = tt
grows_then t (Some u) go g h = grows_before t u.telling u.lines (go u.telling) g (h u.telling)

grows_answered : (node call : ℕ) (a : Answer) (t : Telling) (x : Option Asked) → GrowsTo t (told_answered node call a t x)
unfolding told_answered
grows_answered node call a t None = tt
grows_answered node call a t (Some x) = record { sent = omega arith; asked = omega arith; places = refl }

pub grows_out : (node : ℕ) (o : Out) (t : Telling) → GrowsTo t (told_out node o t)
unfolding told_out
grows_out node (out.Send f) t = record { sent = omega arith; asked = omega arith; places = refl }
grows_out node (out.Answer call a) t = by (names_no_call a)
  where
    by : (b : Bool) → GrowsTo t (cond b (told_answered node call a t (open_call node call t.calls)) None)
    by true = grows_answered node call a t (open_call node call t.calls)
    by false = tt
grows_out node (out.Note x) t = stays t

pub grows_outs : (node : ℕ) (os : List Out) (t : Telling) → GrowsTo t (told_outs node os t)
unfolding told_outs
grows_outs node [] t = stays t
grows_outs node (o ∷ os) t = grows_then t (told_out node o t) (told_outs node os) (grows_out node o t) (λ s. grows_outs node os s)

pub grows_event : (node : ℕ) (e : Event) (t : Telling) → GrowsTo t (told_event node e t)
unfolding told_event
grows_event node (event.Client call o) t = record { sent = omega arith; asked = omega arith; places = refl }
grows_event node (event.Arrive m) t = stays t
grows_event node (event.BeginRound ticket members) t = record { sent = omega arith; asked = omega arith; places = refl }
grows_event node event.Retry t = tt
grows_event node (event.Vacuum db) t = tt
grows_event node (event.BeginTakeover able) t = tt

passed : (node : ℕ) (e : Event) (t : Telling) → Grows t (entry_passed node e t)
unfolding entry_passed
passed node e t = record { sent = omega arith; asked = omega arith; places = size_after t.front node e }

-- what an entry's node does, once the entry is told
pub grows_passed : (node : ℕ) (x : JournalEntry) (s : Telling) → GrowsTo s (told_outs node x.outs (entry_passed node x.event s))
grows_passed node x s = of (told_outs node x.outs (entry_passed node x.event s)) (grows_outs node x.outs (entry_passed node x.event s))
  where
    of : (o : Option ToldLines) → GrowsTo (entry_passed node x.event s) o → GrowsTo s o
    of None g = tt
    of (Some u) g = grows_on (passed node x.event s) g

pub grows_entry : (node : ℕ) (x : JournalEntry) (t : Telling) → GrowsTo t (told_entry node x t)
unfolding told_entry
grows_entry node x t = grows_then t (told_event node x.event t) _ (grows_event node x.event t) (λ s. grows_passed node x s)

pub grows_next : (node : ℕ) (x : Option JournalEntry) (t : Telling) → GrowsTo t (told_if_next node x t)
unfolding told_if_next
grows_next node None t = tt
grows_next node (Some x) t = grows_entry node x t

pub grows_from : (js : List Journal) (ns : List ℕ) (t : Telling) → GrowsTo t (told_from js ns t)
unfolding told_from
grows_from js [] t = stays t
grows_from js (n ∷ ns) t = grows_then t (told_if_next n (next_entry js t.front n) t) (told_from js ns) (grows_next n (next_entry js t.front n) t) (λ s. grows_from js ns s)

-- ---- what is not told

past_on : {a b : Telling} → Grows a b → IsPastLimit a → IsPastLimit b
past_on {a} {b} g p = ⊎_elim (λ (s : 2 ^ 62 ≤ a.sent). inl (omega (arith, s, g.sent))) (λ (s : 2 ^ 62 ≤ a.asked). inr (omega (arith, s, g.asked))) p

-- what is told first is not, so that it is not told with what follows
pub fails_first : (c : Config) (o : Option ToldLines) (go : Telling → Option ToldLines) (s t : Telling) (before amid old now : List ℕ) → ((s : Telling) → GrowsTo s (go s)) → AddsLines c false o s before amid
    → AddsLines c false (lines_then o go) t old now
unfolding lines_then lines_before
fails_first c None go s t before amid old now grows h = tt
fails_first c (Some u) go s t before amid old now grows h = of (go u.telling) (grows u.telling)
  where
    of : (o : Option ToldLines) → GrowsTo u.telling o → AddsLines c false (lines_before u.lines o) t old now
    of None g = tt
    of (Some v) g = past_on g h

-- what comes to a node is not told, and so the entry
pub entry_fails : (c : Config) (node : ℕ) (x : JournalEntry) (s t : Telling) (before now : List ℕ) → AddsLines c false (told_event node x.event s) t before now → AddsLines c false (told_entry node x s) t before now
unfolding told_entry
entry_fails c node x s t before now h = fails_first c (told_event node x.event s) _ t t before now before now (λ u. grows_passed node x u) h

-- what is told first is told, and what follows is not
pub fails_second : (c : Config) (o : Option ToldLines) (go : Telling → Option ToldLines) (s t : Telling) (before amid now : List ℕ) → AddsLines c true o s before amid → AddsLines c false (go s) t amid now
    → AddsLines c false (lines_then o go) t before now
unfolding lines_then lines_before
fails_second c None go s t before amid now h k = absurd h
fails_second c (Some u) go s t before amid now h k = of (go u.telling) (subst (λ (x : Telling). AddsLines c false (go x) t amid now) h.0 k)
  where
    of : (o : Option ToldLines) → AddsLines c false o t amid now → AddsLines c false (lines_before u.lines o) t before now
    of None k = tt
    of (Some v) k = k

-- what is told of the rest is not, and so what is told of all
pub fails_so : (c : Config) (rest whole : Option ToldLines) (s t : Telling) (amid before now : List ℕ) → text_after c amid rest ≡ text_after c before whole → AddsLines c false rest s amid now → AddsLines c false whole t before now
fails_so c rest None s t amid before now e h = tt
fails_so c None (Some u) s t amid before now e h = absurd (cc)
fails_so c (Some v) (Some u) s t amid before now e h = subst (λ (x : Telling). IsPastLimit x) (ap (λ (x : Text). x.telling) (same_Some _ _ e)) h

-- ---- all

-- an entry of a list of what a node does is not told
pub outs_fail : (c : Config) (node : ℕ) (os : List Out) (i : ℕ) (o : Out) (s t w : Telling) (amid now before : List ℕ) → i < length os → o ≡ get_or os i o
    → AddsLines c false (told_out node o s) t amid now → text_after c amid (told_outs node (drop i os) s) ≡ text_after c before (told_outs node os w) → AddsLines c false (told_outs node os w) t before now
unfolding told_outs
outs_fail c node os i o s t w amid now before l is fails left =
    let all : drop i os ≡ o ∷ drop (suc i) os = drop-cons os i o l ∙ ap (λ (u : Out). u ∷ drop (suc i) os) (sym is) in
    fails_so c (told_outs node (drop i os) s) (told_outs node os w) t t amid before now left
    (subst (λ (xs : List Out). AddsLines c false (told_outs node xs s) t amid now) (sym all)
    (fails_first c (told_out node o s) (told_outs node (drop (suc i) os)) t t amid now amid now (λ u. grows_outs node (drop (suc i) os) u) fails))

-- an entry of journals is not told
pub from_fails : (c : Config) (js : List Journal) (ns : List ℕ) (i d : ℕ) (s t w : Telling) (amid now before : List ℕ) → i < length ns
    → AddsLines c false (told_if_next (get_or ns i d) (next_entry js s.front (get_or ns i d)) s) t amid now → text_after c amid (told_from js (drop i ns) s) ≡ text_after c before (told_from js ns w) → AddsLines c false (told_from js ns w) t before now
unfolding told_from
from_fails c js ns i d s t w amid now before l fails left =
    let n = get_or ns i d in
    fails_so c (told_from js (drop i ns) s) (told_from js ns w) t t amid before now left
    (subst (λ (xs : List ℕ). AddsLines c false (told_from js xs s) t amid now) (sym (drop-cons ns i d l))
    (fails_first c (told_if_next n (next_entry js s.front n) s) (told_from js (drop (suc i) ns)) t t amid now amid now (λ u. grows_from js (drop (suc i) ns) u) fails))

-- journals keep their places where the next entry is told
pub next_places : (c : Config) (js : List Journal) (node : ℕ) (s t : Telling) (before now : List ℕ) → AddsLines c true (told_if_next node (next_entry js s.front node) s) t before now → length t.front.taken ≡ length s.front.taken
next_places c js node s t before now h = of (told_if_next node (next_entry js s.front node) s) (grows_next node (next_entry js s.front node) s) h
  where
    of : (o : Option ToldLines) → GrowsTo s o → AddsLines c true o t before now → length t.front.taken ≡ length s.front.taken
    of None g h = absurd h
    of (Some u) g h = ap (λ (x : Telling). length x.front.taken) h.0 ∙ g.places

-- each journal has its place at first
pub first_places : (js : List Journal) (t : Telling) → t ≡ first_telling js → length t.front.taken ≡ length js
unfolding first_telling first_front
first_places js t e = ap (λ (x : Telling). length x.front.taken) e ∙ length-replicate (length js) 0

-- nothing is told of all: an entry is not, or a call is left open
pub are_untold : (c : Config) (js : List Journal) (order : List ℕ) (s t : Telling) (before now : List ℕ) → s ≡ first_telling js → AddsLines c false (told_from js order s) t before now → AreUntold js order
are_untold c js order s t before now first h u is = inr (let all : told_from js order s ≡ Some u = ap (told_from js order) first ∙ is in subst (λ (o : Option ToldLines). AddsLines c false o t before now) all h)

pub are_open : (c : Config) (js : List Journal) (order : List ℕ) (s t : Telling) (before now : List ℕ) → s ≡ first_telling js → AddsLines c true (told_from js order s) t before now → t.calls ≢ [] → AreUntold js order
are_open c js order s t before now first h left u is = inl (let all : told_from js order s ≡ Some u = ap (told_from js order) first ∙ is in
    let told : AddsLines c true (Some u) t before now = subst (λ (o : Option ToldLines). AddsLines c true o t before now) all h in
    λ none. left (ap (λ (x : Telling). x.calls) told.0 ∙ none))
