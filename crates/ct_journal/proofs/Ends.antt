-- Whoever puts whatever may stand ends with all entries, where any list has them all.
use Rattle.std.proofs.Common.{◌≡◌, ◌≢◌, ℕ, zero, suc, ◌+◌, ◌<◌, ◌≤◌, ◌⊎◌, inl, inr, ⊎_elim, List, [], ◌∷◌, length, set, Some, arith, refl, sym, ap, ◌∙◌, subst, Option}
use Rattle.std.proofs.lemmas.Bool.{cases_eq, cases_lt}
use Rattle.std.proofs.lemmas.List.{length-set}
use Rattle.std.specs.Prelude.{replicate, slice_get}
use Rattle.std.proofs.lemmas.Option.{slice_get_past}
use Rattle.ct_frame.specs.declared.event.Event.{Event}
use Rattle.ct_frame.specs.declared.event.Event.TheVariants as event
use Rattle.ct_rules_node.specs.Node.{or_zero}
use Rattle.ct_journal.proofs.Later.{arrives_later}
use Rattle.ct_journal.specs.Going.{AnyWayEnds, IsStuck, IsWhole, IsWithin}
use Rattle.ct_journal.specs.Order.{Front, MayStand, Stand, entries_of, first_front, front_after, next_entry, or_no_entries, taken_of, ticket_after}
use Rattle.ct_journal.specs.declared.journal.Journal.{Journal}
use Rattle.ct_journal.specs.declared.journal.JournalEntry.{JournalEntry}

-- ---- lists

pub got_set : (xs : List ℕ) (n x : ℕ) → n < length xs → slice_get (set xs n x) n ≡ Some x
got_set [] n x l = absurd (omega arith)
got_set (y ∷ ys) zero x l = refl
got_set (y ∷ ys) (suc n) x l = got_set ys n x (omega arith)

got_most : (xs : List ℕ) (n x : ℕ) → or_zero (slice_get (set xs n x) n) ≤ x
unfolding or_zero
got_most [] n x = omega arith
got_most (y ∷ ys) zero x = omega arith
got_most (y ∷ ys) (suc n) x = got_most ys n x

pub got_other : (xs : List ℕ) (n m x : ℕ) → m ≢ n → slice_get (set xs n x) m ≡ slice_get xs m
got_other [] n m x ne = refl
got_other (y ∷ ys) zero zero x ne = absurd (ne refl)
got_other (y ∷ ys) zero (suc m) x ne = refl
got_other (y ∷ ys) (suc n) zero x ne = refl
got_other (y ∷ ys) (suc n) (suc m) x ne = got_other ys n m x (λ e. ne (ap suc e))

got_short : (xs : List JournalEntry) (i : ℕ) (x : JournalEntry) → slice_get xs i ≡ Some x → i < length xs
got_short [] i x e = absurd (cc)
got_short (y ∷ ys) zero x e = omega arith
got_short (y ∷ ys) (suc i) x e = let l = got_short ys i x e in omega arith

pub none_taken : (k m : ℕ) → or_zero (slice_get (replicate k 0) m) ≡ 0
unfolding or_zero
none_taken zero m = refl
none_taken (suc k) zero = refl
none_taken (suc k) (suc m) = none_taken k m

pub replicated : (k x : ℕ) → length (replicate k x) ≡ k
replicated zero x = refl
replicated (suc k) x = ap suc (replicated k x)

-- who has an entry has a journal
pub is_there : (js : List Journal) (n k : ℕ) (x : JournalEntry) → slice_get (or_no_entries (slice_get js n)) k ≡ Some x → n < length js
unfolding or_no_entries
is_there [] n k x e = absurd (cc)
is_there (j ∷ js) zero k x e = omega arith
is_there (j ∷ js) (suc n) k x e = let l = is_there js n k x e in omega arith

-- ---- one entry more

pub taken_other : (f : Front) (n m : ℕ) (e : Event) → m ≢ n → taken_of (front_after n e f) m ≡ taken_of f m
unfolding taken_of front_after
taken_other f n m e ne = ap or_zero (got_other f.taken n m (or_zero (slice_get f.taken n) + 1) ne)

pub taken_own : (f : Front) (n : ℕ) (e : Event) → n < length f.taken → taken_of (front_after n e f) n ≡ taken_of f n + 1
unfolding taken_of front_after or_zero
taken_own f n e l = ap or_zero (got_set f.taken n (or_zero (slice_get f.taken n) + 1) l)

taken_most : (f : Front) (n : ℕ) (e : Event) → taken_of (front_after n e f) n ≤ taken_of f n + 1
unfolding taken_of front_after
taken_most f n e = got_most f.taken n (or_zero (slice_get f.taken n) + 1)

taken_grows : (f : Front) (n m : ℕ) (e : Event) → n < length f.taken → taken_of f m ≤ taken_of (front_after n e f) m
taken_grows f n m e l = ⊎_elim
    (λ (same : m ≡ n). subst (λ (k : ℕ). taken_of f k ≤ taken_of (front_after n e f) k) (sym same) (let o = taken_own f n e l in omega arith))
    (λ (ne : m ≡ n → ⊥). (let o = taken_other f n m e ne in omega arith))
    (cases_eq m n)

-- the ticket of a front is never less
rises : (js : List Journal) (f : Front) (n : ℕ) (e : Event) → MayStand js f n e → f.ticket ≤ ticket_after e f.ticket
unfolding MayStand ticket_after
rises js f n (event.BeginRound t members) may = (let same = may.0 in omega arith)
rises js f n _ may = omega arith

-- a ticket that was given was given before, or is that of the round that comes
newly : (js : List Journal) (f : Front) (n : ℕ) (e : Event) (t : ℕ) → MayStand js f n e → t ≤ ticket_after e f.ticket → (t ≤ f.ticket) ⊎ ((members : List ℕ) × (e ≡ event.BeginRound t members))
unfolding MayStand ticket_after
newly js f n (event.BeginRound u members) t may l = ⊎_elim
    (λ (same : t ≡ u). inr (members, ap (λ (k : ℕ). event.BeginRound k members) (sym same)))
    (λ (ne : t ≡ u → ⊥). inl (let same = may.0 in omega arith))
    (cases_eq t u)
newly js f n _ t may l = inl l

ticket_is : (e : Event) (last t : ℕ) (members : List ℕ) → e ≡ event.BeginRound t members → ticket_after e last ≡ t
unfolding ticket_after
ticket_is e last t members is = ap (λ (d : Event). ticket_after d last) is

-- a round that may stand has the next ticket
next_ticket : (js : List Journal) (f : Front) (n : ℕ) (e : Event) (t : ℕ) (members : List ℕ) → e ≡ event.BeginRound t members → MayStand js f n e → t ≡ f.ticket + 1
unfolding MayStand
next_ticket js f n e t members is may = (subst (λ (d : Event). MayStand js f n d) is may).0

-- ---- the rounds of a front

-- a round of this ticket is entry i of node m
RoundAt : List Journal → ℕ → ℕ → ℕ → Type 0
RoundAt js t m i = (x : JournalEntry) × (members : List ℕ) × (slice_get (entries_of js m) i ≡ Some x) × (x.event ≡ event.BeginRound t members)

-- what holds of each front that is reached: its rounds have exactly the tickets from 2 to its last one
record Counted (js : List Journal) (f : Front) : Type 0 where
  size : length f.taken ≡ length js
  bound : (m : ℕ) → taken_of f m ≤ length (entries_of js m)
  one : 1 ≤ f.ticket
  given : (t : ℕ) → 1 < t → t ≤ f.ticket → (m : ℕ) × (i : ℕ) × (i < taken_of f m) × (RoundAt js t m i)
  past : (m i t : ℕ) → i < taken_of f m → RoundAt js t m i → t ≤ f.ticket

counted_first : (js : List Journal) → Counted js (first_front js)
unfolding first_front taken_of
counted_first js = record {
  size = replicated (length js) 0;
  bound = λ m. (let z = none_taken (length js) m in omega arith);
  one = omega arith;
  given = λ t a b. absurd (omega arith);
  past = λ m i t l at. absurd (let z = none_taken (length js) m in omega arith);
}

-- the entry that comes next is that of the round
same_entry : (js : List Journal) (f : Front) (n t : ℕ) (x : JournalEntry) → next_entry js f n ≡ Some x → RoundAt js t n (taken_of f n) → (members : List ℕ) × (x.event ≡ event.BeginRound t members)
unfolding next_entry RoundAt
same_entry js f n t x next at = (at.1, let same : x ≡ at.0 = (let a = at.2 in cc) in ap (λ (y : JournalEntry). y.event) same ∙ at.3)

has_journal : (js : List Journal) (f : Front) (n : ℕ) (x : JournalEntry) → Counted js f → next_entry js f n ≡ Some x → n < length f.taken
unfolding next_entry entries_of
has_journal js f n x h next = let l = is_there js n (taken_of f n) x next in let s = h.size in omega arith

pub size_after : (f : Front) (n : ℕ) (e : Event) → length (front_after n e f).taken ≡ length f.taken
unfolding front_after
size_after f n e = length-set f.taken n (taken_of f n + 1)

ticket_of : (f : Front) (n : ℕ) (e : Event) → (front_after n e f).ticket ≡ ticket_after e f.ticket
unfolding front_after
ticket_of f n e = refl

grows : (js : List Journal) (f : Front) (n : ℕ) (e : Event) → MayStand js f n e → f.ticket ≤ (front_after n e f).ticket
grows js f n e may = subst (λ (k : ℕ). f.ticket ≤ k) (sym (ticket_of f n e)) (rises js f n e may)

short_next : (js : List Journal) (f : Front) (n : ℕ) (x : JournalEntry) → next_entry js f n ≡ Some x → taken_of f n < length (entries_of js n)
unfolding next_entry
short_next js f n x next = got_short (entries_of js n) (taken_of f n) x next

bound_after : (js : List Journal) (f : Front) (n : ℕ) (x : JournalEntry) → Counted js f → next_entry js f n ≡ Some x → (m : ℕ) → taken_of (front_after n x.event f) m ≤ length (entries_of js m)
bound_after js f n x h next m = ⊎_elim
    (λ (same : m ≡ n). subst (λ (k : ℕ). taken_of (front_after n x.event f) k ≤ length (entries_of js k)) (sym same) (let o = taken_most f n x.event in let s = short_next js f n x next in omega arith))
    (λ (ne : m ≡ n → ⊥). (let o = taken_other f n m x.event ne in let b = h.bound m in omega arith))
    (cases_eq m n)

own_round : (js : List Journal) (f : Front) (n t : ℕ) (x : JournalEntry) (members : List ℕ) → next_entry js f n ≡ Some x → x.event ≡ event.BeginRound t members → RoundAt js t n (taken_of f n)
unfolding next_entry RoundAt
own_round js f n t x members next is = (x, members, next, is)

given_after : (js : List Journal) (f : Front) (n : ℕ) (x : JournalEntry) → Counted js f → next_entry js f n ≡ Some x → MayStand js f n x.event → (t : ℕ) → 1 < t → t ≤ (front_after n x.event f).ticket →
    (m : ℕ) × (i : ℕ) × (i < taken_of (front_after n x.event f) m) × (RoundAt js t m i)
given_after js f n x h next may t above l = ⊎_elim
    (λ (old : t ≤ f.ticket). (let g = h.given t above old in let more = taken_grows f n g.0 x.event (has_journal js f n x h next) in (g.0, g.1, omega (arith, g.2, more), g.3)))
    (λ (new : (members : List ℕ) × (x.event ≡ event.BeginRound t members)). (n, taken_of f n, (let o = taken_own f n x.event (has_journal js f n x h next) in omega arith), own_round js f n t x new.0 next new.1))
    (newly js f n x.event t may (subst (λ (k : ℕ). t ≤ k) (ticket_of f n x.event) l))

-- a round that is the entry that comes has the next front's ticket
own_ticket : (js : List Journal) (f : Front) (n t : ℕ) (x : JournalEntry) → next_entry js f n ≡ Some x → RoundAt js t n (taken_of f n) → (front_after n x.event f).ticket ≡ t
own_ticket js f n t x next at = let r = same_entry js f n t x next at in ticket_of f n x.event ∙ ticket_is x.event f.ticket t r.0 r.1

past_after : (js : List Journal) (f : Front) (n : ℕ) (x : JournalEntry) → Counted js f → next_entry js f n ≡ Some x → MayStand js f n x.event → (m i t : ℕ) → i < taken_of (front_after n x.event f) m → RoundAt js t m i →
    t ≤ (front_after n x.event f).ticket
past_after js f n x h next may m i t l at = let g = grows js f n x.event may in ⊎_elim
    (λ (old : i < taken_of f m). (let p = h.past m i t old at in omega arith))
    (λ (new : taken_of f m ≤ i). ⊎_elim
    (λ (same : m ≡ n). (
    let most = taken_most f n x.event in
    let l2 : i < taken_of (front_after n x.event f) n = subst (λ (k : ℕ). i < taken_of (front_after n x.event f) k) same l in
    let n2 : taken_of f n ≤ i = subst (λ (k : ℕ). taken_of f k ≤ i) same new in
    let here : i ≡ taken_of f n = omega arith in
    let own = own_ticket js f n t x next (subst (λ (k : ℕ). RoundAt js t n k) here (subst (λ (k : ℕ). RoundAt js t k i) same at)) in
    omega arith))
    (λ (ne : m ≡ n → ⊥). absurd (let o = taken_other f n m x.event ne in omega arith))
    (cases_eq m n))
    (cases_lt i (taken_of f m))

counted_after : (js : List Journal) (f : Front) (n : ℕ) (x : JournalEntry) → Counted js f → next_entry js f n ≡ Some x → MayStand js f n x.event → Counted js (front_after n x.event f)
counted_after js f n x h next may = record {
  size = size_after f n x.event ∙ h.size;
  bound = bound_after js f n x h next;
  one = (let o = h.one in let g = grows js f n x.event may in omega arith);
  given = given_after js f n x h next may;
  past = past_after js f n x h next may;
}

counted_all : (js : List Journal) (order : List ℕ) (f g : Front) → Counted js f → Stand js f order g → Counted js g
unfolding Stand
counted_all js [] f g h s = subst (λ (e : Front). Counted js e) s h
counted_all js (n ∷ ns) f g h s = counted_all js ns (front_after n s.0.event f) g (counted_after js f n s.0 h s.1 s.2) s.3

-- ---- rounds that are put later

-- a round that is put after a front has a ticket above that front's
later : (js : List Journal) (order : List ℕ) (f g : Front) → Stand js f order g → (m i t : ℕ) → taken_of f m ≤ i → i < taken_of g m → RoundAt js t m i → f.ticket < t
unfolding Stand
later js [] f g s m i t from below at = absurd (let same = ap (λ (e : Front). taken_of e m) s in omega arith)
later js (n ∷ ns) f g s m i t from below at = let up = grows js f n s.0.event s.2 in ⊎_elim
    (λ (now : i < taken_of (front_after n s.0.event f) m). ⊎_elim
    (λ (same : m ≡ n). (
    let most = taken_most f n s.0.event in
    let l2 : i < taken_of (front_after n s.0.event f) n = subst (λ (k : ℕ). i < taken_of (front_after n s.0.event f) k) same now in
    let n2 : taken_of f n ≤ i = subst (λ (k : ℕ). taken_of f k ≤ i) same from in
    let here : i ≡ taken_of f n = omega arith in
    let r = same_entry js f n t s.0 s.1 (subst (λ (k : ℕ). RoundAt js t n k) here (subst (λ (k : ℕ). RoundAt js t k i) same at)) in
    let own = next_ticket js f n s.0.event t r.0 r.1 s.2 in
    omega arith))
    (λ (ne : m ≡ n → ⊥). absurd (let o = taken_other f n m s.0.event ne in omega arith))
    (cases_eq m n))
    (λ (after : taken_of (front_after n s.0.event f) m ≤ i). (let more = later js ns (front_after n s.0.event f) g s.3 m i t after below at in omega arith))
    (cases_lt i (taken_of (front_after n s.0.event f) m))

-- ---- two lists

round_short : (js : List Journal) (t m i : ℕ) → RoundAt js t m i → i < length (entries_of js m)
unfolding RoundAt
round_short js t m i at = got_short (entries_of js m) i at.0 at.2

-- A list goes from f by a round of node n to its whole end. Another front has no fewer entries than f, and of node n as many:
-- then no round stands between them.
same_ticket : (js : List Journal) (ns : List ℕ) (f g end : Front) (n t : ℕ) (x : JournalEntry) (members : List ℕ) →
    next_entry js f n ≡ Some x → MayStand js f n x.event → x.event ≡ event.BeginRound t members → Stand js (front_after n x.event f) ns end → IsWhole js end →
    Counted js f → Counted js g → IsWithin f g → taken_of f n ≡ taken_of g n → f.ticket ≡ g.ticket
same_ticket js ns f g end n t x members next may is rest whole cf cg within same = ⊎_elim
    (λ (less : f.ticket < g.ticket). absurd (
    let one = cf.one in
    let own = next_ticket js f n x.event t members is may in
    let own2 = own_ticket js f n t x next (own_round js f n t x members next is) in
    let r = cg.given t (omega arith) (omega arith) in
    ⊎_elim
    (λ (now : r.1 < taken_of (front_after n x.event f) r.0). ⊎_elim
    (λ (eq : r.0 ≡ n). (
    let l : r.1 < taken_of g n = subst (λ (k : ℕ). r.1 < taken_of g k) eq r.2 in
    let l2 : r.1 < taken_of f r.0 = subst (λ (k : ℕ). r.1 < taken_of f k) (sym eq) (omega arith) in
    let p = cf.past r.0 r.1 t l2 r.3 in
    omega arith))
    (λ (ne : r.0 ≡ n → ⊥). (
    let o = taken_other f n r.0 x.event ne in
    let p = cf.past r.0 r.1 t (omega arith) r.3 in
    omega arith))
    (cases_eq r.0 n))
    (λ (after : taken_of (front_after n x.event f) r.0 ≤ r.1). (
    let w = whole r.0 in
    let s = round_short js t r.0 r.1 r.3 in
    let p = later js ns (front_after n x.event f) end rest r.0 r.1 t after (omega arith) r.3 in
    omega arith))
    (cases_lt r.1 (taken_of (front_after n x.event f) r.0))))
    (λ (no_less : g.ticket ≤ f.ticket). ⊎_elim
    (λ (more : g.ticket < f.ticket). absurd (
    let one = cg.one in
    let r = cf.given f.ticket (omega arith) (omega arith) in
    let w = within r.0 in
    let p = cg.past r.0 r.1 f.ticket (omega (arith, r.2)) r.3 in
    omega arith))
    (λ (no_more : f.ticket ≤ g.ticket). omega arith)
    (cases_lt g.ticket f.ticket))
    (cases_lt f.ticket g.ticket)

may_also : (js : List Journal) (f g : Front) (n : ℕ) (e : Event) → IsWithin f g → taken_of f n ≡ taken_of g n → ((t : ℕ) (members : List ℕ) → e ≡ event.BeginRound t members → f.ticket ≡ g.ticket) → MayStand js f n e → MayStand js g n e
unfolding MayStand
may_also js f g n (event.Client call o) within same tickets may = tt
may_also js f g n (event.Arrive m) within same tickets may = arrives_later js f g n m within same may
may_also js f g n event.Retry within same tickets may = may
may_also js f g n (event.Vacuum db) within same tickets may = may
may_also js f g n (event.BeginRound t members) within same tickets may = (may.0 ∙ ap (λ (k : ℕ). k + 1) (tickets t members refl), may.1)
may_also js f g n (event.BeginTakeover able) within same tickets may = may

next_also : (js : List Journal) (f g : Front) (n : ℕ) (x : JournalEntry) → taken_of f n ≡ taken_of g n → next_entry js f n ≡ Some x → next_entry js g n ≡ Some x
unfolding next_entry
next_also js f g n x same next = subst (λ (k : ℕ). slice_get (entries_of js n) k ≡ Some x) same next

-- a front after which nothing may stand has all that a list has that is whole in the end
all_within : (js : List Journal) (order : List ℕ) (f g end : Front) → Stand js f order end → IsWhole js end → Counted js f → Counted js g → IsStuck js g → IsWithin f g → IsWithin end g
unfolding Stand
all_within js [] f g end s whole cf cg stuck within = subst (λ (e : Front). IsWithin e g) s within
all_within js (n ∷ ns) f g end s whole cf cg stuck within = let w = within n in ⊎_elim
    (λ (less : taken_of f n < taken_of g n). all_within js ns (front_after n s.0.event f) g end s.3 whole (counted_after js f n s.0 cf s.1 s.2) cg stuck (λ m. ⊎_elim
    (λ (eq : m ≡ n). subst (λ (k : ℕ). taken_of (front_after n s.0.event f) k ≤ taken_of g k) (sym eq) (let o = taken_most f n s.0.event in omega arith))
    (λ (ne : m ≡ n → ⊥). (let o = taken_other f n m s.0.event ne in let v = within m in omega arith))
    (cases_eq m n)))
    (λ (no_less : taken_of g n ≤ taken_of f n). absurd (
    let same : taken_of f n ≡ taken_of g n = omega arith in
    stuck n s.0 (next_also js f g n s.0 same s.1) (may_also js f g n s.0.event within same
    (λ t members is. same_ticket js ns f g end n t s.0 members s.1 s.2 is s.3 whole cf cg within same) s.2)))
    (cases_lt (taken_of f n) (taken_of g n))

first_within : (js : List Journal) (g : Front) → IsWithin (first_front js) g
unfolding first_front taken_of
first_within js g n = let z = none_taken (length js) n in omega arith

pub any_way_ends : AnyWayEnds
any_way_ends js order other end stop s whole t stuck =
    let first = counted_first js in
    let c = counted_all js other (first_front js) stop first t in
    let w = all_within js order (first_front js) stop end s whole first c stuck (first_within js stop) in
    λ n. (let b = c.bound n in let l = w n in let e = whole n in omega arith)

pub no_entries_past : (js : List Journal) (n : ℕ) → length js ≤ n → entries_of js n ≡ []
unfolding entries_of or_no_entries
no_entries_past js n l = ap (λ (o : Option Journal). or_no_entries o) (slice_get_past js n l)
