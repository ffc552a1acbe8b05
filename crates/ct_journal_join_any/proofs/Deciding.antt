-- Whether an entry with an event may be made next.
use Rattle.std.proofs.Common.{◌≡◌, ℕ, zero, suc, ◌+◌, ◌<◌, ◌≤◌, ◌↔◌, nat_lt, Bool, true, false, List, [], ◌∷◌, Option, None, Some, arith, refl, sym, ap, ◌∙◌, subst, ⊎_elim}
use Rattle.std.proofs.lemmas.Bool.{and_from, and_parts, eq-eqb, eqb-true, lt-ltb, ltb-true, or_cases, or_left, or_right}
use Rattle.std.specs.List.{list_all, list_any}
use Rattle.std.specs.Prelude.{IfNone, IfSome, IsTrue, slice_get}
use Rattle.ct_values.specs.declared.client.ClientOp.{ClientOp}
use Rattle.ct_values.specs.declared.config.Config.{Config}
use Rattle.ct_frame.specs.declared.event.Event.{Event}
use Rattle.ct_frame.specs.declared.event.Event.TheVariants as event
use Rattle.ct_frame.specs.declared.frame.Frame.{Frame}
use Rattle.ct_rules_cluster.specs.Cluster.{Cluster, Sent, sent_at}
use Rattle.ct_rules_cluster.specs.Faults.{fault_of}
use Rattle.ct_rules_cluster.specs.declared.step.Step.TheVariants as step
use Rattle.ct_journal.specs.Order.{entries_of}
use Rattle.ct_journal.specs.Schedules.{has_call, is_call}
use Rattle.ct_journal.specs.declared.journal.Journal.{Journal}
use Rattle.ct_journal.specs.declared.journal.JournalEntry.{JournalEntry}
use Rattle.ct_law_journal_reach.specs.Counts.{cut_to}
use Rattle.ct_law_journal_reach.specs.Making.{MayGo, is_not_dropped}
use Rattle.ct_journal_join_any.specs.Going.{GoesWith, IsSentAs, calls_below, number_if}

-- ---- calls

call_is : (call a : ℕ) (e : Event) → calls_below call e ≡ true → is_call a e ≡ true → a < call
unfolding is_call
call_is call a (event.Client n o) below is = (let l = ltb-true n call below in let e = eqb-true n a is in omega arith)
call_is call a (event.Arrive m) below is = absurd (cc)
call_is call a event.Retry below is = absurd (cc)
call_is call a (event.Vacuum db) below is = absurd (cc)
call_is call a (event.BeginRound t ms) below is = absurd (cc)
call_is call a (event.BeginTakeover able) below is = absurd (cc)

-- all calls are below a number where all are tested to be
all_below : (call a : ℕ) (xs : List JournalEntry) → list_all (λ x. calls_below call x.event) xs ≡ true → has_call a xs ≡ true → a < call
unfolding has_call
all_below call a [] all has = absurd (cc)
all_below call a (x ∷ xs) all has =
    let p = and_parts (calls_below call x.event) (list_all (λ x. calls_below call x.event) xs) all in
    ⊎_elim
    (λ (now : is_call a x.event ≡ true). call_is call a x.event p.0 now)
    (λ (later : list_any (λ x. is_call a x.event) xs ≡ true). all_below call a xs p.1 later)
    (or_cases (is_call a x.event) (list_any (λ x. is_call a x.event) xs) has)

one_below : (call : ℕ) (e : Event) → ((a : ℕ) → is_call a e ≡ true → a < call) → calls_below call e ≡ true
unfolding is_call
one_below call (event.Client n o) h = lt-ltb n call (h n (eq-eqb n n refl))
one_below call (event.Arrive m) h = refl
one_below call event.Retry h = refl
one_below call (event.Vacuum db) h = refl
one_below call (event.BeginRound t ms) h = refl
one_below call (event.BeginTakeover able) h = refl

-- and only where they are
are_below : (call : ℕ) (xs : List JournalEntry) → ((a : ℕ) → has_call a xs ≡ true → a < call) → list_all (λ x. calls_below call x.event) xs ≡ true
unfolding has_call
are_below call [] h = refl
are_below call (x ∷ xs) h = and_from (calls_below call x.event) (list_all (λ x. calls_below call x.event) xs)
    (one_below call x.event (λ a is. h a (or_left (is_call a x.event) (list_any (λ x. is_call a x.event) xs) is)))
    (are_below call xs (λ a has. h a (or_right (is_call a x.event) (list_any (λ x. is_call a x.event) xs) has)))

-- ---- messages

fate_of : (ss : List Sent) (k : ℕ) (s : Sent) → list_all (λ s. is_not_dropped s.fate) ss ≡ true → slice_get ss k ≡ Some s → is_not_dropped s.fate ≡ true
fate_of [] k s all got = absurd (cc)
fate_of (y ∷ ys) zero s all got =
    let p = and_parts (is_not_dropped y.fate) (list_all (λ s. is_not_dropped s.fate) ys) all in
    let same : y ≡ s = cc in
    subst (λ (z : Sent). is_not_dropped z.fate ≡ true) same p.0
fate_of (y ∷ ys) (suc k) s all got = fate_of ys k s (and_parts (is_not_dropped y.fate) (list_all (λ s. is_not_dropped s.fate) ys) all).1 got

kept_at : (w : Cluster) (k : ℕ) (s : Sent) → list_all (λ s. is_not_dropped s.fate) w.sent ≡ true → sent_at k w ≡ Some s → is_not_dropped s.fate ≡ true
unfolding sent_at
kept_at w zero s all got = absurd (cc)
kept_at w (suc k) s all got = fate_of w.sent k s all got

-- ---- each event

pub call_goes : (c : Config) (js : List Journal) (w : Cluster) (ts : List ℕ) (n call : ℕ) (o : ClientOp) (past : List JournalEntry) (b : Bool) → b ≡ list_all (λ x. calls_below call x.event) past → entries_of (cut_to js ts) n ≡ past → GoesWith c js w ts n (event.Client call o) (number_if b)
unfolding MayGo
call_goes c js w ts n call o past true is cut = λ a has. all_below call a past (sym is) (sym (ap (has_call a) cut) ∙ has)
call_goes c js w ts n call o past false is cut = λ k may. (let all = are_below call past (λ a has. may a (ap (has_call a) cut ∙ has)) in let no : false ≡ true = is ∙ all in cc)

pub message_goes : (c : Config) (js : List Journal) (w : Cluster) (ts : List ℕ) (n k : ℕ) (m : Frame) → list_all (λ s. is_not_dropped s.fate) w.sent ≡ true → IsSentAs w m k → GoesWith c js w ts n (event.Arrive m) (Some k)
unfolding MayGo
message_goes c js w ts n k m all h = (h.0, h.1, h.2, kept_at w k h.0 all h.1)

pub message_stays : (c : Config) (js : List Journal) (w : Cluster) (ts : List ℕ) (n : ℕ) (m : Frame) → ((k : ℕ) → IsSentAs w m k → ⊥) → GoesWith c js w ts n (event.Arrive m) None
unfolding MayGo
message_stays c js w ts n m none = λ k may. none k (may.0, may.1, may.2)

pub retry_goes : (c : Config) (js : List Journal) (w : Cluster) (ts : List ℕ) (n k : ℕ) → GoesWith c js w ts n event.Retry (Some k)
unfolding MayGo
retry_goes c js w ts n k = tt

pub vacuum_goes : (c : Config) (js : List Journal) (w : Cluster) (ts : List ℕ) (n db : ℕ) (b : Bool) → (IsTrue b ↔ (fault_of c w (step.Vacuum n db) ≡ None)) → GoesWith c js w ts n (event.Vacuum db) (number_if b)
unfolding MayGo
vacuum_goes c js w ts n db true is = is.0 refl
vacuum_goes c js w ts n db false is = λ k may. (let no : false ≡ true = is.1 may in cc)

pub round_goes : (c : Config) (js : List Journal) (w : Cluster) (ts : List ℕ) (n ticket : ℕ) (members : List ℕ) (b : Bool) → (IsTrue b ↔ (ticket ≡ w.ticket + 1)) → GoesWith c js w ts n (event.BeginRound ticket members) (number_if b)
unfolding MayGo
round_goes c js w ts n ticket members true is = is.0 refl
round_goes c js w ts n ticket members false is = λ k may. (let no : false ≡ true = is.1 may in cc)

pub takeover_goes : (c : Config) (js : List Journal) (w : Cluster) (ts : List ℕ) (n : ℕ) (able us : List ℕ) (b : Bool) → us ≡ able → (IsTrue b ↔ ((list_all (λ m. nat_lt m c.nodes) us ≡ true) × (fault_of c w (step.Takeover n) ≡ None))) → GoesWith c js w ts n (event.BeginTakeover able) (number_if b)
unfolding MayGo
takeover_goes c js w ts n able us true same is = (let f = is.0 refl in (ap (λ (l : List ℕ). list_all (λ m. nat_lt m c.nodes) l) (sym same) ∙ f.0, f.1))
takeover_goes c js w ts n able us false same is = λ k may. (let no : false ≡ true = is.1 (ap (λ (l : List ℕ). list_all (λ m. nat_lt m c.nodes) l) same ∙ may.0, may.1) in cc)

-- ---- what is answered

pub goes_as : (c : Config) (js : List Journal) (w : Cluster) (ts : List ℕ) (n : ℕ) (e d : Event) (r o : Option ℕ) → e ≡ d → r ≡ o → GoesWith c js w ts n d o → GoesWith c js w ts n e r
goes_as c js w ts n e d r o same is h = subst (λ (a : Event). GoesWith c js w ts n a r) (sym same) (subst (λ (q : Option ℕ). GoesWith c js w ts n d q) (sym is) h)

pub message_as : (c : Config) (js : List Journal) (w : Cluster) (ts : List ℕ) (n : ℕ) (m : Frame) (r : Option ℕ) → list_all (λ s. is_not_dropped s.fate) w.sent ≡ true → IfSome r (λ k. IsSentAs w m k) → IfNone r ((k : ℕ) → IsSentAs w m k → ⊥) → GoesWith c js w ts n (event.Arrive m) r
message_as c js w ts n m None all found none = message_stays c js w ts n m none
message_as c js w ts n m (Some k) all found none = message_goes c js w ts n k m all found
