-- What the entries that steps have made tell of the cluster.
use Rattle.std.proofs.Common.{◌≡◌, ◌≢◌, ℕ, zero, suc, ◌+◌, ◌<◌, ◌≤◌, Bool, true, false, List, [], ◌∷◌, ◌++◌, length, map, set, replicate, Option, None, Some, append-nil, append_assoc, length-set, arith, refl, sym, ap, ◌∙◌, subst, ⊎_elim, ◌⊎◌, inl, inr}
use Rattle.std.proofs.lemmas.Bool.{cases_eq, cases_lt, eq-eqb, eqb-true, or_cases, or_left, or_right}
use Rattle.std.proofs.lemmas.List.{length-replicate, map-append, length_push}
use Rattle.std.specs.Prelude.{slice_get}
use Rattle.ct_call.specs.Rules.{Rules}
use Rattle.ct_values.specs.declared.config.Config.{Config}
use Rattle.ct_frame.specs.declared.event.Event.{Event}
use Rattle.ct_frame.specs.declared.event.Event.TheVariants as event
use Rattle.ct_frame.specs.declared.event.Out.{Out}
use Rattle.ct_frame.specs.declared.event.Out.TheVariants as out
use Rattle.ct_frame.specs.declared.frame.Frame.{Frame}
use Rattle.ct_rules_node.specs.Node.{Node}
use Rattle.ct_rules_node.specs.Node as node
use Rattle.ct_rules_node.specs.Steps.{stepped}
use Rattle.ct_rules_node.specs.Turn.{Turn}
use Rattle.ct_rules_cluster.specs.Cluster.{Cluster, Sent, everyone, is_true, is_up, node_at, opening, or_absent}
use Rattle.ct_rules_cluster.specs.Steps.{frames_of}
use Rattle.ct_rules_cluster.specs.declared.step.Step.{Step}
use Rattle.ct_journal.specs.Order.{frames_in, ticket_after}
use Rattle.ct_journal.specs.Schedules.{Given, Noted, after_step, given_by, has_call, is_call, made_at, made_by, none_made, noted_of, outs_in, with_made}
use Rattle.ct_journal.specs.declared.journal.JournalEntry.{JournalEntry}
use Rattle.ct_journal.proofs.Computed.{not_made}
use Rattle.ct_law_journal_schedule.proofs.Numbering.{asked_after, asked_more, asked_most, made_own}
use Rattle.ct_law_journal_schedule.proofs.Taking.{became}
use Rattle.ct_law_journal_schedule.proofs.Walking.{all_true, node_other, node_own, still_node}
use Rattle.ct_law_journal_reach.specs.Counts.{has_ticket, begins_round}
use Rattle.ct_law_journal_reach.specs.Making.{after_steps}
use Rattle.ct_law_journal_reach.proofs.Cutting.{call_more, ticket_more}
use Rattle.ct_law_journal_reach.proofs.Steps.{Comes, Stays, Took, frames, gives, stays, taken, took}

-- the messages that these entries sent, of all nodes
unfoldable pub sent_by : List Noted → List Frame
sent_by [] = []
sent_by (y ∷ ys) = frames_in y.entry.outs ++ sent_by ys

-- entries are a run by the rules from one state to another, whatever may come
unfoldable pub IsPlayed : Config → Rules → ℕ → Node → List JournalEntry → Node → Type 0
IsPlayed c rules me old [] new = old ≡ new
IsPlayed c rules me old (x ∷ xs) new = (t : Turn) × (stepped c rules me x.event old ≡ Some t) × (t.outs ≡ x.outs) × (IsPlayed c rules me t.node xs new)

-- What holds of a cluster once steps have made these entries: each node is where its entries lead, they have sent what was
-- sent, and their calls and rounds have the numbers and tickets that were given
pub record Told (c : Config) (rules : Rules) (w : Cluster) (ms : List Noted) : Type 0 where
  pub size : length w.nodes ≡ c.nodes
  pub up : w.running ≡ replicate c.nodes true
  pub able : length w.able ≡ c.nodes
  pub holder : (h : ℕ) → w.holder ≡ Some h → h < c.nodes
  pub plays : (n : ℕ) → n < c.nodes → IsPlayed c rules n (node.opening c (everyone c)) (made_at n ms) (node_at n w)
  pub sent : frames w.sent ≡ sent_by ms
  pub calls : w.calls ≤ length ms
  pub numbers : (n a : ℕ) → has_call a (made_at n ms) ≡ true → a ≤ w.calls
  pub first : 1 ≤ w.ticket
  pub ticket : w.ticket ≤ length ms + 1
  pub past : (n t : ℕ) → has_ticket t (made_at n ms) ≡ true → t ≤ w.ticket
  pub given : (t : ℕ) → 1 < t → t ≤ w.ticket → (n : ℕ) × (has_ticket t (made_at n ms) ≡ true)

-- entries are of nodes of the configuration
abbrev pub ArePlaced : Config → List Noted → Type 0
ArePlaced c ms = (n : ℕ) → c.nodes ≤ n → made_at n ms ≡ []

-- ---- lists

pub made_more : (n : ℕ) (xs ys : List Noted) → made_at n (xs ++ ys) ≡ made_at n xs ++ made_at n ys
unfolding made_at
made_more n [] ys = refl
made_more n (x ∷ xs) ys = grind (arith, made_more n xs ys)

pub made_now : (n : ℕ) (ms : List Noted) (x : JournalEntry) → made_at n (ms ++ record { node = n; entry = x } ∷ []) ≡ made_at n ms ++ x ∷ []
unfolding made_at
made_now n ms x = made_more n ms (record { node = n; entry = x } ∷ []) ∙ ap (λ (l : List JournalEntry). made_at n ms ++ l) (made_own n (record { node = n; entry = x }) [] refl)

pub made_else : (n m : ℕ) (ms : List Noted) (x : JournalEntry) → m ≢ n → made_at m (ms ++ record { node = n; entry = x } ∷ []) ≡ made_at m ms
unfolding made_at
made_else n m ms x ne = made_more m ms (record { node = n; entry = x } ∷ []) ∙ ap (λ (l : List JournalEntry). made_at m ms ++ l) (not_made m (record { node = n; entry = x }) [] (λ e. ne (sym e))) ∙ append-nil (made_at m ms)

pub sent_more : (ms : List Noted) (y : Noted) → sent_by (ms ++ y ∷ []) ≡ sent_by ms ++ frames_in y.entry.outs
unfolding sent_by
sent_more [] y = append-nil (frames_in y.entry.outs)
sent_more (x ∷ xs) y = ap (λ (l : List Frame). frames_in x.entry.outs ++ l) (sent_more xs y) ∙ sym (append_assoc (frames_in x.entry.outs) (sent_by xs) (frames_in y.entry.outs))

pub frames_sent : (xs : List Out) → frames (frames_of xs) ≡ frames_in xs
unfolding frames_of frames_in
frames_sent [] = refl
frames_sent (out.Send f ∷ xs) = ap (λ (l : List Frame). f ∷ l) (frames_sent xs)
frames_sent (out.Answer call a ∷ xs) = frames_sent xs
frames_sent (out.Note x ∷ xs) = frames_sent xs

played_more : (c : Config) (rules : Rules) (n : ℕ) (old mid : Node) (xs : List JournalEntry) (x : JournalEntry) (t : Turn) → IsPlayed c rules n old xs mid → stepped c rules n x.event mid ≡ Some t → t.outs ≡ x.outs →
    IsPlayed c rules n old (xs ++ x ∷ []) t.node
unfolding IsPlayed
played_more c rules n old mid [] x t p is outs = (t, ap (stepped c rules n x.event) p ∙ is, outs, refl)
played_more c rules n old mid (y ∷ ys) x t p is outs = (p.0, p.1, p.2, played_more c rules n p.0.node mid ys x t p.3 is outs)

pub ups : (c : Config) (rules : Rules) (w : Cluster) (ms : List Noted) → Told c rules w ms → (m : ℕ) → m < c.nodes → is_up m w ≡ true
unfolding is_up
ups c rules w ms h m l = ap (λ (bs : List Bool). is_true (slice_get bs m)) h.up ∙ all_true c.nodes m l

-- ---- the event that came

asked_is : (c : Config) (w : Cluster) (n a : ℕ) (e : Event) → Comes c w n e → is_call a e ≡ true → a ≤ asked_after e w.calls
unfolding asked_after Comes is_call
asked_is c w n a (event.Client call o) comes is = (let same = eqb-true call a is in omega arith)
asked_is c w n a _ comes is = absurd (cc)

ticket_grows : (c : Config) (w : Cluster) (n : ℕ) (e : Event) → Comes c w n e → w.ticket ≤ ticket_after e w.ticket
unfolding ticket_after Comes
ticket_grows c w n (event.BeginRound t members) comes = omega arith
ticket_grows c w n _ comes = omega arith

ticket_most : (c : Config) (w : Cluster) (n : ℕ) (e : Event) → Comes c w n e → ticket_after e w.ticket ≤ w.ticket + 1
unfolding ticket_after Comes
ticket_most c w n (event.BeginRound t members) comes = omega arith
ticket_most c w n _ comes = omega arith

ticket_is : (c : Config) (w : Cluster) (n t : ℕ) (e : Event) → Comes c w n e → begins_round t e ≡ true → t ≤ ticket_after e w.ticket
unfolding ticket_after Comes begins_round
ticket_is c w n t (event.BeginRound u members) comes is = (let same = eqb-true u t is in omega arith)
ticket_is c w n t _ comes is = absurd (cc)

-- a ticket that was given was given before, or is that of the round that comes
newly : (c : Config) (w : Cluster) (n t : ℕ) (e : Event) → Comes c w n e → t ≤ ticket_after e w.ticket → (t ≤ w.ticket) ⊎ (begins_round t e ≡ true)
unfolding ticket_after Comes begins_round
newly c w n t (event.BeginRound u members) comes l = ⊎_elim
    (λ (same : t ≡ u). inr (eq-eqb u t (sym same)))
    (λ (ne : t ≡ u → ⊥). inl (omega arith))
    (cases_eq t u)
newly c w n t _ comes l = inl l

-- ---- one entry more

module _ (c : Config) (rules : Rules) (w : Cluster) (ms : List Noted) (h : Told c rules w ms) where
  told_stays : (v : Cluster) → Stays w v → Told c rules v ms
  unfolding node_at
  told_stays v s = record {
    size = ap length s.nodes ∙ h.size;
    up = s.running ∙ h.up;
    able = s.able ∙ h.able;
    holder = λ i e. h.holder i (s.holder i e);
    plays = λ n l. subst (λ (xs : List Node). IsPlayed c rules n (node.opening c (everyone c)) (made_at n ms) (or_absent (slice_get xs n))) (sym s.nodes) (h.plays n l);
    sent = s.sent ∙ h.sent;
    calls = subst (λ (k : ℕ). k ≤ length ms) (sym s.calls) h.calls;
    numbers = λ n a has. subst (λ (k : ℕ). a ≤ k) (sym s.calls) (h.numbers n a has);
    first = subst (λ (k : ℕ). 1 ≤ k) (sym s.ticket) h.first;
    ticket = subst (λ (k : ℕ). k ≤ length ms + 1) (sym s.ticket) h.ticket;
    past = λ n t has. subst (λ (k : ℕ). t ≤ k) (sym s.ticket) (h.past n t has);
    given = λ t a l. h.given t a (subst (λ (k : ℕ). t ≤ k) s.ticket l);
  }

  module _ (n : ℕ) (e : Event) (comes : Comes c w n e) (there : n < c.nodes) (t : Turn) (steps : stepped c rules n e (node_at n w) ≡ Some t) (ss : List Sent) (same : frames ss ≡ frames w.sent) where
    abbrev x : JournalEntry
    x = record { event = e; outs = t.outs }

    abbrev more : List Noted
    more = ms ++ record { node = n; entry = x } ∷ []

    at : (m : ℕ) → m ≡ n → or_absent (slice_get (set w.nodes n t.node) m) ≡ t.node
    at m eq = ap (λ (i : ℕ). or_absent (slice_get (set w.nodes n t.node) i)) eq ∙ node_own n t.node w.nodes (let q = h.size in omega (arith, there, q))

    plays_more : (m : ℕ) → m < c.nodes → IsPlayed c rules m (node.opening c (everyone c)) (made_at m more) (or_absent (slice_get (set w.nodes n t.node) m))
    unfolding node_at
    plays_more m l = ⊎_elim
        (λ (eq : m ≡ n). subst (λ (y : Node). IsPlayed c rules m (node.opening c (everyone c)) (made_at m more) y) (sym (at m eq))
        (subst (λ (i : ℕ). IsPlayed c rules i (node.opening c (everyone c)) (made_at i more) t.node) (sym eq)
        (subst (λ (xs : List JournalEntry). IsPlayed c rules n (node.opening c (everyone c)) xs t.node) (sym (made_now n ms x))
        (played_more c rules n (node.opening c (everyone c)) (node_at n w) (made_at n ms) x t (h.plays n there) steps refl))))
        (λ (ne : m ≡ n → ⊥). subst (λ (o : Option Node). IsPlayed c rules m (node.opening c (everyone c)) (made_at m more) (or_absent o)) (sym (node_other n m t.node w.nodes ne))
        (subst (λ (xs : List JournalEntry). IsPlayed c rules m (node.opening c (everyone c)) xs (node_at m w)) (sym (made_else n m ms x ne)) (h.plays m l)))
        (cases_eq m n)

    one_call : (a : ℕ) → has_call a (x ∷ []) ≡ true → is_call a e ≡ true
    unfolding has_call
    one_call a is = ⊎_elim (λ (y : is_call a e ≡ true). y) (λ (no : false ≡ true). absurd (cc)) (or_cases (is_call a e) false is)

    one_ticket : (u : ℕ) → has_ticket u (x ∷ []) ≡ true → begins_round u e ≡ true
    unfolding has_ticket
    one_ticket u is = ⊎_elim (λ (y : begins_round u e ≡ true). y) (λ (no : false ≡ true). absurd (cc)) (or_cases (begins_round u e) false is)

    a_ticket : (u : ℕ) → begins_round u e ≡ true → has_ticket u (x ∷ []) ≡ true
    unfolding has_ticket
    a_ticket u is = or_left (begins_round u e) false is

    numbers_more : (m a : ℕ) → has_call a (made_at m more) ≡ true → a ≤ asked_after e w.calls
    numbers_more m a has = let g = asked_more e w.calls in ⊎_elim
        (λ (eq : m ≡ n). ⊎_elim
        (λ (old : has_call a (made_at n ms) ≡ true). (let b = h.numbers n a old in omega arith))
        (λ (new : has_call a (x ∷ []) ≡ true). asked_is c w n a e comes (one_call a new))
        (or_cases (has_call a (made_at n ms)) (has_call a (x ∷ [])) (sym (call_more a (made_at n ms) (x ∷ [])) ∙ sym (ap (has_call a) (made_now n ms x)) ∙ subst (λ (i : ℕ). has_call a (made_at i more) ≡ true) eq has)))
        (λ (ne : m ≡ n → ⊥). (let b = h.numbers m a (sym (ap (has_call a) (made_else n m ms x ne)) ∙ has) in omega arith))
        (cases_eq m n)

    past_more : (m u : ℕ) → has_ticket u (made_at m more) ≡ true → u ≤ ticket_after e w.ticket
    past_more m u has = let g = ticket_grows c w n e comes in ⊎_elim
        (λ (eq : m ≡ n). ⊎_elim
        (λ (old : has_ticket u (made_at n ms) ≡ true). (let b = h.past n u old in omega arith))
        (λ (new : has_ticket u (x ∷ []) ≡ true). ticket_is c w n u e comes (one_ticket u new))
        (or_cases (has_ticket u (made_at n ms)) (has_ticket u (x ∷ [])) (sym (ticket_more u (made_at n ms) (x ∷ [])) ∙ sym (ap (has_ticket u) (made_now n ms x)) ∙ subst (λ (i : ℕ). has_ticket u (made_at i more) ≡ true) eq has)))
        (λ (ne : m ≡ n → ⊥). (let b = h.past m u (sym (ap (has_ticket u) (made_else n m ms x ne)) ∙ has) in omega arith))
        (cases_eq m n)

    kept_ticket : (m u : ℕ) → has_ticket u (made_at m ms) ≡ true → has_ticket u (made_at m more) ≡ true
    kept_ticket m u has = ⊎_elim
        (λ (eq : m ≡ n). subst (λ (i : ℕ). has_ticket u (made_at i more) ≡ true) (sym eq)
        (ap (has_ticket u) (made_now n ms x) ∙ ticket_more u (made_at n ms) (x ∷ []) ∙ or_left (has_ticket u (made_at n ms)) (has_ticket u (x ∷ [])) (subst (λ (i : ℕ). has_ticket u (made_at i ms) ≡ true) eq has)))
        (λ (ne : m ≡ n → ⊥). ap (has_ticket u) (made_else n m ms x ne) ∙ has)
        (cases_eq m n)

    given_more : (u : ℕ) → 1 < u → u ≤ ticket_after e w.ticket → (m : ℕ) × (has_ticket u (made_at m more) ≡ true)
    given_more u above l = ⊎_elim
        (λ (old : u ≤ w.ticket). (let g = h.given u above old in (g.0, kept_ticket g.0 u g.1)))
        (λ (new : begins_round u e ≡ true). (n, ap (has_ticket u) (made_now n ms x) ∙ ticket_more u (made_at n ms) (x ∷ []) ∙ or_right (has_ticket u (made_at n ms)) (has_ticket u (x ∷ [])) (a_ticket u new)))
        (newly c w n u e comes l)

    told_more : Told c rules (became n e t ss w) more
    unfolding became node_at
    told_more =
        let len = length_push ms (record { node = n; entry = x }) in
        record {
          size = length-set w.nodes n t.node ∙ h.size;
          up = h.up;
          able = h.able;
          holder = still_node n c.nodes e w.holder there h.holder;
          plays = plays_more;
          sent = map-append (λ (s : Sent). s.frame) ss (frames_of t.outs) ∙ (λ i. (same ∙ h.sent) i ++ frames_sent t.outs i) ∙ sym (sent_more ms (record { node = n; entry = x }));
          calls = (let a = asked_most e w.calls in let b = h.calls in omega arith);
          numbers = numbers_more;
          first = (let a = ticket_grows c w n e comes in let b = h.first in omega arith);
          ticket = (let a = ticket_most c w n e comes in let b = h.ticket in omega arith);
          past = past_more;
          given = given_more;
        }

-- ---- along steps

-- what the first of steps makes, and the others
pub record First (c : Config) (rules : Rules) (w : Cluster) (s : Step) (ss : List Step) (rest : List Noted) : Type 0 where
  pub next : Cluster
  pub later : List Noted
  pub after : after_step c rules w s ≡ Some next
  pub makes : made_by c rules (Some next) ss ≡ Some later
  pub is : rest ≡ map (noted_of c rules w) (given_by w s) ++ later

none_later : (c : Config) (rules : Rules) (ss : List Step) → made_by c rules None ss ≡ None
unfolding made_by none_made
none_later c rules [] = refl
none_later c rules (s ∷ ss) = refl

pub made_first : (c : Config) (rules : Rules) (w : Cluster) (s : Step) (ss : List Step) (rest : List Noted) → made_by c rules (Some w) (s ∷ ss) ≡ Some rest → First c rules w s ss rest
unfolding made_by with_made
made_first c rules w s ss rest = by (after_step c rules w s) refl
  where
    ys : List Noted
    ys = map (noted_of c rules w) (given_by w s)

    then : (u : Cluster) → after_step c rules w s ≡ Some u → (o : Option (List Noted)) → made_by c rules (Some u) ss ≡ o → with_made ys o ≡ Some rest → First c rules w s ss rest
    then u is None makes e = absurd (cc)
    then u is (Some later) makes e = record { next = u; later = later; after = is; makes = makes; is = cc }

    by : (o : Option Cluster) → after_step c rules w s ≡ o → with_made ys (made_by c rules o ss) ≡ Some rest → First c rules w s ss rest
    by None is e = absurd (let n = none_later c rules ss in cc)
    by (Some u) is e = then u is (made_by c rules (Some u) ss) refl e

nil_parts : (xs ys : List JournalEntry) → xs ++ ys ≡ [] → (xs ≡ []) × (ys ≡ [])
nil_parts [] ys e = (refl, e)
nil_parts (x ∷ xs) ys e = absurd (cc)

pub placed_parts : (c : Config) (xs ys : List Noted) → ArePlaced c (xs ++ ys) → ArePlaced c xs × ArePlaced c ys
placed_parts c xs ys p = ((λ n l. (nil_parts (made_at n xs) (made_at n ys) (sym (made_more n xs ys) ∙ p n l)).0), (λ n l. (nil_parts (made_at n xs) (made_at n ys) (sym (made_more n xs ys) ∙ p n l)).1))

-- a step that is taken, and what it makes
pub data Went (c : Config) (rules : Rules) (w : Cluster) (ys : List Noted) (v : Cluster) : Type 0 where
  nothing : ys ≡ [] → Went c rules w ys v
  something : (n : ℕ) (x : JournalEntry) → n < c.nodes → ys ≡ record { node = n; entry = x } ∷ [] → Comes c w n x.event → Went c rules w ys v

pub record Goes (c : Config) (rules : Rules) (w : Cluster) (ms ys : List Noted) (v : Cluster) : Type 0 where
  pub went : Went c rules w ys v
  pub told : Told c rules v (ms ++ ys)

pub goes : (c : Config) (rules : Rules) (w : Cluster) (ms : List Noted) (s : Step) (v : Cluster) → Told c rules w ms → ArePlaced c (map (noted_of c rules w) (given_by w s)) → after_step c rules w s ≡ Some v → Goes c rules w ms (map (noted_of c rules w) (given_by w s)) v
unfolding noted_of outs_in
goes c rules w ms s v h placed after = by (took c rules w v s (ups c rules w ms h) at (taken c rules w v s after))
  where
    ys : List Noted
    ys = map (noted_of c rules w) (given_by w s)

    at : (n : ℕ) (e : Event) → given_by w s ≡ record { node = n; event = e } ∷ [] → n < c.nodes
    at n e is = ⊎_elim
        (λ (l : n < c.nodes). l)
        (λ (g : c.nodes ≤ n). absurd (
        let none = placed n g in
        let own = made_own n (noted_of c rules w (record { node = n; event = e })) [] refl in
        let all = ap (λ (l : List Given). made_at n (map (noted_of c rules w) l)) is in
        cc))
        (cases_lt n c.nodes)

    by : Took c rules w s v → Goes c rules w ms ys v
    by (stays none st) =
        let is : ys ≡ [] = ap (map (noted_of c rules w)) none in
        record { went = nothing is; told = subst (λ (l : List Noted). Told c rules v l) (sym (ap (λ (l : List Noted). ms ++ l) is ∙ append-nil ms)) (told_stays c rules w ms h v st) }
    by (gives n e is comes g) =
        let x : JournalEntry = record { event = e; outs = g.turn.outs } in
        let these : ys ≡ record { node = n; entry = x } ∷ [] = ap (map (noted_of c rules w)) is ∙ ap (λ (o : Option Turn). record { node = n; entry = record { event = e; outs = outs_in o } } ∷ []) g.runs in
        let l = at n e is in
        record {
          went = something n x l these comes;
          told = subst (λ (l : List Noted). Told c rules v (ms ++ l)) (sym these) (subst (λ (u : Cluster). Told c rules u (ms ++ record { node = n; entry = x } ∷ [])) (sym g.is) (told_more c rules w ms h n e comes l g.turn g.runs g.sent g.same));
        }

-- What steps make tells of the cluster after them
pub told_all : (c : Config) (rules : Rules) (ss : List Step) (w v : Cluster) (ms rest : List Noted) → Told c rules w ms → ArePlaced c rest → made_by c rules (Some w) ss ≡ Some rest → after_steps c rules (Some w) ss ≡ Some v → Told c rules v (ms ++ rest)
unfolding made_by none_made after_steps
told_all c rules [] w v ms rest h placed makes ends =
    let none : [] ≡ rest = cc in
    let same : w ≡ v = cc in
    subst (λ (l : List Noted). Told c rules v (ms ++ l)) none (subst (λ (l : List Noted). Told c rules v l) (sym (append-nil ms)) (subst (λ (u : Cluster). Told c rules u ms) same h))
told_all c rules (s ∷ ss) w v ms rest h placed makes ends =
    let f = made_first c rules w s ss rest makes in
    let ys : List Noted = map (noted_of c rules w) (given_by w s) in
    let p = placed_parts c ys f.later (subst (λ (l : List Noted). ArePlaced c l) f.is placed) in
    let g = goes c rules w ms s f.next h p.0 f.after in
    subst (λ (l : List Noted). Told c rules v l) (append_assoc ms ys f.later ∙ ap (λ (l : List Noted). ms ++ l) (sym f.is))
    (told_all c rules ss f.next v (ms ++ ys) f.later g.told p.1 f.makes (ap (λ (o : Option Cluster). after_steps c rules o ss) (sym f.after) ∙ ends))

-- ---- the opening

pub told_none : (c : Config) (rules : Rules) → Told c rules (opening c) []
unfolding opening node_at or_absent made_at IsPlayed sent_by has_call has_ticket
told_none c rules = record {
  size = length-replicate c.nodes (node.opening c (everyone c));
  up = refl;
  able = length-replicate c.nodes true;
  holder = λ h is. absurd (cc);
  plays = λ n l. sym (opens c.nodes n (node.opening c (everyone c)) l);
  sent = refl;
  calls = omega arith;
  numbers = λ n a has. absurd (cc);
  first = omega arith;
  ticket = omega arith;
  past = λ n t has. absurd (cc);
  given = λ t a l. absurd (omega arith);
}
  where
    opens : (k n : ℕ) (x : Node) → n < k → or_absent (slice_get (replicate k x) n) ≡ x
    opens zero n x l = absurd (omega arith)
    opens (suc k) zero x l = refl
    opens (suc k) (suc n) x l = opens k n x (omega arith)
