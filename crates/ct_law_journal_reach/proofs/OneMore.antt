-- The next entry of a node, where it may be made, is made by the steps for it.
use Rattle.std.proofs.Common.{◌≡◌, ℕ, ◌+◌, ◌^◌, ◌<◌, ◌≤◌, ◌&&◌, Bool, true, false, cond, List, [], ◌∷◌, ◌++◌, length, map, take, Option, None, Some, append_assoc, length-append, arith, refl, sym, ap, ◌∙◌, subst, ⊎_elim, ◌⊎◌}
use Rattle.std.proofs.lemmas.Bool.{and_from, and_parts, cases_eq, eq-eqb, eqb-true, lt-ltb, ne_eqb, or_cases}
use Rattle.std.proofs.lemmas.List.{length-map, length_push, map-append}
use Rattle.std.specs.List.{list_all}
use Rattle.std.specs.Prelude.{nat_eq, nat_lt, slice_get}
use Rattle.ct_call.specs.Rules.{Rules}
use Rattle.ct_values.specs.declared.config.Config.{Config}
use Rattle.ct_frame.specs.Fields.{ascends, well_formed}
use Rattle.ct_frame.specs.declared.event.Event.{Event}
use Rattle.ct_frame.specs.declared.event.Event.TheVariants as event
use Rattle.ct_frame.specs.declared.frame.Frame.{Frame}
use Rattle.ct_rules_node.specs.Coming.{is_after_pending, is_allowed_op, may_come}
use Rattle.ct_rules_node.specs.Node.{is_among}
use Rattle.ct_rules_node.specs.Steps.{stepped}
use Rattle.ct_rules_node.specs.Turn.{Turn}
use Rattle.ct_rules_cluster.specs.Cluster.{Cluster, Sent, node_at, opening}
use Rattle.ct_rules_cluster.specs.Steps.{frames_of, is_counted}
use Rattle.ct_rules_cluster.specs.declared.step.Step.{Step}
use Rattle.ct_rules_cluster.specs.declared.step.Step.TheVariants as step
use Rattle.ct_journal.specs.Order.{entries_of, frames_in}
use Rattle.ct_journal.specs.Schedules.{IsRenumbered, Noted, after_step, entry_under, event_under, given_by, has_call, is_call, made_at, made_by, none_made, noted_of, out_under, with_made}
use Rattle.ct_journal.specs.declared.journal.Journal.{Journal}
use Rattle.ct_journal.specs.declared.journal.JournalEntry.{JournalEntry}
use Rattle.ct_law_journal_schedule.proofs.Fronts.{take_next}
use Rattle.ct_law_journal_schedule.specs.Laws.{AreRuns}
use Rattle.ct_law_journal_reach.specs.Counts.{AreNotTooMany, count_at, entry_after, with_one_more}
use Rattle.ct_law_journal_reach.specs.Laws.{NoneIsMade, OneMore}
use Rattle.ct_law_journal_reach.specs.Making.{HasMade, MayGo, after_steps, no_counts, steps_to_go}
use Rattle.ct_law_journal_reach.proofs.Cutting.{call_more, entries_cut, got_within, is_there, more_other, more_own, more_size, no_count, no_counts_size}
use Rattle.ct_law_journal_reach.proofs.Held.{cut_renumbered, first_placed}
use Rattle.ct_law_journal_reach.proofs.Makes.{AllKept, Leads, client_leads, message_leads, retry_leads, round_leads, turned, vacuum_leads}
use Rattle.ct_law_journal_reach.proofs.Marks.{takeover_leads}
use Rattle.ct_law_journal_reach.proofs.Playing.{Follows, follows, number_most}
use Rattle.ct_law_journal_reach.proofs.Told.{ArePlaced, Told, frames_sent, made_else, made_first, made_now, sent_by, sent_more, told_all, told_none, ups}
use Rattle.ct_law_journal_reach.proofs.Weights.{made_few}

-- ---- steps after steps

after_both : (c : Config) (rules : Rules) (ss ts : List Step) (o : Option Cluster) → after_steps c rules o (ss ++ ts) ≡ after_steps c rules (after_steps c rules o ss) ts
unfolding after_steps
after_both c rules [] ts o = refl
after_both c rules (s ∷ ss) ts None = none ts
  where
    none : (ts : List Step) → None ≡ after_steps c rules None ts
    none [] = refl
    none (t ∷ ts) = refl
after_both c rules (s ∷ ss) ts (Some w) = after_both c rules ss ts (after_step c rules w s)

made_both : (c : Config) (rules : Rules) (ss ts : List Step) (w v : Cluster) (xs ys : List Noted) → made_by c rules (Some w) ss ≡ Some xs → after_steps c rules (Some w) ss ≡ Some v → made_by c rules (Some v) ts ≡ Some ys → made_by c rules (Some w) (ss ++ ts) ≡ Some (xs ++ ys)
unfolding made_by none_made with_made after_steps
made_both c rules [] ts w v xs ys one ends two =
    let none : [] ≡ xs = cc in
    let same : w ≡ v = cc in
    ap (λ (u : Cluster). made_by c rules (Some u) ts) same ∙ two ∙ ap (λ (l : List Noted). Some (l ++ ys)) none
made_both c rules (s ∷ ss) ts w v xs ys one ends two =
    let f = made_first c rules w s ss xs one in
    let zs : List Noted = map (noted_of c rules w) (given_by w s) in
    let rest = made_both c rules ss ts f.next v f.later ys f.makes (ap (λ (o : Option Cluster). after_steps c rules o ss) (sym f.after) ∙ ends) two in
    ap (λ (o : Option Cluster). with_made zs (made_by c rules o (ss ++ ts))) f.after ∙ ap (with_made zs) rest
    ∙ ap (λ (l : List Noted). Some l) (sym (append_assoc zs f.later ys) ∙ ap (λ (l : List Noted). l ++ ys) (sym f.is))

-- ---- the numbers of calls

-- these numbers of calls, with that of the call that comes
unfoldable with_number : Event → ℕ → (ℕ → ℕ) → ℕ → ℕ
with_number (event.Client call o) q f = λ a. cond (nat_eq a call) q (f a)
with_number _ q f = f

-- the call that comes is above those before it
unfoldable IsAbove : List JournalEntry → Event → Type 0
IsAbove past (event.Client call o) = (a : ℕ) → has_call a past ≡ true → a < call
IsAbove past _ = Unit {0}

number_old : (past : List JournalEntry) (e : Event) (q : ℕ) (f : ℕ → ℕ) → IsAbove past e → (a : ℕ) → has_call a past ≡ true → with_number e q f a ≡ f a
unfolding with_number IsAbove
number_old past (event.Client call o) q f above a has = ap (λ (b : Bool). cond b q (f a)) (ne_eqb a call (λ e. absurd (let l = above a has in omega arith)))
number_old past (event.Arrive m) q f above a has = refl
number_old past event.Retry q f above a has = refl
number_old past (event.Vacuum db) q f above a has = refl
number_old past (event.BeginRound t members) q f above a has = refl
number_old past (event.BeginTakeover able) q f above a has = refl

number_new : (e : Event) (q : ℕ) (f : ℕ → ℕ) (a : ℕ) → is_call a e ≡ true → with_number e q f a ≡ q
unfolding with_number is_call
number_new (event.Client call o) q f a is = ap (λ (b : Bool). cond b q (f a)) (eq-eqb a call (sym (eqb-true call a is)))
number_new _ q f a is = absurd (cc)

above_is : (past : List JournalEntry) (e : Event) (a b : ℕ) → IsAbove past e → is_call b e ≡ true → has_call a past ≡ true → a < b
unfolding IsAbove is_call
above_is past (event.Client call o) a b above is has = (let same = eqb-true call b is in let l = above a has in omega arith)
above_is past _ a b above is has = absurd (cc)

same_call : (e : Event) (a b : ℕ) → is_call a e ≡ true → is_call b e ≡ true → a ≡ b
unfolding is_call
same_call (event.Client call o) a b one two = sym (eqb-true call a one) ∙ eqb-true call b two
same_call _ a b one two = absurd (cc)

one_call : (a : ℕ) (x : JournalEntry) → has_call a (x ∷ []) ≡ true → is_call a x.event ≡ true
unfolding has_call
one_call a x is = ⊎_elim (λ (y : is_call a x.event ≡ true). y) (λ (no : false ≡ true). absurd (cc)) (or_cases (is_call a x.event) false is)

-- ---- one entry more

module _ (c : Config) (rules : Rules) (js : List Journal) (ss : List Step) (w : Cluster) (ts : List ℕ) (n k : ℕ) (x : JournalEntry) (runs : AreRuns c rules js) (not_many : AreNotTooMany js) (h : HasMade c rules js ss w ts) (next : entry_after js ts n ≡ Some x) (may : MayGo c js w ts n x.event k) where
  abbrev count : ℕ
  count = count_at ts n

  abbrev entries : List JournalEntry
  entries = entries_of js n

  abbrev past : List JournalEntry
  past = take count entries

  here : (m : ℕ) → IsRenumbered (take (count_at ts m) (entries_of js m)) (made_at m h.made)
  here = cut_renumbered js ts h.made h.journals

  old_placed : ArePlaced c h.made
  old_placed = first_placed c js h.made (λ m. count_at ts m) runs.count here

  told : Told c rules w h.made
  told = told_all c rules ss (opening c) w [] h.made (told_none c rules) old_placed h.takes h.ends

  old_few : length h.made + length (sent_by h.made) < 2 ^ 61
  old_few = made_few c js h.made (λ m. count_at ts m) not_many runs.count old_placed here

  calls_few : w.calls < 2 ^ 62
  calls_few = let k = told.calls in let q = old_few in omega arith

  got : slice_get entries count ≡ Some x
  unfolding entry_after
  got = next

  there : n < c.nodes
  there = let l = is_there js n count x got in let q = runs.count in omega (arith, l, q)

  has_place : n < length ts
  has_place = let l = is_there js n count x got in let q = h.size in omega (arith, l, q)

  more : take (count + 1) entries ≡ past ++ x ∷ []
  more = take_next entries count x got

  number : ℕ → ℕ
  number = with_number x.event (w.calls + 1) (here n).number

  above : IsAbove past x.event
  unfolding MayGo IsAbove
  above = by x.event may
    where
      by : (e : Event) → MayGo c js w ts n e k → IsAbove past e
      by (event.Client call o) m = (λ a has. m a (ap (has_call a) (entries_cut js ts n) ∙ has))
      by (event.Arrive d) m = tt
      by event.Retry m = tt
      by (event.Vacuum db) m = tt
      by (event.BeginRound t members) m = tt
      by (event.BeginTakeover able) m = tt

  old_number : (a : ℕ) → has_call a past ≡ true → number a ≡ (here n).number a
  unfolding number
  old_number = number_old past x.event (w.calls + 1) (here n).number above

  old_most : (a : ℕ) → has_call a past ≡ true → number a ≤ w.calls
  old_most a has = let e = old_number a has in let m = number_most c rules js runs n there count w h.made told (here n) calls_few a has in omega (arith, e, m)

  new_number : (a : ℕ) → is_call a x.event ≡ true → number a ≡ w.calls + 1
  unfolding number
  new_number a is = number_new x.event (w.calls + 1) (here n).number a is

  which : (a : ℕ) → has_call a (take (count + 1) entries) ≡ true → (has_call a past ≡ true) ⊎ (has_call a (x ∷ []) ≡ true)
  which a has = or_cases (has_call a past) (has_call a (x ∷ [])) (sym (call_more a past (x ∷ [])) ∙ sym (ap (has_call a) more) ∙ has)

  rises : (a b : ℕ) → has_call a (take (count + 1) entries) ≡ true → has_call b (take (count + 1) entries) ≡ true → a < b → number a < number b
  rises a b ha hb l = ⊎_elim
      (λ (old_a : has_call a past ≡ true). ⊎_elim
      (λ (old_b : has_call b past ≡ true). (let r = (here n).rises a b old_a old_b l in let ea = old_number a old_a in let eb = old_number b old_b in omega (arith, r, ea, eb)))
      (λ (new_b : has_call b (x ∷ []) ≡ true). (let m = old_most a old_a in let e = new_number b (one_call b x new_b) in omega (arith, m, e)))
      (which b hb))
      (λ (new_a : has_call a (x ∷ []) ≡ true). ⊎_elim
      (λ (old_b : has_call b past ≡ true). absurd (let g = above_is past x.event b a above (one_call a x new_a) old_b in omega (arith, g, l)))
      (λ (new_b : has_call b (x ∷ []) ≡ true). absurd (let e = same_call x.event a b (one_call a x new_a) (one_call b x new_b) in omega (arith, e, l)))
      (which b hb))
      (which a ha)

  small : (a : ℕ) → has_call a (take (count + 1) entries) ≡ true → number a < 2 ^ 62
  small a has = let t = told.calls in let q = old_few in ⊎_elim
      (λ (old : has_call a past ≡ true). (let m = old_most a old in omega arith))
      (λ (new : has_call a (x ∷ []) ≡ true). (let e = new_number a (one_call a x new) in omega arith))
      (which a has)

  follow : Follows c rules n w past (made_at n h.made) x number
  follow = follows c rules js runs n there count w h.made told (here n) x number more old_number rises small

  -- what is given to the node, and its turn
  abbrev turn : Turn
  turn = record { node = follow.state; outs = map (out_under number) x.outs; spent = false }

  abbrev entry : JournalEntry
  entry = entry_under number x

  abbrev all : List Noted
  all = h.made ++ record { node = n; entry = entry } ∷ []

  renumbered : (m : ℕ) → IsRenumbered (take (count_at (with_one_more ts n) m) (entries_of js m)) (made_at m all)
  renumbered m = ⊎_elim
      (λ (e : m ≡ n). subst (λ (i : ℕ). IsRenumbered (take (count_at (with_one_more ts n) i) (entries_of js i)) (made_at i all)) (sym e)
      (subst (λ (q : ℕ). IsRenumbered (take q entries) (made_at n all)) (sym (more_own ts n has_place)) (record {
        number = number;
        rises = rises;
        same = ap (map (entry_under number)) more ∙ map-append (entry_under number) past (x ∷ []) ∙ ap (λ (l : List JournalEntry). l ++ entry ∷ []) follow.same ∙ sym (made_now n h.made entry);
      })))
      (λ (ne : m ≡ n → ⊥). subst (λ (q : ℕ). IsRenumbered (take q (entries_of js m)) (made_at m all)) (sym (more_other ts n m ne))
      (subst (λ (xs : List JournalEntry). IsRenumbered (take (count_at ts m) (entries_of js m)) xs) (sym (made_else n m h.made entry ne)) (here m)))
      (cases_eq m n)

  all_few : length all + length (sent_by all) < 2 ^ 61
  all_few = made_few c js all (λ m. count_at (with_one_more ts n) m) not_many runs.count (first_placed c js all (λ m. count_at (with_one_more ts n) m) runs.count renumbered) renumbered

  counted : (u : Cluster) → length u.sent ≡ length w.sent → u.ticket ≤ w.ticket + 1 → u.calls ≤ w.calls + 1 → is_counted (turned n turn u.sent u) ≡ true
  unfolding is_counted turned entry_under
  counted u size ticket calls =
      let q = all_few in
      let l = length_push h.made (record { node = n; entry = entry }) in
      let s = ap length (sent_more h.made (record { node = n; entry = entry })) in
      let a = length-append (sent_by h.made) (frames_in turn.outs) in
      let b = length-append u.sent (frames_of turn.outs) in
      let d = sym (length-map (frames_of turn.outs) (λ (y : Sent). y.frame)) ∙ ap length (frames_sent turn.outs) in
      let e = sym (length-map w.sent (λ (y : Sent). y.frame)) ∙ ap length told.sent in
      let ta = told.ticket in
      let ca = told.calls in
      and_from (nat_lt (length (u.sent ++ frames_of turn.outs)) (2 ^ 62) && nat_lt u.ticket (2 ^ 62)) (nat_lt u.calls (2 ^ 62))
      (and_from (nat_lt (length (u.sent ++ frames_of turn.outs)) (2 ^ 62)) (nat_lt u.ticket (2 ^ 62)) (lt-ltb (length (u.sent ++ frames_of turn.outs)) (2 ^ 62) (omega arith)) (lt-ltb u.ticket (2 ^ 62) (omega arith)))
      (lt-ltb u.calls (2 ^ 62) (omega arith))

  kept : AllKept w.sent
  kept = h.kept

  -- the steps for the event make the entry
  leads : Leads c rules w (steps_to_go w n x.event k) n (event_under number x.event) turn
  unfolding MayGo steps_to_go event_under is_call may_come entry_under
  leads = by x.event refl may
    where
      coming : (e : Event) → x.event ≡ e → (d : Event) → event_under number e ≡ d → may_come c n (node_at n w) d ≡ true
      coming e is d under = subst (λ (d : Event). may_come c n (node_at n w) d ≡ true) (ap (event_under number) is ∙ under) follow.entry.coming

      steps : (e : Event) → x.event ≡ e → (d : Event) → event_under number e ≡ d → stepped c rules n d (node_at n w) ≡ Some turn
      steps e is d under = subst (λ (d : Event). stepped c rules n d (node_at n w) ≡ Some turn) (ap (event_under number) is ∙ under) follow.entry.steps

      by : (e : Event) → x.event ≡ e → MayGo c js w ts n e k → Leads c rules w (steps_to_go w n x.event k) n (event_under number x.event) turn
      by e is m = subst (λ (d : Event). Leads c rules w (steps_to_go w n d k) n (event_under number d) turn) (sym is) (at e is m)
        where
          at : (e : Event) → x.event ≡ e → MayGo c js w ts n e k → Leads c rules w (steps_to_go w n e k) n (event_under number e) turn
          at (event.Client call o) is m =
              let d : Event = event.Client (w.calls + 1) o in
              let under : event_under number (event.Client call o) ≡ d = ap (λ (a : ℕ). event.Client a o) (new_number call (ap (is_call call) is ∙ eq-eqb call call refl)) in
              subst (λ (d : Event). Leads c rules w (step.Client n o ∷ []) n d turn) (sym under)
              (client_leads c rules w n there (ups c rules w h.made told) kept turn counted o (and_parts (is_allowed_op o) (is_after_pending (w.calls + 1) (node_at n w)) (coming (event.Client call o) is d under)).0 (steps (event.Client call o) is d under))
          at (event.Arrive m) is may =
              let s : Sent = may.0 in
              let d : Event = event.Arrive s.frame in
              let under : event_under number (event.Arrive m) ≡ d = ap (λ (g : Frame). event.Arrive g) (sym may.2) in
              subst (λ (d : Event). Leads c rules w (steps_to_go w n (event.Arrive m) k) n d turn) (sym under)
              (message_leads c rules w n there (ups c rules w h.made told) kept turn counted k s may.1
              (eqb-true s.frame.receiver n (and_parts (well_formed s.frame) (nat_eq s.frame.receiver n) (coming (event.Arrive m) is d under)).1) may.3 (steps (event.Arrive m) is d under))
          at event.Retry is m = retry_leads c rules w n there (ups c rules w h.made told) kept turn counted (steps event.Retry is event.Retry refl)
          at (event.Vacuum db) is m = vacuum_leads c rules w n there (ups c rules w h.made told) kept turn counted db m (steps (event.Vacuum db) is (event.Vacuum db) refl)
          at (event.BeginRound t members) is m =
              let d : Event = event.BeginRound (w.ticket + 1) members in
              let under : event_under number (event.BeginRound t members) ≡ d = ap (λ (q : ℕ). event.BeginRound q members) m in
              let p = and_parts (ascends nat_lt members && list_all (λ i. nat_lt i c.nodes) members) (is_among n members) (coming (event.BeginRound t members) is d under) in
              let q = and_parts (ascends nat_lt members) (list_all (λ i. nat_lt i c.nodes) members) p.0 in
              subst (λ (d : Event). Leads c rules w (steps_to_go w n (event.BeginRound t members) k) n d turn) (sym under)
              (round_leads c rules w n there (ups c rules w h.made told) kept turn counted members q.0 q.1 p.1 told.holder (steps (event.BeginRound t members) is d under))
          at (event.BeginTakeover able) is m =
              takeover_leads c rules w n there kept turn counted able told.able (coming (event.BeginTakeover able) is (event.BeginTakeover able) refl) m.0 m.1 (steps (event.BeginTakeover able) is (event.BeginTakeover able) refl)

  made_one_more : (v : Cluster) × (after_steps c rules (Some w) (steps_to_go w n x.event k) ≡ Some v) × (HasMade c rules js (ss ++ steps_to_go w n x.event k) v (with_one_more ts n))
  unfolding entry_under
  made_one_more =
      let l = leads in
      let go : List Step = steps_to_go w n x.event k in (
        l.end,
        l.makes.after,
        record {
          made = all;
          takes = made_both c rules ss go (opening c) w h.made (record { node = n; entry = entry } ∷ []) h.takes h.ends l.makes.makes;
          ends = after_both c rules ss go (Some (opening c)) ∙ ap (λ (o : Option Cluster). after_steps c rules o go) h.ends ∙ l.makes.after;
          size = more_size ts n ∙ h.size;
          within = within;
          journals = λ m. subst (λ (xs : List JournalEntry). IsRenumbered xs (made_at m all)) (sym (entries_cut js (with_one_more ts n) m)) (renumbered m);
          kept = l.kept;
        },
      )
    where
      within : (m : ℕ) → count_at (with_one_more ts n) m ≤ length (entries_of js m)
      within m = ⊎_elim
          (λ (e : m ≡ n). subst (λ (i : ℕ). count_at (with_one_more ts n) i ≤ length (entries_of js i)) (sym e) (let o = more_own ts n has_place in let g = got_within entries count x got in omega arith))
          (λ (ne : m ≡ n → ⊥). (let o = more_other ts n m ne in let g = h.within m in omega arith))
          (cases_eq m n)

-- ---- the laws

pub one_more : OneMore
one_more c rules js ss w ts n k x runs not_many h next may = made_one_more c rules js ss w ts n k x runs not_many h next may

pub none_is_made : NoneIsMade
unfolding made_by none_made after_steps opening made_at
none_is_made c rules js = record {
  made = [];
  takes = refl;
  ends = refl;
  size = no_counts_size js;
  within = λ n. (let z = no_count js n in omega arith);
  journals = λ n. (record {
    number = λ a. a;
    rises = λ a b ha hb l. l;
    same = ap (map (entry_under (λ a. a))) (entries_cut js (no_counts js) n ∙ ap (λ (q : ℕ). take q (entries_of js n)) (no_count js n));
  });
  kept = refl;
}
