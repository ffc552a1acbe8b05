-- The lines that are told of an entry are those of its steps.
use Rattle.std.proofs.Common.{◌≡◌, ℕ, ◌+◌, Bool, true, false, cond, List, [], ◌∷◌, ◌++◌, length, map, Option, None, Some, arith, refl, sym, ap, ap₂, ◌∙◌, subst}
use Rattle.std.specs.Prelude.{nat_eq}
use Rattle.ct_values.specs.declared.client.Answer.{Answer}
use Rattle.ct_values.specs.declared.client.ClientOp.{ClientOp}
use Rattle.ct_frame.specs.declared.event.Event.{Event}
use Rattle.ct_frame.specs.declared.event.Event.TheVariants as event
use Rattle.ct_frame.specs.declared.event.Note.{Note}
use Rattle.ct_frame.specs.declared.event.Out.{Out}
use Rattle.ct_frame.specs.declared.event.Out.TheVariants as out
use Rattle.ct_frame.specs.declared.frame.Frame.{Frame}
use Rattle.ct_rules_cluster.specs.Steps.{lines_of}
use Rattle.ct_rules_cluster.specs.Traces.{OpenCall, closed_by, closed_by_all}
use Rattle.ct_rules_cluster.specs.declared.step.Line.{Line}
use Rattle.ct_rules_cluster.specs.declared.step.Line.TheVariants as line
use Rattle.ct_journal.specs.Order.{frames_in, front_after}
use Rattle.ct_journal.specs.Schedules.{answer_under, event_under, out_under, why_under}
use Rattle.ct_journal.specs.declared.journal.JournalEntry.{JournalEntry}
use Rattle.ct_law_journal_schedule.proofs.Numbering.{asked_after}
use Rattle.ct_law_journal_schedule.proofs.Taking.{asked_by, own_lines, yield_lines}
use Rattle.ct_law_journal_schedule.specs.Scheduling.{holder_after}
use Rattle.ct_schedule_text.specs.Telling.{Telling, ToldLines, lines_then, names_no_call, open_call, open_without, entry_passed, told_answered, told_entry, told_event, told_out, told_outs, told_yield, lines_before}
use Rattle.ct_schedule_text.specs.declared.telling.Asked.{Asked}
use Rattle.ct_schedule_text.proofs.Open.{AreNumbered, Covers, found_number, more_covers, more_numbered, without_covers, without_numbered}

-- ---- what is told first, and what follows it

-- what follows
pub record Later (first : ToldLines) (go : Telling → Option ToldLines) (u : ToldLines) : Type 0 where
  pub told : ToldLines
  pub is : go first.telling ≡ Some told
  pub whole : record { telling = told.telling; lines = first.lines ++ told.lines } ≡ u

pub later : (first : ToldLines) (go : Telling → Option ToldLines) (u : ToldLines) → lines_then (Some first) go ≡ Some u → Later first go u
unfolding lines_then lines_before
later first go u is = by (go first.telling) refl
  where
    by : (o : Option ToldLines) → go first.telling ≡ o → Later first go u
    by None none = (let no : None ≡ Some u = sym (ap (lines_before first.lines) none) ∙ is in absurd (cc))
    by (Some v) some = record {
      told = v;
      is = some;
      whole = (let e : Some (record { telling = v.telling; lines = first.lines ++ v.lines }) ≡ Some u = sym (ap (lines_before first.lines) some) ∙ is in cc);
    }

nothing_first : (go : Telling → Option ToldLines) (u : ToldLines) → lines_then None go ≡ Some u → ⊥
unfolding lines_then
nothing_first go u none = absurd (cc)

-- something is told first
pub record First (o : Option ToldLines) (go : Telling → Option ToldLines) (u : ToldLines) : Type 0 where
  pub first : ToldLines
  pub is : o ≡ Some first
  pub more : Later first go u

pub first_of : (o : Option ToldLines) (go : Telling → Option ToldLines) (u : ToldLines) → lines_then o go ≡ Some u → First o go u
first_of o go u is = by o refl
  where
    by : (p : Option ToldLines) → o ≡ p → First o go u
    by None none = (let no : lines_then None go ≡ Some u = sym (ap (λ (p : Option ToldLines). lines_then p go) none) ∙ is in absurd (nothing_first go u no))
    by (Some v) some = record { first = v; is = some; more = later v go u (sym (ap (λ (p : Option ToldLines). lines_then p go) some) ∙ is) }

-- ---- lines that end calls

pub closed_append : (xs ys : List Line) (log : List OpenCall) → closed_by_all (xs ++ ys) log ≡ closed_by_all ys (closed_by_all xs log)
unfolding closed_by_all
closed_append [] ys log = refl
closed_append (x ∷ xs) ys log = closed_append xs ys (closed_by x log)

-- ---- what a node does

module _ (number : ℕ → ℕ → ℕ) (n : ℕ) where
  -- What is told of what node n does is what the cluster prints of it, and the calls that are told to be open cover those that are
  pub record TellsOuts (outs : List Out) (t : Telling) (u : ToldLines) (log : List OpenCall) : Type 0 where
    pub lines : lines_of n (t.sent + 1) (map (out_under (number n)) outs) ≡ u.lines
    pub sent : u.telling.sent ≡ t.sent + length (frames_in outs)
    pub front : u.telling.front ≡ t.front
    pub asked : u.telling.asked ≡ t.asked
    pub holder : u.telling.holder ≡ t.holder
    pub numbered : AreNumbered number u.telling.calls
    pub covers : Covers u.telling.calls (closed_by_all u.lines log)

  -- an answer that names no call is the same with other numbers of calls
  same_answer : (a : Answer) → names_no_call a ≡ true → answer_under (number n) a ≡ a
  unfolding answer_under why_under names_no_call
  same_answer a is = grind arith

  no_outs : (t : Telling) (log : List OpenCall) → AreNumbered number t.calls → Covers t.calls log → TellsOuts [] t (record { telling = t; lines = [] }) log
  unfolding lines_of frames_in closed_by_all
  no_outs t log h k = record { lines = refl; sent = omega arith; front = refl; asked = refl; holder = refl; numbered = h; covers = k }

  sends : (f : Frame) (outs : List Out) (t : Telling) (v : ToldLines) (log : List OpenCall) → TellsOuts outs (record t { sent = t.sent + 1 }) v log
      → TellsOuts (out.Send f ∷ outs) t (record { telling = v.telling; lines = line.Sent (t.sent + 1) f ∷ v.lines }) log
  unfolding lines_of frames_in closed_by_all closed_by out_under
  sends f outs t v log r = record {
    lines = ap (λ (ls : List Line). line.Sent (t.sent + 1) f ∷ ls) r.lines;
    sent = (let s = r.sent in omega arith);
    front = r.front;
    asked = r.asked;
    holder = r.holder;
    numbered = r.numbered;
    covers = r.covers;
  }

  notes : (x : Note) (outs : List Out) (t : Telling) (v : ToldLines) (log : List OpenCall) → TellsOuts outs t v log
      → TellsOuts (out.Note x ∷ outs) t (record { telling = v.telling; lines = line.Noted n x ∷ v.lines }) log
  unfolding lines_of frames_in closed_by_all closed_by out_under
  notes x outs t v log r = record {
    lines = ap (λ (ls : List Line). line.Noted n x ∷ ls) r.lines;
    sent = r.sent;
    front = r.front;
    asked = r.asked;
    holder = r.holder;
    numbered = r.numbered;
    covers = r.covers;
  }

  answers : (call : ℕ) (a : Answer) (outs : List Out) (t : Telling) (v : ToldLines) (x : Asked) (log : List OpenCall) → names_no_call a ≡ true → number n call ≡ x.number
      → TellsOuts outs (record t { calls = open_without n call t.calls }) v (closed_by (line.Answered x.number a) log)
      → TellsOuts (out.Answer call a ∷ outs) t (record { telling = v.telling; lines = line.Answered x.number a ∷ v.lines }) log
  unfolding lines_of frames_in closed_by_all out_under
  answers call a outs t v x log plain num r = record {
    lines = ap₂ (λ (i : ℕ) (b : Answer). line.Answered i b ∷ lines_of n (t.sent + 1) (map (out_under (number n)) outs)) num (same_answer a plain)
        ∙ ap (λ (ls : List Line). line.Answered x.number a ∷ ls) r.lines;
    sent = r.sent;
    front = r.front;
    asked = r.asked;
    holder = r.holder;
    numbered = r.numbered;
    covers = r.covers;
  }

  -- what is told first of an answer
  record Answers (call : ℕ) (a : Answer) (t : Telling) (first : ToldLines) : Type 0 where
    plain : names_no_call a ≡ true
    asked : Asked
    found : open_call n call t.calls ≡ Some asked
    is : record { telling = record t { calls = open_without n call t.calls }; lines = line.Answered asked.number a ∷ [] } ≡ first

  is_answered : (call : ℕ) (a : Answer) (t : Telling) (first : ToldLines) → told_out n (out.Answer call a) t ≡ Some first → Answers call a t first
  unfolding told_out told_answered
  is_answered call a t first is = by (names_no_call a) refl
    where
      by : (b : Bool) → names_no_call a ≡ b → Answers call a t first
      by false names = (let no : None ≡ Some first = sym (ap (λ (b : Bool). cond b (told_answered n call a t (open_call n call t.calls)) None) names) ∙ is in absurd (cc))
      by true plain = of (open_call n call t.calls) refl
        where
          some : told_answered n call a t (open_call n call t.calls) ≡ Some first
          some = sym (ap (λ (b : Bool). cond b (told_answered n call a t (open_call n call t.calls)) None) plain) ∙ is

          of : (o : Option Asked) → open_call n call t.calls ≡ o → Answers call a t first
          of None none = (let no : None ≡ Some first = sym (ap (told_answered n call a t) none) ∙ some in absurd (cc))
          of (Some x) found = record {
            plain = plain;
            asked = x;
            found = found;
            is = (let e : Some (record { telling = record t { calls = open_without n call t.calls }; lines = line.Answered x.number a ∷ [] }) ≡ Some first = sym (ap (told_answered n call a t) found) ∙ some in cc);
          }

  pub tells_outs : (outs : List Out) (t : Telling) (u : ToldLines) (log : List OpenCall) → told_outs n outs t ≡ Some u → AreNumbered number t.calls → Covers t.calls log → TellsOuts outs t u log
  unfolding told_outs told_out closed_by
  tells_outs [] t u log is h k = (let e : record { telling = t; lines = [] } ≡ u = cc in subst (λ (u : ToldLines). TellsOuts [] t u log) e (no_outs t log h k))
  tells_outs (out.Send f ∷ outs) t u log is h k =
      let s : Telling = record t { sent = t.sent + 1 } in
      let l = later (record { telling = s; lines = line.Sent (t.sent + 1) f ∷ [] }) (told_outs n outs) u is in
      subst (λ (u : ToldLines). TellsOuts (out.Send f ∷ outs) t u log) l.whole (sends f outs t l.told log (tells_outs outs s l.told log l.is h k))
  tells_outs (out.Note x ∷ outs) t u log is h k =
      let l = later (record { telling = t; lines = line.Noted n x ∷ [] }) (told_outs n outs) u is in
      subst (λ (u : ToldLines). TellsOuts (out.Note x ∷ outs) t u log) l.whole (notes x outs t l.told log (tells_outs outs t l.told log l.is h k))
  tells_outs (out.Answer call a ∷ outs) t u log is h k =
      let f = first_of (told_out n (out.Answer call a) t) (told_outs n outs) u is in
      let p = is_answered call a t f.first f.is in
      let s : Telling = record t { calls = open_without n call t.calls } in
      let l = later (record { telling = s; lines = line.Answered p.asked.number a ∷ [] }) (told_outs n outs) u
      (ap (λ (v : ToldLines). lines_then (Some v) (told_outs n outs)) p.is ∙ sym (ap (λ (o : Option ToldLines). lines_then o (told_outs n outs)) f.is) ∙ is) in
      subst (λ (u : ToldLines). TellsOuts (out.Answer call a ∷ outs) t u log) l.whole
      (answers call a outs t l.told p.asked log p.plain (found_number number n call t.calls p.asked p.found h)
      (tells_outs outs s l.told (closed_by (line.Answered p.asked.number a) log) l.is (without_numbered number n call t.calls h) (without_covers n call t.calls p.asked log p.found k)))

  -- ---- an event

  -- What is told of an event is what its steps print before what node n does
  pub record TellsEvent (e : Event) (t : Telling) (u : ToldLines) (log : List OpenCall) : Type 0 where
    pub lines : own_lines n (event_under (number n) e) t.holder ≡ u.lines
    pub sent : u.telling.sent ≡ t.sent
    pub front : u.telling.front ≡ t.front
    pub asked : u.telling.asked ≡ asked_after e t.asked
    pub holder : u.telling.holder ≡ holder_after n e t.holder
    pub numbered : AreNumbered number u.telling.calls
    pub covers : Covers u.telling.calls (closed_by_all u.lines (asked_by n (event_under (number n) e) log))

  same_yield : (h : Option ℕ) → yield_lines n h ≡ told_yield n h
  unfolding yield_lines told_yield
  same_yield None = refl
  same_yield (Some h) = refl

  -- giving the lock back and taking it ends no call
  no_call_ends : (h : Option ℕ) (ticket : ℕ) (log : List OpenCall) → closed_by_all (told_yield n h ++ line.Ticket ticket n ∷ []) log ≡ log
  unfolding told_yield closed_by_all closed_by
  no_call_ends None ticket log = refl
  no_call_ends (Some h) ticket log = by (nat_eq h n) refl
    where
      by : (b : Bool) → nat_eq h n ≡ b → closed_by_all (told_yield n (Some h) ++ line.Ticket ticket n ∷ []) log ≡ log
      by true same = ap (λ (b : Bool). closed_by_all (cond b [] (line.Yielded h ∷ []) ++ line.Ticket ticket n ∷ []) log) same
      by false ne = ap (λ (b : Bool). closed_by_all (cond b [] (line.Yielded h ∷ []) ++ line.Ticket ticket n ∷ []) log) ne

  pub tells_event : (e : Event) (t : Telling) (u : ToldLines) (log : List OpenCall) → told_event n e t ≡ Some u → ((call : ℕ) (o : ClientOp) → e ≡ event.Client call o → number n call ≡ t.asked + 1)
      → AreNumbered number t.calls → Covers t.calls log → TellsEvent e t u log
  unfolding told_event own_lines event_under asked_after holder_after asked_by closed_by_all
  tells_event (event.Client call o) t u log is num h k =
      let x : Asked = record { node = n; call = call; number = t.asked + 1 } in
      let v : ToldLines = record { telling = record t { asked = t.asked + 1; calls = t.calls ++ x ∷ [] }; lines = [] } in
      let e : v ≡ u = cc in
      let same = num call o refl in
      subst (λ (u : ToldLines). TellsEvent (event.Client call o) t u log) e
      (record { lines = refl; sent = refl; front = refl; asked = refl; holder = refl; numbered = more_numbered number t.calls x h (sym same); covers = more_covers t.calls x (number n call) n o log (sym same) k })
  tells_event (event.Arrive m) t u log is num h k =
      let v : ToldLines = record { telling = t; lines = [] } in
      let e : v ≡ u = cc in
      subst (λ (u : ToldLines). TellsEvent (event.Arrive m) t u log) e
      (record { lines = refl; sent = refl; front = refl; asked = refl; holder = refl; numbered = h; covers = k })
  tells_event (event.BeginRound ticket members) t u log is num h k =
      let v : ToldLines = record { telling = record t { holder = Some n }; lines = told_yield n t.holder ++ line.Ticket ticket n ∷ [] } in
      let e : v ≡ u = cc in
      subst (λ (u : ToldLines). TellsEvent (event.BeginRound ticket members) t u log) e
      (record {
        lines = ap (λ (ls : List Line). ls ++ line.Ticket ticket n ∷ []) (same_yield t.holder);
        sent = refl;
        front = refl;
        asked = refl;
        holder = refl;
        numbered = h;
        covers = subst (λ (l : List OpenCall). Covers t.calls l) (sym (no_call_ends t.holder ticket log)) k;
      })
  tells_event event.Retry t u log is num h k = absurd (cc)
  tells_event (event.Vacuum db) t u log is num h k = absurd (cc)
  tells_event (event.BeginTakeover able) t u log is num h k = absurd (cc)

  -- ---- an entry

  pub record TellsEntry (x : JournalEntry) (t : Telling) (u : ToldLines) (log : List OpenCall) : Type 0 where
    pub lines : own_lines n (event_under (number n) x.event) t.holder ++ lines_of n (t.sent + 1) (map (out_under (number n)) x.outs) ≡ u.lines
    pub sent : u.telling.sent ≡ t.sent + length (frames_in x.outs)
    pub front : u.telling.front ≡ front_after n x.event t.front
    pub asked : u.telling.asked ≡ asked_after x.event t.asked
    pub holder : u.telling.holder ≡ holder_after n x.event t.holder
    pub numbered : AreNumbered number u.telling.calls
    pub covers : Covers u.telling.calls (closed_by_all u.lines (asked_by n (event_under (number n) x.event) log))

  pub tells_entry : (x : JournalEntry) (t : Telling) (u : ToldLines) (log : List OpenCall) → told_entry n x t ≡ Some u → ((call : ℕ) (o : ClientOp) → x.event ≡ event.Client call o → number n call ≡ t.asked + 1)
      → AreNumbered number t.calls → Covers t.calls log → TellsEntry x t u log
  unfolding told_entry entry_passed
  tells_entry x t u log is num h k =
      let f = first_of (told_event n x.event t) (λ (s : Telling). told_outs n x.outs (entry_passed n x.event s)) u is in
      let v : ToldLines = f.first in
      let e = tells_event x.event t v log f.is num h k in
      let l = f.more in
      let s : Telling = entry_passed n x.event v.telling in
      let now = closed_by_all v.lines (asked_by n (event_under (number n) x.event) log) in
      let r = tells_outs x.outs s l.told now l.is e.numbered e.covers in
      subst (λ (u : ToldLines). TellsEntry x t u log) l.whole (record {
        lines = ap₂ (λ (own : List Line) (i : ℕ). own ++ lines_of n (i + 1) (map (out_under (number n)) x.outs)) e.lines (sym e.sent) ∙ ap (λ (ls : List Line). v.lines ++ ls) r.lines;
        sent = r.sent ∙ ap (λ (i : ℕ). i + length (frames_in x.outs)) e.sent;
        front = r.front ∙ ap (front_after n x.event) e.front;
        asked = r.asked ∙ e.asked;
        holder = r.holder ∙ e.holder;
        numbered = r.numbered;
        covers = subst (λ (c : List OpenCall). Covers l.told.telling.calls c) (sym (closed_append v.lines l.told.lines (asked_by n (event_under (number n) x.event) log))) r.covers;
      })
