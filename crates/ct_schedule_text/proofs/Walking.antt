-- The lines that are told of journals in order are those of the run of their schedule.
use Rattle.std.proofs.Common.{◌≡◌, ℕ, ◌+◌, true, false, List, [], ◌∷◌, ◌++◌, length, map, Option, Some, arith, refl, sym, ap, ap₂, ◌∙◌, subst}
use Rattle.std.proofs.lemmas.Bool.{eq-eqb, or_left}
use Rattle.ct_call.specs.Rules.{Rules}
use Rattle.ct_values.specs.declared.client.ClientOp.{ClientOp}
use Rattle.ct_values.specs.declared.config.Config.{Config}
use Rattle.ct_frame.specs.declared.event.Event.{Event}
use Rattle.ct_frame.specs.declared.event.Event.TheVariants as event
use Rattle.ct_rules_cluster.specs.Cluster.{Cluster, opening}
use Rattle.ct_rules_cluster.specs.Steps.{lines_of}
use Rattle.ct_rules_cluster.specs.Traces.{OpenCall, Ran, asked_in, closed_by_all, idle, ran}
use Rattle.ct_rules_cluster.specs.declared.step.Line.{Line}
use Rattle.ct_journal.specs.Order.{Front, Stand, frames_in, front_after, next_entry}
use Rattle.ct_journal.specs.Schedules.{Noted, event_under, has_call, is_call, out_under}
use Rattle.ct_journal.specs.declared.journal.Journal.{Journal}
use Rattle.ct_journal.specs.declared.journal.JournalEntry.{JournalEntry}
use Rattle.ct_law_journal_numbers.proofs.Runs.{sends_renumbered}
use Rattle.ct_law_journal_numbers.specs.Laws.{SendsRenumbered}
use Rattle.ct_law_journal_schedule.proofs.Fronts.{has_journal, rest_of, rest_own}
use Rattle.ct_law_journal_schedule.proofs.Numbering.{asked_after, number_now, own_asks}
use Rattle.ct_law_journal_schedule.proofs.Scheduled.{laid, starts}
use Rattle.ct_law_journal_schedule.proofs.Taking.{asked_by, became, own_lines}
use Rattle.ct_law_journal_schedule.proofs.Walking.{Reached, asked_under, given, goes, goes_on, turn_of}
use Rattle.ct_law_journal_schedule.specs.Scheduling.{Scheduling, first_scheduling, holder_after, schedule_from, schedule_of, scheduling_after, scheduling_next, steps_for, steps_next}
use Rattle.ct_schedule_text.specs.Telling.{Telling, ToldLines, first_telling, told_entry, told_from, told_if_next}
use Rattle.ct_schedule_text.specs.declared.telling.Asked.{Asked}
use Rattle.ct_schedule_text.specs.Laws.{LinesAreThoseOfTheRun}
use Rattle.ct_schedule_text.proofs.Entries.{first_of, tells_entry}
use Rattle.ct_schedule_text.proofs.Open.{AreNumbered, Covers, has_number}

module _ (c : Config) (rules : Rules) (js : List Journal) (number : ℕ → ℕ → ℕ) where
  -- What is told so far goes along with the steps that are made so far, and the calls that are told to be open with those of the run
  record Along (w : Cluster) (k : Scheduling) (log : List OpenCall) (t : Telling) : Type 0 where
    front : t.front ≡ k.front
    sent : t.sent ≡ k.sent
    asked : t.asked ≡ w.calls
    holder : t.holder ≡ k.holder
    numbered : AreNumbered number t.calls
    covers : Covers t.calls log

  -- what is told in the end is what the run prints
  record Ends (r : Ran) (u : ToldLines) : Type 0 where
    lines : r.lines ≡ u.lines
    sent : length r.cluster.sent ≡ u.telling.sent
    covers : Covers u.telling.calls r.log

  -- a call that is asked next gets the next number among all calls
  asks_next : (w : Cluster) (k : Scheduling) (n : ℕ) (x : JournalEntry) (ys : List Noted) → Reached c rules js number w k (record { node = n; entry = x } ∷ ys) → next_entry js k.front n ≡ Some x
      → (call : ℕ) (o : ClientOp) → x.event ≡ event.Client call o → number n call ≡ w.calls + 1
  unfolding is_call has_call
  asks_next w k n x ys h next call o is =
      let l = has_journal js k.front n x next in
      let t = h.taken in
      let own : is_call call x.event ≡ true = ap (is_call call) is ∙ eq-eqb call call refl in
      let has : has_call call (rest_of js k.front n) ≡ true = subst (λ (xs : List JournalEntry). has_call call xs ≡ true) (sym (rest_own js k.front n x (omega (arith, l, t)) next)) (or_left (is_call call x.event) (has_call call (rest_of js (front_after n x.event k.front) n)) own) in
      let head : Noted = record { node = n; entry = x } in
      h.asked n call has ∙ number_now w.calls head ys n call (own_asks n call head refl ∙ own)

  walk : SendsRenumbered → length js ≡ c.nodes → (order : List ℕ) (w : Cluster) (k : Scheduling) (g : Front) (s : Stand js k.front order g) (log : List OpenCall) (t : Telling) (u : ToldLines) →
      Reached c rules js number w k (laid js k.front order g s) → Along w k log t → told_from js order t ≡ Some u → Ends (ran c rules w log (schedule_from js k order)) u
  unfolding Stand laid schedule_from steps_next scheduling_next scheduling_after given told_from told_if_next ran idle became
  walk sends count [] w k g s log t u h a told =
      let e : record { telling = t; lines = [] } ≡ u = cc in
      subst (λ (u : ToldLines). Ends (idle w log) u) e (record { lines = refl; sent = h.sent ∙ sym a.sent; covers = a.covers })
  walk sends count (n ∷ ns) w k g s log t u h a told =
      let x : JournalEntry = s.0 in
      let ys : List Noted = laid js (front_after n x.event k.front) ns g s.3 in
      let go = goes c rules js number sends count w k n x ys h s.1 s.2 in
      let on = goes_on c rules js number sends count w k n x ys h s.1 s.2 go in
      let e : Event = event_under (number n) x.event in
      let v : Cluster = became n e (turn_of c rules js number n x go.state) go.sent w in
      let rest = schedule_from js (scheduling_after n x k) ns in
      let next_same : next_entry js t.front n ≡ Some x = ap (λ (f : Front). next_entry js f n) a.front ∙ s.1 in
      let f = first_of (told_if_next n (next_entry js t.front n) t) (told_from js ns) u told in
      let entry : told_entry n x t ≡ Some f.first = sym (ap (λ (o : Option JournalEntry). told_if_next n o t) next_same) ∙ f.is in
      let tells = tells_entry number n x t f.first log entry (λ call o is. asks_next w k n x ys h s.1 call o is ∙ ap (λ (i : ℕ). i + 1) (sym a.asked)) a.numbered a.covers in
      let lines_same = ap₂ (λ (i : Option ℕ) (j : ℕ). own_lines n e i ++ lines_of n (j + 1) (map (out_under (number n)) x.outs)) (h.holder ∙ sym a.holder) (go.size ∙ h.sent ∙ sym a.sent) ∙ tells.lines in
      let now = closed_by_all f.first.lines (asked_by n e log) in
      let r = walk sends count ns v (scheduling_after n x k) g s.3 now f.first.telling f.more.told on (record {
        front = tells.front ∙ ap (front_after n x.event) a.front;
        sent = tells.sent ∙ ap (λ (i : ℕ). i + length (frames_in x.outs)) a.sent;
        asked = tells.asked ∙ ap (asked_after x.event) a.asked ∙ sym (asked_under (number n) x.event w.calls);
        holder = tells.holder ∙ ap (holder_after n x.event) a.holder;
        numbered = tells.numbered;
        covers = tells.covers;
      }) f.more.is in
      subst (λ (o : Option JournalEntry). Ends (ran c rules w log (steps_next n o k ++ schedule_from js (scheduling_next n o k) ns)) u) (sym s.1)
      (subst (λ (u : ToldLines). Ends (ran c rules w log (steps_for n x.event k ++ rest)) u) f.more.whole (record {
        lines = go.prints.lines_are log rest ∙ ap (λ (ls : List Line). ls ++ (ran c rules v (closed_by_all ls (asked_by n e log)) rest).lines) lines_same ∙ ap (λ (ls : List Line). f.first.lines ++ ls) r.lines;
        sent = ap (λ (w : Cluster). length w.sent) (go.prints.cluster_is log rest ∙ ap (λ (ls : List Line). (ran c rules v (closed_by_all ls (asked_by n e log)) rest).cluster) lines_same) ∙ r.sent;
        covers = subst (λ (l : List OpenCall). Covers f.more.told.telling.calls l) (sym (go.prints.log_is log rest ∙ ap (λ (ls : List Line). (ran c rules v (closed_by_all ls (asked_by n e log)) rest).log) lines_same)) r.covers;
      }))

  start : Along (opening c) (first_scheduling js) [] (first_telling js)
  unfolding first_telling first_scheduling opening AreNumbered asked_in
  start = record { front = refl; sent = refl; asked = refl; holder = refl; numbered = tt; covers = λ g none. refl }

none_has : (xs : List Asked) (g : ℕ) → xs ≡ [] → has_number g xs ≡ false
unfolding has_number
none_has xs g none = ap (has_number g) none

pub lines_are_those_of_the_run : LinesAreThoseOfTheRun
unfolding schedule_of first_scheduling
lines_are_those_of_the_run c rules js runs o u told =
    let first = starts c rules js runs o in
    let e = walk c rules js first.number sends_renumbered runs.count o.order (opening c) (first_scheduling js) o.end o.stand [] (first_telling js) u first.reached (start c rules js first.number) told in
    record { lines = e.lines; sent = e.sent; closed = λ none call. e.covers call (none_has u.telling.calls call none) }
