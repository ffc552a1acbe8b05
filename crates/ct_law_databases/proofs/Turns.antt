-- What is sent again, a vacuum, and what begins a round or a takeover run.
use Rattle.std.proofs.Common.{◌≡◌, ℕ, ◌+◌, true, false, List, [], ◌∷◌, ◌++◌, Option, None, Some, refl, sym, subst, arith}
use Rattle.std.specs.Prelude.{slice_get}
use Rattle.std.specs.List.{AllByRecursion}
use Rattle.ct_values.specs.declared.config.Config.{Config}
use Rattle.ct_frame.specs.declared.frame.Frame.{Frame}
use Rattle.ct_frame.specs.declared.frame.Msg.TheVariants as msg
use Rattle.ct_call.specs.Rules.{Rules}
use Rattle.ct_rules_node.specs.Node.{Node, Committing, is_present, or_untouched, db_at}
use Rattle.ct_rules_node.specs.Turn.{Turn, begins}
use Rattle.ct_rules_node.specs.Rounds.{begin_round}
use Rattle.ct_rules_node.specs.Takeovers.{begin_takeover}
use Rattle.ct_rules_node.specs.Retries.{retry}
use Rattle.ct_rules_node.specs.Steps.{vacuums}
use Rattle.ct_rules_cluster.specs.Labels.{Label, Ticket, Takeover}
use Rattle.ct_rules_cluster.specs.declared.step.PendingCall.{PendingCall}
use Rattle.ct_register.specs.Lines.{Lines}
use Rattle.ct_register.specs.Words.{at}
use Rattle.ct_law_generation.specs.Shown.{labels_of}
use Rattle.ct_law_generation.proofs.Pending.{Callers, Fits}
use Rattle.ct_law_acts.proofs.Known.{NodeCalls}
use Rattle.ct_law_registers.proofs.Parts.{Choice}
use Rattle.ct_law_registers.proofs.Facts.{Has, Gone, bases, Stands, Waits, MayWait, Holds}
use Rattle.ct_law_databases.proofs.Kept.{frame_list, calm_kept}
use Rattle.ct_law_databases.proofs.Lists.{newest_at}
use Rattle.ct_law_databases.proofs.Quiet.{takeover_quiet}
use Rattle.ct_law_databases.proofs.Ticket.{told, ticket_holds, ticket_kept}
use Rattle.ct_law_databases.proofs.Parts.{all_answerable}
use Rattle.ct_law_databases.proofs.Records.{UpdatesStand, retry_calm, vacuums_calm}
use Rattle.ct_law_databases.proofs.Rounds.{begin_round_calm, begin_takeover_calm}
use Rattle.ct_law_databases.proofs.Before.{Before, Goes, calm_goes, waits_in_line}

module _ (config : Config) (rules : Rules) (who : Callers) (calls : ℕ) (nodes : ℕ → Node) (fs : List Frame) (r : Lines) (has : Has) (gone : Gone) (n : ℕ) (pend : List PendingCall) (b : Before config nodes fs r has gone)
    (known : NodeCalls config who calls n (nodes n)) (fits : AllByRecursion (Fits who) pend) where
  abbrev t : Turn
  t = begins (nodes n)

  abbrev Goes_to : List Label → Turn → Type 0
  Goes_to own u = Goes config nodes (at n u.node nodes) r has (own ++ labels_of n pend u.outs) (frame_list u.outs)

  -- ---- retries

  waiting_stands : (db : ℕ) (z : Committing) → is_present (nodes n).phase ≡ true → r.born (r.line n) ≡ true → (nodes n).generation ≡ r.line n → Waits n (r.members (r.line n)) (r.databases (r.line n) db) (λ m. has (r.line n) m db) z → Stands config (bases r) has (nodes n).generation n (msg.PUpdate db z.pending.seq z.writes)
  unfolding Stands
  waiting_stands db z present born same w = subst (λ (g : ℕ). Stands config (bases r) has g n (msg.PUpdate db z.pending.seq z.writes)) (sym same) (
    born,
    (r.databases (r.line n) db).acked,
    (let k = w.numbered in let a = w.unacknowledged in omega arith),
    newest_at (r.databases (r.line n) db).commits z.writes (r.databases (r.line n) db).acked w.newest w.unacknowledged,
  )

  unwrap : (db : ℕ) (z : Committing) (o : Option Committing) → o ≡ Some z → MayWait n (r.members (r.line n)) (r.databases (r.line n) db) (λ m. has (r.line n) m db) o → Waits n (r.members (r.line n)) (r.databases (r.line n) db) (λ m. has (r.line n) m db) z
  unfolding MayWait
  unwrap db z None e w = absurd (cc)
  unwrap db z (Some q) e w = subst (Waits n (r.members (r.line n)) (r.databases (r.line n) db) (λ m. has (r.line n) m db)) (let same : q ≡ z = cc in same) w

  updates_stand : is_present (nodes n).phase ≡ true → UpdatesStand config rules who calls (bases r) has n (nodes n).generation 0 (nodes n).dbs
  unfolding db_at
  updates_stand present k z e =
      let zero_more : k ≡ 0 + k = omega arith in
      let i = waits_in_line config nodes fs r b.rounds b.locked n k z e in
      subst (λ (j : ℕ). Stands config (bases r) has (nodes n).generation n (msg.PUpdate j z.pending.seq z.writes)) zero_more
      (waiting_stands k z present i.born i.there.generation (unwrap k z (or_untouched (slice_get (nodes n).dbs k)).commit e (b.holds.waits n k)))

  pub retry_goes : Goes_to [] (retry config n t)
  retry_goes = calm_goes config who nodes r has n t (retry config n t) [] pend b.holds refl refl tt fits (retry_calm config rules who calls (bases r) has n t (all_answerable config who (bases r) calls n (nodes n) known) tt (b.holds.leads n) updates_stand)

  pub vacuum_goes : (db : ℕ) → Goes_to [] (vacuums config n db t)
  vacuum_goes db = calm_goes config who nodes r has n t (vacuums config n db t) [] pend b.holds refl refl tt fits (vacuums_calm config rules who calls (bases r) has n db t (all_answerable config who (bases r) calls n (nodes n) known) tt)

  pub takeover_goes : (able shown : List ℕ) → Goes_to (Takeover n shown ∷ []) (begin_takeover n able t (nodes n).lead)
  takeover_goes able shown = calm_goes config who nodes r has n t _ (Takeover n shown ∷ []) pend b.holds refl refl (takeover_quiet config (bases r) n shown, tt) fits (begin_takeover_calm config who (bases r) has n able t (nodes n).lead)

  -- a round begins, with the ticket that was given for it
  pub recover_goes : (g : ℕ) (members shown : List ℕ) → r.born g ≡ false → Goes_to (Ticket g n shown ∷ []) (begin_round n g members t)
  recover_goes g members shown unborn = record {
    kept = λ db. 0;
    seen = 0;
    more = has;
    goes = λ counts. (let x : Choice = record { counts = counts; kept = λ db. 0; seen = 0 } in
        let s = told config x nodes r has g n shown b.holds unborn in
        let h : Holds config nodes (bases s) has = ticket_holds config x nodes r has g n shown b.holds unborn in
        ticket_kept config x nodes r has g n shown b.holds unborn _ has _ _
        (calm_kept config who x nodes s has n t (begin_round n g members t) [] pend h refl refl tt fits (begin_round_calm config who (bases s) has n g members t)));
  }
