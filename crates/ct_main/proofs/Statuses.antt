-- What the status says of each command, and that it is told.
use Rattle.std.proofs.Common.{◌≡◌, ◌≢◌, ℕ, ◌<◌, ◌+◌, List, [], ◌++◌, length, Option, Some, Result, Ok, Err, refl, sym, ap, subst, ◌∙◌, length-append, arith, inl, inr, ⊎_elim}
use Rattle.std.specs.Prelude.{◌⊎◌}
use Rattle.std.specs.Io.KnownBytes.{Appends}
use Rattle.ct_outside.specs.Causes.{Rose}
use Rattle.ct_outside.specs.declared.fault.SinkFault.{SinkFault}
use Rattle.ct_outside.specs.declared.fault.SinkFault.TheVariants as sink
use Rattle.ct_call.specs.Rules.{Rules}
use Rattle.ct_play.specs.Play.{rest}
use Rattle.ct_lcp2_lines.specs.Claims.{HasPlacingCause, Places}
use Rattle.ct_lcp2_lines.specs.Complete as placing
use Rattle.ct_lcp2_lines.specs.Input as input
use Rattle.ct_lcp2_lines.specs.declared.placer.End.{End as PlacingEnd}
use Rattle.ct_lcp2_lines.specs.declared.placer.End.TheVariants as placed
use Rattle.ct_lcp2_lines.proofs.Complete as placing_proofs
use Rattle.ct_lcp2_lines.proofs.Complete.{taken_front, all_taken}
use Rattle.ct_soak.specs.Soaking.{soak_text}
use Rattle.ct_troupe_run.specs.Chains as chains
use Rattle.ct_troupe_run.specs.Chains.{RunsColumns, plans_of}
use Rattle.ct_troupe_run.specs.Running as running
use Rattle.ct_troupe_run.specs.Running.{HasRunCause, Runs}
use Rattle.ct_troupe_run.specs.declared.running.End.{End as ClusterEnd}
use Rattle.ct_troupe_run.specs.declared.running.End.TheVariants as ran
use Rattle.ct_bus_exchange.specs.Handling.{Handling}
use Rattle.ct_bus_run.specs.Ends.{BusEnds, HasBusCause}
use Rattle.ct_bus_run.specs.Text.{bus_text}
use Rattle.ct_bus_run.specs.declared.generated.BusWanted.{BusWanted}
use Rattle.ct_bus_run.specs.declared.running.BusEnd.{BusEnd}
use Rattle.ct_bus_run.specs.declared.running.BusEnd.TheVariants as exchanged
use Rattle.ct_main.specs.Claims.{HasEndCause, Plays, Reports, Says, SoakEnds, bus_end, cluster_message, cluster_status, message, most_bytes, placed_end, status}
use Rattle.ct_main.specs.Complete.{IsGood}
use Rattle.ct_main.specs.Statuses.{IsPlayedWhole, PlayIsTold, IsPlacedWhole, PlacementIsTold, SoakIsTold, ClusterIsTold, ChainsAreTold, BusIsTold}
use Rattle.ct_main.specs.declared.player.End.{End}
use Rattle.ct_main.specs.declared.player.End.TheVariants as end
use Rattle.ct_main.proofs.Complete.{completes}

-- ---- the line on err

module _ (line : List ℕ) (wanted result : ℕ) (before now : Option (List ℕ)) (f g : ℕ) where
  -- the status is 0 only where this was wanted, and then the line was told
  zero_said : (w : Result (Unit {0}) SinkFault) → Says w line wanted result before now f g → result ≡ 0 → (wanted ≡ 0) × Appends before now line
  zero_said (Ok u) h z = (sym h.0 ∙ z, h.1)
  zero_said (Err sink.Failed) h z = absurd (let e : ◌≡◌ {A = ℕ} 4 0 = sym h.0 ∙ z in omega arith)
  zero_said (Err sink.NoMemory) h z = absurd (let e : ◌≡◌ {A = ℕ} 5 0 = sym h.0 ∙ z in omega arith)

  zero_told : Reports line wanted result before now f g → result ≡ 0 → (wanted ≡ 0) × Appends before now line
  zero_told r z = zero_said r.0 r.1 z

  not_zero : Reports line wanted result before now f g → wanted ≢ 0 → result ≡ 0 → ⊥
  not_zero r other z = other (zero_told r z).0

  -- where err did not fail, it is the one that is wanted, unless memory ran out
  status_said : (w : Result (Unit {0}) SinkFault) → Says w line wanted result before now f g → ¬ (Rose f g) → (result ≡ 5) ⊎ (result ≡ wanted)
  status_said (Ok u) h quiet = inr h.0
  status_said (Err sink.Failed) h quiet = absurd (quiet h.2)
  status_said (Err sink.NoMemory) h quiet = inl h.0

  status_told : Reports line wanted result before now f g → ¬ (Rose f g) → (result ≡ 5) ⊎ (result ≡ wanted)
  status_told r quiet = status_said r.0 r.1 quiet

  -- and with it what else is known
  status_with : {P : Type 0} → Reports line wanted result before now f g → ¬ (Rose f g) → P → (result ≡ 5) ⊎ (P × (result ≡ wanted))
  status_with {P} r quiet p = ⊎_elim (λ (e : result ≡ 5). inl e) (λ (e : result ≡ wanted). inr (p, e)) (status_told r quiet)

-- ---- play

module _ (rules : Rules) (bytes : List ℕ) (left before now err_before err_now : Option (List ℕ)) (result f g : ℕ) where
  play_zero : (e : End) → Plays rules e (Some bytes) left before now → Reports (message e) (status e) result err_before err_now f g → result ≡ 0 → IsPlayedWhole rules bytes left before now × Appends err_before err_now []
  play_zero end.Read p r z = (
    subst (λ (l : List ℕ). IsPlayedWhole rules l left before now) (sym (all_taken bytes left p.bytes p.taken p.ends.0))
        (record { at_end = p.ends.0; good = record { ended = p.ends.1; short = p.ends.2; unrefused = p.ends.3.unrefused }; text = p.ends.3.text }),
    (zero_told [] 0 result err_before err_now f g r z).1,
  )
  play_zero (end.Unended line) p r z = absurd (not_zero _ 2 result err_before err_now f g r (λ e. cc) z)
  play_zero (end.Refused line what) p r z = absurd (not_zero _ 2 result err_before err_now f g r (λ e. cc) z)
  play_zero end.ReadFault p r z = absurd (not_zero _ 3 result err_before err_now f g r (λ e. cc) z)
  play_zero end.WriteFault p r z = absurd (not_zero _ 4 result err_before err_now f g r (λ e. cc) z)
  play_zero end.NoMemory p r z = absurd (not_zero _ 5 result err_before err_now f g r (λ e. cc) z)
  play_zero end.TooLong p r z = absurd (not_zero _ 8 result err_before err_now f g r (λ e. cc) z)

  abbrev Settled : Type 0
  Settled = (result ≡ 5) ⊎ (IsGood rules bytes × (result ≡ 0)) ⊎ ((¬ (IsGood rules bytes)) × (result ≡ 2))

  with_zero : (result ≡ 5) ⊎ (IsGood rules bytes × (result ≡ 0)) → Settled
  with_zero h = ⊎_elim (λ (e : result ≡ 5). inl e) (λ (k : IsGood rules bytes × (result ≡ 0)). inr (inl k)) h

  with_two : (result ≡ 5) ⊎ ((¬ (IsGood rules bytes)) × (result ≡ 2)) → Settled
  with_two h = ⊎_elim (λ (e : result ≡ 5). inl e) (λ (k : (¬ (IsGood rules bytes)) × (result ≡ 2)). inr (inr k)) h

  play_settled : (e : End) (a b c d : ℕ) → Plays rules e (Some bytes) left before now → HasEndCause e a b c d → Reports (message e) (status e) result err_before err_now f g → length bytes < most_bytes → ¬ (Rose a b) → ¬ (Rose c d) → ¬ (Rose f g) → Settled
  play_settled end.Read a b c d p h r short i o quiet = with_zero (status_with [] 0 result err_before err_now f g r quiet
      (subst (λ (l : List ℕ). IsGood rules l) (sym (all_taken bytes left p.bytes p.taken p.ends.0)) (record { ended = p.ends.1; short = p.ends.2; unrefused = p.ends.3.unrefused })))
  play_settled (end.Unended line) a b c d p h r short i o quiet = with_two (status_with _ 2 result err_before err_now f g r quiet
      (λ (good : IsGood rules bytes). p.ends.1 (subst (λ l. rest l ≡ []) (all_taken bytes left p.bytes p.taken p.ends.0) good.ended)))
  play_settled (end.Refused line what) a b c d p h r short i o quiet = with_two (status_with _ 2 result err_before err_now f g r quiet
      (λ (good : IsGood rules bytes). ⊎_elim (λ (e : end.Refused line what ≡ end.Read). absurd (cc)) (λ (e : end.Refused line what ≡ end.NoMemory). absurd (cc)) (completes rules (end.Refused line what) bytes left before now a b c d good p h i o)))
  play_settled end.ReadFault a b c d p h r short i o quiet = absurd (i (h.read refl))
  play_settled end.WriteFault a b c d p h r short i o quiet = absurd (o (h.write refl))
  play_settled end.NoMemory a b c d p h r short i o quiet = ⊎_elim (λ (e : result ≡ 5). inl e) (λ (e : result ≡ 5). inl e) (status_told _ 5 result err_before err_now f g r quiet)
  play_settled end.TooLong a b c d p h r short i o quiet =
      let k : (more : List ℕ) × (bytes ≡ p.bytes ++ more) = taken_front bytes left p.bytes p.taken in
      absurd (omega (arith, p.ends.0, short, ap length k.1, length-append p.bytes k.0))

pub play_told : PlayIsTold
play_told rules e bytes left before now err_before err_now result a b c d f g p h r = (
  play_zero rules bytes left before now err_before err_now result f g e p r,
  λ short i o quiet. play_settled rules bytes left before now err_before err_now result f g e a b c d p h r short i o quiet,
)

-- ---- lcp2

module _ (bytes : List ℕ) (left before now err_before err_now : Option (List ℕ)) (result f g : ℕ) where
  placed_zero : (e : PlacingEnd) → Places e (Some bytes) left before now → Reports (message (placed_end e)) (status (placed_end e)) result err_before err_now f g → result ≡ 0 → IsPlacedWhole bytes left before now × Appends err_before err_now []
  placed_zero placed.Read p r z = (
    subst (λ (l : List ℕ). IsPlacedWhole l left before now) (sym (all_taken bytes left p.bytes p.taken p.ends.0.at_end))
        (record { at_end = p.ends.0.at_end; good = record { ended = p.ends.0.ended; unrefused = p.ends.0.unrefused }; text = p.ends.1 }),
    (zero_told [] 0 result err_before err_now f g r z).1,
  )
  placed_zero (placed.Unended line) p r z = absurd (not_zero _ 2 result err_before err_now f g r (λ e. cc) z)
  placed_zero (placed.Refused line kind) p r z = absurd (not_zero _ 2 result err_before err_now f g r (λ e. cc) z)
  placed_zero placed.ReadFault p r z = absurd (not_zero _ 3 result err_before err_now f g r (λ e. cc) z)
  placed_zero placed.WriteFault p r z = absurd (not_zero _ 4 result err_before err_now f g r (λ e. cc) z)
  placed_zero placed.NoMemory p r z = absurd (not_zero _ 5 result err_before err_now f g r (λ e. cc) z)

  caused : (e : PlacingEnd) (a b c d : ℕ) → HasEndCause (placed_end e) a b c d → HasPlacingCause e a b c d
  caused e a b c d h = record { read_later = h.read_later; write_later = h.write_later; read = λ is. h.read (ap (λ (z : PlacingEnd). placed_end z) is); write = λ is. h.write (ap (λ (z : PlacingEnd). placed_end z) is) }

  abbrev PlacedSettled : Type 0
  PlacedSettled = (result ≡ 5) ⊎ (placing.IsGood bytes × (result ≡ 0)) ⊎ ((¬ (placing.IsGood bytes)) × (result ≡ 2))

  placed_settled : (e : PlacingEnd) (a b c d : ℕ) → Places e (Some bytes) left before now → HasEndCause (placed_end e) a b c d → Reports (message (placed_end e)) (status (placed_end e)) result err_before err_now f g → ¬ (Rose a b) → ¬ (Rose c d) → ¬ (Rose f g) → PlacedSettled
  placed_settled placed.Read a b c d p h r i o quiet = ⊎_elim (λ (e : result ≡ 5). inl e)
      (λ (e : result ≡ 0). inr (inl (subst (λ (l : List ℕ). placing.IsGood l) (sym (all_taken bytes left p.bytes p.taken p.ends.0.at_end)) (record { ended = p.ends.0.ended; unrefused = p.ends.0.unrefused }), e)))
      (status_told [] 0 result err_before err_now f g r quiet)
  placed_settled (placed.Unended line) a b c d p h r i o quiet = ⊎_elim (λ (e : result ≡ 5). inl e)
      (λ (e : result ≡ 2). inr (inr ((λ (good : placing.IsGood bytes). p.ends.1 (subst (λ l. input.rest l ≡ []) (all_taken bytes left p.bytes p.taken p.ends.0) good.ended)), e)))
      (status_told _ 2 result err_before err_now f g r quiet)
  placed_settled (placed.Refused line kind) a b c d p h r i o quiet = ⊎_elim (λ (e : result ≡ 5). inl e)
      (λ (e : result ≡ 2). inr (inr (
        (λ (good : placing.IsGood bytes). ⊎_elim (λ (f : placed.Refused line kind ≡ placed.Read). absurd (cc)) (λ (f : placed.Refused line kind ≡ placed.NoMemory). absurd (cc))
            (placing_proofs.completes (placed.Refused line kind) bytes left before now a b c d good p (caused (placed.Refused line kind) a b c d h) i o)),
        e,
      )))
      (status_told _ 2 result err_before err_now f g r quiet)
  placed_settled placed.ReadFault a b c d p h r i o quiet = absurd (i (h.read refl))
  placed_settled placed.WriteFault a b c d p h r i o quiet = absurd (o (h.write refl))
  placed_settled placed.NoMemory a b c d p h r i o quiet = ⊎_elim (λ (e : result ≡ 5). inl e) (λ (e : result ≡ 5). inl e) (status_told _ 5 result err_before err_now f g r quiet)

pub placement_told : PlacementIsTold
placement_told e bytes left before now err_before err_now result a b c d f g p h r = (
  placed_zero bytes left before now err_before err_now result f g e p r,
  λ i o quiet. placed_settled bytes left before now err_before err_now result f g e a b c d p h r i o quiet,
)

-- ---- soak

module _ (rules : Rules) (seed steps : ℕ) (before now err_before err_now : Option (List ℕ)) (result f g : ℕ) where
  soak_zero : (e : End) → SoakEnds rules (seed, steps) e before now → Reports (message e) (status e) result err_before err_now f g → result ≡ 0 → Appends before now (soak_text rules seed steps) × Appends err_before err_now []
  soak_zero end.Read p r z = (p, (zero_told [] 0 result err_before err_now f g r z).1)
  soak_zero end.WriteFault p r z = absurd (not_zero _ 4 result err_before err_now f g r (λ e. cc) z)
  soak_zero end.NoMemory p r z = absurd (not_zero _ 5 result err_before err_now f g r (λ e. cc) z)
  soak_zero (end.Unended line) p r z = absurd p
  soak_zero (end.Refused line what) p r z = absurd p
  soak_zero end.ReadFault p r z = absurd p
  soak_zero end.TooLong p r z = absurd p

  soak_settled : (e : End) (a b c d : ℕ) → SoakEnds rules (seed, steps) e before now → HasEndCause e a b c d → Reports (message e) (status e) result err_before err_now f g → ¬ (Rose c d) → ¬ (Rose f g) → (result ≡ 5) ⊎ (result ≡ 0)
  soak_settled end.Read a b c d p h r o quiet = status_told [] 0 result err_before err_now f g r quiet
  soak_settled end.WriteFault a b c d p h r o quiet = absurd (o (h.write refl))
  soak_settled end.NoMemory a b c d p h r o quiet = ⊎_elim (λ (e : result ≡ 5). inl e) (λ (e : result ≡ 5). inl e) (status_told _ 5 result err_before err_now f g r quiet)
  soak_settled (end.Unended line) a b c d p h r o quiet = absurd p
  soak_settled (end.Refused line what) a b c d p h r o quiet = absurd p
  soak_settled end.ReadFault a b c d p h r o quiet = absurd p
  soak_settled end.TooLong a b c d p h r o quiet = absurd p

pub soak_told : SoakIsTold
soak_told rules seed steps e before now err_before err_now result a b c d f g p h r = (
  soak_zero rules seed steps before now err_before err_now result f g e p r,
  λ o quiet. soak_settled rules seed steps before now err_before err_now result f g e a b c d p h r o quiet,
)

-- ---- cluster, loopback and chains

module _ (err_before err_now : Option (List ℕ)) (result f g : ℕ) where
  -- whatever the troupe did, where it is known of its end Done alone
  ran_zero : (Gains : Type 0) (e : ClusterEnd) → (e ≡ ran.Done → Gains) → Reports (cluster_message e) (cluster_status e) result err_before err_now f g → result ≡ 0 → Gains × Appends err_before err_now []
  ran_zero Gains ran.Done gains r z = (gains refl, (zero_told [] 0 result err_before err_now f g r z).1)
  ran_zero Gains ran.LinkFault gains r z = absurd (not_zero _ 7 result err_before err_now f g r (λ e. cc) z)
  ran_zero Gains ran.WriteFault gains r z = absurd (not_zero _ 4 result err_before err_now f g r (λ e. cc) z)
  ran_zero Gains ran.NoMemory gains r z = absurd (not_zero _ 5 result err_before err_now f g r (λ e. cc) z)

  ran_settled : (e : ClusterEnd) (a b c d : ℕ) → HasRunCause e a b c d → Reports (cluster_message e) (cluster_status e) result err_before err_now f g → ¬ (Rose a b) → ¬ (Rose c d) → ¬ (Rose f g) → (result ≡ 5) ⊎ (result ≡ 0)
  ran_settled ran.Done a b c d h r i o quiet = status_told [] 0 result err_before err_now f g r quiet
  ran_settled ran.LinkFault a b c d h r i o quiet = absurd (i (h.link refl))
  ran_settled ran.WriteFault a b c d h r i o quiet = absurd (o (h.write refl))
  ran_settled ran.NoMemory a b c d h r i o quiet = ⊎_elim (λ (e : result ≡ 5). inl e) (λ (e : result ≡ 5). inl e) (status_told _ 5 result err_before err_now f g r quiet)

pub cluster_told : ClusterIsTold
cluster_told rules x e js before now err_before err_now result a b c d f g p h r = (
  ran_zero err_before err_now result f g (running.GainsAll rules x js before now) e (λ done. subst (λ (z : ClusterEnd). Runs rules x z js before now) done p) r,
  λ i o quiet. ran_settled err_before err_now result f g e a b c d h r i o quiet,
)

pub chains_told : ChainsAreTold
chains_told rules x e told before now err_before err_now result a b c d f g p h r = (
  ran_zero err_before err_now result f g (chains.GainsAll rules x (plans_of x) told before now) e (λ done. subst (λ (z : ClusterEnd). RunsColumns rules x z told before now) done p) r,
  λ i o quiet. ran_settled err_before err_now result f g e a b c d h r i o quiet,
)

-- ---- bus

module _ (hs : Handling) (x : BusWanted) (before now err_before err_now : Option (List ℕ)) (result f g : ℕ) where
  bus_zero : (e : BusEnd) (a b c d : ℕ) → BusEnds hs x e before now → HasBusCause e a b c d → Reports (message (bus_end e)) (status (bus_end e)) result err_before err_now f g → result ≡ 0 → Appends before now (bus_text hs x) × Rose a b × Appends err_before err_now []
  bus_zero exchanged.Done a b c d p h r z = (p, h.exchanged refl, (zero_told [] 0 result err_before err_now f g r z).1)
  bus_zero exchanged.WriteFault a b c d p h r z = absurd (not_zero _ 4 result err_before err_now f g r (λ e. cc) z)
  bus_zero exchanged.NoMemory a b c d p h r z = absurd (not_zero _ 5 result err_before err_now f g r (λ e. cc) z)

  bus_settled : (e : BusEnd) (a b c d : ℕ) → HasBusCause e a b c d → Reports (message (bus_end e)) (status (bus_end e)) result err_before err_now f g → ¬ (Rose c d) → ¬ (Rose f g) → (result ≡ 5) ⊎ (result ≡ 0)
  bus_settled exchanged.Done a b c d h r o quiet = status_told [] 0 result err_before err_now f g r quiet
  bus_settled exchanged.WriteFault a b c d h r o quiet = absurd (o (h.write refl))
  bus_settled exchanged.NoMemory a b c d h r o quiet = ⊎_elim (λ (e : result ≡ 5). inl e) (λ (e : result ≡ 5). inl e) (status_told _ 5 result err_before err_now f g r quiet)

pub bus_told : BusIsTold
bus_told hs x e before now err_before err_now result a b c d f g p h r = (
  bus_zero hs x before now err_before err_now result f g e a b c d p h r,
  λ o quiet. bus_settled hs x before now err_before err_now result f g e a b c d h r o quiet,
)
