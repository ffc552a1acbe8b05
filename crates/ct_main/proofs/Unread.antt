-- Memory ran out before the words were read: nothing was done.
use Rattle.std.proofs.Common.{ℕ, List, [], Option, refl, inl, arith}
use Rattle.std.proofs.KnownBytes.{Appends-nil, Consumes-nil}
use Rattle.ct_call.specs.Rules.{Rules}
use Rattle.ct_lcp2_lines.specs.Claims.{Places}
use Rattle.ct_lcp2_lines.specs.declared.placer.End.TheVariants as placing
use Rattle.ct_soak.specs.Soaking.{soak_text}
use Rattle.ct_main.specs.Claims.{HasEndCause, Plays, SoakEnds}
use Rattle.ct_main.specs.declared.player.End.TheVariants as end
use Rattle.ct_play.proofs.Runs.{runs_are_moves}
use Rattle.ct_main.proofs.Promised.{promised}

pub nothing_played : (rules : Rules) (left now : Option (List ℕ)) → Plays rules end.NoMemory left left now now
nothing_played rules left now = record { bytes = []; taken = Consumes-nil left; ends = ([], _, refl, Appends-nil now); most = omega arith; promised = promised rules []; moved = runs_are_moves rules [] }

pub nothing_placed : (left now : Option (List ℕ)) → Places placing.NoMemory left left now now
nothing_placed left now = record { bytes = []; taken = Consumes-nil left; ends = inl refl }

pub nothing_soaked : (rules : Rules) (s : ℕ × ℕ) (now : Option (List ℕ)) → SoakEnds rules s end.NoMemory now now
nothing_soaked rules s now = ([], soak_text rules s.0 s.1, refl, Appends-nil now)

pub no_cause : (read written : ℕ) → HasEndCause end.NoMemory read read written written
no_cause read written = record { read_later = omega arith; write_later = omega arith; read = λ e. absurd (cc); write = λ e. absurd (cc) }
