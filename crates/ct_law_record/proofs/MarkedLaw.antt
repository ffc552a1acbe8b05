-- The law of the marks of one record, from the opening, from a generation without a row, and from one with a row.
use Rattle.std.proofs.Common.{length, ◌≡◌, ℕ, ◌+◌, ◌-◌, true, None, Some, List, [], ◌∷◌, refl, sym, ap, arith, subst}
use Rattle.std.proofs.lemmas.Bool.{le-leb, lt-ltb}
use Rattle.ct_frame.specs.declared.frame.TableRow.{TableRow}
use Rattle.ct_rules_node.specs.Rounds.{row_master, or_nobody}
use Rattle.ct_rules_node.specs.Node.{is_among}
use Rattle.ct_register.specs.Register.{newborn}
use Rattle.ct_law_record.specs.Marked.{OpensWithMarks, BeginsWithMarks, IsBornWithMarks}
use Rattle.ct_law_record.specs.World.{waiting_call, opening, bare, born}
use Rattle.ct_law_record.specs.Calls.{log_of}
use Rattle.ct_law_record.proofs.LoggedRun.{runs_from}
use Rattle.ct_law_record.proofs.Law.{bare_ghost, bare_holds}
use Rattle.ct_law_record.proofs.Births.{born_ghost, born_holds, born_want}
use Rattle.ct_law_record.proofs.MarkLists.{dense}
use Rattle.ct_law_record.proofs.MarkedRun.{marks_of}

pub begins : BeginsWithMarks
begins s joined number wish events real drawn wanting = (let w = bare joined number wish in runs_from s events w (log_of w) (newborn []) (bare_ghost s.lmaster) real (bare_holds s joined number wish drawn) (λ n call. refl) wanting)

pub opens : OpensWithMarks
unfolding waiting_call
opens s events real = runs_from s events opening (λ n call. None) (newborn []) (bare_ghost s.lmaster) real (bare_holds s (λ _. true) (λ _. 1) (λ _. None) (record { some = λ n. omega arith; above = λ n w e. absurd (cc) })) (λ n call. refl) (λ n x e. absurd (cc))

pub is_born : IsBornWithMarks
unfolding row_master or_nobody
is_born s row master versions seen joined number wish events real lmaster named member is sees drawn wanting =
    let e : row_master row ≡ master = ap or_nobody named in
    let w = born s row joined number wish in
    runs_from s events w (log_of w) _ (born_ghost row (row_master row) versions seen) real (born_holds s row joined versions seen number wish real lmaster (subst (λ x. is_among x s.members ≡ true) (sym e) member) is sees drawn) (λ n call. refl) (born_want s row joined number wish wanting)

-- the marks of the beginnings: none, and those of the row's RSN and of the next one, at the row's data master
pub bare_marks : (m : ℕ) → marks_of (bare_ghost m) ≡ record { marks = []; low = 0; site = None }
unfolding dense
bare_marks m = refl

pub born_marks : (row : TableRow) (master : ℕ) (versions : List (List ℕ)) (seen : ℕ → ℕ) →
    marks_of (born_ghost row master versions seen) ≡ record { marks = record { rsn = row.rsn; place = length versions } ∷ record { rsn = row.rsn + 1; place = length versions } ∷ []; low = row.rsn + 2; site = Some (record { holder = master; least = row.rsn + 1 }) }
unfolding dense
born_marks row master versions seen =
    let two : row.rsn + 2 - row.rsn ≡ 2 = omega arith in
    rw (two, lt-ltb row.rsn (row.rsn + 2) (omega arith), le-leb (row.rsn + 1) (row.rsn + 1) (omega arith), le-leb (row.rsn + 1) (row.rsn + 1 + 1) (omega arith)) refl
