use Rattle.std.proofs.Common.{map, string_bytes, ◌≡◌, ◌∙◌, sym, ap, subst, ⊎_elim, List, [], ℕ}
use Rattle.clap.specs.Simple.{App}
use Rattle.clap.specs.Words.{app_of, fault_of, is_simple, is_simple_and_free, subcommand_rows_of, subcommand_of}
use Rattle.ct_words.specs.Command.{program}
use Rattle.ct_words.specs.Matched.{matched}
use Rattle.ct_words.specs.Reading.{reading}
use Rattle.ct_words.proofs.Walks.{Agrees, said, found_read, fails_unread, is_exact, is_plain, ranged_found, reads_found}
use Rattle.ct_words.proofs.words.read_words.Goals as goal

pub returns-in-Ok-clause-ranged : goal.returns-in-Ok-clause-ranged
returns-in-Ok-clause-ranged c = ranged_found c.word_of.result c.ok_or.result c.word_of.ensures.ranged c.ok_or.ensures.value

pub returns-in-Ok-clause-reads : goal.returns-in-Ok-clause-reads
returns-in-Ok-clause-reads c =
    let same : app_of c.in_ok-program.field-0 ≡ program = c.in_ok-program.ensures in
    let words : List (List ℕ) = map string_bytes c.args.words.now in
    let fine : fault_of program words ≡ [] = ap (λ (a : App). fault_of a words) (sym same) ∙ c.in-Ok.ensures.kinds (ap is_simple_and_free same ∙ is_exact) in
    let found : subcommand_rows_of c.in-Ok.matches ≡ subcommand_of program words =
    (c.in-Ok.ensures.matches (ap is_simple same ∙ is_plain)).1 ∙ ap (λ (a : App). subcommand_of a words) same in
    reads_found c.word_of.result (reading words) c.ok_or.result (c.word_of.ensures.exact ∙ ap matched found ∙ found_read _ _ _ (said words) fine) c.ok_or.ensures.value

pub returns-clause-reads : goal.returns-clause-reads
returns-clause-reads c =
    let same : app_of c.in_ok-program.field-0 ≡ program = c.in_ok-program.ensures in
    let words : List (List ℕ) = map string_bytes c.args.words.now in
    ⊎_elim (λ (e : _). absurd (c.in_default.not-OutOfMemory (c.kind.ensures ∙ e)))
    (λ (among : _). fails_unread (fault_of (app_of c.in_ok-program.field-0) words) _ _ _ (subst (λ (a : App). Agrees (fault_of a words) (matched (subcommand_of program words)) (reading words)) (sym same) (said words)) among)
    (c.in-Err.ensures.kinds (ap is_simple_and_free same ∙ is_exact))
