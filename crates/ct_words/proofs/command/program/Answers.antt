use Rattle.std.proofs.Common.{rules, ◌≡◌, ◌∙◌, ap, ap₂}
use Rattle.std.proofs.lemmas.Result.{IfOk-weaker}
use Rattle.clap.specs.Words.{App, app_of, with_subcommand}
use Rattle.ct_words.specs.Command.{bare, chains, cluster, lcp2, loopback, play, soak}
use Rattle.ct_words.proofs.command.program.Goals as goal

pub returns : goal.returns
returns c =
    let one : app_of c.in_ok-subcommand.field-0 ≡ with_subcommand bare play.top =
    c.in_ok-subcommand.ensures.shape (search rules) ∙ ap₂ with_subcommand c.bare.ensures (ap (λ (a : App). a.top) c.new.ensures.app) in
    let two : app_of c.in_ok-subcommand-2.field-0 ≡ with_subcommand (with_subcommand bare play.top) lcp2.top =
    c.in_ok-subcommand-2.ensures.shape (search rules) ∙ ap₂ with_subcommand one (ap (λ (a : App). a.top) c.new-2.ensures.app) in
    let three : app_of c.in_ok-subcommand-3.field-0 ≡ with_subcommand (with_subcommand (with_subcommand bare play.top) lcp2.top) soak.top =
    c.in_ok-subcommand-3.ensures.shape (search rules) ∙ ap₂ with_subcommand two (ap (λ (a : App). a.top) c.in_ok-soak.ensures.shape) in
    let four : app_of c.in_ok-subcommand-4.field-0 ≡ with_subcommand (with_subcommand (with_subcommand (with_subcommand bare play.top) lcp2.top) soak.top) cluster.top =
    c.in_ok-subcommand-4.ensures.shape (search rules) ∙ ap₂ with_subcommand three (ap (λ (a : App). a.top) c.in_ok-planned.ensures.shape) in
    let five : app_of c.in_ok-subcommand-5.field-0 ≡ with_subcommand (with_subcommand (with_subcommand (with_subcommand (with_subcommand bare play.top) lcp2.top) soak.top) cluster.top) loopback.top =
    c.in_ok-subcommand-5.ensures.shape (search rules) ∙ ap₂ with_subcommand four (ap (λ (a : App). a.top) c.in_ok-planned-2.ensures.shape) in
    let six : app_of c.in_ok-subcommand-6.field-0 ≡ with_subcommand (with_subcommand (with_subcommand (with_subcommand (with_subcommand (with_subcommand bare play.top) lcp2.top) soak.top) cluster.top) loopback.top) chains.top =
    c.in_ok-subcommand-6.ensures.shape (search rules) ∙ ap₂ with_subcommand five (ap (λ (a : App). a.top) c.in_ok-chains.ensures.shape) in
    IfOk-weaker c.subcommand-7.result _ _
    (λ r h. h.shape (search rules) ∙ ap₂ with_subcommand six (ap (λ (a : App). a.top) c.in_ok-bus.ensures.shape)) c.subcommand-7.ensures
