use Rattle.std.proofs.Common.{ℕ, List, subst, ◌∙◌}
use Rattle.ct_outside.specs.Causes.{AppendsPart}
use Rattle.ct_main.proofs.run.soak_end.Goals as goal

pub returns-in-Err-Failed-clause-ends : goal.returns-in-Err-Failed-clause-ends
returns-in-Err-Failed-clause-ends g c =
    subst (λ (l : List ℕ). AppendsPart (g.K.Sink.held c.args.out.now) (g.K.Sink.held c.write_all.new.out) l) (c.as_slice.ensures.value ∙ c.in-Ok.ensures) c.in-Err-Failed.ensures.err

pub returns-clause-ends : goal.returns-clause-ends
returns-clause-ends g c =
    subst (λ (l : List ℕ). AppendsPart (g.K.Sink.held c.args.out.now) (g.K.Sink.held c.write_all.new.out) l) (c.as_slice.ensures.value ∙ c.in-Ok.ensures) c.in-Err-NoMemory.ensures.err
