use Rattle.std.proofs.Common.{ℕ, ◌-◌, List, [], ◌++◌, Option, take, ◌∙◌, sym, ap}
use Rattle.ct_traverse_parts.specs.Best.{taken_back}
use Rattle.ct_traverse_parts.specs.declared.best.Best.{Best}
use Rattle.ct_traverse_parts.proofs.Back.{back_last, none_back}
use Rattle.ct_traverse_parts.proofs.best.take_back.Goals as goal

pub loop-key-preserved : goal.loop-key-preserved
loop-key-preserved c = ap (taken_back c.pop.new.self.items) c.put_back.ensures
    ∙ sym (back_last c.pop.new.self.items (c.in-Some.key, c.in-Some.before) c.loop-key.kept)
    ∙ sym (ap (λ (l : List (List ℕ × Option Best)). taken_back l c.loop-key.kept) c.in-Some.ensures.items) ∙ c.loop-key.invariant

pub returns : goal.returns
returns c = sym (none_back c.loop-key.left.items c.loop-key.kept
    (c.in_default.ensures.items ∙ ap (λ (l : List (List ℕ × Option Best)). l ++ []) (c.in_default.ensures.rest ∙ ap (λ n. take (n - 1) c.loop-key.left.items) c.in_default.ensures.cases.0))) ∙ c.loop-key.invariant
