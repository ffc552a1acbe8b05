use Rattle.std.proofs.Common.{◌∙◌, sym}
use Rattle.std.proofs.lemmas.Bool.{eqb-true}
use Rattle.std.proofs.lemmas.List.{nil_from_length}
use Rattle.std.specs.Vec.{vec_len}
use Rattle.ct_tracking.proofs.Nodes.{nobody_same}
use Rattle.ct_tracking.proofs.awaited.Awaited.copy.Goals as goal

pub returns-then-is_empty : goal.returns-then-is_empty
returns-then-is_empty c =
    let none = nil_from_length c.self.inside.asked.items (sym c.self.inside.asked.ok.0 ∙ eqb-true (vec_len c.self.inside.asked) 0 (sym c.if-is_empty.ensures)) in
    c.nobody.ensures ∙ nobody_same c.self.inside.asked.items c.self.inside.missing.items c.self.invariant.0 none ∙ c.self.view_is
