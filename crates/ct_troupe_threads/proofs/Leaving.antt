-- What nodes leave, one after the other.
use Rattle.std.proofs.Common.{◌≡◌, ◌∙◌, true, List, [], ◌∷◌, ◌++◌, map, None, Some, Option, refl, sym, ap, subst, arith}
use Rattle.std.specs.List.{list_any}
use Rattle.std.specs.Prelude.{Ok, Result}
use Rattle.ct_values.specs.declared.memory.NoMemory.{NoMemory}
use Rattle.ct_troupe_threads.specs.Meshed.{has_failed}
use Rattle.ct_troupe_threads.specs.Threaded.{served}
use Rattle.ct_troupe_threads.specs.declared.node.NodeEnd.{NodeEnd}

one_failed : (ends : List NodeEnd) (rest : List (Result (Option NodeEnd) NoMemory)) → list_any has_failed (map served ends ++ Ok None ∷ rest) ≡ true
one_failed [] rest = refl
one_failed (e ∷ ends) rest = one_failed ends rest

pub failed_there : (ends : List NodeEnd) (all left rest : List (Result (Option NodeEnd) NoMemory)) → map served ends ++ left ≡ all → left ≡ Ok None ∷ rest → list_any has_failed all ≡ true
failed_there ends all left rest is left_is =
    sym (ap (λ (rs : List (Result (Option NodeEnd) NoMemory)). list_any has_failed rs) (sym (ap (λ (rs : List (Result (Option NodeEnd) NoMemory)). map served ends ++ rs) left_is) ∙ is)) ∙ one_failed ends rest
