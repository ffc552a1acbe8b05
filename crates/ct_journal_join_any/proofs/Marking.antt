-- The steps that mark nodes as able.
use Rattle.std.proofs.Common.{◌≡◌, ℕ, ◌+◌, ◌<◌, ◌≤◌, Bool, List, [], ◌∷◌, ◌++◌, length, drop, get_or, drop-cons, add-one, append-nil, append_assoc, arith, refl, sym, ap, ◌∙◌}
use Rattle.std.proofs.lemmas.List.{drop_all}
use Rattle.ct_rules_node.specs.Node.{is_among}
use Rattle.ct_rules_cluster.specs.declared.step.Step.{Step}
use Rattle.ct_law_journal_reach.specs.Making.{mark_step, mark_steps}

-- those of the next node
pub mark_next : (able : List ℕ) (bs : List Bool) (i : ℕ) (d : Bool) → i < length bs → mark_steps able i (drop i bs) ≡ mark_step i (get_or bs i d) (is_among i able) ++ mark_steps able (i + 1) (drop (i + 1) bs)
unfolding mark_steps
mark_next able bs i d l = ap (mark_steps able i) (drop-cons bs i d l ∙ ap (λ (m : ℕ). get_or bs i d ∷ drop m bs) (sym (add-one i)))

pub marks_more : (able : List ℕ) (bs : List Bool) (i : ℕ) (d : Bool) (xs ys all : List Step) → i < length bs → xs ++ mark_steps able i (drop i bs) ≡ all → ys ≡ xs ++ mark_step i (get_or bs i d) (is_among i able) → ys ++ mark_steps able (i + 1) (drop (i + 1) bs) ≡ all
marks_more able bs i d xs ys all l h more =
    ap (λ (zs : List Step). zs ++ mark_steps able (i + 1) (drop (i + 1) bs)) more
    ∙ append_assoc xs (mark_step i (get_or bs i d) (is_among i able)) (mark_steps able (i + 1) (drop (i + 1) bs))
    ∙ ap (λ (zs : List Step). xs ++ zs) (sym (mark_next able bs i d l)) ∙ h

pub marks_last : (able : List ℕ) (bs : List Bool) (i : ℕ) (xs all : List Step) → length bs ≤ i → xs ++ mark_steps able i (drop i bs) ≡ all → xs ≡ all
unfolding mark_steps
marks_last able bs i xs all l h = sym (append-nil xs) ∙ ap (λ (cs : List Bool). xs ++ mark_steps able i cs) (sym (drop_all i bs l)) ∙ h
