-- The names of databases with a commit that waits, from a place on.
use Rattle.std.proofs.Common.{◌≡◌, ℕ, ◌+◌, ◌<◌, ◌≤◌, Bool, true, false, ◌&&◌, ◌||◌, List, ◌∷◌, length, drop, get_or, refl, sym, ◌∙◌, ap, subst, add-one, suc, arith}
use Rattle.std.specs.Prelude.{is_some, nat_eq}
use Rattle.std.specs.Cmp.Lexicographic.{pointwise}
use Rattle.std.proofs.Math.Seq.{drop-cons, drop-length}
use Rattle.ct_values.specs.declared.config.Config.{Config}
use Rattle.ct_rules_node.specs.Node.{Database, name_of}
use Rattle.ct_rules_node.specs.Clients.{is_name_of_commit}

from_place : (c : Config) (key : List ℕ) (i : ℕ) (ds : List Database) (d : Database) (b : Bool) → d ≡ get_or ds i d → i < length ds → (is_some d.commit && pointwise nat_eq key (name_of c i)) ≡ b →
    is_name_of_commit c key i (drop i ds) ≡ (b || is_name_of_commit c key (i + 1) (drop (i + 1) ds))
unfolding is_name_of_commit
from_place c key i ds d b is l t =
    let e : drop i ds ≡ d ∷ drop (i + 1) ds = rw add-one (drop-cons ds i d l ∙ ap (λ (x : Database). x ∷ drop (suc i) ds) (sym is)) in
    ap (is_name_of_commit c key i) e ∙ ap (λ (x : Bool). x || is_name_of_commit c key (i + 1) (drop (i + 1) ds)) t

-- it is not the name of this one
pub named_later : (c : Config) (key : List ℕ) (i : ℕ) (ds : List Database) (d : Database) → d ≡ get_or ds i d → i < length ds → (is_some d.commit && pointwise nat_eq key (name_of c i)) ≡ false →
    is_name_of_commit c key (i + 1) (drop (i + 1) ds) ≡ is_name_of_commit c key i (drop i ds)
named_later c key i ds d is l t = sym (from_place c key i ds d false is l t)

-- it is
pub named_here : (c : Config) (key : List ℕ) (i : ℕ) (ds : List Database) (d : Database) → d ≡ get_or ds i d → i < length ds → (is_some d.commit && pointwise nat_eq key (name_of c i)) ≡ true →
    is_name_of_commit c key i (drop i ds) ≡ true
named_here c key i ds d is l t = from_place c key i ds d true is l t

ends : (c : Config) (key : List ℕ) (ds : List Database) → is_name_of_commit c key (length ds) (drop (length ds) ds) ≡ false
unfolding is_name_of_commit
ends c key ds = rw (drop-length ds) refl

-- it is that of none
pub none_named : (c : Config) (key : List ℕ) (i : ℕ) (ds : List Database) → length ds ≤ i → i ≤ length ds → is_name_of_commit c key i (drop i ds) ≡ false
none_named c key i ds l m = (let e : i ≡ length ds = omega arith in subst (λ (k : ℕ). is_name_of_commit c key k (drop k ds) ≡ false) (sym e) (ends c key ds))
