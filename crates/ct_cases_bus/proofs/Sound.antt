-- What two nodes have for each other is sound, where each message stands at its place.
use Rattle.std.proofs.Common.{◌≡◌, ℕ, zero, suc, ◌<◌, ◌^◌, List, [], ◌∷◌, length, refl, sym, ap, subst, arith}
use Rattle.std.specs.Prelude.{Some, slice_get}
use Rattle.ct_bus.specs.declared.message.Message.{Message}
use Rattle.ct_bus_exchange.specs.Exchange.{AreCounted, AreScripts, Scripts, script}

abbrev two_scripts : List Message → List Message → Scripts
two_scripts there back = ([] ∷ there ∷ []) ∷ (back ∷ [] ∷ []) ∷ []

-- what holds of both lists and of none holds of each script
each_script : (P : List Message → Type 0) (there back : List Message) → P [] → P there → P back → (sender receiver : ℕ) → P (script (two_scripts there back) sender receiver)
each_script P there back none one other zero zero = none
each_script P there back none one other zero (suc zero) = one
each_script P there back none one other zero (suc (suc receiver)) = none
each_script P there back none one other (suc zero) zero = other
each_script P there back none one other (suc zero) (suc zero) = none
each_script P there back none one other (suc zero) (suc (suc receiver)) = none
each_script P there back none one other (suc (suc sender)) receiver = none

row_of_two : (there back : List Message) (sender : ℕ) (row : List (List Message)) → slice_get (two_scripts there back) sender ≡ Some row → length row ≡ 2
row_of_two there back zero row h = let e : row ≡ [] ∷ there ∷ [] = cc in ap (λ (r : List (List Message)). length r) e
row_of_two there back (suc zero) row h = let e : row ≡ back ∷ [] ∷ [] = cc in ap (λ (r : List (List Message)). length r) e
row_of_two there back (suc (suc sender)) row h = absurd (cc)

none_for_itself : (there back : List Message) (node : ℕ) → script (two_scripts there back) node node ≡ []
none_for_itself there back zero = refl
none_for_itself there back (suc zero) = refl
none_for_itself there back (suc (suc node)) = refl

none_counted : AreCounted []
none_counted place m h = absurd (cc)

two_sound : (there back : List Message) → AreCounted there → AreCounted back → length there < 2 ^ 61 → length back < 2 ^ 61 → AreScripts (two_scripts there back)
two_sound there back one other few_there few_back = record {
  nodes = (omega arith, omega arith);
  square = row_of_two there back;
  alone = none_for_itself there back;
  counted = each_script AreCounted there back none_counted one other;
  few = each_script (λ (ms : List Message). length ms < 2 ^ 61) there back (omega arith) few_there few_back;
}

pub between_sound : (there back : List Message) (scripts : Scripts) → scripts ≡ ([] ∷ there ∷ []) ∷ (back ∷ [] ∷ []) ∷ [] → AreCounted there → AreCounted back → length there < 2 ^ 61 → length back < 2 ^ 61 → AreScripts scripts
between_sound there back scripts is one other few_there few_back = subst (λ (s : Scripts). AreScripts s) (sym is) (two_sound there back one other few_there few_back)
