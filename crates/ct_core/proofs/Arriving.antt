-- What is asked of an event gives to the parts of its rule.
use Rattle.std.proofs.Common.{◌≡◌, ℕ, true, List, subst}
use Rattle.std.proofs.lemmas.Bool.{and_parts}
use Rattle.std.specs.Prelude.{nat_eq, nat_lt}
use Rattle.std.specs.List.{list_all}
use Rattle.ct_values.specs.declared.config.Config.{Config}
use Rattle.ct_frame.specs.Fields.{are_assigned, ascends, assigned_before, is_assigned, is_from_one, is_message, well_formed}
use Rattle.ct_frame.specs.declared.event.Event.TheVariants as event
use Rattle.ct_frame.specs.declared.frame.Assigned.{Assigned}
use Rattle.ct_frame.specs.declared.frame.Frame.{Frame}
use Rattle.ct_frame.specs.declared.frame.Msg.{Msg}
use Rattle.ct_frame.specs.declared.frame.Msg.TheVariants as msg
use Rattle.ct_frame.specs.declared.frame.PTable.{PTable}
use Rattle.ct_frame.specs.declared.frame.TableRow.{TableRow}
use Rattle.ct_rules_node.specs.Coming.{may_come}
use Rattle.ct_rules_node.specs.Node.{Node, is_among}

pub message_is : (f : Frame) (m : Msg) → f.msg ≡ m → well_formed f ≡ true → is_message f.sender m ≡ true
message_is f m is e = subst (λ (x : Msg). is_message f.sender x ≡ true) is (and_parts _ (is_message f.sender f.msg) e).1

pub push_is : (f : Frame) (m n : List ℕ) (t u : List TableRow) (p q : List PTable) (a b : List Assigned) → f.msg ≡ msg.Push m t p a → well_formed f ≡ true → n ≡ m → u ≡ t → q ≡ p → b ≡ a → is_message f.sender (msg.Push n u q b) ≡ true
push_is f m n t u p q a b is e members table ptables assigned =
    let same : f.msg ≡ msg.Push n u q b = cc in message_is f (msg.Push n u q b) same e

pub take_ascends : (f : Frame) (number : ℕ) (assigned : List Assigned) → f.msg ≡ msg.Take number assigned → well_formed f ≡ true → ascends assigned_before assigned ≡ true
take_ascends f number assigned is e =
    (and_parts (list_all is_assigned assigned) (ascends assigned_before assigned) (and_parts (is_from_one number) (are_assigned assigned) (message_is f (msg.Take number assigned) is e)).1).1

pub arrives_sound : (c : Config) (me : ℕ) (n : Node) (f : Frame) → may_come c me n (event.Arrive f) ≡ true → well_formed f ≡ true
unfolding may_come
arrives_sound c me n f e = (and_parts (well_formed f) (nat_eq f.receiver me) e).0

pub round_ascends : (c : Config) (me : ℕ) (n : Node) (ticket : ℕ) (members : List ℕ) → may_come c me n (event.BeginRound ticket members) ≡ true → ascends nat_lt members ≡ true
unfolding may_come
round_ascends c me n ticket members e =
    (and_parts (ascends nat_lt members) (list_all (λ m. nat_lt m c.nodes) members) (and_parts _ (is_among me members) e).0).0

pub round_own : (c : Config) (me : ℕ) (n : Node) (ticket : ℕ) (members : List ℕ) → may_come c me n (event.BeginRound ticket members) ≡ true → is_among me members ≡ true
unfolding may_come
round_own c me n ticket members e = (and_parts _ (is_among me members) e).1
