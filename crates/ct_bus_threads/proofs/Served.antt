-- What a node has done when it has served, and works with one node more.
use Rattle.std.proofs.Common.{arith, ◌≡◌, ◌∙◌, ◌+◌, ◌<◌, ◌≤◌, ℕ, zero, suc, List, [], ◌∷◌, ◌++◌, length, map, refl, sym, ap, subst, append-nil, append_assoc, ⊎_elim, true}
use Rattle.std.specs.Prelude.{Bool, ◌&&◌, is_none, nat_eq, nat_le, IfSome, None, Option, option_to_list, Some, slice_get, slice_index_or}
use Rattle.std.specs.List.{list_all}
use Rattle.std.specs.Vec.Iter.{into_iter_items}
use Rattle.std.proofs.Math.ListN as math
use Rattle.std.proofs.lemmas.Bool.{and_parts, eqb-true, leb-true}
use Rattle.std.proofs.lemmas.List.{map-append, nil_from_length}
use Rattle.ct_bus.specs.Seats.{Queues, messages_of, posted_by, taken_by}
use Rattle.ct_bus.specs.declared.message.Message.{Message}
use Rattle.ct_bus.proofs.Places.{at_snoc}
use Rattle.ct_bus_exchange.specs.Exchange.{Scripts}
use Rattle.ct_bus_exchange.specs.Handling.{Handling, handled}
use Rattle.ct_bus_exchange.specs.declared.handled.Handled.{Handled}
use Rattle.ct_bus_threads.specs.Works.{Fixed, HasServed, HasTodos, IsSound, all_planned, fixed, is_done, left_of, planned}
use Rattle.ct_bus_threads.specs.declared.work.Todo.{Todo}
use Rattle.ct_bus_threads.specs.declared.work.Work.{Work}
use Rattle.ct_bus_threads.proofs.Sounding.{posted_many}

none_held : (h : Option Message) → is_none h ≡ true → option_to_list h ≡ []
none_held None e = refl
none_held (Some m) e = absurd (cc)

nothing_left : (t : Todo) → is_done t ≡ true → left_of t ≡ []
nothing_left t e =
    let a = and_parts (is_none t.held && nat_eq (length (into_iter_items t.rest)) 0) (nat_le t.wanted t.came) e in
    let b = and_parts (is_none t.held) (nat_eq (length (into_iter_items t.rest)) 0) a.0 in
    ap (λ (h : List Message). h ++ into_iter_items t.rest) (none_held t.held b.0) ∙ nil_from_length (into_iter_items t.rest) (eqb-true (length (into_iter_items t.rest)) 0 b.1)

has_come : (t : Todo) → is_done t ≡ true → t.wanted ≤ t.came
has_come t e =
    let a = and_parts (is_none t.held && nat_eq (length (into_iter_items t.rest)) 0) (nat_le t.wanted t.came) e in
    leb-true t.wanted t.came a.1

done_planned : (mss : List (List Message)) (ts : List Todo) → length mss ≡ length ts → list_all is_done ts ≡ true → all_planned mss ts ≡ mss
done_planned [] ts many e = refl
done_planned (ms ∷ mss) [] many e = absurd (omega arith)
done_planned (ms ∷ mss) (t ∷ ts) many e =
    let p = and_parts (is_done t) (list_all is_done ts) e in
    ap (λ (l : List Message). (ms ++ l) ∷ all_planned mss ts) (nothing_left t p.0) ∙ ap (λ (l : List Message). l ∷ all_planned mss ts) (append-nil ms) ∙ ap (λ (l : List (List Message)). ms ∷ l) (done_planned mss ts (omega arith) p.1)

done_come : (ts : List Todo) (k : ℕ) → list_all is_done ts ≡ true → slice_index_or (map (λ (t : Todo). t.wanted) ts) k 0 ≤ slice_index_or (map (λ (t : Todo). t.came) ts) k 0
done_come [] k e = omega arith
done_come (t ∷ ts) zero e = has_come t (and_parts (is_done t) (list_all is_done ts) e).0
done_come (t ∷ ts) (suc k) e = done_come ts k (and_parts (is_done t) (list_all is_done ts) e).1

pub has_served : (hs : Handling) (bus : Queues) (f : Fixed) (v : Work) (d : Option (List (List Handled))) → IsSound bus v → fixed v ≡ f → list_all is_done v.all.items ≡ true
    → IfSome d (λ x. x ≡ map (λ ms. map (handled hs) ms) (taken_by v.receive)) → HasServed hs bus f (record v { done = d })
has_served hs bus f v d s same all handled' = record {
  sends = s.sends;
  receives = s.receives;
  posts = s.posts ∙ ap (λ (x : Fixed). x.node) same;
  takes = s.takes ∙ ap (λ (x : Fixed). x.node) same;
  posted = sym (done_planned (posted_by v.send) v.all.items (posted_many bus v.send s.sends ∙ sym s.many) all) ∙ ap (λ (x : Fixed). x.plan) same;
  enough = λ k. (
      let come = done_come v.all.items k all in
      let count : slice_index_or (map (λ (t : Todo). t.came) v.all.items) k 0 ≡ length (messages_of k (taken_by v.receive)) = ap (λ (l : List ℕ). slice_index_or l k 0) s.came ∙ math.get_or-map (λ (ms : List Message). length ms) (taken_by v.receive) k [] in
      let want : slice_index_or (map (λ (t : Todo). t.wanted) v.all.items) k 0 ≡ slice_index_or f.wanted k 0 = ap (λ (x : Fixed). slice_index_or x.wanted k 0) same in
      subst (λ (n : ℕ). n ≤ length (messages_of k (taken_by v.receive))) want (subst (λ (n : ℕ). slice_index_or (map (λ (t : Todo). t.wanted) v.all.items) k 0 ≤ n) count come)
      );
  done = handled';
}

-- ---- works with one more

pub moved : {X : Type 0} (h : Work → X) (old new : List Work) (w : Work) (rest less whole : List X) → new ≡ old ++ w ∷ [] → rest ≡ h w ∷ less → map h old ++ rest ≡ whole → map h new ++ less ≡ whole
moved {X} h old new w rest less whole more step before =
    ap (λ (l : List Work). map h l ++ less) more ∙ ap (λ (l : List X). l ++ less) (map-append h old (w ∷ [])) ∙ append_assoc (map h old) (h w ∷ []) less ∙ ap (λ (l : List X). map h old ++ l) (sym step) ∙ before

pub todos_more : (scripts : Scripts) (old new : List Work) (w : Work) (node : ℕ) → new ≡ old ++ w ∷ [] → length old ≡ node → HasTodos scripts node w → ((n : ℕ) (v : Work) → slice_get old n ≡ Some v → HasTodos scripts n v)
    → (n : ℕ) (v : Work) → slice_get new n ≡ Some v → HasTodos scripts n v
todos_more scripts old new w node more count now before n v e =
    ⊎_elim
    (λ (i : slice_get old n ≡ Some v). before n v i)
    (λ (i : (n ≡ length old) × (v ≡ w)). subst (λ (x : Work). HasTodos scripts n x) (sym i.1) (subst (λ (k : ℕ). HasTodos scripts k w) (sym (i.0 ∙ count)) now))
    (at_snoc old w v n (subst (λ (l : List Work). slice_get l n ≡ Some v) more e))
