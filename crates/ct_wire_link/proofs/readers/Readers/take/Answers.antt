use Rattle.std.proofs.Common.{◌≡◌, ◌≢◌, ◌<◌, ◌≤◌, ◌∷◌, ◌++◌, [], ℕ, List, length, get_or, slice_set, subst, arith}
use Rattle.std.specs.Prelude.{Ok}
use Rattle.ct_wire_link.specs.Reading.{NoneBefore, Reading, TakesPiece, fresh, progress_of}
use Rattle.ct_wire_link.proofs.Places.{others_after, others_at, takes_at, takes_pushed}
use Rattle.ct_wire_link.proofs.readers.Readers.take.Goals as goal

pub returns-then-place-len-clause-takes : goal.returns-then-place-len-clause-takes
returns-then-place-len-clause-takes c =
    let xs = c.self.inside.list.items in
    let place = c.place_of-place.result in
    let sender = c.args.sender in
    let passed : NoneBefore place sender xs = subst (λ (ys : List Reading). NoneBefore place sender ys) c.as_slice.ensures.value c.place_of-place.ensures.passed in
    let lt : place < length xs = omega (arith, c.if-place-len.true, c.len.ensures, c.self.inside.list.ok.0) in
    let found : (get_or xs place (fresh sender)).sender ≡ sender = subst (λ (ys : List Reading). place < length ys → (get_or ys place (fresh sender)).sender ≡ sender) c.as_slice.ensures.value c.place_of-place.ensures.found lt in
    subst (λ (ys : List Reading). TakesPiece c.take.result c.args.me sender c.args.bytes.now (progress_of sender ys) (progress_of sender (slice_set xs place c.take.new.self))) c.self.view_is
    (takes_at c.take.result c.args.me sender c.args.bytes.now place xs c.index_mut.result.now c.take.new.self passed lt found c.index_mut.ensures.value c.take.ensures.sender c.take.ensures.takes)

pub returns-then-place-len-clause-others : goal.returns-then-place-len-clause-others
returns-then-place-len-clause-others c =
    let xs = c.self.inside.list.items in
    let place = c.place_of-place.result in
    let sender = c.args.sender in
    let lt : place < length xs = omega (arith, c.if-place-len.true, c.len.ensures, c.self.inside.list.ok.0) in
    let found : (get_or xs place (fresh sender)).sender ≡ sender = subst (λ (ys : List Reading). place < length ys → (get_or ys place (fresh sender)).sender ≡ sender) c.as_slice.ensures.value c.place_of-place.ensures.found lt in
    subst (λ (ys : List Reading). (other : ℕ) → other ≢ sender → progress_of other (slice_set xs place c.take.new.self) ≡ progress_of other ys) c.self.view_is
    (others_at sender place xs c.index_mut.result.now c.take.new.self lt found c.index_mut.ensures.value c.take.ensures.sender)

pub returns-clause-takes : goal.returns-clause-takes
returns-clause-takes c =
    let xs = c.self.inside.list.items in
    let place = c.place_of-place.result in
    let sender = c.args.sender in
    let passed : NoneBefore place sender xs = subst (λ (ys : List Reading). NoneBefore place sender ys) c.as_slice.ensures.value c.place_of-place.ensures.passed in
    let le : length xs ≤ place = omega (arith, c.if-place-len.false, c.len.ensures, c.self.inside.list.ok.0) in
    let put : c.push.new.self.items ≡ xs ++ c.take-2.new.self ∷ [] = c.in_ok-push.ensures.items in
    subst (λ (ys : List Reading). TakesPiece (Ok c.in_ok-arrived.arrived) c.args.me sender c.args.bytes.now (progress_of sender ys) (progress_of sender c.push.new.self.items)) c.self.view_is
    (takes_pushed (Ok c.in_ok-arrived.arrived) c.args.me sender c.args.bytes.now place xs c.push.new.self.items c.new-reader.result c.take-2.new.self passed le c.new-reader.ensures c.take-2.ensures.sender put c.in_ok-arrived.ensures.takes)

pub returns-clause-others : goal.returns-clause-others
returns-clause-others c =
    let xs = c.self.inside.list.items in
    let sender = c.args.sender in
    let put : c.push.new.self.items ≡ xs ++ c.take-2.new.self ∷ [] = c.in_ok-push.ensures.items in
    subst (λ (ys : List Reading). (other : ℕ) → other ≢ sender → progress_of other c.push.new.self.items ≡ progress_of other ys) c.self.view_is
    (others_after sender xs c.push.new.self.items c.new-reader.result c.take-2.new.self c.new-reader.ensures c.take-2.ensures.sender put)
