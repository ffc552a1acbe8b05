use Rattle.std.proofs.Common.{◌≡◌, ◌+◌, ◌-◌, min, length, take, drop, ap, sym, ◌∙◌, arith, length-drop}
use Rattle.std.proofs.lemmas.List.{drop-drop}
use Rattle.ct_outside.proofs.Pieces.{front_copied, none_copied}
use Rattle.ct_outside.proofs.memory.MemSourceSource.read.Goals as goal

pub returns-clause-bytes : goal.returns-clause-bytes
returns-clause-bytes c =
    let taken = c.self.inside.taken in
    let items = c.self.inside.bytes.items in
    let n = c.min-count.result in
    let size : n ≡ taken + n - taken = omega arith in
    let least : n ≡ min (length c.args.into.now) (length (drop taken items)) = omega (arith, length-drop taken items, c.self.inside.bytes.ok.0) in
    let copied : c.copy_from_slice.new.self ≡ take n (drop taken items) =
    c.copy_from_slice.ensures.after ∙ ap (λ k. take k (drop taken c.deref.result.now)) (sym size) ∙ ap (λ l. take n (drop taken l)) c.deref.ensures.value in
    let rest = sym (drop-drop n taken items) in (
      sym (ap (λ r. r.left) c.self.view_is) ∙ front_copied (drop taken items) c.args.into.now c.copy_from_slice.new.self _ n least copied rest,
      none_copied (drop taken items) c.args.into.now c.copy_from_slice.new.self _ n least copied rest,
    )
