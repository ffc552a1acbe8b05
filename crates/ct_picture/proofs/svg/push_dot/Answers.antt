use Rattle.std.proofs.Common.{◌≡◌, ◌++◌}
use Rattle.std.specs.Prelude.{codes}
use Rattle.std.specs.Fmt.{decimal}
use Rattle.ct_picture.specs.Svg.{shape_text}
use Rattle.ct_picture.proofs.Lists.{last_behind, two_behind}
use Rattle.ct_picture.proofs.svg.push_dot.Goals as goal

pub returns : goal.returns
unfolding shape_text
returns c =
    let t0 = c.args.text.now.items in
    let x = codes "<circle" ++ codes " cx=\"" ++ decimal c.args.x in
    let y = (x ++ codes "\" cy=\"") ++ decimal c.args.y in
    let one : c.push_number.new.text.items ≡ t0 ++ x = two_behind t0 c.push.new.text.items c.push_number.new.text.items (codes "<circle") (codes " cx=\"") (decimal c.args.x) c.in_ok-push.ensures c.in_ok-push_number.ensures in
    let two : c.push_number-2.new.text.items ≡ t0 ++ y = two_behind t0 c.push_number.new.text.items c.push_number-2.new.text.items x (codes "\" cy=\"") (decimal c.args.y) one c.in_ok-push_number-2.ensures in
    last_behind c.push-2.result t0 c.push_number-2.new.text.items c.push-2.new.text.items y (codes "\" r='4'/>\n") two c.push-2.ensures
