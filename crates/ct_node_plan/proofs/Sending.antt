-- Parts of a step that only send.
use Rattle.std.proofs.Common.{◌≡◌, ℕ, List, [], ◌∷◌, ◌++◌, map, append-nil, append_assoc, sym, ◌∙◌}
use Rattle.ct_frame.specs.declared.event.Out.{Out}
use Rattle.ct_frame.specs.declared.frame.Assigned.{Assigned}
use Rattle.ct_frame.specs.declared.frame.Msg.{Msg}
use Rattle.ct_frame.specs.declared.frame.Msg.TheVariants as msg
use Rattle.ct_rules_node.specs.Takeovers.{send_releases, share}
use Rattle.ct_rules_node.specs.Turn.{Turn, does, posts, posts_all}
use Rattle.ct_node_plan.specs.Posts.{does_all, release_to, sent}

-- nothing more is done
pub does_nothing : (t : Turn) → t ≡ does_all [] t
does_nothing t = (λ i. record t { outs = sym (append-nil t.outs) i })

-- one list after the other
pub does_both : (xs ys : List Out) (t : Turn) → does_all ys (does_all xs t) ≡ does_all (xs ++ ys) t
does_both xs ys t = (λ i. record t { outs = append_assoc t.outs xs ys i })

pub posts_all_does : (g me : ℕ) (ns : List ℕ) (m : Msg) (t : Turn) → posts_all g me ns m t ≡ does_all (map (sent g me m) ns) t
unfolding posts_all posts does
posts_all_does g me [] m t = does_nothing t
posts_all_does g me (n ∷ ns) m t = posts_all_does g me ns m (posts g me n m t) ∙ does_both (sent g me m n ∷ []) (map (sent g me m) ns) t

pub releases_does : (g me number : ℕ) (placement : List Assigned) (ns : List ℕ) (t : Turn) → send_releases me g number placement ns t ≡ does_all (map (release_to g me number placement) ns) t
unfolding send_releases posts does
releases_does g me number placement [] t = does_nothing t
releases_does g me number placement (n ∷ ns) t =
    releases_does g me number placement ns (posts g me n (msg.Release number (share n placement)) t) ∙ does_both (release_to g me number placement n ∷ []) (map (release_to g me number placement) ns) t
