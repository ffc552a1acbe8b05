-- The registers accept the note of a round whose replies have all come.
use Rattle.std.proofs.Common.{◌≡◌, ◌≢◌, ◌⊎◌, ℕ, ◌+◌, ◌<◌, ◌≤◌, Bool, true, false, cond, List, [], ◌∷◌, length, Option, Some, None, inl, inr, ⊎_elim, refl, sym, ap, ◌∙◌, subst, arith}
use Rattle.std.specs.Prelude.{nat_eq, nat_lt}
use Rattle.std.proofs.lemmas.Bool.{cases_eq, ne_eqb, eq-eqb}
use Rattle.ct_values.specs.declared.config.Config.{Config}
use Rattle.ct_frame.specs.declared.round.Pull.{Pull}
use Rattle.ct_call.specs.Rules.{Rules}
use Rattle.ct_merge.specs.Gathered.{Gathered, greater, nothing, gathered_all, finished}
use Rattle.ct_merge.specs.Rule.{greatest, vparent, pparent}
use Rattle.ct_merge.proofs.Among.{In}
use Rattle.ct_law_merge.proofs.Folding.{based_is}
use Rattle.ct_law_merge.proofs.Rules.{gathered_pbase, from_zero}
use Rattle.ct_rules_node.specs.Node.{is_among}
use Rattle.ct_rules_node.specs.Rounds.{body_of}
use Rattle.ct_rules_cluster.specs.Cluster.{Cluster, node_at}
use Rattle.ct_register.specs.Births.{Birth, PersistentBirth, born_of}
use Rattle.ct_register.specs.Lines.{Lines}
use Rattle.ct_register.specs.Legal.{AcceptsRound}
use Rattle.ct_law_run.proofs.Ages.{Ages}
use Rattle.ct_law_run.proofs.Lives.{Lives, Replied, IsTicket, IsGatheredOf}
use Rattle.ct_law_run.proofs.Faces.{Heir}
use Rattle.ct_law_run.proofs.Begotten.{all_heirs, replied, parent, parent_is, greatest_is, greatest_over, none_among}

-- ---- the greatest base of persistent databases

pgreatest_is : (ps : List Pull) → pparent ps ≢ 0 → (q : Pull) × In q ps × (q.pbase ≡ pparent ps)
pgreatest_is [] ne = absurd (ne refl)
pgreatest_is (p ∷ ps) ne =
    elim (nat_lt p.pbase (pparent ps)) as (λ b. nat_lt p.pbase (pparent ps) ≡ b → cond b (pparent ps) p.pbase ≢ 0 → (q : Pull) × In q (p ∷ ps) × (q.pbase ≡ cond b (pparent ps) p.pbase)) [
      | true ↦ λ e k. (let x = pgreatest_is ps k in (x.0, inr x.1, x.2))
      | false ↦ λ e k. (p, inl refl, refl)
    ] refl ne

pgreatest_over : (ps : List Pull) (q : Pull) → In q ps → q.pbase ≤ pparent ps
pgreatest_over [] q i = absurd i
pgreatest_over (p ∷ ps) q (inl e) = (let s = ap (λ (x : Pull). x.pbase) e in grind (arith, s))
pgreatest_over (p ∷ ps) q (inr i) = (let l = pgreatest_over ps q i in grind (arith, l))

module _ (c : Config) (rules : Rules) (w : Cluster) (r : Lines) (h : Lives c rules w r) (n g : ℕ) (members : List ℕ) (x : Gathered)
    (ticket : IsTicket c r g n members) (unborn : r.born g ≡ false) (k : IsGatheredOf w n g members [] x) where
  abbrev says : (q : Pull) → In q k.pulls → Replied r h.ages g q.node q.vbase q.pbase q.table (node_at q.node w)
  says q i = replied c rules w r h n g members x 0 [] ticket k q i

  -- each member has replied
  reply_of : (m : ℕ) → is_among m members ≡ true → (q : Pull) × In q k.pulls × (q.node ≡ m)
  reply_of m among = ⊎_elim (λ (e : is_among m [] ≡ true). absurd (none_among m e)) (λ (z : (q : Pull) × In q k.pulls × (q.node ≡ m)). z) (k.waits.met m among)

  abbrev p : ℕ
  p = vparent k.pulls

  abbrev q0 : ℕ
  q0 = pparent k.pulls

  -- some reply has the greatest base, 0 too
  one_of : (q : Pull) × In q k.pulls × (q.vbase ≡ p)
  one_of = ⊎_elim
      (λ (e : p ≡ 0). (let y = reply_of n ticket.own in (y.0, y.1, (let l = greatest_over k.pulls y.0 y.1 in omega arith))))
      (λ (ne : p ≢ 0). greatest_is k.pulls ne)
      (cases_eq p 0)

  pone_of : (q : Pull) × In q k.pulls × (q.pbase ≡ q0)
  pone_of = ⊎_elim
      (λ (e : q0 ≡ 0). (let y = reply_of n ticket.own in (y.0, y.1, (let l = pgreatest_over k.pulls y.0 y.1 in omega arith))))
      (λ (ne : q0 ≢ 0). pgreatest_is k.pulls ne)
      (cases_eq q0 0)

  abbrev pub counts : ℕ → List ℕ → ℕ
  counts db key = (all_heirs c rules w r h n g members x db key ticket unborn k).count

  is_parent : (body_of n members (finished x)).vparent ≡ p
  is_parent = parent_is c rules w r h n g members x 0 [] ticket k

  is_pparent : (body_of n members (finished x)).pparent ≡ q0
  unfolding body_of
  is_pparent = ap (λ (y : Gathered). y.pbase) k.same ∙ gathered_pbase k.pulls nothing ∙ based_is (λ y. y.pbase) k.pulls 0 ∙ from_zero _

  newest_line : (m : ℕ) → is_among m members ≡ true → r.line m < g → r.line m ≤ p
  newest_line m among low = ⊎_elim
      (λ (e : r.line m ≡ 0). omega arith)
      (λ (ne : r.line m ≢ 0). (let y = reply_of m among in
      let at : r.line y.0.node ≡ y.0.vbase = (says y.0 y.1).still (λ z. ne (ap r.line (sym y.2) ∙ z)) (let l = ap r.line y.2 in omega arith) in
      let a = ap r.line y.2 in let l = greatest_over k.pulls y.0 y.1 in omega arith))
      (cases_eq (r.line m) 0)

  newest_pline : (m : ℕ) → is_among m members ≡ true → r.pline m < g → r.pline m ≤ q0
  newest_pline m among low =
      let y = reply_of m among in
      let at : r.pline y.0.node ≡ y.0.pbase = (says y.0 y.1).pstill (let l = ap r.pline y.2 in omega arith) in
      let a = ap r.pline y.2 in let l = pgreatest_over k.pulls y.0 y.1 in omega arith

  birth : Birth r g n members (body_of n members (finished x)).vparent counts
  birth = record {
    given = ticket.given;
    named = ticket.named;
    unborn = unborn;
    older = (let y = one_of in let l = (says y.0 y.1).older in let e = is_parent in let d = y.2 in omega arith);
    greatest = λ m among low. (let l = newest_line m among low in let e = is_parent in omega arith);
    had = (let y = one_of in (y.0.node, k.member y.0 y.1, subst (λ (b : ℕ). r.had g y.0.node b ≡ true) (y.2 ∙ sym is_parent) (says y.0 y.1).had));
    within = λ db key. (all_heirs c rules w r h n g members x db key ticket unborn k).within;
    seen = λ db m key ne among line. (all_heirs c rules w r h n g members x db key ticket unborn k).seen m ne among line;
  }

  persistent : PersistentBirth r g members (body_of n members (finished x)).pparent (λ db. 0)
  persistent = record {
    older = (let y = pone_of in let l = (says y.0 y.1).polder in let e = is_pparent in let d = y.2 in omega arith);
    greatest = λ m among low. (let l = newest_pline m among low in let e = is_pparent in omega arith);
    had = (let y = pone_of in (y.0.node, k.member y.0 y.1, subst (λ (b : ℕ). r.phad g y.0.node b ≡ true) (y.2 ∙ sym is_pparent) (says y.0 y.1).phad));
    within = λ db. omega arith;
    acked = λ db. (let b = (h.bare (body_of n members (finished x)).pparent db).1 in omega arith);
    seen = λ db m among line. (let b = (h.bare (body_of n members (finished x)).pparent db).2 m in omega arith);
  }

  pub round_accepted : AcceptsRound n g members (body_of n members (finished x)).vparent (body_of n members (finished x)).pparent r
      (born_of g (body_of n members (finished x)).vparent counts (body_of n members (finished x)).pparent (λ db. 0) r)
  round_accepted = (counts, (λ db. 0), birth, persistent, refl)
