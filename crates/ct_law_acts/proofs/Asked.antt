-- What the rules of records answer in a step: each answer is to a call that waited for a record, or to the call of the event.
use Rattle.std.proofs.Common.{ℕ, ◌+◌, Bool, true, false, cond, List, [], ◌∷◌, map, Option, Some, None}
use Rattle.std.specs.List.{AllByRecursion}
use Rattle.ct_values.specs.Words.{others}
use Rattle.ct_values.specs.declared.client.ClientOp.{ClientOp}
use Rattle.ct_values.specs.declared.client.Pair.{Pair}
use Rattle.ct_values.specs.declared.config.Config.{Config}
use Rattle.ct_frame.specs.declared.event.Out.{Out}
use Rattle.ct_frame.specs.declared.event.Out.TheVariants as out
use Rattle.ct_frame.specs.declared.frame.Frame.{Frame}
use Rattle.ct_call.specs.Rules.{Rules}
use Rattle.ct_lcp2.proofs.Choices.{all_append}
use Rattle.ct_store.specs.Map.{Pairs}
use Rattle.ct_rules.specs.Parts.{Moving, want}
use Rattle.ct_rules.specs.Moves.{call_again, revoke_again, store, release, unlock}
use Rattle.ct_rules.specs.declared.event.Act.{Act}
use Rattle.ct_rules.specs.declared.event.Act.TheVariants as act
use Rattle.ct_rules.specs.declared.event.Place.{Place}
use Rattle.ct_rules.specs.declared.state.RecState.{RecState}
use Rattle.ct_rules_node.specs.Node.{Database, db_at, state_at}
use Rattle.ct_rules_node.specs.Turn.{Turn}
use Rattle.ct_rules_node.specs.Records.{out_of, place_of, view, acted, at_record}
use Rattle.ct_rules_node.specs.Rounds.{Called, want_again, want_all}
use Rattle.ct_rules_node.specs.Retries.{call_all, revoke_all, revoke_in}
use Rattle.ct_rules_node.specs.Steps.{vacuum_all}
use Rattle.ct_law_wishes.proofs.Wishing.{Wishful, vacuum_wish}
use Rattle.ct_law_acts.proofs.Waiting.{calls_at, look_wish, at_record_calls}
use Rattle.ct_law_acts.proofs.Telling.{IsOf, Ofs, want_tells, store_tells, release_tells, unlock_tells, vacuum_tells, call_again_tells, revoke_again_tells, arrive_tells, want_again_tells}
use Rattle.ct_law_acts.proofs.Whole.{CallsAre, want_again_calls, call_again_calls, revoke_again_calls}

-- an answer is to a call of which this holds
unfoldable pub IsAsked : (ℕ → ClientOp → Type 0) → Out → Type 0
IsAsked R (out.Answer call a) = (asked : ClientOp) × R call asked
IsAsked R _ = Unit {0}

-- every answer among these is
abbrev pub AllAsked : (ℕ → ClientOp → Type 0) → List Out → Type 0
AllAsked R xs = AllByRecursion (IsAsked R) xs

-- P and Q are what waiting calls have; R is what follows of a call that waits for a record
module _ (P : ℕ → List ℕ → ℕ → ClientOp → Type 0) (Q : ℕ → ℕ → List Pair → Type 0) (R : ℕ → ClientOp → Type 0) (of_call : (db : ℕ) (key : List ℕ) (call : ℕ) (asked : ClientOp) → P db key call asked → R call asked) where
  acts_asked : (g me db : ℕ) (key : List ℕ) (xs : List Act) → Ofs (P db key) xs → AllAsked R (map (out_of g me db key) xs)
  unfolding Ofs IsOf IsAsked out_of
  acts_asked g me db key [] h = tt
  acts_asked g me db key (act.Answer call a ∷ xs) h = ((h.0.0, of_call db key call h.0.0 h.0.1), acts_asked g me db key xs h.1)
  acts_asked g me db key (act.Send receiver m ∷ xs) h = (tt, acts_asked g me db key xs h.1)
  acts_asked g me db key (act.Finished floor ∷ xs) h = (tt, acts_asked g me db key xs h.1)

  -- a part of the rules of a record answers such calls alone
  abbrev pub AnswersOf : ℕ → List ℕ → (Place → Moving → Moving) → Type 0
  AnswersOf db key part = (at : Place) (o : Moving) → Wishful (P db key) o.state.wish → Ofs (P db key) o.acts → Ofs (P db key) (part at o).acts

  pub at_record_asked : (c : Config) (me db : ℕ) (key : List ℕ) (part : Place → Moving → Moving) (t : Turn) → AnswersOf db key part → CallsAre P Q t.node → AllAsked R t.outs → AllAsked R (at_record c me db key part t).outs
  unfolding at_record acted view state_at db_at Ofs
  at_record_asked c me db key part t tells calls h =
      all_append (IsAsked R) t.outs _ h (acts_asked t.node.generation me db key _ (tells (place_of c me db key t.node) (view db key t.node) (look_wish P Q db key _ (calls_at P Q db t.node.dbs calls).wishes) tt))

  pub want_all_asked : (c : Config) (rules : Rules) (me : ℕ) (xs : List Called) (t : Turn) → CallsAre P Q t.node → AllAsked R t.outs → AllAsked R (want_all c rules me xs t).outs
  unfolding want_all
  want_all_asked c rules me [] t calls h = h
  want_all_asked c rules me (x ∷ xs) t calls h = want_all_asked c rules me xs _ (at_record_calls P Q c me x.db x.key (want_again rules) t (want_again_calls P Q x.db x.key rules) calls)
      (at_record_asked c me x.db x.key (want_again rules) t (λ at o v k. want_again_tells (P x.db x.key) rules at o v k) calls h)

  pub call_all_asked : (c : Config) (me : ℕ) (xs : List Called) (t : Turn) → CallsAre P Q t.node → AllAsked R t.outs → AllAsked R (call_all c me xs t).outs
  unfolding call_all
  call_all_asked c me [] t calls h = h
  call_all_asked c me (x ∷ xs) t calls h = call_all_asked c me xs _ (at_record_calls P Q c me x.db x.key call_again t (call_again_calls P Q x.db x.key) calls)
      (at_record_asked c me x.db x.key call_again t (λ at o v k. call_again_tells (P x.db x.key) at o k) calls h)

  revoke_all_asked : (c : Config) (me db : ℕ) (m : Pairs RecState) (t : Turn) → CallsAre P Q t.node → AllAsked R t.outs → CallsAre P Q (revoke_all c me db m t).node × AllAsked R (revoke_all c me db m t).outs
  unfolding revoke_all
  revoke_all_asked c me db [] t calls h = (calls, h)
  revoke_all_asked c me db (e ∷ m) t calls h = revoke_all_asked c me db m _ (at_record_calls P Q c me db e.0 revoke_again t (revoke_again_calls P Q db e.0) calls)
      (at_record_asked c me db e.0 revoke_again t (λ at o v k. revoke_again_tells (P db e.0) at o k) calls h)

  pub revoke_in_asked : (c : Config) (me i : ℕ) (ds : List Database) (t : Turn) → CallsAre P Q t.node → AllAsked R t.outs → AllAsked R (revoke_in c me i ds t).outs
  unfolding revoke_in
  revoke_in_asked c me i [] t calls h = h
  revoke_in_asked c me i (d ∷ ds) t calls h = (let k = revoke_all_asked c me i d.records t calls h in revoke_in_asked c me (i + 1) ds _ k.0 k.1)

  pub vacuum_all_asked : (c : Config) (me db : ℕ) (m : Pairs RecState) (t : Turn) → CallsAre P Q t.node → AllAsked R t.outs → AllAsked R (vacuum_all c me db m t).outs
  unfolding vacuum_all
  vacuum_all_asked c me db [] t calls h = h
  vacuum_all_asked c me db (e ∷ m) t calls h = vacuum_all_asked c me db m _ (at_record_calls P Q c me db e.0 _ t (λ at o k. vacuum_wish (P db e.0) at (others me t.node.members) o k) calls)
      (at_record_asked c me db e.0 _ t (λ at o v k. vacuum_tells (P db e.0) at (others me t.node.members) o k) calls h)

  -- the call of the event, where it has what calls that wait have
  pub wants_asked : (c : Config) (rules : Rules) (me call db : ℕ) (key : List ℕ) (asked : ClientOp) (t : Turn) → P db key call asked → CallsAre P Q t.node → AllAsked R t.outs → AllAsked R (at_record c me db key (λ at o. want at rules call asked o) t).outs
  wants_asked c rules me call db key asked t own calls h = at_record_asked c me db key _ t (λ at o v k. want_tells (P db key) at rules call asked o own v k) calls h

  pub stores_asked : (c : Config) (me call db : ℕ) (key v : List ℕ) (asked : ClientOp) (t : Turn) → P db key call asked → CallsAre P Q t.node → AllAsked R t.outs → AllAsked R (at_record c me db key (λ at o. store call v o) t).outs
  stores_asked c me call db key v asked t own calls h = at_record_asked c me db key _ t (λ at o w k. store_tells (P db key) at call asked v o own k) calls h

  pub releases_asked : (c : Config) (me call db : ℕ) (key : List ℕ) (asked : ClientOp) (t : Turn) → P db key call asked → CallsAre P Q t.node → AllAsked R t.outs → AllAsked R (at_record c me db key (λ at o. release call o) t).outs
  releases_asked c me call db key asked t own calls h = at_record_asked c me db key _ t (λ at o v k. release_tells (P db key) at call asked o own k) calls h

  pub unlocks_asked : (c : Config) (me call db : ℕ) (key : List ℕ) (asked : ClientOp) (t : Turn) → P db key call asked → CallsAre P Q t.node → AllAsked R t.outs → AllAsked R (at_record c me db key (λ at o. unlock at call o) t).outs
  unlocks_asked c me call db key asked t own calls h = at_record_asked c me db key _ t (λ at o v k. unlock_tells (P db key) at call asked o own v k) calls h
