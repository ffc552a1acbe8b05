-- Which events are plain: a call that is no commit, a message of a record, a vacuum, and what Retry and Thaw do of records.
use Rattle.std.proofs.Common.{◌≡◌, ℕ, ◌+◌, Bool, false, List, [], ◌∷◌, Option, Some, None, refl}
use Rattle.std.specs.Prelude.{◌&&◌}
use Rattle.ct_values.specs.Words.{others}
use Rattle.ct_values.specs.declared.client.Answer.{Answer}
use Rattle.ct_values.specs.declared.client.ClientOp.{ClientOp}
use Rattle.ct_values.specs.declared.client.ClientOp.TheVariants as op
use Rattle.ct_values.specs.declared.client.Why.{Why}
use Rattle.ct_values.specs.declared.config.Config.{Config}
use Rattle.ct_call.specs.Rules.{Rules}
use Rattle.ct_store.specs.Map.{Pairs}
use Rattle.ct_rules.specs.Parts.{Moving, keeps, want}
use Rattle.ct_rules.specs.Moves.{call_again, revoke_again}
use Rattle.ct_rules.specs.declared.event.Place.{Place}
use Rattle.ct_rules.specs.declared.state.RecState.{RecState}
use Rattle.ct_rules.specs.declared.state.Wish.{Wish}
use Rattle.ct_rules_node.specs.Node.{Phase, Freezing, Database, is_freezing}
use Rattle.ct_rules_node.specs.Turn.{Turn, does, makes, answers}
use Rattle.ct_rules_node.specs.Databases.{read_pair}
use Rattle.ct_rules_node.specs.Records.{at_record}
use Rattle.ct_rules_node.specs.Clients.{is_commit, is_unlock, refusal, unlocks, reads, serves, serves_or, client}
use Rattle.ct_rules_node.specs.Rounds.{Called, want_again_of, want_again, want_all}
use Rattle.ct_rules_node.specs.Retries.{call_all, revoke_all, revoke_in}
use Rattle.ct_rules_node.specs.Steps.{vacuum_all, vacuums}
use Rattle.ct_law_generation.proofs.Speaking.{Told, want_told, store_told, unlock_told, vacuum_told, call_again_told, revoke_again_told}
use Rattle.ct_law_plain.proofs.Plainly.{IsOfRecord, Speaks, SamePlain, plain_same, plain_after, either_plain, at_record_plain}

-- ---- small words

answers_plain : (me call : ℕ) (a : Answer) (t : Turn) → SamePlain me t (answers call a t)
unfolding answers does IsOfRecord
answers_plain me call a t = record {
  promise = refl;
  pbase = refl;
  phase = refl;
  generation = refl;
  members = refl;
  leader = refl;
  placement = refl;
  held = refl;
  last_run = refl;
  lead = refl;
  count = refl;
  stores = λ db. refl;
  commits = λ db. refl;
  outs = (_, refl, (tt, tt));
}

makes_plain : (me number : ℕ) (t : Turn) → SamePlain me t (makes number t)
unfolding makes
makes_plain me number t = (let s : SamePlain me t t = plain_same in record {
  promise = refl;
  pbase = refl;
  phase = refl;
  generation = refl;
  members = refl;
  leader = refl;
  placement = refl;
  held = refl;
  last_run = refl;
  lead = refl;
  count = refl;
  stores = λ db. refl;
  commits = λ db. refl;
  outs = s.outs;
})

-- ---- clients

-- an unlock, but at a node that freezes
pub unlocks_plain : (c : Config) (me call db : ℕ) (key : List ℕ) (t : Turn) (p : Phase) → is_freezing p ≡ false → SamePlain me t (unlocks c me call db key t p)
unfolding unlocks is_freezing
unlocks_plain c me call db key t (Freezing g leader) e = absurd (cc)
unlocks_plain c me call db key t _ e = at_record_plain c me db key _ t (λ at o h. unlock_told at call o h)

wants_plain : (c : Config) (rules : Rules) (me call db : ℕ) (key : List ℕ) (asked : ClientOp) (t : Turn) → SamePlain me t (at_record c me db key (λ at o. want at rules call asked o) t)
wants_plain c rules me call db key asked t = at_record_plain c me db key _ t (λ at o h. want_told at rules call asked o h)

reads_plain : (c : Config) (rules : Rules) (me call db : ℕ) (key : List ℕ) (t : Turn) → SamePlain me t (reads c rules me call db key t)
unfolding reads read_pair
reads_plain c rules me call db key t = either_plain _ (answers_plain me call _ t) (wants_plain c rules me call db key (op.Read db key) t)

-- the call is an unlock at a node that freezes, which is frozen after the last one
abbrev pub is_last_unlock : ClientOp → Phase → Bool
is_last_unlock asked p = is_unlock asked && is_freezing p

pub serves_plain : (c : Config) (rules : Rules) (me call : ℕ) (t : Turn) (asked : ClientOp) → is_commit asked ≡ false → is_last_unlock asked t.node.phase ≡ false → SamePlain me t (serves c rules me call t asked)
unfolding serves is_commit is_unlock
serves_plain c rules me call t (op.Read db key) e f = reads_plain c rules me call db key t
serves_plain c rules me call t (op.Store db key v) e f = at_record_plain c me db key _ t (λ at o h. store_told at call v o h)
serves_plain c rules me call t (op.Unlock db key) e f = unlocks_plain c me call db key t t.node.phase f
serves_plain c rules me call t (op.Commit db writes) e f = absurd (cc)
serves_plain c rules me call t (op.Lock db key) e f = wants_plain c rules me call db key (op.Lock db key) t
serves_plain c rules me call t (op.Write db key v) e f = wants_plain c rules me call db key (op.Write db key v) t
serves_plain c rules me call t (op.Apply db key g arg) e f = wants_plain c rules me call db key (op.Apply db key g arg) t

serves_or_plain : (c : Config) (rules : Rules) (me call : ℕ) (asked : ClientOp) (t : Turn) (w : Option Why) → is_commit asked ≡ false → is_last_unlock asked t.node.phase ≡ false → SamePlain me t (serves_or c rules me call asked t w)
unfolding serves_or
serves_or_plain c rules me call asked t (Some w) e f = answers_plain me call _ t
serves_or_plain c rules me call asked t None e f = serves_plain c rules me call t asked e f

-- a call that is no commit, nor an unlock at a node that freezes
pub client_plain : (c : Config) (rules : Rules) (me call : ℕ) (asked : ClientOp) (t : Turn) → is_commit asked ≡ false → is_last_unlock asked t.node.phase ≡ false → SamePlain me t (client c rules me call asked t)
unfolding client makes
client_plain c rules me call asked t e f = plain_after (makes_plain me call t) (serves_or_plain c rules me call asked (makes call t) (refusal c rules t.node asked) e f)

-- ---- Thaw, Retry, Vacuum and the messages of records

want_again_told : (at : Place) (rules : Rules) (o : Moving) (w : Option Wish) → Told at o.acts → Told at (want_again_of at rules o w).acts
unfolding want_again_of keeps
want_again_told at rules o None h = h
want_again_told at rules o (Some w) h = want_told at rules w.call w.op (keeps (record o.state { wish = None }) o) h

want_again_speaks : (rules : Rules) → Speaks (want_again rules)
unfolding want_again
want_again_speaks rules at o h = want_again_told at rules o o.state.wish h

pub want_all_plain : (c : Config) (rules : Rules) (me : ℕ) (xs : List Called) (t : Turn) → SamePlain me t (want_all c rules me xs t)
unfolding want_all
want_all_plain c rules me [] t = plain_same
want_all_plain c rules me (x ∷ xs) t = plain_after (at_record_plain c me x.db x.key (want_again rules) t (want_again_speaks rules)) (want_all_plain c rules me xs (at_record c me x.db x.key (want_again rules) t))

pub call_all_plain : (c : Config) (me : ℕ) (xs : List Called) (t : Turn) → SamePlain me t (call_all c me xs t)
unfolding call_all
call_all_plain c me [] t = plain_same
call_all_plain c me (x ∷ xs) t = plain_after (at_record_plain c me x.db x.key call_again t call_again_told) (call_all_plain c me xs (at_record c me x.db x.key call_again t))

revoke_all_plain : (c : Config) (me db : ℕ) (m : Pairs RecState) (t : Turn) → SamePlain me t (revoke_all c me db m t)
unfolding revoke_all
revoke_all_plain c me db [] t = plain_same
revoke_all_plain c me db (e ∷ m) t = plain_after (at_record_plain c me db e.0 revoke_again t revoke_again_told) (revoke_all_plain c me db m (at_record c me db e.0 revoke_again t))

pub revoke_in_plain : (c : Config) (me i : ℕ) (ds : List Database) (t : Turn) → SamePlain me t (revoke_in c me i ds t)
unfolding revoke_in
revoke_in_plain c me i [] t = plain_same
revoke_in_plain c me i (d ∷ ds) t = plain_after (revoke_all_plain c me i d.records t) (revoke_in_plain c me (i + 1) ds (revoke_all c me i d.records t))

-- what Retry sends again of records: the Calls, and then the Revokes
pub resends_plain : (c : Config) (me : ℕ) (xs : List Called) (ds : List Database) (t : Turn) → SamePlain me t (revoke_in c me 0 ds (call_all c me xs t))
resends_plain c me xs ds t = plain_after (call_all_plain c me xs t) (revoke_in_plain c me 0 ds (call_all c me xs t))

vacuum_all_plain : (c : Config) (me db : ℕ) (m : Pairs RecState) (t : Turn) → SamePlain me t (vacuum_all c me db m t)
unfolding vacuum_all
vacuum_all_plain c me db [] t = plain_same
vacuum_all_plain c me db (e ∷ m) t = plain_after (at_record_plain c me db e.0 _ t (λ at o h. vacuum_told at (others me t.node.members) o h)) (vacuum_all_plain c me db m _)

pub vacuums_plain : (c : Config) (me db : ℕ) (t : Turn) → SamePlain me t (vacuums c me db t)
unfolding vacuums
vacuums_plain c me db t = either_plain _ (vacuum_all_plain c me db _ t) plain_same
