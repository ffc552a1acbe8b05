-- Of records: one lock owner, and the newest version.
use Rattle.std.proofs.Common.{◌≡◌, ℕ, true, List, [], Some, sym, ◌∙◌, ap, subst, ⊎_elim}
use Rattle.ct_frame.specs.Header.{for_reading}
use Rattle.ct_frame.specs.declared.header.RecCopy.{RecCopy}
use Rattle.ct_values.specs.declared.config.Config.{Config}
use Rattle.ct_rules_node.specs.Clients.{is_locked}
use Rattle.ct_rules_cluster.specs.Cluster.{Cluster, is_up, node_at, opening}
use Rattle.ct_rules_cluster.specs.Traces.{ran}
use Rattle.ct_register.specs.Lines.{Lines}
use Rattle.ct_register.specs.Register.{reading}
use Rattle.ct_register.specs.Stands.{HasCopy, StandsFor}
use Rattle.ct_law_promise.proofs.Running.{promise}
use Rattle.ct_law_promise.specs.Phrases.{LocksOnce, OneLockOwner, IsReadable, HasNewest, NewestVersion, HasOneValue, OneValue}

module _ (config : Config) (w : Cluster) (r : Lines) (stands : StandsFor config w r) where
  same_line : (n m : ℕ) → is_up n w ≡ true → is_up m w ≡ true → (node_at m w).generation ≡ (node_at n w).generation → r.line m ≡ r.line n
  same_line n m up on same = sym (stands.generations m on) ∙ same ∙ stands.generations n up

  locks_once : LocksOnce w
  unfolding is_locked
  locks_once n m db key up on same one other =
      let a : (r.records (r.line n) db key).owner ≡ Some n = ((stands.records.locks n db key up).0 one).1 in
      let b : (r.records (r.line m) db key).owner ≡ Some m = ((stands.records.locks m db key on).0 other).1 in
      let c : (r.records (r.line n) db key).owner ≡ Some m = subst (λ l. (r.records l db key).owner ≡ Some m) (same_line n m up on same) b in cc

  reads : (n db : ℕ) (key : List ℕ) (c : RecCopy) → HasCopy w n db key c → IsReadable n c → c.value ≡ reading (r.records (r.line n) db key).versions
  reads n db key c has readable = ⊎_elim
      (λ (own : c.header.dmaster ≡ n). (stands.records.masters n db key c has own).1)
      (λ (lent : c.header.flags ≡ for_reading). (stands.records.readers n db key c has lent).1) readable

  has_newest : HasNewest w r
  has_newest n db key c up has readable = subst (λ l. c.value ≡ reading (r.records l db key).versions) (sym (stands.generations n up)) (reads n db key c has readable)

  has_one_value : HasOneValue w
  has_one_value n m db key c d up on same has readable had read =
      reads m db key d had read ∙ ap (λ l. reading (r.records l db key).versions) (same_line n m up on same) ∙ sym (reads n db key c has readable)

pub one_lock_owner : OneLockOwner
one_lock_owner config rules steps is = let p = promise config rules steps is in locks_once config (ran config rules (opening config) [] steps).cluster p.0 p.2

pub newest_version : NewestVersion
newest_version config rules steps is = let p = promise config rules steps is in (p.0, p.1, has_newest config (ran config rules (opening config) [] steps).cluster p.0 p.2)

pub one_value : OneValue
one_value config rules steps is = let p = promise config rules steps is in has_one_value config (ran config rules (opening config) [] steps).cluster p.0 p.2
