-- Small lemmas of what is answered and of who owns.
use Rattle.std.proofs.Common.{◌≡◌, ◌≢◌, ℕ, ◌≤◌, true, Option, Some, None, List, length, refl, arith}
use Rattle.std.proofs.lemmas.Bool.{ne_eqb, eq-eqb}
use Rattle.std.specs.Prelude.{List}
use Rattle.ct_values.specs.Client.{is_read}
use Rattle.ct_values.specs.declared.client.Answer.TheVariants as answer
use Rattle.ct_values.specs.declared.client.ClientOp.{ClientOp}
use Rattle.ct_values.specs.declared.client.ClientOp.TheVariants as op
use Rattle.ct_call.specs.Rules.{Rules}
use Rattle.ct_rules.specs.State.{is_read_kind, kind_of}
use Rattle.ct_register.specs.Register.{Register, reading, OwnedByNoOther}
use Rattle.ct_register.specs.Words.{at as changed}
use Rattle.ct_law_record.specs.Labels.{Told, AcceptsLabel}
use Rattle.ct_law_record.proofs.Rule.{Given, given_copy, Copy, Op, is_here, reads_op, rsn_of, value_of}

pub given_is : (c : Option Copy) → is_here c ≡ true → given_copy c ≡ Some (record { rsn = rsn_of c; kind = Given; value = value_of c })
unfolding given_copy is_here rsn_of value_of
given_is None h = absurd (cc)
given_is (Some c) h = refl

pub owned_by_none : (n : ℕ) (owner : Option ℕ) → ((k : ℕ) → owner ≡ Some k → k ≡ n) → OwnedByNoOther n owner
owned_by_none n None h = tt
owned_by_none n (Some k) h = h k refl

pub read_accepted : (rules : Rules) (r : Register) (me : ℕ) (asked : ClientOp) → is_read asked ≡ true → ((n : ℕ) → r.owner ≡ Some n → n ≡ me) → (value : List ℕ) → value ≡ reading r.versions →
    AcceptsLabel rules r (Told me asked (answer.Read value)) (record r { seen = changed me (length r.versions) r.seen })
unfolding is_read
read_accepted rules r me (op.Read db key) is owner value new = (owned_by_none me r.owner owner, new, refl)
read_accepted rules r me (op.Lock db key) is owner value new = absurd (cc)
read_accepted rules r me (op.Write db key v) is owner value new = absurd (cc)
read_accepted rules r me (op.Apply db key f arg) is owner value new = absurd (cc)
read_accepted rules r me (op.Store db key v) is owner value new = absurd (cc)
read_accepted rules r me (op.Unlock db key) is owner value new = absurd (cc)
read_accepted rules r me (op.Commit db writes) is owner value new = absurd (cc)

-- a wish of kind Read is a read
pub reads_is_read : (o : Op) → reads_op o ≡ true → is_read o.real ≡ true
unfolding reads_op kind_of is_read_kind is_read
reads_is_read o h = grind arith

pub changed_me : (me count : ℕ) (f : ℕ → ℕ) → changed me count f me ≤ count
unfolding changed
changed_me me count f = grind (arith, eq-eqb)

pub changed_other : (me n count : ℕ) (f : ℕ → ℕ) → n ≢ me → changed me count f n ≡ f n
unfolding changed
changed_other me n count f ne = rw (ne_eqb n me ne) refl
