-- What goes on, one thing after the other.
use Rattle.std.proofs.Common.{◌≡◌, ◌∙◌, ℕ, ◌+◌, ◌≤◌, ◌⊎◌, ⊎_elim, inl, inr, List, Result, Ok, Err, Option, None, Some, arith, refl, sym, subst}
use Rattle.ct_call.specs.Rules.{Rules}
use Rattle.ct_script.specs.declared.cue.Cue.{Cue}
use Rattle.ct_script.specs.declared.plan.PlanItem.{PlanItem}
use Rattle.ct_actor.specs.Journalled.{Journalled}
use Rattle.ct_outside.specs.Causes.{Rose}
use Rattle.ct_actor_serving.specs.declared.fault.AtLimit.TheVariants as limit
use Rattle.ct_actor_serving.specs.declared.fault.ServeFault.{ServeFault}
use Rattle.ct_actor_serving.specs.declared.fault.ServeFault.TheVariants as fault
use Rattle.ct_actor_serving.specs.Serving.{Acts, Counts, GoesOn, HasCause, NoneFell, RoseBy, both}

-- ---- nodes

pub goes_same : (rules : Rules) (script : List PlanItem) (x : Journalled) (c : Cue) → GoesOn rules script x c x c
goes_same rules script x c = record { acting = λ before a. a; pnn = refl; config = refl }

pub goes_then : (rules : Rules) (script : List PlanItem) (x y z : Journalled) (c d e : Cue) → GoesOn rules script x c y d → GoesOn rules script y d z e → GoesOn rules script x c z e
goes_then rules script x y z c d e g h = record {
  acting = λ before a. h.acting before (g.acting before a);
  pnn = h.pnn ∙ g.pnn;
  config = h.config ∙ g.config;
}

pub acts_then : (rules : Rules) (script : List PlanItem) (x y : Journalled) (c d : Cue) → Acts rules script x c → GoesOn rules script x c y d → Acts rules script y d
acts_then rules script x y c d acts g = (acts.0, g.acting acts.0 acts.1)

-- ---- counts

pub fell_same : (a : Counts) → NoneFell a a
fell_same a = record { failed = omega arith; ended = omega arith; looked = omega arith; lock_failed = omega arith; refused = omega arith }

pub fell_then : (a b c : Counts) → NoneFell a b → NoneFell b c → NoneFell a c
fell_then a b c h k = record {
  failed = omega (arith, h.failed, k.failed);
  ended = omega (arith, h.ended, k.ended);
  looked = omega (arith, h.looked, k.looked);
  lock_failed = omega (arith, h.lock_failed, k.lock_failed);
  refused = omega (arith, h.refused, k.refused);
}

-- the lock stays
pub wide_link : (a b k : Counts) → NoneFell a b → NoneFell (both a k) (both b k)
wide_link a b k h = record { failed = h.failed; ended = h.ended; looked = h.looked; lock_failed = omega arith; refused = omega arith }

-- the link stays
pub wide_lock : (a j k : Counts) → NoneFell j k → NoneFell (both a j) (both a k)
wide_lock a j k h = record { failed = omega arith; ended = omega arith; looked = omega arith; lock_failed = h.lock_failed; refused = h.refused }

-- ---- causes

rose_late : (a b c : ℕ) → a ≤ b → Rose b c → Rose a c
rose_late a b c le r = omega (arith, r)

rose_soon : (a b c : ℕ) → Rose a b → b ≤ c → Rose a c
rose_soon a b c r le = omega (arith, r)

-- once more
pub rose_more : (n before mid now : ℕ) → RoseBy n before mid → Rose mid now → RoseBy (n + 1) before now
rose_more n before mid now r s = omega (arith, r, s)

rose_nothing : (a b : ℕ) → a ≡ 0 → b ≡ 0 → Rose a b → ⊥
rose_nothing a b x y r = absurd (omega (arith, r))

-- counts had not fallen before
pub cause_late : (f : ServeFault) (a b c : Counts) → NoneFell a b → HasCause f b c → HasCause f a c
unfolding HasCause
cause_late fault.Link a b c h k = ⊎_elim
    (λ (r : Rose b.failed c.failed). inl (rose_late a.failed b.failed c.failed h.failed r))
    (λ (r : Rose b.lock_failed c.lock_failed). inr (rose_late a.lock_failed b.lock_failed c.lock_failed h.lock_failed r))
    k
cause_late (fault.Foreign sender offset) a b c h k = tt
cause_late (fault.Held holder) a b c h k = rose_late a.refused b.refused c.refused h.refused k
cause_late (fault.TooLong size) a b c h k = tt
cause_late (fault.Exhausted limit.Ticket) a b c h k = rose_late a.refused b.refused c.refused h.refused k
cause_late (fault.Exhausted limit.Call) a b c h k = tt
cause_late (fault.Exhausted (limit.Round ticket)) a b c h k = tt
cause_late (fault.Exhausted (limit.Message sender)) a b c h k = tt
cause_late fault.NoMemory a b c h k = tt

-- counts do not fall afterwards
pub cause_soon : (f : ServeFault) (a b c : Counts) → HasCause f a b → NoneFell b c → HasCause f a c
unfolding HasCause
cause_soon fault.Link a b c k h = ⊎_elim
    (λ (r : Rose a.failed b.failed). inl (rose_soon a.failed b.failed c.failed r h.failed))
    (λ (r : Rose a.lock_failed b.lock_failed). inr (rose_soon a.lock_failed b.lock_failed c.lock_failed r h.lock_failed))
    k
cause_soon (fault.Foreign sender offset) a b c k h = tt
cause_soon (fault.Held holder) a b c k h = rose_soon a.refused b.refused c.refused k h.refused
cause_soon (fault.TooLong size) a b c k h = tt
cause_soon (fault.Exhausted limit.Ticket) a b c k h = rose_soon a.refused b.refused c.refused k h.refused
cause_soon (fault.Exhausted limit.Call) a b c k h = tt
cause_soon (fault.Exhausted (limit.Round ticket)) a b c k h = tt
cause_soon (fault.Exhausted (limit.Message sender)) a b c k h = tt
cause_soon fault.NoMemory a b c k h = tt

-- a cause of a link is one also where a lock stands beside it
pub link_cause : (f : ServeFault) (a b k : Counts) → a.lock_failed ≡ 0 → b.lock_failed ≡ 0 → a.refused ≡ 0 → b.refused ≡ 0 → HasCause f a b → HasCause f (both a k) (both b k)
unfolding HasCause
link_cause fault.Link a b k al bl ar br h = ⊎_elim
    (λ (r : Rose a.failed b.failed). inl r)
    (λ (r : Rose a.lock_failed b.lock_failed). absurd (rose_nothing a.lock_failed b.lock_failed al bl r))
    h
link_cause (fault.Foreign sender offset) a b k al bl ar br h = tt
link_cause (fault.Held holder) a b k al bl ar br h = absurd (rose_nothing a.refused b.refused ar br h)
link_cause (fault.TooLong size) a b k al bl ar br h = tt
link_cause (fault.Exhausted limit.Ticket) a b k al bl ar br h = absurd (rose_nothing a.refused b.refused ar br h)
link_cause (fault.Exhausted limit.Call) a b k al bl ar br h = tt
link_cause (fault.Exhausted (limit.Round ticket)) a b k al bl ar br h = tt
link_cause (fault.Exhausted (limit.Message sender)) a b k al bl ar br h = tt
link_cause fault.NoMemory a b k al bl ar br h = tt

-- a cause of a lock is one also where a link stands beside it
pub lock_cause : (f : ServeFault) (a j k : Counts) → j.failed ≡ 0 → k.failed ≡ 0 → HasCause f j k → HasCause f (both a j) (both a k)
unfolding HasCause
lock_cause fault.Link a j k jf kf h = ⊎_elim
    (λ (r : Rose j.failed k.failed). absurd (rose_nothing j.failed k.failed jf kf r))
    (λ (r : Rose j.lock_failed k.lock_failed). inr r)
    h
lock_cause (fault.Foreign sender offset) a j k jf kf h = tt
lock_cause (fault.Held holder) a j k jf kf h = h
lock_cause (fault.TooLong size) a j k jf kf h = tt
lock_cause (fault.Exhausted limit.Ticket) a j k jf kf h = h
lock_cause (fault.Exhausted limit.Call) a j k jf kf h = tt
lock_cause (fault.Exhausted (limit.Round ticket)) a j k jf kf h = tt
lock_cause (fault.Exhausted (limit.Message sender)) a j k jf kf h = tt
lock_cause fault.NoMemory a j k jf kf h = tt
