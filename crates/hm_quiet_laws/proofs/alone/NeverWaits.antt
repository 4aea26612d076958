-- An actor that goes on alone never waits.
use Rattle.std.proofs.Common.{◌≡◌, ℕ, ◌⊎◌, inl, inr, Option, Some, None, List, [], ◌∷◌, refl, sym, subst}
use Rattle.std.proofs.lemmas.Bool.{cases_eq}
use Rattle.hm_base.specs.Program.{Program}
use Rattle.hm_base.specs.declared.ops.Op.{Op}
use Rattle.hm_history.specs.Memory.After.{After}
use Rattle.hm_history.specs.Kernel.Going.{State, Going, op_at, first_stack}
use Rattle.hm_history.specs.Kernel.Due.{due_phase}
use Rattle.hm_history.specs.declared.phases.Migrating.{Migrating}
use Rattle.hm_history.specs.declared.phases.Phase.{Phase}
use Rattle.hm_history.specs.declared.phases.Next.{Next}
use Rattle.hm_history.specs.declared.phases.Next.TheVariants.{Do, Wait}
use Rattle.hm_laws.specs.Past.{Past}
use Rattle.hm_laws.specs.Sound.{Sound}
use Rattle.hm_laws.specs.Facts.{nothing_held, facts, facts_of, HoldsAll}
use Rattle.hm_laws.specs.Stands.{Standing}
use Rattle.hm_laws.proofs.Waits.WaitsFor.{IsBusy, HasMapLock, NoWait, ForBusy, ForHolder}
use Rattle.hm_laws.proofs.Waits.BusyGoesOn.{waits_for_holder, busy_goes, locker_goes, idle_busy, idle_lock}
use Rattle.hm_quiet_laws.specs.Rest.{IsAtRest, OthersRest}

-- between operations an actor holds nothing
rest_holds : (s : After) (t : Past) (b : ℕ) (x : Option Op) → HoldsAll s t b (facts_of x [] (first_stack x)) → HoldsAll s t b nothing_held
rest_holds s t b None h = h
rest_holds s t b (Some (Op.Map p r w)) h = h.1
rest_holds s t b (Some (Op.Unmap p r)) h = h.1
rest_holds s t b (Some (Op.Protect p r w)) h = h.1
rest_holds s t b (Some (Op.Exit p)) h = h.1
rest_holds s t b (Some (Op.Fork p d)) h = h.1
rest_holds s t b (Some (Op.Attach m d p r)) h = h.1
rest_holds s t b (Some (Op.Detach m)) h = h.1
rest_holds s t b (Some (Op.Snap m r)) h = h.1
rest_holds s t b (Some (Op.Exclusive m v)) h = h.1
rest_holds s t b (Some (Op.Add m at n)) h = h.1
rest_holds s t b (Some (Op.Evict d)) h = h.1.1.1
rest_holds s t b (Some (Op.Remove d)) h = h.1.1.1
rest_holds s t b (Some (Op.DeviceLoad m at n)) h = h.1
rest_holds s t b (Some (Op.DeviceStore m at bs)) h = h.1
rest_holds s t b (Some (Op.Load p at n)) h = h.1
rest_holds s t b (Some (Op.Store p at bs)) h = h.1
rest_holds s t b (Some (Op.ToDevice m r)) h = h.1
rest_holds s t b (Some (Op.ToSystem m r)) h = h.1

pub holds_nothing : (c : Program) (u : State) (t : Past) (b : ℕ) → Standing c u t → IsAtRest c u b → HoldsAll u.after t b nothing_held
holds_nothing c u t b st r = rest_holds u.after t b (op_at c b (u.going b).index) (subst (λ (g : Going). HoldsAll u.after t b (facts_of (op_at c b (u.going b).index) g.pages g.stack)) r (st.known b))

-- who is busy or has an mmap lock is the actor itself
pub record Alone (s : After) (a : ℕ) : Type 0 where
  pub busy : (b : ℕ) → (b ≡ a → ⊥) → IsBusy s b → ⊥
  pub locker : (b : ℕ) → (b ≡ a → ⊥) → HasMapLock s b → ⊥

pub alone : (c : Program) (u : State) (t : Past) (a : ℕ) → Standing c u t → OthersRest c u a → Alone u.after a
alone c u t a st r = record {
  busy = λ b ne h. idle_busy u.after t b (holds_nothing c u t b st (r b ne)) h;
  locker = λ b ne h. idle_lock u.after t b (holds_nothing c u t b st (r b ne)) h;
}

-- so it never waits
pub goes_alone : (c : Program) (s : After) (t : Past) (a : ℕ) (o : Op) (xs : List Migrating) (top : Phase) (below : List Phase) → Sound c s t → Alone s a → HoldsAll s t a (facts o xs (top ∷ below)) → NoWait (due_phase c s a o xs top)
goes_alone c s t a o xs top below so al h = by (due_phase c s a o xs top) refl (waits_for_holder c s t a o xs top below so h)
  where
    same : IsBusy s a → NoWait (due_phase c s a o xs top)
    same e = busy_goes c s t a o xs top below h e

    locks : HasMapLock s a → NoWait (due_phase c s a o xs top)
    locks e = at (due_phase c s a o xs top) refl (locker_goes c s t a o xs top below so h e)
      where
        at : (n : Next) → due_phase c s a o xs top ≡ n → ForBusy s n → NoWait (due_phase c s a o xs top)
        at (Do k) i w = subst NoWait (sym i) tt
        at (Wait y) i w = own (cases_eq w.0 a)
          where
            own : (w.0 ≡ a) ⊎ (w.0 ≡ a → ⊥) → NoWait (due_phase c s a o xs top)
            own (inl j) = same (subst (IsBusy s) j w.1)
            own (inr ne) = absurd (al.busy w.0 ne w.1)

    by : (n : Next) → due_phase c s a o xs top ≡ n → ForHolder s n → NoWait (due_phase c s a o xs top)
    by (Do k) i w = subst NoWait (sym i) tt
    by (Wait y) i w = own (cases_eq w.0 a) w.1
      where
        own : (w.0 ≡ a) ⊎ (w.0 ≡ a → ⊥) → IsBusy s w.0 ⊎ HasMapLock s w.0 → NoWait (due_phase c s a o xs top)
        own (inl j) (inl e) = same (subst (IsBusy s) j e)
        own (inl j) (inr e) = locks (subst (HasMapLock s) j e)
        own (inr ne) (inl e) = absurd (al.busy w.0 ne e)
        own (inr ne) (inr e) = absurd (al.locker w.0 ne e)
