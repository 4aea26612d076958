-- Operations that move no frame: what is due falls at each of their stacks.
use Rattle.std.proofs.Common.{◌≡◌, ℕ, ◌+◌, ◌*◌, ◌-◌, ◌<◌, ◌≤◌, ◌⊎◌, inl, inr, Bool, true, false, ◌==◌, ◌||◌, not, is_some, None, List, [], refl, subst, arith}
use Rattle.std.proofs.lemmas.Bool.{cases_eq}
use Rattle.hm_base.specs.declared.cause.Cause.{Cause}
use Rattle.hm_base.specs.Pages.{Pages, all_pages}
use Rattle.hm_base.specs.Areas.{last_of}
use Rattle.hm_base.specs.Program.{Program}
use Rattle.hm_base.specs.declared.ops.Rights.{Rights}
use Rattle.hm_base.specs.declared.ops.Op.{Op}
use Rattle.hm_history.specs.Memory.Plain.{is_attached, in_window, mirror_proc, area_refusal, meets}
use Rattle.hm_history.specs.Memory.Sequences.{is_odd, insert_deferred, some_overlap, seq_started}
use Rattle.hm_history.specs.Memory.Locks.{writer, lowest_other}
use Rattle.hm_history.specs.Kernel.Quiet.{attaches, over_ops}
use Rattle.hm_history.specs.Memory.After.{After}
use Rattle.hm_history.specs.Kernel.Due.{start_entry, process_seq, under_wlock, due_begin, due_locked, due_areas, proc_of_op}
use Rattle.hm_history.specs.declared.Kind.{Kind}
use Rattle.hm_history.specs.declared.phases.Migrating.{Migrating}
use Rattle.hm_history.specs.declared.phases.Phase.{Phase}
use Rattle.hm_history.specs.declared.phases.Next.TheVariants.{Do}
use Rattle.hm_laws.specs.Past.{Past}
use Rattle.hm_laws.specs.Sound.{Sound}
use Rattle.hm_laws.specs.Allowed.{next}
use Rattle.hm_laws.specs.Facts.{nothing_held, HoldsAll}
use Rattle.hm_laws.specs.Shapes.{takes_lock}
use Rattle.hm_laws.proofs.Due.Good.{either, either_option}
use Rattle.hm_laws.proofs.Waits.WaitsFor.{IsBusy, odd_busy}
use Rattle.hm_laws.proofs.Waits.BusyGoesOn.{idle_busy}
use Rattle.hm_quiet_laws.proofs.measure.Left.{told_left, span_from, pages_from}
use Rattle.hm_quiet_laws.proofs.measure.Counts.{Few}
use Rattle.hm_quiet_laws.proofs.measure.Shapes.{on_simple, is_simple}
use Rattle.hm_quiet_laws.proofs.alone.NeverWaits.{Alone}
use Rattle.hm_quiet_laws.proofs.counts.CountsBelow.{told_few}
use Rattle.hm_quiet_laws.proofs.alone.Falls.{Falls}
use Rattle.hm_quiet_laws.proofs.alone.Ends.{StepsTo}

abbrev pub OnSimple : List Phase → Type 0
OnSimple st = on_simple st ≡ true

-- an actor that is alone and in no guard finds even sequences
pub even : (c : Program) (s : After) (t : Past) (a p : ℕ) → Sound c s t → Alone s a → (IsBusy s a → ⊥) → is_odd (s.sequences.seq p) ≡ false
even c s t a p so al idle = by (is_odd (s.sequences.seq p)) refl
  where
    by : (b : Bool) → is_odd (s.sequences.seq p) ≡ b → b ≡ false
    by false e = refl
    by true e = let w : (b : ℕ) × IsBusy s b = odd_busy c s t p so e in own w (cases_eq w.0 a)
      where
        own : (w : (b : ℕ) × IsBusy s b) → (w.0 ≡ a) ⊎ (w.0 ≡ a → ⊥) → true ≡ false
        own w (inl i) = absurd (idle (subst (IsBusy s) i w.1))
        own w (inr ne) = absurd (al.busy w.0 ne w.1)

wlock_steps : (c : Program) (s : After) (a : ℕ) (o : Op) (xs : List Migrating) (p : ℕ) → StepsTo c s a o xs Phase.Begin [] OnSimple (Do (Kind.Wlock p)) → StepsTo c s a o xs Phase.Begin [] OnSimple (Do (Kind.Refused Cause.NoProcess)) → StepsTo c s a o xs Phase.Begin [] OnSimple (under_wlock s a p)
wlock_steps c s a o xs p h k = either (StepsTo c s a o xs Phase.Begin [] OnSimple) (s.plain.there p) _ _ (λ i. either_option (StepsTo c s a o xs Phase.Begin [] OnSimple) (lowest_other s.locks p a) _ _ (λ j. h) (λ b j. tt)) (λ i. k)

some_left : (n : ℕ) → 0 < 1 + n
some_left n = omega arith

snap_left : (r : Pages) → last_of r - r.first + 1 < r.count + 2
snap_left r = omega arith

pub begin_steps : (c : Program) (s : After) (t : Past) (a : ℕ) (o : Op) (xs : List Migrating) → is_simple o ≡ true → Sound c s t → Alone s a → HoldsAll s t a nothing_held → StepsTo c s a o xs Phase.Begin [] OnSimple (due_begin s a o)
begin_steps c s t a (Op.Map p r w) xs i so al h = wlock_steps c s a (Op.Map p r w) xs p (omega arith, refl) (omega arith, refl)
begin_steps c s t a (Op.Unmap p r) xs i so al h = wlock_steps c s a (Op.Unmap p r) xs p (omega arith, refl) (omega arith, refl)
begin_steps c s t a (Op.Protect p r w) xs i so al h = wlock_steps c s a (Op.Protect p r w) xs p (omega arith, refl) (omega arith, refl)
begin_steps c s t a (Op.Exit p) xs i so al h = wlock_steps c s a (Op.Exit p) xs p (omega arith, refl) (omega arith, refl)
begin_steps c s t a (Op.Fork p d) xs i so al h = wlock_steps c s a (Op.Fork p d) xs p (omega arith, refl) (omega arith, refl)
begin_steps c s t a (Op.Attach m d p r) xs i so al h =
    either (λ k. StepsTo c s a (Op.Attach m d p r) xs Phase.Begin [] OnSimple (Do k)) (is_some (s.plain.mirrors m)) _ _ (λ e. (some_left 0, refl))
    (λ e. either (λ k. StepsTo c s a (Op.Attach m d p r) xs Phase.Begin [] OnSimple (Do k)) (s.plain.there p) _ _ (λ f. (some_left 0, refl)) (λ f. (some_left 0, refl)))
begin_steps c s t a (Op.Detach m) xs i so al h =
    either (λ k. StepsTo c s a (Op.Detach m) xs Phase.Begin [] OnSimple (Do k)) (is_attached s.plain m) _ _
    (λ e. either (λ k. StepsTo c s a (Op.Detach m) xs Phase.Begin [] OnSimple (Do k)) (not (is_odd (process_seq s m)) || insert_deferred s.sequences m) _ _ (λ f. (some_left 0, refl)) (λ f. absurd (no_odd (is_odd (process_seq s m)) (insert_deferred s.sequences m) (even c s t a _ so al (idle_busy s t a h)) f)))
    (λ e. (some_left 0, refl))
  where
    no_odd : (x y : Bool) → x ≡ false → (not x || y) ≡ false → ⊥
    no_odd x y e f = grind arith
begin_steps c s t a (Op.Snap m r) xs i so al h =
    either (StepsTo c s a (Op.Snap m r) xs Phase.Begin [] OnSimple) (in_window s.plain m r) _ _
    (λ e. either_option (StepsTo c s a (Op.Snap m r) xs Phase.Begin [] OnSimple) (writer s.locks (mirror_proc s.plain m)) _ _ (λ f. (snap_left r, refl)) (λ b f. tt))
    (λ e. (omega arith, refl))
begin_steps c s t a (Op.Load p at n) xs i so al h = cc
begin_steps c s t a (Op.Store p at n) xs i so al h = cc
begin_steps c s t a (Op.DeviceLoad p at n) xs i so al h = cc
begin_steps c s t a (Op.DeviceStore p at n) xs i so al h = cc
begin_steps c s t a (Op.ToDevice m r) xs i so al h = cc
begin_steps c s t a (Op.ToSystem m r) xs i so al h = cc
begin_steps c s t a (Op.Evict d) xs i so al h = cc
begin_steps c s t a (Op.Remove d) xs i so al h = cc
begin_steps c s t a (Op.Exclusive m v) xs i so al h = cc
begin_steps c s t a (Op.Add m at n) xs i so al h = cc

-- under the lock
zap_opens : (n m k : ℕ) → n ≤ m → n + (2 * k + 2) < (m + 2) + 2 * k + 1
zap_opens n m k h = omega arith

narrow_opens : (n m : ℕ) (r : Pages) → n ≤ m → n + (span_from r.first r + 2) < (m + 2) + r.count + 1
narrow_opens n m r h = omega arith

unmap_opens : (n m : ℕ) (r : Pages) → n ≤ m → n + (2 * span_from r.first r + 2) < (m + 2) + 2 * r.count + 1
unmap_opens n m r h = omega arith

nothing_opens : (n m k : ℕ) → n ≤ m → n + (1 + 1) < (m + 2) + k + 1
nothing_opens n m k h = omega arith

opens_told : (c : Program) (s : After) (a : ℕ) (r : Pages) (p : ℕ) (q : ℕ) (b : Bool) → Few c s → told_left (next s a (Kind.Start p r q)) p r b None ≤ over_ops attaches c
opens_told c s a r p q b f = told_few (next s a (Kind.Start p r q)) p r b None (over_ops attaches c) f.mirrors

exit_opens : (c : Program) (s : After) (a : ℕ) (xs : List Migrating) (p : ℕ) → Few c s → Falls c s a (Op.Exit p) xs Phase.Locked [] (Do (start_entry s p all_pages))
exit_opens c s a xs p f = zap_opens (told_left (next s a (start_entry s p all_pages)) p all_pages (some_overlap s.sequences p all_pages) None) (over_ops attaches c) (pages_from 0 (s.plain.areas p))
    (opens_told c s a all_pages p (seq_started s.sequences p all_pages) (some_overlap s.sequences p all_pages) f)

pub fork_opens : (c : Program) (s : After) (a : ℕ) (xs : List Migrating) (p d : ℕ) → Few c s → Falls c s a (Op.Fork p d) xs Phase.Ready [] (Do (start_entry s p all_pages))
fork_opens c s a xs p d f = zap_opens (told_left (next s a (start_entry s p all_pages)) p all_pages (some_overlap s.sequences p all_pages) None) (over_ops attaches c) (pages_from 0 (s.plain.areas p))
    (opens_told c s a all_pages p (seq_started s.sequences p all_pages) (some_overlap s.sequences p all_pages) f)

pub locked_steps : (c : Program) (s : After) (a : ℕ) (o : Op) (xs : List Migrating) → takes_lock o ≡ true → Few c s → StepsTo c s a o xs Phase.Locked [] OnSimple (Do (due_locked s o))
locked_steps c s a o xs i f = either (λ k. StepsTo c s a o xs Phase.Locked [] OnSimple (Do k)) (s.plain.there (proc_of_op o)) _ _
    (λ e. either_option (λ k. StepsTo c s a o xs Phase.Locked [] OnSimple (Do k)) (area_refusal s.plain o) _ _ (λ g. areas o i) (λ n g. refused o n i)) (λ e. refused o Cause.NoProcess i)
  where
    refused : (o : Op) (n : Cause) → takes_lock o ≡ true → StepsTo c s a o xs Phase.Locked [] OnSimple (Do (Kind.Refused n))
    refused (Op.Map p r w) n i = (omega arith, refl)
    refused (Op.Unmap p r) n i = (omega arith, refl)
    refused (Op.Protect p r w) n i = (omega arith, refl)
    refused (Op.Exit p) n i = (omega arith, refl)
    refused (Op.Fork p d) n i = (omega arith, refl)
    refused o n i = cc

    areas : (o : Op) → takes_lock o ≡ true → StepsTo c s a o xs Phase.Locked [] OnSimple (Do (due_areas s o))
    areas (Op.Map p r w) i = (omega arith, refl)
    areas (Op.Unmap p r) i = either (λ k. StepsTo c s a (Op.Unmap p r) xs Phase.Locked [] OnSimple (Do k)) (meets r (s.plain.areas p)) _ _ (λ g. (unmap_opens (told_left (next s a (start_entry s p r)) p r (some_overlap s.sequences p r) None) (over_ops attaches c) r (opens_told c s a r p (seq_started s.sequences p r) (some_overlap s.sequences p r) f), refl)) (λ g. (omega arith, refl))
    areas (Op.Protect p r Rights.Read) i = (narrow_opens (told_left (next s a (start_entry s p r)) p r (some_overlap s.sequences p r) None) (over_ops attaches c) r (opens_told c s a r p (seq_started s.sequences p r) (some_overlap s.sequences p r) f), refl)
    areas (Op.Protect p r Rights.ReadWrite) i = (nothing_opens (told_left (next s a (start_entry s p r)) p r (some_overlap s.sequences p r) None) (over_ops attaches c) r.count (opens_told c s a r p (seq_started s.sequences p r) (some_overlap s.sequences p r) f), refl)
    areas (Op.Exit p) i = (exit_opens c s a xs p f, refl)
    areas (Op.Fork p d) i = either (λ k. StepsTo c s a (Op.Fork p d) xs Phase.Locked [] OnSimple (Do k)) ((d == 0) || s.plain.named d) _ _ (λ g. (omega arith, refl)) (λ g. (omega arith, refl))
    areas o i = cc
