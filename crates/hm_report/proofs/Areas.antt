-- Entries of maps, forks, attachments and snapshots, and of accesses: the stack fits after them.
use Rattle.std.proofs.Common.{◌≡◌, ℕ, true, ◌==◌, Option, None, Some, List, [], length, nat_lt, nat_le, refl}
use Rattle.std.specs.Prelude.{not}
use Rattle.std.proofs.lemmas.Bool.{false≢true, and_parts, and_from}
use Rattle.hm_base.specs.declared.cause.Cause.{Cause}
use Rattle.hm_base.specs.Pages.{Pages}
use Rattle.hm_base.specs.declared.ops.Op.{Op}
use Rattle.hm_base.specs.declared.ops.Rights.{Rights}
use Rattle.hm_history.specs.Memory.After.{After}
use Rattle.hm_history.specs.Memory.Plain.{meets, without, with_rights, all_mapped}
use Rattle.hm_history.specs.declared.Kind.{Kind}
use Rattle.hm_history.specs.declared.phases.Seen.{Seen}
use Rattle.hm_history.specs.declared.phases.Phase.{Phase}
use Rattle.hm_history.specs.Kernel.Stacks.{after_begin, after_locked, after_ready, after_answer, after_pages, after_piece, after_fetched, first_touch}
use Rattle.hm_history.specs.Kernel.Due.{rlock, under_wlock, in_window_rlock, due_begin, due_attach, due_detach, due_locked, due_areas, due_ready, due_answer, due_detaching, due_pages, due_piece, due_cpu, due_mirror, due_add, due_fetched, answer_of_piece, failed, begin_look_up}
use Rattle.hm_report.proofs.Fits.{base_fits, goes, NextIs, does, waits, either, either_if, perhaps, piece_goes, sole_piece}

-- the entries that begin with a lock
pub rlock_is : (P : Kind → Type 0) (s : After) (p : ℕ) → P (Kind.Rlock p) → NextIs P (rlock s p)
rlock_is P s p h = perhaps (NextIs P) _ _ _ (does P _ h) (λ b. waits P _)

wlock_is : (P : Kind → Type 0) (s : After) (a p : ℕ) → P (Kind.Refused Cause.NoProcess) → P (Kind.Wlock p) → NextIs P (under_wlock s a p)
wlock_is P s a p refused locked = either (NextIs P) _ _ _ (perhaps (NextIs P) _ _ _ (does P _ locked) (λ b. waits P _)) (does P _ refused)

window_is : (P : Kind → Type 0) (s : After) (m : ℕ) (r : Pages) → P (Kind.Refused Cause.Outside) → ((q : ℕ) → P (Kind.Rlock q)) → NextIs P (in_window_rlock s m r)
window_is P s m r refused locked = either (NextIs P) _ _ _ (rlock_is P s _ (locked _)) (does P _ refused)

attach_is : (P : Kind → Type 0) (s : After) (m d p : ℕ) (r : Pages) → P (Kind.Refused Cause.MirrorTaken) → P (Kind.Refused Cause.NoProcess) → ((q : ℕ) → P (Kind.Attached m d p r q)) → P (due_attach s m d p r)
attach_is P s m d p r taken gone attached = either P _ _ _ taken (either P _ _ _ (attached _) gone)

detach_is : (P : Kind → Type 0) (s : After) (m : ℕ) → P (Kind.Refused Cause.Outside) → P (Kind.Detached m) → ((q : ℕ) → P (Kind.Detaching m q)) → P (due_detach s m)
detach_is P s m outside detached detaching = either P _ _ _ (either P _ _ _ detached (detaching _)) outside

-- the first entry
abbrev Begins : Op → ℕ → Kind → Type 0
Begins o n k = goes o n k (after_begin o k) ≡ true

pub begin_goes : (s : After) (a : ℕ) (o : Op) (n : ℕ) → base_fits o n Phase.Begin ≡ true → NextIs (Begins o n) (due_begin s a o)
begin_goes s a (Op.Map p r w) n h = wlock_is (Begins (Op.Map p r w) n) s a p refl h
begin_goes s a (Op.Unmap p r) n h = wlock_is (Begins (Op.Unmap p r) n) s a p refl h
begin_goes s a (Op.Protect p r w) n h = wlock_is (Begins (Op.Protect p r w) n) s a p refl h
begin_goes s a (Op.Exit p) n h = wlock_is (Begins (Op.Exit p) n) s a p refl h
begin_goes s a (Op.Fork p c) n h = wlock_is (Begins (Op.Fork p c) n) s a p refl h
begin_goes s a (Op.Attach m d p r) n h = does (Begins (Op.Attach m d p r) n) _ (attach_is (Begins (Op.Attach m d p r) n) s m d p r refl refl (λ q. refl))
begin_goes s a (Op.Detach m) n h = does (Begins (Op.Detach m) n) _ (detach_is (Begins (Op.Detach m) n) s m refl refl (λ q. refl))
begin_goes s a (Op.Snap m r) n h = window_is (Begins (Op.Snap m r) n) s m r refl (λ q. refl)
begin_goes s a (Op.ToDevice m r) n h = window_is (Begins (Op.ToDevice m r) n) s m r refl (λ q. h)
begin_goes s a (Op.ToSystem m r) n h = window_is (Begins (Op.ToSystem m r) n) s m r refl (λ q. h)
begin_goes s a (Op.Exclusive m v) n h = window_is (Begins (Op.Exclusive m v) n) s m _ refl (λ q. h)
begin_goes s a o n h = absurd (false≢true h)

-- under the lock for writing
map_is : (P : Kind → Type 0) (s : After) (p : ℕ) (r : Pages) (w : Rights) → P (Kind.Refused Cause.NoProcess) → P (Kind.Refused Cause.Overlap) → P (Kind.Refused Cause.TooManyAreas) → P (Kind.Mapped p r w) → P (due_locked s (Op.Map p r w))
map_is P s p r w gone overlap many mapped =
    let Q : Option Cause → Type 0 = λ x. P (elim x [ Some m ↦ Kind.Refused m | None ↦ Kind.Mapped p r w ]) in
    either P _ _ _ (either_if Q (meets r (s.plain.areas p)) (Some Cause.Overlap) _ overlap (either_if Q (nat_lt (length (s.plain.areas p)) 64) None (Some Cause.TooManyAreas) mapped many)) gone

unmap_is : (P : Kind → Type 0) (s : After) (p : ℕ) (r : Pages) → P (Kind.Refused Cause.NoProcess) → P (Kind.Refused Cause.TooManyAreas) → ((q : ℕ) → P (Kind.Start p r q)) → P (Kind.Unmapped p r) → P (due_locked s (Op.Unmap p r))
unmap_is P s p r gone many starts unmapped =
    let Q : Option Cause → Type 0 = λ x. P (elim x [ Some m ↦ Kind.Refused m | None ↦ due_areas s (Op.Unmap p r) ]) in
    let areas : P (due_areas s (Op.Unmap p r)) = either P _ _ _ (starts _) unmapped in
    either P _ _ _ (either_if Q (nat_le (length (without r (s.plain.areas p))) 64) None (Some Cause.TooManyAreas) areas many) gone

protect_is : (P : Kind → Type 0) (s : After) (p : ℕ) (r : Pages) (w : Rights) → P (Kind.Refused Cause.NoProcess) → P (Kind.Refused Cause.Unmapped) → P (Kind.Refused Cause.TooManyAreas) → ((q : ℕ) → P (Kind.Start p r q)) → P (due_locked s (Op.Protect p r w))
protect_is P s p r w gone unmapped many starts =
    let Q : Option Cause → Type 0 = λ x. P (elim x [ Some m ↦ Kind.Refused m | None ↦ due_areas s (Op.Protect p r w) ]) in
    either P _ _ _ (either_if Q (not (all_mapped r (s.plain.areas p))) (Some Cause.Unmapped) _ unmapped (either_if Q (nat_le (length (with_rights r w (s.plain.areas p))) 64) None (Some Cause.TooManyAreas) (starts _) many)) gone

exit_is : (P : Kind → Type 0) (s : After) (p : ℕ) → P (Kind.Refused Cause.NoProcess) → ((r : Pages) (q : ℕ) → P (Kind.Start p r q)) → P (due_locked s (Op.Exit p))
exit_is P s p gone starts = either P _ _ _ (starts _ _) gone

fork_is : (P : Kind → Type 0) (s : After) (p c : ℕ) → P (Kind.Refused Cause.NoProcess) → P (Kind.Refused Cause.NameTaken) → P (Kind.Named p c) → P (due_locked s (Op.Fork p c))
fork_is P s p c gone taken named = either P _ _ _ (either P _ _ _ taken named) gone

abbrev Locks : Op → ℕ → (Kind → Seen) → Kind → Type 0
Locks o n see k = goes o n k (after_locked o k (see k)) ≡ true

pub locked_goes : (s : After) (o : Op) (n : ℕ) (see : Kind → Seen) → base_fits o n Phase.Locked ≡ true → Locks o n see (due_locked s o)
locked_goes s (Op.Map p r w) n see h = map_is (Locks (Op.Map p r w) n see) s p r w refl refl refl refl
locked_goes s (Op.Unmap p r) n see h = unmap_is (Locks (Op.Unmap p r) n see) s p r refl refl (λ q. h) refl
locked_goes s (Op.Protect p r w) n see h = protect_is (Locks (Op.Protect p r w) n see) s p r w refl refl refl (λ q. h)
locked_goes s (Op.Exit p) n see h = exit_is (Locks (Op.Exit p) n see) s p refl (λ r q. h)
locked_goes s (Op.Fork p c) n see h = fork_is (Locks (Op.Fork p c) n see) s p c refl refl h
locked_goes s o n see h = absurd (false≢true h)

pub ready_goes : (s : After) (o : Op) (n : ℕ) (see : Kind → Seen) → base_fits o n Phase.Ready ≡ true → goes o n (due_ready s o) (after_ready o (due_ready s o) (see (due_ready s o))) ≡ true
ready_goes s (Op.Fork p c) n see h = h
ready_goes s (Op.ToDevice m r) n see h = refl
ready_goes s (Op.ToSystem m r) n see h = refl
ready_goes s o n see h = absurd (false≢true h)

pub answer_phase_goes : (s : After) (o : Op) (n : ℕ) → base_fits o n Phase.Answer ≡ true → goes o n (due_answer s o) (after_answer (due_answer s o)) ≡ true
answer_phase_goes s (Op.Unmap p r) n h = refl
answer_phase_goes s (Op.Protect p r w) n h = refl
answer_phase_goes s (Op.Exit p) n h = refl
answer_phase_goes s (Op.Fork p c) n h = refl
answer_phase_goes s (Op.Exclusive m v) n h = refl
answer_phase_goes s (Op.Add m a k) n h = and_from (0 == n) true h refl
answer_phase_goes s o n h = absurd (false≢true h)

abbrev Over : Op → ℕ → Kind → Type 0
Over o n k = goes o n k [] ≡ true

pub detaching_goes : (s : After) (o : Op) (n m q : ℕ) → NextIs (Over o n) (due_detaching s m q)
detaching_goes s o n m q = either (NextIs (Over o n)) _ _ _ (waits (Over o n) _) (does (Over o n) _ refl)

shows_is : (P : Kind → Type 0) (s : After) (m v : ℕ) (r : Pages) → ((c : ℕ) → P (Kind.Seen m v c)) → ((p : ℕ) → P (Kind.Runlock p)) → P (due_pages s (Op.Snap m r) v)
shows_is P s m v r seen unlocks = either P _ _ _ (seen _) (unlocks _)

abbrev Shows : Op → ℕ → Kind → Type 0
Shows o n k = goes o n k (after_pages k) ≡ true

pub pages_goes : (s : After) (o : Op) (n v : ℕ) → base_fits o n (Phase.Pages v) ≡ true → Shows o n (due_pages s o v)
pages_goes s (Op.Snap m r) n v h = shows_is (Shows (Op.Snap m r) n) s m v r (λ c. refl) (λ p. refl)
pages_goes s o n v h = absurd (false≢true h)

-- accesses
cpu_is : (P : Kind → Type 0) (s : After) (o : Op) (k p : ℕ) → P (failed o k Cause.Unmapped) → P (answer_of_piece s o k) → P (Kind.Rlock p) → NextIs P (due_cpu s o k p)
cpu_is P s o k p gone answers locked = either (NextIs P) _ _ _ (either (NextIs P) _ _ _ (does P _ answers) (rlock_is P s p locked)) (does P _ gone)

begins_is : (P : Kind → Type 0) (s : After) (m : ℕ) → ((q : ℕ) → P (Kind.Begin m q)) → NextIs P (begin_look_up s m)
begins_is P s m begun = either (NextIs P) _ _ _ (waits P _) (does P _ (begun _))

mirror_is : (P : Kind → Type 0) (s : After) (o : Op) (k m : ℕ) → P (failed o k Cause.Outside) → P (answer_of_piece s o k) → ((q : ℕ) → P (Kind.Begin m q)) → NextIs P (due_mirror s o k m)
mirror_is P s o k m outside answers begun = either (NextIs P) _ _ _ (either (NextIs P) _ _ _ (does P _ answers) (begins_is P s m begun)) (does P _ outside)

add_is : (P : Kind → Type 0) (s : After) (a : ℕ) (o : Op) (m at : ℕ) → P (failed o 0 Cause.Outside) → ((bs : List ℕ) → P (Kind.Fetched m at bs)) → ((p : ℕ) → P (Kind.Rlock p)) → NextIs P (due_add s a o m at)
add_is P s a o m at outside fetched locked = either (NextIs P) _ _ _ (either (NextIs P) _ _ _ (does P _ (fetched _)) (rlock_is P s _ (locked _))) (does P _ outside)

abbrev Pieces : Op → ℕ → ℕ → (Kind → Seen) → Kind → Type 0
Pieces o n k see x = goes o n x (after_piece o k (first_touch o k) x (see x)) ≡ true

pub piece_phase_goes : (s : After) (a : ℕ) (o : Op) (n k : ℕ) (see : Kind → Seen) → base_fits o n (Phase.Piece k) ≡ true → NextIs (Pieces o n k see) (due_piece s a o k)
piece_phase_goes s a (Op.Load p b m) n k see h =
    let ends = piece_goes (Op.Load p b m) n k h in
    cpu_is (Pieces (Op.Load p b m) n k see) s (Op.Load p b m) k p ends ends h
piece_phase_goes s a (Op.Store p b bs) n k see h =
    let ends = piece_goes (Op.Store p b bs) n k h in
    cpu_is (Pieces (Op.Store p b bs) n k see) s (Op.Store p b bs) k p ends ends h
piece_phase_goes s a (Op.DeviceLoad m b l) n k see h =
    let ends = piece_goes (Op.DeviceLoad m b l) n k h in
    mirror_is (Pieces (Op.DeviceLoad m b l) n k see) s (Op.DeviceLoad m b l) k m ends ends (λ q. h)
piece_phase_goes s a (Op.DeviceStore m b bs) n k see h =
    let ends = piece_goes (Op.DeviceStore m b bs) n k h in
    mirror_is (Pieces (Op.DeviceStore m b bs) n k see) s (Op.DeviceStore m b bs) k m ends ends (λ q. h)
piece_phase_goes s a (Op.Add m b i) n k see h =
    let zero = (and_parts (0 == n) (0 == k) h).0 in
    add_is (Pieces (Op.Add m b i) n k see) s a (Op.Add m b i) m b (piece_goes (Op.Add m b i) n k h) (λ bs. zero) (λ p. zero)
piece_phase_goes s a (Op.Exclusive m v) n k see h = does (Pieces (Op.Exclusive m v) n k see) _ h
piece_phase_goes s a o n k see h = absurd (false≢true h)

abbrev Adds : Op → ℕ → (Kind → Seen) → Kind → Type 0
Adds o n see x = goes o n x (after_fetched o x (see x)) ≡ true

fetched_is : (P : Kind → Type 0) (s : After) (a m at n old : ℕ) → ((now : ℕ) → P (Kind.Added m at old now)) → NextIs P (due_add s a (Op.Add m at n) m at) → NextIs P (due_fetched s a (Op.Add m at n) old)
fetched_is P s a m at n old added again = either (NextIs P) _ _ _ (does P _ (added _)) again

pub fetched_goes : (s : After) (a : ℕ) (o : Op) (n old : ℕ) (see : Kind → Seen) → base_fits o n (Phase.Fetched old) ≡ true → NextIs (Adds o n see) (due_fetched s a o old)
fetched_goes s a (Op.Add m b i) n old see h =
    let ends = piece_goes (Op.Add m b i) n 0 (sole_piece (Op.Add m b i) n h) in
    fetched_is (Adds (Op.Add m b i) n see) s a m b i old (λ now. refl) (add_is (Adds (Op.Add m b i) n see) s a (Op.Add m b i) m b ends (λ bs. h) (λ p. h))
fetched_goes s a o n old see h = absurd (false≢true h)
