-- Locks of processes after an entry.
use Rattle.std.proofs.Common.{ℕ, true, Option, None, arith}
use Rattle.std.proofs.lemmas.Bool.Decides.{nat_tests}
use Rattle.hm_base.specs.Program.{Program}
use Rattle.hm_history.specs.Memory.Words.{with_at}
use Rattle.hm_history.specs.Memory.After.{After}
use Rattle.hm_history.specs.declared.locks.MapLock.{MapLock}
use Rattle.hm_history.specs.declared.Kind.{Kind}
use Rattle.hm_laws.specs.Past.{Past}
use Rattle.hm_laws.specs.Sound.{LockRules, Sound}
use Rattle.hm_laws.specs.Allowed.{next, Allowed}

-- an actor holds nothing, or other actors no lock of the process
released : (map : ℕ → Option MapLock) (a : ℕ) → LockRules map → LockRules (with_at map a None)
released map a h = record {
  one_writer = λ q b d w x y. grind (arith, nat_tests, h.one_writer q b d w);
  free_above = λ b k. grind (arith, nat_tests, h.free_above b);
}

pub locks_kept : (c : Program) (s : After) (t : Past) (a : ℕ) → Sound c s t → (k : Kind) → Allowed c s t a k → LockRules (next s a k).locks.map
locks_kept c s t a so (Kind.Rlock p) ok = record {
  one_writer = λ q b d w x y. grind (arith, nat_tests, so.locks.one_writer q b d w, ok.2 b);
  free_above = λ b h. grind (arith, nat_tests, so.locks.free_above b);
}
locks_kept c s t a so (Kind.Wlock p) ok = record {
  one_writer = λ q b d w x y. grind (arith, nat_tests, so.locks.one_writer q b d w, ok.2 b true, ok.2 d w);
  free_above = λ b h. grind (arith, nat_tests, so.locks.free_above b);
}
locks_kept c s t a so (Kind.Loaded x at bs) ok = released s.locks.map a so.locks
locks_kept c s t a so (Kind.Stored x at bs) ok = released s.locks.map a so.locks
locks_kept c s t a so (Kind.Failed x at n k) ok = released s.locks.map a so.locks
locks_kept c s t a so (Kind.Refused n) ok = released s.locks.map a so.locks
locks_kept c s t a so (Kind.Mapped p r w) ok = released s.locks.map a so.locks
locks_kept c s t a so (Kind.Unmapped p r) ok = released s.locks.map a so.locks
locks_kept c s t a so (Kind.Protected p r w) ok = released s.locks.map a so.locks
locks_kept c s t a so (Kind.Forked p d) ok = released s.locks.map a so.locks
locks_kept c s t a so (Kind.Exited p) ok = released s.locks.map a so.locks
locks_kept c s t a so (Kind.Migrated n) ok = released s.locks.map a so.locks
locks_kept c s t a so (Kind.Retry m) ok = released s.locks.map a so.locks
locks_kept c s t a so (Kind.Excluded m v) ok = released s.locks.map a so.locks
locks_kept c s t a so (Kind.Runlock p) ok = released s.locks.map a so.locks
locks_kept c s t a so k ok = so.locks
