-- The decision of a fault by the CPU.
use Rattle.std.proofs.Common.{ℕ, ◌<◌, false, true, None, List, [], refl}
use Rattle.hm_base.specs.Program.{Program}
use Rattle.hm_base.specs.declared.ops.Op.{Op}
use Rattle.hm_history.specs.Memory.After.{After}
use Rattle.hm_history.specs.Kernel.Due.{suits, failed, fault}
use Rattle.hm_history.specs.declared.phases.Migrating.{Migrating}
use Rattle.hm_history.specs.declared.phases.Touch.{Touch}
use Rattle.hm_history.specs.declared.phases.Phase.{Phase}
use Rattle.hm_laws.specs.Past.{Past}
use Rattle.hm_laws.specs.Sound.{Sound}
use Rattle.hm_laws.specs.Allowed.{next}
use Rattle.hm_laws.specs.Facts.{at_page, deciding, HoldsAll}
use Rattle.hm_laws.proofs.Due.Good.{Good, ends_ok}
use Rattle.hm_laws.proofs.Due.Mirrors.{release_locked}
use Rattle.hm_laws.proofs.Due.Decide.{fault_ok}
use Rattle.hm_history.proofs.Updates.{here_at}

pub load_fault_ok : (c : Program) (s : After) (t : Past) (a p at n k : ℕ) (xs : List Migrating) → a < 16 → Sound c s t → HoldsAll s t a (deciding (Op.Load p at n) (Touch.Cpu k)) →
    Good c s t a (Op.Load p at n) xs (Phase.Decide (Touch.Cpu k)) [] (fault c s a (Op.Load p at n) k (suits false) p (at_page (Op.Load p at n) k))
load_fault_ok c s t a p at n k xs few so h = fault_ok c s t a (Op.Load p at n) xs (Touch.Cpu k) (suits false) few (record {
  fail = λ i f sh. ((release_locked s a p h.1.0.1, f), sh, ends_ok (Op.Load p at n) xs k (next s a (failed (Op.Load p at n) k i)) t a (here_at s.locks.map a None, h.1.1));
  suit = λ w. (release_locked s a p h.1.0.1, tt, (h.0, (here_at s.locks.map a None, h.1.1)));
  inside = refl;
  suits_core = λ x co. refl;
}) so h

pub store_fault_ok : (c : Program) (s : After) (t : Past) (a p at : ℕ) (bs : List ℕ) (k : ℕ) (xs : List Migrating) → a < 16 → Sound c s t → HoldsAll s t a (deciding (Op.Store p at bs) (Touch.Cpu k)) →
    Good c s t a (Op.Store p at bs) xs (Phase.Decide (Touch.Cpu k)) [] (fault c s a (Op.Store p at bs) k (suits true) p (at_page (Op.Store p at bs) k))
store_fault_ok c s t a p at bs k xs few so h = fault_ok c s t a (Op.Store p at bs) xs (Touch.Cpu k) (suits true) few (record {
  fail = λ i f sh. ((release_locked s a p h.1.0.1, f), sh, ends_ok (Op.Store p at bs) xs k (next s a (failed (Op.Store p at bs) k i)) t a (here_at s.locks.map a None, h.1.1));
  suit = λ w. (release_locked s a p h.1.0.1, tt, (h.0, (here_at s.locks.map a None, h.1.1)));
  inside = refl;
  suits_core = λ x co. refl;
}) so h
