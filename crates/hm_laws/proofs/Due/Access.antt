-- Accesses by the CPU: their first steps.
use Rattle.std.proofs.Common.{◌≡◌, ℕ, zero, suc, ◌+◌, ◌<◌, ◌≤◌, true, false, is_some, is_none, None, List, [], ◌∷◌, refl, sym, ap, subst, arith, length}
use Rattle.std.proofs.lemmas.Bool.Decides.{nat_tests}
use Rattle.std.proofs.lemmas.Bool.{and_from}
use Rattle.hm_base.specs.Program.{Program}
use Rattle.hm_base.specs.declared.cause.Cause.{Cause}
use Rattle.hm_base.specs.declared.Place.{Place}
use Rattle.hm_base.specs.declared.ops.Op.{Op}
use Rattle.hm_history.specs.Memory.Words.{writable, page_of}
use Rattle.hm_history.specs.Memory.Plain.{Plain, rights_of, is_read_write, plain_accepts}
use Rattle.hm_history.specs.Memory.Places.{cpu_reads, cpu_writes}
use Rattle.hm_history.specs.Memory.After.{After}
use Rattle.hm_history.specs.declared.Who.{Who}
use Rattle.hm_history.specs.declared.Kind.{Kind}
use Rattle.hm_laws.specs.Past.{Past}
use Rattle.hm_laws.specs.Sound.{Sound}
use Rattle.hm_laws.specs.Allowed.{next}
use Rattle.hm_laws.specs.Facts.{Is, at_page, has_piece, nothing_held, HoldsAll}
use Rattle.hm_history.specs.Memory.Words.{bytes_from, same_bytes}
use Rattle.hm_history.specs.Memory.Plain.{plain_bytes, cause_at}
use Rattle.hm_history.specs.Kernel.Operation.{op_piece}
use Rattle.hm_history.specs.Kernel.Due.{due_cpu, failed, answer_of_piece}
use Rattle.hm_history.specs.declared.phases.Migrating.{Migrating}
use Rattle.hm_history.specs.declared.phases.Phase.{Phase}
use Rattle.hm_history.specs.declared.phases.Next.{Next}
use Rattle.hm_laws.proofs.Due.Good.{Good, either, release_none, rlock_ok, ends_ok, not_there, not_short}
use Rattle.hm_laws.proofs.State.Pieces.{store_in_page}
use Rattle.hm_history.proofs.Updates.{here_at}
use Rattle.hm_history.proofs.Pages.{bytes_length, reads_not_empty}

-- answers are by plain bytes
pub same_bytes_self : (xs : List ℕ) → same_bytes xs xs ≡ true
same_bytes_self [] = refl
same_bytes_self (x ∷ xs) = grind (arith, nat_tests, same_bytes_self xs)

read_cause : (s : Plain) (p v : ℕ) → s.there p ≡ true → is_some (rights_of s p v) ≡ true → cause_at s (Who.Cpu p) v false ≡ None
read_cause s p v t r = grind (arith, nat_tests)

write_cause : (s : Plain) (p v : ℕ) → s.there p ≡ true → is_read_write (rights_of s p v) ≡ true → cause_at s (Who.Cpu p) v true ≡ None
write_cause s p v t r = grind (arith, nat_tests)

writes_writable : (x : Place) → cpu_writes x ≡ true → writable x ≡ true
writes_writable x h = grind arith

loaded_answer : (s : Plain) (p at n : ℕ) → cause_at s (Who.Cpu p) (page_of at) false ≡ None → plain_accepts s (Kind.Loaded (Who.Cpu p) at (plain_bytes s (Who.Cpu p) at n)) ≡ true
loaded_answer s p at n z = and_from _ _ (ap is_none z) (subst (λ m. same_bytes (plain_bytes s (Who.Cpu p) at n) (plain_bytes s (Who.Cpu p) at m) ≡ true) (sym (bytes_length (s.bytes p) at n)) (same_bytes_self (plain_bytes s (Who.Cpu p) at n)))

pub load_piece_ok : (c : Program) (s : After) (t : Past) (a p at n k : ℕ) (xs : List Migrating) → a < 16 → Sound c s t → HoldsAll s t a (Is (has_piece (Op.Load p at n) k) ∷ nothing_held) → Good c s t a (Op.Load p at n) xs (Phase.Piece k) [] (due_cpu s (Op.Load p at n) k p)
load_piece_ok c s t a p at n k xs few so h = either P (s.plain.there p) _ _
    (λ th. either P (cpu_reads (s.places.place p (at_page o k))) _ _
    (λ r. ((release_none s a h.1.0, loaded_answer s.plain p (op_piece o k).0 (op_piece o k).1 (read_cause s.plain p (at_page o k) th (so.areas.in_area p (at_page o k) th (reads_not_empty (s.places.place p (at_page o k)) r))), r), tt, ends_ok o xs k (next s a (answer_of_piece s o k)) t a (here_at s.locks.map a None, h.1.1)))
    (λ r. rlock_ok c s t a o xs (Phase.Piece k) p few so h.1.0 (h.0, ((tt, here_at s.locks.map a _), h.1.1))))
    (λ th. ((release_none s a h.1.0, not_there s.plain p _ th), not_short c s Cause.Unmapped refl, ends_ok o xs k (next s a (failed o k Cause.Unmapped)) t a (here_at s.locks.map a None, h.1.1)))
  where
    o : Op
    o = Op.Load p at n

    P : Next → Type 0
    P = Good c s t a (Op.Load p at n) xs (Phase.Piece k) []

pub store_piece_ok : (c : Program) (s : After) (t : Past) (a p at : ℕ) (bs : List ℕ) (k : ℕ) (xs : List Migrating) → a < 16 → length bs ≤ 256 → Sound c s t → HoldsAll s t a (Is (has_piece (Op.Store p at bs) k) ∷ nothing_held) → Good c s t a (Op.Store p at bs) xs (Phase.Piece k) [] (due_cpu s (Op.Store p at bs) k p)
store_piece_ok c s t a p at bs k xs few short so h = either P (s.plain.there p) _ _
    (λ th. either P (cpu_writes (s.places.place p (at_page o k))) _ _
    (λ r. ((release_none s a h.1.0, ap is_none (write_cause s.plain p (at_page o k) th (so.areas.may_write p (at_page o k) (writes_writable (s.places.place p (at_page o k)) r)).1), r, store_in_page p at bs k short), tt, ends_ok o xs k (next s a (answer_of_piece s o k)) t a (here_at s.locks.map a None, h.1.1)))
    (λ r. rlock_ok c s t a o xs (Phase.Piece k) p few so h.1.0 (h.0, ((tt, here_at s.locks.map a _), h.1.1))))
    (λ th. ((release_none s a h.1.0, not_there s.plain p _ th), not_short c s Cause.Unmapped refl, ends_ok o xs k (next s a (failed o k Cause.Unmapped)) t a (here_at s.locks.map a None, h.1.1)))
  where
    o : Op
    o = Op.Store p at bs

    P : Next → Type 0
    P = Good c s t a (Op.Store p at bs) xs (Phase.Piece k) []
