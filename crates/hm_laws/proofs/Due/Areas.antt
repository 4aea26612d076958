-- Maps, unmaps, protections and exits under the write lock.
use Rattle.std.proofs.Common.{◌≡◌, ℕ, ◌^◌, ◌<◌, ◌≤◌, Bool, true, false, nat_lt, nat_le, if◌then◌else◌, not, is_some, Option, Some, None, List, [], ◌∷◌, refl, ap, arith, length}
use Rattle.std.proofs.lemmas.Bool.Decides.{nat_tests}
use Rattle.std.proofs.lemmas.Bool.{and_from}
use Rattle.hm_base.specs.Pages.{Pages, covers}
use Rattle.hm_base.specs.Areas.{last_of, without, with_rights, meets, rights_at}
use Rattle.hm_base.specs.Program.{Program}
use Rattle.hm_base.specs.declared.cause.Cause.{Cause}
use Rattle.hm_base.specs.declared.ops.Rights.{Rights}
use Rattle.hm_base.specs.declared.ops.Op.{Op}
use Rattle.hm_history.specs.Memory.Words.{is_empty_place}
use Rattle.hm_history.specs.Memory.Plain.{Plain, area_refusal}
use Rattle.hm_history.specs.Memory.Rules.{wants_frame}
use Rattle.hm_history.specs.Memory.Sequences.{seq_started}
use Rattle.hm_history.specs.Memory.After.{After}
use Rattle.hm_history.specs.declared.Kind.{Kind}
use Rattle.hm_laws.specs.Past.{Past}
use Rattle.hm_laws.specs.Sound.{Sound}
use Rattle.hm_laws.specs.Allowed.{Clean, WritesThere, SequencesOk}
use Rattle.hm_laws.specs.Facts.{Fact, Is, Writes, No_guard, Locks_only, EmptyBelow, NarrowBelow, takes_lock, nothing_held, HoldsAll}
use Rattle.hm_history.specs.Kernel.Due.{proc_of_op}
use Rattle.hm_base.specs.Pages.{all_pages}
use Rattle.hm_history.specs.Memory.Plain.{all_mapped}
use Rattle.hm_history.specs.Kernel.Due.{start_entry, under_wlock, due_locked, due_areas}
use Rattle.hm_history.specs.declared.phases.Migrating.{Migrating}
use Rattle.hm_history.specs.declared.phases.Phase.{Phase}
use Rattle.hm_history.specs.declared.phases.Next.TheVariants.{Do}
use Rattle.hm_laws.proofs.Due.Good.{Good, either, either_option, release_none, release_clean, wlock_ok, not_short}
use Rattle.hm_laws.proofs.Due.Guards.{started, start_takes}
use Rattle.hm_laws.proofs.Kept.AreaCuts.{rights_none}
use Rattle.hm_history.proofs.Updates.{here_at}
use Rattle.hm_history.proofs.Tests.{true_false}
use Rattle.hm_laws.proofs.State.AllowedAccepts.{is_none_of}

-- the first turns
pub begin_ok : (c : Program) (s : After) (t : Past) (a : ℕ) (o : Op) (xs : List Migrating) → a < 16 → Sound c s t → HoldsAll s t a (Is (takes_lock o) ∷ nothing_held) → Good c s t a o xs Phase.Begin [] (under_wlock s a (proc_of_op o))
begin_ok c s t a o xs few so h = either (Good c s t a o xs Phase.Begin []) (s.plain.there (proc_of_op o)) _ _
    (λ th. wlock_ok c s t a o xs few so h th)
    (λ th. (release_none s a h.1.0, not_short c s Cause.NoProcess refl, (here_at s.locks.map a None, h.1.1)))

refusal_short : (s : Plain) (o : Op) (why : Cause) → area_refusal s o ≡ Some why → wants_frame why ≡ false
refusal_short s (Op.Map p r w) why e = by (meets r (s.areas p)) (nat_lt (length (s.areas p)) 64) e
  where
    by : (b d : Bool) → ◌≡◌ {A = Option Cause} (if b then Some Cause.Overlap else if d then None else Some Cause.TooManyAreas) (Some why) → wants_frame why ≡ false
    by true d k = grind arith
    by false true k = cc
    by false false k = grind arith
refusal_short s (Op.Unmap p r) why e = by (nat_le (length (without r (s.areas p))) 64) e
  where
    by : (b : Bool) → ◌≡◌ {A = Option Cause} (if b then None else Some Cause.TooManyAreas) (Some why) → wants_frame why ≡ false
    by true k = cc
    by false k = grind arith
refusal_short s (Op.Protect p r w) why e = by (all_mapped r (s.areas p)) (nat_le (length (with_rights r w (s.areas p))) 64) e
  where
    by : (b d : Bool) → ◌≡◌ {A = Option Cause} (if not b then Some Cause.Unmapped else if d then None else Some Cause.TooManyAreas) (Some why) → wants_frame why ≡ false
    by false d k = grind arith
    by true true k = cc
    by true false k = grind arith
refusal_short s o why e = cc

abbrev pub locked : Op → List Fact
locked o = No_guard ∷ Locks_only [] ∷ Is (takes_lock o) ∷ Writes (proc_of_op o) ∷ []

pub locked_ok : (c : Program) (s : After) (t : Past) (a : ℕ) (o : Op) (xs : List Migrating) → Sound c s t → HoldsAll s t a (locked o) → (area_refusal s.plain o ≡ None → Good c s t a o xs Phase.Locked [] (Do (due_areas s o))) → Good c s t a o xs Phase.Locked [] (Do (due_locked s o))
locked_ok c s t a o xs so h go = either P (s.plain.there (proc_of_op o)) _ _
    (λ th. either_option P (area_refusal s.plain o) _ _ go (λ why e. (release_clean s a (proc_of_op o) h.1.1.1.0.0 h.1.1.1.0.1, not_short c s why (refusal_short s.plain o why e), (here_at s.locks.map a None, (h.0, (h.1.0, tt))))))
    (λ th. absurd (true_false (s.plain.there (proc_of_op o)) h.1.1.1.0.0.1 th))
  where
    P : Kind → Type 0
    P = λ k. Good c s t a o xs Phase.Locked [] (Do k)

pub map_ok : (c : Program) (s : After) (t : Past) (a p : ℕ) (r : Pages) (w : Rights) (xs : List Migrating) → (1 ≤ r.count) × (last_of r ≤ 2 ^ 36) → HoldsAll s t a (locked (Op.Map p r w)) → area_refusal s.plain (Op.Map p r w) ≡ None → Good c s t a (Op.Map p r w) xs Phase.Locked [] (Do (Kind.Mapped p r w))
map_ok c s t a p r w xs l h e = ((h.1.1.1.0.0, h.1.1.1.0.1, and_from (s.plain.there p) _ h.1.1.1.0.0.1 (is_none_of (area_refusal s.plain (Op.Map p r w)) e), l.1), l.0, (here_at s.locks.map a None, (h.0, (h.1.0, tt))))

-- a guard opens
pub start_of : (s : After) (t : Past) (a : ℕ) (o : Op) → a < 16 → HoldsAll s t a (locked o) → (p : ℕ) (r : Pages) → (a < 16) × SequencesOk s a (start_entry s p r)
start_of s t a o few h p r = (few, start_takes s a p r h.0)

unmapped_pages : (c : Program) (s : After) (t : Past) (a p v : ℕ) (r : Pages) → Sound c s t → s.plain.there p ≡ true → meets r (s.plain.areas p) ≡ false → covers r v ≡ true → is_empty_place (s.places.place p v) ≡ true
unmapped_pages c s t a p v r so th m cv = by (is_empty_place (s.places.place p v)) refl
  where
    by : (b : Bool) → is_empty_place (s.places.place p v) ≡ b → b ≡ true
    by true e = refl
    by false e = absurd (true_false (is_some (rights_at (s.plain.areas p) v)) (so.areas.in_area p v th e) (ap is_some (rights_none (s.plain.areas p) r v m cv)))

none_below : (s : After) (p : ℕ) (r : Pages) → EmptyBelow s p r r.first
none_below s p r u cv l = absurd (outside u cv l)
  where
    outside : (u : ℕ) → covers r u ≡ true → u < r.first → ⊥
    outside u cv l = grind (arith, nat_tests)

none_narrow : (s : After) (p : ℕ) (r : Pages) → NarrowBelow s p r r.first
none_narrow s p r u cv l = absurd (outside u cv l)
  where
    outside : (u : ℕ) → covers r u ≡ true → u < r.first → ⊥
    outside u cv l = grind (arith, nat_tests)

pub least_first : (n : ℕ) → nat_le n n ≡ true
least_first n = grind (arith, nat_tests)

pub unmap_ok : (c : Program) (s : After) (t : Past) (a p : ℕ) (r : Pages) (xs : List Migrating) → a < 16 → Sound c s t → HoldsAll s t a (locked (Op.Unmap p r)) → area_refusal s.plain (Op.Unmap p r) ≡ None → Good c s t a (Op.Unmap p r) xs Phase.Locked [] (Do (due_areas s (Op.Unmap p r)))
unmap_ok c s t a p r xs few so h e = either P (meets r (s.plain.areas p)) _ _
    (λ m. (start_of s t a (Op.Unmap p r) few h p r, tt, (started s a p r (seq_started s.sequences p r), (h.1.0, ((refl, refl), (refl, (least_first r.first, ((w, e), ((w, (λ x cv. cl x), none_below s p r), tt)))))))))
    (λ m. ((w, (λ x cv. cl x), (λ v cv. unmapped_pages c s t a p v r so w.1 m cv), and_from (s.plain.there p) _ w.1 (is_none_of (area_refusal s.plain (Op.Unmap p r)) e)), tt, (here_at s.locks.map a None, (h.0, (h.1.0, tt)))))
  where
    P : Kind → Type 0
    P = λ k. Good c s t a (Op.Unmap p r) xs Phase.Locked [] (Do k)

    w : WritesThere s a p
    w = h.1.1.1.0.0

    cl : Clean s p
    cl = h.1.1.1.0.1

pub protect_ok : (c : Program) (s : After) (t : Past) (a p : ℕ) (r : Pages) (w : Rights) (xs : List Migrating) → a < 16 → HoldsAll s t a (locked (Op.Protect p r w)) → area_refusal s.plain (Op.Protect p r w) ≡ None → Good c s t a (Op.Protect p r w) xs Phase.Locked [] (Do (start_entry s p r))
protect_ok c s t a p r Rights.Read xs few h e = (start_of s t a (Op.Protect p r Rights.Read) few h p r, tt, (started s a p r (seq_started s.sequences p r), (h.1.0, ((refl, refl), (refl, (least_first r.first, ((h.1.1.1.0.0, e), ((h.1.1.1.0.0, h.1.1.1.0.1, none_narrow s p r), tt))))))))
protect_ok c s t a p r Rights.ReadWrite xs few h e = (start_of s t a (Op.Protect p r Rights.ReadWrite) few h p r, tt, (started s a p r (seq_started s.sequences p r), (h.1.0, ((refl, refl), (refl, ((h.1.1.1.0.0, e), (h.1.1.1.0, tt)))))))

pub exit_ok : (c : Program) (s : After) (t : Past) (a p : ℕ) (xs : List Migrating) → a < 16 → HoldsAll s t a (locked (Op.Exit p)) → area_refusal s.plain (Op.Exit p) ≡ None → Good c s t a (Op.Exit p) xs Phase.Locked [] (Do (start_entry s p all_pages))
exit_ok c s t a p xs few h e = (start_of s t a (Op.Exit p) few h p all_pages, tt, (started s a p all_pages (seq_started s.sequences p all_pages), (h.1.0, ((refl, refl), (refl, (refl, ((h.1.1.1.0.0, e), ((h.1.1.1.0.0, (λ x cv. h.1.1.1.0.1 x), none_below s p all_pages), tt))))))))
