-- Additions to a byte of a page that the actor has alone: the byte is fetched, and what is added comes in its place.
use Rattle.std.proofs.Common.{◌≡◌, ℕ, ◌<◌, Bool, true, false, ◌==◌, ◌&&◌, is_none, is_some, Option, Some, None, List, [], ◌∷◌, refl, sym, ap, ◌∙◌, subst, arith}
use Rattle.std.proofs.lemmas.Bool.Decides.{nat_tests}
use Rattle.std.proofs.lemmas.Bool.{and_parts, and_from}
use Rattle.hm_base.specs.Pages.{one_page, covers}
use Rattle.hm_base.specs.Program.{Program}
use Rattle.hm_base.specs.declared.cause.Cause.{Cause}
use Rattle.hm_base.specs.declared.Frame.{Frame}
use Rattle.hm_base.specs.declared.Place.{Place}
use Rattle.hm_base.specs.declared.ops.Op.{Op}
use Rattle.hm_history.specs.Memory.Words.{sys_frame, writable, page_of}
use Rattle.hm_history.specs.Memory.Plain.{MirrorState, rights_of, is_read_write, is_attached_state, mirror_passes, is_attached, in_window, mirror_proc, mirror_owner, owned, cause_at, plain_bytes}
use Rattle.hm_history.proofs.Owners.{owned_from}
use Rattle.hm_history.specs.Memory.Places.{TableEntry, entry_passes, table_sole, is_sole, is_exclusive_by, is_exclusive_of, same_target}
use Rattle.hm_history.specs.Memory.After.{After}
use Rattle.hm_history.specs.Kernel.Due.{has_exclusive, due_add, due_fetched, failed}
use Rattle.hm_history.specs.declared.Who.{Who}
use Rattle.hm_history.specs.declared.Kind.{Kind}
use Rattle.hm_history.specs.declared.TableRight.{TableRight}
use Rattle.hm_history.specs.declared.phases.Migrating.{Migrating}
use Rattle.hm_history.specs.declared.phases.Phase.{Phase}
use Rattle.hm_history.specs.declared.phases.Next.{Next}
use Rattle.hm_laws.specs.Stood.{FitsSole, Matches}
use Rattle.hm_laws.specs.Past.{Past}
use Rattle.hm_laws.specs.Sound.{Entered, Sound}
use Rattle.hm_laws.specs.Allowed.{next, Allowed}
use Rattle.hm_laws.specs.Facts.{Is, Fetched_at, Within, Holds, has_piece, nothing_held, HoldsAll}
use Rattle.hm_laws.proofs.Other.Lookups.{within_some}
use Rattle.hm_laws.proofs.State.TableEntries.{entry_of, passes_is, write_says}
use Rattle.hm_laws.proofs.Due.Good.{Good, either, release_none, rlock_ok, ends_ok, outside, not_short}
use Rattle.hm_laws.proofs.Due.Access.{same_bytes_self}
use Rattle.hm_laws.proofs.Due.MirrorPieces.{window_within, within_window}
use Rattle.hm_laws.proofs.Due.Guards.{number_is}
use Rattle.hm_history.proofs.Updates.{here_at}
use Rattle.hm_history.proofs.Tests.{some_none, true_false}

-- what it is to have a page alone
record HasAlone (s : After) (a m v : ℕ) : Type 0 where
  window : in_window s.plain m (one_page v) ≡ true
  some : is_some (s.plain.mirrors m) ≡ true
  cause : cause_at s.plain (Who.Mirror m) v true ≡ None
  table : owned (mirror_owner s.plain m) (λ p. table_sole s.places a m p v) ≡ true

sole_is : (r : TableRight) → is_sole r ≡ true → r ≡ TableRight.Sole
sole_is TableRight.Read h = cc
sole_is TableRight.Write h = cc
sole_is TableRight.Sole h = refl

same_itself : (n : ℕ) → same_target (Some (sys_frame n)) (Some (sys_frame n)) ≡ true
same_itself n = grind (arith, nat_tests)

-- the place is the actor's, and what the table entry names
its_place : (x : Place) (a : ℕ) (target : Option Frame) → FitsSole target x → is_exclusive_by x a ≡ true → (writable x ≡ true) × (is_exclusive_of x a target ≡ true)
its_place Place.Empty a target f h = absurd f
its_place Place.Zero a target f h = absurd f
its_place (Place.Sys n w) a target f h = absurd f
its_place (Place.Own d n w) a target f h = absurd f
its_place (Place.Moving g w) a target f h = absurd f
its_place (Place.Exclusive n b) a target f h = (refl, and_from (a == b) (same_target (Some (sys_frame n)) target) h (subst (λ i. same_target (Some (sys_frame n)) i ≡ true) (sym f) (same_itself n)))

alone_says : (c : Program) (s : After) (t : Past) (a m v : ℕ) → Sound c s t → has_exclusive s a m v ≡ true → HasAlone s a m v
alone_says c s t a m v so h = of (entry_of (λ x. is_sole x.right) (s.places.table m v) (and_parts (entry_passes (λ x. is_sole x.right) (s.places.table m v)) _ h).0)
  where
    mine : is_exclusive_by (s.places.place (mirror_proc s.plain m) v) a ≡ true
    mine = (and_parts (entry_passes (λ x. is_sole x.right) (s.places.table m v)) _ h).1

    of : (e : TableEntry) × (s.places.table m v ≡ Some e) × (is_sole e.right ≡ true) → HasAlone s a m v
    of e = by (s.plain.mirrors m) refl
      where
        attached : is_attached s.plain m ≡ true
        attached = at (is_attached s.plain m) refl
          where
            at : (b : Bool) → is_attached s.plain m ≡ b → b ≡ true
            at true k = refl
            at false k = absurd (some_none (s.places.table m v) e.0 e.1 (so.tables.unattached m v k))

        by : (x : Option MirrorState) → s.plain.mirrors m ≡ x → HasAlone s a m v
        by None ex = absurd (true_false (is_attached s.plain m) attached (ap (mirror_passes is_attached_state) ex))
        by (Some x) ex = record {
          window = window;
          some = ap is_some ex;
          cause = write_says s.plain m v window rights.0 rights.1;
          table = owned_from s.plain m (λ p. table_sole s.places a m p v) (ap is_some ex) (passes_is (λ i. is_sole i.right && is_exclusive_of (s.places.place (mirror_proc s.plain m) v) a i.target) (s.places.table m v) e.0 e.1 (and_from (is_sole e.0.right) _ e.2 place.1));
        }
          where
            proc : x.proc ≡ mirror_proc s.plain m
            proc = sym (ap (λ (y : Option MirrorState). elim y [ None ↦ 0 | Some z ↦ z.proc ]) ex)

            entered : Entered s.places.committed_to x e.0 v (s.places.place x.proc v)
            entered = so.tables.entered m v e.0 x e.1 ex

            fits : FitsSole e.0.target (s.places.place (mirror_proc s.plain m) v)
            fits = subst (λ p. FitsSole e.0.target (s.places.place p v)) proc (subst (λ r. Matches s.places.committed_to e.0.target r (s.places.place x.proc v)) (sole_is e.0.right e.2) entered.matches)

            place : (writable (s.places.place (mirror_proc s.plain m) v) ≡ true) × (is_exclusive_of (s.places.place (mirror_proc s.plain m) v) a e.0.target ≡ true)
            place = its_place (s.places.place (mirror_proc s.plain m) v) a e.0.target fits mine

            rights : (s.plain.there (mirror_proc s.plain m) ≡ true) × (is_read_write (rights_of s.plain (mirror_proc s.plain m) v) ≡ true)
            rights = so.areas.may_write (mirror_proc s.plain m) v place.0

            window : in_window s.plain m (one_page v) ≡ true
            window = within_window s.plain m v attached (ap (mirror_passes (λ y. covers y.window v)) ex ∙ entered.in_window)

-- the byte is fetched
fetch_ok : (c : Program) (s : After) (t : Past) (a m at n : ℕ) → Sound c s t → has_exclusive s a m (page_of at) ≡ true → Allowed c s t a (Kind.Fetched m at (plain_bytes s.plain (Who.Mirror m) at 1)) × Holds s t a (Fetched_at m at (s.plain.bytes (mirror_proc s.plain m) at))
fetch_ok c s t a m at n so h = ((and_from _ _ (ap is_none k.cause) (same_bytes_self (plain_bytes s.plain (Who.Mirror m) at 1)), k.table), (k.some, λ e. refl))
  where
    k : HasAlone s a m (page_of at)
    k = alone_says c s t a m (page_of at) so h

pub add_piece_ok : (c : Program) (s : After) (t : Past) (a m at n k : ℕ) (xs : List Migrating) → a < 16 → Sound c s t → HoldsAll s t a (Is (has_piece (Op.Add m at n) k) ∷ nothing_held) → Good c s t a (Op.Add m at n) xs (Phase.Piece k) [] (due_add s a (Op.Add m at n) m at)
add_piece_ok c s t a m at n k xs few so h = either P (in_window s.plain m (one_page (page_of at))) _ _
    (λ w. either P (has_exclusive s a m (page_of at)) _ _
    (λ e. let z = fetch_ok c s t a m at n so e in (z.0, tt, (refl, (z.1, h.1))))
    (λ e. let inside : Within s.plain m (page_of at) = window_within s.plain m (page_of at) w in rlock_ok c s t a o xs (Phase.Piece k) (mirror_proc s.plain m) few so h.1.0 ((refl, inside), ((within_some (s.plain.mirrors m) _ inside, here_at s.locks.map a _), h.1.1))))
    (λ w. ((release_none s a h.1.0, outside s.plain m (page_of at) w), not_short c s Cause.Outside refl, ends_ok o xs k (next s a (failed o 0 Cause.Outside)) t a (here_at s.locks.map a None, h.1.1)))
  where
    o : Op
    o = Op.Add m at n

    P : Next → Type 0
    P = Good c s t a (Op.Add m at n) xs (Phase.Piece k) []

-- what is added comes in its place, if the page is still the actor's alone
pub add_fetched_ok : (c : Program) (s : After) (t : Past) (a m at n was : ℕ) (xs : List Migrating) → a < 16 → Sound c s t → HoldsAll s t a (Is true ∷ Fetched_at m at was ∷ nothing_held) → Good c s t a (Op.Add m at n) xs (Phase.Fetched was) [] (due_fetched s a (Op.Add m at n) was)
add_fetched_ok c s t a m at n was xs few so h = either P (has_exclusive s a m (page_of at)) _ _
    (λ e. let k : HasAlone s a m (page_of at) = alone_says c s t a m (page_of at) so e in
    ((and_from _ _ (ap is_none k.cause) (number_is was _ (sym (h.1.0.1 (and_parts (entry_passes (λ x. is_sole x.right) (s.places.table m (page_of at))) _ e).1))), k.table), tt, h.1.1))
    (λ none. either P (in_window s.plain m (one_page (page_of at))) _ _
    (λ w. either P (has_exclusive s a m (page_of at)) _ _
    (λ e. let z = fetch_ok c s t a m at n so e in (z.0, tt, (refl, (z.1, h.1.1))))
    (λ e. let inside : Within s.plain m (page_of at) = window_within s.plain m (page_of at) w in rlock_ok c s t a o xs (Phase.Fetched was) (mirror_proc s.plain m) few so h.1.1.0 ((refl, inside), ((within_some (s.plain.mirrors m) _ inside, here_at s.locks.map a _), h.1.1.1))))
    (λ w. ((release_none s a h.1.1.0, outside s.plain m (page_of at) w), not_short c s Cause.Outside refl, ends_ok o xs 0 (next s a (failed o 0 Cause.Outside)) t a (here_at s.locks.map a None, h.1.1.1))))
  where
    o : Op
    o = Op.Add m at n

    P : Next → Type 0
    P = Good c s t a (Op.Add m at n) xs (Phase.Fetched was) []
