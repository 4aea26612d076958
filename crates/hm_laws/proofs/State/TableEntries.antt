-- What a mirror's table entry says of the page.
use Rattle.std.proofs.Common.{◌≡◌, ℕ, Bool, true, false, ◌&&◌, not, is_none, is_some, Option, Some, None, refl, sym, ap, subst, arith, unwrap_or}
use Rattle.std.proofs.lemmas.Bool.Decides.{nat_tests}
use Rattle.std.proofs.lemmas.Bool.{and_from}
use Rattle.hm_base.specs.Pages.{one_page}
use Rattle.hm_base.specs.Program.{Program}
use Rattle.hm_base.specs.declared.Frame.{Frame}
use Rattle.hm_base.specs.declared.Place.{Place}
use Rattle.hm_history.specs.Memory.Words.{sys_frame, dev_frame, writable, is_empty_place, same_bytes, page_of}
use Rattle.hm_history.specs.Memory.Plain.{MirrorState, Plain, rights_of, is_read_write, in_window, mirror_passes, is_attached_state, mirror_proc, plain_bytes, plain_accepts, cause_at}
use Rattle.hm_history.specs.Memory.Places.{TableEntry, Places, may_read, may_write, entry_passes, table_reads, table_writes, is_target, same_target, stands_for, is_exclusive}
use Rattle.hm_history.specs.Memory.After.{After}
use Rattle.hm_history.specs.declared.TableRight.{TableRight}
use Rattle.hm_history.specs.declared.Who.{Who}
use Rattle.hm_history.specs.declared.Kind.{Kind}
use Rattle.hm_laws.specs.Stood.{Fits, Matches}
use Rattle.hm_laws.specs.Past.{Past}
use Rattle.hm_laws.specs.Sound.{Sound}
use Rattle.hm_laws.proofs.Due.Access.{same_bytes_self}
use Rattle.hm_history.proofs.Pages.{bytes_length}
use Rattle.hm_history.proofs.Tests.{some_none, true_false}
use Rattle.hm_history.proofs.Frames.{frame_tells}

pub entry_of : (test : TableEntry → Bool) (x : Option TableEntry) → entry_passes test x ≡ true → (e : TableEntry) × (x ≡ Some e) × (test e ≡ true)
entry_of test None h = cc
entry_of test (Some e) h = (e, refl, h)

pub allows_write : (r : TableRight) → may_write r ≡ true → may_read r ≡ true
allows_write TableRight.Read h = cc
allows_write TableRight.Write h = refl
allows_write TableRight.Sole h = cc

-- what fits a place
pub record FitSays (s : Places) (t : Option Frame) (w : Bool) (x : Place) : Type 0 where
  pub target : is_target (stands_for s x) t ≡ true
  pub shared : is_exclusive x ≡ false
  pub used : is_empty_place x ≡ false
  pub right : w ≡ true → writable x ≡ true

same_itself : (t : Option Frame) → same_target t t ≡ true
same_itself None = refl
same_itself (Some f) = grind (arith, frame_tells f f)

fit_says : (s : Places) (t : Option Frame) (w : Bool) (x : Place) → Fits s.committed_to t w x → FitSays s t w x
fit_says s t w Place.Empty h = absurd h
fit_says s t w Place.Zero h = record { target = subst (λ y. same_target None y ≡ true) (sym h.0) refl; shared = refl; used = refl; right = λ e. absurd (true_false w e h.1) }
fit_says s t w (Place.Sys n z) h = record { target = subst (λ y. same_target (Some (sys_frame n)) y ≡ true) (sym h.0) (same_itself (Some (sys_frame n))); shared = refl; used = refl; right = h.1 }
fit_says s t w (Place.Own d n z) h = record { target = subst (λ y. same_target (Some (dev_frame d n)) y ≡ true) (sym h.0) (same_itself (Some (dev_frame d n))); shared = refl; used = refl; right = h.1 }
fit_says s t w (Place.Moving f z) h = record { target = by (s.committed_to f) t h.0 h.1; shared = refl; used = refl; right = h.2 }
  where
    by : (y t : Option Frame) → y ≡ t → is_some t ≡ true → same_target (Some (unwrap_or y f)) t ≡ true
    by y None e k = cc
    by y (Some g) e k = subst (λ i. same_target (Some (unwrap_or i f)) (Some g) ≡ true) (sym e) (same_itself (Some g))
fit_says s t w (Place.Exclusive n b) h = absurd h

match_says : (s : Places) (t : Option Frame) (r : TableRight) (x : Place) → may_read r ≡ true → Matches s.committed_to t r x → FitSays s t (may_write r) x
match_says s t TableRight.Read x h m = fit_says s t false x m
match_says s t TableRight.Write x h m = fit_says s t true x m
match_says s t TableRight.Sole x h m = cc

-- a usable entry: the access goes through, and the page is its process's
pub record TableSays (s : After) (m v : ℕ) (e : TableEntry) : Type 0 where
  pub some : is_some (s.plain.mirrors m) ≡ true
  pub there : s.plain.there (mirror_proc s.plain m) ≡ true
  pub rights : is_some (rights_of s.plain (mirror_proc s.plain m) v) ≡ true
  pub reads : table_reads s.places m (mirror_proc s.plain m) v ≡ true
  pub writes : may_write e.right ≡ true → table_writes s.places m (mirror_proc s.plain m) v ≡ true
  pub right : may_write e.right ≡ true → writable (s.places.place (mirror_proc s.plain m) v) ≡ true

pub passes_is : (test : TableEntry → Bool) (x : Option TableEntry) (e : TableEntry) → x ≡ Some e → test e ≡ true → entry_passes test x ≡ true
passes_is test x e i h = rw i h

pub table_says : (c : Program) (s : After) (t : Past) (m v : ℕ) (e : TableEntry) → Sound c s t → s.places.table m v ≡ Some e → may_read e.right ≡ true → TableSays s m v e
table_says c s t m v e so i h = by (s.plain.mirrors m) refl
  where
    by : (x : Option MirrorState) → s.plain.mirrors m ≡ x → TableSays s m v e
    by None ex = absurd (some_none (s.places.table m v) e i (so.tables.unattached m v (ap (mirror_passes is_attached_state) ex)))
    by (Some x) ex = record {
      some = ap is_some ex;
      there = there;
      rights = so.areas.in_area (mirror_proc s.plain m) v there fit.used;
      reads = reads;
      writes = λ w. and_from (table_reads s.places m (mirror_proc s.plain m) v) _ reads (and_from (entry_passes (λ x. may_write x.right) (s.places.table m v)) _ (passes_is (λ x. may_write x.right) (s.places.table m v) e i w) (fit.right w));
      right = fit.right;
    }
      where
        proc : x.proc ≡ mirror_proc s.plain m
        proc = sym (ap (λ (y : Option MirrorState). elim y [ None ↦ 0 | Some z ↦ z.proc ]) ex)

        fit : FitSays s.places e.target (may_write e.right) (s.places.place (mirror_proc s.plain m) v)
        fit = subst (λ p. FitSays s.places e.target (may_write e.right) (s.places.place p v)) proc (match_says s.places e.target e.right (s.places.place x.proc v) h (so.tables.entered m v e x i ex).matches)

        there : s.plain.there (mirror_proc s.plain m) ≡ true
        there = at (s.plain.there (mirror_proc s.plain m)) refl
          where
            at : (b : Bool) → s.plain.there (mirror_proc s.plain m) ≡ b → b ≡ true
            at true k = refl
            at false k = absurd (true_false (is_empty_place (s.places.place (mirror_proc s.plain m) v)) (so.areas.absent (mirror_proc s.plain m) v k (subst (λ p. s.plain.been p ≡ true) proc (so.arrivals.of_been m x ex))) fit.used)

        reads : table_reads s.places m (mirror_proc s.plain m) v ≡ true
        reads = passes_is (λ x. may_read x.right && (is_target (stands_for s.places (s.places.place (mirror_proc s.plain m) v)) x.target && not (is_exclusive (s.places.place (mirror_proc s.plain m) v)))) (s.places.table m v) e i
            (and_from (may_read e.right) _ h (and_from (is_target (stands_for s.places (s.places.place (mirror_proc s.plain m) v)) e.target) _ fit.target (ap not fit.shared)))

read_says : (s : Plain) (m v : ℕ) → in_window s m (one_page v) ≡ true → s.there (mirror_proc s m) ≡ true → is_some (rights_of s (mirror_proc s m) v) ≡ true → cause_at s (Who.Mirror m) v false ≡ None
read_says s m v w th r = grind (arith, nat_tests)

pub write_says : (s : Plain) (m v : ℕ) → in_window s m (one_page v) ≡ true → s.there (mirror_proc s m) ≡ true → is_read_write (rights_of s (mirror_proc s m) v) ≡ true → cause_at s (Who.Mirror m) v true ≡ None
write_says s m v w th r = grind (arith, nat_tests)

pub read_cause : (s : After) (m v : ℕ) (e : TableEntry) → in_window s.plain m (one_page v) ≡ true → TableSays s m v e → cause_at s.plain (Who.Mirror m) v false ≡ None
read_cause s m v e w h = read_says s.plain m v w h.there h.rights

pub write_cause : (c : Program) (s : After) (t : Past) (m v : ℕ) (e : TableEntry) → Sound c s t → in_window s.plain m (one_page v) ≡ true → TableSays s m v e → may_write e.right ≡ true → cause_at s.plain (Who.Mirror m) v true ≡ None
write_cause c s t m v e so w h k = write_says s.plain m v w h.there (so.areas.may_write (mirror_proc s.plain m) v (h.right k)).1

pub loaded_bytes : (s : After) (m at n : ℕ) → cause_at s.plain (Who.Mirror m) (page_of at) false ≡ None → plain_accepts s.plain (Kind.Loaded (Who.Mirror m) at (plain_bytes s.plain (Who.Mirror m) at n)) ≡ true
loaded_bytes s m at n z = and_from _ _ (ap is_none z) (subst (λ i. same_bytes (plain_bytes s.plain (Who.Mirror m) at n) (plain_bytes s.plain (Who.Mirror m) at i) ≡ true) (sym (bytes_length (s.plain.bytes (mirror_proc s.plain m)) at n)) (same_bytes_self (plain_bytes s.plain (Who.Mirror m) at n)))
