-- The contents of pages after an entry.
use Rattle.std.proofs.Common.{subst, ◌≡◌, ◌≢◌, ℕ, ◌+◌, ◌*◌, ◌%◌, ◌<◌, ◌≤◌, ◌⊎◌, inl, inr, Bool, true, false, ◌&&◌, Option, Some, None, List, [], ◌∷◌, refl, sym, ap, ◌∙◌, arith, length, unwrap_or}
use Rattle.std.proofs.lemmas.Bool.Decides.{nat_tests}
use Rattle.hm_base.specs.Program.{Program}
use Rattle.hm_base.specs.declared.Frame.{Frame}
use Rattle.hm_base.specs.declared.Place.{Place}
use Rattle.hm_history.specs.Memory.Words.{with_at, same_frame, sys_frame, dev_frame, with_frame, names, moving_frame, writable, is_empty_place, page_of}
use Rattle.hm_history.specs.Memory.Plain.{with_bytes, written_for, proc_of, mirror_proc, owner, mirror_owner, owned}
use Rattle.hm_history.proofs.Owners.{owned_proc, owned_there, owner_is}
use Rattle.hm_history.specs.Memory.Places.{Places, TableEntry, with_place, cpu_writes, entry_passes, table_reads, table_writes, table_sole, may_write, is_sole, is_exclusive_of}
use Rattle.hm_history.specs.Memory.Contents.{zeros, backing, place_for, shown_by, with_piece, stored_in, with_part_copied}
use Rattle.hm_history.specs.Memory.After.{After}
use Rattle.hm_history.specs.declared.Who.{Who}
use Rattle.hm_history.specs.declared.Kind.{Kind}
use Rattle.hm_laws.specs.Stood.{stood}
use Rattle.hm_laws.specs.Past.{Past}
use Rattle.hm_laws.specs.Sound.{ContentsRules, Sound}
use Rattle.hm_laws.specs.Allowed.{next, PlacesOk, InPage, Allowed}
use Rattle.hm_laws.proofs.Kept.AreaCuts.{rights_none, no_meet}
use Rattle.hm_laws.proofs.Kept.Pools.{free_says}
use Rattle.hm_laws.proofs.Kept.Areas.{placed_cases}
use Rattle.hm_history.proofs.Frames.{frame_tells}

-- what a place stands for
pub backing_is : (t : Places) (x : Place) → backing t x ≡ stood t.committed_to x
backing_is t Place.Empty = refl
backing_is t Place.Zero = refl
backing_is t (Place.Sys n w) = refl
backing_is t (Place.Own d n w) = refl
backing_is t (Place.Moving f w) = refl
backing_is t (Place.Exclusive n b) = refl

pub stood_else : (to : Frame → Option Frame) (f : Frame) (y : Option Frame) (x : Place) → (names x ≡ Some f → ⊥) → stood (with_frame to f y) x ≡ stood to x
stood_else to f y Place.Empty n = refl
stood_else to f y Place.Zero n = refl
stood_else to f y (Place.Sys i w) n = refl
stood_else to f y (Place.Own d i w) n = refl
stood_else to f y (Place.Moving g w) n = grind (arith, frame_tells g f)
stood_else to f y (Place.Exclusive i b) n = refl

pub commit_cases : (to : Frame → Option Frame) (f g : Frame) (x : Place) → ((moving_frame x ≡ Some f) × (stood (with_frame to f (Some g)) x ≡ Some g)) ⊎ ((moving_frame x ≡ Some f → ⊥) × (stood (with_frame to f (Some g)) x ≡ stood to x))
commit_cases to f g Place.Empty = inr (λ e. cc, refl)
commit_cases to f g Place.Zero = inr (λ e. cc, refl)
commit_cases to f g (Place.Sys i w) = inr (λ e. cc, refl)
commit_cases to f g (Place.Own d i w) = inr (λ e. cc, refl)
commit_cases to f g (Place.Moving h w) = by (frame_tells h f)
  where
    by : ((same_frame h f ≡ true) × (h ≡ f)) ⊎ ((same_frame h f ≡ false) × (h ≢ f)) → ((Some h ≡ Some f) × (stood (with_frame to f (Some g)) (Place.Moving h w) ≡ Some g)) ⊎ ((Some h ≡ Some f → ⊥) × (stood (with_frame to f (Some g)) (Place.Moving h w) ≡ stood to (Place.Moving h w)))
    by (inl e) = inl (ap Some e.1, rw e.0 refl)
    by (inr e) = inr (λ k. e.1 (same k), rw e.0 refl)
      where
        same : Some h ≡ Some f → h ≡ f
        same k = cc
commit_cases to f g (Place.Exclusive i b) = inr (λ e. cc, refl)

pub writable_stands : (to : Frame → Option Frame) (x : Place) → writable x ≡ true → (f : Frame) × (stood to x ≡ Some f)
writable_stands to Place.Empty h = cc
writable_stands to Place.Zero h = cc
writable_stands to (Place.Sys n w) h = (sys_frame n, refl)
writable_stands to (Place.Own d n w) h = (dev_frame d n, refl)
writable_stands to (Place.Moving f w) h = (unwrap_or (to f) f, refl)
writable_stands to (Place.Exclusive n b) h = (sys_frame n, refl)

pub shown_else : (contents : Frame → ℕ → ℕ) (f : Frame) (y : ℕ → ℕ) (x : Option Frame) → (x ≡ Some f → ⊥) → shown_by (with_frame contents f y) x ≡ shown_by contents x
shown_else contents f y None n = refl
shown_else contents f y (Some g) n = grind (arith, frame_tells g f)

back : (x : ℕ) → page_of x * 4096 + x % 4096 ≡ x
back x = omega arith

pub same_page : (at n x : ℕ) → InPage at n → at ≤ x → x < at + n → page_of x ≡ page_of at
same_page at n x i l m = omega arith

-- a write through a page
pub written_to : (k : Kind) (a : ℕ) (c : Program) (s : After) → (p at : ℕ) (bs : List ℕ) → (x : Who) → p ≡ proc_of s.plain x → PlacesOk c s a (Kind.Stored x at bs) → writable (s.places.place p (page_of at)) ≡ true
written_to k a c s p at bs (Who.Cpu q) e h = can (s.places.place p (page_of at)) (rw e h)
  where
    can : (x : Place) → cpu_writes x ≡ true → writable x ≡ true
    can x h = grind arith
written_to k a c s p at bs (Who.Mirror m) e h = rw e (last (table_reads s.places m (mirror_proc s.plain m) (page_of at)) (entry_passes (λ x. may_write x.right) (s.places.table m (page_of at))) _ (owned_proc s.plain m (λ q. table_writes s.places m q (page_of at)) h))
  where
    last : (x y z : Bool) → (x && (y && z)) ≡ true → z ≡ true
    last x y z h = grind arith

-- who writes has a process
pub writer_is : (a : ℕ) (c : Program) (s : After) (at : ℕ) (bs : List ℕ) (x : Who) → PlacesOk c s a (Kind.Stored x at bs) → owner s.plain x ≡ Some (proc_of s.plain x)
writer_is a c s at bs (Who.Cpu p) h = refl
writer_is a c s at bs (Who.Mirror m) h = owner_is s.plain m (owned_there s.plain m (λ q. table_writes s.places m q (page_of at)) h)

-- who adds to a byte has a process, and the page alone
pub adder_is : (s : After) (a m at : ℕ) → owned (mirror_owner s.plain m) (λ p. table_sole s.places a m p (page_of at)) ≡ true → (mirror_owner s.plain m ≡ Some (mirror_proc s.plain m)) × (table_sole s.places a m (mirror_proc s.plain m) (page_of at) ≡ true)
adder_is s a m at h = (owner_is s.plain m (owned_there s.plain m (λ p. table_sole s.places a m p (page_of at)) h), owned_proc s.plain m (λ p. table_sole s.places a m p (page_of at)) h)

pub added_to : (s : After) (a m at : ℕ) → table_sole s.places a m (mirror_proc s.plain m) (page_of at) ≡ true → writable (s.places.place (mirror_proc s.plain m) (page_of at)) ≡ true
added_to s a m at h = by (s.places.table m (page_of at)) (s.places.place (mirror_proc s.plain m) (page_of at)) h
  where
    by : (e : Option TableEntry) (x : Place) → entry_passes (λ y. is_sole y.right && is_exclusive_of x a y.target) e ≡ true → writable x ≡ true
    by None x h = cc
    by (Some y) x h = grind arith

stored_reads : (c : Program) (s : After) (t : Past) → Sound c s t → (p at : ℕ) (bs : List ℕ) → InPage at (length bs) → writable (s.places.place p (page_of at)) ≡ true →
    ContentsRules s.plain.there (with_at s.plain.bytes p (with_bytes (s.plain.bytes p) at bs)) s.places.place s.places.committed_to (stored_in s.contents (backing s.places (s.places.place p (page_of at))) at bs)
stored_reads c s t so p at bs i w = let f : (f : Frame) × (stood s.places.committed_to (s.places.place p (page_of at)) ≡ Some f) = writable_stands s.places.committed_to (s.places.place p (page_of at)) w in record {
  reads = λ q x h n. rw (backing_is s.places (s.places.place p (page_of at)) ∙ f.1) (by f.0 f.1 q x h n (stood s.places.committed_to (s.places.place q (page_of x))) refl (so.reads.reads q x h n) (so.frames.alone p (page_of at) q (page_of x) f.0 w f.1));
}
  where
    by : (f : Frame) → stood s.places.committed_to (s.places.place p (page_of at)) ≡ Some f → (q x : ℕ) → s.plain.there q ≡ true → is_empty_place (s.places.place q (page_of x)) ≡ false → (y : Option Frame) → stood s.places.committed_to (s.places.place q (page_of x)) ≡ y →
        shown_by s.contents y (x % 4096) ≡ s.plain.bytes q x → (y ≡ Some f → (q ≡ p) × (page_of x ≡ page_of at)) → shown_by (with_frame s.contents f (with_piece (s.contents f) at bs)) y (x % 4096) ≡ with_at s.plain.bytes p (with_bytes (s.plain.bytes p) at bs) q x
    by f e q x h n None ey r al = grind (arith, nat_tests, same_page at (length bs) x i, ap (λ j. stood s.places.committed_to (s.places.place j (page_of x))) {x = q} {y = p})
    by f e q x h n (Some g) ey r al = grind (arith, nat_tests, same_page at (length bs) x i, frame_tells g f, back x)

-- frames show the plain bytes after a write for this process
abbrev WrittenFor : After → ℕ → List ℕ → Option ℕ → Type 0
WrittenFor s at bs p = ContentsRules s.plain.there (written_for s.plain.bytes p at bs) s.places.place s.places.committed_to (stored_in s.contents (backing s.places (place_for s.places p (page_of at))) at bs)

pub reads_kept : (c : Program) (s : After) (t : Past) (a : ℕ) → Sound c s t → (k : Kind) → Allowed c s t a k →
    ContentsRules (next s a k).plain.there (next s a k).plain.bytes (next s a k).places.place (next s a k).places.committed_to (next s a k).contents
reads_kept c s t a so (Kind.Mapped p r w) ok = record {
  reads = λ q x h n. grind (arith, nat_tests, so.reads.reads q x h n, so.areas.in_area q (page_of x) h n, rights_none (s.plain.areas p) r (page_of x) (no_meet s.plain p r w ok.2));
}
reads_kept c s t a so (Kind.Forked p d) ok = record {
  reads = λ q x h n. grind (arith, nat_tests, so.reads.reads q x, (ok.3 (page_of x)).contents x refl);
}
reads_kept c s t a so (Kind.Exited p) ok = record {
  reads = λ q x h n. so.reads.reads q x (grind (arith, nat_tests)) n;
}
reads_kept c s t a so (Kind.Stored x at bs) ok = subst (WrittenFor s at bs) (sym (writer_is a c s at bs x ok.2)) (stored_reads c s t so (proc_of s.plain x) at bs ok.3 (written_to (Kind.Stored x at bs) a c s (proc_of s.plain x) at bs x refl ok.2))
reads_kept c s t a so (Kind.Added m at was now) ok = let mine = adder_is s a m at ok.1 in subst (WrittenFor s at (now ∷ [])) (sym mine.0) (stored_reads c s t so (mirror_proc s.plain m) at (now ∷ []) (omega arith) (added_to s a m at mine.1))
reads_kept c s t a so (Kind.Take f) ok = record {
  reads = λ q x h n. ap (λ (g : ℕ → ℕ). g (x % 4096)) (ap (shown_by (with_frame s.contents f zeros)) (stood_else s.places.committed_to f None (s.places.place q (page_of x)) (unnamed q (page_of x))) ∙ shown_else s.contents f zeros (stood s.places.committed_to (s.places.place q (page_of x))) (unstood q (page_of x))) ∙ so.reads.reads q x h n;
}
  where
    unnamed : (q u : ℕ) → names (s.places.place q u) ≡ Some f → ⊥
    unnamed q u e = grind (arith, so.frames.names_held q u f e, (free_says c s.places f.pool f ok).1)

    unstood : (q u : ℕ) → stood s.places.committed_to (s.places.place q u) ≡ Some f → ⊥
    unstood q u e = grind (arith, so.frames.stands_held q u f e, (free_says c s.places f.pool f ok).1)
reads_kept c s t a so (Kind.Copied f g k) ok = record {
  reads = λ q x h n. ap (λ (i : ℕ → ℕ). i (x % 4096)) (shown_else s.contents g (with_part_copied (s.contents f) (s.contents g) k) (stood s.places.committed_to (s.places.place q (page_of x))) (ok.unstood q (page_of x))) ∙ so.reads.reads q x h n;
}
reads_kept c s t a so (Kind.Committed f g) ok = record {
  reads = λ q x h n. by q x (commit_cases s.places.committed_to f g (s.places.place q (page_of x))) (so.reads.reads q x h n);
}
  where
    itself : (x : Place) → moving_frame x ≡ Some f → stood s.places.committed_to x ≡ Some f
    itself Place.Empty e = cc
    itself Place.Zero e = cc
    itself (Place.Sys n w) e = cc
    itself (Place.Own d n w) e = cc
    itself (Place.Moving h w) e = grind (arith, ok.0.0.fresh)
    itself (Place.Exclusive n b) e = cc

    below : (x : ℕ) → x % 4096 < 4096
    below x = omega arith

    by : (q x : ℕ) → ((moving_frame (s.places.place q (page_of x)) ≡ Some f) × (stood (with_frame s.places.committed_to f (Some g)) (s.places.place q (page_of x)) ≡ Some g)) ⊎ ((moving_frame (s.places.place q (page_of x)) ≡ Some f → ⊥) × (stood (with_frame s.places.committed_to f (Some g)) (s.places.place q (page_of x)) ≡ stood s.places.committed_to (s.places.place q (page_of x)))) →
        shown_by s.contents (stood s.places.committed_to (s.places.place q (page_of x))) (x % 4096) ≡ s.plain.bytes q x → shown_by s.contents (stood (with_frame s.places.committed_to f (Some g)) (s.places.place q (page_of x))) (x % 4096) ≡ s.plain.bytes q x
    by q x (inl e) r = ap (λ i. shown_by s.contents i (x % 4096)) e.1 ∙ ok.2 (x % 4096) (below x) ∙ sym (ap (λ i. shown_by s.contents i (x % 4096)) (itself (s.places.place q (page_of x)) e.0)) ∙ r
    by q x (inr e) r = ap (λ i. shown_by s.contents i (x % 4096)) e.1 ∙ r
reads_kept c s t a so (Kind.Place p v x) ok = record {
  reads = λ q y h n. by q y h n (placed_cases s.places.place p v x q (page_of y));
}
  where
    by : (q y : ℕ) → s.plain.there q ≡ true → is_empty_place (with_place s.places.place p v x q (page_of y)) ≡ false → ((q ≡ p) × (page_of y ≡ v) × (with_place s.places.place p v x q (page_of y) ≡ x)) ⊎ (with_place s.places.place p v x q (page_of y) ≡ s.places.place q (page_of y)) →
        shown_by s.contents (stood s.places.committed_to (with_place s.places.place p v x q (page_of y))) (y % 4096) ≡ s.plain.bytes q y
    by q y h n (inl e) = ap (λ i. shown_by s.contents (stood s.places.committed_to i) (y % 4096)) e.2 ∙ ok.process.contents y e.1 (rw e.0 at h) (sym (ap is_empty_place e.2) ∙ n) ∙ ap (λ i. s.plain.bytes i y) (sym e.0)
    by q y h n (inr e) = ap (λ i. shown_by s.contents (stood s.places.committed_to i) (y % 4096)) e ∙ so.reads.reads q y h (sym (ap is_empty_place e) ∙ n)
reads_kept c s t a so k ok = so.reads
