-- Pieces lie in one page; a frame that is used once is named once, and may get its write right back.
use Rattle.std.proofs.lemmas.Option.{same_Some}
use Rattle.hm_history.specs.Memory.Words.{moving_frame}
use Rattle.std.proofs.Common.{◌≡◌, ℕ, zero, suc, ◌+◌, ◌-◌, ◌%◌, ◌≤◌, ◌⊎◌, inl, inr, Bool, true, false, ◌==◌, ◌&&◌, ◌||◌, if◌then◌else◌, is_some, is_none, Option, Some, None, List, [], ◌∷◌, refl, sym, ap, ◌∙◌, arith, cond, count_by, length}
use Rattle.std.specs.List.{list_any}
use Rattle.std.proofs.lemmas.Bool.Decides.{nat_tests}
use Rattle.hm_base.specs.Program.{Program}
use Rattle.hm_base.specs.declared.Frame.{Frame}
use Rattle.hm_base.specs.declared.Place.{Place}
use Rattle.hm_base.specs.declared.ops.Op.{Op}
use Rattle.hm_history.specs.Memory.Words.{sys_frame, is_frame, names, names_directly, is_empty_place}
use Rattle.hm_history.specs.Memory.Plain.{rights_of, is_read_write}
use Rattle.hm_history.specs.Memory.Places.{is_page, uses}
use Rattle.hm_history.specs.Memory.Lookups.{loses}
use Rattle.hm_history.specs.Memory.After.{After}
use Rattle.hm_laws.specs.Stood.{stood, is_moving}
use Rattle.hm_laws.specs.Past.{Past}
use Rattle.hm_laws.specs.Sound.{Sound}
use Rattle.hm_laws.specs.Allowed.{shows, ReadsThere, Reader, PlaceOk, InPage}
use Rattle.hm_laws.proofs.Kept.Frames.{names_stays}
use Rattle.std.proofs.Common.{take, drop}
use Rattle.hm_history.specs.Memory.Words.{pieces, first_len}
use Rattle.hm_history.specs.Kernel.Operation.{op_piece, op_bytes, piece_at}
use Rattle.hm_history.specs.Kernel.Due.{is_used_once}
use Rattle.hm_laws.proofs.Due.Good.{some_write}
use Rattle.std.proofs.Common.{count_by, cond}
use Rattle.std.proofs.lemmas.List.Sums.{sum_by-cons}
use Rattle.hm_history.specs.Memory.Places.{uses}
use Rattle.hm_history.proofs.Tests.{some_none, true_false}
use Rattle.hm_history.proofs.Frames.{is_frame_of}
use Rattle.hm_history.proofs.Placed.{is_page_true}

pub piece_in_page : (a n k : ℕ) → n ≤ 256 → InPage (piece_at (pieces a n) k).0 (piece_at (pieces a n) k).1
piece_in_page a n k few = by (first_len a n) (len a n) (first_len a n == n) refl
  where
    len : (a n : ℕ) → ((first_len a n ≡ n) × (a % 4096 + n ≤ 4096)) ⊎ (a % 4096 + first_len a n ≡ 4096)
    len a n = grind (arith, nat_tests)

    first : (x y : ℕ × ℕ) (k : ℕ) → InPage x.0 x.1 → InPage y.0 y.1 → InPage (piece_at (x ∷ y ∷ []) k).0 (piece_at (x ∷ y ∷ []) k).1
    first x y k hx hy = grind (arith, nat_tests)

    only : (x : ℕ × ℕ) (k : ℕ) → InPage x.0 x.1 → InPage (piece_at (x ∷ []) k).0 (piece_at (x ∷ []) k).1
    only x k hx = grind (arith, nat_tests)

    by : (m : ℕ) → ((m ≡ n) × (a % 4096 + n ≤ 4096)) ⊎ (a % 4096 + m ≡ 4096) → (b : Bool) → (m == n) ≡ b →
        InPage (piece_at (if b then (a, n) ∷ [] else ((a, m) ∷ (a + m, n - m) ∷ [])) k).0 (piece_at (if b then (a, n) ∷ [] else ((a, m) ∷ (a + m, n - m) ∷ [])) k).1
    by m h true e = only (a, n) k (grind (arith, nat_tests))
    by m (inl h) false e = grind (arith, nat_tests)
    by m (inr h) false e = first (a, m) (a + m, n - m) k (omega arith) (omega arith)

take_short : {X : Type 0} (n : ℕ) (l : List X) → length (take n l) ≤ n
take_short zero l = omega arith
take_short (suc n) [] = omega arith
take_short (suc n) (x ∷ l) = omega (arith, take_short n l)

pub store_in_page : (p a : ℕ) (bs : List ℕ) (k : ℕ) → length bs ≤ 256 → InPage (op_piece (Op.Store p a bs) k).0 (length (op_bytes (Op.Store p a bs) (op_piece (Op.Store p a bs) k)))
store_in_page p a bs k few = by (op_piece (Op.Store p a bs) k) (piece_in_page a (length bs) k few)
  where
    by : (x : ℕ × ℕ) → InPage x.0 x.1 → InPage x.0 (length (take x.1 (drop (x.0 - a) bs)))
    by x h = omega (arith, take_short x.1 (drop (x.0 - a) bs))

pub device_store_in_page : (m a : ℕ) (bs : List ℕ) (k : ℕ) → length bs ≤ 256 → InPage (op_piece (Op.DeviceStore m a bs) k).0 (length (op_bytes (Op.DeviceStore m a bs) (op_piece (Op.DeviceStore m a bs) k)))
device_store_in_page m a bs k few = store_in_page m a bs k few

count_cons : {X : Type 0} (t : X → Bool) (x : X) (xs : List X) → count_by t (x ∷ xs) ≡ (if t x then suc (count_by t xs) else count_by t xs)
count_cons t x xs = sum_by-cons (λ y. cond (t y) 1 0) x xs ∙ by (t x)
  where
    by : (b : Bool) → cond b 1 0 + count_by t xs ≡ (if b then suc (count_by t xs) else count_by t xs)
    by true = omega arith
    by false = omega arith

count_some : (t : ℕ × ℕ → Bool) (xs : List (ℕ × ℕ)) (p v : ℕ) → list_any (is_page p v) xs ≡ true → t (p, v) ≡ true → 1 ≤ count_by t xs
count_some t [] p v l h = cc
count_some t (x ∷ xs) p v l h = rw (count_cons t x xs) (by (count_some t xs p v) (is_page p v x) refl l (t x) refl)
  where
    by : (list_any (is_page p v) xs ≡ true → t (p, v) ≡ true → 1 ≤ count_by t xs) → (b : Bool) → is_page p v x ≡ b → (b || list_any (is_page p v) xs) ≡ true → (d : Bool) → t x ≡ d → 1 ≤ (if d then suc (count_by t xs) else count_by t xs)
    by ih b e k true ed = omega arith
    by ih true e k false ed = grind (arith, is_page_true p v x e)
    by ih false e k false ed = ih k h

count_one : (t : ℕ × ℕ → Bool) (xs : List (ℕ × ℕ)) (p v q u : ℕ) → list_any (is_page p v) xs ≡ true → t (p, v) ≡ true → list_any (is_page q u) xs ≡ true → t (q, u) ≡ true → count_by t xs ≡ 1 → (q ≡ p) × (u ≡ v)
count_one t [] p v q u l h m k e = cc
count_one t (x ∷ xs) p v q u l h m k e = by (count_one t xs p v q u) (count_some t xs p v) (count_some t xs q u) (is_page p v x) refl l (is_page q u x) refl m (t x) refl (sym (count_cons t x xs) ∙ e)
  where
    by : (list_any (is_page p v) xs ≡ true → t (p, v) ≡ true → list_any (is_page q u) xs ≡ true → t (q, u) ≡ true → count_by t xs ≡ 1 → (q ≡ p) × (u ≡ v)) →
        (list_any (is_page p v) xs ≡ true → t (p, v) ≡ true → 1 ≤ count_by t xs) → (list_any (is_page q u) xs ≡ true → t (q, u) ≡ true → 1 ≤ count_by t xs) →
        (b : Bool) → is_page p v x ≡ b → (b || list_any (is_page p v) xs) ≡ true → (d : Bool) → is_page q u x ≡ d → (d || list_any (is_page q u) xs) ≡ true → (z : Bool) → t x ≡ z → (if z then suc (count_by t xs) else count_by t xs) ≡ 1 → (q ≡ p) × (u ≡ v)
    by ih one two true eb i true ed j z ez n = (grind (arith, is_page_true p v x eb, is_page_true q u x ed), grind (arith, is_page_true p v x eb, is_page_true q u x ed))
    by ih one two true eb i false ed j true ez n = absurd (omega (arith, two j k))
    by ih one two true eb i false ed j false ez n = grind (arith, is_page_true p v x eb)
    by ih one two false eb i true ed j true ez n = absurd (omega (arith, one i h))
    by ih one two false eb i true ed j false ez n = grind (arith, is_page_true q u x ed)
    by ih one two false eb i false ed j true ez n = absurd (omega (arith, one i h))
    by ih one two false eb i false ed j false ez n = ih i h j k n

pub alone_says : (c : Program) (s : After) (t : Past) (f : Frame) (p v q u : ℕ) → Sound c s t → is_used_once s f ≡ true → names (s.places.place p v) ≡ Some f → names (s.places.place q u) ≡ Some f → (q ≡ p) × (u ≡ v)
alone_says c s t f p v q u so h n m = by (is_none (s.locks.frame f)) (uses s.places f == 1) refl h
  where
    by : (x y : Bool) → (uses s.places f == 1) ≡ y → (x && y) ≡ true → (q ≡ p) × (u ≡ v)
    by true true e k = count_one (λ x. is_frame (names (s.places.place x.0 x.1)) f) s.places.placed p v q u (so.places.listed p v (names_stays (s.places.place p v) f n)) (is_frame_of (names (s.places.place p v)) f n)
        (so.places.listed q u (names_stays (s.places.place q u) f m)) (is_frame_of (names (s.places.place q u)) f m) (grind (arith, nat_tests))
    by true false e k = cc
    by false y e k = cc

alone_free : (s : After) (f : Frame) → is_used_once s f ≡ true → s.locks.frame f ≡ None
alone_free s f h = by (s.locks.frame f) (uses s.places f == 1) h
  where
    by : (l : Option ℕ) (b : Bool) → (is_none l && b) ≡ true → l ≡ None
    by None b h = refl
    by (Some a) b h = cc

pub sole_ok : (c : Program) (s : After) (t : Past) (a p v n : ℕ) (w : Bool) → Sound c s t → ReadsThere s a p → s.places.place p v ≡ Place.Sys n w → is_read_write (rights_of s.plain p v) ≡ true → is_used_once s (sys_frame n) ≡ true → PlaceOk s t a p v (Place.Sys n true)
sole_ok c s t a p v n w so h e r al = record {
  who = Reader h refl (λ o k. ap (λ x. shows s x o) (sym e)) (λ k. refl);
  ranged = λ k. so.places.ranged p v stays;
  frames = record {
    names_held = λ f i. so.frames.names_held p v f (ap names e ∙ i);
    stands_held = λ f i. so.frames.stands_held p v f (ap (stood s.places.committed_to) e ∙ i);
    one_page = λ q u f i m. so.frames.one_page p v q u f (ap names e ∙ i) m;
    stood_page = λ q u f i m. so.frames.stood_page p v q u f (ap (stood s.places.committed_to) e ∙ i) m;
    alone = λ q u f z i m. once q u f i m;
    others = λ q u f z i m. once q u f i m;
    direct_fresh = λ f i. so.frames.direct_fresh p v f (ap names_directly e ∙ i);
  };
  hand_over = record {
    fresh_names = λ f i. inr (p, v, ap names e ∙ i, λ m. ap is_moving e);
    fresh_stands = λ f i. inr (p, v, ap (stood s.places.committed_to) e ∙ i, sym (ap names e));
    freezes = λ f i. cc;
    finishes = λ f k. absurd (some_none (moving_frame (s.places.place p v)) f k (ap moving_frame e));
    owned = λ d m z k. absurd (clash d m z (sym (ap is_owned e) ∙ ap is_owned k));
    touched = λ k. cc;
    settles = λ m z i nm k. absurd (some_none (s.locks.frame (sys_frame m)) a k (ap s.locks.frame (sym (same_Some (sys_frame n) (sys_frame m) (ap names i))) ∙ alone_free s (sys_frame n) al));
    stays_locked = λ f m i. cc;
  };
  process = record {
    in_area = λ th i. some_write (rights_of s.plain p v) r;
    may_write = λ k. (h.1, r);
    contents = λ y k th i. ap (λ j. shows s j (y % 4096)) (sym e) ∙ ap (λ j. shows s (s.places.place p j) (y % 4096)) (sym k) ∙ so.reads.reads p y th (ap (λ j. is_empty_place (s.places.place p j)) k ∙ stays);
    empties = λ k. cc;
  };
  mirrors = record {
    guarded = λ l. absurd (not_lost w (ap (λ x. loses x (Place.Sys n true)) (sym e) ∙ l));
    lands = λ m l. absurd (true_false (is_moving (s.places.place p v)) m (ap is_moving e));
  };
}
  where
    stays : is_empty_place (s.places.place p v) ≡ false
    stays = ap is_empty_place e

    is_owned : Place → Bool
    is_owned (Place.Own d m z) = true
    is_owned x = false

    clash : (d m : ℕ) (z : Bool) → false ≡ true → ⊥
    clash d m z k = cc

    not_lost : (w : Bool) → loses (Place.Sys n w) (Place.Sys n true) ≡ true → ⊥
    not_lost w l = grind (arith, nat_tests)

    once : (q u : ℕ) (f : Frame) → Some (sys_frame n) ≡ Some f → stood s.places.committed_to (s.places.place q u) ≡ Some f → (q ≡ p) × (u ≡ v)
    once q u f i m = alone_says c s t (sys_frame n) p v q u so al (ap names e) (named (s.places.place q u) (so.frames.stands_locked q u (sys_frame n)) (m ∙ sym i))
      where
        named : (y : Place) → (is_moving y ≡ true → stood s.places.committed_to y ≡ Some (sys_frame n) → is_some (s.locks.frame (sys_frame n)) ≡ true) → stood s.places.committed_to y ≡ Some (sys_frame n) → names y ≡ Some (sys_frame n)
        named Place.Empty g k = cc
        named Place.Zero g k = cc
        named (Place.Sys i z) g k = k
        named (Place.Own d i z) g k = k
        named (Place.Moving i z) g k = absurd (true_false (is_some (s.locks.frame (sys_frame n))) (g refl k) (ap is_some (alone_free s (sys_frame n) al)))
        named (Place.Exclusive i b) g k = k
