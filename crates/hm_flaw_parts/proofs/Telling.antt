-- Which told a page last, after one span more.
use Rattle.std.proofs.Common.{◌≡◌, ℕ, Bool, true, false, not, ◌&&◌, ◌==◌, if◌then◌else◌, Option, Some, List, [], ◌∷◌, refl, ap, arith}
use Rattle.std.specs.List.{filter}
use Rattle.std.proofs.Math.Path.{fun_ext}
use Rattle.std.proofs.lemmas.Bool.Decides.{nat_tests}
use Rattle.hm_base.specs.Pages.{covers}
use Rattle.hm_base.specs.Program.{Program}
use Rattle.hm_history.specs.Memory.Lookups.{is_told_of}
use Rattle.hm_history.specs.Memory.After.{After, after_entry}
use Rattle.hm_history.specs.declared.Entry.{Entry}
use Rattle.hm_history.specs.declared.Kind.{Kind}
use Rattle.hm_flaws.specs.Recalled.{Recalled, recalled_next}
use Rattle.hm_flaw_parts.specs.Marks.{Marked, MarksRecall, marked_next, recalled_by, told_next}
use Rattle.hm_flaw_parts.specs.Told.{is_covered, told_in, with_told}
use Rattle.hm_flaw_parts.specs.declared.told_spans.ToldSpan.{ToldSpan}

-- a page of what is covered is one of what covers it
within : (n x : ToldSpan) (m v : ℕ) → is_covered n x ≡ true → ((n.mirror == m) && covers n.span v) ≡ false → ((x.mirror == m) && covers x.span v) ≡ false
within n x m v i o = grind (arith, nat_tests, i, o)

rest : (n : ToldSpan) (m v : ℕ) → ((n.mirror == m) && covers n.span v) ≡ false → (xs : List ToldSpan) → told_in (filter (λ x. not (is_covered n x)) xs) m v ≡ told_in xs m v
rest n m v o [] = refl
rest n m v o (x ∷ xs) = by (is_covered n x) refl (rest n m v o xs)
  where
    by : (b : Bool) → is_covered n x ≡ b → told_in (filter (λ y. not (is_covered n y)) xs) m v ≡ told_in xs m v
        → told_in (filter (λ y. not (is_covered n y)) (x ∷ xs)) m v ≡ told_in (x ∷ xs) m v
    by true i ih = rw (i, filter) (rw (within n x m v i o) ih)
    by false i ih = rw (i, filter) (ap (λ (t : Option ℕ). if (x.mirror == m) && covers x.span v then Some x.at else t) ih)

pub told_more : (n : ToldSpan) (xs : List ToldSpan) (m v : ℕ) → told_in (with_told n xs) m v ≡ (if (n.mirror == m) && covers n.span v then Some n.at else told_in xs m v)
told_more n xs m v = by ((n.mirror == m) && covers n.span v) refl
  where
    by : (b : Bool) → ((n.mirror == m) && covers n.span v) ≡ b
        → (if b then Some n.at else told_in (filter (λ x. not (is_covered n x)) xs) m v) ≡ (if b then Some n.at else told_in xs m v)
    by true e = refl
    by false e = rest n m v e xs

told_on : (n : ℕ) (xs : List ToldSpan) (k : Kind) (m v : ℕ) → told_in (told_next n xs k) m v ≡ (if is_told_of m v k then Some n else told_in xs m v)
told_on n xs (Kind.Told i r q) m v = told_more (record { mirror = i; span = r; at = n }) xs m v
told_on n xs _ m v = refl

abbrev with : Recalled → (ℕ → ℕ → Option ℕ) → Recalled
with r told = record r { told = told }

recall_next : (c : Program) (s : After) (x : Marked) (e : Entry) → recalled_by (after_entry s e) (marked_next c s x e) ≡ recalled_next c (recalled_by s x) e
recall_next c s x e = ap (with (recalled_next c (recalled_by s x) e)) (fun_ext (λ m. fun_ext (λ v. told_on s.length x.told e.kind m v)))

pub marks_recall : MarksRecall
marks_recall = record { start = refl; next = recall_next }
