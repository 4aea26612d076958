-- Marks that are kept, part by part.
use Rattle.std.proofs.Common.{◌≡◌, ℕ, Bool, Option, List, ap, ◌∙◌}
use Rattle.std.proofs.Math.Path.{fun_ext}
use Rattle.hm_flaw_parts.specs.Marks.{Marked}
use Rattle.hm_flaw_parts.specs.declared.told_spans.ToldSpan.{ToldSpan}

abbrev of : (ℕ → ℕ → Option ℕ) → List ToldSpan → (ℕ → ℕ → Option (Bool × ℕ)) → (ℕ → Bool) → Marked
of begun told set short = record { begun = begun; told = told; set = set; short = short }

pub marks_from : (x y : Marked) → ((a m : ℕ) → x.begun a m ≡ y.begun a m) → x.told ≡ y.told → ((m v : ℕ) → x.set m v ≡ y.set m v) → ((a : ℕ) → x.short a ≡ y.short a) → x ≡ y
marks_from x y b t s h =
    ap (λ z. of z x.told x.set x.short) (fun_ext (λ a. fun_ext (b a)))
    ∙ ap (λ z. of y.begun z x.set x.short) t
    ∙ ap (λ z. of y.begun y.told z x.short) (fun_ext (λ m. fun_ext (s m)))
    ∙ ap (of y.begun y.told y.set) (fun_ext h)
