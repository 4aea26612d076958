-- What is noted twice, and is the same.
use Rattle.std.proofs.Common.{◌≡◌, ℕ, ◌<◌, ◌≤◌, ◌⊎◌, inl, inr, sym, ap, ◌∙◌}
use Rattle.std.proofs.lemmas.Bool.{cases_lt}
use Rattle.std.proofs.Math.Path.{fun_ext}
use Rattle.hm_linux.specs.Noted.{Noted, nothing_noted}
use Rattle.hm_linux_steps.specs.Notes.{SameAt}
use Rattle.hm_linux_steps.proofs.NoneNoted.{same_noted}

pub same_here : (n m : Noted) (a : ℕ) → n ≡ m → SameAt n m a
same_here n m a e = record {
  references = ap (λ (x : Noted). x.references a) e;
  locks = ap (λ (x : Noted). x.locks a) e;
  busy = ap (λ (x : Noted). x.busy a) e;
  torn = ap (λ (x : Noted). x.torn a) e;
}

join : (n m o : Noted) (a : ℕ) → SameAt n o a → SameAt m o a → SameAt n m a
join n m o a x y = record {
  references = x.references ∙ sym y.references;
  locks = x.locks ∙ sym y.locks;
  busy = x.busy ∙ sym y.busy;
  torn = x.torn ∙ sym y.torn;
}

everywhere : (n m : Noted) → ((a : ℕ) → 16 ≤ a → SameAt n nothing_noted a) → ((a : ℕ) → 16 ≤ a → SameAt m nothing_noted a) → ((a : ℕ) → a < 16 → SameAt n m a) → (a : ℕ) → SameAt n m a
everywhere n m x y h a = by (cases_lt a 16)
  where
    by : (a < 16) ⊎ (16 ≤ a) → SameAt n m a
    by (inl p) = h a p
    by (inr p) = join n m nothing_noted a (x a p) (y a p)

pub all_same : (n m : Noted) → ((a : ℕ) → 16 ≤ a → SameAt n nothing_noted a) → ((a : ℕ) → 16 ≤ a → SameAt m nothing_noted a) → ((a : ℕ) → a < 16 → SameAt n m a) → n ≡ m
all_same n m x y h =
    let z = everywhere n m x y h in
    same_noted n.references m.references n.locks m.locks n.busy m.busy n.torn m.torn
    (fun_ext (λ a. (z a).references)) (fun_ext (λ a. (z a).locks)) (fun_ext (λ a. (z a).busy)) (fun_ext (λ a. (z a).torn))
