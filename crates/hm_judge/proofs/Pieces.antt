-- Texts that grow by one piece at a time; the last piece came, or none.
use Rattle.std.proofs.Common.{◌≡◌, ℕ, List, ◌++◌, ap, ◌∙◌, append_assoc}
use Rattle.std.specs.Prelude.{Result, Ok, Err, OnOk}

pub third : {A E : Type 0} (r : Result A E) (old one two new a b d : List ℕ) → one ≡ old ++ a → two ≡ one ++ b → OnOk r (new ≡ two ++ d) → OnOk r (new ≡ old ++ (a ++ (b ++ d)))
third (Ok x) old one two new a b d e f g = g ∙ ap (λ (z : List ℕ). z ++ d) (f ∙ ap (λ (z : List ℕ). z ++ b) e) ∙ regroup old a b d
  where
    regroup : (o a b d : List ℕ) → ((o ++ a) ++ b) ++ d ≡ o ++ (a ++ (b ++ d))
    regroup o a b d = simp append_assoc
third (Err x) old one two new a b d e f g = tt

pub fourth : {A E : Type 0} (r : Result A E) (old one two three new a b d p : List ℕ) → one ≡ old ++ a → two ≡ one ++ b → three ≡ two ++ d → OnOk r (new ≡ three ++ p) → OnOk r (new ≡ old ++ (a ++ (b ++ (d ++ p))))
fourth (Ok x) old one two three new a b d p e f g h = h ∙ ap (λ (z : List ℕ). z ++ p) (g ∙ ap (λ (z : List ℕ). z ++ d) (f ∙ ap (λ (z : List ℕ). z ++ b) e)) ∙ regroup old a b d p
  where
    regroup : (o a b d p : List ℕ) → (((o ++ a) ++ b) ++ d) ++ p ≡ o ++ (a ++ (b ++ (d ++ p)))
    regroup o a b d p = simp append_assoc
fourth (Err x) old one two three new a b d p e f g h = tt

pub fifth : {A E : Type 0} (r : Result A E) (old one two three four new a b d p q : List ℕ) → one ≡ old ++ a → two ≡ one ++ b → three ≡ two ++ d → four ≡ three ++ p → OnOk r (new ≡ four ++ q) → OnOk r (new ≡ old ++ (a ++ (b ++ (d ++ (p ++ q)))))
fifth (Ok x) old one two three four new a b d p q e f g h i = i ∙ ap (λ (z : List ℕ). z ++ q) (h ∙ ap (λ (z : List ℕ). z ++ p) (g ∙ ap (λ (z : List ℕ). z ++ d) (f ∙ ap (λ (z : List ℕ). z ++ b) e))) ∙ regroup old a b d p q
  where
    regroup : (o a b d p q : List ℕ) → ((((o ++ a) ++ b) ++ d) ++ p) ++ q ≡ o ++ (a ++ (b ++ (d ++ (p ++ q))))
    regroup o a b d p q = simp append_assoc
fifth (Err x) old one two three four new a b d p q e f g h i = tt
