-- What is known with some of its fields changed, field by field.
use Rattle.std.proofs.Common.{ap, ◌∙◌}
use Rattle.std.specs.Prelude.{◌≡◌, ℕ, Bool, Option, List}
use Rattle.hm_protocol.specs.Known.{Known, Slot, Look, Early}

-- an interval is inserted
pub inserted : (k : Known) (d e : ℕ → Option ℕ) (f g : ℕ → ℕ) (o p : ℕ → Bool) (ss ts : List Slot) (l n : ℕ → ℕ → Look)
    → d ≡ e → f ≡ g → o ≡ p → ss ≡ ts → l ≡ n
    → record k { device = d; first = f; gone = o; slots = ss; looks = l }
    ≡ record k { device = e; first = g; gone = p; slots = ts; looks = n }
inserted k d e f g o p ss ts l n a b c h i =
    ap (λ d. record k { device = d; first = f; gone = o; slots = ss; looks = l }) a
    ∙ (ap (λ f. record k { device = e; first = f; gone = o; slots = ss; looks = l }) b
    ∙ (ap (λ o. record k { device = e; first = g; gone = o; slots = ss; looks = l }) c
    ∙ (ap (λ ss. record k { device = e; first = g; gone = p; slots = ss; looks = l }) h
    ∙ ap (λ l. record k { device = e; first = g; gone = p; slots = ts; looks = l }) i)))

-- a look-up begins
pub begun_all : (k : Known) (g h : List Bool) (e f : List Early) (l n : ℕ → ℕ → Look) → g ≡ h → e ≡ f → l ≡ n
    → record k { given_up = g; early = e; looks = l } ≡ record k { given_up = h; early = f; looks = n }
begun_all k g h e f l n a b c = ap (λ g. record k { given_up = g; early = e; looks = l }) a
    ∙ (ap (λ e. record k { given_up = h; early = e; looks = l }) b ∙ ap (λ l. record k { given_up = h; early = f; looks = l }) c)

-- a walk does
pub walked_all : (k : Known) (g h : List Bool) (e f : List Early) (d c : ℕ → Option ℕ) (l n : ℕ → ℕ → Look)
    → g ≡ h → e ≡ f → d ≡ c → l ≡ n
    → record k { given_up = g; early = e; device = d; looks = l } ≡ record k { given_up = h; early = f; device = c; looks = n }
walked_all k g h e f d c l n x y z w = ap (λ g. record k { given_up = g; early = e; device = d; looks = l }) x
    ∙ (ap (λ e. record k { given_up = h; early = e; device = d; looks = l }) y
    ∙ (ap (λ d. record k { given_up = h; early = f; device = d; looks = l }) z
    ∙ ap (λ l. record k { given_up = h; early = f; device = c; looks = l }) w))

-- a look-up is committed
pub committed : (k : Known) (s u : List (ℕ × Bool)) (l n : ℕ → ℕ → Look) → s ≡ u → l ≡ n
    → record k { stale = s; looks = l } ≡ record k { stale = u; looks = n }
committed k s u l n a b = ap (λ s. record k { stale = s; looks = l }) a ∙ ap (λ l. record k { stale = u; looks = l }) b
