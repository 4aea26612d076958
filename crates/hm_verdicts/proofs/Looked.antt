-- The look-ups of threads in mirrors, when one of them changes.
use Rattle.std.proofs.Common.{refl, ap, sym, ◌∙◌}
use Rattle.std.proofs.Math.Path.{fun_ext}
use Rattle.std.proofs.lemmas.Bool.{eqb-true}
use Rattle.std.specs.Prelude.{◌≡◌, ℕ, Bool, ◌==◌, ◌&&◌, true, false, if◌then◌else◌, Option, None}
use Rattle.hm_history.specs.Memory.Words.{with_at}
use Rattle.hm_protocol.specs.Known.{Look, no_look}
use Rattle.hm_verdicts.specs.AllLooks.{looks_among, with_look, without}
use Rattle.hm_verdicts.specs.declared.all_looks.MirrorLooks.{MirrorLooks}

-- those of each mirror
abbrev pub among : (ℕ → Option MirrorLooks) → ℕ → ℕ → Look
among f n = looks_among (f n)

-- that of each thread in each mirror
abbrev pub turned : (ℕ → ℕ → Look) → ℕ → ℕ → Look
turned f u n = f n u

-- none has begun
pub none_at_all : (f : ℕ → Option MirrorLooks) → f ≡ (λ k. None) → turned (among f) ≡ (λ t m. no_look)
none_at_all f e = ap (λ g. turned (among g)) e

-- those of one mirror are others
pub mirror_set : (f g : ℕ → Option MirrorLooks) (m : ℕ) (o : Option MirrorLooks) → g ≡ with_at f m o
    → among g ≡ with_at (among f) m (looks_among o)
mirror_set f g m o e = ap among e ∙ fun_ext (λ n. by_bool (n == m) n)
  where
    by_bool : (b : Bool) (n : ℕ) → looks_among (if b then o else f n) ≡ (if b then looks_among o else looks_among (f n))
    by_bool true n = refl
    by_bool false n = refl

-- one of them is another: f before, g without those of the mirror, h after
pub one_set : (f g h : ℕ → ℕ → Look) (t m : ℕ) (l : Look) (d x y : ℕ → Look) → g ≡ with_at f m d → x ≡ f m → y ≡ with_at x t l
    → h ≡ with_at g m y → turned h ≡ with_look (turned f) t m l
one_set f g h t m l d x y a b c e = fun_ext (λ u. fun_ext (λ n. ap (λ (h : ℕ → ℕ → Look). h n u) e
    ∙ (ap (λ (g : ℕ → ℕ → Look). with_at g m y n u) a ∙ at (n == m) n refl u)))
  where
    here : (b : Bool) (u n : ℕ) → n ≡ m → (if b then l else f m u) ≡ (if b && true then l else f n u)
    here true u n s = refl
    here false u n s = ap (λ k. f k u) (sym s)

    elsewhere : (b : Bool) (u n : ℕ) → f n u ≡ (if b && false then l else f n u)
    elsewhere true u n = refl
    elsewhere false u n = refl

    at : (b : Bool) → (n : ℕ) → ((n == m) ≡ b) → (u : ℕ) → (if b then y else if b then d else f n) u ≡ (if (u == t) && b then l else f n u)
    at true n s u = ap (λ (y : ℕ → Look). y u) c ∙ (ap (λ (x : ℕ → Look). with_at x t l u) b ∙ here (u == t) u n (eqb-true n m s))
    at false n s u = elsewhere (u == t) u n

-- none of a mirror has begun
pub none_begun : (f g : ℕ → ℕ → Look) (m : ℕ) → g ≡ with_at f m (λ t. no_look) → turned g ≡ without (turned f) m
none_begun f g m e = fun_ext (λ u. fun_ext (λ n. ap (λ (g : ℕ → ℕ → Look). g n u) e ∙ by_bool (n == m) u n))
  where
    by_bool : (b : Bool) (u n : ℕ) → (if b then (λ t. no_look) else f n) u ≡ (if b then no_look else f n u)
    by_bool true u n = refl
    by_bool false u n = refl
