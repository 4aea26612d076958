-- The text of sources, piece by piece.
use Rattle.std.proofs.Common.{◌≡◌, ℕ, suc, ◌+◌, ◌-◌, ◌<◌, ◌≤◌, Option, Some, None, List, [], ◌∷◌, ◌++◌, length, map, get_or, refl, sym, ap, ◌∙◌, subst, arith, append_assoc, append-nil}
use Rattle.std.specs.Prelude.{codes}
use Rattle.std.specs.Fmt.{decimal}
use Rattle.std.proofs.lemmas.Grind.{flat_map-append}
use Rattle.std.proofs.lemmas.List.{map-append}
use Rattle.hm_history.specs.Memory.Words.{numbers}
use Rattle.hm_history.specs.declared.Kind.{Kind}
use Rattle.hm_history.specs.declared.Entry.{Entry}
use Rattle.hm_report.specs.Line.{spaced}
use Rattle.hm_why.specs.Sources.{source_of}
use Rattle.hm_why.specs.Laws.{IsLegal, process_at, LoadsLieInAPage}
use Rattle.hm_why.specs.Writers.{source_in, process_in}
use Rattle.hm_why.specs.Follows.{Follows}
use Rattle.hm_why.specs.Loads.{IsLow, source_text, why_line, why_lines}
use Rattle.hm_why.specs.declared.writers.Writers.{Writers}
use Rattle.hm_why.proofs.Following.{process_is}
use Rattle.hm_why.proofs.Listing.{numbers_more, map_numbers, kind_is}

abbrev texts : (ℕ → Option ℕ) → ℕ → ℕ → List ℕ
texts f a n = spaced (map source_text (map f (numbers a n)))

-- the texts of one source more
pub one_text : (f : ℕ → Option ℕ) (old text new : List ℕ) (addr byte : ℕ) → addr ≤ byte → text ≡ old ++ texts f addr (byte - addr) → new ≡ text ++ 32 ∷ source_text (f byte) → new ≡ old ++ texts f addr (byte + 1 - addr)
one_text f old text new addr byte low so n =
    n ∙ ap (λ (xs : List ℕ). xs ++ 32 ∷ source_text (f byte)) so
    ∙ append_assoc old (texts f addr (byte - addr)) (32 ∷ source_text (f byte))
    ∙ ap (λ (xs : List ℕ). old ++ xs) (sym more)
  where
    here : addr + (byte - addr) ≡ byte
    here = omega arith

    next : byte + 1 - addr ≡ suc (byte - addr)
    next = omega arith

    listed : map source_text (map f (numbers addr (byte + 1 - addr))) ≡ map source_text (map f (numbers addr (byte - addr))) ++ source_text (f byte) ∷ []
    listed = ap (λ k. map source_text (map f (numbers addr k))) next
        ∙ ap (λ (xs : List ℕ). map source_text (map f xs)) (numbers_more addr (byte - addr))
        ∙ ap (λ k. map source_text (map f (numbers addr (byte - addr) ++ k ∷ []))) here
        ∙ ap (map source_text) (map-append f (numbers addr (byte - addr)) (byte ∷ []))
        ∙ map-append source_text (map f (numbers addr (byte - addr))) (f byte ∷ [])

    more : texts f addr (byte + 1 - addr) ≡ texts f addr (byte - addr) ++ 32 ∷ source_text (f byte)
    more = ap spaced listed ∙ flat_map-append (λ (w : List ℕ). 32 ∷ w) (map source_text (map f (numbers addr (byte - addr)))) (source_text (f byte) ∷ [])
        ∙ ap (λ (xs : List ℕ). texts f addr (byte - addr) ++ xs) (append-nil (32 ∷ source_text (f byte)))

-- an entry of a legal history that is a load is in the address space
pub low_at : LoadsLieInAPage → (g h : List Entry) (i : ℕ) (d : Entry) → h ≡ g → IsLegal g → i < length h → IsLow (get_or h i d).kind
low_at law g h i d e legal below = by (get_or h i d).kind refl
  where
    by : (k : Kind) → (get_or h i d).kind ≡ k → IsLow k
    by (Kind.Loaded x at bs) k = (law h (subst IsLegal (sym e) legal) i at x bs (kind_is h i d (Kind.Loaded x at bs) below k)).0
    by k e = tt

-- what is kept gives the line that the history has
line_is : (h : List Entry) (i : ℕ) (w : Writers) → Follows w h i → (k : Kind) → IsLow k → why_line (process_in w) (source_in w) i k ≡ why_line (process_at h i) (source_of h i) i k
line_is h i w f (Kind.Loaded x at bs) low = ap (λ xs. codes "why " ++ decimal i ++ (spaced (map source_text xs) ++ 10 ∷ [])) same
  where
    same : map (source_in w (process_in w x)) (numbers at (length bs)) ≡ map (source_of h i (process_at h i x)) (numbers at (length bs))
    same = ap (λ p. map (source_in w p) (numbers at (length bs))) (process_is h i w f x)
        ∙ map_numbers (source_in w (process_at h i x)) (source_of h i (process_at h i x)) at (length bs) (λ b above below. f.sources (process_at h i x) b (omega (arith, low)))
line_is h i w f k low = refl

-- the lines of one entry more
pub one_line : (h : List Entry) (i : ℕ) (d : Entry) (w : Writers) (text new : List ℕ) → i < length h → Follows w h i → IsLow (get_or h i d).kind → text ≡ why_lines h i → new ≡ text ++ why_line (process_in w) (source_in w) i (get_or h i d).kind → new ≡ why_lines h (suc i)
one_line h i d w text new below f low so n =
    n ∙ ap (λ (xs : List ℕ). xs ++ why_line (process_in w) (source_in w) i (get_or h i d).kind) so
    ∙ ap (λ (xs : List ℕ). why_lines h i ++ xs) (line_is h i w f (get_or h i d).kind low ∙ sym (ap (λ y. elim y as (λ _. List ℕ) [ None ↦ [] | Some k ↦ why_line (process_at h i) (source_of h i) i k ]) (kind_is h i d (get_or h i d).kind below refl)))
