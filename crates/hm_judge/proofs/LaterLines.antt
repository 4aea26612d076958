-- What is said of later entries, one entry more at a time.
use Rattle.std.proofs.Common.{◌≡◌, ℕ, ◌+◌, ◌<◌, ◌≤◌, List, [], ◌∷◌, ◌++◌, length, get_or, drop, refl, sym, ap, ◌∙◌, arith, append_assoc, append-nil}
use Rattle.std.proofs.lemmas.List.{drop_all, drop_more}
use Rattle.hm_history.specs.declared.Entry.{Entry}
use Rattle.hm_parts.specs.declared.rules.Rules.{Rules}
use Rattle.hm_judge.specs.LaterTexts.{also_line, also_lines}

-- the text so far, and what is to be said of the entries that are left
abbrev pub SaysOf : ℕ → ℕ → List Entry → List Rules → ℕ → List ℕ → List ℕ → Type 0
SaysOf first bad es xs i old text = text ++ also_lines first bad i (drop i es) (drop i xs) ≡ old ++ also_lines first bad 0 es xs

pub says_more : (first bad i : ℕ) (es : List Entry) (xs : List Rules) (e : Entry) (x : Rules) (old text new : List ℕ) → i < length es → i < length xs → e ≡ get_or es i e → x ≡ get_or xs i x → SaysOf first bad es xs i old text → new ≡ text ++ also_line first bad i e x → SaysOf first bad es xs (i + 1) old new
says_more first bad i es xs e x old text new below few is at so next =
    ap (λ (z : List ℕ). z ++ rest) next ∙ append_assoc text (also_line first bad i e x) rest ∙ ap (λ (z : List ℕ). text ++ z) (sym here) ∙ so
  where
    rest : List ℕ
    rest = also_lines first bad (i + 1) (drop (i + 1) es) (drop (i + 1) xs)

    front : drop i es ≡ e ∷ drop (i + 1) es
    front = drop_more es i e below ∙ ap (λ (y : Entry). y ∷ drop (i + 1) es) (sym is)

    rules : drop i xs ≡ x ∷ drop (i + 1) xs
    rules = drop_more xs i x few ∙ ap (λ (y : Rules). y ∷ drop (i + 1) xs) (sym at)

    here : also_lines first bad i (drop i es) (drop i xs) ≡ also_line first bad i e x ++ rest
    here = ap (λ (zs : List Entry). also_lines first bad i zs (drop i xs)) front ∙ ap (also_lines first bad i (e ∷ drop (i + 1) es)) rules

pub says_all : (first bad i : ℕ) (es : List Entry) (xs : List Rules) (old text : List ℕ) → length xs ≤ i → SaysOf first bad es xs i old text → text ≡ old ++ also_lines first bad 0 es xs
says_all first bad i es xs old text le so = sym (append-nil text) ∙ ap (λ (z : List ℕ). text ++ z) (sym (none (drop i es)) ∙ ap (also_lines first bad i (drop i es)) (sym (drop_all i xs le))) ∙ so
  where
    none : (zs : List Entry) → also_lines first bad i zs [] ≡ []
    none [] = refl
    none (z ∷ zs) = refl
