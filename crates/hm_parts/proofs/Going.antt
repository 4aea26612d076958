-- The rules of the entries so far, and those of the entries that are left.
use Rattle.std.proofs.Common.{◌≡◌, ℕ, ◌+◌, ◌<◌, ◌≤◌, Bool, true, false, if◌then◌else◌, List, [], ◌∷◌, ◌++◌, length, get_or, take, drop, sym, ap, ◌∙◌, append_assoc, append-nil}
use Rattle.std.proofs.lemmas.List.{drop_all, drop_more}
use Rattle.hm_base.specs.Program.{Program}
use Rattle.hm_history.specs.declared.Entry.{Entry}
use Rattle.hm_flaws.specs.Recalled.{Recalled, recalled_next, recalled_of}
use Rattle.hm_parts.specs.Follower.{AreRules, rules_in, rules_on}
use Rattle.hm_parts.specs.Rules.{rules_from}
use Rattle.hm_parts.specs.declared.rules.Rules.{Rules}
use Rattle.hm_parts.proofs.Recalling.{recalled_more, rules_all, rules_said}

-- what was found of the first entries, and what is to be found of the others
abbrev pub SoFar : Program → List Entry → ℕ → List Rules → Type 0
SoFar c h i xs = rules_from c [] h ≡ xs ++ rules_on c (recalled_of c (take i h)) (drop i h)

pub so_far_none : (c : Program) (h : List Entry) → SoFar c h 0 []
so_far_none c h = sym (rules_all c [] h)

module _ (c : Program) (h : List Entry) (i : ℕ) (e : Entry) (xs ys : List Rules) (x : Rules) where
  split : i < length h → e ≡ get_or h i e → AreRules c (recalled_of c (take i h)) e x → SoFar c h i xs → ys ≡ xs ++ x ∷ []
      → rules_from c [] h ≡ ys ++ (if x.goes_on then rules_on c (recalled_of c (take (i + 1) h)) (drop (i + 1) h) else [])
  split below is are so next =
      let r = recalled_of c (take i h) in
      let said : x ≡ rules_in c r e = rules_said c r e x are in
      let front : drop i h ≡ e ∷ drop (i + 1) h = drop_more h i e below ∙ ap (λ (y : Entry). y ∷ drop (i + 1) h) (sym is) in
      so ∙ ap (λ (es : List Entry). xs ++ rules_on c r es) front
      ∙ ap (λ (y : Rules). xs ++ y ∷ (if y.goes_on then rules_on c (recalled_next c r e) (drop (i + 1) h) else [])) (sym said)
      ∙ ap (λ (q : Recalled). xs ++ x ∷ (if x.goes_on then rules_on c q (drop (i + 1) h) else [])) (sym (recalled_more c h i e below is))
      ∙ sym (append_assoc xs (x ∷ []) (if x.goes_on then rules_on c (recalled_of c (take (i + 1) h)) (drop (i + 1) h) else []))
      ∙ ap (λ (zs : List Rules). zs ++ (if x.goes_on then rules_on c (recalled_of c (take (i + 1) h)) (drop (i + 1) h) else [])) (sym next)

  -- an entry after which there is a state
  pub so_far_more : i < length h → e ≡ get_or h i e → AreRules c (recalled_of c (take i h)) e x → SoFar c h i xs → ys ≡ xs ++ x ∷ [] → x.goes_on ≡ true → SoFar c h (i + 1) ys
  so_far_more below is are so next on = split below is are so next ∙ ap (λ (b : Bool). ys ++ (if b then rules_on c (recalled_of c (take (i + 1) h)) (drop (i + 1) h) else [])) on

  -- an entry after which there is none
  pub so_far_last : i < length h → e ≡ get_or h i e → AreRules c (recalled_of c (take i h)) e x → SoFar c h i xs → ys ≡ xs ++ x ∷ [] → x.goes_on ≡ false → ys ≡ rules_from c [] h
  so_far_last below is are so next on = sym (split below is are so next ∙ ap (λ (b : Bool). ys ++ (if b then rules_on c (recalled_of c (take (i + 1) h)) (drop (i + 1) h) else [])) on ∙ append-nil ys)

-- all entries
pub so_far_all : (c : Program) (h : List Entry) (i : ℕ) (xs : List Rules) → SoFar c h i xs → length h ≤ i → xs ≡ rules_from c [] h
so_far_all c h i xs so le = sym (so ∙ ap (λ (es : List Entry). xs ++ rules_on c (recalled_of c (take i h)) es) (drop_all i h le) ∙ append-nil xs)
