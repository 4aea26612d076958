-- Conditions that are read one after the other.
use Rattle.std.proofs.Common.{◌≡◌, ℕ, zero, suc, ◌+◌, ◌<◌, ◌≤◌, inl, inr, Some, None, Option, List, [], ◌∷◌, ◌++◌, map, length, get_or, take, drop, refl, sym, ap, ◌∙◌, subst, arith}
use Rattle.std.specs.Prelude.{◌⊎◌}
use Rattle.std.proofs.lemmas.List.{drop_more, take_more, map-append}
use Rattle.hm_race_laws.specs.Closed.{IsListed}
use Rattle.hm_script.specs.Splitting.{split}
use Rattle.hm_race_top.specs.Text.Conditions.Grammar.{first_bad, IsBad}
use Rattle.hm_race_top.specs.declared.text.conditions.grammar.BadCondition.{BadCondition}
use Rattle.hm_race_top.specs.Text.Conditions.Questions.{AreQuestions, IsQuestion, bad_question}
use Rattle.hm_race_top.specs.declared.text.conditions.question.Question.{Question}

-- the texts of conditions
abbrev pub texts_of : List Question → List (List ℕ)
texts_of qs = map (λ (q : Question). q.text) qs

-- those of the first texts, each of which is a condition
pub record SoFar (ts : List (List ℕ)) (i : ℕ) (qs : List Question) : Type 0 where
  pub texts_are : texts_of qs ≡ take i ts
  pub each : (q : Question) → IsListed qs q → IsQuestion q
  pub good : bad_question 1 ts ≡ bad_question (i + 1) (drop i ts)

-- the word that is bad
pub bad_word : (o : Option ℕ) (e : BadCondition) (w : ℕ) → e ≡ BadCondition.Word w → IsBad o e → o ≡ Some w
bad_word o (BadCondition.Word v) w same bad = bad ∙ ap (λ (n : ℕ). Some n) (let x : v ≡ w = cc in x)
bad_word o BadCondition.NoMemory w same bad = cc

-- the next text is a condition
bad_next : (n : ℕ) (t : List ℕ) (ts : List (List ℕ)) → first_bad (split t) ≡ None → bad_question n (t ∷ ts) ≡ bad_question (n + 1) ts
bad_next n t ts e = ap (λ (o : Option ℕ). elim o as (λ z. Option (ℕ × ℕ)) [ None ↦ bad_question (n + 1) ts | Some w ↦ Some (n, w) ]) e

-- or it is none
bad_there : (n : ℕ) (t : List ℕ) (ts : List (List ℕ)) (w : ℕ) → first_bad (split t) ≡ Some w → bad_question n (t ∷ ts) ≡ Some (n, w)
bad_there n t ts w e = ap (λ (o : Option ℕ). elim o as (λ z. Option (ℕ × ℕ)) [ None ↦ bad_question (n + 1) ts | Some v ↦ Some (n, v) ]) e

listed_last : (qs : List Question) (q r : Question) → IsListed (qs ++ q ∷ []) r → IsListed qs r ⊎ (q ≡ r)
listed_last [] q r (inl e) = inr e
listed_last [] q r (inr l) = absurd l
listed_last (p ∷ qs) q r (inl e) = inl (inl e)
listed_last (p ∷ qs) q r (inr l) = elim (listed_last qs q r l) [ inl m ↦ inl (inr m) | inr e ↦ inr e ]

module _ (ts : List (List ℕ)) (i : ℕ) (qs : List Question) (so : SoFar ts i qs) (low : i < length ts) (t : List ℕ) (is : get_or ts i t ≡ t) where
  rest : drop i ts ≡ t ∷ drop (i + 1) ts
  rest = drop_more ts i t low ∙ ap (λ (z : List ℕ). z ∷ drop (i + 1) ts) is

  pub one_more : (new : List Question) (q : Question) → new ≡ qs ++ q ∷ [] → q.text ≡ t → IsQuestion q → first_bad (split t) ≡ None → SoFar ts (i + 1) new
  one_more new q grown text question good = subst (SoFar ts (i + 1)) (sym grown) (record {
    texts_are = map-append (λ (p : Question). p.text) qs (q ∷ [])
        ∙ ap (λ (xs : List (List ℕ)). xs ++ q.text ∷ []) so.texts_are
        ∙ ap (λ (x : List ℕ). take i ts ++ x ∷ []) (text ∙ sym is) ∙ sym (take_more ts i t low);
    each = λ r l. elim (listed_last qs q r l) [ inl m ↦ so.each r m | inr e ↦ subst IsQuestion e question ];
    good = so.good ∙ ap (bad_question (i + 1)) rest ∙ bad_next (i + 1) t (drop (i + 1) ts) good;
  })

  pub bad_here : (w : ℕ) → first_bad (split t) ≡ Some w → bad_question 1 ts ≡ Some (i + 1, w)
  bad_here w bad = so.good ∙ ap (bad_question (i + 1)) rest ∙ bad_there (i + 1) t (drop (i + 1) ts) w bad

-- all were taken
took_all : (ts : List (List ℕ)) (i : ℕ) → length ts ≤ i → take i ts ≡ ts
took_all [] zero l = refl
took_all [] (suc i) l = refl
took_all (t ∷ ts) zero l = absurd (omega (arith, l))
took_all (t ∷ ts) (suc i) l = ap (λ (z : List (List ℕ)). t ∷ z) (took_all ts i (omega (arith, l)))

left_none : (ts : List (List ℕ)) (i : ℕ) → length ts ≤ i → drop i ts ≡ []
left_none [] zero l = refl
left_none [] (suc i) l = refl
left_none (t ∷ ts) zero l = absurd (omega (arith, l))
left_none (t ∷ ts) (suc i) l = left_none ts i (omega (arith, l))

pub all_read : (ts : List (List ℕ)) (i : ℕ) (qs : List Question) → SoFar ts i qs → length ts ≤ i → AreQuestions ts qs
all_read ts i qs so past = record {
  texts_are = so.texts_are ∙ took_all ts i past;
  each = so.each;
  good = so.good ∙ ap (bad_question (i + 1)) (left_none ts i past);
}
