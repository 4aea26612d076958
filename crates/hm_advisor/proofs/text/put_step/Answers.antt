use Rattle.std.proofs.Common.{◌≡◌, ℕ, List, [], ◌∷◌, ◌++◌, ap, ◌∙◌, append_assoc}
use Rattle.std.specs.Fmt.{decimal}
use Rattle.hm_script.specs.Spelling.{line}
use Rattle.hm_advisor.proofs.text.put_step.Goals as goal

-- the words of a line, one after another
joined : (out w m p a b c d : List ℕ) → a ≡ out ++ w → b ≡ a ++ 32 ∷ m → c ≡ b ++ 32 ∷ p → d ≡ c ++ 32 ∷ 49 ∷ 10 ∷ [] → d ≡ out ++ line (w ∷ m ∷ p ∷ (49 ∷ []) ∷ [])
joined out w m p a b c d ha hb hc hd =
    hd
    ∙ ap (λ (x : List ℕ). x ++ 32 ∷ 49 ∷ 10 ∷ []) (hc ∙ ap (λ (x : List ℕ). x ++ 32 ∷ p) (hb ∙ ap (λ (x : List ℕ). x ++ 32 ∷ m) ha))
    ∙ simp append_assoc

pub returns : goal.returns
returns c =
    joined c.args.out.now c.args.word.now (decimal c.args.step.now.mirror) (decimal c.args.step.now.page) c.put.new.self c.put_decimal.new.out c.put_decimal-2.new.out c.put-2.new.self
    c.put.ensures
    (c.put_decimal.ensures.text ∙ ap (λ n. c.put.new.self ++ 32 ∷ decimal n) c.number.ensures.same)
    (c.put_decimal-2.ensures.text ∙ ap (λ n. c.put_decimal.new.out ++ 32 ∷ decimal n) c.number-2.ensures.same)
    c.put-2.ensures
