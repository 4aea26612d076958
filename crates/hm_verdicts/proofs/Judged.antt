-- What a judge keeps of each rule goes on with each event.
use Rattle.std.proofs.Common.{refl, ap, sym, ◌∙◌, arith, ◌<◌, suc, length}
use Rattle.std.proofs.Math.Nat.{min-eq_left}
use Rattle.std.specs.Prelude.{◌≡◌, ℕ, ◌+◌, ◌-◌, ◌^◌, min, Bool, true, false, if◌then◌else◌, Option, Some, None, List, [], ◌∷◌, ◌++◌, fold, map}
use Rattle.hm_protocol.specs.declared.events.Traced.{Traced}
use Rattle.hm_protocol.specs.declared.rules.Rule.{Rule}
use Rattle.hm_protocol.specs.Known.{Known, known_start}
use Rattle.hm_protocol.specs.Noted.{known, known_next}
use Rattle.hm_protocol.specs.Rules.{first_wrong}
use Rattle.hm_protocol.specs.Verdicts.{asks, asked}
use Rattle.hm_verdicts.proofs.Bounded.{asked_fits}
use Rattle.hm_verdicts.specs.Asking.{breaks_at}
use Rattle.hm_verdicts.specs.Judging.{count_of, count_next}

-- what is known after one event more
pub known_more : (k : Known) (es : List Traced) (s : Traced)
    → fold known_next k (es ++ s ∷ []) ≡ known_next (fold known_next k es) s
known_more k [] s = refl
known_more k (e ∷ es) s = known_more (known_next k e) es s

-- the first event that is wrong
wrong_more : (test : Known → Traced → Bool) (k : Known) (es : List Traced) (s : Traced)
    → first_wrong test k (es ++ s ∷ []) ≡ elim (first_wrong test k es) [
      | Some i ↦ Some i
      | None ↦ (if test (fold known_next k es) s then Some (fold known_next k es).at else None)
    ]
wrong_more test k [] s = by_bool (test k s)
  where
    by_bool : (b : Bool) → elim b as (λ b. Option ℕ) [ true ↦ Some k.at | false ↦ None ] ≡ (if b then Some k.at else None)
    by_bool true = refl
    by_bool false = refl
wrong_more test k (e ∷ es) s = step (test k e) (wrong_more test (known_next k e) es s)
  where
    after : Option ℕ → Option ℕ
    after o = elim o [
      | Some i ↦ Some i
      | None ↦ (if test (fold known_next (known_next k e) es) s then Some (fold known_next (known_next k e) es).at else None)
    ]

    step : (b : Bool) → first_wrong test (known_next k e) (es ++ s ∷ []) ≡ after (first_wrong test (known_next k e) es)
        → elim b as (λ b. Option ℕ) [ true ↦ Some k.at | false ↦ first_wrong test (known_next k e) (es ++ s ∷ []) ]
        ≡ after (elim b as (λ b. Option ℕ) [ true ↦ Some k.at | false ↦ first_wrong test (known_next k e) es ])
    step true h = refl
    step false h = h

-- how often a rule is put to the test
asked_more : (r : Rule) (k : Known) (es : List Traced) (s : Traced)
    → asked r k (es ++ s ∷ []) ≡ asked r k es + asks r (fold known_next k es) s.thread s.event
asked_more r k [] s = let z = asks r k s.thread s.event in let e : z + 0 ≡ 0 + z = omega arith in e
asked_more r k (e ∷ es) s = ap (λ n. asks r k e.thread e.event + n) (asked_more r (known_next k e) es s)
    ∙ added (asks r k e.thread e.event) (asked r (known_next k e) es)
    (asks r (fold known_next (known_next k e) es) s.thread s.event)
  where
    added : (a b c : ℕ) → a + (b + c) ≡ (a + b) + c
    added a b c = omega arith

-- what is kept of a rule
count_more : (es : List Traced) (s : Traced) → length es < 2 ^ 32 → (r : Rule)
    → count_next (known es) s (count_of es r) ≡ count_of (es ++ s ∷ []) r
count_more es s l r =
    ap (λ o. record {
      rule = r;
      broken = o;
      asked = min (asked r known_start es + asks r (known es) s.thread s.event) (2 ^ 64 - 1);
    }) (sym (wrong_more (breaks_at r) known_start es s))
    ∙ ap (λ n. record { rule = r; broken = first_wrong (breaks_at r) known_start (es ++ s ∷ []); asked = n })
    (min-eq_left (asked_fits r es s l) ∙ sym (asked_more r known_start es s))

-- of all rules
pub counts_more : (es : List Traced) (s : Traced) → length es < 2 ^ 32 → (rs : List Rule)
    → map (count_next (known es) s) (map (count_of es) rs) ≡ map (count_of (es ++ s ∷ [])) rs
counts_more es s l [] = refl
counts_more es s l (r ∷ rs) = ap (λ c. c ∷ map (count_next (known es) s) (map (count_of es) rs)) (count_more es s l r)
    ∙ ap (λ cs. count_of (es ++ s ∷ []) r ∷ cs) (counts_more es s l rs)

-- how many events there were
at_more : (k : Known) (es : List Traced) → (fold known_next k es).at ≡ k.at + length es
at_more k [] = omega arith
at_more k (s ∷ ss) = let more : (k.at + 1) + length ss ≡ k.at + suc (length ss) = omega arith in
    at_more (known_next k s) ss ∙ more

pub at_known : (es : List Traced) → (known es).at ≡ length es
at_known es = at_more known_start es ∙ omega arith
