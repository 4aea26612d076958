-- What is said of the lines that are in no outcome is right of the race.
use Rattle.std.proofs.Common.{◌≡◌, Bool, true, false, not, refl}
use Rattle.std.specs.Prelude.{◌&&◌}
use Rattle.hm_race_top.specs.Text.Conditions.Absent.{IsSeen, SeenIsRight, StrictIsRight, denies, has_absent, have_absent, is_absent, is_in, some_absent}
use Rattle.hm_race_top.specs.Text.Conditions.Meets.{has_line}
use Rattle.hm_race_top.specs.Text.Conditions.Rulings.{strictly, summary}
use Rattle.hm_race_top.specs.declared.text.conditions.question.Question.{Question}
use Rattle.hm_race_top.specs.declared.text.conditions.rulings.Ruling.{Ruling}
use Rattle.hm_race_top.proofs.Right.{all_say, fails_of, one_says}

pub seen_is_right : SeenIsRight
seen_is_right c outcomes whole real listed line = by (is_in outcomes line) refl whole refl
  where
    by : (b : Bool) → is_in outcomes line ≡ b → (w : Bool) → whole ≡ w → IsSeen c line b w
    by true e w t = one_says c (λ x. has_line x line) outcomes real e
    by false e true t = all_say c (λ x. has_line x line) outcomes (listed t) e
    by false e false t = tt

-- ---- with `--strict`

held : (r : Ruling) (absent whole : Bool) → strictly r absent whole ≡ Ruling.Holds → absent ≡ false
held r false whole e = refl
held Ruling.Holds true true e = absurd cc
held Ruling.Holds true false e = absurd cc
held Ruling.Fails true whole e = absurd cc
held Ruling.Open true whole e = absurd cc

found : (denied there : Bool) → (not denied && not there) ≡ false → denied ≡ false → there ≡ true
found true there e d = absurd cc
found false true e d = refl
found false false e d = absurd cc

pub strict_is_right : StrictIsRight
strict_is_right c qs outcomes whole real e q l ls lit body literals denied =
    let none : has_absent q.condition outcomes ≡ false = fails_of (λ (x : Question). has_absent x.condition outcomes) qs q
    (held (summary qs outcomes whole) (have_absent qs outcomes) whole e) l in
    let here : some_absent q.condition outcomes ls ≡ false = fails_of (some_absent q.condition outcomes) q.condition.body ls none body in
    let absent : is_absent q.condition outcomes ls lit ≡ false = fails_of (is_absent q.condition outcomes ls) ls lit here literals in
    one_says c (λ x. has_line x lit.line) outcomes real (found (denies q.condition ls lit) (is_in outcomes lit.line) absent denied)
