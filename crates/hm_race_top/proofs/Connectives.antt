-- The words `and`, `or`, `not` and `x`, and numbers.
use Rattle.std.proofs.Common.{◌≡◌, ℕ, ◌^◌, Bool, true, false, Ok, Err, List, refl, ap, ◌∙◌}
use Rattle.std.specs.Prelude.{◌==◌, ◌&&◌, if◌then◌else◌, Result, length, codes, nat_lt}
use Rattle.std.specs.Fmt.{decimal}
use Rattle.std.specs.Str.{bytes_eq}
use Rattle.std.specs.Str.Parse.{digits_value}
use Rattle.std.proofs.lemmas.Bool.{and_parts}
use Rattle.std.proofs.lemmas.Slice.Eq.{bytes_eq-Decides}
use Rattle.hm_script.specs.Numerals.{number}
use Rattle.hm_script.specs.declared.reason.Reason.{Reason}
use Rattle.hm_race_top.specs.Text.Conditions.Grammar.{is_actor, number_kind, word_kind}
use Rattle.hm_race_top.specs.declared.text.conditions.words.WordKind.{WordKind}

-- the kind by the answers of the tests, in their order
abbrev kind_by : Bool → Bool → Bool → Bool → Bool → Bool → Result ℕ Reason → WordKind
kind_by a o n x e t r =
    if a then WordKind.And
    else (if o then WordKind.Or else (if n then WordKind.Not else (if x then WordKind.Actor
    else (if e then WordKind.Empty else (if t then WordKind.Times else number_kind r)))))

and_by : (a o n x e t : Bool) (r : Result ℕ Reason) → kind_by a o n x e t r ≡ WordKind.And → a ≡ true
and_by true o n x e t r h = refl
and_by false true n x e t r h = absurd cc
and_by false false true x e t r h = absurd cc
and_by false false false true e t r h = absurd cc
and_by false false false false true t r h = absurd cc
and_by false false false false false true r h = absurd cc
and_by false false false false false false (Ok k) h = absurd cc
and_by false false false false false false (Err why) h = absurd cc

or_by : (a o n x e t : Bool) (r : Result ℕ Reason) → kind_by a o n x e t r ≡ WordKind.Or → o ≡ true
or_by true o n x e t r h = absurd cc
or_by false true n x e t r h = refl
or_by false false true x e t r h = absurd cc
or_by false false false true e t r h = absurd cc
or_by false false false false true t r h = absurd cc
or_by false false false false false true r h = absurd cc
or_by false false false false false false (Ok k) h = absurd cc
or_by false false false false false false (Err why) h = absurd cc

not_by : (a o n x e t : Bool) (r : Result ℕ Reason) → kind_by a o n x e t r ≡ WordKind.Not → n ≡ true
not_by true o n x e t r h = absurd cc
not_by false true n x e t r h = absurd cc
not_by false false true x e t r h = refl
not_by false false false true e t r h = absurd cc
not_by false false false false true t r h = absurd cc
not_by false false false false false true r h = absurd cc
not_by false false false false false false (Ok k) h = absurd cc
not_by false false false false false false (Err why) h = absurd cc

times_by : (a o n x e t : Bool) (r : Result ℕ Reason) → kind_by a o n x e t r ≡ WordKind.Times → t ≡ true
times_by true o n x e t r h = absurd cc
times_by false true n x e t r h = absurd cc
times_by false false true x e t r h = absurd cc
times_by false false false true e t r h = absurd cc
times_by false false false false true t r h = absurd cc
times_by false false false false false true r h = refl
times_by false false false false false false (Ok k) h = absurd cc
times_by false false false false false false (Err why) h = absurd cc

number_by : (a o n x e t : Bool) (r : Result ℕ Reason) (k : ℕ) → kind_by a o n x e t r ≡ WordKind.Number k → r ≡ Ok k
number_by true o n x e t r k h = absurd cc
number_by false true n x e t r k h = absurd cc
number_by false false true x e t r k h = absurd cc
number_by false false false true e t r k h = absurd cc
number_by false false false false true t r k h = absurd cc
number_by false false false false false true r k h = absurd cc
number_by false false false false false false (Ok m) k h = ap (λ (z : ℕ). Ok z) (let same : m ≡ k = cc in same)
number_by false false false false false false (Err why) k h = absurd cc

pub word_and : (w : List ℕ) → word_kind w ≡ WordKind.And → w ≡ codes "and"
word_and w h = (bytes_eq-Decides w (codes "and")).0
    (and_by (bytes_eq w (codes "and")) (bytes_eq w (codes "or")) (bytes_eq w (codes "not")) (is_actor w) (length w == 0) (bytes_eq w (codes "x")) (number w) h)

pub word_or : (w : List ℕ) → word_kind w ≡ WordKind.Or → w ≡ codes "or"
word_or w h = (bytes_eq-Decides w (codes "or")).0
    (or_by (bytes_eq w (codes "and")) (bytes_eq w (codes "or")) (bytes_eq w (codes "not")) (is_actor w) (length w == 0) (bytes_eq w (codes "x")) (number w) h)

pub word_not : (w : List ℕ) → word_kind w ≡ WordKind.Not → w ≡ codes "not"
word_not w h = (bytes_eq-Decides w (codes "not")).0
    (not_by (bytes_eq w (codes "and")) (bytes_eq w (codes "or")) (bytes_eq w (codes "not")) (is_actor w) (length w == 0) (bytes_eq w (codes "x")) (number w) h)

pub word_times : (w : List ℕ) → word_kind w ≡ WordKind.Times → w ≡ codes "x"
word_times w h = (bytes_eq-Decides w (codes "x")).0
    (times_by (bytes_eq w (codes "and")) (bytes_eq w (codes "or")) (bytes_eq w (codes "not")) (is_actor w) (length w == 0) (bytes_eq w (codes "x")) (number w) h)

-- a word that spells a number is its numeral
numeral_of : (w : List ℕ) (k : ℕ) → number w ≡ Ok k → w ≡ decimal k
unfolding number
numeral_of w k h = by (bytes_eq w (decimal (digits_value 10 w)) && nat_lt (digits_value 10 w) (2 ^ 64)) refl h
  where
    by : (b : Bool) → (bytes_eq w (decimal (digits_value 10 w)) && nat_lt (digits_value 10 w) (2 ^ 64)) ≡ b
        → (if b then Ok (digits_value 10 w) else Err Reason.Number) ≡ Ok k → w ≡ decimal k
    by true e s = (bytes_eq-Decides w (decimal (digits_value 10 w))).0 (and_parts _ _ e).0 ∙ ap decimal (let same : digits_value 10 w ≡ k = cc in same)
    by false e s = absurd cc

pub word_number : (w : List ℕ) (k : ℕ) → word_kind w ≡ WordKind.Number k → w ≡ decimal k
word_number w k h = numeral_of w k
    (number_by (bytes_eq w (codes "and")) (bytes_eq w (codes "or")) (bytes_eq w (codes "not")) (is_actor w) (length w == 0) (bytes_eq w (codes "x")) (number w) k h)
