-- The one text of each condition, and of other bytes the first bad word.
use Rattle.std.specs.Prelude.{◌≡◌, ⊤, ℕ, ◌+◌, ◌==◌, nat_lt, Bool, true, false, ◌&&◌, if◌then◌else◌}
use Rattle.std.specs.Prelude.{Option, Some, None, Result, Ok, Err, List, [], ◌∷◌, ◌++◌, length, map, codes}
use Rattle.std.specs.List.{flat_map, list_all}
use Rattle.std.specs.Fmt.{decimal}
use Rattle.std.specs.Str.{bytes_eq}
use Rattle.hm_script.specs.Numerals.{number}
use Rattle.hm_script.specs.Splitting.{split}
use Rattle.hm_script.specs.declared.reason.Reason.{Reason}
use Rattle.hm_race_top.specs.declared.text.conditions.condition.Condition.{Condition}
use Rattle.hm_race_top.specs.declared.text.conditions.condition.Literal.{Literal}
use Rattle.hm_race_top.specs.declared.text.conditions.condition.Quantifier.{Quantifier}
use Rattle.hm_race_top.specs.declared.text.conditions.grammar.BadCondition.{BadCondition}
use Rattle.hm_race_top.specs.declared.text.conditions.words.Place.{Place}
use Rattle.hm_race_top.specs.declared.text.conditions.words.WordKind.{WordKind}

-- ---- the text

-- the word of a quantifier
abbrev pub quantifier_text : Quantifier → List ℕ
quantifier_text Quantifier.Exists = codes "some"
quantifier_text Quantifier.Never = codes "none"
quantifier_text Quantifier.Always = codes "every"

-- texts in a row, with this one between two of them
abbrev pub joined : List ℕ → List (List ℕ) → List ℕ
joined between [] = []
joined between (x ∷ xs) = x ++ flat_map (λ y. between ++ y) xs

-- the word before a literal that is not wanted
abbrev pub not_text : Bool → List ℕ
not_text wanted = if wanted then [] else codes " not"

-- how often its line is to be there, if that is said
abbrev pub count_text : Option ℕ → List ℕ
count_text None = []
count_text (Some n) = 32 ∷ decimal n ++ codes " x"

-- a literal, with a space before each of its words
abbrev pub literal_text : Literal → List ℕ
literal_text l = not_text l.wanted ++ (count_text l.count ++ 32 ∷ l.line)

-- an alternative
abbrev pub all_text : List Literal → List ℕ
all_text ls = joined (codes " and") (map literal_text ls)

-- all alternatives
abbrev pub body_text : List (List Literal) → List ℕ
body_text body = joined (codes " or") (map all_text body)

-- the one text of a condition
abbrev pub condition_text : Condition → List ℕ
condition_text k = quantifier_text k.quantifier ++ body_text k.body

-- ---- the words

-- the quantifier that the word names
abbrev pub quantifier_of : List ℕ → Option Quantifier
quantifier_of w =
    if bytes_eq w (codes "some") then Some Quantifier.Exists
    else (if bytes_eq w (codes "none") then Some Quantifier.Never
    else (if bytes_eq w (codes "every") then Some Quantifier.Always else None))

-- a number of an actor
abbrev pub is_low : Result ℕ Reason → Bool
is_low (Ok n) = nat_lt n 16
is_low (Err r) = false

-- the name of an actor: `a` and its number
abbrev pub is_actor : List ℕ → Bool
is_actor [] = false
is_actor (b ∷ digits) = if b == 97 then is_low (number digits) else false

-- a number
abbrev pub number_kind : Result ℕ Reason → WordKind
number_kind (Ok n) = WordKind.Number n
number_kind (Err r) = WordKind.Other

-- what a word is for that is none of the others: a number, the `x` after one, or a word of an answer
abbrev pub other_kind : List ℕ → WordKind
other_kind w = if bytes_eq w (codes "x") then WordKind.Times else number_kind (number w)

-- what a word is for
abbrev pub word_kind : List ℕ → WordKind
word_kind w =
    if bytes_eq w (codes "and") then WordKind.And
    else (if bytes_eq w (codes "or") then WordKind.Or
    else (if bytes_eq w (codes "not") then WordKind.Not
    else (if is_actor w then WordKind.Actor
    else (if length w == 0 then WordKind.Empty else other_kind w))))

-- a word of this kind may stand in an answer
abbrev pub goes_on : WordKind → Bool
goes_on WordKind.Actor = true
goes_on WordKind.Other = true
goes_on WordKind.Times = true
goes_on (WordKind.Number n) = true
goes_on _ = false

-- it is the name of an actor
abbrev pub opens : WordKind → Bool
opens WordKind.Actor = true
opens _ = false

-- the first word is the name of an actor
abbrev pub begins : List (List ℕ) → Bool
begins [] = false
begins (w ∷ ws) = opens (word_kind w)

-- there are two words or more
abbrev pub has_more : List (List ℕ) → Bool
has_more (w ∷ v ∷ ws) = true
has_more _ = false

-- words that an answer may begin with
abbrev pub is_front : List (List ℕ) → Bool
is_front ws = begins ws && list_all (λ w. goes_on (word_kind w)) ws

-- words of an answer
abbrev pub is_answer : List (List ℕ) → Bool
is_answer ws = has_more ws && is_front ws

-- each of the literals has the words of an answer
abbrev pub are_plain : List Literal → Bool
are_plain ls = list_all (λ l. is_answer (split l.line)) ls

-- each literal of each alternative has
abbrev pub is_plain : List (List Literal) → Bool
is_plain body = list_all are_plain body

-- where the body stands after a word of this kind, if one may come
abbrev pub place_after : Place → WordKind → Option Place
place_after Place.Fresh WordKind.Not = Some Place.Negated
place_after Place.Fresh WordKind.Actor = Some Place.Opened
place_after Place.Fresh (WordKind.Number n) = Some (Place.Counted n)
place_after Place.Negated WordKind.Actor = Some Place.Opened
place_after Place.Negated (WordKind.Number n) = Some (Place.Counted n)
place_after (Place.Counted n) WordKind.Times = Some Place.Times
place_after Place.Times WordKind.Actor = Some Place.Opened
place_after Place.Opened WordKind.Actor = Some Place.Inside
place_after Place.Opened WordKind.Other = Some Place.Inside
place_after Place.Opened WordKind.Times = Some Place.Inside
place_after Place.Opened (WordKind.Number n) = Some Place.Inside
place_after Place.Inside WordKind.Actor = Some Place.Inside
place_after Place.Inside WordKind.Other = Some Place.Inside
place_after Place.Inside WordKind.Times = Some Place.Inside
place_after Place.Inside (WordKind.Number n) = Some Place.Inside
place_after Place.Inside WordKind.And = Some Place.Fresh
place_after Place.Inside WordKind.Or = Some Place.Fresh
place_after _ _ = None

-- the number of the word that is missing, if the words end here
abbrev pub missing_at : ℕ → Place → Option ℕ
missing_at n Place.Inside = None
missing_at n _ = Some n

-- the number of the first word that may not come, or of the one that is missing at the end
abbrev pub bad_from : ℕ → Place → List (List ℕ) → Option ℕ
bad_from n p [] = missing_at n p
bad_from n p (w ∷ ws) = elim (place_after p (word_kind w)) [
  | None ↦ Some n
  | Some q ↦ bad_from (n + 1) q ws
]

-- the same of a whole condition, whose first word is the quantifier's
abbrev pub first_bad : List (List ℕ) → Option ℕ
first_bad [] = Some 1
first_bad (w ∷ ws) = elim (quantifier_of w) [
  | None ↦ Some 1
  | Some q ↦ bad_from 2 Place.Fresh ws
]

-- it is this word that is bad; nothing is said if memory ran out
abbrev pub IsBad : Option ℕ → BadCondition → Type 0
IsBad found (BadCondition.Word n) = found ≡ Some n
IsBad found BadCondition.NoMemory = ⊤
