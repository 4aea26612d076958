-- How far the loops over lines have come.
use Rattle.std.proofs.Common.{◌≡◌, ℕ, ◌+◌, ◌-◌, ◌<◌, Bool, true, false, not, Some, Bor, List, [], ◌∷◌, ◌++◌, length, take, refl, sym, ap, ◌∙◌, arith, append_assoc, length-append}
use Rattle.std.specs.List.{list_all}
use Rattle.std.specs.Str.{bytes_eq}
use Rattle.std.proofs.lemmas.Bool.{false≢true}
use Rattle.std.proofs.lemmas.Slice.Eq.{bytes_eq-Decides}
use Rattle.std.proofs.lemmas.List.Folds.{list_all-append}
use Rattle.std.proofs.Math.Seq.{take-append_seam, take-append-add}
use Rattle.std.proofs.lemmas.List.{append_cancel_left}
use Rattle.hm_script.specs.Automaton.{lines}
use Rattle.hm_report.specs.Report.{history_line}
use Rattle.hm_report_front.specs.Parts.{is_script_line, FrontOf, Differ}
use Rattle.hm_report_front.proofs.Cutting.{joined, joined_lines, joined_append, lines_take}

-- ---- the script's lines

-- so many lines were passed, none of which is `history`
pub record Passed (bytes rest : List ℕ) (count : ℕ) : Type 0 where
  pub before : List (List ℕ)
  pub parts : lines bytes ≡ before ++ lines rest
  pub many : count ≡ length before
  pub none : list_all is_script_line before ≡ true

pub passed_more : (bytes rest line after : List ℕ) (count : ℕ) → Passed bytes rest count → lines rest ≡ line ∷ lines after → is_script_line line ≡ true → Passed bytes after (count + 1)
passed_more bytes rest line after count p cut other = record {
  before = p.before ++ line ∷ [];
  parts = p.parts ∙ ap (λ (z : List (List ℕ)). p.before ++ z) cut ∙ sym (append_assoc p.before (line ∷ []) (lines after));
  many = omega (arith, p.many, length-append p.before (line ∷ []));
  none = list_all-append is_script_line p.before (line ∷ []) ∙ (rw (p.none, other) refl);
}

-- the bytes of those lines are lines again
before_bytes : (bytes rest : List ℕ) (count : ℕ) (p : Passed bytes rest count) → bytes ≡ joined p.before ++ rest
before_bytes bytes rest count p = sym (joined_lines bytes) ∙ ap joined p.parts ∙ joined_append p.before (lines rest) ∙ ap (λ (z : List ℕ). joined p.before ++ z) (joined_lines rest)

before_lines : (bytes rest : List ℕ) (count : ℕ) (p : Passed bytes rest count) → lines (joined p.before) ≡ p.before
before_lines bytes rest count p =
    let front : take (length p.before) (lines bytes) ≡ p.before = ap (take (length p.before)) p.parts ∙ take-append_seam p.before (lines rest) in
    ap (λ (z : List (List ℕ)). lines (joined z)) (sym front) ∙ lines_take bytes (length p.before) ∙ front

pub script_is : (bytes rest script : List ℕ) (count : ℕ) (p : Passed bytes rest count) → script ≡ take (length bytes - length rest) bytes → lines script ≡ p.before
script_is bytes rest script count p is =
    let b = before_bytes bytes rest count p in
    let n : length bytes - length rest ≡ length (joined p.before) = omega (arith, ap length b, length-append (joined p.before) rest) in
    let front : take (length (joined p.before)) bytes ≡ joined p.before = ap (take (length (joined p.before))) b ∙ take-append_seam (joined p.before) rest in
    ap lines (is ∙ ap (λ (k : ℕ). take k bytes) n ∙ front) ∙ before_lines bytes rest count p

pub front_found : (bytes rest script line : List ℕ) (after : Bor (List ℕ)) (count : ℕ) → Passed bytes rest count → script ≡ take (length bytes - length rest) bytes → lines rest ≡ line ∷ lines after.now → line ≡ history_line → FrontOf bytes script (Some after)
front_found bytes rest script line after count p is cut found =
    let e = script_is bytes rest script count p is in
    record {
      none = ap (list_all is_script_line) e ∙ p.none;
      goes_on = p.parts ∙ ap (λ (z : List (List ℕ)). z ++ lines rest) (sym e) ∙ ap (λ (z : List (List ℕ)). lines script ++ z) (cut ∙ ap (λ (z : List ℕ). z ∷ lines after.now) found);
    }

pub front_count : (bytes rest script : List ℕ) (count : ℕ) → Passed bytes rest count → script ≡ take (length bytes - length rest) bytes → count ≡ length (lines script)
front_count bytes rest script count p is = p.many ∙ ap length (sym (script_is bytes rest script count p is))

-- ---- two texts

pub unequal : (x y : List ℕ) (r : Bool) → r ≡ not (bytes_eq x y) → r ≡ true → x ≡ y → ⊥
unequal x y r test t same = let b = (bytes_eq-Decides x y).1 same in absurd (false≢true (sym (test ∙ ap not b) ∙ t))

pub equal : (x y : List ℕ) (r : Bool) → r ≡ not (bytes_eq x y) → r ≡ false → x ≡ y
equal x y r test f = (bytes_eq-Decides x y).0 (by (bytes_eq x y) (sym test ∙ f))
  where
    by : (b : Bool) → not b ≡ false → b ≡ true
    by true e = refl
    by false e = absurd (false≢true (sym e))

-- so many lines are shared
pub record Shared (text other rest others : List ℕ) (count : ℕ) : Type 0 where
  pub before : List (List ℕ)
  pub mine : lines text ≡ before ++ lines rest
  pub theirs : lines other ≡ before ++ lines others
  pub many : count ≡ length before

pub shared_more : (text other rest others line same after more : List ℕ) (count : ℕ) → Shared text other rest others count → lines rest ≡ line ∷ lines after → lines others ≡ same ∷ lines more → line ≡ same → Shared text other after more (count + 1)
shared_more text other rest others line same after more count s cut cuts equal = record {
  before = s.before ++ line ∷ [];
  mine = s.mine ∙ ap (λ (z : List (List ℕ)). s.before ++ z) cut ∙ sym (append_assoc s.before (line ∷ []) (lines after));
  theirs = s.theirs ∙ ap (λ (z : List (List ℕ)). s.before ++ z) (cuts ∙ ap (λ (z : List ℕ). z ∷ lines more) (sym equal)) ∙ sym (append_assoc s.before (line ∷ []) (lines more));
  many = omega (arith, s.many, length-append s.before (line ∷ []));
}

differ_behind : (before xs ys : List (List ℕ)) (n : ℕ) → n ≡ length before → (take 1 xs ≡ take 1 ys → ⊥) → Differ (before ++ xs) (before ++ ys) n
differ_behind before xs ys n many other = rw many (record {
  same = take-append_seam before xs ∙ sym (take-append_seam before ys);
  next = λ e. other (append_cancel_left before (take 1 xs) (take 1 ys) (sym (take-append-add before xs 1) ∙ e ∙ take-append-add before ys 1));
})

pub differ_here : (text other rest others : List ℕ) (count : ℕ) → Shared text other rest others count → (take 1 (lines rest) ≡ take 1 (lines others) → ⊥) → Differ (lines text) (lines other) count
differ_here text other rest others count s differs = rw (s.mine, s.theirs) (differ_behind s.before (lines rest) (lines others) count s.many differs)

pub other_line : (rest others line same after more : List ℕ) → lines rest ≡ line ∷ lines after → lines others ≡ same ∷ lines more → (line ≡ same → ⊥) → take 1 (lines rest) ≡ take 1 (lines others) → ⊥
other_line rest others line same after more cut cuts differs e =
    let both : take 1 (line ∷ lines after) ≡ take 1 (same ∷ lines more) = ap (take 1) (sym cut) ∙ e ∙ ap (take 1) cuts in
    let h : line ≡ same = cc in differs h

lines_some : (b : ℕ) (bytes : List ℕ) → (l : List ℕ) × (ls : List (List ℕ)) × (lines (b ∷ bytes) ≡ l ∷ ls)
lines_some b bytes = by (lines (b ∷ bytes)) refl
  where
    by : (ls : List (List ℕ)) → lines (b ∷ bytes) ≡ ls → (l : List ℕ) × (ls : List (List ℕ)) × (lines (b ∷ bytes) ≡ l ∷ ls)
    by [] e = absurd (let no : b ∷ bytes ≡ [] = sym (joined_lines (b ∷ bytes)) ∙ ap joined e in cc)
    by (l ∷ ls) e = (l, ls, e)

-- one of the texts ends
pub one_ends : (rest others : List ℕ) → (length rest ≡ 0 → length others ≡ 0 → ⊥) → (0 < length rest → 0 < length others → ⊥) → take 1 (lines rest) ≡ take 1 (lines others) → ⊥
one_ends [] [] both some e = both refl refl
one_ends [] (b ∷ others) both some e = let l = lines_some b others in let h : take 1 (lines []) ≡ take 1 (l.0 ∷ l.1) = e ∙ ap (take 1) l.2 in cc
one_ends (b ∷ rest) [] both some e = let l = lines_some b rest in let h : take 1 (l.0 ∷ l.1) ≡ take 1 (lines []) = ap (take 1) (sym l.2) ∙ e in cc
one_ends (b ∷ rest) (d ∷ others) both some e = some (omega arith) (omega arith)

same_text : (text other rest others : List ℕ) (count : ℕ) → Shared text other rest others count → rest ≡ others → text ≡ other
same_text text other rest others count s e = sym (joined_lines text) ∙ ap joined (s.mine ∙ ap (λ (z : List ℕ). s.before ++ lines z) e ∙ sym s.theirs) ∙ joined_lines other

pub both_end : (text other rest others : List ℕ) (count : ℕ) → Shared text other rest others count → length rest ≡ 0 → length others ≡ 0 → text ≡ other
both_end text other [] [] count s e f = same_text text other [] [] count s refl
both_end text other [] (b ∷ others) count s e f = absurd (omega arith)
both_end text other (b ∷ rest) others count s e f = absurd (omega arith)
