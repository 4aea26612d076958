-- The script whose lines a text begins with.
use Rattle.std.proofs.Common.{◌≡◌, ℕ, zero, suc, ◌<◌, ◌≤◌, ◌⊎◌, inl, inr, Bool, true, false, cond, List, [], ◌∷◌, ◌++◌, length, take, refl, sym, ap, ◌∙◌, arith}
use Rattle.std.specs.List.{list_all}
use Rattle.std.proofs.lemmas.Bool.{cases_lt, and_parts}
use Rattle.std.proofs.lemmas.List.{take_all, length-take-le}
use Rattle.hm_base.specs.Program.{Program, IsScript}
use Rattle.hm_script.specs.Automaton.{lines}
use Rattle.hm_script.specs.Spelling.{text}
use Rattle.hm_report.specs.Report.{history_line}
use Rattle.hm_report_front.specs.Heads.{lines_behind}
use Rattle.hm_report_front.specs.Parts.{is_script_line}
use Rattle.hm_report_front.proofs.Cutting.{joined, joined_lines}
use Rattle.hm_report_front.proofs.TextLines.{script_none}

-- the lines before the first `history`
abbrev pub front : List (List ℕ) → List (List ℕ)
front [] = []
front (l ∷ ls) = cond (is_script_line l) (l ∷ front ls) []

pub front_take : (n : ℕ) (ls : List (List ℕ)) → front (take n ls) ≡ take n (front ls)
front_take zero ls = refl
front_take (suc n) [] = refl
front_take (suc n) (l ∷ ls) = by (front_take n ls) (is_script_line l)
  where
    by : front (take n ls) ≡ take n (front ls) → (t : Bool) → cond t (l ∷ front (take n ls)) [] ≡ take (suc n) (cond t (l ∷ front ls) [])
    by rest true = ap (λ (z : List (List ℕ)). l ∷ z) rest
    by rest false = refl

pub front_before : (ls others : List (List ℕ)) → list_all is_script_line ls ≡ true → front (ls ++ history_line ∷ others) ≡ ls
front_before [] others h = refl
front_before (l ∷ ls) others h =
    let parts = and_parts (is_script_line l) (list_all is_script_line ls) h in
    rw parts.0 (ap (λ (z : List (List ℕ)). l ∷ z) (front_before ls others parts.1))

pub front_all : (ls : List (List ℕ)) → list_all is_script_line ls ≡ true → front ls ≡ ls
front_all [] h = refl
front_all (l ∷ ls) h =
    let parts = and_parts (is_script_line l) (list_all is_script_line ls) h in
    rw parts.0 (ap (λ (z : List (List ℕ)). l ∷ z) (front_all ls parts.1))

-- two scripts with one text are equal
abbrev pub OneText : Type 0
OneText = (s t : Program) → IsScript s → IsScript t → text s ≡ text t → s ≡ t

pub same_lines : (one : OneText) (c d : Program) → IsScript c → IsScript d → lines (text d) ≡ lines (text c) → d ≡ c
same_lines one c d h k same = one d c k h (sym (joined_lines (text d)) ∙ ap joined same ∙ joined_lines (text c))

-- where more lines are shared than the first has, both are the same
pub take_whole : (m : ℕ) (xs ys : List (List ℕ)) → take m xs ≡ ys → length ys < m → xs ≡ ys
take_whole m xs ys e lt = by (cases_lt (length xs) m)
  where
    by : (length xs < m) ⊎ (m ≤ length xs) → xs ≡ ys
    by (inl short) = sym (take_all m xs (omega arith)) ∙ e
    by (inr long) = absurd (omega (arith, length-take-le m xs long, ap length e))

pub same_script : (one : OneText) (m : ℕ) (c d : Program) (xs ys : List (List ℕ)) → IsScript c → IsScript d → take m (lines_behind d ys) ≡ take m (lines_behind c xs) → length (lines (text c)) < m → d ≡ c
same_script one m c d xs ys h k same lt =
    let mine : take m (front (lines (text c) ++ history_line ∷ xs)) ≡ lines (text c) = ap (take m) (front_before (lines (text c)) xs (script_none c)) ∙ take_all m (lines (text c)) (omega arith) in
    let yours : take m (front (lines (text d) ++ history_line ∷ ys)) ≡ take m (lines (text d)) = ap (take m) (front_before (lines (text d)) ys (script_none d)) in
    let shared : take m (lines (text d)) ≡ lines (text c) = sym yours ∙ sym (front_take m (lines (text d) ++ history_line ∷ ys)) ∙ ap front same ∙ front_take m (lines (text c) ++ history_line ∷ xs) ∙ mine in
    same_lines one c d h k (take_whole m (lines (text d)) (lines (text c)) shared lt)

pub cons_take : (m : ℕ) (x y : List ℕ) (xs ys : List (List ℕ)) → take (suc m) (x ∷ xs) ≡ take (suc m) (y ∷ ys) → (x ≡ y) × (take m xs ≡ take m ys)
cons_take m x y xs ys e = let front : x ≡ y = cc in let rest : take m xs ≡ take m ys = cc in (front, rest)
