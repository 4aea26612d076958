-- The front of a report, read, or its first bad line.
use Rattle.std.proofs.Common.{◌≡◌, ℕ, ◌+◌, ◌<◌, ◌≤◌, ◌⊎◌, inl, inr, Option, Some, None, Bor, List, [], ◌∷◌, ◌++◌, length, take, sym, subst, ap, ◌∙◌, arith, append-nil, length-append}
use Rattle.std.proofs.lemmas.Bool.{cases_lt}
use Rattle.std.proofs.lemmas.List.{take_all, take-append-le, length-take-le}
use Rattle.hm_base.specs.Program.{Program, IsScript}
use Rattle.hm_report.specs.Report.{history_line}
use Rattle.hm_script.specs.Automaton.{lines}
use Rattle.hm_script.specs.BadLine.{IsFirstBad}
use Rattle.hm_script.specs.Spelling.{text}
use Rattle.hm_report_front.specs.Heads.{IsBadHead, IsHead, lines_behind}
use Rattle.hm_report_front.specs.Parts.{FrontOf}
use Rattle.hm_report_front.proofs.Scripts.{front, front_take, front_before, front_all, take_whole}
use Rattle.hm_report_front.proofs.TextLines.{script_none}

-- what the bytes have behind the script's lines
behind : (whole script : List ℕ) (rest : Option (Bor (List ℕ))) → FrontOf whole script rest → (others : List (List ℕ)) × (lines whole ≡ lines script ++ others)
behind whole script None h = ([], h.goes_on ∙ sym (append-nil (lines script)))
behind whole script (Some rest) h = (history_line ∷ lines rest.now, h.goes_on)

head_front : (whole script : List ℕ) (rest : Option (Bor (List ℕ))) → FrontOf whole script rest → front (lines whole) ≡ lines script
head_front whole script None h = ap front h.goes_on ∙ front_all (lines script) h.none
head_front whole script (Some rest) h = ap front h.goes_on ∙ front_before (lines script) (lines rest.now) h.none

-- the first lines of a script, whatever follows them
first_lines : (c : Program) (k : ℕ) (ls : List (List ℕ)) → k ≤ length (lines (text c)) → take k (lines_behind c ls) ≡ take k (lines (text c))
first_lines c k ls le = take-append-le k (lines (text c)) (history_line ∷ ls) le

-- a line of the script that no script has
refused_script : (whole script : List ℕ) (rest : Option (Bor (List ℕ))) (n : ℕ) → FrontOf whole script rest → IsFirstBad script n → IsBadHead whole n
refused_script whole script rest n h b = record { bad = no_other; before = λ k lt. let s = b.before k lt in shared k s.0 s.1.script s.1.shares (cases_lt (length (lines script)) k) }
  where
    no_other : (d : Program) (ls : List (List ℕ)) → IsScript d → take n (lines_behind d ls) ≡ take n (lines whole) → ⊥
    no_other d ls s same =
        let mine : front (take n (lines_behind d ls)) ≡ take n (lines (text d)) = front_take n (lines_behind d ls) ∙ ap (take n) (front_before (lines (text d)) ls (script_none d)) in
        let theirs : front (take n (lines whole)) ≡ take n (lines script) = front_take n (lines whole) ∙ ap (take n) (head_front whole script rest h) in
        b.bad d (record { script = s; shares = sym mine ∙ ap front same ∙ theirs })

    shared : (k : ℕ) (s : Program) → IsScript s → take k (lines (text s)) ≡ take k (lines script) → (length (lines script) < k) ⊎ (k ≤ length (lines script)) → (c : Program) × IsScript c × ((ls : List (List ℕ)) → take k (lines_behind c ls) ≡ take k (lines whole))
    shared k s is e (inl short) =
        let all : take k (lines script) ≡ lines script = take_all k (lines script) (omega arith) in
        let same : lines (text s) ≡ lines script = take_whole k (lines (text s)) (lines script) (e ∙ all) short in
        absurd (b.bad s (record { script = is; shares = ap (take n) same }))
    shared k s is e (inr long) =
        let o = behind whole script rest h in
        let enough : k ≤ length (lines (text s)) = reaches (cases_lt (length (lines (text s))) k) in
        (s, is, λ ls. first_lines s k ls enough ∙ e ∙ sym (take-append-le k (lines script) o.0 long) ∙ ap (take k) (sym o.1))
      where
        reaches : (length (lines (text s)) < k) ⊎ (k ≤ length (lines (text s))) → k ≤ length (lines (text s))
        reaches (inl lt) = absurd (omega (arith, ap length (sym (take_all k (lines (text s)) (omega arith)) ∙ e), length-take-le k (lines script) long))
        reaches (inr le) = le

pub bad_script : (whole script : List ℕ) (rest : Option (Bor (List ℕ))) (n m : ℕ) → FrontOf whole script rest → IsFirstBad script n → m ≡ n → IsBadHead whole m
bad_script whole script rest n m h b same = subst (IsBadHead whole) (sym same) (refused_script whole script rest n h b)

-- a script without `history` behind it
no_history : (whole : List ℕ) (c : Program) → IsScript c → lines whole ≡ lines (text c) → IsBadHead whole (length (lines (text c)) + 1)
no_history whole c s is = record { bad = bad; before = λ k lt. (c, s, λ ls. first_lines c k ls (omega arith) ∙ ap (take k) (sym is)) }
  where
    n : ℕ
    n = length (lines (text c)) + 1

    bad : (d : Program) (ls : List (List ℕ)) → IsScript d → take n (lines_behind d ls) ≡ take n (lines whole) → ⊥
    bad d ls t same =
        let all : take n (lines whole) ≡ lines (text c) = ap (take n) is ∙ take_all n (lines (text c)) (omega arith) in
        let e : lines_behind d ls ≡ lines (text c) = take_whole n (lines_behind d ls) (lines (text c)) (same ∙ all) (omega arith) in
        let script : lines (text d) ≡ lines (text c) = sym (front_before (lines (text d)) ls (script_none d)) ∙ ap front e ∙ front_all (lines (text c)) (script_none c) in
        omega (arith, ap length e, length-append (lines (text d)) (history_line ∷ ls), ap length script)

pub no_line : (whole script : List ℕ) (c : Program) (n : ℕ) → IsScript c → FrontOf whole script None → text c ≡ script → n ≡ length (lines script) → IsBadHead whole (n + 1)
no_line whole script c n s h is many = subst (λ (k : ℕ). IsBadHead whole (k + 1)) (ap (λ (z : List ℕ). length (lines z)) is ∙ sym many) (no_history whole c s (h.goes_on ∙ ap lines (sym is)))

-- `history`, and what follows
pub goes_on : (whole script : List ℕ) (rest : Bor (List ℕ)) (c : Program) (n : ℕ) → IsScript c → FrontOf whole script (Some rest) → text c ≡ script → n ≡ length (lines script) → IsHead whole c (n + 2) rest.now
goes_on whole script rest c n s h is many = record {
  script = s;
  lines_are = h.goes_on ∙ ap (λ (z : List ℕ). lines z ++ history_line ∷ lines rest.now) (sym is);
  number = ap (λ (k : ℕ). k + 2) (many ∙ ap (λ (z : List ℕ). length (lines z)) (sym is));
}
