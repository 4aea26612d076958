-- A verdict is right: the report is legal, or the line is the first that no legal report has there.
use Rattle.std.proofs.Common.{◌≡◌, ℕ, suc, ◌+◌, ◌≤◌, List, [], ◌∷◌, ◌++◌, length, take, sym, subst, ap, ◌∙◌, arith, append_assoc, append-nil, length-append}
use Rattle.hm_base.specs.Program.{Program, IsScript}
use Rattle.hm_history.specs.Laws.{DueFrom}
use Rattle.hm_history.specs.declared.Entry.{Entry}
use Rattle.hm_history.proofs.RunLemmas.{legal_due}
use Rattle.hm_laws.specs.Laws.{HistoryIsLegal}
use Rattle.hm_script.specs.Automaton.{lines}
use Rattle.hm_script.specs.Spelling.{text}
use Rattle.hm_report.specs.Report.{entry_line, history_line, report}
use Rattle.hm_check.specs.FirstBad.{IsLegalReport, IsFirstBad}
use Rattle.hm_check.specs.declared.verdict.Verdict.{Verdict}
use Rattle.hm_check.specs.declared.verdict.Verdict.TheVariants.{Yes, No}
use Rattle.hm_check.specs.Judged.{Judged, IsYes, JudgedBehind}
use Rattle.hm_check.specs.Parts.{tail_of, MayCome, BeginsNoEntry, TakenFrom}
use Rattle.hm_report_front.specs.Heads.{IsBadHead, IsHead}
use Rattle.hm_report_front.specs.Parts.{entry_list, Differ}
use Rattle.hm_report_front.proofs.Scripts.{OneText, same_script, cons_take}
use Rattle.hm_report_front.proofs.Shared.{one_lines, shares_behind, cancel}
use Rattle.hm_report_front.proofs.TextLines.{entry_list_length}
use Rattle.hm_check.proofs.ReportLines.{report_lines}
use Rattle.hm_check.proofs.Naming.{tail_line, no_entry}
use Rattle.hm_check.proofs.Follow.{follow}

-- ---- no other report goes on so

-- what was read up to a line: a script, and entries that were due
pub record ReadTo (whole : List ℕ) (c : Program) (h : List Entry) (ls : List (List ℕ)) : Type 0 where
  pub script : IsScript c
  pub dues : DueFrom c [] h
  pub lines_are : lines whole ≡ lines (text c) ++ history_line ∷ (entry_list 0 h ++ ls)

-- the first of these lines is no entry's that may come next
starts : (c : Program) (h : List Entry) (n : ℕ) (e : Entry) (more ls : List (List ℕ)) → BeginsNoEntry c h ls → MayCome c h e → take (suc n) (entry_line (length h) e ∷ more) ≡ take (suc n) ls → ⊥
starts c h n e more [] ends may same = absurd cc
starts c h n e more (l ∷ ls) ends may same = ends e may (sym (cons_take n (entry_line (length h) e) l more ls same).0)

-- what follows the entries that are shared
goes_on : (c : Program) (h g : List Entry) (n : ℕ) (ls : List (List ℕ)) (more : List Entry) → BeginsNoEntry c h ls → Differ (lines (tail_of c h)) ls n → length g ≤ 2000000 → g ≡ h ++ more → DueFrom c h more
    → take (suc n) (entry_list (length h) more ++ lines (tail_of c g)) ≡ take (suc n) ls → ⊥
goes_on c h g n ls [] ends differ few is d same =
    let whole : g ≡ h = is ∙ append-nil h in
    let one : n + 1 ≡ suc n = omega arith in
    differ.next (rw one (subst (λ (z : List Entry). take (suc n) (lines (tail_of c z)) ≡ take (suc n) ls) whole same))
goes_on c h g n ls (e ∷ more) ends differ few is d same =
    starts c h n e (entry_list (length h + 1) more ++ lines (tail_of c g)) ls ends (record { is_due = d.0; room = omega (arith, ap length is, length-append h (e ∷ more)) }) same

no_other_here : (c : Program) (h g : List Entry) (n : ℕ) (ls : List (List ℕ)) → IsScript c → DueFrom c [] h → BeginsNoEntry c h ls → Differ (lines (tail_of c h)) ls n → IsLegalReport c g
    → take (length h + suc n) (entry_list 0 g ++ lines (tail_of c g)) ≡ take (length h + suc n) (entry_list 0 h ++ ls) → ⊥
no_other_here c h g n ls s dues ends differ legal same =
    let f = follow c g [] h g 0 (suc n) ls s dues (legal_due c [] g legal.legal) same in
    let at : 0 + length h ≡ length h = omega arith in
    goes_on c h g n ls f.more ends differ legal.few f.is f.due (subst (λ (k : ℕ). take (suc n) (entry_list k f.more ++ lines (tail_of c g)) ≡ take (suc n) ls) at f.shares)

-- as many lines as were read, and those that are shared, and one more
abbrev pub past : Program → List Entry → ℕ → ℕ
past c h n = length (lines (text c)) + suc (length h + suc n)

no_other : (one : OneText) (whole : List ℕ) (c d : Program) (h g : List Entry) (n : ℕ) (ls : List (List ℕ)) → ReadTo whole c h ls → BeginsNoEntry c h ls → Differ (lines (tail_of c h)) ls n → IsLegalReport d g
    → take (past c h n) (lines (report d g)) ≡ take (past c h n) (lines whole) → ⊥
no_other one whole c d h g n ls read ends differ legal same =
    let mine : List (List ℕ) = entry_list 0 h ++ ls in
    let both : take (past c h n) (lines (text d) ++ history_line ∷ (entry_list 0 g ++ lines (tail_of d g))) ≡ take (past c h n) (lines (text c) ++ history_line ∷ mine) =
    ap (take (past c h n)) (sym (report_lines d g)) ∙ same ∙ ap (take (past c h n)) read.lines_are in
    let script : d ≡ c = same_script one (past c h n) c d mine (entry_list 0 g ++ lines (tail_of d g)) read.script legal.script both (omega arith) in
    here d script legal both
  where
    at_script : IsLegalReport c g → take (past c h n) (lines (text c) ++ history_line ∷ (entry_list 0 g ++ lines (tail_of c g))) ≡ take (past c h n) (lines (text c) ++ history_line ∷ (entry_list 0 h ++ ls)) → ⊥
    at_script k e =
        let cut = cancel (suc (length h + suc n)) (lines (text c)) (history_line ∷ (entry_list 0 g ++ lines (tail_of c g))) (history_line ∷ (entry_list 0 h ++ ls)) e in
        no_other_here c h g n ls read.script read.dues ends differ k (cons_take (length h + suc n) history_line history_line (entry_list 0 g ++ lines (tail_of c g)) (entry_list 0 h ++ ls) cut).1

    here : (d : Program) → d ≡ c → IsLegalReport d g → take (past c h n) (lines (text d) ++ history_line ∷ (entry_list 0 g ++ lines (tail_of d g))) ≡ take (past c h n) (lines (text c) ++ history_line ∷ (entry_list 0 h ++ ls)) → ⊥
    here d is k e = subst (λ (z : Program). IsLegalReport z g → take (past c h n) (lines (text z) ++ history_line ∷ (entry_list 0 g ++ lines (tail_of z g))) ≡ take (past c h n) (lines (text c) ++ history_line ∷ (entry_list 0 h ++ ls)) → ⊥) (sym is) at_script k e

-- the line after those that are shared is the first bad one
pub first_bad : (one : OneText) (whole : List ℕ) (c : Program) (h : List Entry) (n : ℕ) (ls : List (List ℕ)) → IsLegalReport c h → ReadTo whole c h ls → BeginsNoEntry c h ls → Differ (lines (tail_of c h)) ls n → IsFirstBad whole (past c h n)
first_bad one whole c h n ls legal read ends differ = record {
  bad = λ d g x. no_other one whole c d h g n ls read ends differ x.legal x.shares;
  before = λ k lt. (c, h, record { legal = legal; shares = ap (take k) mine ∙ shares_behind k n begun (lines (tail_of c h)) ls differ.same (omega (arith, long)) ∙ ap (take k) (sym theirs) });
}
  where
    begun : List (List ℕ)
    begun = lines (text c) ++ history_line ∷ entry_list 0 h

    long : length begun ≡ length (lines (text c)) + suc (length h)
    long = length-append (lines (text c)) (history_line ∷ entry_list 0 h) ∙ ap (λ (k : ℕ). length (lines (text c)) + suc k) (entry_list_length 0 h)

    mine : lines (report c h) ≡ begun ++ lines (tail_of c h)
    mine = report_lines c h ∙ sym (append_assoc (lines (text c)) (history_line ∷ entry_list 0 h) (lines (tail_of c h)))

    theirs : lines whole ≡ begun ++ ls
    theirs = read.lines_are ∙ sym (append_assoc (lines (text c)) (history_line ∷ entry_list 0 h) ls)

-- where the end follows, the bytes are the report
pub is_report : (whole : List ℕ) (c : Program) (h : List Entry) (tail : List ℕ) → ReadTo whole c h (lines tail) → tail_of c h ≡ tail → whole ≡ report c h
is_report whole c h tail read same = one_lines whole (report c h) (read.lines_are ∙ ap (λ (z : List ℕ). lines (text c) ++ history_line ∷ (entry_list 0 h ++ lines z)) (sym same) ∙ sym (report_lines c h))

-- ---- the script alone

no_entries : (c : Program) → IsScript c → IsLegalReport c []
no_entries c s = record { script = s; legal = tt; few = omega arith }

-- a bad line of the script, or no `history`
pub judged_head : (whole : List ℕ) (n : ℕ) → IsBadHead whole n → IsFirstBad whole n
judged_head whole n h = record {
  bad = λ d g x. h.bad d (entry_list 0 g ++ lines (tail_of d g)) x.legal.script (ap (take n) (sym (report_lines d g)) ∙ x.shares);
  before = λ k lt. let b = h.before k lt in (b.0, [], record { legal = no_entries b.0 b.1; shares = ap (take k) (report_lines b.0 []) ∙ b.2 (lines (tail_of b.0 [])) });
}

-- ---- the script and the history are the report's own

pub one_history : (one : OneText) (c d : Program) (h g : List Entry) → IsLegalReport c h → IsLegalReport d g → report d g ≡ report c h → (d ≡ c) × (g ≡ h)
one_history one c d h g mine yours same =
    let e : lines (text d) ++ history_line ∷ (entry_list 0 g ++ lines (tail_of d g)) ≡ lines (text c) ++ history_line ∷ (entry_list 0 h ++ lines (tail_of c h)) = sym (report_lines d g) ∙ ap lines same ∙ report_lines c h in
    let m : ℕ = length (lines (text c)) + suc (length h + 1) in
    let both = ap (take m) e in
    let script : d ≡ c = same_script one m c d (entry_list 0 h ++ lines (tail_of c h)) (entry_list 0 g ++ lines (tail_of d g)) mine.script yours.script both (omega arith) in
    (script, here d script yours both)
  where
    m : ℕ
    m = length (lines (text c)) + suc (length h + 1)

    ends : (more : List Entry) → g ≡ h ++ more → take 1 (entry_list (0 + length h) more ++ lines (tail_of c g)) ≡ take 1 (lines (tail_of c h)) → g ≡ h
    ends [] is e = is ∙ append-nil h
    ends (x ∷ more) is e =
        let t = tail_line c h in
        let first = cons_take 0 (entry_line (0 + length h) x) t.line (entry_list (0 + length h + 1) more ++ lines (tail_of c g)) t.others (e ∙ ap (take 1) t.is) in
        absurd (no_entry c h (0 + length h) x t (sym first.0))

    at_script : IsLegalReport c g → take m (lines (text c) ++ history_line ∷ (entry_list 0 g ++ lines (tail_of c g))) ≡ take m (lines (text c) ++ history_line ∷ (entry_list 0 h ++ lines (tail_of c h))) → g ≡ h
    at_script k e =
        let cut = cancel (suc (length h + 1)) (lines (text c)) (history_line ∷ (entry_list 0 g ++ lines (tail_of c g))) (history_line ∷ (entry_list 0 h ++ lines (tail_of c h))) e in
        let rest = (cons_take (length h + 1) history_line history_line (entry_list 0 g ++ lines (tail_of c g)) (entry_list 0 h ++ lines (tail_of c h)) cut).1 in
        let f = follow c g [] h g 0 1 (lines (tail_of c h)) mine.script (legal_due c [] h mine.legal) (legal_due c [] g k.legal) rest in
        ends f.more f.is f.shares

    here : (d : Program) → d ≡ c → IsLegalReport d g → take m (lines (text d) ++ history_line ∷ (entry_list 0 g ++ lines (tail_of d g))) ≡ take m (lines (text c) ++ history_line ∷ (entry_list 0 h ++ lines (tail_of c h))) → g ≡ h
    here d is k e = subst (λ (z : Program). IsLegalReport z g → take m (lines (text z) ++ history_line ∷ (entry_list 0 g ++ lines (tail_of z g))) ≡ take m (lines (text c) ++ history_line ∷ (entry_list 0 h ++ lines (tail_of c h))) → g ≡ h) (sym is) at_script k e

-- the report of a script and a legal history is theirs
pub is_yes : (one : OneText) (bytes : List ℕ) (v : Verdict) (c : Program) (h : List Entry) → Judged bytes v → IsLegalReport c h → bytes ≡ report c h → IsYes c h v
is_yes one bytes (Yes r) c h judged legal is = one_history one c r.script h r.history.entries legal judged.0 (sym judged.1 ∙ is)
is_yes one bytes (No n) c h judged legal is = absurd (judged.bad c h (record { legal = legal; shares = ap (λ (z : List ℕ). take n (lines z)) (sym is) }))

-- ---- what was read of a report behind `history`

read_to : (whole bytes rest : List ℕ) (c : Program) (h : List Entry) → TakenFrom c bytes c h rest → lines whole ≡ lines (text c) ++ history_line ∷ lines bytes → ReadTo whole c h (lines rest)
read_to whole bytes rest c h t parts = record { script = t.script; dues = t.dues; lines_are = parts ∙ ap (λ (z : List (List ℕ)). lines (text c) ++ history_line ∷ z) t.lines_are }

legal_of : (c : Program) (bytes rest : List ℕ) (h : List Entry) → HistoryIsLegal → TakenFrom c bytes c h rest → IsLegalReport c h
legal_of c bytes rest h law t = record { script = t.script; legal = law c t.script h t.dues; few = t.few }

bad_here : (one : OneText) (law : HistoryIsLegal) (whole bytes rest tail : List ℕ) (c : Program) (h : List Entry) (first len n : ℕ) → TakenFrom c bytes c h rest → tail ≡ tail_of c h → Differ (lines tail) (lines rest) n
    → lines whole ≡ lines (text c) ++ history_line ∷ lines bytes → first ≡ length (lines (text c)) + 2 → len ≡ length h → IsFirstBad whole (first + len + n)
bad_here one law whole bytes rest tail c h first len n t is differ parts at many =
    let other : Differ (lines (tail_of c h)) (lines rest) n = subst (λ (z : List ℕ). Differ (lines z) (lines rest) n) is differ in
    let number : past c h n ≡ first + len + n = omega (arith, at, many) in
    subst (IsFirstBad whole) number (first_bad one whole c h n (lines rest) (legal_of c bytes rest h law t) (read_to whole bytes rest c h t parts) t.ends other)

pub judged_bad : (one : OneText) (law : HistoryIsLegal) (whole bytes rest tail : List ℕ) (c d : Program) (h : List Entry) (first len n : ℕ) → TakenFrom c bytes d h rest → tail ≡ tail_of d h → Differ (lines tail) (lines rest) n
    → lines whole ≡ lines (text c) ++ history_line ∷ lines bytes → first ≡ length (lines (text c)) + 2 → len ≡ length h → IsFirstBad whole (first + len + n)
judged_bad one law whole bytes rest tail c d h first len n t is differ parts at many =
    bad_here one law whole bytes rest tail c h first len n (subst (λ (z : Program). TakenFrom c bytes z h rest) t.same t) (subst (λ (z : Program). tail ≡ tail_of z h) t.same is) differ parts at many

good_here : (law : HistoryIsLegal) (whole bytes rest tail : List ℕ) (c : Program) (h : List Entry) → TakenFrom c bytes c h rest → tail ≡ tail_of c h → tail ≡ rest → lines whole ≡ lines (text c) ++ history_line ∷ lines bytes
    → IsLegalReport c h × (whole ≡ report c h)
good_here law whole bytes rest tail c h t is same parts = (legal_of c bytes rest h law t, is_report whole c h rest (read_to whole bytes rest c h t parts) (sym is ∙ same))

pub judged_good : (law : HistoryIsLegal) (whole bytes rest tail : List ℕ) (c d : Program) (h : List Entry) → TakenFrom c bytes d h rest → tail ≡ tail_of d h → tail ≡ rest → lines whole ≡ lines (text c) ++ history_line ∷ lines bytes
    → IsLegalReport d h × (whole ≡ report d h)
judged_good law whole bytes rest tail c d h t is same parts =
    subst (λ (z : Program). IsLegalReport z h × (whole ≡ report z h)) (sym t.same) (good_here law whole bytes rest tail c h (subst (λ (z : Program). TakenFrom c bytes z h rest) t.same t) (subst (λ (z : Program). tail ≡ tail_of z h) t.same is) same parts)

-- ---- the verdict

-- `history`, and what follows
pub judged_behind : (whole rest : List ℕ) (c : Program) (first : ℕ) (v : Verdict) → IsHead whole c first rest → JudgedBehind c first rest v → Judged whole v
judged_behind whole rest c first v h judged = judged whole h.lines_are h.number
