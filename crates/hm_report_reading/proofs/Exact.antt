-- Texts that begin with the same lines have the same parts.
use Rattle.std.proofs.Common.{◌≡◌, ℕ, suc, ◌+◌, ◌^◌, ◌<◌, ◌≤◌, ◌⊎◌, inl, inr, List, [], ◌∷◌, ◌++◌, length, take, refl, sym, subst, ap, ◌∙◌, arith, append_assoc, append-nil, length-append}
use Rattle.std.specs.List.{All}
use Rattle.hm_base.specs.Program.{Program}
use Rattle.hm_history.specs.declared.Entry.{Entry}
use Rattle.hm_report_reading.specs.Entries.{BeginsNone, FitsUnfinished, unfinished_text}
use Rattle.hm_report_reading.specs.Fits.{FitsEntry}
use Rattle.hm_report_reading.specs.declared.reader.Unfinished.{Unfinished}
use Rattle.hm_report_reading.proofs.LineAgain.{one_entry, one_unfinished}
use Rattle.hm_report.specs.Report.{end_line, entry_line, history_line}
use Rattle.hm_report_front.specs.Heads.{lines_behind}
use Rattle.hm_report_front.specs.Parts.{entry_list, Differ}
use Rattle.hm_report_front.proofs.Scripts.{OneText, same_script, cons_take}
use Rattle.hm_report_front.proofs.Shared.{one_lines, shares_behind, cancel}
use Rattle.hm_report_front.proofs.TextLines.{entry_list_length}
use Rattle.hm_report_reading.specs.Reports.{BeginsNoUnfinished, IsFirstUnread, unfinished_list}
use Rattle.hm_report_reading.specs.Texts.{HasText, text_of}
use Rattle.hm_report_reading.proofs.Following.{first_passes, rest_pass, follow}
use Rattle.hm_report_reading.proofs.TextLines.{body, end_no_entry, end_no_unfinished, text_lines, unfinished_length, unfinished_no_entry}
use Rattle.hm_script.specs.Automaton.{lines}
use Rattle.hm_script.specs.Spelling.{text}

-- where the entries that were read end
abbrev pub EndsEntries : List Entry → List (List ℕ) → Type 0
EndsEntries h ls = BeginsNone (length h) ls ⊎ (length h ≡ 2000000)

-- what was read up to a line: a script, entries, and operations that have not ended
pub record ReadTo (whole : List ℕ) (c : Program) (h : List Entry) (us : List Unfinished) (ls : List (List ℕ)) : Type 0 where
  pub has : HasText c h us
  pub lines_are : lines whole ≡ lines_behind c (entry_list 0 h ++ (unfinished_list us ++ ls))
  pub entries_end : EndsEntries h (unfinished_list us ++ ls)
  pub unfinished_end : BeginsNoUnfinished ls

-- ---- the entries

-- behind the entries comes a line of none
pub record Tail (ls : List (List ℕ)) : Type 0 where
  pub line : List ℕ
  pub others : List (List ℕ)
  pub is : ls ≡ line ∷ others
  pub no_entry : (at : ℕ) (e : Entry) → line ≡ entry_line at e → ⊥

tail_of : (us : List Unfinished) (n : ℕ) → Tail (unfinished_list us ++ end_line n ∷ [])
tail_of [] n = record { line = end_line n; others = []; is = refl; no_entry = λ at e. end_no_entry at n e }
tail_of (u ∷ us) n = record { line = unfinished_text u.actor u.index; others = unfinished_list us ++ end_line n ∷ []; is = refl; no_entry = λ at e. unfinished_no_entry at e u }

-- the first of these lines is that of no entry that may come next
starts : (h : List Entry) (n : ℕ) (e : Entry) (more ls : List (List ℕ)) → EndsEntries h ls → length h < 2000000 → FitsEntry e → take (suc n) (entry_line (length h) e ∷ more) ≡ take (suc n) ls → ⊥
starts h n e more ls (inr full) room fits same = omega (arith, full, room)
starts h n e more [] (inl none) room fits same = absurd cc
starts h n e more (l ∷ ls) (inl none) room fits same = none e fits (sym (cons_take n (entry_line (length h) e) l more ls same).0)

-- what the others have behind the entries that are shared
pub record SameEntries (h g : List Entry) (n : ℕ) (tail ls : List (List ℕ)) : Type 0 where
  pub is : g ≡ h
  pub shares : take (suc n) tail ≡ take (suc n) ls

same_entries : (h g : List Entry) (n : ℕ) (tail ls : List (List ℕ)) → Tail tail → All FitsEntry h → All FitsEntry g → length h ≤ 2000000 → length g ≤ 2000000 → EndsEntries h ls
    → take (length h + suc n) (entry_list 0 g ++ tail) ≡ take (length h + suc n) (entry_list 0 h ++ ls) → SameEntries h g n tail ls
same_entries h g n tail ls t hs gs few others ends same =
    let whole = subst (λ (z : List (List ℕ)). take (length h + suc n) (entry_list 0 g ++ z) ≡ take (length h + suc n) (entry_list 0 h ++ ls)) t.is same in
    let f = follow entry_line entry_list (λ at. refl) (λ at x xs. refl) FitsEntry (2 ^ 64) one_entry h g 0 (suc n) t.line t.others ls t.no_entry (omega (arith, few)) hs gs whole in
    by f.more f.is f.shares
  where
    by : (more : List Entry) → g ≡ h ++ more → take (suc n) (entry_list (0 + length h) more ++ t.line ∷ t.others) ≡ take (suc n) ls → SameEntries h g n tail ls
    by [] is shares = record { is = is ∙ append-nil h; shares = ap (take (suc n)) t.is ∙ shares }
    by (e ∷ more) is shares =
        let fits : FitsEntry e = first_of (subst (All FitsEntry) is gs) in
        let room : length h < 2000000 = omega (arith, ap length is, length-append h (e ∷ more), others) in
        let at : 0 + length h ≡ length h = omega arith in
        absurd (starts h n e (entry_list (0 + length h + 1) more ++ t.line ∷ t.others) ls ends room fits (subst (λ (k : ℕ). take (suc n) (entry_line k e ∷ (entry_list (0 + length h + 1) more ++ t.line ∷ t.others)) ≡ take (suc n) ls) at shares))
      where
        first_of : All FitsEntry (h ++ e ∷ more) → FitsEntry e
        first_of all = first_passes FitsEntry e more (rest_pass FitsEntry h (e ∷ more) all)

-- ---- the operations that have not ended

starts_other : (n : ℕ) (v : Unfinished) (more ls : List (List ℕ)) → BeginsNoUnfinished ls → FitsUnfinished v → take (suc n) (unfinished_text v.actor v.index ∷ more) ≡ take (suc n) ls → ⊥
starts_other n v more [] ends fits same = absurd cc
starts_other n v more (l ∷ ls) ends fits same = ends v fits (sym (cons_take n (unfinished_text v.actor v.index) l more ls same).0)

pub record SameUnfinished (us vs : List Unfinished) (n count : ℕ) (ls : List (List ℕ)) : Type 0 where
  pub is : vs ≡ us
  pub shares : take (suc n) (end_line count ∷ []) ≡ take (suc n) ls

same_unfinished : (us vs : List Unfinished) (n count : ℕ) (ls : List (List ℕ)) → All FitsUnfinished us → All FitsUnfinished vs → BeginsNoUnfinished ls
    → take (length us + suc n) (unfinished_list vs ++ end_line count ∷ []) ≡ take (length us + suc n) (unfinished_list us ++ ls) → SameUnfinished us vs n count ls
same_unfinished us vs n count ls hs gs ends same =
    let f = follow (λ at u. unfinished_text u.actor u.index) (λ at xs. unfinished_list xs) (λ at. refl) (λ at x xs. refl) FitsUnfinished (suc (length us)) (λ at x y lt. one_unfinished x y) us vs 0 (suc n) (end_line count) [] ls (λ k u. end_no_unfinished count u) (omega arith) hs gs same in
    by f.more f.is f.shares
  where
    by : (more : List Unfinished) → vs ≡ us ++ more → take (suc n) (unfinished_list more ++ end_line count ∷ []) ≡ take (suc n) ls → SameUnfinished us vs n count ls
    by [] is shares = record { is = is ∙ append-nil us; shares = shares }
    by (v ∷ more) is shares =
        let fits : FitsUnfinished v = first_passes FitsUnfinished v more (rest_pass FitsUnfinished us (v ∷ more) (subst (All FitsUnfinished) is gs)) in
        absurd (starts_other n v (unfinished_list more ++ end_line count ∷ []) ls ends fits shares)

-- ---- all parts

pub record SameParts (h g : List Entry) (us vs : List Unfinished) (n : ℕ) (ls : List (List ℕ)) : Type 0 where
  pub entries : g ≡ h
  pub unfinished : vs ≡ us
  pub shares : take (suc n) (end_line (length h) ∷ []) ≡ take (suc n) ls

same_parts : (c d : Program) (h g : List Entry) (us vs : List Unfinished) (n : ℕ) (ls : List (List ℕ)) → HasText c h us → HasText d g vs → EndsEntries h (unfinished_list us ++ ls) → BeginsNoUnfinished ls
    → take (length h + (length us + suc n)) (body g vs) ≡ take (length h + (length us + suc n)) (entry_list 0 h ++ (unfinished_list us ++ ls)) → SameParts h g us vs n ls
same_parts c d h g us vs n ls mine yours entries_end unfinished_end same =
    let tail : List (List ℕ) = unfinished_list vs ++ end_line (length g) ∷ [] in
    let k : length us + suc n ≡ suc (length us + n) = omega arith in
    let here = subst (λ (m : ℕ). take (length h + m) (entry_list 0 g ++ tail) ≡ take (length h + m) (entry_list 0 h ++ (unfinished_list us ++ ls))) k same in
    let e = same_entries h g (length us + n) tail (unfinished_list us ++ ls) (tail_of vs (length g)) mine.entries yours.entries mine.few yours.few entries_end here in
    let u = same_unfinished us vs n (length g) ls mine.unfinished yours.unfinished unfinished_end (subst (λ (m : ℕ). take m tail ≡ take m (unfinished_list us ++ ls)) (sym k) e.shares) in
    record { entries = e.is; unfinished = u.is; shares = subst (λ (z : List Entry). take (suc n) (end_line (length z) ∷ []) ≡ take (suc n) ls) e.is u.shares }

-- as many lines as were read, and those that are shared, and one more
abbrev pub past : Program → List Entry → List Unfinished → ℕ → ℕ
past c h us n = length (lines (text c)) + suc (length h + (length us + suc n))

-- a text that has the lines that were read is that of what was read
pub record SameText (c d : Program) (h g : List Entry) (us vs : List Unfinished) (n : ℕ) (ls : List (List ℕ)) : Type 0 where
  pub script : d ≡ c
  pub parts : SameParts h g us vs n ls

pub same_text : (one : OneText) (whole : List ℕ) (c d : Program) (h g : List Entry) (us vs : List Unfinished) (n : ℕ) (ls : List (List ℕ)) → ReadTo whole c h us ls → HasText d g vs
    → take (past c h us n) (lines (text_of d g vs)) ≡ take (past c h us n) (lines whole) → SameText c d h g us vs n ls
same_text one whole c d h g us vs n ls read yours same =
    let m = past c h us n in
    let mine : List (List ℕ) = entry_list 0 h ++ (unfinished_list us ++ ls) in
    let both : take m (lines_behind d (body g vs)) ≡ take m (lines_behind c mine) = ap (take m) (sym (text_lines d g vs)) ∙ same ∙ ap (take m) read.lines_are in
    let script : d ≡ c = same_script one m c d mine (body g vs) read.has.script yours.script both (omega arith) in
    let here : take m (lines_behind c (body g vs)) ≡ take m (lines_behind c mine) = subst (λ (z : Program). take m (lines_behind z (body g vs)) ≡ take m (lines_behind c mine)) script both in
    let behind = cancel (suc (length h + (length us + suc n))) (lines (text c)) (history_line ∷ body g vs) (history_line ∷ mine) here in
    record { script = script; parts = same_parts c d h g us vs n ls read.has yours read.entries_end read.unfinished_end (cons_take (length h + (length us + suc n)) history_line history_line (body g vs) mine behind).1 }

-- the line after those that are shared is the first bad one
pub first_bad : (one : OneText) (whole : List ℕ) (c : Program) (h : List Entry) (us : List Unfinished) (n : ℕ) (ls : List (List ℕ)) → ReadTo whole c h us ls → Differ (end_line (length h) ∷ []) ls n → IsFirstUnread whole (past c h us n)
first_bad one whole c h us n ls read differ = record {
  bad = λ d g vs x. no_other (same_text one whole c d h g us vs n ls read x.has x.shares);
  before = λ k lt. (c, h, us, record { has = read.has; shares = ap (take k) mine ∙ shares_behind k n begun (end_line (length h) ∷ []) ls differ.same (omega (arith, long)) ∙ ap (take k) (sym theirs) });
}
  where
    no_other : {d : Program} {g : List Entry} {vs : List Unfinished} → SameText c d h g us vs n ls → ⊥
    no_other s = let k : n + 1 ≡ suc n = omega arith in differ.next (rw k s.parts.shares)

    begun : List (List ℕ)
    begun = lines_behind c (entry_list 0 h ++ unfinished_list us)

    long : length begun ≡ length (lines (text c)) + suc (length h + length us)
    long = length-append (lines (text c)) (history_line ∷ (entry_list 0 h ++ unfinished_list us)) ∙ ap (λ (k : ℕ). length (lines (text c)) + suc k) (length-append (entry_list 0 h) (unfinished_list us) ∙ ap (λ (k : ℕ). k + length (unfinished_list us)) (entry_list_length 0 h) ∙ ap (λ (k : ℕ). length h + k) (unfinished_length us))

    split : (xs : List (List ℕ)) → lines_behind c (entry_list 0 h ++ (unfinished_list us ++ xs)) ≡ begun ++ xs
    split xs = ap (λ (z : List (List ℕ)). lines (text c) ++ history_line ∷ z) (sym (append_assoc (entry_list 0 h) (unfinished_list us) xs)) ∙ sym (append_assoc (lines (text c)) (history_line ∷ (entry_list 0 h ++ unfinished_list us)) xs)

    mine : lines (text_of c h us) ≡ begun ++ end_line (length h) ∷ []
    mine = text_lines c h us ∙ split (end_line (length h) ∷ [])

    theirs : lines whole ≡ begun ++ ls
    theirs = read.lines_are ∙ split ls

-- where the last line follows, the bytes are the text
pub is_text : (whole : List ℕ) (c : Program) (h : List Entry) (us : List Unfinished) → ReadTo whole c h us (end_line (length h) ∷ []) → whole ≡ text_of c h us
is_text whole c h us read = one_lines whole (text_of c h us) (read.lines_are ∙ sym (text_lines c h us))

-- ---- two texts

ended : (h : List Entry) (us : List Unfinished) → BeginsNone (length h) (unfinished_list us ++ end_line (length h) ∷ [])
ended h [] = λ e fits. end_no_entry (length h) (length h) e
ended h (u ∷ us) = λ e fits. unfinished_no_entry (length h) e u

pub one_text_of : (one : OneText) (c d : Program) (h g : List Entry) (us vs : List Unfinished) → HasText c h us → HasText d g vs → text_of c h us ≡ text_of d g vs → (c ≡ d) × (h ≡ g) × (us ≡ vs)
one_text_of one c d h g us vs mine yours same =
    let read : ReadTo (text_of c h us) c h us (end_line (length h) ∷ []) = record { has = mine; lines_are = text_lines c h us; entries_end = inl (ended h us); unfinished_end = λ u fits. end_no_unfinished (length h) u } in
    let s = same_text one (text_of c h us) c d h g us vs 0 (end_line (length h) ∷ []) read yours (ap (λ (z : List ℕ). take (past c h us 0) (lines z)) (sym same)) in
    (sym s.script, sym s.parts.entries, sym s.parts.unfinished)
