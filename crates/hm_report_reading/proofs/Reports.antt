-- A report that was read, or its first bad line.
use Rattle.std.proofs.Common.{◌≡◌, ℕ, ◌+◌, ◌⊎◌, Bool, true, false, cond, eqb, List, [], ◌∷◌, ◌++◌, length, take, refl, sym, subst, ap, ◌∙◌, arith, append_assoc, append-nil}
use Rattle.std.specs.Prelude.{Result, Ok, Err}
use Rattle.std.specs.List.{flat_map}
use Rattle.std.proofs.lemmas.List.Elements.{All-nil}
use Rattle.hm_base.specs.Program.{Program, IsScript}
use Rattle.hm_history.specs.Kernel.Going.{ops_of}
use Rattle.hm_history.specs.Memory.Words.{numbers}
use Rattle.hm_history.specs.declared.Entry.{Entry}
use Rattle.hm_report_reading.specs.Entries.{BeginsNone, ReadsAll, unfinished_text}
use Rattle.hm_report_reading.specs.declared.reader.Unfinished.{Unfinished}
use Rattle.hm_report.specs.Report.{end_line, entry_lines, first_unended, history_line, report, unfinished_line}
use Rattle.hm_report_front.specs.Heads.{IsBadHead, IsHead, lines_behind}
use Rattle.hm_report_front.specs.Parts.{entry_list, Differ}
use Rattle.hm_report_front.specs.declared.head.BadLine.{BadLine}
use Rattle.hm_report_front.proofs.Scripts.{OneText}
use Rattle.hm_report_front.proofs.TextLines.{lines_entries}
use Rattle.hm_report_reading.specs.Reports.{IsFirstUnread, IsReadBehind, IsReadOf, IsThis, ReadsUnfinished, unfinished_list}
use Rattle.hm_report_reading.specs.Texts.{HasText, text_of, unended, unended_of, unfinished_texts}
use Rattle.hm_report_reading.specs.declared.reading.WholeReport.{WholeReport}
use Rattle.hm_report_reading.proofs.Exact.{EndsEntries, ReadTo, first_bad, is_text, one_text_of, past}
use Rattle.hm_report_reading.proofs.TextLines.{body, lines_end, text_lines}
use Rattle.hm_script.specs.Automaton.{lines}
use Rattle.hm_script.specs.Spelling.{text}

-- ---- what was read behind `history`

-- the lines of entries end where those of the rest begin
ends_there : (h : List Entry) (ls ms : List (List ℕ)) → ls ≡ ms → BeginsNone (length h) ls ⊎ (length h ≡ 2000000) → EndsEntries h ms
ends_there h ls ms same ends = subst (EndsEntries h) same ends

read_to : (whole bytes middle rest : List ℕ) (c : Program) (h : List Entry) (us : List Unfinished) → IsScript c → ReadsAll bytes h middle → ReadsUnfinished middle us rest → lines whole ≡ lines_behind c (lines bytes) → ReadTo whole c h us (lines rest)
read_to whole bytes middle rest c h us s es u parts = record {
  has = record { script = s; entries = es.fits; few = es.few; unfinished = u.fits };
  lines_are = parts ∙ ap (lines_behind c) (ap lines es.bytes_are ∙ lines_entries 0 h middle ∙ ap (λ (z : List (List ℕ)). entry_list 0 h ++ z) u.lines_are);
  entries_end = ends_there h (lines middle) (unfinished_list us ++ lines rest) u.lines_are es.ends;
  unfinished_end = u.ends;
}

pub bad_behind : (one : OneText) (whole bytes middle rest end : List ℕ) (c : Program) (h : List Entry) (us : List Unfinished) (first n k : ℕ) → IsScript c → ReadsAll bytes h middle → ReadsUnfinished middle us rest → end ≡ end_line (length h) → Differ (lines end) (lines rest) n
    → k ≡ first + (length h + length us) + n → lines whole ≡ lines_behind c (lines bytes) → first ≡ length (lines (text c)) + 2 → IsFirstUnread whole k
bad_behind one whole bytes middle rest end c h us first n k s es u is differ at parts number =
    let other : Differ (end_line (length h) ∷ []) (lines rest) n = subst (λ (z : List (List ℕ)). Differ z (lines rest) n) (ap lines is ∙ lines_end (length h)) differ in
    let line : past c h us n ≡ k = omega (arith, number, at) in
    subst (IsFirstUnread whole) line (first_bad one whole c h us n (lines rest) (read_to whole bytes middle rest c h us s es u parts) other)

pub good_behind : (whole bytes middle rest end : List ℕ) (c : Program) (h : List Entry) (us : List Unfinished) → IsScript c → ReadsAll bytes h middle → ReadsUnfinished middle us rest → end ≡ end_line (length h) → end ≡ rest
    → lines whole ≡ lines_behind c (lines bytes) → HasText c h us × (whole ≡ text_of c h us)
good_behind whole bytes middle rest end c h us s es u is same parts =
    let r = read_to whole bytes middle rest c h us s es u parts in
    let last : lines rest ≡ end_line (length h) ∷ [] = ap lines (sym same ∙ is) ∙ lines_end (length h) in
    (r.has, is_text whole c h us (subst (ReadTo whole c h us) last r))

-- ---- the whole

-- a bad line of the script, or no `history`
pub bad_head : (whole : List ℕ) (n : ℕ) → IsBadHead whole n → IsFirstUnread whole n
bad_head whole n h = record {
  bad = λ c es us x. h.bad c (body es us) x.has.script (ap (take n) (sym (text_lines c es us)) ∙ x.shares);
  before = λ k lt. let b = h.before k lt in (b.0, [], [], record { has = record { script = b.1; entries = All-nil _; few = omega arith; unfinished = All-nil _ }; shares = ap (take k) (text_lines b.0 [] []) ∙ b.2 (body [] []) });
}

pub read_whole : (whole rest : List ℕ) (c : Program) (first : ℕ) (r : Result WholeReport BadLine) → IsHead whole c first rest → IsReadBehind c first rest r → IsReadOf whole r
read_whole whole rest c first r h read = read whole h.lines_are h.number

pub is_this : (one : OneText) (bytes : List ℕ) (r : Result WholeReport BadLine) (c : Program) (h : List Entry) (us : List Unfinished) → IsReadOf bytes r → HasText c h us → bytes ≡ text_of c h us → IsThis c h us r
is_this one bytes (Ok r) c h us read has is = let o = one_text_of one r.script c r.history.entries h r.unfinished.items us read.0 has (sym read.1 ∙ is) in (o.0, o.1, o.2)
is_this one bytes (Err bad) c h us read has is = absurd (read.bad c h us (record { has = has; shares = ap (λ (z : List ℕ). take bad.0 (lines z)) (sym is) }))

-- ---- the report of a history

module _ (c : Program) (h : List Entry) where
  abbrev count : ℕ → ℕ
  count a = length (ops_of c a)

  one_of : (a index n : ℕ) (t : Bool) → unfinished_texts (cond t [] (record { actor = a; index = index } ∷ [])) ≡ cond t [] (unfinished_text a index)
  one_of a index n true = refl
  one_of a index n false = append-nil (unfinished_text a index)

  among : (actors : List ℕ) → unfinished_texts (flat_map (λ a. unended_of a (first_unended c h a) (count a)) actors) ≡ flat_map (λ a. unfinished_line a (first_unended c h a) (count a)) actors
  among [] = refl
  among (a ∷ actors) =
      let first = unended_of a (first_unended c h a) (count a) in
      let others = flat_map (λ b. unended_of b (first_unended c h b) (count b)) actors in
      texts_append first others ∙ ap (λ (z : List ℕ). z ++ unfinished_texts others) (one_of a (first_unended c h a) (count a) (eqb (first_unended c h a) (count a))) ∙ ap (λ (z : List ℕ). unfinished_line a (first_unended c h a) (count a) ++ z) (among actors)
    where
      texts_append : (us vs : List Unfinished) → unfinished_texts (us ++ vs) ≡ unfinished_texts us ++ unfinished_texts vs
      texts_append [] vs = refl
      texts_append (u ∷ us) vs = ap (λ (z : List ℕ). unfinished_text u.actor u.index ++ z) (texts_append us vs) ∙ sym (append_assoc (unfinished_text u.actor u.index) (unfinished_texts us) (unfinished_texts vs))

  pub text_is_report : text_of c h (unended c h) ≡ report c h
  text_is_report = ap (λ (z : List ℕ). text c ++ (history_line ++ (entry_lines 0 h ++ (z ++ end_line (length h))))) (among (numbers 0 (length c.actors)))
