-- How far the loops over entries and actors have come.
use Rattle.std.proofs.Common.{◌≡◌, ℕ, suc, ◌+◌, ◌<◌, ◌≤◌, None, List, [], ◌∷◌, ◌++◌, length, sym, ap, ◌∙◌, arith, append_assoc}
use Rattle.hm_base.specs.Program.{Program}
use Rattle.hm_history.specs.declared.Entry.{Entry}
use Rattle.hm_script.specs.Automaton.{lines}
use Rattle.hm_history.specs.Kernel.Going.{ops_of}
use Rattle.hm_report.specs.Counted.{EndsAreCounted}
use Rattle.hm_report.specs.Ended.{ended_after}
use Rattle.hm_report.specs.Report.{entry_line, unfinished_line, unfinished_among, unfinished_lines, end_line, first_unended}
use Rattle.hm_report.proofs.Lines.{among_more, unfinished_same}
use Rattle.hm_world.specs.WorldValue.{WorldValue}
use Rattle.hm_report_front.specs.Parts.{entry_list}
use Rattle.hm_check.specs.Parts.{Added, tail_of}

-- ---- the entries

-- the entries of the lines up to here were added
pub record Taking (t u : WorldValue) (bytes rest : List ℕ) : Type 0 where
  pub same : u.script ≡ t.script
  pub running : u.halted ≡ None
  pub parts : lines bytes ≡ entry_list 0 u.history ++ lines rest

entry_list_more : (at : ℕ) (h : List Entry) (e : Entry) → entry_list at (h ++ e ∷ []) ≡ entry_list at h ++ entry_line (at + length h) e ∷ []
entry_list_more at [] e = let z : at ≡ at + 0 = omega arith in ap (λ (k : ℕ). entry_line k e ∷ []) z
entry_list_more at (x ∷ h) e =
    let z : (at + 1) + length h ≡ at + suc (length h) = omega arith in
    ap (λ (y : List (List ℕ)). entry_line at x ∷ y) (entry_list_more (at + 1) h e ∙ ap (λ (k : ℕ). entry_list (at + 1) h ++ entry_line k e ∷ []) z)

pub taking_more : (t u w : WorldValue) (bytes rest line after : List ℕ) → Taking t u bytes rest → lines rest ≡ line ∷ lines after → Added u w line → Taking t w bytes after
taking_more t u w bytes rest line after k cut added =
    let z : 0 + length u.history ≡ length u.history = omega arith in
    let more : entry_list 0 (u.history ++ added.entry ∷ []) ≡ entry_list 0 u.history ++ line ∷ [] =
    entry_list_more 0 u.history added.entry ∙ ap (λ (n : ℕ). entry_list 0 u.history ++ entry_line n added.entry ∷ []) z ∙ ap (λ (l : List ℕ). entry_list 0 u.history ++ l ∷ []) (sym added.text) in
    let history : w.history ≡ u.history ++ added.entry ∷ [] = ap (λ (x : WorldValue). x.history) added.grown in
    record {
      same = ap (λ (x : WorldValue). x.script) added.grown ∙ k.same;
      running = ap (λ (x : WorldValue). x.halted) added.grown ∙ k.running;
      parts = k.parts ∙ ap (λ (x : List (List ℕ)). entry_list 0 u.history ++ x) cut ∙ sym (append_assoc (entry_list 0 u.history) (line ∷ []) (lines after)) ∙ ap (λ (x : List (List ℕ)). x ++ lines after) (sym (ap (entry_list 0) history ∙ more));
    }

-- ---- the end

pub tail_more : (c : Program) (ended : ℕ → ℕ) (actor index count : ℕ) (out new : List ℕ) → out ≡ unfinished_among c ended actor → new ≡ out ++ unfinished_line actor index count → index ≡ ended actor → count ≡ length (ops_of c actor) → new ≡ unfinished_among c ended (actor + 1)
tail_more c ended actor index count out new before put at many =
    put ∙ ap (λ (z : List ℕ). z ++ unfinished_line actor index count) before ∙ ap (λ (i : ℕ). unfinished_among c ended actor ++ unfinished_line actor i count) at ∙ ap (λ (n : ℕ). unfinished_among c ended actor ++ unfinished_line actor (ended actor) n) many ∙ sym (among_more c ended actor)

pub tail_ends : (c : Program) (h : List Entry) (ended : ℕ → ℕ) (actor n : ℕ) (out new : List ℕ) → actor ≡ length c.actors → length c.actors ≤ 16 → out ≡ unfinished_among c ended actor → new ≡ out ++ end_line n → n ≡ length h → EndsAreCounted c h
    → ((a : ℕ) → a < 16 → ended a ≡ (ended_after c h a).operations) → new ≡ tail_of c h
tail_ends c h ended actor n out new all few before put many counts each =
    let lines_are : unfinished_among c ended actor ≡ unfinished_lines c (first_unended c h) = ap (unfinished_among c ended) all ∙ unfinished_same c ended (first_unended c h) (λ a lt. each a (omega arith) ∙ sym (counts a)) in
    put ∙ ap (λ (z : List ℕ). z ++ end_line n) (before ∙ lines_are) ∙ ap (λ (k : ℕ). unfinished_lines c (first_unended c h) ++ end_line k) many
