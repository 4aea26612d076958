-- The parts of a report, one after the other.
use Rattle.std.proofs.Common.{◌≡◌, ℕ, List, [], ◌++◌, length, sym, ap, ◌∙◌}
use Rattle.std.proofs.lemmas.List.{append_assoc}
use Rattle.hm_base.specs.Program.{Program}
use Rattle.hm_history.specs.declared.Entry.{Entry}
use Rattle.hm_script.specs.Spelling.{text}
use Rattle.hm_report.specs.declared.outlet.Stop.{Stop}
use Rattle.hm_report.specs.Report.{history_line, entry_lines, unfinished_lines, end_line, report_by}
use Rattle.hm_io.specs.Streams.{SinkState}
use Rattle.hm_report.specs.Sends.{Sends, GoesOn, Stops}
use Rattle.hm_report.proofs.Sending.{stops_before, stops_after, goes_more, goes_stops, sends_more}

-- the script's text and the lines of the entries
abbrev pub first_lines : Program → List Entry → List ℕ
first_lines c h = text c ++ (history_line ++ entry_lines 0 h)

report_split : (c : Program) (h : List Entry) (ended : ℕ → ℕ) → (first_lines c h ++ unfinished_lines c ended) ++ end_line (length h) ≡ report_by c h ended
report_split c h ended =
    let rest = unfinished_lines c ended ++ end_line (length h) in
    append_assoc (first_lines c h) (unfinished_lines c ended) (end_line (length h)) ∙ append_assoc (text c) (history_line ++ entry_lines 0 h) rest ∙ ap (λ z. text c ++ z) (append_assoc history_line (entry_lines 0 h) rest)

pub stops_in_lines : (t u : SinkState) (c : Program) (h : List Entry) (ended : ℕ → ℕ) (front : List ℕ) (why : Stop) → front ≡ first_lines c h → Stops t u front why → Stops t u (report_by c h ended) why
stops_in_lines t u c h ended front why same stops =
    let all = stops_before t u (front ++ unfinished_lines c ended) (end_line (length h)) why (stops_before t u front (unfinished_lines c ended) why stops) in
    let e : (front ++ unfinished_lines c ended) ++ end_line (length h) ≡ report_by c h ended = ap (λ z. (z ++ unfinished_lines c ended) ++ end_line (length h)) same ∙ report_split c h ended in
    rw (← e) all

pub stops_in_unfinished : (t u v : SinkState) (c : Program) (h : List Entry) (ended : ℕ → ℕ) (out mid xs ys : List ℕ) (why : Stop) → out ≡ [] → xs ≡ first_lines c h → ys ≡ unfinished_lines c ended → GoesOn t u out mid xs → Stops u v (mid ++ ys) why → Stops t v (report_by c h ended) why
stops_in_unfinished t u v c h ended out mid xs ys why empty first second goes stops =
    let all = stops_before t v (out ++ (xs ++ ys)) (end_line (length h)) why (goes_stops t u v out mid xs ys why goes stops) in
    let e : (out ++ (xs ++ ys)) ++ end_line (length h) ≡ report_by c h ended =
    ap (λ z. (z ++ (xs ++ ys)) ++ end_line (length h)) empty ∙ ap (λ z. (z ++ ys) ++ end_line (length h)) first ∙ ap (λ z. (first_lines c h ++ z) ++ end_line (length h)) second ∙ report_split c h ended in
    rw (← e) all

-- what went out before the end, and what is in the buffer then
before_end : (t u v : SinkState) (c : Program) (h : List Entry) (ended : ℕ → ℕ) (out mid d xs ys : List ℕ) → out ≡ [] → xs ≡ first_lines c h → ys ≡ unfinished_lines c ended → GoesOn t u out mid xs → GoesOn u v mid d ys → (front : List ℕ) × Sends t v front × (front ++ (d ++ end_line (length h)) ≡ report_by c h ended)
before_end t u v c h ended out mid d xs ys empty first second goes more =
    let both = goes_more t u v out mid d xs ys goes more in
    let e : both.front ++ d ≡ first_lines c h ++ unfinished_lines c ended = sym both.whole ∙ ap (λ z. z ++ (xs ++ ys)) empty ∙ ap (λ z. z ++ ys) first ∙ ap (λ z. first_lines c h ++ z) second in
    (both.front, both.sends, sym (append_assoc both.front d (end_line (length h))) ∙ ap (λ z. z ++ end_line (length h)) e ∙ report_split c h ended)

pub report_sends : (t u v w : SinkState) (c : Program) (h : List Entry) (ended : ℕ → ℕ) (out mid d xs ys : List ℕ) (n : ℕ) → out ≡ [] → xs ≡ first_lines c h → ys ≡ unfinished_lines c ended → n ≡ length h → GoesOn t u out mid xs → GoesOn u v mid d ys → Sends v w (d ++ end_line n) → Sends t w (report_by c h ended)
report_sends t u v w c h ended out mid d xs ys n empty first second count goes more sends =
    let b = before_end t u v c h ended out mid d xs ys empty first second goes more in
    let last : Sends v w (d ++ end_line (length h)) = rw (← count) sends in
    rw (← b.2) (sends_more t v w b.0 (d ++ end_line (length h)) b.1 last)

pub stops_at_end : (t u v w : SinkState) (c : Program) (h : List Entry) (ended : ℕ → ℕ) (out mid d xs ys : List ℕ) (n : ℕ) (why : Stop) → out ≡ [] → xs ≡ first_lines c h → ys ≡ unfinished_lines c ended → n ≡ length h → GoesOn t u out mid xs → GoesOn u v mid d ys → Stops v w (d ++ end_line n) why → Stops t w (report_by c h ended) why
stops_at_end t u v w c h ended out mid d xs ys n why empty first second count goes more stops =
    let b = before_end t u v c h ended out mid d xs ys empty first second goes more in
    let last : Stops v w (d ++ end_line (length h)) why = rw (← count) stops in
    rw (← b.2) (stops_after t v w b.0 (d ++ end_line (length h)) why b.1 last)
