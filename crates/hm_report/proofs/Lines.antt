-- Lines from their parts, and one more line.
use Rattle.std.proofs.Common.{◌≡◌, ℕ, zero, suc, ◌+◌, ◌-◌, ◌≤◌, ◌<◌, List, [], ◌∷◌, ◌++◌, length, get_or, take, drop, refl, sym, ap, ◌∙◌, arith, add-zero}
use Rattle.std.specs.List.{flat_map, join_with_byte}
use Rattle.std.specs.Fmt.{decimal}
use Rattle.std.proofs.Math.Seq.{drop-cons}
use Rattle.std.proofs.lemmas.List.{append_assoc, append-nil, take-append-drop, take_more, length-take-le}
use Rattle.std.proofs.lemmas.Grind.{flat_map-append}
use Rattle.hm_base.specs.Program.{Program}
use Rattle.hm_history.proofs.Numbers.{numbers_append}
use Rattle.hm_history.specs.Memory.Words.{numbers}
use Rattle.hm_history.specs.Kernel.Going.{ops_of}
use Rattle.hm_history.specs.declared.Kind.{Kind}
use Rattle.hm_history.specs.declared.Entry.{Entry}
use Rattle.hm_script.specs.Spelling.{hex_text, text}
use Rattle.hm_report.specs.Line.{spaced}
use Rattle.hm_report.specs.Words.{actor_text, kind_words, head_words, tail_text}
use Rattle.hm_report.specs.Report.{entry_line, entry_lines, unfinished_line, unfinished_among, unfinished_lines, history_line, end_line, report_by}

-- words with one space between them
join_spaced : (w : List ℕ) (ws : List (List ℕ)) → join_with_byte 32 (w ∷ ws) ≡ w ++ spaced ws
join_spaced w [] = sym (append-nil w)
join_spaced w (x ∷ ws) = ap (λ (z : List ℕ). w ++ 32 ∷ z) (join_spaced x ws)

tail_last : (ws : List (List ℕ)) (w : List ℕ) → spaced (ws ++ w ∷ []) ≡ spaced ws ++ 32 ∷ w
tail_last ws w = flat_map-append (λ (x : List ℕ). 32 ∷ x) ws (w ∷ []) ∙ ap (λ (z : List ℕ). spaced ws ++ z) (append-nil (32 ∷ w))

-- the bytes that an entry tells come last
kind_split : (k : Kind) → spaced (kind_words k) ≡ spaced (head_words k) ++ tail_text k
kind_split (Kind.Loaded x a bs) = tail_last (head_words (Kind.Loaded x a bs)) (hex_text bs)
kind_split (Kind.Stored x a bs) = tail_last (head_words (Kind.Stored x a bs)) (hex_text bs)
kind_split (Kind.Fetched m a bs) = tail_last (head_words (Kind.Fetched m a bs)) (hex_text bs)
kind_split k = sym (append-nil (spaced (kind_words k)))

pub entry_split : (at : ℕ) (e : Entry) → entry_line at e ≡ (decimal at ++ spaced (actor_text e.actor ∷ head_words e.kind)) ++ (tail_text e.kind ++ 10 ∷ [])
entry_split at e =
    let head = spaced (actor_text e.actor ∷ head_words e.kind) in
    let whole : spaced (actor_text e.actor ∷ kind_words e.kind) ≡ head ++ tail_text e.kind =
    ap (λ (z : List ℕ). (32 ∷ actor_text e.actor) ++ z) (kind_split e.kind) ∙ sym (append_assoc (32 ∷ actor_text e.actor) (spaced (head_words e.kind)) (tail_text e.kind)) in
    ap (λ (z : List ℕ). z ++ 10 ∷ []) (join_spaced (decimal at) (actor_text e.actor ∷ kind_words e.kind) ∙ ap (λ (z : List ℕ). decimal at ++ z) whole ∙ sym (append_assoc (decimal at) head (tail_text e.kind)))
    ∙ append_assoc (decimal at ++ head) (tail_text e.kind) (10 ∷ [])

-- the lines of entries, in two parts
lines_append : (at : ℕ) (xs ys : List Entry) → entry_lines at (xs ++ ys) ≡ entry_lines at xs ++ entry_lines (at + length xs) ys
lines_append at [] ys = ap (λ n. entry_lines n ys) (sym (add-zero at))
lines_append at (x ∷ xs) ys =
    let more : (at + 1) + length xs ≡ at + suc (length xs) = omega arith in
    ap (λ (z : List ℕ). entry_line at x ++ z) (lines_append (at + 1) xs ys ∙ ap (λ n. entry_lines (at + 1) xs ++ entry_lines n ys) more) ∙ sym (append_assoc (entry_line at x) (entry_lines (at + 1) xs) (entry_lines (at + suc (length xs)) ys))

lines_cut : (es : List Entry) (i : ℕ) → i ≤ length es → (ys : List Entry) → entry_lines 0 (take i es ++ ys) ≡ entry_lines 0 (take i es) ++ entry_lines i ys
lines_cut es i le ys =
    let at : 0 + length (take i es) ≡ i = omega (arith, length-take-le i es le) in
    lines_append 0 (take i es) ys ∙ ap (λ n. entry_lines 0 (take i es) ++ entry_lines n ys) at

pub lines_more : (es : List Entry) (i : ℕ) (e : Entry) → i < length es → e ≡ get_or es i e → entry_lines 0 (take (i + 1) es) ≡ entry_lines 0 (take i es) ++ entry_line i e
lines_more es i e lt is =
    let le : i ≤ length es = omega arith in
    ap (entry_lines 0) (take_more es i e lt ∙ ap (λ (x : Entry). take i es ++ x ∷ []) (sym is)) ∙ lines_cut es i le (e ∷ []) ∙ ap (λ (z : List ℕ). entry_lines 0 (take i es) ++ z) (append-nil (entry_line i e))

pub lines_at : (es : List Entry) (i : ℕ) (e : Entry) → i < length es → e ≡ get_or es i e → entry_lines 0 es ≡ entry_lines 0 (take i es) ++ (entry_line i e ++ entry_lines (i + 1) (drop (suc i) es))
lines_at es i e lt is =
    let le : i ≤ length es = omega arith in
    let next : drop i es ≡ e ∷ drop (suc i) es = drop-cons es i e lt ∙ ap (λ (x : Entry). x ∷ drop (suc i) es) (sym is) in
    ap (entry_lines 0) (sym (take-append-drop i es)) ∙ lines_cut es i le (drop i es) ∙ ap (λ (ys : List Entry). entry_lines 0 (take i es) ++ entry_lines i ys) next

-- the lines of actors, in two parts
pub among_more : (c : Program) (ended : ℕ → ℕ) (n : ℕ) → unfinished_among c ended (n + 1) ≡ unfinished_among c ended n ++ unfinished_line n (ended n) (length (ops_of c n))
among_more c ended n =
    let f : ℕ → List ℕ = λ a. unfinished_line a (ended a) (length (ops_of c a)) in
    let z : 0 + n ≡ n = omega arith in
    ap (flat_map f) (numbers_append 0 n 1 ∙ ap (λ k. numbers 0 n ++ numbers k 1) z) ∙ flat_map-append f (numbers 0 n) (n ∷ []) ∙ ap (λ (y : List ℕ). flat_map f (numbers 0 n) ++ y) (append-nil (f n))

pub among_at : (c : Program) (ended : ℕ → ℕ) (n m : ℕ) → n < m → unfinished_among c ended m ≡ unfinished_among c ended n ++ (unfinished_line n (ended n) (length (ops_of c n)) ++ flat_map (λ a. unfinished_line a (ended a) (length (ops_of c a))) (numbers (n + 1) (m - n - 1)))
among_at c ended n m lt =
    let f : ℕ → List ℕ = λ a. unfinished_line a (ended a) (length (ops_of c a)) in
    let rest = m - n - 1 in
    let e : m ≡ (n + 1) + rest = omega arith in
    let z : 0 + (n + 1) ≡ n + 1 = omega arith in
    ap (unfinished_among c ended) e ∙ ap (flat_map f) (numbers_append 0 (n + 1) rest ∙ ap (λ k. numbers 0 (n + 1) ++ numbers k rest) z) ∙ flat_map-append f (numbers 0 (n + 1)) (numbers (n + 1) rest)
    ∙ ap (λ (y : List ℕ). y ++ flat_map f (numbers (n + 1) rest)) (among_more c ended n) ∙ append_assoc (unfinished_among c ended n) (f n) (flat_map f (numbers (n + 1) rest))

-- the lines of the actors go by how many operations of each have ended
lines_by : (f g : ℕ → List ℕ) (from n : ℕ) → ((a : ℕ) → a < from + n → f a ≡ g a) → flat_map f (numbers from n) ≡ flat_map g (numbers from n)
lines_by f g from zero same = refl
lines_by f g from (suc n) same =
    let rest : (a : ℕ) → a < (from + 1) + n → f a ≡ g a = λ a lt. same a (omega arith) in
    let tail = lines_by f g (from + 1) n rest in
    ap (λ (z : List ℕ). z ++ flat_map f (numbers (from + 1) n)) (same from (omega arith)) ∙ ap (λ (z : List ℕ). g from ++ z) tail

pub unfinished_same : (c : Program) (ended other : ℕ → ℕ) → ((a : ℕ) → a < length c.actors → ended a ≡ other a) → unfinished_lines c ended ≡ unfinished_lines c other
unfinished_same c ended other same =
    lines_by (λ a. unfinished_line a (ended a) (length (ops_of c a))) (λ a. unfinished_line a (other a) (length (ops_of c a))) 0 (length c.actors)
    (λ a lt. ap (λ i. unfinished_line a i (length (ops_of c a))) (same a (omega arith)))

pub report_same : (c : Program) (h : List Entry) (ended other : ℕ → ℕ) → ((a : ℕ) → ended a ≡ other a) → report_by c h ended ≡ report_by c h other
report_same c h ended other same =
    ap (λ z. text c ++ (history_line ++ (entry_lines 0 h ++ (z ++ end_line (length h))))) (unfinished_same c ended other (λ a lt. same a))
