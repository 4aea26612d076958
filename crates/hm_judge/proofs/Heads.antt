-- The lines before a bad line of a script, and the reason of its refusal.
use Rattle.std.proofs.Common.{◌≡◌, ℕ, zero, suc, ◌+◌, ◌-◌, ◌<◌, ◌≤◌, ◌⊎◌, inl, inr, Bool, true, false, if◌then◌else◌, Result, Ok, Err, List, [], ◌∷◌, ◌++◌, length, map, take, drop, refl, sym, ap, subst, ◌∙◌, arith, append_assoc, append-nil}
use Rattle.std.specs.Prelude.{nat_lt}
use Rattle.std.proofs.lemmas.Bool.{cases_lt, lt-ltb}
use Rattle.std.proofs.lemmas.Bool.Decides.{nat_tests}
use Rattle.std.proofs.lemmas.List.{length-take, length-take-le, take_all, take-append-le, take-take, take-append-drop}
use Rattle.std.proofs.Math.Seq.{take-append-add}
use Rattle.hm_base.specs.Program.{Program, IsScript}
use Rattle.hm_report.specs.Report.{history_line}
use Rattle.hm_report_front.specs.Heads.{IsBadHead, lines_behind}
use Rattle.hm_report_front.proofs.Scripts.{take_whole}
use Rattle.hm_report_front.proofs.Shared.{one_lines}
use Rattle.hm_script.specs.Automaton.{State, after, lines, next, reading, run, start, state}
use Rattle.hm_script.specs.BadLine.{IsFirstBad, SharesLines}
use Rattle.hm_script.specs.Built.{IsBuilt}
use Rattle.hm_script.specs.Reader.{Reads}
use Rattle.hm_script.specs.Spelling.{line, script_lines, text}
use Rattle.hm_script.specs.declared.part.Part.{Part}
use Rattle.hm_script.specs.declared.part.Part.TheVariants.{Start, Headed, Devices, Skipped, Actors, Turns, Drained}
use Rattle.hm_script.specs.declared.reason.Reason.{Reason}
use Rattle.hm_script.specs.declared.reason.Refused.{Refused}
use Rattle.hm_script.specs.declared.reason.ScriptError.{ScriptError}
use Rattle.hm_script.proofs.Again.{leads-lines, reading_again, script_ends}
use Rattle.hm_script.proofs.FirstBad.{Stands}
use Rattle.hm_script.proofs.LinesAgain.{lines-text}
use Rattle.hm_script.proofs.Taken.{Reached, lines_read}
use Rattle.hm_script.proofs.TextTaken.{empty_built, next_adds}
use Rattle.hm_script.proofs.Whole.{all_built, whole}
use Rattle.hm_judge.specs.Judgements.{AreScript, IsHeadEnding}

-- ---- the reason's line

-- no script and `history` are the first lines
no_history : (bytes : List ℕ) (n k : ℕ) (c : Program) → IsBadHead bytes n → IsScript c → take k (lines_behind c []) ≡ take k (lines bytes) → length (lines (text c)) < k → ⊥
no_history bytes n k c head script shares short =
    let xs : List (List ℕ) = lines (text c) in
    let m = length xs + 1 in
    let le : m ≤ k = omega arith in
    let front : take m (lines bytes) ≡ xs ++ history_line ∷ [] =
    sym (take-take m k (lines bytes) le) ∙ ap (take m) (sym shares) ∙ take-take m k (lines_behind c []) le ∙ take-append-add xs (history_line ∷ []) 1 in
    let whole : lines_behind c (drop m (lines bytes)) ≡ lines bytes =
    sym (append_assoc xs (history_line ∷ []) (drop m (lines bytes))) ∙ ap (λ (z : List (List ℕ)). z ++ drop m (lines bytes)) (sym front) ∙ take-append-drop m (lines bytes) in
    head.bad c (drop m (lines bytes)) script (ap (take n) whole)

-- the first bad line of the bytes as a script comes no earlier than that of them as a report
not_before : (bytes : List ℕ) (n m : ℕ) → IsBadHead bytes n → IsFirstBad bytes m → m < n → ⊥
not_before bytes n m head first lt = by (head.before m lt)
  where
    by : (c : Program) × IsScript c × ((ls : List (List ℕ)) → take m (lines_behind c ls) ≡ take m (lines bytes)) → ⊥
    by b = cases (cases_lt (length (lines (text b.0))) m)
      where
        cases : (length (lines (text b.0)) < m) ⊎ (m ≤ length (lines (text b.0))) → ⊥
        cases (inr long) = first.bad b.0 (record { script = b.1; shares = sym (take-append-le m (lines (text b.0)) (history_line ∷ []) long) ∙ b.2 [] })
        cases (inl short) = no_history bytes n m b.0 head b.1 (b.2 []) short

-- and no later, if they are no script
not_behind : (bytes : List ℕ) (n m : ℕ) → IsBadHead bytes n → IsFirstBad bytes m → ((s : Program) → IsScript s → text s ≡ bytes → ⊥) → n < m → ⊥
not_behind bytes n m head first none lt = by (first.before n lt)
  where
    by : (s : Program) × SharesLines bytes n s → ⊥
    by b = cases (cases_lt (length (lines (text b.0))) n)
      where
        xs : List (List ℕ)
        xs = lines (text b.0)

        cases : (length xs < n) ⊎ (n ≤ length xs) → ⊥
        cases (inr long) = head.bad b.0 [] b.1.script (take-append-le n xs (history_line ∷ []) long ∙ b.1.shares)
        cases (inl short) =
            let mine : take n xs ≡ xs = take_all n xs (omega arith) in
            let same : lines bytes ≡ xs = take_whole n (lines bytes) xs (sym b.1.shares ∙ mine) short in
            none b.0 b.1.script (sym (one_lines bytes (text b.0) same))

-- so the reason is that of the bad line
pub same_line : (bytes : List ℕ) (n m : ℕ) → IsBadHead bytes n → IsFirstBad bytes m → ((s : Program) → IsScript s → text s ≡ bytes → ⊥) → m ≡ n
same_line bytes n m head first none = by (cases_lt m n) (cases_lt n m)
  where
    by : (m < n) ⊎ (n ≤ m) → (n < m) ⊎ (m ≤ n) → m ≡ n
    by (inl lt) b = absurd (not_before bytes n m head first lt)
    by (inr le) (inl lt) = absurd (not_behind bytes n m head first none lt)
    by (inr le) (inr ge) = omega arith

-- ---- what was read of the bytes as a script

-- no script has them as its text, if they were refused
pub none_reads : (bytes : List ℕ) (r : Refused) → ((s : Program) → IsScript s → text s ≡ bytes → Reads (Err (ScriptError.Refused r)) (Ok s)) → (s : Program) → IsScript s → text s ≡ bytes → ⊥
none_reads bytes r only s is same = let e : Ok s ≡ Err r = only s is same in absurd cc

-- ---- the lines before it

script_lines_are : (c : Program) → IsScript c → lines (text c) ≡ map line (script_lines c)
script_lines_are c sc = let e = script_ends whole c sc (all_built c) in lines-text (script_lines c) (leads-lines whole start (state e.part c) (script_lines c) e.leads)

-- the state to which the first lines of a script lead
stands : (n : ℕ) (t : State) (ls : List (List ℕ)) (c : Program) → run whole n t ls ≡ Ok c → Reached t.part t.script → IsBuilt whole t.script → (k : ℕ) → k ≤ length ls → Stands whole t ls k
unfolding run
stands n t ls c e h b zero le = record { state = t; reached = h; built = b; lines = sym (append-nil (map line (lines_read t.part t.script))); few = le }
stands n t [] c e h b (suc k) le = absurd (omega arith)
stands n t (l ∷ ls) c e h b (suc k) le = by (next whole t l) refl (λ u f q d. stands (n + 1) u ls c f q d k (omega arith)) e
  where
    by : (x : Result State Reason) → next whole t l ≡ x → ((u : State) → run whole (n + 1) u ls ≡ Ok c → Reached u.part u.script → IsBuilt whole u.script → Stands whole u ls k) → after n x (λ u. run whole (n + 1) u ls) ≡ Ok c → Stands whole t (l ∷ ls) (suc k)
    by (Err why) s go e = absurd cc
    by (Ok u) s go e =
        let a = next_adds whole t.part t.script l u h b s in
        let m = go u e a.reached a.built in
        record {
          state = m.state;
          reached = m.reached;
          built = m.built;
          lines = m.lines ∙ ap (λ (x : List (List ℕ)). x ++ take k ls) a.lines ∙ append_assoc (map line (lines_read t.part t.script)) (l ∷ []) (take k ls);
          few = le;
        }

-- two lines of a script, and any that follow, are a script
first_lines : (c : Program) (k : ℕ) → IsScript c → 2 ≤ k → k ≤ length (lines (text c)) → (d : Program) × AreScript (take k (lines (text c))) d
unfolding reading
first_lines c k sc two le =
    let s = stands 1 start (lines (text c)) c (reading_again whole c sc (all_built c)) refl (empty_built whole) k le in
    by s.state.part s.state.script s.reached s.lines
  where
    by : (p : Part) (s : Program) → Reached p s → map line (lines_read p s) ≡ take k (lines (text c)) → (d : Program) × AreScript (take k (lines (text c))) d
    by Start s r e = absurd (omega (arith, ap length e, length-take-le k (lines (text c)) le))
    by Headed s r e = absurd (omega (arith, ap length e, length-take-le k (lines (text c)) le))
    by Devices s r e = (s, record { script = r.0; lines_are = script_lines_are s r.0 ∙ e })
    by Skipped s r e = (s, record { script = r.0; lines_are = script_lines_are s r.0 ∙ e })
    by Actors s r e = (s, record { script = r.0; lines_are = script_lines_are s r.0 ∙ e })
    by Turns s r e = (s, record { script = r.0; lines_are = script_lines_are s r.0 ∙ e })
    by Drained s r e = (s, record { script = r; lines_are = script_lines_are s r ∙ e })

-- so the lines before a bad one are a script, if there are two
script_before : (bytes : List ℕ) (n : ℕ) → IsBadHead bytes n → 3 ≤ n → (c : Program) × AreScript (take (n - 1) (lines bytes)) c
script_before bytes n head le = by (head.before (n - 1) (omega arith))
  where
    k : ℕ
    k = n - 1

    by : (c : Program) × IsScript c × ((ls : List (List ℕ)) → take k (lines_behind c ls) ≡ take k (lines bytes)) → (d : Program) × AreScript (take k (lines bytes)) d
    by b = cases (cases_lt (length (lines (text b.0))) k)
      where
        cases : (length (lines (text b.0)) < k) ⊎ (k ≤ length (lines (text b.0))) → (d : Program) × AreScript (take k (lines bytes)) d
        cases (inl short) = absurd (no_history bytes n k b.0 head b.1 (b.2 []) short)
        cases (inr long) =
            let two : 2 ≤ k = omega (arith, le) in
            let f = first_lines b.0 k b.1 two long in
            (f.0, subst (λ (ls : List (List ℕ)). AreScript ls f.0) (sym (take-append-le k (lines (text b.0)) (history_line ∷ []) long) ∙ b.2 []) f.1)

-- and else they are none
none_before : (bytes : List ℕ) (n : ℕ) → n < 3 → (c : Program) → AreScript (take (n - 1) (lines bytes)) c → ⊥
none_before bytes n lt c a =
    let two : 2 ≤ length (map line (script_lines c)) = omega arith in
    omega (arith, lt, two, ap length (sym (script_lines_are c a.script) ∙ a.lines_are), length-take (n - 1) (lines bytes))

-- so `history` may stand there or not
pub ending_is : (bytes t : List ℕ) (n : ℕ) → IsBadHead bytes n → t ≡ (if nat_lt n 3 then [] else history_line) → IsHeadEnding (take (n - 1) (lines bytes)) t
ending_is bytes t n head is = by (cases_lt n 3)
  where
    by : (n < 3) ⊎ (3 ≤ n) → IsHeadEnding (take (n - 1) (lines bytes)) t
    by (inl lt) = subst (IsHeadEnding (take (n - 1) (lines bytes))) (sym (is ∙ chosen (nat_lt n 3) (lt-ltb n 3 lt))) (none_before bytes n lt)
      where
        chosen : (b : Bool) → b ≡ true → (if b then [] else history_line) ≡ []
        chosen b e = rw e refl
    by (inr le) = subst (IsHeadEnding (take (n - 1) (lines bytes))) (sym (is ∙ chosen (nat_lt n 3) (grind (arith, nat_tests)))) (refl, script_before bytes n head le)
      where
        chosen : (b : Bool) → b ≡ false → (if b then [] else history_line) ≡ history_line
        chosen b e = rw e refl
