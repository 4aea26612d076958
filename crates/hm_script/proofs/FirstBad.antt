-- The line that is refused is the first bad one.
use Rattle.std.proofs.Common.{◌≡◌, ℕ, zero, suc, ◌+◌, ◌≤◌, List, [], ◌∷◌, ◌++◌, length, take, map, Result, Ok, Err, refl, sym, ap, subst, ◌∙◌, arith, append_assoc, append-nil}
use Rattle.std.proofs.lemmas.List.{take-take, length-take}
use Rattle.hm_base.specs.Program.{Program, IsScript}
use Rattle.hm_script.specs.declared.part.Part.{Part}
use Rattle.hm_script.specs.declared.part.Part.TheVariants.{Start, Headed, Devices, Skipped, Actors, Turns, Drained}
use Rattle.hm_script.specs.declared.reason.Reason.{Reason}
use Rattle.hm_script.specs.declared.reason.Reason.TheVariants.{Header, Word}
use Rattle.hm_script.specs.declared.reason.Refused.{Refused}
use Rattle.hm_script.specs.declared.words.Words.{Words}
use Rattle.hm_script.specs.Built.{IsBuilt}
use Rattle.hm_base.specs.declared.ops.Version.{Version}
use Rattle.hm_script.specs.Spelling.{line, text, script_lines}
use Rattle.hm_script.specs.Automaton.{State, state, start, empty, lines, next, finish, after, refused, run, reading}
use Rattle.hm_script.specs.BadLine.{SharesLinesOf, IsFirstBadOf}
use Rattle.hm_script.proofs.Taken.{Reached, lines_read, headed}
use Rattle.hm_script.proofs.TextTaken.{next_adds, empty_built}
use Rattle.hm_script.proofs.LinesAgain.{lines-text}
use Rattle.hm_script.proofs.Again.{leads-lines, script_ends, reading_again}

-- ---- an answer depends on the lines up to the one that it names

abbrev gone_bad : Refused → Result Program Refused
gone_bad r = Err r

bad_is : (q r : Refused) → gone_bad q ≡ gone_bad r → q ≡ r
bad_is q r e = cc

-- a state that so many of these lines led to
pub record Stands (set : Words) (t : State) (ls : List (List ℕ)) (k : ℕ) : Type 0 where
  pub state : State
  pub reached : Reached state.part state.script
  pub built : IsBuilt set state.script
  pub lines : map line (lines_read state.part state.script) ≡ map line (lines_read t.part t.script) ++ take k ls
  pub few : k ≤ length ls

-- where the run was refused, so many lines after the first
pub record RefusedAt (set : Words) (n : ℕ) (t : State) (ls : List (List ℕ)) (r : Refused) : Type 0 where
  pub after : ℕ
  pub at : r.line ≡ n + after
  pub same : (ks : List (List ℕ)) → take (suc after) ls ≡ take (suc after) ks → run set n t ks ≡ Err r
  pub reached : Reached t.part t.script → IsBuilt set t.script → (k : ℕ) → k ≤ after → Stands set t ls k

finish_line : (n : ℕ) (p : Part) (s : Program) (r : Refused) → finish n (state p s) ≡ Err r → r.line ≡ n
finish_line n Start s r e = ap (λ (q : Refused). q.line) (sym (bad_is (refused n Header) r e))
finish_line n Headed s r e = ap (λ (q : Refused). q.line) (sym (bad_is (refused n Word) r e))
finish_line n Devices s r e = absurd cc
finish_line n Skipped s r e = absurd cc
finish_line n Actors s r e = absurd cc
finish_line n Turns s r e = absurd cc
finish_line n Drained s r e = absurd cc

none_taken : (d : ℕ) (ks : List (List ℕ)) → take (suc d) [] ≡ take (suc d) ks → ks ≡ []
none_taken d [] e = refl
none_taken d (k ∷ ks) e = absurd cc

one_taken : (d : ℕ) (l : List ℕ) (ls ks : List (List ℕ)) → take (suc d) (l ∷ ls) ≡ take (suc d) ks → (rest : List (List ℕ)) × (ks ≡ l ∷ rest) × (take d ls ≡ take d rest)
one_taken d l ls [] e = absurd cc
one_taken d l ls (k ∷ ks) e = (ks, (let h : k ≡ l = cc in ap (λ (x : List ℕ). x ∷ ks) h), (let h : take d ls ≡ take d ks = cc in h))

-- no line further
stays : (set : Words) (t : State) (ls : List (List ℕ)) (k : ℕ) → k ≤ 0 → Reached t.part t.script → IsBuilt set t.script → Stands set t ls k
stays set t ls zero le h b = record {
  state = t;
  reached = h;
  built = b;
  lines = sym (append-nil (map line (lines_read t.part t.script)));
  few = let z : 0 ≤ length ls = omega arith in z;
}
stays set t ls (suc k) le h b = absurd (omega arith)

run_refused : (set : Words) (n : ℕ) (t : State) (ls : List (List ℕ)) (r : Refused) → run set n t ls ≡ Err r → RefusedAt set n t ls r
unfolding run
run_refused set n t [] r e = record {
  after = 0;
  at = finish_line n t.part t.script r e ∙ (let z : n ≡ n + 0 = omega arith in z);
  same = λ ks h. rw (none_taken 0 ks h) e;
  reached = λ h b k le. stays set t [] k le h b;
}
run_refused set n t (l ∷ ls) r e = by (next set t l) refl (λ u. run_refused set (n + 1) u ls r) e
  where
    reach : (u : State) → next set t l ≡ Ok u → (h : RefusedAt set (n + 1) u ls r) → Reached t.part t.script → IsBuilt set t.script → (k : ℕ) → k ≤ suc h.after → Stands set t (l ∷ ls) k
    reach u s h q b zero le = stays set t (l ∷ ls) 0 (omega arith) q b
    reach u s h q b (suc k) le =
        let a = next_adds set t.part t.script l u q b s in
        let m = h.reached a.reached a.built k (omega arith) in
        record {
          state = m.state;
          reached = m.reached;
          built = m.built;
          lines = m.lines ∙ ap (λ (x : List (List ℕ)). x ++ take k ls) a.lines ∙ append_assoc (map line (lines_read t.part t.script)) (l ∷ []) (take k ls);
          few = let z : suc k ≤ length (l ∷ ls) = omega (arith, m.few) in z;
        }

    by : (x : Result State Reason) → next set t l ≡ x → ((u : State) → run set (n + 1) u ls ≡ Err r → RefusedAt set (n + 1) u ls r) → after n x (λ u. run set (n + 1) u ls) ≡ Err r → RefusedAt set n t (l ∷ ls) r
    by (Err why) s go e = record {
      after = 0;
      at = ap (λ (q : Refused). q.line) (sym (bad_is (refused n why) r e)) ∙ (let z : n ≡ n + 0 = omega arith in z);
      same = λ ks h. let o = one_taken 0 l ls ks h in rw (o.1, s) e;
      reached = λ h b k le. stays set t (l ∷ ls) k le h b;
    }
    by (Ok u) s go e =
        let h = go u e in
        record {
          after = suc h.after;
          at = h.at ∙ (let z : (n + 1) + h.after ≡ n + suc h.after = omega arith in z);
          same = λ ks eq. let o = one_taken (suc h.after) l ls ks eq in rw (o.1, s) (h.same o.0 o.2);
          reached = λ q b k le. reach u s h q b k le;
        }

-- ---- scripts that begin so

script_text : (set : Words) (s : Program) → IsScript s → IsBuilt set s → lines (text s) ≡ map line (script_lines s)
script_text set s h b = let e = script_ends set s h b in lines-text (script_lines s) (leads-lines set start (state e.part s) (script_lines s) e.leads)

headed_script : (v : Version) → IsScript (headed v)
headed_script v = record { frames = omega arith; devices = refl; few_devices = omega arith; skip = omega arith; few_actors = omega arith; ops = refl; few_ops = omega arith; schedule = refl; few_lines = omega arith; version = refl }

shares_body : (set : Words) (bytes : List ℕ) (k : ℕ) (s : Program) → IsScript s → IsBuilt set s → map line (script_lines s) ≡ take k (lines bytes) → (x : Program) × SharesLinesOf set bytes k x
shares_body set bytes k s h b e = (s, record { script = h; built = b; shares = ap (take k) (script_text set s h b ∙ e) ∙ take-take k k (lines bytes) (omega arith) })

begins_so : (set : Words) (bytes : List ℕ) (k : ℕ) (p : Part) (s : Program) → Reached p s → IsBuilt set s → map line (lines_read p s) ≡ take k (lines bytes) → k ≤ length (lines bytes) → (x : Program) × SharesLinesOf set bytes k x
begins_so set bytes k Start s r b e le =
    let none : k ≡ 0 = omega (arith, ap length e, length-take k (lines bytes)) in
    (empty, record { script = headed_script empty.version; built = empty_built set; shares = rw none refl })
begins_so set bytes k Headed s r b e le =
    let one : k ≡ 1 = omega (arith, ap length e, length-take k (lines bytes)) in
    let script : IsScript s = rw r (headed_script s.version) in
    (s, record { script = script; built = b; shares = ap (take k) (script_text set s script b) ∙ subst (λ (j : ℕ). take j (map line (script_lines s)) ≡ take k (lines bytes)) (sym one) e })
begins_so set bytes k Devices s r b e le = shares_body set bytes k s r.0 b e
begins_so set bytes k Skipped s r b e le = shares_body set bytes k s r.0 b e
begins_so set bytes k Actors s r b e le = shares_body set bytes k s r.0 b e
begins_so set bytes k Turns s r b e le = shares_body set bytes k s r.0 b e
begins_so set bytes k Drained s r b e le = shares_body set bytes k s r b e

differ : (set : Words) (s : Program) (r : Refused) → reading set (text s) ≡ Ok s → run set 1 start (lines (text s)) ≡ Err r → ⊥
unfolding reading
differ set s r good bad = absurd cc

-- what is refused is the first bad line
pub first_bad : (set : Words) (bytes : List ℕ) (r : Refused) → reading set bytes ≡ Err r → IsFirstBadOf set bytes r.line
unfolding reading
first_bad set bytes r e =
    let h = run_refused set 1 start (lines bytes) r e in
    let at : r.line ≡ suc h.after = h.at ∙ (let z : 1 + h.after ≡ suc h.after = omega arith in z) in
    rw at (record {
      bad = λ s x. refuses s x (h.same (lines (text s)) (sym x.shares));
      before = λ k lt. let m = h.reached refl (empty_built set) k (omega arith) in begins_so set bytes k m.state.part m.state.script m.reached m.built m.lines m.few;
    })
  where
    refuses : (s : Program) → SharesLinesOf set bytes (suc (run_refused set 1 start (lines bytes) r e).after) s → run set 1 start (lines (text s)) ≡ Err r → ⊥
    refuses s x bad = differ set s r (reading_again set s x.script x.built) bad
