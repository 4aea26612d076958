-- The sequences after an entry are told apart only by what is asked of them before it.
use Rattle.std.proofs.Common.{◌≡◌, ℕ, ◌+◌, ◌-◌, ◌≤◌, Bool, true, false, ◌==◌, not, ◌&&◌, if◌then◌else◌, nat_lt, Option, Some, None, [], refl, sym, ap, ◌∙◌, arith}
use Rattle.std.proofs.lemmas.Bool.Decides.{nat_tests}
use mathlib.Core.Path.{fun_ext}
use Rattle.hm_base.specs.Pages.{Pages}
use Rattle.hm_history.specs.Memory.Words.{with_at}
use Rattle.hm_history.specs.Memory.Sequences.{Sequences, Interval, Guarded, Stage, InsertDeferred, InTree, RemoveDeferred, Out, is_odd, interval_proc, some_overlap, is_last_end, raised_by_insert, applied, applied_stage, with_seq, with_stage, sequences_next}
use Rattle.hm_history.specs.declared.Kind.{Kind}
use Rattle.hm_laws.specs.Sound.{SequenceRules}
use Rattle.hm_laws.proofs.Migration.Setup.{at_itself}
use Rattle.hm_race_laws.specs.Numbers.{small, small_of, small_interval, small_sequences, small_kind}
use Rattle.hm_race_laws.proofs.SmallWords.{parity, small_twice, Rightly, rightly, now_same, raised, raised_same, seqs_same, some_overlap_same, overlapping_same, proc_same}
use Rattle.hm_history.proofs.Updates.{here_at}
use Rattle.hm_history.proofs.Intervals.{made}

made_same : (f e : ℕ → ℕ) (g : ℕ → ℕ) (i j : ℕ → Option Interval) (h k : ℕ → Option Guarded) → f ≡ e → i ≡ j → h ≡ k → made f g i h ≡ made e g j k
made_same f e g i j h k p q r = ap (λ z. made z g i h) p ∙ (ap (λ z. made e g z h) q ∙ ap (λ z. made e g j z) r)

-- the sequences of processes
seqs_stay : (f : ℕ → ℕ) → ◌≡◌ {A = ℕ → ℕ} (λ p. small (f p)) (λ p. small (small (f p)))
seqs_stay f = fun_ext (λ p. sym (small_twice (f p)))

seqs_raised : (f : ℕ → ℕ) (p : ℕ) (b d : Bool) → d ≡ b → ◌≡◌ {A = ℕ → ℕ} (λ q. small (with_at f p (raised b (f p)) q)) (λ q. small (with_at (λ k. small (f k)) p (raised d (small (f p))) q))
seqs_raised f p b d e = fun_ext (λ q. seqs_same f p b q) ∙ ap (λ z q. small (with_at (λ k. small (f k)) p (raised z (small (f p))) q)) (sym e)

-- intervals that change, at one mirror
at_one : (f g : ℕ → ℕ) (i j : ℕ → Option Interval) (m : ℕ) (x y : Option Interval) → small_interval f x ≡ small_interval g y → ((k : ℕ) → small_interval f (i k) ≡ small_interval g (j k)) → (k : ℕ) → small_interval f (with_at i m x k) ≡ small_interval g (with_at j m y k)
at_one f g i j m x y e h k = by (k == m)
  where
    by : (b : Bool) → small_interval f (if b then x else i k) ≡ small_interval g (if b then y else j k)
    by true = e
    by false = h k

settled_small : (g : ℕ → ℕ) (p : ℕ) (z : Option Interval) → small_interval g (applied p z) ≡ applied p (small_interval g z)
settled_small g p None = refl
settled_small g p (Some x) = by (x.proc == p)
  where
    by : (b : Bool) → small_interval g (if b then Some (record x { stage = applied_stage x.stage }) else Some x) ≡ (if b then Some (record { proc = x.proc; window = x.window; seq = small_of (x.seq == g x.proc); stage = applied_stage x.stage }) else Some (record x { seq = small_of (x.seq == g x.proc) }))
    by true = refl
    by false = refl

standing_small : (g : ℕ → ℕ) (t : Stage) (z : Option Interval) → small_interval g (with_stage t z) ≡ with_stage t (small_interval g z)
standing_small g t None = refl
standing_small g t (Some x) = refl

told_small : (f : ℕ → ℕ) (z : Option Interval) (p : ℕ) → ((x : Interval) → z ≡ Some x → x.proc ≡ p) → small_interval f (with_seq (f p) z) ≡ small_interval (λ q. small (f q)) (with_seq (small (f p)) (small_interval f z))
told_small f None p h = refl
told_small f (Some x) p h = ap (λ b. Some (record x { seq = small_of b })) (ap (λ q. f p == f q) (h x refl) ∙ (at_itself (f p) ∙ (sym (at_itself (small (f p))) ∙ ap (λ q. small (f p) == small (f q)) (sym (h x refl)))))

proc_is : (s : Sequences) (m : ℕ) (x : Interval) → s.interval m ≡ Some x → x.proc ≡ interval_proc s m
proc_is s m x e = ap (λ z. elim z as (λ y. ℕ) [ None ↦ 0 | Some y ↦ y.proc ]) (sym e)

ended_small : (f : ℕ → ℕ) (p : ℕ) (b : Bool) (z : Option Interval) → Rightly f z →
    small_interval (with_at f p (raised b (f p))) (if b then applied p z else z) ≡ small_interval (with_at (λ q. small (f q)) p (raised b (small (f p)))) (if b then applied p (small_interval f z) else small_interval f z)
ended_small f p false z h = raised_same f p false z h
ended_small f p true z h = settled_small _ p z ∙ (ap (applied p) (raised_same f p true z h) ∙ sym (settled_small _ p (small_interval f z)))

moves_same : (s : Sequences) (p : ℕ) → is_last_end (small_sequences s) p ≡ is_last_end s p
moves_same s p = ap (λ b. (s.active p == 1) && b) (parity (s.seq p))

-- a new interval
abbrev inserted : Bool → Bool → ℕ → ℕ
inserted odd active n = if odd then n else if active then n + 1 else (n - 1)

inserted_tells : (o v : Bool) (n : ℕ) → is_odd n ≡ o → 2 ≤ n → (inserted o v n == raised (not o && v) n) ≡ (inserted o v (small n) == raised (not o && v) (small n))
inserted_tells true v n e h = at_itself n ∙ sym (at_itself (small n))
inserted_tells false true n e h = at_itself (n + 1) ∙ sym (at_itself (small n + 1))
inserted_tells false false n e h = no ∙ ap (λ b. (if b then 3 else 2) - 1 == (if b then 3 else 2)) (sym e)
  where
    no : (n - 1 == n) ≡ false
    no = grind (arith, nat_tests)

new_small : (f : ℕ → ℕ) (p : ℕ) (r : Pages) (v : Bool) → 2 ≤ f p → (o d : Bool) → is_odd (f p) ≡ o → d ≡ o →
    small_interval (with_at f p (raised (not o && v) (f p))) (Some (record { proc = p; window = r; seq = inserted o v (f p); stage = if o then InsertDeferred else InTree }))
    ≡ small_interval (with_at (λ q. small (f q)) p (raised (not d && v) (small (f p)))) (Some (record { proc = p; window = r; seq = inserted d v (small (f p)); stage = if d then InsertDeferred else InTree }))
new_small f p r v h o d e k = ap (λ b. Some (record { proc = p; window = r; seq = small_of b; stage = if o then InsertDeferred else InTree })) same ∙ ap (λ c. small_interval (with_at (λ q. small (f q)) p (raised (not c && v) (small (f p)))) (Some (record { proc = p; window = r; seq = inserted c v (small (f p)); stage = if c then InsertDeferred else InTree }))) (sym k)
  where
    same : (inserted o v (f p) == with_at f p (raised (not o && v) (f p)) p) ≡ (inserted o v (small (f p)) == with_at (λ q. small (f q)) p (raised (not o && v) (small (f p))) p)
    same = ap (λ n. inserted o v (f p) == n) (here_at f p (raised (not o && v) (f p))) ∙ (inserted_tells o v (f p) e h ∙ ap (λ n. inserted o v (small (f p)) == n) (sym (here_at (λ q. small (f q)) p (raised (not o && v) (small (f p))))))

pub next_small : (s : Sequences) (a : ℕ) (k : Kind) → SequenceRules s → small_sequences (sequences_next s a k) ≡ small_sequences (sequences_next (small_sequences s) a (small_kind k))
next_small s a (Kind.Start p r q) so = made_same _ _ _ _ _ _ _ (seqs_raised s.seq p (some_overlap s p r && not (is_odd (s.seq p))) _ same) (fun_ext (λ m. raised_same s.seq p (some_overlap s p r && not (is_odd (s.seq p))) (s.interval m) (rightly s m so)) ∙ ap (λ z m. small_interval (with_at (λ q. small (s.seq q)) p (raised z (small (s.seq p)))) (small_interval s.seq (s.interval m))) (sym same)) (ap (λ l. with_at s.guard a (Some (record { proc = p; span = r; met = l; told = [] }))) (sym (overlapping_same s p r)))
  where
    same : (some_overlap (small_sequences s) p r && not (is_odd (small (s.seq p)))) ≡ (some_overlap s p r && not (is_odd (s.seq p)))
    same = ap (λ b. b && not (is_odd (small (s.seq p)))) (some_overlap_same s p r) ∙ ap (λ b. some_overlap s p r && not b) (parity (s.seq p))
next_small s a (Kind.Told m r q) so = made_same _ _ _ _ _ _ _ (seqs_stay s.seq) (fun_ext (λ k. at_one s.seq (λ p. small (s.seq p)) s.interval (λ j. small_interval s.seq (s.interval j)) m _ _ (told_small s.seq (s.interval m) (interval_proc s m) (proc_is s m) ∙ ap (λ p. small_interval (λ q. small (s.seq q)) (with_seq (small (s.seq p)) (small_interval s.seq (s.interval m)))) (sym (proc_same s m))) (λ j. now_same s.seq (s.interval j) (rightly s j so)) k)) refl
next_small s a (Kind.End p r q) so = made_same _ _ _ _ _ _ _ (seqs_raised s.seq p (is_last_end s p) _ (moves_same s p)) (fun_ext (λ m. ended_small s.seq p (is_last_end s p) (s.interval m) (rightly s m so)) ∙ ap (λ z m. small_interval (with_at (λ q. small (s.seq q)) p (raised z (small (s.seq p)))) (if z then applied p (small_interval s.seq (s.interval m)) else small_interval s.seq (s.interval m))) (sym (moves_same s p))) refl
next_small s a (Kind.Attached m d p r q) so = made_same _ _ _ _ _ _ _ (seqs_raised s.seq p (raised_by_insert s p) _ same) (fun_ext (λ k. at_one (with_at s.seq p (raised (raised_by_insert s p) (s.seq p))) (with_at (λ q. small (s.seq q)) p (raised (raised_by_insert (small_sequences s) p) (small (s.seq p)))) s.interval (λ j. small_interval s.seq (s.interval j)) m _ _ (new_small s.seq p r (nat_lt 0 (s.active p)) (so.positive p) (is_odd (s.seq p)) (is_odd (small (s.seq p))) refl (parity (s.seq p))) (λ j. raised_same s.seq p (raised_by_insert s p) (s.interval j) (rightly s j so) ∙ ap (λ z. small_interval (with_at (λ q. small (s.seq q)) p (raised z (small (s.seq p)))) (small_interval s.seq (s.interval j))) (sym same)) k)) refl
  where
    same : raised_by_insert (small_sequences s) p ≡ raised_by_insert s p
    same = ap (λ b. not b && nat_lt 0 (s.active p)) (parity (s.seq p))
next_small s a (Kind.Detaching m q) so = made_same _ _ _ _ _ _ _ (seqs_stay s.seq) (fun_ext (λ k. at_one s.seq (λ p. small (s.seq p)) s.interval (λ j. small_interval s.seq (s.interval j)) m _ _ (standing_small s.seq RemoveDeferred (s.interval m) ∙ (ap (with_stage RemoveDeferred) (now_same s.seq (s.interval m) (rightly s m so)) ∙ sym (standing_small _ RemoveDeferred (small_interval s.seq (s.interval m))))) (λ j. now_same s.seq (s.interval j) (rightly s j so)) k)) refl
next_small s a (Kind.Detached m) so = made_same _ _ _ _ _ _ _ (seqs_stay s.seq) (fun_ext (λ k. at_one s.seq (λ p. small (s.seq p)) s.interval (λ j. small_interval s.seq (s.interval j)) m _ _ (standing_small s.seq Out (s.interval m) ∙ (ap (with_stage Out) (now_same s.seq (s.interval m) (rightly s m so)) ∙ sym (standing_small _ Out (small_interval s.seq (s.interval m))))) (λ j. now_same s.seq (s.interval j) (rightly s j so)) k)) refl
next_small s a _ so = made_same _ _ _ _ _ _ _ (seqs_stay s.seq) (fun_ext (λ m. now_same s.seq (s.interval m) (rightly s m so))) refl
