-- The lines of an outcome are those that operations of the script may end with.
use Rattle.std.proofs.Common.{◌≡◌, ℕ, zero, suc, ◌+◌, ◌≤◌, ◌<◌, ◌⊎◌, inl, inr, Bool, true, false, ◌==◌, if◌then◌else◌, Option, Some, None, List, [], ◌∷◌, ◌++◌, length, map, fold, refl, sym, ap, ◌∙◌, subst, arith, append_assoc, append-nil, add-zero, eqb, eqb-true}
use Rattle.std.specs.Prelude.{⊤, slice_get}
use Rattle.std.proofs.lemmas.Bool.{and_from, and_parts}
use Rattle.std.proofs.lemmas.List.{append_cancel_right}
use Rattle.std.proofs.lemmas.Option.{get_or_from_slice_get, slice_get_within}
use Rattle.std.proofs.lemmas.List.Folds.{list_all-append, list_any_at}
use Rattle.hm_base.specs.Program.{Program, IsScript}
use Rattle.hm_history.proofs.RunLemmas.{DueFrom-append, runs_due}
use Rattle.hm_history.specs.Kernel.Due.{due, due_phase}
use Rattle.hm_history.specs.Kernel.Going.{Going, going_next, ops_of, state_of}
use Rattle.hm_history.specs.Kernel.Run.{actors_of, run}
use Rattle.hm_history.specs.Laws.{DueFrom}
use Rattle.hm_history.specs.Memory.Words.{numbers}
use Rattle.hm_history.specs.declared.Entry.{Entry}
use Rattle.hm_history.specs.declared.Kind.{Kind}
use Rattle.hm_history.specs.declared.Progress.{Progress}
use Rattle.hm_laws.proofs.Histories.Sound.{Turn, at_start, small, standing_after, turn_of}
use Rattle.hm_laws.specs.Past.{Past, past_start}
use Rattle.hm_laws.specs.Stands.{Standing}
use Rattle.hm_race_laws.specs.Closed.{IsListed}
use Rattle.hm_race_laws.specs.Outcomes.{answer_of, answers_next, no_answers, with_answer}
use Rattle.hm_report.specs.Line.{spaced}
use Rattle.hm_report.specs.Words.{actor_text, cause_number, tail_text}
use Rattle.hm_report_front.proofs.Cutting.{lines_whole, no_feed}
use Rattle.hm_report_front.proofs.Words.{are_whole, byte_whole, digits_whole, hex_whole, is_whole, num, right_whole, who_whole}
use Rattle.hm_script.specs.Automaton.{lines}
use Rattle.hm_race_lines.specs.Answers.{actor_lines, answer_line, answer_text, answer_words, lines_from}
use Rattle.hm_race_lines.specs.Endings.{ends_actor, may_end, may_end_with, one_ends}
use Rattle.hm_race_lines.specs.Laws.{LinesMayEnd}
use Rattle.hm_race_lines.proofs.Answered.{EndsBy}
use Rattle.hm_race_lines.proofs.Dues.{Ends, ends}
use Rattle.hm_race_lines.proofs.Scripts.{one_of}
use Rattle.hm_race_lines.proofs.Texts.{begins}

-- ---- answers

-- an operation of the actor may end with what is answered
abbrev AmongBy : Program → ℕ → Option Kind → Type 0
AmongBy c a None = ⊤
AmongBy c a (Some k) = one_ends (ops_of c a) (answer_text k) ≡ true

entry_ends : (c : Program) → IsScript c → (h : List Entry) → DueFrom c [] h → (e : Entry) → due c h e.actor ≡ Progress.Did e → AmongBy c e.actor (answer_of e.kind)
entry_ends c sc h d e is = by (answer_of e.kind) says
  where
    st : (t : Past) × Standing c (state_of c h) t
    st = standing_after c [] h past_start (small c sc) (at_start c (small c sc)) d

    was : Going
    was = (state_of c h).going e.actor

    t : Turn c (state_of c h).after st.0 e.actor e.kind was (going_next c (state_of c h).after e.actor was e.kind)
    t = turn_of c (state_of c h) st.0 e (small c sc) st.1 is

    says : EndsBy t.op (answer_of e.kind)
    says = subst (Ends t.op) t.is_due (ends c (state_of c h).after st.0 e.actor t.op was.pages ((small c sc).ops e.actor was.index t.op t.is_op) t.top t.below t.known)

    by : (x : Option Kind) → EndsBy t.op x → AmongBy c e.actor x
    by None k = tt
    by (Some k) h = list_any_at (λ o. may_end o (answer_text k)) (ops_of c e.actor) was.index t.op (slice_get_within _ _ _ t.is_op)
        (ap (λ o. may_end o (answer_text k)) (get_or_from_slice_get (ops_of c e.actor) was.index t.op t.op t.is_op) ∙ h)

-- the answers of all actors are such
abbrev AreAmong : Program → (ℕ → List Kind) → Type 0
AreAmong c f = (a : ℕ) (k : Kind) → IsListed (f a) k → one_ends (ops_of c a) (answer_text k) ≡ true

listed_last : (xs : List Kind) (y k : Kind) → IsListed (xs ++ y ∷ []) k → IsListed xs k ⊎ (y ≡ k)
listed_last [] y k (inl e) = inr e
listed_last [] y k (inr h) = absurd h
listed_last (x ∷ xs) y k (inl e) = inl (inl e)
listed_last (x ∷ xs) y k (inr h) = by (listed_last xs y k h)
  where
    by : IsListed xs k ⊎ (y ≡ k) → IsListed (x ∷ xs) k ⊎ (y ≡ k)
    by (inl l) = inl (inr l)
    by (inr e) = inr e

with_one : (c : Program) (a : ℕ) (x : Option Kind) (xs : List Kind) → AmongBy c a x → ((k : Kind) → IsListed xs k → one_ends (ops_of c a) (answer_text k) ≡ true) → (k : Kind) → IsListed (with_answer x xs) k → one_ends (ops_of c a) (answer_text k) ≡ true
with_one c a None xs h are k l = are k l
with_one c a (Some j) xs h are k l = by (listed_last xs j k l)
  where
    by : IsListed xs k ⊎ (j ≡ k) → one_ends (ops_of c a) (answer_text k) ≡ true
    by (inl m) = are k m
    by (inr e) = subst (λ i. one_ends (ops_of c a) (answer_text i) ≡ true) e h

one_more : (c : Program) (f : ℕ → List Kind) (e : Entry) → AmongBy c e.actor (answer_of e.kind) → AreAmong c f → AreAmong c (answers_next f e)
one_more c f e h are a k l = by (eqb a e.actor) refl l
  where
    by : (b : Bool) → eqb a e.actor ≡ b → IsListed (if b then with_answer (answer_of e.kind) (f e.actor) else f a) k → one_ends (ops_of c a) (answer_text k) ≡ true
    by true is m = subst (λ b. one_ends (ops_of c b) (answer_text k) ≡ true) (sym (eqb-true a e.actor is)) (with_one c e.actor (answer_of e.kind) (f e.actor) h (are e.actor) k m)
    by false is m = are a k m

along : (c : Program) → IsScript c → (h : List Entry) → DueFrom c [] h → (f : ℕ → List Kind) → AreAmong c f → (es : List Entry) → DueFrom c h es → AreAmong c (fold answers_next f es)
along c sc h d f are [] due = are
along c sc h d f are (e ∷ es) due = along c sc (h ++ e ∷ []) (DueFrom-append c [] h e d due.0) (answers_next f e) (one_more c f e (entry_ends c sc h d e due.0) are) es due.1

-- ---- lines

spaced_whole : (ws : List (List ℕ)) → are_whole ws ≡ true → is_whole (spaced ws) ≡ true
spaced_whole [] h = refl
spaced_whole (w ∷ ws) h = list_all-append no_feed (32 ∷ w) (spaced ws) ∙ and_from (is_whole w) _ (and_parts (is_whole w) _ h).0 (spaced_whole ws (and_parts (is_whole w) _ h).1)

words_whole : (k : Kind) → are_whole (answer_words k) ≡ true
words_whole (Kind.Loaded x a bs) = rw (who_whole x, digits_whole 16 a) refl
words_whole (Kind.Stored x a bs) = rw (who_whole x, digits_whole 16 a) refl
words_whole (Kind.Failed x a n why) = rw (who_whole x, digits_whole 16 a, num n, num (cause_number why)) refl
words_whole (Kind.Mapped p r w) = rw (num p, num r.first, num r.count, right_whole w) refl
words_whole (Kind.Unmapped p r) = rw (num p, num r.first, num r.count) refl
words_whole (Kind.Protected p r w) = rw (num p, num r.first, num r.count, right_whole w) refl
words_whole (Kind.Forked p c) = rw (num p, num c) refl
words_whole (Kind.Exited p) = rw (num p) refl
words_whole (Kind.Attached m d p r q) = rw (num m, num d, num p, num r.first, num r.count) refl
words_whole (Kind.Detached m) = rw (num m) refl
words_whole (Kind.Refused why) = rw (num (cause_number why)) refl
words_whole (Kind.Migrated n) = rw (num n) refl
words_whole (Kind.Seen m v b) = rw (num m, num v, byte_whole b) refl
words_whole (Kind.Evicted n) = rw (num n) refl
words_whole (Kind.Removed d) = rw (num d) refl
words_whole (Kind.Excluded m v) = rw (num m, num v) refl
words_whole (Kind.Added m a was now) = rw (num m, digits_whole 16 a, byte_whole was, byte_whole now) refl
words_whole k = refl

tail_whole : (k : Kind) → is_whole (tail_text k) ≡ true
tail_whole (Kind.Loaded x a bs) = hex_whole bs
tail_whole (Kind.Stored x a bs) = hex_whole bs
tail_whole (Kind.Fetched m a bs) = hex_whole bs
tail_whole k = refl

-- an answer with its actor
abbrev body : ℕ → Kind → List ℕ
body a k = actor_text a ++ answer_text k

body_whole : (a : ℕ) (k : Kind) → is_whole (body a k) ≡ true
body_whole a k = list_all-append no_feed (actor_text a) (answer_text k)
    ∙ and_from (is_whole (actor_text a)) _ (num a) (list_all-append no_feed (spaced (answer_words k)) (tail_text k) ∙ and_from (is_whole (spaced (answer_words k))) _ (spaced_whole (answer_words k) (words_whole k)) (tail_whole k))

line_is : (a : ℕ) (k : Kind) (rest : List ℕ) → answer_line a k ++ rest ≡ body a k ++ 10 ∷ rest
line_is a k rest = simp append_assoc

first_line : (a : ℕ) (k : Kind) (rest : List ℕ) → lines (answer_line a k ++ rest) ≡ (body a k ++ 10 ∷ []) ∷ lines rest
first_line a k rest = ap lines (line_is a k rest) ∙ lines_whole (body a k) rest (body_whole a k)

-- this holds of each line of an actor's answers, and of each of the rest
of_actor : (P : List ℕ → Type 0) (a : ℕ) (ks : List Kind) (rest : List ℕ) → ((k : Kind) → IsListed ks k → P (body a k ++ 10 ∷ [])) → ((l : List ℕ) → IsListed (lines rest) l → P l) → (l : List ℕ) → IsListed (lines (actor_lines a ks ++ rest)) l → P l
of_actor P a [] rest here there l h = there l h
of_actor P a (k ∷ ks) rest here there l h = by (of_actor P a ks rest (λ j i. here j (inr i)) there l) (subst (λ ls. IsListed ls l) same h)
  where
    same : lines (actor_lines a (k ∷ ks) ++ rest) ≡ (body a k ++ 10 ∷ []) ∷ lines (actor_lines a ks ++ rest)
    same = ap lines (append_assoc (answer_line a k) (actor_lines a ks) rest) ∙ first_line a k (actor_lines a ks ++ rest)

    by : (IsListed (lines (actor_lines a ks ++ rest)) l → P l) → ((body a k ++ 10 ∷ []) ≡ l) ⊎ IsListed (lines (actor_lines a ks ++ rest)) l → P l
    by ih (inl e) = subst P e (here k (inl refl))
    by ih (inr m) = ih m

of_actors : (P : List ℕ → Type 0) (f : ℕ → List Kind) (n a : ℕ) → ((b : ℕ) (k : Kind) → b < a + n → IsListed (f b) k → P (body b k ++ 10 ∷ [])) → (l : List ℕ) → IsListed (lines (lines_from a (map f (numbers a n)))) l → P l
of_actors P f zero a each l h = absurd h
of_actors P f (suc n) a each l h = of_actor P a (f a) (lines_from (a + 1) (map f (numbers (a + 1) n))) (λ k i. each a k (omega arith) i)
    (of_actors P f n (a + 1) (λ b k lt i. each b k (omega arith) i)) l h

pub lines_may_end : LinesMayEnd
lines_may_end c sc es due line h = of_actors P (fold answers_next no_answers es) (length c.actors) 0 each (line ++ 10 ∷ []) h line refl
  where
    P : List ℕ → Type 0
    P l = (x : List ℕ) → l ≡ x ++ 10 ∷ [] → may_end_with c x ≡ true

    among : AreAmong c (fold answers_next no_answers es)
    among = along c sc (run c) (runs_due c) no_answers (λ a k l. absurd l) es due

    each : (b : ℕ) (k : Kind) → b < 0 + length c.actors → IsListed (fold answers_next no_answers es b) k → P (body b k ++ 10 ∷ [])
    each b k lt l x e = subst (λ z. may_end_with c z ≡ true) (append_cancel_right (body b k) x (10 ∷ []) e)
        (one_of (ends_actor c (body b k)) (length c.actors) b (omega arith) (begins (actor_text b) (answer_text k) (one_ends (ops_of c b)) (among b k l)))
