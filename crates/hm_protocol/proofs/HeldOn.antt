-- A look-up under way meets no callback after an entry, as long as its sequence is that of its interval.
use Rattle.std.proofs.Common.{refl, ap, sym, subst, ◌∙◌, inl, inr, arith}
use Rattle.std.proofs.lemmas.Bool.{and_parts, eqb-true}
use Rattle.std.proofs.lemmas.Bool.Decides.{nat_tests}
use Rattle.std.specs.Prelude.{◌≡◌, ℕ, ◌<◌, ◌≤◌, true, not, ◌&&◌, ◌==◌, Option}
use Rattle.std.specs.Prelude.{Some, None}
use Rattle.std.specs.Prelude.{is_some}
use Rattle.hm_base.specs.Program.{Program}
use Rattle.hm_base.specs.Pages.{Pages, covers, one_page}
use Rattle.hm_base.specs.declared.ops.Op.{Op}
use Rattle.hm_history.specs.Memory.Plain.{in_window}
use Rattle.hm_history.specs.Memory.Sequences.{Interval, sequences_next, sequences_accept, interval_seq, interval_proc}
use Rattle.hm_history.specs.Memory.After.{After}
use Rattle.hm_history.specs.Kernel.Operation.{op_mirror}
use Rattle.hm_history.specs.Kernel.Going.{State, op_at, state_next}
use Rattle.hm_history.specs.Kernel.Due.{process_seq}
use Rattle.hm_history.specs.declared.Kind.{Kind}
use Rattle.hm_history.specs.declared.Entry.{Entry}
use Rattle.hm_laws.specs.Past.{Past}
use Rattle.hm_laws.specs.Sound.{Sound}
use Rattle.hm_laws.specs.Facts.{Within}
use Rattle.hm_laws.proofs.Due.MirrorPieces.{window_within}
use Rattle.hm_laws.proofs.Other.Lookups.{within_keeps, below_keeps, seq_back}
use Rattle.hm_laws.proofs.State.MirrorInterval.{Mirrored, mirrored, same_proc}
use Rattle.hm_protocol.specs.Known.{Known}
use Rattle.hm_protocol.proofs.Invalidations.{below_itself}
use Rattle.hm_protocol.proofs.Steps.{Step}
use Rattle.hm_protocol.proofs.Tellings.{Tells, told_now, told_seq, is_interval}
use Rattle.hm_protocol.proofs.ComesFrom.{turn_from, ComesFrom}
use Rattle.hm_protocol.proofs.Stands.{seq_at}
use Rattle.hm_protocol.proofs.Seeing.{Seen}
use Rattle.hm_protocol.proofs.Entries.{known_after}
use Rattle.hm_protocol.proofs.SeenAfter.{Held, Lasting, Still}

-- a mirror that is told now has the sequence of its process
told_else : (c : Program) (s : After) (t : Past) (a n q v z : ℕ) (r : Pages) → Sound c s t
    → sequences_accept s.sequences a (Kind.Told n r z) ≡ true → Within s.plain n v → q < process_seq s n
    → interval_seq (sequences_next s.sequences a (Kind.Told n r z)) n ≡ q → ⊥
told_else c s t a n q v z r so acc w l e = below_itself q (process_seq s n) z (sym e ∙ is_interval _ a n z told) proc l
  where
    is_seq : z ≡ s.sequences.seq (interval_proc s.sequences n)
    is_seq = told_seq s.sequences a n r z acc

    told : Tells (sequences_next s.sequences a (Kind.Told n r z)) a n z
    told = told_now s.sequences a n r z acc (told_seq s.sequences a n r z acc)

    proc : process_seq s n ≡ z
    proc = ap s.sequences.seq
        (sym (same_proc s n (λ x. covers x.window v) (mirrored c s t n (λ x. covers x.window v) so w))) ∙ sym is_seq

-- a look-up begins with a sequence that is not its process's
begins_below : (c : Program) (s : After) (t : Past) (a m q v : ℕ) → Sound c s t
    → sequences_accept s.sequences a (Kind.Begin m q) ≡ true → Within s.plain m v → q < process_seq s m
begins_below c s t a m q v so acc w = less q (s.sequences.seq (interval_proc s.sequences m))
    (process_seq s m) x.interval.seq same
    (and_parts (q == interval_seq s.sequences m) _ tests).1
    (ap s.sequences.seq (same_proc s m (λ x. covers x.window v) x))
    (subst (λ p. x.interval.seq ≤ s.sequences.seq p) proc (so.sequences.not_above m x.interval x.is_interval))
  where
    x : Mirrored s m (λ x. covers x.window v)
    x = mirrored c s t m (λ x. covers x.window v) so w

    tests : ((q == interval_seq s.sequences m) && not (q == s.sequences.seq (interval_proc s.sequences m))) ≡ true
    tests = (and_parts (is_some (s.sequences.interval m)) _ acc).1

    same : q ≡ x.interval.seq
    same = eqb-true q (interval_seq s.sequences m) (and_parts (q == interval_seq s.sequences m) _ tests).0
        ∙ ap (λ (y : Option Interval). elim y as (λ y. ℕ) [ None ↦ 0 | Some y ↦ y.seq ]) x.is_interval

    proc : x.interval.proc ≡ interval_proc s.sequences m
    proc = sym (ap (λ (y : Option Interval). elim y as (λ y. ℕ) [ None ↦ 0 | Some y ↦ y.proc ]) x.is_interval)

    less : (q n p i : ℕ) → q ≡ i → not (q == n) ≡ true → n ≡ p → i ≤ n → q < p
    less q n p i e d f l = grind (arith, nat_tests)

-- ---- a look-up after an entry

still_lasts : (j : Kind) (a : ℕ) (W : ℕ → ℕ → Type 0) (b m : ℕ) → W b m
    → ((n z : ℕ) (r : Pages) → j ≡ Kind.Told n r z → m ≡ n → ⊥) → Still j a W b m
still_lasts (Kind.Told n r z) a W b m w h = (w, h n z r refl)
still_lasts (Kind.Begin n z) a W b m w h = inl w
still_lasts j a W b m w h = w

-- one that was under way
pub held_on : (c : Program) (t : State) (e : Entry) (k : Known) → Step c t e
    → Seen (Still e.kind e.actor (Lasting c t)) (known_after c t e k)
    → (a : ℕ) (o : Op) (q : ℕ) → op_at c a (t.going a).index ≡ Some o → seq_at (t.going a).stack ≡ Some q
    → Held t.after k a o q → Held (state_next c t e).after (known_after c t e k) a o q
held_on c t e k s se a o q is_op looks h = record {
  page = h.page;
  within = within_keeps c t.after s.past e.actor e.kind s.turn.allowed (op_mirror o) h.page h.within;
  below = below_keeps c t.after s.past e.actor e.kind s.turn.allowed (op_mirror o) h.page q h.within h.below;
  unmet = λ i. se.unmet a (op_mirror o) (still_lasts e.kind e.actor (Lasting c t) a (op_mirror o)
      (record {
        op = o;
        seq = q;
        is_op = is_op;
        looks = looks;
        mirror = refl;
        same = seq_back c t.after s.past e.actor e.kind s.now.sound s.turn.allowed
            (op_mirror o) h.page q h.within h.below i;
      }) (another i));
}
  where
    another : interval_seq (state_next c t e).after.sequences (op_mirror o) ≡ q → (n z : ℕ) (r : Pages)
        → e.kind ≡ Kind.Told n r z → op_mirror o ≡ n → ⊥
    another i n z r g m = told_else c t.after s.past e.actor n q h.page z r s.now.sound
        (subst (λ j. sequences_accept t.after.sequences e.actor j ≡ true) g s.sequences)
        (subst (λ m. Within t.after.plain m h.page) m h.within) (subst (λ m. q < process_seq t.after m) m h.below)
        (ap (λ j. interval_seq (sequences_next t.after.sequences e.actor j) n) (sym g)
        ∙ (ap (interval_seq (sequences_next t.after.sequences e.actor e.kind)) (sym m) ∙ i))

-- one that begins
pub held_new : (c : Program) (t : State) (e : Entry) (k : Known) → (s : Step c t e)
    → Seen (Still e.kind e.actor (Lasting c t)) (known_after c t e k) → (m q : ℕ) → e.kind ≡ Kind.Begin m q
    → Held (state_next c t e).after (known_after c t e k) e.actor s.turn.op q
held_new c t e k s se m q i = record {
  page = x.0;
  within = within_keeps c t.after s.past e.actor e.kind s.turn.allowed (op_mirror s.turn.op) x.0 was;
  below = below_keeps c t.after s.past e.actor e.kind s.turn.allowed (op_mirror s.turn.op) x.0 q was
      (begins_below c t.after s.past e.actor (op_mirror s.turn.op) q x.0 s.now.sound
      (subst (λ n. sequences_accept t.after.sequences e.actor (Kind.Begin n q) ≡ true) x.1.0
      (subst (λ j. sequences_accept t.after.sequences e.actor j ≡ true) i s.sequences)) was);
  unmet = λ g. se.unmet e.actor (op_mirror s.turn.op)
      (subst (λ j. Still j e.actor (Lasting c t) e.actor (op_mirror s.turn.op)) (sym i) (inr (refl, sym x.1.0)));
}
  where
    x : (v : ℕ) × ((m ≡ op_mirror s.turn.op) × (in_window t.after.plain m (one_page v) ≡ true))
    x = subst (ComesFrom t.after s.turn.op (t.going e.actor).pages s.turn.top) i (turn_from c t e s)

    was : Within t.after.plain (op_mirror s.turn.op) x.0
    was = subst (λ n. Within t.after.plain n x.0) x.1.0 (window_within t.after.plain m x.0 x.1.1)
