-- An actor that goes on alone comes to the end of its operations, if each ends within its bound.
use Rattle.std.proofs.Common.{◌≡◌, ℕ, zero, suc, ◌+◌, ◌≤◌, Some, None, List, [], ◌∷◌, ◌++◌, refl, sym, ap, ◌∙◌, subst, arith, length, drop, fold}
use Rattle.std.specs.Prelude.{sum_by, slice_get}
use Rattle.std.proofs.Math.Numerals.{add-one}
use Rattle.std.proofs.Math.ListN.{length-append}
use Rattle.std.proofs.lemmas.List.Sums.{fold-append, sum_by-cons}
use Rattle.hm_base.specs.Program.{Program}
use Rattle.hm_base.specs.declared.ops.Op.{Op}
use Rattle.hm_history.specs.Kernel.Quiet.{quiet_bound}
use Rattle.hm_history.specs.Kernel.Going.{State, Going, ops_of, op_at, going_from, state_next}
use Rattle.hm_history.specs.declared.Entry.{Entry}
use Rattle.hm_laws.proofs.Histories.Sound.{Small}
use Rattle.hm_quiet_laws.specs.Rest.{IsAtRest, OthersRest}
use Rattle.hm_quiet_laws.proofs.alone.Ends.{DueAlong, Ends}
use Rattle.hm_quiet_laws.proofs.alone.TurnsAlong.{Stood, stood_along}

-- each operation ends within its bound where its actor meets nobody
abbrev pub EachEnds : Program → Type 0
EachEnds c = (o : Op) (u : State) (a : ℕ) → Stood c u → op_at c a (u.going a).index ≡ Some o → IsAtRest c u a → OthersRest c u a → Ends c u a (u.going a).index (quiet_bound c o)

pub record RunsOut (c : Program) (u : State) (a n : ℕ) : Type 0 where
  pub entries : List Entry
  pub few : length entries ≤ n
  pub due : DueAlong c u a entries
  pub rests : IsAtRest c (fold (state_next c) u entries) a
  pub no_more : op_at c a ((fold (state_next c) u entries).going a).index ≡ None
  pub others : (b : ℕ) → (b ≡ a → ⊥) → (fold (state_next c) u entries).going b ≡ u.going b

pub along_append : (c : Program) (u : State) (a : ℕ) (xs ys : List Entry) → DueAlong c u a xs → DueAlong c (fold (state_next c) u xs) a ys → DueAlong c u a (xs ++ ys)
along_append c u a [] ys d e = e
along_append c u a (x ∷ xs) ys d e = (d.0, along_append c (state_next c u x) a xs ys d.1 e)

none_dropped : (xs : List Op) (i : ℕ) → drop i xs ≡ [] → slice_get xs i ≡ None
none_dropped [] i e = refl
none_dropped (x ∷ xs) zero e = cc
none_dropped (x ∷ xs) (suc i) e = none_dropped xs i e

first_dropped : (xs : List Op) (i : ℕ) (o : Op) (os : List Op) → drop i xs ≡ o ∷ os → (slice_get xs i ≡ Some o) × (drop (suc i) xs ≡ os)
first_dropped [] zero o os e = cc
first_dropped [] (suc i) o os e = cc
first_dropped (x ∷ xs) zero o os e = (cc, cc)
first_dropped (x ∷ xs) (suc i) o os e = first_dropped xs i o os e

rest_after : (c : Program) (v : State) (a j : ℕ) → v.going a ≡ going_from c a j → IsAtRest c v a
rest_after c v a j e = e ∙ ap (going_from c a) (sym (ap (λ (g : Going). g.index) e))

others_after : (c : Program) (u v : State) (a : ℕ) → OthersRest c u a → ((b : ℕ) → (b ≡ a → ⊥) → v.going b ≡ u.going b) → OthersRest c v a
others_after c u v a ot e b ne = subst (λ (g : Going). g ≡ going_from c b g.index) (sym (e b ne)) (ot b ne)

pub runs_out : (c : Program) → Small c → EachEnds c → (a : ℕ) (os : List Op) (u : State) → Stood c u → IsAtRest c u a → OthersRest c u a → drop (u.going a).index (ops_of c a) ≡ os → RunsOut c u a (sum_by (quiet_bound c) os)
runs_out c sm each a [] u st r ot e = record { entries = []; few = omega arith; due = tt; rests = r; no_more = none_dropped (ops_of c a) (u.going a).index e; others = λ b ne. refl }
runs_out c sm each a (o ∷ os) u st r ot e = then_ z (runs_out c sm each a os (fold (state_next c) u z.entries) (stood_along c u a z.entries sm st z.due) (rest_after c (fold (state_next c) u z.entries) a ((u.going a).index + 1) z.ended) (others_after c u (fold (state_next c) u z.entries) a ot z.others)
    (ap (λ (g : Going). drop g.index (ops_of c a)) z.ended ∙ (ap (λ i. drop i (ops_of c a)) (add-one (u.going a).index) ∙ f.1)))
  where
    f : (slice_get (ops_of c a) (u.going a).index ≡ Some o) × (drop (suc (u.going a).index) (ops_of c a) ≡ os)
    f = first_dropped (ops_of c a) (u.going a).index o os e

    z : Ends c u a (u.going a).index (quiet_bound c o)
    z = each o u a st f.0 r ot

    then_ : (z : Ends c u a (u.going a).index (quiet_bound c o)) → RunsOut c (fold (state_next c) u z.entries) a (sum_by (quiet_bound c) os) → RunsOut c u a (sum_by (quiet_bound c) (o ∷ os))
    then_ z w = record {
      entries = z.entries ++ w.entries;
      few = omega (arith, length-append z.entries w.entries, z.few, w.few, sum_by-cons (quiet_bound c) o os);
      due = along_append c u a z.entries w.entries z.due w.due;
      rests = subst (λ v. IsAtRest c v a) (sym (fold-append (state_next c) u z.entries w.entries)) w.rests;
      no_more = subst (λ (v : State). op_at c a (v.going a).index ≡ None) (sym (fold-append (state_next c) u z.entries w.entries)) w.no_more;
      others = λ b ne. ap (λ (v : State). v.going b) (fold-append (state_next c) u z.entries w.entries) ∙ (w.others b ne ∙ z.others b ne);
    }
