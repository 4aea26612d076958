-- Turns that are judged to break a part of legality are a race in which the driver breaks it.
use Rattle.std.proofs.Common.{◌≡◌, ℕ, Option, Some, None, List, [], ◌∷◌, ◌++◌, refl, sym, ap, ◌∙◌, subst, fold, append_assoc, append-nil}
use Rattle.std.proofs.lemmas.List.Sums.{fold-append}
use Rattle.hm_base.specs.Program.{Program}
use Rattle.hm_base.specs.declared.ops.Op.{Op}
use Rattle.hm_history.specs.Kernel.Going.{op_at, state_of}
use Rattle.hm_history.specs.Kernel.Due.{progress}
use Rattle.hm_history.specs.declared.Entry.{Entry}
use Rattle.hm_history.specs.declared.Progress.{Progress}
use Rattle.hm_history.specs.declared.phases.Phase.{Phase}
use Rattle.hm_history.specs.declared.phases.Next.{Next}
use Rattle.hm_history.specs.declared.phases.Next.TheVariants.{Do, Wait}
use Rattle.hm_flaws.specs.declared.flaws.Flaw.{Flaw}
use Rattle.hm_flaws.specs.Overrides.{due_flawed}
use Rattle.hm_flaws.specs.Flawed.{Flawed, flawed_from, flawed_next, flawed_after, due_by, due_flawed_top, as_read, found}
use Rattle.hm_flaws.specs.Parts.{Part, broken_part}
use Rattle.hm_flaws.specs.Judged.{UnbrokenBy, Breaks, Judged, judged_entry, judged_turn, judged_on, judged_from, judged_after, judged}

abbrev entry_of : Entry → Progress → Entry
entry_of e (Progress.Did d) = d
entry_of e _ = e

-- what is due to an actor is its own
own_actor : (l : Flaw) (c : Program) (t : Flawed) (a : ℕ) (e : Entry) → due_by l c t a ≡ Progress.Did e → e.actor ≡ a
own_actor l c t a e d = top (op_at c a (t.state.going a).index) (t.state.going a).stack d
  where
    next : (n : Next) → progress a n ≡ Progress.Did e → e.actor ≡ a
    next (Do k) h = sym (ap (λ p. (entry_of e p).actor) h)
    next (Wait y) h = cc

    top : (o : Option Op) (stack : List Phase) → due_flawed_top l c t.driver (found l c t) a o (t.state.going a).pages stack ≡ Progress.Did e → e.actor ≡ a
    top None [] h = cc
    top None (x ∷ stack) h = cc
    top (Some o) [] h = cc
    top (Some o) (x ∷ stack) h = next (as_read l t.driver (due_flawed l c (found l c t) a o (t.state.going a).pages x)) h

-- an entry is due, and breaks none of the parts
abbrev PassesAfter : List Part → Flaw → Program → List Entry → Flawed → Entry → Type 0
PassesAfter parts l c h t e = (due_by l c t e.actor ≡ Progress.Did e) × (broken_part parts c h t.state.going e ≡ None)

pub unbroken_more : (parts : List Part) (l : Flaw) (c : Program) (h : List Entry) (t : Flawed) (es : List Entry) (e : Entry) → UnbrokenBy parts l c h t es → PassesAfter parts l c (h ++ es) (fold (flawed_next l c) t es) e → UnbrokenBy parts l c h t (es ++ e ∷ [])
unbroken_more parts l c h t [] e u p = (p.0, subst (λ z. broken_part parts c z t.state.going e ≡ None) (append-nil h) p.1, tt)
unbroken_more parts l c h t (x ∷ es) e u p = (u.0, u.1, unbroken_more parts l c (h ++ x ∷ []) (flawed_next l c t x) es e u.2 (p.0, subst (λ z. broken_part parts c z (fold (flawed_next l c) (flawed_next l c t x) es).state.going e ≡ None) (sym (append_assoc h (x ∷ []) es)) p.1))

pub after_more : (l : Flaw) (c : Program) (h es : List Entry) (e : Entry) → flawed_after l c h (es ++ e ∷ []) ≡ flawed_next l c (flawed_after l c h es) e
after_more l c h es e = fold-append (flawed_next l c) (flawed_from (state_of c h)) es (e ∷ [])

record Keeps (parts : List Part) (l : Flaw) (c : Program) (h : List Entry) (x : Judged) : Type 0 where
  pub unbroken : UnbrokenBy parts l c h (flawed_from (state_of c h)) x.entries
  pub same : x.flawed ≡ flawed_after l c h x.entries

-- what is known of turns, by the part that they broke
abbrev Known : List Part → Flaw → Program → List Entry → Judged → Option (Entry × Part) → Type 0
Known parts l c h x None = Keeps parts l c h x
Known parts l c h x (Some y) = Breaks parts l c h x.entries y.0 y.1

entry_known : (parts : List Part) (l : Flaw) (c : Program) (h : List Entry) (x : Judged) (e : Entry) → Keeps parts l c h x → due_by l c x.flawed e.actor ≡ Progress.Did e → (o : Option Part) → broken_part parts c (h ++ x.entries) x.flawed.state.going e ≡ o → Known parts l c h (judged_entry parts l c h x e o) (judged_entry parts l c h x e o).broken
entry_known parts l c h x e k d (Some part) b = record {
  unbroken = k.unbroken;
  is_due = subst (λ z. due_by l c z e.actor ≡ Progress.Did e) k.same d;
  broken = subst (λ (z : Flawed). broken_part parts c (h ++ x.entries) z.state.going e ≡ Some part) k.same b;
}
entry_known parts l c h x e k d None b = record {
  unbroken = unbroken_more parts l c h (flawed_from (state_of c h)) x.entries e k.unbroken (subst (λ z. PassesAfter parts l c (h ++ x.entries) z e) k.same (d, b));
  same = ap (λ z. flawed_next l c z e) k.same ∙ sym (after_more l c h x.entries e);
}

turn_known : (parts : List Part) (l : Flaw) (c : Program) (h : List Entry) (x : Judged) (a : ℕ) → Keeps parts l c h x → (p : Progress) → due_by l c x.flawed a ≡ p → x.broken ≡ None → Known parts l c h (judged_turn parts l c h x p) (judged_turn parts l c h x p).broken
turn_known parts l c h x a k (Progress.Did e) d n = entry_known parts l c h x e k (ap (due_by l c x.flawed) (own_actor l c x.flawed a e d) ∙ d) (broken_part parts c (h ++ x.entries) x.flawed.state.going e) refl
turn_known parts l c h x a k (Progress.Waiting y) d n = subst (Known parts l c h x) (sym n) k
turn_known parts l c h x a k Progress.Idle d n = subst (Known parts l c h x) (sym n) k

on_known : (parts : List Part) (l : Flaw) (c : Program) (h : List Entry) (x : Judged) (a : ℕ) (o : Option (Entry × Part)) → x.broken ≡ o → Known parts l c h x o → Known parts l c h (judged_on parts l c h o x a) (judged_on parts l c h o x a).broken
on_known parts l c h x a None n k = turn_known parts l c h x a k (due_by l c x.flawed a) refl n
on_known parts l c h x a (Some y) n k = subst (Known parts l c h x) (sym n) k

all_known : (parts : List Part) (l : Flaw) (c : Program) (h : List Entry) (turns : List ℕ) (x : Judged) → Known parts l c h x x.broken → Known parts l c h (judged_after parts l c h turns x) (judged_after parts l c h turns x).broken
all_known parts l c h [] x k = k
all_known parts l c h (a ∷ turns) x k = all_known parts l c h turns (judged_on parts l c h x.broken x a) (on_known parts l c h x a x.broken refl k)

pub judged_breaks : (parts : List Part) (l : Flaw) (c : Program) (h : List Entry) (turns : List ℕ) (e : Entry) (part : Part) → (judged parts l c h turns).broken ≡ Some (e, part) → Breaks parts l c h (judged parts l c h turns).entries e part
judged_breaks parts l c h turns e part b = subst (Known parts l c h (judged parts l c h turns)) b (all_known parts l c h turns (judged_from c h) (record { unbroken = tt; same = refl }))
