-- What is owed in a race that has one entry more.
use Rattle.std.proofs.Common.{◌≡◌, ℕ, ◌+◌, Option, Some, None, List, [], ◌∷◌, ◌++◌, length, refl, sym, ap, ◌∙◌, subst, fold, append_assoc, arith}
use Rattle.hm_base.specs.Program.{Program}
use Rattle.hm_history.specs.Kernel.Going.{state_of, state_start}
use Rattle.hm_history.specs.declared.Entry.{Entry}
use Rattle.hm_history.specs.declared.Progress.{Progress}
use Rattle.hm_history.proofs.Going.{lengths}
use Rattle.hm_flaws.specs.declared.flaws.Flaw.{Flaw}
use Rattle.hm_flaws.specs.Flawed.{Flawed, due_by, flawed_after, flawed_from, flawed_next}
use Rattle.hm_flaw_parts.specs.Races.Races.{FlawPoint}
use Rattle.hm_flaw_parts.proofs.Turns.{due_to_own, flawed_lengths}
use Rattle.hm_flaw_search.specs.Alike.{entry_of}
use Rattle.hm_flaw_search.specs.Owing.{AreRightFrom, IsOwed, IsOwedAt, earlier}
use Rattle.hm_flaw_search.specs.declared.answer.Owed.{Owed}

-- ---- entries

-- one entry more that the right driver would have made
right_more : (l : Flaw) (c : Program) (t : Flawed) (es : List Entry) (e : Entry) → AreRightFrom l c t es → due_by Flaw.NoFlaw c (fold (flawed_next l c) t es) e.actor ≡ Progress.Did e → AreRightFrom l c t (es ++ e ∷ [])
right_more l c t [] e r d = (d, tt)
right_more l c t (f ∷ es) e r d = (r.0, right_more l c (flawed_next l c t f) es e r.1 d)

-- how long the history is after some entries
long_after : (l : Flaw) (c : Program) (h es : List Entry) → (flawed_after l c h es).state.after.length ≡ length h + length es
long_after l c h es = omega (arith, flawed_lengths l c (flawed_from (state_of c h)) es, lengths c (state_start c) h)

-- the same after one entry more, which was made at this point
pub owed_more : (l : Flaw) (c : Program) (h es : List Entry) (e : Entry) (a : ℕ) (x : FlawPoint) → x.flawed ≡ flawed_after l c h es → x.broken ≡ None → due_by l c x.flawed a ≡ Progress.Did e → (was now : Option Owed) → IsOwed l c h es was → IsOwedAt l c x a now → IsOwed l c h (es ++ e ∷ []) (earlier was now)
owed_more l c h es e a x here none made (Some w) now q r = record {
  before = q.before;
  entry = q.entry;
  rest = q.rest ++ e ∷ [];
  all = ap (λ (xs : List Entry). xs ++ e ∷ []) q.all ∙ append_assoc q.before (q.entry ∷ q.rest) (e ∷ []);
  right = q.right;
  made = q.made;
  otherwise = q.otherwise;
  position = q.position;
  due = q.due;
}
owed_more l c h es e a x here none made None None q r =
    right_more l c (flawed_from (state_of c h)) es e q (due_to_own Flaw.NoFlaw c (flawed_after l c h es) a e (subst (λ (t : Flawed). due_by Flaw.NoFlaw c t a ≡ Progress.Did e) here (r e none made)))
owed_more l c h es e a x here none made None (Some w) q r = record {
  before = es;
  entry = e;
  rest = [];
  all = refl;
  right = q;
  made = subst (λ (b : ℕ). due_by l c (flawed_after l c h es) b ≡ Progress.Did e) (sym r.actor) (subst (λ (t : Flawed). due_by l c t a ≡ Progress.Did e) here made);
  otherwise = λ d. r.otherwise (subst (λ (t : Flawed). due_by Flaw.NoFlaw c t a ≡ Progress.Did e) (sym here) (subst (λ (b : ℕ). due_by Flaw.NoFlaw c (flawed_after l c h es) b ≡ Progress.Did e) r.actor d) ∙ (sym made ∙ r.made));
  position = r.position ∙ (ap (λ (t : Flawed). t.state.after.length) here ∙ long_after l c h es);
  due = r.due ∙ (ap (λ (t : Flawed). due_by Flaw.NoFlaw c t a) here ∙ ap (due_by Flaw.NoFlaw c (flawed_after l c h es)) (sym r.actor));
}

-- ---- turns

-- a turn that comes to an entry has made it
made_by : (p : Progress) (e : Entry) → entry_of p ≡ Some e → p ≡ Progress.Did e
made_by (Progress.Did f) e is = cc
made_by (Progress.Waiting why) e is = cc
made_by Progress.Idle e is = cc

-- two turns that come to the same entry
pub none_alike : (l : Flaw) (c : Program) (x : FlawPoint) (a : ℕ) → entry_of (due_by l c x.flawed a) ≡ entry_of (due_by Flaw.NoFlaw c x.flawed a) → IsOwedAt l c x a None
none_alike l c x a same e none made = made_by (due_by Flaw.NoFlaw c x.flawed a) e (sym same ∙ ap entry_of made)
