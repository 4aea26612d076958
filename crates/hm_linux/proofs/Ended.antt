-- With no variant, the outcomes are those of the definitions.
use Rattle.std.proofs.Common.{◌≡◌, ℕ, Bool, true, false, ◌==◌, if◌then◌else◌, List, [], ◌∷◌, ◌++◌, fold, refl, sym, ap, ◌∙◌, subst}
use Rattle.std.proofs.Math.Path.{fun_ext}
use Rattle.hm_base.specs.Program.{Program}
use Rattle.hm_history.specs.Kernel.Going.{state_of, state_next, state_of-snoc}
use Rattle.hm_history.specs.Kernel.Due.{due_in}
use Rattle.hm_history.specs.Laws.{DueFrom}
use Rattle.hm_history.specs.declared.Kind.{Kind}
use Rattle.hm_history.specs.declared.Entry.{Entry}
use Rattle.hm_history.specs.declared.Progress.{Progress}
use Rattle.hm_race_laws.specs.Outcomes.{outcome, answer_of, with_answer, answers_of, answers_next, no_answers, ended, ended_in}
use Rattle.hm_race_laws.specs.Closed.{IsListed}
use Rattle.hm_linux.specs.Noted.{Varied, varied_from}
use Rattle.hm_linux.specs.Instead.{varied_next, DueAs}
use Rattle.hm_linux.specs.Outcomes.{Said, HasAll, answered, said_next, answers_as, nothing_said}
use Rattle.hm_linux.specs.Variants.{no_variant}
use Rattle.hm_linux.specs.Laws.{NoneHasAll}
use Rattle.hm_linux.proofs.Absent.{none_is_due, none_goes_on}

-- ---- what is due

due_to : (c : Program) (h es : List Entry) (t : Varied) → t.state ≡ state_of c h → DueAs no_variant c t es
    → DueFrom c h es
due_to c h [] t e d = tt
due_to c h (x ∷ es) t e d = (
  subst (λ u. due_in c u x.actor ≡ Progress.Did x) e (sym (none_is_due c t x.actor) ∙ d.0),
  due_to c (h ++ x ∷ []) es (varied_next no_variant c t x)
      (ap (λ u. state_next c u x) e ∙ sym (state_of-snoc c h x)) d.1,
)

due_from : (c : Program) (h es : List Entry) (t : Varied) → t.state ≡ state_of c h → DueFrom c h es
    → DueAs no_variant c t es
due_from c h [] t e d = tt
due_from c h (x ∷ es) t e d = (
  none_is_due c t x.actor ∙ subst (λ u. due_in c u x.actor ≡ Progress.Did x) (sym e) d.0,
  due_from c (h ++ x ∷ []) es (varied_next no_variant c t x)
      (ap (λ u. state_next c u x) e ∙ sym (state_of-snoc c h x)) d.1,
)

-- ---- answers

-- no answer is taken back
abbrev Alike : (ℕ → Said) → (ℕ → List Kind) → Type 0
Alike f g = (a : ℕ) → f a ≡ record { before = []; since = g a }

said_alike : (f : ℕ → Said) (g : ℕ → List Kind) (e : Entry) → Alike f g
    → Alike (said_next no_variant f e) (answers_next g e)
said_alike f g e alike a = by (a == e.actor)
  where
    by : (b : Bool) → (if b then answered (f e.actor) e.kind else f a)
        ≡ record { before = []; since = if b then with_answer (answer_of e.kind) (g e.actor) else g a }
    by true = ap (λ x. answered x e.kind) (alike e.actor)
    by false = alike a

all_alike : (f : ℕ → Said) (g : ℕ → List Kind) (es : List Entry) → Alike f g
    → Alike (fold (said_next no_variant) f es) (fold answers_next g es)
all_alike f g [] alike = alike
all_alike f g (e ∷ es) alike = all_alike (said_next no_variant f e) (answers_next g e) es (said_alike f g e alike)

same_answers : (es : List Entry) (a : ℕ) → answers_as no_variant es a ≡ answers_of es a
same_answers es a = ap (λ (x : Said). x.before ++ x.since) (all_alike nothing_said no_answers es (λ b. refl) a)

same_outcome : (c : Program) (es : List Entry) → outcome c (answers_as no_variant es) ≡ outcome c (answers_of es)
same_outcome c es = ap (outcome c) (fun_ext (same_answers es))

-- ---- both ways

pub none_has_all : NoneHasAll
none_has_all c h xs = (to, from)
  where
    to : HasAll no_variant c h xs → (es : List Entry) → DueFrom c h es → ended c (h ++ es) ≡ true
        → IsListed xs (outcome c (answers_of es))
    to all es d e = all (outcome c (answers_of es)) (record {
      entries = es;
      due = due_from c h es (varied_from (state_of c h)) refl d;
      ended = ap (ended_in c) (none_goes_on c h es) ∙ e;
      same = same_outcome c es;
    })

    from : ((es : List Entry) → DueFrom c h es → ended c (h ++ es) ≡ true → IsListed xs (outcome c (answers_of es)))
        → HasAll no_variant c h xs
    from all x is = subst (IsListed xs) (sym (same_outcome c is.entries) ∙ is.same)
        (all is.entries (due_to c h is.entries (varied_from (state_of c h)) refl is.due)
        (ap (ended_in c) (sym (none_goes_on c h is.entries)) ∙ is.ended))
