-- With no variant all is as in the definitions; and with any the memory is.
use Rattle.std.proofs.Common.{◌≡◌, ℕ, Option, Some, List, [], ◌∷◌, fold, refl, sym, ap, ◌∙◌}
use Rattle.std.proofs.lemmas.List.Sums.{fold-append}
use Rattle.hm_base.specs.Program.{Program}
use Rattle.hm_base.specs.declared.ops.Op.{Op}
use Rattle.hm_history.specs.Memory.After.{After, after_nothing, after_entry}
use Rattle.hm_history.specs.Kernel.Going.{op_at, state_of, state_next, state_start}
use Rattle.hm_history.specs.Kernel.Due.{due_phase, due_top, progress}
use Rattle.hm_history.specs.declared.Entry.{Entry}
use Rattle.hm_history.specs.declared.phases.Migrating.{Migrating}
use Rattle.hm_history.specs.declared.phases.Phase.{Phase}
use Rattle.hm_history.specs.declared.phases.Next.{Next}
use Rattle.hm_laws.proofs.Histories.Sound.{after_is}
use Rattle.hm_linux.specs.declared.variant.Variant.{Variant}
use Rattle.hm_linux.specs.Noted.{Noted, Varied, varied_from}
use Rattle.hm_linux.specs.Instead.{due_varied, due_varied_top, varied_next, varied_on}
use Rattle.hm_linux.specs.Variants.{no_variant}
use Rattle.hm_linux.specs.Laws.{NoneIsDue, NoneGoesOn, MemoryIsTheSame}

none_varied : (c : Program) (n : Noted) (s : After) (a : ℕ) (o : Op) (xs : List Migrating) (top : Phase) (next : Next)
    → due_varied no_variant c n s a o xs top next ≡ next
none_varied c n s a o xs Phase.Begin next = refl
none_varied c n s a o xs (Phase.Pages v) next = refl
none_varied c n s a o xs (Phase.Decide touch) next = refl
none_varied c n s a o xs (Phase.Noted k since q x) next = refl
none_varied c n s a o xs (Phase.Guard p r met told body) next = refl
none_varied c n s a o xs (Phase.Moves step v) next = refl
none_varied c n s a o xs top next = refl

none_top : (c : Program) (n : Noted) (s : After) (a : ℕ) (o : Option Op) (xs : List Migrating) (stack : List Phase)
    → due_varied_top no_variant c n s a o xs stack ≡ due_top c s a o xs stack
none_top c n s a (Some o) xs (top ∷ below) = ap (progress a) (none_varied c n s a o xs top (due_phase c s a o xs top))
none_top c n s a o xs stack = refl

pub none_is_due : NoneIsDue
none_is_due c t a = let g = t.state.going a in
    none_top c t.noted t.state.after a (op_at c a g.index) g.pages g.stack

none_on : (c : Program) (t : Varied) (es : List Entry)
    → (varied_on no_variant c t es).state ≡ fold (state_next c) t.state es
none_on c t [] = refl
none_on c t (e ∷ es) = none_on c (varied_next no_variant c t e) es

pub none_goes_on : NoneGoesOn
none_goes_on c h es =
    none_on c (varied_from (state_of c h)) es ∙ sym (fold-append (state_next c) (state_start c) h es)

memory_on : (l : Variant) (c : Program) (t : Varied) (es : List Entry)
    → (varied_on l c t es).state.after ≡ fold after_entry t.state.after es
memory_on l c t [] = refl
memory_on l c t (e ∷ es) = memory_on l c (varied_next l c t e) es

pub memory_is_the_same : MemoryIsTheSame
memory_is_the_same l c h es =
    memory_on l c (varied_from (state_of c h)) es
    ∙ (ap (λ s. fold after_entry s es) (after_is c h) ∙ sym (fold-append after_entry after_nothing h es))
