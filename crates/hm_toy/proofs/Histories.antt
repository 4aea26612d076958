-- Legal histories of the small value.
use Rattle.std.proofs.Common.{◌≡◌, ℕ, zero, suc, ◌-◌, ◌<◌, Bool, true, false, List, [], ◌∷◌, ◌++◌, length, slice_get, take, Option, Some, None, if◌then◌else◌, ◌==◌, sym, refl, ap, ◌∙◌, subst, arith, append_assoc, length-append}
use mathlib.Core.List.{append-nil}
use Rattle.hm_base.specs.Program.{Program}
use Rattle.hm_history.specs.Memory.Plain.{Plain, touched}
use Rattle.hm_history.specs.Memory.After.{after}
use Rattle.hm_history.specs.declared.Entry.{Entry}
use Rattle.hm_history.specs.declared.Kind.{Kind}
use Rattle.hm_history.specs.declared.Progress.TheVariants.{Did}
use Rattle.hm_history.specs.declared.StepError.{StepError}
use Rattle.hm_turns.specs.Touching.{touched_after, last_touched}
use Rattle.hm_toy.specs.declared.toy.Choice.{Choice}
use Rattle.hm_toy.specs.Toys.{entry_of, decided, progress_of, due_of, LegalFrom, IsLegal, IsSound, Shown, touch_of}
use Rattle.hm_turns.proofs.Marks.{none_touches}

legal_more : (s : Program) (before es : List Entry) (e : Entry) → LegalFrom s before es → Did e ≡ due_of s (before ++ es) e.actor → LegalFrom s before (es ++ e ∷ [])
legal_more s before [] e l d = (d ∙ ap (λ (h : List Entry). due_of s h e.actor) (append-nil before), tt)
legal_more s before (x ∷ es) e l d = (l.0, legal_more s (before ++ x ∷ []) es e l.1 (d ∙ ap (λ (h : List Entry). due_of s h e.actor) (sym (append_assoc before (x ∷ []) es))))

pub sound_more : (s : Program) (h h' : List Entry) (a : ℕ) → IsSound s h → length h < 2000000 → Choice.Add ≡ decided s h a → h' ≡ h ++ entry_of a ∷ [] → IsSound s h'
sound_more s h h' a k short add is =
    subst (IsSound s) (sym is) record { legal = legal_more s [] h (entry_of a) k.legal (ap (progress_of a) add); short = omega (arith, length-append h (entry_of a ∷ [])) }

entry_is : (a : ℕ) (c : Choice) (e : Entry) → Did e ≡ progress_of a c → e ≡ entry_of a
entry_is a Choice.Add e is = cc
entry_is a Choice.Wait e is = absurd (let z = is in cc)
entry_is a Choice.Rest e is = absurd (let z = is in cc)

each_entry_is : (s : Program) (before es : List Entry) (i : ℕ) (e : Entry) → LegalFrom s before es → slice_get es i ≡ Some e → e ≡ entry_of e.actor
each_entry_is s before [] i e l at = absurd (let z = at in cc)
each_entry_is s before (x ∷ es) zero e l at = let same : x ≡ e = cc in subst (λ (z : Entry). z ≡ entry_of z.actor) same (entry_is x.actor _ x l.0)
each_entry_is s before (x ∷ es) (suc i) e l at = each_entry_is s (before ++ x ∷ []) es i e l.1 at

kind_touches : (s : Plain) (a : ℕ) (b : Bool) → touched s (if b then Kind.Rlock 0 else Kind.Exited a) ≡ (if b then None else Some a)
kind_touches s a true = refl
kind_touches s a false = refl

last_of : (s : Program) (h : List Entry) (e : Entry) → IsLegal s h → slice_get h (length h - 1) ≡ Some e → last_touched h ≡ touch_of e.actor
unfolding touched_after
last_of s h e l at = let before = take (length h - 1) h in
    ap (touched_after before) at ∙ (ap (λ (z : Entry). touched (after before).plain z.kind) (each_entry_is s [] h (length h - 1) e l at) ∙ kind_touches (after before).plain e.actor (e.actor == 0))

-- what the last entry touches, of a value that shows as `now` and whose entries were read
pub shown_last : (s : Program) (h seen : List Entry) (halt : Option StepError) (now : Shown) (e : Entry) → record { script = s; history = h; halt = halt } ≡ now → seen ≡ h → IsLegal s h
    → Some e ≡ slice_get seen (length seen - 1) → touch_of e.actor ≡ last_touched now.history
shown_last s h seen halt now e is same l at = sym (last_of s h e l (ap (λ (xs : List Entry). slice_get xs (length xs - 1)) (sym same) ∙ sym at)) ∙ ap (λ (v : Shown). last_touched v.history) is

pub shown_none : (s : Program) (h seen : List Entry) (halt : Option StepError) (now : Shown) → record { script = s; history = h; halt = halt } ≡ now → seen ≡ h
    → None ≡ slice_get seen (length seen - 1) → None ≡ last_touched now.history
shown_none s h seen halt now is same at = sym (none_touches h (ap (λ (xs : List Entry). slice_get xs (length xs - 1)) (sym same) ∙ sym at)) ∙ ap (λ (v : Shown). last_touched v.history) is
