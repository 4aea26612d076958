use Rattle.std.proofs.Common.{◌≡◌, ℕ, Bool, true, false, Option, Some, ◌&&◌, ◌==◌, if◌then◌else◌, refl, ap, ◌∙◌, rules}
use Rattle.hm_history.specs.Memory.Lookups.{is_begin_of, is_set_of, set_from}
use Rattle.hm_flaws.specs.Recalled.{goes_back}
use Rattle.hm_flaw_parts.proofs.Marking.{marks_from}
use Rattle.hm_flaw_parts.specs.Marks.{marked_next, marks_in, recalled_by, told_next}
use Rattle.hm_flaw_parts.proofs.marks.Marks.after.Goals as goal

-- what is set, if that is a `set`
set_by : (b : Bool) (f : ℕ) (x y : Bool) (o : Option (Bool × ℕ)) → (b ≡ true → x ≡ y) → (if b then Some (x, f) else o) ≡ (if b then Some (y, f) else o)
set_by true f x y o e = ap (λ (z : Bool). Some (z, f)) (e refl)
set_by false f x y o e = refl

pub returns : goal.returns
returns g c =
    let e = c.args.entry.now in
    let old = marks_in c.args.self.now in
    let s = (g.W.Reads.state c.args.world.now).after in
    marks_from _ (marked_next (g.W.Reads.program c.args.world.now) s old e)
    (λ a m. c.in_ok-begun_after.ensures a m ∙ ap (λ (n : ℕ). if (e.actor == a) && is_begin_of m e.kind then Some n else old.begun a m) c.length-at.ensures)
    (c.in_ok-told_after.ensures ∙ ap (λ (n : ℕ). told_next n old.told e.kind) c.length-at.ensures)
    (λ m v. c.in_ok-sets_after.ensures m v ∙ set_by (is_set_of m v e.kind) (set_from e.kind) _ (goes_back (recalled_by s old) m e) (old.set m v)
    (λ q. c.entry_goes_back-goes_back.ensures m v q ∙ search rules))
    (λ a. c.short_after.ensures a)
