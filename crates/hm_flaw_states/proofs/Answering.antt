-- What answers rightly: accesses past the last page, and mirrors that may be detached.
use Rattle.std.proofs.Common.{◌≡◌, ℕ, ◌+◌, ◌^◌, ◌≤◌, Bool, true, false, not, ◌&&◌, ◌||◌, Option, Some, None, refl, sym, ap, ◌∙◌, arith}
use Rattle.std.proofs.lemmas.Bool.{and_right}
use Rattle.std.proofs.lemmas.Bool.Decides.{nat_tests}
use Rattle.hm_base.specs.Pages.{Pages, lies_in, one_page}
use Rattle.hm_history.proofs.Updates.{here_at, with_case}
use Rattle.hm_history.specs.Memory.Words.{with_at}
use Rattle.hm_history.specs.Memory.Plain.{Attachment, MirrorState, Plain, Attached, Detaching, Gone, in_window, is_attached_state, is_detaching_state, mirror_passes, with_attachment}
use Rattle.hm_flaw_states.specs.Windows.{window_of}

-- the window of a mirror that was attached
pub window_is : (o : Option MirrorState) (w : Option Pages) (x : MirrorState) → window_of o ≡ w → o ≡ Some x → w ≡ Some x.window
window_is o w x same is = sym same ∙ ap window_of is

past : (w : Pages) (v : ℕ) → w.first + w.count ≤ 2 ^ 36 → 2 ^ 36 ≤ v → lies_in (one_page v) w ≡ false
past w v ends far = grind (arith, nat_tests)

-- a page past the last lies in no window
pub far_outside : (s : Plain) (m v : ℕ) → ((x : MirrorState) → s.mirrors m ≡ Some x → x.window.first + x.window.count ≤ 2 ^ 36) → 2 ^ 36 ≤ v → in_window s m (one_page v) ≡ false
far_outside s m v ends far = by (s.mirrors m) refl
  where
    by : (o : Option MirrorState) → s.mirrors m ≡ o → mirror_passes (λ x. is_attached_state x && lies_in (one_page v) x.window) o ≡ false
    by None e = refl
    by (Some x) e = and_right (is_attached_state x) (lies_in (one_page v) x.window) (past x.window v (ends x e) far)

-- ---- a mirror that is detached

abbrev at_stage : MirrorState → Attachment → MirrorState
at_stage x t = record x { stage = t }

abbrev stage_in : Option MirrorState → Attachment
stage_in None = Gone
stage_in (Some x) = x.stage

-- one that may be detached is another one then, and one that may not is the same
pub detached_differs : (f : ℕ → Option MirrorState) (m : ℕ) (b : Bool)
    → (b ≡ true → (k : ℕ) → with_at f m (with_attachment Gone (f m)) k ≡ f k)
    → (((k : ℕ) → with_at f m (with_attachment Gone (f m)) k ≡ f k) → b ≡ true)
    → not b ≡ (mirror_passes is_attached_state (f m) || mirror_passes is_detaching_state (f m))
detached_differs f m b kept keeps = by (f m) refl
  where
    stays : (o : Option MirrorState) → f m ≡ o → with_attachment Gone o ≡ o → b ≡ true
    stays o e same = keeps (λ k. with_case (λ j z. z ≡ f j) f m (with_attachment Gone (f m)) k (λ at. ap (with_attachment Gone) e ∙ (same ∙ sym e)) (λ ne. refl))

    differs : (x : MirrorState) (t : Attachment) → f m ≡ Some (at_stage x t) → (Gone ≡ t → ⊥) → (d : Bool) → b ≡ d → not b ≡ true
    differs x t e ne true is =
        let here : with_attachment Gone (f m) ≡ f m = sym (here_at f m (with_attachment Gone (f m))) ∙ kept is m in
        let gone : with_attachment Gone (Some (at_stage x t)) ≡ Some (at_stage x t) = sym (ap (with_attachment Gone) e) ∙ (here ∙ e) in
        absurd (ne (ap stage_in gone))
    differs x t e ne false is = ap not is

    at : (x : MirrorState) (t : Attachment) → f m ≡ Some (at_stage x t) → not b ≡ (is_attached_state (at_stage x t) || is_detaching_state (at_stage x t))
    at x Attached e = differs x Attached e (λ z. let no : ⊥ = cc in no) b refl
    at x Detaching e = differs x Detaching e (λ z. let no : ⊥ = cc in no) b refl
    at x Gone e = ap not (stays (Some (at_stage x Gone)) e refl)

    by : (o : Option MirrorState) → f m ≡ o → not b ≡ (mirror_passes is_attached_state o || mirror_passes is_detaching_state o)
    by None e = ap not (stays None e refl)
    by (Some x) e = at x x.stage e
