-- What a change asks of the mirrors follows from what it asks of the state.
use Rattle.std.proofs.Common.{◌≡◌, ℕ, ◌<◌, true, Option, Some, None, List, refl, ap, ◌∙◌}
use Rattle.std.proofs.lemmas.List.{get_or-replicate}
use Rattle.hm_base.specs.Pages.{Pages, covers}
use Rattle.hm_history.specs.Memory.Plain.{Plain, mirror_passes, plain_start}
use Rattle.hm_history.specs.Memory.Places.{Places, places_start}
use Rattle.hm_history.specs.declared.Kind.{Kind}
use Rattle.hm_mirrors.specs.Mirrors.{mirrors_start, mirror_at, InTable, CanStep}
use Rattle.hm_mirrors.specs.Shown.{HasWindow, MirrorsShown, MirrorsFit}
use Rattle.hm_mirrors.specs.declared.info.Mirror.{Mirror}
use Rattle.hm_mirrors.proofs.Kept.{state_in, shown_in, device_in}

-- the window of a mirror's table is its own
in_table : (v : ℕ) (o : Option Mirror) → mirror_passes (λ x. covers x.window v) (state_in o) ≡ true → HasWindow o → InTable v o
in_table v None e h = tt
in_table v (Some x) e h = ap (λ (r : Pages). covers r v) h ∙ e

-- the step may be made
pub can_step : (s : Plain) (t : Places) (k : Kind) (xs : List (Option Mirror)) → MirrorsShown s.mirrors t.table t.device xs → MirrorsFit s.mirrors k → CanStep k xs
can_step s t (Kind.Set m v f w from) xs h e = λ l. in_table v (mirror_at xs m) (ap (mirror_passes (λ x. covers x.window v)) (h.infos m l) ∙ e.0) (h.windows m l)
can_step s t k xs h e = tt

-- the first state is shown
none_at : (m : ℕ) → m < 32 → mirror_at mirrors_start m ≡ None
none_at m l = get_or-replicate 32 m None None l

at_none : (o : Option Mirror) → o ≡ None → HasWindow o
at_none None e = tt
at_none (Some x) e = absurd (let b : ⊥ = cc in b)

pub starts : MirrorsShown plain_start.mirrors places_start.table places_start.device mirrors_start
starts = record {
  len = refl;
  infos = λ m l. ap state_in (none_at m l);
  windows = λ m l. at_none (mirror_at mirrors_start m) (none_at m l);
  entries = λ m v l. ap (shown_in v) (none_at m l);
  devices = λ m l. ap device_in (none_at m l);
}
