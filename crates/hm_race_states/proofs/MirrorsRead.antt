-- Mirrors that are read alike have the same items.
use Rattle.std.proofs.Common.{◌≡◌, ℕ, zero, suc, List, Option, Some, None, refl, sym, ap, ◌∙◌}
use Rattle.hm_history.specs.Memory.Plain.{MirrorState, Attachment}
use Rattle.hm_history.specs.Memory.Plain as stage
use Rattle.hm_race_keys.specs.Sparse.{found}
use Rattle.hm_race_keys.specs.declared.sparse.Item.{Item}
use Rattle.hm_race_states.specs.Mirrors.{attachment_of, mirror_of, mirrors_in, AreMirrors}
use Rattle.hm_race_states.specs.declared.mirrors.RaceMirror.{RaceMirror}
use Rattle.hm_race_states.specs.declared.mirrors.RaceAttachment.{RaceAttachment}
use Rattle.hm_race_states.specs.declared.mirrors.RaceAttachment.TheVariants.{Attached, Detaching, Gone}

-- what is kept of a stage
abbrev stage_back : Attachment → RaceAttachment
stage_back stage.Attached = Attached
stage_back stage.Detaching = Detaching
stage_back stage.Gone = Gone

stage_itself : (t : RaceAttachment) → stage_back (attachment_of t) ≡ t
stage_itself Attached = refl
stage_itself Detaching = refl
stage_itself Gone = refl

-- what is kept of a mirror
abbrev kept_of : Option MirrorState → Option RaceMirror
kept_of None = None
kept_of (Some x) = Some (record { dev = x.dev; proc = x.proc; window = x.window; stage = stage_back x.stage })

itself : (a : Option RaceMirror) → kept_of (mirror_of a) ≡ a
itself None = refl
itself (Some x) = ap {B = Option RaceMirror} (λ (t : RaceAttachment). Some (record { dev = x.dev; proc = x.proc; window = x.window; stage = t })) (stage_itself x.stage)

same_mirror : (a b : Option RaceMirror) → mirror_of a ≡ mirror_of b → a ≡ b
same_mirror a b e = sym (itself a) ∙ (ap kept_of e ∙ itself b)

pub mirrors_found : (xs ys : List (Item RaceMirror)) → AreMirrors xs → AreMirrors ys → ((m : ℕ) → mirrors_in xs m ≡ mirrors_in ys m) → (r k : ℕ) → found xs r k ≡ found ys r k
mirrors_found xs ys e f h zero k = same_mirror (found xs 0 k) (found ys 0 k) (h k)
mirrors_found xs ys e f h (suc r) k = e r k ∙ sym (f r k)
