-- What was followed stands for the state after the history.
use Rattle.std.proofs.Common.{◌≡◌, List, sym, ap, ◌∙◌, subst}
use Rattle.hm_base.specs.Program.{Program}
use Rattle.hm_flaws.specs.Recalled.{recalled_of}
use Rattle.hm_flaws.proofs.Recalling.{is_recalled}
use Rattle.hm_folds.specs.Places.{PlacesShown}
use Rattle.hm_history.specs.Kernel.Going.{State, state_of}
use Rattle.hm_history.specs.Memory.After.{After}
use Rattle.hm_history.specs.declared.Entry.{Entry}
use Rattle.hm_laws.proofs.Histories.Sound.{after_is}
use Rattle.hm_parts.specs.Follower.{IsFollowed, StandsFor}
use Rattle.hm_parts.specs.declared.follower.Follower.{Follower}

-- by a script that is the same
pub followed_by : (p c : Program) (h : List Entry) (x : Follower) → p ≡ c → IsFollowed p (recalled_of p h) x → IsFollowed c (recalled_of c h) x
followed_by p c h x same = subst (λ (q : Program). IsFollowed q (recalled_of q h) x) same

pub stands_for : (p c : Program) (h : List Entry) (t : State) (x : Follower) → p ≡ c → t ≡ state_of c h → IsFollowed p (recalled_of p h) x → StandsFor c t.after x
stands_for p c h t x script state so =
    let f : IsFollowed c (recalled_of c h) x = followed_by p c h x script so in
    let same : (recalled_of c h).state ≡ t.after = (is_recalled c h).state ∙ sym (after_is c h) ∙ ap (λ (y : State). y.after) (sym state) in
    record {
      plain = f.plain ∙ ap (λ (s : After). s.plain) same;
      shown = subst (λ (s : After). PlacesShown c s.places x.places) same f.shown;
      sequences = f.sequences ∙ ap (λ (s : After). s.sequences) same;
    }
