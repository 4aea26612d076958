-- Entries that are shared, with one more.
use Rattle.std.proofs.Common.{◌≡◌, List, [], ◌∷◌, ◌++◌, Global, map, ap, ◌∙◌}
use Rattle.std.proofs.lemmas.List.{map-append}
use Rattle.std.specs.Rc.{rc_value}
use Rattle.std.specs.declared.rc.Rc.{Rc}
use Rattle.hm_history.specs.declared.Entry.{Entry}

pub longer_by : (xs ys : List (Rc Entry Global)) (x : Rc Entry Global) (es : List Entry) (e : Entry) → ys ≡ xs ++ x ∷ [] → map rc_value xs ≡ es → x.value ≡ e → map rc_value ys ≡ es ++ e ∷ []
longer_by xs ys x es e more same is =
    ap (map rc_value) more ∙ (map-append rc_value xs (x ∷ [])
    ∙ (ap (λ (gs : List Entry). gs ++ x.value ∷ []) same ∙ ap (λ (g : Entry). es ++ g ∷ []) is))
