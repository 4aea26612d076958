-- What a call with one word comes to is what that word comes to.
use Rattle.std.proofs.Common.{◌≡◌, sym, ◌∙◌, subst}
use Rattle.hm_top.specs.Does.{DoesAlone}
use Rattle.hm_edge.specs.Traffic.{Traffic}
use Rattle.hm_top.specs.declared.command.Alone.{Alone}
use Rattle.hm_top.specs.declared.ended.Ended.{Ended}

pub does_alone_so : (io : Traffic) (e : Ended) (x y : Alone) → x ≡ y → DoesAlone y io e → DoesAlone x io e
does_alone_so io e x y is does = subst (λ z. DoesAlone z io e) (sym is) does
