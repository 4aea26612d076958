-- What drivers come to, by computation. tools/make_flaw_races.py writes this file.
use Rattle.std.proofs.Common.{refl}
use Rattle.hm_flaws.specs.Told.{ToldApart}

pub told_apart : ToldApart
told_apart = (refl, refl, refl, refl, refl, refl, refl, refl, refl, refl, refl, refl, refl, refl, refl, refl, refl, refl, refl, refl, refl, refl, refl, refl, refl)
