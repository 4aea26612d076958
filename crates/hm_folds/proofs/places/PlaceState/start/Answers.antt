use Rattle.std.proofs.Common.{ℕ, false, None, refl, sym, subst}
use Rattle.std.specs.Prelude.{Option}
use Rattle.std.proofs.Math.Path.{fun_ext}
use Rattle.hm_base.specs.declared.Place.{Place}
use Rattle.hm_tables.specs.Values.{Tables}
use Rattle.hm_tables.specs.Shown.{TablesShown}
use Rattle.hm_tables.proofs.Starts.{tables_starts}
use Rattle.hm_folds.proofs.SeqSteps.{all_alike}
use Rattle.hm_folds.proofs.places.PlaceState.start.Goals as goal

pub returns-clause-shown : goal.returns-clause-shown
returns-clause-shown c = let p = c.args.script.now in let gone : Option ℕ = None in record {
  tables = subst (λ (t : Tables). TablesShown p (λ q v. Place.Empty) _ t) (sym c.in_ok-tables.ensures) (tables_starts p c.facts.ensures);
  frames = c.new-3.ensures.frames;
  held = c.new-3.ensures.held;
  committed = c.new-4.ensures;
  standing = c.new-5.ensures;
  moving = c.new-6.ensures;
  withdrawn = fun_ext (λ d. all_alike false 4 d);
  removed = fun_ext (λ d. all_alike false 4 d);
  table = fun_ext (λ m. fun_ext (λ v. c.in_ok-mirror_tables.ensures m v));
  device = fun_ext (λ m. all_alike gone 32 m);
  named = λ q v f e. cc;
  one = refl;
}

pub returns-clause-owners : goal.returns-clause-owners
returns-clause-owners c = λ m. let gone : Option ℕ = None in all_alike gone 32 m
