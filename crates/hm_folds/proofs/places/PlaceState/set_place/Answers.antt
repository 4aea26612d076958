use Rattle.std.proofs.Common.{◌≡◌, refl, sym, ap, ◌∙◌, subst}
use Rattle.std.specs.Prelude.{Option, Result, Ok, Err, OnErr}
use Rattle.std.proofs.lemmas.Bool.{and_parts}
use Rattle.hm_base.specs.declared.Frame.{Frame}
use Rattle.hm_base.specs.PlaceWords.{is_frame, names}
use Rattle.hm_history.specs.Memory.Places.{pool_size, places_next, holds_target, one_writer}
use Rattle.hm_history.specs.declared.Kind.{Kind}
use Rattle.hm_tables.specs.Values.{Tables}
use Rattle.hm_tables.specs.Shown.{TablesShown}
use Rattle.hm_tables.proofs.TablesKept.{tables_kept, shown_same}
use Rattle.hm_folds.specs.Commits.{committed_at}
use Rattle.hm_folds.specs.Standing.{is_backed, is_moving_of}
use Rattle.hm_folds.specs.Places.{PlacesShown, ForShown}
use Rattle.hm_folds.specs.Shares.{shares_at}
use Rattle.hm_folds.proofs.FewPages.{page_fits}
use Rattle.hm_folds.proofs.PlaceSteps.{backed_by, kept_place, named_placed}
use Rattle.hm_folds.proofs.TableSizes.{fitted_same, fitted_next, named_fits, size_fits}
use Rattle.hm_folds.proofs.places.PlaceState.set_place.Goals as goal

pub reserve-requires : goal.reserve-requires
reserve-requires c = named_fits c.args.self.now.tables c.args.self.now.held.pools c.args.self.now.fitted (names c.args.place.now) c.requires

pub invariant_of-self-2 : goal.invariant_of-self-2
invariant_of-self-2 c = record { fitted = fitted_next c.args.self.now.tables c.reserve.new.self c.step.new.self c.args.self.now.held.pools c.args.proc c.args.page c.args.place.now c.args.self.now.fitted c.reserve.ensures.same c.step.ensures.tables }

pub returns-clause-ok : goal.returns-clause-ok
returns-clause-ok c = λ p s h e.
    let x = c.args.self.now in
    let y = c.args.place.now in
    let k = Kind.Place c.args.proc c.args.page y in
    let old = c.place-old.result in
    let was : old ≡ s.place c.args.proc c.args.page = c.place-old.ensures ∙ h.tables.places c.args.proc c.args.page in
    let to = committed_at x.commits.pools in
    let parts = and_parts (holds_target s (names y)) (one_writer (places_next s k)) e in
    record {
      tables = subst (λ (t : Tables). TablesShown p (places_next s k).place (places_next s k).placed t) (sym c.step.ensures.tables)
          (tables_kept p s k c.reserve.new.self (shown_same p s.place s.placed x.tables c.reserve.new.self c.reserve.ensures.same h.tables) (size_fits (pool_size p) x.held.pools h.frames (names y) c.requires) c.step.ensures.range);
      frames = h.frames;
      held = h.held;
      committed = h.committed;
      standing = λ f. kept_place s h.tables.once h.tables.listed (is_backed s f) refl c.args.proc c.args.page y old _ _ _ (is_frame c.backing-to.result f) (is_frame c.backing-from.result f) was
          (ap (λ (o : Option Frame). is_frame o f) (c.backing-to.ensures ∙ backed_by to s h.committed y))
          (ap (λ (o : Option Frame). is_frame o f) (c.backing-from.ensures ∙ backed_by to s h.committed old))
          (h.standing f) (c.in_ok-share_more.ensures.standing (page_fits p s x.tables h.tables (shares_at x.standing.pools) (is_backed s) (λ f. refl) h.standing y) f) (c.share_less.ensures.standing f);
      moving = λ f. kept_place s h.tables.once h.tables.listed (is_moving_of f) refl c.args.proc c.args.page y old _ _ _ (is_moving_of f y) (is_moving_of f old) was refl refl
          (h.moving f) (c.in_ok-share_more.ensures.moving (page_fits p s x.tables h.tables (shares_at x.moving.pools) is_moving_of (λ f. refl) h.moving y) f) (c.share_less.ensures.moving f);
      withdrawn = h.withdrawn;
      removed = h.removed;
      table = h.table;
      device = h.device;
      named = named_placed s h.named c.args.proc c.args.page y parts.0;
      one = parts.1;
    }

pub step-requires-clause-fits : goal.step-requires-clause-fits
step-requires-clause-fits c =
    let x = c.args.self.now in
    named_fits c.reserve.new.self x.held.pools (fitted_same x.tables c.reserve.new.self x.held.pools x.fitted c.reserve.ensures.same) (names c.args.place.now) c.requires

on_err : {T E P : Type 0} (r : Result T E) → P → OnErr r P
on_err (Ok x) p = tt
on_err (Err e) p = p

pub returns-in_err-share_more-clause-err : goal.returns-in_err-share_more-clause-err
returns-in_err-share_more-clause-err c = on_err {P = ForShown c.args.self.now (λ p s. PlacesShown p s _)} _ (λ p s h. let x = c.args.self.now in record {
  tables = shown_same p s.place s.placed x.tables c.reserve.new.self c.reserve.ensures.same h.tables;
  frames = h.frames;
  held = h.held;
  committed = h.committed;
  standing = λ f. c.in_err-share_more.ensures.stands (page_fits p s x.tables h.tables (shares_at x.standing.pools) (is_backed s) (λ f. refl) h.standing c.args.place.now) f ∙ h.standing f;
  moving = λ f. c.in_err-share_more.ensures.moves f ∙ h.moving f;
  withdrawn = h.withdrawn;
  removed = h.removed;
  table = h.table;
  device = h.device;
  named = h.named;
  one = h.one;
})
