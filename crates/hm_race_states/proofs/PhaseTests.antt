-- `==` of phases, which is derived, says whether they are the same.
use Rattle.std.proofs.Common.{rules, ◌≡◌, ◌&&◌, true, ap, ◌∙◌}
use Rattle.std.proofs.lemmas.Bool.{and_parts}
use Rattle.std.specs.Bool.{Decides}
use Rattle.hm_base.specs.declared.Frame.{Frame}
use Rattle.hm_base.specs.declared.Place.{Place}
use Rattle.hm_base.specs.contracts.Place.{enum as place}
use Rattle.hm_base.specs.contracts.FramePartialEq.TheImpl as FrameEq
use Rattle.hm_base.specs.contracts.PlacePartialEq.TheImpl as PlaceEq
use Rattle.hm_history.specs.declared.phases.Body.{Body}
use Rattle.hm_history.specs.declared.phases.Touch.{Touch}
use Rattle.hm_history.specs.declared.phases.Phase.{Phase}
use Rattle.hm_history.specs.contracts.phases.Body.{enum as body}
use Rattle.hm_history.specs.contracts.phases.Touch.{enum as touch}
use Rattle.hm_history.specs.contracts.phases.Phase.{enum as phase}
use Rattle.hm_history.specs.contracts.phases.BodyPartialEq.TheImpl as BodyEq
use Rattle.hm_history.specs.contracts.phases.TouchPartialEq.TheImpl as TouchEq
use Rattle.hm_history.specs.contracts.phases.PhasePartialEq.TheImpl as PhaseEq
use Rattle.hm_race_states.proofs.Derived.{values_are_decided}

places : (x y : Place) → Decides ((PlaceEq.ghosts).eq x y) (x ≡ y)
places = values_are_decided place _ (
  (λ x y. ((λ e. search rules), (λ e. search rules))),
  (
    (λ x y. ((λ e. search rules), (λ e. search rules))),
    (
      (λ x y. ((λ e. search rules), (λ e. search rules))),
      (
        (λ x y. ((λ e. search rules), (λ e. search rules))),
        (
          (λ x y. ((λ e. search rules), (λ e. search rules))),
          ((λ x y. ((λ e. search rules), (λ e. search rules))), tt),
        ),
      ),
    ),
  ),
)

touches : (x y : Touch) → Decides ((TouchEq.ghosts).eq x y) (x ≡ y)
touches = values_are_decided touch _ (
  (λ x y. ((λ e. search rules), (λ e. search rules))),
  (
    (λ x y. ((λ e. search rules), (λ e. search rules))),
    ((λ x y. ((λ e. search rules), (λ e. search rules))), tt),
  ),
)

bodies : (x y : Body) → Decides ((BodyEq.ghosts).eq x y) (x ≡ y)
bodies = values_are_decided body _ (
  (λ x y. ((λ e. search rules), (λ e. search rules))),
  (
    (λ x y. ((λ e. search rules), (λ e. search rules))),
    (
      (λ x y. ((λ e. search rules), (λ e. search rules))),
      (
        (λ x y. ((λ e. search rules), (λ e. search rules))),
        (
          (λ x y. ((λ e. search rules), (λ e. search rules))),
          (
            (λ x y. ((λ e. search rules), (λ e. search rules))),
            (
              (λ x y. ((λ e. search rules), (λ e. search rules))),
              (
                (λ x y. ((λ e. search rules), (λ e. search rules))),
                (
                  (λ x y. ((λ e. search rules), (λ e. search rules))),
                  (
                    (λ x y. ((λ e. search rules), (λ e. search rules))),
                    ((λ x y. ((λ e. search rules), (λ e. search rules))), tt),
                  ),
                ),
              ),
            ),
          ),
        ),
      ),
    ),
  ),
)

-- the fields of a fault that has taken a frame
taken : (x y : Touch × (Frame × (Place × Unit {0})))
    → ((TouchEq.ghosts).eq x.0 y.0 ≡ true)
    × ((FrameEq.ghosts).eq x.1.0 y.1.0 && (PlaceEq.ghosts).eq x.1.1.0 y.1.1.0 ≡ true)
    → x ≡ y
taken x y e =
    let rest : ((FrameEq.ghosts).eq x.1.0 y.1.0 ≡ true) × ((PlaceEq.ghosts).eq x.1.1.0 y.1.1.0 ≡ true)
    = and_parts _ _ e.1 in
    let frames : x.1.0 ≡ y.1.0 = search (rules, rest.0) in
    ap (λ a. (a, x.1)) ((touches x.0 y.0).0 e.0)
    ∙ ap (λ b. (y.0, (b, x.1.1))) frames
    ∙ ap (λ c. (y.0, (y.1.0, (c, tt)))) ((places x.1.1.0 y.1.1.0).0 rest.1)

pub phases : (x y : Phase) → Decides ((PhaseEq.ghosts).eq x y) (x ≡ y)
phases = values_are_decided phase _ (
  (λ x y. ((λ e. search rules), (λ e. search rules))),
  (
    (λ x y. ((λ e. search rules), (λ e. search rules))),
    (
      (λ x y. ((λ e. search rules), (λ e. search rules))),
      (
        (λ x y. ((λ e. search rules), (λ e. search rules))),
        (
          (λ x y. ((λ e. search rules), (λ e. search rules))),
          (
            (λ x y. ((λ e. search rules), (λ e. search rules))),
            (
              (λ x y. ((λ e. search rules), (λ e. search rules))),
              (
                (λ x y. ((λ e. search rules), (λ e. search rules))),
                (
                  (λ x y. ((λ e. search rules), (λ e. search rules))),
                  (
                    (λ x y. ((λ e. search rules), (λ e. search rules))),
                    (
                      (λ x y. ((λ e. search rules), (λ e. search rules))),
                      (
                        (λ x y. ((λ e. taken x y (and_parts _ _ e)), (λ e. search (rules, touches, places)))),
                        (
                          (λ x y. ((λ e. taken x y (and_parts _ _ e)), (λ e. search (rules, touches, places)))),
                          (
                            (λ x y. ((λ e. search (rules, bodies)), (λ e. search (rules, bodies)))),
                            (
                              (λ x y. ((λ e. search rules), (λ e. search rules))),
                              (
                                (λ x y. ((λ e. search rules), (λ e. search rules))),
                                (
                                  (λ x y. ((λ e. search rules), (λ e. search rules))),
                                  (
                                    (λ x y. ((λ e. search rules), (λ e. search rules))),
                                    (
                                      (λ x y. ((λ e. search rules), (λ e. search rules))),
                                      (
                                        (λ x y. ((λ e. search rules), (λ e. search rules))),
                                        (
                                          (λ x y. ((λ e. search rules), (λ e. search rules))),
                                          (
                                            (λ x y. ((λ e. search rules), (λ e. search rules))),
                                            (
                                              (λ x y. ((λ e. search rules), (λ e. search rules))),
                                              ((λ x y. ((λ e. search rules), (λ e. search rules))), tt),
                                            ),
                                          ),
                                        ),
                                      ),
                                    ),
                                  ),
                                ),
                              ),
                            ),
                          ),
                        ),
                      ),
                    ),
                  ),
                ),
              ),
            ),
          ),
        ),
      ),
    ),
  ),
)
