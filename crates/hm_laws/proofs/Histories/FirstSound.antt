-- The state before any entry is sound.
use Rattle.std.proofs.Common.{◌≡◌, ℕ, zero, suc, inl, None, refl, sym, arith}
use Rattle.std.proofs.lemmas.Bool.{eqb-true}
use Rattle.hm_base.specs.Program.{Program}
use Rattle.hm_laws.specs.Sound.{count_guards, Sound}
use Rattle.hm_history.specs.Memory.After.{after_nothing}
use Rattle.hm_laws.specs.Past.{past_start}

no_guards : (p n : ℕ) → count_guards (λ a. None) p n ≡ 0
no_guards p zero = refl
no_guards p (suc n) = rw (no_guards p n) refl

pub first_sound : (c : Program) → Sound c after_nothing past_start
first_sound c = record {
  locks = record { one_writer = λ p b d w e i. cc; free_above = λ b h. refl };
  places = record { listed = λ p v h. cc; ranged = λ p v h. cc };
  frames = record {
    names_held = λ p v f h. cc;
    stands_held = λ p v f h. cc;
    one_page = λ p v q u f h i. cc;
    stood_page = λ p v q u f h i. cc;
    alone = λ p v q u f h i j. cc;
    locked_held = λ f b h. cc;
    held_used = λ f h i. cc;
    moving_locked = λ p v f h. cc;
    stands_locked = λ p v f h i. cc;
    direct_fresh = λ p v f h. refl;
  };
  pools = record { below = λ f h. cc; closed = λ d h. cc; emptied = λ d n h. refl };
  processes = record {
    no_area = λ p h. refl;
    area_below = λ p v h. cc;
    there_been = λ p h. h;
    been_named = λ p h. inl (eqb-true p 0 h);
    namer_named = λ p h. refl;
  };
  areas = record { in_area = λ p v h i. cc; may_write = λ p v h. cc; absent = λ p v h i. refl; unborn = λ p v h i. refl };
  reads = record { reads = λ p a h i. cc };
  untouched = record { untouched = λ p a h i j. cc };
  mirrors = record { paired = λ m. tt };
  arrivals = record { of_been = λ m x h. cc };
  sequences = record {
    few = λ m y h. cc;
    not_above = λ m y h. cc;
    odd_seq = λ m y h. cc;
    deferred = λ m y h i. cc;
    leaving = λ m y h i. cc;
    met_odd = λ a g h i. cc;
    met_now = λ a g h i. cc;
    counted = λ p. sym (no_guards p 16);
    odd_active = λ p h. cc;
    positive = λ p. omega arith;
    guard_below = λ a g h. cc;
  };
  guards = record { waits = λ m v y h i. cc; guarded = λ a m g y h i j k l. cc };
  tables = record { unattached = λ m v h. refl; entered = λ m v e x h i. cc };
  past = record { told_below = λ m v. omega arith; begun_below = λ a m i h. cc };
  untold = record { untold = λ m v e h. cc; set_rightly = λ m v e h. cc };
}
