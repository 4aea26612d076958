-- A run goes on by the turns behind a schedule.
use Rattle.std.proofs.Common.{◌≡◌, ℕ, zero, suc, ◌+◌, ◌≤◌, Bool, true, false, ◌&&◌, ◌==◌, List, [], ◌∷◌, ◌++◌, length, refl, ap, ◌∙◌, fold, arith}
use Rattle.std.specs.Prelude.{nat_lt, nat_le}
use Rattle.std.specs.List.{list_all}
use Rattle.std.proofs.lemmas.List.Sums.{fold-append}
use Rattle.std.proofs.lemmas.Bool.{and_parts, eqb-true}
use Rattle.std.proofs.lemmas.Bool.Decides.{nat_tests}
use Rattle.hm_base.specs.Program.{Program, schedule_fits}
use Rattle.hm_base.specs.declared.ops.ScheduleLine.{ScheduleLine}
use Rattle.hm_history.specs.Kernel.Legal.{MayFollow, LegalFrom}
use Rattle.hm_history.specs.Kernel.Run.{turn, turns, line_run, run}
use Rattle.hm_history.specs.declared.Entry.{Entry}
use Rattle.hm_race_laws.specs.Outcomes.{raced}
use Rattle.hm_script.specs.Built.{has_drain}
use Rattle.hm_race_top.specs.Text.Schedule.{packed_from, packed, with_turns}
use Rattle.hm_race_top.specs.Text.Laws.{TurnsLead, TurnsStand, SameLegal}

-- one more turn of an actor is its last
turns_more : (c : Program) (h : List Entry) (a k : ℕ) → turns c h a (suc k) ≡ turn c (turns c h a k) a
turns_more c h a zero = refl
turns_more c h a (suc k) = turns_more c (turn c h a) a k

turns_next : (c : Program) (h : List Entry) (a k : ℕ) → turns c h a (k + 1) ≡ turn c (turns c h a k) a
turns_next c h a k = ap (turns c h a) more ∙ turns_more c h a k
  where
    more : k + 1 ≡ suc k
    more = omega arith

led_from : (c : Program) (h : List Entry) (a k : ℕ) (bs : List ℕ) → fold (line_run c) h (packed_from a k bs) ≡ raced c (turns c h a k) bs
led_from c h a k [] = refl
led_from c h a k (b ∷ bs) = by (led_from c h a (k + 1) bs) (led_from c (turns c h a k) b 1 bs) ((a == b) && nat_lt k 1000000) refl
  where
    again : a ≡ b → raced c (turns c h a (k + 1)) bs ≡ raced c (turn c (turns c h a k) b) bs
    again e = ap (λ (g : List Entry). raced c g bs) (turns_next c h a k ∙ ap (turn c (turns c h a k)) e)

    by : fold (line_run c) h (packed_from a (k + 1) bs) ≡ raced c (turns c h a (k + 1)) bs → fold (line_run c) (turns c h a k) (packed_from b 1 bs) ≡ raced c (turns c (turns c h a k) b 1) bs
        → (t : Bool) → ((a == b) && nat_lt k 1000000) ≡ t
        → fold (line_run c) h (elim t as (λ _. List ScheduleLine) [ true ↦ packed_from a (k + 1) bs | false ↦ ScheduleLine.Run a k ∷ packed_from b 1 bs ]) ≡ raced c (turn c (turns c h a k) b) bs
    by longer next true e = longer ∙ again (eqb-true a b (and_parts (a == b) (nat_lt k 1000000) e).0)
    by longer next false e = next

led : (c : Program) (h : List Entry) (bs : List ℕ) → fold (line_run c) h (packed bs) ≡ raced c h bs
led c h [] = refl
led c h (a ∷ bs) = led_from c h a 1 bs

pub turns_lead : TurnsLead
turns_lead c bs = fold-append (line_run c) [] c.schedule (packed bs) ∙ led c (run c) bs

-- ---- scripts

fits_behind : (n : ℕ) (ls more : List ScheduleLine) → has_drain ls ≡ false → schedule_fits n ls ≡ true → schedule_fits n more ≡ true → schedule_fits n (ls ++ more) ≡ true
fits_behind n [] more none fits f = f
fits_behind n (ScheduleLine.Drain ∷ ls) more none fits f = cc
fits_behind n (ScheduleLine.Run a k ∷ ls) more none fits f = by (λ e. fits_behind n ls more none e f) (nat_le 1 k && nat_le k 1000000) (nat_lt a n) fits
  where
    by : (schedule_fits n ls ≡ true → schedule_fits n (ls ++ more) ≡ true) → (x y : Bool) → (x && (y && schedule_fits n ls)) ≡ true → (x && (y && schedule_fits n (ls ++ more))) ≡ true
    by rest true true e = rest e
    by rest true false e = cc
    by rest false y e = cc

all_true : (x y z : Bool) → x ≡ true → y ≡ true → z ≡ true → (x && (y && z)) ≡ true
all_true true true true p q r = refl
all_true false y z p q r = cc
all_true true false z p q r = cc
all_true true true false p q r = cc

count_fits : (k : ℕ) → 1 ≤ k → k ≤ 1000000 → (nat_le 1 k && nat_le k 1000000) ≡ true
count_fits k low high = grind (arith, nat_tests)

packed_fits : (n a k : ℕ) (bs : List ℕ) → 1 ≤ k → k ≤ 1000000 → nat_lt a n ≡ true → list_all (λ b. nat_lt b n) bs ≡ true → schedule_fits n (packed_from a k bs) ≡ true
packed_fits n a k [] low high here all = all_true _ _ _ (count_fits k low high) here refl
packed_fits n a k (b ∷ bs) low high here all =
    by (λ more. packed_fits n a (k + 1) bs (omega arith) more here parts.1) (packed_fits n b 1 bs (omega arith) (omega arith) parts.0 parts.1) ((a == b) && nat_lt k 1000000) refl
  where
    parts : (nat_lt b n ≡ true) × (list_all (λ x. nat_lt x n) bs ≡ true)
    parts = and_parts (nat_lt b n) (list_all (λ x. nat_lt x n) bs) all

    small : nat_lt k 1000000 ≡ true → k + 1 ≤ 1000000
    small less = grind (arith, nat_tests)

    by : (k + 1 ≤ 1000000 → schedule_fits n (packed_from a (k + 1) bs) ≡ true) → schedule_fits n (packed_from b 1 bs) ≡ true → (t : Bool) → ((a == b) && nat_lt k 1000000) ≡ t
        → schedule_fits n (elim t as (λ _. List ScheduleLine) [ true ↦ packed_from a (k + 1) bs | false ↦ ScheduleLine.Run a k ∷ packed_from b 1 bs ]) ≡ true
    by longer next true e = longer (small (and_parts (a == b) (nat_lt k 1000000) e).1)
    by longer next false e = all_true _ _ _ (count_fits k low high) here next

all_fit : (n : ℕ) (bs : List ℕ) → list_all (λ b. nat_lt b n) bs ≡ true → schedule_fits n (packed bs) ≡ true
all_fit n [] all = refl
all_fit n (a ∷ bs) all = let parts = and_parts (nat_lt a n) (list_all (λ b. nat_lt b n) bs) all in packed_fits n a 1 bs (omega arith) (omega arith) parts.0 parts.1

pub turns_stand : TurnsStand
turns_stand c bs s m = record {
  frames = s.frames;
  devices = s.devices;
  few_devices = s.few_devices;
  skip = s.skip;
  few_actors = s.few_actors;
  ops = s.ops;
  few_ops = s.few_ops;
  schedule = fits_behind (length c.actors) c.schedule (packed bs) m.goes_on s.schedule (all_fit (length c.actors) bs m.actors);
  few_lines = m.few_lines;
  version = s.version;
}

-- ---- what is legal

follows_one : (c : Program) (bs : List ℕ) (h : List Entry) (e : Entry) → MayFollow (with_turns c bs) h e → MayFollow c h e
follows_one c bs h e f = record {
  is_due = f.is_due;
  rules = record {
    answers = f.rules.answers;
    places = f.rules.places;
    frames = f.rules.frames;
    sequences = f.rules.sequences;
    untold = f.rules.untold;
    guarded = f.rules.guarded;
  };
  kept = f.kept;
}

follows_two : (c : Program) (bs : List ℕ) (h : List Entry) (e : Entry) → MayFollow c h e → MayFollow (with_turns c bs) h e
follows_two c bs h e f = record {
  is_due = f.is_due;
  rules = record {
    answers = f.rules.answers;
    places = f.rules.places;
    frames = f.rules.frames;
    sequences = f.rules.sequences;
    untold = f.rules.untold;
    guarded = f.rules.guarded;
  };
  kept = f.kept;
}

legal_one : (c : Program) (bs : List ℕ) (h es : List Entry) → LegalFrom (with_turns c bs) h es → LegalFrom c h es
legal_one c bs h [] l = tt
legal_one c bs h (e ∷ es) l = (follows_one c bs h e l.0, legal_one c bs (h ++ e ∷ []) es l.1)

legal_two : (c : Program) (bs : List ℕ) (h es : List Entry) → LegalFrom c h es → LegalFrom (with_turns c bs) h es
legal_two c bs h [] l = tt
legal_two c bs h (e ∷ es) l = (follows_two c bs h e l.0, legal_two c bs (h ++ e ∷ []) es l.1)

pub same_legal : SameLegal
same_legal c bs h = (legal_one c bs [] h, legal_two c bs [] h)
