-- What a pass has seen after a look.
use Rattle.std.proofs.Common.{is_some, false, ◌≡◌, ℕ, List, [], ◌∷◌, Option, Some, None, sym, refl, ap, ◌∙◌, subst, add-zero}
use Rattle.atomic_table.specs.Seated.{TableId}
use Rattle.hm_base.specs.Program.{Program}
use Rattle.hm_history.specs.declared.Entry.{Entry}
use Rattle.hm_history.specs.declared.StepError.{StepError}
use Rattle.hm_turns.specs.Looking.{Sees, LooksTo}
use Rattle.hm_turns.specs.Ruled.{Won, winner, freed, sight_of}
use Rattle.hm_turns.specs.Seats.{Becomes, Place, sight}
use Rattle.hm_turns.specs.Sights.{Sight, GoesOn, OwnsOnce}
use Rattle.hm_turns.specs.declared.known.Knowledge.{Knowledge}
use Rattle.hm_turns.specs.declared.looks.Look.{Look}
use Rattle.hm_turns.proofs.Owns.{owns_longer}
use Rattle.hm_turns.proofs.Sums.{prefix_refl}

pub none_where : (o : Option StepError) → is_some o ≡ false → o ≡ None
none_where None h = refl
none_where (Some e) h = absurd (cc h)

-- where a halt would be known of the value, and it has none, none was told
never_told : (told now : Option StepError) → ((e : StepError) → told ≡ Some e → now ≡ Some e) → now ≡ None → told ≡ None
never_told None now known none = refl
never_told (Some e) now known none = absurd (cc (known e refl, none))

module _ {S : Type 0} (script : S → Program) (history : S → List Entry) (halt : S → Option StepError) (legal : Program → List Entry → Type 0) where
  shown : (table : TableId) (v : Knowledge) (x : S) (stopped : Option StepError) → Won script history halt v x → halt x ≡ stopped → stopped ≡ None → legal (script x) (history x)
      → Sees legal (sight_of table (v ∷ [])) (sight_of table (freed (winner v (history x) stopped) stopped ∷ []))
  shown table v x stopped won is none good =
      let running = never_told v.told stopped (λ e told. sym is ∙ won.told e told) none in
      record {
        legal_is = subst (λ c. legal c (history x)) won.script_is good;
        shown = record { later = won.later; counted = won.counted; marked = won.marked };
        running = running;
        pass_is = rw (none, running, add-zero v.stops) refl;
      }

  -- the value was taken, was not halted, and was given back as it was
  pub sees : (old mid new : Place S) (x : S) → Won script history halt old.me.0 x → Becomes old mid (winner old.me.0 (history x) (halt x)) ((0, None) ∷ []) → halt x ≡ None
      → Becomes mid new (freed mid.me.0 (halt x)) [] → legal (script x) (history x) → Sees legal (sight old) (sight new) × ((sight new).list ≡ history x)
  sees old mid new x won taken none given good =
      let known : new.me.0 ≡ freed (winner old.me.0 (history x) (halt x)) (halt x) = ap (λ m. m.0) given.me_is ∙ ap (λ m. freed m.0 (halt x)) taken.me_is in
      let table : new.table_id ≡ old.table_id = given.table_is ∙ taken.table_is in
      let first = shown old.table_id old.me.0 x (halt x) won refl none good in
      (subst (λ (z : TableId × Knowledge). Sees legal (sight old) (sight_of z.0 (z.1 ∷ []))) (λ i. (sym table i, sym known i)) first, ap (λ (v : Knowledge). v.list) known)

module _ (legal : Program → List Entry → Type 0) (p at : ℕ) (bytes : List ℕ) (v : Sight) where
  seen_owns : (w : Sight) → OwnsOnce v.own v.list → Sees legal v w → OwnsOnce w.own w.list
  seen_owns w o s = subst (λ (z : Sight). OwnsOnce z.own z.list) (sym s.pass_is) (owns_longer v.own v.list w.list s.shown.later o)

  -- the own entries stay where they are
  pub owns_looked : (t : Look) (w : Sight) → OwnsOnce v.own v.list → LooksTo legal p at bytes v t w → OwnsOnce w.own w.list
  owns_looked Look.Busy w o t = subst (λ (z : Sight). OwnsOnce z.own z.list) (sym t.1) o
  owns_looked Look.Halted w o t = subst (λ (z : Sight). OwnsOnce z.own z.list) (sym t.pass_is) (owns_longer v.own v.list w.list t.shown.later o)
  owns_looked (Look.Locked by) w o t = seen_owns w o t.0
  owns_looked Look.Unmapped w o t = seen_owns w o t.0
  owns_looked (Look.Filled n) w o t = seen_owns w o t.0

  seen_goes : (w : Sight) → Sees legal v w → GoesOn v w
  seen_goes w s = record { desk = ap (λ (z : Sight). z.desk) s.pass_is; shares = ap (λ (z : Sight). z.shares) s.pass_is; later = s.shown.later }

  -- the pass goes on
  pub goes_looked : (t : Look) (w : Sight) → LooksTo legal p at bytes v t w → GoesOn v w
  goes_looked Look.Busy w t = subst (λ (z : Sight). GoesOn v z) (sym t.1) record { desk = refl; shares = refl; later = prefix_refl v.list }
  goes_looked Look.Halted w t = record { desk = ap (λ (z : Sight). z.desk) t.pass_is; shares = ap (λ (z : Sight). z.shares) t.pass_is; later = t.shown.later }
  goes_looked (Look.Locked by) w t = seen_goes w t.0
  goes_looked Look.Unmapped w t = seen_goes w t.0
  goes_looked (Look.Filled n) w t = seen_goes w t.0
