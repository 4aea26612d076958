-- What keys of one form have alike, and the other way round.
use Rattle.std.proofs.Common.{◌≡◌, ℕ, Option, List, [], ap, ◌∙◌}
use Rattle.std.proofs.Math.Path.{fun_ext}
use Rattle.hm_base.specs.Pages.{Pages}
use Rattle.hm_base.specs.declared.Frame.{Frame}
use Rattle.hm_history.specs.Kernel.Going.{State}
use Rattle.hm_history.specs.Memory.After.{After}
use Rattle.hm_history.specs.Memory.Places.{TableEntry}
use Rattle.hm_history.specs.Memory.Sequences.{interval_seq}
use Rattle.hm_flaws.specs.Drivers.{Driver, driver_of}
use Rattle.hm_flaws.specs.Flawed.{Flawed}
use Rattle.hm_flaws.specs.declared.parts.Part.{Part}
use Rattle.hm_flaw_parts.specs.Marks.{Marked}
use Rattle.hm_flaw_parts.specs.Races.Races.{FlawPoint}

-- what the right driver has of its own is in the state
pub right_own : (s : After) (t : ℕ → ℕ → Option TableEntry) (q : ℕ → ℕ) (l : ℕ → List (ℕ × Pages)) (b : Frame → ℕ → ℕ)
    → t ≡ s.places.table → ((m : ℕ) → q m ≡ interval_seq s.sequences m) → ((a : ℕ) → l a ≡ []) → b ≡ s.contents
    → (let x : Driver = record { table = t; seq = q; late = l; contents = b } in x) ≡ driver_of s
right_own s t q l b it iq il ib =
    ap (λ (z : ℕ → ℕ → Option TableEntry). let x : Driver = record { table = z; seq = q; late = l; contents = b } in x) it
    ∙ (ap (λ (z : ℕ → ℕ). let x : Driver = record { table = s.places.table; seq = z; late = l; contents = b } in x) (fun_ext iq)
    ∙ (ap (λ (z : ℕ → List (ℕ × Pages)). let x : Driver = record (driver_of s) { late = z; contents = b } in x) (fun_ext il)
    ∙ ap (λ (z : Frame → ℕ → ℕ). let x : Driver = record (driver_of s) { contents = z } in x) ib))

abbrev flawed_made : State → Driver → Flawed
flawed_made u d = record { state = u; driver = d }

pub one_flawed : (x y : Flawed) → x.state ≡ y.state → x.driver ≡ y.driver → x ≡ y
one_flawed x y u d = ap (λ (z : State). flawed_made z x.driver) u ∙ ap (flawed_made y.state) d

abbrev form_made : Flawed → Marked → Option Part → FlawPoint
form_made t m o = record { flawed = t; marked = m; broken = o }

pub one_point : (x y : FlawPoint) → x.flawed ≡ y.flawed → x.marked ≡ y.marked → x.broken ≡ y.broken → x ≡ y
one_point x y t m o =
    ap (λ (z : Flawed). form_made z x.marked x.broken) t
    ∙ (ap (λ (z : Marked). form_made y.flawed z x.broken) m ∙ ap (form_made y.flawed y.marked) o)
