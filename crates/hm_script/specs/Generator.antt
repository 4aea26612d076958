-- The scripts that are drawn from a number.
use Rattle.std.specs.Prelude.{ℕ, ◌+◌, ◌*◌, ◌/◌, ◌%◌, ◌^◌, suc, zero, ◌==◌, nat_lt, if◌then◌else◌, List, [], ◌∷◌, ◌++◌}
use Rattle.hm_base.specs.Pages.{Pages, span}
use Rattle.hm_base.specs.Program.{Program}
use Rattle.hm_base.specs.declared.ops.Version.TheVariants.{One}
use Rattle.hm_base.specs.declared.ops.Rights.{Rights}
use Rattle.hm_base.specs.declared.ops.Rights.TheVariants.{Read, ReadWrite}
use Rattle.hm_base.specs.declared.ops.Op.{Op}
use Rattle.hm_base.specs.declared.ops.Op.TheVariants.{Map, Unmap, Protect, Load, Store, Fork, Attach, DeviceLoad}
use Rattle.hm_base.specs.declared.ops.Op.TheVariants.{DeviceStore, ToDevice, ToSystem, Snap, Evict}
use Rattle.hm_base.specs.declared.ops.ScheduleLine.{ScheduleLine}
use Rattle.hm_base.specs.declared.ops.ScheduleLine.TheVariants.{Run}

-- ---- draws

-- the number that is kept after a draw
unfoldable pub drawn_on : ℕ → ℕ
drawn_on x = (x * 6364136223846793005 + 1442695040888963407) % 2 ^ 64

-- what a draw below k gives
unfoldable pub draw : ℕ → ℕ → ℕ
draw x k = drawn_on x / 2 ^ 33 % k

-- what was drawn, and the number that is kept then
pub record Drawn (A : Type 0) : Type 0 where
  pub value : A
  pub rest : ℕ

-- the two fields of what was drawn, so that equations need no record
abbrev pub drawn : {A : Type 0} → A → ℕ → Drawn A
drawn a x = record { value = a; rest = x }

-- n of them, one after the other
unfoldable pub drawn_list : {A : Type 0} → (ℕ → Drawn A) → ℕ → ℕ → Drawn (List A)
drawn_list one x zero = drawn [] x
drawn_list one x (suc n) = let first = one x in let others = drawn_list one first.rest n in
    drawn (first.value ∷ others.value) others.rest

-- ---- operations

-- a process or mirror, an address and a number of bytes
pub record Access : Type 0 where
  pub who : ℕ
  pub addr : ℕ
  pub len : ℕ

-- one of the first four processes or mirrors, an address in the first 320 pages, and 1 to 16 bytes
abbrev pub drawn_access : ℕ → Drawn Access
drawn_access x = let a = drawn_on x in let b = drawn_on a in let c = drawn_on b in
    drawn (record { who = draw x 4; addr = draw a 320 * 4096 + draw b 4096; len = 1 + draw c 16 }) (drawn_on c)

-- a byte for a store
abbrev pub drawn_byte : ℕ → Drawn ℕ
drawn_byte x = drawn (draw x 256) (drawn_on x)

-- a load, of whichever kind `make` is, of a drawn access
abbrev pub drawn_load : (ℕ → ℕ → ℕ → Op) → ℕ → Drawn Op
drawn_load make x = let a = drawn_access x in drawn (make a.value.who a.value.addr a.value.len) a.rest

-- a store, of whichever kind `make` is, of drawn bytes over a drawn access
abbrev pub drawn_store : (ℕ → ℕ → List ℕ → Op) → ℕ → Drawn Op
drawn_store make x = let a = drawn_access x in let b = drawn_list drawn_byte a.rest a.value.len in
    drawn (make a.value.who a.value.addr b.value) b.rest

-- a process or mirror, and a span of one to `most` pages that begins below `pages`
abbrev pub drawn_span : (ℕ → Pages → Op) → ℕ → ℕ → ℕ → Drawn Op
drawn_span make pages most x = let a = drawn_on x in let b = drawn_on a in
    drawn (make (draw x 4) (span (draw a pages) (1 + draw b most))) (drawn_on b)

-- the right that a draw of 0 or 1 stands for
abbrev pub drawn_right : ℕ → Rights
drawn_right n = if n == 0 then Read else ReadWrite

-- a change of right on one to four pages of one of the first four processes
abbrev pub drawn_protect : ℕ → Drawn Op
drawn_protect x = let a = drawn_on x in let b = drawn_on a in let c = drawn_on b in
    drawn (Protect (draw x 4) (span (draw a 256) (1 + draw b 4)) (drawn_right (draw c 2))) (drawn_on c)

-- an eviction of one of the two devices
abbrev pub drawn_evict : ℕ → Drawn Op
drawn_evict x = drawn (Evict (draw x 2)) (drawn_on x)

-- by what the second draw gave
abbrev pub drawn_rare : ℕ → ℕ → Drawn Op
drawn_rare u x = if u == 0 then drawn_evict x
    else (if u == 1 then drawn_protect x
    else (if u == 2 then drawn_span Unmap 256 4 x
    else (if u == 3 then drawn_span (λ p s. Map p s ReadWrite) 256 4 x
    else drawn_load Load x)))

-- by what the first draw gave
abbrev pub drawn_by : ℕ → ℕ → Drawn Op
drawn_by t x = if nat_lt t 4 then drawn_load Load x
    else (if nat_lt t 8 then drawn_store Store x
    else (if nat_lt t 10 then drawn_load DeviceLoad x
    else (if nat_lt t 12 then drawn_store DeviceStore x
    else (if t == 12 then drawn_span ToDevice 312 8 x
    else (if t == 13 then drawn_span ToSystem 312 8 x
    else (if t == 14 then drawn_span Snap 312 8 x
    else drawn_rare (draw x 16) (drawn_on x)))))))

unfoldable pub drawn_op : ℕ → Drawn Op
drawn_op x = drawn_by (draw x 16) (drawn_on x)

-- 500 operations
abbrev pub drawn_actor : ℕ → Drawn (List Op)
drawn_actor x = drawn_list drawn_op x 500

-- one to sixteen turns of one of the eight actors
abbrev pub drawn_line : ℕ → Drawn ScheduleLine
drawn_line x = let a = drawn_on x in drawn (Run (draw x 8) (1 + draw a 16)) (drawn_on a)

-- ---- the script

-- what the first actor begins with
abbrev pub first_ops : List Op
first_ops = Map 0 (span 0 256) ReadWrite ∷ Map 0 (span 256 64) Read ∷ Fork 0 1 ∷ Fork 0 2 ∷ Fork 0 3
    ∷ Attach 0 0 0 (span 0 320)
    ∷ Attach 1 1 0 (span 0 320)
    ∷ Attach 2 0 1 (span 0 320)
    ∷ Attach 3 1 2 (span 0 320)
    ∷ []

-- what the first actor has, the other actors and the schedule
unfoldable pub generated : ℕ → Program
generated x =
    let first = drawn_list drawn_op x 491 in
    let others = drawn_list drawn_actor first.rest 7 in
    record {
      version = One;
      frames = 2048;
      devices = 256 ∷ 256 ∷ [];
      skip = 16;
      actors = (first_ops ++ first.value) ∷ others.value;
      schedule = Run 0 40 ∷ (drawn_list drawn_line others.rest 20000).value;
    }
