-- How many entries an operation adds at most that meets nobody.
use Rattle.std.specs.Prelude.{ℕ, ◌+◌, ◌*◌, min, sum_by, slice_index}
use Rattle.hm_base.specs.Program.{Program}
use Rattle.hm_base.specs.declared.ops.Op.{Op}

-- how many mirrors the operation attaches
abbrev pub attaches : Op → ℕ
attaches (Op.Attach m d p r) = 1
attaches _ = 0

-- how many processes it makes
abbrev pub forks : Op → ℕ
forks (Op.Fork p child) = 1
forks _ = 0

-- how many pages it maps
abbrev pub mapped_pages : Op → ℕ
mapped_pages (Op.Map p r w) = r.count
mapped_pages _ = 0

-- a sum over all operations of a script
abbrev pub over_ops : (Op → ℕ) → Program → ℕ
over_ops f c = sum_by (λ os. sum_by f os) c.actors

-- the most entries of a guard without those of its body: its start, one for each mirror, its end
abbrev pub guard_cost : Program → ℕ
guard_cost c = over_ops attaches c + 2

-- the most processes that a script can have
abbrev pub process_count : Program → ℕ
process_count c = min (1 + over_ops forks c) 32

-- the most pages that it maps
abbrev pub page_count : Program → ℕ
page_count c = over_ops mapped_pages c

-- for each process a guard, a `place` in it and one at the finish; then take, eight parts, commit, drop, done
abbrev pub home_cost : Program → ℕ
home_cost c = process_count c * (guard_cost c + 2) + 12

-- two pieces, each with a page brought home, a copy on write and a look-up
abbrev pub access_cost : Program → ℕ
access_cost c = 2 * (home_cost c + guard_cost c + 15)

-- the most entries of an operation that nobody disturbs (a law of hm_quiet_laws)
abbrev pub quiet_bound : Program → Op → ℕ
quiet_bound c (Op.Load p at n) = access_cost c
quiet_bound c (Op.Store p at bs) = access_cost c
quiet_bound c (Op.DeviceLoad m at n) = access_cost c
quiet_bound c (Op.DeviceStore m at bs) = access_cost c
quiet_bound c (Op.Map p r w) = 2
quiet_bound c (Op.Unmap p r) = 2 * r.count + guard_cost c + 2
quiet_bound c (Op.Protect p r w) = r.count + guard_cost c + 2
quiet_bound c (Op.Exit p) = 2 * page_count c + guard_cost c + 2
quiet_bound c (Op.Fork p d) = 2 * page_count c + guard_cost c + 3
quiet_bound c (Op.Attach m d p r) = 1
quiet_bound c (Op.Detach m) = 1
quiet_bound c (Op.Snap m r) = r.count + 2
quiet_bound c (Op.ToDevice m r) = r.count * (home_cost c + 1) + guard_cost c + 2
quiet_bound c (Op.ToSystem m r) = r.count * (home_cost c + 1) + guard_cost c + 2
quiet_bound c (Op.Evict d) = slice_index c.devices d * home_cost c + 1
quiet_bound c (Op.Remove d) = slice_index c.devices d * home_cost c + 2
quiet_bound c (Op.Exclusive m v) = home_cost c + 2 * guard_cost c + 8
quiet_bound c (Op.Add m at n) = home_cost c + 2 * guard_cost c + 10

-- the sum over all operations
abbrev pub sum_of_bounds : Program → ℕ
sum_of_bounds c = over_ops (quiet_bound c) c
