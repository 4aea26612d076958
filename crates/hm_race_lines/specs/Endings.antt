-- Which lines an operation of a script may end with: the lines of answers that outcomes of its races may have. The
-- script alone says so. A line that is none of them is in no outcome.
use Rattle.std.specs.Prelude.{ℕ, ◌*◌, ◌==◌, Bool, true, false, not, ◌&&◌, ◌||◌, if◌then◌else◌, nat_lt, nat_le}
use Rattle.std.specs.Prelude.{Option, Some, None, List, [], ◌∷◌, ◌++◌, length, codes}
use Rattle.std.specs.Fmt.{decimal}
use Rattle.std.specs.List.{list_all, list_any}
use Rattle.std.specs.Str.{bytes_eq}
use Rattle.hm_base.specs.Program.{Program}
use Rattle.hm_base.specs.declared.cause.Cause.{Cause}
use Rattle.hm_base.specs.declared.ops.Op.{Op}
use Rattle.hm_history.specs.Kernel.Going.{ops_of}
use Rattle.hm_history.specs.Kernel.Operation.{op_piece, op_who, op_writes}
use Rattle.hm_history.specs.Kernel.Run.{actors_of}
use Rattle.hm_history.specs.declared.Kind.{Kind}
use Rattle.hm_history.specs.declared.Who.{Who}
use Rattle.hm_report.specs.Line.{spaced}
use Rattle.hm_report.specs.Words.{actor_text}
use Rattle.hm_race_lines.specs.Answers.{answer_words}

-- ---- texts

-- what comes after these bytes, if the text begins with them
abbrev pub rest_after : List ℕ → List ℕ → Option (List ℕ)
rest_after [] text = Some text
rest_after (b ∷ head) [] = None
rest_after (b ∷ head) (x ∷ text) = if b == x then rest_after head text else None

-- there is a rest, and it passes the test
abbrev pub rest_passes : (List ℕ → Bool) → Option (List ℕ) → Bool
rest_passes test None = false
rest_passes test (Some rest) = test rest

-- the text begins with these bytes, and what comes after them passes the test
abbrev pub begins_with : List ℕ → (List ℕ → Bool) → List ℕ → Bool
begins_with head test text = rest_passes test (rest_after head text)

-- a digit of a decimal number or of bytes. Letters after `f` pass, as no outcome has them
abbrev pub is_digit : ℕ → Bool
is_digit b = (nat_le 48 b && nat_le b 57) || nat_le 97 b

-- a number
abbrev pub is_number : List ℕ → Bool
is_number text = not (length text == 0) && list_all is_digit text

-- such a digit, or a space
abbrev pub is_figure : ℕ → Bool
is_figure b = is_digit b || (b == 32)

-- numbers and bytes, with a space between two
abbrev pub are_numbers : List ℕ → Bool
are_numbers text = not (length text == 0) && list_all is_figure text

-- a space, and n bytes in hexadecimal
abbrev pub is_bytes : ℕ → List ℕ → Bool
is_bytes n [] = false
is_bytes n (b ∷ digits) = (b == 32) && ((length digits == 2 * n) && list_all is_digit digits)

-- ---- what stands after the actor in the line of an answer

-- this answer, whose words have no bytes
abbrev pub says : Kind → List ℕ → Bool
says k text = bytes_eq text (spaced (answer_words k))

-- any refusal
abbrev pub is_refused : List ℕ → Bool
is_refused text = begins_with (codes " refused ") is_number text

-- this answer, or a refusal
abbrev pub says_or_refused : Kind → List ℕ → Bool
says_or_refused k text = says k text || is_refused text

-- the answer of a migration: any number of pages
abbrev pub is_migrated : List ℕ → Bool
is_migrated text = begins_with (codes " migrated ") is_number text || is_refused text

-- the answer of an eviction: any number of frames
abbrev pub is_evicted : List ℕ → Bool
is_evicted text = begins_with (codes " evicted ") is_number text

-- what a snapshot through this mirror tells of a page: any page, and any byte
abbrev pub is_seen : ℕ → List ℕ → Bool
is_seen m text = begins_with (codes " seen m" ++ (decimal m ++ 32 ∷ [])) are_numbers text || is_refused text

-- an addition through this mirror: any address, and any bytes
abbrev pub is_added : ℕ → List ℕ → Bool
is_added m text = begins_with (codes " added m" ++ (decimal m ++ codes " 0x")) are_numbers text

-- the failure of a piece of an access, for this cause
abbrev pub fails_by : Who → ℕ × ℕ → List ℕ → Cause → Bool
fails_by x piece text why = says (Kind.Failed x piece.0 piece.1 why) text

-- its failure, for one of the four causes of an access
abbrev pub is_failed : Who → ℕ × ℕ → List ℕ → Bool
is_failed x piece text =
    fails_by x piece text Cause.Unmapped || (fails_by x piece text Cause.Forbidden
    || (fails_by x piece text Cause.NoFrame || fails_by x piece text Cause.Outside))

-- the answer of an access from an address, without its bytes
abbrev pub access_at : Bool → Who → ℕ → Kind
access_at writes x at = if writes then Kind.Stored x at [] else Kind.Loaded x at []

-- the answer of a piece, with as many bytes as it has
abbrev pub is_done : Bool → Who → ℕ × ℕ → List ℕ → Bool
is_done writes x piece text =
    begins_with (spaced (answer_words (access_at writes x piece.0))) (is_bytes piece.1) text

-- the piece of this number of an access; there is none with no byte
abbrev pub ends_piece : Op → List ℕ → ℕ → Bool
ends_piece o text k = let piece = op_piece o k in
    nat_lt 0 piece.1 && (is_failed (op_who o) piece text || is_done (op_writes o) (op_who o) piece text)

-- one of its pieces, of which it has two at most
abbrev pub ends_access : Op → List ℕ → Bool
ends_access o text = ends_piece o text 0 || ends_piece o text 1

-- the answer of an operation that changes areas or processes
abbrev pub locked_answer : Op → Option Kind
locked_answer (Op.Map p r w) = Some (Kind.Mapped p r w)
locked_answer (Op.Unmap p r) = Some (Kind.Unmapped p r)
locked_answer (Op.Protect p r w) = Some (Kind.Protected p r w)
locked_answer (Op.Fork p child) = Some (Kind.Forked p child)
locked_answer (Op.Exit p) = Some (Kind.Exited p)
locked_answer _ = None

-- the answer of an operation that is no access, and answers once and always the same if it is not refused
abbrev pub whole_answer : Op → Option Kind
whole_answer (Op.Attach m d p r) = Some (Kind.Attached m d p r 0)
whole_answer (Op.Detach m) = Some (Kind.Detached m)
whole_answer (Op.Remove d) = Some (Kind.Removed d)
whole_answer (Op.Exclusive m v) = Some (Kind.Excluded m v)
whole_answer o = locked_answer o

-- a load or a store, by the CPU or through a mirror
abbrev pub is_access : Op → Bool
is_access (Op.Load p at n) = true
is_access (Op.Store p at bs) = true
is_access (Op.DeviceLoad m at n) = true
is_access (Op.DeviceStore m at bs) = true
is_access _ = false

-- an operation that answers with a number, or more than once, may end with this after its actor, or tell it
abbrev pub ends_rarely : Op → List ℕ → Bool
ends_rarely (Op.ToDevice m r) text = is_migrated text
ends_rarely (Op.ToSystem m r) text = is_migrated text
ends_rarely (Op.Snap m r) text = is_seen m text
ends_rarely (Op.Evict d) text = is_evicted text
ends_rarely (Op.Add m at n) text = is_failed (Who.Mirror m) (at, 1) text || is_added m text
ends_rarely _ text = false

-- so of an access, and of such an operation
abbrev pub ends_otherwise : Op → List ℕ → Bool
ends_otherwise o text = if is_access o then ends_access o text else ends_rarely o text

-- by the one answer, if there is but one
abbrev pub may_end_by : Option Kind → Op → List ℕ → Bool
may_end_by (Some k) o text = says_or_refused k text
may_end_by None o text = ends_otherwise o text

-- the operation may end with this after its actor, or end a piece with it
abbrev pub may_end : Op → List ℕ → Bool
may_end o text = may_end_by (whole_answer o) o text

-- one of these operations may
abbrev pub one_ends : List Op → List ℕ → Bool
one_ends ops text = list_any (λ o. may_end o text) ops

-- ---- lines

-- the line begins with this actor of the script, one of whose operations may end with the rest
abbrev pub ends_actor : Program → List ℕ → ℕ → Bool
ends_actor c line a = begins_with (actor_text a) (one_ends (ops_of c a)) line

-- an operation of the script may end with the line, or end a piece with it
abbrev pub may_end_with : Program → List ℕ → Bool
may_end_with c line = list_any (ends_actor c line) (actors_of c)
