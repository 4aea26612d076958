-- The words of drivers are read back.
use Rattle.std.proofs.Common.{◌≡◌, ℕ, true, List, Some, get_or, length, ◌<◌, refl, sym, ap, ◌∙◌}
use Rattle.std.specs.List.{position_or_len, slice_get}
use Rattle.std.specs.Str.{bytes_eq}
use Rattle.std.proofs.lemmas.List.Folds.{find_at}
use Rattle.std.proofs.lemmas.List.Sums.{passes_at_first}
use Rattle.std.proofs.lemmas.Option.{slice_get_within, get_or_from_slice_get}
use Rattle.std.proofs.lemmas.Slice.Eq.{bytes_eq-Decides}
use Rattle.hm_flaws.specs.declared.flaws.Flaw.{Flaw}
use Rattle.hm_flaw_top.specs.Text.Names.{all_flaws, flaw_named, name_of, NamesAreTheirs}

-- a driver's word names it
pub named-again : (l : Flaw) → flaw_named (name_of l) ≡ Some l
unfolding flaw_named
named-again Flaw.NoFlaw = refl
named-again Flaw.NotCompared = refl
named-again Flaw.ComparedNow = refl
named-again Flaw.AllForWrites = refl
named-again Flaw.WalksUnlocked = refl
named-again Flaw.AnyDevice = refl
named-again Flaw.BegunAnyway = refl
named-again Flaw.BegunLast = refl
named-again Flaw.SequenceLeft = refl
named-again Flaw.TableLeft = refl
named-again Flaw.FirstErased = refl
named-again Flaw.ErasedAtEnd = refl
named-again Flaw.OwnIgnored = refl
named-again Flaw.OwnSequenceLeft = refl
named-again Flaw.OwnTableLeft = refl
named-again Flaw.UsedDetached = refl
named-again Flaw.ReadsWritten = refl
named-again Flaw.DetachedAtOnce = refl
named-again Flaw.PartCopied = refl
named-again Flaw.NotCleared = refl
named-again Flaw.LostAsMoved = refl
named-again Flaw.OwnForWrites = refl
named-again Flaw.OwnAnyway = refl
named-again Flaw.LostHeld = refl
named-again Flaw.WithdrawnTaken = refl
named-again Flaw.RemovedAtOnce = refl
named-again Flaw.NotWithdrawn = refl
named-again Flaw.LockedPassed = refl
named-again Flaw.SoleAnyway = refl
named-again Flaw.AddedAnyway = refl
named-again Flaw.ToldLast = refl
named-again Flaw.EndedAtOnce = refl
named-again Flaw.ForkedWhole = refl
named-again Flaw.ReplacedAnyway = refl
named-again Flaw.DeviceAccessed = refl
named-again Flaw.OthersLeft = refl
named-again Flaw.FrozenLate = refl
named-again Flaw.FreshAnyway = refl
named-again Flaw.FreshForWrites = refl
named-again Flaw.BackForWrites = refl
named-again Flaw.LockedTaken = refl
named-again Flaw.NotPutBack = refl
named-again Flaw.UnnamedHeld = refl

-- a word that names a driver is its own
pub named_own : (w : List ℕ) (l : Flaw) → flaw_named w ≡ Some l → name_of l ≡ w
unfolding flaw_named
named_own w l e =
    let test = λ (x : Flaw). bytes_eq (name_of x) w in
    let at : ℕ = position_or_len test all_flaws in
    let here : slice_get all_flaws at ≡ Some l = sym (find_at test all_flaws) ∙ e in
    let within : at < length all_flaws = slice_get_within all_flaws at l here in
    let is : get_or all_flaws at l ≡ l = get_or_from_slice_get all_flaws at l l here in
    let passes : test l ≡ true = ap test (sym is) ∙ passes_at_first test all_flaws l within in
    (bytes_eq-Decides (name_of l) w).0 passes

pub names_are_theirs : NamesAreTheirs
names_are_theirs w l = (named_own w l, λ (e : name_of l ≡ w). ap flaw_named (sym e) ∙ named-again l)
