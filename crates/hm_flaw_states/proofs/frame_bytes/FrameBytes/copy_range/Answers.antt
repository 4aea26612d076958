use Rattle.std.proofs.Common.{◌≡◌, ℕ, List, Some, length, ap, ◌∙◌, arith}
use Rattle.hm_history.specs.Memory.Contents.{stored_in}
use Rattle.hm_history.proofs.Pages.{bytes_length}
use Rattle.hm_flaw_states.specs.FrameBytes.{contents_in}
use Rattle.hm_flaw_states.proofs.Writing.{copied}
use Rattle.hm_flaw_states.proofs.frame_bytes.FrameBytes.copy_range.Goals as goal

pub write-requires : goal.write-requires
write-requires c =
    let long : length c.deref.result.now ≡ c.args.len =
    ap (λ (bs : List ℕ). length bs) (c.deref.ensures.value ∙ c.in_ok-bytes.ensures) ∙ bytes_length (contents_in c.args.self.now c.args.from.now) c.args.start c.args.len in
    omega (arith, c.requires.within, c.requires.inside, long)

pub returns : goal.returns
returns c =
    let old = contents_in c.args.self.now in
    copied old (contents_in c.write.new.self) c.args.from.now c.args.to.now c.args.start c.args.len
    (c.in_ok-write.ensures ∙ ap (λ (bs : List ℕ). stored_in old (Some c.args.to.now) c.args.start bs) (c.deref.ensures.value ∙ c.in_ok-bytes.ensures))
    c.requires.inside c.requires.within
