use Rattle.std.proofs.Common.{◌≡◌, ◌∙◌, ◌%◌, ap, sym, subst, IfOk}
use Rattle.hm_history.specs.Memory.Words.{bytes_from}
use Rattle.hm_history.specs.Memory.Contents.{backing, contents_of}
use Rattle.hm_world.specs.WorldValue.{now}
use Rattle.hm_world.proofs.Pages.{at_below, held_at, shows_at}
use Rattle.hm_world.proofs.reads.WorldReads.cpu_bytes.Goals as goal
use Rattle.hm_history.proofs.Pages.{reads_not_empty}

pub page_of-requires : goal.page_of-requires
page_of-requires c = at_below _ _ c.self.view_is _ c.self.invariant c.args.proc c.args.addr (record { there = c.requires.there; used = reads_not_empty _ c.requires.reads })

pub place_bytes-requires-clause-held : goal.place_bytes-requires-clause-held
place_bytes-requires-clause-held c = λ f e. held_at _ _ c.self.view_is _ c.self.invariant c.args.proc _ f (ap (backing (now c.args.self.now).after.places) (sym c.place.ensures) ∙ e)

pub returns : goal.returns
returns c = subst (λ z. IfOk c.place_bytes.result (λ bytes. bytes ≡ z)) (ap (λ x. bytes_from (contents_of (now c.args.self.now).after.places (now c.args.self.now).after.contents x) (c.args.addr % 4096) c.args.len) (c.place.ensures ∙ ap ((now c.args.self.now).after.places.place c.args.proc) c.page_of.ensures) ∙ shows_at _ _ c.self.view_is _ c.self.invariant c.args.proc c.args.addr c.args.len (record { there = c.requires.there; used = reads_not_empty _ c.requires.reads }) c.requires.lies) c.place_bytes.ensures
