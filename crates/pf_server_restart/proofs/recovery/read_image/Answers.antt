use Rattle.std.proofs.Common.{ap, refl, sym}
use Rattle.pf_holes.specs.HoleLogs.{Holes}
use Rattle.pf_server_restart.proofs.RecordReads.{image_read, image_window, moved_places, rows_placed, unplaced}
use Rattle.pf_server_restart.proofs.recovery.read_image.Goals as goal

pub returns-then-not-have_places : goal.returns-then-not-have_places
returns-then-not-have_places c = λ window.
    let i = c.in-Image in
    let into = c.into_vec-entries in
    unplaced c.have_places.result c.if-not-have_places.true c.have_places.ensures.1
    (moved_places i.vote.base i.vote.base into.result.items c.deref.result.now refl (sym c.deref.ensures.value)
    (rows_placed i.vote.base i.vote.log into.result.items into.ensures.ascending into.ensures.entries (image_window i.generation i.term i.vote i.applied i.sectors c.args.image i.is window)))

pub put_all-requires : goal.put_all-requires
put_all-requires c =
    moved_places c.in-Image.vote.base c.in_ok-log-in-Image.log.base c.deref.result.now c.into_vec-entries.result.items (sym (ap (λ (l : Holes). l.base) c.in_ok-log-in-Image.ensures)) c.deref.ensures.value (c.have_places.ensures.0 c.if-not-have_places.false)

pub returns-in-Image : goal.returns-in-Image
returns-in-Image c =
    let i = c.in-Image in
    let into = c.into_vec-entries in
    image_read c.args.format c.args.used i.generation i.term i.vote i.applied i.sectors c.args.image i.is into.result.items into.ensures.ascending into.ensures.entries c.from_starts.result c.in_ok-log-in-Image.log c.put_all.new.log c.from_starts.ensures c.in_ok-log-in-Image.ensures c.put_all.ensures
