use Rattle.std.proofs.Common.{◌*◌, refl, arith}
use Rattle.pf_file_calls.proofs.BlockChunks.{run_inside}
use Rattle.pf_journal.specs.Layouts.{layout_of, place_on}
use Rattle.pf_mount_errands.proofs.AskChunks.{fits_half, fits_one, fits_super, low_place, super_low}
use Rattle.pf_mount_errands.proofs.laws.journals_are_asked_inside.Goals as goal

pub returns-clause-half : goal.returns-clause-half
returns-clause-half c = λ layout v anchor position half is room low there small.
    let has = c.rooms_have_layouts.ensures layout v is room in
    let l = layout_of layout in
    let first = place_on l anchor position (8 * half) in
    let r = run_inside v first 8 is (fits_half l v is has anchor position low there half small) in
    record { valid = r.0; chunk = c.places_are_apart.ensures.chunk v first is (low_place l v is has anchor position low there (8 * half) (omega (arith, small))); sectors = r.1 }

pub returns-clause-own : goal.returns-clause-own
returns-clause-own c = λ layout v anchor position mount block is room low there small.
    let has = c.rooms_have_layouts.ensures layout v is room in
    let l = layout_of layout in
    let first = place_on l anchor position mount in
    let r = run_inside v first 1 is (fits_one l v is has anchor position low there mount small) in
    record { valid = (r.0, refl); chunk = c.places_are_apart.ensures.chunk v first is (low_place l v is has anchor position low there mount small); sectors = r.1 }

pub returns-clause-first : goal.returns-clause-first
returns-clause-first c = λ layout v anchor position is room low there.
    let has = c.rooms_have_layouts.ensures layout v is room in
    let l = layout_of layout in
    let first = place_on l anchor position 0 in
    let r = run_inside v first 1 is (fits_one l v is has anchor position low there 0 (omega arith)) in
    record { valid = r.0; chunk = c.places_are_apart.ensures.chunk v first is (low_place l v is has anchor position low there 0 (omega arith)); sectors = r.1 }

pub returns-clause-reads_super : goal.returns-clause-reads_super
returns-clause-reads_super c = λ v is.
    let r = run_inside v 0 1 is (fits_super v is) in
    record { valid = r.0; chunk = c.places_are_apart.ensures.chunk v 0 is (super_low v is); sectors = r.1 }

pub returns-clause-writes_super : goal.returns-clause-writes_super
returns-clause-writes_super c = λ v is.
    let r = run_inside v 0 1 is (fits_super v is) in
    record { valid = (r.0, refl); chunk = c.places_are_apart.ensures.chunk v 0 is (super_low v is); sectors = r.1 }
