use Rattle.std.proofs.Common.{ap, sym, subst, ◌∙◌}
use Rattle.pf_entry.specs.Canonical.{IsCanonicalRecord}
use Rattle.pf_entry.specs.Records.{image_of}
use Rattle.pf_codec.specs.Spelling.{body_bytes}
use Rattle.pf_server_memory.specs.Images.{imaged}
use Rattle.pf_server_follower.proofs.TakenImages.{coming_canonical, coming_fits, same_size, all_above, applied_back, prefix_here, new_half}
use Rattle.pf_server_follower.proofs.images.prepare.Goals as goal

pub spell_imaged-requires-clause-canonical : goal.spell_imaged-requires-clause-canonical
spell_imaged-requires-clause-canonical c =
    subst (λ sectors. IsCanonicalRecord 2 (image_of (imaged c.args.me.now c.args.term c.args.base c.args.applied sectors))) (sym c.from_sectors-sectors.ensures)
    (coming_canonical c.args.me.now c.requires.bounded c.args.base c.requires.reached c.requires.coming.0 c.args.term c.args.applied c.args.sectors c.requires.coming.1)

pub returns : goal.returns
returns c =
    let back = applied_back c.args.base c.args.applied c.with_prefix.result.slots
    (all_above c.args.me.now c.requires.bounded c.args.base c.requires.reached c.requires.coming.0 c.args.term c.args.applied c.args.sectors c.requires.coming.1) c.with_prefix.ensures in
    let same = c.from_sectors-sectors.ensures in
    record {
      half = new_half c.args.me.now c.args.term c.args.base c.args.applied c.args.sectors _ back same
          (c.in_ok-body.ensures ∙ ap (λ sectors. body_bytes (image_of (imaged c.args.me.now c.args.term c.args.base c.args.applied sectors))) same)
          (coming_canonical c.args.me.now c.requires.bounded c.args.base c.requires.reached c.requires.coming.0 c.args.term c.args.applied c.args.sectors c.requires.coming.1)
          (coming_fits c.args.me.now c.requires.bounded c.args.base c.requires.reached c.requires.coming.0 c.args.term c.args.applied c.args.sectors c.requires.coming.1)
          (prefix_here c.args.base c.args.applied c.with_prefix.result.slots c.with_prefix.ensures)
          (same_size c.args.me.now c.requires.bounded c.args.base c.requires.reached c.requires.coming.0 c.args.term c.args.applied c.args.sectors c.requires.coming.1)
          c.new.ensures c.new-2.ensures;
      applied = back;
      sectors = same;
    }
