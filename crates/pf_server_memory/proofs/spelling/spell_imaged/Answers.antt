use Rattle.std.proofs.Common.{◌≡◌, IfOk, refl, arith, subst, sym}
use Rattle.pf_entry.specs.Canonical.{IsCanonicalRecord}
use Rattle.pf_codec.specs.Spelling.{body_bytes}
use Rattle.pf_server_memory.proofs.Images.{generation_low, spelled_as}
use Rattle.pf_server_memory.proofs.spelling.spell_imaged.Goals as goal

pub overflow_add-generation : goal.overflow_add-generation
overflow_add-generation c = omega (arith, generation_low c.args.me.now c.requires.bounded)

pub spell_image-requires : goal.spell_image-requires
spell_image-requires c =
    subst (IsCanonicalRecord 2)
    (sym (spelled_as c.args.me.now c.args.term c.args.base c.in_ok-copied.field-0 c.in_ok-copied_above.field-0 c.args.applied.now c.args.applied.now c.thin.result c.args.sectors.now c.in_ok-copied.ensures c.in_ok-copied_above.ensures refl c.thin.ensures))
    c.requires.canonical

pub returns : goal.returns
returns c =
    subst (λ r. IfOk c.spell_image.result (λ body. body.items ≡ body_bytes r))
    (spelled_as c.args.me.now c.args.term c.args.base c.in_ok-copied.field-0 c.in_ok-copied_above.field-0 c.args.applied.now c.args.applied.now c.thin.result c.args.sectors.now c.in_ok-copied.ensures c.in_ok-copied_above.ensures refl c.thin.ensures)
    c.spell_image.ensures
