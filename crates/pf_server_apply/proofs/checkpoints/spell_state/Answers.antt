use Rattle.std.proofs.Common.{◌≡◌, IfOk, subst, sym}
use Rattle.pf_entry.specs.Canonical.{IsCanonicalRecord}
use Rattle.pf_entry.specs.Records.{image_of}
use Rattle.pf_codec.specs.Spelling.{body_bytes}
use Rattle.pf_server_memory.specs.Images.{imaged}
use Rattle.pf_server_apply.proofs.SavedCheckpoints.{state_canonical}
use Rattle.pf_server_apply.proofs.checkpoints.spell_state.Goals as goal

pub spell_imaged-requires-clause-canonical : goal.spell_imaged-requires-clause-canonical
spell_imaged-requires-clause-canonical c =
    let me = c.args.me.now in
    subst (λ slots. IsCanonicalRecord 2 (image_of (imaged me me.term c.args.base slots me.sectors))) (sym c.in_ok-applied.ensures)
    (state_canonical me c.requires.bounded c.args.base c.requires.reached)

pub returns : goal.returns
returns c =
    let me = c.args.me.now in
    subst (λ slots. IfOk c.spell_imaged.result (λ body. body.items ≡ body_bytes (image_of (imaged me me.term c.args.base slots me.sectors)))) c.in_ok-applied.ensures
    c.spell_imaged.ensures
