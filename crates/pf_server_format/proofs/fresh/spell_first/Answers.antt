use Rattle.std.proofs.Common.{◌≡◌, IfOk, nat_lt, refl, subst, sym}
use Rattle.pf_entry.specs.Canonical.{IsCanonicalRecord}
use Rattle.pf_entry.specs.Records.{vote_of}
use Rattle.pf_entry.specs.Sets
use Rattle.pf_codec.specs.Spelling.{body_bytes}
use Rattle.pf_server_memory.specs.Standing.{state_in_memory}
use Rattle.pf_server_format.proofs.Begun.{canonical_first, spelled_first}
use Rattle.pf_server_format.proofs.fresh.spell_first.Goals as goal

pub spell_state-requires : goal.spell_state-requires
spell_state-requires c =
    let me = c.args.me.now in
    subst (IsCanonicalRecord 2)
    (sym (spelled_first c.args.seat.now c.requires.seat me c.requires.fresh (vote_of (state_in_memory me)) me.log.base (Sets.retain me.applied.slots (nat_lt me.log.base)) me.sectors refl refl refl refl))
    (canonical_first c.args.seat.now c.requires.seat 2)

pub returns : goal.returns
returns c =
    let me = c.args.me.now in
    subst (λ r. IfOk c.spell_state.result (λ body. body.items ≡ body_bytes r))
    (spelled_first c.args.seat.now c.requires.seat me c.requires.fresh (vote_of (state_in_memory me)) me.log.base (Sets.retain me.applied.slots (nat_lt me.log.base)) me.sectors refl refl refl refl)
    c.spell_state.ensures
