use Rattle.std.proofs.Common.{ap, arith, nat_lt, refl, subst, sym, ◌∙◌}
use Rattle.std.proofs.lemmas.Result.{IfOk-weaker}
use Rattle.pf_entry.specs.Canonical.{IsCanonicalRecord}
use Rattle.pf_entry.specs.Records.{vote_of}
use Rattle.pf_entry.specs.Sets
use Rattle.pf_codec.specs.Spelling.{body_bytes}
use Rattle.pf_server_memory.specs.Standing.{state_in_memory}
use Rattle.pf_server_restart.proofs.NextImages.{canonical_here, more, spelled_as}
use Rattle.pf_server_restart.proofs.halves.spell_anew.Goals as goal

pub overflow_add-generation : goal.overflow_add-generation
overflow_add-generation c = let l = c.requires.1 in omega (arith, more c.requires.0 c.args.me.now l.seat l.life l.made l.revived l.early)

pub spell_state-requires : goal.spell_state-requires
spell_state-requires c =
    let me = c.args.me.now in
    let l = c.requires.1 in
    subst (IsCanonicalRecord 2)
    (sym (spelled_as c.requires.0 me l.seat l.life l.made l.revived l.early (vote_of (state_in_memory me)) me.log.base (Sets.retain me.applied.slots (nat_lt me.log.base)) me.sectors refl refl refl refl))
    (canonical_here c.requires.0 me l.seat l.life l.made l.revived l.early)

pub returns : goal.returns
returns c =
    let me = c.args.me.now in
    IfOk-weaker c.spell_state.result _ _
    (λ body same d l. same ∙ ap body_bytes (spelled_as d me l.seat l.life l.made l.revived l.early (vote_of (state_in_memory me)) me.log.base (Sets.retain me.applied.slots (nat_lt me.log.base)) me.sectors refl refl refl refl))
    c.spell_state.ensures
