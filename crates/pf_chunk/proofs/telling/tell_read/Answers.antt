use Rattle.std.proofs.Common.{◌≡◌, ◌++◌, List, [], slice_get, subst, sym, ap, ◌∙◌, append-nil}
use Rattle.std.specs.Prelude.{IsTrue}
use Rattle.pf_law_ports.specs.pf_group_network.proofs.Lists.{set_elsewhere}
use Rattle.pf_group_rounds.specs.pf_group.specs.GroupIs.{GroupIs}
use Rattle.pf_report.specs.Texts.{event_line, read_text}
use Rattle.pf_chunk.specs.Telling.{now_taken}
use Rattle.pf_chunk.proofs.ToldReads.{is_taken, no_line, one_line, untaken, waits_by_term, waits_no_more}
use Rattle.pf_chunk.proofs.telling.tell_read.Goals as goal

-- nothing but what was handed out is different
only_taken : (old new : GroupIs) (taken : List _) → new ≡ record old { taken = taken } → new ≡ now_taken old new.taken
only_taken old new taken is = is ∙ ap (λ (g : GroupIs). now_taken old g.taken) (sym is)

pub returns-in_err-put_read-clause-others : goal.returns-in_err-put_read-clause-others
returns-in_err-put_read-clause-others g c n apart = ap (λ (x : GroupIs). slice_get x.taken n) c.in-Some.ensures.taken.is ∙ set_elsewhere c.args.group.now.taken c.args.one.number n _ (λ same. apart (sym same))

pub returns-in-Some-clause-kept : goal.returns-in-Some-clause-kept
returns-in-Some-clause-kept g c told = waits_no_more c.args.group.now c.args.one told (c.laws.ensures.legal told) c.in-Some.sectors c.take_read.new.self c.in-Some.ensures.taken

pub returns-in-Some-clause-taken : goal.returns-in-Some-clause-taken
returns-in-Some-clause-taken g c told = is_taken c.args.group.now c.args.one told (c.laws.ensures.legal told) c.in-Some.sectors c.take_read.new.self c.in-Some.ensures.taken

pub returns-in-Some-clause-told : goal.returns-in-Some-clause-told
returns-in-Some-clause-told g c told =
    c.in_ok-put_read.ensures.ok
    ∙ ap (λ text. c.args.out.now.items ++ text) (one_line c.args.group.now c.args.one told (c.laws.ensures.legal told) c.in-Some.sectors c.take_read.new.self c.in-Some.ensures.taken c.args.number)

pub returns-in-Some-clause-put : goal.returns-in-Some-clause-put
returns-in-Some-clause-put g c = (event_line (read_text c.args.number c.args.one.number c.in-Some.sectors), c.in_ok-put_read.ensures.ok)

pub returns-in-Some-clause-others : goal.returns-in-Some-clause-others
returns-in-Some-clause-others g c n apart = ap (λ (x : GroupIs). slice_get x.taken n) c.in-Some.ensures.taken.is ∙ set_elsewhere c.args.group.now.taken c.args.one.number n _ (λ same. apart (sym same))

pub returns-in-Ok-clause-kept : goal.returns-in-Ok-clause-kept
returns-in-Ok-clause-kept g c told =
    waits_by_term c.args.group.now c.args.one told c.requires.pending c.in_default.ensures.none c.take_read.new.self c.in_default.ensures.same c.in-Ok.term
    (c.in-Ok.ensures (subst (λ (x : GroupIs). IsTrue x.told) (sym c.in_default.ensures.same) told))

pub returns-in-Ok-clause-taken : goal.returns-in-Ok-clause-taken
returns-in-Ok-clause-taken g c told = untaken c.args.group.now c.args.one told c.requires.pending c.in_default.ensures.none c.take_read.new.self c.in_default.ensures.same

pub returns-in-Ok-clause-told : goal.returns-in-Ok-clause-told
returns-in-Ok-clause-told g c told = no_line c.args.group.now c.args.one told c.requires.pending c.in_default.ensures.none c.args.number c.args.out.now.items

pub returns-in-Ok-clause-put : goal.returns-in-Ok-clause-put
returns-in-Ok-clause-put g c = ([], sym (append-nil c.args.out.now.items))

pub returns-in-Err-clause-taken : goal.returns-in-Err-clause-taken
returns-in-Err-clause-taken g c told = untaken c.args.group.now c.args.one told c.requires.pending c.in_default.ensures.none c.take_read.new.self c.in_default.ensures.same

pub returns-in-Err-clause-told : goal.returns-in-Err-clause-told
returns-in-Err-clause-told g c told = no_line c.args.group.now c.args.one told c.requires.pending c.in_default.ensures.none c.args.number c.args.out.now.items

pub returns-in-Err-clause-put : goal.returns-in-Err-clause-put
returns-in-Err-clause-put g c = ([], sym (append-nil c.args.out.now.items))
