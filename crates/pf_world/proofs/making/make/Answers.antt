use Rattle.std.proofs.Common.{◌++◌, reverse, sym, ap, ◌∙◌}
use Rattle.std.proofs.lemmas.List.{reverse-reverse}
use Rattle.pf_live_session.specs.pf_group.specs.declared.six.Six.{Six}
use Rattle.pf_world.specs.Disks.{six_list}
use Rattle.pf_world.proofs.making.make.Goals as goal

pub returns-in-Err-clause-err : goal.returns-in-Err-clause-err
returns-in-Err-clause-err g c =
    sym (reverse-reverse c.put_six.new.disks.items)
    ∙ ap reverse (c.put_six.ensures.put ∙ ap (λ (six : Six g.row.D.Denot). six_list six ++ reverse c.take_six.new.disks.items) c.in-Err.ensures.err ∙ sym c.in-Some.ensures.taken)
    ∙ reverse-reverse c.args.spare.now.items
