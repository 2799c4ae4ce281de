use Rattle.std.proofs.Common.{None, ◌∙◌}
use Rattle.pf_shared.specs.Seats.{number_of, seen_by}
use Rattle.pf_shared.proofs.LookEntries.{grew_looked, looked_root}
use Rattle.pf_shared.proofs.parts.SharedGroup.end_look.Goals as goal

pub end-requires-clause-grew : goal.end-requires-clause-grew
end-requires-clause-grew g c = let s = c.args.seat.now in
    grew_looked (number_of s) c.number-number.result c.number-number.ensures (seen_by s) c.args.turn.value c.looked-told.new.self c.requires.found c.looked-told.result (λ a. None) c.looked-told.ensures.ok c.looked-told.ensures.err

pub end-requires-clause-root : goal.end-requires-clause-root
end-requires-clause-root g c = looked_root c.number-number.result c.args.turn.value c.looked-told.new.self c.looked-told.result (λ a. None) c.looked-told.ensures.ok c.looked-told.ensures.err ∙ c.requires.root
