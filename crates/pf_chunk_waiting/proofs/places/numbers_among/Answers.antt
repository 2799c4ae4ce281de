use Rattle.std.proofs.Common.{rules, ◌≡◌, ◌∙◌, subst}
use Rattle.std.specs.List.{filter}
use Rattle.std.specs.List.Sorted.{IsPermutation}
use Rattle.std.proofs.lemmas.List.Filters.{dedup_is}
use Rattle.pf_chunk_waiting.specs.Waiters.{has, waiting_numbers}
use Rattle.pf_chunk_waiting.specs.Places.{those_waiting}
use Rattle.pf_chunk_waiting.proofs.Numbers.{sorted_once}
use Rattle.pf_chunk_waiting.proofs.ReadPlaces.{those_ascend}
use Rattle.pf_chunk_waiting.proofs.places.numbers_among.Goals as goal

pub returns : goal.returns
returns c =
    let all = waiting_numbers (those_waiting c.args.places.now) in
    let taken : c.in_ok-among.among.items ≡ filter (has all) c.args.numbers.now = search rules in
    let sorted = c.sort_unstable.new.self.items in
    dedup_is _ _ _ c.dedup.ensures.filtered
    ∙ sorted_once all c.args.numbers.now sorted (those_ascend c.args.places.now c.requires) (subst (λ items. IsPermutation items sorted) taken c.sort_unstable.ensures.permutation) c.sort_unstable.ensures.sorted
