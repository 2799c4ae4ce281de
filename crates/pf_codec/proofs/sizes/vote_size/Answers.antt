use Rattle.std.proofs.Common.{◌≡◌, ◌<◌, ◌^◌, map, length, sym, ap, subst, ◌∙◌, arith}
use Rattle.std.specs.FinMap
use Rattle.std.specs.List.{sum_by}
use Rattle.pf_entry.specs.Canonical.{IsCanonicalEntry, second_format}
use Rattle.pf_entry.specs.Lists.{Every}
use Rattle.pf_entry.specs.Sizes.{entry_size}
use Rattle.pf_codec.proofs.BodyLaws.{window_of_second}
use Rattle.pf_codec.proofs.Joins.{start_count}
use Rattle.pf_codec.proofs.MapLaws.{values_of, canonical_values, log_len}
use Rattle.pf_codec.proofs.sizes.vote_size.Goals as goal

pub entries_size-requires-clause-few : goal.entries_size-requires-clause-few
entries_size-requires-clause-few c =
    let vote = c.args.vote.now in
    let values : FinMap.values vote.log ≡ c.as_slice-2.result.now = ap (map (λ row. row.1)) c.as_slice-2.ensures.entries ∙ values_of c.as_slice-2.result.now in
    subst (λ es. length es < 2 ^ 32) values (log_len second_format window_of_second vote.base vote.log c.requires.entries)

pub entries_size-requires-clause-canonical : goal.entries_size-requires-clause-canonical
entries_size-requires-clause-canonical c =
    let vote = c.args.vote.now in
    let values : FinMap.values vote.log ≡ c.as_slice-2.result.now = ap (map (λ row. row.1)) c.as_slice-2.ensures.entries ∙ values_of c.as_slice-2.result.now in
    subst (Every (IsCanonicalEntry second_format)) values (canonical_values second_format window_of_second vote.base vote.log c.requires.entries)

pub overflow_add-result-2 : goal.overflow_add-result-2
overflow_add-result-2 c =
    let vote = c.args.vote.now in
    let values : FinMap.values vote.log ≡ c.as_slice-2.result.now = ap (map (λ row. row.1)) c.as_slice-2.ensures.entries ∙ values_of c.as_slice-2.result.now in
    let few : length c.as_slice-2.result.now < 2 ^ 32 = subst (λ es. length es < 2 ^ 32) values (log_len second_format window_of_second vote.base vote.log c.requires.entries) in
    let count = start_count c.as_slice.result.now vote.starts c.as_slice.ensures.entries in
    omega (arith, few, count, c.requires.starts, c.entries_size.ensures.most)

pub returns-clause-size : goal.returns-clause-size
returns-clause-size c =
    let vote = c.args.vote.now in
    let values : FinMap.values vote.log ≡ c.as_slice-2.result.now = ap (map (λ row. row.1)) c.as_slice-2.ensures.entries ∙ values_of c.as_slice-2.result.now in
    let sizes : c.entries_size.result ≡ sum_by entry_size (FinMap.values vote.log) = c.entries_size.ensures.size ∙ ap (sum_by entry_size) (sym values) in
    let count = start_count c.as_slice.result.now vote.starts c.as_slice.ensures.entries in
    omega (arith, sizes, count)

pub returns-clause-most : goal.returns-clause-most
returns-clause-most c =
    let vote = c.args.vote.now in
    let values : FinMap.values vote.log ≡ c.as_slice-2.result.now = ap (map (λ row. row.1)) c.as_slice-2.ensures.entries ∙ values_of c.as_slice-2.result.now in
    let few : length c.as_slice-2.result.now < 2 ^ 32 = subst (λ es. length es < 2 ^ 32) values (log_len second_format window_of_second vote.base vote.log c.requires.entries) in
    let count = start_count c.as_slice.result.now vote.starts c.as_slice.ensures.entries in
    omega (arith, few, count, c.requires.starts, c.entries_size.ensures.most)
