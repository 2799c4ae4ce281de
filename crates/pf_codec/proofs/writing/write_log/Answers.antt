use Rattle.std.proofs.Common.{◌≡◌, ◌<◌, ◌^◌, ◌++◌, map, length, sym, ap, subst, ◌∙◌}
use Rattle.std.specs.FinMap
use Rattle.std.proofs.lemmas.Result.{on_ok_weaker}
use Rattle.pf_entry.specs.Canonical.{IsCanonicalEntry, second_format}
use Rattle.pf_entry.specs.Lists.{Every}
use Rattle.pf_codec.specs.Spelling.{entries_bytes}
use Rattle.pf_codec.proofs.BodyLaws.{window_of_second}
use Rattle.pf_codec.proofs.MapLaws.{values_of, canonical_values, log_len}
use Rattle.pf_codec.proofs.writing.write_log.Goals as goal

pub write_entries-requires-clause-few : goal.write_entries-requires-clause-few
write_entries-requires-clause-few c =
    let vote = c.args.vote.now in
    let values : FinMap.values vote.log ≡ c.as_slice.result.now = ap (map (λ row. row.1)) c.as_slice.ensures.entries ∙ values_of c.as_slice.result.now in
    subst (λ es. length es < 2 ^ 32) values (log_len second_format window_of_second vote.base vote.log c.requires.entries)

pub write_entries-requires-clause-canonical : goal.write_entries-requires-clause-canonical
write_entries-requires-clause-canonical c =
    let vote = c.args.vote.now in
    let values : FinMap.values vote.log ≡ c.as_slice.result.now = ap (map (λ row. row.1)) c.as_slice.ensures.entries ∙ values_of c.as_slice.result.now in
    subst (Every (IsCanonicalEntry second_format)) values (canonical_values second_format window_of_second vote.base vote.log c.requires.entries)

pub returns : goal.returns
returns c =
    let vote = c.args.vote.now in
    let values : FinMap.values vote.log ≡ c.as_slice.result.now = ap (map (λ row. row.1)) c.as_slice.ensures.entries ∙ values_of c.as_slice.result.now in
    on_ok_weaker c.write_entries.result (λ e. e ∙ ap (λ es. c.args.writer.now ++ entries_bytes es) (sym values)) c.write_entries.ensures
