use Rattle.std.proofs.Common.{◌<◌, ◌^◌, length, ap, subst, arith}
use Rattle.pf_entry.specs.Sizes.{payload_size}
use Rattle.pf_entry.specs.declared.records.Record.{Record}
use Rattle.pf_entry.specs.declared.records.Record.TheVariants.{Merged as MergedRecord}
use Rattle.pf_codec.proofs.BodyLaws.{few_of_short}
use Rattle.pf_codec.proofs.sizes.fields_size.Goals as goal

pub merged_size-requires-clause-few : goal.merged_size-requires-clause-few
merged_size-requires-clause-few c =
    let merged : Record = MergedRecord c.in-Merged.term c.in-Merged.first c.in-Merged.entries in
    let few = few_of_short merged (subst (λ r. payload_size r < 2 ^ 32) c.in-Merged.is c.requires.short) in
    let same = ap length c.as_slice.ensures in
    omega (arith, few, same)
