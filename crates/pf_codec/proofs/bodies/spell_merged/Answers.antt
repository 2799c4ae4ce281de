use Rattle.pf_entry.specs.declared.records.Record.TheVariants.{Merged as MergedRecord}
use Rattle.pf_codec.proofs.BodyLaws.{few_of_short}
use Rattle.pf_codec.proofs.bodies.spell_merged.Goals as goal

pub merged_size-requires-clause-few : goal.merged_size-requires-clause-few
merged_size-requires-clause-few c = few_of_short (MergedRecord c.args.term c.args.first c.args.entries.now) c.requires.short

pub write_merged-requires-clause-few : goal.write_merged-requires-clause-few
write_merged-requires-clause-few c = few_of_short (MergedRecord c.args.term c.args.first c.args.entries.now) c.requires.short
