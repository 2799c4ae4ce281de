use Rattle.std.proofs.Common.{◌≡◌, take}
use Rattle.pf_run_listing.specs.Listing.{records_text}
use Rattle.pf_run_listing.proofs.listing.lines_of.Given as goal

abbrev pub invariant-loop-record : goal.invariant-loop-record
invariant-loop-record l = l.text.items ≡ records_text (take l.record-index l.records)
