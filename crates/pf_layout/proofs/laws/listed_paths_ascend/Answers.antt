use Rattle.pf_layout.proofs.ListingLaws.{listing_ascends}
use Rattle.pf_layout.proofs.laws.listed_paths_ascend.Goals as goal

pub returns : goal.returns
returns c = λ tree rows m names l. listing_ascends tree rows m names l
