use Rattle.pf_run_listing.proofs.Listings.{one_listing}
use Rattle.pf_run_listing.proofs.laws.two_files_have_one_listing.Goals as goal

pub returns : goal.returns
returns c = one_listing
