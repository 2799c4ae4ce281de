use Rattle.std.proofs.Common.{◌≡◌, ◌-◌, ◌++◌, ◌∷◌, ◌∙◌, ap, sym, get_or, List, ℕ, Option, Some, None}
use Rattle.std.specs.Option.{option_map}
use Rattle.pf_tree.specs.declared.listing.Uplink.{Uplink}
use Rattle.pf_tree.specs.Listings.{bytes_up, up_from}
use Rattle.pf_tree.proofs.Listings.{up_more}
use Rattle.pf_tree.proofs.listing.+bytes_up.Goals as goal

pub returns : goal.returns
returns t c =
    let links = c.args.links.now in
    let steps = c.args.steps in
    let link = c.in-Some.link.now in
    let at : get_or links c.args.inode None ≡ Some link = rw c.in-Some.is at c.uplink_of.ensures in
    let above : bytes_up links (steps - 1) link.directory ≡ Some c.in-Some-2.bytes.items = rw c.in-Some-2.is at c.in_ok-bytes.ensures in
    up_more links steps c.args.inode c.if-inode-eq0.false c.if-steps-eq0.false
    ∙ ap (λ (o : Option Uplink). up_from o (bytes_up links (steps - 1))) at
    ∙ ap (option_map (λ (bytes : List ℕ). bytes ++ 47 ∷ link.name)) above
    ∙ ap Some (sym c.in_ok-bytes-2.ensures)
