use Rattle.std.proofs.Common.{◌≡◌, ◌+◌, ◌<◌, length, arith, ap, ◌∙◌}
use Rattle.std.specs.FinMap as finite
use Rattle.pf_server_tables.specs.KnownTables.{known_of}
use Rattle.pf_server_tables.proofs.Places.{known_from-set}
use Rattle.pf_server_tables.proofs.known.Known.put.Goals as goal

pub returns : goal.returns
returns c =
    let places = c.self.inside.upto in
    let within : c.args.server < length places = omega (arith, c.requires, c.self.invariant) in
    let at : 0 + c.args.server ≡ c.args.server = omega arith in
    known_from-set 0 c.args.server c.args.upto places within
    ∙ ap (λ k. finite.insert (known_of places) k c.args.upto) at
    ∙ ap (λ m. finite.insert m c.args.server c.args.upto) c.self.view_is
