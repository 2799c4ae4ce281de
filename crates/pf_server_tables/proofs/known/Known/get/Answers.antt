use Rattle.std.proofs.Common.{rules, ◌≡◌, ◌+◌, ◌<◌, length, get_or, None, arith, sym, ap, ◌∙◌}
use Rattle.std.specs.FinMap as finite
use Rattle.pf_server_tables.specs.KnownTables.{known_of}
use Rattle.pf_server_tables.proofs.Places.{get-known_from}
use Rattle.pf_server_tables.proofs.known.Known.get.Goals as goal

pub returns : goal.returns
returns c =
    let places = c.self.inside.upto in
    let within : c.args.server < length places = omega (arith, c.requires, c.self.invariant) in
    let at : c.args.server ≡ 0 + c.args.server = omega arith in
    let read : finite.get c.args.self.now c.args.server ≡ get_or places c.args.server None =
    ap (λ m. finite.get m c.args.server) (sym c.self.view_is) ∙ ap (finite.get (known_of places)) at ∙ get-known_from 0 c.args.server places None within in
    rw read (search rules)
