use Rattle.std.proofs.Common.{◌≡◌, ◌+◌, ◌<◌, ◌++◌, ◌∷◌, [], true, false, slice_set, arith, ap, ◌∙◌}
use Rattle.std.proofs.lemmas.Bool.{cond-true}
use Rattle.pf_entry.specs.Sets as set
use Rattle.pf_protocol.specs.Leading.{acknowledged}
use Rattle.pf_server_tables.specs.AckTables.{acks_of, servers_from}
use Rattle.pf_server_tables.proofs.AckRows.{begun, servers_from-set}
use Rattle.pf_server_tables.proofs.acks.Acks.begin.Goals as goal

pub returns-clause-acks : goal.returns-clause-acks
returns-clause-acks c =
    let rows = c.self.inside.rows.items in
    let base = c.self.inside.base in
    let server = c.args.server in
    let none = false ∷ false ∷ false ∷ [] in
    let room : c.self.inside.rows.len < c.self.inside.rows.cap = omega (arith, c.requires.room, ap (λ t. t.spare) c.self.view_is) in
    let items : c.push.new.self.items ≡ rows ++ slice_set none server true ∷ [] = c.push.ensures.items ∙ cond-true _ _ _ (c.push.ensures.succeeds room) in
    let here : 0 + server ≡ server = omega arith in
    let first : servers_from 0 (slice_set none server true) ≡ set.insert set.empty server = servers_from-set 0 server none (omega (arith, c.requires.server)) ∙ ap (set.insert set.empty) here in
    ap (acks_of base) items ∙ begun base server rows (slice_set none server true) first
    ∙ ap (λ t. acknowledged t.acks server (t.base + t.count + 1)) c.self.view_is
