use Rattle.std.proofs.Common.{◌≡◌, ◌-◌, ◌<◌, ◌≤◌, length, get_or, arith, sym, ap, subst, ◌∙◌}
use Rattle.std.proofs.lemmas.Bool.{ltb-true, ltb-false}
use Rattle.pf_server_tables.specs.AckTables.{table_has_acked}
use Rattle.pf_server_tables.proofs.AckRows.{has_none, has_row, none_under, none_past, get_slot}
use Rattle.pf_server_tables.proofs.acks.Acks.has.Goals as goal

pub returns-then-slot-self : goal.returns-then-slot-self
returns-then-slot-self c =
    sym (has_none _ c.args.server c.args.slot (none_under c.self.inside.base c.args.slot c.self.inside.rows.items c.if-slot-self.true))
    ∙ ap (λ t. table_has_acked t.acks c.args.server c.args.slot) c.self.view_is

pub returns-in-Some : goal.returns-in-Some
returns-in-Some c =
    let base = c.self.inside.base in
    let rows = c.self.inside.rows.items in
    let place = c.args.slot - base - 1 in
    let row = c.in-Some.row.now in
    let within : place < length rows = subst (λ xs. place < length xs) c.deref.ensures.value (ltb-true place (length c.deref.result.now) (sym c.in-Some.ensures.lookup.0)) in
    let read : row ≡ get_or rows place row = c.in-Some.ensures.lookup.1 ∙ ap (λ xs. get_or xs place row) c.deref.ensures.value in
    sym (has_row _ c.args.server c.args.slot row (get_slot base c.args.slot rows row (omega (arith, c.if-slot-self.false)) (omega arith) read))
    ∙ ap (λ t. table_has_acked t.acks c.args.server c.args.slot) c.self.view_is

pub returns-in-None : goal.returns-in-None
returns-in-None c =
    let base = c.self.inside.base in
    let rows = c.self.inside.rows.items in
    let place = c.args.slot - base - 1 in
    let past : length rows ≤ place = subst (λ xs. length xs ≤ place) c.deref.ensures.value (ltb-false place (length c.deref.result.now) (sym c.in-None.ensures.lookup.0)) in
    sym (has_none _ c.args.server c.args.slot (none_past base c.args.slot rows (omega (arith, c.if-slot-self.false))))
    ∙ ap (λ t. table_has_acked t.acks c.args.server c.args.slot) c.self.view_is
