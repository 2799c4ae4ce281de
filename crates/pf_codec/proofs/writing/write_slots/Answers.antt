use Rattle.std.proofs.Common.{◌∙◌, arith}
use Rattle.std.proofs.lemmas.Result.{on_ok_weaker}
use Rattle.pf_codec.proofs.Joins.{slot_count, slots_join}
use Rattle.pf_codec.proofs.writing.write_slots.Goals as goal

pub overflow_cast-slots : goal.overflow_cast-slots
overflow_cast-slots c = let count = slot_count c.as_slice-slots.result.now c.args.slots.now c.as_slice-slots.ensures.items in omega (arith, count, c.requires)

pub returns : goal.returns
returns c =
    on_ok_weaker c.write_slot_row.result
    (λ e. e ∙ slots_join c.args.writer.now c.u32.new.self c.as_slice-slots.result.now c.args.slots.now c.as_slice-slots.ensures.items c.in_ok-u32.ensures) c.write_slot_row.ensures
