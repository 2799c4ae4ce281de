use Rattle.std.proofs.Common.{rules}
use Rattle.std.proofs.lemmas.List.Sorted.{answers_always}
use Rattle.pf_server_tables.proofs.Fews.{placed, slot_of}
use Rattle.pf_server_tables.proofs.few.place_of.Goals as goal

pub returns : goal.returns
returns g c = placed c.args.rows.now c.args.slot _ c.requires c.binary_search_by_key.ensures.bound (c.binary_search_by_key.ensures.position slot_of (answers_always _ _ _ (λ f a r g called. search rules)))
