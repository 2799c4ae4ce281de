use Rattle.std.proofs.Common.{◌≡◌, length, [], ap, sym, ◌∙◌}
use Rattle.std.proofs.lemmas.Option.{get_or_from_slice_get, slice_get_within}
use Rattle.pf_chunk_waiting.proofs.Filters.{every_place}
use Rattle.pf_chunk.proofs.desk.are_whole.Goals as goal

pub returns : goal.returns
returns c = every_place (λ bytes. length bytes ≡ 512) c.args.sectors.now (λ k x at. sym (ap length (get_or_from_slice_get c.args.sectors.now k x [] at)) ∙ c.told-sectors k (slice_get_within c.args.sectors.now k x at))
