use Rattle.std.proofs.Common.{◌≡◌, length, subst}
use Rattle.std.specs.Prelude.{IfSome, ℕ}
use Rattle.pf_chunk.specs.Asks.{CountsSectors}
use Rattle.pf_chunk.specs.Views.{ChunkIs}
use Rattle.pf_chunk.proofs.SectorCounts.{whole}
use Rattle.pf_chunk.proofs.desk.ChunkGroupDesk.take_read.Goals as goal

pub returns-clause-whole : goal.returns-clause-whole
returns-clause-whole g c =
    subst (λ (v : ChunkIs). IfSome c.take_read.result (λ sectors. (count : ℕ) → CountsSectors v c.args.number count → length sectors ≡ count)) c.self.view_is
    (whole c.self.inside.group c.laws.ensures.legal c.args.number c.take_read.result c.take_read.new.self c.take_read.ensures.taken)
