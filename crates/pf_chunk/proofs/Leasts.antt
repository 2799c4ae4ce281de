-- A settling begins at the least packet that is left.
use Rattle.std.proofs.Common.{ℕ, ◌≤◌, inl, inr}
use Rattle.std.specs.Prelude.{IsTrue}
use Rattle.std.proofs.lemmas.Bool.{cases_lt}
use Rattle.pf_group_rounds.specs.pf_group.specs.GroupIs.{state_of}
use Rattle.pf_group_rounds.specs.pf_group.specs.Packets.{IsFirstLeft}
use Rattle.pf_chunk.specs.Views.{ChunkIs, ChunkIsReady}

-- a settling begins at it
pub begun_ready : (c : ChunkIs) → ChunkIsReady c → (k : ℕ) → k ≤ 65536 → (IsTrue c.group.told → IsFirstLeft (state_of c.group) c.first_left k) → ChunkIsReady (record c { first_left = k; next = k })
begun_ready c ready k few is = record {
  claims = ready.claims;
  applied = ready.applied;
  kept = ready.kept;
  few = few;
  first_sent = λ told. (is told).sent (ready.first_sent told);
  none_left = λ told j low. elim (cases_lt j c.first_left) [ inl before ↦ ready.none_left told j before | inr from ↦ (is told).none j from low ];
}
