-- What is told of the mover's ports, and of each moment, stays so where groups grow and moments pass.
use Rattle.std.proofs.Common.{◌≡◌, ◌≢◌, ℕ, inl, inr, List, [], ◌∷◌, ◌++◌, Option, Some, None, slice_get, slice_set, sym, ap, subst, ◌∙◌, append-nil}
use Rattle.std.proofs.lemmas.List.{append_assoc}
use Rattle.pf_entry.specs.Lists.{Every}
use Rattle.pf_entry.proofs.Lists.{set_cases}
use Rattle.pf_asks.specs.Ports.{PortIs}
use Rattle.pf_world.specs.pf_chunk.specs.Runs.{ChunkRun, mover_port}
use Rattle.pf_world.specs.pf_world_moments.specs.Moments.{Moment, Writes}
use Rattle.pf_world.specs.pf_world_moments.specs.Hosts.{handed_moments}
use Rattle.pf_law_movers.proofs.Each.{one_more}
use Rattle.pf_law_movers.proofs.HistoryGrowth.{Grows}
use Rattle.pf_law_movers.proofs.ToldHearings.{AllSo, IsSo, all_grown, grow_set}
use Rattle.pf_law_movers.proofs.MoverAsTold.{AreAsTold, IsAsTold, passed, regrown}
use Rattle.pf_law_movers.proofs.PortTraces.{Passes, hands_pass, writes_pass}

-- what was told of the mover's ports into these groups, and of each moment, is so
pub record AreSo (count : ℕ) (told : List Moment) (chunks : List ChunkRun) : Type 0 where
  pub ports : AreAsTold count told chunks
  pub each : AllSo count told chunks

-- moments that are nothing to the ports of a group
pub passed_all : (count : ℕ) (told : List Moment) (k : ℕ) (c : ChunkRun) (more : List Moment) → Every (Passes k) more → IsAsTold count told k c → IsAsTold count (told ++ more) k c
passed_all count told k c [] pass is = subst (λ (all : List Moment). IsAsTold count all k c) (sym (append-nil told)) is
passed_all count told k c (y ∷ more) pass is =
    subst (λ (all : List Moment). IsAsTold count all k c) (append_assoc told (y ∷ []) more) (passed_all count (told ++ y ∷ []) k c more pass.1 (passed count told k c y is pass.0))

-- one group is another, and the ports of all others had no part in what was told
pub set_told : (count : ℕ) (told more : List Moment) (chunks : List ChunkRun) (k : ℕ) (d : ChunkRun) → AreAsTold count told chunks → IsAsTold count (told ++ more) k d → ((j : ℕ) → k ≢ j → Every (Passes j) more) → AreAsTold count (told ++ more) (slice_set chunks k d)
set_told count told more chunks k d are is others j x now = elim (set_cases chunks k d j x now) [
  | inl here ↦ subst (λ (i : ℕ). IsAsTold count (told ++ more) i x) (sym here.0) (subst (λ (y : ChunkRun). IsAsTold count (told ++ more) k y) here.1 is)
  | inr away ↦ passed_all count told j x more (others j (λ same. away.0 (sym same))) (are j x away.1)
]

-- a step of a port into another group
pub handed_passes : (j m k : ℕ) (place : Option ℕ) (text : List ℕ) → k ≢ j → Every (Passes j) (handed_moments m k place ++ Writes text ∷ [])
handed_passes j m k None text apart = (writes_pass j text, tt)
handed_passes j m k (Some place) text apart = (hands_pass j m k place apart, (writes_pass j text, tt))

-- a moment that is nothing to any port
pub told_too : (count : ℕ) (told : List Moment) (chunks : List ChunkRun) (y : Moment) → ((k : ℕ) → Passes k y) → IsSo count chunks told y → AreSo count told chunks → AreSo count (told ++ y ∷ []) chunks
told_too count told chunks y pass so is = record {
  ports = λ k c at. passed count told k c y (is.ports k c at) (pass k);
  each = one_more (IsSo count chunks) told y is.each so;
}

-- a group grew, and the mover's port of it is as it was
pub grown_so : (count : ℕ) (told : List Moment) (chunks : List ChunkRun) (k : ℕ) (c d : ChunkRun) → slice_get chunks k ≡ Some c → slice_get d.ports mover_port ≡ slice_get c.ports mover_port → Grows c.group d.group → AreSo count told chunks → AreSo count told (slice_set chunks k d)
grown_so count told chunks k c d at movers grows is = record {
  ports = λ j x now. elim (set_cases chunks k d j x now) [
    | inl here ↦ subst (λ (i : ℕ). IsAsTold count told i x) (sym here.0) (subst (λ (y : ChunkRun). IsAsTold count told k y) here.1 (regrown count told k c d movers grows (is.ports k c at)))
    | inr away ↦ is.ports j x away.1
  ];
  each = all_grown count told chunks (slice_set chunks k d) (grow_set chunks k c d at grows) is.each;
}

-- by an event
pub event_so : (count : ℕ) (told : List Moment) (chunks : List ChunkRun) (k : ℕ) (c d : ChunkRun) → slice_get chunks k ≡ Some c → d.ports ≡ c.ports → Grows c.group d.group → AreSo count told chunks → AreSo count told (slice_set chunks d.group.number d)
event_so count told chunks k c d at ports grows is =
    subst (λ (n : ℕ). AreSo count told (slice_set chunks n d)) (sym (grows.number ∙ (is.ports k c at).number)) (grown_so count told chunks k c d at (ap (λ (ps : List PortIs). slice_get ps mover_port) ports) grows is)
