-- The halts of all groups of a world tell of it, and every run that leads to it is lawful.
use Rattle.std.proofs.Common.{[], ◌≡◌, ℕ, ◌<◌, IsTrue, List, map, Some, slice_get, sym, subst}
use Rattle.std.specs.List.{flat_map}
use Rattle.pf_entry.specs.Lists.{Every}
use Rattle.pf_live_session.specs.pf_group_network.proofs.Alone.{get_mapped}
use Rattle.pf_live_session.specs.pf_chunk.proofs.Members.{mapped_get}
use Rattle.pf_protocol.specs.Answers.{IsLegal}
use Rattle.pf_live_session.specs.pf_group.specs.GroupIs.{GroupIs}
use Rattle.pf_live_session.specs.pf_group.proofs.Sound.{sound}
use Rattle.pf_live_session.specs.pf_group_rounds.specs.Halts.{Halt}
use Rattle.pf_live_session.specs.pf_group_rounds.specs.Agreeing.{told_history}
use Rattle.pf_live_session.specs.pf_group_rounds.specs.Telling.{halts_of_group}
use Rattle.pf_live_session.specs.pf_group_rounds.proofs.Several.{tells_of_all}
use Rattle.pf_live_session.specs.pf_group_rounds.proofs.Told.{told_legal, told_replays}
use Rattle.pf_live_session.specs.pf_chunk.specs.Views.{ChunkIs, run_of}
use Rattle.pf_live_session.specs.pf_chunk.specs.Runs.{ChunkRun}
use Rattle.pf_world.specs.Agreeing.{WorldTells}
use Rattle.pf_world.specs.Headline.{IsLawful, IsLawfulRun, IsSafeRun, IsSoundWorld}
use Rattle.pf_world.specs.Views.{WorldIs, world_stands_at}

abbrev pub groups_of : List ChunkIs → List GroupIs
groups_of chunks = map (λ c. c.group) chunks

-- where the disks of a world failed
abbrev pub world_halts : WorldIs → List Halt
world_halts w = flat_map halts_of_group (groups_of w.chunks)

-- the groups have their own numbers, and could be formatted but for some of three servers
abbrev pub AreNumbered : WorldIs → Type 0
AreNumbered w = (k : ℕ) (c : ChunkIs) → slice_get w.chunks k ≡ Some c → (c.group.number ≡ k) × Every (λ i. i < 3) c.group.setup.failed

-- their disks tell their content
abbrev pub AreTold : WorldIs → Type 0
AreTold w = (k : ℕ) (c : ChunkIs) → slice_get w.chunks k ≡ Some c → IsTrue c.group.told

abbrev Numbered : ℕ → GroupIs → Type 0
Numbered k g = (g.number ≡ k) × IsTrue g.told × Every (λ i. i < 3) g.setup.failed × IsLegal g.setup g.history

module _ (w : WorldIs) (is : AreNumbered w) (told : AreTold w) (legal : IsSoundWorld w) where
  numbered : (k : ℕ) (g : GroupIs) → slice_get (groups_of w.chunks) k ≡ Some g → Numbered k g
  numbered k g there =
      let at = get_mapped (λ (c : ChunkIs). c.group) w.chunks k g there in
      let own = is k at.0 at.1 in
      subst (Numbered k) (sym at.2) (own.0, told k at.0 at.1, own.1, (legal k at.0 at.1).legal (told k at.0 at.1))

  pub all_tell : WorldTells (world_halts w) w
  all_tell k c there = tells_of_all (groups_of w.chunks) numbered k c.group (mapped_get (λ (x : ChunkIs). x.group) w.chunks k c there)

-- the histories of a run are those of the groups, but for what a restart finds where there is nothing to be found
module _ (halts : List Halt) (w : WorldIs) (tells : WorldTells halts w) (legal : IsSoundWorld w) where
  pub lawful_run : IsLawfulRun (world_stands_at halts [] w)
  lawful_run k c there =
      let at = get_mapped (run_of halts) w.chunks k c there in
      let g = at.0.group in
      let told = tells k at.0 at.1 in
      subst (λ (x : ChunkRun). IsLawful x.group) (sym at.2) (record {
        stands = sym (told_replays halts g told);
        legal = told_legal halts g told ((legal k at.0 at.1).legal told.told);
        sound = sound g.setup (told_history halts g);
      })

  pub safe_run : IsSafeRun (world_stands_at halts [] w)
  safe_run k c there = (lawful_run k c there).sound.safe
