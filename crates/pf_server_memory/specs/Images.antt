-- The image of a server's state.
use Rattle.std.specs.Prelude.{ℕ, suc, List, nat_lt}
use Rattle.pf_entry.specs.Maps.{Numbers}
use Rattle.pf_entry.specs.Ops.{Sector}
use Rattle.pf_entry.specs.Records.{Durable, above, vote_of}
use Rattle.pf_entry.specs.Sets
use Rattle.pf_entry.specs.declared.records.Record.{Record}
use Rattle.pf_entry.specs.declared.records.Record.TheVariants.{Image as ImageRecord}
use Rattle.pf_server_memory.specs.declared.running.Running.{Running}
use Rattle.pf_server_memory.specs.Standing.{state_in_memory}

-- the server's state as it stands, under this generation
abbrev pub standing : Running → (generation : ℕ) → Record
standing me generation = ImageRecord generation me.term (vote_of (state_in_memory me)) (Sets.retain me.applied.slots (nat_lt me.log.base)) me.sectors

-- the server's state with this term and checkpoint, and what is applied above it
abbrev pub imaged : Running → (term base : ℕ) → Numbers → List Sector → Durable
imaged me term base applied sectors =
    record (state_in_memory me) {
      generation = suc me.generation;
      term = term;
      base = base;
      log = above base me.log.entries;
      saved = applied;
      sectors = sectors;
    }
