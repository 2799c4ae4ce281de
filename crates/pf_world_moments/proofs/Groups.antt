-- What happens to the chunks of a volume.
use Rattle.std.proofs.Common.{◌≡◌, ℕ, ◌+◌, List, [], ◌∷◌, ◌++◌, length, Some, slice_get, inl, refl, sym, ap, ◌∙◌, append-nil}
use Rattle.std.specs.Option.{option_map}
use Rattle.std.proofs.lemmas.Option.{slice_get-map}
use Rattle.pf_protocol.specs.Groups.{Group, ending, happens, opening}
use Rattle.pf_protocol.specs.Histories.{History, IsPrefix, replay, run}
use Rattle.pf_protocol.specs.Servers.{Setup}
use Rattle.pf_protocol.proofs.ForMoments.{prefix_of}
use Rattle.pf_chunk.specs.pf_group.specs.GroupIs.{GroupIs, state_of}
use Rattle.pf_chunk.specs.pf_group.specs.Packets.{NoneComesBack}
use Rattle.pf_chunk.specs.pf_group.specs.Readers.{is_left}
use Rattle.pf_chunk.specs.pf_group.proofs.SentPackets.{run_sent}
use Rattle.pf_chunk.specs.pf_group_rounds.specs.Agreeing.{TellsOfGroup, chunk_standing, told_from, told_history}
use Rattle.pf_chunk.specs.pf_group_rounds.specs.Begun.{GroupHasBegun}
use Rattle.pf_chunk.specs.pf_group_rounds.specs.Chunks.{Chunk}
use Rattle.pf_chunk.specs.pf_group_rounds.specs.Growing.{HasGrown}
use Rattle.pf_chunk.specs.pf_group_rounds.specs.Halts.{Halt}
use Rattle.pf_chunk.specs.pf_group_rounds.proofs.RunHistories.{Extends}
use Rattle.pf_chunk.specs.pf_group_rounds.proofs.GroupGrowth.{grown_refl}
use Rattle.pf_chunk.specs.pf_group_rounds.proofs.Told.{told_longer, told_replays}
use Rattle.pf_chunk.specs.Views.{ChunkIs, run_of}
use Rattle.pf_world_moments.specs.Steps.{ChunkGoes, chunk_runs}

pub left_refl : (g : GroupIs) → NoneComesBack (state_of g) (state_of g)
left_refl g k is = inl is

-- more happened: packets were only sent and marked
run_on : (setup : Setup) (g : Group) (xs ys : History) → run setup g (xs ++ ys) ≡ run setup (run setup g xs) ys
run_on setup g [] ys = refl
run_on setup g (x ∷ xs) ys = run_on setup (happens setup g x.event (ending x.answer)) xs ys

pub grown_left : (a b : GroupIs) → HasGrown a b → NoneComesBack (state_of a) (state_of b)
grown_left a b grown k is =
    let rest = grown.later.rest in
    let same : state_of b ≡ run a.setup (state_of a) rest =
    ap (λ setup. replay setup b.history) grown.setup ∙ ap (replay a.setup) (sym grown.later.whole) ∙ run_on a.setup (opening a.setup) a.history rest in
    (run_sent a.setup rest (state_of a)).none k (ap (λ (g : Group). is_left (slice_get g.packets k)) (sym same) ∙ is)

pub goes_refl : (mount : ℕ) (c : ChunkIs) → ChunkGoes mount c c
goes_refl mount c = record { grown = grown_refl c.group; left = left_refl c.group; first = refl; next = refl; others = λ m other. refl }

-- where a run stands at chunk k
pub run_there : (halts : List Halt) (chunks : List ChunkIs) (k : ℕ) (c : ChunkIs) → slice_get chunks k ≡ Some c → slice_get (chunk_runs halts chunks) k ≡ Some (run_of halts c)
run_there halts chunks k c there = slice_get-map (run_of halts) chunks k ∙ ap (option_map (run_of halts)) there

-- as a run has it, the history of an earlier moment stands in front of that of a later one
pub told_later : (halts : List Halt) (was is : GroupIs) → HasGrown was is → IsPrefix (told_history halts was) (told_history halts is)
told_later halts was is grown = record {
  rest = told_from halts was.number (0 + length was.history) grown.later.rest;
  whole =
      sym (told_longer halts was.number 0 was.history grown.later.rest)
      ∙ ap (told_from halts was.number 0) grown.later.whole
      ∙ ap (λ n. told_from halts n 0 is.history) (sym grown.number);
}

-- all of it happened that was to happen so far
pub all_begun : (halts : List Halt) (old new : GroupIs) (would : Chunk) → TellsOfGroup halts new → HasGrown old new → Extends (chunk_standing halts new) would → GroupHasBegun halts old would new
all_begun halts old new would tells grown longer = record {
  done = told_history halts new;
  undone = [];
  later = told_later halts old new grown;
  part = longer.1;
  recorded = sym (append-nil (told_history halts new));
  returned = tt;
  state = sym (told_replays halts new tells);
}

-- what is a beginning of a run is one of a run that goes on, and began before
pub begun_on : (halts : List Halt) (old now new : GroupIs) (first last : Chunk) → HasGrown old now → Extends first last → GroupHasBegun halts now first new → GroupHasBegun halts old last new
begun_on halts old now new first last grown ext b = record {
  done = b.done;
  undone = b.undone;
  later = prefix_of (told_history halts old) (told_history halts now) b.done (told_later halts old now grown) b.later;
  part = prefix_of b.done first.history last.history b.part ext.1;
  recorded = b.recorded;
  returned = b.returned;
  state = b.state;
}
