-- The run of a generated script.
use Rattle.std.proofs.Common.{◌≡◌, ℕ, Bool, IsTrue, ◌≤◌, List, [], Option, Some, None, Ok, is_ok, length, option_map, slice_get, refl, ap, ap₂, sym, subst, ◌∙◌, arith}
use Rattle.std.specs.Option.{option_map_or}
use Rattle.std.specs.Io.KnownBytes.{Appends}
use Rattle.std.proofs.lemmas.Option.{slice_get-map}
use Rattle.pf_io.specs.Causes.{Rose}
use Rattle.pf_disk.specs.Crashes.{Images}
use Rattle.pf_gen.specs.Generated.{generated}
use Rattle.pf_group.specs.GroupIs.{state_of}
use Rattle.pf_group_rounds.specs.Halts.{Halt}
use Rattle.pf_chunk.specs.Views.{ChunkIs, run_of}
use Rattle.pf_world.specs.declared.line.Line.{Line}
use Rattle.pf_world.specs.Reports.{world_run}
use Rattle.pf_world.specs.Views.{WorldIs, world_stands_at}
use Rattle.pf_world.specs.Worlds.{World}
use Rattle.pf_run_lines.specs.declared.status.Status.{Status}
use Rattle.pf_run_lines.specs.declared.status.Status.TheVariants as statuses
use Rattle.pf_run_lines.specs.Ends.{AppendsFront}
use Rattle.pf_run_lines.specs.Runs.{IsSource, IsText}
use Rattle.pf_run.specs.Scripts.{script_of, script_rules}
use Rattle.pf_run.specs.Reports.{acked_in_world, judged_lines, sum_text}
use Rattle.pf_run.specs.Running.{CountsAcked, HasRunLines, HasRunTo, Stops, acked_count}
use Rattle.pf_run.specs.Generating.{HasGenerated, generated_lines}
use Rattle.pf_run_lines.proofs.Taken.{appends_none}
use Rattle.pf_run.proofs.Whole.{script_begins, untouched}

-- the script that was read is the one that the number generates
pub accepted_of : (left rest : Option (List ℕ)) (lines : List Line) (number : ℕ) (text : List ℕ) → left ≡ Some text → text ≡ generated number → IsText script_rules None left rest lines → script_of (generated number) ≡ Ok lines
accepted_of left rest lines number text is made s =
    let source : s.text ≡ text = subst (λ o. IsSource o s.text) is s.source in
    ap script_of (sym (source ∙ made)) ∙ s.accepted

-- a run has acknowledged what the world has that it came to
acked_same : (halts : List Halt) (w : WorldIs) (k : ℕ) → acked_in_world (world_stands_at halts [] w) k ≡ acked_count w k
acked_same halts w k = ap (λ o. option_map_or (λ c. length c.group.state.acked) o 0) (slice_get-map (run_of halts) w.chunks k) ∙ go (slice_get w.chunks k)
  where
    go : (o : Option ChunkIs) → option_map_or (λ c. length c.group.state.acked) (option_map (run_of halts) o) 0 ≡ option_map_or (λ c. length (state_of c.group).acked) o 0
    go None = refl
    go (Some c) = refl

module _ {D : Type 0} (seen : D → Option (List ℕ)) (may_leave : D → Images) (faults moment : D → ℕ) (left_since : D → ℕ → Images) (tells tells_moments : Bool) where
  -- all lines were run, and what two groups acknowledged counted
  pub record HasCounted (number : ℕ) (acked : ℕ × ℕ) (before after : List D) : Type 0 where
    pub text : List ℕ
    pub ran : HasRunTo seen may_leave faults moment left_since tells tells_moments statuses.Ok (generated_lines number) [] text before after
    pub counted : IsTrue tells → CountsAcked statuses.Ok acked ran.left

  -- the run of accepted lines is that of the script
  pub counts_of : (number : ℕ) (lines : List Line) (acked : ℕ × ℕ) (taken now : Option (List ℕ)) (full : Type 0) (before after : List D) → script_of (generated number) ≡ Ok lines → HasRunLines seen may_leave faults moment left_since tells tells_moments statuses.Ok acked lines taken now full before after → HasCounted number acked before after
  counts_of number lines acked taken now full before after accepted w =
      let Counted : List Line → List Line → Type 0 = λ ls rest. (r : HasRunTo seen may_leave faults moment left_since tells tells_moments statuses.Ok ls rest w.text before after) × (IsTrue tells → CountsAcked statuses.Ok acked r.left) in
      let (ran, counted) = subst (λ rest. Counted (generated_lines number) rest) w.wrote.0 (subst (λ ls. Counted ls w.rest) (sym (ap judged_lines accepted)) (w.ran, w.counted)) in
      record { text = w.text; ran = ran; counted = counted }

  module _ (number : ℕ) (acked : ℕ × ℕ) (taken now : Option (List ℕ)) (full : Type 0) (before after : List D) (all : HasCounted number acked before after) where
    -- the counts are those of the run
    counted_is : (tell : IsTrue tells) → let w = (world_run (all.ran.ruled tell).halts all.ran.run.sessions all.ran.done).world in acked ≡ (acked_in_world w 0, acked_in_world w 1)
    counted_is tell =
        let ruled = all.ran.ruled tell in
        all.counted tell ∙ ap (λ (w : WorldIs). (acked_count w 0, acked_count w 1)) all.ran.stops
        ∙ sym (ap₂ (λ (a b : ℕ). (a, b)) (acked_same ruled.halts all.ran.world 0) (acked_same ruled.halts all.ran.world 1))
        ∙ sym (ap (λ (w : World). (acked_in_world w 0, acked_in_world w 1)) ruled.ran.world)

    -- the same run, under another status
    abbrev again : (status : Status) → Stops faults status before all.ran.done [] all.ran.world all.ran.left → HasRunTo seen may_leave faults moment left_since tells tells_moments status (generated_lines number) [] all.text before after
    again status stops = record {
      done = all.ran.done;
      first = all.ran.first;
      world = all.ran.world;
      run = all.ran.run;
      none = all.ran.none;
      left = all.ran.left;
      stops = stops;
      ruled = all.ran.ruled;
      disks = all.ran.disks;
    }

    -- the line was written, or a front of it, or there was no memory for it
    pub sum_written : (lines : List Line) → script_of (generated number) ≡ Ok lines → Appends taken now (sum_text number acked) → HasGenerated seen may_leave faults moment left_since tells tells_moments statuses.Ok number taken now full before after
    sum_written lines accepted put = record { behind = []; text = all.text; ran = all.ran; sums = record { acked = acked; sums = (ap is_ok accepted, refl, put); counted = counted_is } }

    pub sum_cut : (lines : List Line) → script_of (generated number) ≡ Ok lines → full → AppendsFront taken now (sum_text number acked) → HasGenerated seen may_leave faults moment left_since tells tells_moments statuses.WriteFault number taken now full before after
    sum_cut lines accepted rose front = record {
      behind = [];
      text = all.text;
      ran = again statuses.WriteFault all.ran.stops;
      sums = record { acked = acked; sums = (ap is_ok accepted, refl, rose, front); counted = counted_is };
    }

    pub sum_untold : HasGenerated seen may_leave faults moment left_since tells tells_moments statuses.NoMemory number taken taken full before after
    sum_untold = record { behind = []; text = all.text; ran = again statuses.NoMemory all.ran.stops; sums = record { acked = acked; sums = appends_none taken; counted = λ told. tt } }

  -- memory ran out among the lines: nowhere a sink fails
  pub cut_short : (status : Status) (number : ℕ) (lines : List Line) (acked : ℕ × ℕ) (taken : Option (List ℕ)) (full : Type 0) (before after : List D) → (status ≡ statuses.Ok → ⊥) → script_of (generated number) ≡ Ok lines
      → HasRunLines seen may_leave faults moment left_since tells tells_moments status acked lines None None (Rose 0 0) before after → HasGenerated seen may_leave faults moment left_since tells tells_moments statuses.NoMemory number taken taken full before after
  cut_short statuses.Ok number lines acked taken full before after short accepted w = absurd (short refl)
  cut_short statuses.NoMemory number lines acked taken full before after short accepted w = record {
    behind = w.rest;
    text = w.text;
    ran = subst (λ ls. HasRunTo seen may_leave faults moment left_since tells tells_moments statuses.NoMemory ls w.rest w.text before after) (sym (ap judged_lines accepted)) w.ran;
    sums = record { acked = acked; sums = appends_none taken; counted = λ told. tt };
  }
  cut_short statuses.WriteFault number lines acked taken full before after short accepted w = let rose : 1 ≤ 0 = w.wrote.0 in absurd (omega arith)
  cut_short statuses.Usage number lines acked taken full before after short accepted w = absurd w.wrote
  cut_short statuses.Script number lines acked taken full before after short accepted w = absurd w.wrote
  cut_short statuses.ReadFault number lines acked taken full before after short accepted w = absurd w.wrote

  -- memory ran out before the first line was run
  pub not_begun : (number : ℕ) (taken : Option (List ℕ)) (full : Type 0) (disks : List D) → HasGenerated seen may_leave faults moment left_since tells tells_moments statuses.NoMemory number taken taken full disks disks
  not_begun number taken full disks = record {
    behind = generated_lines number;
    text = [];
    ran = untouched seen may_leave faults moment left_since tells tells_moments statuses.NoMemory (generated_lines number) disks (script_begins (generated number));
    sums = record { acked = (0, 0); sums = appends_none taken; counted = λ told. tt };
  }
