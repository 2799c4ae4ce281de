-- A port into one group takes a step.
use Rattle.std.proofs.Common.{◌≡◌, ℕ, List, ◌++◌, Option, Some, slice_get, slice_set, inl, inr, refl, sym, ap, subst, ◌∙◌}
use Rattle.std.proofs.lemmas.List.{length-map}
use Rattle.std.proofs.lemmas.Option.{same_Some}
use Rattle.pf_base.specs.declared.asks.Reply.{Reply}
use Rattle.pf_entry.proofs.Lists.{set_cases, set_there}
use Rattle.pf_world_moments.specs.pf_group_network.proofs.Lists.{set_elsewhere, set_length}
use Rattle.pf_world_moments.specs.pf_group_rounds.specs.Agreeing.{TellsOfGroup}
use Rattle.pf_world_moments.specs.pf_group_rounds.specs.Begun.{GroupHasBegun}
use Rattle.pf_world_moments.specs.pf_group_rounds.specs.Growing.{HasGrown}
use Rattle.pf_world_moments.specs.pf_group_rounds.specs.Halts.{Halt}
use Rattle.pf_world_moments.specs.pf_group_rounds.proofs.RunHistories.{extends_refl}
use Rattle.pf_world_moments.specs.pf_group_rounds.proofs.GroupGrowth.{grown_refl}
use Rattle.pf_world_moments.specs.pf_chunk.specs.Driving.{PortDrove, led}
use Rattle.pf_world_moments.specs.pf_chunk.specs.Runs.{ChunkRun}
use Rattle.pf_world_moments.specs.pf_chunk.specs.Steps.{EventHasFailed}
use Rattle.pf_world_moments.specs.pf_chunk.specs.Views.{ChunkIs, ChunkIsReady, run_of}
use Rattle.pf_world_moments.specs.Steps.{AreReady, ChunkGoes, HaveGone, TellsAll, chunk_runs}
use Rattle.pf_world_moments.proofs.PortDrives.{one_by_one, ready_one}
use Rattle.pf_world_moments.proofs.Groups.{all_begun, goes_refl, grown_left, run_there}
use Rattle.pf_mount_host.specs.Parts.{GroupStep, HasMet, HasNotLedAt}

module _ (mount k : ℕ) (old : List ChunkIs) (was is : ChunkIs) (there : slice_get old k ≡ Some was) where
  -- one group goes on
  pub gone_one : ChunkGoes mount was is → HaveGone mount old (slice_set old k is)
  gone_one goes = record { count = set_length old k is; each = one_by_one mount k old was is there (ChunkGoes mount) goes (goes_refl mount) }

  goes_one : (reply : Option Reply) → HasGrown was.group is.group → is.first_left ≡ was.first_left → is.next ≡ was.next → PortDrove mount reply was is → ChunkGoes mount was is
  goes_one reply grown first next p = record {
    grown = grown;
    left = grown_left was.group is.group grown;
    first = first;
    next = next;
    others = λ m other. ap (λ ports. slice_get ports m) p.ports ∙ set_elsewhere was.ports mount m p.port other;
  }

  tells_one : (halts : List Halt) → TellsAll halts (slice_set old k is) → TellsOfGroup halts is.group
  tells_one halts tells = tells k is (set_there old k was is there)

  pub has_met : (step : GroupStep) (before : List ℕ) (reply : Option Reply) (after text : List ℕ) (place : Option ℕ) → AreReady old → HasGrown was.group is.group → ChunkIsReady is → is.first_left ≡ was.first_left → is.next ≡ was.next → PortDrove mount reply was is
      → after ≡ before ++ text → ((halts : List Halt) → TellsOfGroup halts is.group → step halts (run_of halts was) ≡ record { chunk = run_of halts is; reply = reply; text = text; place = place })
      → HasMet step mount k old before reply after (slice_set old k is)
  has_met step before reply after text place ready grown is_ready first next p put run = record {
    ready = ready_one mount k old was is there ready grown.number is_ready;
    gone = gone_one (goes_one reply grown first next p);
    was = was;
    there = there;
    is = is;
    one = refl;
    port = p;
    text = text;
    place = place;
    put = put;
    run = λ halts tells. run halts (tells_one halts tells);
  }

  -- it stands at a beginning, and the others where they stood
  begun_one : (halts : List Halt) (would : ChunkRun) → TellsAll halts (slice_set old k is) → GroupHasBegun halts was.group would.group is.group → (j : ℕ) (x y : ChunkIs) (run : ChunkRun) → slice_get old j ≡ Some x → slice_get (slice_set old k is) j ≡ Some y
      → slice_get (slice_set (chunk_runs halts old) k would) j ≡ Some run → GroupHasBegun halts x.group run.group y.group
  begun_one halts would tells begun j x y run at to there_run = elim (set_cases (chunk_runs halts old) k would j run there_run) [
    | inl here ↦
        let was_x : was ≡ x = same_Some was x (sym there ∙ ap (slice_get old) (sym here.0) ∙ at) in
        let is_y : is ≡ y = same_Some is y (sym (set_there old k was is there) ∙ ap (slice_get (slice_set old k is)) (sym here.0) ∙ to) in
        subst (λ (z : ChunkIs). GroupHasBegun halts z.group run.group y.group) was_x
        (subst (λ (z : ChunkIs). GroupHasBegun halts was.group run.group z.group) is_y
        (subst (λ (z : ChunkRun). GroupHasBegun halts was.group z.group is.group) here.1 begun))
    | inr elsewhere ↦
        let y_x : y ≡ x = same_Some y x (sym to ∙ set_elsewhere old k j is elsewhere.0 ∙ at) in
        let run_is : run_of halts x ≡ run = same_Some (run_of halts x) run (sym (run_there halts old j x at) ∙ elsewhere.1) in
        subst (λ (z : ChunkIs). GroupHasBegun halts x.group run.group z.group) (sym y_x)
        (subst (λ (z : ChunkRun). GroupHasBegun halts x.group z.group x.group) run_is
        (all_begun halts x.group x.group (run_of halts x).group (subst (λ (z : ChunkIs). TellsOfGroup halts z.group) y_x (tells j y to)) (grown_refl x.group) (extends_refl (run_of halts x).group)))
  ]

  pub not_led : EventHasFailed (λ halts. (led halts (run_of halts was) mount).chunk.group) was.group is.group → HasNotLedAt mount k old (slice_set old k is)
  not_led f = record {
    was = was;
    there = there;
    grown = record { count = set_length old k is; each = one_by_one mount k old was is there (λ x y. HasGrown x.group y.group) f.grown (λ c. grown_refl c.group) };
    begun = λ halts tells.
        let would = (led halts (run_of halts was) mount).chunk in record {
          count = set_length (chunk_runs halts old) k would ∙ length-map old (run_of halts) ∙ sym (set_length old k is);
          each = begun_one halts would tells (f.begun halts (tells_one halts tells));
        };
  }
