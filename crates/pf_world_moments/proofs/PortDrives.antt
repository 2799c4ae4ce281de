-- A port of one chunk takes a step.
use Rattle.std.proofs.Common.{◌≡◌, ℕ, List, [], ◌∷◌, ◌++◌, Option, Some, None, slice_get, slice_set, inl, inr, refl, sym, ap, subst, ◌∙◌, append-nil}
use Rattle.std.proofs.lemmas.List.{length-map}
use Rattle.std.proofs.lemmas.Option.{same_Some}
use Rattle.pf_base.specs.declared.asks.Reply.{Reply}
use Rattle.pf_entry.proofs.Lists.{set_cases, set_there}
use Rattle.pf_chunk.specs.pf_group_network.proofs.Lists.{set_elsewhere, set_length, set_mapped}
use Rattle.pf_chunk.specs.pf_group_rounds.specs.Agreeing.{TellsOfGroup}
use Rattle.pf_chunk.specs.pf_group_rounds.specs.Begun.{GroupHasBegun}
use Rattle.pf_chunk.specs.pf_group_rounds.specs.Growing.{HasGrown}
use Rattle.pf_chunk.specs.pf_group_rounds.specs.Halts.{Halt}
use Rattle.pf_chunk.specs.pf_group_rounds.proofs.RunHistories.{extends_refl}
use Rattle.pf_chunk.specs.pf_group_rounds.proofs.GroupGrowth.{grown_refl}
use Rattle.pf_chunk.specs.Driving.{HasDriven, PortDrove, driven}
use Rattle.pf_chunk.specs.Runs.{ChunkRun}
use Rattle.pf_chunk.specs.Steps.{EventHasFailed}
use Rattle.pf_chunk.specs.Views.{ChunkIs, ChunkIsReady, run_of}
use Rattle.pf_world_moments.specs.Moments.{Writes, moments_text}
use Rattle.pf_world_moments.specs.Hosts.{Drove, drove, drove_as, drove_of, handed_moments}
use Rattle.pf_world_moments.specs.Steps.{AreReady, ChunkGoes, HaveBegun, TellsAll, chunk_runs}
use Rattle.pf_world_moments.specs.Parts.{HasDrove, HasNotDrove}
use Rattle.pf_world_moments.proofs.Groups.{all_begun, goes_refl, grown_left, run_there}

handed_text : (mount k : ℕ) (place : Option ℕ) (text : List ℕ) → moments_text (handed_moments mount k place ++ Writes text ∷ []) ≡ text
handed_text mount k None text = append-nil text
handed_text mount k (Some place) text = append-nil text

module _ (mount k : ℕ) (old : List ChunkIs) (was is : ChunkIs) (there : slice_get old k ≡ Some was) where
  -- a fact of each chunk before and after
  pub one_by_one : (P : ChunkIs → ChunkIs → Type 0) → P was is → ((c : ChunkIs) → P c c) → (j : ℕ) (x y : ChunkIs) → slice_get old j ≡ Some x → slice_get (slice_set old k is) j ≡ Some y → P x y
  one_by_one P its same j x y at to = elim (set_cases old k is j y to) [
    | inl here ↦
        let was_x : was ≡ x = same_Some was x (sym there ∙ ap (slice_get old) (sym here.0) ∙ at) in
        subst (λ z. P z y) was_x (subst (P was) here.1 its)
    | inr elsewhere ↦ subst (P x) (same_Some x y (sym at ∙ elsewhere.1)) (same x)
  ]

  pub ready_one : AreReady old → is.group.number ≡ was.group.number → ChunkIsReady is → AreReady (slice_set old k is)
  ready_one ready number its j c at = elim (set_cases old k is j c at) [
    | inl here ↦
        let k_is = number ∙ (ready k was there).0 in
        subst (λ (z : ChunkIs). (z.group.number ≡ j) × ChunkIsReady z) here.1 (k_is ∙ sym here.0, its)
    | inr elsewhere ↦ ready j c elsewhere.1
  ]

  tells_one : (halts : List Halt) → TellsAll halts (slice_set old k is) → TellsOfGroup halts is.group
  tells_one halts tells = tells k is (set_there old k was is there)

  drove_is : (halts : List Halt) → drove halts (chunk_runs halts old) mount k ≡ drove_as (chunk_runs halts old) mount k (driven halts (run_of halts was) mount)
  drove_is halts = ap (drove_of halts (chunk_runs halts old) mount k) (run_there halts old k was there)

  module _ (before after : List ℕ) (reply : Option Reply) (d : HasDriven mount was before reply after is) (p : PortDrove mount reply was is) where
    goes_one : is.next ≡ was.next → ChunkGoes mount was is
    goes_one next = record {
      grown = d.grown;
      left = grown_left was.group is.group d.grown;
      first = d.first;
      next = next;
      others = λ m other. ap (λ ports. slice_get ports m) p.ports ∙ set_elsewhere was.ports mount m p.port other;
    }

    pub drove_went : AreReady old → is.next ≡ was.next → HasDrove mount k old before reply after (slice_set old k is)
    drove_went ready next = record {
      ready = ready_one ready d.grown.number d.ready;
      gone = record { count = set_length old k is; each = one_by_one (ChunkGoes mount) (goes_one next) (goes_refl mount) };
      was = was;
      there = there;
      is = is;
      one = refl;
      port = p;
      told = handed_moments mount k d.place ++ Writes d.text ∷ [];
      put = d.put ∙ ap (λ text. before ++ text) (sym (handed_text mount k d.place d.text));
      run = λ halts tells.
          drove_is halts
          ∙ ap (drove_as (chunk_runs halts old) mount k) (d.run halts (tells_one halts tells))
          ∙ ap (λ chunks. record { chunks = chunks; reply = reply; told = handed_moments mount k d.place ++ Writes d.text ∷ [] }) (set_mapped (run_of halts) old k is);
    }

  pub drove_failed : EventHasFailed (λ halts. (driven halts (run_of halts was) mount).chunk.group) was.group is.group → HasNotDrove mount k old (slice_set old k is)
  drove_failed f = record {
    grown = record { count = set_length old k is; each = one_by_one (λ x y. HasGrown x.group y.group) f.grown (λ c. grown_refl c.group) };
    begun = λ halts tells. subst (λ (d : Drove). HaveBegun halts old d.chunks (slice_set old k is)) (sym (drove_is halts)) (record {
      count = set_length (chunk_runs halts old) k (driven halts (run_of halts was) mount).chunk ∙ length-map old (run_of halts) ∙ sym (set_length old k is);
      each = begun_one halts tells;
    });
  } where
    begun_one : (halts : List Halt) → TellsAll halts (slice_set old k is) → (j : ℕ) (x y : ChunkIs) (run : ChunkRun) → slice_get old j ≡ Some x → slice_get (slice_set old k is) j ≡ Some y
        → slice_get (slice_set (chunk_runs halts old) k (driven halts (run_of halts was) mount).chunk) j ≡ Some run → GroupHasBegun halts x.group run.group y.group
    begun_one halts tells j x y run at to would = elim (set_cases (chunk_runs halts old) k (driven halts (run_of halts was) mount).chunk j run would) [
      | inl here ↦
          let was_x : was ≡ x = same_Some was x (sym there ∙ ap (slice_get old) (sym here.0) ∙ at) in
          let is_y : is ≡ y = same_Some is y (sym (set_there old k was is there) ∙ ap (slice_get (slice_set old k is)) (sym here.0) ∙ to) in
          subst (λ (z : ChunkIs). GroupHasBegun halts z.group run.group y.group) was_x
          (subst (λ (z : ChunkIs). GroupHasBegun halts was.group run.group z.group) is_y
          (subst (λ (z : ChunkRun). GroupHasBegun halts was.group z.group is.group) here.1 (f.begun halts (tells_one halts tells))))
      | inr elsewhere ↦
          let y_x : y ≡ x = same_Some y x (sym to ∙ set_elsewhere old k j is elsewhere.0 ∙ at) in
          let run_is : run_of halts x ≡ run = same_Some (run_of halts x) run (sym (run_there halts old j x at) ∙ elsewhere.1) in
          subst (λ (z : ChunkIs). GroupHasBegun halts x.group run.group z.group) (sym y_x)
          (subst (λ (z : ChunkRun). GroupHasBegun halts x.group z.group x.group) run_is
          (all_begun halts x.group x.group (run_of halts x).group (subst (λ (z : ChunkIs). TellsOfGroup halts z.group) y_x (tells j y to)) (grown_refl x.group) (extends_refl (run_of halts x).group)))
    ]
