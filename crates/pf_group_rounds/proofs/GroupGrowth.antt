-- More happens to a group: what a list of halts tells of it, it told before.
use Rattle.std.proofs.Common.{◌≡◌, ℕ, Bool, List, [], ◌∷◌, refl, sym, ap, subst, ◌∙◌}
use Rattle.std.specs.Prelude.{IsTrue}
use Rattle.std.proofs.Math.Logic.{∥∥₁_map₂}
use Rattle.pf_protocol.specs.declared.answers.Answer.{Answer}
use Rattle.pf_protocol.specs.declared.events.Event.{Event}
use Rattle.pf_protocol.specs.Servers.{Setup}
use Rattle.pf_protocol.specs.Histories.{History, IsPrefix}
use Rattle.pf_protocol.proofs.ForMoments.{prefix_of, whole_prefix}
use Rattle.pf_group.specs.declared.event.GroupEvent.{GroupEvent}
use Rattle.pf_group.specs.Going.{Stays, Takes}
use Rattle.pf_group.specs.GroupIs.{GroupIs}
use Rattle.pf_group.specs.Steps.{IsLeftWithoutMemory, GroupSteps}
use Rattle.pf_group_rounds.specs.Halts.{Halt}
use Rattle.pf_group_rounds.specs.Agreeing.{TellsOfGroup}
use Rattle.pf_group_rounds.specs.Growing.{HasGrown}
use Rattle.pf_group_rounds.proofs.FollowedHistories.{tells_before}
use Rattle.pf_group.proofs.Chains.{by_both, by_left, by_one, by_step}
use Rattle.pf_group_rounds.proofs.FaultCounts.{left_pays, only_faults, pays_refl, pays_same, pays_trans, step_pays}

-- nothing else of a group matters to a list of halts
abbrev bare : ℕ → Bool → Setup → History → GroupIs
bare number told setup history = record { number = number; told = told; setup = setup; history = history; taken = []; faults = []; time = record { now = []; began = []; earlier = [] } }

-- the list tells of the group without its last events
pub later_tells : (halts : List Halt) (was is : GroupIs) → is.number ≡ was.number → is.told ≡ was.told → is.setup ≡ was.setup → IsPrefix was.history is.history → TellsOfGroup halts is → TellsOfGroup halts was
later_tells halts was is number told setup later tells =
    let earlier = tells_before halts is was.history later tells in
    let plain : TellsOfGroup halts (bare is.number is.told is.setup was.history) = record { told = earlier.told; making = earlier.making; few = earlier.few; events = earlier.events } in
    let numbered = subst (λ n. TellsOfGroup halts (bare n is.told is.setup was.history)) number plain in
    let telling = subst (λ t. TellsOfGroup halts (bare was.number t is.setup was.history)) told numbered in
    let same = subst (λ setup. TellsOfGroup halts (bare was.number was.told setup was.history)) setup telling in
    record { told = same.told; making = same.making; few = same.few; events = same.events }

pub grown_tells : (halts : List Halt) (was is : GroupIs) → HasGrown was is → TellsOfGroup halts is → TellsOfGroup halts was
grown_tells halts was is grown tells = later_tells halts was is grown.number grown.told grown.setup grown.later tells

pub grown_refl : (g : GroupIs) → HasGrown g g
grown_refl g = record { number = refl; told = refl; setup = refl; later = whole_prefix g.history; paid = λ told. pays_refl g; by = ∣ Stays ∣₁ }

pub grown_trans : (a b c : GroupIs) → HasGrown a b → HasGrown b c → HasGrown a c
grown_trans a b c first second = record {
  number = second.number ∙ first.number;
  told = second.told ∙ first.told;
  setup = second.setup ∙ first.setup;
  later = prefix_of a.history b.history c.history first.later second.later;
  paid = λ told. pays_trans a b c (first.paid told) (second.paid (subst IsTrue (sym first.told) told));
  by = ∥∥₁_map₂ first.by second.by (by_both a b c);
}

-- an event was answered
pub step_grows : (old new : GroupIs) (event : Event) (answer : Answer) → GroupSteps old event answer new → HasGrown old new
step_grows old new event answer steps = record {
  number = ap (λ (g : GroupIs). g.number) steps.recorded;
  told = ap (λ (g : GroupIs). g.told) steps.recorded;
  setup = ap (λ (g : GroupIs). g.setup) steps.recorded;
  later = record { rest = record { event = event; answer = answer } ∷ []; whole = sym (ap (λ (g : GroupIs). g.history) steps.recorded) };
  paid = λ told. step_pays old new event answer steps told;
  by = ∣ by_step old new event answer steps ∣₁;
}

-- or there was no memory for it
pub left_grows : (old : GroupIs) (event : GroupEvent) (new : GroupIs) → IsLeftWithoutMemory old event new → HasGrown old new
left_grows old event new left =
    let is = only_faults old event new left in record {
      number = ap (λ (g : GroupIs). g.number) is;
      told = ap (λ (g : GroupIs). g.told) is;
      setup = ap (λ (g : GroupIs). g.setup) is;
      later = subst (IsPrefix old.history) (sym (ap (λ (g : GroupIs). g.history) is)) (whole_prefix old.history);
      paid = λ told. left_pays old event new told left;
      by = ∣ by_left old event new left ∣₁;
    }

-- answers of reads are handed out
pub taken_grows : (old new : GroupIs) → new ≡ record old { taken = new.taken } → HasGrown old new
taken_grows old new is = record {
  number = ap (λ (g : GroupIs). g.number) is;
  told = ap (λ (g : GroupIs). g.told) is;
  setup = ap (λ (g : GroupIs). g.setup) is;
  later = subst (IsPrefix old.history) (sym (ap (λ (g : GroupIs). g.history) is)) (whole_prefix old.history);
  paid = λ told. pays_same old new is;
  by = ∣ by_one old new (Takes is) ∣₁;
}
