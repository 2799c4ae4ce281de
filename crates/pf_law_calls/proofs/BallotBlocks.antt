-- The blocks that ballots write have a spelling, where those that they read have.
use Rattle.std.proofs.Common.{◌≡◌, ◌≢◌, ℕ, suc, ◌+◌, ◌-◌, ◌*◌, ◌/◌, ◌<◌, ◌≤◌, ◌^◌, inl, inr, Bool, true, false, ◌==◌, nat_lt, max, if◌then◌else◌, List, [], ◌∷◌, length, Option, Some, None, unwrap_or, arith, refl, sym, ap, subst}
use Rattle.std.proofs.lemmas.Bool.{cases_lt, eqb-false}
use Rattle.pf_paxos.specs.declared.block.Block.{Block}
use Rattle.pf_paxos.specs.Blocks.{ballot_after, best_of, greatest_mbal, zero_block}
use Rattle.pf_paxos.specs.Proposers.{value_of}
use Rattle.pf_paxos.specs.declared.parts.AnchorNext.{AnchorNext}
use Rattle.pf_paxos.specs.declared.parts.AnchorNext.TheVariants.{Write, Read, Idle}
use Rattle.pf_paxos.specs.declared.ballot.BallotStep.{BallotStep}
use Rattle.pf_paxos.specs.declared.ballot.BallotStep.TheVariants.{Abort, Decided, Go, NoValue}
use Rattle.pf_paxos.specs.declared.parts.Part.{Part}
use Rattle.pf_paxos.specs.declared.ballot.Phase.{Phase}
use Rattle.pf_paxos.specs.declared.ballot.Phase.TheVariants.{Resting, Claiming, Proposing}
use Rattle.pf_paxos.specs.declared.parts.Stage.TheVariants.{ReadsLow}
use Rattle.pf_paxos.specs.Parts.{part_advanced, phase_begun as begun_part, best_done, fresh, part_freed, is_done, part_at, part_takes, best_with_done, with_part, part_written}
use Rattle.pf_paxos.specs.Ballots.{BallotIs, asked_next, chosen, ballot_claim, ballot_ended, in_phase, is_phase_over, passed, phase_ended, proposal_of, ballot_proposed, read_at, read_in_time, started, written_at}
use Rattle.pf_paxos.proofs.BallotForms.{at_all, at_new, at_with}
use Rattle.pf_journal.specs.declared.layouts.Layout.{Layout}
use Rattle.pf_journal.specs.Sectors.{HasSpelling, block_in, fields_of}
use Rattle.pf_journal.proofs.BlockSpellings.{form, nothing, past}
use Rattle.pf_mount_errands.specs.Blocks.{blocks_in}
use Rattle.pf_law_calls.proofs.Layouts.{anchors_in, new_in}

-- Blocks

pub zero_spelled : HasSpelling zero_block
zero_spelled = record {
  form = record { no_value = λ e. refl; has_value = λ e. refl; mbal_low = omega arith; bal_low = omega arith };
  few = omega arith;
}

few_if : (b : Bool) (x : Block) → length x.value ≤ 400 → length (if b then x else zero_block).value ≤ 400
few_if true x few = few
few_if false x few = omega arith

few_in : (sector : List ℕ) → length (block_in sector).value ≤ 400
unfolding block_in
few_in sector =
    elim (cases_lt 400 (length (fields_of sector).value)) [
      | inl long ↦ let e = ap (λ (b : Block). length b.value) (nothing sector (past sector long)) in omega (arith, e)
      | inr short ↦ few_if _ (fields_of sector) short
    ]

abbrev pub AreSpelledBlocks : List Block → Type 0
AreSpelledBlocks [] = Unit {0}
AreSpelledBlocks (b ∷ bs) = HasSpelling b × AreSpelledBlocks bs

-- the blocks of sectors
pub in_sectors : (sectors : List (List ℕ)) → AreSpelledBlocks (blocks_in sectors)
in_sectors [] = tt
in_sectors (sector ∷ sectors) = (record { form = form sector; few = few_in sector }, in_sectors sectors)

either_spelled : (test : Bool) (x y : Block) → HasSpelling x → HasSpelling y → HasSpelling (if test then x else y)
either_spelled true x y of_x of_y = of_x
either_spelled false x y of_x of_y = of_y

best_spelled : (best : Block) (blocks : List Block) → HasSpelling best → AreSpelledBlocks blocks → HasSpelling (best_of best blocks)
best_spelled best [] is each = is
best_spelled best (b ∷ bs) is each = best_spelled (if nat_lt best.bal b.bal then b else best) bs (either_spelled (nat_lt best.bal b.bal) b best each.0 is) each.1

-- a value that a block may have
pub record IsValue (value : List ℕ) : Type 0 where
  pub some : value ≢ []
  pub few : length value ≤ 400

abbrev pub IsSpelledInput : Option (List ℕ) → Type 0
IsSpelledInput None = Unit {0}
IsSpelledInput (Some value) = IsValue value

-- Parts

abbrev pub IsPartSpelled : Part → Type 0
IsPartSpelled part = HasSpelling part.best

abbrev pub ArePartsSpelled : List Part → Type 0
ArePartsSpelled ps = (a : ℕ) → IsPartSpelled (part_at ps a)

with_spelled : (ps : List Part) (a : ℕ) (part : Part) → ArePartsSpelled ps → HasSpelling part.best → ArePartsSpelled (with_part ps a part)
with_spelled ps a part is its b = at_with IsPartSpelled ps a part b its (is b)

-- Ballots

-- where a ballot runs it has a number
abbrev IsBegun : Phase → (mbal : ℕ) → Type 0
IsBegun Resting mbal = Unit {0}
IsBegun phase mbal = 0 < mbal

-- what is written and what was read at a position
pub record AreSpelled (p : BallotIs) : Type 0 where
  pub own : HasSpelling p.own
  pub parts : ArePartsSpelled p.parts
  pub input : IsSpelledInput p.input
  pub begun : IsBegun p.phase p.own.mbal

pub new_spelled : (layout : Layout) (mount : ℕ) → AreSpelled (new_in layout mount)
new_spelled layout mount = record { own = zero_spelled; parts = λ a. at_new IsPartSpelled (anchors_in layout) (fresh zero_block) a zero_spelled zero_spelled; input = tt; begun = tt }

phase_spelled : (p : BallotIs) (phase : Phase) (own : Block) → IsSpelledInput p.input → HasSpelling own → IsBegun phase own.mbal → AreSpelled (in_phase p phase own)
phase_spelled p phase own input its begun = record { own = its; parts = λ a. at_all IsPartSpelled (begun_part own) p.parts a (λ part. its) zero_spelled; input = input; begun = begun }

after_some : (mount above : ℕ) → 0 < ballot_after mount above
after_some mount above = by (nat_lt above (16 + mount))
  where
    by : (b : Bool) → 0 < (if b then 16 + mount else 16 * ((above - mount) / 16 + 1) + mount)
    by true = omega arith
    by false = omega arith

-- a ballot that can begin
pub started_spelled : (p : BallotIs) (above : ℕ) (input : Option (List ℕ)) → AreSpelled p → IsSpelledInput input → ballot_after p.mount (max above p.own.mbal) < 2 ^ 62 → AreSpelled (started p above input)
started_spelled p above input is its low = phase_spelled (record p { input = input }) Claiming (ballot_claim p above) its (record {
  form = record { no_value = is.own.form.no_value; has_value = is.own.form.has_value; mbal_low = low; bal_low = is.own.form.bal_low };
  few = is.own.few;
}) (after_some p.mount (max above p.own.mbal))

-- at an anchor, another part with a best block that has a spelling
at_spelled : (p : BallotIs) (a : ℕ) (part : Part) → AreSpelled p → HasSpelling part.best → AreSpelled (record p { parts = with_part p.parts a part })
at_spelled p a part is its = record { own = is.own; parts = with_spelled p.parts a part is.parts its; input = is.input; begun = is.begun }

pub asked_spelled : (p : BallotIs) (a : ℕ) → AreSpelled p → AreSpelled (asked_next p a)
asked_spelled p a is = by _
  where
    by : (n : AnchorNext) → AreSpelled (record p { parts = with_part p.parts a (part_takes (part_at p.parts a) n) })
    by Idle = at_spelled p a (part_at p.parts a) is (is.parts a)
    by (Write block) = at_spelled p a (part_takes (part_at p.parts a) (Write block)) is (is.parts a)
    by (Read half) = at_spelled p a (part_takes (part_at p.parts a) (Read half)) is (is.parts a)

pub written_spelled : (p : BallotIs) (a : ℕ) → AreSpelled p → AreSpelled (written_at p a)
written_spelled p a is = at_spelled p a (part_written (part_at p.parts a)) is (same (part_at p.parts a).is_late (is.parts a))
  where
    same : (late : Bool) → HasSpelling (part_at p.parts a).best → (let x : Part = if late then part_freed (part_at p.parts a) else record (part_freed (part_at p.parts a)) { stage = ReadsLow } in HasSpelling x.best)
    same true its = its
    same false its = its

-- the ballot rests
ended_spelled : (p : BallotIs) (step : BallotStep) → AreSpelled p → AreSpelled (ballot_ended p step).ballot
ended_spelled p step is = phase_spelled p Resting p.own is.input is.own tt

-- phase 2
proposed_spelled : (p : BallotIs) (best : Block) → AreSpelled p → 0 < p.own.mbal → IsValue (value_of best p.input) → AreSpelled (ballot_proposed p best).ballot
proposed_spelled p best is some value = phase_spelled p Proposing (proposal_of p best) is.input (record {
  form = record {
    no_value = λ none. absurd (omega (arith, none, some));
    has_value = λ none. absurd (value.some none);
    mbal_low = is.own.form.mbal_low;
    bal_low = is.own.form.mbal_low;
  };
  few = value.few;
}) some

-- a value that was read, or the own one
value_read : (best : Block) → HasSpelling best → (best.bal == 0) ≡ false → IsValue best.value
value_read best its some = record { some = λ empty. eqb-false best.bal 0 some (its.form.has_value empty); few = its.few }

module _ (p : BallotIs) (best : Block) (is : AreSpelled p) (some : 0 < p.own.mbal) (its : HasSpelling best) where
  chosen_spelled : (input : Option (List ℕ)) → p.input ≡ input → AreSpelled (chosen input p best).ballot
  chosen_spelled None none = by (best.bal == 0) refl
    where
      value : (best.bal == 0) ≡ false → (b : Bool) → (best.bal == 0) ≡ b → IsValue (if b then unwrap_or p.input [] else best.value)
      value apart true same = absurd (cc)
      value apart false same = value_read best its apart

      by : (b : Bool) → (best.bal == 0) ≡ b → AreSpelled (if b then ballot_ended p NoValue else ballot_proposed p best).ballot
      by true same = ended_spelled p NoValue is
      by false same = proposed_spelled p best is some (value same (best.bal == 0) refl)
  chosen_spelled (Some input) own = proposed_spelled p best is some (value (best.bal == 0) refl)
    where
      given : IsValue (unwrap_or p.input [])
      given = subst (λ (o : Option (List ℕ)). IsSpelledInput o → IsValue (unwrap_or o [])) (sym own) (λ it. it) is.input

      value : (b : Bool) → (best.bal == 0) ≡ b → IsValue (if b then unwrap_or p.input [] else best.value)
      value true same = given
      value false same = value_read best its same

done_spelled : (best : Block) (part : Part) → HasSpelling best → HasSpelling part.best → HasSpelling (best_with_done best part)
done_spelled best part is its = by (is_done part.stage)
  where
    by : (b : Bool) → HasSpelling (if b then if nat_lt best.bal part.best.bal then part.best else best else best)
    by true = either_spelled (nat_lt best.bal part.best.bal) part.best best its is
    by false = is

all_done_spelled : (ps : List Part) (best : Block) → ArePartsSpelled ps → HasSpelling best → HasSpelling (best_done ps best)
all_done_spelled [] best each is = is
all_done_spelled (part ∷ ps) best each is = all_done_spelled ps (best_with_done best part) (λ a. each (suc a)) (done_spelled best part is (each 0))

best_of_done : (p : BallotIs) → AreSpelled p → HasSpelling (best_done p.parts p.own)
best_of_done p is = all_done_spelled p.parts p.own is.parts is.own

phase_ended_spelled : (phase : Phase) (p : BallotIs) → p.phase ≡ phase → AreSpelled p → AreSpelled (phase_ended phase p).ballot
phase_ended_spelled Claiming p at is = chosen_spelled p (best_done p.parts p.own) is (subst (λ (phase : Phase). IsBegun phase p.own.mbal) at is.begun) (best_of_done p is) p.input refl
phase_ended_spelled Proposing p at is = ended_spelled p (Decided p.own.value) is
phase_ended_spelled Resting p at is = is

passed_spelled : (p : BallotIs) → AreSpelled p → AreSpelled (passed p).ballot
passed_spelled p is = by (is_phase_over p.quorum p.parts)
  where
    by : (b : Bool) → AreSpelled (if b then phase_ended p.phase p else record { ballot = p; step = Go }).ballot
    by true = phase_ended_spelled p.phase p refl is
    by false = is

-- a half was read there
pub read_spelled : (p : BallotIs) (a : ℕ) (blocks : List Block) → AreSpelled p → AreSpelledBlocks blocks → AreSpelled (read_at p a blocks).ballot
read_spelled p a blocks is each = by (part_at p.parts a).is_late
  where
    frees : AreSpelled (record p { parts = with_part p.parts a (part_freed (part_at p.parts a)) })
    frees = at_spelled p a (part_freed (part_at p.parts a)) is (is.parts a)

    goes_on : AreSpelled (record p { parts = with_part p.parts a (part_advanced (part_at p.parts a) blocks) })
    goes_on = at_spelled p a (part_advanced (part_at p.parts a) blocks) is (best_spelled (part_at p.parts a).best blocks (is.parts a) each)

    in_time : (b : Bool) → AreSpelled (if b then ballot_ended (record p { parts = with_part p.parts a (part_freed (part_at p.parts a)) }) (Abort (greatest_mbal blocks)) else passed (record p { parts = with_part p.parts a (part_advanced (part_at p.parts a) blocks) })).ballot
    in_time true = ended_spelled (record p { parts = with_part p.parts a (part_freed (part_at p.parts a)) }) (Abort (greatest_mbal blocks)) frees
    in_time false = passed_spelled (record p { parts = with_part p.parts a (part_advanced (part_at p.parts a) blocks) }) goes_on

    by : (b : Bool) → AreSpelled (if b then record { ballot = record p { parts = with_part p.parts a (part_freed (part_at p.parts a)) }; step = Go } else read_in_time p a blocks).ballot
    by true = frees
    by false = in_time (nat_lt p.own.mbal (greatest_mbal blocks))
