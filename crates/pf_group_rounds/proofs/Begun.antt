-- After want of memory a group stands at a beginning of what a run would have done.
use Rattle.std.proofs.Common.{◌≡◌, ℕ, suc, ◌+◌, List, [], ◌∷◌, ◌++◌, length, refl, sym, ap, subst, ◌∙◌, arith}
use Rattle.std.specs.Prelude.{IsTrue}
use Rattle.std.proofs.lemmas.List.Sums.{sum_by-cons}
use Rattle.pf_entry.specs.declared.ops.Job.{Job}
use Rattle.pf_entry.specs.Lists.{Every}
use Rattle.pf_entry.proofs.Lists.{every_append}
use Rattle.pf_protocol.specs.declared.answers.Answer.TheVariants.{Done}
use Rattle.pf_protocol.specs.declared.events.Event.{Event}
use Rattle.pf_protocol.specs.declared.events.Event.TheVariants.{Claim, Finish, GiveBack, Restart}
use Rattle.pf_protocol.specs.declared.events.Happening.{Happening}
use Rattle.pf_protocol.specs.Answers.{IsLegal, claims_of}
use Rattle.pf_protocol.specs.Histories.{History, IsPrefix, replay}
use Rattle.pf_group.specs.Going.{Stays}
use Rattle.pf_group.specs.GroupIs.{GroupIs, state_of}
use Rattle.pf_group.specs.Steps.{GroupSteps}
use Rattle.pf_group_rounds.specs.Adding.{Adds, GroupGoes, HasReturned, with_more}
use Rattle.pf_group_rounds.specs.Agreeing.{TellsOfGroup, chunk_standing, told_from, told_history}
use Rattle.pf_group_rounds.specs.Begun.{GroupHasBegun, IsClaimOrReturn}
use Rattle.pf_group_rounds.specs.Chunks.{Chunk, listed_at}
use Rattle.pf_group_rounds.specs.Halts.{Halt}
use Rattle.pf_group_rounds.specs.Jobs.{IsClaimOrFinish, IsOfRound}
use Rattle.pf_group_rounds.specs.Rounds.{applied, finishes, is_finish}
use Rattle.pf_group_rounds.specs.Telling.{one_if}
use Rattle.pf_group_rounds.proofs.HistoryParts.{both_more, grown, nothing_more}
use Rattle.pf_group_rounds.proofs.RunHistories.{rounds_extend}
use Rattle.pf_group_rounds.proofs.GroupGrowth.{grown_tells}
use Rattle.pf_group.proofs.Chains.{by_both, by_step}
use Rattle.pf_group_rounds.proofs.FaultCounts.{pays_refl, pays_trans, whole_pays}
use Rattle.pf_group_rounds.proofs.RunRounds.{RoundsSoFar}
use Rattle.pf_group_rounds.proofs.Told.{told_longer, told_replays}
use Rattle.pf_group_rounds.proofs.Undone.{undone}

pub returned_refl : (g : GroupIs) → HasReturned g g
returned_refl g = record { more = []; recorded = nothing_more g; paid = pays_refl g; by = Stays; returned = tt }

pub returned_trans : (a b c : GroupIs) → HasReturned a b → HasReturned b c → HasReturned a c
returned_trans a b c first second = record {
  more = first.more ++ second.more;
  recorded = both_more a b c first.more second.more first.recorded second.recorded;
  paid = pays_trans a b c first.paid second.paid;
  by = by_both a b c first.by second.by;
  returned = every_append (λ h. IsClaimOrReturn h.event) first.more second.more first.returned second.returned;
}

pub returned_goes : (a b : GroupIs) → HasReturned a b → GroupGoes a b
returned_goes a b returned = record { more = returned.more; recorded = returned.recorded; paid = returned.paid; by = returned.by }

-- one more job came back
pub one_returned : (old now new : GroupIs) (job : Job) → GroupSteps now (GiveBack job.server job.life job.slot) Done new → HasReturned old now → HasReturned old new
one_returned old now new job steps returned =
    returned_trans old now new returned (record {
      more = record { event = GiveBack job.server job.life job.slot; answer = Done } ∷ [];
      recorded = steps.recorded;
      paid = whole_pays now new (GiveBack job.server job.life job.slot) Done steps tt refl;
      by = by_step now new (GiveBack job.server job.life job.slot) Done steps;
      returned = (tt, tt);
    })

-- a round without finishes is one of claims
only_claims : (more : History) → Every IsOfRound more → finishes more ≡ 0 → Every (λ h. IsClaimOrReturn h.event) more
only_claims [] round none = tt
only_claims (h ∷ hs) round none =
    let parts : finishes (h ∷ hs) ≡ one_if (is_finish h.event) + finishes hs = sum_by-cons (λ (x : Happening). one_if (is_finish x.event)) h hs in
    (claims h.event round.0 (omega (arith, none, parts)), only_claims hs round.1 (omega (arith, none, parts)))
  where
    claims : (event : Event) → IsClaimOrFinish event → one_if (is_finish event) ≡ 0 → IsClaimOrReturn event
    claims Claim kind none = tt
    claims (Finish server life slot) kind none = absurd (omega (arith, none))
    claims event kind none = absurd kind

-- the jobs of a round that were claimed came back
pub claims_returned : (a b c : GroupIs) (n : ℕ) → Adds a b n 0 → HasReturned b c → HasReturned a c
claims_returned a b c n adds returned =
    returned_trans a b c (record { more = adds.more; recorded = adds.recorded; paid = adds.paid; by = adds.by; returned = only_claims adds.more adds.round adds.finished }) returned

-- the run's history has as much more
told_grows : (halts : List Halt) (a b : GroupIs) (more : History) → b ≡ with_more a more b → told_history halts a ++ told_from halts a.number (0 + length a.history) more ≡ told_history halts b
told_grows halts a b more recorded = sym (told_longer halts a.number 0 a.history more) ∙ sym (ap (told_history halts) recorded)

returned_told : (halts : List Halt) (number n : ℕ) (more : History) → Every (λ h. IsClaimOrReturn h.event) more → Every (λ h. IsClaimOrReturn h.event) (told_from halts number n more)
returned_told halts number n [] all = tt
returned_told halts number n (h ∷ hs) all = (kind h.event all.0, returned_told halts number (suc n) hs all.1)
  where
    kind : (event : Event) → IsClaimOrReturn event → IsClaimOrReturn (listed_at halts number n event)
    kind (Restart server found) is = is
    kind event is = is

-- the claims of a round that failed came back, and the group is as it was before them
returned_state : (now new : GroupIs) → (back : HasReturned now new) → IsLegal new.setup new.history → claims_of [] now.history ≡ [] → claims_of [] new.history ≡ [] → state_of new ≡ state_of now
returned_state now new back legal before after =
    let legally = subst (λ (g : GroupIs). IsLegal g.setup g.history) back.recorded legal in
    let none = subst (λ (g : GroupIs). claims_of [] g.history ≡ []) back.recorded after in
    ap state_of back.recorded ∙ undone now.setup now.history back.more legally back.returned before none

-- the rounds before it stand
pub begun : (old now new : GroupIs) (left : ℕ) → GroupGoes old now → RoundsSoFar old now left → HasReturned now new → (IsTrue new.told → IsLegal new.setup new.history) → claims_of [] now.history ≡ [] → claims_of [] new.history ≡ []
    → (halts : List Halt) → TellsOfGroup halts new → GroupHasBegun halts old (applied halts (chunk_standing halts old)) new
begun old now new left goes so_far back legal before after halts tells =
    let tells_now = grown_tells halts now new (grown now new (returned_goes now new back)) tells in
    let same : new.setup ≡ now.setup = ap (λ (g : GroupIs). g.setup) back.recorded in
    record {
      done = told_history halts now;
      undone = told_from halts now.number (0 + length now.history) back.more;
      later = record { rest = told_from halts old.number (0 + length old.history) goes.more; whole = told_grows halts old now goes.more goes.recorded };
      part = subst (λ (c : Chunk). IsPrefix (told_history halts now) c.history) (sym (so_far halts tells_now)) (rounds_extend left halts (chunk_standing halts now)).1;
      recorded = sym (told_grows halts now new back.more back.recorded);
      returned = returned_told halts now.number (0 + length now.history) back.more back.returned;
      state = returned_state now new back (legal tells.told) before after ∙ sym (told_replays halts now tells_now) ∙ ap (λ setup. replay setup (told_history halts now)) (sym same);
    }
