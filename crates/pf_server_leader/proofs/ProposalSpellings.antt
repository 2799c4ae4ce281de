-- A proposal of a bounded server has a spelling, and is the rule's.
use Rattle.std.proofs.Common.{◌≡◌, ◌⊎◌, inl, inr, ℕ, suc, ◌+◌, ◌<◌, ◌≤◌, true, false, ◌&&◌, ◌==◌, Result, Err, length, arith, sym, ap, subst, ◌∙◌}
use Rattle.std.proofs.lemmas.Bool.{false≢true}
use Rattle.pf_base.specs.Span.{fits_in}
use Rattle.pf_entry.proofs.Maps.{get_inserted}
use Rattle.pf_entry.specs.Ops.{range_of}
use Rattle.pf_entry.specs.Records.{Durable, stored, put_entry}
use Rattle.pf_entry.specs.declared.ops.Op.{Op}
use Rattle.pf_entry.specs.declared.ops.Op.TheVariants.{Write, Noop, Mark}
use Rattle.pf_entry.specs.declared.entries.Entry.{Entry}
use Rattle.pf_entry.specs.declared.packets.Body.TheVariants.{Accept}
use Rattle.pf_entry.specs.declared.records.Record.TheVariants.{Entry as EntryRecord}
use Rattle.pf_codec.specs.Spelling.{body_bytes}
use Rattle.pf_server_store.specs.Stores.{IsSpelledAs, StoreModel}
use Rattle.pf_protocol.specs.Servers.{Leader, Server}
use Rattle.pf_protocol.specs.Answers.{IsSubmitted, IsSetup, is_mark}
use Rattle.pf_protocol.specs.Leading.{new_entry, on_submit, submitted}
use Rattle.pf_protocol.specs.Fitting.{OpFits, EntryFits, EntryStandsIn, LeaderFits, RoleFits}
use Rattle.pf_protocol.specs.Outcomes.{Outcome}
use Rattle.pf_protocol.specs.declared.answers.Answer.{Answer}
use Rattle.pf_protocol.proofs.ForRows.{Fits, submit_fits}
use Rattle.pf_server_memory.specs.Bounds.{far}
use Rattle.pf_server_memory.specs.declared.faults.StepFault.{StepFault}
use Rattle.pf_server_memory.specs.declared.faults.StepFault.TheVariants.{NoMemory, Refused, Halted}
use Rattle.pf_server_memory.specs.declared.running.Leader.{Leader as LeaderHere}
use Rattle.pf_server_memory.specs.declared.running.Role.TheVariants.{Serving as ServingHere}
use Rattle.pf_server_memory.specs.declared.running.Running.{Running}
use Rattle.pf_server_memory.specs.Outgoing.{Outgoing}
use Rattle.pf_server_memory.specs.Packets.{AreCanonical, packet}
use Rattle.pf_server_memory.specs.Standing.{server_of, setup_of, state_in_memory, role_in_memory, leader_in_memory, IsBounded, IsCached, Stands, Steps, room_refusal}
use Rattle.pf_server_memory.proofs.Canonicals.{IsFormat, entry_is_spelled, packet_is}
use Rattle.pf_server_memory.proofs.Steps.{bare_cached, untouched}
use Rattle.pf_server_leader.specs.Submitting.{submit_refusal, LeaderIsLow, IsRoomier, IsSubmitPlan, PlansEntry, entry_proposed}
use Rattle.pf_server_leader.proofs.Proposals.{near_serves, own_leader, same_refusal, none_refused, submission}

pub few_sectors : (me : Running) → IsBounded me → length me.sectors ≤ 4096
unfolding setup_of
few_sectors me b = b.setup.few_sectors

second_of : (format names : ℕ) → (format == 1) ≡ false → ((format ≡ 1) × (names ≤ 2)) ⊎ (format ≡ 2) → format ≡ 2
second_of format names other (inl first) = absurd (false≢true (sym other ∙ ap (λ f. f == 1) first.0))
second_of format names other (inr second) = second

op_fits : (me : Running) (op : Op) → IsSetup (setup_of me) → IsSubmitted op → (is_mark op && me.format == 1) ≡ false → fits_in (range_of op) (length me.sectors) ≡ true → OpFits (setup_of me) op
unfolding setup_of range_of
op_fits me (Write range payload) is asked mark fits = (asked.0, asked.1, asked.2, fits)
op_fits me Noop is asked mark fits = absurd asked
op_fits me Mark is asked mark fits = second_of me.format me.names mark is.format

module _ (me : Running) (b : IsBounded me) (op : Op) (asked : IsSubmitted op) (e : Entry) (p : IsSubmitPlan me op e) where
  pub plan_slot : e.slot ≡ p.leader.next
  unfolding new_entry
  plan_slot = ap (λ (x : Entry). x.slot) p.is

  pub plan_term : e.term ≡ me.term
  unfolding new_entry server_of
  plan_term = ap (λ (x : Entry). x.term) p.is

  leader_fits : LeaderFits b.n me.log.base (leader_in_memory p.leader)
  unfolding server_of
  leader_fits = subst (RoleFits (setup_of me) b.n b.t me.log.base) (ap role_in_memory p.may.serves) b.fits.role

  pub plan_above : me.log.base < e.slot
  plan_above = omega (arith, plan_slot, leader_fits.above_base)

  pub plan_window : e.slot ≤ me.log.base + 4096
  plan_window = omega (arith, plan_slot, p.may.within)

  pub plan_low : p.leader.next ≤ far
  plan_low = omega (arith, leader_fits.next_low, b.low)

  module _ (d : Durable) (cached : IsCached d me) where
    whole_fits : Fits (setup_of me) (suc b.n) b.t (entry_proposed (server_of (state_in_memory me) me) (leader_in_memory p.leader) e)
    whole_fits =
        let s = server_of (state_in_memory me) me in
        subst (Fits (setup_of me) (suc b.n) b.t) (submission (state_in_memory me) me (bare_cached d me cached) op p.leader e p.may p.is)
        (submit_fits (setup_of me) b.n b.t s b.fits op (op_fits me op b.setup asked p.may.marks p.may.fits) s.role b.fits.role)

    in_log : Fits (setup_of me) (suc b.n) b.t (entry_proposed (server_of (state_in_memory me) me) (leader_in_memory p.leader) e) → EntryStandsIn (setup_of me) (suc b.n) b.t me.log.base e.slot e
    unfolding submitted stored put_entry server_of
    in_log f = f.server.durable.vote.log e.slot e (get_inserted me.log.entries e.slot e)

    pub entry_fits : EntryFits (setup_of me) (suc b.n) b.t e
    entry_fits = (in_log whole_fits).fits

    own_term : (1 ≤ me.term) × (me.term ≤ b.t)
    unfolding server_of
    own_term = (b.fits.durable.term, b.fits.durable.term_low)

    pub plan_canonical : AreCanonical me.number me.term (Accept e)
    plan_canonical = λ i below apart.
        packet_is (setup_of me) b.setup (suc b.n) b.t (packet me.number i me.term (Accept e)) tt (record {
          from = cached.number;
          to = below;
          apart = λ same. apart (sym same);
          term = own_term.0;
          term_low = own_term.1;
          body = (entry_fits, plan_term);
        })

    pub plan_spelled : (format : ℕ) → IsFormat (setup_of me) format → IsSpelledAs format (EntryRecord e) (body_bytes (EntryRecord e))
    plan_spelled format half = entry_is_spelled (setup_of me) b.setup (suc b.n) b.t b.low b.t_low format half e entry_fits

-- with more room
canonical_near : (me near : Running) (e : Entry) → IsRoomier me near → AreCanonical me.number me.term (Accept e) → AreCanonical near.number near.term (Accept e)
canonical_near me near e roomier all = subst (λ (m : Running). AreCanonical m.number m.term (Accept e)) (sym roomier.is) all

module _ (me near : Running) (roomier : IsRoomier me near) (e : Entry) where
  pub near_canonical : AreCanonical me.number me.term (Accept e) → AreCanonical near.number near.term (Accept e)
  near_canonical all = canonical_near me near e roomier all

  pub near_term : e.term ≡ me.term → e.term ≡ near.term
  near_term is = is ∙ sym (ap (λ (m : Running). m.term) roomier.is)

  pub near_base : near.log.base ≡ me.log.base
  near_base = ap (λ (m : Running). m.log.base) roomier.is

  pub near_low : (l : LeaderHere) → me.role ≡ ServingHere l → l.next ≤ far → LeaderIsLow near.role
  near_low l serves low = λ k there.
      let more = near_serves me near roomier l serves in
      let same : k ≡ more.0 = own_leader k more.0 (sym there ∙ more.1) in
      let next : k.next ≡ more.0.next = ap (λ (y : LeaderHere). y.next) same in
      omega (arith, next, more.2, low)

-- the plan is the rule's, and nothing but room refuses it
module _ (me : Running) (op : Op) (e : Entry) (p : IsSubmitPlan me op e) (d : Durable) (cached : IsCached d me) where
  pub plan_outcome : entry_proposed (server_of d me) (leader_in_memory p.leader) e ≡ on_submit (setup_of me) (server_of d me) op (server_of d me).role
  plan_outcome = sym (submission d me cached op p.leader e p.may p.is)

  pub plan_refusal : (out : Outgoing) → room_refusal out (entry_proposed (server_of d me) (leader_in_memory p.leader) e) ≡ submit_refusal (setup_of me) out op (server_of d me)
  unfolding submit_refusal
  plan_refusal out = ap (room_refusal out) plan_outcome ∙ sym (none_refused d me cached op p.leader p.may (room_refusal out (on_submit (setup_of me) (server_of d me) op (server_of d me).role)))

-- there is no plan
module _ {S : Type 0} (model : StoreModel S) (d : Durable) (store : S) (me : Running) (out : Outgoing) (stands : Stands model d store me) (op : Op) (o : Outcome) where
  unplanned_by : (e : StepFault) → PlansEntry me op (Err e) → Steps model d store me out store me out (submit_refusal (setup_of me) out op (server_of d me)) o (Err e)
  unfolding submit_refusal
  unplanned_by NoMemory s = untouched model d store me out out stands
  unplanned_by (Refused refusal) s =
      let rest = room_refusal out (on_submit (setup_of me) (server_of d me) op (server_of d me).role) in
      record { judged_so = sym (same_refusal d me stands.cached op rest) ∙ s rest; untouched = untouched model d store me out out stands }
  unplanned_by Halted s = absurd s

  pub unplanned : (e : StepFault) (r : Result Entry StepFault) (r2 : Result Answer StepFault) → PlansEntry me op r → r ≡ Err e → (e2 : StepFault) × (r2 ≡ Err e2) × (e2 ≡ e)
      → Steps model d store me out store me out (submit_refusal (setup_of me) out op (server_of d me)) o r2
  unplanned e r r2 plans is (e2, is2, same) =
      subst (Steps model d store me out store me out (submit_refusal (setup_of me) out op (server_of d me)) o) (sym (is2 ∙ ap Err same)) (unplanned_by e (subst (PlansEntry me op) is plans))

-- the same proposal
pub proposed_near : (s z : Server) (l k : Leader) (e : Entry) → s ≡ z → l ≡ k → entry_proposed s l e ≡ entry_proposed z k e
proposed_near s z l k e is same = λ i. entry_proposed (is i) (same i) e
