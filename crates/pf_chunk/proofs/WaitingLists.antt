-- How a list of the reads that may wait, each with its server and term, is kept.
use Rattle.std.proofs.Common.{◌≡◌, ◌≢◌, ℕ, inl, inr, Some, slice_get, arith, sym, ap, subst, ◌∙◌}
use Rattle.pf_base.specs.Span.{Span}
use Rattle.pf_entry.proofs.Lists.{set_there}
use Rattle.pf_protocol.specs.declared.answers.Answer.{Answer}
use Rattle.pf_protocol.specs.declared.answers.Answer.TheVariants.{Read as ReadIs}
use Rattle.pf_protocol.specs.declared.events.Event.{Event}
use Rattle.pf_protocol.specs.declared.events.Event.TheVariants.{Fetch}
use Rattle.pf_protocol.specs.Servers.{Setup, Server, Running}
use Rattle.pf_protocol.specs.Rows.{settled}
use Rattle.pf_protocol.specs.Groups.{Group, ending, happens}
use Rattle.pf_protocol.specs.Histories.{RunsAs}
use Rattle.pf_protocol.specs.Answers.{IsAnswer}
use Rattle.pf_chunk.specs.Waiting.{IsAnsweredIn, ReadsWaitOnce, StepsReads, ReadsGoOn, IsDropped, MayWait}
use Rattle.pf_chunk.proofs.ReadNumbers.{rule_number}
use Rattle.pf_chunk.proofs.EventEffects.{Went, Acts, Rests, went}
use Rattle.pf_chunk.proofs.WaitingSteps.{reads_are}

-- it stays so until it is answered
pub stays_so : (g after : Group) → ReadsGoOn g after → (i t n : ℕ) → MayWait g i t n → (IsAnsweredIn after n → ⊥) → MayWait after i t n
stays_so g after go i t n m none = record {
  taken_up = omega (arith, m.taken_up, go.reads);
  unanswered = none;
  only = λ j u x. m.only j u (go.waiting j u n m.taken_up x);
}

-- or until its server does not run in its term, after which no answer comes
pub forgotten : (g : Group) (i t n : ℕ) → MayWait g i t n → ((s : Server) → RunsAs g i s → s.durable.term ≢ t) → IsDropped g n
forgotten g i t n m gone = record {
  taken_up = m.taken_up;
  nowhere = λ x.
      let y = x.there in
      let at = m.only x.server x.term y in
      gone y.server (subst (λ k. RunsAs g k y.server) at.0 y.runs) (y.in_term ∙ at.1);
  unanswered = m.unanswered;
}

-- an event that answers with a read's number is a Fetch, and its server runs on
pub record TakenUp (g : Group) (event : Event) (after : Group) (n : ℕ) : Type 0 where
  pub server : ℕ
  pub range : Span
  pub fetched : event ≡ Fetch server range
  pub before : Server
  pub ran : RunsAs g server before
  pub now : Server
  pub runs : RunsAs after server now
  pub numbered : n ≡ g.reads

pub taken_up : (setup : Setup) (g : Group) (event : Event) (answer : Answer) → IsAnswer setup g event answer → (n : ℕ) → answer ≡ ReadIs n → TakenUp g event (happens setup g event (ending answer)) n
taken_up setup g event answer is n told = by_way (went setup g event answer is)
  where
    by_way : Went setup g event answer (happens setup g event (ending answer)) → TakenUp g event (happens setup g event (ending answer)) n
    by_way (Acts i s o a) =
        let fetch = rule_number setup g i s event o a.rule n (sym a.told ∙ told) in
        record {
          server = i;
          range = fetch.0;
          fetched = fetch.1;
          before = s;
          ran = a.runs;
          now = settled o.server;
          runs = ap (λ x. slice_get x i) a.servers ∙ set_there g.servers i (Running s) (Running (settled o.server)) a.runs;
          numbered = fetch.2;
        }
    by_way (Rests r none) = absurd (none n told)

same_fetch : (i j : ℕ) (a b : Span) → Fetch i a ≡ Fetch j b → i ≡ j
same_fetch i j a b e = cc

same_state : (x y : Server) → Some (Running x) ≡ Some (Running y) → x ≡ y
same_state x y e = cc

-- a read that is taken up is of the list, with the term in which its server runs then
pub taken_so : (g : Group) (i : ℕ) (range : Span) (answer : Answer) (after : Group) → ReadsWaitOnce g → StepsReads g (Fetch i range) answer after → (n : ℕ) → answer ≡ ReadIs n → (z : Server) → RunsAs after i z → MayWait after i z.durable.term n
taken_so g i range answer after w h n told z runs = record {
  taken_up = omega (arith, is_next, h.reads, reads_are g.reads answer n told);
  unanswered = λ x. elim (h.answered n x) [
    | inl old ↦ omega (arith, is_next, w.answered_below n old)
    | inr waits ↦ omega (arith, is_next, w.waiting_below waits.server waits.term n waits.there)
  ];
  only = λ j u x. elim (h.waiting j u n x) [
    | inl old ↦ absurd (omega (arith, is_next, w.waiting_below j u n old))
    | inr took ↦
        let here : j ≡ i = sym (same_fetch i j range took.range took.fetched) in
        (here, sym x.in_term ∙ ap (λ s. s.durable.term) (same_state x.server z (sym x.runs ∙ ap (slice_get after.servers) here ∙ runs)))
  ];
}
  where
    is_next : n ≡ g.reads
    is_next = h.next n told
