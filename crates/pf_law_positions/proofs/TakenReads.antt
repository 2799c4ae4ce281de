-- Where a fetch of a legal history is answered with a number, it took up the read of this number.
use Rattle.std.proofs.Common.{◌≡◌, ℕ, zero, suc, inl, inr, List, [], ◌∷◌, ◌++◌, take, Option, Some, None, slice_get, refl, sym, ap, subst, ◌∙◌}
use Rattle.std.proofs.lemmas.Option.{same_Some, none-some}
use Rattle.std.proofs.lemmas.List.{append_assoc}
use Rattle.pf_base.specs.Span.{Span}
use Rattle.pf_protocol.specs.declared.answers.Answer.TheVariants.{Read as ReadIs, Slot as SlotIs, Refused}
use Rattle.pf_protocol.specs.declared.answers.Refusal.{Refusal}
use Rattle.pf_protocol.specs.declared.answers.Refusal.TheVariants.{NotLeader, Down, Halted}
use Rattle.pf_protocol.specs.declared.events.Event.TheVariants.{Fetch}
use Rattle.pf_protocol.specs.declared.events.Happening.{Happening}
use Rattle.pf_protocol.specs.Servers.{Setup, Role, Follower, Candidate, Merging, Serving, Server, Condition, Running, Stopped, Unformatted}
use Rattle.pf_protocol.specs.Leading.{on_fetch}
use Rattle.pf_protocol.specs.Groups.{Group, Whole, TookPlace, ending, Answered, reads_after, acted, server_step_of, happens, opening}
use Rattle.pf_protocol.specs.Histories.{History, replay, RunsAs, IsPrefix}
use Rattle.pf_protocol.specs.Answers.{answer_at, answer_by, fetch_turn, fetch_refusal, answer_to, IsAnswer, IsLegalFrom, IsLegal}
use Rattle.pf_protocol.specs.Ports.{Submission, submitting, IsTarget, SubmissionIsAnswered}
use Rattle.pf_protocol.specs.Fresh.{IsFetch}
use Rattle.pf_protocol.proofs.ForMoments.{replay_goes_on, legal_at}
use Rattle.pf_protocol.proofs.ForHistories.{fresh}
use Rattle.pf_protocol.proofs.ForPorts.{given_slot}
use Rattle.pf_law_registers.proofs.Fetches.{same_fetch}

number_apart : (number : ℕ) (refusal : Refusal) → ReadIs number ≡ Refused refusal → ⊥
number_apart number refusal e = cc

same_number : (a b : ℕ) → ReadIs a ≡ ReadIs b → a ≡ b
same_number a b e = cc

module _ (setup : Setup) (g : Group) (i number : ℕ) (range : Span) where
  -- the server serves, and the number is the next one
  record TakesUp : Type 0 where
    server : Server
    runs : RunsAs g i server
    is_next : number ≡ g.reads
    takes : (on_fetch server range g.reads server.role).answer ≡ ReadIs g.reads

  by_role : (s : Server) → RunsAs g i s → (role : Role) → s.role ≡ role → ReadIs number ≡ (on_fetch s range g.reads role).answer → TakesUp
  unfolding on_fetch
  by_role s runs Follower is answer = absurd (number_apart number NotLeader answer)
  by_role s runs (Candidate own) is answer = absurd (number_apart number NotLeader answer)
  by_role s runs (Merging l) is answer = absurd (number_apart number NotLeader answer)
  by_role s runs (Serving l) is answer = record { server = s; runs = runs; is_next = same_number number g.reads answer; takes = ap (λ r. (on_fetch s range g.reads r).answer) is }

  by_refusal : (s : Server) → RunsAs g i s → (r : Option Refusal) → ReadIs number ≡ answer_by r (on_fetch s range g.reads s.role).answer → TakesUp
  by_refusal s runs None answer = by_role s runs s.role refl answer
  by_refusal s runs (Some refusal) answer = absurd (number_apart number refusal answer)

  by_condition : (c : Option Condition) → slice_get g.servers i ≡ c → ReadIs number ≡ answer_at c (fetch_turn setup g range) → TakesUp
  by_condition (Some (Running s)) is answer = by_refusal s is (fetch_refusal setup g range s) answer
  by_condition (Some (Stopped life before after)) is answer = absurd (number_apart number Down answer)
  by_condition (Some Unformatted) is answer = absurd (number_apart number Down answer)
  by_condition None is answer = absurd (number_apart number Down answer)

  takes_up : IsAnswer setup g (Fetch i range) (ReadIs number) → TakesUp
  unfolding answer_to
  takes_up answer = elim answer [
    | inl is ↦ by_condition (slice_get g.servers i) refl is
    | inr halted ↦ absurd (number_apart number Halted halted.1)
  ]

  counts : (t : TakesUp) → (happens setup g (Fetch i range) Whole).reads ≡ suc number
  unfolding happens acted
  counts t =
      ap (λ c. (server_step_of Whole g i c (λ z. on_fetch z range g.reads z.role)).reads) t.runs
      ∙ ap (reads_after g.reads) t.takes ∙ ap suc (sym t.is_next)

split_at : {X : Type 0} → (xs : List X) (n : ℕ) (x : X) → slice_get xs n ≡ Some x → (rest : List X) × (take n xs ++ x ∷ rest ≡ xs)
split_at [] n x at = absurd (none-some x at)
split_at (y ∷ ys) zero x at = (ys, ap (λ z. z ∷ ys) (sym (same_Some y x at)))
split_at (y ∷ ys) (suc n) x at = let r = split_at ys n x at in (r.0, ap (λ zs. y ∷ zs) r.1)

pub taken_up : (setup : Setup) (history : History) (place i number : ℕ) (range : Span) → IsLegal setup history → slice_get history place ≡ Some (record { event = Fetch i range; answer = ReadIs number }) → IsFetch setup history number i range (take place history)
taken_up setup history place i number range legal at =
    let h : Happening = record { event = Fetch i range; answer = ReadIs number } in
    let parts = split_at history place (record { event = Fetch i range; answer = ReadIs number }) at in
    let answer = legal_at setup (opening setup) [] (take place history) (record { event = Fetch i range; answer = ReadIs number }) parts.0 (subst (IsLegalFrom setup (opening setup) []) (sym parts.1) legal.legal) in
    let t = takes_up setup (replay setup (take place history)) i number range answer in
    record {
      fetch = record { event = Fetch i range; answer = ReadIs number };
      is_part = record { rest = parts.0; whole = append_assoc (take place history) (record { event = Fetch i range; answer = ReadIs number } ∷ []) parts.0 ∙ parts.1 };
      event = refl;
      is_next = t.is_next;
      counts = ap (λ g. g.reads) (replay_goes_on setup (take place history) (record { event = Fetch i range; answer = ReadIs number })) ∙ counts setup (replay setup (take place history)) i number range t;
    }

same_next : {X : Type 0} → (a : List X) (x y : X) (r s : List X) → a ++ x ∷ r ≡ a ++ y ∷ s → x ≡ y
same_next [] x y r s is = cc
same_next (z ∷ zs) x y r s is =
    let p : z ∷ (zs ++ x ∷ r) ≡ z ∷ (zs ++ y ∷ s) = is in
    let tail : zs ++ x ∷ r ≡ zs ++ y ∷ s = cc in
    same_next zs x y r s tail

-- an answered read of this number is the one that was taken up there, of this range
pub record IsTakenUp (setup : Setup) (history : History) (place : ℕ) (range : Span) (a : Answered) : Type 0 where
  pub took_up : IsFetch setup history a.number a.server a.range (take place history)
  pub same_range : a.range ≡ range

pub answered_taken_up : (setup : Setup) (history : History) (place i k : ℕ) (range : Span) (a : Answered) → IsLegal setup history → slice_get history place ≡ Some (record { event = Fetch i range; answer = ReadIs a.number }) → slice_get (replay setup history).answered k ≡ Some a → IsTakenUp setup history place range a
answered_taken_up setup history place i k range a legal at there =
    let own = taken_up setup history place i a.number range legal at in
    let f = fresh setup history k a there in
    let same = same_fetch setup history a.number a.server i a.range range f.before (take place history) f.fetched own in
    let its = subst (λ z. IsFetch setup history a.number a.server a.range z) same f.fetched in
    let one = same_next (take place history) its.fetch own.fetch its.is_part.rest own.is_part.rest
    (sym (append_assoc (take place history) (its.fetch ∷ []) its.is_part.rest) ∙ its.is_part.whole ∙ sym own.is_part.whole ∙ append_assoc (take place history) (own.fetch ∷ []) own.is_part.rest) in
    let events : Fetch a.server a.range ≡ Fetch i range = sym its.event ∙ ap (λ (h : Happening). h.event) one ∙ own.event in
    record { took_up = its; same_range = cc }

same_slot : (a b : ℕ) → SlotIs a ≡ SlotIs b → a ≡ b
same_slot a b e = cc

-- it is answered, by the acknowledgement of this slot
pub record IsSlotAcked (setup : Setup) (now : History) (a : Submission) (slot : ℕ) : Type 0 where
  pub answered : SubmissionIsAnswered setup now a
  pub in_slot : answered.acked.slot ≡ slot

-- a submission that was answered with a slot is answered once the leader of its term acknowledged the slot
pub slot_acked : (setup : Setup) (history now : History) (a : Submission) (slot term n : ℕ) → IsLegal setup history → IsPrefix (a.before ++ submitting a ∷ []) history → a.answer ≡ SlotIs slot → ((x : IsTarget setup a) → x.server.durable.term ≡ term) → slice_get (replay setup now).acked n ≡ Some (record { term = term; slot = slot }) → IsSlotAcked setup now a slot
slot_acked setup history now a slot term n legal made answer in_term acked =
    let t = given_slot setup history a legal made (ap ending answer) in
    record {
      answered = record {
        target = record { server = t.server; leader = t.leader; runs = t.runs; serves = t.serves };
        took_place = subst (λ z. TookPlace (ending z)) (sym answer) tt;
        k = n;
        acked = record { term = term; slot = slot };
        at = acked;
        in_term = sym (in_term (record { server = t.server; leader = t.leader; runs = t.runs; serves = t.serves }));
        in_slot = same_slot slot t.leader.next (sym answer ∙ t.gives);
      };
      in_slot = refl;
    }
