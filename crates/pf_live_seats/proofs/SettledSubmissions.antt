-- A submission is refused, or gets a slot.
use Rattle.std.proofs.Common.{◌≡◌, ℕ, ◌+◌, inl, inr, Bool, true, false, cond, nat_lt, Option, None, Some, Result, Ok, Err, slice_get, refl, sym, subst}
use Rattle.pf_entry.specs.declared.ops.Op.{Op}
use Rattle.pf_entry.specs.declared.packets.Body.TheVariants.{Accept}
use Rattle.pf_protocol.specs.Servers.{Condition, Running, Stopped, Unformatted, Role, Follower, Candidate, Merging, Serving, Server, Setup}
use Rattle.pf_protocol.specs.Leading.{new_entry, on_submit, submitted}
use Rattle.pf_protocol.specs.Outcomes.{Outcome, only_answers, to_others}
use Rattle.pf_protocol.specs.Groups.{Group}
use Rattle.pf_protocol.specs.Answers.{IsAnswer, answer_at, answer_by, answer_to, submit_turn}
use Rattle.pf_protocol.specs.declared.answers.Answer.{Answer}
use Rattle.pf_protocol.specs.declared.answers.Answer.TheVariants.{Refused, Slot as SlotIs}
use Rattle.pf_protocol.specs.declared.answers.Refusal.{Refusal}
use Rattle.pf_protocol.specs.declared.answers.Refusal.TheVariants.{Down as IsDown, Halted, NotLeader, WindowFull}
use Rattle.pf_protocol.specs.declared.events.Event.TheVariants.{Submit}
use Rattle.pf_shared.specs.pf_group.specs.declared.errors.Down.{Down}
use Rattle.pf_shared.specs.pf_group.specs.Readers.{ServerTells}
use Rattle.pf_rings.specs.declared.view.Request.{Request}
use Rattle.pf_live_seats.specs.Submitters.{IsSettledBy, standing_after}

module _ (request : Request) where
  -- what a server answers that told its term, or does not run
  abbrev IsTold : Result ℕ Down → Answer → Type 0
  IsTold told answer = IsSettledBy answer (standing_after told answer request)

  unless_refused : (term : ℕ) (refusal : Option Refusal) (answer : Answer) → IsTold (Ok term) answer → IsTold (Ok term) (answer_by refusal answer)
  unless_refused term None answer is = is
  unless_refused term (Some refusal) answer is = inl (refusal, refl)

  one_of : (term : ℕ) (b : Bool) (x y : Outcome) → IsTold (Ok term) x.answer → IsTold (Ok term) y.answer → IsTold (Ok term) (cond b x y).answer
  one_of term true x y p q = p
  one_of term false x y p q = q

  by_role : (setup : Setup) (s : Server) (op : Op) (term : ℕ) (role : Role) → IsTold (Ok term) (on_submit setup s op role).answer
  unfolding on_submit
  by_role setup s op term (Serving l) = let e = new_entry setup.names s l op in
      one_of term (nat_lt (s.durable.base + setup.window) l.next) (only_answers s (Refused WindowFull)) (record { server = submitted s l e; packets = to_others s (Accept e); answer = SlotIs l.next; acked = None }) (inl (WindowFull, refl)) (inr (term, l.next, request, refl))
  by_role setup s op term Follower = inl (NotLeader, refl)
  by_role setup s op term (Candidate own) = inl (NotLeader, refl)
  by_role setup s op term (Merging l) = inl (NotLeader, refl)

  module _ (setup : Setup) (g : Group) (server : ℕ) (op : Op) where
    where_down : (down : Down) (c : Option Condition) → ((s : Server) → c ≡ Some (Running s) → ⊥) → IsTold (Err down) (answer_at c (submit_turn setup g op))
    where_down down None none = inl (IsDown, refl)
    where_down down (Some (Running s)) none = absurd (none s refl)
    where_down down (Some (Stopped life before after)) none = inl (IsDown, refl)
    where_down down (Some Unformatted) none = inl (IsDown, refl)

    by_server : (told : Result ℕ Down) → ServerTells g server told (λ term s. term ≡ s.durable.term) → IsTold told (answer_at (slice_get g.servers server) (submit_turn setup g op))
    by_server (Ok term) t = let s = t.0 in subst (λ c. IsTold (Ok term) (answer_at c (submit_turn setup g op))) (sym t.1) (unless_refused term ((submit_turn setup g op).refusal s) ((submit_turn setup g op).rule s).answer (by_role setup s op term s.role))
    by_server (Err down) t = where_down down (slice_get g.servers server) t

    pub settled : (told : Result ℕ Down) (answer : Answer) → ServerTells g server told (λ term s. term ≡ s.durable.term) → IsAnswer setup g (Submit server op) answer → IsTold told answer
    unfolding answer_to
    settled told answer t (inl is) = subst (IsTold told) (sym is) (by_server told t)
    settled told answer t (inr halted) = inl (Halted, halted.1)
