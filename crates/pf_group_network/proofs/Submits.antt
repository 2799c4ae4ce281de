-- A submission as the turn of a server.
use Rattle.std.proofs.Common.{◌≡◌, ℕ, ◌+◌, ◌<◌, Bool, true, false, not, ◌&&◌, ◌==◌, if◌then◌else◌, [], Option, None, nat_lt, refl, sym, ap, ◌∙◌}
use Rattle.std.proofs.lemmas.Bool.{true≢false}
use Rattle.pf_base.specs.Span.{fits_in}
use Rattle.pf_entry.specs.Ops.{range_of}
use Rattle.pf_entry.specs.declared.ops.Op.{Op}
use Rattle.pf_protocol.specs.declared.answers.Answer.TheVariants.{Slot, Refused}
use Rattle.pf_protocol.specs.declared.answers.Refusal.{Refusal}
use Rattle.pf_protocol.specs.declared.answers.Refusal.TheVariants.{BadRange, NotLeader, WindowFull, OldFormat}
use Rattle.pf_entry.specs.declared.packets.Body.TheVariants.{Accept}
use Rattle.pf_protocol.specs.declared.events.Event.TheVariants.{Submit}
use Rattle.pf_protocol.specs.Servers.{Setup, Role, Follower, Candidate, Merging, Serving, Server}
use Rattle.pf_protocol.specs.Outcomes.{Outcome, only_answers, to_others}
use Rattle.pf_protocol.specs.Leading.{new_entry, on_submit, submitted}
use Rattle.pf_protocol.specs.Groups.{Group, Whole, ending, happens, reads_after}
use Rattle.pf_protocol.specs.Histories.{RunsAs}
use Rattle.pf_protocol.specs.Answers.{IsSubmitted, answer_to, is_mark, is_serving, may_halt, refuse, room_refusal as group_room_refusal, submit_refusal as group_submit_refusal, submit_turn, window_full}
use Rattle.pf_group_network.specs.Pasts.{GroupPast, PastIsShort, IsViablePast}
use Rattle.pf_protocol.proofs.ForRows.{submit_asks}
use Rattle.pf_group_network.proofs.Laws.{viable_asks}
use Rattle.pf_entry.proofs.Cases.{by_test}
use Rattle.pf_protocol.proofs.ForRows.{refuse_none, submit_silent}
use Rattle.pf_server_memory.specs.Outgoing.{Outgoing}
use Rattle.pf_server_memory.specs.Standing.{room_refusal}
use Rattle.pf_server_leader.specs.Submitting.{refused_first, submit_refusal}
use Rattle.pf_server_restart.specs.Beginning.{setup_of_seat}
use Rattle.pf_server_restart.specs.declared.seat.Seat.{Seat}
use Rattle.pf_group_network.specs.Showing.{seat_of}
use Rattle.pf_group_network.specs.Turned.{IsTurnOf}
use Rattle.pf_group_network.proofs.Events.{IsTurnEvent, turn_canonical}
use Rattle.pf_group_network.proofs.Plain.{IsTurnAs}
use Rattle.pf_group_network.proofs.Rules.{below_after, leaves_all, packets_fit, same_setup}

-- nothing in the rule depends on which servers could not be formatted
same_rule : (setup : Setup) (s : Server) (op : Op) (role : Role) → on_submit (record setup { failed = [] }) s op role ≡ on_submit setup s op role
unfolding on_submit
same_rule setup s op Follower = refl
same_rule setup s op (Candidate own) = refl
same_rule setup s op (Merging l) = refl
same_rule setup s op (Serving l) = refl

same_window : (setup : Setup) (s : Server) (role : Role) → window_full (record setup { failed = [] }) s role ≡ window_full setup s role
same_window setup s Follower = refl
same_window setup s (Candidate own) = refl
same_window setup s (Merging l) = refl
same_window setup s (Serving l) = refl

module _ (setup : Setup) (i : ℕ) (window : setup.window ≡ 4096) (op : Op) (s : Server) where
  pub submit_rule : on_submit (setup_of_seat (seat_of setup i)) s op s.role ≡ on_submit setup s op s.role
  submit_rule = same_setup (λ z. on_submit z s op s.role) setup i window ∙ same_rule setup s op s.role

  pub submit_judged : (g : Group) (out : Outgoing) → ((o : Outcome) → room_refusal out o ≡ group_room_refusal g o) → submit_refusal (setup_of_seat (seat_of setup i)) out op s ≡ group_submit_refusal setup g op s
  unfolding submit_refusal refused_first group_submit_refusal
  submit_judged g out room =
      same_setup (λ z. submit_refusal z out op s) setup i window
      ∙ ap (λ (full : Bool). refuse (is_mark op && setup.format == 1) OldFormat (refuse (not (fits_in (range_of op) setup.chunk)) BadRange (refuse (not (is_serving s.role)) NotLeader (refuse full WindowFull (room_refusal out (on_submit (record setup { failed = [] }) s op s.role)))))) (same_window setup s s.role)
      ∙ ap (λ (rest : Option Refusal). refuse (is_mark op && setup.format == 1) OldFormat (refuse (not (fits_in (range_of op) setup.chunk)) BadRange (refuse (not (is_serving s.role)) NotLeader (refuse (window_full setup s s.role) WindowFull rest))))
      (ap (room_refusal out) (same_rule setup s op s.role) ∙ room (on_submit setup s op s.role))

-- nothing but room refuses it
record MayGo (setup : Setup) (g : Group) (op : Op) (s : Server) : Type 0 where
  serves : is_serving s.role ≡ true
  within : window_full setup s s.role ≡ false
  room : group_room_refusal g (on_submit setup s op s.role) ≡ None

not_false : (b : Bool) → not b ≡ false → b ≡ true
not_false true is = refl
not_false false is = absurd (true≢false is)

may_go : (setup : Setup) (g : Group) (op : Op) (s : Server) → group_submit_refusal setup g op s ≡ None → MayGo setup g op s
unfolding group_submit_refusal
may_go setup g op s none =
    let first = refuse_none (is_mark op && setup.format == 1) OldFormat _ none in
    let second = refuse_none (not (fits_in (range_of op) setup.chunk)) BadRange _ first.1 in
    let third = refuse_none (not (is_serving s.role)) NotLeader _ second.1 in
    let fourth = refuse_none (window_full setup s s.role) WindowFull _ third.1 in
    record { serves = not_false (is_serving s.role) third.0; within = fourth.0; room = fourth.1 }

goes_whole : (setup : Setup) (op : Op) (s : Server) (role : Role) → is_serving role ≡ true → window_full setup s role ≡ false → ending (on_submit setup s op role).answer ≡ Whole
unfolding on_submit
goes_whole setup op s Follower serves within = absurd (true≢false (sym serves))
goes_whole setup op s (Candidate own) serves within = absurd (true≢false (sym serves))
goes_whole setup op s (Merging l) serves within = absurd (true≢false (sym serves))
goes_whole setup op s (Serving l) serves within =
    by_test (nat_lt (s.durable.base + setup.window) l.next) (λ c. ending (if c then only_answers s (Refused WindowFull) else record { server = submitted s l (new_entry setup.names s l op); packets = to_others s (Accept (new_entry setup.names s l op)); answer = Slot l.next; acked = None }).answer ≡ Whole)
    (λ full. absurd (true≢false (sym full ∙ within))) (λ _. refl)

-- a submission is the turn of its server
pub submit_event : (setup : Setup) (g : Group) (i : ℕ) (op : Op) → IsTurnEvent setup g (Submit i op) i (submit_turn setup g op) (λ how. g)
unfolding answer_to may_halt happens
submit_event setup g i op = record { answers = refl; halts = λ is. is; goes = λ how. refl; servers = λ how. refl; acts = refl; loud = refl }

pub submit_known : (setup : Setup) (past : GroupPast) → IsViablePast setup past → PastIsShort past → (i : ℕ) (op : Op) → i < 3 → IsSubmitted op → (s : Server) → RunsAs past.group i s → IsTurnOf past.group (submit_turn setup past.group op) s
submit_known setup past viable short i op low submitted_so s at =
    let g = past.group in
    let turn = submit_turn setup g op in
    let whole : turn.refusal s ≡ None → ending (turn.rule s).answer ≡ Whole = λ none. (let m = may_go setup g op s none in goes_whole setup op s s.role m.serves m.within) in
    record {
      leaves = leaves_all (turn.refusal s) (submit_silent setup g op s);
      whole = whole;
      fits = λ none. packets_fit g (on_submit setup s op s.role) (may_go setup g op s none).room;
      below = λ none. below_after g.reads (turn.rule s).answer (turn.rule s).server.reads (submit_asks setup setup.chunk g.reads s (viable_asks setup past viable i s at) op).below;
      canonical = λ none. turn_canonical setup past viable short (Submit i op) i turn (λ how. g) (submit_event setup g i op) (low, submitted_so) s at none (whole none);
    }

plain_answer : (setup : Setup) (reads : ℕ) (op : Op) (s : Server) (role : Role) → reads_after reads (on_submit setup s op role).answer ≡ reads
unfolding on_submit
plain_answer setup reads op s Follower = refl
plain_answer setup reads op s (Candidate own) = refl
plain_answer setup reads op s (Merging l) = refl
plain_answer setup reads op s (Serving l) =
    by_test (nat_lt (s.durable.base + setup.window) l.next) (λ c. reads_after reads (if c then only_answers s (Refused WindowFull) else record { server = submitted s l (new_entry setup.names s l op); packets = to_others s (Accept (new_entry setup.names s l op)); answer = Slot l.next; acked = None }).answer ≡ reads)
    (λ _. refl) (λ _. refl)

pub submits : (setup : Setup) (past : GroupPast) → IsViablePast setup past → PastIsShort past → (i : ℕ) (op : Op) → i < 3 → IsSubmitted op → (out : Outgoing) → ((o : Outcome) → room_refusal out o ≡ group_room_refusal past.group o) → (seat : Seat) → seat ≡ seat_of setup i
    → IsTurnAs setup past (Submit i op) i (submit_turn setup past.group op) (λ how. past.group) (submit_refusal (setup_of_seat seat) out op) (λ s. on_submit (setup_of_seat seat) s op s.role)
submits setup past viable short i op low submitted_so out room seat its = record {
  event_is = submit_event setup past.group i op;
  same_judged = λ s. ap (λ x. submit_refusal (setup_of_seat x) out op s) its ∙ submit_judged setup i viable.is_setup.window op s past.group out room;
  same_rule = λ s. ap (λ x. on_submit (setup_of_seat x) s op s.role) its ∙ submit_rule setup i viable.is_setup.window op s;
  knows = submit_known setup past viable short i op low submitted_so;
  plain = λ s. plain_answer setup past.group.reads op s s.role;
}
