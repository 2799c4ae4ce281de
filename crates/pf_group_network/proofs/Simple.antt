-- Turns that only want of room refuses.
use Rattle.std.proofs.Common.{◌≡◌, ℕ, ◌<◌, true, false, not, ◌&&◌, ◌==◌, ◌||◌, if◌then◌else◌, Option, Some, None, is_none, slice_get, refl, sym, ap, ◌∙◌}
use Rattle.std.proofs.lemmas.Bool.{eq-eqb, and_parts}
use Rattle.pf_entry.specs.Records.{Durable}
use Rattle.pf_protocol.specs.declared.answers.Answer.TheVariants.{Base}
use Rattle.pf_protocol.specs.declared.events.Event.{Event}
use Rattle.pf_protocol.specs.declared.events.Event.TheVariants.{Checkpoint, Resend}
use Rattle.pf_protocol.specs.Servers.{Setup, Role, Follower, Candidate, Merging, Serving, Server, Condition, Running, Stopped, Unformatted, upto}
use Rattle.pf_protocol.specs.Outcomes.{Outcome, only_answers}
use Rattle.pf_protocol.specs.Leading.{on_resend}
use Rattle.pf_protocol.specs.Saving.{is_short_of, on_checkpoint, trimmed}
use Rattle.pf_protocol.specs.Asked.{Asks}
use Rattle.pf_protocol.specs.Groups.{Group, Whole, ending, happens, reads_after}
use Rattle.pf_protocol.specs.Histories.{RunsAs}
use Rattle.pf_protocol.specs.Answers.{MayHappen, ServerTurn, answer_to, can_halt, has_stored, may_halt, plain_turn, room_refusal as group_room_refusal}
use Rattle.pf_group_network.specs.Pasts.{GroupPast, PastIsShort, IsViablePast}
use Rattle.pf_protocol.proofs.ForRows.{checkpoint_asks, resend_asks}
use Rattle.pf_group_network.proofs.Laws.{viable_asks}
use Rattle.pf_entry.proofs.Cases.{by_test}
use Rattle.pf_protocol.proofs.ForRows.{room_silent}
use Rattle.pf_server_memory.specs.Outgoing.{Outgoing}
use Rattle.pf_server_memory.specs.Standing.{room_refusal}
use Rattle.pf_group_network.specs.Turned.{IsTurnOf}
use Rattle.pf_group_network.proofs.Events.{IsTurnEvent, turn_canonical}
use Rattle.pf_group_network.proofs.Plain.{IsTurnAs}
use Rattle.pf_group_network.proofs.Rules.{below_after, leaves_all, packets_fit}

pub nothing_stored : (d : Durable) → has_stored d d ≡ false
nothing_stored d = ap (λ b. not (b && d.generation == d.generation)) (eq-eqb d.used d.used refl) ∙ ap (λ b. not (true && b)) (eq-eqb d.generation d.generation refl)

-- a turn that stores nothing cannot halt
pub never_halts : (turn : ServerTurn) → ((s : Server) → (turn.rule s).server.durable ≡ s.durable) → (c : Option Condition) → can_halt c turn ≡ true → false ≡ true
never_halts turn same (Some (Running s)) is =
    let stores = (and_parts (is_none (turn.refusal s)) (has_stored s.durable (turn.rule s).server.durable) is).1 in
    sym (nothing_stored s.durable) ∙ ap (has_stored s.durable) (sym (same s)) ∙ stores
never_halts turn same (Some (Stopped life before after)) is = is
never_halts turn same (Some Unformatted) is = is
never_halts turn same None is = is

module _ (setup : Setup) (past : GroupPast) (viable : IsViablePast setup past) (short : PastIsShort past) (i : ℕ) (event : Event) (rule : Server → Outcome) (event_is : IsTurnEvent setup past.group event i (plain_turn past.group rule) (λ how. past.group)) (asked : MayHappen past.claims event) (whole : (s : Server) → ending (rule s).answer ≡ Whole) (quiet : (s : Server) (reads : ℕ) → reads_after reads (rule s).answer ≡ reads) (asks : (s : Server) → Asks setup.chunk past.group.reads s → Asks setup.chunk past.group.reads (rule s).server) where
  pub simple_known : (s : Server) → RunsAs past.group i s → IsTurnOf past.group (plain_turn past.group rule) s
  simple_known s at = record {
    leaves = leaves_all (group_room_refusal past.group (rule s)) (room_silent past.group (rule s));
    whole = λ none. whole s;
    fits = λ none. packets_fit past.group (rule s) none;
    below = λ none. below_after past.group.reads (rule s).answer (rule s).server.reads (asks s (viable_asks setup past viable i s at)).below;
    canonical = λ none. turn_canonical setup past viable short event i (plain_turn past.group rule) (λ how. past.group) event_is asked s at none (whole s);
  }

  pub simple_turn : (out : Outgoing) → ((o : Outcome) → room_refusal out o ≡ group_room_refusal past.group o) → IsTurnAs setup past event i (plain_turn past.group rule) (λ how. past.group) (λ s. room_refusal out (rule s)) rule
  simple_turn out room = record {
    event_is = event_is;
    same_judged = λ s. room (rule s);
    same_rule = λ s. refl;
    knows = simple_known;
    plain = λ s. quiet s past.group.reads;
  }

-- Resend

resent_whole : (s : Server) (role : Role) → ending (on_resend s role).answer ≡ Whole
unfolding on_resend
resent_whole s Follower = refl
resent_whole s (Candidate own) = refl
resent_whole s (Merging l) = refl
resent_whole s (Serving l) = refl

resent_quiet : (s : Server) (role : Role) (reads : ℕ) → reads_after reads (on_resend s role).answer ≡ reads
unfolding on_resend
resent_quiet s Follower reads = refl
resent_quiet s (Candidate own) reads = refl
resent_quiet s (Merging l) reads = refl
resent_quiet s (Serving l) reads = refl

resent_disk : (s : Server) (role : Role) → (on_resend s role).server.durable ≡ s.durable
unfolding on_resend
resent_disk s Follower = refl
resent_disk s (Candidate own) = refl
resent_disk s (Merging l) = refl
resent_disk s (Serving l) = refl

resend_event : (setup : Setup) (g : Group) (i : ℕ) → IsTurnEvent setup g (Resend i) i (plain_turn g (λ s. on_resend s s.role)) (λ how. g)
unfolding answer_to may_halt happens
resend_event setup g i = record { answers = refl; halts = never_halts (plain_turn g (λ s. on_resend s s.role)) (λ s. resent_disk s s.role) (slice_get g.servers i); goes = λ how. refl; servers = λ how. refl; acts = refl; loud = refl }

pub resends : (setup : Setup) (past : GroupPast) → IsViablePast setup past → PastIsShort past → (i : ℕ) → i < 3 → (out : Outgoing) → ((o : Outcome) → room_refusal out o ≡ group_room_refusal past.group o)
    → IsTurnAs setup past (Resend i) i (plain_turn past.group (λ s. on_resend s s.role)) (λ how. past.group) (λ s. room_refusal out (on_resend s s.role)) (λ s. on_resend s s.role)
resends setup past viable short i low = simple_turn setup past viable short i (Resend i) (λ s. on_resend s s.role) (resend_event setup past.group i) low (λ s. resent_whole s s.role) (λ s reads. resent_quiet s s.role reads) (λ s asks. resend_asks setup setup.chunk past.group.reads s asks)

-- Checkpoint
saved_whole : (s : Server) → ending (on_checkpoint s).answer ≡ Whole
unfolding on_checkpoint
saved_whole s = by_test (upto s == s.durable.base || is_short_of s.role (upto s)) (λ c. ending (if c then only_answers s (Base s.durable.base) else only_answers (trimmed s) (Base (upto s))).answer ≡ Whole) (λ _. refl) (λ _. refl)

saved_quiet : (s : Server) (reads : ℕ) → reads_after reads (on_checkpoint s).answer ≡ reads
unfolding on_checkpoint
saved_quiet s reads = by_test (upto s == s.durable.base || is_short_of s.role (upto s)) (λ c. reads_after reads (if c then only_answers s (Base s.durable.base) else only_answers (trimmed s) (Base (upto s))).answer ≡ reads) (λ _. refl) (λ _. refl)

checkpoint_event : (setup : Setup) (g : Group) (i : ℕ) → IsTurnEvent setup g (Checkpoint i) i (plain_turn g on_checkpoint) (λ how. g)
unfolding answer_to may_halt happens
checkpoint_event setup g i = record { answers = refl; halts = λ is. is; goes = λ how. refl; servers = λ how. refl; acts = refl; loud = refl }

pub checkpoints : (setup : Setup) (past : GroupPast) → IsViablePast setup past → PastIsShort past → (i : ℕ) → i < 3 → (out : Outgoing) → ((o : Outcome) → room_refusal out o ≡ group_room_refusal past.group o)
    → IsTurnAs setup past (Checkpoint i) i (plain_turn past.group on_checkpoint) (λ how. past.group) (λ s. room_refusal out (on_checkpoint s)) on_checkpoint
checkpoints setup past viable short i low = simple_turn setup past viable short i (Checkpoint i) on_checkpoint (checkpoint_event setup past.group i) low saved_whole saved_quiet (λ s asks. checkpoint_asks setup setup.chunk past.group.reads s asks)
