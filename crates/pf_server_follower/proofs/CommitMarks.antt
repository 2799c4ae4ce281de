-- A mark.
use Rattle.std.proofs.Common.{◌≡◌, ℕ, Bool, true, false, None, refl, sym, ap, subst, ◌∙◌, if◌then◌else◌}
use Rattle.std.specs.FinMap
use Rattle.pf_entry.specs.Records.{Durable, has_term, holds as has_entry}
use Rattle.pf_entry.specs.Sets
use Rattle.pf_holes.specs.HoleLogs.{Holes}
use Rattle.pf_protocol.specs.Outcomes.{Outcome, nothing}
use Rattle.pf_protocol.specs.Leading.{commit}
use Rattle.pf_protocol.specs.Following.{on_commit}
use Rattle.pf_protocol.specs.declared.answers.Answer.TheVariants.{Done}
use Rattle.pf_server_store.specs.Stores.{StoreModel}
use Rattle.pf_server_memory.specs.declared.running.Running.{Running}
use Rattle.pf_server_memory.specs.Outgoing.{Outgoing}
use Rattle.pf_server_memory.specs.Standing.{server_of, setup_of, IsCached, Stands, IsDone, room_refusal}
use Rattle.pf_server_memory.specs.Turns.{IsAfter}
use Rattle.pf_server_memory.proofs.StepEnds.{done_in_memory}

-- with the slot marked, or not
abbrev with_committed : Running → (slot : ℕ) → Bool → Running
with_committed me slot held = record me { log = record me.log { committed = if held then Sets.insert me.log.committed slot else me.log.committed } }

abbrev commit_outcome : Durable → Running → (slot : ℕ) → Bool → Outcome
commit_outcome d me slot held = if held then nothing (commit (server_of d me) slot) else nothing (server_of d me)

commit_is : (d : Durable) (me : Running) (term slot : ℕ) → IsCached d me → commit_outcome d me slot (has_term term (FinMap.get me.log.entries slot)) ≡ on_commit (server_of d me) term slot
unfolding on_commit server_of has_entry
commit_is d me term slot cached = λ i. commit_outcome d me slot (has_term term (FinMap.get (cached.log i) slot))

module _ (d : Durable) (me : Running) (slot : ℕ) (cached : IsCached d me) where
  here : (held : Bool) → IsAfter d me (with_committed me slot held) (commit_outcome d me slot held).server
  unfolding server_of setup_of commit
  here true = record { server_is = refl; setup_same = refl; cached = record { number = cached.number; term = cached.term; generation = cached.generation; base = cached.base; starts = cached.starts; log = cached.log; format = cached.format; prefix = cached.prefix; role = cached.role; jobs = cached.jobs; places = cached.places; rooms = cached.rooms; near = cached.near; replies = cached.replies } }
  here false = record { server_is = refl; setup_same = refl; cached = cached }

  same_records : (held : Bool) → (commit_outcome d me slot held).server.durable ≡ d
  unfolding server_of commit
  same_records true = refl
  same_records false = refl

  alone : (held : Bool) → commit_outcome d me slot held ≡ nothing (commit_outcome d me slot held).server
  alone true = refl
  alone false = refl

pub committed_here : {S : Type 0} (model : StoreModel S) (d : Durable) (store : S) (me : Running) (out : Outgoing) (term slot : ℕ) (log : Holes) (held : Bool)
    → held ≡ has_term term (FinMap.get me.log.entries slot) → log ≡ record me.log { committed = if held then Sets.insert me.log.committed slot else me.log.committed } → Stands model d store me → out.acked ≡ None
    → IsDone model d store me out store (record me { log = log }) out (room_refusal out (on_commit (server_of d me) term slot)) (on_commit (server_of d me) term slot) Done
committed_here model d store me out term slot log held is put stands fresh =
    let cached = stands.cached in
    let outcome = sym (alone d me slot cached held) ∙ ap (commit_outcome d me slot) is ∙ commit_is d me term slot cached in
    subst (λ (h : Holes). IsDone model d store me out store (record me { log = h }) out (room_refusal out (on_commit (server_of d me) term slot)) (on_commit (server_of d me) term slot) Done) (sym put)
    (subst (λ o. IsDone model d store me out store (with_committed me slot held) out (room_refusal out o) o Done) outcome
    (done_in_memory model d store me (with_committed me slot held) stands out (commit_outcome d me slot held).server (same_records d me slot cached held) (here d me slot cached held) fresh))
