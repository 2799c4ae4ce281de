-- A leader that takes an acknowledgement.
use Rattle.std.proofs.Common.{◌≡◌, inl, ◌≢◌, ℕ, Bool, false, ◌&&◌, List, [], ◌∷◌, Some, None, if◌then◌else◌, refl, sym, subst, ◌∙◌}
use Rattle.std.proofs.lemmas.Bool.{eq-eqb, ne_eqb, cond-true, cond-false}
use Rattle.std.specs.FinMap
use Rattle.pf_entry.specs.Maps.{Numbers}
use Rattle.pf_entry.specs.Sets
use Rattle.pf_entry.specs.Records.{Durable, has_term, holds}
use Rattle.pf_entry.specs.declared.packets.Packet.{Packet}
use Rattle.pf_entry.specs.declared.packets.Body.TheVariants.{Commit}
use Rattle.pf_protocol.specs.Servers.{Server, Role, Follower, Candidate, Merging, Serving}
use Rattle.pf_protocol.specs.Outcomes.{nothing}
use Rattle.pf_protocol.specs.Leading.{on_ack, commit_own}
use Rattle.pf_protocol.specs.declared.answers.Answer.TheVariants.{Done}
use Rattle.pf_server_store.specs.Stores.{StoreModel}
use Rattle.pf_server_memory.specs.declared.running.Running.{Running}
use Rattle.pf_server_memory.specs.declared.running.Role.{Role as RoleHere}
use Rattle.pf_server_memory.specs.Outgoing.{Outgoing, exceeds, sent_by}
use Rattle.pf_server_memory.specs.Packets.{packet}
use Rattle.pf_server_memory.specs.Standing.{server_of, setup_of, role_in_memory, IsCached, IsRoleKept, Stands, IsDone, room_refusal}
use Rattle.pf_server_memory.proofs.Steps.{room_none}
use Rattle.pf_server_leader.specs.Acking.{owns, announces, after_ack, commits, counted_ack}
use Rattle.pf_server_memory.proofs.SentPackets.{none_exceeds, none_sent, sent_acked}

-- the rule
module _ (s : Server) (from term slot upto : ℕ) where
  by_role : (role : Role) → s.role ≡ role → term ≡ s.durable.term → on_ack s from term slot upto role ≡ counted_ack s from slot upto role
  unfolding on_ack commit_own
  by_role (Serving l) is same = cond-true _ _ _ (eq-eqb term s.durable.term same)
  by_role (Merging l) is same = cond-true _ _ _ (eq-eqb term s.durable.term same)
  by_role Follower is same = λ i. nothing (record s { role = is i })
  by_role (Candidate own) is same = λ i. nothing (record s { role = is i })

  pub ack_counts : term ≡ s.durable.term → on_ack s from term slot upto s.role ≡ counted_ack s from slot upto s.role
  ack_counts same = by_role s.role refl same

  other_role : (role : Role) → term ≢ s.durable.term → on_ack s from term slot upto role ≡ nothing s
  unfolding on_ack
  other_role (Serving l) other = cond-false _ _ _ (ne_eqb term s.durable.term other)
  other_role (Merging l) other = cond-false _ _ _ (ne_eqb term s.durable.term other)
  other_role Follower other = refl
  other_role (Candidate own) other = refl

  pub ack_passes : term ≢ s.durable.term → on_ack s from term slot upto s.role ≡ nothing s
  ack_passes other = other_role s.role other

-- memory
abbrev pub with_committed : Running → RoleHere → Numbers → Running
with_committed me role committed = record me { role = role; log = record me.log { committed = committed } }

abbrev pub committed_after : Running → ℕ → Numbers
committed_after me slot = if owns (role_in_memory me.role) slot && has_term me.term (FinMap.get me.log.entries slot) then Sets.insert me.log.committed slot else me.log.committed

module _ (d : Durable) (me : Running) (cached : IsCached d me) where
  committed_same : (slot : ℕ) → committed_after me slot ≡ (if owns (role_in_memory me.role) slot && holds d slot d.term then Sets.insert me.log.committed slot else me.log.committed)
  unfolding holds
  committed_same slot = λ i. if owns (role_in_memory me.role) slot && has_term (cached.term i) (FinMap.get (cached.log i) slot) then Sets.insert me.log.committed slot else me.log.committed

  counted_server : (from slot upto : ℕ) (role : RoleHere) → role_in_memory role ≡ after_ack me.number from slot upto (role_in_memory me.role)
      → server_of d (with_committed me role (committed_after me slot)) ≡ (counted_ack (server_of d me) from slot upto (server_of d me).role).server
  unfolding server_of
  counted_server from slot upto role is = λ i. record (server_of d me) { committed = committed_same slot i; role = is i }

  counted_cached : (role : RoleHere) (committed : Numbers) → IsRoleKept me.number role → IsCached d (with_committed me role committed)
  counted_cached role committed kept = record {
    number = cached.number;
    term = cached.term;
    generation = cached.generation;
    base = cached.base;
    starts = cached.starts;
    log = cached.log;
    format = cached.format;
    prefix = cached.prefix;
    role = kept;
    jobs = cached.jobs;
    places = cached.places;
    rooms = cached.rooms;
    near = cached.near;
    replies = cached.replies;
  }

  pub commits_same : (from slot : ℕ) → (if owns (role_in_memory me.role) slot then packet me.number from me.term (Commit slot) ∷ [] else []) ≡ commits (server_of d me) (server_of d me).role from slot
  unfolding server_of
  commits_same from slot = λ i. if owns (role_in_memory me.role) slot then packet me.number from (cached.term i) (Commit slot) ∷ [] else []

pub same_setup : (me : Running) (role : RoleHere) (committed : Numbers) → setup_of (with_committed me role committed) ≡ setup_of me
unfolding setup_of
same_setup me role committed = refl

-- what is sent, and what the host is told
announced : (out mid new : Outgoing) (ps : List Packet) (b : Bool) (slot : ℕ) → mid ≡ sent_by out ps → out.acked ≡ None → new ≡ record mid { acked = if b then Some slot else mid.acked }
    → new ≡ record (sent_by out ps) { acked = if b then Some slot else None }
announced out mid new ps b slot is fresh tells =
    let acked = sent_acked out mid ps is ∙ fresh in
    tells ∙ (λ i. record (is i) { acked = if b then Some slot else acked i })

module _ {S : Type 0} (model : StoreModel S) (d : Durable) (store : S) (me : Running) (out : Outgoing) (stands : Stands model d store me) where
  within_same : (from slot upto : ℕ) → exceeds out (commits (server_of d me) (server_of d me).role from slot) ≡ false
      → room_refusal out (counted_ack (server_of d me) from slot upto (server_of d me).role) ≡ None
  unfolding server_of
  within_same from slot upto not = room_none out (counted_ack (server_of d me) from slot upto (server_of d me).role) not stands.within

  module _ (mid new : Outgoing) (from slot upto : ℕ) (role : RoleHere) (role_is : role_in_memory role ≡ after_ack me.number from slot upto (role_in_memory me.role)) (kept : IsRoleKept me.number role)
      (room : exceeds out (commits (server_of d me) (server_of d me).role from slot) ≡ false) (sent : mid ≡ sent_by out (commits (server_of d me) (server_of d me).role from slot)) (fresh : out.acked ≡ None)
      (tells : new ≡ record mid { acked = if announces me.number (role_in_memory me.role) slot then Some slot else mid.acked }) where
    here : IsDone model d store me out store (with_committed me role (committed_after me slot)) new (room_refusal out (counted_ack (server_of d me) from slot upto (server_of d me).role)) (counted_ack (server_of d me) from slot upto (server_of d me).role) Done
    unfolding server_of
    here = record {
      may = within_same from slot upto room;
      answered = refl;
      server_is = counted_server d me stands.cached from slot upto role role_is;
      setup_same = same_setup me role (committed_after me slot);
      stands = record {
        recorded = stands.recorded;
        used_is = stands.used_is;
        within = stands.within;
        half = stands.half;
        cached = counted_cached d me stands.cached role (committed_after me slot) kept;
      };
      told_same = refl;
      crash = inl refl;
      sent = announced out mid new (commits (server_of d me) (server_of d me).role from slot) (announces me.number (role_in_memory me.role) slot) slot sent fresh tells;
    }

    pub counted_done : (me' : Running) → me' ≡ with_committed me role (committed_after me slot)
        → IsDone model d store me out store me' new (room_refusal out (counted_ack (server_of d me) from slot upto (server_of d me).role)) (counted_ack (server_of d me) from slot upto (server_of d me).role) Done
    counted_done me' is = subst (λ m. IsDone model d store me out store m new (room_refusal out (counted_ack (server_of d me) from slot upto (server_of d me).role)) (counted_ack (server_of d me) from slot upto (server_of d me).role) Done) (sym is) here

-- the server's own term
pub own_term : (d : Durable) (me : Running) → IsCached d me → (term : ℕ) → term ≡ me.term → term ≡ (server_of d me).durable.term
unfolding server_of
own_term d me cached term is = is ∙ cached.term

pub other_term : (d : Durable) (me : Running) → IsCached d me → (term : ℕ) → term ≢ me.term → term ≢ (server_of d me).durable.term
unfolding server_of
other_term d me cached term other = λ same. other (same ∙ sym cached.term)

pub none_to_send : (out : Outgoing) (b : Bool) (ps : List Packet) → b ≡ false → (exceeds out (if b then ps else []) ≡ false) × (out ≡ sent_by out (if b then ps else []))
none_to_send out b ps is = subst (λ c. (exceeds out (if c then ps else []) ≡ false) × (out ≡ sent_by out (if c then ps else []))) (sym is) (none_exceeds out, none_sent out)
