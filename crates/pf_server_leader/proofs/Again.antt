-- A server that sends again.
use Rattle.std.proofs.Common.{◌≡◌, ◌⊎◌, inl, inr, ℕ, ◌<◌, nat_lt, refl, sym, ap, subst, ◌∙◌}
use Rattle.pf_entry.specs.Sets
use Rattle.pf_entry.specs.Canonical.{IsCanonicalImage}
use Rattle.pf_entry.specs.Records.{Durable}
use Rattle.pf_entry.specs.declared.packets.Body.TheVariants.{Ack, RequestVote}
use Rattle.pf_protocol.specs.Servers.{Server, Role, Follower, Candidate, Merging, Serving, upto}
use Rattle.pf_protocol.specs.Outcomes.{sends}
use Rattle.pf_protocol.specs.Leading.{on_resend, resent}
use Rattle.pf_protocol.specs.Fitting.{LeaderFits, RoleFits}
use Rattle.pf_server_memory.specs.declared.running.Leader.{Leader as LeaderHere}
use Rattle.std.specs.List.{flat_map}
use Rattle.pf_election.specs.Votes.{Votes}
use Rattle.pf_protocol.specs.Outcomes.{other_servers}
use Rattle.pf_server_memory.specs.Packets.{packets_to, AreCanonical}
use Rattle.pf_server_memory.specs.declared.running.Role.TheVariants.{Follower as FollowerHere, Candidate as CandidateHere, Merging as MergingHere, Serving as ServingHere}
use Rattle.pf_server_memory.specs.declared.running.Running.{Running}
use Rattle.pf_server_memory.specs.Standing.{server_of, setup_of, state_in_memory, role_in_memory, leader_in_memory, IsBounded, IsCached}
use Rattle.pf_server_memory.proofs.Canonicals.{in_second, image_is}
use Rattle.pf_server_leader.specs.Resending.{AreOfOwnTerm, CanSendToBoth}

-- what a bounded leader has may be sent
module _ (me : Running) (b : IsBounded me) (number : me.number < 3) (own : AreOfOwnTerm me) (l : LeaderHere) (leads : (me.role ≡ MergingHere l) ⊎ (me.role ≡ ServingHere l)) where
  own_image : IsCanonicalImage me.log.base (Sets.retain me.applied.slots (nat_lt me.log.base)) me.sectors
  unfolding server_of
  own_image = image_is (setup_of me) b.setup b.n b.t me.log.base (Sets.retain me.applied.slots (nat_lt me.log.base)) me.sectors b.fits.applied b.fits.sectors

  pub can_send : CanSendToBoth me l.next
  unfolding server_of
  can_send = λ to below apart. record {
    peer = record { from = number; below = below; apart = apart; term = b.fits.durable.term };
    own = λ slot e low high at. (in_second (setup_of me) b.setup b.n b.t e (b.fits.durable.vote.log slot e at).fits, own l leads slot e low high at);
    image = own_image;
  }

  role_fits : (me.role ≡ MergingHere l) ⊎ (me.role ≡ ServingHere l) → LeaderFits b.n me.log.base (leader_in_memory l)
  unfolding server_of
  role_fits (inl is) = subst (RoleFits (setup_of me) b.n b.t me.log.base) (ap role_in_memory is) b.fits.role
  role_fits (inr is) = subst (RoleFits (setup_of me) b.n b.t me.log.base) (ap role_in_memory is) b.fits.role

  pub leads_above : me.log.base < l.next
  leads_above = (role_fits leads).above_base

-- of every state that memory stands for
module _ (d : Durable) (me : Running) (cached : IsCached d me) where
  same_by : (role : Role) → (on_resend (server_of (state_in_memory me) me) role).packets ≡ (on_resend (server_of d me) role).packets
  unfolding on_resend resent upto server_of
  same_by Follower = λ i. (on_resend (record (server_of d me) { durable = record d { term = cached.term i; base = cached.base i; log = cached.log i } }) Follower).packets
  same_by (Candidate own) = λ i. (on_resend (record (server_of d me) { durable = record d { term = cached.term i; base = cached.base i; log = cached.log i } }) (Candidate own)).packets
  same_by (Merging l) = λ i. (on_resend (record (server_of d me) { durable = record d { term = cached.term i; base = cached.base i; log = cached.log i } }) (Merging l)).packets
  same_by (Serving l) = λ i. (on_resend (record (server_of d me) { durable = record d { term = cached.term i; base = cached.base i; log = cached.log i } }) (Serving l)).packets

  pub same_again : (on_resend (server_of (state_in_memory me) me) (role_in_memory me.role)).packets ≡ (on_resend (server_of d me) (server_of d me).role).packets
  unfolding server_of
  same_again = same_by (role_in_memory me.role)

pub only_sends : (s : Server) (role : Role) → sends s (on_resend s role).packets ≡ on_resend s role
unfolding on_resend
only_sends s Follower = refl
only_sends s (Candidate own) = refl
only_sends s (Merging l) = refl
only_sends s (Serving l) = refl

-- what each role sends again
module _ (me : Running) where
  pub again_follower : me.role ≡ FollowerHere → (slot u : ℕ) → slot ≡ me.log.base → u ≡ upto (server_of (state_in_memory me) me) → packets_to me.number me.term (Ack slot u) ≡ (on_resend (server_of (state_in_memory me) me) (role_in_memory me.role)).packets
  unfolding on_resend server_of
  again_follower is slot u base same = (λ i. packets_to me.number me.term (Ack (base i) (same i))) ∙ ap (λ r. (on_resend (server_of (state_in_memory me) me) (role_in_memory r)).packets) (sym is)

  pub again_candidate : (own : Votes) → me.role ≡ CandidateHere own → (slot : ℕ) → slot ≡ me.log.base → packets_to me.number me.term (RequestVote slot) ≡ (on_resend (server_of (state_in_memory me) me) (role_in_memory me.role)).packets
  unfolding on_resend server_of
  again_candidate own is slot base = (λ i. packets_to me.number me.term (RequestVote (base i))) ∙ ap (λ r. (on_resend (server_of (state_in_memory me) me) (role_in_memory r)).packets) (sym is)

  pub again_leader : (l : LeaderHere) → (me.role ≡ MergingHere l) ⊎ (me.role ≡ ServingHere l) → flat_map (resent (server_of (state_in_memory me) me) (leader_in_memory l)) (other_servers me.number) ≡ (on_resend (server_of (state_in_memory me) me) (role_in_memory me.role)).packets
  unfolding on_resend server_of
  again_leader l (inl is) = ap (λ r. (on_resend (server_of (state_in_memory me) me) (role_in_memory r)).packets) (sym is)
  again_leader l (inr is) = ap (λ r. (on_resend (server_of (state_in_memory me) me) (role_in_memory r)).packets) (sym is)

  pub own_ack : IsBounded me → me.number < 3 → (slot u : ℕ) → AreCanonical me.number me.term (Ack slot u)
  unfolding server_of
  own_ack b number slot u = λ i below apart. record { from = number; to = below; apart = λ same. apart (sym same); term = b.fits.durable.term; message = tt }

  pub own_request : IsBounded me → me.number < 3 → (slot : ℕ) → AreCanonical me.number me.term (RequestVote slot)
  unfolding server_of
  own_request b number slot = λ i below apart. record { from = number; to = below; apart = λ same. apart (sym same); term = b.fits.durable.term; message = tt }
