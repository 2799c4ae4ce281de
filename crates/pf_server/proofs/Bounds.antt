-- Numbers of a running server are far from the ends of their types.
use Rattle.std.proofs.Common.{◌≡◌, ◌⊎◌, inl, inr, ℕ, ◌<◌, ◌^◌, length, map, Some, nat_lt, arith, sym, ap, subst, ◌∙◌}
use Rattle.std.proofs.lemmas.Bool.{false≢true}
use Rattle.std.specs.FinMap
use Rattle.pf_entry.specs.Sets
use Rattle.pf_entry.specs.declared.ops.Op.{Op}
use Rattle.pf_entry.specs.Records.{Durable, vote_of}
use Rattle.pf_entry.proofs.Sets.{contains-empty}
use Rattle.pf_base.specs.declared.filled.Filled.{Filled}
use Rattle.pf_protocol.specs.Answers.{IsSetup}
use Rattle.pf_protocol.specs.Asked.{Asks}
use Rattle.pf_protocol.specs.Fitting.{DurableFits, OpFits, RoleFits, ServerFits, SlotFits, SlotsFit, VoteFits}
use Rattle.pf_protocol.specs.Servers.{Server, Setup, Merging as MergingIs, Serving as ServingIs}
use Rattle.pf_server_store.specs.Stores.{StoreModel}
use Rattle.pf_server_leader.specs.Resending.{AreOfOwnTerm}
use Rattle.pf_server_apply.specs.Jobs.{IsFilledFor, IsJobOf}
use Rattle.pf_server_memory.specs.Bounds.{far}
use Rattle.pf_server_memory.specs.declared.running.Running.{Running}
use Rattle.pf_server_memory.specs.Standing.{server_of, setup_of, state_in_memory, leader_in_memory, read_in_memory, role_in_memory, IsBounded, IsCached}
use Rattle.pf_server_restart.specs.Beginning.{setup_of_seat}
use Rattle.pf_server_restart.specs.declared.seat.Seat.{Seat}
use Rattle.pf_server.specs.Conditions.{IsRunning, ServerIsSound}
use Rattle.pf_server.specs.Ending.{AsksHere}

-- what memory alone tells is as small as what the records say
module _ (setup : Setup) (n t : ℕ) (d : Durable) (me : Running) (cached : IsCached d me) where
  same_vote : vote_of d ≡ vote_of (state_in_memory me)
  same_vote = λ i. record { base = sym cached.base i; starts = sym cached.starts i; log = sym cached.log i }

  bare_durable : ServerFits setup n t (server_of d me) → DurableFits setup n t (state_in_memory me)
  unfolding server_of
  bare_durable f = record {
    generation = omega (arith, f.durable.generation, cached.generation);
    term = omega (arith, f.durable.term, cached.term);
    term_low = omega (arith, f.durable.term_low, cached.term);
    vote = subst (VoteFits setup n t) same_vote f.durable.vote;
    saved = λ slot is. absurd (false≢true (sym (contains-empty slot) ∙ is));
    sectors = f.sectors;
  }

  pub bare_fits : ServerFits setup n t (server_of d me) → ServerFits setup n t (server_of (state_in_memory me) me)
  unfolding server_of
  bare_fits f =
      let base : d.base ≡ me.log.base = sym cached.base in
      record {
        number = f.number;
        life = f.life;
        durable = bare_durable f;
        applied = subst (λ b. SlotsFit setup n b (Sets.retain me.applied.slots (nat_lt me.log.base))) base f.applied;
        sectors = f.sectors;
        in_hand = subst (λ b. (slot : ℕ) (op : Op) → FinMap.get me.in_hand slot ≡ Some op → SlotFits setup n b slot × OpFits setup op) base f.in_hand;
        reads = f.reads;
        role = subst (λ b. RoleFits setup n t b (role_in_memory me.role)) base f.role;
      }

module _ {S : Type 0} (model : StoreModel S) (seat : Seat) (store : S) (me : Running) (s : Server) (runs : IsRunning model seat store me s) where
  pub same_life : me.life ≡ s.life
  unfolding server_of
  same_life = ap (λ (x : Server). x.life) runs.is

  pub same_chunk : length me.sectors ≡ seat.sectors
  unfolding setup_of
  same_chunk = ap (λ (x : Setup). x.chunk) runs.setup

  module _ (sound : ServerIsSound seat s) where
    fits_here : ServerFits (setup_of me) sound.n sound.t (server_of s.durable me)
    fits_here = subst (λ x. ServerFits x sound.n sound.t (server_of s.durable me)) (sym runs.setup) (subst (ServerFits (setup_of_seat seat) sound.n sound.t) (sym runs.is) sound.fits)

    pub bounded_here : IsSetup (setup_of_seat seat) → IsBounded me
    bounded_here made = record {
      setup = subst IsSetup (sym runs.setup) made;
      n = sound.n;
      t = sound.t;
      low = omega (arith, sound.low);
      t_low = sound.t_low;
      fits = bare_fits (setup_of me) sound.n sound.t s.durable me runs.stands.cached fits_here;
      few = omega (arith, sound.few, ap FinMap.len runs.stands.cached.starts);
    }

    pub low_life : me.life < far
    low_life = omega (arith, same_life, sound.fits.life, sound.low)

    pub asks_here : AsksHere me
    unfolding server_of
    asks_here =
        let asks = subst (λ n. Asks n sound.next (server_of s.durable me)) (sym same_chunk) (subst (Asks seat.sectors sound.next) (sym runs.is) sound.asks) in
        (sound.next, record { asked = asks.asked; below = asks.below })

    pub own_here : AreOfOwnTerm me
    unfolding server_of
    own_here l leads slot e above below held =
        let cached = runs.stands.cached in
        let role : s.role ≡ role_in_memory me.role = sym (ap (λ (x : Server). x.role) runs.is) in
        let log : FinMap.get s.durable.log slot ≡ Some e = ap (λ m. FinMap.get m slot) (sym cached.log) ∙ held in
        let its : (s.role ≡ MergingIs (leader_in_memory l)) ⊎ (s.role ≡ ServingIs (leader_in_memory l)) = elim leads [
          | inl merges ↦ inl (role ∙ ap role_in_memory merges)
          | inr serves ↦ inr (role ∙ ap role_in_memory serves)
        ] in
        sound.own (leader_in_memory l) its slot e (omega (arith, cached.base, above)) below log ∙ sym cached.term

  pub same_reads : s.reads ≡ map read_in_memory me.reads
  unfolding server_of
  same_reads = sym (ap (λ (x : Server). x.reads) runs.is)

  pub job_here : (filled : Filled) → (filled.life ≡ s.life → (op : Op) × (FinMap.get s.in_hand filled.slot ≡ Some op) × IsFilledFor op filled) → filled.life ≡ me.life → IsJobOf me filled
  unfolding server_of
  job_here filled brings same =
      let job = brings (same ∙ same_life) in
      record { op = job.0; held = ap (λ (x : Server). FinMap.get x.in_hand filled.slot) runs.is ∙ job.1; brought = job.2 }
