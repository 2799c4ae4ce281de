-- A server that stands for a term.
use Rattle.std.proofs.Common.{◌≡◌, ℕ, suc, ◌+◌, ◌<◌, ◌^◌, [], None, arith, refl, sym, ap, subst, ◌∙◌}
use Rattle.pf_entry.specs.Records.{Durable, stored, vote_of}
use Rattle.pf_entry.specs.declared.entries.VoteLog.{VoteLog}
use Rattle.pf_entry.specs.declared.packets.Body.TheVariants.{RequestVote}
use Rattle.pf_entry.specs.declared.records.Record.TheVariants.{Term as TermRecord}
use Rattle.pf_protocol.specs.Servers.{Candidate}
use Rattle.pf_election.proofs.ConfirmedCounts.{few_confirmed}
use Rattle.pf_protocol.specs.Leading.{on_elect}
use Rattle.pf_server_memory.specs.declared.running.Running.{Running}
use Rattle.pf_server_memory.specs.declared.running.Role.TheVariants.{Candidate as CandidateHere}
use Rattle.pf_server_memory.specs.Packets.{packets_to}
use Rattle.pf_server_memory.specs.Standing.{server_of, setup_of, state_in_memory, IsBounded, IsCached}
use Rattle.pf_server_leader.specs.Electing.{candidate, elected}
use Rattle.pf_server_memory.proofs.StepEnds.{IsAdded, IsFollowed}

abbrev pub with_candidacy : Running → ℕ → VoteLog → Running
with_candidacy me term vote = record me { term = term; role = CandidateHere (record { number = me.number; own = vote; other = None }); reads = [] }

pub stood_added : (d : Durable) (me : Running) (term : ℕ) → IsAdded d (TermRecord term) (elected (server_of d me) term).server.durable
unfolding server_of stored
stood_added d me term = record { is = refl; used = refl; format = refl }

vote_same : (d : Durable) (me : Running) → IsCached d me → vote_of (state_in_memory me) ≡ vote_of d
vote_same d me cached = λ i. record { base = cached.base i; starts = cached.starts i; log = cached.log i }

stood_here : (d : Durable) (me : Running) (term : ℕ) (vote : VoteLog) → IsCached d me → vote ≡ vote_of d → IsFollowed me (with_candidacy me term vote) (candidate (server_of d me) term)
unfolding server_of setup_of stored
stood_here d me term vote cached own = record {
  server_is = λ i. record (candidate (server_of d me) term) { role = Candidate (own i) };
  setup_same = refl;
  cached = record {
    number = cached.number;
    term = refl;
    generation = cached.generation;
    base = cached.base;
    starts = cached.starts;
    log = cached.log;
    format = cached.format;
    prefix = cached.prefix;
    role = (refl, refl);
    jobs = cached.jobs;
    places = cached.places;
    rooms = cached.rooms;
    near = cached.near;
    replies = omega (arith, few_confirmed []);
  };
}

pub stood_followed : (d : Durable) (me me' : Running) (term : ℕ) (vote : VoteLog) → IsCached d me → vote ≡ vote_of (state_in_memory me) → me' ≡ with_candidacy me term vote → IsFollowed me me' (candidate (server_of d me) term)
stood_followed d me me' term vote cached own is =
    subst (λ m. IsFollowed me m (candidate (server_of d me) term)) (sym is) (stood_here d me term vote cached (own ∙ vote_same d me cached))

-- the next term
pub next_word : (me : Running) → IsBounded me → me.term + 1 < 2 ^ 64
unfolding server_of
next_word me b = omega (arith, b.fits.durable.term_low, b.t_low)

pub sent_election : (d : Durable) (me : Running) (term base : ℕ) → IsCached d me → base ≡ me.log.base → packets_to me.number term (RequestVote base) ≡ (elected (server_of d me) term).packets
unfolding server_of stored
sent_election d me term base cached is = ap (λ b. packets_to me.number term (RequestVote b)) (is ∙ cached.base)

pub election : (d : Durable) (me : Running) → IsCached d me → elected (server_of d me) (me.term + 1) ≡ on_elect (server_of d me)
unfolding server_of on_elect
election d me cached = let next : me.term + 1 ≡ suc d.term = omega (arith, cached.term) in ap (elected (server_of d me)) next
