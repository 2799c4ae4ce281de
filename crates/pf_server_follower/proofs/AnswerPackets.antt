-- The packets that a follower answers with.
use Rattle.std.proofs.Common.{◌≡◌, ℕ, ◌<◌, ◌≤◌, ◌^◌, Bool, true, false, nat_lt, arith, refl, sym, ap, subst, ◌∙◌, if◌then◌else◌}
use Rattle.std.proofs.lemmas.Bool.Decides.{nat_tests}
use Rattle.std.specs.FinMap
use Rattle.pf_entry.specs.Canonical.{IsCanonicalMessage, IsCanonicalPacket, IsCanonicalVote, second_format}
use Rattle.pf_server_tables.specs.StartTables.{StartRoom}
use Rattle.pf_entry.specs.declared.entries.VoteLog.{VoteLog}
use Rattle.pf_entry.specs.Records.{Durable, stored, vote_of}
use Rattle.pf_entry.specs.declared.entries.Entry.{Entry}
use Rattle.pf_entry.specs.declared.packets.Body.{Body}
use Rattle.pf_entry.specs.declared.packets.Body.TheVariants.{Ack}
use Rattle.pf_protocol.specs.Servers.{upto}
use Rattle.pf_protocol.specs.Outcomes.{to_one, raise_term}
use Rattle.pf_protocol.specs.Following.{accepted, meets_term}
use Rattle.pf_server_memory.specs.declared.running.Running.{Running}
use Rattle.pf_server_memory.specs.Packets.{packet}
use Rattle.pf_server_memory.specs.Standing.{server_of, setup_of, state_in_memory, IsCached, IsBounded}
use Rattle.pf_server_memory.proofs.Canonicals.{vote_is}
use Rattle.pf_server_memory.specs.Coming.{IsComing}

-- a server's term is at least 1
pub term_some : (me : Running) → IsBounded me → 1 ≤ me.term
unfolding server_of
term_some me bounded = bounded.fits.durable.term

own_vote : (me : Running) → IsBounded me → IsCanonicalVote second_format (vote_of (state_in_memory me))
unfolding server_of
own_vote me bounded = vote_is (setup_of me) bounded.setup bounded.n bounded.t (vote_of (state_in_memory me)) (few me.starts bounded.few) bounded.fits.durable.vote
  where
    few : (starts : StartRoom) → FinMap.len starts.starts < 2 ^ 15 → FinMap.len starts.starts < 2 ^ 16
    few starts low = omega (arith, low)

-- an answer has a spelling where its message has one
pub answer_is : (me : Running) (from term own : ℕ) (asked body : Body) → IsComing me from term asked → 1 ≤ own → IsCanonicalMessage own body → IsCanonicalPacket (packet me.number from own body)
answer_is me from term own asked body coming some message = record {
  from = coming.fits.to;
  to = coming.fits.from;
  apart = λ same. coming.fits.apart (sym same);
  term = some;
  message = message;
}

pub own_packet : (d : Durable) (me : Running) (to : ℕ) (body : Body) → IsCached d me → packet me.number to me.term body ≡ to_one (server_of d me) to body
unfolding server_of
own_packet d me to body cached = λ i. packet me.number to (cached.term i) body

pub own_ack : (d : Durable) (me : Running) (to slot : ℕ) (body : Body) → IsCached d me → body ≡ Ack slot (upto (server_of d me)) → packet me.number to me.term body ≡ to_one (server_of d me) to (Ack slot (upto (server_of d me)))
own_ack d me to slot body cached is = own_packet d me to body cached ∙ ap (to_one (server_of d me) to) is

-- after a term from outside
met_by : (d : Durable) (me : Running) (to term slot : ℕ) (body : Body) → body ≡ Ack slot (upto (server_of d me)) → (higher : Bool) → (higher ≡ false → d.term ≡ term)
    → (let s = (if higher then raise_term (server_of d me) term else server_of d me) in packet me.number to term body ≡ to_one s to (Ack slot (upto s)))
unfolding server_of stored upto
met_by d me to term slot body is true own = λ i. packet me.number to term (is i)
met_by d me to term slot body is false own = λ i. packet me.number to (sym (own refl) i) (is i)

no_higher : (a b : ℕ) → nat_lt a b ≡ false → a ≤ b → a ≡ b
no_higher a b is le = grind (arith, nat_tests)

pub met_ack : (d : Durable) (me : Running) (to term slot : ℕ) (body : Body) → IsCached d me → me.term ≤ term → body ≡ Ack slot (upto (server_of d me))
    → (let s = meets_term (server_of d me) term in packet me.number to term body ≡ to_one s to (Ack slot (upto s)))
unfolding server_of
met_ack d me to term slot body cached low is = met_by d me to term slot body is (nat_lt d.term term) (λ own. no_higher d.term term own (subst (λ n. n ≤ term) cached.term low))

-- after an entry
pub taken_ack : (d : Durable) (me : Running) (to : ℕ) (e : Entry) (body : Body) → body ≡ Ack e.slot (upto (server_of d me))
    → (let s = accepted (server_of d me) e in packet me.number to e.term body ≡ to_one s to (Ack e.slot (upto s)))
unfolding server_of stored upto accepted
taken_ack d me to e body is = λ i. packet me.number to e.term (is i)

pub vote_has_a_spelling : (me : Running) (vote : VoteLog) → IsBounded me → vote ≡ vote_of (state_in_memory me) → IsCanonicalVote second_format vote
vote_has_a_spelling me vote bounded is = subst (IsCanonicalVote second_format) (sym is) (own_vote me bounded)
