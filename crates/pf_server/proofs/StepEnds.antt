-- How a step of a running server ends in memory.
use Rattle.std.proofs.Common.{◌≡◌, ℕ, ◌+◌, ◌-◌, ◌≤◌, inl, inr, true, List, length, map, drop, slice_range, nat_le, ◌++◌, arith, refl, sym, ap, subst, ◌∙◌, length-drop, length-take-le}
use Rattle.std.proofs.lemmas.Bool.Decides.{nat_tests}
use Rattle.std.proofs.lemmas.Bool.{or_cases}
use Rattle.pf_base.specs.Span.{Span, IsWritable, fits_in, is_whole}
use Rattle.pf_entry.proofs.Lists.{every_filter, every_map, every_more}
use Rattle.pf_entry.specs.Ops.{Sector}
use Rattle.pf_entry.specs.Records.{Durable}
use Rattle.pf_protocol.specs.Asked.{AreAsked, Asks, IsReadAsked}
use Rattle.pf_protocol.specs.Rows.{is_ready, ready_reads, settled}
use Rattle.pf_protocol.specs.Servers.{Read, Server, Setup}
use Rattle.pf_server_apply.specs.Reads.{read_answered}
use Rattle.pf_server_memory.specs.declared.running.Running.{Running}
use Rattle.pf_server_memory.specs.Standing.{server_of, setup_of, read_in_memory, state_in_memory, IsCached}
use Rattle.pf_server_memory.specs.Turns.{IsAfter}
use Rattle.pf_server.specs.Conditions.{AreSized}
use Rattle.pf_server.specs.Ending.{WasAnswered, quieted}
use Rattle.pf_server.specs.Turns.{answers_after}

-- an answer has the sectors of its range
sized_range : (span : Span) (sectors : List Sector) → IsWritable span.first span.count → fits_in span (length sectors) ≡ true → length (slice_range sectors span.first (span.first + span.count)) ≡ span.count
sized_range span sectors is fits =
    let inside : span.first + span.count ≤ length sectors = elim (or_cases (is_whole span) (nat_le (span.first + span.count) (length sectors)) fits) [
      | inl all ↦ absurd (grind (arith, nat_tests, all, is.few))
      | inr low ↦ grind (arith, nat_tests, low)
    ] in
    let left : length (drop span.first sectors) ≡ length sectors - span.first = length-drop span.first sectors in
    length-take-le (span.first + span.count - span.first) (drop span.first sectors) (omega (arith, left, inside)) ∙ omega arith

sized_answer : (s : Server) (r : Read) → IsReadAsked (length s.sectors) r → (1 ≤ length (read_answered s r).1) × (length (read_answered s r).1 ≤ 8)
sized_answer s r is =
    let size = sized_range r.range s.sectors is.range is.fits in
    (omega (arith, size, is.range.some), omega (arith, size, is.range.few))

pub sized_answers : (s : Server) → AreAsked (length s.sectors) s.reads → AreSized (answers_after s)
sized_answers s asked =
    every_map (λ a. (1 ≤ length a.1) × (length a.1 ≤ 8)) (read_answered s) (ready_reads s)
    (every_filter (λ r. (1 ≤ length (read_answered s r).1) × (length (read_answered s r).1 ≤ 8)) (is_ready s) s.reads
    (every_more (IsReadAsked (length s.sectors)) _ (λ r is _. sized_answer s r is) s.reads asked.each))

-- answers that are left out change nothing that the rules see
pub quieted_cached : (d : Durable) (me : Running) → IsCached d me → IsCached d (quieted me)
quieted_cached d me c = record {
  number = c.number;
  term = c.term;
  generation = c.generation;
  base = c.base;
  starts = c.starts;
  log = c.log;
  format = c.format;
  prefix = c.prefix;
  role = c.role;
  jobs = c.jobs;
  places = c.places;
  rooms = c.rooms;
  near = c.near;
  replies = c.replies;
}

pub quieted_after : (d : Durable) (me : Running) → IsCached d me → IsAfter d me (quieted me) (server_of d me)
unfolding server_of setup_of
quieted_after d me c = record { server_is = refl; setup_same = refl; cached = quieted_cached d me c }

sized_here : (d : Durable) (me : Running) → AreAsked (length me.sectors) (map read_in_memory me.reads) → AreSized (answers_after (server_of d me))
unfolding server_of
sized_here d me asked = sized_answers (server_of d me) asked

-- what is answered over memory without answers
abbrev pub IsSettledOver : (d : Durable) (mid new : Running) → Type 0
IsSettledOver d mid new = IsCached d mid → IsAfter d mid new (settled (server_of d mid)) × (new.replies.answers ≡ mid.replies.answers ++ answers_after (server_of d mid))

over_quieted : (d : Durable) (me new : Running) → IsCached d me → AreAsked (length me.sectors) (map read_in_memory me.reads) → IsSettledOver d (quieted me) new → WasAnswered d me new (server_of d me)
unfolding server_of setup_of
over_quieted d me new cached asked f =
    let x = f (quieted_cached d me cached) in
    record {
      after = record { server_is = x.0.server_is; setup_same = x.0.setup_same; cached = x.0.cached };
      answers = x.1;
      sized = subst AreSized (sym x.1) (sized_here d me asked);
    }

pub settled_answered : (d : Durable) (me mid new : Running) → mid ≡ quieted me → IsCached d me → AreAsked (length me.sectors) (map read_in_memory me.reads) → IsSettledOver d mid new → WasAnswered d me new (server_of d me)
settled_answered d me mid new is cached asked f = over_quieted d me new cached asked (subst (λ m. IsSettledOver d m new) is f)

-- the reads of memory are those of the server that it stands for
pub asks_at : (d : Durable) (me : Running) (next : ℕ) → Asks (length me.sectors) next (server_of (state_in_memory me) me) → Asks (length me.sectors) next (server_of d me)
unfolding server_of
asks_at d me next asks = record { asked = asks.asked; below = asks.below }

pub asked_now : (d : Durable) (me new : Running) (s : Server) → server_of d new ≡ s → setup_of new ≡ setup_of me → AreAsked (length me.sectors) s.reads → AreAsked (length new.sectors) (map read_in_memory new.reads)
unfolding server_of setup_of
asked_now d me new s is same asked =
    let chunk : length me.sectors ≡ length new.sectors = sym (ap (λ (x : Setup). x.chunk) same) in
    let reads : s.reads ≡ map read_in_memory new.reads = sym (ap (λ (x : Server). x.reads) is) in
    subst (λ n. AreAsked n (map read_in_memory new.reads)) chunk (subst (AreAsked (length me.sectors)) reads asked)

-- the end of a step that memory has followed
pub answered_after : (d : Durable) (me mid new : Running) (s : Server) → server_of d mid ≡ s → setup_of mid ≡ setup_of me → WasAnswered d mid new (server_of d mid) → WasAnswered d me new s
answered_after d me mid new s is same x =
    let y = subst (WasAnswered d mid new) is x in
    record {
      after = record { server_is = y.after.server_is; setup_same = y.after.setup_same ∙ same; cached = y.after.cached };
      answers = y.answers;
      sized = y.sized;
    }
