-- Lines whose numbers are a range, or are none.
use Rattle.std.proofs.Common.{◌≡◌, ℕ, zero, suc, ◌+◌, Bool, true, false, ◌&&◌, nat_le, IfOk, IsSome, if◌then◌else◌, List, [], length, replicate, Option, Some, None, Result, Ok, Err, slice_get, refl, sym, ap, subst, ◌∙◌, append-nil, inl}
use Rattle.std.specs.Prelude.{IsTrue}
use Rattle.std.proofs.lemmas.Bool.{and_parts, and_from, leb-true, le-leb, false≢true}
use Rattle.std.proofs.lemmas.List.{length-replicate}
use Rattle.pf_base.specs.Span.{Span, IsWritable}
use Rattle.pf_entry.specs.Lists.{Every}
use Rattle.pf_entry.specs.Ops.{Sector}
use Rattle.pf_entry.specs.declared.ops.Op.TheVariants.{Write}
use Rattle.pf_protocol.specs.declared.answers.Answer.{Answer}
use Rattle.pf_protocol.specs.declared.events.Event.TheVariants as events
use Rattle.pf_protocol.specs.Servers.{Condition, Running, Stopped, Unformatted}
use Rattle.pf_base.specs.declared.errors.NoMemory.{NoMemory}
use Rattle.pf_group_rounds.specs.pf_group.specs.GroupIs.{GroupIs, state_of}
use Rattle.pf_report.specs.Texts.{answer_text}
use Rattle.pf_group_rounds.specs.Chunks.{Chunk}
use Rattle.pf_group_rounds.specs.Halts.{Halt}
use Rattle.pf_group_rounds.proofs.GroupGrowth.{grown_refl}
use Rattle.pf_chunk.specs.declared.asked.LineAsk.TheVariants as asks
use Rattle.pf_chunk.specs.Asked.{fetch_ask, submit_ask}
use Rattle.pf_chunk.specs.Asking.{fetched, fetches, filled_write, is_range, no_range, no_range_answer, chunk_submits}
use Rattle.pf_chunk.specs.Happenings.{Happened, happened}
use Rattle.pf_chunk.specs.Steps.{ChunkEvent as EventIs, EventHasFailed, HasHappened}
use Rattle.pf_chunk.specs.Runs.{ChunkRun}
use Rattle.pf_chunk.specs.Views.{ChunkIs, ChunkIsReady, run_of}
use Rattle.pf_chunk.proofs.Begun.{failed_same}

all_alike : {X : Type 0} → (P : X → Type 0) (n : ℕ) (x : X) → P x → Every P (replicate n x)
all_alike P zero x is = tt
all_alike P (suc n) x is = (is, all_alike P n x is)

pub range_true : (first count : ℕ) → IsWritable first count → is_range first count ≡ true
range_true first count is = and_from _ _ (and_from _ _ (le-leb 1 count is.some) (le-leb count 8 is.few)) (le-leb (first + count) 4096 is.low)

pub range_false : (first count : ℕ) → (IsWritable first count → ⊥) → is_range first count ≡ false
range_false first count none = by (is_range first count) refl
  where
    by : (b : Bool) → is_range first count ≡ b → b ≡ false
    by false is = refl
    by true is =
        let parts = and_parts (nat_le 1 count && nat_le count 8) (nat_le (first + count) 4096) is in
        let more = and_parts (nat_le 1 count) (nat_le count 8) parts.0 in
        absurd (none (record { some = leb-true 1 count more.0; few = leb-true count 8 more.1; low = leb-true (first + count) 4096 parts.1 }))

pub no_range_said : (c : Option Condition) → IsSome (answer_text (no_range_answer c))
no_range_said (Some (Running s)) = refl
no_range_said (Some (Stopped life before after)) = refl
no_range_said (Some Unformatted) = refl
no_range_said None = refl

-- no event happens
pub none_happens : (server : ℕ) (old : ChunkIs) (out : List ℕ) (answer : Answer) → ChunkIsReady old → IsSome (answer_text answer) → (IsTrue old.group.told → answer ≡ no_range_answer (slice_get (state_of old.group).servers server)) → HasHappened (λ halts c. no_range server c) old out answer out old
none_happens server old out answer ready said is = record {
  grown = grown_refl old.group;
  ready = ready;
  left = λ told k left. inl left;
  first = refl;
  ports = refl;
  said = said;
  text = [];
  put = sym (append-nil out);
  run = λ halts tells. ap (λ a. let h : Happened = record { chunk = run_of halts old; answer = a; text = [] } in h) (sym (is tells.told));
}

-- numbers that are a range ask for its sectors, and others for none

pub range_submits : (server first byte count : ℕ) (range : Span) → IsWritable first count → range ≡ record { first = first; count = count } → asks.Submit server range byte ≡ submit_ask server first byte count
range_submits server first byte count range is same =
    ap (λ (r : Span). asks.Submit server r byte) same
    ∙ sym (ap (λ b. if b then asks.Submit server (record { first = first; count = count }) byte else asks.NoRange server) (range_true first count is))

pub range_fetches : (server first count : ℕ) (range : Span) → IsWritable first count → range ≡ record { first = first; count = count } → asks.Fetch server range ≡ fetch_ask server first count
range_fetches server first count range is same =
    ap (λ (r : Span). asks.Fetch server r) same
    ∙ sym (ap (λ b. if b then asks.Fetch server (record { first = first; count = count }) else asks.NoRange server) (range_true first count is))

pub none_submits : (server first byte count : ℕ) → (IsWritable first count → ⊥) → asks.NoRange server ≡ submit_ask server first byte count
none_submits server first byte count none =
    sym (ap (λ b. if b then asks.Submit server (record { first = first; count = count }) byte else asks.NoRange server) (range_false first count none))

pub none_fetches : (server first count : ℕ) → (IsWritable first count → ⊥) → asks.NoRange server ≡ fetch_ask server first count
none_fetches server first count none =
    sym (ap (λ b. if b then asks.Fetch server (record { first = first; count = count }) else asks.NoRange server) (range_false first count none))

-- one event happens, as it is told
same_event : (a b : EventIs) (old : ChunkIs) (out : List ℕ) (answer : Answer) (put : List ℕ) (new : ChunkIs) → ((halts : List Halt) → b halts (run_of halts old) ≡ a halts (run_of halts old)) → HasHappened a old out answer put new → HasHappened b old out answer put new
same_event a b old out answer put new same h = record {
  grown = h.grown;
  ready = h.ready;
  left = h.left;
  first = h.first;
  ports = h.ports;
  said = h.said;
  text = h.text;
  put = h.put;
  run = λ halts tells. same halts ∙ h.run halts tells;
}

abbrev pub group_in : Happened → Chunk
group_in h = h.chunk.group

module _ (server first count : ℕ) (range : Span) (writable : IsWritable first count) (is : range ≡ record { first = first; count = count }) where
  fetch_is : (halts : List Halt) (c : ChunkRun) → fetches halts server first count c ≡ fetched halts server range c
  fetch_is halts c =
      ap (λ b. if b then fetched halts server (record { first = first; count = count }) c else no_range server c) (range_true first count writable)
      ∙ ap (λ span. fetched halts server span c) (sym is)

  pub fetched_is : (old : ChunkIs) (out : List ℕ) (answer : Answer) (put : List ℕ) (new : ChunkIs)
      → HasHappened (λ halts c. fetched halts server range c) old out answer put new → HasHappened (λ halts c. fetches halts server first count c) old out answer put new
  fetched_is old out answer put new =
      same_event (λ halts c. fetched halts server range c) (λ halts c. fetches halts server first count c) old out answer put new (λ halts. fetch_is halts (run_of halts old))

  pub fetch_failed : (old : ChunkIs) (new : GroupIs) → EventHasFailed (λ halts. (fetched halts server range (run_of halts old)).chunk.group) old.group new → EventHasFailed (λ halts. (fetches halts server first count (run_of halts old)).chunk.group) old.group new
  fetch_failed old new = failed_same (λ halts. group_in (fetched halts server range (run_of halts old))) (λ halts. group_in (fetches halts server first count (run_of halts old))) old.group new (λ halts tells. ap group_in (fetch_is halts (run_of halts old)))

module _ (server first byte count : ℕ) (range : Span) (payload : List Sector) (writable : IsWritable first count) (is : range ≡ record { first = first; count = count }) (bytes : payload ≡ replicate count (replicate 512 byte)) where
  submit_is : (halts : List Halt) (c : ChunkRun) → chunk_submits halts server first byte count c ≡ happened halts c (events.Submit server (Write range payload))
  submit_is halts c =
      ap (λ b. if b then happened halts c (events.Submit server (filled_write first byte count)) else no_range server c) (range_true first count writable)
      ∙ ap (λ span. happened halts c (events.Submit server (Write span (replicate count (replicate 512 byte))))) (sym is)
      ∙ ap (λ sectors. happened halts c (events.Submit server (Write range sectors))) (sym bytes)

  submitted_one : (old : ChunkIs) (out : List ℕ) (answer : Answer) (put : List ℕ) (new : ChunkIs)
      → HasHappened (λ halts c. happened halts c (events.Submit server (Write range payload))) old out answer put new → HasHappened (λ halts c. chunk_submits halts server first byte count c) old out answer put new
  submitted_one old out answer put new =
      same_event (λ halts c. happened halts c (events.Submit server (Write range payload))) (λ halts c. chunk_submits halts server first byte count c) old out answer put new (λ halts. submit_is halts (run_of halts old))

  pub submitted_is : (old : ChunkIs) (out put : List ℕ) (new : ChunkIs) (result : Result Answer NoMemory)
      → IfOk result (λ answer. HasHappened (λ halts c. happened halts c (events.Submit server (Write range payload))) old out answer put new) → IfOk result (λ answer. HasHappened (λ halts c. chunk_submits halts server first byte count c) old out answer put new)
  submitted_is old out put new (Ok answer) went = submitted_one old out answer put new went
  submitted_is old out put new (Err e) went = tt

  pub submit_failed : (old : ChunkIs) (new : GroupIs) → EventHasFailed (λ halts. (happened halts (run_of halts old) (events.Submit server (Write range payload))).chunk.group) old.group new → EventHasFailed (λ halts. (chunk_submits halts server first byte count (run_of halts old)).chunk.group) old.group new
  submit_failed old new = failed_same (λ halts. group_in (happened halts (run_of halts old) (events.Submit server (Write range payload)))) (λ halts. group_in (chunk_submits halts server first byte count (run_of halts old))) old.group new (λ halts tells. ap group_in (submit_is halts (run_of halts old)))

pub may_submit : (first byte count : ℕ) (range : Span) (payload : List Sector) → IsWritable first count → range ≡ record { first = first; count = count } → payload ≡ replicate count (replicate 512 byte)
    → IsWritable range.first range.count × (length payload ≡ range.count) × Every (λ bytes. length bytes ≡ 512) payload
may_submit first byte count range payload writable is bytes = (
  subst (λ (span : Span). IsWritable span.first span.count) (sym is) writable,
  ap length bytes ∙ length-replicate count (replicate 512 byte) ∙ ap (λ (span : Span). span.count) (sym is),
  subst (Every (λ bytes. length bytes ≡ 512)) (sym bytes) (all_alike (λ bytes. length bytes ≡ 512) count (replicate 512 byte) (length-replicate 512 byte)),
)
