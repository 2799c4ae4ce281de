-- What happens to a chunk of a run: its group is legal with no open claim before and after.
use Rattle.std.proofs.Common.{◌≡◌, ℕ, zero, suc, ◌+◌, true, ◌&&◌, List, [], length, replicate, nat_le, refl, sym, ap, subst, ◌∙◌}
use Rattle.std.proofs.lemmas.Bool.{and_parts, leb-true}
use Rattle.std.proofs.lemmas.List.{length-replicate}
use Rattle.pf_base.specs.Span.{Span, IsWritable}
use Rattle.pf_entry.specs.Lists.{Every}
use Rattle.pf_protocol.specs.declared.answers.Answer.{Answer}
use Rattle.pf_protocol.specs.declared.events.Event.{Event}
use Rattle.pf_protocol.specs.declared.events.Event.TheVariants.{Submit, Fetch, Deliver, Lose, Elect, Resend, Stop, Restart, Claim, Finish, GiveBack, Checkpoint}
use Rattle.pf_protocol.specs.Answers.{IsSubmitted, MayHappen, claims_after}
use Rattle.pf_world.specs.pf_group.proofs.Claims.{claims_more}
use Rattle.pf_world.specs.pf_group_rounds.specs.Halts.{Halt}
use Rattle.pf_world.specs.pf_group_rounds.specs.Chunks.{Chunk, after, event_answered, event_listed, listed_at}
use Rattle.pf_world.specs.pf_chunk.specs.Asking.{fetched, filled_write, is_range}
use Rattle.pf_world.specs.pf_chunk.specs.Happenings.{followed, happened}
use Rattle.pf_world.specs.pf_chunk.specs.Runs.{ChunkRun}
use Rattle.pf_law_legal.proofs.LegalEvents.{one_more}
use Rattle.pf_law_legal.proofs.Rounds.{IsIdle, applied_holds, idle_claims}

-- an event that may happen where no claim is open, and opens none
abbrev pub MayCome : Event → Type 0
MayCome Claim = ⊥
MayCome (Finish i life slot) = ⊥
MayCome (GiveBack i life slot) = ⊥
MayCome event = MayHappen [] event

module _ (halts : List Halt) (number n : ℕ) where
  comes_with_none : (event : Event) (answer : Answer) → MayCome event → claims_after [] (listed_at halts number n event) answer ≡ []
  comes_with_none (Submit i op) answer may = refl
  comes_with_none (Fetch i range) answer may = refl
  comes_with_none (Deliver k) answer may = refl
  comes_with_none (Lose k) answer may = refl
  comes_with_none (Elect i) answer may = refl
  comes_with_none (Resend i) answer may = refl
  comes_with_none (Stop i) answer may = refl
  comes_with_none (Restart i found) answer may = refl
  comes_with_none Claim answer may = absurd may
  comes_with_none (Finish i life slot) answer may = absurd may
  comes_with_none (GiveBack i life slot) answer may = absurd may
  comes_with_none (Checkpoint i) answer may = refl

may_happen : (event : Event) → MayCome event → MayHappen [] event
may_happen (Submit i op) may = may
may_happen (Fetch i range) may = may
may_happen (Deliver k) may = may
may_happen (Lose k) may = may
may_happen (Elect i) may = may
may_happen (Resend i) may = may
may_happen (Stop i) may = may
may_happen (Restart i found) may = may
may_happen Claim may = absurd may
may_happen (Finish i life slot) may = absurd may
may_happen (GiveBack i life slot) may = absurd may
may_happen (Checkpoint i) may = may

module _ (halts : List Halt) where
  pub after_idle : (c : Chunk) (event : Event) → MayCome event → IsIdle c → IsIdle (after halts c event)
  unfolding after
  after_idle c event may is = record {
    standing = one_more halts c event is.standing (subst (λ claims. MayHappen claims event) (sym (idle_claims c is)) (may_happen event may));
    claims = record {
      claims = claims_more c.history [] (record { event = event_listed halts c event; answer = event_answered halts c event })
          ∙ ap (λ claims. claims_after claims (event_listed halts c event) (event_answered halts c event)) (idle_claims c is)
          ∙ comes_with_none halts c.number (length c.history) event (event_answered halts c event) may;
      apart = tt;
    };
  }

  pub followed_idle : (c : ChunkRun) (answer : Answer) → IsIdle c.group → IsIdle (followed halts c answer).chunk.group
  unfolding followed
  followed_idle c answer is = applied_holds halts c.group is

  pub happened_idle : (c : ChunkRun) (event : Event) → MayCome event → IsIdle c.group → IsIdle (happened halts c event).chunk.group
  happened_idle c event may is = followed_idle (record c { group = after halts c.group event }) (event_answered halts c.group event) (after_idle c.group event may is)

  -- a read that a line takes up
  pub fetched_idle : (c : ChunkRun) (server : ℕ) (range : Span) → MayCome (Fetch server range) → IsIdle c.group → IsIdle (fetched halts server range c).chunk.group
  unfolding followed
  fetched_idle c server range may is = applied_holds halts (after halts c.group (Fetch server range)) (after_idle c.group (Fetch server range) may is)

-- what lines name
pub range_is : (first count : ℕ) → is_range first count ≡ true → IsWritable first count
range_is first count is =
    let parts = and_parts (nat_le 1 count && nat_le count 8) (nat_le (first + count) 4096) is in
    let more = and_parts (nat_le 1 count) (nat_le count 8) parts.0 in
    record { some = leb-true 1 count more.0; few = leb-true count 8 more.1; low = leb-true (first + count) 4096 parts.1 }

all_filled : (n : ℕ) (bytes : List ℕ) → length bytes ≡ 512 → Every (λ (b : List ℕ). length b ≡ 512) (replicate n bytes)
all_filled zero bytes is = tt
all_filled (suc n) bytes is = (is, all_filled n bytes is)

pub filled_is : (first byte count : ℕ) → is_range first count ≡ true → IsSubmitted (filled_write first byte count)
filled_is first byte count is = (range_is first count is, length-replicate count (replicate 512 byte), all_filled count (replicate 512 byte) (length-replicate 512 byte))
