-- An answered read has as many sectors as it was asked for.
use Rattle.std.proofs.Common.{◌≡◌, ℕ, zero, suc, ◌+◌, ◌≤◌, inl, inr, Bool, true, false, not, nat_le, ◌||◌, List, [], ◌∷◌, length, Option, Some, None, slice_get, arith, refl, sym, ap, subst, ◌∙◌}
use Rattle.std.specs.Prelude.{IfSome, IsTrue}
use Rattle.std.proofs.lemmas.Bool.{eqb-true, leb-true}
use Rattle.std.proofs.lemmas.Option.{none-some, same_Some}
use Rattle.pf_base.specs.Span.{IsWritable, Span, fits_in, is_whole}
use Rattle.pf_entry.specs.Ops.{Sector}
use Rattle.pf_protocol.specs.declared.answers.Answer.TheVariants.{Read as ReadIs, Refused}
use Rattle.pf_protocol.specs.declared.answers.Refusal.{Refusal}
use Rattle.pf_protocol.specs.declared.answers.Refusal.TheVariants.{BadRange, Down, Halted, NotLeader}
use Rattle.pf_protocol.specs.declared.events.Event.TheVariants.{Fetch}
use Rattle.pf_protocol.specs.declared.events.Happening.{Happening}
use Rattle.pf_protocol.specs.Servers.{Condition, Running, Server, Setup, Stopped, Unformatted}
use Rattle.pf_protocol.specs.Groups.{Group, ending, happens, opening}
use Rattle.pf_protocol.specs.Histories.{History}
use Rattle.pf_protocol.specs.Answers.{Claimed, IsAnswer, IsLegal, IsLegalFrom, IsLegalNext, answer_at, answer_by, answer_to, claims_after, fetch_refusal, fetch_turn, is_serving, refuse, room_refusal}
use Rattle.pf_protocol.specs.Leading.{on_fetch}
use Rattle.pf_law_positions.proofs.Answers.{eight_given}
use Rattle.pf_law_positions.proofs.TakenReads.{answered_taken_up}
use Rattle.pf_group_rounds.specs.pf_group.specs.GroupIs.{GroupIs}
use Rattle.pf_group_rounds.specs.pf_group.specs.Readers.{GroupHasTaken}
use Rattle.pf_chunk.specs.Views.{IsFetched}

number_apart : (number : ℕ) (refusal : Refusal) → ReadIs number ≡ Refused refusal → ⊥
number_apart number refusal e = cc

module _ (setup : Setup) (g : Group) (i number : ℕ) (range : Span) where
  by_fit : (s : Server) (fits : Bool) → fits_in range setup.chunk ≡ fits → ReadIs number ≡ (answer_at (Some (Running s)) (fetch_turn setup g range)) → fits ≡ true
  unfolding fetch_refusal
  by_fit s true is answer = refl
  by_fit s false is answer =
      absurd (number_apart number BadRange
      (answer ∙ ap (λ fit. answer_by (refuse (not fit) BadRange (refuse (not (is_serving s.role)) NotLeader (room_refusal g (on_fetch s range g.reads s.role)))) (on_fetch s range g.reads s.role).answer) is))

  by_condition : (c : Option Condition) → ReadIs number ≡ answer_at c (fetch_turn setup g range) → fits_in range setup.chunk ≡ true
  by_condition (Some (Running s)) answer = by_fit s (fits_in range setup.chunk) refl answer
  by_condition (Some (Stopped life before after)) answer = absurd (number_apart number Down answer)
  by_condition (Some Unformatted) answer = absurd (number_apart number Down answer)
  by_condition None answer = absurd (number_apart number Down answer)

  -- a range that does not fit is refused
  fits : IsAnswer setup g (Fetch i range) (ReadIs number) → fits_in range setup.chunk ≡ true
  unfolding answer_to
  fits answer = elim answer [
    | inl is ↦ by_condition (slice_get g.servers i) is
    | inr halted ↦ absurd (number_apart number Halted halted.1)
  ]

-- a happening of a legal history could be asked for and has its answer
record Stood (setup : Setup) (h : Happening) : Type 0 where
  before : Group
  claims : List Claimed
  next : IsLegalNext setup before claims h

stood : (setup : Setup) (history : History) (g : Group) (claims : List Claimed) (k : ℕ) (h : Happening) → IsLegalFrom setup g claims history → slice_get history k ≡ Some h → Stood setup h
stood setup [] g claims k h legal at = absurd (none-some h at)
stood setup (x ∷ xs) g claims zero h legal at = subst (Stood setup) (same_Some x h at) (record { before = g; claims = claims; next = legal.0 })
stood setup (x ∷ xs) g claims (suc k) h legal at = stood setup xs (happens setup g x.event (ending x.answer)) (claims_after claims x.event x.answer) k h legal.1 at

within : (range : Span) (sectors : ℕ) → IsWritable range.first range.count → fits_in range sectors ≡ true → range.first + range.count ≤ sectors
within range sectors writable is = by (is_whole range) refl
  where
    by : (w : Bool) → is_whole range ≡ w → range.first + range.count ≤ sectors
    by true whole = absurd (omega (arith, eqb-true range.count 255 whole, writable.few))
    by false whole = leb-true (range.first + range.count) sectors (sym (ap (λ w. w || nat_le (range.first + range.count) sectors) whole) ∙ is)

pub counted : (g : GroupIs) → IsTrue g.told → IsLegal g.setup g.history → (number : ℕ) (bytes : List Sector) (new : GroupIs) → GroupHasTaken g number bytes new → (range : Span) → IsFetched g.history number range → length bytes ≡ range.count
counted g told legal number bytes new taken range fetched =
    let its = taken.answer told in
    let a = its.answer in
    let up = answered_taken_up g.setup g.history fetched.place fetched.server its.k range a legal (fetched.happened ∙ ap (λ n. Some (record { event = Fetch fetched.server range; answer = ReadIs n })) (sym its.numbered)) its.there in
    let s = stood g.setup g.history (opening g.setup) [] fetched.place (record { event = Fetch fetched.server range; answer = ReadIs number }) legal.legal fetched.happened in
    let low = within range g.setup.chunk s.next.asked.1 (fits g.setup s.before fetched.server number range s.next.answered) in
    let same = up.same_range in
    ap length (sym its.sectors)
    ∙ eight_given g.setup g.history its.k a legal its.there (subst (λ (r : Span). r.first + r.count ≤ g.setup.chunk) (sym same) low)
    ∙ ap (λ (r : Span). r.count) same

pub whole : (g : GroupIs) → (IsTrue g.told → IsLegal g.setup g.history) → (number : ℕ) (answer : Option (List Sector)) (new : GroupIs) → IfSome answer (λ bytes. GroupHasTaken g number bytes new)
    → IfSome answer (λ sectors. (count : ℕ) → IsTrue g.told × ((range : Span) × IsFetched g.history number range × (range.count ≡ count)) → length sectors ≡ count)
whole g legal number None new taken = tt
whole g legal number (Some sectors) new taken = λ count c. counted g c.0 (legal c.0) number sectors new taken c.1.0 c.1.1 ∙ c.1.2
