-- Each write of a group was handed on by a port.
use Rattle.std.proofs.Common.{◌≡◌, ◌⊎◌, ℕ, inl, inr, List, [], ◌∷◌, ◌++◌, Option, Some, None, slice_get, slice_set, refl, sym, ap, subst, ◌∙◌}
use Rattle.std.proofs.lemmas.List.{append_assoc}
use Rattle.pf_base.specs.Span.{Span}
use Rattle.pf_base.specs.declared.asks.Ask.{Ask}
use Rattle.pf_entry.specs.Ops.{Sector}
use Rattle.pf_entry.specs.declared.ops.Op.TheVariants.{Write}
use Rattle.pf_entry.proofs.Lists.{set_cases}
use Rattle.pf_protocol.specs.declared.answers.Answer.{Answer}
use Rattle.pf_protocol.specs.declared.events.Event.TheVariants.{Submit}
use Rattle.pf_protocol.specs.declared.events.Happening.{Happening}
use Rattle.pf_asks.specs.Ports.{PortIs}
use Rattle.pf_law_movers.specs.pf_group_network.proofs.Lists.{end_cases}
use Rattle.pf_law_movers.specs.pf_group_rounds.specs.Chunks.{Chunk}
use Rattle.pf_law_movers.specs.pf_group_rounds.specs.Halts.{Halt}
use Rattle.pf_law_movers.specs.pf_chunk.specs.Driving.{Driven, port_asked, asked_at, driven, event_of_ask}
use Rattle.pf_law_movers.specs.pf_chunk.specs.Runs.{ChunkRun}
use Rattle.pf_law_movers.specs.pf_world_moments.specs.Hosts.{drove_of, handed_moments, put_at, run_after, with_run}
use Rattle.pf_law_movers.specs.pf_world_moments.specs.Moments.{Hands, Moment, Writes}
use Rattle.pf_law_movers.specs.Handing.{AreMountsAlone}
use Rattle.pf_law_movers.proofs.Handovers.{IsHandedIf, driven_hands}
use Rattle.pf_law_movers.proofs.WriteEvents.{AddsNoWrite, none_added}

-- some mount's port into chunk k handed an ask on by the event at this place
abbrev pub WasHanded : List Moment → (k place : ℕ) → Type 0
WasHanded told k place = (before : List Moment) × (m : ℕ) × (after : List Moment) × (told ≡ before ++ Hands m k place ∷ after)

handed_before : (told more : List Moment) (k place : ℕ) → WasHanded told k place → WasHanded (told ++ more) k place
handed_before told more k place was =
    (was.0, was.1, was.2 ++ more, ap (λ (all : List Moment). all ++ more) was.3 ∙ append_assoc was.0 (Hands was.1 k place ∷ was.2) more)

-- more was told
pub alone_told : (chunks : List ChunkRun) (told more : List Moment) → AreMountsAlone chunks told → AreMountsAlone chunks (told ++ more)
alone_told chunks told more are k place server c range sectors answer there at = handed_before told more k place (are k place server c range sectors answer there at)

-- each write of the chunk stood there before, or was handed on
abbrev pub AddsOwnWrites : List Moment → (k : ℕ) → (c d : ChunkRun) → Type 0
AddsOwnWrites told k c d =
    (place server : ℕ) (range : Span) (sectors : List Sector) (answer : Answer)
    → slice_get d.group.history place ≡ Some (record { event = Submit server (Write range sectors); answer = answer })
    → (slice_get c.group.history place ≡ Some (record { event = Submit server (Write range sectors); answer = answer })) ⊎ WasHanded told k place

-- one chunk is another, and as much was told or more
pub alone_set : (chunks : List ChunkRun) (told now : List Moment) → ((k place : ℕ) → WasHanded told k place → WasHanded now k place) → (k : ℕ) (c d : ChunkRun) → slice_get chunks k ≡ Some c → AddsOwnWrites now k c d
    → AreMountsAlone chunks told → AreMountsAlone (slice_set chunks k d) now
alone_set chunks told now still k c d at own are j place server x range sectors answer there write = elim (set_cases chunks k d j x there) [
  | inl here ↦
      let its = subst (λ (y : ChunkRun). slice_get y.group.history place ≡ Some (record { event = Submit server (Write range sectors); answer = answer })) (sym here.1) write in
      subst (λ (i : ℕ). WasHanded now i place) (sym here.0) (elim (own place server range sectors answer its) [
        | inl old ↦ still k place (are k place server c range sectors answer at old)
        | inr new ↦ new
      ])
  | inr away ↦ still j place (are j place server x range sectors answer away.1 write)
]

pub adds_none : (told : List Moment) (k : ℕ) (c d : ChunkRun) → AddsNoWrite c.group.history d.group.history → AddsOwnWrites told k c d
adds_none told k c d none place server range sectors answer at = inl (none place server range sectors answer at)

-- a port's step
module _ (chunks : List ChunkRun) (told : List Moment) (are : AreMountsAlone chunks told) (m k : ℕ) where
  own_writes : (c : ChunkRun) (d : Driven) (place : Option ℕ) → IsHandedIf m c d place → AddsOwnWrites (told ++ handed_moments m k place) k c d.chunk
  own_writes c d None hands = adds_none (told ++ []) k c d.chunk (subst (λ (g : Chunk). AddsNoWrite c.group.history g.history) (sym hands) (none_added c.group.history))
  own_writes c d (Some place) hands = λ at server range sectors answer write.
      let x : Happening = record { event = event_of_ask hands.ask hands.server; answer = hands.answer } in
      elim (end_cases c.group.history x at (record { event = Submit server (Write range sectors); answer = answer }) (hands.adds at server range sectors answer write)) [
        | inl old ↦ inl old
        | inr last ↦ inr (told, m, [], ap (λ (i : ℕ). told ++ Hands m k i ∷ []) (hands.at ∙ sym last.0))
      ]

  pub step_alone : (c : ChunkRun) (d : Driven) → slice_get chunks k ≡ Some c → IsHandedIf m c d d.place → AreMountsAlone (slice_set chunks k d.chunk) (told ++ handed_moments m k d.place)
  step_alone c d there hands = let more = handed_moments m k d.place in alone_set chunks told (told ++ more) (handed_before told more) k c d.chunk there (own_writes c d d.place hands) are

  pub drove_alone : (halts : List Halt) (o : Option ChunkRun) → slice_get chunks k ≡ o → AreMountsAlone (drove_of halts chunks m k o).chunks (told ++ (drove_of halts chunks m k o).told)
  drove_alone halts None there = alone_told chunks told [] are
  drove_alone halts (Some c) there =
      let d : Driven = driven halts c m in
      let now = slice_set chunks k d.chunk in
      subst (AreMountsAlone now) (append_assoc told (handed_moments m k d.place) (Writes d.text ∷ [])) (alone_told now (told ++ handed_moments m k d.place) (Writes d.text ∷ []) (step_alone c d there (driven_hands halts c m)))

-- an ask is put into a port
asked_alone : (chunks : List ChunkRun) (told more : List Moment) (m k : ℕ) (ask : Ask) (o : Option ChunkRun) → slice_get chunks k ≡ o → AreMountsAlone chunks told → AreMountsAlone (with_run chunks k (run_after o (λ c. port_asked c m ask))) (told ++ more)
asked_alone chunks told more m k ask None there are = alone_told chunks told more are
asked_alone chunks told more m k ask (Some c) there are =
    alone_set chunks told (told ++ more) (handed_before told more) k c (port_asked c m ask) there (adds_none (told ++ more) k c (port_asked c m ask) (subst (λ (g : Chunk). AddsNoWrite c.group.history g.history) (by (slice_get c.ports m)) (none_added c.group.history))) are
  where
    by : (p : Option PortIs) → c.group ≡ (asked_at c m ask p).group
    by None = refl
    by (Some p) = refl

pub put_alone : (chunks : List ChunkRun) (told more : List Moment) (group : Option ℕ) (m : ℕ) (ask : Ask) → AreMountsAlone chunks told → AreMountsAlone (put_at chunks group m ask) (told ++ more)
put_alone chunks told more None m ask are = alone_told chunks told more are
put_alone chunks told more (Some k) m ask are = asked_alone chunks told more m k ask (slice_get chunks k) refl are
