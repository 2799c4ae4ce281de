-- What steps do to the asks in the ports of the chunks.
use Rattle.std.proofs.Common.{◌≡◌, ◌≢◌, ℕ, ◌==◌, if◌then◌else◌, List, [], ◌∷◌, ◌++◌, length, Option, Some, None, slice_get, slice_set, inl, inr, refl, sym, ap, subst, ◌∙◌}
use Rattle.std.specs.Option.{option_map}
use Rattle.std.proofs.lemmas.Option.{none-some, same_Some, slice_get_within}
use Rattle.pf_base.specs.Span.{Span}
use Rattle.pf_base.specs.declared.asks.Ask.{Ask}
use Rattle.pf_base.specs.declared.asks.Reply.{Reply}
use Rattle.pf_base.specs.Asks.{chunk_of}
use Rattle.pf_entry.specs.Lists.{Every}
use Rattle.pf_entry.proofs.Cases.{by_test}
use Rattle.pf_entry.proofs.Lists.{set_cases}
use Rattle.pf_law_movers.specs.pf_group_network.proofs.Lists.{set_elsewhere, set_length, set_there}
use Rattle.pf_protocol.specs.declared.events.Event.{Event}
use Rattle.pf_asks.specs.declared.port.Sent.{Sent}
use Rattle.pf_asks.specs.Ports.{PortIs, ask_answered as answered_port, goes_to}
use Rattle.pf_law_movers.specs.pf_group_rounds.specs.Chunks.{event_answered}
use Rattle.pf_law_movers.specs.pf_group_rounds.specs.Halts.{Halt}
use Rattle.pf_law_movers.specs.pf_chunk.specs.Asking.{fetched}
use Rattle.pf_law_movers.specs.pf_chunk.specs.Asks.{serving_leader, ask_reply}
use Rattle.pf_law_movers.specs.pf_chunk.specs.Driving.{Driven, ask_after, port_asked, asked_at, driven, driven_at, driven_for, event_of_ask, handed_to, idle, led_to, replied, sent_of, with_port}
use Rattle.pf_law_movers.specs.pf_chunk.specs.Happenings.{followed, happened}
use Rattle.pf_law_movers.specs.pf_chunk.specs.Runs.{ChunkRun, most_ports}
use Rattle.pf_law_movers.specs.pf_chunk.proofs.Driven.{driven_extends}
use Rattle.pf_law_movers.specs.pf_world_moments.specs.Moments.{Writes}
use Rattle.pf_law_movers.specs.pf_world_moments.specs.Hosts.{Drove, drove, drove_of, handed_moments, put_at, run_after, with_run}
use Rattle.pf_law_movers.proofs.Lives.{its_own, not_its_own}
use Rattle.pf_law_movers.proofs.ToldRoutes.{Having, IsHome, IsHomeOf, IsStill}

-- the ask, where it is of this chunk
abbrev of_chunk : (chunk : ℕ) → Option Ask → Option Ask
of_chunk chunk None = None
of_chunk chunk (Some ask) = if chunk_of ask == chunk then Some ask else None

-- the ask, where the group has those of its chunk
abbrev pub asked_for : Option ℕ → Option Ask → Option Ask
asked_for None ask = None
asked_for (Some chunk) ask = of_chunk chunk ask

-- of all ports of mount m exactly that into the group that has the asks of this one's chunk has one, and it is this
abbrev pub HasAsked : Having → (m : ℕ) → Option Ask → List ChunkRun → Type 0
HasAsked of m ask chunks = (k : ℕ) (c : ChunkRun) (port : PortIs) → slice_get chunks k ≡ Some c → slice_get c.ports m ≡ Some port → port.ask ≡ asked_for (of k) ask

-- the chunk stands at its number, and has its ports
pub record IsPlaced (k : ℕ) (c : ChunkRun) : Type 0 where
  pub number : c.group.number ≡ k
  pub ports : length c.ports ≡ most_ports

abbrev pub ArePlaced : List ChunkRun → Type 0
ArePlaced chunks = (k : ℕ) (c : ChunkRun) → slice_get chunks k ≡ Some c → IsPlaced k c

-- the mount's port into chunk k has handed on nothing of its ask
abbrev pub IsUnsent : (m k : ℕ) → List ChunkRun → Type 0
IsUnsent m k chunks = (c : ChunkRun) (port : PortIs) → slice_get chunks k ≡ Some c → slice_get c.ports m ≡ Some port → port.sent ≡ None

-- One chunk

pub asked_with : (of : Having) (m : ℕ) (ask : Option Ask) (chunks : List ChunkRun) (k : ℕ) (d : ChunkRun) → HasAsked of m ask chunks → ((port : PortIs) → slice_get d.ports m ≡ Some port → port.ask ≡ asked_for (of k) ask)
    → HasAsked of m ask (slice_set chunks k d)
asked_with of m ask chunks k d before its j c port at there = elim (set_cases chunks k d j c at) [
  | inl here ↦
      subst (λ n. port.ask ≡ asked_for (of n) ask) (sym here.0) (its port (ap (λ (x : ChunkRun). slice_get x.ports m) here.1 ∙ there))
  | inr elsewhere ↦ before j c port elsewhere.1 there
]

-- the chunk's ports of the mount are as they were
pub asked_still : (of : Having) (m : ℕ) (ask : Option Ask) (chunks : List ChunkRun) (k : ℕ) (c d : ChunkRun) → slice_get chunks k ≡ Some c → slice_get d.ports m ≡ slice_get c.ports m → HasAsked of m ask chunks
    → HasAsked of m ask (slice_set chunks k d)
asked_still of m ask chunks k c d at same before = asked_with of m ask chunks k d before (λ port there. before k c port at (sym same ∙ there))

pub placed_with : (chunks : List ChunkRun) (k : ℕ) (c d : ChunkRun) → slice_get chunks k ≡ Some c → d.group.number ≡ c.group.number → length d.ports ≡ length c.ports → ArePlaced chunks → ArePlaced (slice_set chunks k d)
placed_with chunks k c d at same count before j x there = elim (set_cases chunks k d j x there) [
  | inl here ↦
      let was = before k c at in record {
        number = ap (λ (y : ChunkRun). y.group.number) (sym here.1) ∙ same ∙ was.number ∙ sym here.0;
        ports = ap (λ (y : ChunkRun). length y.ports) (sym here.1) ∙ count ∙ was.ports;
      }
  | inr elsewhere ↦ before j x elsewhere.1
]

-- what an event does to a chunk leaves its ports alone
pub happened_ports : (halts : List Halt) (c : ChunkRun) (event : Event) → (happened halts c event).chunk.ports ≡ c.ports
unfolding followed
happened_ports halts c event = refl

pub fetched_ports : (halts : List Halt) (server : ℕ) (range : Span) (c : ChunkRun) → (fetched halts server range c).chunk.ports ≡ c.ports
unfolding followed
fetched_ports halts server range c = refl

-- An ask is put

of_its_chunk : (of : Having) (k : ℕ) (ask : Ask) → of k ≡ Some (chunk_of ask) → asked_for (of k) (Some ask) ≡ Some ask
of_its_chunk of k ask same = ap (λ o. asked_for o (Some ask)) same ∙ its_own (chunk_of ask) (chunk_of ask) (Some ask) None refl

none_for : (o : Option ℕ) (ask : Ask) → (o ≡ Some (chunk_of ask) → ⊥) → asked_for o (Some ask) ≡ None
none_for None ask other = refl
none_for (Some chunk) ask other = not_its_own (chunk_of ask) chunk (Some ask) None (λ same. other (ap (λ i. Some i) (sym same)))

of_another : (of : Having) (k : ℕ) (ask : Ask) → (of k ≡ Some (chunk_of ask) → ⊥) → asked_for (of k) (Some ask) ≡ None
of_another of k ask other = none_for (of k) ask other

pub nothing_for : (o : Option ℕ) → asked_for o None ≡ None
nothing_for None = refl
nothing_for (Some chunk) = refl

-- nothing pends, whoever has the asks
pub none_asked_of : (of its : Having) (m : ℕ) (chunks : List ChunkRun) → HasAsked of m None chunks → HasAsked its m None chunks
none_asked_of of its m chunks before k c port at there = before k c port at there ∙ nothing_for (of k) ∙ sym (nothing_for (its k))

module _ (m : ℕ) (ask : Ask) where
  pub put_there : (c : ChunkRun) (at : Option PortIs) (port : PortIs) → slice_get c.ports m ≡ at → slice_get (asked_at c m ask at).ports m ≡ Some port → (port.ask ≡ Some ask) × (port.sent ≡ None)
  put_there c None port none there = absurd (none-some port (sym none ∙ there))
  put_there c (Some p) port some there =
      let q : PortIs = record p { ask = Some ask; sent = None } in
      let same : q ≡ port = same_Some q port (sym (set_there c.ports m q (slice_get_within c.ports m p some)) ∙ there) in
      (ap (λ (x : PortIs). x.ask) (sym same), ap (λ (x : PortIs). x.sent) (sym same))

  pub put_elsewhere : (n : ℕ) (c : ChunkRun) (at : Option PortIs) → n ≢ m → slice_get (asked_at c m ask at).ports n ≡ slice_get c.ports n
  put_elsewhere n c None other = refl
  put_elsewhere n c (Some p) other = set_elsewhere c.ports m n (record p { ask = Some ask; sent = None }) other

  put_number : (c : ChunkRun) (at : Option PortIs) → (asked_at c m ask at).group.number ≡ c.group.number
  put_number c None = refl
  put_number c (Some p) = refl

  put_count : (c : ChunkRun) (at : Option PortIs) → length (asked_at c m ask at).ports ≡ length c.ports
  put_count c None = refl
  put_count c (Some p) = set_length c.ports m (record p { ask = Some ask; sent = None })

  module _ (chunks : List ChunkRun) (g : ℕ) where
    abbrev put_in : Option ChunkRun → List ChunkRun
    put_in at = with_run chunks g (run_after at (λ c. port_asked c m ask))

    placed_put : (at : Option ChunkRun) → slice_get chunks g ≡ at → ArePlaced chunks → ArePlaced (put_in at)
    placed_put None there before = before
    placed_put (Some c) there before = placed_with chunks g c (port_asked c m ask) there (put_number c (slice_get c.ports m)) (put_count c (slice_get c.ports m)) before

    others_put : (of : Having) (at : Option ChunkRun) (n : ℕ) (its : Option Ask) → slice_get chunks g ≡ at → n ≢ m → HasAsked of n its chunks → HasAsked of n its (put_in at)
    others_put of None n its there other before = before
    others_put of (Some c) n its there other before = asked_still of n its chunks g c (port_asked c m ask) there (put_elsewhere n c (slice_get c.ports m) other) before

    its_put : (of : Having) (at : Option ChunkRun) → IsHomeOf of (chunk_of ask) g → slice_get chunks g ≡ at → HasAsked of m None chunks → HasAsked of m (Some ask) (put_in at)
    its_put of None home there before k c port at is =
        before k c port at is ∙ nothing_for (of k) ∙ sym (of_another of k ask (λ same. none-some c (sym there ∙ ap (slice_get chunks) (sym (home.alone k same)) ∙ at)))
    its_put of (Some d) home there before k c port at is = elim (set_cases chunks g (port_asked d m ask) k c at) [
      | inl here ↦
          (put_there d (slice_get d.ports m) port refl (ap (λ (x : ChunkRun). slice_get x.ports m) here.1 ∙ is)).0 ∙ sym (of_its_chunk of k ask (ap of here.0 ∙ home.here))
      | inr elsewhere ↦ before k c port elsewhere.1 is ∙ nothing_for (of k) ∙ sym (of_another of k ask (λ same. elsewhere.0 (home.alone k same)))
    ]

    unsent_put : (at : Option ChunkRun) → slice_get chunks g ≡ at → IsUnsent m g (put_in at)
    unsent_put None there c port at is = absurd (none-some c (sym there ∙ at))
    unsent_put (Some d) there c port at is = elim (set_cases chunks g (port_asked d m ask) g c at) [
      | inl here ↦ (put_there d (slice_get d.ports m) port refl (ap (λ (x : ChunkRun). slice_get x.ports m) here.1 ∙ is)).1
      | inr elsewhere ↦ absurd (elsewhere.0 refl)
    ]

  module _ (chunks : List ChunkRun) where
    pub put_placed : (group : Option ℕ) → ArePlaced chunks → ArePlaced (put_at chunks group m ask)
    put_placed None are = are
    put_placed (Some g) are = placed_put chunks g (slice_get chunks g) refl are

    pub put_others : (of : Having) (group : Option ℕ) (n : ℕ) (its : Option Ask) → n ≢ m → HasAsked of n its chunks → HasAsked of n its (put_at chunks group m ask)
    put_others of None n its other before = before
    put_others of (Some g) n its other before = others_put chunks g of (slice_get chunks g) n its refl other before

    pub put_asked : (of : Having) (group : Option ℕ) → IsHome of (chunk_of ask) group → HasAsked of m None chunks → HasAsked of m (Some ask) (put_at chunks group m ask)
    put_asked of None home before = λ k c port at is. before k c port at is ∙ nothing_for (of k) ∙ sym (of_another of k ask (home k))
    put_asked of (Some g) home before = its_put chunks g of (slice_get chunks g) home refl before

    pub put_unsent : (group : Option ℕ) (g : ℕ) → group ≡ Some g → IsUnsent m g (put_at chunks group m ask)
    put_unsent None g same = absurd (none-some g same)
    put_unsent (Some k) g same = subst (λ n. IsUnsent m n (put_at chunks (Some k) m ask)) (same_Some k g same) (unsent_put chunks k (slice_get chunks k) refl)

    counted : (g : ℕ) (at : Option ChunkRun) → length (with_run chunks g (run_after at (λ c. port_asked c m ask))) ≡ length chunks
    counted g None = refl
    counted g (Some c) = set_length chunks g (port_asked c m ask)

    pub put_counts : (group : Option ℕ) → length (put_at chunks group m ask) ≡ length chunks
    put_counts None = refl
    put_counts (Some g) = counted g (slice_get chunks g)

-- A step of a port

-- of the chunk's ports that of mount m alone is different; its ask is pending until it is answered, and what was not handed on is not answered
pub record DrivesPort (m : ℕ) (c : ChunkRun) (d : Driven) : Type 0 where
  pub count : length d.chunk.ports ≡ length c.ports
  pub others : (n : ℕ) → n ≢ m → slice_get d.chunk.ports n ≡ slice_get c.ports n
  pub its : (port : PortIs) → slice_get d.chunk.ports m ≡ Some port → (before : PortIs) × (slice_get c.ports m ≡ Some before) × (port.ask ≡ ask_after d.reply before.ask)
  pub unsent : ((port : PortIs) → slice_get c.ports m ≡ Some port → port.sent ≡ None) → d.reply ≡ None

module _ (halts : List Halt) (c : ChunkRun) (m : ℕ) where
  stays : DrivesPort m c (idle c)
  stays = record { count = refl; others = λ n other. refl; its = λ port at. (port, at, refl); unsent = λ none. refl }

  module _ (p : PortIs) (there : slice_get c.ports m ≡ Some p) where
    -- another port stands in its place
    puts : (q : PortIs) (d : Driven) → d.chunk.ports ≡ slice_set c.ports m q → q.ask ≡ ask_after d.reply p.ask → (p.sent ≡ None → d.reply ≡ None) → DrivesPort m c d
    puts q d ports ask unsent = record {
      count = ap length ports ∙ set_length c.ports m q;
      others = λ n other. ap (λ ps. slice_get ps n) ports ∙ set_elsewhere c.ports m n q other;
      its = λ port at.
          let same : q ≡ port = same_Some q port (sym (set_there c.ports m q (slice_get_within c.ports m p there)) ∙ ap (λ ps. slice_get ps m) (sym ports) ∙ at) in
          (p, there, ap (λ (x : PortIs). x.ask) (sym same) ∙ ask);
      unsent = λ none. unsent (none p there);
    }

    hands : (event : Event) (term : ℕ) → DrivesPort m c (handed_to halts c m p event term)
    hands event term =
        let q : PortIs = record p { sent = sent_of (event_answered halts c.group event); last = term } in
        puts q (handed_to halts c m p event term) (happened_ports halts (with_port c m q) event) refl (λ none. refl)

    pub leads : (ask : Ask) (leader : Option (ℕ × ℕ)) → DrivesPort m c (led_to halts c m p ask leader)
    leads ask None = stays
    leads ask (Some (term, server)) =
        by_test (goes_to p.sent p.last term) (λ b. DrivesPort m c (if b then handed_to halts c m p (event_of_ask ask server) term else idle c))
        (λ _. hands (event_of_ask ask server) term)
        (λ _. stays)

    replies : (ask : Ask) (reply : Option Reply) → ask_reply c.group.state p.sent p.last ≡ reply → DrivesPort m c (replied halts c m p ask reply)
    replies ask None is = leads ask (serving_leader c.group.state)
    replies ask (Some reply) is =
        puts (answered_port p) (replied halts c m p ask (Some reply)) refl refl
        (λ none. absurd (none-some reply (ap (λ (s : Option Sent). ask_reply c.group.state s p.last) (sym none) ∙ is)))

    asks : (ask : Option Ask) → DrivesPort m c (driven_for halts c m p ask)
    asks None = stays
    asks (Some ask) = replies ask (ask_reply c.group.state p.sent p.last) refl

  at_port : (at : Option PortIs) → slice_get c.ports m ≡ at → DrivesPort m c (driven_at halts c m at)
  at_port None there = stays
  at_port (Some p) there = asks p there p.ask

  pub drives_port : DrivesPort m c (driven halts c m)
  drives_port = at_port (slice_get c.ports m) refl

-- what is left of a group's ask once it may be answered
asked_after : (of : Option ℕ) (reply : Option Reply) (ask before : Option Ask) → before ≡ asked_for of ask → ask_after reply before ≡ asked_for of (ask_after reply ask)
asked_after of None ask before is = is
asked_after of (Some reply) ask before is = sym (nothing_for of)

-- the ask is of no other chunk
after_elsewhere : (of : Option ℕ) (chunk : ℕ) (reply : Option Reply) (ask : Option Ask) → option_map chunk_of ask ≡ Some chunk → (of ≡ Some chunk → ⊥) → asked_for of ask ≡ asked_for of (ask_after reply ask)
after_elsewhere of chunk None ask is other = refl
after_elsewhere of chunk (Some reply) None is other = refl
after_elsewhere of chunk (Some reply) (Some ask) is other = none_for of ask (λ same. other (same ∙ is)) ∙ sym (nothing_for of)

-- the port of mount m into group k took a step
pub record DrivesAt (m k : ℕ) (old : List ChunkRun) (d : Drove) : Type 0 where
  pub placed : ArePlaced old → ArePlaced d.chunks
  pub count : length d.chunks ≡ length old
  pub others : (of : Having) (n : ℕ) (ask : Option Ask) → n ≢ m → HasAsked of n ask old → HasAsked of n ask d.chunks
  pub its : (of : Having) (chunk : ℕ) (ask : Option Ask) → option_map chunk_of ask ≡ Some chunk → IsHomeOf of chunk k → HasAsked of m ask old → HasAsked of m (ask_after d.reply ask) d.chunks
  pub unsent : IsUnsent m k old → d.reply ≡ None
  pub still : Every IsStill d.told

module _ (halts : List Halt) (old : List ChunkRun) (m k : ℕ) where
  its_after : (of : Having) (chunk : ℕ) (c : ChunkRun) (ask : Option Ask) → slice_get old k ≡ Some c → option_map chunk_of ask ≡ Some chunk → IsHomeOf of chunk k → HasAsked of m ask old
      → HasAsked of m (ask_after (driven halts c m).reply ask) (slice_set old k (driven halts c m).chunk)
  its_after of chunk c ask there is_of home before j x port at is =
      let d : Driven = driven halts c m in
      elim (set_cases old k d.chunk j x at) [
        | inl here ↦
            let was = (drives_port halts c m).its port (ap (λ (y : ChunkRun). slice_get y.ports m) here.1 ∙ is) in
            subst (λ n. port.ask ≡ asked_for (of n) (ask_after d.reply ask)) (sym here.0) (was.2 ∙ asked_after (of k) d.reply ask was.0.ask (before k c was.0 there was.1))
        | inr elsewhere ↦ before j x port elsewhere.1 is ∙ after_elsewhere (of j) chunk d.reply ask is_of (λ same. elsewhere.0 (home.alone j same))
      ]

  told_still : (place : Option ℕ) (text : List ℕ) → Every IsStill (handed_moments m k place ++ Writes text ∷ [])
  told_still None text = (tt, tt)
  told_still (Some place) text = (tt, (tt, tt))

  at_chunk : (at : Option ChunkRun) → slice_get old k ≡ at → DrivesAt m k old (drove_of halts old m k at)
  at_chunk None there = record {
    placed = λ are. are;
    count = refl;
    others = λ of n ask other asked. asked;
    its = λ of chunk ask is home asked. asked;
    unsent = λ none. refl;
    still = tt;
  }
  at_chunk (Some c) there =
      let d : Driven = driven halts c m in
      let drives = drives_port halts c m in record {
        placed = placed_with old k c d.chunk there (driven_extends halts c m).0 drives.count;
        count = set_length old k d.chunk;
        others = λ of n ask other. asked_still of n ask old k c d.chunk there (drives.others n other);
        its = λ of chunk ask is home. its_after of chunk c ask there is home;
        unsent = λ none. drives.unsent (λ port at. none c port there at);
        still = told_still d.place d.text;
      }

  pub drives_at : DrivesAt m k old (drove halts old m k)
  drives_at = at_chunk (slice_get old k) refl
