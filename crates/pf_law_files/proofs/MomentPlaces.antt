-- What was told, at its moments: of each input of a mount what it is at the chunks, and nobody asks anything between them.
use Rattle.std.proofs.Common.{◌≡◌, ◌≢◌, ◌⊎◌, inl, inr, ℕ, zero, suc, ◌+◌, ◌<◌, ◌≤◌, ◌==◌, if◌then◌else◌, List, [], ◌∷◌, length, take, Option, Some, None, slice_get, arith, refl, ap, subst, ◌∙◌}
use Rattle.std.proofs.lemmas.Bool.{cond-false, cond-true, eq-eqb, ne_eqb}
use Rattle.std.proofs.lemmas.Option.{none-some, same_Some}
use Rattle.pf_base.specs.declared.asks.Ask.{Ask}
use Rattle.pf_entry.proofs.Cases.{by_test}
use Rattle.pf_protocol.specs.Groups.{Answered}
use Rattle.pf_law_positions.specs.Deeds.{Deed}
use Rattle.pf_volume.specs.Volumes.{Extent, IsVolume}
use Rattle.pf_journal.specs.declared.layouts.Layout.{Layout}
use Rattle.pf_journal.specs.Layouts.{VolumeHasRoom}
use Rattle.pf_mount.specs.Mounts.{MountIs}
use Rattle.pf_law_calls.specs.Lives.{CanComeFrom, CanTake, Life, MountTold, lived, lives_from, lives_on}
use Rattle.pf_law_calls.proofs.Layouts.{anchors_in}
use Rattle.pf_law_calls.specs.Exchanges.{exchanged, pends_after, pends_in}
use Rattle.pf_law_calls.specs.Since.{pends_from}
use Rattle.pf_law_homes.specs.Ports.{Hands, Passes, Pending, PortEvent, deed_of, deeds_from, pending_after}
use Rattle.pf_law_events.specs.Events.{AreServedFrom, Brings, HandsOn, Happening, InputIsServed, port_event, events_with, mounts_told}
use Rattle.pf_law_events.proofs.EventTurns.{AllOf, owed_is, told_of_all}
use Rattle.pf_law_files.proofs.MountAsks.{IsFar}
use Rattle.pf_law_files.proofs.Pieces.{FarThrough}
use Rattle.pf_law_files.proofs.SerialAsks.{AreSent, IsKind, IsWith, OwesData, kind_of, owes_on, same_number, sent_on}

-- the moment of what was told at a place
abbrev pub moment_of : List Happening → (k : ℕ) → ℕ
moment_of [] k = 0
moment_of (HandsOn m port epoch place ∷ hs) k = suc (moment_of hs k)
moment_of (Brings t epoch by answer ∷ hs) zero = 0
moment_of (Brings t epoch by answer ∷ hs) (suc k) = suc (suc (moment_of hs k))

-- moments rise
pub moments_rise : (hs : List Happening) (k other : ℕ) → k < other → other ≤ length (mounts_told hs) → moment_of hs k < moment_of hs other
moments_rise [] k other below most = absurd (omega (arith, below, most))
moments_rise (HandsOn m port epoch place ∷ hs) k other below most = let rest = moments_rise hs k other below most in omega (arith, rest)
moments_rise (Brings t epoch by answer ∷ hs) k zero below most = absurd (omega (arith, below))
moments_rise (Brings t epoch by answer ∷ hs) zero (suc other) below most = omega arith
moments_rise (Brings t epoch by answer ∷ hs) (suc k) (suc other) below most = let rest = moments_rise hs k other (omega (arith, below)) (omega (arith, most)) in omega (arith, rest)

-- nobody asks or hears anything
abbrev pub IsIdle : PortEvent → Type 0
IsIdle Passes = Unit {0}
IsIdle (Hands m port epoch place) = Unit {0}
IsIdle event = ⊥

module _ (layout : Layout) (v : Extent) (volume : IsVolume v) (room : VolumeHasRoom layout v) where
  -- each mount has its number, and what is pending at ports went out; at the ports for file data it is this
  pub record Stands (lives : ℕ → Life) (pending : Pending) (last : ℕ → Option Ask) : Type 0 where
    pub of : AllOf layout v lives
    pub number : (m : ℕ) → (lives m).mount.files.mount ≡ m
    pub sent : AreSent layout v volume room pending
    pub owes : OwesData layout v volume room pending last

  -- this was told then, of mounts that stand so
  pub record IsTold (deeds : (chunk : ℕ) → List Deed) (moment : ℕ) (lives : ℕ → Life) (last : ℕ → Option Ask) (t : MountTold) : Type 0 where
    pub low : t.mount < 16
    pub pending : Pending
    pub sent : AreSent layout v volume room pending
    pub owes : OwesData layout v volume room pending last
    pub event : PortEvent
    pub at : (chunk : ℕ) → slice_get (deeds chunk) moment ≡ Some (deed_of chunk pending event)
    pub kind : (let x = (lives t.mount).mount in IsKind layout v volume room (x.files.pending ≢ None) t.mount pending (last t.mount) event (pends_after x (last t.mount) t.input) (exchanged x (last t.mount) t.input))

  pub record IsBetween (deeds : (chunk : ℕ) → List Deed) (moment : ℕ) : Type 0 where
    pub pending : Pending
    pub event : PortEvent
    pub at : (chunk : ℕ) → slice_get (deeds chunk) moment ≡ Some (deed_of chunk pending event)
    pub idle : IsIdle event

  module _ (lives : ℕ → Life) (pending : Pending) (last : ℕ → Option Ask) (stands : Stands lives pending last) (far : (m : ℕ) → m < 16 → IsFar v (last m) (lives m).mount) (t : MountTold) (low : t.mount < 16) (epoch by : ℕ) (answer : Answered)
      (can : CanTake (lives t.mount).mount t.input) (served : InputIsServed layout v pending t.mount (lives t.mount).mount answer t.input) where
    abbrev n : ℕ
    n = t.mount

    abbrev x : MountIs
    x = (lives n).mount

    abbrev event : PortEvent
    event = port_event n x epoch by answer t.input

    abbrev after : ℕ → Option Ask
    after m = pends_in m (lives m).mount (last m) t

    abbrev q : Type 0
    q = x.files.pending ≢ None

    kind : IsKind layout v volume room q n pending (last n) event (pends_after x (last n) t.input) (exchanged x (last n) t.input)
    kind =
        kind_of layout v volume room x n low (stands.number n) (ap anchors_in (stands.of n).lies.lies) pending (last n) (far n low) (stands.owes n low) epoch by answer t.input can served
        (λ port low_port can. owed_is layout v lives n low (stands.number n) stands.of pending port low_port can)

    with_now : IsWith layout v volume room last n (pends_after x (last n) t.input) after
    with_now = record {
      own = cond-true (n == n) (pends_after x (last n) t.input) (last n) (eq-eqb n n refl);
      others = λ m other. cond-false (m == n) (pends_after (lives m).mount (last m) t.input) (last m) (ne_eqb m n other);
    }

    told_stands : Stands (lived lives t) (pending_after pending event) after
    told_stands = record {
      of = told_of_all layout v lives t stands.of;
      number = λ m.
          by_test (m == n) (λ b. (let life : Life = if b then lives_on (lives m) t.input else lives m in life.mount.files.mount ≡ m))
          (λ _. same_number (lives m).mount t.input ∙ stands.number m)
          (λ _. stands.number m);
      sent = sent_on layout v volume room q n low pending (last n) (pends_after x (last n) t.input) event (exchanged x (last n) t.input) kind stands.sent;
      owes = owes_on layout v volume room q n low pending last after stands.owes (pends_after x (last n) t.input) event (exchanged x (last n) t.input) kind with_now;
    }

  module _ (deeds : (chunk : ℕ) → List Deed) where
    abbrev pub AreFrom : (moment : ℕ) → Pending → List PortEvent → Type 0
    AreFrom moment pending events = (chunk k : ℕ) → slice_get (deeds chunk) (moment + k) ≡ slice_get (deeds_from chunk pending events) k

    next_from : (moment : ℕ) (pending : Pending) (event : PortEvent) (events : List PortEvent) → AreFrom moment pending (event ∷ events) → AreFrom (suc moment) (pending_after pending event) events
    next_from moment pending event events from chunk k = let next : suc moment + k ≡ moment + suc k = omega arith in ap (slice_get (deeds chunk)) next ∙ from chunk (suc k)

    now_at : (moment : ℕ) (pending : Pending) (event : PortEvent) (events : List PortEvent) → AreFrom moment pending (event ∷ events) → (chunk : ℕ) → slice_get (deeds chunk) moment ≡ Some (deed_of chunk pending event)
    now_at moment pending event events from chunk = let here : moment ≡ moment + 0 = omega arith in ap (slice_get (deeds chunk)) here ∙ from chunk 0

    -- each that was told
    pub all_told : (hs : List Happening) (lives : ℕ → Life) (pending : Pending) (last : ℕ → Option Ask) (moment : ℕ) → AreFrom moment pending (events_with lives hs) → FarThrough v lives last (mounts_told hs) → CanComeFrom lives (mounts_told hs) → AreServedFrom layout v lives pending hs
        → Stands lives pending last → (k : ℕ) (t : MountTold) → slice_get (mounts_told hs) k ≡ Some t
        → IsTold deeds (moment + moment_of hs k) (lives_from lives (take k (mounts_told hs))) (λ m. pends_from lives m (last m) (take k (mounts_told hs))) t
    all_told [] lives pending last moment there far can served stands k t at = absurd (none-some t at)
    all_told (HandsOn m port epoch place ∷ hs) lives pending last moment there far can served stands k t at =
        let end : suc moment + moment_of hs k ≡ moment + suc (moment_of hs k) = omega arith in
        subst (λ n. IsTold deeds n (lives_from lives (take k (mounts_told hs))) (λ m. pends_from lives m (last m) (take k (mounts_told hs))) t) end
        (all_told hs lives pending last (suc moment) (next_from moment pending (Hands m port epoch place) (events_with lives hs) there) far can served stands k t at)
    all_told (Brings t epoch by answer ∷ hs) lives pending last moment there far can served stands zero u at =
        let x = (lives t.mount).mount in
        let event = port_event t.mount x epoch by answer t.input in
        let here : moment ≡ moment + 0 = omega arith in
        subst (λ n. IsTold deeds n lives last u) here
        (subst (λ (w : MountTold). IsTold deeds moment lives last w) (same_Some t u at) (record {
          low = can.0.number;
          pending = pending;
          sent = stands.sent;
          owes = stands.owes;
          event = event;
          at = now_at moment pending event (Passes ∷ events_with (lived lives t) hs) there;
          kind = kind lives pending last stands (far 0) t can.0.number epoch by answer can.0.takes served.0;
        }))
    all_told (Brings t epoch by answer ∷ hs) lives pending last moment there far can served stands (suc k) u at =
        let x = (lives t.mount).mount in
        let event = port_event t.mount x epoch by answer t.input in
        let after : ℕ → Option Ask = λ m. pends_in m (lives m).mount (last m) t in
        let later = pending_after pending event in
        let tail = events_with (lived lives t) hs in
        let there_next = next_from moment pending event (Passes ∷ tail) there in
        let end : suc (suc moment) + moment_of hs k ≡ moment + suc (suc (moment_of hs k)) = omega arith in
        subst (λ n. IsTold deeds n (lives_from (lived lives t) (take k (mounts_told hs))) (λ m. pends_from (lived lives t) m (after m) (take k (mounts_told hs))) u) end
        (all_told hs (lived lives t) later after (suc (suc moment)) (next_from (suc moment) later Passes tail there_next) (λ j. far (suc j)) can.1 served.1
        (told_stands lives pending last stands (far 0) t can.0.number epoch by answer can.0.takes served.0) k u at)

    -- each moment is of one that was told, or of none
    pub each_moment : (hs : List Happening) (lives : ℕ → Life) (pending : Pending) (moment : ℕ) → AreFrom moment pending (events_with lives hs) → (j : ℕ) → j < length (events_with lives hs)
        → ((k : ℕ) × (k < length (mounts_told hs)) × (j ≡ moment_of hs k)) ⊎ IsBetween deeds (moment + j)
    each_moment [] lives pending moment there j low = absurd (omega (arith, low))
    each_moment (HandsOn m port epoch place ∷ hs) lives pending moment there zero low =
        let here : moment ≡ moment + 0 = omega arith in
        inr (subst (IsBetween deeds) here (record { pending = pending; event = Hands m port epoch place; at = now_at moment pending (Hands m port epoch place) (events_with lives hs) there; idle = tt }))
    each_moment (HandsOn m port epoch place ∷ hs) lives pending moment there (suc j) low = elim (each_moment hs lives pending (suc moment) (next_from moment pending (Hands m port epoch place) (events_with lives hs) there) j (omega (arith, low))) [
      | inl of ↦ inl (of.0, of.1, ap suc of.2)
      | inr between ↦ inr (subst (IsBetween deeds) (let same : suc moment + j ≡ moment + suc j = omega arith in same) between)
    ]
    each_moment (Brings t epoch by answer ∷ hs) lives pending moment there zero low = inl (0, (let some : 0 < suc (length (mounts_told hs)) = omega arith in some), refl)
    each_moment (Brings t epoch by answer ∷ hs) lives pending moment there (suc zero) low =
        let event = port_event t.mount (lives t.mount).mount epoch by answer t.input in
        let later = pending_after pending event in
        let tail = events_with (lived lives t) hs in
        let here : suc moment ≡ moment + 1 = omega arith in
        inr (subst (IsBetween deeds) here (record { pending = later; event = Passes; at = now_at (suc moment) later Passes tail (next_from moment pending event (Passes ∷ tail) there); idle = tt }))
    each_moment (Brings t epoch by answer ∷ hs) lives pending moment there (suc (suc j)) low =
        let event = port_event t.mount (lives t.mount).mount epoch by answer t.input in
        let later = pending_after pending event in
        let tail = events_with (lived lives t) hs in
        elim (each_moment hs (lived lives t) later (suc (suc moment)) (next_from (suc moment) later Passes tail (next_from moment pending event (Passes ∷ tail) there)) j (omega (arith, low))) [
          | inl of ↦ inl (suc of.0, (let low = of.1 in omega (arith, low)), ap (λ n. suc (suc n)) of.2)
          | inr between ↦ inr (subst (IsBetween deeds) (let same : suc (suc moment) + j ≡ moment + suc (suc j) = omega arith in same) between)
        ]

    -- and each that was told has one
    pub moment_within : (hs : List Happening) (lives : ℕ → Life) (k : ℕ) → k < length (mounts_told hs) → moment_of hs k < length (events_with lives hs)
    moment_within [] lives k low = absurd (omega (arith, low))
    moment_within (HandsOn m port epoch place ∷ hs) lives k low = let rest = moment_within hs lives k low in omega (arith, rest)
    moment_within (Brings t epoch by answer ∷ hs) lives zero low = omega arith
    moment_within (Brings t epoch by answer ∷ hs) lives (suc k) low = let rest = moment_within hs (lived lives t) k (omega (arith, low)) in omega (arith, rest)
