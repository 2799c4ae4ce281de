-- A server of a new group over its disks.
use Rattle.std.proofs.Common.{◌≡◌, ◌⊎◌, inl, inr, ℕ, zero, suc, ◌+◌, ◌*◌, ◌≤◌, List, [], ◌∷◌, length, arith, refl, sym, ap, subst, ◌∙◌}
use Rattle.pf_entry.specs.Records.{image_of}
use Rattle.pf_entry.specs.declared.records.Record.{Record}
use Rattle.pf_entry.specs.Sizes.{empty_half}
use Rattle.pf_server_store.specs.Stores.{state_of_records, StoreModel}
use Rattle.pf_disk_store.specs.Kept.{IsFirstImage}
use Rattle.pf_protocol.specs.Servers.{Setup, Server}
use Rattle.pf_protocol.specs.Saving.{restarted}
use Rattle.pf_protocol.specs.Groups.{first_leader, opening_disk}
use Rattle.pf_server_memory.specs.declared.running.Running.{Running}
use Rattle.pf_server_memory.specs.Standing.{server_of, Stands}
use Rattle.pf_server_restart.specs.Beginning.{setup_of_seat}
use Rattle.pf_server_restart.specs.declared.seat.Seat.{Seat}
use Rattle.pf_server.specs.Conditions.{IsRunning}
use Rattle.pf_server_format.specs.Opening.{first_body, opening_server, seat_in}
use Rattle.pf_server_format.specs.Rooms.{IsRoom}
use Rattle.pf_server_format.proofs.Begun.{canonical_first, disk_of, disk_used, first_len, first_state, opening_is, words_first}

-- what the opening state depends on is in the seat
same_group : (setup : Setup) (number i : ℕ) → opening_server (setup_of_seat (seat_in setup number)) i ≡ opening_server setup i
unfolding first_leader restarted opening_disk
same_group setup number zero = refl
same_group setup number (suc i) = refl

module _ (seat : Seat) (me : Running) (image : List ℕ) (room : IsRoom seat me) (spelled : image ≡ first_body (setup_of_seat seat)) where
  format_known : (seat.format ≡ 1) ⊎ (seat.format ≡ 2)
  format_known = elim room.made.setup.format [ inl first ↦ inl first.0 | inr second ↦ inr second ]

  -- its first record begins a store
  pub is_first : (body : List ℕ) → body ≡ image → IsFirstImage seat.format (image_of (disk_of seat)) body
  is_first body same = record {
    known = format_known;
    image = refl;
    canonical = canonical_first seat room.made seat.format;
    fits = words_first seat room.made;
    is = same ∙ spelled;
  }

  image_len : length image ≡ 44 + 512 * seat.sectors
  image_len = ap length spelled ∙ first_len seat room.made

  -- and has room in a half
  pub first_fits : (body : List ℕ) → body ≡ image → 9 + length body ≤ 67108864
  first_fits body same = omega (arith, ap length same, image_len, room.made.setup.few_sectors)

  durable_is : (opening_server (setup_of_seat seat) seat.number).durable ≡ disk_of seat
  unfolding restarted
  durable_is = ap (λ (s : Server). s.durable) (sym (opening_is (setup_of_seat seat) seat.number))

  module _ {S : Type 0} (model : StoreModel S) (store : S) where
    runs_here : Stands model (disk_of seat) store me → IsRunning model seat store me (opening_server (setup_of_seat seat) seat.number)
    runs_here there = record {
      stands = subst (λ d. Stands model d store me) (sym durable_is) there;
      is = ap (λ d. server_of d me) durable_is ∙ room.fresh.is;
      setup = room.fresh.setup;
    }

    module _ (body : List ℕ) (same : body ≡ image) (half : ℕ) (half_is : half ≡ seat.format) where
      has_state : ((r : Record) → IsFirstImage half r body → let d = state_of_records half (r ∷ []) in model.holds store d d) → model.holds store (disk_of seat) (disk_of seat)
      has_state begins =
          let r = image_of (disk_of seat) in
          let d = ap (λ f. state_of_records f (r ∷ [])) half_is ∙ first_state seat in
          subst (λ d. model.holds store d d) d (begins r (subst (λ f. IsFirstImage f r body) (sym half_is) (is_first body same)))

      stands : ((r : Record) → IsFirstImage half r body → let d = state_of_records half (r ∷ []) in model.holds store d d) → model.used store ≡ 9 + length body → model.format store ≡ half → Stands model (disk_of seat) store me
      unfolding opening_disk
      stands begins used_is format_is = record {
        recorded = has_state begins;
        used_is = used_is ∙ ap (λ n. empty_half + n) (ap length same ∙ image_len) ∙ sym (disk_used seat room.made);
        within = omega (arith, disk_used seat room.made, room.made.setup.few_sectors);
        half = format_is ∙ half_is;
        cached = room.fresh.cached;
      }

      -- the server runs in the opening state of its group
      pub meets_opening : ((r : Record) → IsFirstImage half r body → let d = state_of_records half (r ∷ []) in model.holds store d d) → model.used store ≡ 9 + length body → model.format store ≡ half
          → (setup : Setup) → seat ≡ seat_in setup seat.number → IsRunning model seat store me (opening_server setup seat.number)
      meets_opening begins used_is format_is setup in_group =
          subst (λ s. IsRunning model seat store me s) (ap (λ (x : Seat). opening_server (setup_of_seat x) seat.number) in_group ∙ same_group setup seat.number seat.number) (runs_here (stands begins used_is format_is))
