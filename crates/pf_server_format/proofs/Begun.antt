-- A server of a new group, in memory and as its first record.
use Rattle.std.proofs.Common.{◌≡◌, inr, true, Some, ℕ, zero, suc, ◌+◌, ◌*◌, ◌<◌, ◌^◌, ◌&&◌, ◌==◌, cond, List, [], ◌∷◌, length, map, nat_lt, replicate, is_some, sum_by, arith, refl, sym, ap, ◌∙◌}
use Rattle.std.proofs.lemmas.Bool.{false≢true}
use Rattle.std.proofs.lemmas.List.{length-map, length-replicate}
use Rattle.std.proofs.lemmas.Option.{none-some}
use Rattle.std.specs.Ordering.{nat_cmp}
use Rattle.std.specs.FinMap
use Rattle.std.specs.FinMap.{get-empty, len-empty, len-entries}
use Rattle.pf_entry.specs.Maps.{Map, Numbers}
use Rattle.pf_entry.specs.Sets
use Rattle.pf_entry.proofs.Lists.{every_map}
use Rattle.pf_entry.proofs.Sets.{contains-empty, same_set}
use Rattle.pf_entry.specs.Ops.{Sector, zero_sector}
use Rattle.pf_entry.specs.Canonical.{Bounds, IsCanonicalVote, IsCanonicalImage, IsCanonicalRecord, first_format, second_format}
use Rattle.pf_entry.specs.Records.{Durable, image_of, stored, vote_of}
use Rattle.pf_entry.specs.Sizes.{body_size, empty_half, entry_size, payload_size}
use Rattle.pf_entry.specs.declared.entries.Entry.{Entry}
use Rattle.pf_entry.specs.declared.entries.VoteLog.{VoteLog}
use Rattle.pf_entry.specs.declared.ops.Op.{Op}
use Rattle.pf_entry.specs.declared.records.Record.TheVariants.{Image as ImageRecord}
use Rattle.pf_codec.specs.Fitting.{RecordFits, EntryFitsWords}
use Rattle.pf_codec.specs.Spelling.{body_bytes}
use Rattle.pf_codec.proofs.BodyLaws.{window_of_second}
use Rattle.pf_codec.proofs.MapLaws.{every_of_gets}
use Rattle.pf_codec.proofs.SizeLaws.{body_len}
use Rattle.pf_server_store.specs.Stores.{state_of_records}
use Rattle.pf_holes.specs.HoleLogs.{Holes}
use Rattle.pf_holes.specs.SlotSets.{SlotTable}
use Rattle.pf_holes.proofs.HoleLogs.{no_key}
use Rattle.pf_server_tables.specs.StartTables.{StartRoom}
use Rattle.pf_election.proofs.ConfirmedCounts.{few_confirmed}
use Rattle.pf_election.specs.declared.probes.ProbedRead.{ProbedRead as Asked}
use Rattle.pf_protocol.specs.Servers.{Setup, Server, Running as RunningIs}
use Rattle.pf_protocol.specs.Saving.{restarted}
use Rattle.pf_protocol.specs.Groups.{first_leader, opening, opening_disk}
use Rattle.pf_protocol.specs.Fitting.{DurableFits}
use Rattle.pf_protocol.proofs.ForHistories.{legal_fits}
use Rattle.pf_server_memory.specs.declared.running.Role.{Role}
use Rattle.pf_server_memory.specs.declared.running.Running.{Running}
use Rattle.pf_server_memory.specs.Replying.{Replying}
use Rattle.pf_server_memory.specs.Standing.{server_of, setup_of, role_in_memory, read_in_memory, state_in_memory, IsRoleKept}
use Rattle.pf_server_memory.proofs.AppliedSlots.{in_above}
use Rattle.pf_server_restart.specs.Beginning.{IsSeat, setup_of_seat}
use Rattle.pf_server_restart.specs.declared.seat.Seat.{Seat}
use Rattle.pf_server_format.specs.Opening.{opening_role, opening_server}
use Rattle.pf_server_format.specs.Rooms.{MemoryIsFresh}

-- the state on its disks
abbrev pub disk_of : Seat → Durable
disk_of seat = opening_disk (setup_of_seat seat)

-- a server of the opening state is a follower over its disk, but for its role
pub opening_is : (setup : Setup) (i : ℕ) → record (restarted i 0 (opening_disk setup)) { role = opening_role i } ≡ opening_server setup i
unfolding restarted first_leader
opening_is setup zero = refl
opening_is setup (suc i) = refl

-- no slot of an empty set is above another
none_above : (slots : Numbers) (base : ℕ) → slots ≡ Sets.empty → Sets.retain slots (nat_lt base) ≡ Sets.empty
none_above slots base none = ap (λ s. Sets.retain s (nat_lt base)) none ∙ same_set _ _ (λ q. in_above Sets.empty base q ∙ ap (λ b. b && nat_lt base q) (contains-empty q) ∙ sym (contains-empty q))

module _ (seat : Seat) (made : IsSeat seat) (starts : StartRoom) (log : Holes) (role : Role) (applied : SlotTable) (sectors : List Sector) (in_hand : Map Op) (rooms : Map ℕ) (reads : List Asked) (replies : Replying) (snapshots : Map (List Sector)) where
  abbrev me : Running
  me = record {
    number = seat.number;
    life = 0;
    names = seat.names;
    format = seat.format;
    term = 1;
    generation = 0;
    starts = starts;
    log = log;
    role = role;
    applied = applied;
    sectors = sectors;
    in_hand = in_hand;
    jobs = 0;
    rooms = rooms;
    reads = reads;
    replies = replies;
    snapshots = snapshots;
  }

  pub is_fresh : starts.starts ≡ FinMap.empty → log ≡ record { base = 0; entries = FinMap.empty; committed = Sets.empty } → role_in_memory role ≡ opening_role seat.number → IsRoleKept seat.number role → applied.slots ≡ Sets.empty
      → sectors ≡ replicate seat.sectors (replicate 512 0) → in_hand ≡ FinMap.empty → rooms ≡ FinMap.empty → reads ≡ [] → replies ≡ record { rooms = 0; answers = [] } → snapshots ≡ FinMap.empty → MemoryIsFresh seat me
  unfolding server_of setup_of restarted opening_disk zero_sector
  is_fresh none_started no_log role_is role_kept none_applied zeros none_held no_rooms no_reads no_replies no_snapshots =
      let base : log.base ≡ 0 = ap (λ (l : Holes). l.base) no_log in
      let chunk : length sectors ≡ seat.sectors = ap length zeros ∙ length-replicate {A = Sector} seat.sectors (replicate 512 0) in
      record {
        cached = record {
          number = made.number;
          term = refl;
          generation = refl;
          base = base;
          starts = none_started;
          log = ap (λ (l : Holes). l.entries) no_log;
          format = inr refl;
          prefix = λ slot some low. absurd (omega (arith, base));
          role = role_kept;
          jobs = sym (ap FinMap.len none_held ∙ len-empty nat_cmp Op);
          places = omega arith;
          rooms = λ slot held. absurd (no_key in_hand slot none_held (ap is_some held));
          near = λ slot has. absurd (no_key rooms slot no_rooms has);
          replies = omega (arith, few_confirmed reads, ap length no_reads);
        };
        is = (λ i. record {
          number = seat.number;
          life = 0;
          durable = disk_of seat;
          role = role_is i;
          committed = (no_log i).committed;
          applied = none_above applied.slots log.base none_applied i;
          sectors = zeros i;
          in_hand = none_held i;
          reads = map read_in_memory (no_reads i);
          snapshots = no_snapshots i;
        }) ∙ opening_is (setup_of_seat seat) seat.number;
        setup = λ i. record { names = seat.names; window = 4096; chunk = chunk i; format = seat.format; failed = [] };
        quiet = ap (λ (r : Replying). r.answers) no_replies;
      }

-- the disk fits its group
disk_fits : (seat : Seat) → IsSeat seat → DurableFits (setup_of_seat seat) 0 1 (disk_of seat)
unfolding opening restarted
disk_fits seat made = ((legal_fits (setup_of_seat seat) [] (record { is_setup = made.setup; legal = tt })).servers 1 (RunningIs (restarted 1 0 (disk_of seat))) refl).1.durable

sum_of_none : (es : List Entry) → length es ≡ 0 → sum_by entry_size es ≡ 0
sum_of_none [] none = refl
sum_of_none (e ∷ es) none = absurd (omega (arith, none))

-- its first record
module _ (seat : Seat) (made : IsSeat seat) where
  image_size : payload_size (image_of (disk_of seat)) ≡ 38 + 512 * seat.sectors
  unfolding opening_disk
  image_size =
      let values : length (FinMap.values (disk_of seat).log) ≡ length (FinMap.entries (disk_of seat).log) = length-map (FinMap.entries (disk_of seat).log) (λ row. row.1) in
      let none : sum_by entry_size (FinMap.values (disk_of seat).log) ≡ 0 = sum_of_none (FinMap.values (disk_of seat).log) (values ∙ sym (len-entries (disk_of seat).log) ∙ len-empty nat_cmp Entry) in
      omega (arith, none, len-empty nat_cmp ℕ, len-empty nat_cmp (Unit {0}), (disk_fits seat made).sectors.0)

  no_start : (term first : ℕ) → FinMap.get (disk_of seat).starts term ≡ Some first → ⊥
  unfolding opening_disk
  no_start term first at = none-some first (sym (get-empty nat_cmp term) ∙ at)

  no_entry : (slot : ℕ) (e : Entry) → FinMap.get (disk_of seat).log slot ≡ Some e → ⊥
  unfolding opening_disk
  no_entry slot e at = none-some e (sym (get-empty nat_cmp slot) ∙ at)

  no_slot : (slot : ℕ) → Sets.contains (disk_of seat).saved slot ≡ true → ⊥
  unfolding opening_disk
  no_slot slot has = false≢true (sym (contains-empty slot) ∙ has)

  vote_canonical : (bounds : Bounds) → IsCanonicalVote bounds (vote_of (disk_of seat))
  unfolding opening_disk
  vote_canonical bounds = record { starts = omega (arith, len-empty nat_cmp ℕ); entries = λ slot e at. absurd (no_entry slot e at) }

  image_canonical : IsCanonicalImage (disk_of seat).base (disk_of seat).saved (disk_of seat).sectors
  unfolding opening_disk
  image_canonical =
      let sized = (disk_fits seat made).sectors in
      record {
        above = λ slot has. absurd (no_slot slot has);
        few = omega (arith, len-empty nat_cmp (Unit {0}));
        some = omega (arith, sized.0, made.setup.some_sectors);
        fits = omega (arith, sized.0, made.setup.few_sectors);
        eighths = (made.setup.blocks.0, sized.0 ∙ made.setup.blocks.1);
        bytes = sized.1;
      }

  pub canonical_first : (format : ℕ) → IsCanonicalRecord format (image_of (disk_of seat))
  canonical_first format = record {
    fields = (vote_canonical (cond (format == 1) first_format second_format), image_canonical);
    short = omega (arith, image_size, made.setup.few_sectors);
  }

  pub words_first : RecordFits (image_of (disk_of seat))
  words_first =
      let d = disk_of seat in
      let fits = disk_fits seat made in (
        omega (arith, fits.generation),
        omega (arith, fits.term_low),
        record {
          base = omega (arith, fits.vote.base);
          starts = every_of_gets (λ term first. (term < 2 ^ 64) × (first < 2 ^ 64)) d.starts (λ term first at. absurd (no_start term first at));
          log = every_map EntryFitsWords (λ row. row.1) (FinMap.entries d.log) (every_of_gets (λ slot e. EntryFitsWords e) d.log (λ slot e at. absurd (no_entry slot e at)));
        },
        every_map (λ slot. slot < 2 ^ 64) (λ row. row.0) (FinMap.entries d.saved) (every_of_gets (λ slot x. slot < 2 ^ 64) d.saved (λ slot x at. absurd (no_slot slot (ap is_some at)))),
      )

  pub first_len : length (body_bytes (image_of (disk_of seat))) ≡ 44 + 512 * seat.sectors
  unfolding body_size
  first_len = omega (arith, body_len second_format window_of_second (image_of (disk_of seat)) (canonical_first 2).fields, image_size)

  -- the image that is spelled is that of the disk
  pub spelled_first : (me : Running) → MemoryIsFresh seat me → (vote : VoteLog) (base : ℕ) (saved : Numbers) (sectors : List Sector) → vote ≡ vote_of (state_in_memory me) → base ≡ me.log.base → saved ≡ Sets.retain me.applied.slots (nat_lt base) → sectors ≡ me.sectors
      → ImageRecord me.generation me.term vote saved sectors ≡ image_of (disk_of seat)
  unfolding server_of restarted
  spelled_first me now vote base saved sectors vote_is base_is saved_is sectors_are =
      let server = now.is ∙ sym (opening_is (setup_of_seat seat) seat.number) in
      let votes : vote ≡ vote_of (disk_of seat) = vote_is ∙ (λ i. record { base = now.cached.base i; starts = now.cached.starts i; log = now.cached.log i }) in
      let slots : saved ≡ (disk_of seat).saved = saved_is ∙ ap (λ b. Sets.retain me.applied.slots (nat_lt b)) base_is ∙ ap (λ (s : Server). s.applied) server in
      let chunk : sectors ≡ (disk_of seat).sectors = sectors_are ∙ ap (λ (s : Server). s.sectors) server in
      λ i. ImageRecord (now.cached.generation i) (now.cached.term i) (votes i) (slots i) (chunk i)

-- the state of a half with this record alone
pub first_state : (seat : Seat) → state_of_records seat.format (image_of (disk_of seat) ∷ []) ≡ disk_of seat
unfolding opening_disk stored
first_state seat = refl

-- and its bytes
pub disk_used : (seat : Seat) → IsSeat seat → (disk_of seat).used ≡ empty_half + (44 + 512 * seat.sectors)
unfolding opening_disk body_size
disk_used seat made = omega (arith, image_size seat made)
