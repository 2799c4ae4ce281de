-- What fits does not depend on which servers could not be formatted.
use Rattle.std.proofs.Common.{◌≡◌, ℕ, ◌+◌, ◌≤◌, ◌^◌, List, [], refl, subst, sym}
use Rattle.pf_entry.proofs.Lists.{every_more}
use Rattle.pf_entry.specs.declared.ops.Op.{Op}
use Rattle.pf_entry.specs.declared.ops.Op.TheVariants.{Write, Noop, Mark}
use Rattle.pf_entry.specs.declared.entries.Named.{Named}
use Rattle.pf_entry.specs.declared.entries.Entry.{Entry}
use Rattle.pf_entry.specs.declared.entries.VoteLog.{VoteLog}
use Rattle.pf_entry.specs.declared.packets.Packet.{Packet}
use Rattle.pf_entry.specs.declared.packets.Body.{Body}
use Rattle.pf_entry.specs.declared.packets.Body.TheVariants.{RequestVote, Vote, Accept, Ack, Nack, Commit, Probe, ProbeOk, Image}
use Rattle.pf_entry.specs.Maps.{Numbers}
use Rattle.pf_entry.specs.Records.{Durable, vote_of}
use Rattle.pf_protocol.specs.Servers.{Setup, Role, Follower, Candidate, Merging, Serving, Server}
use Rattle.pf_protocol.specs.Fitting.{OpFits, NameFits, EntryFits, EntryStandsIn, VoteFits, SlotsFit, DurableFits, RoleFits, ServerFits, BodyFits, PacketFits}
use Rattle.pf_protocol.specs.Answers.{IsSetup}
use Rattle.pf_protocol.proofs.ForRows.{durable_more}
use Rattle.pf_server_restart.specs.Beginning.{ServerHasBegun, setup_of_seat}
use Rattle.pf_group_network.specs.Showing.{seat_of}

-- from one setup to another of the same names, chunk, format and window
module _ (names chunk format w v : ℕ) (failed failed' : List ℕ) (window : w ≡ v) (n t : ℕ) where
  abbrev one : Setup
  one = record { names = names; window = w; chunk = chunk; format = format; failed = failed }

  abbrev other : Setup
  other = record { names = names; window = v; chunk = chunk; format = format; failed = failed' }

  op_to : (op : Op) → OpFits one op → OpFits other op
  op_to (Write range payload) f = f
  op_to Noop f = f
  op_to Mark f = f

  name_to : (slot : ℕ) (m : Named) → NameFits one slot m → NameFits other slot m
  name_to slot m f = record { below = f.below; span = f.span; fits = f.fits; marks = f.marks }

  entry_to : (e : Entry) → EntryFits one n t e → EntryFits other n t e
  entry_to e f = record {
    slot = f.slot;
    slot_low = f.slot_low;
    term = f.term;
    term_low = f.term_low;
    first = f.first;
    first_low = f.first_low;
    few = f.few;
    ascending = f.ascending;
    named = every_more (NameFits one e.slot) (NameFits other e.slot) (name_to e.slot) e.look f.named;
    merged = f.merged;
    op = op_to e.op f.op;
  }

  stands_to : (base slot : ℕ) (e : Entry) → EntryStandsIn one n t base slot e → EntryStandsIn other n t base slot e
  stands_to base slot e f = record {
    fits = entry_to e f.fits;
    in_slot = f.in_slot;
    is_above = f.is_above;
    within = subst (λ x. slot ≤ base + x) window f.within;
  }

  vote_to : (vote : VoteLog) → VoteFits one n t vote → VoteFits other n t vote
  vote_to vote f = record {
    base = f.base;
    log = λ slot e at. stands_to vote.base slot e (f.log slot e at);
    starts = f.starts;
  }

  slots_to : (base : ℕ) (slots : Numbers) → SlotsFit one n base slots → SlotsFit other n base slots
  slots_to base slots f slot is = let x = f slot is in (x.0, subst (λ y. slot ≤ base + y) window x.1, x.2)

  durable_to : (d : Durable) → DurableFits one n t d → DurableFits other n t d
  durable_to d f = record {
    generation = f.generation;
    term = f.term;
    term_low = f.term_low;
    vote = vote_to (vote_of d) f.vote;
    saved = slots_to d.base d.saved f.saved;
    sectors = f.sectors;
  }

-- what a server of the group may hold fits the setup that it is made with
module _ (setup : Setup) (i n t : ℕ) (window : setup.window ≡ 4096) where
  abbrev here : Setup
  here = setup_of_seat (seat_of setup i)

  op_fits : (op : Op) → OpFits setup op → OpFits here op
  op_fits = op_to setup.names setup.chunk setup.format setup.window 4096 setup.failed [] window n t

  entry_fits : (e : Entry) → EntryFits setup n t e → EntryFits here n t e
  entry_fits = entry_to setup.names setup.chunk setup.format setup.window 4096 setup.failed [] window n t

  vote_fits : (v : VoteLog) → VoteFits setup n t v → VoteFits here n t v
  vote_fits = vote_to setup.names setup.chunk setup.format setup.window 4096 setup.failed [] window n t

  slots_fit : (base : ℕ) (slots : Numbers) → SlotsFit setup n base slots → SlotsFit here n base slots
  slots_fit = slots_to setup.names setup.chunk setup.format setup.window 4096 setup.failed [] window n t

  pub durable_fits : (d : Durable) → DurableFits setup n t d → DurableFits here n t d
  durable_fits = durable_to setup.names setup.chunk setup.format setup.window 4096 setup.failed [] window n t

  role_fits : (base : ℕ) (role : Role) → RoleFits setup n t base role → RoleFits here n t base role
  role_fits base Follower f = f
  role_fits base (Candidate own) f = (vote_fits own f.0, f.1)
  role_fits base (Merging l) f = f
  role_fits base (Serving l) f = f

  pub server_fits : (s : Server) → ServerFits setup n t s → ServerFits here n t s
  server_fits s f = record {
    number = f.number;
    life = f.life;
    durable = durable_fits s.durable f.durable;
    applied = slots_fit s.durable.base s.applied f.applied;
    sectors = f.sectors;
    in_hand = λ slot op at. (let x = f.in_hand slot op at in ((x.0.0, subst (λ w. slot ≤ s.durable.base + w) window x.0.1, x.0.2), op_fits op x.1));
    reads = f.reads;
    role = role_fits s.durable.base s.role f.role;
  }

  body_fits : (term : ℕ) (body : Body) → BodyFits setup n t term body → BodyFits here n t term body
  body_fits term (RequestVote base) f = f
  body_fits term (Vote v) f = vote_fits v f
  body_fits term (Accept e) f = (entry_fits e f.0, f.1)
  body_fits term (Ack slot upto) f = f
  body_fits term Nack f = f
  body_fits term (Commit slot) f = f
  body_fits term (Probe number) f = f
  body_fits term (ProbeOk number upto) f = f
  body_fits term (Image base applied sectors) f = (f.0, slots_fit base applied f.1, f.2)

  pub packet_fits : (p : Packet) → PacketFits setup n t p → PacketFits here n t p
  packet_fits p f = record { from = f.from; to = f.to; apart = f.apart; term = f.term; term_low = f.term_low; body = body_fits p.term p.body f.body }

-- and a state from which it begins fits the group
pub begun_fits : (setup : Setup) (i : ℕ) → setup.window ≡ 4096 → (n t : ℕ) → 2 ^ 63 + 4096 ≤ n → 2 ^ 63 ≤ t → (d : Durable) → ServerHasBegun (setup_of_seat (seat_of setup i)) d → DurableFits setup n t d
begun_fits setup i window n t le le_term d b =
    durable_to setup.names setup.chunk setup.format 4096 setup.window [] setup.failed (sym window) n t d (durable_more (setup_of_seat (seat_of setup i)) (2 ^ 63 + 4096) n (2 ^ 63) t le le_term d b.fits)

pub setup_is : (setup : Setup) (i : ℕ) → IsSetup setup → IsSetup (setup_of_seat (seat_of setup i))
setup_is setup i is = record { few_names = is.few_names; some_sectors = is.some_sectors; few_sectors = is.few_sectors; blocks = is.blocks; format = is.format; window = refl }
