-- Each piece of each chunk of a run is routed: what its clients' ports did fits the groups that served it, through all moves.
use Rattle.std.proofs.Common.{◌≡◌, ℕ, zero, suc, ◌+◌, ◌*◌, ◌/◌, ◌<◌, ◌≤◌, inl, inr, false, List, [], ◌∷◌, ◌++◌, length, take, Some, slice_get, arith, refl, sym, ap, subst, ◌∙◌}
use Rattle.std.proofs.lemmas.List.{append_assoc}
use Rattle.std.proofs.lemmas.Bool.{cond-false}
use Rattle.std.proofs.lemmas.Option.{none-some, slice_get_within}
use Rattle.std.proofs.Math.Seq.{take-append_seam}
use Rattle.pf_base.specs.Span.{Span}
use Rattle.pf_entry.specs.Ops.{Sector, writes}
use Rattle.pf_entry.specs.declared.ops.Op.{Op}
use Rattle.pf_entry.specs.declared.ops.Op.TheVariants.{Write, Noop, Mark}
use Rattle.pf_protocol.specs.declared.answers.Answer.{Answer}
use Rattle.pf_protocol.specs.declared.events.Event.TheVariants.{Submit}
use Rattle.pf_protocol.specs.declared.events.Happening.{Happening as GroupEvent}
use Rattle.pf_protocol.specs.Answers.{IsLegal}
use Rattle.pf_protocol.specs.Histories.{History, IsPrefix}
use Rattle.pf_protocol.specs.Ports.{Submission}
use Rattle.pf_law_registers.specs.Firsts.{IsPorts}
use Rattle.pf_law_registers.specs.Orders.{given}
use Rattle.pf_law_runs.specs.pf_group_network.proofs.Lists.{at_end, at_front}
use Rattle.pf_volume.specs.Volumes.{Extent, IsVolume}
use Rattle.pf_law_positions.specs.Deeds.{Deed, DeedsFit, Groups, Submits}
use Rattle.pf_law_positions.specs.Moves.{mover_into}
use Rattle.pf_law_epochs.specs.Routed.{AreOfPorts, IsRouted}
use Rattle.pf_law_homes.specs.Chunks.{ChunkGroups, groups_in}
use Rattle.pf_law_runs.specs.pf_law_service.specs.Services.{Service, groups_of, epoch_of_now, writes_of}
use Rattle.pf_law_runs.specs.pf_law_service.specs.Served.{AreLegal, ChunkIsServed}
use Rattle.pf_law_runs.specs.pf_world.specs.pf_chunk.specs.Runs.{ChunkRun, mover_port}
use Rattle.pf_law_runs.specs.pf_world.specs.pf_world_moments.specs.Moments.{Hands, Moment}
use Rattle.pf_law_runs.specs.pf_world.specs.pf_world_hosts.specs.Volumes.{VolumeRun}
use Rattle.pf_law_runs.specs.pf_law_movers.specs.Epochs.{group_of_epoch, groups_in_turn}
use Rattle.pf_law_runs.specs.pf_law_movers.specs.Handing.{AreMountsAlone, reached}
use Rattle.pf_law_runs.specs.pf_law_movers.proofs.MoverWrites.{mover_or_mount}
use Rattle.pf_law_runs.specs.pf_law_movers.proofs.OfMoves.{IsOfMoves}
use Rattle.pf_law_mounts.specs.Lists.{AreGroupsOf}
use Rattle.pf_law_runs.specs.pf_law_movers.proofs.ListPlaces.{at_seam}
use Rattle.pf_law_mounts.proofs.MovedPieces.{AreMovedAfter, all_groups, carried_all, groups_at, groups_so, last_in, piece_moved, serving_low, upto}
use Rattle.pf_law_mounts.proofs.Known.{IsHandedBy, IsKnown, IsServing}

-- The laws of pf_law_service on which this rests
pub record AreFitting : Type 0 where
  pub fits : (chunk : ℕ) (s : Service) (ds : List Deed) (moved : (chunk epoch : ℕ) → List Submission) → ChunkIsServed chunk s ds → AreLegal s → DeedsFit (groups_of s moved) ds chunk
  pub of_ports : (chunk epoch moment client place server : ℕ) (s : Service) (ds : List Deed) (op : Op) (answer : Answer) → ChunkIsServed chunk s ds → slice_get ds moment ≡ Some (Submits client chunk epoch place)
      → slice_get (s.history epoch) place ≡ Some (record { event = Submit server op; answer = answer }) → IsPorts (writes_of s epoch client) (take place (s.history epoch)) server op answer
  pub moves : AreMovedAfter

-- What is known of the whole run
pub record IsWhole (v : VolumeRun) (told : List Moment) : Type 0 where
  pub moves : IsOfMoves v.extent v.chunks told
  pub far : (k : ℕ) (c : ChunkRun) → slice_get v.chunks k ≡ Some c → reached k told ≤ length c.group.history
  pub alone : AreMountsAlone v.chunks told
  pub sized : (k : ℕ) (c : ChunkRun) → slice_get v.chunks k ≡ Some c → c.group.setup.chunk ≡ v.extent.sectors

-- An event of a history stands behind what came before it
module _ (history before : History) (h : GroupEvent) (p : IsPrefix (before ++ h ∷ []) history) where
  whole : before ++ (h ∷ p.rest) ≡ history
  whole = sym (append_assoc before (h ∷ []) p.rest) ∙ p.whole

  event_there : slice_get history (length before) ≡ Some h
  event_there = ap (λ (all : History). slice_get all (length before)) (sym p.whole) ∙ at_front (before ++ h ∷ []) p.rest (length before) h (at_end before h)

  events_before : take (length before) history ≡ before
  events_before = ap (take (length before)) (sym whole) ∙ take-append_seam before (h ∷ p.rest)

-- only a write of its range gives a sector bytes
record IsWriteOf (op : Op) : Type 0 where
  range : Span
  sectors : List Sector
  is : op ≡ Write range sectors

gives_none : (op : Op) (x : ℕ) (bytes : Sector) → writes op x ≡ false → given op x ≡ Some bytes → ⊥
unfolding given
gives_none op x bytes none gives = none-some bytes (sym (cond-false (writes op x) _ _ none) ∙ gives)

write_of : (op : Op) (x : ℕ) (bytes : Sector) → given op x ≡ Some bytes → IsWriteOf op
unfolding writes
write_of (Write range sectors) x bytes gives = record { range = range; sectors = sectors; is = refl }
write_of Noop x bytes gives = absurd (gives_none Noop x bytes refl gives)
write_of Mark x bytes gives = absurd (gives_none Mark x bytes refl gives)

-- Of a run, in which each group is legal

module _ {calls : ℕ} (v : VolumeRun) (told : List Moment) (known : IsKnown calls v told) (volume : IsVolume v.extent) (run : IsWhole v told) where
  abbrev e : Extent
  e = v.extent

  pub legal_all : (chunk : ℕ) → chunk < e.chunks → AreLegal (known.service chunk)
  legal_all chunk small epoch low =
      let g = (known.serving_so chunk small).groups epoch low in
      subst (λ setup. IsLegal setup ((known.service chunk).history epoch)) g.setup (subst (IsLegal g.c.group.setup) g.history (run.moves.legal g.k g.c g.there))

  module _ (laws : AreFitting) (chunk : ℕ) (small : chunk < e.chunks) where
    abbrev s : Service
    s = known.service chunk

    abbrev ds : List Deed
    ds = known.deeds chunk

    served : ChunkIsServed chunk s ds
    served = known.served chunk small

    abbrev serving_so : IsServing v.chunks told chunk s ds
    serving_so = known.serving_so chunk small

    abbrev own_groups : ChunkGroups
    own_groups = groups_at e v.chunks told chunk s

    abbrev groups : Groups
    groups = groups_in own_groups

    in_turn : (epoch : ℕ) → epoch ≤ epoch_of_now s → epoch ≤ s.epoch
    in_turn epoch le = let low_epoch = serving_low s in omega (arith, le, low_epoch)

    pub fits : DeedsFit groups ds chunk
    fits = laws.fits chunk s ds (λ other epoch. carried_all e v.chunks told chunk epoch) served (legal_all chunk small)

    -- each write that took place was handed on by a port of a mount, or by the mover's

    mover_same : (epoch : ℕ) → mover_into (all_groups e v.chunks told run.moves run.far volume chunk small s ds serving_so) chunk epoch ≡ mover_into groups chunk epoch
    mover_same zero = refl
    mover_same (suc epoch) = refl

    of_ports_at : (epoch : ℕ) → epoch ≤ epoch_of_now s → (x : ℕ) → AreOfPorts groups chunk epoch x
    of_ports_at epoch le x before server op answer bytes starts took gives =
        let g = serving_so.groups epoch (in_turn epoch le) in
        let h : GroupEvent = record { event = Submit server op; answer = answer } in
        let w = write_of op x bytes gives in
        let event = event_there (s.history epoch) before h starts in
        let front = events_before (s.history epoch) before h starts in
        let in_group : slice_get g.c.group.history (length before) ≡ Some (record { event = Submit server (Write w.range w.sectors); answer = answer }) =
        ap (λ (hs : History). slice_get hs (length before)) g.history ∙ event ∙ ap (λ o. Some (record { event = Submit server o; answer = answer })) w.is in
        elim (mover_or_mount e v.chunks told run.moves.moves run.alone (upto e v.chunks told run.moves run.far volume chunk small s ds serving_so) (all_groups e v.chunks told run.moves run.far volume chunk small s ds serving_so)
        (groups_so e v.chunks told run.moves run.far volume chunk small s ds serving_so) chunk epoch g.k g.c small g.at g.there (length before) server w.range w.sectors answer in_group) [
          | inl ports ↦
              inl (subst (λ o. IsPorts (mover_into groups chunk epoch) before server o answer) (sym w.is)
              (subst (λ (part : History). IsPorts (mover_into groups chunk epoch) part server (Write w.range w.sectors) answer) (ap (take (length before)) g.history ∙ front)
              (subst (λ (its : List Submission). IsPorts its (take (length before) g.c.group.history) server (Write w.range w.sectors) answer) (mover_same epoch) ports)))
          | inr mount ↦
              let at : slice_get told (length mount.0) ≡ Some (Hands mount.1 g.k (length before)) =
              ap (λ (all : List Moment). slice_get all (length mount.0)) mount.4 ∙ at_seam mount.0 mount.2 (Hands mount.1 g.k (length before)) (length mount.0) refl in
              let handed = serving_so.handed (length mount.0) mount.1 g.k (length before) epoch at mount.3 (in_turn epoch le) g.at in
              inr (handed.client, subst (λ (part : History). IsPorts (writes_of s epoch handed.client) part server op answer) front (laws.of_ports chunk epoch handed.moment handed.client (length before) server s ds op answer served handed.at event))
        ]

    pub routed_piece : (n : ℕ) → n < e.sectors / 8 → IsRouted groups ds chunk n
    routed_piece n within = record {
      fits = fits;
      legal = λ epoch le. legal_all chunk small epoch (in_turn epoch le);
      inside = λ epoch le.
          let g = serving_so.groups epoch (in_turn epoch le) in
          let size = run.sized g.k g.c g.there in
          let same = ap (λ setup. setup.chunk) g.setup in
          omega (arith, size, same, within);
      of_ports = λ epoch nth le few. of_ports_at epoch le (8 * n + nth);
      last = λ epoch. last_in e v.chunks told run.moves run.far volume chunk small s ds serving_so n epoch;
      moved = λ epoch ended. piece_moved e v.chunks told run.moves run.far volume chunk small s ds serving_so laws.moves served n epoch within ended;
    }

    pub piece_last : (n : ℕ) (within : n < e.sectors / 8) → (routed_piece n within).last ≡ (λ epoch. last_in e v.chunks told run.moves run.far volume chunk small s ds serving_so n epoch)
    unfolding routed_piece
    piece_last n within = refl

    pub groups_of_run : AreGroupsOf v told own_groups chunk
    groups_of_run = record {
      moves = sym serving_so.epochs;
      each = λ epoch le.
          let now = serving_so.epochs in
          let g = serving_so.groups epoch (in_turn epoch (omega (arith, le, now))) in
          record { k = g.k; at = g.at; c = g.c; there = g.there; setup = sym g.setup; history = sym g.history };
    }

    -- whatever a mount's port handed to a group of the chunk is a deed
    pub handed : (q m k place epoch : ℕ) → slice_get told q ≡ Some (Hands m k place) → m < mover_port → group_of_epoch told chunk epoch ≡ Some k → IsHandedBy chunk epoch place ds
    handed q m k place epoch at mount group =
        let within = slice_get_within (groups_in_turn told chunk) epoch k group in
        let turns = serving_so.turns in
        serving_so.handed q m k place epoch at mount (omega (arith, within, turns)) group
