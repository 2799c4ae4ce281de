-- All mounts of a run share one list, by what came to them and how the groups served the chunks.
use Rattle.std.proofs.Common.{◌≡◌, ℕ, ◌+◌, ◌*◌, ◌/◌, ◌^◌, ◌<◌, ◌≤◌, ◌⊎◌, inl, inr, List, [], ◌∷◌, ◌++◌, length, Option, Some, slice_get, arith, refl, sym, ap, subst, ◌∙◌}
use Rattle.std.proofs.lemmas.Bool.{cases_lt}
use Rattle.std.proofs.lemmas.List.{append_assoc}
use Rattle.pf_file_calls.specs.declared.answers.CallAnswer.{CallAnswer}
use Rattle.pf_tree.specs.Calls.{FileCall}
use Rattle.pf_volume.specs.Volumes.{Extent, IsVolume}
use Rattle.pf_protocol.specs.Groups.{Answered}
use Rattle.pf_law_positions.specs.Deeds.{Deed}
use Rattle.pf_law_epochs.specs.Routed.{IsRouted}
use Rattle.pf_law_epochs.specs.Sectors.{RoutedSector}
use Rattle.pf_law_epochs.proofs.Sectors.{routed_sector}
use Rattle.pf_law_lists.proofs.Longest.{transaction_list}
use Rattle.pf_law_calls.specs.Doings.{HaveRegisters, IsListOf, doings}
use Rattle.pf_law_calls.specs.Lives.{CanBe, Life, MountTold, all_opened, lives, lives_on}
use Rattle.pf_law_calls.proofs.Journals.{list_is_whole, over_layout, quorums_meet}
use Rattle.pf_law_calls.specs.Since.{called}
use Rattle.pf_law_files.specs.Ordered.{ReadsGiveContentsInOrder}
use Rattle.pf_law_files.proofs.Apart.{reads_in_order}
use Rattle.pf_law_events.specs.Events.{MountsAreServed, port_events}
use Rattle.pf_law_events.proofs.NoFailures.{never_fail}
use Rattle.pf_law_homes.specs.Chunks.{ChunkGroups, groups_in}
use Rattle.pf_law_homes.specs.Ports.{PortEvent, deeds_on}
use Rattle.pf_law_homes.specs.Routed.{AreRoutedChunks}
use Rattle.pf_law_calls.proofs.CallReports.{calls_answered}
use Rattle.pf_law_calls.specs.Answering.{IsCallAnsweredBy}
use Rattle.pf_law_calls.specs.Exchanges.{exchanges}
use Rattle.pf_law_calls.specs.Spelled.{CanAllBeSpelled}
use Rattle.pf_law_calls.specs.Trees.{AreFewCalls, call_named, calls_of}
use Rattle.pf_law_calls.proofs.OneTransaction.{once}
use Rattle.pf_law_calls.proofs.TablesByList.{mounts_stand}
use Rattle.pf_law_runs.specs.pf_world.specs.pf_world_moments.specs.Hosts.{pending_call, ended_line}
use Rattle.pf_law_runs.specs.pf_world.specs.pf_world_moments.specs.Moments.{Acts, Answers, Moment, Writes}
use Rattle.pf_law_runs.specs.pf_world.specs.pf_mount_host.specs.Hosts.{HostIs}
use Rattle.pf_law_runs.specs.pf_world.specs.pf_world_hosts.specs.Volumes.{VolumeRun, host_at}
use Rattle.pf_law_runs.specs.pf_law_movers.proofs.Lives.{its_own}
use Rattle.pf_law_runs.specs.pf_law_movers.specs.Epochs.{epoch_of}
use Rattle.pf_law_runs.specs.pf_law_movers.proofs.MovePieces.{no_answer}
use Rattle.pf_law_mounts.specs.Lists.{HasOneList}
use Rattle.pf_law_mounts.specs.Sectors.{AreRoutedSectors, WasCarried}
use Rattle.pf_law_mounts.specs.Told.{inputs_in}
use Rattle.pf_law_mounts.proofs.Causes.{HaveCauses, IsCaused, cause_at, inputs_on}
use Rattle.pf_law_mounts.proofs.Comings.{told_registers}
use Rattle.pf_law_mounts.proofs.Contents.{alone_through, call_then, read_in_order, read_told}
use Rattle.pf_law_mounts.proofs.Ends.{lives_more}
use Rattle.pf_law_mounts.proofs.Late.{call_late}
use Rattle.pf_law_mounts.proofs.MovedPieces.{groups_at, last_in, was_carried}
use Rattle.pf_law_mounts.proofs.Known.{IsKnown}
use Rattle.pf_law_mounts.proofs.Pieces.{AreFitting, IsWhole, groups_of_run, handed, legal_all, piece_last, routed_piece}

module _ {calls : ℕ} (v : VolumeRun) (told : List Moment) (known : IsKnown calls v told) (some : 0 < length v.hosts) (volume : IsVolume v.extent) (run : IsWhole v told) (laws : AreFitting) where
  abbrev e : Extent
  e = v.extent

  served : MountsAreServed v.layout e known.happenings
  served = known.answered (legal_all v told known volume run)

  abbrev groups : (chunk : ℕ) → ChunkGroups
  groups chunk = groups_at e v.chunks told chunk (known.service chunk)

  abbrev events : List PortEvent
  events = port_events v.layout e known.happenings

  -- The sectors of all chunks

  -- of a chunk of the volume, the mover's last reads
  abbrev last_by : (chunk : ℕ) → (chunk < e.chunks) ⊎ (e.chunks ≤ chunk) → (epoch piece : ℕ) → Answered
  last_by chunk (inl small) epoch piece = last_in e v.chunks told run.moves run.far volume chunk small (known.service chunk) (known.deeds chunk) (known.serving_so chunk small) piece epoch
  last_by chunk (inr past) epoch piece = no_answer

  abbrev last : (chunk epoch piece : ℕ) → Answered
  last chunk = last_by chunk (cases_lt chunk e.chunks)

  carried : (chunk epoch : ℕ) → chunk < e.chunks → epoch < epoch_of told chunk → (o : (chunk < e.chunks) ⊎ (e.chunks ≤ chunk)) → WasCarried e told (groups chunk) chunk epoch (last_by chunk o epoch)
  carried chunk epoch small ended (inl its) = was_carried e v.chunks told run.moves run.far volume chunk its (known.service chunk) (known.deeds chunk) (known.serving_so chunk its) epoch ended
  carried chunk epoch small ended (inr past) = absurd (omega (arith, small, past))

  abbrev IsPiece : (chunk piece : ℕ) → List Deed → (ℕ → Answered) → Type 0
  IsPiece chunk piece ds last = (r : IsRouted (groups_in (groups chunk)) ds chunk piece) × (r.last ≡ last)

  pieces : (chunk piece : ℕ) → chunk < e.chunks → 8 * piece < e.sectors → (o : (chunk < e.chunks) ⊎ (e.chunks ≤ chunk)) → IsPiece chunk piece (deeds_on events chunk) (λ epoch. last_by chunk o epoch piece)
  pieces chunk piece small within (inl its) =
      let blocks = volume.blocks.1 in
      let low : piece < e.sectors / 8 = omega (arith, within, blocks) in
      subst (λ (ds : List Deed). IsPiece chunk piece ds (λ epoch. last_by chunk (inl its) epoch piece)) (known.same chunk its)
      (routed_piece v told known volume run laws chunk its piece low, piece_last v told known volume run laws chunk its piece low)
  pieces chunk piece small within (inr past) = absurd (omega (arith, small, past))

  piece : (chunk piece : ℕ) → chunk < e.chunks → 8 * piece < e.sectors → IsPiece chunk piece (deeds_on events chunk) (λ epoch. last chunk epoch piece)
  piece chunk n small within = pieces chunk n small within (cases_lt chunk e.chunks)

  abbrev routed : AreRoutedChunks e groups events
  routed chunk n small within = (piece chunk n small within).0

  all_sectors : AreRoutedSectors v told groups events
  all_sectors = record {
    handed = λ chunk q m k place epoch small at mount group.
        let h = handed v told known volume run laws chunk small q m k place epoch at mount group in
        (h.moment, h.client, ap (λ (ds : List Deed). slice_get ds h.moment) (sym (known.same chunk small)) ∙ h.at);
    last = last;
    carried = λ chunk epoch small ended. carried chunk epoch small ended (cases_lt chunk e.chunks);
    routed = routed;
    same = λ chunk n small within. (piece chunk n small within).1;
    registers = λ chunk n nth small within low.
        subst (λ (its : ℕ → Answered). RoutedSector (groups_in (groups chunk)) (deeds_on events chunk) chunk (8 * n + nth) its) (piece chunk n small within).1
        (routed_sector (groups_in (groups chunk)) (deeds_on events chunk) chunk n nth (routed chunk n small within) low);
  }

  -- The list

  abbrev inputs : List MountTold
  inputs = inputs_in told

  can_be : CanBe v.layout e inputs
  can_be = subst (CanBe v.layout e) known.told_are served.can_be

  registers : HaveRegisters v.layout e inputs
  registers = subst (λ (its : List MountTold). HaveRegisters v.layout e its) known.told_are (told_registers v.layout e known.happenings groups (known.room some) volume served routed)

  spelled : CanAllBeSpelled inputs
  spelled = subst (λ (its : List MountTold). CanAllBeSpelled its) known.told_are known.spelled

  few_calls : (m : ℕ) → length (calls_of inputs m) ≤ calls
  few_calls m = subst (λ (its : List MountTold). length (calls_of its m) ≤ calls) known.told_are (known.few_calls m)

  mount_is : (m : ℕ) (host : HostIs) → host_at v.hosts m ≡ Some host → host.mount ≡ (lives v.layout e inputs m).mount
  mount_is m host at = subst (λ (its : List MountTold). host.mount ≡ (lives v.layout e its m).mount) known.told_are (known.host_so m host at).mount

  -- a life goes on by what came last
  life_after : (first : List MountTold) (t : MountTold) → lives v.layout e (first ++ t ∷ []) t.mount ≡ lives_on (lives v.layout e first t.mount) t.input
  life_after first t =
      ap (λ (f : ℕ → Life). f t.mount) (lives_more (all_opened v.layout e) first (t ∷ []))
      ∙ its_own t.mount t.mount (lives_on (lives v.layout e first t.mount) t.input) (lives v.layout e first t.mount) refl

  -- where an answer was told, its cause came last
  cause : (before after : List Moment) (m : ℕ) (answer : CallAnswer) → told ≡ before ++ Acts m (Answers answer) ∷ after → IsCaused v.layout e before m answer after
  cause before after m answer same = cause_at v.layout e [] before (Acts m (Answers answer)) after (subst (HaveCauses v.layout e []) same known.causes)

  cause_splits : (before after : List Moment) (m : ℕ) (answer : CallAnswer) → told ≡ before ++ Acts m (Answers answer) ∷ after → (c : IsCaused v.layout e before m answer after) → inputs ≡ inputs_in c.earlier ++ record { mount = m; input = c.input } ∷ inputs_in after
  cause_splits before after m answer same c =
      ap inputs_in same ∙ inputs_on before (Acts m (Answers answer) ∷ after) ∙ ap (λ (its : List MountTold). its ++ inputs_in after) c.last ∙ append_assoc (inputs_in c.earlier) (record { mount = m; input = c.input } ∷ []) (inputs_in after)

  pub has_one_list : calls < 2 ^ 32 → HasOneList v told
  has_one_list low =
      let found = transaction_list (over_layout v.layout (doings v.layout e inputs)) (let meet = quorums_meet v.layout in omega (arith, meet)) in
      let few : AreFewCalls inputs = λ m small. let most = few_calls m in omega (arith, most, low) in record {
        happenings = known.happenings;
        told_are = known.told_are;
        room = known.room some;
        served = served;
        groups = groups;
        of_run = λ chunk small. groups_of_run v told known volume run laws chunk small;
        sectors = all_sectors;
        mounts = mount_is;
        list = found.0;
        is = found.1;
        whole = λ needs position value past decided. list_is_whole v.layout e inputs can_be needs registers found.0 found.1 position value past decided;
        stands = λ before after m part small.
            mounts_stand v.layout e inputs can_be registers found.0 found.1 volume spelled few (inputs_in before) (inputs_in after) (ap inputs_in part ∙ inputs_on before after) m small;
        works = λ before after m part. never_fail v.layout e known.happenings groups (known.room some) volume served routed (inputs_in before) (inputs_in after) m (known.told_are ∙ ap inputs_in part ∙ inputs_on before after);
        once = once v.layout e inputs can_be registers found.0 found.1 few;
        answers = λ before after m answer same.
            let c = cause before after m answer same in
            let t : MountTold = record { mount = m; input = c.input } in
            let first : List MountTold = inputs_in c.earlier in
            subst (λ (its : List MountTold). IsCallAnsweredBy v.layout e inputs found.0 (exchanges v.layout e its m) m (lives v.layout e its m).mount answer) (sym c.last)
            (subst (λ (l : Life). IsCallAnsweredBy v.layout e inputs found.0 (exchanges v.layout e (first ++ t ∷ []) m) m l.mount answer) (sym (life_after first t))
            (calls_answered v.layout e inputs can_be registers found.0 found.1 volume spelled few first (inputs_in after) m c.input answer (cause_splits before after m answer same c) c.done));
        lines = λ before after m answer same.
            let c = cause before after m answer same in
            let its = call_then v.layout e inputs can_be registers found.0 found.1 (inputs_in c.earlier) (inputs_in after) m c.input answer (cause_splits before after m answer same c) c.done in
            let named : pending_call (called (lives v.layout e (inputs_in c.earlier) m).mount c.input) ≡ call_named (inputs_in before) m (lives v.layout e (inputs_in before) m).mount.files.calls =
            ap pending_call its.1 ∙ sym its.2 ∙ ap (λ now. call_named now m (lives v.layout e now m).mount.files.calls) (sym c.last) in
            (c.rest, c.line ∙ ap (λ (call : Option FileCall). Writes (ended_line m call answer) ∷ c.rest) named);
        late = call_late v.layout e told known.causes can_be registers found.0 found.1 few;
        reads = λ before after m p offset count answer same named ones.
            let c = cause before after m answer same in
            read_told v.layout e known.happenings found.0 groups volume (known.room some) served (subst (λ (its : List MountTold). HaveRegisters v.layout e its) (sym known.told_are) registers)
            (subst (λ (its : List MountTold). IsListOf v.layout e its found.0) (sym known.told_are) found.1) (subst (λ (its : List MountTold). CanAllBeSpelled its) (sym known.told_are) spelled)
            (subst (λ (its : List MountTold). AreFewCalls its) (sym known.told_are) few) routed
            (inputs_in c.earlier) (inputs_in after) m c.input answer (known.told_are ∙ cause_splits before after m answer same c) c.done p offset count
            (inputs_in before) c.last named ones;
        alone = λ before after m part one. alone_through v.layout e (inputs_in before) (inputs_in after) m (subst (CanBe v.layout e) (ap inputs_in part ∙ inputs_on before after) can_be) one;
        apart = λ before after m p offset count answer same named.
            let c = cause before after m answer same in
            let gives = subst (λ (its : List MountTold). ReadsGiveContentsInOrder v.layout e found.0 its) known.told_are
            (reads_in_order v.layout e volume (known.room some) found.0 groups known.happenings served (subst (λ (its : List MountTold). HaveRegisters v.layout e its) (sym known.told_are) registers)
            (subst (λ (its : List MountTold). IsListOf v.layout e its found.0) (sym known.told_are) found.1) routed (subst (λ (its : List MountTold). CanAllBeSpelled its) (sym known.told_are) spelled)
            (subst (λ (its : List MountTold). AreFewCalls its) (sym known.told_are) few)) in
            read_in_order v.layout e inputs can_be registers found.0 found.1 gives (inputs_in c.earlier) (inputs_in after) m c.input answer (cause_splits before after m answer same c) c.done p offset count
            (inputs_in before) c.last named;
      }
