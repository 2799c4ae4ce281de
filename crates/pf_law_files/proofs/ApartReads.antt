-- A read of blocks that calls touch apart from each other gives the contents after the calls up to its position.
use Rattle.std.proofs.Common.{◌≡◌, ◌⊎◌, inr, ℕ, suc, ◌+◌, ◌-◌, ◌*◌, ◌/◌, ◌%◌, ◌<◌, ◌≤◌, min, true, List, [], ◌++◌, length, Some, None, slice_get, arith, refl, sym, ap, subst, ◌∙◌}
use Rattle.std.proofs.lemmas.List.{length-append}
use Rattle.std.proofs.lemmas.Option.{slice_get_within}
use Rattle.pf_entry.specs.Ops.{Sector}
use Rattle.pf_volume.specs.Volumes.{Extent, IsVolume}
use Rattle.pf_law_contents.specs.Going.{Went, all_zeros, exchanges_of}
use Rattle.pf_law_contents.specs.Stored.{TellStored, TellStoredAt, stored_after}
use Rattle.pf_journal.specs.declared.layouts.Layout.{Layout}
use Rattle.pf_journal.specs.Layouts.{VolumeHasRoom}
use Rattle.pf_file_calls.specs.declared.answers.CallAnswer.{CallAnswer}
use Rattle.pf_file_calls.specs.declared.calls.Pending.{Pending}
use Rattle.pf_law_calls.specs.Doings.{HaveRegisters, IsListOf}
use Rattle.pf_law_calls.specs.Lives.{Begins, MountTold}
use Rattle.pf_law_calls.specs.Spelled.{CanAllBeSpelled}
use Rattle.pf_law_calls.specs.Trees.{AreFewCalls, calls_of}
use Rattle.pf_law_homes.specs.Chunks.{ChunkGroups}
use Rattle.pf_law_homes.specs.Routed.{AreRoutedChunks}
use Rattle.pf_law_events.specs.Events.{MountsAreServed, Happening, port_events, mounts_told}
use Rattle.pf_law_files.specs.Blocks.{is_data_piece}
use Rattle.pf_law_files.specs.Ordered.{CallsAreApart, calls_up_to}
use Rattle.pf_law_files.proofs.MountAsks.{none_pends}
use Rattle.pf_law_files.proofs.PlannedChains.{CallList}
use Rattle.pf_law_files.proofs.Effects.{GoesIn, IsRank, Touching, alone_then, effect, in_block, in_time, rank_of, touching, turns_then, write_before, write_touched}
use Rattle.pf_law_files.proofs.CallTimes.{BeginsThen, EndsThen, at_time, count, count_begun, quiet_after}
use Rattle.pf_law_files.proofs.ListedCalls.{Stands, Stood}
use Rattle.pf_law_files.proofs.Positions.{IsOf}
use Rattle.pf_law_files.proofs.WriteRanks.{left_by_all}
use Rattle.pf_law_files.proofs.BlockTimes.{IsWrite, begins_free, call_leaves_it, far_at, in_it, in_stays, its_at, last_at, mount_low, pends_own_is}

module _ (layout : Layout) (v : Extent) (volume : IsVolume v) (room : VolumeHasRoom layout v) (list : List (List ℕ)) (groups : (chunk : ℕ) → ChunkGroups) (hs : List Happening) (are : MountsAreServed layout v hs) (registers : HaveRegisters layout v (mounts_told hs))
    (is : IsListOf layout v (mounts_told hs) list) (all_routed : AreRoutedChunks v groups (port_events layout v hs)) (spelled : CanAllBeSpelled (mounts_told hs)) (few : AreFewCalls (mounts_told hs)) (now after : List MountTold) (same : mounts_told hs ≡ now ++ after)
    (u : ℕ) (within : u ≤ length list) (begun_by : (k n number : ℕ) → k < u → IsOf list k n number → number ≤ length (calls_of now n))
    (l : CallList layout v (mounts_told hs) are.can_be registers list is volume spelled few now after same u within begun_by (λ k. k ≤ u) u (calls_up_to layout v now list u))
    (wents : List Went) (size_is : length wents ≡ length l.stood)
    (goes : (k : ℕ) (w : Went) → slice_get wents k ≡ Some w → (s : Stood) × (slice_get l.stood k ≡ Some s) × (st : Stands layout v list now s) × GoesIn layout v volume room list groups hs are registers is all_routed spelled few now after same s st w.came w.answer)
    (tells : TellStored all_zeros (exchanges_of wents))
    (m reads time : ℕ) (p : Pending) (answer : CallAnswer) (over : EndsThen layout v (mounts_told hs) time m reads p answer) (last_is : length now ≡ suc time)
    (began : ℕ) (begun : BeginsThen layout v (mounts_told hs) began m reads) (order : began ≤ time) (late : (n : ℕ) → n < 16 → (at_time layout v (mounts_told hs) began n).upto ≤ u) where
  abbrev told : List MountTold
  told = mounts_told hs

  -- so what came for the read of one block was told what is stored after the calls of the list
  module _ (block piece : ℕ) (of_data : is_data_piece layout v (8 * block / v.sectors) piece ≡ true) (first_is : 8 * piece ≡ 8 * block % v.sectors) (apart : CallsAreApart layout v now list u block m reads) where
    abbrev block_at_time : ℕ → List Sector
    block_at_time k = in_block layout v volume room list groups hs are registers is all_routed spelled few now after same block (8 * block / v.sectors) piece of_data refl first_is u m reads began begun apart k

    low_began : began < length now
    low_began = omega (arith, order, last_is)

    abbrev Rank : (write rank : ℕ) → Type 0
    Rank write rank = IsRank layout v volume room list groups hs are registers is all_routed spelled few now after same block (8 * block / v.sectors) piece of_data refl first_is u m reads began begun apart l.stood l.each l.order low_began l.earlier write rank

    small : m < 16
    small = mount_low layout v volume room list groups hs are registers is all_routed time (record { mount = m; input = over.input }) over.there

    abbrev WriteAt : (write other : ℕ) → Type 0
    WriteAt write other = IsWrite layout v volume room list groups hs are registers is all_routed (8 * block / v.sectors) piece of_data write other

    now_low : length now ≤ length told
    now_low = (let size = ap (λ (us : List MountTold). length us) same ∙ length-append now after in omega (arith, size))

    ranked : (write other : ℕ) → write < length now → WriteAt write other → (rank : ℕ) × Rank write rank
    ranked write other low w = rank_of layout v volume room list groups hs are registers is all_routed spelled few now after same block (8 * block / v.sectors) piece of_data refl first_is u m reads began begun apart l.stood l.each l.order low_began l.earlier late begun_by l.places l.named write other low w

    stays : (from to : ℕ) → from ≤ to → ((write rank : ℕ) → from ≤ write → write < to → Rank write rank → ⊥) → block_at_time from ≡ block_at_time to
    stays from to le none =
        let gap : min from (length now) + (min to (length now) - min from (length now)) ≡ min to (length now) = omega (arith, le) in
        let most = now_low in
        sym (ap (λ k. in_it layout v volume room list groups hs are registers is all_routed (8 * block / v.sectors) piece of_data k) (sym gap)
        ∙ in_stays layout v volume room list groups hs are registers is all_routed (8 * block / v.sectors) piece of_data (min to (length now) - min from (length now)) (min from (length now)) (omega (arith, gap, most))
        (λ j other above below w.
        let low : j < length now = omega (arith, below, gap) in
        let rank = ranked j other low w in
        none j rank.0 (omega (arith, above, low)) (omega (arith, below, gap)) rank.1))

    before_read : (write other : ℕ) → write < length now → WriteAt write other → (write < began) × ((b : Touching layout v volume room list groups hs are registers is all_routed spelled few now after same block (8 * block / v.sectors) piece of_data refl first_is u m reads began begun apart other (count layout v told write other)) → b.ended < began)
    before_read write other low w =
        let b = touching layout v volume room list groups hs are registers is all_routed spelled few now after same block (8 * block / v.sectors) piece of_data refl first_is u m reads began begun apart other (count layout v told write other) (write_touched layout v volume room list groups hs are registers is all_routed spelled few now after same block (8 * block / v.sectors) piece of_data refl first_is u m reads began begun apart write other low w) in
        let read_later = b.read_later in
        let less = write_before layout v volume room list groups hs are registers is all_routed spelled few now after same block (8 * block / v.sectors) piece of_data refl first_is write other w b.ended (count layout v told write other) b.call b.answer b.over refl in
        (omega (arith, less, read_later), λ c. c.read_later)

    all_ranked : (write rank : ℕ) → Rank write rank → (rank < length wents) × (write < began)
    all_ranked write rank r =
        let low = slice_get_within l.stood rank r.0 r.1 in
        (omega (arith, low, size_is), (before_read write r.0.mount r.4 r.2).0)

    stored_is : stored_after all_zeros (exchanges_of wents) (8 * block / v.sectors) (8 * piece) ≡ in_it layout v volume room list groups hs are registers is all_routed (8 * block / v.sectors) piece of_data began
    stored_is =
        left_by_all (8 * block / v.sectors) (8 * piece) block_at_time Rank stays wents all_zeros began (sym (in_time layout v volume room list groups hs are registers is all_routed spelled few now after same block (8 * block / v.sectors) piece of_data refl first_is u m reads began begun apart 0 (omega arith))) all_ranked
        (λ k w at_k. let its = goes k w at_k in effect layout v volume room list groups hs are registers is all_routed spelled few now after same block (8 * block / v.sectors) piece of_data refl first_is u m reads began begun apart l.stood l.each l.order low_began l.earlier k its.0 its.1 its.2 w.came w.answer its.3) tells
        ∙ in_time layout v volume room list groups hs are registers is all_routed spelled few now after same block (8 * block / v.sectors) piece of_data refl first_is u m reads began begun apart began (omega (arith, order, last_is))

    told_most : suc time ≤ length told
    told_most = (let most = now_low in omega (arith, most, last_is))

    others : (write other : ℕ) → write < suc time → WriteAt write other → ((other ≡ m) × (began < write)) ⊎ ((b : Touching layout v volume room list groups hs are registers is all_routed spelled few now after same block (8 * block / v.sectors) piece of_data refl first_is u m reads began begun apart other (count layout v told write other)) → b.ended < began)
    others write other below w = inr (before_read write other (omega (arith, below, last_is)) w).1

    pub told_stored : TellStoredAt (8 * block / v.sectors) (8 * block % v.sectors) (stored_after all_zeros (exchanges_of wents)) (its_at layout v volume room list groups hs are registers is all_routed (suc time) m)
    told_stored =
        let most = told_most in
        let end = over.number_is in
        let more = count_begun layout v told began m begun.call begun.there in
        let start = begun.number_is in
        let ended : last_at layout v volume room list groups hs are registers is all_routed (suc time) m ≡ None =
        none_pends v (last_at layout v volume room list groups hs are registers is all_routed (suc time) m) (at_time layout v told (suc time) m)
        (quiet_after layout v told are.can_be registers list is time m reads p answer over (suc time) (omega arith) most (omega (arith, end)))
        (far_at layout v volume room list groups hs are registers is all_routed (suc time) m small) in
        let free = pends_own_is layout v volume room list groups hs are registers is all_routed began (record { mount = m; input = Begins begun.call }) begun.there ∙ begins_free layout v volume room list groups hs are registers is all_routed (8 * block / v.sectors) piece of_data m small (λ c other. []) began begun.call begun.there in
        subst (λ first. TellStoredAt (8 * block / v.sectors) first (stored_after all_zeros (exchanges_of wents)) (its_at layout v volume room list groups hs are registers is all_routed (suc time) m)) first_is
        (call_leaves_it layout v volume room list groups hs are registers is all_routed (8 * block / v.sectors) piece of_data m small (stored_after all_zeros (exchanges_of wents)) began (suc time) begun.call (omega (arith, order)) most begun.there (omega (arith, end, more, start)) ended
        (alone_then layout v volume room list groups hs are registers is all_routed spelled few now after same block (8 * block / v.sectors) piece of_data refl first_is u m reads began begun apart m reads began (suc time) begun (omega (arith, last_is)) others) (turns_then layout v volume room list groups hs are registers is all_routed spelled few now after same block (8 * block / v.sectors) piece of_data refl first_is u m reads began begun apart m reads began (suc time) begun (omega (arith, last_is)) others free) stored_is).1
