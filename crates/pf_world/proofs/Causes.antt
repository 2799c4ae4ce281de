-- Each halt of a world has its cause.
use Rattle.std.proofs.Common.{◌≡◌, ◌≢◌, inl, inr, ℕ, Bool, zero, suc, ◌+◌, ◌*◌, ◌<◌, ◌≤◌, ◌&&◌, ◌==◌, IsTrue, false, List, [], ◌∷◌, ◌++◌, drop, length, Option, Some, flat_map, slice_get, arith, refl, sym, ap, subst, ◌∙◌}
use Rattle.std.proofs.lemmas.Bool.{ne_eqb}
use Rattle.std.proofs.lemmas.List.{take-append-drop}
use Rattle.std.proofs.lemmas.List.Sums.{sum_by-append, sum_by-cons}
use Rattle.std.proofs.lemmas.Option.{none-some, same_Some}
use Rattle.pf_entry.specs.Lists.{Every}
use Rattle.pf_entry.proofs.Lists.{every_flat_map_from, every_more}
use Rattle.pf_disk.specs.Crashes.{Images}
use Rattle.pf_live_session.specs.pf_group_network.proofs.Alone.{get_mapped}
use Rattle.pf_live_session.specs.pf_group.specs.GroupIs.{GroupIs}
use Rattle.pf_live_session.specs.pf_group_rounds.specs.Growing.{IsPaid}
use Rattle.pf_live_session.specs.pf_group_rounds.specs.Halts.{Halt}
use Rattle.pf_live_session.specs.pf_group_rounds.specs.Telling.{halt_count, halts_of_group, one_if}
use Rattle.pf_live_session.specs.pf_chunk.specs.pf_chunk_waiting.proofs.Filters.{every_place}
use Rattle.pf_live_session.specs.pf_chunk.specs.Views.{ChunkIs}
use Rattle.pf_world.specs.Disks.{AreLeft, six_list}
use Rattle.pf_world.specs.Headline.{AreCaused, AreHalts, FailedTimes, IsCaused, IsHaltPlaceOf, IsSoundWorld, HaltStandsIn}
use Rattle.pf_world.specs.Making.{AreMadeOn}
use Rattle.pf_world.specs.Views.{WorldIs}
use Rattle.pf_world.proofs.Servers.{IsOwn, halts_own, halts_placed}
use Rattle.pf_world.proofs.Sixes.{six_there}
use Rattle.pf_world.proofs.Told.{AreNumbered, AreTold, all_tell, groups_of, world_halts}

-- each halt of these groups is of one of the three servers of the group of its number
abbrev AreOwn : List GroupIs → Type 0
AreOwn gs = (k : ℕ) (g : GroupIs) → slice_get gs k ≡ Some g → (g.number ≡ k) × Every (IsOwn k) (halts_of_group g)

module _ (i : ℕ) where
  none_elsewhere : (number k : ℕ) → number ≢ k → (halts : List Halt) → Every (IsOwn number) halts → halt_count halts k i ≡ 0
  none_elsewhere number k apart [] own = refl
  none_elsewhere number k apart (h ∷ hs) own =
      let other : (h.group == k) ≡ false = ne_eqb h.group k (λ same. apart (sym own.0.0 ∙ same)) in
      omega (arith, sum_by-cons (λ x. one_if (x.group == k && x.server == i)) h hs, ap (λ b. one_if (b && h.server == i)) other, none_elsewhere number k apart hs own.1)

  -- groups that are numbered from n on
  abbrev AreOwnFrom : ℕ → List GroupIs → Type 0
  AreOwnFrom n gs = (k : ℕ) (g : GroupIs) → slice_get gs k ≡ Some g → Every (IsOwn (n + k)) (halts_of_group g)

  rest_own : (n : ℕ) (g : GroupIs) (gs : List GroupIs) → AreOwnFrom n (g ∷ gs) → AreOwnFrom (suc n) gs
  rest_own n g gs all k x at = subst (λ m. Every (IsOwn m) (halts_of_group x)) (omega arith) (all (suc k) x at)

  first_own : (n : ℕ) (g : GroupIs) (gs : List GroupIs) → AreOwnFrom n (g ∷ gs) → Every (IsOwn n) (halts_of_group g)
  first_own n g gs all = subst (λ m. Every (IsOwn m) (halts_of_group g)) (omega arith) (all 0 g refl)

  parted : (g : GroupIs) (gs : List GroupIs) (k : ℕ) → halt_count (flat_map halts_of_group (g ∷ gs)) k i ≡ halt_count (halts_of_group g) k i + halt_count (flat_map halts_of_group gs) k i
  parted g gs k = sum_by-append (λ x. one_if (x.group == k && x.server == i)) (halts_of_group g) (flat_map halts_of_group gs)

  none_below : (n k : ℕ) → k < n → (gs : List GroupIs) → AreOwnFrom n gs → halt_count (flat_map halts_of_group gs) k i ≡ 0
  none_below n k low [] all = refl
  none_below n k low (g ∷ gs) all =
      omega (arith, parted g gs k, none_elsewhere n k (λ same. omega (arith, same, low)) (halts_of_group g) (first_own n g gs all), none_below (suc n) k (omega (arith, low)) gs (rest_own n g gs all))

  count_from : (n : ℕ) (gs : List GroupIs) → AreOwnFrom n gs → (k : ℕ) (g : GroupIs) → slice_get gs k ≡ Some g → halt_count (flat_map halts_of_group gs) (n + k) i ≡ halt_count (halts_of_group g) (n + k) i
  count_from n [] all k g at = absurd (none-some g at)
  count_from n (x ∷ xs) all zero g at =
      let same = ap (λ (y : GroupIs). halt_count (halts_of_group y) (n + 0) i) (same_Some x g at) in
      omega (arith, parted x xs (n + 0), none_below (suc n) (n + 0) (omega arith) xs (rest_own n x xs all), same)
  count_from n (x ∷ xs) all (suc k) g at =
      let later : suc n + k ≡ n + suc k = omega arith in
      let rest = subst (λ m. halt_count (flat_map halts_of_group xs) m i ≡ halt_count (halts_of_group g) m i) later (count_from (suc n) xs (rest_own n x xs all) k g at) in
      omega (arith, parted x xs (n + suc k), none_elsewhere n (n + suc k) (λ same. omega (arith, same)) (halts_of_group x) (first_own n x xs all), rest)

-- the halts of a server are those of its group
counted : (gs : List GroupIs) → AreOwn gs → (k i : ℕ) (g : GroupIs) → slice_get gs k ≡ Some g → halt_count (flat_map halts_of_group gs) k i ≡ halt_count (halts_of_group g) g.number i
counted gs all k i g at =
    let from = count_from i 0 gs (λ j x there. subst (λ m. Every (IsOwn m) (halts_of_group x)) (omega arith) (all j x there).1) k g at in
    let here : 0 + k ≡ k = omega arith in
    subst (λ m. halt_count (flat_map halts_of_group gs) k i ≡ halt_count (halts_of_group g) m i) (sym (all k g at).0) (subst (λ m. halt_count (flat_map halts_of_group gs) m i ≡ halt_count (halts_of_group g) m i) here from)

-- the disks of a server failed as often as it was halted, and no count fell afterwards
failed_times : (n : ℕ) (x y z : ℕ × ℕ) → IsPaid 0 n x y → y.0 ≤ z.0 → y.1 ≤ z.1 → FailedTimes n x z
failed_times n x y z paid le0 le1 = elim paid.enough [
  | inl some ↦ inl (omega (arith, some, le0, le1))
  | inr last ↦ inr (elim last [ inl first ↦ inl (omega (arith, first, le0)) | inr second ↦ inr (omega (arith, second, le1)) ])
]

module _ {D : Type 0} (seen : D → Option (List ℕ)) (may_leave : D → Images) (faults moment : D → ℕ) (left_since : D → ℕ → Images) (tells tells_moments : Bool) (disks after : List D) (w : WorldIs) where
  -- a world whose groups were made on these disks one after another, after more had happened to them, which left the disks so
  pub record HasPassed : Type 0 where
    pub numbers : (k : ℕ) (c : ChunkIs) → slice_get w.chunks k ≡ Some c → c.group.number ≡ k
    pub sound : IsSoundWorld w
    pub made : AreMadeOn faults disks w.chunks
    pub left : AreLeft seen may_leave faults moment left_since tells tells_moments w.chunks disks after

  -- where disks tell their content
  module _ (p : HasPassed) (tell : IsTrue tells) where
    told : AreTold w
    told k c there = subst (λ b. IsTrue b) (sym (p.left.told k c there)) tell

    are_numbered : AreNumbered w
    are_numbered k c there = (p.numbers k c there, (p.made.each k c there).2.few)

    own : AreOwn (groups_of w.chunks)
    own k g there =
        let at = get_mapped (λ (c : ChunkIs). c.group) w.chunks k g there in
        let is = are_numbered k at.0 at.1 in
        subst (λ (x : GroupIs). (x.number ≡ k) × Every (IsOwn k) (halts_of_group x)) (sym at.2)
        (is.0, subst (λ n. Every (IsOwn n) (halts_of_group at.0.group)) is.0 (halts_own at.0.group ((p.sound k at.0 at.1).legal (told k at.0 at.1)) is.1))

    disks_are : flat_map six_list p.made.sixes ++ drop (6 * length w.chunks) disks ≡ disks
    disks_are = ap (λ ds. ds ++ drop (6 * length w.chunks) disks) (sym p.made.given) ∙ take-append-drop (6 * length w.chunks) disks

    -- a server of a chunk
    caused_at : (k i : ℕ) (g : GroupIs) → slice_get (groups_of w.chunks) k ≡ Some g → i < 3 → IsCaused faults (world_halts w) disks after k i
    caused_at k i g there low =
        let at = get_mapped (λ (c : ChunkIs). c.group) w.chunks k g there in
        let made = p.made.each k at.0 at.1 in
        let six = six_there faults p.made.sixes (drop (6 * length w.chunks) disks) k i made.0 made.1 low in
        let paid = made.2.paid (told k at.0 at.1) in
        let halves = p.left.halves k i at.0 at.1 low in
        let times = failed_times (halt_count (halts_of_group at.0.group) at.0.group.number i) (faults six.zero, faults six.one) (faults halves.zero, faults halves.one) (faults halves.zero, faults halves.one) (paid.each i (faults six.zero, faults six.one) (faults halves.zero, faults halves.one) six.counts halves.counts) (omega arith) (omega arith) in
        let all = counted (groups_of w.chunks) own k i g there ∙ ap (λ (x : GroupIs). halt_count (halts_of_group x) x.number i) at.2 in
        record {
          was = (faults six.zero, faults six.one);
          is = (faults halves.zero, faults halves.one);
          had = record { zero = six.zero; one = six.one; zero_is = ap (λ ds. slice_get ds (6 * k + 2 * i)) (sym disks_are) ∙ six.zero_is; one_is = ap (λ ds. slice_get ds (6 * k + 2 * i + 1)) (sym disks_are) ∙ six.one_is; counts_are = refl };
          have = record { zero = halves.zero; one = halves.one; zero_is = halves.zero_is; one_is = halves.one_is; counts_are = refl };
          failed = subst (λ n. FailedTimes n (faults six.zero, faults six.one) (faults halves.zero, faults halves.one)) (sym all) times;
        }

    abbrev HasCause : Halt → Type 0
    HasCause h = IsCaused faults (world_halts w) disks after h.group h.server

    pub all_caused : AreCaused faults (world_halts w) disks after
    all_caused =
        every_flat_map_from (λ g. Every HasCause (halts_of_group g)) HasCause halts_of_group (groups_of w.chunks) (λ g all. all)
        (every_place (λ g. Every HasCause (halts_of_group g)) (groups_of w.chunks)
        (λ k g there. every_more (IsOwn k) HasCause (λ h its. subst (λ n. IsCaused faults (world_halts w) disks after n h.server) (sym its.0) (caused_at k h.server g there its.1)) (halts_of_group g) (own k g there).1))

    -- each is of a group of the world
    stands_in : (k : ℕ) (c : ChunkIs) → slice_get w.chunks k ≡ Some c → (h : Halt) → (h.group ≡ k) × IsHaltPlaceOf c.group h.place → HaltStandsIn w h
    stands_in k c there h its = record { chunk = c; there = subst (λ n. slice_get w.chunks n ≡ Some c) (sym its.0) there; place = its.1 }

    pub all_within : Every (HaltStandsIn w) (world_halts w)
    all_within =
        every_flat_map_from (λ g. Every (HaltStandsIn w) (halts_of_group g)) (HaltStandsIn w) halts_of_group (groups_of w.chunks) (λ g all. all)
        (every_place (λ g. Every (HaltStandsIn w) (halts_of_group g)) (groups_of w.chunks)
        (λ k g there.
        let at = get_mapped (λ (c : ChunkIs). c.group) w.chunks k g there in
        subst (λ (x : GroupIs). Every (HaltStandsIn w) (halts_of_group x)) (sym at.2)
        (every_more (λ h. (h.group ≡ k) × IsHaltPlaceOf at.0.group h.place) (HaltStandsIn w) (stands_in k at.0 at.1) (halts_of_group at.0.group)
        (subst (λ n. Every (λ h. (h.group ≡ n) × IsHaltPlaceOf at.0.group h.place) (halts_of_group at.0.group)) (are_numbered k at.0 at.1).0 (halts_placed at.0.group)))))

    pub are_halts : AreHalts faults (world_halts w) disks after w
    are_halts = record { tells = all_tell w are_numbered told p.sound; within = all_within; causes = all_caused }
