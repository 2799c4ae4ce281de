-- Disks by sixes, as their chunks left them.
use Rattle.std.proofs.Common.{◌≡◌, ℕ, Bool, IsTrue, zero, suc, ◌+◌, ◌*◌, ◌<◌, ◌≤◌, List, [], ◌∷◌, ◌++◌, Option, Some, drop, length, length-drop, reverse, refl, sym, ap, subst, ◌∙◌, arith}
use Rattle.std.specs.List.{flat_map, slice_get}
use Rattle.std.proofs.lemmas.List.{append_assoc, append-nil, length-append}
use Rattle.std.proofs.lemmas.Option.{none-some, same_Some}
use Rattle.pf_disk.specs.Crashes.{Images}
use Rattle.pf_live_session.specs.pf_group.specs.declared.six.Six.{Six}
use Rattle.pf_live_session.specs.pf_group.specs.Crashing.{LeavesAtCrash}
use Rattle.pf_live_session.specs.pf_group.specs.Leaving.{LeavesIn, as_seen}
use Rattle.pf_live_session.specs.pf_group.specs.Making.{six_faults}
use Rattle.pf_live_session.specs.pf_chunk.specs.Views.{ChunkIs}
use Rattle.pf_world.specs.Disks.{AreHalvesOf, AreLeft, six_list}

is_empty : {X : Type 0} (xs : List X) → length xs ≡ 0 → xs ≡ []
is_empty [] none = refl
is_empty (x ∷ xs) none = absurd (omega (arith, none))

module _ {D : Type 0} where
  pub length_sixes : (sixes : List (Six D)) → length (flat_map six_list sixes) ≡ 6 * length sixes
  length_sixes [] = refl
  length_sixes (six ∷ sixes) = omega (arith, length_sixes sixes, length-append (six_list six) (flat_map six_list sixes))

  -- a place after the first six
  past_six : (six : Six D) (rest : List D) (k n : ℕ) → slice_get (six_list six ++ rest) (6 * suc k + n) ≡ slice_get rest (6 * k + n)
  past_six six rest k n =
      let six_more : 6 * suc k + n ≡ suc (suc (suc (suc (suc (suc (6 * k + n)))))) = omega arith in
      ap (λ m. slice_get (six_list six ++ rest) m) six_more

  -- the two halves of server i of chunk k are those of its six
  pub record AreSixth (faults : D → ℕ) (disks : List D) (six : Six D) (k i : ℕ) : Type 0 where
    pub zero : D
    pub one : D
    pub zero_is : slice_get disks (6 * k + 2 * i) ≡ Some zero
    pub one_is : slice_get disks (6 * k + 2 * i + 1) ≡ Some one
    pub counts : slice_get (six_faults faults six) i ≡ Some (faults zero, faults one)

  module _ (faults : D → ℕ) where
    sixth_first : (six : Six D) (rest : List D) (i : ℕ) → i < 3 → AreSixth faults (six_list six ++ rest) six 0 i
    sixth_first six rest zero low = record { zero = six.s0h0; one = six.s0h1; zero_is = refl; one_is = refl; counts = refl }
    sixth_first six rest (suc zero) low = record { zero = six.s1h0; one = six.s1h1; zero_is = refl; one_is = refl; counts = refl }
    sixth_first six rest (suc (suc zero)) low = record { zero = six.s2h0; one = six.s2h1; zero_is = refl; one_is = refl; counts = refl }
    sixth_first six rest (suc (suc (suc i))) low = absurd (omega arith)

    sixth_later : (first six : Six D) (rest : List D) (k i : ℕ) → AreSixth faults rest six k i → AreSixth faults (six_list first ++ rest) six (suc k) i
    sixth_later first six rest k i there =
        let one : 6 * suc k + 2 * i + 1 ≡ 6 * suc k + (2 * i + 1) = omega arith in
        let back : 6 * k + (2 * i + 1) ≡ 6 * k + 2 * i + 1 = omega arith in
        record {
          zero = there.zero;
          one = there.one;
          zero_is = past_six first rest k (2 * i) ∙ there.zero_is;
          one_is = ap (λ n. slice_get (six_list first ++ rest) n) one ∙ past_six first rest k (2 * i + 1) ∙ ap (λ n. slice_get rest n) back ∙ there.one_is;
          counts = there.counts;
        }

    pub six_there : (sixes : List (Six D)) (rest : List D) (k i : ℕ) (six : Six D) → slice_get sixes k ≡ Some six → i < 3 → AreSixth faults (flat_map six_list sixes ++ rest) six k i
    six_there [] rest k i six there low = absurd (none-some six there)
    six_there (first ∷ sixes) rest zero i six there low =
        subst (λ ds. AreSixth faults ds six 0 i) (sym (append_assoc (six_list first) (flat_map six_list sixes) rest))
        (subst (λ (x : Six D). AreSixth faults (six_list x ++ (flat_map six_list sixes ++ rest)) six 0 i) (sym (same_Some first six there)) (sixth_first six (flat_map six_list sixes ++ rest) i low))
    six_there (first ∷ sixes) rest (suc k) i six there low =
        subst (λ ds. AreSixth faults ds six (suc k) i) (sym (append_assoc (six_list first) (flat_map six_list sixes) rest))
        (sixth_later first six (flat_map six_list sixes ++ rest) k i (six_there sixes rest k i six there low))

  pub drop_sixes : (sixes : List (Six D)) (rest : List D) (n : ℕ) → n ≡ length sixes → drop (6 * n) (flat_map six_list sixes ++ rest) ≡ rest
  drop_sixes [] rest n is = ap (λ m. drop (6 * m) rest) is
  drop_sixes (six ∷ sixes) rest n is =
      let six_more : 6 * n ≡ suc (suc (suc (suc (suc (suc (6 * length sixes)))))) = omega (arith, is) in
      ap (λ m. drop m ((six_list six ++ flat_map six_list sixes) ++ rest)) six_more ∙ drop_sixes sixes rest (length sixes) refl

  module _ (seen : D → Option (List ℕ)) (may_leave : D → Images) (faults moment : D → ℕ) (left_since : D → ℕ → Images) (tells tells_moments : Bool) where
    -- six disks have failed as often as a group knows, and hold what it left on them, where they tell it
    pub record IsLeft (c : ChunkIs) (six : Six D) : Type 0 where
      pub told : c.group.told ≡ tells
      pub left_0 : IsTrue tells → LeavesIn c.group 0 (may_leave six.s0h0) (may_leave six.s0h1)
      pub left_1 : IsTrue tells → LeavesIn c.group 1 (may_leave six.s1h0) (may_leave six.s1h1)
      pub left_2 : IsTrue tells → LeavesIn c.group 2 (may_leave six.s2h0) (may_leave six.s2h1)
      pub seen_0 : IsTrue tells → LeavesIn c.group 0 (as_seen (seen six.s0h0)) (as_seen (seen six.s0h1))
      pub seen_1 : IsTrue tells → LeavesIn c.group 1 (as_seen (seen six.s1h0)) (as_seen (seen six.s1h1))
      pub seen_2 : IsTrue tells → LeavesIn c.group 2 (as_seen (seen six.s2h0)) (as_seen (seen six.s2h1))
      pub crash_0 : IsTrue tells → LeavesAtCrash seen moment left_since tells_moments c.group 0 six.s0h0 six.s0h1
      pub crash_1 : IsTrue tells → LeavesAtCrash seen moment left_since tells_moments c.group 1 six.s1h0 six.s1h1
      pub crash_2 : IsTrue tells → LeavesAtCrash seen moment left_since tells_moments c.group 2 six.s2h0 six.s2h1
      pub counts : six_faults faults six ≡ c.group.faults

    -- each six those of its chunk
    abbrev pub AreAll : List ChunkIs → List (Six D) → Type 0
    AreAll [] [] = Unit {0}
    AreAll [] (six ∷ sixes) = ⊥
    AreAll (c ∷ cs) [] = ⊥
    AreAll (c ∷ cs) (six ∷ sixes) = IsLeft c six × AreAll cs sixes

    told_all : (cs : List ChunkIs) (sixes : List (Six D)) → AreAll cs sixes → (k : ℕ) (c : ChunkIs) → slice_get cs k ≡ Some c → c.group.told ≡ tells
    told_all [] sixes all k c is = absurd (none-some c is)
    told_all (first ∷ cs) [] all k c is = absurd all
    told_all (first ∷ cs) (six ∷ sixes) all zero c is = subst (λ (d : ChunkIs). d.group.told ≡ tells) (same_Some first c is) all.0.told
    told_all (first ∷ cs) (six ∷ sixes) all (suc k) c is = told_all cs sixes all.1 k c is

    as_many : (cs : List ChunkIs) (sixes : List (Six D)) → AreAll cs sixes → length cs ≡ length sixes
    as_many [] [] all = refl
    as_many [] (six ∷ sixes) all = absurd all
    as_many (c ∷ cs) [] all = absurd all
    as_many (c ∷ cs) (six ∷ sixes) all = ap suc (as_many cs sixes all.1)

    first_halves : (c : ChunkIs) (six : Six D) (rest : List D) (i : ℕ) → i < 3 → IsLeft c six → AreHalvesOf seen may_leave faults moment left_since tells tells_moments (six_list six ++ rest) c 0 i
    first_halves c six rest zero low left = record { zero = six.s0h0; one = six.s0h1; zero_is = refl; one_is = refl; left = left.left_0; as_read = left.seen_0; at_crash = left.crash_0; counts = ap (λ fs. slice_get fs 0) (sym left.counts) }
    first_halves c six rest (suc zero) low left = record { zero = six.s1h0; one = six.s1h1; zero_is = refl; one_is = refl; left = left.left_1; as_read = left.seen_1; at_crash = left.crash_1; counts = ap (λ fs. slice_get fs 1) (sym left.counts) }
    first_halves c six rest (suc (suc zero)) low left = record { zero = six.s2h0; one = six.s2h1; zero_is = refl; one_is = refl; left = left.left_2; as_read = left.seen_2; at_crash = left.crash_2; counts = ap (λ fs. slice_get fs 2) (sym left.counts) }
    first_halves c six rest (suc (suc (suc i))) low left = absurd (omega arith)

    halves : (cs : List ChunkIs) (sixes : List (Six D)) (rest : List D) → AreAll cs sixes → (k i : ℕ) (c : ChunkIs) → slice_get cs k ≡ Some c → i < 3 → AreHalvesOf seen may_leave faults moment left_since tells tells_moments (flat_map six_list sixes ++ rest) c k i
    halves [] sixes rest all k i c is low = absurd (cc)
    halves (first ∷ cs) [] rest all k i c is low = absurd all
    halves (first ∷ cs) (six ∷ sixes) rest all zero i c is low =
        let same : first ≡ c = cc in
        subst (λ ds. AreHalvesOf seen may_leave faults moment left_since tells tells_moments ds c 0 i) (sym (append_assoc (six_list six) (flat_map six_list sixes) rest))
        (first_halves c six (flat_map six_list sixes ++ rest) i low (subst (λ d. IsLeft d six) same all.0))
    halves (first ∷ cs) (six ∷ sixes) rest all (suc k) i c is low =
        let there = halves cs sixes rest all.1 k i c is low in
        let one : 6 * suc k + 2 * i + 1 ≡ 6 * suc k + (2 * i + 1) = omega arith in
        let back : 6 * k + (2 * i + 1) ≡ 6 * k + 2 * i + 1 = omega arith in
        subst (λ ds. AreHalvesOf seen may_leave faults moment left_since tells tells_moments ds c (suc k) i) (sym (append_assoc (six_list six) (flat_map six_list sixes) rest)) (record {
          zero = there.zero;
          one = there.one;
          zero_is = past_six six (flat_map six_list sixes ++ rest) k (2 * i) ∙ there.zero_is;
          one_is = ap (λ n. slice_get (six_list six ++ (flat_map six_list sixes ++ rest)) n) one ∙ past_six six (flat_map six_list sixes ++ rest) k (2 * i + 1) ∙ ap (λ n. slice_get (flat_map six_list sixes ++ rest) n) back ∙ there.one_is;
          left = there.left;
          as_read = there.as_read;
          at_crash = there.at_crash;
          counts = there.counts;
        })

    -- the chunks have left the first disks so, and the others are there
    pub are_left : (cs : List ChunkIs) (sixes : List (Six D)) (rest before disks : List D) → AreAll cs sixes → disks ≡ flat_map six_list sixes ++ rest → drop (6 * length cs) before ≡ rest → length disks ≡ length before → AreLeft seen may_leave faults moment left_since tells tells_moments cs before disks
    are_left cs sixes rest before disks all is others count = record {
      told = told_all cs sixes all;
      halves = λ k i c there low. subst (λ ds. AreHalvesOf seen may_leave faults moment left_since tells tells_moments ds c k i) (sym is) (halves cs sixes rest all k i c there low);
      rest = ap (λ ds. drop (6 * length cs) ds) is ∙ drop_sixes sixes rest (length cs) (as_many cs sixes all) ∙ sym others;
      count = count;
    }

    -- the last chunks have given their disks back, to the end of the list, whose order is turned
    pub record Closing (chunks : List ChunkIs) (spare : List D) (now : List ChunkIs) (disks : List D) : Type 0 where
      pub rest : List ChunkIs
      pub sixes : List (Six D)
      pub chunks_are : chunks ≡ now ++ rest
      pub all : AreAll rest sixes
      pub disks_are : reverse disks ≡ flat_map six_list sixes ++ reverse spare

    pub none_closed : (chunks : List ChunkIs) (spare : List D) → Closing chunks spare chunks spare
    none_closed chunks spare = record { rest = []; sixes = []; chunks_are = sym (append-nil chunks); all = tt; disks_are = refl }

    -- one more chunk
    pub closed_more : (chunks : List ChunkIs) (spare : List D) (now less : List ChunkIs) (disks more : List D) (c : ChunkIs) (six : Six D) → Closing chunks spare now disks → now ≡ less ++ c ∷ [] → reverse more ≡ six_list six ++ reverse disks → IsLeft c six → Closing chunks spare less more
    closed_more chunks spare now less disks more c six closing popped put left = record {
      rest = c ∷ closing.rest;
      sixes = six ∷ closing.sixes;
      chunks_are = closing.chunks_are ∙ ap (λ cs. cs ++ closing.rest) popped ∙ append_assoc less (c ∷ []) closing.rest;
      all = (left, closing.all);
      disks_are = put ∙ ap (λ ds. six_list six ++ ds) closing.disks_are ∙ sym (append_assoc (six_list six) (flat_map six_list closing.sixes) (reverse spare));
    }

    -- all have, and the order is turned back
    pub all_closed : (chunks : List ChunkIs) (spare : List D) (now : List ChunkIs) (disks before : List D) → Closing chunks spare now disks → length now ≡ 0 → drop (6 * length chunks) before ≡ reverse spare → 6 * length chunks ≤ length before → AreLeft seen may_leave faults moment left_since tells tells_moments chunks before (reverse disks)
    all_closed chunks spare now disks before closing none others enough =
        let are : chunks ≡ closing.rest = closing.chunks_are ∙ ap (λ cs. cs ++ closing.rest) (is_empty now none) in
        let all : AreAll chunks closing.sixes = subst (λ cs. AreAll cs closing.sixes) (sym are) closing.all in
        let many = as_many chunks closing.sixes all in
        let counted : length (reverse disks) ≡ length before = omega (arith, ap length closing.disks_are, length-append (flat_map six_list closing.sixes) (reverse spare), length_sixes closing.sixes, many, ap length others, length-drop (6 * length chunks) before, enough) in
        are_left chunks closing.sixes (reverse spare) before (reverse disks) all closing.disks_are others counted
