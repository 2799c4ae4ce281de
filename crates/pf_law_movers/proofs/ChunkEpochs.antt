-- Which group a chunk had in which epoch: no two chunks had one, and what was told of them stays.
use Rattle.std.proofs.Common.{◌≡◌, ℕ, zero, suc, ◌+◌, ◌<◌, ◌≤◌, ◌⊎◌, inl, inr, ◌==◌, nat_lt, cond, if◌then◌else◌, List, [], ◌∷◌, ◌++◌, length, Option, Some, None, slice_get, arith, refl, sym, ap, subst, ◌∙◌, lt-ltb, le-ltb, length-append, append-nil}
use Rattle.std.specs.List.{count_by, flat_map, fold}
use Rattle.std.proofs.lemmas.Bool.{cases_eq, eq-eqb, eqb-true, ltb-true, ne_eqb}
use Rattle.std.proofs.lemmas.Grind.{flat_map-append, fold-append}
use Rattle.std.proofs.lemmas.List.{append_assoc}
use Rattle.std.proofs.lemmas.Option.{none-some, same_Some}
use Rattle.pf_entry.proofs.Cases.{by_test}
use Rattle.pf_law_movers.specs.pf_group_network.proofs.Lists.{something_there}
use Rattle.pf_move.specs.declared.mover.MoveNext.{MoveNext}
use Rattle.pf_move.specs.declared.mover.MoveNext.TheVariants.{Read, Write, Switch}
use Rattle.pf_law_movers.specs.pf_chunk.specs.Runs.{ChunkRun}
use Rattle.pf_law_movers.specs.pf_world_moments.specs.Moments.{Heard, Moment, Carries, Hands, Moves, Writes, Acts}
use Rattle.pf_law_movers.specs.Epochs.{GroupHome, epoch_of, group_of_epoch, groups_in_turn, home_from, home_of_group, is_switch_moment, groups_moved_to}
use Rattle.pf_law_movers.specs.Movers.{ChunkIsAtRest, IsOnTheMove}
use Rattle.pf_law_movers.proofs.Lives.{its_own, not_its_own}
use Rattle.pf_law_movers.proofs.ListPlaces.{at_seam, by_ends, get_either, get_first, more_is_told}

-- What stays

pub groups_on : (told more : List Moment) (chunk : ℕ) → groups_in_turn (told ++ more) chunk ≡ groups_in_turn told chunk ++ flat_map (groups_moved_to chunk) more
groups_on told more chunk = ap (λ gs. chunk ∷ gs) (flat_map-append (groups_moved_to chunk) told more)

pub group_stays : (told more : List Moment) (chunk epoch group : ℕ) → group_of_epoch told chunk epoch ≡ Some group → group_of_epoch (told ++ more) chunk epoch ≡ Some group
group_stays told more chunk epoch group at =
    ap (λ gs. slice_get gs epoch) (groups_on told more chunk) ∙ get_first (groups_in_turn told chunk) (flat_map (groups_moved_to chunk) more) epoch group at

count_from : (chunk n : ℕ) (told : List Moment) → fold (λ a (x : Moment). a + cond (is_switch_moment chunk x) 1 0) n told ≡ n + count_by (is_switch_moment chunk) told
count_from chunk n [] = omega arith
count_from chunk n (x ∷ told) =
    let here = count_from chunk (n + cond (is_switch_moment chunk x) 1 0) told in
    let there = count_from chunk (0 + cond (is_switch_moment chunk x) 1 0) told in
    omega (arith, here, there)

pub epoch_on : (told more : List Moment) (chunk : ℕ) → epoch_of (told ++ more) chunk ≡ epoch_of told chunk + epoch_of more chunk
epoch_on told more chunk = fold-append (λ a (x : Moment). a + cond (is_switch_moment chunk x) 1 0) 0 told more ∙ count_from chunk (epoch_of told chunk) more

pub epoch_rises : (told more : List Moment) (chunk : ℕ) → epoch_of told chunk ≤ epoch_of (told ++ more) chunk
epoch_rises told more chunk = let both = epoch_on told more chunk in omega (arith, both)

-- What was told of moves, and of the mover's calls

-- where all chunks rest, one begins to move to a group that was no chunk's before
pub record IsBegun (count : ℕ) (before : List Moment) (chunk to : ℕ) : Type 0 where
  pub small : chunk < count
  pub rests : (other : ℕ) → other < count → ChunkIsAtRest count before other
  pub behind : count ≤ to
  pub fresh : (other by : ℕ) → other < count → group_of_epoch before other by ≡ Some to → ⊥

pub record AreBegun (count : ℕ) (told : List Moment) : Type 0 where
  pub begins : (before after : List Moment) (chunk to : ℕ) → told ≡ before ++ Moves chunk to ∷ after → IsBegun count before chunk to
  pub carries : (before after : List Moment) (chunk : ℕ) (heard : Option Heard) (next : MoveNext) → told ≡ before ++ Carries chunk heard next ∷ after → IsOnTheMove count before chunk

pub begun_until : (count : ℕ) (told more : List Moment) → AreBegun count (told ++ more) → AreBegun count told
begun_until count told more b = record {
  begins = λ before after chunk to is. b.begins before (after ++ more) chunk to (more_is_told before (Moves chunk to) after more told is);
  carries = λ before after chunk heard next is. b.carries before (after ++ more) chunk heard next (more_is_told before (Carries chunk heard next) after more told is);
}

-- Homes

abbrev first_of : Option GroupHome → Option GroupHome → Option GroupHome
first_of None other = other
first_of (Some home) other = Some home

abbrev goes_to : (group : ℕ) → (before : List Moment) → Moment → Option GroupHome
goes_to group before (Moves chunk to) = if to == group then Some (record { chunk = chunk; epoch = length (groups_in_turn before chunk) }) else None
goes_to group before moment = None

home_next : (group : ℕ) (before : List Moment) (x : Moment) (told : List Moment) → home_from group before (x ∷ told) ≡ first_of (goes_to group before x) (home_from group (before ++ x ∷ []) told)
home_next group before (Moves chunk to) told =
    let home : GroupHome = record { chunk = chunk; epoch = length (groups_in_turn before chunk) } in
    let rest = home_from group (before ++ Moves chunk to ∷ []) told in
    by_test (to == group) (λ b. (if b then Some home else rest) ≡ first_of (if b then Some home else None) rest) (λ _. refl) (λ _. refl)
home_next group before (Writes text) told = refl
home_next group before (Acts who act) told = refl
home_next group before (Hands m k place) told = refl
home_next group before (Carries chunk heard next) told = refl

first_again : (a b c : Option GroupHome) → first_of a (first_of b c) ≡ first_of (first_of a b) c
first_again None b c = refl
first_again (Some home) b c = refl

first_none : (a : Option GroupHome) → first_of a None ≡ a
first_none None = refl
first_none (Some home) = refl

home_both : (group : ℕ) (before first second : List Moment) → home_from group before (first ++ second) ≡ first_of (home_from group before first) (home_from group (before ++ first) second)
home_both group before [] second = ap (λ (b : List Moment). home_from group b second) (sym (append-nil before))
home_both group before (x ∷ first) second =
    home_next group before x (first ++ second)
    ∙ ap (first_of (goes_to group before x))
    (home_both group (before ++ x ∷ []) first second ∙ ap (λ (b : List Moment). first_of (home_from group (before ++ x ∷ []) first) (home_from group b second)) (append_assoc before (x ∷ []) first))
    ∙ first_again (goes_to group before x) (home_from group (before ++ x ∷ []) first) (home_from group (before ++ x ∷ first) second)
    ∙ ap (λ o. first_of o (home_from group (before ++ x ∷ first) second)) (sym (home_next group before x first))

home_more : (group : ℕ) (told : List Moment) (x : Moment) → home_from group [] (told ++ x ∷ []) ≡ first_of (home_from group [] told) (goes_to group told x)
home_more group told x =
    home_both group [] told (x ∷ []) ∙ ap (first_of (home_from group [] told)) (home_next group told x [] ∙ first_none (goes_to group told x))

home_on : (group : ℕ) (told more : List Moment) (home : GroupHome) → home_from group [] told ≡ Some home → home_from group [] (told ++ more) ≡ Some home
home_on group told more home is = home_both group [] told more ∙ ap (λ o. first_of o (home_from group told more)) is

pub home_stays : (count : ℕ) (told more : List Moment) (group : ℕ) (home : GroupHome) → home_of_group count told group ≡ Some home → home_of_group count (told ++ more) group ≡ Some home
home_stays count told more group home =
    by_test (nat_lt group count) (λ b. (if b then Some (record { chunk = group; epoch = 0 }) else home_from group [] told) ≡ Some home → (if b then Some (record { chunk = group; epoch = 0 }) else home_from group [] (told ++ more)) ≡ Some home)
    (λ _ is. is) (λ _ is. home_on group told more home is)

-- the chunk goes to this group in this moment
pub moved_here : (chunk : ℕ) (x : Moment) (j group : ℕ) → slice_get (flat_map (groups_moved_to chunk) (x ∷ [])) j ≡ Some group → (x ≡ Moves chunk group) × (j ≡ 0)
moved_here chunk (Moves c to) j group there =
    by_test (c == chunk) (λ b. slice_get ((if b then to ∷ [] else []) ++ []) j ≡ Some group → (Moves c to ≡ Moves chunk group) × (j ≡ 0))
    (λ same at. let is = one j at in (ap (λ i. Moves i to) (eqb-true c chunk same) ∙ ap (Moves chunk) is.1, is.0))
    (λ _ at. absurd (none-some group at)) there
  where
    one : (i : ℕ) → slice_get (to ∷ []) i ≡ Some group → (i ≡ 0) × (to ≡ group)
    one zero at = (refl, same_Some to group at)
    one (suc i) at = absurd (none-some group at)
moved_here chunk (Writes text) j group at = absurd (none-some group at)
moved_here chunk (Acts who act) j group at = absurd (none-some group at)
moved_here chunk (Hands m k place) j group at = absurd (none-some group at)
moved_here chunk (Carries c heard next) j group at = absurd (none-some group at)

-- the group to which a chunk moves is its next one
pub next_group : (told : List Moment) (chunk to : ℕ) → group_of_epoch (told ++ Moves chunk to ∷ []) chunk (length (groups_in_turn told chunk)) ≡ Some to
next_group told chunk to =
    ap (λ gs. slice_get gs (length (groups_in_turn told chunk))) (groups_on told (Moves chunk to ∷ []) chunk ∙ ap (λ gs. groups_in_turn told chunk ++ (gs ++ [])) (its_own chunk chunk (to ∷ []) [] refl))
    ∙ at_seam (groups_in_turn told chunk) [] to (length (groups_in_turn told chunk)) refl

module _ (count : ℕ) where
  abbrev IsHome : List Moment → ℕ → GroupHome → Type 0
  IsHome told group home = (home.chunk < count) × (group_of_epoch told home.chunk home.epoch ≡ Some group)

  goes_home : (told : List Moment) (x : Moment) → AreBegun count (told ++ x ∷ []) → (group : ℕ) (home : GroupHome) → goes_to group told x ≡ Some home → IsHome (told ++ x ∷ []) group home
  goes_home told (Moves chunk to) begun group home same_one =
      let its : GroupHome = record { chunk = chunk; epoch = length (groups_in_turn told chunk) } in
      by_test (to == group) (λ b. (if b then Some its else None) ≡ Some home → IsHome (told ++ Moves chunk to ∷ []) group home)
      (λ same is.
      let its_move = begun.begins told [] chunk to refl in
      subst (IsHome (told ++ Moves chunk to ∷ []) group) (same_Some its home is) (its_move.small, next_group told chunk to ∙ ap (λ i. Some i) (eqb-true to group same)))
      (λ _ is. absurd (none-some home is)) same_one
  goes_home told (Writes text) begun group home is = absurd (none-some home is)
  goes_home told (Acts who act) begun group home is = absurd (none-some home is)
  goes_home told (Hands m k place) begun group home is = absurd (none-some home is)
  goes_home told (Carries chunk heard next) begun group home is = absurd (none-some home is)

  homes_so : (told : List Moment) → AreBegun count told → (group : ℕ) (home : GroupHome) → home_from group [] told ≡ Some home → IsHome told group home
  homes_so = by_ends (λ (all : List Moment). AreBegun count all → (group : ℕ) (home : GroupHome) → home_from group [] all ≡ Some home → IsHome all group home)
      (λ begun group home is. absurd (none-some home is))
      (λ all x so_far begun group home is. more all x so_far begun group home (home_from group [] all) refl (sym (home_more group all x) ∙ is))
    where
      more : (all : List Moment) (x : Moment) → (AreBegun count all → (group : ℕ) (home : GroupHome) → home_from group [] all ≡ Some home → IsHome all group home) → AreBegun count (all ++ x ∷ [])
          → (group : ℕ) (home : GroupHome) (o : Option GroupHome) → home_from group [] all ≡ o → first_of o (goes_to group all x) ≡ Some home → IsHome (all ++ x ∷ []) group home
      more all x so_far begun group home None o is = goes_home all x begun group home is
      more all x so_far begun group home (Some its) o is =
          let old = so_far (begun_until count all (x ∷ []) begun) group home (o ∙ is) in (old.0, group_stays all (x ∷ []) home.chunk home.epoch group old.1)

  -- a group that has a home was this chunk's in this epoch
  pub home_group : (told : List Moment) → AreBegun count told → (group : ℕ) (home : GroupHome) → home_of_group count told group ≡ Some home → IsHome told group home
  home_group told begun group home =
      by_test (nat_lt group count) (λ b. (if b then Some (record { chunk = group; epoch = 0 }) else home_from group [] told) ≡ Some home → IsHome told group home)
      (λ small is. subst (IsHome told group) (same_Some (record { chunk = group; epoch = 0 }) home is) (ltb-true group count small, refl))
      (λ _ is. homes_so told begun group home is)

  abbrev HaveHomes : List Moment → Type 0
  HaveHomes told = (chunk epoch group : ℕ) → chunk < count → group_of_epoch told chunk epoch ≡ Some group → home_of_group count told group ≡ Some (record { chunk = chunk; epoch = epoch })

  first_home : HaveHomes []
  first_home chunk zero group small at =
      let same : chunk ≡ group = same_Some chunk group at in
      subst (λ g. home_of_group count [] g ≡ Some (record { chunk = chunk; epoch = 0 })) same (ap (λ b. if b then Some (record { chunk = chunk; epoch = 0 }) else None) (lt-ltb chunk count small))
  first_home chunk (suc epoch) group small at = absurd (none-some group at)

  -- the group of a move has its home in it
  new_home : (told : List Moment) (chunk group : ℕ) → AreBegun count (told ++ Moves chunk group ∷ []) → home_of_group count (told ++ Moves chunk group ∷ []) group ≡ Some (record { chunk = chunk; epoch = length (groups_in_turn told chunk) })
  new_home told chunk group begun =
      let its = begun.begins told [] chunk group refl in
      ap (λ b. if b then Some (record { chunk = group; epoch = 0 }) else home_from group [] (told ++ Moves chunk group ∷ [])) (le-ltb group count its.behind)
      ∙ home_more group told (Moves chunk group)
      ∙ none_yet its (home_from group [] told) refl
    where
      none_yet : IsBegun count told chunk group → (o : Option GroupHome) → home_from group [] told ≡ o → first_of o (goes_to group told (Moves chunk group)) ≡ Some (record { chunk = chunk; epoch = length (groups_in_turn told chunk) })
      none_yet its None is = its_own group group (Some (record { chunk = chunk; epoch = length (groups_in_turn told chunk) })) None refl
      none_yet its (Some home) is =
          let old = homes_so told (begun_until count told (Moves chunk group ∷ []) begun) group home is in absurd (its.fresh home.chunk home.epoch old.0 old.1)

  one_home_more : (told : List Moment) (x : Moment) → HaveHomes told → AreBegun count (told ++ x ∷ []) → HaveHomes (told ++ x ∷ [])
  one_home_more told x so_far begun chunk epoch group small at =
      elim (get_either (groups_in_turn told chunk) (flat_map (groups_moved_to chunk) (x ∷ [])) epoch group (ap (λ gs. slice_get gs epoch) (sym (groups_on told (x ∷ []) chunk)) ∙ at)) [
        | inl old ↦ home_stays count told (x ∷ []) group (record { chunk = chunk; epoch = epoch }) (so_far chunk epoch group small old)
        | inr new ↦
            let is = moved_here chunk x new.0 group new.1 in
            let first = is.1 in
            let place : length (groups_in_turn told chunk) ≡ epoch = omega (arith, new.2, first) in
            subst (λ (y : Moment). home_of_group count (told ++ y ∷ []) group ≡ Some (record { chunk = chunk; epoch = epoch })) (sym is.0)
            (new_home told chunk group (subst (λ (y : Moment). AreBegun count (told ++ y ∷ [])) is.0 begun) ∙ ap (λ e. let home : GroupHome = record { chunk = chunk; epoch = e } in Some home) place)
      ]

  -- no group has two chunks, nor one in two epochs
  pub group_home : (told : List Moment) → AreBegun count told → HaveHomes told
  group_home = by_ends (λ (all : List Moment). AreBegun count all → HaveHomes all) (λ _. first_home)
      (λ all x so_far begun. one_home_more all x (so_far (begun_until count all (x ∷ []) begun)) begun)

  pub same_home : (told : List Moment) → AreBegun count told → (chunk other epoch its group : ℕ) → chunk < count → other < count → group_of_epoch told chunk epoch ≡ Some group → group_of_epoch told other its ≡ Some group → (chunk ≡ other) × (epoch ≡ its)
  same_home told begun chunk other epoch its group small few at there =
      let one = group_home told begun chunk epoch group small at in
      let two = group_home told begun other its group few there in
      let same : Some (record { chunk = chunk; epoch = epoch }) ≡ Some (record { chunk = other; epoch = its }) = sym one ∙ two in
      let is : record { chunk = chunk; epoch = epoch } ≡ record { chunk = other; epoch = its } = same_Some _ _ same in
      (ap (λ (h : GroupHome). h.chunk) is, ap (λ (h : GroupHome). h.epoch) is)

  -- A chunk is at rest or on the move

  abbrev RestsOrMoves : List Moment → (chunk : ℕ) → Type 0
  RestsOrMoves told chunk = (length (groups_in_turn told chunk) ≡ suc (epoch_of told chunk)) ⊎ (length (groups_in_turn told chunk) ≡ suc (suc (epoch_of told chunk)))

  longer : (told : List Moment) (x : Moment) (chunk : ℕ) → length (groups_in_turn (told ++ x ∷ []) chunk) ≡ length (groups_in_turn told chunk) + length (flat_map (groups_moved_to chunk) (x ∷ []))
  longer told x chunk = ap length (groups_on told (x ∷ []) chunk) ∙ length-append (groups_in_turn told chunk) (flat_map (groups_moved_to chunk) (x ∷ []))

  -- a moment that is neither a move nor a switch
  same_state : (told : List Moment) (x : Moment) (chunk : ℕ) → length (flat_map (groups_moved_to chunk) (x ∷ [])) ≡ 0 → epoch_of (x ∷ []) chunk ≡ 0 → RestsOrMoves told chunk → RestsOrMoves (told ++ x ∷ []) chunk
  same_state told x chunk none stays so_far =
      let more = longer told x chunk in
      let on = epoch_on told (x ∷ []) chunk in
      elim so_far [ inl rests ↦ inl (omega (arith, more, on, none, stays, rests)) | inr moves ↦ inr (omega (arith, more, on, none, stays, moves)) ]

  state_more : (told : List Moment) (x : Moment) (chunk : ℕ) → AreBegun count (told ++ x ∷ []) → RestsOrMoves told chunk → RestsOrMoves (told ++ x ∷ []) chunk
  state_more told (Moves c to) chunk begun so_far =
      elim (cases_eq c chunk) [
        | inl same ↦
            let its_move = begun.begins told [] c to refl in
            let rests = its_move.rests c its_move.small in
            let at : length (groups_in_turn told chunk) ≡ suc (epoch_of told chunk) = subst (λ i. length (groups_in_turn told i) ≡ suc (epoch_of told i)) same rests.groups in
            let more = longer told (Moves c to) chunk in
            let one : length (flat_map (groups_moved_to chunk) (Moves c to ∷ [])) ≡ 1 = ap (λ gs. length (gs ++ [])) (its_own c chunk (to ∷ []) [] same) in
            let on = epoch_on told (Moves c to ∷ []) chunk in
            inr (omega (arith, at, more, one, on))
        | inr other ↦ same_state told (Moves c to) chunk (ap (λ gs. length (gs ++ [])) (not_its_own c chunk (to ∷ []) [] other)) refl so_far
      ]
  state_more told (Carries c heard Switch) chunk begun so_far =
      elim (cases_eq c chunk) [
        | inl same ↦
            let moves = begun.carries told [] c heard Switch refl in
            let at : length (groups_in_turn told chunk) ≡ suc (suc (epoch_of told chunk)) = subst (λ i. length (groups_in_turn told i) ≡ suc (suc (epoch_of told i))) same moves.groups in
            let more = longer told (Carries c heard Switch) chunk in
            let on = epoch_on told (Carries c heard Switch ∷ []) chunk in
            let one : epoch_of (Carries c heard Switch ∷ []) chunk ≡ 1 = ap (λ b. 0 + cond b 1 0) (eq-eqb c chunk same) in
            inl (omega (arith, at, more, one, on))
        | inr other ↦ same_state told (Carries c heard Switch) chunk refl (ap (λ b. 0 + cond b 1 0) (ne_eqb c chunk other)) so_far
      ]
  state_more told (Carries c heard (Read span)) chunk begun so_far = same_state told (Carries c heard (Read span)) chunk refl refl so_far
  state_more told (Carries c heard (Write span sectors)) chunk begun so_far = same_state told (Carries c heard (Write span sectors)) chunk refl refl so_far
  state_more told (Writes text) chunk begun so_far = same_state told (Writes text) chunk refl refl so_far
  state_more told (Acts who act) chunk begun so_far = same_state told (Acts who act) chunk refl refl so_far
  state_more told (Hands m k place) chunk begun so_far = same_state told (Hands m k place) chunk refl refl so_far

  pub rests_or_moves : (told : List Moment) → AreBegun count told → (chunk : ℕ) → RestsOrMoves told chunk
  rests_or_moves told begun chunk = by_ends (λ (all : List Moment). AreBegun count all → RestsOrMoves all chunk) (λ _. inl refl)
      (λ all x so_far its. state_more all x chunk its (so_far (begun_until count all (x ∷ []) its))) told begun

  -- so there is a group of each epoch
  pub some_group : (told : List Moment) → AreBegun count told → (chunk epoch : ℕ) → epoch ≤ epoch_of told chunk → (group : ℕ) × (group_of_epoch told chunk epoch ≡ Some group)
  some_group told begun chunk epoch low =
      something_there (groups_in_turn told chunk) epoch (elim (rests_or_moves told begun chunk) [ inl rests ↦ omega (arith, rests, low) | inr moves ↦ omega (arith, moves, low) ])

-- Each group that a chunk has had is one that was there first, or was made for a move

module _ (count : ℕ) (chunks : List ChunkRun) where
  abbrev AreThere : List Moment → Type 0
  AreThere told = (chunk epoch k : ℕ) → chunk < count → group_of_epoch told chunk epoch ≡ Some k → (c : ChunkRun) × (slice_get chunks k ≡ Some c)

  abbrev AreMade : List Moment → Type 0
  AreMade told = (before after : List Moment) (chunk to : ℕ) → told ≡ before ++ Moves chunk to ∷ after → (c : ChunkRun) × (slice_get chunks to ≡ Some c)

  pub each_there : (told : List Moment) → ((k : ℕ) → k < count → (c : ChunkRun) × (slice_get chunks k ≡ Some c)) → AreMade told → AreThere told
  each_there told first = by_ends (λ (all : List Moment). AreMade all → AreThere all) (λ made. none_yet)
      (λ all x so_far made. one_more all x (so_far (λ before after chunk to is. made before (after ++ x ∷ []) chunk to (more_is_told before (Moves chunk to) after (x ∷ []) all is))) made) told
    where
      none_yet : AreThere []
      none_yet chunk zero k small at = subst (λ i. (c : ChunkRun) × (slice_get chunks i ≡ Some c)) (same_Some chunk k at) (first chunk small)
      none_yet chunk (suc epoch) k small at = absurd (none-some k at)

      one_more : (all : List Moment) (x : Moment) → AreThere all → AreMade (all ++ x ∷ []) → AreThere (all ++ x ∷ [])
      one_more all x so_far made chunk epoch k small at =
          elim (get_either (groups_in_turn all chunk) (flat_map (groups_moved_to chunk) (x ∷ [])) epoch k (ap (λ gs. slice_get gs epoch) (sym (groups_on all (x ∷ []) chunk)) ∙ at)) [
            | inl old ↦ so_far chunk epoch k small old
            | inr new ↦ let is = moved_here chunk x new.0 k new.1 in made all [] chunk k (ap (λ (y : Moment). all ++ y ∷ []) is.0)
          ]
