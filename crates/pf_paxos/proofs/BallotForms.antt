-- The parts of a ballot, one by one, and that blocks keep their form.
use Rattle.std.proofs.Common.{◌≡◌, ℕ, zero, suc, ◌+◌, ◌-◌, ◌<◌, ◌≤◌, Bool, true, false, cond, nat_lt, List, [], ◌∷◌, ◌++◌, length, map, replicate, take, drop, arith, refl, sym, ap, subst, ◌∙◌}
use Rattle.std.proofs.lemmas.List.{append_assoc, set_at, drop_more, length-set, length-map, length-replicate, length-take-le, take_at, get_or_at, drop-replicate, replicate_more, map_more}
use lib.ListN.{get_or, set}
use Rattle.pf_paxos.specs.declared.block.Block.{Block}
use Rattle.pf_paxos.specs.Blocks.{IsBlock, zero_block}
use Rattle.pf_paxos.specs.declared.parts.Part.{Part}
use Rattle.pf_paxos.specs.declared.parts.Stage.TheVariants.{ReadsLow}
use Rattle.pf_paxos.specs.Parts.{fresh, no_part, parts_padded, ArePadded, part_at, with_part, phase_begun, renewed, best_with_done, best_done, is_done, part_freed, part_written}
use Rattle.pf_paxos.specs.declared.ballot.BallotStep.{BallotStep}
use Rattle.pf_paxos.specs.declared.ballot.BallotStep.TheVariants.{Go, Abort, NoValue, Decided}
use Rattle.pf_paxos.specs.BallotStanding.{AreBests, AbortsByBlock, IsNoAbort, IsQuorum}

-- what is true of a part that is put and of the one that stood there is true afterwards
pub at_with : (P : Part → Type 0) (parts : List Part) (a : ℕ) (part : Part) (b : ℕ) → P part → P (part_at parts b) → P (part_at (with_part parts a part) b)
at_with P [] a part b new old = old
at_with P (x ∷ xs) zero part zero new old = new
at_with P (x ∷ xs) zero part (suc b) new old = old
at_with P (x ∷ xs) (suc a) part zero new old = old
at_with P (x ∷ xs) (suc a) part (suc b) new old = at_with P xs a part b new old

-- and so is what is true of each part that is made, and where there is no anchor
pub at_all : (P : Part → Type 0) (f : Part → Part) (parts : List Part) (b : ℕ) → ((part : Part) → P (f part)) → P no_part → P (part_at (map f parts) b)
at_all P f [] b each none = none
at_all P f (x ∷ xs) zero each none = each x
at_all P f (x ∷ xs) (suc b) each none = at_all P f xs b each none

pub at_new : (P : Part → Type 0) (n : ℕ) (part : Part) (b : ℕ) → P part → P no_part → P (part_at (replicate n part) b)
at_new P zero part b each none = none
at_new P (suc n) part zero each none = each
at_new P (suc n) part (suc b) each none = at_new P n part b each none

zero_form : IsBlock zero_block
zero_form = record { no_value = λ _. refl; has_value = λ _. refl; mbal_low = omega arith; bal_low = omega arith }

pub bests_with : (parts : List Part) (anchor : ℕ) (part : Part) → AreBests parts → IsBlock part.best → AreBests (with_part parts anchor part)
bests_with parts anchor part bests best b = at_with (λ p. IsBlock p.best) parts anchor part b best (bests b)

pub bests_renewed : (parts : List Part) (own : Block) → IsBlock own → AreBests (renewed parts own)
bests_renewed parts own is b = at_all (λ p. IsBlock p.best) (phase_begun own) parts b (λ _. is) zero_form

pub bests_new : (n : ℕ) (own : Block) → IsBlock own → AreBests (replicate n (fresh own))
bests_new n own is b = at_new (λ p. IsBlock p.best) n (fresh own) b is zero_form

pub quorum_with : (quorum : ℕ) (parts : List Part) (anchor : ℕ) (part : Part) → IsQuorum (length parts) quorum → IsQuorum (length (with_part parts anchor part)) quorum
quorum_with quorum parts anchor part is = subst (λ n. IsQuorum n quorum) (sym (length-set parts anchor part)) is

pub quorum_renewed : (quorum : ℕ) (parts : List Part) (own : Block) → IsQuorum (length parts) quorum → IsQuorum (length (renewed parts own)) quorum
quorum_renewed quorum parts own is = subst (λ n. IsQuorum n quorum) (sym (length-map parts (phase_begun own))) is

pub quorum_new : (quorum n : ℕ) (own : Block) → IsQuorum n quorum → IsQuorum (length (replicate n (fresh own))) quorum
quorum_new quorum n own is = subst (λ k. IsQuorum k quorum) (sym (length-replicate n (fresh own))) is

done_block : (best : Block) (part : Part) → IsBlock best → IsBlock part.best → IsBlock (best_with_done best part)
done_block best part is there = by (is_done part.stage) (nat_lt best.bal part.best.bal)
  where
    by : (x y : Bool) → IsBlock (cond x (cond y part.best best) best)
    by true true = there
    by true false = is
    by false y = is

pub best_block : (parts : List Part) (own : Block) → AreBests parts → IsBlock own → IsBlock (best_done parts own)
best_block [] own bests is = is
best_block (part ∷ parts) own bests is = best_block parts (best_with_done own part) (λ a. bests (suc a)) (done_block own part is (bests 0))

pub written_block : (part : Part) → IsBlock part.best → IsBlock (part_written part).best
written_block part is = by part.is_late
  where
    by : (b : Bool) → IsBlock (cond b (part_freed part) (record (part_freed part) { stage = ReadsLow })).best
    by true = is
    by false = is

pub not_aborted : (ballot : ℕ) (blocks : List Block) (step : BallotStep) → IsNoAbort step → AbortsByBlock ballot blocks step
not_aborted ballot blocks Go is = tt
not_aborted ballot blocks (Abort mbal) is = absurd is
not_aborted ballot blocks NoValue is = tt
not_aborted ballot blocks (Decided value) is = tt

-- a list that is written one after another
put_next : {X : Type 0} (front xs : List X) (n : ℕ) (old y : X) → length front ≡ n → n < length xs → set (front ++ drop n xs) n y ≡ (front ++ y ∷ []) ++ drop (n + 1) xs
put_next front xs n old y is less =
    ap (λ rest. set (front ++ rest) n y) (drop_more xs n old less)
    ∙ set_at front (get_or xs n old) (drop (n + 1) xs) y n is
    ∙ sym (append_assoc front (y ∷ []) (drop (n + 1) xs))

pub filled_next : {X : Type 0} (xs : List X) (n : ℕ) (y : X) → n < length xs → set (replicate n y ++ drop n xs) n y ≡ replicate (n + 1) y ++ drop (n + 1) xs
filled_next xs n y less = put_next (replicate n y) xs n y y (length-replicate n y) less ∙ ap (λ front. front ++ drop (n + 1) xs) (replicate_more n y)

pub mapped_next : {X : Type 0} (f : X → X) (xs : List X) (n : ℕ) (d : X) → n < length xs → set (map f (take n xs) ++ drop n xs) n (f (get_or xs n d)) ≡ map f (take (n + 1) xs) ++ drop (n + 1) xs
mapped_next f xs n d less =
    put_next (map f (take n xs)) xs n d (f (get_or xs n d)) (length-map (take n xs) f ∙ length-take-le n xs (omega (arith, less))) less
    ∙ ap (λ front. front ++ drop (n + 1) xs) (sym (map_more f xs n d less))

-- what stands at the next place is not written yet
pub read_next : {X : Type 0} (front xs : List X) (n : ℕ) (d : X) → length front ≡ n → n < length xs → get_or (front ++ drop n xs) n d ≡ get_or xs n d
read_next front xs n d is less = ap (λ rest. get_or (front ++ rest) n d) (drop_more xs n d less) ∙ get_or_at front (get_or xs n d) (drop (n + 1) xs) d n is

-- parts in place
pub new_padded : (n : ℕ) (part : Part) (field filled : List Part) → n ≤ 3 → field ≡ replicate 3 no_part → filled ≡ replicate (length (take n field)) part → ArePadded (filled ++ drop n field) n
new_padded n part field filled few is fills =
    let long : length field ≡ 3 = ap length is ∙ length-replicate 3 no_part in
    let cut : length (take n field) ≡ n = length-take-le n field (omega (arith, long, few)) in
    let count : length filled ≡ n = ap length fills ∙ length-replicate (length (take n field)) part ∙ cut in
    let front : take n (filled ++ drop n field) ≡ filled = take_at filled (drop n field) n count in
    record {
      few = few;
      there = ap length front ∙ count;
      rest =
          ap parts_padded front
          ∙ ap (λ k. filled ++ replicate (3 - k) no_part) count
          ∙ ap (λ rest. filled ++ rest) (sym (ap (drop n) is ∙ drop-replicate n 3 no_part));
    }
