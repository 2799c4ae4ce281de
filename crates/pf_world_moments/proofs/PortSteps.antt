-- Steps of ports, one after another.
use Rattle.std.proofs.Common.{◌≡◌, ℕ, ◌<◌, List, ◌++◌, Some, slice_get, refl, sym, ap, subst, ◌∙◌}
use Rattle.std.proofs.lemmas.Grind.{flat_map-append}
use Rattle.std.proofs.lemmas.Option.{same_Some, slice_get_within}
use Rattle.pf_chunk.specs.pf_group_network.proofs.Lists.{something_there}
use Rattle.pf_chunk.specs.pf_group.specs.GroupIs.{GroupIs, state_of}
use Rattle.pf_chunk.specs.pf_group.specs.Packets.{NoneComesBack}
use Rattle.pf_chunk.specs.pf_group_rounds.specs.Growing.{HasGrown}
use Rattle.pf_chunk.specs.pf_group_rounds.specs.Halts.{Halt}
use Rattle.pf_chunk.specs.pf_group_rounds.proofs.GroupGrowth.{grown_refl, grown_tells, grown_trans}
use Rattle.pf_chunk.specs.Views.{ChunkIs}
use Rattle.pf_world_moments.specs.Moments.{Moment, lines_in, moments_text}
use Rattle.pf_world_moments.specs.Steps.{ChunkGoes, HaveGone, HaveGrown, TellsAll}
use Rattle.pf_world_moments.specs.Parts.{ArePut, IsPut}
use Rattle.pf_world_moments.proofs.Groups.{goes_refl, grown_left, left_refl}

pub told_both : (a b : List Moment) → moments_text (a ++ b) ≡ moments_text a ++ moments_text b
told_both a b = flat_map-append lines_in a b

goes_trans : (n : ℕ) (a b c : ChunkIs) → ChunkGoes n a b → ChunkGoes n b c → ChunkGoes n a c
goes_trans n a b c first second = record {
  grown = grown_trans a.group b.group c.group first.grown second.grown;
  left = grown_left a.group c.group (grown_trans a.group b.group c.group first.grown second.grown);
  first = second.first ∙ first.first;
  next = second.next ∙ first.next;
  others = λ m other. second.others m other ∙ first.others m other;
}

pub gone_refl : (n : ℕ) (chunks : List ChunkIs) → HaveGone n chunks chunks
gone_refl n chunks = record { count = refl; each = λ k x y at to. subst (ChunkGoes n x) (same_Some x y (sym at ∙ to)) (goes_refl n x) }

-- the chunk in between
between : (n : ℕ) (a b : List ChunkIs) → HaveGone n a b → (k : ℕ) (x : ChunkIs) → slice_get a k ≡ Some x → (y : ChunkIs) × (slice_get b k ≡ Some y)
between n a b gone k x at = something_there b k (subst (λ m. k < m) (sym gone.count) (slice_get_within a k x at))

pub gone_trans : (n : ℕ) (a b c : List ChunkIs) → HaveGone n a b → HaveGone n b c → HaveGone n a c
gone_trans n a b c first second = record {
  count = second.count ∙ first.count;
  each = λ k x z at to.
      let mid = between n a b first k x at in
      goes_trans n x mid.0 z (first.each k x mid.0 at mid.1) (second.each k mid.0 z mid.1 to);
}

pub gone_grown : (n : ℕ) (a b : List ChunkIs) → HaveGone n a b → HaveGrown a b
gone_grown n a b gone = record { count = gone.count; each = λ k x y at to. (gone.each k x y at to).grown }

pub gone_tells : (halts : List Halt) (n : ℕ) (a b : List ChunkIs) → HaveGone n a b → TellsAll halts b → TellsAll halts a
gone_tells halts n a b gone tells k x at =
    let after = between n a b gone k x at in
    grown_tells halts x.group after.0.group (gone.each k x after.0 at after.1).grown (tells k after.0 after.1)

-- where nothing but ports of the mount is different
put_goes : (n : ℕ) (x y : ChunkIs) → IsPut n x y → ChunkGoes n x y
put_goes n x y put =
    let group = ap (λ (c : ChunkIs). c.group) put.same in record {
      grown = subst (HasGrown x.group) (sym group) (grown_refl x.group);
      left = subst (λ (g : GroupIs). NoneComesBack (state_of x.group) (state_of g)) (sym group) (left_refl x.group);
      first = ap (λ (c : ChunkIs). c.first_left) put.same;
      next = ap (λ (c : ChunkIs). c.next) put.same;
      others = put.others;
    }

pub put_gone : (n : ℕ) (a b : List ChunkIs) → ArePut n a b → HaveGone n a b
put_gone n a b put = record { count = put.count; each = λ k x y at to. put_goes n x y (put.each k x y at to) }
