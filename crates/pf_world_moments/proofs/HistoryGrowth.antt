-- What ports do only adds to the histories of the chunks.
use Rattle.std.proofs.Common.{◌≡◌, ◌<◌, ℕ, List, length, Option, Some, None, slice_get, slice_set, refl, sym, ap, subst, ◌∙◌, inl, inr}
use Rattle.std.proofs.lemmas.Option.{same_Some, slice_get_within}
use Rattle.pf_base.specs.declared.asks.Ask.{Ask}
use Rattle.pf_entry.proofs.Lists.{set_cases}
use Rattle.pf_chunk.specs.pf_group_network.proofs.Lists.{set_length, something_there}
use Rattle.pf_chunk.specs.pf_group_rounds.specs.Halts.{Halt}
use Rattle.pf_chunk.specs.pf_group_rounds.proofs.RunHistories.{Extends, extends_on, extends_refl}
use Rattle.pf_chunk.specs.Runs.{ChunkRun}
use Rattle.pf_asks.specs.Ports.{PortIs}
use Rattle.pf_chunk.specs.Driving.{port_asked, asked_at, driven}
use Rattle.pf_chunk.proofs.Driven.{driven_extends}
use Rattle.pf_world_moments.specs.Hosts.{drove, drove_of, put_at, run_after, with_run}

-- each chunk of the second list extends that of the first
pub record Lengthens (old new : List ChunkRun) : Type 0 where
  pub count : length new ≡ length old
  pub each : (k : ℕ) (was is : ChunkRun) → slice_get old k ≡ Some was → slice_get new k ≡ Some is → Extends was.group is.group

pub lengthens_refl : (chunks : List ChunkRun) → Lengthens chunks chunks
lengthens_refl chunks = record {
  count = refl;
  each = λ k was is before after. subst (λ (c : ChunkRun). Extends was.group c.group) (same_Some was is (sym before ∙ after)) (extends_refl was.group);
}

pub lengthens_trans : (a b c : List ChunkRun) → Lengthens a b → Lengthens b c → Lengthens a c
lengthens_trans a b c first second = record {
  count = second.count ∙ first.count;
  each = λ k was is before after.
      let mid = something_there b k (subst (λ n. k < n) (sym first.count) (slice_get_within a k was before)) in
      extends_on was.group mid.0.group is.group (first.each k was mid.0 before mid.1) (second.each k mid.0 is mid.1 after);
}

-- one chunk is extended
pub lengthens_one : (chunks : List ChunkRun) (k : ℕ) (c d : ChunkRun) → slice_get chunks k ≡ Some c → Extends c.group d.group → Lengthens chunks (slice_set chunks k d)
lengthens_one chunks k c d there extends = record {
  count = set_length chunks k d;
  each = λ j was is before after. elim (set_cases chunks k d j is after) [
    | inl here ↦
        let same : c ≡ was = same_Some c was (sym there ∙ ap (slice_get chunks) (sym here.0) ∙ before) in
        subst (λ (x : ChunkRun). Extends x.group is.group) same (subst (λ (x : ChunkRun). Extends c.group x.group) here.1 extends)
    | inr elsewhere ↦ subst (λ (x : ChunkRun). Extends was.group x.group) (same_Some was is (sym before ∙ elsewhere.1)) (extends_refl was.group)
  ];
}

asked_extends : (c : ChunkRun) (m : ℕ) (ask : Ask) (at : Option PortIs) → Extends c.group (asked_at c m ask at).group
asked_extends c m ask None = extends_refl c.group
asked_extends c m ask (Some p) = extends_refl c.group

asked_lengthens : (chunks : List ChunkRun) (k m : ℕ) (ask : Ask) (at : Option ChunkRun) → slice_get chunks k ≡ at → Lengthens chunks (with_run chunks k (run_after at (λ c. port_asked c m ask)))
asked_lengthens chunks k m ask None there = lengthens_refl chunks
asked_lengthens chunks k m ask (Some c) there = lengthens_one chunks k c (port_asked c m ask) there (asked_extends c m ask (slice_get c.ports m))

pub put_lengthens : (chunks : List ChunkRun) (group : Option ℕ) (m : ℕ) (ask : Ask) → Lengthens chunks (put_at chunks group m ask)
put_lengthens chunks None m ask = lengthens_refl chunks
put_lengthens chunks (Some k) m ask = asked_lengthens chunks k m ask (slice_get chunks k) refl

drove_at : (halts : List Halt) (chunks : List ChunkRun) (m k : ℕ) (at : Option ChunkRun) → slice_get chunks k ≡ at → Lengthens chunks (drove_of halts chunks m k at).chunks
drove_at halts chunks m k None there = lengthens_refl chunks
drove_at halts chunks m k (Some c) there = lengthens_one chunks k c (driven halts c m).chunk there (driven_extends halts c m)

pub drove_lengthens : (halts : List Halt) (chunks : List ChunkRun) (m k : ℕ) → Lengthens chunks (drove halts chunks m k).chunks
drove_lengthens halts chunks m k = drove_at halts chunks m k (slice_get chunks k) refl
