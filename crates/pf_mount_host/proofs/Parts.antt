-- Parts of a step of a host over a layout, one after another.
use Rattle.std.proofs.Common.{◌≡◌, ℕ, ◌<◌, List, ◌++◌, Some, slice_get, append_assoc, refl, sym, ap, subst, ◌∙◌}
use Rattle.std.proofs.lemmas.List.{length-map}
use Rattle.std.proofs.lemmas.Option.{same_Some, slice_get_within}
use Rattle.pf_world_moments.specs.pf_group_network.proofs.Lists.{something_there}
use Rattle.pf_world_moments.specs.pf_group_rounds.specs.Growing.{HasGrown}
use Rattle.pf_world_moments.specs.pf_group_rounds.specs.Halts.{Halt}
use Rattle.pf_world_moments.specs.pf_group_rounds.proofs.GroupGrowth.{grown_refl, grown_tells, grown_trans}
use Rattle.pf_world_moments.specs.pf_chunk.specs.Runs.{ChunkRun}
use Rattle.pf_world_moments.specs.pf_chunk.specs.Views.{ChunkIs, run_of}
use Rattle.pf_move.specs.Routes.{AreRouted, RoutesIs}
use Rattle.pf_world_moments.specs.Moments.{moments_text}
use Rattle.pf_world_moments.specs.Steps.{HaveBegun, HaveGone, HaveGrown, TellsAll, chunk_runs}
use Rattle.pf_world_moments.proofs.Groups.{all_begun, begun_on, run_there}
use Rattle.pf_world_moments.proofs.HistoryGrowth.{Lengthens, lengthens_refl}
use Rattle.pf_world_moments.proofs.PortSteps.{gone_grown, gone_tells, gone_trans, told_both}
use Rattle.pf_mount_host.specs.Hosts.{HostIs, Stepped, host_followed, mount_number}
use Rattle.pf_mount_host.specs.Steps.{AreReadyFor, HasDone, HasNotDone, HostPart}

-- Groups grow

pub grown_refl_all : (chunks : List ChunkIs) → HaveGrown chunks chunks
grown_refl_all chunks = record { count = refl; each = λ k x y at to. subst (λ (z : ChunkIs). HasGrown x.group z.group) (same_Some x y (sym at ∙ to)) (grown_refl x.group) }

-- the chunk in between
between : (a b : List ChunkIs) → HaveGrown a b → (k : ℕ) (x : ChunkIs) → slice_get a k ≡ Some x → (y : ChunkIs) × (slice_get b k ≡ Some y)
between a b grown k x at = something_there b k (subst (λ n. k < n) (sym grown.count) (slice_get_within a k x at))

grown_trans_all : (a b c : List ChunkIs) → HaveGrown a b → HaveGrown b c → HaveGrown a c
grown_trans_all a b c first second = record {
  count = second.count ∙ first.count;
  each = λ k x z at to.
      let mid = between a b first k x at in
      grown_trans x.group mid.0.group z.group (first.each k x mid.0 at mid.1) (second.each k mid.0 z mid.1 to);
}

tells_before : (halts : List Halt) (a b : List ChunkIs) → HaveGrown a b → TellsAll halts b → TellsAll halts a
tells_before halts a b grown tells k x at =
    let after = between a b grown k x at in
    grown_tells halts x.group after.0.group (grown.each k x after.0 at after.1) (tells k after.0 after.1)

-- a beginning of what would have come to these chunks is one of what comes after
begun_through : (halts : List Halt) (old mid new : List ChunkIs) (would later : List ChunkRun) → HaveGrown old mid → HaveBegun halts mid would new → Lengthens would later → HaveBegun halts old later new
begun_through halts old mid new would later grown begun longer = record {
  count = longer.count ∙ begun.count;
  each = λ k x y run at to there.
      let mid_one = between old mid grown k x at in
      let first = something_there would k (subst (λ n. k < n) longer.count (slice_get_within later k run there)) in
      begun_on halts x.group mid_one.0.group y.group first.0.group run.group (grown.each k x mid_one.0 at mid_one.1) (longer.each k first.0 run first.1 there)
      (begun.each k mid_one.0 y first.0 mid_one.1 to first.1);
}

-- each stands at a whole beginning
pub all_stand : (halts : List Halt) (old mid : List ChunkIs) (would : List ChunkRun) → TellsAll halts mid → HaveGrown old mid → Lengthens (chunk_runs halts mid) would → HaveBegun halts old would mid
all_stand halts old mid would tells grown longer = record {
  count = longer.count ∙ length-map mid (run_of halts);
  each = λ k x y run at to there.
      all_begun halts x.group y.group run.group (tells k y to) (grown.each k x y at to) (longer.each k (run_of halts y) run (run_there halts mid k y to) there);
}

-- Parts

-- the groups and the host are ready for the next part
pub ready_on : (p : HostPart) (r : RoutesIs) (a b : List ChunkIs) (x y : List ℕ) (f g : HostIs) → AreReadyFor r a f → HasDone p r a x f b y g → AreReadyFor r b g
ready_on p r a b x y f g ready done = record {
  ready = done.ready;
  routed = subst (λ n. AreRouted n r) (sym done.gone.count) ready.routed;
  is_host = done.is_host;
}

abbrev pub then_part : HostPart → HostPart → HostPart
then_part p q halts routes chunks host = host_followed (p halts routes chunks host) (q halts routes)

-- what a part does only adds to histories
abbrev pub IsLonger : HostPart → Type 0
IsLonger p = (halts : List Halt) (routes : RoutesIs) (chunks : List ChunkRun) (host : HostIs) → Lengthens chunks (p halts routes chunks host).chunks

module _ (p : HostPart) (r : RoutesIs) (a b : List ChunkIs) (f : HostIs) where
  -- nothing of it was done
  pub none_done : IsLonger p → b ≡ a → HasNotDone p r a f b
  none_done longer same = subst (HasNotDone p r a f) (sym same) (record {
    grown = grown_refl_all a;
    begun = λ halts tells. all_stand halts a a (p halts r (chunk_runs halts a) f).chunks tells (grown_refl_all a) (longer halts r (chunk_runs halts a) f);
  })

  -- there was no memory for it: what would have followed only adds to histories
  pub not_then : (q : HostPart) → HasNotDone p r a f b → IsLonger q → HasNotDone (then_part p q) r a f b
  not_then q first longer = record {
    grown = first.grown;
    begun = λ halts tells.
        let s : Stepped = p halts r (chunk_runs halts a) f in
        begun_through halts a a b s.chunks (q halts r s.chunks s.host).chunks (grown_refl_all a) (first.begun halts tells) (longer halts r s.chunks s.host);
  }

  module _ (x y : List ℕ) (g : HostIs) (first : HasDone p r a x f b y g) where
    -- and then more was done
    pub went_on : (q : HostPart) (c : List ChunkIs) (z : List ℕ) (h : HostIs) → HasDone q r b y g c z h → HasDone (then_part p q) r a x f c z h
    went_on q c z h second = record {
      ready = second.ready;
      gone = gone_trans (mount_number f.mount) a b c first.gone (subst (λ n. HaveGone n b c) first.number second.gone);
      is_host = second.is_host;
      number = second.number ∙ first.number;
      layout = second.layout ∙ first.layout;
      volume = second.volume ∙ first.volume;
      calls = second.calls ∙ first.calls;
      told = first.told ++ second.told;
      put =
          second.put ∙ ap (λ text. text ++ moments_text second.told) first.put ∙ append_assoc x (moments_text first.told) (moments_text second.told)
          ∙ ap (λ text. x ++ text) (sym (told_both first.told second.told));
      run = λ halts tells.
          ap (λ (s : Stepped). host_followed s (q halts r)) (first.run halts (gone_tells halts (mount_number g.mount) b c second.gone tells))
          ∙ ap (λ (s : Stepped). record s { told = first.told ++ s.told }) (second.run halts tells);
    }

    -- for more there was no memory
    pub then_not : (q : HostPart) (c : List ChunkIs) → HasNotDone q r b g c → HasNotDone (then_part p q) r a f c
    then_not q c second = record {
      grown = grown_trans_all a b c (gone_grown (mount_number f.mount) a b first.gone) second.grown;
      begun = λ halts tells.
          let would : List ChunkRun = (q halts r (chunk_runs halts b) g).chunks in
          subst (λ (s : Stepped). HaveBegun halts a (host_followed s (q halts r)).chunks c) (sym (first.run halts (tells_before halts b c second.grown tells)))
          (begun_through halts a b c would would (gone_grown (mount_number f.mount) a b first.gone) (second.begun halts tells) (lengthens_refl would));
    }
