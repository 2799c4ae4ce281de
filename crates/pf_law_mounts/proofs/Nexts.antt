-- What one host does next, over what is known of the run.
use Rattle.std.proofs.Common.{◌≡◌, ◌≢◌, ℕ, ◌+◌, ◌<◌, ◌≤◌, inl, inr, ◌==◌, if◌then◌else◌, List, [], ◌∷◌, ◌++◌, length, Some, slice_get, slice_set, arith, refl, sym, ap, subst, ◌∙◌, append-nil}
use Rattle.pf_journal.specs.declared.layouts.Layout.{Layout}
use Rattle.std.proofs.lemmas.Bool.{cases_eq, eqb-false, eqb-true}
use Rattle.std.proofs.lemmas.List.{append_assoc}
use Rattle.std.proofs.lemmas.Option.{same_Some}
use Rattle.pf_entry.specs.Lists.{Every}
use Rattle.pf_entry.proofs.Cases.{by_test}
use Rattle.pf_law_runs.specs.pf_group_network.proofs.Lists.{set_elsewhere, set_length, set_there}
use Rattle.pf_volume.specs.Volumes.{Extent}
use Rattle.pf_law_positions.specs.Deeds.{Deed}
use Rattle.pf_law_positions.specs.PortDeeds.{no_deed}
use Rattle.pf_law_runs.specs.pf_law_service.specs.Services.{Service, but}
use Rattle.pf_law_runs.specs.pf_law_service.specs.Served.{AreLegal, ChunkIsServed, Passes}
use Rattle.pf_law_calls.specs.Lives.{MountTold, lives}
use Rattle.pf_law_events.specs.Events.{MountsAreServed, Happening, port_events, mounts_told}
use Rattle.pf_law_homes.specs.Ports.{deeds_on}
use Rattle.pf_law_calls.specs.Spelled.{CanAllBeSpelled}
use Rattle.pf_law_calls.specs.Trees.{calls_of}
use Rattle.pf_law_runs.specs.pf_world.specs.pf_chunk.specs.Runs.{ChunkRun, mover_port}
use Rattle.pf_law_runs.specs.pf_world.specs.pf_world_moments.specs.Moments.{Hands, Moment}
use Rattle.pf_law_runs.specs.pf_world.specs.pf_mount_host.specs.Hosts.{HostIs, mount_number}
use Rattle.pf_law_runs.specs.pf_world.specs.pf_world_hosts.specs.Volumes.{VolumeRun, host_at}
use Rattle.pf_law_runs.specs.pf_world.specs.pf_world_hosts.specs.Volumes as volumes
use Rattle.pf_law_runs.specs.pf_law_movers.specs.Epochs.{group_of_epoch}
use Rattle.pf_law_runs.specs.pf_law_movers.proofs.ToldRoutes.{IsStill}
use Rattle.pf_law_mounts.specs.Told.{inputs_in}
use Rattle.pf_law_mounts.proofs.Causes.{causes_on, inputs_on}
use Rattle.pf_law_mounts.proofs.Ends.{deeds_then, told_more}
use Rattle.pf_law_mounts.proofs.HostMounts.{host_still}
use Rattle.pf_law_mounts.proofs.Known.{IsHandedBy, IsHostOf, IsKnown, IsServing, deeds_by, owed_of}
use Rattle.pf_law_mounts.proofs.ServiceGrowth.{IsNoHanding, IsNoMovers, IsOp, apart_still, serving_elsewhere, serving_here, serving_still}
use Rattle.pf_law_mounts.proofs.MomentTells.{IsAsTold, IsIdle, Tells, told_idly}

-- a happening is one of this mount: it leaves what is known of the others, and so many calls begin by it
pub record IsBy (layout : Layout) (e : Extent) (hs : List Happening) (m : ℕ) (x : Happening) (more : ℕ) : Type 0 where
  pub life : (n : ℕ) → n ≢ m → lives layout e (mounts_told (hs ++ x ∷ [])) n ≡ lives layout e (mounts_told hs) n
  pub owed : (n port : ℕ) → n ≢ m → owed_of layout e (hs ++ x ∷ []) n port ≡ owed_of layout e hs n port
  pub spelled : CanAllBeSpelled (mounts_told hs) → CanAllBeSpelled (mounts_told (hs ++ x ∷ []))
  pub begins : (n : ℕ) → length (calls_of (mounts_told (hs ++ x ∷ [])) n) ≤ length (calls_of (mounts_told hs) n) + more

module _ (calls : ℕ) (v : VolumeRun) (m : ℕ) (inside : m < length v.hosts) where
  abbrev e : Extent
  e = v.extent

  -- the run with these groups and this host
  abbrev pub run_with : List ChunkRun → HostIs → VolumeRun
  run_with chunks host = record v { chunks = chunks; hosts = slice_set v.hosts m (Some host) }

  abbrev pub KnownWith : List ChunkRun → HostIs → List Moment → Type 0
  KnownWith chunks host told = IsKnown calls (run_with chunks host) told

  -- with so many calls
  abbrev pub KnownThen : (after : ℕ) → List ChunkRun → HostIs → List Moment → Type 0
  KnownThen after chunks host told = IsKnown after (run_with chunks host) told

  its_there : (host : HostIs) → host_at (slice_set v.hosts m (Some host)) m ≡ Some host
  its_there host = ap volumes.there (set_there v.hosts m (Some host) inside)

  others_there : (host : HostIs) (n : ℕ) → n ≢ m → host_at (slice_set v.hosts m (Some host)) n ≡ host_at v.hosts n
  others_there host n apart = ap volumes.there (set_elsewhere v.hosts m n (Some host) apart)

  module _ (chunks : List ChunkRun) (host : HostIs) (told : List Moment) (is : KnownWith chunks host told) where
    abbrev hs : List Happening
    hs = is.happenings

    pub its_host : IsHostOf v.layout e is.service (owed_of v.layout e is.happenings m) (lives v.layout e (mounts_told is.happenings) m) m host
    its_host = is.host_so m host (its_there host)

    -- by what was told
    pub its_mount : (lives v.layout e (inputs_in told) (mount_number host.mount)).mount ≡ host.mount
    its_mount = ap (λ n. (lives v.layout e (inputs_in told) n).mount) its_host.number ∙ ap (λ (its : List MountTold). (lives v.layout e its m).mount) (sym is.told_are) ∙ sym its_host.mount

    pub number_low : m < 16
    number_low = let few = is.few in omega (arith, few, inside, set_length v.hosts m (Some host))

    -- Something happens

    module _ (x : Happening) (begun : ℕ) (by : IsBy v.layout e is.happenings m x begun) (late : ℕ) (few : calls + begun ≤ late) (new : List ChunkRun) (next : HostIs) (more : List Moment) (still : Every IsStill more) (tells : Tells v.layout v.extent told x more) (service : ℕ → Service) (adds : ℕ → List Deed) where
      abbrev all : List Happening
      all = hs ++ x ∷ []

      abbrev IsNext : Type 0
      IsNext = IsHostOf v.layout e service (owed_of v.layout e all m) (lives v.layout e (mounts_told all) m) m next

      module _ (ports : (chunk n : ℕ) → n ≢ m → (service chunk).port n ≡ (is.service chunk).port n) (owed : (chunk n : ℕ) → n ≢ m → (service chunk).owed n ≡ (is.service chunk).owed n) (its : IsNext) where
        all_hosts : (n : ℕ) (h : HostIs) → host_at (slice_set v.hosts m (Some next)) n ≡ Some h → IsHostOf v.layout e service (owed_of v.layout e all n) (lives v.layout e (mounts_told all) n) n h
        all_hosts n h at = elim (cases_eq n m) [
          | inl same ↦
              let one : next ≡ h = same_Some next h (sym (its_there next) ∙ ap (host_at (slice_set v.hosts m (Some next))) (sym same) ∙ at) in
              subst (λ i. IsHostOf v.layout e service (owed_of v.layout e all i) (lives v.layout e (mounts_told all) i) i h) (sym same) (subst (IsHostOf v.layout e service (owed_of v.layout e all m) (lives v.layout e (mounts_told all) m) m) one its)
          | inr apart ↦
              host_still v.layout e is.service (owed_of v.layout e hs n) (lives v.layout e (mounts_told hs) n) n h (is.host_so n h (others_there host n apart ∙ sym (others_there next n apart) ∙ at)) service (owed_of v.layout e all n)
              (λ port. by.owed n port apart) (λ chunk. ap (λ p. p.ask) (ports chunk n apart)) (λ chunk. owed chunk n apart) (lives v.layout e (mounts_told all) n) (by.life n apart)
        ]

        pub known_next : ((chunk : ℕ) → chunk < e.chunks → ChunkIsServed chunk (service chunk) (is.deeds chunk ++ adds chunk))
            → ((chunk : ℕ) → chunk < e.chunks → adds chunk ≡ deeds_by v.layout e is.happenings x chunk)
            → ((chunk : ℕ) → chunk < e.chunks → IsServing new (told ++ more) chunk (service chunk) (is.deeds chunk ++ adds chunk))
            → (((chunk : ℕ) → chunk < e.chunks → AreLegal (service chunk)) → MountsAreServed v.layout e is.happenings → MountsAreServed v.layout e (is.happenings ++ x ∷ []))
            → ((chunk : ℕ) → chunk < e.chunks → AreLegal (service chunk) → AreLegal (is.service chunk))
            → KnownThen late new next (told ++ more)
        known_next served same serving answered legal =
            let few_hosts = is.few in
            let some : 0 < length (slice_set v.hosts m (Some host)) = omega (arith, inside, set_length v.hosts m (Some host)) in
            let count : length (slice_set v.hosts m (Some next)) ≡ length (slice_set v.hosts m (Some host)) = set_length v.hosts m (Some next) ∙ sym (set_length v.hosts m (Some host)) in
            let past : (n : ℕ) → length (slice_set v.hosts m (Some next)) ≤ n → n ≢ m = λ n low here. omega (arith, low, here, inside, set_length v.hosts m (Some next)) in
            let was : (n : ℕ) → length (slice_set v.hosts m (Some next)) ≤ n → length (slice_set v.hosts m (Some host)) ≤ n = λ n low. omega (arith, low, count) in record {
              happenings = all;
              service = service;
              deeds = λ chunk. is.deeds chunk ++ adds chunk;
              few = omega (arith, few_hosts, count);
              room = λ _. is.room some;
              anchors = is.anchors;
              none_yet = λ none. absurd (omega (arith, none, count, some));
              told_are = told_more hs (x ∷ []) ∙ ap (λ (its : List MountTold). its ++ mounts_told (x ∷ [])) is.told_are ∙ ap (λ (its : List MountTold). inputs_in told ++ its) (sym tells.inputs) ∙ sym (inputs_on told more);
              causes = causes_on v.layout e [] told more is.causes tells.causes;
              spelled = by.spelled is.spelled;
              few_calls = λ n. let begins = by.begins n in let were = is.few_calls n in omega (arith, begins, were, few);
              apart = apart_still e.chunks told more still is.apart;
              served = served;
              same = λ chunk small.
                  ap (λ (ds : List Deed). ds ++ adds chunk) (is.same chunk small) ∙ ap (λ (ds : List Deed). deeds_on (port_events v.layout e hs) chunk ++ ds) (same chunk small) ∙ sym (deeds_then v.layout e hs x chunk);
              serving_so = serving;
              host_so = all_hosts;
              fresh = λ n low. by.life n (past n low) ∙ is.fresh n (was n low);
              unasked = λ n chunk low small. ap (λ p. p.ask) (ports chunk n (past n low)) ∙ is.unasked n chunk (was n low) small;
              unowed = λ n port low. by.owed n port (past n low) ∙ is.unowed n port (was n low);
              answered = λ legal_now. answered legal_now (is.answered (λ chunk small. legal chunk small (legal_now chunk small)));
            }

    -- nothing is asked of any chunk, or answered there
    abbrev pub idle_deeds : List Deed
    idle_deeds = no_deed ∷ no_deed ∷ []

    pub idle_served : (chunk : ℕ) (s : Service) (ds : List Deed) → ChunkIsServed chunk s ds → ChunkIsServed chunk s (ds ++ (no_deed ∷ no_deed ∷ []))
    idle_served chunk s ds its = subst (ChunkIsServed chunk s) (append_assoc ds (no_deed ∷ []) (no_deed ∷ [])) (Passes s (ds ++ no_deed ∷ []) (Passes s ds its))

    module _ (x : Happening) (begun : ℕ) (by : IsBy v.layout e is.happenings m x begun) (late : ℕ) (few : calls + begun ≤ late) (next : HostIs) (more : List Moment) (still : Every IsStill more) (tells : Tells v.layout v.extent told x more) (none : IsNoHanding more) where
      abbrev now_hs : List Happening
      now_hs = hs ++ x ∷ []

      pub known_idly : IsHostOf v.layout e is.service (owed_of v.layout e (is.happenings ++ x ∷ []) m) (lives v.layout e (mounts_told (is.happenings ++ x ∷ [])) m) m next
          → ((chunk : ℕ) → chunk < e.chunks → idle_deeds ≡ deeds_by v.layout e is.happenings x chunk)
          → (((chunk : ℕ) → chunk < e.chunks → AreLegal (is.service chunk)) → MountsAreServed v.layout e is.happenings → MountsAreServed v.layout e (is.happenings ++ x ∷ []))
          → KnownThen late chunks next (told ++ more)
      known_idly its same answered =
          known_next x begun by late few chunks next more still tells is.service (λ chunk. idle_deeds) (λ chunk n apart. refl) (λ chunk n apart. refl) its
          (λ chunk small. idle_served chunk (is.service chunk) (is.deeds chunk) (is.served chunk small))
          same
          (λ chunk small. serving_still chunks told more still none chunk (is.service chunk) (is.deeds chunk) idle_deeds (is.serving_so chunk small))
          answered
          (λ chunk small legal. legal)

    -- Lines are told, and nothing happens

    module _ (more : List Moment) (still : Every IsStill more) (idle : Every IsIdle more) (none : IsNoHanding more) where
      same : IsAsTold told (told ++ more)
      same = told_idly told more idle

      pub known_still : KnownWith chunks host (told ++ more)
      known_still = record {
        happenings = hs;
        service = is.service;
        deeds = is.deeds;
        few = is.few;
        room = is.room;
        anchors = is.anchors;
        none_yet = is.none_yet;
        told_are = is.told_are ∙ sym same.inputs;
        causes = same.causes v.layout e is.causes;
        spelled = is.spelled;
        few_calls = is.few_calls;
        apart = apart_still e.chunks told more still is.apart;
        served = is.served;
        same = is.same;
        serving_so = λ chunk small.
            subst (IsServing chunks (told ++ more) chunk (is.service chunk)) (append-nil (is.deeds chunk)) (serving_still chunks told more still none chunk (is.service chunk) (is.deeds chunk) [] (is.serving_so chunk small));
        host_so = is.host_so;
        fresh = is.fresh;
        unasked = is.unasked;
        unowed = is.unowed;
        answered = is.answered;
      }

    -- A step of the mount's port into the group that has the asks for a chunk

    module _ (c0 : ℕ) (small0 : c0 < v.extent.chunks) (k : ℕ) (c d : ChunkRun) (there : slice_get chunks k ≡ Some c) (t : Service) (o : IsOp m c d (is.service c0) t) (at : group_of_epoch told c0 (is.service c0).epoch ≡ Some k)
        (x : Happening) (by : IsBy v.layout e is.happenings m x 0) (next : HostIs) (more : List Moment) (still : Every IsStill more) (tells : Tells v.layout v.extent told x more) (no_movers : IsNoMovers more)
        (own other : List Deed) (of_group : (j n g place : ℕ) → slice_get more j ≡ Some (Hands n g place) → g ≡ k)
        (news : (j n g place epoch : ℕ) → slice_get more j ≡ Some (Hands n g place) → n < mover_port → epoch ≤ (is.service c0).epoch → group_of_epoch told c0 epoch ≡ Some g → IsHandedBy c0 epoch place (is.deeds c0 ++ own)) where
      abbrev service : ℕ → Service
      service = but is.service c0 t

      abbrev adds : ℕ → List Deed
      adds chunk = if chunk == c0 then own else other

      serving_all : (chunk : ℕ) → chunk < e.chunks → IsServing (slice_set chunks k d) (told ++ more) chunk (service chunk) (is.deeds chunk ++ adds chunk)
      serving_all chunk small =
          by_test (chunk == c0) (λ b. IsServing (slice_set chunks k d) (told ++ more) chunk (if b then t else is.service chunk) (is.deeds chunk ++ (if b then own else other)))
          (λ same. subst (λ i. IsServing (slice_set chunks k d) (told ++ more) i t (is.deeds i ++ own)) (sym (eqb-true chunk c0 same))
          (serving_here e.chunks chunks told more still no_movers is.apart k c d there c0 small0 m (is.service c0) t o (is.deeds c0) own (is.serving_so c0 small0) at news))
          (λ away. serving_elsewhere e.chunks chunks told more still no_movers is.apart k c d there c0 chunk (is.service c0).epoch small0 small (eqb-false chunk c0 away) at (is.service chunk) (is.deeds chunk) other (is.serving_so chunk small) of_group)

      ports : (chunk n : ℕ) → n ≢ m → (service chunk).port n ≡ (is.service chunk).port n
      ports chunk n apart =
          by_test (chunk == c0) (λ b. (if b then t else is.service chunk).port n ≡ (is.service chunk).port n)
          (λ same. o.ports n apart ∙ ap (λ i. (is.service i).port n) (sym (eqb-true chunk c0 same))) (λ _. refl)

      owed : (chunk n : ℕ) → n ≢ m → (service chunk).owed n ≡ (is.service chunk).owed n
      owed chunk n apart =
          by_test (chunk == c0) (λ b. (if b then t else is.service chunk).owed n ≡ (is.service chunk).owed n)
          (λ same. o.owed n apart ∙ ap (λ i. (is.service i).owed n) (sym (eqb-true chunk c0 same))) (λ _. refl)

      legal_before : (chunk : ℕ) → AreLegal (service chunk) → AreLegal (is.service chunk)
      legal_before chunk =
          by_test (chunk == c0) (λ b. AreLegal (if b then t else is.service chunk) → AreLegal (is.service chunk))
          (λ same legal. subst (λ i. AreLegal (is.service i)) (sym (eqb-true chunk c0 same)) (o.legal legal)) (λ _ legal. legal)

      pub known_op : ChunkIsServed c0 t (is.deeds c0 ++ own) → ((chunk : ℕ) → chunk < e.chunks → ChunkIsServed chunk (is.service chunk) (is.deeds chunk ++ other))
          → IsHostOf v.layout e (but is.service c0 t) (owed_of v.layout e (is.happenings ++ x ∷ []) m) (lives v.layout e (mounts_told (is.happenings ++ x ∷ [])) m) m next
          → ((chunk : ℕ) → chunk < e.chunks → (if chunk == c0 then own else other) ≡ deeds_by v.layout e is.happenings x chunk)
          → (AreLegal (is.service c0) → MountsAreServed v.layout e is.happenings → MountsAreServed v.layout e (is.happenings ++ x ∷ []))
          → KnownWith (slice_set chunks k d) next (told ++ more)
      known_op served others its same answered =
          known_next x 0 by calls (omega arith) (slice_set chunks k d) next more still tells service adds ports owed its
          (λ chunk small. by_test (chunk == c0) (λ b. ChunkIsServed chunk (if b then t else is.service chunk) (is.deeds chunk ++ (if b then own else other)))
          (λ one. subst (λ i. ChunkIsServed i t (is.deeds i ++ own)) (sym (eqb-true chunk c0 one)) served) (λ _. others chunk small))
          same serving_all
          (λ legal. answered (legal_before c0 (legal c0 small0)))
          (λ chunk small. legal_before chunk)
