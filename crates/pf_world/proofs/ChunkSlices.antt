-- The chunks of a world are handed on as a slice, with its hosts, and come back.
use Rattle.std.proofs.Common.{◌≡◌, ℕ, List, ◌++◌, length, drop, take, Option, sym, ap, subst, ◌∙◌, arith}
use Rattle.std.proofs.lemmas.List.{append-nil}
use Rattle.std.proofs.Math.ListN.{drop_of_length-le}
use Rattle.std.proofs.Math.Seq.{take-length}
use Rattle.pf_live_session.specs.pf_chunk.specs.Views.{ChunkIs}
use Rattle.pf_world_hosts.specs.pf_world_moments.specs.Steps.{AreReady}
use Rattle.pf_world_hosts.specs.Steps.{FleetIs}
use Rattle.pf_live_session.specs.pf_live_line.specs.declared.opening.Passes.{Passes}
use Rattle.pf_world.specs.declared.kind.Kind.{Kind}
use Rattle.pf_world.specs.Views.{IsWorld, WorldIs}
use Rattle.pf_world.proofs.VolumeEvents.{becomes, chunks_ready}

-- a slice of all items that was written over
pub handed_back : {X : Type 0} (new items : List X) (len : ℕ) → length new ≡ length items → len ≡ length items → take len (new ++ drop (length new) items) ≡ new
handed_back new items len same all =
    ap (λ rest. take len (new ++ rest)) (drop_of_length-le items (omega (arith, same)))
    ∙ ap (take len) (append-nil new)
    ∙ ap (λ n. take n new) (all ∙ sym same)
    ∙ take-length new

module _ (sectors names format : ℕ) (items : List ChunkIs) (fleet : FleetIs) (moves : ℕ) (kind : Option Kind) (passes : Option Passes) (old : WorldIs) (same : record { sectors = sectors; names = names; format = format; chunks = items; fleet = fleet; moves = moves; kind = kind; passes = passes } ≡ old) where
  module _ (slice : List ChunkIs) (is : slice ≡ items) where
    chunks_are : slice ≡ old.chunks
    chunks_are = is ∙ ap (λ (w : WorldIs). w.chunks) same

    fleet_is : fleet ≡ old.fleet
    fleet_is = ap (λ (w : WorldIs). w.fleet) same

    pub ready_given : IsWorld old → AreReady slice
    ready_given world = subst AreReady (sym chunks_are) (chunks_ready old world)

    -- what holds of the slice and the hosts holds of those of the world
    pub of_world : (P : List ChunkIs → FleetIs → Type 0) → P slice fleet → P old.chunks old.fleet
    of_world P p = subst (P old.chunks) fleet_is (subst (λ cs. P cs fleet) chunks_are p)

  -- the world with what came back
  pub lands : (len : ℕ) (chunks : List ChunkIs) (next : FleetIs) (then : Option Kind) → len ≡ length items → length chunks ≡ length items
      → becomes old chunks next then ≡ record { sectors = sectors; names = names; format = format; chunks = take len (chunks ++ drop (length chunks) items); fleet = next; moves = moves; kind = then; passes = passes }
  lands len chunks next then all count =
      ap (λ (w : WorldIs). becomes w chunks next then) (sym same)
      ∙ ap (λ cs. let w : WorldIs = record { sectors = sectors; names = names; format = format; chunks = cs; fleet = next; moves = moves; kind = then; passes = passes } in w) (sym (handed_back chunks items len count all))

  -- with the kind of before
  pub comes_back : (len : ℕ) (chunks : List ChunkIs) (next : FleetIs) → len ≡ length items → length chunks ≡ length old.chunks
      → becomes old chunks next old.kind ≡ record { sectors = sectors; names = names; format = format; chunks = take len (chunks ++ drop (length chunks) items); fleet = next; moves = moves; kind = kind; passes = passes }
  comes_back len chunks next all count =
      ap (becomes old chunks next) (sym (ap (λ (w : WorldIs). w.kind) same)) ∙ lands len chunks next kind all (count ∙ ap (λ (w : WorldIs). length w.chunks) (sym same))
